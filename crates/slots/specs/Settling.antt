-- The slots of an area settled, one after another.
use Rattle.std.specs.Prelude.{ℕ, zero, suc, ◌+◌, ◌*◌, ◌<◌, ◌≤◌, ◌≡◌, refl, true, false, ◌&&◌, cond, List, eqb, ltb}
use Rattle.std.proofs.Math.Path.{ap, sym, fun_ext}
use Rattle.std.proofs.Common.{ap₂, ◌∙◌, arith}
use Rattle.std.proofs.Math.ListN.{length}
use borrow.Author.Tests.{ltb-true, ltb-false, lt-ltb, le-ltb, eq-eqb, ne_eqb, eqb-true, eqb-false}
use Rattle.meaning.specs.Sets.{◌⊕◌, Set, Slots}
use Rattle.meaning.specs.Workspace.{has, words_for}
use Rattle.theory.specs.Truth.{on, off, test, less, same, more, order, clash}
use Rattle.theory.specs.Search.{and_right}
use Rattle.theory.specs.Words.{Words}
use Rattle.theory.specs.Contents.{slot_words}
use Rattle.theory.specs.Postponed.{settled-reduced, settled-pending, settled-none, settled-added, settled-index, added, added-skip, part_low, part-full}
use Rattle.words.specs.Next.{Next}
use Rattle.slots.specs.Area.{slot_at, slots_in, slot_put, slot_has, slot-set, slot-in, put_same, put_other, area-is, LedArea, led-area}
use Rattle.slots.specs.Waiting.{Indexes, indexes-cover, Waiting, settled_in}

-- Slot i as settling leaves it: a pending one stays; to another each pending slot is added whose index it has.
unfoldable pub settled_slot : ℕ → Set → Slots → ℕ → Set
settled_slot n P S i f = cond (P i) (S i f) (added S (λ k. S i k && P k) n (S i) f)

-- ---- one slot

-- Slots that agree where they are added.
added-along : (S S' : Slots) (own d : Set) → ((k : ℕ) → own k ≡ true → (f : ℕ) → S k f ≡ S' k f) → (n : ℕ) (f : ℕ) → added S own n d f ≡ added S' own n d f
unfolding added
added-along S S' own d h zero f = refl
added-along S S' own d h (suc n) f = ap₂ ◌⊕◌ (added-along S S' own d h n f) (elim (test (own n)) [ on e ↦ rw (e, h n e f) | off e ↦ rw e ])

-- Slot i of an area as settling leaves it, and the others as they are.
abbrev pub SlotSettled : ℕ → List ℕ → List ℕ → ℕ → List ℕ → Type 0
SlotSettled n pending area i area' = (j f : ℕ) → j < n → has (slot_at (words_for n) area' j) f ≡ cond (eqb j i) (settled_slot n (has pending) (slots_in n area) i f) (slots_in n area j f)

module _ (n : ℕ) (pending area : List ℕ) (i : ℕ) (l : i < n) where
  stays : ((f : ℕ) → slots_in n area i f ≡ settled_slot n (has pending) (slots_in n area) i f) → SlotSettled n pending area i area
  stays h j f k = sym (slot_has n j area f k) ∙ elim (test (eqb j i)) [ on t ↦ rw (t, eqb-true j i t) (h f) | off t ↦ rw t ]

  -- It has no pending index.
  unshared : ((k : ℕ) → k < n → (slots_in n area i k && has pending k) ≡ false) → SlotSettled n pending area i area
  unfolding settled_slot added
  unshared none = stays (λ f. elim (test (has pending i)) [
    | on e ↦ rw e
    | off e ↦ rw e (sym (added-skip (slots_in n area) (λ k. slots_in n area i k && has pending k) (slots_in n area i) 0 n (omega arith) (λ k j h. none k h) f))
  ])

  -- It is pending.
  pub pending-stays : has pending i ≡ true → SlotSettled n pending area i area
  unfolding settled_slot
  pending-stays e = stays (λ f. rw e)

  -- It is empty.
  pub empty-stays : (full : List ℕ) → LedArea n area → Indexes (slots_in n area) full → has full i ≡ false → SlotSettled n pending area i area
  empty-stays full led full-are e = unshared (λ k h. elim (test (slots_in n area i k)) [
    | on t ↦ absurd (clash (indexes-cover n full area led full-are i k t) e)
    | off t ↦ rw t
  ])

  module _ (slot : List ℕ) (is : slot ≡ slot_at (words_for n) area i) where
    slot_is : has slot ≡ slots_in n area i
    slot_is = ap has is ∙ slot-set n i area l

    -- From its index on it shares nothing with the pending ones.
    pub apart-stays : (bits p : ℕ) → n ≤ p → LedArea n area → Next (λ f. has slot f && has pending f) bits i p → SlotSettled n pending area i area
    apart-stays bits p m led h = unshared (λ k j. elim (test (ltb k i)) [
      | on t ↦ rw (slot_has n i area k l, (led.each i l).low k (ltb-true k i t))
      | off t ↦ rw (← slot_is) (h.clear k (ltb-false k i t) (omega arith))
    ])

    -- The sum is written in its place.
    pub written_back : (row sum area' : List ℕ) → length area ≡ n * words_for n → has pending i ≡ false → row ≡ slot
        → ((f : ℕ) → has sum f ≡ added (slots_in n area) (λ k. has slot k && has pending k) n (has row) f)
        → length sum ≡ words_for n → area' ≡ slot_put (length sum) area i sum → SlotSettled n pending area i area'
    unfolding settled_slot
    written_back row sum area' long e r h y q j f k = rw (q, y) (elim (test (eqb j i)) [
      | on t ↦ rw (t, eqb-true j i t, e, ← slot_is) (ap (λ s. has s f) (put_same (words_for n) i area sum y room) ∙ h f
          ∙ ap (λ d. added (slots_in n area) (λ k. has slot k && has pending k) n d f) (ap has r))
      | off t ↦ rw t (ap (λ s. has s f) (put_other (words_for n) i area sum y room j (eqb-false j i t)) ∙ sym (slot_has n j area f k))
    ])
      where
        room : i * words_for n + words_for n ≤ length area
        room = omega (arith, slot-in (words_for n) i n l)

-- ---- one after another

-- The slots below i are settled.
pub record Settling (n : ℕ) (pending area : List ℕ) (i : ℕ) (area' row : List ℕ) : Type 0 where
  pub within : i ≤ n
  pub long : length area' ≡ length area
  pub room : length row ≡ words_for n
  pub words : Words area'
  pub each : (j f : ℕ) → j < n → has (slot_at (words_for n) area' j) f ≡ cond (ltb j i) (settled_in n pending area j f) (slots_in n area j f)

module _ (n : ℕ) (full pending area : List ℕ) (waiting : Waiting n full pending area) where
  pub settling-first : (row : List ℕ) → length row ≡ words_for n → Words area → Settling n pending area 0 area row
  settling-first row e w = record { within = omega arith; long = refl; room = e; words = w; each = λ j f l. sym (slot_has n j area f l) ∙ rw (le-ltb j 0 (omega arith)) }

  module _ (i : ℕ) (area' row : List ℕ) (t : Settling n pending area i area' row) where
    now : (j f : ℕ) → slots_in n area' j f ≡ cond (ltb j i) (settled_in n pending area j f) (slots_in n area j f)
    unfolding slots_in
    now j f = elim (test (ltb j n)) [
      | on l ↦ slot_has n j area' f (ltb-true j n l) ∙ t.each j f (ltb-true j n l)
      | off l ↦ rw (l, le-ltb j i (omega (arith, ltb-false j n l, t.within)))
    ]

    pub settling-led : LedArea n area'
    settling-led = led-area n area' waiting.few (t.long ∙ waiting.long)
        (λ j f k. now j f ∙ elim (test (ltb j i)) [ on e ↦ rw e ((settled-reduced waiting.part).low j f k) | off e ↦ rw e (part_low waiting.part j f k) ])
        (λ j f y. now j j ∙ elim (test (ltb j i)) [
          | on e ↦ rw e ((settled-reduced waiting.part).full j f (sym (now j f ∙ rw e) ∙ y))
          | off e ↦ rw e (part-full waiting.part j f (sym (now j f ∙ rw e) ∙ y))
        ])

    pub settling-indexes : Indexes (slots_in n area') full
    settling-indexes j = waiting.full-are j ∙ sym (now j j ∙ elim (test (ltb j i)) [ on e ↦ rw e (settled-index waiting.part j) | off e ↦ rw e ])

    -- The pending slots are those of before, and so is slot i.
    pending-kept : (k : ℕ) → has pending k ≡ true → (f : ℕ) → slots_in n area' k f ≡ slots_in n area k f
    pending-kept k e f = now k f ∙ elim (test (ltb k i)) [ on y ↦ rw y (settled-pending waiting.part k e f) | off y ↦ rw y ]

    own-kept : slots_in n area' i ≡ slots_in n area i
    own-kept = fun_ext (λ f. now i f ∙ rw (le-ltb i i (omega arith)))

    slot-done : (f : ℕ) → settled_slot n (has pending) (slots_in n area') i f ≡ settled_in n pending area i f
    unfolding settled_slot
    slot-done f = rw own-kept (elim (test (has pending i)) [
      | on e ↦ rw e (sym (settled-pending waiting.part i e f))
      | off e ↦ rw e (added-along (slots_in n area') (slots_in n area) _ _ (λ k y. pending-kept k (and_right (slots_in n area i k) (has pending k) y)) n f ∙ sym (settled-added waiting.part i e f))
    ])

    pub settling-next : (area'' row' : List ℕ) → i < n → length area'' ≡ length area' → length row' ≡ length row → Words area'' → SlotSettled n pending area' i area''
        → Settling n pending area (i + 1) area'' row'
    settling-next area'' row' l a r w s = record {
      within = omega arith;
      long = a ∙ t.long;
      room = r ∙ t.room;
      words = w;
      each = λ j f k. s j f k ∙ elim (order j i) [
        | less x ↦ rw (ne_eqb j i (omega arith), lt-ltb j (i + 1) (omega arith)) (now j f ∙ rw (lt-ltb j i x))
        | same q ↦ rw (eq-eqb j i q, q, lt-ltb i (i + 1) (omega arith)) (slot-done f)
        | more x ↦ rw (ne_eqb j i (omega arith), le-ltb j (i + 1) (omega arith)) (now j f ∙ rw (le-ltb j i (omega arith)))
      ];
    }

    pub settling-done : n ≤ i → area' ≡ slot_words n (settled_in n pending area)
    settling-done l = area-is n area' (t.long ∙ waiting.long) t.words (settled-reduced waiting.part) (λ j f k. t.each j f k ∙ rw (lt-ltb j i (omega arith)))

  -- Nothing is pending: the area has the words already.
  pub settled-already : Words area → ((f : ℕ) → has pending f ≡ false) → area ≡ slot_words n (settled_in n pending area)
  settled-already w none = area-is n area waiting.long w (settled-reduced waiting.part)
      (λ i f l. sym (slot_has n i area f l) ∙ ap (λ S. S i f) (sym (settled-none n (has pending) (slots_in n area) none)))
