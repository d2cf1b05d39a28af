-- The reduced shape, slot by slot, and how it is told.
use Rattle.std.specs.Prelude.{ℕ, ◌+◌, ◌-◌, ◌*◌, ◌/◌, ◌%◌, ◌^◌, ◌<◌, ◌≤◌, ◌≡◌, refl, ◌≢◌, Bool, true, false, ◌&&◌, List, eqb, ltb, length, get_or}
use Rattle.std.proofs.Common.{ap, ap₂, sym, ◌∙◌, true≢false, arith, lt_of_lt_of_le, lt_of_le_of_lt, div-le_self, pow_mono, ltb-true, ltb-false, eqb-true, eq-eqb}
use Rattle.std.proofs.Math.Bool.{and-false}
use Rattle.std.specs.Int.Bits.{bit_and, bit_or, and_lt, or_add_and}
use Rattle.std.proofs.lemmas.Nat.{and_le_l, and_le_r}
use Rattle.meaning.specs.Sets.{Set}
use Rattle.meaning.specs.Limits.{word_bits}
use Rattle.meaning.specs.Slot.{Reduced}
use Rattle.meaning.specs.Workspace.{bit, has, words_for}
use Rattle.theory.specs.Truth.{on, off, test, less, same, more, order, clash}
use Rattle.theory.specs.Search.{and_left}
use Rattle.theory.specs.Tells.{Tells, tells-map, tells-eq}
use Rattle.theory.specs.Words.{Words, bits-same, bit_past, has-at}
use Rattle.words.specs.Bits.{bit-none, bit-and, bit-shift}
use Rattle.words.specs.Next.{Clear, Next}
use Rattle.words.specs.Part.{has-past}
use Rattle.slots.specs.Area.{slot_at, slots_in, slot_has}

-- Two sets share no feature above i.
abbrev pub Apart : Set → Set → ℕ → Type 0
Apart a b i = (f : ℕ) → i < f → (a f && b f) ≡ false

-- Slot i beside the indices of the slots that are not empty: what the reduced shape asks of it.
pub record Shaped (n i : ℕ) (full slot : Set) : Type 0 where
  pub within : (f : ℕ) → slot f ≡ true → f < n
  pub low : (f : ℕ) → f < i → slot f ≡ false
  pub own : (f : ℕ) → slot f ≡ true → slot i ≡ true
  pub clear : (j : ℕ) → full j ≡ true → j ≢ i → slot j ≡ false

-- ---- what two lists of words share

-- The words in common are gathered in one, which is 0 while nothing is shared above i and before word j.
abbrev pub Gathered : List ℕ → List ℕ → ℕ → ℕ → ℕ → Type 0
Gathered a b i j common = Tells (eqb common 0) (Clear (λ f. has a f && has b f) (i + 1) (j * word_bits))

zero_bits : (x : ℕ) → x < 2 ^ word_bits → ((k : ℕ) → k < word_bits → bit x k ≡ false) → x ≡ 0
zero_bits x l h = bits-same word_bits x 0 l (omega arith) (λ k j. h k j ∙ sym (bit-none k))

or-zero : (x y : ℕ) → bit_or x y ≡ 0 → (x ≡ 0) × (y ≡ 0)
or-zero x y e = (omega (arith, or_add_and x y, and_le_l x y, and_le_r x y), omega (arith, or_add_and x y, and_le_l x y, and_le_r x y))

module _ (a b : List ℕ) (v : Words a) (w : Words b) where
  -- A bit of a word in common.
  both_at : (j k : ℕ) → k < word_bits → (has a (j * word_bits + k) && has b (j * word_bits + k)) ≡ bit (bit_and (get_or a j 0) (get_or b j 0)) k
  both_at j k l = ap₂ ◌&&◌ (has-at a j k l) (has-at b j k l) ∙ sym (bit-and (get_or a j 0) (get_or b j 0) k)

  both_small : (j : ℕ) → j < length a → j < length b → bit_and (get_or a j 0) (get_or b j 0) < 2 ^ word_bits
  both_small j l m = and_lt word_bits _ _ (v j l) (w j m)

  pub gathered-first : (i : ℕ) → i / word_bits < length a → i / word_bits < length b
      → Gathered a b i (i / word_bits + 1) (bit_and (get_or a (i / word_bits) 0) (get_or b (i / word_bits) 0) / 2 ^ (i % word_bits) / 2 ^ 1)
  gathered-first i l m = tells-map to from (tells-eq (x / 2 ^ (i % 64) / 2 ^ 1) 0)
    where
      x : ℕ
      x = bit_and (get_or a (i / 64) 0) (get_or b (i / 64) 0)

      shifted : (k : ℕ) → bit (x / 2 ^ (i % 64) / 2 ^ 1) k ≡ bit x (i % 64 + (1 + k))
      shifted k = bit-shift (x / 2 ^ (i % 64)) 1 k ∙ bit-shift x (i % 64) (1 + k)

      to : x / 2 ^ (i % 64) / 2 ^ 1 ≡ 0 → Clear (λ f. has a f && has b f) (i + 1) ((i / 64 + 1) * 64)
      to e f j k = let q : i / 64 * 64 + (i % 64 + (1 + (f - (i + 1)))) ≡ f = omega arith in
          ap (λ g. has a g && has b g) (sym q) ∙ both_at (i / 64) (i % 64 + (1 + (f - (i + 1)))) (omega arith) ∙ sym (shifted (f - (i + 1)))
          ∙ rw e (bit-none (f - (i + 1)))

      small : x / 2 ^ (i % 64) / 2 ^ 1 < 2 ^ word_bits
      small = lt_of_le_of_lt (div-le_self (x / 2 ^ (i % 64)) (2 ^ 1)) (lt_of_le_of_lt (div-le_self x (2 ^ (i % 64))) (both_small (i / 64) l m))

      from : Clear (λ f. has a f && has b f) (i + 1) ((i / 64 + 1) * 64) → x / 2 ^ (i % 64) / 2 ^ 1 ≡ 0
      from h = zero_bits (x / 2 ^ (i % 64) / 2 ^ 1) small (λ k j. shifted k ∙ elim (test (ltb (i % 64 + (1 + k)) 64)) [
        | on t ↦ let s : i % 64 + (1 + k) < 64 = ltb-true (i % 64 + (1 + k)) 64 t in
            sym (both_at (i / 64) (i % 64 + (1 + k)) s) ∙ h (i / 64 * 64 + (i % 64 + (1 + k))) (omega arith) (omega arith)
        | off t ↦ bit_past x (i % 64 + (1 + k)) (lt_of_lt_of_le (both_small (i / 64) l m) (pow_mono (ltb-false (i % 64 + (1 + k)) 64 t)))
      ])

  pub gathered_next : (i j common : ℕ) → i < j * word_bits → j < length a → j < length b → Gathered a b i j common
      → Gathered a b i (j + 1) (bit_or common (bit_and (get_or a j 0) (get_or b j 0)))
  gathered_next i j common s l m g = tells-map to from (tells-eq (bit_or common x) 0)
    where
      x : ℕ
      x = bit_and (get_or a j 0) (get_or b j 0)

      to : bit_or common x ≡ 0 → Clear (λ f. has a f && has b f) (i + 1) ((j + 1) * 64)
      to e f p q = elim (test (ltb f (j * 64))) [
        | on t ↦ g.yes (eq-eqb common 0 (or-zero common x e).0) f p (ltb-true f (j * 64) t)
        | off t ↦ let d : j * 64 ≤ f = ltb-false f (j * 64) t in let z : j * 64 + (f - j * 64) ≡ f = omega arith in
            ap (λ g. has a g && has b g) (sym z) ∙ both_at j (f - j * 64) (omega arith) ∙ rw (or-zero common x e).1 (bit-none (f - j * 64))
      ]

      from : Clear (λ f. has a f && has b f) (i + 1) ((j + 1) * 64) → bit_or common x ≡ 0
      from h = let p : common ≡ 0 = eqb-true common 0 (g.back (λ f p q. h f p (omega arith))) in
          let q : x ≡ 0 = zero_bits x (both_small j l m) (λ k t. sym (both_at j k t) ∙ h (j * 64 + k) (omega arith) (omega arith)) in rw (p, q)

  pub gathered-done : (i j common : ℕ) → length a ≤ j → Gathered a b i j common → Tells (eqb common 0) (Apart (has a) (has b) i)
  gathered-done i j common l g = tells-map
      (λ h f p. elim (test (ltb f (j * 64))) [ on t ↦ h f (omega arith) (ltb-true f (j * 64) t) | off t ↦ rw (has-past a f (omega (arith, ltb-false f (j * 64) t))) ])
      (λ h f p q. h f (omega arith)) g

-- ---- one slot

never : {P : Type 0} → (P → ⊥) → Tells false P
never d = record { yes = λ e. absurd (true≢false (sym e)); back = λ p. absurd (d p) }

module _ (n i : ℕ) (full slot : List ℕ) where
  -- What the words hold none of below their end, they hold none of.
  none-past : (start : ℕ) → Clear (has slot) start (word_bits * length slot) → (f : ℕ) → start ≤ f → has slot f ≡ false
  none-past start h f l = elim (test (ltb f (word_bits * length slot))) [ on t ↦ h f l (ltb-true f (word_bits * length slot) t) | off t ↦ has-past slot f (ltb-false f (word_bits * length slot) t) ]

  pub shaped-empty : (r : ℕ) → Next (has slot) (word_bits * length slot) 0 r → r ≡ length slot * word_bits → Tells true (Shaped n i (has full) (has slot))
  shaped-empty r h e = record {
    yes = λ _. record { within = λ f t. absurd (clash t (none f)); low = λ f _. none f; own = λ f t. absurd (clash t (none f)); clear = λ j _ _. none j };
    back = λ _. refl;
  }
    where
      none : (f : ℕ) → has slot f ≡ false
      none f = none-past 0 (λ g j k. h.clear g j (omega arith)) f (omega arith)

  -- The least member is another.
  pub shaped-least : (r : ℕ) → Next (has slot) (word_bits * length slot) 0 r → r ≢ length slot * word_bits → r ≢ i → Tells false (Shaped n i (has full) (has slot))
  shaped-least r h d k = never (λ s. elim (order r i) [
    | less l ↦ clash (h.member inside) (s.low r l)
    | same q ↦ k q
    | more l ↦ clash (s.own r (h.member inside)) (h.clear i (omega arith) l)
  ])
    where
      inside : r < word_bits * length slot
      inside = omega (arith, h.within)

  -- There is a member at n or beyond.
  pub shaped-past : (r : ℕ) → Next (has slot) (word_bits * length slot) n r → r ≢ length slot * word_bits → Tells false (Shaped n i (has full) (has slot))
  shaped-past r h d = never (λ s. omega (arith, s.within r (h.member (omega (arith, h.within))), h.above))

  -- The index is the least member and all are below n: it is left that no other index is a member.
  pub shaped-apart : {b : Bool} (r q : ℕ) → Next (has slot) (word_bits * length slot) 0 r → r ≢ length slot * word_bits → r ≡ i
      → Next (has slot) (word_bits * length slot) n q → q ≡ length slot * word_bits
      → Tells b (Apart (has slot) (has full) i) → Tells b (Shaped n i (has full) (has slot))
  shaped-apart {b} r q h d e k z = tells-map to from
    where
      low : (f : ℕ) → f < i → has slot f ≡ false
      low f l = h.clear f (omega arith) (omega arith)

      to : Apart (has slot) (has full) i → Shaped n i (has full) (has slot)
      to g = record {
        within = λ f t. elim (test (ltb f n)) [ on s ↦ ltb-true f n s | off s ↦ absurd (clash t (none-past n (λ m j l. k.clear m j (omega arith)) f (ltb-false f n s))) ];
        low = low;
        own = λ f t. ap (has slot) (sym e) ∙ h.member (omega (arith, h.within));
        clear = λ j t s. elim (order j i) [ less l ↦ low j l | same l ↦ absurd (s l) | more l ↦ apart j t (g j l) ];
      }
        where
          apart : (j : ℕ) → has full j ≡ true → (has slot j && has full j) ≡ false → has slot j ≡ false
          apart j t g = elim (test (has slot j)) [ on s ↦ absurd (clash t (rw s at g)) | off s ↦ s ]

      from : Shaped n i (has full) (has slot) → Apart (has slot) (has full) i
      from s f l = elim (test (has full f)) [ on t ↦ rw (s.clear f t (omega arith)) | off t ↦ rw t (and-false (has slot f)) ]

-- ---- all slots

-- The slots are all in shape, beside the indices of all.
abbrev pub AllShaped : ℕ → List ℕ → List ℕ → Type 0
AllShaped n area full = (i : ℕ) → i < n → Shaped n i (has full) (has (slot_at (words_for n) area i))

-- The reduced shape is that of each slot beside the indices of those that have their own.
pub shaped-reduced : {b : Bool} (n : ℕ) (area full : List ℕ) → ((f : ℕ) → has full f ≡ (ltb f n && has (slot_at (words_for n) area f) f))
    → Tells b (AllShaped n area full) → Tells b (Reduced n (slots_in n area))
unfolding slots_in
shaped-reduced {b} n area full index = tells-map to from
  where
    inside : (i f : ℕ) → slots_in n area i f ≡ true → i < n
    inside i f e = ltb-true i n (and_left (ltb i n) (has (slot_at (words_for n) area i) f) e)

    -- A slot that is not there is empty.
    beyond : (i f : ℕ) → n ≤ i → slots_in n area i f ≡ false
    beyond i f l = elim (test (slots_in n area i f)) [ on e ↦ absurd (omega (arith, inside i f e)) | off e ↦ e ]

    to : AllShaped n area full → Reduced n (slots_in n area)
    to h = record {
      within = λ i f e. let l = inside i f e in (l, (h i l).within f (sym (slot_has n i area f l) ∙ e));
      low = λ i f j. elim (test (ltb i n)) [ on t ↦ let l = ltb-true i n t in slot_has n i area f l ∙ (h i l).low f j | off t ↦ beyond i f (ltb-false i n t) ];
      full = λ i f e. let l = inside i f e in slot_has n i area i l ∙ (h i l).own f (sym (slot_has n i area f l) ∙ e);
      clear = λ i j e d. elim (test (ltb i n)) [ on t ↦ let l = ltb-true i n t in slot_has n i area j l ∙ (h i l).clear j (index j ∙ e) d | off t ↦ beyond i j (ltb-false i n t) ];
    }

    from : Reduced n (slots_in n area) → AllShaped n area full
    from R i l = record {
      within = λ f e. (R.within i f (slot_has n i area f l ∙ e)).1;
      low = λ f j. sym (slot_has n i area f l) ∙ R.low i f j;
      own = λ f e. sym (slot_has n i area i l) ∙ R.full i f (slot_has n i area f l ∙ e);
      clear = λ j e d. sym (slot_has n i area j l) ∙ R.clear i j (sym (index j) ∙ e) d;
    }
