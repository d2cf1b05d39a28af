-- Inserting a row into an area of which some slots are pending.
use Rattle.std.specs.Prelude.{ℕ, ◌+◌, ◌*◌, ◌<◌, ◌≤◌, min, ◌≡◌, refl, ◌≢◌, true, false, ◌&&◌, cond, List, eqb, ltb}
use Rattle.std.proofs.Math.Path.{ap, sym, fun_ext}
use Rattle.std.proofs.Common.{◌∙◌, arith}
use Rattle.std.proofs.Math.Bool.{and-false}
use Rattle.std.proofs.Math.ListN.{length}
use borrow.Author.Tests.{ltb-true, ltb-false, lt-ltb, le-ltb, ne_eqb, eqb-true, eqb-false}
use Rattle.meaning.specs.Sets.{Set}
use Rattle.meaning.specs.Limits.{word_bits}
use Rattle.meaning.specs.Slot.{LeastMember}
use Rattle.meaning.specs.Workspace.{has, words_for}
use Rattle.theory.specs.Truth.{on, off, test, less, same, more, order, xor-false}
use Rattle.theory.specs.Reduce.{red}
use Rattle.theory.specs.Cut.{cut}
use Rattle.theory.specs.Insert.{rest, insert}
use Rattle.theory.specs.Postponed.{put_later, with, part_low, left-none, put-index, put-part, put-settled}
use Rattle.words.specs.Change.{toggled, has-toggled, length-toggled}
use Rattle.words.specs.Next.{Clear, Next, next-least}
use Rattle.slots.specs.Change.{Led, cleared, length-cleared, has-cleared}
use Rattle.slots.specs.Area.{slot_at, slots_in, slot_put, slot-set, slot-in, length-slot, length-put, put_same, put_other}
use Rattle.slots.specs.Waiting.{Waiting, settled_in}

-- ---- p taken out of the pending slots below it

-- Slot j of an area after the row's least member p has been taken out of the pending slots below i.
abbrev pub slot_cleared : Set → ℕ → List ℕ → List ℕ → ℕ → ℕ → List ℕ
slot_cleared pending p row area i j = cond (pending j && ltb j i) (cleared p row (slot_at (length row) area j)) (slot_at (length row) area j)

-- Slot j of an area after a row has become slot p.
abbrev pub slot_after : Set → ℕ → List ℕ → List ℕ → ℕ → List ℕ
slot_after pending p row area j = cond (eqb j p) row (slot_cleared pending p row area p j)

-- An area between two turns: i is the next pending slot.
pub record Clearing (p : ℕ) (pending row area : List ℕ) (i : ℕ) (area' : List ℕ) : Type 0 where
  pub within : i ≤ word_bits * length pending
  pub member : i < word_bits * length pending → has pending i ≡ true
  pub long : length area' ≡ length area
  pub each : (j : ℕ) → slot_at (length row) area' j ≡ slot_cleared (has pending) p row area (min i p) j

cleared-first : (P : Set) (p i : ℕ) (row area : List ℕ) → Clear P 0 i → (j : ℕ) → slot_at (length row) area j ≡ slot_cleared P p row area (min i p) j
cleared-first P p i row area h j = elim (test (ltb j (min i p))) [
  | on t ↦ let l = ltb-true j (min i p) t in rw (h j (omega arith) (omega arith))
  | off t ↦ rw (t, and-false (P j))
]

-- The next pending slot is i; the one after it is k.
cleared-next : (P : Set) (p i k : ℕ) (row area area' words : List ℕ) → i * length row + length row ≤ length area' → i < p → i + 1 ≤ k → P i ≡ true → Clear P (i + 1) k
    → words ≡ cleared p row (slot_at (length row) area' i)
    → ((j : ℕ) → slot_at (length row) area' j ≡ slot_cleared P p row area (min i p) j) → (j : ℕ)
    → slot_at (length row) (slot_put (length row) area' i words) j ≡ slot_cleared P p row area (min k p) j
cleared-next P p i k row area area' words l b m pending none e h j = let z : min i p ≡ i = omega arith in elim (order j i) [
  | less x ↦ put_other (length row) i area' words long l j (omega arith) ∙ h j ∙ rw (z, lt-ltb j i x, lt-ltb j (min k p) (omega arith))
  | same q ↦ rw q (put_same (length row) i area' words long l ∙ e ∙ rw (h i, z, pending, le-ltb i i (omega arith), lt-ltb i (min k p) (omega arith)))
  | more x ↦ put_other (length row) i area' words long l j (omega arith) ∙ h j ∙ rw (z, le-ltb j i (omega arith), and-false (P j)) (elim (test (ltb j (min k p))) [
    | on t ↦ let y = ltb-true j (min k p) t in rw (none j (omega arith) (omega arith))
    | off t ↦ rw (t, and-false (P j))
  ])
]
  where
    long : length words ≡ length row
    long = rw e (length-cleared p row (slot_at (length row) area' i) ∙ length-slot (length row) i area' l)

module _ (p : ℕ) (pending row area : List ℕ) where
  pub clearing-first : (i : ℕ) → Next (has pending) (word_bits * length pending) 0 i → Clearing p pending row area i area
  clearing-first i h = record { within = h.within; member = h.member; long = refl; each = cleared-first (has pending) p i row area h.clear }

  pub clearing-next : (i k : ℕ) (area' words : List ℕ) → i * length row + length row ≤ length area' → i < p → p < word_bits * length row → length pending ≡ length row
      → Next (has pending) (word_bits * length pending) (i + 1) k
      → words ≡ cleared p row (slot_at (length row) area' i) → Clearing p pending row area i area' → Clearing p pending row area k (slot_put (length row) area' i words)
  clearing-next i k area' words l b m q h e t = record {
    within = h.within;
    member = h.member;
    long = length-put (length row) i area' words (rw e (length-cleared p row (slot_at (length row) area' i) ∙ length-slot (length row) i area' l)) l ∙ t.long;
    each = cleared-next (has pending) p i k row area area' words l b h.above (t.member (omega arith)) h.clear e t.each;
  }

  pub clearing-done : (i : ℕ) (area' : List ℕ) → p ≤ i → Clearing p pending row area i area' → (j : ℕ) → slot_at (length row) area' j ≡ slot_cleared (has pending) p row area p j
  clearing-done i area' l t j = let z : min i p ≡ p = omega arith in t.each j ∙ ap (λ k. slot_cleared (has pending) p row area k j) z

-- The row becomes slot p.
pub after-put : (P : Set) (p : ℕ) (row area cleared-area area' : List ℕ) → p * length row + length row ≤ length cleared-area → area' ≡ slot_put (length row) cleared-area p row
    → ((j : ℕ) → slot_at (length row) cleared-area j ≡ slot_cleared P p row area p j) → (j : ℕ) → slot_at (length row) area' j ≡ slot_after P p row area j
after-put P p row area cleared-area area' l e h j = rw e (elim (test (eqb j p)) [
  | on t ↦ rw (t, eqb-true j p t) (put_same (length row) p cleared-area row refl l)
  | off t ↦ rw t (put_other (length row) p cleared-area row refl l j (eqb-false j p t) ∙ h j)
])

-- ---- a row inserted

pub next-led : (row : List ℕ) (p : ℕ) → Next (has row) (word_bits * length row) 0 p → p < word_bits * length row → Led p (has row)
next-led row p h l = record { low = λ f j. h.clear f (omega arith) j; full = λ f e. h.member l }

module _ (n : ℕ) (full pending area row left : List ℕ) (waiting : Waiting n full pending area) (past : (f : ℕ) → n ≤ f → has row f ≡ false) (e : length left ≡ words_for n)
    (left-are : (f : ℕ) → has left f ≡ red (slots_in n area) n (has row) f) (p : ℕ) (next : Next (has left) (word_bits * length left) 0 p) where
  left_is : rest n (slots_in n area) (has row) ≡ has left
  unfolding rest cut
  left_is = ap (red (slots_in n area) n) (fun_ext (λ f. elim (test (ltb f n)) [ on t ↦ rw t | off t ↦ rw t (sym (past f (ltb-false f n t))) ])) ∙ sym (fun_ext left-are)

  -- Nothing is left below n: all stays.
  pub inserted-none : n ≤ p → settled_in n pending area ≡ insert n (settled_in n pending area) (has row)
  inserted-none l = left-none waiting.part (has row) (λ f k. ap (λ a. a f) left_is ∙ next.clear f (omega arith) (omega arith))

  -- The least member that is left is p.
  module _ (l : p < n) (full' pending' area' : List ℕ) (long : length area' ≡ length area) (each : (i : ℕ) → slot_at (length left) area' i ≡ slot_after (has pending) p left area i)
      (Full-is : full' ≡ toggled full p) (pending-is : pending' ≡ toggled pending p) where
    lowest : LeastMember p (rest n (slots_in n area) (has row))
    lowest = rw left_is (next-least (has left) (word_bits * length left) p next (omega arith))

    now-with : (set set' : List ℕ) → length set ≡ words_for n → set' ≡ toggled set p → has set' ≡ with (has set) p
    unfolding with
    now-with set set' q is = fun_ext (λ f. ap (λ a. has a f) is ∙ has-toggled set p f (omega arith))

    slot-now : (i f : ℕ) → i < n → has (slot_at (words_for n) area' i) f ≡ put_later (has pending) (slots_in n area) p (has left) i f
    unfolding put_later
    slot-now i f k = ap (λ w. has (slot_at w area' i) f) (sym e) ∙ ap (λ s. has s f) (each i) ∙ elim (test (eqb i p)) [
      | on t ↦ rw t
      | off t ↦ rw t (elim (test (has pending i)) [
        | on y ↦ rw y (elim (test (ltb i p)) [
          | on z ↦ rw (z, has-cleared p left (slot_at (length left) area i) f size, e, slot-set n i area k)
          | off z ↦ let d : i ≢ p = eqb-false i p t in rw (z, e, slot-set n i area k, part_low waiting.part i p (omega (arith, ltb-false i p z))) (sym (xor-false (slots_in n area i f)))
        ])
        | off y ↦ rw (y, e, slot-set n i area k) (sym (xor-false (slots_in n area i f)))
      ])
    ]
      where
        size : length (slot_at (length left) area i) ≡ length left
        size = length-slot (length left) i area (rw e (omega (arith, waiting.long, slot-in (words_for n) i n k)))

    nothing-there : (i f : ℕ) → ltb i n ≡ false → put_later (has pending) (slots_in n area) p (has left) i f ≡ false
    unfolding put_later slots_in
    nothing-there i f t = rw (ne_eqb i p (omega (arith, ltb-false i n t)), t, and-false (has pending i))

    slots-now : slots_in n area' ≡ put_later (has pending) (slots_in n area) p (has left)
    unfolding slots_in
    slots-now = fun_ext (λ i. fun_ext (λ f. elim (test (ltb i n)) [
      | on t ↦ rw t (slot-now i f (ltb-true i n t))
      | off t ↦ rw t (sym (nothing-there i f t))
    ]))

    pub inserted-waiting : Waiting n full' pending' area'
    inserted-waiting = record {
      few = waiting.few;
      long = long ∙ waiting.long;
      full-long = ap length Full-is ∙ length-toggled full p ∙ waiting.full-long;
      pending-long = ap length pending-is ∙ length-toggled pending p ∙ waiting.pending-long;
      full-are = λ i. ap (λ a. a i) (now-with full full' waiting.full-long Full-is) ∙ index i ∙ ap (λ S. S i i) (sym slots-now);
      part = rw (now-with pending pending' waiting.pending-long pending-is, slots-now, ← left_is) (put-part waiting.part (has row) p l lowest);
    }
      where
        index : (i : ℕ) → with (has full) p i ≡ put_later (has pending) (slots_in n area) p (has left) i i
        index = rw (← left_is) (put-index waiting.part (has row) p l lowest (has full) waiting.full-are)

    pub inserted : settled_in n pending' area' ≡ insert n (settled_in n pending area) (has row)
    inserted = rw (now-with pending pending' waiting.pending-long pending-is, slots-now, ← left_is) (put-settled waiting.part (has row) p l lowest)
