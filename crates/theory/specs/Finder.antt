-- The finder: the least weights from reduced slots, and when there are none; for a task's workspace these are the task's own.
use Rattle.std.specs.Prelude.{ℕ, ◌<◌, ◌≤◌, ◌≡◌, refl, ◌↔◌, true, false, List, ◌++◌, ltb, length, drop}
use Rattle.std.proofs.Common.{ap, ap₂, sym, ◌∙◌, inl, inr, arith, ltb-false, le-ltb}
use Rattle.meaning.specs.Sets.{◌⊕◌, Set, listed}
use Rattle.meaning.specs.Task.{Task, value}
use Rattle.meaning.specs.Feature.{features, true_in, parity}
use Rattle.meaning.specs.Slot.{LeastMember, Reduced}
use Rattle.meaning.specs.Weight.{Separates, LeastOf}
use Rattle.meaning.specs.Workspace.{Content, words_for, packed, content_of}
use Rattle.meaning.specs.Answer.{done, Outcome, refuses, Finding, none, separated, SeparatesIn, FindsIn, FindsBy, Finds}
use Rattle.meaning.specs.Number.{Small}
use Rattle.theory.specs.Truth.{on, off, test, clash, xor-true-differ, differ-xor}
use Rattle.theory.specs.Parity.{dot, dot-xor, odd-shared}
use Rattle.theory.specs.Slots.{wit}
use Rattle.theory.specs.Reduce.{red, no-weights, weights-in, weights-odd}
use Rattle.theory.specs.Whole.{weights-least}
use Rattle.theory.specs.Conditions.{stored-meets}
use Rattle.theory.specs.Histories.{StandsFor, stands-ranged, stands-finds}

-- The features that are true in one of two states and not in the other.
unfoldable pub difference : List ℕ → List ℕ → List ℕ → Set
difference sizes start goal f = true_in sizes (value start) f ⊕ true_in sizes (value goal) f

-- The parities of two states differ where the weights meet their difference oddly.
pub parity-difference : (sizes start goal : List ℕ) (w : Set) → parity sizes w start ⊕ parity sizes w goal ≡ dot (features sizes) w (difference sizes start goal)
unfolding parity difference
parity-difference sizes start goal w =
    ap₂ ◌⊕◌ (odd-shared (features sizes) w (true_in sizes (value start))) (odd-shared (features sizes) w (true_in sizes (value goal)))
    ∙ sym (dot-xor (features sizes) w (true_in sizes (value start)) (true_in sizes (value goal)))

module _ (c : Content) (R : Reduced (features c.sizes) c.slots) where
  -- What is left of the ends' difference once it is reduced by the slots.
  unfoldable pub left : Set
  left = red c.slots (features c.sizes) (difference c.sizes c.start c.goal)

  differs : (w : Set) → SeparatesIn c w → dot (features c.sizes) w (difference c.sizes c.start c.goal) ≡ true
  differs w s = sym (parity-difference c.sizes c.start c.goal w) ∙ differ-xor _ _ s.ends

  -- Nothing left: no weights separate.
  pub none_left : ((f : ℕ) → f < features c.sizes → left f ≡ false) → (w : Set) → SeparatesIn c w → ⊥
  unfolding left
  none_left empty w s = clash (differs w s) (no-weights R _ w empty s.keeps)

  -- Something left: the witness of its least member is the least set that separates.
  pub least-left : (m : ℕ) → m < features c.sizes → LeastMember m left → LeastOf (features c.sizes) (SeparatesIn c) (wit c.slots m)
  unfolding left
  least-left m l first = record {
    good = record {
      ends = xor-true-differ _ _ (parity-difference c.sizes c.start c.goal (wit c.slots m) ∙ weights-odd R _ m l first.member);
      keeps = weights-in R _ m l first.member;
    };
    least = λ w s. weights-least R _ m l first w s.keeps (differs w s);
  }

-- For a workspace that stands for a task, to separate in the workspace is to separate in the task.
module _ (T : Task) (workspace : List ℕ) (S : StandsFor T workspace) where
  pub separates-in : (w : Set) → SeparatesIn (content_of T S.slots) w ↔ Separates T w
  separates-in w =
      let meets = stored-meets T.sizes (listed T.pairs) T.operators S.slots (stands-ranged T workspace S) S.are w in
      (λ s. record { ends = s.ends; keeps = meets.0 s.keeps }, λ s. record { ends = s.ends; keeps = meets.1 s.keeps })

  -- Where the finder does not refuse, it was lent W words or more.
  found : (room : List ℕ) (outcome : Outcome Finding) (result : Finding) → outcome.answer ≡ done result → Finds workspace room outcome
      → (words_for (features T.sizes) ≤ length room) × FindsIn (content_of T S.slots) room outcome
  found room outcome result done-so h = elim (test (ltb (length room) (words_for (features T.sizes)))) [
    | on p ↦ let q : outcome ≡ refuses Small room = rw p at there in absurd (let z : ◌≡◌ {A = ℕ} 0 1 = cc (done-so, ap (λ (o : Outcome Finding). o.answer) q) in omega arith)
    | off p ↦ (ltb-false _ _ p, rw p at there)
  ]
    where
      there : FindsBy (content_of T S.slots) room outcome
      there = (stands-finds T workspace S room outcome).0 h

  -- The finder says "none" exactly when no weights separate, and then leaves the room as it was,
  pub none_right : (room lent : List ℕ) → Finds workspace room (record { answer = done none; lent = lent })
      ↔ ((words_for (features T.sizes) ≤ length room) × ((w : Set) → Separates T w → ⊥) × (lent ≡ room))
  none_right room lent = (
    λ h. let (long, k) = found room (record { answer = done none; lent = lent }) none refl h in elim k [
      | inl j ↦ (long, λ w s. j.0 w ((separates-in w).1 s), ap (λ (o : Outcome Finding). o.lent) j.1)
      | inr j ↦ absurd (let z : ◌≡◌ {A = ℕ} 0 1 = cc (ap (λ (o : Outcome Finding). o.answer) j.2) in omega arith)
    ],
    λ h. (stands-finds T workspace S room (record { answer = done none; lent = lent })).1
        (rw (le-ltb (length room) (words_for (features T.sizes)) h.0) (inl (λ w s. h.1 w ((separates-in w).0 s), ap (λ l. record { answer = done none; lent = l }) h.2))),
  )

  -- finds some where some do,
  pub some_right : (room : List ℕ) (outcome : Outcome Finding) (w : Set) → Separates T w → words_for (features T.sizes) ≤ length room
      → Finds workspace room outcome → outcome.answer ≡ done separated
  some_right room outcome w s long h =
      let k : FindsIn (content_of T S.slots) room outcome = rw (le-ltb (length room) (words_for (features T.sizes)) long) at ((stands-finds T workspace S room outcome).0 h) in
      elim k [ inl j ↦ absurd (j.0 w ((separates-in w).1 s)) | inr j ↦ ap (λ (o : Outcome Finding). o.answer) j.2 ]

  -- and gives the least that do.
  pub found_right : (room lent : List ℕ) → Finds workspace room (record { answer = done separated; lent = lent })
      → (w : Set) × LeastOf (features T.sizes) (Separates T) w × (lent ≡ packed (features T.sizes) w ++ drop (length (packed (features T.sizes) w)) room)
  found_right room lent h = elim (found room (record { answer = done separated; lent = lent }) separated refl h).1 [
    | inl k ↦ absurd (let z : ◌≡◌ {A = ℕ} 0 1 = cc (ap (λ (o : Outcome Finding). o.answer) k.1) in omega arith)
    | inr k ↦ (k.0, record { good = (separates-in k.0).0 k.1.good; least = λ w s. k.1.least w ((separates-in w).1 s) }, ap (λ (o : Outcome Finding). o.lent) k.2)
  ]
