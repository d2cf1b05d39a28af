-- The operators of a file, read one after another: what is known of all of them where they were read, the place after them, and a state that each of them changes. Every walk over a
-- file's operators is the last with a state of its own.
use Prim.Native.Nat.{ℕ, zero, suc, ◌+◌, ◌-◌, ◌<◌, ◌≤◌}
use Rattle.std.specs.Prelude.{◌≡◌, Result, Ok, Err}
use Rattle.std.proofs.Math.Path.{refl, sym, ap}
use Rattle.std.proofs.Common.{◌∙◌}
use mathlib.Core.List.{List, [], ◌∷◌, foldl}
use native.Mathlib.Omega.{arith}
use Rattle.meaning.specs.Task.{Operator}
use Rattle.meaning.specs.Number as meaning
use Rattle.meaning.specs.Number.{Read, got, fault, on_read}
use Rattle.meaning.specs.File.{operator_of, operators_of}
use Rattle.theory.specs.Reading.{on-got, got-value, got-next}
use Rattle.number.specs.Answers.{place_of, place-next, place-faulted}
use Rattle.number.specs.declared.Fault.{Fault}

-- What follows an operator that was read; where none was, the state as it is.
abbrev pub changed : {S : Type 0} → S → Read Operator → (Operator → ℕ → S) → S
changed s (got o next) further = further o next
changed s (fault reason place) further = s

-- The state after so many operators, each of which changes it; what cannot be read ends the walk.
unfoldable pub walked : {S : Type 0} → (S → Operator → S) → List ℕ → ℕ → List ℕ → ℕ → S → S
walked step sizes zero bytes at s = s
walked step sizes (suc k) bytes at s = changed s (operator_of sizes bytes at) (λ o next. walked step sizes k bytes next (step s o))

-- ---- all of them, where they were read

module _ (sizes bytes : List ℕ) where
  pub operators-apart : (k at : ℕ) (os : List Operator) (next : ℕ) → operators_of sizes (suc k) bytes at ≡ got os next
      → (o : Operator) × (others : List Operator) × (middle : ℕ) × (os ≡ o ∷ others) × (operator_of sizes bytes at ≡ got o middle) × (operators_of sizes k bytes middle ≡ got others next)
  unfolding operators_of
  operators-apart k at os next e =
      let (o, middle, first, rest) = on-got (operator_of sizes bytes at) _ os next e in
      let (others, after, read, whole) = on-got (operators_of sizes k bytes middle) _ os next rest in
      (o, others, middle, sym (got-value whole), first, read ∙ ap (got others) (got-next whole))

  -- ---- the place after them

  module _ (count k at : ℕ) where
    pub place-more : (o : Operator) (next : ℕ) → k < count → operator_of sizes bytes at ≡ got o next
        → place_of (operators_of sizes (count - k) bytes at) ≡ place_of (operators_of sizes (count - (k + 1)) bytes next)
    unfolding operators_of
    place-more o next h e = let left : count - k ≡ suc (count - (k + 1)) = omega arith in rw (left, e) (rest (operators_of sizes (count - (k + 1)) bytes next))
      where
        rest : (read : Read (List Operator)) → place_of (on_read read (λ os after. got (o ∷ os) after)) ≡ place_of read
        rest (got os after) = refl
        rest (fault reason place) = refl

    pub operators-fault : (reason : meaning.Reason) (place : ℕ) → k < count → operator_of sizes bytes at ≡ fault reason place
        → operators_of sizes (count - k) bytes at ≡ fault reason place
    unfolding operators_of
    operators-fault reason place h e = let left : count - k ≡ suc (count - (k + 1)) = omega arith in rw (left, e)

    pub operators-none : count ≤ k → operators_of sizes (count - k) bytes at ≡ got [] at
    unfolding operators_of
    operators-none h = let none : count - k ≡ 0 = omega arith in rw none

-- ---- a state that they change

module _ {S : Type 0} (step : S → Operator → S) (sizes bytes : List ℕ) where
  -- A state that no operator changes stays to the end.
  walk-stays : (k at : ℕ) (s : S) → ((o : Operator) → step s o ≡ s) → walked step sizes k bytes at s ≡ s
  unfolding walked
  walk-stays zero at s h = refl
  walk-stays (suc k) at s h = by (operator_of sizes bytes at) (λ next. walk-stays k next s h)
    where
      by : (read : Read Operator) → ((next : ℕ) → walked step sizes k bytes next s ≡ s) → changed s read (λ o next. walked step sizes k bytes next (step s o)) ≡ s
      by (got o next) stays = ap (walked step sizes k bytes next) (h o) ∙ stays next
      by (fault reason place) stays = refl

  -- What every operator keeps, the walk keeps.
  pub walk-keeps : (P : S → Type 0) → ((s : S) (o : Operator) → P s → P (step s o)) → (k at : ℕ) (s : S) → P s → P (walked step sizes k bytes at s)
  unfolding walked
  walk-keeps P keeps zero at s p = p
  walk-keeps P keeps (suc k) at s p = by (operator_of sizes bytes at) (λ o next. walk-keeps P keeps k next (step s o) (keeps s o p))
    where
      by : (read : Read Operator) → ((o : Operator) (next : ℕ) → P (walked step sizes k bytes next (step s o))) → P (changed s read (λ o next. walked step sizes k bytes next (step s o)))
      by (got o next) rest = rest o next
      by (fault reason place) rest = p

  -- Where all were read, it is their left fold.
  pub walk-all : (count at : ℕ) (os : List Operator) (next : ℕ) (s : S) → operators_of sizes count bytes at ≡ got os next → walked step sizes count bytes at s ≡ foldl step s os
  unfolding walked operators_of
  walk-all zero at os next s e = ap (foldl step s) (got-value e)
  walk-all (suc k) at os next s e =
      let (o, others, middle, same, first, rest) = operators-apart sizes bytes k at os next e in
      rw first (walk-all k middle others next (step s o) rest) ∙ ap (foldl step s) (sym same)

  -- ---- by what a loop finds at its turn

  module _ (count k at : ℕ) (s : S) where
    pub walk_end : count ≤ k → walked step sizes (count - k) bytes at s ≡ s
    unfolding walked
    walk_end h = let none : count - k ≡ 0 = omega arith in rw none

    pub walk-unread : (reason : meaning.Reason) (place : ℕ) → operator_of sizes bytes at ≡ fault reason place → walked step sizes (count - k) bytes at s ≡ s
    unfolding walked
    walk-unread reason place e = elim (count - k) as (λ left. walked step sizes left bytes at s ≡ s) [ zero ↦ refl | suc left ↦ rw e ]

    module _ (o : Operator) (next : ℕ) (after : S) (more : k < count) (read : operator_of sizes bytes at ≡ got o next) (leads : step s o ≡ after) where
      pub walk_more : walked step sizes (count - k) bytes at s ≡ walked step sizes (count - (k + 1)) bytes next after
      unfolding walked
      walk_more = let left : count - k ≡ suc (count - (k + 1)) = omega arith in rw (left, read) (ap (walked step sizes (count - (k + 1)) bytes next) leads)

      -- A walk that is left early, in a state that no operator changes any more.
      pub walk-left : ((p : Operator) → step after p ≡ after) → walked step sizes (count - k) bytes at s ≡ after
      walk-left h = walk_more ∙ walk-stays (count - (k + 1)) next after h

    -- A turn that is a call: it answers the place after one operator, and leaves the state after it.
    module _ (answer : Result ℕ Fault) (after : S) (more : k < count) (place : answer ≡ place_of (operator_of sizes bytes at)) (one : after ≡ walked step sizes 1 bytes at s) where
      pub turn_more : (next : ℕ) → answer ≡ Ok next → walked step sizes (count - k) bytes at s ≡ walked step sizes (count - (k + 1)) bytes next after
      unfolding walked
      turn_more next e = let (o, read) = place-next (operator_of sizes bytes at) next (sym place ∙ e) in
          walk_more o next after more read (sym (one ∙ ap (λ r. changed s r (λ p _. step s p)) read))

      pub turn-unread : (found : Fault) → answer ≡ Err found → walked step sizes (count - k) bytes at s ≡ after
      unfolding walked
      turn-unread found e = let read = place-faulted (operator_of sizes bytes at) found (sym place ∙ e) in
          walk-unread _ _ read ∙ sym (one ∙ ap (λ r. changed s r (λ p _. step s p)) read)
