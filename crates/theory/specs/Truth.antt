-- Laws of truth values, and the views by which the proofs go by cases.
use Rattle.std.specs.Prelude.{ℕ, ◌<◌, ◌≡◌, refl, ◌≢◌, Bool, true, false, ◌&&◌, eqb, ltb}
use Rattle.std.proofs.Common.{sym, ◌∙◌, true≢false, arith, ltb-true, ltb-false, eqb-true}
use Rattle.std.proofs.lemmas.Bool.{eqb-false}
use Rattle.meaning.specs.Sets.{◌⊕◌}

-- A truth value with the equation that says which one it is.
pub data Test (b : Bool) : Type 0 where
  on : b ≡ true → Test b
  off : b ≡ false → Test b

pub test : (b : Bool) → Test b
test true = on refl
test false = off refl

-- Two numbers with the order in which they stand.
pub data Order (a b : ℕ) : Type 0 where
  less : a < b → Order a b
  same : a ≡ b → Order a b
  more : b < a → Order a b

pub order : (a b : ℕ) → Order a b
order a b = elim (test (ltb a b)) [ on p ↦ less (ltb-true a b p) | off p ↦ elim (test (eqb a b)) [ on q ↦ same (eqb-true a b q) | off q ↦ more (above p q) ] ]
  where
    above : ltb a b ≡ false → eqb a b ≡ false → b < a
    above p q = let d : a ≢ b = eqb-false a b q in omega (arith, ltb-false a b p)

pub clash : {b : Bool} → b ≡ true → b ≡ false → ⊥
clash p q = true≢false (sym p ∙ q)

-- ---- one of the two and not both

pub xor_assoc : (a b c : Bool) → (a ⊕ b) ⊕ c ≡ a ⊕ (b ⊕ c)
xor_assoc true true true = refl
xor_assoc true true false = refl
xor_assoc true false c = refl
xor_assoc false b c = refl

pub xor_comm : (a b : Bool) → a ⊕ b ≡ b ⊕ a
xor_comm true true = refl
xor_comm true false = refl
xor_comm false true = refl
xor_comm false false = refl

pub xor_self : (a : Bool) → a ⊕ a ≡ false
xor_self true = refl
xor_self false = refl

pub xor-self-left : (a b : Bool) → a ⊕ (a ⊕ b) ≡ b
xor-self-left true true = refl
xor-self-left true false = refl
xor-self-left false b = refl

pub xor-false : (a : Bool) → a ⊕ false ≡ a
xor-false true = refl
xor-false false = refl

pub xor-left-comm : (a b c : Bool) → a ⊕ (b ⊕ c) ≡ b ⊕ (a ⊕ c)
xor-left-comm true true c = refl
xor-left-comm true false c = refl
xor-left-comm false b c = refl

-- Sums of truth values are decided by these.
pub ruleset xors = (xor_assoc, xor_comm, xor-left-comm, xor_self, xor-self-left, xor-false)

pub xor-false-same : (a b : Bool) → a ⊕ b ≡ false → a ≡ b
xor-false-same true true e = refl
xor-false-same true false e = e
xor-false-same false b e = sym e

pub xor-true-differ : (a b : Bool) → a ⊕ b ≡ true → a ≢ b
xor-true-differ true true e q = true≢false (sym e)
xor-true-differ true false e q = true≢false q
xor-true-differ false b e q = true≢false (sym e ∙ sym q)

pub differ-xor : (a b : Bool) → a ≢ b → a ⊕ b ≡ true
differ-xor true true d = absurd (d refl)
differ-xor true false d = refl
differ-xor false true d = refl
differ-xor false false d = absurd (d refl)

pub and_xor : (a b c : Bool) → (a && (b ⊕ c)) ≡ ((a && b) ⊕ (a && c))
and_xor true b c = refl
and_xor false b c = refl

pub xor-and : (a b c : Bool) → ((a ⊕ b) && c) ≡ ((a && c) ⊕ (b && c))
xor-and true true true = refl
xor-and true true false = refl
xor-and true false true = refl
xor-and true false false = refl
xor-and false b c = refl
