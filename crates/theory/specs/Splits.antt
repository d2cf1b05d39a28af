-- The score of a state is the sum of the weights of its atoms and of its pairs of atoms. When an operator sets the named variables from b to a,
-- the change of the score is one fixed part and one part for each unnamed variable, which depends on that variable's value alone.
use Rattle.std.specs.Prelude.{ℕ, ◌<◌, ◌≡◌, Bool, true, cond}
use Rattle.std.proofs.Math.Path.{refl, ap₂, sym}
use Rattle.std.proofs.Common.{ap, ◌∙◌, arith}
use Rattle.theory.specs.Truth.{on, off, test}
use Rattle.theory.specs.Group.{Group, minus, sum, tri, unit_left, minus_plus, sum-cong, sum-none, sum-minus, tri-cong, tri-plus, tri-minus, tri-square}

-- The weights of the single atoms (variable, value), and of the pairs of atoms.
abbrev pub Weights₁ : Type 0 → Type 0
Weights₁ G = ℕ → ℕ → G

abbrev pub Weights₂ : Type 0 → Type 0
Weights₂ G = ℕ → ℕ → ℕ → ℕ → G

unfoldable pub score : {G : Type 0} → Group G → Weights₁ G → Weights₂ G → ℕ → (ℕ → ℕ) → G
score K w₁ w₂ v x = K.plus (sum K v (λ i. w₁ i (x i))) (tri K v (λ i j. w₂ i (x i) j (x j)))

pub score-cong : {G : Type 0} (K : Group G) (w₁ : Weights₁ G) (w₂ : Weights₂ G) (v : ℕ) (x y : ℕ → ℕ) → ((i : ℕ) → i < v → x i ≡ y i) → score K w₁ w₂ v x ≡ score K w₁ w₂ v y
unfolding score
score-cong K w₁ w₂ v x y e = ap₂ K.plus (sum-cong K v _ _ (λ i l. ap (w₁ i) (e i l))) (tri-cong K v _ _ (λ i j l k. rw (e i (omega arith), e j k) refl))

module _ {G : Type 0} (K : Group G) (w₁ : Weights₁ G) (w₂ : Weights₂ G) (v : ℕ) (named : ℕ → Bool) (b a : ℕ → ℕ) where
  -- What the value y of the unnamed variable u gains beside the variable n.
  unfoldable pub beside : ℕ → ℕ → ℕ → G
  beside u y n = cond (named n) (minus K (w₂ u y n (a n)) (w₂ u y n (b n))) K.none

  -- What it gains beside all named variables.
  unfoldable pub part : ℕ → ℕ → G
  part u y = sum K v (beside u y)

  -- What a named variable gains, and what two of them gain.
  unfoldable pub fixed₁ : ℕ → G
  fixed₁ i = cond (named i) (minus K (w₁ i (a i)) (w₁ i (b i))) K.none

  unfoldable pub fixed₂ : ℕ → ℕ → G
  fixed₂ i j = cond (named i) (cond (named j) (minus K (w₂ i (a i) j (a j)) (w₂ i (b i) j (b j))) K.none) K.none

  unfoldable pub fixed : G
  fixed = K.plus (sum K v fixed₁) (tri K v fixed₂)

  module _ (mirror : (i x j y : ℕ) → i < j → w₂ i x j y ≡ w₂ j y i x) (s : ℕ → ℕ) (has : (i : ℕ) → i < v → named i ≡ true → s i ≡ b i) where
    abbrev after : ℕ → ℕ
    after i = cond (named i) (a i) (s i)

    -- What the variables u, unnamed, and n, named, gain together.
    abbrev cross : ℕ → ℕ → G
    cross u n = cond (named u) K.none (beside u (s u) n)

    alone : (i : ℕ) → i < v → minus K (w₁ i (after i)) (w₁ i (s i)) ≡ fixed₁ i
    unfolding fixed₁
    alone i l = elim (test (named i)) [ on e ↦ rw (e, has i l e) refl | off e ↦ rw e (K.cancel (w₁ i (s i))) ]

    pair : (i j : ℕ) → i < j → j < v → minus K (w₂ i (after i) j (after j)) (w₂ i (s i) j (s j)) ≡ K.plus (fixed₂ i j) (K.plus (cross i j) (cross j i))
    unfolding fixed₂ beside
    pair i j k l = elim (test (named i)) [
      | on e ↦ elim (test (named j)) [
        | on q ↦ rw (e, q, has i (omega arith) e, has j l q) (simp K.unit)
        | off q ↦ rw (e, q, has i (omega arith) e, mirror i (a i) j (s j) k, mirror i (b i) j (s j) k) (simp (unit_left K))
      ]
      | off e ↦ elim (test (named j)) [ on q ↦ rw (e, q, has j l q) (simp (unit_left K, K.unit)) | off q ↦ rw (e, q) (simp (K.unit, K.cancel)) ]
    ]

    diagonal : (u : ℕ) → u < v → cross u u ≡ K.none
    unfolding beside
    diagonal u l = elim (test (named u)) [ on e ↦ rw e refl | off e ↦ rw e refl ]

    row : (u : ℕ) → u < v → sum K v (cross u) ≡ cond (named u) K.none (part u (s u))
    unfolding part
    row u l = elim (test (named u)) [
      | on e ↦ sum-none K v (cross u) (λ n k. rw e refl) ∙ rw e refl
      | off e ↦ sum-cong K v (cross u) (beside u (s u)) (λ n k. rw e refl) ∙ rw e refl
    ]

    pairs : tri K v (λ i j. minus K (w₂ i (after i) j (after j)) (w₂ i (s i) j (s j))) ≡ K.plus (tri K v fixed₂) (sum K v (λ u. cond (named u) K.none (part u (s u))))
    pairs = tri-cong K v _ _ pair ∙ tri-plus K v fixed₂ _
        ∙ ap (K.plus (tri K v fixed₂)) (tri-plus K v cross _ ∙ tri-square K v cross diagonal ∙ sum-cong K v _ _ row)

    pub splits : minus K (score K w₁ w₂ v (λ i. cond (named i) (a i) (s i))) (score K w₁ w₂ v s) ≡ K.plus fixed (sum K v (λ u. cond (named u) K.none (part u (s u))))
    unfolding score fixed
    splits = minus_plus K _ _ _ _ ∙ ap₂ K.plus (sym (sum-minus K v _ _) ∙ sum-cong K v _ _ alone) (sym (tri-minus K v _ _) ∙ pairs) ∙ sym (K.assoc _ _ _)
