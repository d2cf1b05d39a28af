-- Sums of weights over any commutative group: over the numbers below n, and over the pairs of such numbers.
-- Parity is the group of two elements.
use Prim.Native.Nat.{ℕ, zero, suc, ◌<◌}
use Rattle.std.specs.Prelude.{◌≡◌, Bool, false}
use Rattle.std.proofs.Math.Path.{refl, ap, ap₂, sym}
use Rattle.std.proofs.Common.{◌∙◌, arith}
use Rattle.meaning.specs.Sets.{◌⊕◌}
use Rattle.theory.specs.Truth.{xor_assoc, xor_comm, xor-false, xor_self}

-- A commutative group.
pub record Group (G : Type 0) : Type 0 where
  pub none : G
  pub plus : G → G → G
  pub neg : G → G
  pub assoc : (a b c : G) → plus (plus a b) c ≡ plus a (plus b c)
  pub comm : (a b : G) → plus a b ≡ plus b a
  pub unit : (a : G) → plus a none ≡ a
  pub cancel : (a : G) → plus a (neg a) ≡ none

-- Truth values: the sum is true for an odd number of true terms.
abbrev pub two : Group Bool
two = record { none = false; plus = ◌⊕◌; neg = λ a. a; assoc = xor_assoc; comm = xor_comm; unit = xor-false; cancel = xor_self }

-- ---- definitions

abbrev pub minus : {G : Type 0} → Group G → G → G → G
minus K a b = K.plus a (K.neg b)

-- The sum of the terms at the numbers below n.
unfoldable pub sum : {G : Type 0} → Group G → ℕ → (ℕ → G) → G
sum K zero f = K.none
sum K (suc n) f = K.plus (sum K n f) (f n)

-- The sum of the terms at the pairs i < j below n.
unfoldable pub tri : {G : Type 0} → Group G → ℕ → (ℕ → ℕ → G) → G
tri K n h = sum K n (λ j. sum K j (λ i. h i j))

-- ---- two terms and four

module _ {G : Type 0} (K : Group G) where
  pub unit_left : (a : G) → K.plus K.none a ≡ a
  unit_left a = K.comm K.none a ∙ K.unit a

  pub plus-left-comm : (a b c : G) → K.plus a (K.plus b c) ≡ K.plus b (K.plus a c)
  plus-left-comm a b c = sym (K.assoc a b c) ∙ ap (λ x. K.plus x c) (K.comm a b) ∙ K.assoc b a c

  pub plus-swap : (a b c d : G) → K.plus (K.plus a b) (K.plus c d) ≡ K.plus (K.plus a c) (K.plus b d)
  plus-swap a b c d = simp (K.assoc, plus-left-comm)

  -- What adds up to none with an element is its negative.
  pub neg-only : (a b : G) → K.plus a b ≡ K.none → b ≡ K.neg a
  neg-only a b e = cc (K.unit b, K.cancel a, K.assoc b a (K.neg a), K.comm b a, unit_left (K.neg a))

  pub neg-plus : (a b : G) → K.neg (K.plus a b) ≡ K.plus (K.neg a) (K.neg b)
  neg-plus a b = sym (neg-only (K.plus a b) _ (plus-swap a b (K.neg a) (K.neg b) ∙ ap₂ K.plus (K.cancel a) (K.cancel b) ∙ K.unit K.none))

  pub neg-none : K.neg K.none ≡ K.none
  neg-none = sym (neg-only K.none K.none (K.unit K.none))

  pub minus_plus : (a b c d : G) → minus K (K.plus a b) (K.plus c d) ≡ K.plus (minus K a c) (minus K b d)
  minus_plus a b c d = ap (K.plus (K.plus a b)) (neg-plus c d) ∙ plus-swap a b (K.neg c) (K.neg d)

-- ---- sums

module _ {G : Type 0} (K : Group G) where
  pub sum-cong : (n : ℕ) (f g : ℕ → G) → ((i : ℕ) → i < n → f i ≡ g i) → sum K n f ≡ sum K n g
  unfolding sum
  sum-cong zero f g h = refl
  sum-cong (suc n) f g h = ap₂ K.plus (sum-cong n f g (λ i l. h i (omega arith))) (h n (omega arith))

  pub sum-none : (n : ℕ) (f : ℕ → G) → ((i : ℕ) → i < n → f i ≡ K.none) → sum K n f ≡ K.none
  unfolding sum
  sum-none zero f h = refl
  sum-none (suc n) f h = ap₂ K.plus (sum-none n f (λ i l. h i (omega arith))) (h n (omega arith)) ∙ K.unit K.none

  pub sum-plus : (n : ℕ) (f g : ℕ → G) → sum K n (λ i. K.plus (f i) (g i)) ≡ K.plus (sum K n f) (sum K n g)
  unfolding sum
  sum-plus zero f g = sym (K.unit K.none)
  sum-plus (suc n) f g = ap (λ x. K.plus x (K.plus (f n) (g n))) (sum-plus n f g) ∙ plus-swap K (sum K n f) (sum K n g) (f n) (g n)

  pub sum-neg : (n : ℕ) (f : ℕ → G) → sum K n (λ i. K.neg (f i)) ≡ K.neg (sum K n f)
  unfolding sum
  sum-neg zero f = sym (neg-none K)
  sum-neg (suc n) f = ap (λ x. K.plus x (K.neg (f n))) (sum-neg n f) ∙ sym (neg-plus K (sum K n f) (f n))

  pub sum-minus : (n : ℕ) (f g : ℕ → G) → sum K n (λ i. minus K (f i) (g i)) ≡ minus K (sum K n f) (sum K n g)
  sum-minus n f g = sum-plus n f (λ i. K.neg (g i)) ∙ ap (K.plus (sum K n f)) (sum-neg n g)

  -- ---- sums over pairs

  pub tri-cong : (n : ℕ) (g h : ℕ → ℕ → G) → ((i j : ℕ) → i < j → j < n → g i j ≡ h i j) → tri K n g ≡ tri K n h
  unfolding tri
  tri-cong n g h e = sum-cong n _ _ (λ j l. sum-cong j _ _ (λ i k. e i j k l))

  pub tri-plus : (n : ℕ) (g h : ℕ → ℕ → G) → tri K n (λ i j. K.plus (g i j) (h i j)) ≡ K.plus (tri K n g) (tri K n h)
  unfolding tri
  tri-plus n g h = sum-cong n _ _ (λ j l. sum-plus j (λ i. g i j) (λ i. h i j)) ∙ sum-plus n _ _

  pub tri-minus : (n : ℕ) (g h : ℕ → ℕ → G) → tri K n (λ i j. minus K (g i j) (h i j)) ≡ minus K (tri K n g) (tri K n h)
  unfolding tri
  tri-minus n g h = sum-cong n _ _ (λ j l. sum-minus j (λ i. g i j) (λ i. h i j)) ∙ sum-minus n _ _

  -- The pairs below the diagonal and those above it make the whole square.
  pub tri-square : (n : ℕ) (g : ℕ → ℕ → G) → ((u : ℕ) → u < n → g u u ≡ K.none) → K.plus (tri K n g) (tri K n (λ i j. g j i)) ≡ sum K n (λ u. sum K n (g u))
  unfolding sum tri
  tri-square zero g d = K.unit K.none
  tri-square (suc n) g d = plus-swap K _ (sum K n (λ i. g i n)) _ (sum K n (g n)) ∙ ap (λ x. K.plus x (K.plus (sum K n (λ i. g i n)) (sum K n (g n)))) (tri-square n g (λ u l. d u (omega arith)))
      ∙ sym (K.assoc _ _ _) ∙ sym (ap₂ K.plus (sum-plus n (λ u. sum K n (g u)) (λ u. g u n)) (ap (K.plus (sum K n (g n))) (d n (omega arith)) ∙ K.unit (sum K n (g n))))
