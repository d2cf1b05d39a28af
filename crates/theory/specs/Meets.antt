-- How often weights meet the features true in a state, modulo 2: a sum over its atoms and a sum over its pairs of atoms.
use Rattle.std.specs.Prelude.{ℕ, zero, suc, ◌<◌, ◌≡◌, refl, Bool, true, false, ◌||◌, List, eqb, length}
use Rattle.std.proofs.Common.{ap, sym, ◌∙◌, arith, eqb-true}
use Rattle.std.proofs.Math.Path.{ap₂}
use Rattle.meaning.specs.Sets.{◌⊕◌, Set, some}
use Rattle.meaning.specs.Task.{value, size}
use Rattle.meaning.specs.Feature.{features, single, double, both, true_in, parity}
use Rattle.theory.specs.Truth.{on, off, test}
use Rattle.theory.specs.Search.{found, nowhere, which, some_at, some-not, some-get}
use Rattle.theory.specs.Parity.{par, dot, par-cong, par-none, par-one, dot-cong, dot-xor, dot-one, dot-par, odd-shared}
use Rattle.theory.specs.Numbering.{atoms-room, single-below, single-only, double-above, double-below, double-only, both-less}
use Rattle.theory.specs.Group.{two, sum, tri, sum-cong, tri-cong}
use Rattle.theory.specs.Splits.{score}

-- ---- a search is a sum where at most one passes

pub some-par : (n : ℕ) (p : ℕ → Bool) → ((i j : ℕ) → i < n → j < n → p i ≡ true → p j ≡ true → i ≡ j) → some n p ≡ par n p
some-par n p h = elim (which n p) [
  | found i l e ↦ some_at n p i l e ∙ sym (par-one n i p l (λ j k d. elim (test (p j)) [ on q ↦ absurd (d (h j i k l q e)) | off q ↦ q ]) ∙ e)
  | nowhere none ↦ some-not n p none ∙ sym (par-none n p none)
]

pub or-xor : (a b : Bool) → (a ≡ true → b ≡ true → ⊥) → (a || b) ≡ a ⊕ b
or-xor true true h = absurd (h refl refl)
or-xor true false h = refl
or-xor false b h = refl

-- ---- the features true where each variable has a value in its range

module _ (sizes : List ℕ) (x : ℕ → ℕ) (within : (i : ℕ) → i < length sizes → x i < size sizes i) where
  abbrev is_single : ℕ → ℕ → Bool
  is_single f i = eqb f (single sizes i (x i))

  abbrev is_double : ℕ → ℕ → ℕ → Bool
  is_double f j i = eqb f (double sizes i (x i) j (x j))

  single-once : (f i i' : ℕ) → i < length sizes → i' < length sizes → is_single f i ≡ true → is_single f i' ≡ true → i ≡ i'
  single-once f i i' l l' e e' = (single-only sizes i (x i) i' (x i') (within i l) (within i' l') (sym (eqb-true f _ e) ∙ eqb-true f _ e')).0

  double-once : (f i j i' j' : ℕ) → i < j → i' < j' → j < length sizes → j' < length sizes → is_double f j i ≡ true → is_double f j' i' ≡ true → (i ≡ i') × (j ≡ j')
  double-once f i j i' j' l l' k k' e e' =
      let q = double-only sizes i (x i) j (x j) i' (x i') j' (x j') l l' (within i (omega arith)) (within j k) (within i' (omega arith)) (within j' k') (sym (eqb-true f _ e) ∙ eqb-true f _ e') in
      (q.0, q.2)

  doubles : (f : ℕ) → some (length sizes) (λ j. some j (is_double f j)) ≡ par (length sizes) (λ j. par j (is_double f j))
  doubles f = some-par _ _ (λ j j' k k' e e'. one j j' k k' (some-get j _ e) (some-get j' _ e')) ∙ par-cong _ _ _ (λ j k. some-par j _ (λ i i' l l' e e'. (double-once f i j i' j l l' k k e e').0))
    where
      one : (j j' : ℕ) → j < length sizes → j' < length sizes → (i : ℕ) × (i < j) × (is_double f j i ≡ true) → (i : ℕ) × (i < j') × (is_double f j' i ≡ true) → j ≡ j'
      one j j' k k' (i, l, e) (i', l', e') = (double-once f i j i' j' l l' k k' e e').1

  apart : (f : ℕ) → some (length sizes) (is_single f) ≡ true → some (length sizes) (λ j. some j (is_double f j)) ≡ true → ⊥
  apart f e e' = clashes (some-get _ _ e) (some-get _ _ e')
    where
      clashes : (i : ℕ) × (i < length sizes) × (is_single f i ≡ true) → (j : ℕ) × (j < length sizes) × (some j (is_double f j) ≡ true) → ⊥
      clashes (i, l, q) (j, k, r) = let (i', l', q') = some-get j _ r in
          omega (arith, eqb-true f _ q, eqb-true f _ q', single-below sizes i (x i) (within i l), double-above sizes i' (x i') j (x j))

  pub true-sum : (f : ℕ) → true_in sizes x f
      ≡ par (length sizes) (λ i. eqb f (single sizes i (x i))) ⊕ par (length sizes) (λ j. par j (λ i. eqb f (double sizes i (x i) j (x j))))
  unfolding true_in
  true-sum f = or-xor (some (length sizes) (is_single f)) _ (apart f) ∙ ap₂ ◌⊕◌ (some-par _ _ (single-once f)) (doubles f)

  pub meets : (w : Set) → dot (features sizes) w (true_in sizes x)
      ≡ par (length sizes) (λ i. w (single sizes i (x i))) ⊕ par (length sizes) (λ j. par j (λ i. w (double sizes i (x i) j (x j))))
  meets w = dot-cong _ w _ _ (λ f l. true-sum f) ∙ dot-xor _ w _ _ ∙ ap₂ ◌⊕◌ of-singles of-doubles
    where
      of-singles : dot (features sizes) w (λ f. par (length sizes) (is_single f)) ≡ par (length sizes) (λ i. w (single sizes i (x i)))
      of-singles = dot-par _ _ w (λ i f. is_single f i)
          ∙ par-cong _ _ _ (λ i l. dot-one _ (single sizes i (x i)) w (omega (arith, single-below sizes i (x i) (within i l), atoms-room sizes)))

      of-doubles : dot (features sizes) w (λ f. par (length sizes) (λ j. par j (is_double f j))) ≡ par (length sizes) (λ j. par j (λ i. w (double sizes i (x i) j (x j))))
      of-doubles = dot-par _ _ w (λ j f. par j (is_double f j)) ∙ par-cong _ _ _ (λ j k. dot-par _ j w (λ i f. is_double f j i)
          ∙ par-cong j _ _ (λ i l. dot-one _ _ w (double-below sizes i (x i) j (x j) l (within i (omega arith)) (within j k))))

-- ---- as a score

pub par-sum : (n : ℕ) (a : Set) → par n a ≡ sum two n a
unfolding par sum
par-sum zero a = refl
par-sum (suc n) a = ap (λ b. b ⊕ a n) (par-sum n a)

pub par-tri : (n : ℕ) (h : ℕ → ℕ → Bool) → par n (λ j. par j (λ i. h i j)) ≡ tri two n h
unfolding tri
par-tri n h = par-sum n _ ∙ sum-cong two n _ _ (λ j l. par-sum j _)

pub meets-score : (sizes : List ℕ) (w : Set) (x : ℕ → ℕ) → ((i : ℕ) → i < length sizes → x i < size sizes i)
    → dot (features sizes) w (true_in sizes x) ≡ score two (λ i x. w (single sizes i x)) (λ i x j y. w (both sizes i x j y)) (length sizes) x
unfolding score
meets-score sizes w x within = meets sizes x within w ∙ ap₂ ◌⊕◌ (par-sum _ _) (par-tri _ _ ∙ tri-cong two _ _ _ (λ i j l k. ap w (sym (both-less sizes i (x i) j (x j) l))))

-- ---- the parity of a state

pub parity-dot : (sizes : List ℕ) (w : Set) (state : List ℕ) → parity sizes w state ≡ dot (features sizes) w (true_in sizes (value state))
unfolding parity
parity-dot sizes w state = odd-shared (features sizes) w _
