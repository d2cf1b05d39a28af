-- The numbers of features: single atoms stand below pairs, all stand below N, and different features have different numbers.
-- A variable past the last one has size 0, so that the bounds of the blocks hold for all variables.
use Rattle.std.specs.Prelude.{ℕ, zero, suc, ◌+◌, ◌*◌, ◌/◌, ◌%◌, ◌<◌, ◌≤◌, ◌≡◌, ◌≢◌, List, [], ◌∷◌, ltb, take}
use Rattle.std.proofs.Math.Path.{refl, ap}
use Rattle.std.proofs.Common.{sym, ◌∙◌, mul-add, mul-le-mul_left, lt-ltb, le-ltb}
use native.Mathlib.Omega.{arith}
use Rattle.std.proofs.Math.Arith.{digits_lt, digits_div, digits_mod}
use Rattle.meaning.specs.Task.{size}
use Rattle.meaning.specs.Feature.{sum_of, pairs_of, atoms, features, single, pair_start, double, both}
use Rattle.theory.specs.Truth.{on, off, test, less, same, more, order}

-- ---- the blocks of numbers

-- The atoms of a variable end within the atoms.
pub front-room : (sizes : List ℕ) (i : ℕ) → sum_of (take i sizes) + size sizes i ≤ sum_of sizes
unfolding sum_of
front-room [] zero = omega arith
front-room [] (suc i) = omega arith
front-room (d ∷ ds) zero = omega arith
front-room (d ∷ ds) (suc i) = omega (arith, front-room ds i)

-- They end where those of a later variable begin, or before.
pub front-next : (sizes : List ℕ) (i j : ℕ) → i < j → sum_of (take i sizes) + size sizes i ≤ sum_of (take j sizes)
unfolding sum_of
front-next sizes i zero l = absurd (omega arith)
front-next [] zero (suc j) l = omega arith
front-next [] (suc i) (suc j) l = omega arith
front-next (d ∷ ds) zero (suc j) l = omega arith
front-next (d ∷ ds) (suc i) (suc j) l = omega (arith, front-next ds i j (omega arith))

times-room : (d : ℕ) (sizes : List ℕ) (i : ℕ) → d * sum_of (take i sizes) + d * size sizes i ≤ d * sum_of sizes
times-room d sizes i = rw (← mul-add) (mul-le-mul_left d (front-room sizes i))

times-next : (d : ℕ) (sizes : List ℕ) (i j : ℕ) → i < j → d * sum_of (take i sizes) + d * size sizes i ≤ d * sum_of (take j sizes)
times-next d sizes i j l = rw (← mul-add) (mul-le-mul_left d (front-next sizes i j l))

-- The pairs of two variables end within the pairs.
pub pair-room : (sizes : List ℕ) (i j : ℕ) → i < j → pair_start sizes i j + size sizes i * size sizes j ≤ pairs_of sizes
unfolding pair_start pairs_of
pair-room [] i j l = omega arith
pair-room (d ∷ ds) i zero l = absurd (omega arith)
pair-room (d ∷ ds) zero (suc j) l = omega (arith, times-room d ds j)
pair-room (d ∷ ds) (suc i) (suc j) l = omega (arith, pair-room ds i j (omega arith))

-- They end before those of the same first and a later second variable.
pub pair-along : (sizes : List ℕ) (i j k : ℕ) → i < j → j < k → pair_start sizes i j + size sizes i * size sizes j ≤ pair_start sizes i k
unfolding pair_start
pair-along [] i j k l m = omega arith
pair-along (d ∷ ds) i zero k l m = absurd (omega arith)
pair-along (d ∷ ds) i (suc j) zero l m = absurd (omega arith)
pair-along (d ∷ ds) zero (suc j) (suc k) l m = omega (arith, times-next d ds j k (omega arith))
pair-along (d ∷ ds) (suc i) (suc j) (suc k) l m = omega (arith, pair-along ds i j k (omega arith) (omega arith))

-- They end before those of a later first variable.
pub pair-down : (sizes : List ℕ) (i j i' j' : ℕ) → i < j → i < i' → i' < j' → pair_start sizes i j + size sizes i * size sizes j ≤ pair_start sizes i' j'
unfolding pair_start
pair-down [] i j i' j' l m k = omega arith
pair-down (d ∷ ds) i zero i' j' l m k = absurd (omega arith)
pair-down (d ∷ ds) i (suc j) zero j' l m k = absurd (omega arith)
pair-down (d ∷ ds) i (suc j) (suc i') zero l m k = absurd (omega arith)
pair-down (d ∷ ds) zero (suc j) (suc i') (suc j') l m k = omega (arith, times-room d ds j)
pair-down (d ∷ ds) (suc i) (suc j) (suc i') (suc j') l m k = omega (arith, pair-down ds i j i' j' (omega arith) (omega arith) (omega arith))

-- ---- two digits

pub digits-only : (s x y x' y' : ℕ) → y < s → y' < s → x * s + y ≡ x' * s + y' → (x ≡ x') × (y ≡ y')
digits-only s x y x' y' h h' e = (sym (digits_div x h) ∙ ap (λ n. n / s) e ∙ digits_div x' h', sym (digits_mod x h) ∙ ap (λ n. n % s) e ∙ digits_mod x' h')

module _ (sizes : List ℕ) where
  pub atoms-room : atoms sizes ≤ features sizes
  unfolding features
  atoms-room = omega arith

  -- ---- single atoms

  pub single-below : (i x : ℕ) → x < size sizes i → single sizes i x < atoms sizes
  unfolding single atoms
  single-below i x h = omega (arith, front-room sizes i)

  -- The atoms of an earlier variable have smaller numbers.
  pub single-later : (i x i' x' : ℕ) → i < i' → x < size sizes i → single sizes i x < single sizes i' x'
  unfolding single
  single-later i x i' x' l h = omega (arith, front-next sizes i i' l)

  pub single-only : (i x i' x' : ℕ) → x < size sizes i → x' < size sizes i' → single sizes i x ≡ single sizes i' x' → (i ≡ i') × (x ≡ x')
  unfolding single
  single-only i x i' x' h h' e = elim (order i i') [
    | less l ↦ absurd (omega (arith, single-later i x i' x' l h))
    | same q ↦ (q, omega (arith, ap (λ n. sum_of (take n sizes)) q))
    | more l ↦ absurd (omega (arith, single-later i' x' i x l h'))
  ]

  -- ---- pairs of atoms, the variables in order

  pub double-above : (i x j y : ℕ) → atoms sizes ≤ double sizes i x j y
  unfolding double
  double-above i x j y = omega arith

  pub double-below : (i x j y : ℕ) → i < j → x < size sizes i → y < size sizes j → double sizes i x j y < features sizes
  unfolding double features
  double-below i x j y l h k = omega (arith, pair-room sizes i j l, digits_lt h k)

  -- The pairs of an earlier first variable have smaller numbers.
  pub double-later : (i x j y i' x' j' y' : ℕ) → i < j → i < i' → i' < j' → x < size sizes i → y < size sizes j → double sizes i x j y < double sizes i' x' j' y'
  unfolding double
  double-later i x j y i' x' j' y' l m l' h k = omega (arith, pair-down sizes i j i' j' l m l', digits_lt h k)

  -- So have those of the same first and an earlier second variable.
  pub double-along : (i x j y x' j' y' : ℕ) → i < j → j < j' → x < size sizes i → y < size sizes j → double sizes i x j y < double sizes i x' j' y'
  unfolding double
  double-along i x j y x' j' y' l m h k = omega (arith, pair-along sizes i j j' l m, digits_lt h k)

  double-at : (i x j y x' y' : ℕ) → y < size sizes j → y' < size sizes j → double sizes i x j y ≡ double sizes i x' j y' → (x ≡ x') × (y ≡ y')
  unfolding double
  double-at i x j y x' y' k k' e = digits-only (size sizes j) x y x' y' k k' (omega arith)

  double-beside : (i x j y x' j' y' : ℕ) → i < j → i < j' → x < size sizes i → y < size sizes j → x' < size sizes i → y' < size sizes j'
      → double sizes i x j y ≡ double sizes i x' j' y' → (x ≡ x') × (j ≡ j') × (y ≡ y')
  double-beside i x j y x' j' y' l l' h k h' k' e = elim (order j j') [
    | less m ↦ absurd (omega (arith, double-along i x j y x' j' y' l m h k))
    | same q ↦ let (a, b) = double-at i x j y x' y' k (rw q k') (e ∙ rw q refl) in (a, q, b)
    | more m ↦ absurd (omega (arith, double-along i x' j' y' x j y l' m h' k'))
  ]

  pub double-only : (i x j y i' x' j' y' : ℕ) → i < j → i' < j' → x < size sizes i → y < size sizes j → x' < size sizes i' → y' < size sizes j'
      → double sizes i x j y ≡ double sizes i' x' j' y' → (i ≡ i') × (x ≡ x') × (j ≡ j') × (y ≡ y')
  double-only i x j y i' x' j' y' l l' h k h' k' e = elim (order i i') [
    | less m ↦ absurd (omega (arith, double-later i x j y i' x' j' y' l m l' h k))
    | same q ↦ let (a, b, c) = double-beside i x j y x' j' y' l (rw q l') h k (rw q h') k' (e ∙ rw q refl) in (q, a, b, c)
    | more m ↦ absurd (omega (arith, double-later i' x' j' y' i x j y l' m l h' k'))
  ]

  -- ---- pairs of atoms, either way round

  pub both-less : (i x j y : ℕ) → i < j → both sizes i x j y ≡ double sizes i x j y
  unfolding both
  both-less i x j y l = rw (lt-ltb i j l) refl

  pub both-more : (i x j y : ℕ) → j < i → both sizes i x j y ≡ double sizes j y i x
  unfolding both
  both-more i x j y l = rw (le-ltb i j (omega arith)) refl

  pub both-mirror : (i x j y : ℕ) → i ≢ j → both sizes i x j y ≡ both sizes j y i x
  both-mirror i x j y d = elim (order i j) [
    | less l ↦ both-less i x j y l ∙ sym (both-more j y i x l)
    | same q ↦ absurd (d q)
    | more l ↦ both-more i x j y l ∙ sym (both-less j y i x l)
  ]

  pub both-above : (i x j y : ℕ) → atoms sizes ≤ both sizes i x j y
  unfolding both
  both-above i x j y = elim (test (ltb i j)) [ on e ↦ rw e (double-above i x j y) | off e ↦ rw e (double-above j y i x) ]

  pub both_below : (i x j y : ℕ) → i ≢ j → x < size sizes i → y < size sizes j → both sizes i x j y < features sizes
  both_below i x j y d h k = elim (order i j) [
    | less l ↦ rw (both-less i x j y l) (double-below i x j y l h k)
    | same q ↦ absurd (d q)
    | more l ↦ rw (both-more i x j y l) (double-below j y i x l k h)
  ]
