-- Laws of lists that are made number by number: `flat` joins a list for each number below n, `table` has one value for each.
use Prim.Native.Nat.{ℕ, zero, suc, ◌*◌, ◌<◌, ◌≤◌}
use Rattle.std.specs.Prelude.{◌≡◌, ◌⊎◌, Bool, true, false, ◌||◌, cond, length, get_or, take, replicate}
use Rattle.std.proofs.Math.Path.{refl, ap, ap₂}
use Rattle.std.proofs.Common.{sym, ◌∙◌, inl, inr, length-append}
use mathlib.Core.List.Memᴰ.{head as here}
use mathlib.Core.List.Memᴰ.{tail as there}
use mathlib.Core.List.{List, [], ◌∷◌, ◌++◌, Memᴰ as In}
use mathlib.Core.List.Memᴰ.{cases_cons}
use mathlib.Core.List.Memᴰ.{eq_of_singleton}
use mathlib.Core.List.Memᴰ.{not-nil}
use mathlib.Core.List.Memᴰ.{append_cases}
use mathlib.Core.List.Memᴰ.{append_left}
use mathlib.Core.List.Memᴰ.{append_right}
use native.Mathlib.Omega.{arith}
use Rattle.meaning.specs.Sets.{some, any_of, listed, flat, table}
use Rattle.theory.specs.Truth.{less, same, more, order}
use Rattle.theory.specs.Search.{any-join}

-- ---- small lists

pub in_two : {A : Type 0} {a b c : A} → In a (b ∷ c ∷ []) → (a ≡ b) ⊎ (a ≡ c)
in_two m = elim (cases_cons m) [ inl q ↦ inl q | inr k ↦ inr (eq_of_singleton k) ]

-- A list that is there only on a condition.
pub in-when : {A : Type 0} {a : A} (b : Bool) (l : List A) → In a (cond b l []) → (b ≡ true) × In a l
in-when true l m = (refl, m)
in-when false l m = absurd (not-nil m)

pub when-in : {A : Type 0} {a : A} (b : Bool) (l : List A) → b ≡ true → In a l → In a (cond b l [])
when-in b l e m = rw e m

-- ---- a list for each number

module _ {A : Type 0} where
  pub in-flat : (n : ℕ) (g : ℕ → List A) (i : ℕ) (a : A) → i < n → In a (g i) → In a (flat n g)
  unfolding flat
  in-flat zero g i a l m = absurd (omega arith)
  in-flat (suc n) g i a l m = elim (order i n) [
    | less k ↦ append_left (g n) (in-flat n g i a k m)
    | same q ↦ append_right (flat n g) (rw (← q) m)
    | more k ↦ absurd (omega arith)
  ]

  pub flat_in : (n : ℕ) (g : ℕ → List A) (a : A) → In a (flat n g) → (i : ℕ) × (i < n) × In a (g i)
  unfolding flat
  flat_in zero g a m = absurd (not-nil m)
  flat_in (suc n) g a m = step (append_cases (flat n g) m) (flat_in n g a)
    where
      step : In a (flat n g) ⊎ In a (g n) → (In a (flat n g) → (i : ℕ) × (i < n) × In a (g i)) → (i : ℕ) × (i < suc n) × In a (g i)
      step (inl k) rest = let (i, l, h) = rest k in (i, omega arith, h)
      step (inr k) rest = (n, omega arith, k)

  pub flat-cong : (n : ℕ) (g h : ℕ → List A) → ((i : ℕ) → i < n → g i ≡ h i) → flat n g ≡ flat n h
  unfolding flat
  flat-cong zero g h e = refl
  flat-cong (suc n) g h e = ap₂ ◌++◌ (flat-cong n g h (λ i l. e i (omega arith))) (e n (omega arith))

  pub flat-few : (n b : ℕ) (g : ℕ → List A) → ((i : ℕ) → i < n → length (g i) ≤ b) → length (flat n g) ≤ n * b
  unfolding flat
  flat-few zero b g h = omega arith
  flat-few (suc n) b g h = rw (length-append (flat n g) (g n)) (omega (arith, flat-few n b g (λ i l. h i (omega arith)), h n (omega arith)))

  pub length-flat : (n b : ℕ) (g : ℕ → List A) → ((i : ℕ) → i < n → length (g i) ≡ b) → length (flat n g) ≡ n * b
  unfolding flat
  length-flat zero b g h = omega arith
  length-flat (suc n) b g h = rw (length-append (flat n g) (g n)) (omega (arith, length-flat n b g (λ i l. h i (omega arith)), h n (omega arith)))

  pub any-flat : (p : A → Bool) (n : ℕ) (g : ℕ → List A) → any_of p (flat n g) ≡ some n (λ i. any_of p (g i))
  unfolding flat some any_of
  any-flat p zero g = refl
  any-flat p (suc n) g = any-join p (flat n g) (g n) ∙ ap (λ b. b || any_of p (g n)) (any-flat p n g)

pub listed-flat : (n : ℕ) (g : ℕ → List ℕ) (f : ℕ) → listed (flat n g) f ≡ some n (λ i. listed (g i) f)
unfolding listed
listed-flat n g f = any-flat _ n g

-- ---- a value for each number

module _ {A : Type 0} where
  pub length-table : (n : ℕ) (f : ℕ → A) → length (table n f) ≡ n
  unfolding table
  length-table zero f = refl
  length-table (suc n) f = ap suc (length-table n _)

  pub get_d-table : (n : ℕ) (f : ℕ → A) (i : ℕ) (d : A) → i < n → get_or (table n f) i d ≡ f i
  unfolding table
  get_d-table zero f i d l = absurd (omega arith)
  get_d-table (suc n) f zero d l = refl
  get_d-table (suc n) f (suc i) d l = get_d-table n _ i d (omega arith)

  pub table-cong : (n : ℕ) (f g : ℕ → A) → ((i : ℕ) → i < n → f i ≡ g i) → table n f ≡ table n g
  unfolding table
  table-cong zero f g e = refl
  table-cong (suc n) f g e = ap₂ ◌∷◌ (e 0 (omega arith)) (table-cong n _ _ (λ i l. e (suc i) (omega arith)))

  -- The first places of a list of one value.
  pub take-replicate : (k n : ℕ) (a : A) → k ≤ n → take k (replicate n a) ≡ replicate k a
  take-replicate zero n a h = refl
  take-replicate (suc k) zero a h = absurd (omega arith)
  take-replicate (suc k) (suc n) a h = ap (◌∷◌ a) (take-replicate k n a (omega arith))

  pub get_d-in : (l : List A) (i : ℕ) (d : A) → i < length l → In (get_or l i d) l
  get_d-in [] i d h = absurd (omega arith)
  get_d-in (x ∷ xs) zero d h = here refl
  get_d-in (x ∷ xs) (suc i) d h = there (get_d-in xs i d (omega arith))

  get_d-along : (a d : A) (l : List A) → In a l → (i : ℕ) × (i < length l) × (get_or l i d ≡ a)
  get_d-along a d l (here {x} {xs} q) = (0, omega arith, sym q)
  get_d-along a d l (there {x} {xs} m) = let (i, h, e) = get_d-along a d xs m in (suc i, omega arith, e)

  pub in-get_d : (l : List A) (a d : A) → In a l → (i : ℕ) × (i < length l) × (get_or l i d ≡ a)
  in-get_d l a d = get_d-along a d l

  pub table-in : (n : ℕ) (f : ℕ → A) (i : ℕ) → i < n → In (f i) (table n f)
  unfolding table
  table-in zero f i l = absurd (omega arith)
  table-in (suc n) f zero l = here refl
  table-in (suc n) f (suc i) l = there (table-in n (λ k. f (suc k)) i (omega arith))

  pub in_table : (n : ℕ) (f : ℕ → A) (a : A) → In a (table n f) → (i : ℕ) × (i < n) × (a ≡ f i)
  in_table n f a m = let (i, h, e) = in-get_d (table n f) a a m in let k : i < n = omega (arith, length-table n f) in (i, k, sym e ∙ get_d-table n f i a k)
