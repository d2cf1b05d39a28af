-- Sums of truth values over a list, and sets that are made by toggling the numbers of a list one after another.
use Prim.Native.Nat.{ℕ, zero, suc, ◌<◌, ◌≤◌}
use Rattle.std.specs.Prelude.{◌≡◌, Bool, ◌&&◌, cond, eqb, ltb}
use Rattle.std.proofs.Math.Path.{refl, ap, ap₂, sym, fun_ext}
use Rattle.std.proofs.Common.{◌∙◌, inl, inr, arith, ltb-true, ltb-false, ne_eqb}
use Rattle.std.proofs.Math.Bool.{true, false}
use mathlib.Core.List.Memᴰ.{append_cases}
use mathlib.Core.List.Memᴰ.{head as here}
use mathlib.Core.List.Memᴰ.{tail as there}
use mathlib.Core.List.{List, [], ◌∷◌, ◌++◌, flat_map, Memᴰ as In}
use Rattle.meaning.specs.Sets.{◌⊕◌, Set, flat}
use Rattle.theory.specs.Truth.{on, off, test, xors, xor_assoc, xor-false}
use Rattle.theory.specs.Flat.{in_two, flat_in}
use Rattle.theory.specs.Parity.{par, dot, dot-xor, dot-one, dot-none, dot-comm}

-- The sum of a test's values over a list: whether an odd number of elements pass.
unfoldable pub xor_of : {A : Type 0} → (A → Bool) → List A → Bool
xor_of p [] = false
xor_of p (a ∷ l) = p a ⊕ xor_of p l

-- A number is in the set if the list has it an odd number of times.
unfoldable pub toggles : List ℕ → Set
toggles l f = xor_of (eqb f) l

module _ {A : Type 0} where
  pub xor_same : (p q : A → Bool) (l : List A) → ((a : A) → In a l → p a ≡ q a) → xor_of p l ≡ xor_of q l
  unfolding xor_of
  xor_same p q [] h = refl
  xor_same p q (x ∷ xs) h = ap₂ ◌⊕◌ (h x (here refl)) (xor_same p q xs (λ a m. h a (there m)))

  pub xor-none : (p : A → Bool) (l : List A) → ((a : A) → In a l → p a ≡ false) → xor_of p l ≡ false
  unfolding xor_of
  xor-none p [] h = refl
  xor-none p (x ∷ xs) h = ap₂ ◌⊕◌ (h x (here refl)) (xor-none p xs (λ a m. h a (there m)))

  pub xor-plus : (p q : A → Bool) (l : List A) → xor_of (λ a. p a ⊕ q a) l ≡ xor_of p l ⊕ xor_of q l
  unfolding xor_of
  xor-plus p q [] = refl
  xor-plus p q (x ∷ xs) = rw (xor-plus p q xs) (simp xors)

  pub xor-two : (p : A → Bool) (a b : A) → xor_of p (a ∷ b ∷ []) ≡ p a ⊕ p b
  unfolding xor_of
  xor-two p a b = ap (◌⊕◌ (p a)) (xor-false (p b))

  pub xor-join : (p : A → Bool) (l m : List A) → xor_of p (l ++ m) ≡ xor_of p l ⊕ xor_of p m
  unfolding xor_of
  xor-join p [] m = refl
  xor-join p (x ∷ xs) m = ap (◌⊕◌ (p x)) (xor-join p xs m) ∙ sym (xor_assoc (p x) (xor_of p xs) (xor_of p m))

  pub xor-flat : (p : A → Bool) (n : ℕ) (g : ℕ → List A) → xor_of p (flat n g) ≡ par n (λ i. xor_of p (g i))
  unfolding flat par xor_of
  xor-flat p zero g = refl
  xor-flat p (suc n) g = xor-join p (flat n g) (g n) ∙ ap (λ b. b ⊕ xor_of p (g n)) (xor-flat p n g)

  pub xor-map : {B : Type 0} (p : A → Bool) (g : B → List A) (l : List B) → xor_of p (flat_map g l) ≡ xor_of (λ b. xor_of p (g b)) l
  unfolding xor_of flat_map
  xor-map p g [] = refl
  xor-map p g (x ∷ xs) = xor-join p (g x) (flat_map g xs) ∙ ap (◌⊕◌ (xor_of p (g x))) (xor-map p g xs)

  -- An element that is there only on a condition.
  pub xor-when : (p : A → Bool) (b : Bool) (a : A) → xor_of p (cond b (a ∷ []) []) ≡ (b && p a)
  unfolding xor_of
  xor-when p true a = xor-false (p a)
  xor-when p false a = refl

-- ---- toggling

pub toggles-one : (m f : ℕ) → toggles (m ∷ []) f ≡ eqb f m
unfolding toggles xor_of
toggles-one m f = xor-false (eqb f m)

pub toggles-join : (l m : List ℕ) (f : ℕ) → toggles (l ++ m) f ≡ toggles l f ⊕ toggles m f
unfolding toggles
toggles-join l m f = xor-join (eqb f) l m

pub toggles-flat : (n : ℕ) (g : ℕ → List ℕ) (f : ℕ) → toggles (flat n g) f ≡ par n (λ i. toggles (g i) f)
unfolding toggles
toggles-flat n g f = xor-flat (eqb f) n g

-- All numbers of a list are below n.
abbrev pub Below : ℕ → List ℕ → Type 0
Below n l = (m : ℕ) → In m l → m < n

pub below_two : (n a b : ℕ) → a < n → b < n → Below n (a ∷ b ∷ [])
below_two n a b p q m k = elim (in_two k) [ inl z ↦ rw z p | inr z ↦ rw z q ]

pub below-join : (n : ℕ) (l m : List ℕ) → Below n l → Below n m → Below n (l ++ m)
below-join n l m p q k i = elim (append_cases l i) [ inl j ↦ p k j | inr j ↦ q k j ]

pub below-flat : (n c : ℕ) (g : ℕ → List ℕ) → ((i : ℕ) → i < c → Below n (g i)) → Below n (flat c g)
below-flat n c g h m k = let (i, l, j) = flat_in c g m k in h i l m j

pub toggles-past : (n : ℕ) (l : List ℕ) (f : ℕ) → Below n l → n ≤ f → toggles l f ≡ false
unfolding toggles
toggles-past n l f below h = xor-none (eqb f) l (λ m k. ne_eqb f m (λ z. omega (arith, below m k)))

-- What weights share with a toggled set, number by number of the list.
pub dot-toggles : (n : ℕ) (w : Set) (l : List ℕ) → Below n l → dot n w (toggles l) ≡ xor_of w l
unfolding toggles xor_of
dot-toggles n w [] h = dot-none n w _ (λ f k. refl)
dot-toggles n w (m ∷ l) h = dot-xor n w _ _ ∙ ap₂ ◌⊕◌ (dot-one n m w (h m (here refl))) (dot-toggles n w l (λ k i. h k (there i)))

-- Sets below n with which all weights share alike are equal there.
pub same-dots : (n : ℕ) (a b : Set) → ((w : Set) → dot n w a ≡ dot n w b) → (f : ℕ) → f < n → a f ≡ b f
same-dots n a b h f l = sym (read a) ∙ h (λ g. eqb g f) ∙ read b
  where
    read : (c : Set) → dot n (λ g. eqb g f) c ≡ c f
    read c = dot-comm n (λ g. eqb g f) c ∙ dot-one n f c l

-- A set with nothing from n on, with which all weights share what they sum up to over a list below n, is made by toggling that list.
pub toggled : (n : ℕ) (a : Set) (l : List ℕ) → ((f : ℕ) → n ≤ f → a f ≡ false) → Below n l → ((w : Set) → dot n w a ≡ xor_of w l) → a ≡ toggles l
toggled n a l past below h = fun_ext (λ f. elim (test (ltb f n)) [
  | on e ↦ same-dots n a (toggles l) (λ w. h w ∙ sym (dot-toggles n w l below)) f (ltb-true f n e)
  | off e ↦ past f (ltb-false f n e) ∙ sym (toggles-past n l f below (ltb-false f n e))
])
