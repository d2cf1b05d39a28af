-- The grid's rule: a feature of two atoms changes its truth exactly where the grid has 1; and what that comes to for two variables.
use Rattle.std.specs.Prelude.{ℕ, ◌≡◌, refl, Bool, true, false, not, ◌&&◌, cond, eqb}
use Rattle.std.proofs.Common.{ap, ap₂, sym, ◌∙◌, inl, inr, eqb-true, eq-eqb, ne_eqb}
use Rattle.std.proofs.Math.Bool.{and-false}
use mathlib.Core.List.Memᴰ.{eq_of_singleton}
use mathlib.Core.List.Memᴰ.{head as here}
use mathlib.Core.List.Memᴰ.{tail as there}
use mathlib.Core.List.{List, [], ◌∷◌, flat_map, Memᴰ as In}
use Rattle.std.proofs.lemmas.Bool.{eqb-false}
use Rattle.meaning.specs.Sets.{◌⊕◌, Set, all_of}
use Rattle.meaning.specs.Grid.{Kind, kept, made, used, kind, effect}
use Rattle.theory.specs.Truth.{on, off, test, xor_comm, xor-false, xor-and}
use Rattle.theory.specs.Search.{all-at}
use Rattle.theory.specs.Tells.{tells-same}
use Rattle.theory.specs.Flat.{in_two}
use Rattle.theory.specs.Toggles.{xor_of, xor_same, xor-plus, xor-map, xor-when}

-- The grid has 1 for the kinds of two atoms.
abbrev pub turns : Kind → Kind → Bool
turns a b = eqb (effect a b) 1

-- "True before" and "true after", for the four kinds: absent, kept, made, used.
abbrev truths : List (Bool × Bool)
truths = (false, false) ∷ (true, true) ∷ (false, true) ∷ (true, false) ∷ []

in-truths : (p q : Bool) → In (p, q) truths
in-truths false false = here refl
in-truths true true = there (here refl)
in-truths false true = there (there (here refl))
in-truths true false = there (there (there (here refl)))

-- The table's rule, for two atoms: a feature that is true before or after, and not both, is turned.
unfoldable ruled : Bool × Bool → Bool × Bool → Bool
ruled x y = not (turns (kind x.0 x.1) (kind y.0 y.1) ⊕ ((x.0 && y.0) ⊕ (x.1 && y.1)))

-- All sixteen entries of the table, by computing.
computed : all_of (λ x. all_of (ruled x) truths) truths ≡ true
unfolding all_of ruled
computed = refl

pub grid-rule : (p q p' q' : Bool) → turns (kind p q) (kind p' q') ≡ (p && p') ⊕ (q && q')
unfolding ruled
grid-rule p q p' q' = (tells-same _ _).yes (all-at (ruled (p, q)) truths (all-at _ truths computed (p, q) (in-truths p q)) (p', q') (in-truths p' q'))

-- The atoms of a variable that goes from one value to another, with their kinds; an unnamed variable goes from its value to the same.
unfoldable pub kinds_of : ℕ → ℕ → List (ℕ × Kind)
kinds_of before after = cond (eqb before after) ((before, kept) ∷ []) ((before, used) ∷ (after, made) ∷ [])

pub kinds-right : (b a : ℕ) (z : ℕ × Kind) → In z (kinds_of b a) → z.1 ≡ kind (eqb z.0 b) (eqb z.0 a)
unfolding kinds_of
kinds-right b a z m = elim (test (eqb b a)) [
  | on p ↦ right (b, kept) (rw (eq-eqb b b refl, p) refl) (eq_of_singleton (rw p at m))
  | off p ↦ elim (in_two (rw p at m)) [
    | inl q ↦ right (b, used) (rw (eq-eqb b b refl, p) refl) q
    | inr q ↦ right (a, made) (rw (ne_eqb a b (λ e. eqb-false b a p (sym e)), eq-eqb a a refl) refl) q
  ]
]
  where
    right : (y : ℕ × Kind) → y.1 ≡ kind (eqb y.0 b) (eqb y.0 a) → z ≡ y → z.1 ≡ kind (eqb z.0 b) (eqb z.0 a)
    right y e q = rw q e

-- The sum of w over the pairs of atoms for which the grid has 1.
unfoldable pub grid_sum : (ℕ → ℕ → Bool) → List (ℕ × Kind) → List (ℕ × Kind) → Bool
grid_sum w l m = xor_of (λ x. xor_of (λ y. turns x.1 y.1 && w x.0 y.0) m) l

-- Each of a variable's two values is one of its atoms, once.
before-once : (b a : ℕ) (g : ℕ → Bool) → xor_of (λ z. eqb z.0 b && g z.0) (kinds_of b a) ≡ g b
unfolding kinds_of xor_of
before-once b a g = elim (test (eqb b a)) [
  | on p ↦ rw (p, eq-eqb b b refl) (xor-false (g b))
  | off p ↦ rw (p, eq-eqb b b refl, ne_eqb a b (λ e. eqb-false b a p (sym e))) (xor-false (g b))
]

after-once : (b a : ℕ) (g : ℕ → Bool) → xor_of (λ z. eqb z.0 a && g z.0) (kinds_of b a) ≡ g a
unfolding kinds_of xor_of
after-once b a g = elim (test (eqb b a)) [
  | on p ↦ rw (p, p) (xor-false (g b) ∙ ap g (eqb-true b a p))
  | off p ↦ rw (p, p, eq-eqb a a refl) (xor-false (g a))
]

-- What two variables change together: what is true after, and what was true before.
pub grid-pair : (w : ℕ → ℕ → Bool) (b a b' a' : ℕ) → grid_sum w (kinds_of b a) (kinds_of b' a') ≡ w a a' ⊕ w b b'
unfolding grid_sum
grid-pair w b a b' a' = xor_same _ _ (kinds_of b a) (λ x i. xor_same _ _ (kinds_of b' a') (λ y j. entry x y i j) ∙ inner x.0)
    ∙ xor-plus _ _ (kinds_of b a) ∙ ap₂ ◌⊕◌ (before-once b a (λ x. w x b')) (after-once b a (λ x. w x a')) ∙ xor_comm (w b b') (w a a')
  where
    inward : (p p' r : Bool) → ((p && p') && r) ≡ (p' && (p && r))
    inward true p' r = refl
    inward false p' r = sym (and-false p')

    entry : (x y : ℕ × Kind) → In x (kinds_of b a) → In y (kinds_of b' a')
        → (turns x.1 y.1 && w x.0 y.0) ≡ (eqb y.0 b' && (eqb x.0 b && w x.0 y.0)) ⊕ (eqb y.0 a' && (eqb x.0 a && w x.0 y.0))
    entry x y i j = rw (kinds-right b a x i, kinds-right b' a' y j, grid-rule (eqb x.0 b) (eqb x.0 a) (eqb y.0 b') (eqb y.0 a'))
        (xor-and (eqb x.0 b && eqb y.0 b') _ _ ∙ ap₂ ◌⊕◌ (inward (eqb x.0 b) _ _) (inward (eqb x.0 a) _ _))

    inner : (x : ℕ) → xor_of (λ y. (eqb y.0 b' && (eqb x b && w x y.0)) ⊕ (eqb y.0 a' && (eqb x a && w x y.0))) (kinds_of b' a')
        ≡ (eqb x b && w x b') ⊕ (eqb x a && w x a')
    inner x = xor-plus _ _ (kinds_of b' a') ∙ ap₂ ◌⊕◌ (before-once b' a' (λ y. eqb x b && w x y)) (after-once b' a' (λ y. eqb x a && w x y))

-- The features of those pairs of atoms, as a list.
unfoldable pub grid_features : (ℕ → ℕ → ℕ) → List (ℕ × Kind) → List (ℕ × Kind) → List ℕ
grid_features feature l m = flat_map (λ x. flat_map (λ y. cond (turns x.1 y.1) (feature x.0 y.0 ∷ []) []) m) l

pub grid-features : (w : Set) (feature : ℕ → ℕ → ℕ) (l m : List (ℕ × Kind)) → xor_of w (grid_features feature l m) ≡ grid_sum (λ x y. w (feature x y)) l m
unfolding grid_features grid_sum
grid-features w feature l m = xor-map w _ l ∙ xor_same _ _ l (λ x i. xor-map w _ m ∙ xor_same _ _ m (λ y j. xor-when w (turns x.1 y.1) _))
