-- All states of some sizes, and all sets of features below a number: what the decisions go through.
use Rattle.std.specs.Prelude.{ℕ, zero, suc, ◌≡◌, refl, Bool, true, false, ◌&&◌, ◌||◌, eqb}
use Rattle.std.proofs.Math.Path.{fun_ext}
use mathlib.Core.List.Memᴰ.{head as here}
use mathlib.Core.List.Memᴰ.{map as in_map}
use mathlib.Core.List.{List, [], ◌∷◌, map, Memᴰ as In}
use Rattle.std.proofs.Common.{arith, lt-ltb, le-ltb, eq-eqb, ne_eqb}
use Rattle.meaning.specs.Sets.{Set, flat}
use Rattle.meaning.specs.Task.{State}
use Rattle.theory.specs.Truth.{on, off, test, less, same, more, order}
use Rattle.theory.specs.Search.{and_left, and_right, and_both}
use Rattle.theory.specs.Flat.{in-flat}
use Rattle.theory.specs.Cut.{cut}
use Rattle.theory.specs.Tells.{Tells}

-- ---- states

-- Every state of the sizes, the first variable's values slowest.
unfoldable pub states : List ℕ → List (List ℕ)
states [] = [] ∷ []
states (d ∷ ds) = flat d (λ x. map (◌∷◌ x) (states ds))

pub in-states : (sizes state : List ℕ) → State sizes state → In state (states sizes)
unfolding states
in-states [] [] h = here refl
in-states [] (x ∷ xs) h = absurd (omega (arith, h.full))
in-states (d ∷ ds) [] h = absurd (omega (arith, h.full))
in-states (d ∷ ds) (x ∷ xs) h = in-flat d _ x (x ∷ xs) (h.values 0 (omega arith)) (in_map (◌∷◌ x) (in-states ds xs rest))
  where
    rest : State ds xs
    rest = record { full = omega (arith, h.full); values = λ i l. h.values (suc i) (omega arith) }

-- ---- sets

-- Every set of numbers below n passes a test, from the empty set up.
unfoldable pub every_set : ℕ → (Set → Bool) → Bool
every_set zero p = p (λ f. false)
every_set (suc n) p = every_set n p && every_set n (λ a. p (λ f. eqb f n || a f))

cut_on : (n : ℕ) (a : Set) → a n ≡ true → cut (suc n) a ≡ (λ f. eqb f n || cut n a f)
unfolding cut
cut_on n a e = fun_ext (λ f. elim (order f n) [
  | less l ↦ rw (lt-ltb f n l, lt-ltb f (suc n) (omega arith), ne_eqb f n (omega arith))
  | same q ↦ rw (q, eq-eqb n n refl, lt-ltb n (suc n) (omega arith)) e
  | more l ↦ rw (le-ltb f n (omega arith), le-ltb f (suc n) (omega arith), ne_eqb f n (omega arith))
])

cut_off : (n : ℕ) (a : Set) → a n ≡ false → cut (suc n) a ≡ cut n a
unfolding cut
cut_off n a e = fun_ext (λ f. elim (order f n) [
  | less l ↦ rw (lt-ltb f n l, lt-ltb f (suc n) (omega arith))
  | same q ↦ rw (q, lt-ltb n (suc n) (omega arith), le-ltb n n (omega arith)) e
  | more l ↦ rw (le-ltb f n (omega arith), le-ltb f (suc n) (omega arith))
])

cut-none : (a : Set) → cut 0 a ≡ (λ f. false)
unfolding cut
cut-none a = fun_ext (λ f. rw (le-ltb f 0 (omega arith)))

pub set_at : (n : ℕ) (p : Set → Bool) → every_set n p ≡ true → (a : Set) → p (cut n a) ≡ true
unfolding every_set
set_at zero p e a = rw (cut-none a) e
set_at (suc n) p e a = elim (test (a n)) [
  | on q ↦ rw (cut_on n a q) (set_at n (λ b. p (λ f. eqb f n || b f)) (and_right (every_set n p) _ e) a)
  | off q ↦ rw (cut_off n a q) (set_at n p (and_left (every_set n p) _ e) a)
]

pub set-each : (n : ℕ) (p : Set → Bool) → ((a : Set) → p a ≡ true) → every_set n p ≡ true
unfolding every_set
set-each zero p h = h (λ f. false)
set-each (suc n) p h = and_both (every_set n p) _ (set-each n p h) (set-each n _ (λ a. h (λ f. eqb f n || a f)))

-- A statement about all sets is decided if the members from n on do not matter.
pub tells-sets : (n : ℕ) (p : Set → Bool) (P : Set → Type 0) → ((a : Set) → P (cut n a) → P a) → ((a : Set) → Tells (p a) (P a)) → Tells (every_set n p) ((a : Set) → P a)
tells-sets n p P up t = record { yes = λ e a. up a ((t (cut n a)).yes (set_at n p e a)); back = λ h. set-each n p (λ a. (t a).back (h a)) }
