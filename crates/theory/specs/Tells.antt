-- A truth value that tells whether a statement holds, and how such tests are put together.
use Rattle.std.specs.Prelude.{ℕ, ◌<◌, ◌≤◌, ◌≡◌, refl, ◌≢◌, Bool, true, false, not, ◌&&◌, ◌||◌, eqb, leb, ltb}
use Rattle.std.proofs.Common.{sym, ap, true≢false, eqb-true, eq-eqb, ltb-true, lt-ltb, leb-true, le-leb}
use mathlib.Core.List.{List, Memᴰ as In}
use Rattle.std.proofs.lemmas.Bool.{not-true}
use Rattle.meaning.specs.Sets.{◌⊕◌, every, all_of}
use Rattle.theory.specs.Truth.{on, off, test, clash, xor-true-differ, differ-xor, xor-false-same, xor_self}
use Rattle.theory.specs.Search.{and_left, and_right, and_both, or_left, or_right, true-together}
use Rattle.theory.specs.Search.{every-each, every-at, all-each, all-at}

-- b is true exactly when P holds.
pub record Tells (b : Bool) (P : Type 0) : Type 0 where
  pub yes : b ≡ true → P
  pub back : P → b ≡ true

-- An answer that is known.
pub told-yes : {P : Type 0} → P → Tells true P
told-yes p = record { yes = λ _. p; back = λ _. refl }

pub told-no : {P : Type 0} → (P → ⊥) → Tells false P
told-no d = record { yes = λ e. absurd (true≢false (sym e)); back = λ p. absurd (d p) }

-- ---- using a test

pub tells-no : {b : Bool} {P : Type 0} → Tells b P → b ≡ false → P → ⊥
tells-no t e h = clash (t.back h) e

pub tells-never : {b : Bool} {P : Type 0} → Tells b P → (P → ⊥) → b ≡ false
tells-never {b} t d = elim (test b) [ on e ↦ absurd (d (t.yes e)) | off e ↦ e ]

pub tells-agree : {a b : Bool} {P : Type 0} → Tells a P → Tells b P → a ≡ b
tells-agree {a} {b} s t = true-together a b (λ e. t.back (s.yes e)) (λ e. s.back (t.yes e))

pub tells-map : {b : Bool} {P Q : Type 0} → (P → Q) → (Q → P) → Tells b P → Tells b Q
tells-map to from t = record { yes = λ e. to (t.yes e); back = λ h. t.back (from h) }

-- ---- truth values

pub tells-true : (b : Bool) → Tells b (b ≡ true)
tells-true b = record { yes = λ e. e; back = λ e. e }

pub tells-false : (b : Bool) → Tells (not b) (b ≡ false)
tells-false b = record { yes = not-true b; back = λ e. ap not e }

pub tells-differ : (a b : Bool) → Tells (a ⊕ b) (a ≢ b)
tells-differ a b = record { yes = xor-true-differ a b; back = differ-xor a b }

pub tells-same : (a b : Bool) → Tells (not (a ⊕ b)) (a ≡ b)
tells-same a b = record { yes = λ e. xor-false-same a b (not-true (a ⊕ b) e); back = λ e. rw e (ap not (xor_self b)) }

pub tells-and : {a b : Bool} {P Q : Type 0} → Tells a P → Tells b Q → Tells (a && b) (P × Q)
tells-and {a} {b} s t = record { yes = λ e. (s.yes (and_left a b e), t.yes (and_right a b e)); back = λ h. and_both a b (s.back h.0) (t.back h.1) }

pub tells-not : {b : Bool} {P : Type 0} → Tells b P → Tells (not b) (P → ⊥)
tells-not {b} t = record { yes = λ e. tells-no t (not-true b e); back = λ d. ap not (tells-never t d) }

pub tells-imp : {a b : Bool} {P Q : Type 0} → Tells a P → Tells b Q → Tells (not a || b) (P → Q)
tells-imp {a} {b} s t = record {
  yes = λ e h. t.yes (forth e (s.back h));
  back = λ h. elim (test a) [
    | on e ↦ or_right (not a) b (t.back (h (s.yes e)))
    | off e ↦ or_left (not a) b (ap not e)
  ];
}
  where
    forth : (not a || b) ≡ true → a ≡ true → b ≡ true
    forth e q = rw q at e

-- ---- searches

pub tells-every : (n : ℕ) (p : ℕ → Bool) (P : ℕ → Type 0) → ((i : ℕ) → i < n → Tells (p i) (P i)) → Tells (every n p) ((i : ℕ) → i < n → P i)
tells-every n p P t = record { yes = λ e i l. (t i l).yes (every-at n p e i l); back = λ h. every-each n p (λ i l. (t i l).back (h i l)) }

pub tells_all : {A : Type 0} (p : A → Bool) (P : A → Type 0) (l : List A) → ((a : A) → In a l → Tells (p a) (P a)) → Tells (all_of p l) ((a : A) → In a l → P a)
tells_all p P l t = record { yes = λ e a m. (t a m).yes (all-at p l e a m); back = λ h. all-each p l (λ a m. (t a m).back (h a m)) }

-- ---- numbers and lists of numbers

pub tells-eq : (a b : ℕ) → Tells (eqb a b) (a ≡ b)
tells-eq a b = record { yes = eqb-true a b; back = eq-eqb a b }

pub tells-lt : (a b : ℕ) → Tells (ltb a b) (a < b)
tells-lt a b = record { yes = ltb-true a b; back = lt-ltb a b }

pub tells-le : (a b : ℕ) → Tells (leb a b) (a ≤ b)
tells-le a b = record { yes = leb-true a b; back = le-leb a b }
