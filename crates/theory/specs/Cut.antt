-- The members of a set below a bound: weights at N or beyond count nowhere.
use Rattle.std.specs.Prelude.{ℕ, ◌<◌, ◌≤◌, ◌≡◌, ◌↔◌, true, false, ◌&&◌, List, ltb}
use Rattle.std.proofs.Common.{sym, ◌∙◌, ltb-true, lt-ltb, le-ltb}
use Rattle.meaning.specs.Sets.{Set, listed, shared, odd}
use Rattle.meaning.specs.Task.{Operator, Task}
use Rattle.meaning.specs.Feature.{features, parity}
use Rattle.meaning.specs.Weight.{Meets, Separates}
use Rattle.theory.specs.Truth.{on, off, test, clash}
use Rattle.theory.specs.Parity.{dot, dot-cong, dot-comm, odd-shared}

-- The members below n.
unfoldable pub cut : ℕ → Set → Set
cut n a f = ltb f n && a f

pub cut_below : (n : ℕ) (a : Set) (f : ℕ) → f < n → cut n a f ≡ a f
unfolding cut
cut_below n a f l = rw (lt-ltb f n l)

pub cut-past : (n : ℕ) (a : Set) (f : ℕ) → n ≤ f → cut n a f ≡ false
unfolding cut
cut-past n a f l = rw (le-ltb f n l)

pub cut-within : (n : ℕ) (a : Set) (f : ℕ) → cut n a f ≡ true → f < n
unfolding cut
cut-within n a f e = elim (test (ltb f n)) [ on t ↦ ltb-true f n t | off t ↦ absurd (clash e (rw t)) ]

pub cut-dot : (n : ℕ) (w a : Set) → dot n w (cut n a) ≡ dot n w a
cut-dot n w a = dot-cong n w _ _ (cut_below n a)

pub shared-cut : (n : ℕ) (weights a : Set) → odd (shared n (cut n weights) a) ≡ odd (shared n weights a)
shared-cut n weights a = odd-shared n _ a ∙ dot-comm n _ a ∙ cut-dot n a weights ∙ dot-comm n a _ ∙ sym (odd-shared n weights a)

pub parity-cut : (sizes : List ℕ) (weights : Set) (state : List ℕ) → parity sizes (cut (features sizes) weights) state ≡ parity sizes weights state
unfolding parity
parity-cut sizes weights state = shared-cut (features sizes) weights _

pub meets-cut : (sizes : List ℕ) (pairs : Set) (operators : List Operator) (weights : Set)
    → Meets sizes pairs operators (cut (features sizes) weights) ↔ Meets sizes pairs operators weights
meets-cut sizes pairs operators weights = (
  λ h o m b state c. sym (parity-cut sizes weights _) ∙ h o m b state c ∙ parity-cut sizes weights state,
  λ h o m b state c. parity-cut sizes weights _ ∙ h o m b state c ∙ sym (parity-cut sizes weights state),
)

pub separates-cut : (T : Task) (weights : Set) → Separates T weights → Separates T (cut (features T.sizes) weights)
separates-cut T weights h = record {
  ends = rw (parity-cut T.sizes weights T.start, parity-cut T.sizes weights T.goal) h.ends;
  keeps = (meets-cut T.sizes (listed T.pairs) T.operators weights).1 h.keeps;
}
