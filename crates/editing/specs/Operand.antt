-- What is judged of an operand, by the sizes and the listed pairs of a workspace: new values one at a time, and what is judged after them.
use Rattle.std.specs.Prelude.{ℕ, suc, ◌<◌, ◌≤◌, ◌≡◌, ◌⊎◌, refl, Bool, not, List, [], ◌∷◌, eqb, ltb, length}
use Rattle.std.proofs.Common.{ap, ap₂, sym, ◌∙◌, inl, inr, arith, eqb-true, eq-eqb, ltb-false}
use Rattle.meaning.specs.Sets.{Set}
use Rattle.meaning.specs.Task.{State, size, value}
use Rattle.meaning.specs.Pair.{closed, holds}
use Rattle.meaning.specs.Number.{Range, Held, Unclosed}
use Rattle.meaning.specs.File.{inside}
use Rattle.meaning.specs.Answer.{OperatorRecord, operator_in, Judged, fine, faulty, need, entries_judged, values_judged}
use Rattle.theory.specs.Truth.{on, off, test}
use Rattle.theory.specs.Tells.{Tells, tells-never}
use Rattle.theory.specs.Operands.{need-fine, unless, need-unless, values-fine}
use Rattle.editing.specs.declared.End.{End}
use Rattle.editing.specs.declared.End.TheVariants.{Start, Goal}

-- What an edit judges of new values before the rest, of values for an end, and of an operator.
abbrev pub values_and : Judged → List ℕ → List ℕ → Judged
values_and rest sizes values = need (eqb (length values) (length sizes)) Range (values_judged sizes values rest)

abbrev pub held_judged : End → List ℕ → Set → List ℕ → Judged
held_judged Start sizes pairs values = need (not (holds sizes pairs values)) Held fine
held_judged Goal sizes pairs values = fine

abbrev pub end_judged : End → List ℕ → Set → List ℕ → Judged
end_judged end sizes pairs values = values_and (held_judged end sizes pairs values) sizes values

abbrev pub operator_judged : List ℕ → Set → OperatorRecord → Judged
operator_judged sizes pairs r =
    need (inside 1 (suc (length sizes)) r.count) Range (entries_judged sizes 0 (operator_in r) (need (closed sizes pairs (operator_in r)) Unclosed fine))

-- What is judged of a start is whether it holds a listed pair; of a goal, nothing.
pub start-held : (end : End) (sizes : List ℕ) (pairs : Set) (values : List ℕ) (held : Bool) → end ≡ Start → holds sizes pairs values ≡ held
    → held_judged end sizes pairs values ≡ need (not held) Held fine
start-held end sizes pairs values held e h = rw (e, h)

pub goal-free : (end : End) (sizes : List ℕ) (pairs : Set) (values : List ℕ) → end ≡ Goal → held_judged end sizes pairs values ≡ fine
goal-free end sizes pairs values e = rw e

-- ---- values

-- Values are found fine, or one of them is out of its range.
each-or : (sizes values : List ℕ) → length values ≡ length sizes
    → (values_judged sizes values fine ≡ fine) ⊎ ((values_judged sizes values fine ≡ faulty Range) × (i : ℕ) × (i < length sizes) × (size sizes i ≤ value values i))
unfolding values_judged
each-or [] values l = inl refl
each-or (d ∷ ds) [] l = absurd (omega arith)
each-or (d ∷ ds) (x ∷ xs) l = elim (test (ltb x d)) [
  | on e ↦ elim (each-or ds xs (omega arith)) [ inl f ↦ inl (rw (e, f) refl) | inr (f, i, k, h) ↦ inr (rw e f, suc i, omega arith, h) ]
  | off e ↦ inr (rw e refl, 0, omega arith, ltb-false x d e)
]

-- A test of whether they are a state tells what is judged of them.
pub values-told : (sizes values : List ℕ) (b : Bool) → length values ≡ length sizes → Tells b (State sizes values) → need b Range fine ≡ values_and fine sizes values
values-told sizes values b l t = elim (each-or sizes values l) [
  | inl e ↦ rw (eq-eqb _ _ l, e, t.back (record { full = l; values = (values-fine sizes values fine l e).0 })) refl
  | inr (e, i, k, h) ↦ rw (eq-eqb _ _ l, e, tells-never t (λ s. omega (arith, s.values i k, h))) refl
]

-- What is judged after the values.
values-unless : (sizes values : List ℕ) (rest : Judged) → values_judged sizes values rest ≡ unless (values_judged sizes values fine) rest
unfolding values_judged
values-unless [] values rest = refl
values-unless (d ∷ ds) [] rest = refl
values-unless (d ∷ ds) (x ∷ xs) rest = rw (values-unless ds xs rest) (sym (need-unless (ltb x d) Range (values_judged ds xs fine) rest))

pub end_after : (end : End) (sizes : List ℕ) (pairs : Set) (values : List ℕ) (first rest : Judged) → values_and fine sizes values ≡ first
    → held_judged end sizes pairs values ≡ rest
    → end_judged end sizes pairs values ≡ unless first rest
end_after end sizes pairs values first rest e h =
    ap (need (eqb (length values) (length sizes)) Range) (values-unless sizes values (held_judged end sizes pairs values))
    ∙ sym (need-unless (eqb (length values) (length sizes)) Range (values_judged sizes values fine) (held_judged end sizes pairs values))
    ∙ ap₂ unless e h

-- Values that are found fine are a state.
module _ (sizes values : List ℕ) (rest : Judged) (e : values_and rest sizes values ≡ fine) where
  pub values-long : length values ≡ length sizes
  values-long = eqb-true _ _ (need-fine (eqb (length values) (length sizes)) Range (values_judged sizes values rest) e).0

  pub values-state : State sizes values
  values-state = record { full = values-long; values = (values-fine sizes values rest values-long (need-fine (eqb (length values) (length sizes)) Range (values_judged sizes values rest) e).1).0 }
