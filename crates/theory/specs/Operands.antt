-- What an accepted operand of an edit is: an operator with its entries in range, or a state.
use Rattle.std.specs.Prelude.{ℕ, zero, suc, ◌<◌, ◌≤◌, ◌≡◌, refl, Bool, true, false, not, List, [], ◌∷◌, eqb, leb, ltb, length}
use Rattle.std.proofs.Common.{arith, eqb-true, ltb-true, leb-true}
use Rattle.std.proofs.lemmas.Bool.{not-true}
use Rattle.meaning.specs.Task.{Operator, State, Entries, IsOperator, value, size}
use Rattle.meaning.specs.Pair.{closed, holds}
use Rattle.meaning.specs.Number.{Reason, Range, Held, Unclosed}
use Rattle.meaning.specs.File.{inside}
use Rattle.meaning.specs.Workspace.{Content}
use Rattle.meaning.specs.Answer.{OperatorRecord, operator_in, add_operator, replace_start, Judged, fine, faulty, need, entries_judged, values_judged, edit_judged}
use Rattle.theory.specs.Search.{and_left}
use Rattle.theory.specs.Flat.{length-table}

-- What is found fine has passed the test, and what comes after it is fine.
pub need-fine : (b : Bool) (reason : Reason) (rest : Judged) → need b reason rest ≡ fine → (b ≡ true) × (rest ≡ fine)
need-fine true reason rest e = (refl, e)
need-fine false reason rest e = absurd (let z : ◌≡◌ {A = ℕ} 0 1 = cc in omega arith)

-- What is found first decides.
abbrev pub unless : Judged → Judged → Judged
unless fine rest = rest
unless (faulty reason) rest = faulty reason

pub need-unless : (b : Bool) (reason : Reason) (first rest : Judged) → unless (need b reason first) rest ≡ need b reason (unless first rest)
need-unless true reason first rest = refl
need-unless false reason first rest = refl

pub entries-fine : (sizes : List ℕ) (low : ℕ) (o : Operator) (rest : Judged) → entries_judged sizes low o rest ≡ fine → Entries sizes low o × (rest ≡ fine)
unfolding entries_judged
entries-fine sizes low [] rest e = (tt, e)
entries-fine sizes low (x ∷ o) rest e =
    let (inside, e₁) = need-fine _ _ _ e in
    let (above, e₂) = need-fine _ _ _ e₁ in
    let (before, e₃) = need-fine _ _ _ e₂ in
    let (after, e₄) = need-fine _ _ _ e₃ in
    let (later, last) = entries-fine sizes (suc x.variable) o rest e₄ in
    ((leb-true _ _ above, ltb-true _ _ inside, ltb-true _ _ before, ltb-true _ _ after, later), last)

pub values-fine : (sizes values : List ℕ) (rest : Judged) → length values ≡ length sizes → values_judged sizes values rest ≡ fine
    → ((i : ℕ) → i < length sizes → value values i < size sizes i) × (rest ≡ fine)
unfolding values_judged
values-fine [] [] rest l e = (λ i h. absurd (omega arith), e)
values-fine [] (x ∷ xs) rest l e = absurd (omega arith)
values-fine (d ∷ ds) [] rest l e = absurd (omega arith)
values-fine (d ∷ ds) (x ∷ xs) rest l e =
    let (inside, e₁) = need-fine _ _ _ e in
    let (others, last) = values-fine ds xs rest (omega arith) e₁ in
    (λ i. elim i as (λ i. i < length (d ∷ ds) → value (x ∷ xs) i < size (d ∷ ds) i) [ zero ↦ λ h. ltb-true x d inside | suc j ↦ λ h. others j (omega arith) ], last)

-- An operator edit that is found fine brings an operator under which the pairs are closed.
pub add-fine : (c : Content) (r : OperatorRecord) → edit_judged c (add_operator r) ≡ fine
    → (inside 1 (suc (length c.sizes)) r.count ≡ true) × Entries c.sizes 0 (operator_in r) × (closed c.sizes c.pairs (operator_in r) ≡ true)
add-fine c r e =
    let (counted, e₁) = need-fine (inside 1 (suc (length c.sizes)) r.count) Range (entries_judged c.sizes 0 (operator_in r) (need (closed c.sizes c.pairs (operator_in r)) Unclosed fine)) e in
    let (entries, e₂) = entries-fine c.sizes 0 (operator_in r) (need (closed c.sizes c.pairs (operator_in r)) Unclosed fine) e₁ in
    (counted, entries, (need-fine (closed c.sizes c.pairs (operator_in r)) Unclosed fine e₂).0)

pub add-operator : (c : Content) (r : OperatorRecord) → edit_judged c (add_operator r) ≡ fine → IsOperator c.sizes (operator_in r)
unfolding operator_in
add-operator c r e =
    let (counted, entries, _) = add-fine c r e in
    let least : 1 ≤ r.count = leb-true 1 r.count (and_left (leb 1 r.count) (ltb r.count (suc (length c.sizes))) counted) in
    record { filled = rw length-table least; entries = entries }

-- New values that are found fine are a state; as a start they hold no listed pair.
pub goal-fine : (c : Content) (values : List ℕ) (rest : Judged)
    → need (eqb (length values) (length c.sizes)) Range (values_judged c.sizes values rest) ≡ fine → State c.sizes values × (rest ≡ fine)
goal-fine c values rest e =
    let (long, e₁) = need-fine _ _ _ e in
    let (each, e₂) = values-fine c.sizes values rest (eqb-true _ _ long) e₁ in
    (record { full = eqb-true _ _ long; values = each }, e₂)

pub start_fine : (c : Content) (values : List ℕ) → edit_judged c (replace_start values) ≡ fine
    → State c.sizes values × (holds c.sizes c.pairs values ≡ false)
start_fine c values e =
    let (state, e₁) = goal-fine c values (need (not (holds c.sizes c.pairs values)) Held fine) e in
    (state, not-true _ (need-fine (not (holds c.sizes c.pairs values)) Held fine e₁).0)
