-- `groups_at` follows `groups` clause by clause: each answer is one law on what the tests before it found.
use Rattle.std.proofs.lemmas.Result.{err_from_is_err_and}
use Rattle.std.proofs.Common.{ℕ, ◌+◌, ◌-◌, ◌≡◌, sym, ap, ◌∙◌, arith, get_or}
use borrow.Author.Tests.{eq-eqb, ne_eqb}
use Rattle.meaning.specs.Number.{groups, got}
use Rattle.number.specs.Answers.{number_of}
use Rattle.number.specs.Laws.{joined, none_left, ended, last-group, more-groups, groups-below}
use Rattle.number.proofs.+groups_at.Goals as goal
use Rattle.number.proofs.+groups_at.Goals.{After-groups_at, In_ok-high, In_err-high}

-- Where one group follows, the answer is made of what the call finds.
more : (t : ℕ) (c : After-groups_at t) → let a = c.args in
    groups a.most a.first a.bytes.now a.place ≡ joined a.first (get_or a.bytes.now a.place 0) (groups (a.most - 1) a.first a.bytes.now (a.place + 1))
more t c = more-groups _ _ _ _ c.if-most-eq0.false c.if-bytes-place.false c.if-byte-lt-GROUP.false

-- What the call found, where that is a number.
high : (t : ℕ) (c : In_ok-high t) → let a = c.args in
    groups (a.most - 1) a.first a.bytes.now (a.place + 1) ≡ got c.in_ok-high.high.value c.in_ok-high.high.next
high t c = sym c.groups_at.ensures ∙ ap number_of c.in_ok-high.was

pub returns-then-most-eq0 : goal.returns-then-most-eq0
returns-then-most-eq0 t c = sym (none_left _ _ _ _ c.if-most-eq0.true)

pub returns-then-bytes-place : goal.returns-then-bytes-place
returns-then-bytes-place t c = sym (ended _ _ _ _ c.if-most-eq0.false c.if-bytes-place.true)

pub returns-then-byte-lt-GROUP : goal.returns-then-byte-lt-GROUP
returns-then-byte-lt-GROUP t c = sym (last-group _ _ _ _ c.if-most-eq0.false c.if-bytes-place.false c.if-byte-lt-GROUP.true)

pub returns-then-high-eq0 : goal.returns-then-high-eq0
returns-then-high-eq0 t c =
    sym (more t (goal.at.returns-then-high-eq0 t c).After-groups_at ∙ simp (high t (goal.at.returns-then-high-eq0 t c).In_ok-high, eq-eqb _ 0 c.if-high-eq0.true))

pub overflow_mul-result : goal.overflow_mul-result
overflow_mul-result t c = omega (arith, groups-below _ _ _ _ _ _ (omega arith) (high t (goal.at.overflow_mul-result t c).In_ok-high))

pub overflow_add-result-2 : goal.overflow_add-result-2
overflow_add-result-2 t c = omega (arith, groups-below _ _ _ _ _ _ (omega arith) (high t (goal.at.overflow_add-result-2 t c).In_ok-high))

pub returns : goal.returns
returns t c =
    sym (more t (goal.at.returns t c).After-groups_at ∙ simp (high t (goal.at.returns t c).In_ok-high, ne_eqb _ 0 c.if-high-eq0.false))

pub returns-in_err-high : goal.returns-in_err-high
returns-in_err-high t c = let p = err_from_is_err_and c.from_residual.result c.from_residual.ensures.1 in rw (p.1, p.2) (sym (more t (goal.at.returns-in_err-high t c).After-groups_at ∙ simp (sym c.in_err-high.ensures)))
