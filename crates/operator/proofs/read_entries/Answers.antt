-- `read_entries` reads entry by entry: at each turn the entries that are held, with those that are read from here on, are all entries.
use Rattle.std.proofs.Common.{◌≡◌, ◌<◌, ◌+◌, ◌-◌, [], ◌∷◌, sym, ap, ◌∙◌, arith, length, length-set}
use native.Mathlib.Nat.{sub-zero}
use Rattle.std.proofs.lemmas.Result.{err_from_is_err_and}
use Rattle.meaning.specs.Number.{got}
use Rattle.meaning.specs.File.{entries_of}
use Rattle.theory.specs.Parts.{entries-said}
use Rattle.meaning.specs.Sets.{table}
use Rattle.meaning.specs.Answer.{operator_in}
use Rattle.operator.specs.Records.{first_of}
use Rattle.operator.specs.Laws.{behind, behind-none, held_more, read_more, read-fault, read_all}
use Rattle.operator.proofs.read_entries.Goals as goal
use Rattle.operator.proofs.read_entries.Goals.{In_ok-read}

-- The entry that was read, and that its variable is one.
entry : (c : In_ok-read) → let a = c.args in let l = c.loop-k in
    entries_of a.sizes.now 1 l.least a.bytes.now l.next ≡ got (c.in_ok-read.read.entry ∷ []) c.in_ok-read.read.next
entry c = sym c.in_ok-read.ensures

below : (c : In_ok-read) → c.in_ok-read.read.entry.variable < length c.args.sizes.now
below c = ((entries-said _ _ 1 _).gives _ _ _ (entry c)).known.1.1

pub loop-k-init : goal.loop-k-init
unfolding operator_in table
loop-k-init c =
    let made = c.blank-operator.ensures in (
      ap (λ o. o.count) made,
      record { variables = ap (λ o. length o.variables) made; befores = ap (λ o. length o.befores) made; afters = ap (λ o. length o.afters) made },
      simp (sub-zero, behind-none),
    )

pub overflow_add-least : goal.overflow_add-least
overflow_add-least c = omega (arith, below (goal.at.overflow_add-least c).In_ok-read)

pub loop-k-preserved : goal.loop-k-preserved
loop-k-preserved c =
    let a = c.args in
    let l = c.loop-k in
    let o = l.operator in
    let read = c.in_ok-read.read in (
      l.invariant.0,
      record {
        variables = length-set o.variables l.k _ ∙ l.invariant.1.variables;
        befores = length-set o.befores l.k _ ∙ l.invariant.1.befores;
        afters = length-set o.afters l.k _ ∙ l.invariant.1.afters;
      },
      l.invariant.2
          ∙ read_more _ _ _ l.k (first_of l.k o) _ _ _ _ c.loop-k-test.true (entry (goal.at.loop-k-preserved c).In_ok-read)
          ∙ ap (λ held. behind held (entries_of a.sizes.now (a.count - (l.k + 1)) (read.entry.variable + 1) a.bytes.now read.next)) (sym (held_more l.k _ _ _ o.variables o.befores o.afters (omega arith) (omega arith) (omega arith))),
    )

pub returns-in_err-read : goal.returns-in_err-read
returns-in_err-read c =
    let l = c.loop-k in
    let p = err_from_is_err_and c.from_residual.result c.from_residual.ensures.1 in
    rw (p.1, p.2) (sym (l.invariant.2 ∙ read-fault _ _ _ _ (first_of l.k l.operator) _ _ _ _ c.loop-k-test.true (sym c.in_err-read.ensures)))

pub returns : goal.returns
returns c =
    let l = c.loop-k in
    let o = l.operator in
    let all : l.k ≡ o.count = omega arith in
    sym (l.invariant.2 ∙ read_all _ _ _ _ (first_of l.k o) _ _ c.loop-k-test.false ∙ ap (λ n. got (first_of n o) l.next) all)
