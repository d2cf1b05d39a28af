-- `first_breaking`: the operators passed so far are allowed, and those that are left lead to the same place.
use Rattle.std.proofs.Common.{◌≡◌, refl, sym, ap, ◌∙◌, arith}
use Rattle.meaning.specs.Number.{got}
use Rattle.meaning.specs.File.{operator_of}
use Rattle.operator.specs.Known.{operator-is, count-fine}
use Rattle.operator.specs.Fold.{walk_end, walk-unread, walk_more, walk-left}
use Rattle.pairs.specs.Ready.{ready-is}
use Rattle.checking.specs.Breaking.{place_found, search-passes, search-finds}
use Rattle.checking.proofs.first_breaking.Goals as goal
use Rattle.checking.proofs.first_breaking.Goals.{After-entries-entries}

-- What was read.
read : (s : After-entries-entries) → operator_of s.args.sizes.now s.args.bytes.now s.loop-k.next ≡ got s.entries-entries.result s.in-Ok.read.next
read s = rw s.entries-entries.ensures (sym s.in-Ok.ensures)

pub returns-in_default : goal.returns-in_default
returns-in_default c = sym (ap place_found (c.loop-k.invariant ∙ walk-unread _ _ _ _ _ _ _ _ _ (sym c.in_default.ensures)))

pub entries-entries-requires : goal.entries-entries-requires
entries-entries-requires c = let limits = c.requires.0.limits in omega (arith, count-fine _ _ (operator-is _ _ _ _ _ (sym c.in-Ok.ensures)), limits.variables)

pub is_allowed-requires : goal.is_allowed-requires
is_allowed-requires c = let row = c.requires.1 in
    (ready-is c.requires.0 (operator-is _ _ _ _ _ (read (goal.at.is_allowed-requires c).After-entries-entries)), row.long, row.past)

pub returns-then-not-is_allowed : goal.returns-then-not-is_allowed
returns-then-not-is_allowed c = let broken = sym c.is_allowed.ensures ∙ c.if-not-is_allowed.true in
    sym (ap place_found (c.loop-k.invariant
    ∙ walk-left _ _ _ _ _ _ _ _ _ _ c.loop-k-test.true (read (goal.at.returns-then-not-is_allowed c).After-entries-entries) (search-finds _ _ _ _ _ broken) (λ p. refl)))

pub loop-k-preserved : goal.loop-k-preserved
loop-k-preserved c = let fine = sym c.is_allowed.ensures ∙ c.if-not-is_allowed.false in
    c.loop-k.invariant ∙ walk_more _ _ _ _ _ _ _ _ _ _ c.loop-k-test.true (read (goal.at.loop-k-preserved c).After-entries-entries) (search-passes _ _ _ _ _ fine)

pub returns : goal.returns
returns c = sym (ap place_found (c.loop-k.invariant ∙ walk_end _ _ _ _ _ _ _ c.loop-k-test.false))
