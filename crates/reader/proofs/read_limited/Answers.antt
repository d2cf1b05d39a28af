-- `read_limited` meets its contract: what is known after the sizes, and then N is judged.
use Rattle.std.proofs.lemmas.Result.{err_from_is_err_and}
use Prim.Native.Nat.{◌≤◌}
use mathlib.Core.Path.{refl, sym, subst, ap, ◌∙◌}
use native.Mathlib.Omega.{arith}
use lib.ListN.{get_or}
use Rattle.meaning.specs.Limits.{most_variables}
use Rattle.meaning.specs.File.{limited}
use Rattle.reader.specs.Answer.{reads-unread}
use Rattle.reader.specs.After.{after-sizes}
use Rattle.reader.specs.Header.{Within, Sized, sizes-known, sizes-judged}
use Rattle.reader.proofs.read_limited.Given as given
use Rattle.reader.proofs.read_limited.Goals as goal
use Rattle.reader.proofs.read_limited.Goals.{In_ok-next, After-sizes}

-- What is known after the sizes.
sized : (g : given.Over) (c : In_ok-next g) → let a = c.args in
    Sized a.bytes.now a.at a.least a.most a.header.now c.read_sizes.new.header c.in_ok-next.next
sized g c = sizes-known _ _ _ _ _ _ _ c.in_ok-next.ensures

-- The sizes that are lent to be counted.
within : (g : given.Over) (c : After-sizes g) → Within c.args.most c.sizes.result.now
within g c = let s = sized g (goal.at.After-sizes g c).In_ok-next in subst (Within c.args.most) (sym (after-sizes s c.sizes.ensures)) s.known

pub sizes-requires : goal.sizes-requires
sizes-requires g c = let s = sized g (goal.at.sizes-requires g c).In_ok-next in
    let few : get_or c.read_sizes.new.header 0 0 ≤ most_variables = omega (arith, s.count, s.known.few) in (few, omega (arith, few))

pub count-n-requires : goal.count-n-requires
count-n-requires g c = (c.requires.1.2 _ (within g (goal.at.count-n-requires g c).After-sizes)).0

pub returns : goal.returns
returns g c = let s = sized g (goal.at.returns g c).In_ok-next in
    sizes-judged _ _ _ _ g.total _ _ _ _ _ s ((c.requires.1.2 _ (within g (goal.at.returns g c).After-sizes)).1 _ c.count-n.ensures ∙ ap g.total (after-sizes s c.sizes.ensures))
    c.judge_features.ensures

pub returns-in_err-next : goal.returns-in_err-next
unfolding limited
returns-in_err-next g c = let p = err_from_is_err_and c.from_residual.result c.from_residual.ensures.1 in rw (p.1, p.2) (reads-unread _ _ _ _ _ _ _ c.in_err-next.ensures refl)
