-- `drop_unclosed`: the part of the words that is lent for marks is empty; what was marked is taken out, if there is something.
use Rattle.std.proofs.Common.{arith, length}
use Rattle.meaning.specs.Limits.{most_features}
use Rattle.meaning.specs.Workspace.{words_for}
use Rattle.theory.specs.Flat.{take-replicate}
use Rattle.theory.specs.Truth.{clash}
use Rattle.keeping.specs.Turn.{left-some}
use Rattle.keeping.proofs.drop_unclosed.Goals as goal

pub mark_unclosed-requires : goal.mark_unclosed-requires
mark_unclosed-requires c = let p = c.requires in (take-replicate (length c.args.pairs.now) (words_for most_features) 0 (omega (arith, p.0.due, p.0.limits.total)), p.2)

pub returns : goal.returns
returns c = left-some _ _ c.requires.0.entries _ _ _ _ c.mark_unclosed.ensures _ c.add.ensures (λ e. clash (c.is_empty.ensures.back e) c.if-is_empty.false)
