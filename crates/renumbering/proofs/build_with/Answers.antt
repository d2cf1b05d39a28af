-- `build_with`: sizes, start and goal are put, the words behind them are still 0, and there the pairs go.
use mathlib.Core.List.{◌++◌}
use mathlib.Core.Path.{◌≡◌, sym, ap, ◌∙◌}
use native.Mathlib.Omega.{arith}
use lib.ListN.{length}
use Rattle.meaning.specs.Feature.{features}
use Rattle.meaning.specs.Partial.{built_sizes}
use Rattle.layout.specs.Parts.{sizes_part}
use Rattle.reader.specs.Answer.{begun}
use Rattle.renumbering.specs.Header.{states_by, pairs_by, built_total, built_words, own-small, own-long, wider-long, total-most, states-clear, pairs-behind}
use Rattle.renumbering.proofs.build_with.Goals as goal
use Rattle.renumbering.proofs.build_with.Goals.{After-features-total, After-widen}

wide : (c : After-widen) → c.widen.new.wider ≡ built_sizes (sizes_part c.args.v c.args.own.now)
wide c = c.widen.ensures ∙ ap built_sizes c.sizes.ensures

long : (c : After-widen) → length c.widen.new.wider ≡ c.args.v
long c = wider-long _ _ _ c.requires.0 c.widen.new.wider (wide c)

all : (c : After-features-total) → c.features-total.result ≡ built_total c.args.v c.args.own.now
unfolding built_total
all c = c.features-total.ensures ∙ ap features (wide (goal.at.After-features-total c).After-widen)

pub widen-requires : goal.widen-requires
widen-requires c = let p = c.requires in
    (own-small _ _ _ p.0 _ c.sizes.ensures, p.1 ∙ sym (ap length c.sizes.ensures ∙ own-long _ _ _ p.0))

pub put_pairs-requires : goal.put_pairs-requires
put_pairs-requires c = let few = total-most _ _ _ c.requires.0 in
    let most = c.requires.0.headed.variables in (
      c.requires.0,
      wide (goal.at.put_pairs-requires c).After-widen,
      all (goal.at.put_pairs-requires c).After-features-total,
      omega (arith, all (goal.at.put_pairs-requires c).After-features-total, few, most, c.requires.2, c.put_states.auto),
      states-clear _ _ _ c.requires.0.headed c.widen.new.wider (long (goal.at.put_pairs-requires c).After-widen) c.args.header.now _ c.features-total.result c.requires.3 (omega (arith, all (goal.at.put_pairs-requires c).After-features-total, few, most, c.requires.2))
          c.put_states.ensures,
    )

pub returns : goal.returns
unfolding built_words
returns c = let a = c.args in record {
  total = all (goal.at.returns c).After-features-total;
  words = pairs-behind _ _ _ c.requires.0.headed c.widen.new.wider (long (goal.at.returns c).After-widen) _ _ _ _ c.put_states.ensures c.put_pairs.ensures
      ∙ ap (λ sizes. begun a.header.now (states_by a.v sizes a.own.now ++ pairs_by a.v a.n a.own.now)) (wide (goal.at.returns c).After-widen);
}
