-- `read_behind` meets its contract: each answer is one law on the pairs and the count.
use Rattle.std.proofs.lemmas.Result.{err_from_is_err_and}
use mathlib.Core.Path.{◌≡◌, refl, sym, ap, subst, ◌∙◌}
use Rattle.meaning.specs.Feature.{features}
use Rattle.theory.specs.Contents.{sizes_in}
use Rattle.layout.specs.Parts.{sizes-first}
use Rattle.reader.specs.Pairs.{Cleared, part_small, pairs-unread, count-unread, header-got}
use Rattle.reader.proofs.read_behind.Goals as goal
use Rattle.reader.proofs.read_behind.Goals.{After-features-n}

-- N.
counted : (c : After-features-n) → c.features-n.result ≡ features (sizes_in c.args.header.now)
counted c = c.features-n.ensures ∙ ap features (c.sizes.ensures ∙ sizes-first _)

pub features-n-requires : goal.features-n-requires
features-n-requires c = part_small _ _ c.requires _ c.sizes.ensures

pub read_pairs-requires : goal.read_pairs-requires
read_pairs-requires c = subst (Cleared _) (sym (counted (goal.at.read_pairs-requires c).After-features-n)) c.requires

pub returns : goal.returns
returns c = header-got _ _ _ _ _ (counted (goal.at.returns c).After-features-n) _ _ c.in_ok-next.ensures _ _ _ refl (sym c.in_ok-count.ensures)

pub returns-in_err-count : goal.returns-in_err-count
returns-in_err-count c = let p = err_from_is_err_and c.from_residual-in_err-count.result c.from_residual-in_err-count.ensures.1 in rw (p.1, p.2) (
    count-unread _ _ _ _ _ (counted (goal.at.returns-in_err-count c).After-features-n) _ _ c.in_ok-next.ensures _ (sym c.in_err-count.ensures))

pub returns-in_err-next : goal.returns-in_err-next
returns-in_err-next c = let p = err_from_is_err_and c.from_residual.result c.from_residual.ensures.1 in rw (p.1, p.2) (
    pairs-unread _ _ _ _ _ (counted (goal.at.returns-in_err-next c).After-features-n) _ _ c.in_err-next.ensures)
