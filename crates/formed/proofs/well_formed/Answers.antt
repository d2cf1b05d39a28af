-- `formed::well_formed`: each refusal contradicts what a well formed workspace begins with, up to the test of all the rest.
use Rattle.std.specs.Prelude.{ℕ, ◌≡◌, ◌<◌, List, None, length}
use Rattle.std.specs.List.{slice_get}
use Rattle.std.proofs.Common.{sym, ◌∙◌, get_or}
use Rattle.std.proofs.Math.Path.{ap}
use Rattle.std.proofs.lemmas.Option.{slice_get-get_or, get_or_from_slice_get}
use Rattle.meaning.specs.Workspace.{WellFormed}
use native.Mathlib.Omega.{arith}
use Rattle.theory.specs.Tells.{tells-no}
use Rattle.theory.specs.Contents.{sizes_in}
use Rattle.layout.specs.Parts.{sizes_part, sizes-first}
use Rattle.formed.specs.Parts.{formed-count, no-sizes, no-total, sizes-sized}
use Rattle.formed.specs.Formed.{formed-no, formed-yes}
use Rattle.formed.proofs.well_formed.Goals as goal
use Rattle.formed.proofs.well_formed.Goals.{In_ok-v, After-sizes-sizes, Else-n-gt-MOST_FEATURES}

-- No words are no workspace.
empty : (ws : List ℕ) → None ≡ slice_get ws 0 → WellFormed ws → ⊥
empty ws e f = let l : 0 < length ws = omega (arith, formed-count ws f) in cc (slice_get-get_or ws 0 0 l)

-- The first word is the count.
first : (c : In_ok-v) → c.in_ok-v.field-0.now ≡ get_or c.args.workspace.now 0 0
first c = sym (get_or_from_slice_get _ 0 _ 0 (sym c.in_ok-v.ensures.value))

-- The words lent are the sizes.
lent : (c : After-sizes-sizes) → c.sizes-sizes.result.now ≡ sizes_in c.args.workspace.now
lent c = c.sizes-sizes.ensures ∙ ap (λ v. sizes_part v c.args.workspace.now) (first (goal.at.After-sizes-sizes c).In_ok-v) ∙ sizes-first c.args.workspace.now

pub returns-in_err-v : goal.returns-in_err-v
returns-in_err-v c = rw c.from_residual.ensures (formed-no _ (empty _ c.in_err-v.ensures.value))

pub returns-then-v-lt-LEAST_VARIABLES : goal.returns-then-v-lt-LEAST_VARIABLES
returns-then-v-lt-LEAST_VARIABLES c = formed-no _ (λ f. omega (arith, formed-count _ f, first (goal.at.returns-then-v-lt-LEAST_VARIABLES c).In_ok-v, c.if-v-lt-LEAST_VARIABLES.true))

pub returns-then-v-gt-MOST_VARIABLES : goal.returns-then-v-gt-MOST_VARIABLES
returns-then-v-gt-MOST_VARIABLES c = formed-no _ (λ f. omega (arith, formed-count _ f, first (goal.at.returns-then-v-gt-MOST_VARIABLES c).In_ok-v, c.if-v-gt-MOST_VARIABLES.true))

pub returns-then-workspace-start_at : goal.returns-then-workspace-start_at
returns-then-workspace-start_at c = formed-no _ (λ f. omega (arith, formed-count _ f, first (goal.at.returns-then-workspace-start_at c).In_ok-v, c.start_at.ensures, c.if-workspace-start_at.true))

pub returns-then-not-are_sizes : goal.returns-then-not-are_sizes
returns-then-not-are_sizes c = formed-no _ (no-sizes _ _ (lent (goal.at.returns-then-not-are_sizes c).After-sizes-sizes) (tells-no c.are_sizes.ensures c.if-not-are_sizes.true))

pub returns-then-n-gt-MOST_FEATURES : goal.returns-then-n-gt-MOST_FEATURES
returns-then-n-gt-MOST_FEATURES c = formed-no _ (no-total _ _ (lent (goal.at.returns-then-n-gt-MOST_FEATURES c).After-sizes-sizes) _ c.features-n.ensures c.if-n-gt-MOST_FEATURES.true)

pub is_formed-requires : goal.is_formed-requires
is_formed-requires c = let e = first (goal.at.is_formed-requires c).In_ok-v in
    rw e (sizes-sized c.args.workspace.now _ (lent (goal.at.is_formed-requires c).After-sizes-sizes) (omega (arith, e)) (omega (arith, e)) (omega (arith, e))
    (c.are_sizes.ensures.yes c.if-not-are_sizes.false) _ c.features-n.ensures c.if-n-gt-MOST_FEATURES.false)

pub returns-then-not-is_formed : goal.returns-then-not-is_formed
returns-then-not-is_formed c = formed-no _ (tells-no c.is_formed.ensures c.if-not-is_formed.true)

pub returns : goal.returns
returns c = formed-yes _ _ _ (is_formed-requires (goal.at.returns c).Else-n-gt-MOST_FEATURES) (c.is_formed.ensures.yes c.if-not-is_formed.false)
