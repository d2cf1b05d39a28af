-- `silence_judged`: each refusal in its turn, and then the file.
use mathlib.Core.Path.{◌≡◌, sym, ◌∙◌}
use mathlib.Core.Bool.{true}
use native.Mathlib.Omega.{arith}
use lib.ListN.{length}
use Rattle.meaning.specs.Number.{Range, Outgrown}
use Rattle.silencing.specs.Marks.{are_marks, are_roomy, are-roomy}
use Rattle.silencing.specs.Answer.{parted-limits, parted-silent, silence-refused, wrong-number, wrong-mark, no_room, too_many, silence-delivered}
use Rattle.silencing.proofs.silence_judged.Goals as goal
use Rattle.silencing.proofs.silence_judged.Goals.{After-are_roomy, After-built_features}

long : (c : After-are_roomy) → length c.args.marks.now ≡ length c.args.sizes.now
long c = c.if-marks-sizes.false

marks : (c : After-are_roomy) → are_marks c.args.marks.now ≡ true
marks c = sym c.are_marks.ensures ∙ c.if-not-are_marks.false

roomy : (c : After-built_features) → are_roomy c.args.sizes.now ≡ true
roomy c = sym c.are_roomy.ensures ∙ c.if-not-are_roomy.false

pub returns-then-marks-sizes : goal.returns-then-marks-sizes
returns-then-marks-sizes c task parted =
    silence-refused task _ _ _ _ _ _ parted _ _ Range (wrong-number task _ _ _ _ _ _ parted _ c.args.room.now c.if-marks-sizes.true)

pub returns-then-not-are_marks : goal.returns-then-not-are_marks
returns-then-not-are_marks c task parted =
    silence-refused task _ _ _ _ _ _ parted _ _ Range (wrong-mark task _ _ _ _ _ _ parted _ c.args.room.now c.if-marks-sizes.false (sym c.are_marks.ensures ∙ c.if-not-are_marks.true))

pub returns-then-not-are_roomy : goal.returns-then-not-are_roomy
returns-then-not-are_roomy c task parted =
    let a = (goal.at.returns-then-not-are_roomy c).After-are_roomy in
    silence-refused task _ _ _ _ _ _ parted _ _ Outgrown (no_room task _ _ _ _ _ _ parted _ c.args.room.now (long a) (marks a) (sym c.are_roomy.ensures ∙ c.if-not-are_roomy.true))

pub built_features-requires : goal.built_features-requires
built_features-requires c =
    let a = c.args in
    record {
      few = (parted-limits _ _ _ a.sizes.now _ _ _ c.requires.1).variables.1;
      small = are-roomy a.sizes.now (sym c.are_roomy.ensures ∙ c.if-not-are_roomy.false);
    }

pub returns-then-built_features-gt-MOST_FEATURES : goal.returns-then-built_features-gt-MOST_FEATURES
returns-then-built_features-gt-MOST_FEATURES c task parted =
    let p = goal.at.returns-then-built_features-gt-MOST_FEATURES c in
    let a = p.After-are_roomy in
    silence-refused task _ _ _ _ _ _ parted _ _ Outgrown (too_many task _ _ _ _ _ _ parted _ c.args.room.now (long a) (marks a) (roomy p.After-built_features) (omega (arith, c.built_features.ensures, c.if-built_features-gt-MOST_FEATURES.true)))

pub deliver-requires : goal.deliver-requires
deliver-requires c = let a = (goal.at.deliver-requires c).After-are_roomy in parted-silent _ _ _ _ _ _ _ c.requires.1 _ c.args.room.now (long a) (marks a)

pub returns : goal.returns
returns c task parted =
    let p = goal.at.returns c in
    let a = p.After-are_roomy in
    silence-delivered task _ _ _ _ _ _ parted _ c.args.room.now (long a) _ (marks a) (roomy p.After-built_features) (omega (arith, c.built_features.ensures, c.if-built_features-gt-MOST_FEATURES.false)) c.deliver.ensures
