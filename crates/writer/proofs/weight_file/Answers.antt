-- `weight_file` refuses words that have a feature out of range, and otherwise delivers the set of the words that can have one in range.
use mathlib.Core.Path.{refl, sym, ap, ◌∙◌, subst}
use native.Mathlib.Omega.{arith}
use lib.ListN.{take}
use lib.Seq.{length-take-le}
use Rattle.theory.specs.Tells.{Tells, tells-no}
use Rattle.words.specs.Next.{Empty}
use Rattle.words.specs.Members.{members_in, members-front}
use Rattle.writer.specs.Copied.{lent-behind}
use Rattle.writer.specs.Weights.{weights_written}
use Rattle.writer.specs.Judging.{weights-refused}
use Rattle.writer.specs.Sets.{most_words, outside-range, in-range-behind, set-delivered}
use Rattle.writer.proofs.weight_file.Goals as goal

pub returns-then-words-le-MOST_WORDS : goal.returns-then-words-le-MOST_WORDS
returns-then-words-le-MOST_WORDS c =
    c.deliver_set.ensures ∙ set-delivered c.args.words.now (omega (arith, c.if-words-le-MOST_WORDS.true)) c.args.room.now

pub returns-then-not-is_empty : goal.returns-then-not-is_empty
returns-then-not-is_empty c =
    let a = c.args in
    let words = a.words.now in
    let none = tells-no (subst (λ l. Tells c.is_empty.result (Empty l)) (lent-behind words most_words most_words refl) c.is_empty.ensures) c.if-not-is_empty.true in
    sym (weights-refused (members_in words) a.room.now _ (outside-range words (λ h. none (in-range-behind words h))))

pub slice_bounds-deliver_set-end : goal.slice_bounds-deliver_set-end
slice_bounds-deliver_set-end c = sym (length-take-le most_words c.args.words.now (omega (arith, c.if-words-le-MOST_WORDS.false)))

pub deliver_set-requires-2 : goal.deliver_set-requires-2
deliver_set-requires-2 c = omega (arith, length-take-le most_words c.args.words.now (omega (arith, c.if-words-le-MOST_WORDS.false)))

pub returns : goal.returns
returns c =
    let a = c.args in
    let words = a.words.now in
    let empty = subst Empty (lent-behind words most_words most_words refl) (c.is_empty.ensures.yes c.if-not-is_empty.false) in
    c.deliver_set-2.ensures ∙ set-delivered (take most_words words) (omega (arith, length-take-le most_words words (omega arith))) a.room.now
    ∙ ap (λ l. weights_written l a.room.now) (members-front most_words words empty)
