-- `words::next_held`: from `start` on the words that are done hold nothing (`Clear`); the lowest one of the first word that is not 0 is next.
use Rattle.std.proofs.Common.{◌≡◌, ◌/◌, arith}
use Rattle.words.specs.Next.{next-rest, clear-rest, next_word, clear-word}
use Rattle.words.proofs.next_held.Goals as goal

pub returns-then-rest-ne0 : goal.returns-then-rest-ne0
returns-then-rest-ne0 g c =
    let e : c.word.result ≡ g.at (c.args.start / 64) = c.requires.1.1.1 _ _ c.if-count-first.false c.word.ensures in
    rw e (next-rest g.at _ _ c.if-count-first.false (rw e at c.word.type_inv) (rw e at c.if-rest-ne0.true))

pub loop-i-init : goal.loop-i-init
loop-i-init g c =
    let e : c.word.result ≡ g.at (c.args.start / 64) = c.requires.1.1.1 _ _ c.if-count-first.false c.word.ensures in
    (omega arith, clear-rest g.at _ (rw e at c.if-rest-ne0.false))

pub returns-then-here-ne0 : goal.returns-then-here-ne0
returns-then-here-ne0 g c =
    let inv = c.loop-i.invariant in
    let e : c.word-here.result ≡ g.at c.loop-i.i = c.requires.1.1.1 _ _ c.loop-i-test.true c.word-here.ensures in
    rw e (next_word g.at _ _ _ inv.0 c.loop-i-test.true inv.1 (rw e at c.word-here.type_inv) (rw e at c.if-here-ne0.true))

pub loop-i-preserved : goal.loop-i-preserved
loop-i-preserved g c =
    let e : c.word-here.result ≡ g.at c.loop-i.i = c.requires.1.1.1 _ _ c.loop-i-test.true c.word-here.ensures in
    (omega arith, clear-word g.at _ _ c.loop-i.invariant.1 (rw e at c.if-here-ne0.false))
