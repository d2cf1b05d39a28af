-- `put_word` writes the word of all digits but the last, and the last digit behind it.
use Rattle.std.proofs.Common.{ℕ, ◌+◌, ◌%◌, ◌<◌, ap, arith, length}
use lib.ListN.{set, length-set}
use Rattle.meaning.specs.Line.{word}
use Rattle.decimal.specs.Decimal.{word-one, word-longer}
use Rattle.decimal.specs.Put.{Put, put_one, put-more}
use Rattle.decimal.proofs.+put_word.Goals as goal
use Rattle.decimal.proofs.+put_word.Goals.{After-put_word-last}

-- The last digit has its place behind the others, and the whole word stands there.
whole : (t : ℕ) (c : After-put_word-last t) →
    let a = c.args in
    let others = c.put_word-last in
    (others.result < length others.new.line) × Put a.line.now a.at (word a.n) (others.result + 1) (set others.new.line others.result (48 + a.n % 10))
whole t c =
    let a = c.args in
    put-more a.line.now a.at a.n c.if-n-lt-BASE.false c.requires c.put_word-last.auto.line c.put_word-last.ensures

pub bounds-line-at : goal.bounds-line-at
bounds-line-at t c = let a = c.args in omega (arith, ap length (word-one a.n c.if-n-lt-BASE.true))

pub bounds-line-at-then-n-lt-BASE : goal.bounds-line-at-then-n-lt-BASE
bounds-line-at-then-n-lt-BASE t c = let a = c.args in omega (arith, ap length (word-one a.n c.if-n-lt-BASE.true), length-set a.line.now a.at 32)

pub returns-then-n-lt-BASE : goal.returns-then-n-lt-BASE
returns-then-n-lt-BASE t c = let a = c.args in put_one a.line.now a.at a.n c.if-n-lt-BASE.true (omega arith)

pub put_word-last-requires : goal.put_word-last-requires
put_word-last-requires t c = let a = c.args in omega (arith, word-longer a.n c.if-n-lt-BASE.false)

pub bounds-line-last : goal.bounds-line-last
bounds-line-last t c = (whole t (goal.at.bounds-line-last t c).After-put_word-last).0

pub overflow_add-result-2 : goal.overflow_add-result-2
overflow_add-result-2 t c = omega (arith, (whole t (goal.at.overflow_add-result-2 t c).After-put_word-last).0, c.put_word-last.auto.line)

pub returns : goal.returns
returns t c = (whole t (goal.at.returns t c).After-put_word-last).1
