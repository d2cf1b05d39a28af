-- `judge_operator` judges entry by entry: at each turn the entries from here on are judged as all of them are.
use Rattle.std.proofs.Common.{◌≡◌, drop}
use Rattle.meaning.specs.Answer.{fine, entries_judged}
use Rattle.operator.proofs.judge_operator.Given as goal

abbrev pub invariant-loop-k : goal.invariant-loop-k
invariant-loop-k l = entries_judged l.sizes 0 l.entries fine ≡ entries_judged l.sizes l.least (drop l.k l.entries) fine
