-- `Entries::one`: three slices of one element hold the entry.
use Rattle.std.specs.Prelude.{refl}
use Rattle.meaning.specs.Sets.{table}
use Rattle.meaning.specs.Answer.{operator_in}
use Rattle.operator.proofs.Entries.one.Goals as goal

pub returns : goal.returns
unfolding operator_in table
returns c = rw (c.new.ensures, c.from_ref.ensures.value, c.from_ref-2.ensures.value, c.from_ref-3.ensures.value) refl
