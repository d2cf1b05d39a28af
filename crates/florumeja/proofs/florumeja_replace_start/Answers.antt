-- `florumeja_replace_start`: the value fits, so that the number says the answer.
use Rattle.meaning.specs.Answer.{replace_start}
use Rattle.editing.specs.Answers.{edited_of}
use Rattle.florumeja.specs.Fits.{edits-fit}
use Rattle.florumeja.proofs.florumeja_replace_start.Goals as goal

pub number-requires : goal.number-requires
number-requires c = let start = c.args in
    edits-fit start.workspace.now (replace_start start.values.now) (record { answer = edited_of c.replace_start.result; lent = _ }) c.replace_start.ensures
