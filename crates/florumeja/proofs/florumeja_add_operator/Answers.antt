-- `florumeja_add_operator`: the record has the places that were handed over, and the value fits, so that the number says the answer.
use Rattle.meaning.specs.Answer.{add_operator, Edits}
use Rattle.editing.specs.Answers.{edited_of}
use Rattle.florumeja.specs.Fits.{edits-fit}
use Rattle.florumeja.specs.Places.{handed, edits-same}
use Rattle.florumeja.proofs.florumeja_add_operator.Goals as goal
use Rattle.florumeja.proofs.florumeja_add_operator.Goals.{After-add_operator}

-- The operator that was handed over is added: the record has its places, as far as they count.
added : (c : After-add_operator) → let start = c.args in
    Edits start.workspace.now (add_operator (handed start.count start.variables.now start.befores.now start.afters.now))
    (record { answer = edited_of c.add_operator.result; lent = c.add_operator.new.workspace })
added c = let start = c.args in
    edits-same start.count _ _ _ start.variables.now start.befores.now start.afters.now
    c.places.ensures c.places-2.ensures c.places-3.ensures
    start.workspace.now _ c.add_operator.ensures

pub number-requires : goal.number-requires
number-requires c = let start = c.args in
    edits-fit start.workspace.now (add_operator (handed start.count start.variables.now start.befores.now start.afters.now))
    (record { answer = edited_of c.add_operator.result; lent = _ }) (added (goal.at.number-requires c).After-add_operator)

pub returns : goal.returns
returns c = (_, added (goal.at.returns c).After-add_operator, c.number.ensures)
