-- `build` goes on with the bay that was read, or refuses by the first fault.
use Rattle.std.proofs.lemmas.Result.{err_from_is_err_and}
use mathlib.Core.Path.{sym, ap, ◌∙◌}
use Rattle.meaning.specs.Bay.{bay_task}
use Rattle.theory.specs.BayTask.{bay-said}
use Rattle.sliding.specs.Readers.{made_of}
use Rattle.building.specs.Answers.{judged}
use Rattle.building.specs.Outcomes.{builds-made}
use Rattle.building.proofs.build.Goals as goal

pub build_judged-requires : goal.build_judged-requires
build_judged-requires c = let (next, read) = c.in_ok-sides.ensures in ((bay-said _).gives 0 _ next read).known

pub returns : goal.returns
returns c = let a = c.args in let (next, read) = c.in_ok-sides.ensures in
    builds-made a.bay.now a.room.now _ (c.build_judged.ensures next ∙ ap (λ r. made_of bay_task (judged r) a.room.now) (sym read))

pub returns-in_err-sides : goal.returns-in_err-sides
returns-in_err-sides c = let a = c.args in let p = err_from_is_err_and c.from_residual.result c.from_residual.ensures.1 in
    rw (p.1, p.2) (builds-made a.bay.now a.room.now _ (ap (λ r. made_of bay_task (judged r) a.room.now) (sym c.in_err-sides.ensures)))
