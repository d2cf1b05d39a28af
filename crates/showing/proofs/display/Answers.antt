-- `display`: the part that was found lies within its file, and is lent from there.
use mathlib.Core.Path.{◌≡◌, sym, ap, ◌∙◌}
use native.Mathlib.Omega.{arith}
use Rattle.meaning.specs.Place.{of_task, of_weights, shown}
use Rattle.placing.specs.Answers.{part_of}
use Rattle.showing.specs.Answer.{part-within}
use Rattle.showing.proofs.display.Goals as goal
use Rattle.showing.proofs.display.Goals.{In-OfTask, In-OfWeights}

in-task : (c : In-OfTask) → let a = c.args in
    of_task c.in-OfTask.place c.in-OfTask.many ≡ shown a.task.now a.weights.now
in-task c = sym (ap part_of c.in-OfTask.is) ∙ c.locate.ensures

in-weights : (c : In-OfWeights) → let a = c.args in
    of_weights c.in-OfWeights.place c.in-OfWeights.many ≡ shown a.task.now a.weights.now
in-weights c = sym (ap part_of c.in-OfWeights.is) ∙ c.locate.ensures

pub overflow_add-end : goal.overflow_add-end
overflow_add-end c = omega (arith, part-within _ _ _ (in-task c))

pub overflow_add-end-in-OfWeights : goal.overflow_add-end-in-OfWeights
overflow_add-end-in-OfWeights c = omega (arith, part-within _ _ _ (in-weights c))

pub slice_bounds-result-end : goal.slice_bounds-result-end
slice_bounds-result-end c = omega (arith, part-within _ _ _ (in-task (goal.at.slice_bounds-result-end c).In-OfTask))

pub slice_bounds-result-end-in-OfWeights : goal.slice_bounds-result-end-in-OfWeights
slice_bounds-result-end-in-OfWeights c = omega (arith, part-within _ _ _ (in-weights (goal.at.slice_bounds-result-end-in-OfWeights c).In-OfWeights))
