-- Smaller files, and the way back (document 02, ticket 7): "Convert either kind into the other, weights beside their task."
use Rattle.std.specs.Prelude.{◌≡◌, ℕ, List}
use Rattle.meaning.specs.Feature.{features}
use Rattle.meaning.specs.File.{Kind, plain, gapped, other, judged_task, judged_as, judged_weights_as, weight_bytes_as, task_bytes_as}
use Rattle.meaning.specs.Answer.{Outcome, refuses, delivered, by_read}

-- The file of a kind for a task file of the other kind, which is judged wholly; then 8.
abbrev pub Converts : Kind → List ℕ → List ℕ → Outcome ℕ → Type 0
Converts kind task room outcome =
    by_read (judged_as (other kind) task) (λ T. outcome ≡ delivered (task_bytes_as kind T) room) (λ reason. outcome ≡ refuses reason room)

-- to_new(task, room), to_old(task, room)
abbrev pub ConvertsToNew : List ℕ → List ℕ → Outcome ℕ → Type 0
ConvertsToNew = Converts gapped

abbrev pub ConvertsToOld : List ℕ → List ℕ → Outcome ℕ → Type 0
ConvertsToOld = Converts plain

-- The weight file of a kind for one of the other kind, beside a task file of either kind: the task is judged wholly, then the weights, then 8.
abbrev pub ConvertsWeights : Kind → List ℕ → List ℕ → List ℕ → Outcome ℕ → Type 0
ConvertsWeights kind task weights room outcome =
    by_read (judged_task task)
    (λ T. by_read (judged_weights_as (other kind) (features T.sizes) weights)
    (λ ws. outcome ≡ delivered (weight_bytes_as kind ws) room)
    (λ reason. outcome ≡ refuses reason room))
    (λ reason. outcome ≡ refuses reason room)

-- weights_to_new(task, weights, room), weights_to_old(task, weights, room)
abbrev pub ConvertsWeightsToNew : List ℕ → List ℕ → List ℕ → Outcome ℕ → Type 0
ConvertsWeightsToNew = ConvertsWeights gapped

abbrev pub ConvertsWeightsToOld : List ℕ → List ℕ → List ℕ → Outcome ℕ → Type 0
ConvertsWeightsToOld = ConvertsWeights plain
