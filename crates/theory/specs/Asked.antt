-- What the tool asks of an order, call by call, and what an accepted verdict says then.
use Rattle.std.specs.Prelude.{ℕ, ◌≡◌, List, take}
use Rattle.std.proofs.Common.{sym, ◌∙◌, subst}
use Rattle.meaning.specs.Number.{got}
use Rattle.meaning.specs.Answer.{done, accepted, Checks}
use Rattle.meaning.specs.Bay.{Bay, slot_count, neighbours, judged_bay, bay_task, Builds}
use Rattle.meaning.specs.Partial.{Met, Completes, silenced, Silences, BuildsPartialLean}
use Rattle.theory.specs.Reading.{got-value}
use Rattle.theory.specs.BayMoves.{Moves}
use Rattle.theory.specs.Demands.{built, accepted-unsolvable}
use Rattle.theory.specs.PartialDemands.{silenced-file, lean-unmet}
use Rattle.theory.specs.BayOrders.{order, with_goal, none-completed}

-- A bay file is built, and weights for its task are accepted: no moves lead from its start to its goal, whichever pallets of a lot stand where.
pub bay-asked : (bay weights room lent : List ℕ) (k : ℕ) → Builds bay room (record { answer = done k; lent = lent }) → Checks (take k lent) weights (done accepted)
    → (b : Bay) × (end : ℕ) × (judged_bay bay ≡ got b end) × ((ms : List (List ℕ)) → Moves (slot_count b) (neighbours b.columns) ms b.start b.goal → ⊥)
bay-asked bay weights room lent k builds checks =
    let first = built bay room lent k builds in
    let (T, end, read, hopeless) = accepted-unsolvable (take k lent) weights checks in
    let task : T ≡ bay_task first.bay = got-value (sym read ∙ first.task) in
    (first.bay, first.end, first.accepted, first.unsolvable.0 (rw (← task) hopeless))

-- A bay with some wanted arrangement is built, its task is silenced as the marks say, the lean task is built for that, and weights for it are accepted: no sequence of the
-- bay's moves meets the order, whichever way its silent slots are filled.
pub lean-asked : (bay marks weights room₁ lent₁ room₂ lent₂ room₃ lent₃ : List ℕ) (k₁ k₂ k₃ : ℕ)
    → Builds bay room₁ (record { answer = done k₁; lent = lent₁ })
    → Silences (take k₁ lent₁) marks room₂ (record { answer = done k₂; lent = lent₂ })
    → BuildsPartialLean (take k₂ lent₂) room₃ (record { answer = done k₃; lent = lent₃ })
    → Checks (take k₃ lent₃) weights (done accepted)
    → (b : Bay) × (end : ℕ) × (judged_bay bay ≡ got b end) × (Met (silenced (bay_task b) marks) → ⊥)
lean-asked bay marks weights room₁ lent₁ room₂ lent₂ room₃ lent₃ k₁ k₂ k₃ builds silences lean checks =
    let first = built bay room₁ lent₁ k₁ builds in
    let second = silenced-file (take k₁ lent₁) marks room₂ lent₂ k₂ silences in
    let (P, end, read, unmet) = lean-unmet (take k₂ lent₂) weights room₃ lent₃ k₃ lean checks in
    let task : second.task ≡ bay_task first.bay = got-value (sym second.accepted ∙ first.task) in
    let order : P ≡ silenced second.task marks = got-value (sym read ∙ second.partial) in
    (first.bay, first.end, first.accepted, subst (λ T. Met (silenced T marks) → ⊥) task (subst (λ Q. Met Q → ⊥) order unmet))

-- Way by way: each completion is a bay file with that wanted arrangement, which is built, and weights for its task are accepted.
pub record AskedAs (b : Bay) : Type 0 where
  pub file : List ℕ
  pub room : List ℕ
  pub lent : List ℕ
  pub weights : List ℕ
  pub end : ℕ
  pub k : ℕ
  pub accepted-file : judged_bay file ≡ got b end
  pub builds : Builds file room (record { answer = done k; lent = lent })
  pub checks : Checks (take k lent) weights (done accepted)

pub ways-asked : (bay : List ℕ) (b : Bay) (next : ℕ) (accepted-bay : judged_bay bay ≡ got b next) (marks : List ℕ)
    → ((c : List ℕ) → Completes (order bay b next accepted-bay marks) c → AskedAs (with_goal b c)) → Met (order bay b next accepted-bay marks) → ⊥
ways-asked bay b next accepted-bay marks each = none-completed bay b next accepted-bay marks (λ c completes.
    let a = each c completes in
    let first = built a.file a.room a.lent a.k a.builds in
    let (T, end, read, hopeless) = accepted-unsolvable (take a.k a.lent) a.weights a.checks in
    let same : first.bay ≡ with_goal b c = got-value (sym first.accepted ∙ a.accepted-file) in
    let task : T ≡ bay_task (with_goal b c) = subst (λ x. T ≡ bay_task x) same (got-value (sym read ∙ first.task)) in
    rw (← task) hopeless)
