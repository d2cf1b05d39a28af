-- Orders that name some slots of a bay: moves keep the labels, so such an order is met exactly when one of its completions is reached; and its partial file is accepted, up to fifteen slots.
use Rattle.std.specs.Prelude.{ℕ, suc, ◌+◌, ◌*◌, ◌<◌, ◌≤◌, ◌≡◌, ◌↔◌, Bool, ◌&&◌, cond, List, [], ◌∷◌, leb, ltb, length}
use Rattle.std.proofs.Math.Path.{refl, sym, ap}
use Rattle.std.proofs.Common.{◌∙◌}
use Rattle.std.proofs.Math.Logic.Iff
use Rattle.std.proofs.Math.Bool.{true, false, not}
use native.Mathlib.Omega.{arith}
use Rattle.std.proofs.Math.Dec.{eqb}
use Rattle.std.proofs.Math.ListN.{length-append}
use Rattle.std.proofs.lemmas.List.{length-replicate}
use Rattle.meaning.specs.Sets.{every, count}
use Rattle.meaning.specs.Limits.{most_slots, most_features, number_end}
use Rattle.meaning.specs.Task.{Operator, Task, State, value}
use Rattle.meaning.specs.Feature.{sum_of, pairs_of, atoms, features}
use Rattle.meaning.specs.Weight.{Unsolvable}
use Rattle.meaning.specs.Number.{got}
use Rattle.meaning.specs.File.{judged_task, task_bytes}
use Rattle.meaning.specs.Answer.{done, accepted, fine, Checks}
use Rattle.meaning.specs.Bay.{Bay, SameLabels, slot_count, neighbours, bay_sizes, occurrences, occurs_in, once_in, bay_operators, bay_task, task_for, judged_bay}
use Rattle.meaning.specs.Partial.{Partial, named, Reaches, Met, Completes, Ordered, built_sizes, forgettings, built_task, left_out_lean, partial_of, partial_bytes, judged_partial, silenced, marks_judged}
use Rattle.theory.specs.Flat.{flat-few}
use Rattle.theory.specs.Count.{count-cong, count-kinds}
use Rattle.theory.specs.Tells.{tells-every, tells-and, tells-le, tells-lt}
use Rattle.theory.specs.ReadBack.{read_back, whole}
use Rattle.theory.specs.BayMoves.{Moves, plan-moves, moves-plan, moves-labels, labels-same, neighbours-apart, same-labels-state, bay-length, bay-size, occurrences-count}
use Rattle.theory.specs.BayTask.{AcceptedBay, accepted-bay, bay-accepted, bay-writable, most_operators, operators-most, slide-rules}
use Rattle.theory.specs.PartialPlans.{Permitted, lean-permitted}
use Rattle.theory.specs.PartialParts.{partial-accepted, partial-back}
use Rattle.theory.specs.PartialDemands.{built-met, accepted-unmet}
use Rattle.theory.specs.Silence.{marks-fine, silenced-ordered}

-- ---- limits

-- A forgetting operator for each slot and label at most.
forgettings-most : (n : ℕ) (out : ℕ → ℕ → Bool) → length (forgettings (bay_sizes n) out) ≤ n * (n * 1)
unfolding forgettings
forgettings-most n out = rw (length-replicate n n) (flat-few n (n * 1) _ (λ i l. rw (bay-size n i l) (flat-few n 1 _ (λ x h. one (out i x) _))))
  where
    one : (t : Bool) (o : Operator) → length (cond t [] (o ∷ [])) ≤ 1
    one true o = omega arith
    one false o = omega arith

-- As many slots as an order that names some of them may have: with "unknown" in each, one slot more has too many features.
abbrev pub most_ordered : ℕ
most_ordered = 15

-- Every bay with slots within this limit has a built task within its limits: by computing.
order-room : (n : ℕ) → n ≤ most_ordered → (features (built_sizes (bay_sizes n)) ≤ most_features) × (most_operators n + n * (n * 1) < number_end)
unfolding every features atoms sum_of pairs_of
order-room n h = (tells-every (suc most_ordered) (λ k. leb (features (built_sizes (bay_sizes k))) most_features && ltb (most_operators k + k * (k * 1)) number_end) _
    (λ k l. tells-and (tells-le (features (built_sizes (bay_sizes k))) most_features) (tells-lt (most_operators k + k * (k * 1)) number_end))).yes refl n (omega arith)

order-past : (n : ℕ) → most_ordered < n → n ≤ most_slots → most_features < features (built_sizes (bay_sizes n))
unfolding features atoms sum_of pairs_of
order-past n more h = let last : n ≡ most_slots = omega arith in rw last (omega arith)

-- ---- orders

-- The bay with another wanted arrangement.
abbrev pub with_goal : Bay → List ℕ → Bay
with_goal b goal = record { rows = b.rows; columns = b.columns; start = b.start; goal = goal }

-- A bay of an accepted file, and any marks of its slots.
module _ (bytes : List ℕ) (b : Bay) (next : ℕ) (accepted-file : judged_bay bytes ≡ got b next) (marks : List ℕ) where
  abbrev n : ℕ
  n = slot_count b

  abbrev near : ℕ → ℕ → Bool
  near = neighbours b.columns

  abbrev bay : AcceptedBay b
  bay = accepted-bay bytes b next accepted-file

  -- The order that names of the wanted bay the slots that are marked.
  abbrev pub order : Partial
  order = silenced (bay_task b) marks

  -- ---- completions

  -- What the bay's moves reach holds the start's labels, each as often.
  pub reached-labels : (state : List ℕ) → Reaches order.operators order.start state → SameLabels b.start state
  unfolding silenced task_for
  reached-labels state (plan, from, leads) =
      let (ms, moves) = plan-moves n near (occurs_in b.start) plan b.start state from leads in
      moves-labels n near ms b.start state (bay-length n b.start bay.readable.start-state) moves

  -- One of its completions is reached.
  abbrev pub Completed : Type 0
  Completed = (c : List ℕ) × Completes order c × Reaches order.operators order.start c

  -- "moves keep the labels, so a bay's partial order is met exactly when one of its completions is reached"
  pub order-met : Met order ↔ Completed
  unfolding silenced task_for
  order-met = (
    λ h. let (c, reached, meets) = h in (c, record { labels = reached-labels c reached; meets = meets }, reached),
    λ h. let (c, completes, reached) = h in (c, reached, completes.meets),
  )

  -- The same in moves of the bay.
  pub order-moves : Met order ↔ ((c : List ℕ) × Completes order c × (ms : List (List ℕ)) × Moves n near ms b.start c)
  unfolding silenced task_for
  order-moves = Iff.trans order-met (
    λ h. let (c, completes, (plan, from, leads)) = h in let (ms, moves) = plan-moves n near (occurs_in b.start) plan b.start c from leads in (c, completes, ms, moves),
    λ h. let (c, completes, ms, moves) = h in (c, completes, moves-plan n near b.start ms b.start c bay.readable.start-state (labels-same b.start) moves),
  )

  -- A completion is a state of the bay, and its silent slots hold of each label what the named ones leave.
  module _ (c : List ℕ) (completes : Completes order c) where
    completed : SameLabels b.start c
    unfolding silenced task_for
    completed = completes.labels

    pub completion-state : State (bay_sizes n) c
    completion-state = same-labels-state n b.start c bay.readable.start-state completed

    pub left-lots : (label : ℕ)
        → count n (λ i. named order i && eqb (value order.goal i) label) + count n (λ i. not (named order i) && eqb (value c i) label) ≡ occurrences label b.start
    unfolding silenced task_for
    left-lots label =
        ap (λ k. k + count n (λ i. not (named order i) && eqb (value c i) label)) (count-cong n _ _ (λ i l. agree i l (named order i) refl))
        ∙ sym (count-kinds n (named order) (λ i. eqb (value c i) label))
        ∙ ap (λ k. count k (λ i. eqb (value c i) label)) (sym (bay-length n c completion-state))
        ∙ sym (occurrences-count label c)
        ∙ completed.as-often label
      where
        agree : (i : ℕ) → i < n → (t : Bool) → named order i ≡ t → (t && eqb (value order.goal i) label) ≡ (t && eqb (value c i) label)
        agree i l true is-named = ap (λ x. eqb x label) (sym (completes.meets i (rw (length-replicate n n) l) is-named))
        agree i l false silent = refl

    -- So a completion is a full order of the same bay, and its task can be asked.
    pub completion-asked : judged_task (task_bytes (bay_task (with_goal b c))) ≡ got (bay_task (with_goal b c)) (length (task_bytes (bay_task (with_goal b c))))
    completion-asked = read_back (bay_task (with_goal b c)) (bay-writable n near b.start c bay.readable.slots-limit.0 bay.readable.slots-limit.1
        (neighbours-apart b.columns) bay.readable.start-state completion-state)

  -- If no completion can be reached, no sequence of moves meets the order.
  pub none-completed : ((c : List ℕ) → Completes order c → Unsolvable (bay_task (with_goal b c))) → Met order → ⊥
  unfolding silenced task_for
  none-completed none met = let (c, completes, (plan, from, leads)) = order-met.0 met in none c completes plan from leads

  -- ---- the built task

  -- Past that limit no order is written: `silence` refuses the marks.
  pub order-outgrown : most_ordered < n → marks_judged (bay_task b) marks ≡ fine → ⊥
  unfolding task_for
  order-outgrown more e = omega (arith, order-past n more bay.readable.slots-limit.1, (marks-fine (bay_task b) marks e).total)

  module _ (few : n ≤ most_ordered) where
    order-ordered : Ordered order
    unfolding task_for
    order-ordered = silenced-ordered (bay_task b) marks (bay-accepted bytes b next accepted-file).acceptable
        (λ i l. rw (bay-size n i (rw (length-replicate n n) at l)) (omega (arith, bay.readable.slots-limit))) (order-room n few).0

    -- The partial file of an order is accepted, whatever is left out: a bay has no operator that is idle for want of a possible label.
    pub order-accepted : (out : Partial → ℕ → ℕ → Bool) → judged_partial out (partial_bytes order) ≡ got (built_task order (out order)) (length (partial_bytes order))
    unfolding silenced task_for built_task
    order-accepted out = partial-accepted order order-ordered out
        (omega (
          arith,
          length-append (bay_operators n near (occurs_in b.start)) (forgettings (bay_sizes n) (out order)),
          operators-most n near (occurs_in b.start),
          forgettings-most n (out order),
          order-room n few,
        ))
        (bay-accepted bytes b next accepted-file).acceptable.free
        (λ o m. let rules = slide-rules n near (occurs_in b.start) (once_in b.start) (neighbours-apart b.columns) o m in (rules.1, rules.2))

    -- With whatever permitted operators left out, the built goal is reached exactly when a completion is: nothing is lost.
    module _ (out : Partial → ℕ → ℕ → Bool) (permitted : Permitted order (out order)) where
      abbrev T : Task
      T = built_task order (out order)

      order-read : partial_of (partial_bytes order) 0 ≡ got order (length (partial_bytes order))
      unfolding silenced task_for
      order-read = whole partial_of order (partial_bytes order) (partial-back order order-ordered (bay-accepted bytes b next accepted-file).countable)

      pub order-reached : Reaches T.operators T.start T.goal ↔ Completed
      order-reached = Iff.trans (built-met (partial_bytes order) out T _ (order-accepted out) order _ order-read permitted) order-met

      -- Once weights are accepted for the built task's file, no sequence of moves meets the order: every way to fill the silent slots is impossible.
      pub order-impossible : (weights : List ℕ) → Checks (task_bytes T) weights (done accepted) → Met order → ⊥
      order-impossible = accepted-unmet (partial_bytes order) out T _ (order-accepted out) order _ order-read permitted

    -- The lean task, which the tool asks.
    pub lean-reached : let T = built_task order (left_out_lean order) in Reaches T.operators T.start T.goal ↔ Completed
    lean-reached = order-reached left_out_lean (lean-permitted order)

    pub lean-impossible : (weights : List ℕ) → Checks (task_bytes (built_task order (left_out_lean order))) weights (done accepted) → Met order → ⊥
    lean-impossible = order-impossible left_out_lean (lean-permitted order)
