-- The customer's three demands, sentence by sentence, as theorems about what the calls may answer.
use Rattle.std.specs.Prelude.{ℕ, ◌<◌, ◌≤◌, ◌≡◌, refl, ◌↔◌, List, ◌++◌, ltb, length, take, drop}
use Rattle.std.proofs.Common.{ap, sym, ◌∙◌, arith, ltb-true, ltb-false}
use Rattle.std.proofs.Math.Path.{fun_ext}
use Rattle.meaning.specs.Sets.{Set, listed}
use Rattle.meaning.specs.Limits.{number_end}
use Rattle.meaning.specs.Task.{Task}
use Rattle.meaning.specs.Feature.{features}
use Rattle.meaning.specs.Weight.{Separates, LeastOf, Unsolvable}
use Rattle.meaning.specs.Number.{Reason, refusal, got}
use Rattle.meaning.specs.File.{plain, judged_task, judged_weights, weight_bytes, task_bytes}
use Rattle.meaning.specs.Workspace.{words_for, words_due, has, packed}
use Rattle.meaning.specs.Answer.{Answer, done, refused, Outcome, writes, Verdict, accepted, Judges, Checks, Opens, Finding, none, separated, Finds, Edit, edit_judged, Edits}
use Rattle.meaning.specs.Bay.{Bay, Move, Step, SameLabels, slot_count, judged_bay, neighbours, bay_task, Builds}
use Rattle.meaning.specs.Line.{Found, Prints}
use Rattle.meaning.specs.History.{Event, Edited, task_after, SameTask}
use Rattle.theory.specs.Truth.{on, off, test}
use Rattle.theory.specs.Words.{packed-front}
use Rattle.theory.specs.Run.{members, run-members, listed-members}
use Rattle.theory.specs.Cut.{cut, cut_below, cut-past, separates-cut}
use Rattle.theory.specs.Sound.{sound}
use Rattle.theory.specs.Reading.{by-got}
use Rattle.theory.specs.ReadBack.{read_back, weights-back}
use Rattle.theory.specs.Accepted as Files
use Rattle.theory.specs.Histories.{StandsFor, due_for, opened-due, opened-stands, begins-stands, edited-stands, after-due, same-stands, stands-opens, same-words, same-finds}
use Rattle.theory.specs.Finder.{none_right, some_right, found_right}
use Rattle.theory.specs.Determined.{finds-only, edits-only, prints-only}
use Rattle.theory.specs.Refusals.{Faulty, FaultyIn, open_judged, check_judged, build_judged, print_judged, RefusesExactly, refuses-exactly, answers-exactly, prints-refused, edits-refused, opens-exactly, checks-exactly, builds-exactly}
use Rattle.theory.specs.Delivered.{builds-leave}
use Rattle.theory.specs.BayMoves.{Moves}
use Rattle.theory.specs.BayTask.{bay-read, bay-moves, bay-unsolvable}

-- ---- demand 1

-- "Every entry takes every input: task, weights, workspace, edit, lent room. It always ends." No contract has a premise, each is a relation of
-- meaning/specs/Answer.antt, Bay.antt or Line.antt that allows one outcome (Determined.antt), and a check refuses code that is not shown to end.
-- "Each refusal is given exactly when document 01's table says, and a refused call changes nothing it was lent."

-- The task's first fault; then 8.
pub open-refuses : (task room : List ℕ) → RefusesExactly (Opens task room) room (Faulty (open_judged (judged_task task) room))
open-refuses task = opens-exactly (judged_task task)

-- 9, then the operand's first fault; there is no 8.
pub edit-refuses : (workspace : List ℕ) (edit : Edit) → RefusesExactly (Edits workspace edit) workspace (FaultyIn workspace (λ c. edit_judged c edit))
edit-refuses workspace edit = refuses-exactly (edits-only workspace edit) (λ n left. edits-refused n left workspace edit)

-- The bay file's first fault; then 8.
pub build-refuses : (bay room : List ℕ) → RefusesExactly (Builds bay room) room (Faulty (build_judged (judged_bay bay) (λ b. task_bytes (bay_task b)) room))
build-refuses bay = builds-exactly (judged_bay bay) (λ b. task_bytes (bay_task b))

-- The task's first fault; then that of the weights. The checker is lent nothing to write.
pub check-refuses : (task weights : List ℕ) (answer : Answer Verdict) → Checks task weights answer → (n : ℕ) → (answer ≡ refused n) ↔ Faulty (check_judged plain (judged_task task) weights) n
check-refuses task = checks-exactly plain (judged_task task)

-- The finder program: 8 for too many bytes; the task's first fault; then 8 for too many features.
pub print-refuses : (input : List ℕ) (answer : Answer Found) → Prints input answer → (n : ℕ) → (answer ≡ refused n) ↔ Faulty (print_judged input) n
print-refuses input = answers-exactly (prints-only input) (λ n. prints-refused n input)

-- ---- demand 2: the checker

module _ (file : List ℕ) (T : Task) (next : ℕ) (judged : judged_task file ≡ got T next) where
  -- "the checker accepts weights, from anyone, exactly when they separate start from goal"
  pub accepts-exactly : (weights : List ℕ) (fs : List ℕ) (end : ℕ) → judged_weights (features T.sizes) weights ≡ got fs end
      → Checks file weights (done accepted) ↔ Separates T (listed fs)
  accepts-exactly weights fs end read = (
    λ checks. judged-as accepted (rw (judged, read) at checks),
    λ s. rw (judged, read) (accepted, refl, s),
  )
    where
      judged-as : (verdict : Verdict) → ((v : Verdict) × (◌≡◌ {A = Answer Verdict} (done verdict) (done v)) × Judges T (listed fs) v) → Judges T (listed fs) verdict
      judged-as verdict (v, q, h) = let e : verdict ≡ v = cc in rw e h

-- A refusal is not "accepted".
pub not-accepted : (reason : Reason) → ◌≡◌ {A = Answer Verdict} (done accepted) (refused (refusal reason)) → ⊥
not-accepted reason q = let z : ◌≡◌ {A = ℕ} 0 1 = cc in omega arith

-- "once it accepts, no sequence of that task's moves leads from the start to the goal": whatever the two files are, the first then is an accepted
-- task, and that task is unsolvable.
pub accepted-unsolvable : (file weights : List ℕ) → Checks file weights (done accepted) → (T : Task) × (next : ℕ) × (judged_task file ≡ got T next) × Unsolvable T
accepted-unsolvable file weights checks =
    let (T, next, judged, given) = by-got (judged_task file) _ _ not-accepted checks in
    let (fs, end, read, _) = by-got (judged_weights (features T.sizes) weights) _ _ not-accepted given in
    (T, next, judged, sound T (listed fs) (Files.accepted file T next judged).acceptable ((accepts-exactly file T next judged weights fs end read).0 checks))

-- ---- demand 2: the finder, on a workspace opened from a task

module _ (file : List ℕ) (T : Task) (next : ℕ) (judged : judged_task file ≡ got T next) (room workspace : List ℕ) (k : ℕ)
    (opens : Opens file room (record { answer = done k; lent = workspace })) where
  opened : StandsFor T workspace
  opened = opened-stands T file room workspace next k judged opens

  -- "The finder says 'none' exactly when no weights separate": it may say so, with the room as it was, exactly then,
  pub none-exactly : (lent lent' : List ℕ) → Finds workspace lent (record { answer = done none; lent = lent' })
      ↔ ((words_for (features T.sizes) ≤ length lent) × ((w : Set) → Separates T w → ⊥) × (lent' ≡ lent))
  none-exactly = none_right T workspace opened

  -- it says so only then,
  pub none_said : (lent lent' : List ℕ) → Finds workspace lent (record { answer = done none; lent = lent' }) → (w : Set) → Separates T w → ⊥
  none_said lent lent' finds = ((none-exactly lent lent').0 finds).1

  -- and then it says nothing else.
  pub none_only : ((w : Set) → Separates T w → ⊥) → (lent : List ℕ) → words_for (features T.sizes) ≤ length lent → (outcome : Outcome Finding)
      → Finds workspace lent outcome → outcome ≡ record { answer = done none; lent = lent }
  none_only nobody lent long outcome finds = finds-only workspace lent outcome _ finds ((none-exactly lent lent).1 (long, nobody, refl))

  -- "and otherwise" does not,
  pub some-found : (w : Set) → Separates T w → (lent : List ℕ) → words_for (features T.sizes) ≤ length lent → (outcome : Outcome Finding)
      → Finds workspace lent outcome → outcome.answer ≡ done separated
  some-found w s lent long outcome = some_right T workspace opened lent outcome w s long

  -- but "gives the least that do".
  pub least-given : (lent lent' : List ℕ) → Finds workspace lent (record { answer = done separated; lent = lent' })
      → (w : Set) × LeastOf (features T.sizes) (Separates T) w × (lent' ≡ packed (features T.sizes) w ++ drop (length (packed (features T.sizes) w)) lent)
  least-given = found_right T workspace opened

  -- What the finder gives, written as a weight file, the checker accepts.
  pub found-accepted : (lent lent' : List ℕ) → Finds workspace lent (record { answer = done separated; lent = lent' })
      → Checks file (weight_bytes (members (features T.sizes) (has lent'))) (done accepted)
  found-accepted lent lent' finds =
      let (w, best, q) = least-given lent lent' finds in
      let n = features T.sizes in
      (accepts-exactly file T next judged _ _ _
      (weights-back n (members n (has lent')) (Files.accepted file T next judged).acceptable.limits.total (run-members n (has lent')))).1
      (rw (given w lent q) (separates-cut T w best.good))
    where
      given : (w : Set) (lent : List ℕ) → lent' ≡ packed (features T.sizes) w ++ drop (length (packed (features T.sizes) w)) lent
          → listed (members (features T.sizes) (has lent')) ≡ cut (features T.sizes) w
      given w lent q = fun_ext (λ f. listed-members (features T.sizes) (has lent') f ∙ elim (test (ltb f (features T.sizes))) [
        | on t ↦ rw (t, q) (packed-front (features T.sizes) w _ f (ltb-true _ _ t) ∙ sym (cut_below (features T.sizes) w f (ltb-true _ _ t)))
        | off t ↦ rw t (sym (cut-past (features T.sizes) w f (ltb-false _ _ t)))
      ])

-- ---- demand 2: the bay builder

-- Where the builder answers a length, so many bytes of the room are an accepted task file.
pub record BuiltTask (file room lent : List ℕ) (k : ℕ) : Type 0 where
  -- The bay file was accepted as this bay.
  pub bay : Bay
  pub end : ℕ
  pub accepted : judged_bay file ≡ got bay end
  -- The first k bytes are accepted as its task, and the others stay.
  pub task : judged_task (take k lent) ≡ got (bay_task bay) k
  pub others : drop k lent ≡ drop k room
  -- "The bay builder's task has the bay's moves and no others": "from every state that holds the start's labels, each as often, one operator leads
  -- to exactly the states that one move leads to".
  pub moves : (s t : List ℕ) → SameLabels bay.start s → Move (slot_count bay) (neighbours bay.columns) s t ↔ Step (bay_task bay).operators s t
  -- So the task is unsolvable exactly when no moves lead from the start to the goal.
  pub unsolvable : Unsolvable (bay_task bay) ↔ ((ms : List (List ℕ)) → Moves (slot_count bay) (neighbours bay.columns) ms bay.start bay.goal → ⊥)

pub built : (file room lent : List ℕ) (k : ℕ) → Builds file room (record { answer = done k; lent = lent }) → BuiltTask file room lent k
built file room lent k builds =
    let (b, end, e, left) = builds-leave room lent k (judged_bay file) (λ b. task_bytes (bay_task b)) builds in
    record {
      bay = b;
      end = end;
      accepted = e;
      task = ap judged_task left.front ∙ bay-read file b end e ∙ ap (got (bay_task b)) left.width;
      others = left.others;
      moves = bay-moves file b end e;
      unsolvable = bay-unsolvable file b end e;
    }

-- ---- demand 3

-- A file of a task, opened afresh, against an edited workspace that has k words due.
pub record Afresh (file edited : List ℕ) (k : ℕ) : Type 0 where
  -- "Its words then equal those opened afresh": a room that has k words is then left with those of the edited workspace,
  pub opens : (room : List ℕ) → k ≤ length room → Opens file room (writes k (take k edited) room)
  -- and whatever room was opened has them.
  pub words : (room fresh : List ℕ) (due : ℕ) → Opens file room (record { answer = done due; lent = fresh }) → (due ≡ k) × (take k edited ≡ take k fresh)
  -- "Its answer is that task's answer", whether the finder is lent the whole rooms or other words that begin with the k words due.
  pub answers : (room fresh : List ℕ) (due : ℕ) → Opens file room (record { answer = done due; lent = fresh })
      → (ws us : List ℕ) → take k ws ≡ take k edited → take k us ≡ take k fresh → (lent : List ℕ) (outcome : Outcome Finding) → Finds ws lent outcome ↔ Finds us lent outcome

-- "Open a workspace from an accepted task and change it only by our edits (add a move, replace the start, replace the goal, refused edits among
-- them)." The edits are lent the whole room, or the k words due alone, or any words that begin with these. U is "a task with the same variables and
-- pairs, the last accepted start and goal, and all its moves, the first task's with every one accepted since, listed in any order, repeats or not".
module _ (T U : Task) (file room workspace lent edited : List ℕ) (next k : ℕ) (events : List Event)
    (judged : judged_task file ≡ got T next) (opens : Opens file room (record { answer = done k; lent = workspace }))
    (begins : take k lent ≡ take k workspace) (edits : Edited lent events edited) (same : SameTask (task_after T events) U) where
  due-alike : k ≡ due_for U
  due-alike = (opened-due T file room workspace next k judged opens).1 ∙ sym (after-due T events) ∙ ap (λ sizes. words_due (length sizes) (features sizes)) same.sizes

  stands : StandsFor U edited
  stands =
      let (S, due) = opened-due T file room workspace next k judged opens in
      same-stands (task_after T events) U edited same (edited-stands events T lent edited (begins-stands T workspace S lent (rw (← due) begins)) edits)

  -- Whatever file is accepted as that task.
  pub edited-afresh : (file' : List ℕ) (next' : ℕ) → judged_task file' ≡ got U next' → Afresh file' edited k
  edited-afresh file' next' judged' = rw due-alike (record {
    opens = stands-opens U edited stands file' next' judged';
    words = λ room' fresh due o. let (R, e) = opened-due U file' room' fresh next' due judged' o in (e, same-words U edited fresh stands R);
    answers = λ room' fresh due o ws us p q. same-finds U ws us (begins-stands U edited stands ws p)
        (begins-stands U fresh (opened-stands U file' room' fresh next' due judged' o) us q);
  })

  -- "provided such a task can be written": its operators can be counted. Nothing else can stand in the way.
  pub edited-writable : (judged_task (task_bytes U) ≡ got U (length (task_bytes U))) ↔ (length U.operators < number_end)
  edited-writable = (
    λ e. (Files.accepted (task_bytes U) U (length (task_bytes U)) e).countable,
    λ few. read_back U (record { acceptable = stands.acceptable; countable = few }),
  )

  -- So with that proviso alone, of the file that is written for that task.
  pub written-afresh : length U.operators < number_end → Afresh (task_bytes U) edited k
  written-afresh few = edited-afresh (task_bytes U) (length (task_bytes U)) (edited-writable.1 few)

  -- And with no proviso, in the words of demand 2: none exactly when no weights separate that task, or else the least that do.
  pub edited-none : (lent lent' : List ℕ) → Finds edited lent (record { answer = done none; lent = lent' })
      ↔ ((words_for (features U.sizes) ≤ length lent) × ((w : Set) → Separates U w → ⊥) × (lent' ≡ lent))
  edited-none = none_right U edited stands

  pub edited-least : (lent lent' : List ℕ) → Finds edited lent (record { answer = done separated; lent = lent' })
      → (w : Set) × LeastOf (features U.sizes) (Separates U) w × (lent' ≡ packed (features U.sizes) w ++ drop (length (packed (features U.sizes) w)) lent)
  edited-least = found_right U edited stands
