-- Demand 3: a workspace opened from a task and changed by edits stands for the task after these edits, and so for every task alike; such workspaces
-- have the words that a fresh opening would leave, and its answers.
use Rattle.std.specs.Prelude.{ℕ, ◌≤◌, ◌≡◌, refl, ◌↔◌, true, cond, ltb, length, take, drop}
use Rattle.std.proofs.Common.{ap, sym, ◌∙◌, arith, take-append-drop, take_at, le-ltb}
use Rattle.std.proofs.Math.Path.{subst}
use Rattle.std.proofs.Math.Logic.{inl, inr}
use Rattle.std.proofs.Math.Logic.Iff
use mathlib.Core.List.Memᴰ.{append_cases}
use mathlib.Core.List.Memᴰ.{eq_of_singleton}
use mathlib.Core.List.{List, [], ◌∷◌, ◌++◌, Memᴰ as In}
use Rattle.meaning.specs.Sets.{Slots, listed}
use Rattle.meaning.specs.Task.{Operator, Task, IsOperator}
use Rattle.meaning.specs.Feature.{features}
use Rattle.meaning.specs.Pair.{closed}
use Rattle.meaning.specs.Slot.{SlotsOf}
use Rattle.meaning.specs.Weight.{Meets}
use Rattle.meaning.specs.Number.{Small, refusal, got}
use Rattle.meaning.specs.File.{judged_task, Acceptable}
use Rattle.meaning.specs.Workspace.{Content, words_of, words_due, Proper, WellFormed, content_of}
use Rattle.meaning.specs.Answer.{Answer, done, refused, Outcome, refuses, writes, Edit, OperatorRecord, add_operator, replace_start, replace_goal, operator_in, Judged, fine, faulty, edit_judged, Changes, EditsIn, Edits, Opens, Finding, FindsBy, Finds}
use Rattle.meaning.specs.History.{Event, Edited, start_after, goal_after, moves_after, task_after, SameTask}
use Rattle.theory.specs.Truth.{on, off, test}
use Rattle.theory.specs.SlotsOf.{slots-along, slots-only}
use Rattle.theory.specs.Conditions.{Ranged, meets-same, slots-more}
use Rattle.theory.specs.Contents.{formed-only, length-words, opened-proper, edit-proper}
use Rattle.theory.specs.Accepted.{accepted}
use Rattle.theory.specs.Operands.{add-fine, add-operator}

-- ---- the task after one edit

abbrev pub one_after : Task → Edit → Answer (Unit {0}) → Task
one_after T edit answer = record {
  sizes = T.sizes;
  start = start_after T.start edit answer;
  goal = goal_after T.goal edit answer;
  pairs = T.pairs;
  operators = moves_after T.operators edit answer;
}

-- A refused edit leaves the task as it was.
refused-after : (T : Task) (edit : Edit) (k : ℕ) → one_after T edit (refused k) ≡ T
refused-after T (add_operator r) k = refl
refused-after T (replace_start values) k = refl
refused-after T (replace_goal values) k = refl

-- What holds of each operator holds of each with one more of which it holds.
one_more : (P : Operator → Type 0) (os : List Operator) (o : Operator) → ((p : Operator) → In p os → P p) → P o → (p : Operator) → In p (os ++ (o ∷ [])) → P p
one_more P os o each own p m = elim (append_cases os m) [ inl k ↦ each p k | inr k ↦ rw (eq_of_singleton k) own ]

-- What holds of each operator, and of one that an edit adds, holds of each after that edit.
after-each : (P : Operator → Type 0) (os : List Operator) (edit : Edit) → ((p : Operator) → In p os → P p) → ((r : OperatorRecord) → edit ≡ add_operator r → P (operator_in r))
    → (p : Operator) → In p (moves_after os edit (done tt)) → P p
after-each P os (add_operator r) each own = one_more P os (operator_in r) each (own r refl)
after-each P os (replace_start values) each own = each
after-each P os (replace_goal values) each own = each

-- An accepted edit that leaves a proper content leaves a task that keeps every rule.
after-acceptable : (T : Task) (slots slots' : Slots) (edit : Edit) → Acceptable T → edit_judged (content_of T slots) edit ≡ fine → Proper (content_of (one_after T edit (done tt)) slots')
    → Acceptable (one_after T edit (done tt))
after-acceptable T slots slots' edit a e p = record {
  limits = p.limits;
  taken = p.taken;
  start = p.start;
  goal = p.goal;
  pairs = a.pairs;
  operators = after-each (IsOperator T.sizes) T.operators edit a.operators (λ r q. add-operator (content_of T slots) r (added r q));
  free = p.free;
  closed-under = after-each (λ o. closed T.sizes (listed T.pairs) o ≡ true) T.operators edit a.closed-under (λ r q. (add-fine (content_of T slots) r (added r q)).2);
}
  where
    added : (r : OperatorRecord) → edit ≡ add_operator r → edit_judged (content_of T slots) (add_operator r) ≡ fine
    added r q = subst (λ edit. edit_judged (content_of T slots) edit ≡ fine) q e

-- ---- what a workspace stands for

-- A workspace stands for a task that keeps every rule: it begins with the words of the task's content, and its slots are those of the task's
-- operators.
pub record StandsFor (T : Task) (workspace : List ℕ) : Type 0 where
  pub slots : Slots
  pub further : List ℕ
  pub words : workspace ≡ words_of (content_of T slots) ++ further
  pub acceptable : Acceptable T
  pub are : SlotsOf (features T.sizes) (Meets T.sizes (listed T.pairs) T.operators) slots

-- How many words are due for a task.
abbrev pub due_for : Task → ℕ
due_for T = words_due (length T.sizes) (features T.sizes)

module _ (T : Task) (workspace : List ℕ) (S : StandsFor T workspace) where
  pub stands-ranged : Ranged T.sizes (listed T.pairs) T.operators
  stands-ranged o m = (S.acceptable.operators o m).entries

  pub stands-proper : Proper (content_of T S.slots)
  stands-proper = opened-proper T S.slots S.acceptable S.are.shape

  unfoldable pub stands-formed : WellFormed workspace
  stands-formed = record { content = content_of T S.slots; further = S.further; words = S.words; proper = stands-proper }

  -- A workspace that stands for a task has that task's content.
  pub stands-content : (formed : WellFormed workspace) → formed.content ≡ content_of T S.slots
  unfolding stands-formed
  stands-content formed = formed-only formed stands-formed

  -- It begins with the words of that content.
  pub stands-words : take (due_for T) workspace ≡ words_of (content_of T S.slots)
  stands-words = rw S.words (take_at (words_of (content_of T S.slots)) S.further _ (length-words (content_of T S.slots) S.acceptable.start.full S.acceptable.goal.full))

  -- So do all words that begin with those that are due.
  pub begins-stands : (other : List ℕ) → take (due_for T) other ≡ take (due_for T) workspace → StandsFor T other
  begins-stands other same = record {
    slots = S.slots;
    further = drop (due_for T) other;
    words = sym (take-append-drop (due_for T) other) ∙ ap (λ l. l ++ drop (due_for T) other) (same ∙ stands-words);
    acceptable = S.acceptable;
    are = S.are;
  }

  -- The finder goes by that content.
  pub stands-finds : (room : List ℕ) (outcome : Outcome Finding) → Finds workspace room outcome ↔ FindsBy (content_of T S.slots) room outcome
  unfolding stands-formed
  stands-finds room outcome = (
    λ h. elim h [ inl k ↦ absurd (k.0 stands-formed) | inr (formed, k) ↦ subst (λ c. FindsBy c room outcome) (stands-content formed) k ],
    λ h. inr (stands-formed, h),
  )

  -- A fresh opening of a file of that task leaves the same words.
  pub stands-opens : (file : List ℕ) (next : ℕ) → judged_task file ≡ got T next → (room : List ℕ) → due_for T ≤ length room
      → Opens file room (writes (due_for T) (take (due_for T) workspace) room)
  stands-opens file next judged room long = rw (judged, le-ltb (length room) (due_for T) long)
      (S.slots, S.are, ap (λ words. writes (due_for T) words room) stands-words)

  -- What an accepted edit makes of the content is a content of the task after it, with that task's slots.
  changed : (edit : Edit) (c' : Content) → Changes (content_of T S.slots) edit c'
      → (slots : Slots) × SlotsOf (features T.sizes) (Meets T.sizes (listed T.pairs) (moves_after T.operators edit (done tt))) slots
      × (c' ≡ content_of (one_after T edit (done tt)) slots)
  changed (add_operator r) c' (slots, D, q) = (slots, slots-more T.sizes (listed T.pairs) T.operators (operator_in r) S.slots slots stands-ranged S.are D, q)
  changed (replace_start values) c' q = (S.slots, S.are, q)
  changed (replace_goal values) c' q = (S.slots, S.are, q)

  -- By the judgement of the operand.
  by-judgement : (edit : Edit) (answer : Answer (Unit {0})) (next : List ℕ) (judged : Judged) → edit_judged (content_of T S.slots) edit ≡ judged
      → EditsIn judged workspace (content_of T S.slots) edit (record { answer = answer; lent = next }) → StandsFor (one_after T edit answer) next
  by-judgement edit answer next (faulty reason) e q = rw (ap (λ o. o.answer) q, refused-after T edit (refusal reason), ap (λ o. o.lent) q) S
  by-judgement edit answer next fine e (c', h, q) =
      let (slots, D, q') = changed edit c' h in
      rw (ap (λ o. o.answer) q) (record {
        slots = slots;
        further = drop (length (words_of c')) workspace;
        words = ap (λ o. o.lent) q ∙ ap (λ c. words_of c ++ drop (length (words_of c')) workspace) q';
        acceptable = after-acceptable T S.slots slots edit S.acceptable e (subst Proper q' (edit-proper (content_of T S.slots) c' edit stands-proper e h));
        are = D;
      })

  -- One edit, accepted or refused.
  pub edit-stands : (edit : Edit) (answer : Answer (Unit {0})) (next : List ℕ) → Edits workspace edit (record { answer = answer; lent = next })
      → StandsFor (one_after T edit answer) next
  edit-stands edit answer next (inl h) = absurd (h.0 stands-formed)
  edit-stands edit answer next (inr (formed, h)) =
      by-judgement edit answer next (edit_judged (content_of T S.slots) edit) refl
      (subst (λ c. EditsIn (edit_judged c edit) workspace c edit (record { answer = answer; lent = next })) (stands-content formed) h)

-- Any list of edits.
pub edited-stands : (events : List Event) (T : Task) (workspace end : List ℕ) → StandsFor T workspace → Edited workspace events end → StandsFor (task_after T events) end
unfolding task_after
edited-stands [] T workspace end S h = rw h at S
edited-stands (e ∷ es) T workspace end S (next, h, rest) =
    edited-stands es (one_after T e.edit e.answer) next end (edit-stands T workspace S e.edit e.answer next h) rest

-- Edits leave the variables, and so the number of words that are due.
pub after-due : (T : Task) (events : List Event) → due_for (task_after T events) ≡ due_for T
unfolding task_after
after-due T [] = refl
after-due T (e ∷ es) = after-due (one_after T e.edit e.answer) es

-- An opened workspace stands for its task, and the answer is the number of words that are due.
pub opened-due : (T : Task) (bytes room workspace : List ℕ) (next k : ℕ) → judged_task bytes ≡ got T next
    → Opens bytes room (record { answer = done k; lent = workspace }) → StandsFor T workspace × (k ≡ due_for T)
opened-due T bytes room workspace next k judged opens =
    elim (test (ltb (length room) (due_for T))) [
      | on p ↦ let q : record { answer = done k; lent = workspace } ≡ refuses Small room = rw p at read in absurd (let z : ◌≡◌ {A = ℕ} 0 1 = cc (ap (λ (o : Outcome ℕ). o.answer) q) in omega arith)
      | off p ↦ stands (rw p at read)
    ]
  where
    Written : Type 0
    Written = (slots : Slots) × SlotsOf (features T.sizes) (Meets T.sizes (listed T.pairs) T.operators) slots
        × (record { answer = done k; lent = workspace } ≡ writes (due_for T) (words_of (content_of T slots)) room)

    read : cond (ltb (length room) (due_for T)) (record { answer = done k; lent = workspace } ≡ refuses Small room) Written
    read = rw judged at opens

    stands : Written → StandsFor T workspace × (k ≡ due_for T)
    stands (slots, D, q) = (
      record {
        slots = slots;
        further = drop (length (words_of (content_of T slots))) room;
        words = ap (λ (o : Outcome ℕ). o.lent) q;
        acceptable = (accepted bytes T next judged).acceptable;
        are = D;
      },
      cc (ap (λ (o : Outcome ℕ). o.answer) q),
    )

pub opened-stands : (T : Task) (bytes room workspace : List ℕ) (next k : ℕ) → judged_task bytes ≡ got T next
    → Opens bytes room (record { answer = done k; lent = workspace }) → StandsFor T workspace
opened-stands T bytes room workspace next k judged opens = (opened-due T bytes room workspace next k judged opens).0

-- A workspace stands for every task alike but for the order of its operators and repeats.
pub same-stands : (T U : Task) (workspace : List ℕ) → SameTask T U → StandsFor T workspace → StandsFor U workspace
same-stands T U workspace q S = subst (λ task. StandsFor task workspace) alike (record {
  slots = S.slots;
  further = S.further;
  words = S.words;
  acceptable = record {
    limits = S.acceptable.limits;
    taken = S.acceptable.taken;
    start = S.acceptable.start;
    goal = S.acceptable.goal;
    pairs = S.acceptable.pairs;
    operators = λ o m. S.acceptable.operators o ((q.operators o).1 m);
    free = S.acceptable.free;
    closed-under = λ o m. S.acceptable.closed-under o ((q.operators o).1 m);
  };
  are = slots-along (features T.sizes) (Meets T.sizes (listed T.pairs) T.operators) (Meets T.sizes (listed T.pairs) U.operators) S.slots
      (meets-same T.sizes (listed T.pairs) T.operators U.operators q.operators) S.are;
})
  where
    alike : record { sizes = T.sizes; start = T.start; goal = T.goal; pairs = T.pairs; operators = U.operators } ≡ U
    alike i = record { sizes = q.sizes i; start = q.start i; goal = q.goal i; pairs = q.pairs i; operators = U.operators }

-- Two workspaces that stand for one task.
module _ (T : Task) (ws us : List ℕ) (S : StandsFor T ws) (R : StandsFor T us) where
  one-content : content_of T S.slots ≡ content_of T R.slots
  one-content = ap (content_of T) (slots-only _ _ _ S.slots R.slots (λ w. Iff.rfl) S.are R.are)

  -- They begin with the same words,
  pub same-words : take (due_for T) ws ≡ take (due_for T) us
  same-words = stands-words T ws S ∙ ap words_of one-content ∙ sym (stands-words T us R)

  -- and whatever the finder may answer for the one it may for the other.
  pub same-finds : (room : List ℕ) (outcome : Outcome Finding) → Finds ws room outcome ↔ Finds us room outcome
  same-finds room outcome = (
    λ h. (stands-finds T us R room outcome).1 (subst (λ c. FindsBy c room outcome) one-content ((stands-finds T ws S room outcome).0 h)),
    λ h. (stands-finds T ws S room outcome).1 (subst (λ c. FindsBy c room outcome) (sym one-content) ((stands-finds T us R room outcome).0 h)),
  )
