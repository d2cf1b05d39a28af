-- What silence answers for an accepted task, by its file and its parts.
use Rattle.std.specs.Prelude.{ℕ, ◌<◌, ◌≤◌, ◌≡◌, ◌≢◌, true, false, get_or, drop}
use Rattle.std.proofs.Math.Path.{refl, sym, ap}
use Rattle.std.proofs.Common.{◌∙◌, subst, arith}
use mathlib.Core.List.{List, Memᴰ as In}
use Rattle.std.proofs.Math.ListN.{length}
use borrow.Author.Tests.{eq-eqb, ne_eqb, lt-leb, le-leb}
use Rattle.meaning.specs.Limits.{most_variables, most_features, number_end}
use Rattle.meaning.specs.Task.{Task}
use Rattle.meaning.specs.Feature.{atoms, features}
use Rattle.meaning.specs.Number.{Reason, Range, Outgrown, got, fault}
use Rattle.meaning.specs.File.{judged_task, Writable, InLimits, bytes_of, operator_bytes}
use Rattle.meaning.specs.Workspace.{has}
use Rattle.meaning.specs.Answer.{Outcome, fine, faulty, refuses, delivered}
use Rattle.meaning.specs.Partial.{built_sizes, silenced, silences_by, Silences}
use Rattle.theory.specs.Spent.{Bytes}
use Rattle.theory.specs.Parts.{operators-said}
use Rattle.theory.specs.PartialParts.{operators-copied}
use Rattle.theory.specs.Flat.{get_d-in, in-get_d}
use Rattle.theory.specs.Accepted.{accepted, accepted-end}
use Rattle.words.specs.Members.{members_in, members-are}
use Rattle.layout.specs.Parts.{sizes_part, start_part, goal_part, pairs_part}
use Rattle.task.specs.Answer.{Known, known-parts, known-ready}
use Rattle.writer.specs.Parts.{Countable, FewWords}
use Rattle.writer.specs.Front.{sizes-countable, state-countable}
use Rattle.silencing.specs.Marks.{are_marks, are_roomy, Marked, are-marked, judged_by, marks-judged, picked, picked-in}
use Rattle.silencing.specs.Parts.{PartialFront, rest_bytes, parts_bytes, task-rest, silenced-bytes}

-- A task that was accepted, by its file and its parts: its pairs in words, and its operators as they stand in the file.
pub record Parted (bytes own : List ℕ) (count : ℕ) (sizes start goal pairs : List ℕ) : Type 0 where
  pub task : Task
  pub next : ℕ
  pub judged : judged_task bytes ≡ got task next
  pub sizes-are : sizes ≡ task.sizes
  pub start_is : start ≡ task.start
  pub goal-is : goal ≡ task.goal
  pub few : FewWords pairs
  pub pairs-are : members_in pairs ≡ task.pairs
  pub many : count ≡ length task.operators
  pub copied : own ≡ bytes_of operator_bytes task.operators

-- What the judge tells of an accepted file.
module _ {bytes words left : List ℕ} {v n count at : ℕ} (known : Known bytes words left v n count at) where
  abbrev read : Task
  read = known.accepted.task

  end : known.accepted.next ≡ length bytes
  end = accepted-end bytes read known.accepted.next known.accepted.judged

  -- The operators begin within the file.
  pub at-within : at ≤ length bytes
  at-within = omega (arith, ((operators-said bytes read.sizes count).gives at read.operators known.accepted.next known.operators).moved, end)

  -- The header's parts, as they are lent.
  module _ (sizes start goal pairs : List ℕ) (sizes-are : sizes ≡ sizes_part v left) (start_is : start ≡ start_part v left) (goal-is : goal ≡ goal_part v left) (pairs-are : pairs ≡ pairs_part v n left) where
    few_words : FewWords pairs
    few_words = let Listed-in = (known-ready known.accepted).0 in omega (arith, Listed-in.due, Listed-in.limits.total, ap length pairs-are)

    pairs-members : members_in pairs ≡ read.pairs
    pairs-members =
        members-are (atoms read.sizes) (features read.sizes) read.pairs pairs known.accepted.writable.acceptable.pairs (ap has pairs-are ∙ (known-parts known.accepted).3)

    pub known-parted : Bytes bytes → (own : List ℕ) → own ≡ drop at bytes → Parted bytes own count sizes start goal pairs
    known-parted small own e = let parts = known-parts known.accepted in record {
      task = read;
      next = known.accepted.next;
      judged = known.accepted.judged;
      sizes-are = sizes-are ∙ parts.0;
      start_is = start_is ∙ parts.1;
      goal-is = goal-is ∙ parts.2;
      few = few_words;
      pairs-are = pairs-members;
      many = known.many;
      copied = e ∙ operators-copied bytes read.sizes count at read.operators known.accepted.next small known.operators (omega (arith, end));
    }

-- What can be silenced by marks that were judged.
pub record Silent (sizes start goal marks : List ℕ) : Type 0 where
  pub sizes-fit : Countable sizes
  pub start_fits : Countable start
  pub goal-fits : Countable goal
  pub few : length goal ≤ most_variables
  pub marked : Marked (length goal) marks

module _ {sizes start goal marks : List ℕ} (silent : Silent sizes start goal marks) where
  -- The front with the goal values that are named can be written.
  pub silent-front : (named : List ℕ) → length named ≤ length marks → named ≡ picked marks goal → PartialFront sizes marks start named
  silent-front named few e = (
    silent.sizes-fit,
    omega (arith, silent.few, silent.marked.long),
    silent.start_fits,
    (
      omega (arith, silent.few, silent.marked.long),
      λ i l.
          let (k, m, q) = in-get_d goal (get_or named i 0) 0 (picked-in marks goal (get_or named i 0) (subst (In (get_or named i 0)) e (get_d-in named i 0 l))) in
          let small : get_or goal k 0 < number_end = silent.goal-fits.1 k m in
          rw (← q) small,
    ),
  )

module _ (bytes own : List ℕ) (count : ℕ) (sizes start goal pairs : List ℕ) (parted : Parted bytes own count sizes start goal pairs) where
  abbrev T : Task
  T = parted.task

  writable : Writable T
  writable = accepted bytes T parted.next parted.judged

  pub parted-limits : InLimits sizes
  parted-limits = rw parted.sizes-are writable.acceptable.limits

  module _ (marks room : List ℕ) where
    pub parted-silent : length marks ≡ length sizes → are_marks marks ≡ true → Silent sizes start goal marks × FewWords pairs × (count < number_end)
    parted-silent long ok =
        let a = writable.acceptable in (
          rw (parted.sizes-are, parted.start_is, parted.goal-is) (record {
            sizes-fit = sizes-countable T.sizes a.limits;
            start_fits = state-countable T.sizes T.start a.limits a.start;
            goal-fits = state-countable T.sizes T.goal a.limits a.goal;
            few = omega (arith, a.goal.full, a.limits.variables);
            marked = are-marked (length T.goal) marks (long ∙ ap length parted.sizes-are ∙ sym a.goal.full) ok;
          }),
          parted.few,
          omega (arith, parted.many, writable.countable),
        )

    by-judged : (outcome : Outcome ℕ) → outcome ≡ silences_by (judged_by sizes marks) (silenced T marks) room → Silences bytes marks room outcome
    by-judged outcome q = rw parted.judged (q ∙ ap (λ j. silences_by j (silenced T marks) room) (ap (λ ds. judged_by ds marks) parted.sizes-are ∙ sym (marks-judged T marks)))

    -- Marks or sizes that are refused.
    pub silence-refused : (reason : Reason) → judged_by sizes marks ≡ faulty reason → Silences bytes marks room (refuses reason room)
    silence-refused reason e = by-judged (refuses reason room) (sym (ap (λ j. silences_by j (silenced T marks) room) e))

    -- Marks of another number, a mark above 1, sizes without room for "unknown", more features with it than there may be.
    pub wrong-number : length marks ≢ length sizes → judged_by sizes marks ≡ faulty Range
    unfolding judged_by
    wrong-number d = rw (ne_eqb _ _ d) refl

    module _ (long : length marks ≡ length sizes) where
      pub wrong-mark : are_marks marks ≡ false → judged_by sizes marks ≡ faulty Range
      unfolding judged_by
      wrong-mark e = rw (eq-eqb _ _ long, e) refl

      pub no_room : are_marks marks ≡ true → are_roomy sizes ≡ false → judged_by sizes marks ≡ faulty Outgrown
      unfolding judged_by
      no_room e d = rw (eq-eqb _ _ long, e, d) refl

      pub too_many : are_marks marks ≡ true → are_roomy sizes ≡ true → most_features < features (built_sizes sizes) → judged_by sizes marks ≡ faulty Outgrown
      unfolding judged_by
      too_many e d l = rw (eq-eqb _ _ long, e, d, lt-leb _ _ l) refl

      -- Otherwise the file is delivered.
      pub silence-delivered : (outcome : Outcome ℕ) → are_marks marks ≡ true → are_roomy sizes ≡ true → features (built_sizes sizes) ≤ most_features
          → outcome ≡ delivered (parts_bytes sizes marks start (picked marks goal) (rest_bytes pairs count own)) room → Silences bytes marks room outcome
      unfolding judged_by
      silence-delivered outcome e d l q =
          let a = writable.acceptable in
          let ok = are-marked (length T.sizes) marks (long ∙ ap length parted.sizes-are) e in
          let rest = task-rest T pairs count own parted.pairs-are parted.many parted.copied in
          let file = rw (parted.sizes-are, parted.start_is, parted.goal-is) at q in
          let judged : judged_by sizes marks ≡ fine = rw (eq-eqb _ _ long, e, d, le-leb _ _ l) refl in
          by-judged outcome (file ∙ ap (λ l. delivered l room) (sym (silenced-bytes T marks (rest_bytes pairs count own) a.goal ok rest)) ∙ sym (ap (λ j. silences_by j (silenced T marks) room) judged))

-- A task that is refused.
pub task-refused : (bytes marks room : List ℕ) (reason : Reason) (place : ℕ) → judged_task bytes ≡ fault reason place → Silences bytes marks room (refuses reason room)
task-refused bytes marks room reason place e = rw e refl
