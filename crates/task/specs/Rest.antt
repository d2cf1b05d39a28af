-- What is judged behind the mark and behind the header of a task file, wholly or up to 5: that a task is judged as its front and then the rest, and a file as its mark and then its task.
use Rattle.std.specs.Prelude.{ℕ, ◌<◌, ◌≤◌, ◌≡◌, Bool, length, leb}
use Rattle.std.proofs.Math.Path.{refl, sym, ap}
use Rattle.std.proofs.Common.{◌∙◌}
use Rattle.std.proofs.Math.Bool.{true, false, cond}
use mathlib.Core.List.{List}
use borrow.Author.Tests.{le-leb, lt-leb}
use Rattle.meaning.specs.Sets.{Set, listed, all_of}
use Rattle.meaning.specs.Task.{Operator, Task}
use Rattle.meaning.specs.Pair.{closed, holds}
use Rattle.meaning.specs.Number.{Reason, Read, got, fault, on_read, LeftOver, Held, Unclosed}
use Rattle.meaning.specs.File.{Parser, give, then, judge, Kind, kind_of, mark_of, operators_of, ended, parts_of, task_as, task_of, judged_pairs, judged_as, judged_task}
use Rattle.theory.specs.Reading.{on-got, test-passed, test-failed, judged-passed}
use Rattle.reader.specs.Front.{Front, front_of, task_with, task-front}
use Rattle.task.specs.Walk.{closed_from, closed_all}

-- What stands behind the mark of a task file, judged wholly, or up to 5 and no further.
unfoldable pub judged_by : Kind → Bool → Parser Task
judged_by kind true bytes from = on_read (parts_of kind bytes from) judged_pairs
judged_by kind false bytes from = parts_of kind bytes from

-- A task file of a kind, judged so.
unfoldable pub file_by : Kind → Bool → List ℕ → Read Task
file_by kind true bytes = judged_as kind bytes
file_by kind false bytes = task_as kind bytes 0

-- What is judged after the last byte, if the task is judged wholly: "then come 5, 6, 7 by operator".
abbrev pub judged_last : Bool → List ℕ → Set → List ℕ → List Operator → ℕ → Read (List Operator)
judged_last wholly sizes pairs start operators next = cond wholly
    (cond (holds sizes pairs start) (fault Held 0) (cond (all_of (closed sizes pairs) operators) (got operators next) (fault Unclosed 0)))
    (got operators next)

-- So many operators, and then nothing.
abbrev pub ended_of : List ℕ → ℕ → Parser (List Operator)
ended_of sizes count = then (operators_of sizes count) (λ operators. then ended (λ _. give operators))

-- These, and what is judged then.
unfoldable pub rest_of : Bool → List ℕ → Set → List ℕ → ℕ → Parser (List Operator)
rest_of wholly sizes pairs start count bytes at = on_read (ended_of sizes count bytes at) (judged_last wholly sizes pairs start)

-- ---- by what the code finds

module _ (wholly : Bool) (sizes : List ℕ) (pairs : Set) (start : List ℕ) (count : ℕ) (bytes : List ℕ) (at : ℕ) where
  pub rest-unread : (reason : Reason) (place : ℕ) → operators_of sizes count bytes at ≡ fault reason place → rest_of wholly sizes pairs start count bytes at ≡ fault reason place
  unfolding rest_of
  rest-unread reason place e = rw e

  module _ (operators : List Operator) (next : ℕ) (read : operators_of sizes count bytes at ≡ got operators next) where
    pub rest_over : next < length bytes → rest_of wholly sizes pairs start count bytes at ≡ fault LeftOver next
    unfolding rest_of ended judge
    rest_over h = rw (read, lt-leb (length bytes) next h)

    module _ (all : length bytes ≤ next) where
      -- Up to 5 nothing more is judged.
      pub rest_read : wholly ≡ false → rest_of wholly sizes pairs start count bytes at ≡ got operators next
      unfolding rest_of ended judge
      rest_read w = rw (read, le-leb (length bytes) next all, w)

      module _ (w : wholly ≡ true) where
        pub rest-held : holds sizes pairs start ≡ true → rest_of wholly sizes pairs start count bytes at ≡ fault Held 0
        unfolding rest_of ended judge
        rest-held h = rw (read, le-leb (length bytes) next all, w, h)

        rest-closed : (b : Bool) → holds sizes pairs start ≡ false → closed_from sizes pairs count bytes at ≡ b
            → rest_of wholly sizes pairs start count bytes at ≡ cond b (got operators next) (fault Unclosed 0)
        unfolding rest_of ended judge
        rest-closed b h c = rw (read, le-leb (length bytes) next all, w, h, sym (closed_all sizes pairs bytes count at operators next read) ∙ c)

        pub rest-unclosed : holds sizes pairs start ≡ false → closed_from sizes pairs count bytes at ≡ false → rest_of wholly sizes pairs start count bytes at ≡ fault Unclosed 0
        rest-unclosed = rest-closed false

        pub rest-got : holds sizes pairs start ≡ false → closed_from sizes pairs count bytes at ≡ true → rest_of wholly sizes pairs start count bytes at ≡ got operators next
        rest-got = rest-closed true

  -- What was passed has its operators read.
  pub rest-operators : (operators : List Operator) (next : ℕ) → rest_of wholly sizes pairs start count bytes at ≡ got operators next
      → operators_of sizes count bytes at ≡ got operators next
  unfolding rest_of ended
  rest-operators operators next e =
      let (os, middle, p, q) = on-got (ended_of sizes count bytes at) (judged_last wholly sizes pairs start) operators next e in
      let (all, after, read, end) = on-got (operators_of sizes count bytes at) _ os middle p in
      read ∙ (judged-passed (leb (length bytes) after) LeftOver bytes after all os middle end).1 ∙ passed wholly (holds sizes pairs start) (all_of (closed sizes pairs) os) (got os middle) q
    where
      passed : (wholly held shut : Bool) (read : Read (List Operator)) → cond wholly (cond held (fault Held 0) (cond shut read (fault Unclosed 0))) read ≡ got operators next
          → read ≡ got operators next
      passed true held shut read q = (test-passed shut read Unclosed 0 operators next (test-failed held _ Held 0 operators next q).1).1
      passed false held shut read q = q

-- ---- a task

module _ (kind : Kind) (bytes : List ℕ) (from : ℕ) where
  pub front-unread : (wholly : Bool) (reason : Reason) (place : ℕ) → front_of kind bytes from ≡ fault reason place → judged_by kind wholly bytes from ≡ fault reason place
  unfolding judged_by
  front-unread true reason place e = rw (task-front kind bytes from, e)
  front-unread false reason place e = rw (task-front kind bytes from, e)

  module _ (front : Front) (at : ℕ) where
    abbrev made : Read (List Operator) → Read Task
    made read = on_read read (λ operators next. got (task_with front operators) next)

    -- What is read behind a front, up to 5; and what is judged behind it.
    abbrev ends : Read (List Operator)
    ends = ended_of front.states.sizes front.count bytes at

    abbrev pub behind : Bool → Read (List Operator)
    behind wholly = rest_of wholly front.states.sizes (listed front.pairs) front.states.start front.count bytes at

    read_behind : front_of kind bytes from ≡ got front at → parts_of kind bytes from ≡ made ends
    read_behind read = rw (task-front kind bytes from, read) (at-operators (operators_of front.states.sizes front.count bytes at))
      where
        at-end : (operators : List Operator) (end : Read (Unit {0})) → on_read end (λ _ next. got (task_with front operators) next) ≡ made (on_read end (λ _ next. got operators next))
        at-end operators (got _ next) = refl
        at-end operators (fault reason place) = refl

        at-operators : (read : Read (List Operator)) → on_read read (λ operators after. on_read (ended bytes after) (λ _ next. got (task_with front operators) next))
            ≡ made (on_read read (λ operators after. on_read (ended bytes after) (λ _ next. got operators next)))
        at-operators (got operators after) = at-end operators (ended bytes after)
        at-operators (fault reason place) = refl

    pub judged-behind : (wholly : Bool) → front_of kind bytes from ≡ got front at → judged_by kind wholly bytes from ≡ made (behind wholly)
    unfolding judged_by rest_of
    judged-behind true read = ap (λ r. on_read r judged_pairs) (read_behind read) ∙ last ends
      where
        tests : (operators : List Operator) (next : ℕ) (held shut : Bool)
            → cond held (fault Held 0) (cond shut (got (task_with front operators) next) (fault Unclosed 0)) ≡ made (cond held (fault Held 0) (cond shut (got operators next) (fault Unclosed 0)))
        tests operators next true shut = refl
        tests operators next false true = refl
        tests operators next false false = refl

        last : (read : Read (List Operator)) → on_read (made read) judged_pairs ≡ made (on_read read (judged_last true front.states.sizes (listed front.pairs) front.states.start))
        last (got operators next) = tests operators next (holds front.states.sizes (listed front.pairs) front.states.start)
            (all_of (closed front.states.sizes (listed front.pairs)) operators)
        last (fault reason place) = refl
    judged-behind false read = read_behind read ∙ ap made (same ends)
      where
        same : (read : Read (List Operator)) → read ≡ on_read read got
        same (got operators next) = refl
        same (fault reason place) = refl

-- ---- a file

module _ (kind : Kind) (bytes : List ℕ) where
  -- By its mark.
  pub file-marked : (wholly : Bool) (mark : Unit {0}) (at : ℕ) → mark_of kind bytes 0 ≡ got mark at → file_by kind wholly bytes ≡ judged_by kind wholly bytes at
  unfolding file_by judged_by judged_as task_as
  file-marked true mark at e = rw e
  file-marked false mark at e = rw e

  pub file-unmarked : (wholly : Bool) (reason : Reason) (place : ℕ) → mark_of kind bytes 0 ≡ fault reason place → file_by kind wholly bytes ≡ fault reason place
  unfolding file_by judged_as task_as
  file-unmarked true reason place e = rw e
  file-unmarked false reason place e = rw e

  -- Of the kind that its first number says.
  module _ (e : kind ≡ kind_of bytes 0) where
    pub either-judged : file_by kind true bytes ≡ judged_task bytes
    unfolding file_by judged_as judged_task task_of
    either-judged = ap (λ k. on_read (task_as k bytes 0) judged_pairs) e

    pub either-read : file_by kind false bytes ≡ task_of bytes 0
    unfolding file_by task_of
    either-read = ap (λ k. task_as k bytes 0) e
