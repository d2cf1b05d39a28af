-- The customer's demands for partial files: when a call on one refuses; that it is the same call on the file of its built task, so that demands 2 and 3 read there; and what an answer
-- says of the order.
use Rattle.std.specs.Prelude.{ℕ, suc, ◌<◌, ◌≤◌, ◌≡◌, refl, ◌≢◌, ◌↔◌, Bool, true, false, not, cond, ltb, length, take, drop}
use Rattle.std.proofs.Common.{ap, sym, ◌∙◌, subst, arith, ltb-false, le-ltb}
use Rattle.std.proofs.Math.Logic.Iff
use mathlib.Core.List.{List, ◌++◌, Memᴰ as In}
use Rattle.meaning.specs.Sets.{Set, listed, all_of}
use Rattle.meaning.specs.Limits.{number_end}
use Rattle.meaning.specs.Task.{Operator, Task, size, Run}
use Rattle.meaning.specs.Feature.{atoms, features}
use Rattle.meaning.specs.Pair.{paired, stuck, closed, holds}
use Rattle.meaning.specs.Weight.{Separates, LeastOf, Unsolvable}
use Rattle.meaning.specs.Number.{Held, Unclosed, Outgrown, Read, got, fault, on_read}
use Rattle.meaning.specs.File.{plain, judged_pairs, judged_task, judged_weights, weight_bytes, task_bytes}
use Rattle.meaning.specs.Workspace.{words_for, has, packed}
use Rattle.meaning.specs.Answer.{Answer, done, refused, Outcome, Verdict, accepted, ChecksAs, Checks, OpensAs, Opens, Finding, none, separated, Finds, Judged, fine, faulty, need}
use Rattle.meaning.specs.Partial.{Partial, Reaches, Met, Ordered, built_sizes, built_pairs, built_task, left_out, left_out_lean, partial_of, partial_bytes, judged_partial}
use Rattle.meaning.specs.Partial.{OpensPartial, ChecksPartial, BuildsBy, BuildsPartialLean, silenced, marks_judged, silences_by, Silences}
use Rattle.theory.specs.Truth.{clash}
use Rattle.theory.specs.Run.{members}
use Rattle.theory.specs.Reading.{got-value, by-got}
use Rattle.theory.specs.AsRead.{AsRead, plain-partial}
use Rattle.theory.specs.ReadBack as Back
use Rattle.theory.specs.Accepted as Files
use Rattle.theory.specs.Operands.{unless}
use Rattle.theory.specs.Determined.{silences-only}
use Rattle.theory.specs.Refusals.{Faulty, RefusesExactly, refuses-exactly, file_judged, open_judged, check_judged, build_judged, silence_judged}
use Rattle.theory.specs.Refusals.{opens-exactly, checks-exactly, builds-exactly, silences-refused}
use Rattle.theory.specs.Delivered.{Leaves, not-refused, delivered-leaves, builds-leave}
use Rattle.theory.specs.Demands.{accepts-exactly, not-accepted, accepted-unsolvable, none-exactly, some-found, least-given, found-accepted}
use Rattle.theory.specs.PartialPairs.{built-run, built-count, paired-known, paired-unknown}
use Rattle.theory.specs.PartialPlans.{Permitted, letter-permitted, lean-permitted}
use Rattle.theory.specs.PartialFile.{AcceptedPartial, accepted-partial}
use Rattle.theory.specs.PartialParts.{partial-back, partial-accepted}
use Rattle.theory.specs.Silence.{FineMarks, marks-fine, MetWhere, silenced-met, silenced-ordered}

-- ---- demand 1: refusals

-- What is judged of the built task: "more operators kept than a number can count is 2, judged after 5", "6 and 7 apply to the built task".
abbrev pub built_judged : Task → Judged
built_judged T =
    need (ltb (length T.operators) number_end) Outgrown
    (need (not (holds T.sizes (listed T.pairs) T.start)) Held
    (need (all_of (closed T.sizes (listed T.pairs)) T.operators) Unclosed fine))

-- The order in which a partial file is judged: its numbers as they are read, 5, the count, 6, 7; then what a call judges after the file.
pub partial-judged : (out : Partial → ℕ → ℕ → Bool) (file : List ℕ) (rest : Task → Judged) → file_judged (judged_partial out file) rest
    ≡ file_judged (partial_of file 0) (λ P. unless (built_judged (built_task P (out P))) (rest (built_task P (out P))))
unfolding judged_partial
partial-judged out file rest = by (partial_of file 0)
  where
    passed : (few held shut : Bool) (T : Task) (next : ℕ)
        → file_judged (cond few (cond held (fault Held 0) (cond shut (got T next) (fault Unclosed 0))) (fault Outgrown 0)) rest
        ≡ unless (need few Outgrown (need (not held) Held (need shut Unclosed fine))) (rest T)
    passed false held shut T next = refl
    passed true true shut T next = refl
    passed true false false T next = refl
    passed true false true T next = refl

    by : (read : Read Partial) → file_judged (on_read read (λ P next. cond (ltb (length (built_task P (out P)).operators) number_end) (judged_pairs (built_task P (out P)) next) (fault Outgrown 0))) rest
        ≡ file_judged read (λ P. unless (built_judged (built_task P (out P))) (rest (built_task P (out P))))
    by (fault reason place) = refl
    by (got P next) = let T = built_task P (out P) in
        passed (ltb (length T.operators) number_end) (holds T.sizes (listed T.pairs) T.start) (all_of (closed T.sizes (listed T.pairs)) T.operators) T next

-- A file is refused for the count exactly when it was read, the last byte too, and more operators are kept than a number can count: whatever the start and the operators are.
pub outgrown-exactly : (out : Partial → ℕ → ℕ → Bool) (file : List ℕ)
    → (judged_partial out file ≡ fault Outgrown 0) ↔ ((P : Partial) × (next : ℕ) × (partial_of file 0 ≡ got P next) × (number_end ≤ length (built_task P (out P)).operators))
unfolding judged_partial
outgrown-exactly out file = (
  λ e. by (partial_of file 0) (plain-partial.plain 0) e,
  λ h. let (P, next, read, many) = h in rw (read, le-ltb (length (built_task P (out P)).operators) number_end many) refl,
)
  where
    within : (few held shut : Bool) (T : Task) (next : ℕ)
        → cond few (cond held (fault Held 0) (cond shut (got T next) (fault Unclosed 0))) (fault Outgrown 0) ≡ fault Outgrown 0 → few ≡ false
    within false held shut T next e = refl
    within true true shut T next e = absurd (let z : ◌≡◌ {A = ℕ} 0 1 = cc in omega arith)
    within true false true T next e = absurd (let z : ◌≡◌ {A = ℕ} 0 1 = cc in omega arith)
    within true false false T next e = absurd (let z : ◌≡◌ {A = ℕ} 0 1 = cc in omega arith)

    by : (read : Read Partial) → AsRead read
        → on_read read (λ P next. cond (ltb (length (built_task P (out P)).operators) number_end) (judged_pairs (built_task P (out P)) next) (fault Outgrown 0)) ≡ fault Outgrown 0
        → (P : Partial) × (next : ℕ) × (read ≡ got P next) × (number_end ≤ length (built_task P (out P)).operators)
    by (fault reason place) as_read e = let z : reason ≡ Outgrown = cc in absurd (clash (as_read.reasoned reason place refl) (rw z refl))
    by (got P next) as_read e = let T = built_task P (out P) in (
      P,
      next,
      refl,
      ltb-false _ _ (within (ltb (length T.operators) number_end) (holds T.sizes (listed T.pairs) T.start)
          (all_of (closed T.sizes (listed T.pairs)) T.operators) T next e),
    )

-- open_partial: the partial file's first fault; then 8.
pub open-partial-refuses : (file room : List ℕ) → RefusesExactly (OpensPartial file room) room (Faulty (open_judged (judged_partial left_out file) room))
open-partial-refuses file = opens-exactly (judged_partial left_out file)

-- check_partial: the partial file's first fault; then that of the weights.
pub check-partial-refuses : (file weights : List ℕ) (answer : Answer Verdict) → ChecksPartial file weights answer → (n : ℕ)
    → (answer ≡ refused n) ↔ Faulty (check_judged plain (judged_partial left_out file) weights) n
check-partial-refuses file = checks-exactly plain (judged_partial left_out file)

-- build_partial, build_partial_lean: the partial file's first fault; then 8.
pub build-partial-refuses : (out : Partial → ℕ → ℕ → Bool) (file room : List ℕ)
    → RefusesExactly (BuildsBy out file room) room (Faulty (build_judged (judged_partial out file) task_bytes room))
build-partial-refuses out file = builds-exactly (judged_partial out file) task_bytes

-- silence: the task's first fault; that of the marks; then 8.
pub silence-refuses : (task marks room : List ℕ) → RefusesExactly (Silences task marks room) room (Faulty (silence_judged task marks room))
silence-refuses task marks room = refuses-exactly (silences-only task marks room) (λ n left. silences-refused n left task marks room)

-- ---- listed pairs

-- "Listed pairs keep their atoms but get new feature numbers."
pub record KeepsAtoms (P : Partial) : Type 0 where
  -- Two old values are listed as exclusive in the built task exactly when they are in the file,
  pub known : (i x j y : ℕ) → i ≢ j → i < length P.sizes → j < length P.sizes → x < size P.sizes i → y < size P.sizes j
      → paired (built_sizes P.sizes) (listed (built_pairs P.sizes (listed P.pairs))) i x j y ≡ paired P.sizes (listed P.pairs) i x j y
  -- "unknown" with nothing,
  pub unknown : (i j y : ℕ) → i ≢ j → i < length P.sizes → j < length P.sizes → y < suc (size P.sizes j)
      → paired (built_sizes P.sizes) (listed (built_pairs P.sizes (listed P.pairs))) i (size P.sizes i) j y ≡ false
  -- the new numbers increase in the range of the built task's pairs,
  pub increasing : Run (atoms (built_sizes P.sizes)) (built_pairs P.sizes (listed P.pairs)) (features (built_sizes P.sizes))
  -- and no pair is lost.
  pub none-lost : length (built_pairs P.sizes (listed P.pairs)) ≡ length P.pairs

pub keeps-atoms : (P : Partial) → Ordered P → KeepsAtoms P
keeps-atoms P ok = record {
  known = paired-known P.sizes (listed P.pairs);
  unknown = λ i j y d l k h. paired-unknown P.sizes (listed P.pairs) i (size P.sizes i) j y d l k (omega arith) h (λ a _. omega arith);
  increasing = built-run P.sizes (listed P.pairs);
  none-lost = built-count P.sizes P.pairs ok.pairs;
}

-- ---- demand 2

-- A partial file that is accepted, by any test of what is left out.
module _ (file : List ℕ) (out : Partial → ℕ → ℕ → Bool) (T : Task) (next : ℕ) (judged : judged_partial out file ≡ got T next) where
  pub whole : AcceptedPartial file out T next
  whole = accepted-partial file out T next judged

  -- The file that is written for the built task is accepted as that task.
  pub built-accepted : judged_task (task_bytes T) ≡ got T (length (task_bytes T))
  built-accepted = Back.read_back T whole.writable

  -- "Demands 2 and 3 read on the built task with the operators it kept": whatever a call may answer for the partial file, it may answer for the built task's file.
  pub opens-built : (room : List ℕ) (outcome : Outcome ℕ) → OpensAs (judged_partial out file) room outcome ↔ Opens (task_bytes T) room outcome
  opens-built room outcome = rw (judged, built-accepted) Iff.rfl

  pub checks-built : (weights : List ℕ) (answer : Answer Verdict) → ChecksAs plain (judged_partial out file) weights answer ↔ Checks (task_bytes T) weights answer
  checks-built weights answer = rw (judged, built-accepted) Iff.rfl

  -- The file that a builder writes is that file: whoever opens or checks it does what is done for the partial file, word for word.
  pub record BuiltFile (room lent : List ℕ) (k : ℕ) : Type 0 where
    pub bytes : take k lent ≡ task_bytes T
    pub others : drop k lent ≡ drop k room
    pub opens : (room' : List ℕ) (outcome : Outcome ℕ) → OpensAs (judged_partial out file) room' outcome ↔ Opens (take k lent) room' outcome
    pub checks : (weights : List ℕ) (answer : Answer Verdict) → ChecksAs plain (judged_partial out file) weights answer ↔ Checks (take k lent) weights answer

  pub partial-built : (room lent : List ℕ) (k : ℕ) → BuildsBy out file room (record { answer = done k; lent = lent }) → BuiltFile room lent k
  partial-built room lent k builds =
      let left : Leaves (task_bytes T) room lent k = delivered-leaves room lent k (task_bytes T) (rw judged at builds) in
      record { bytes = left.front; others = left.others; opens = rw left.front opens-built; checks = rw left.front checks-built }

  -- "the checker accepts weights, from anyone, exactly when they separate start from goal": those of the built task.
  pub partial-accepts : (weights fs : List ℕ) (end : ℕ) → judged_weights (features T.sizes) weights ≡ got fs end
      → ChecksAs plain (judged_partial out file) weights (done accepted) ↔ Separates T (listed fs)
  partial-accepts weights fs end read =
      let built = accepts-exactly (task_bytes T) T (length (task_bytes T)) built-accepted weights fs end read in
      let same = checks-built weights (done accepted) in
      (λ checks. built.0 (same.0 checks), λ s. same.1 (built.1 s))

  -- What is left out is permitted.
  module _ (P : Partial) (end : ℕ) (read : partial_of file 0 ≡ got P end) (permitted : Permitted P (out P)) where
    -- "Such a goal is reached exactly when the partial goal is": that of the partial task which the file was read as.
    pub built-met : Reaches T.operators T.start T.goal ↔ Met P
    built-met = subst (λ Q. Permitted Q (out Q) → Reaches T.operators T.start T.goal ↔ Met Q) (got-value (sym whole.read ∙ read)) whole.reached permitted

    -- So the built task is unsolvable exactly when the order is not met,
    pub unsolvable-unmet : Unsolvable T ↔ (Met P → ⊥)
    unsolvable-unmet = (
      λ h m. let (plan, from, leads) = built-met.1 m in h plan from leads,
      λ h plan from leads. h (built-met.0 (plan, from, leads)),
    )

    -- and once the checker accepts for the built task's file, no sequence of the file's moves meets the order.
    pub accepted-unmet : (weights : List ℕ) → Checks (task_bytes T) weights (done accepted) → Met P → ⊥
    accepted-unmet weights checks =
        let (U, _, again, hopeless) = accepted-unsolvable (task_bytes T) weights checks in
        unsolvable-unmet.0 (rw (got-value (sym again ∙ built-accepted)) at hopeless)

  -- The finder, on a workspace that was opened from the partial file.
  module _ (room workspace : List ℕ) (k : ℕ) (opens : OpensAs (judged_partial out file) room (record { answer = done k; lent = workspace })) where
    as-built : Opens (task_bytes T) room (record { answer = done k; lent = workspace })
    as-built = (opens-built room _).0 opens

    -- "'none' exactly when no weights separate",
    pub partial-none : (lent lent' : List ℕ) → Finds workspace lent (record { answer = done none; lent = lent' })
        ↔ ((words_for (features T.sizes) ≤ length lent) × ((w : Set) → Separates T w → ⊥) × (lent' ≡ lent))
    partial-none = none-exactly (task_bytes T) T (length (task_bytes T)) built-accepted room workspace k as-built

    -- "and otherwise gives the least that do";
    pub partial-some : (w : Set) → Separates T w → (lent : List ℕ) → words_for (features T.sizes) ≤ length lent → (outcome : Outcome Finding)
        → Finds workspace lent outcome → outcome.answer ≡ done separated
    partial-some = some-found (task_bytes T) T (length (task_bytes T)) built-accepted room workspace k as-built

    pub partial-least : (lent lent' : List ℕ) → Finds workspace lent (record { answer = done separated; lent = lent' })
        → (w : Set) × LeastOf (features T.sizes) (Separates T) w × (lent' ≡ packed (features T.sizes) w ++ drop (length (packed (features T.sizes) w)) lent)
    partial-least = least-given (task_bytes T) T (length (task_bytes T)) built-accepted room workspace k as-built

    -- what it gives, check_partial accepts.
    pub partial-found : (lent lent' : List ℕ) → Finds workspace lent (record { answer = done separated; lent = lent' })
        → ChecksAs plain (judged_partial out file) (weight_bytes (members (features T.sizes) (has lent'))) (done accepted)
    partial-found lent lent' finds = (checks-built _ (done accepted)).1 (found-accepted (task_bytes T) T (length (task_bytes T)) built-accepted room workspace k as-built lent lent' finds)

-- ---- what an accepted verdict says of the order

-- A partial file was read, and no sequence of its moves meets its order.
abbrev pub Unmet : List ℕ → Type 0
Unmet file = (P : Partial) × (end : ℕ) × (partial_of file 0 ≡ got P end) × (Met P → ⊥)

module _ (out : Partial → ℕ → ℕ → Bool) (permitted : (P : Partial) → Permitted P (out P)) (file weights : List ℕ) where
  unmet-by : (T : Task) (next : ℕ) → judged_partial out file ≡ got T next → Checks (task_bytes T) weights (done accepted) → Unmet file
  unmet-by T next judged checks =
      let w = whole file out T next judged in
      (w.partial, next, w.read, accepted-unmet file out T next judged w.partial next w.read (permitted w.partial) weights checks)

  -- Once weights are accepted for a partial file,
  pub checked-unmet : ChecksAs plain (judged_partial out file) weights (done accepted) → Unmet file
  checked-unmet checks =
      let (T, next, judged, _) = by-got (judged_partial out file) _ _ not-accepted checks in
      unmet-by T next judged ((checks-built file out T next judged weights (done accepted)).0 checks)

  -- or for the task file that was built for it.
  pub built-unmet : (room lent : List ℕ) (k : ℕ) → BuildsBy out file room (record { answer = done k; lent = lent }) → Checks (take k lent) weights (done accepted) → Unmet file
  built-unmet room lent k builds checks =
      let (T, next, judged, left) = builds-leave room lent k (judged_partial out file) task_bytes builds in
      unmet-by T next judged (rw left.front at checks)

-- check_partial: "Accepted weights mean that no sequence of the file's moves meets the order."
pub partial-unmet : (file weights : List ℕ) → ChecksPartial file weights (done accepted) → Unmet file
partial-unmet = checked-unmet left_out letter-permitted

-- check on what build_partial_lean wrote.
pub lean-unmet : (file weights room lent : List ℕ) (k : ℕ) → BuildsPartialLean file room (record { answer = done k; lent = lent }) → Checks (take k lent) weights (done accepted) → Unmet file
lean-unmet = built-unmet left_out_lean lean-permitted

-- ---- silence

-- Where `silence` answers a length, so many bytes of the room are a partial file.
pub record SilencedFile (file marks room lent : List ℕ) (k : ℕ) : Type 0 where
  -- The task file was accepted as this task, with a mark of 0 or 1 for each variable.
  pub task : Task
  pub end : ℕ
  pub accepted : judged_task file ≡ got task end
  pub fine-marks : FineMarks task marks
  -- The first k bytes are read as the partial task that names of the task's goal what the marks say, and the others stay.
  pub partial : partial_of (take k lent) 0 ≡ got (silenced task marks) k
  pub others : drop k lent ≡ drop k room
  -- This order is met exactly when the task's own moves meet it,
  pub met : Met (silenced task marks) ↔ MetWhere task marks
  -- and so is the goal of the task that is built for it, whatever permitted operators are left out, where that is accepted.
  pub built : (out : Partial → ℕ → ℕ → Bool) (U : Task) (next : ℕ) → judged_partial out (take k lent) ≡ got U next → Permitted (silenced task marks) (out (silenced task marks))
      → Reaches U.operators U.start U.goal ↔ MetWhere task marks
  -- It is accepted, unless too many operators are kept (2), or an operator of the task was idle for want of a possible value (7).
  pub passes : (out : Partial → ℕ → ℕ → Bool) → length (built_task (silenced task marks) (out (silenced task marks))).operators < number_end
      → ((o : Operator) → In o task.operators → stuck task.sizes (listed task.pairs) o ≡ false)
      → judged_partial out (take k lent) ≡ got (built_task (silenced task marks) (out (silenced task marks))) k

pub silenced-file : (file marks room lent : List ℕ) (k : ℕ) → Silences file marks room (record { answer = done k; lent = lent }) → SilencedFile file marks room lent k
unfolding silenced
silenced-file file marks room lent k silences =
    let (T, end, e, o) = by-got (judged_task file) _ _ (not-refused room lent k) silences in
    let (good, left) = by (marks_judged T marks) (silenced T marks) o in
    let ok = Files.accepted file T end e in
    let marked = marks-fine T marks good in
    let P = silenced T marks in
    let ordered = silenced-ordered T marks ok.acceptable marked.small marked.total in
    let read : partial_of (take k lent) 0 ≡ got P k =
    ap (λ bytes. partial_of bytes 0) left.front ∙ Back.whole partial_of P (partial_bytes P) (partial-back P ordered ok.countable) ∙ ap (got P) left.width in
    let met = silenced-met T marks ok.acceptable in
    record {
      task = T;
      end = end;
      accepted = e;
      fine-marks = marked;
      partial = read;
      others = left.others;
      met = met;
      built = λ out U next judged permitted. Iff.trans (built-met (take k lent) out U next judged P k read permitted) met;
      passes = λ out few free. ap (judged_partial out) left.front
          ∙ partial-accepted P ordered out few ok.acceptable.free (λ o m. (ok.acceptable.closed-under o m, free o m))
          ∙ ap (got (built_task P (out P))) left.width;
    }
  where
    by : (judged : Judged) (P : Partial) → record { answer = done k; lent = lent } ≡ silences_by judged P room → (judged ≡ fine) × Leaves (partial_bytes P) room lent k
    by fine P o = (refl, delivered-leaves room lent k (partial_bytes P) o)
    by (faulty reason) P o = absurd (not-refused room lent k reason o)
