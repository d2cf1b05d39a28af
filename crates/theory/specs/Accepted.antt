-- A file that is accepted holds a task that can be written, or a weight list below N, and has no other bytes than those that are written for it.
use Rattle.std.specs.Prelude.{ℕ, suc, ◌<◌, ◌≤◌, ◌≡◌, refl, ◌↔◌, length}
use Rattle.std.proofs.Math.Path.{ap₂}
use Rattle.std.proofs.Common.{◌∙◌, subst, arith}
use mathlib.Core.List.{List, ◌++◌, Memᴰ as In}
use borrow.Author.Tests.{ne_eqb}
use Rattle.meaning.specs.Limits.{least_variables, most_variables, least_size, most_size, most_features, number_end}
use Rattle.meaning.specs.Sets.{listed, all_of}
use Rattle.meaning.specs.Task.{Operator, Task, State, IsOperator, Run}
use Rattle.meaning.specs.Feature.{atoms, features}
use Rattle.meaning.specs.Pair.{closed, holds}
use Rattle.meaning.specs.Number.{Limit, Range, Read, got, on_read, number, Held, Unclosed}
use Rattle.meaning.specs.File.{Parser, inside, item, limited, size_list, header, values_of, Kind, plain, gapped, kind_of, mark_of, feature_list, operators_of, body_of, parts_of, task_as, task_of, judged_as, judged_task, judged_weights_as, judged_weights, judged_pairs}
use Rattle.meaning.specs.File.{InLimits, Taken, Writable, weight_bytes, weight_bytes_as, task_bytes_as}
use Rattle.meaning.specs.Mend.{Good}
use Rattle.theory.specs.Search.{all-at, all-each}
use Rattle.theory.specs.Numbering.{atoms-room}
use Rattle.theory.specs.Reading.{on-got, item-read, test-passed, test-failed, got-value}
use Rattle.theory.specs.Spent.{Bytes, Gives, Ends, gives_then, gives-ended, ends-then, ends-ended, spent_all}
use Rattle.theory.specs.ReadBack.{read-back-as, weights-back-as, plain-weights}
use Rattle.theory.specs.Parts.{Exact, item-said, exact-counted, number-said, header-said, values-said, feature-list-said, mark-said, operators-said}

-- A task that keeps every rule that is judged up to 5: all but those for its listed pairs.
pub record Readable (T : Task) : Type 0 where
  pub limits : InLimits T.sizes
  pub taken : Taken T.sizes
  pub start : State T.sizes T.start
  pub goal : State T.sizes T.goal
  pub pairs : Run (atoms T.sizes) T.pairs (features T.sizes)
  pub operators : (o : Operator) → In o T.operators → IsOperator T.sizes o
  pub countable : length T.operators < number_end

-- It can be written if its list is good, and what can be written is readable.
pub good-writable : (T : Task) → Readable T → Good T (listed T.pairs) → Writable T
good-writable T known good = record {
  acceptable = record {
    limits = known.limits;
    taken = known.taken;
    start = known.start;
    goal = known.goal;
    pairs = known.pairs;
    operators = known.operators;
    free = good.free;
    closed-under = good.closed-under;
  };
  countable = known.countable;
}

pub writable-readable : (T : Task) → Writable T → Readable T × Good T (listed T.pairs)
writable-readable T h = let a = h.acceptable in (
  record { limits = a.limits; taken = a.taken; start = a.start; goal = a.goal; pairs = a.pairs; operators = a.operators; countable = h.countable },
  record { closed-under = a.closed-under; free = a.free },
)

module _ (bytes : List ℕ) where
  pub task-said : (kind : Kind) → Gives bytes (task_as kind) (λ T l. Readable T × Exact bytes (task_bytes_as kind) T l)
  unfolding task_as parts_of body_of task_bytes_as
  task-said kind =
      gives_then _ _ (mark-said bytes kind) (λ u s z.
      gives_then _ _ (header-said bytes) (λ sizes l a.
      gives_then _ _ (values-said bytes sizes) (λ start m b.
      gives_then _ _ (values-said bytes sizes) (λ goal n c.
      gives_then _ _ (feature-list-said bytes kind (atoms sizes) (features sizes) (atoms-room sizes)) (λ pairs p d.
      gives_then _ _ (number-said bytes) (λ k q e.
      gives-ended (λ os. record { sizes = sizes; start = start; goal = goal; pairs = pairs; operators = os }) _ (operators-said bytes sizes k) (λ os r f. (
        record { limits = a.0; taken = a.2; start = b.0; goal = c.0; pairs = d.0; operators = f.1; countable = rw f.0 e.0 },
        λ small. ap₂ ◌++◌ (z small) (ap₂ ◌++◌ (a.1 small) (ap₂ ◌++◌ (b.1 small) (ap₂ ◌++◌ (c.1 small) (ap₂ ◌++◌ (d.1 small) (exact-counted bytes _ k os q r f.0 e.1 f.2 small))))),
      ))))))))

  pub task-ends : (kind : Kind) → Ends bytes (task_as kind)
  unfolding task_as parts_of body_of
  task-ends kind = ends-then (mark_of kind) _ (λ u. ends-then (header least_size most_size) _ (λ sizes. ends-then (values_of sizes) _ (λ start. ends-then (values_of sizes) _ (λ goal.
      ends-then (feature_list kind (atoms sizes) (features sizes)) _ (λ pairs. ends-then number _ (λ k. ends-then (operators_of sizes k) _ (λ os. ends-ended _)))))))

  -- What is known of a whole file that was read.
  pub whole-said : {A : Type 0} (parser : Parser A) (P : A → List ℕ → Type 0) (a : A) (next : ℕ) → Gives bytes parser P → Ends bytes parser
      → parser bytes 0 ≡ got a next → (next ≡ length bytes) × P a bytes
  whole-said parser P a next h k e = spent_all bytes next (P a) (h.gives 0 a next e) (k.ends 0 a next e)

  -- Read as a task, whatever its listed pairs are: of one kind, and of either.
  read-known-as : (kind : Kind) (T : Task) (next : ℕ) → task_as kind bytes 0 ≡ got T next → (next ≡ length bytes) × Readable T × Exact bytes (task_bytes_as kind) T bytes
  read-known-as kind T next e = let (end, (known, exact)) = whole-said (task_as kind) _ T next (task-said kind) (task-ends kind) e in (end, known, exact)

  pub read_known : (T : Task) (next : ℕ) → task_of bytes 0 ≡ got T next → (next ≡ length bytes) × Readable T × Exact bytes (task_bytes_as (kind_of bytes 0)) T bytes
  unfolding task_of
  read_known = read-known-as (kind_of bytes 0)

  -- A file has one kind: what is read as a task of a kind has the first number of that kind.
  kind-known : (kind : Kind) (T : Task) (next : ℕ) → task_as kind bytes 0 ≡ got T next → kind_of bytes 0 ≡ kind
  unfolding task_as mark_of parts_of header limited size_list kind_of
  kind-known plain T next e =
      let (sizes, last, p, q) = on-got (header least_size most_size bytes 0) _ T next e in
      let (ds, middle, r, u) = on-got (size_list least_size most_size bytes 0) _ sizes last p in
      let (v, after, first, w) = on-got (item (inside least_variables (suc most_variables)) Limit bytes 0) _ ds middle r in
      let some : least_variables ≤ v = ((item-said bytes least_variables (suc most_variables) Limit).gives 0 v after first).known.0 in
      rw (item-read (inside least_variables (suc most_variables)) Limit bytes 0 v after first, ne_eqb v 0 (omega arith))
  kind-known gapped T next e =
      let (u, middle, p, q) = on-got (mark_of gapped bytes 0) _ T next e in
      let (n, after, first, w) = on-got (item (inside 0 1) Range bytes 0) _ u middle p in
      let none : n ≡ 0 = omega (arith, ((item-said bytes 0 1 Range).gives 0 n after first).known.1) in
      rw (item-read (inside 0 1) Range bytes 0 n after first, none)

  -- What was read is accepted exactly when the task's list is good.
  judged-good : (r : Read Task) (T : Task) (next : ℕ) → (on_read r judged_pairs ≡ got T next) ↔ ((r ≡ got T next) × Good T (listed T.pairs))
  judged-good r T next = (
    λ e.
        let (S, middle, p, q) = on-got r _ T next e in
        let (free, u) = test-failed (holds S.sizes (listed S.pairs) S.start) _ Held 0 T next q in
        let (shut, z) = test-passed (all_of (closed S.sizes (listed S.pairs)) S.operators) (got S middle) Unclosed 0 T next u in
        (p ∙ z, subst (λ U. Good U (listed U.pairs)) (got-value z) (record { closed-under = all-at (closed S.sizes (listed S.pairs)) S.operators shut; free = free })),
    λ h. rw (h.0, h.1.free, all-each (closed T.sizes (listed T.pairs)) T.operators h.1.closed-under) refl,
  )

  -- A file is accepted as a task exactly when it was read as that task and the task's list is good.
  pub accepted-good : (T : Task) (next : ℕ) → (judged_task bytes ≡ got T next) ↔ ((task_of bytes 0 ≡ got T next) × Good T (listed T.pairs))
  unfolding judged_task
  accepted-good = judged-good (task_of bytes 0)

  pub accepted-as : (kind : Kind) (T : Task) (next : ℕ) → judged_as kind bytes ≡ got T next → (next ≡ length bytes) × Writable T × Exact bytes (task_bytes_as kind) T bytes
  unfolding judged_as
  accepted-as kind T next e =
      let (read, good) = (judged-good (task_as kind bytes 0) T next).0 e in
      let (end, known, exact) = read-known-as kind T next read in
      (end, good-writable T known good, exact)

  pub accepted-kind : (kind : Kind) (T : Task) (next : ℕ) → judged_as kind bytes ≡ got T next → kind_of bytes 0 ≡ kind
  unfolding judged_as
  accepted-kind kind T next e = kind-known kind T next ((judged-good (task_as kind bytes 0) T next).0 e).0

  -- A file of a kind that is accepted as one is accepted by the readers that take either.
  pub either-accepted : (kind : Kind) (T : Task) (next : ℕ) → judged_as kind bytes ≡ got T next → judged_task bytes ≡ got T next
  unfolding judged_as judged_task task_of
  either-accepted kind T next e = rw (accepted-kind kind T next e) e

  module _ (T : Task) (next : ℕ) (e : judged_task bytes ≡ got T next) where
    pub accepted-all : (next ≡ length bytes) × Writable T × Exact bytes (task_bytes_as (kind_of bytes 0)) T bytes
    unfolding judged_task task_of judged_as
    accepted-all = accepted-as (kind_of bytes 0) T next e

    pub accepted : Writable T
    accepted = accepted-all.1

    -- No byte is left over.
    pub accepted-end : next ≡ length bytes
    accepted-end = accepted-all.0

    -- An accepted file is the file of its kind that is written for its task.
    pub accepted-bytes : Bytes bytes → bytes ≡ task_bytes_as (kind_of bytes 0) T
    accepted-bytes = accepted-all.2

  module _ (kind : Kind) (n : ℕ) (weights : List ℕ) (next : ℕ) (e : judged_weights_as kind n bytes ≡ got weights next) where
    weights-all : (next ≡ length bytes) × (Run 0 weights n × Exact bytes (weight_bytes_as kind) weights bytes)
    unfolding judged_weights_as weight_bytes_as
    weights-all = whole-said _ (λ ws l. Run 0 ws n × Exact bytes (weight_bytes_as kind) ws l) weights next
        (gives_then _ _ (mark-said bytes kind) (λ u l h. gives-ended (λ ws. ws) _ (feature-list-said bytes kind 0 n (omega arith)) (λ ws m k. (k.0, λ small. ap₂ ◌++◌ (h small) (k.1 small)))))
        (ends-then (mark_of kind) _ (λ u. ends-then (feature_list kind 0 n) _ (λ ws. ends-ended ws))) e

    pub weights-accepted-as : Run 0 weights n
    weights-accepted-as = weights-all.1.0

    pub weights-end-as : next ≡ length bytes
    weights-end-as = weights-all.0

    -- An accepted weight file is the file of its kind that is written for its list.
    pub weights-bytes-as : Bytes bytes → bytes ≡ weight_bytes_as kind weights
    weights-bytes-as = weights-all.1.1

  module _ (n : ℕ) (weights : List ℕ) (next : ℕ) (e : judged_weights n bytes ≡ got weights next) where
    pub weights-accepted : Run 0 weights n
    weights-accepted = weights-accepted-as plain n weights next e

    pub weights-bytes : Bytes bytes → bytes ≡ weight_bytes weights
    weights-bytes small = weights-bytes-as plain n weights next e small ∙ plain-weights weights

-- ---- writing and reading are inverse

-- The one file of a kind that is accepted as a task is the one that is written for it.
pub task-file : (kind : Kind) (bytes : List ℕ) (T : Task) → Bytes bytes → (judged_as kind bytes ≡ got T (length bytes)) ↔ (Writable T × (bytes ≡ task_bytes_as kind T))
task-file kind bytes T small = (
  λ e. let (end, good, exact) = accepted-as bytes kind T (length bytes) e in (good, exact small),
  λ h. rw h.1 (read-back-as kind T h.0),
)

pub weight-file : (kind : Kind) (bytes : List ℕ) (n : ℕ) (weights : List ℕ) → Bytes bytes → n ≤ most_features
    → (judged_weights_as kind n bytes ≡ got weights (length bytes)) ↔ (Run 0 weights n × (bytes ≡ weight_bytes_as kind weights))
weight-file kind bytes n weights small h = (
  λ e. (weights-accepted-as bytes kind n weights (length bytes) e, weights-bytes-as bytes kind n weights (length bytes) e small),
  λ k. rw k.1 (weights-back-as kind n weights h k.0),
)
