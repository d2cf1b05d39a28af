-- The customer's demands for pair lists made by hand: when a call refuses, and never with 6 or 7; that it has an outcome; that the mended file is accepted, that a good file comes
-- back unchanged, that kept and dropped pairs are the list that came; demands 2 and 3 on the mended task; and the pair behind a refusal 6 or 7.
use Rattle.std.specs.Prelude.{ℕ, ◌+◌, ◌<◌, ◌≤◌, ◌≡◌, refl, ◌≢◌, ◌⊎◌, ◌↔◌, Bool, true, false, not, ◌&&◌, ◌||◌, cond, List, [], ◌∷◌, ◌++◌, eqb, leb, ltb, length, get_or, take, drop}
use Rattle.std.proofs.Common.{ap, sym, ◌∙◌, subst, inl, inr, true≢false, arith, le-ltb}
use Rattle.std.proofs.Math.Logic.Iff
use Rattle.std.proofs.Math.Bool.{and_comm}
use Rattle.std.proofs.lemmas.Bool.{not-true, not-false}
use Rattle.meaning.specs.Sets.{Set, any_of, listed, all_of}
use Rattle.meaning.specs.Limits.{fault_words}
use Rattle.meaning.specs.Task.{Task, Run}
use Rattle.meaning.specs.Feature.{atoms, features}
use Rattle.meaning.specs.Pair.{idle, closed, holds, held_pair, unclosed_pair}
use Rattle.meaning.specs.Slot.{LeastMember}
use Rattle.meaning.specs.Weight.{Separates, LeastOf, Unsolvable}
use Rattle.meaning.specs.Number.{Reason, Held, Unclosed, Small, refusal, Read, got, fault, on_read}
use Rattle.meaning.specs.File.{Kind, kind_of, task_of, judged_pairs, judged_task, judged_weights, weight_bytes, task_bytes_as}
use Rattle.meaning.specs.Workspace.{words_for, has, packed}
use Rattle.meaning.specs.Answer.{Answer, done, refused, Outcome, refuses, writes, delivered, by_read, accepted, Checks, Opens, Finding, none, separated, Finds, fine, need}
use Rattle.meaning.specs.Mend.{Good, Largest, Dropped, mended, Mends, Drops, PairFault, no_fault, start_holds, operator_breaks, LeastHeld, LeastUnclosed, FindsFault, FaultsPairs}
use Rattle.theory.specs.Truth.{on, off, test, clash}
use Rattle.theory.specs.Search.{and_left, and_right, and_both, or-none-left, or-none-right, some-not, all-each, all-not, true-together}
use Rattle.theory.specs.Flat.{get_d-in, in-get_d}
use Rattle.theory.specs.Run.{members, run_none, run_wider}
use Rattle.theory.specs.Count.{count-cong, count-kinds, run-count}
use Rattle.theory.specs.Slots.{nothing, found, least}
use Rattle.theory.specs.Numbering.{atoms-room}
use Rattle.theory.specs.Closed.{closed-by-pairs}
use Rattle.theory.specs.Reading.{not-got, got-value, by-got}
use Rattle.theory.specs.Spent.{Bytes}
use Rattle.theory.specs.AsRead.{as_read, AsRead, ReadNumber, as-read-number, plain-task}
use Rattle.theory.specs.ReadBack.{kind-back, read-back-either, weights-back}
use Rattle.theory.specs.Accepted as Files
use Rattle.theory.specs.Mending.{holds-by-pairs, held-holds, Hopeless, Narrowed, hopeless-narrowed, unclosed-hopeless, held-hopeless, listed_below}
use Rattle.theory.specs.Mending.{largest-only, largest-exists, dropped-exists, good-largest, listed-readable, mended-writable}
use Rattle.theory.specs.Determined.{mends-only, drops-only, faults-only}
use Rattle.theory.specs.Refusals.{Faulty, room_judged, file_judged, fault_judged, FaultyMend, FaultyDrop, RefusesExactly, refuses-exactly, mends-refused, drops-refused, faults-refused}
use Rattle.theory.specs.Delivered.{not-refused, delivered-written, delivered-leaves}
use Rattle.theory.specs.Demands.{accepts-exactly, accepted-unsolvable, none-exactly, some-found, least-given, found-accepted}

-- ---- demand 1: refusals

-- mend: the task's first fault from 1 to 5; then 8, for the mended task's file.
pub mend-refuses : (task room : List ℕ) → RefusesExactly (Mends task room) room (FaultyMend task room)
mend-refuses task room = refuses-exactly (mends-only task room) (λ n left. mends-refused n left task room)

-- dropped: the same; then 8, for the list of dropped pairs.
pub drop-refuses : (task room : List ℕ) → RefusesExactly (Drops task room) room (FaultyDrop task room)
drop-refuses task room = refuses-exactly (drops-only task room) (λ n left. drops-refused n left task room)

-- pair_fault: the same; then 8, for two words.
pub fault-refuses : (task room : List ℕ) → RefusesExactly (FaultsPairs task room) room (Faulty (fault_judged task room))
fault-refuses task room = refuses-exactly (faults-only task room) (λ n left. faults-refused n left task room)

-- "Refusals: the tool gives no 6 or 7." What is left is 1 to 5, 12 and 13, and 8.
pub record NoPairNumber (n : ℕ) : Type 0 where
  pub one_of : ReadNumber n ⊎ (n ≡ 8)
  pub no-6 : n ≢ 6
  pub no-7 : n ≢ 7

-- The two that are excluded follow from the others.
no-pair-number : (n : ℕ) → ReadNumber n ⊎ (n ≡ 8) → NoPairNumber n
no-pair-number n (inl (inl h)) = record { one_of = inl (inl h); no-6 = λ e. omega (arith, h.1, e); no-7 = λ e. omega (arith, h.1, e) }
no-pair-number n (inl (inr h)) = record { one_of = inl (inr h); no-6 = λ e. omega (arith, h.0, e); no-7 = λ e. omega (arith, h.0, e) }
no-pair-number n (inr h) = record { one_of = inr h; no-6 = λ e. omega arith; no-7 = λ e. omega arith }

-- Room that is too small is 8.
room-number : (n due : ℕ) (room : List ℕ) → Faulty (room_judged due room) n → NoPairNumber n
room-number n due room = by (leb due (length room))
  where
    by : (fits : Bool) → Faulty (need fits Small fine) n → NoPairNumber n
    by true h = absurd h
    by false h = no-pair-number n (inr h)

-- By a task that was read, or by the reason why it was not.
task-number : (task : List ℕ) (n : ℕ) (Fault : Task → Type 0) → ((T : Task) → Fault T → NoPairNumber n) → by_read (task_of task 0) Fault (λ reason. n ≡ refusal reason) → NoPairNumber n
task-number task n Fault known = by (task_of task 0) (plain-task.plain 0)
  where
    by : (read : Read Task) → AsRead read → by_read read Fault (λ reason. n ≡ refusal reason) → NoPairNumber n
    by (got T next) plain h = known T h
    by (fault reason place) plain h = no-pair-number n (inl (rw h (as-read-number reason (plain.reasoned reason place refl))))

-- mend gives no other number,
pub mend-number : (task room : List ℕ) (outcome : Outcome ℕ) → Mends task room outcome → (n : ℕ) → outcome.answer ≡ refused n → NoPairNumber n
mend-number task room outcome mends n e = task-number task n _ (λ T h. room-number n _ room h.2) (((mend-refuses task room).exactly outcome mends n).0 e)

-- nor does dropped,
pub drop-number : (task room : List ℕ) (outcome : Outcome ℕ) → Drops task room outcome → (n : ℕ) → outcome.answer ≡ refused n → NoPairNumber n
drop-number task room outcome drops n e = task-number task n _ (λ T h. room-number n _ room h.4) (((drop-refuses task room).exactly outcome drops n).0 e)

-- nor does pair_fault.
pub fault-number : (task room : List ℕ) (outcome : Outcome PairFault) → FaultsPairs task room outcome → (n : ℕ) → outcome.answer ≡ refused n → NoPairNumber n
fault-number task room outcome faults n e = task-number task n _ (λ T h. room-number n fault_words room h) (by (task_of task 0) (((fault-refuses task room).exactly outcome faults n).0 e))
  where
    by : (read : Read Task) → Faulty (file_judged read (λ T. room_judged fault_words room)) n
        → by_read read (λ T. Faulty (room_judged fault_words room) n) (λ reason. n ≡ refusal reason)
    by (got T next) h = h
    by (fault reason place) h = h

-- ---- each call has an outcome

-- A reason is refused, and for what was read there is an outcome.
read_some : {A B : Type 0} (read : Read A) (P : A → B → Type 0) (bad : Reason → B) → ((a : A) (next : ℕ) → read ≡ got a next → (b : B) × P a b)
    → (b : B) × by_read read (λ a. P a b) (λ reason. b ≡ bad reason)
read_some (got a next) P bad some = some a next refl
read_some (fault reason place) P bad some = (bad reason, refl)

-- What was read keeps the rules that are judged up to 5.
known-task : (task : List ℕ) (T : Task) (next : ℕ) → task_of task 0 ≡ got T next → Files.Readable T
known-task task T next read = (Files.read_known task T next read).1

-- For every task file and room: there is a largest good sublist,
pub mends-some : (task room : List ℕ) → (outcome : Outcome ℕ) × Mends task room outcome
mends-some task room = read_some (task_of task 0) _ (λ reason. refuses reason room) (λ T next read.
    let (kept, largest) = largest-exists T (known-task task T next read) in
    (delivered (task_bytes_as (kind_of task 0) (mended T kept)) room, (kept, largest, refl)))

-- what is not kept is a list,
pub drops-some : (task room : List ℕ) → (outcome : Outcome ℕ) × Drops task room outcome
drops-some task room = read_some (task_of task 0) _ (λ reason. refuses reason room) (λ T next read.
    let known = known-task task T next read in
    let (kept, largest) = largest-exists T known in
    let (dropped, rest) = dropped-exists T known kept in
    (delivered (weight_bytes dropped) room, (kept, dropped, largest, rest, refl)))

-- and a list is good, or has a least pair that is held, or an operator is the first under which it is not closed.
fault-some : (T : Task) → Files.Readable T → (room : List ℕ) → (outcome : Outcome PairFault) × FindsFault T room outcome
fault-some T known room = elim (test (holds T.sizes (listed T.pairs) T.start)) [
  | on e ↦ elim (least (features T.sizes) (λ g. listed T.pairs g && held_pair T.sizes T.start g)) [
    | nothing h ↦ absurd (clash e (holds-by-pairs T.sizes (listed T.pairs) T.start known.start ∙ some-not (features T.sizes) _ h))
    | found f l m ↦ (writes start_holds (f ∷ []) room, inr (inl (f, m, refl)))
  ]
  | off e ↦ elim (least (length T.operators) (λ j. not (closed T.sizes (listed T.pairs) (get_or T.operators j [])))) [
    | nothing h ↦ (
      writes no_fault [] room,
      inl (
        record {
          closed-under = λ o m. let (j, l, q) = in-get_d T.operators o [] m in ap (closed T.sizes (listed T.pairs)) (sym q) ∙ not-false _ (h j l);
          free = e;
        },
        refl,
      ),
    )
    | found j l m ↦ broken e j l m
  ]
]
  where
    broken : holds T.sizes (listed T.pairs) T.start ≡ false → (j : ℕ) → j < length T.operators
        → LeastMember j (λ i. not (closed T.sizes (listed T.pairs) (get_or T.operators i []))) → (outcome : Outcome PairFault) × FindsFault T room outcome
    broken free j l m =
        let o = get_or T.operators j [] in
        let open-here : closed T.sizes (listed T.pairs) o ≡ false = not-true _ m.member in
        let by-pairs = sym (closed-by-pairs T.sizes (listed T.pairs) o (known.operators o (get_d-in T.operators j [] l)).entries) ∙ open-here in
        elim (least (features T.sizes) (λ g. listed T.pairs g && unclosed_pair T.sizes (listed T.pairs) o g)) [
          | nothing h ↦ absurd (clash (not-false _ (or-none-right (idle T.sizes (listed T.pairs) o) _ by-pairs)) (some-not (features T.sizes) _ h))
          | found f k first ↦ (
            writes operator_breaks (f ∷ j ∷ []) room,
            inr (inr (f, j, record { free = free; counted = l; broken = open-here; earlier = λ i k. not-false _ (m.first i k); least = first }, refl)),
          )
        ]

pub faults-some : (task room : List ℕ) → (outcome : Outcome PairFault) × FaultsPairs task room outcome
faults-some task room = read_some (task_of task 0) _ (λ reason. refuses reason room)
    (λ T next read. by T (known-task task T next read) (ltb (length room) fault_words))
  where
    by : (T : Task) → Files.Readable T → (short : Bool) → (outcome : Outcome PairFault) × cond short (outcome ≡ refuses Small room) (FindsFault T room outcome)
    by T known true = (refuses Small room, refl)
    by T known false = fault-some T known room

-- ---- the mended file

-- Goodness is about operators and start alone.
good-alike : (T : Task) (pairs : List ℕ) (list : Set) → Good T list ↔ Good (mended T pairs) list
good-alike T pairs list = (
  λ g. record { closed-under = g.closed-under; free = g.free },
  λ g. record { closed-under = g.closed-under; free = g.free },
)

-- The file of the mended task is accepted.
mended-back : (kind : Kind) (T : Task) → Files.Readable T → (kept : List ℕ) → Largest T kept
    → judged_task (task_bytes_as kind (mended T kept)) ≡ got (mended T kept) (length (task_bytes_as kind (mended T kept)))
mended-back kind T known kept largest = read-back-either kind (mended T kept) (mended-writable T known kept largest)

-- Where `mend` answers a length, so many bytes of the room are an accepted task file.
pub record MendedFile (task room lent : List ℕ) (k : ℕ) : Type 0 where
  -- The file was read as this task,
  pub came : Task
  pub end : ℕ
  pub read : task_of task 0 ≡ got came end
  -- "the largest good sublist" of its list is kept, which is good and such that "any good sublist is within it",
  pub kept : List ℕ
  pub largest : Largest came kept
  -- the first k bytes are those of the mended task, of the kind that came, and are accepted as it, and the others stay.
  pub bytes : take k lent ≡ task_bytes_as (kind_of task 0) (mended came kept)
  pub same_kind : kind_of (take k lent) 0 ≡ kind_of task 0
  pub accepted-as : judged_task (take k lent) ≡ got (mended came kept) k
  pub others : drop k lent ≡ drop k room

pub mended-accepted : (task room lent : List ℕ) (k : ℕ) → Mends task room (record { answer = done k; lent = lent }) → MendedFile task room lent k
mended-accepted task room lent k mends =
    let (T, end, read, (kept, largest, o)) = by-got (task_of task 0) _ _ (not-refused room lent k) mends in
    let known = known-task task T end read in
    let left = delivered-leaves room lent k (task_bytes_as (kind_of task 0) (mended T kept)) o in
    record {
      came = T;
      end = end;
      read = read;
      kept = kept;
      largest = largest;
      bytes = left.front;
      same_kind = ap (λ file. kind_of file 0) left.front ∙ kind-back (kind_of task 0) (mended T kept) (mended-writable T known kept largest);
      accepted-as = ap judged_task left.front ∙ mended-back (kind_of task 0) T known kept largest ∙ ap (got (mended T kept)) left.width;
      others = left.others;
    }

-- ---- a good list

-- Where all are kept none is dropped.
none_dropped : (T : Task) → Dropped T T.pairs []
unfolding listed any_of
none_dropped T = record {
  sublist = record { increasing = run_none (atoms T.sizes) (features T.sizes) (atoms-room T.sizes); within = λ f e. absurd (true≢false (sym e)) };
  each = λ f. elim (test (listed T.pairs f)) [ on q ↦ rw q refl | off q ↦ rw q refl ];
}

-- A file that is accepted, so that its list is good: "a good list comes back unchanged",
module _ (task : List ℕ) (T : Task) (next : ℕ) (judged : judged_task task ≡ got T next) where
  good-read : (task_of task 0 ≡ got T next) × Good T (listed T.pairs)
  good-read = (Files.accepted-good task T next).0 judged

  all-kept : Largest T T.pairs
  all-kept = good-largest T (known-task task T next good-read.0) good-read.1

  pub good-mends : (room : List ℕ) (outcome : Outcome ℕ) → Mends task room outcome → outcome ≡ delivered (task_bytes_as (kind_of task 0) T) room
  good-mends room outcome mends = mends-only task room outcome (delivered (task_bytes_as (kind_of task 0) T) room) mends (rw good-read.0 (T.pairs, all-kept, refl))

  -- and so does the file, byte for byte;
  pub good-unmended : Bytes task → (room : List ℕ) → length task ≤ length room → (outcome : Outcome ℕ) → Mends task room outcome → outcome ≡ writes (length task) task room
  good-unmended small room fits outcome mends =
      good-mends room outcome mends ∙ ap (λ file. delivered file room) (sym (Files.accepted-bytes task T next judged small)) ∙ delivered-written task room (length task) refl fits

  -- the list of what was dropped is empty,
  pub good-drops : (room : List ℕ) (outcome : Outcome ℕ) → Drops task room outcome → outcome ≡ delivered (weight_bytes []) room
  good-drops room outcome drops = drops-only task room outcome (delivered (weight_bytes []) room) drops (rw good-read.0 (T.pairs, [], all-kept, none_dropped T, refl))

  -- and no pair is named.
  pub good-faults : (room : List ℕ) → fault_words ≤ length room → (outcome : Outcome PairFault) → FaultsPairs task room outcome → outcome ≡ writes no_fault [] room
  good-faults room long outcome faults =
      faults-only task room outcome (writes no_fault [] room) faults (rw (good-read.0, le-ltb (length room) fault_words long) (inl (good-read.1, refl)))

-- ---- what is kept and what is dropped

module _ (T : Task) (kept dropped : List ℕ) (largest : Largest T kept) (rest : Dropped T kept dropped) where
  -- Each listed pair is kept or dropped,
  pub kept-or-dropped : (f : ℕ) → listed T.pairs f ≡ (listed kept f || listed dropped f)
  kept-or-dropped f = by (listed T.pairs f) (listed kept f) (listed dropped f) (largest.sublist.within f) (rest.each f)
    where
      by : (p k d : Bool) → (k ≡ true → p ≡ true) → d ≡ (p && not k) → p ≡ (k || d)
      by p true d h e = h refl
      by true false d h e = sym e
      by false false d h e = sym e

  -- and never both;
  pub not-kept-and-dropped : (f : ℕ) → (listed kept f && listed dropped f) ≡ false
  not-kept-and-dropped f = by (listed T.pairs f) (listed kept f) (listed dropped f) (rest.each f)
    where
      by : (p k d : Bool) → d ≡ (p && not k) → (k && d) ≡ false
      by true true d e = e
      by false true d e = e
      by p false d e = refl

  -- there are as many as came.
  pub kept-and-dropped : Files.Readable T → length kept + length dropped ≡ length T.pairs
  kept-and-dropped known =
      let n = features T.sizes in
      let low = atoms T.sizes in
      let all = run-count low n T.pairs known.pairs ∙ count-kinds n (listed kept) (listed T.pairs) in
      let one = run-count low n kept largest.sublist.increasing ∙ count-cong n (listed kept) (λ f. listed kept f && listed T.pairs f)
      (λ f l. true-together _ _ (λ e. and_both _ _ e (largest.sublist.within f e)) (λ e. and_left (listed kept f) (listed T.pairs f) e)) in
      let two = run-count low n dropped rest.sublist.increasing ∙ count-cong n (listed dropped) (λ f. not (listed kept f) && listed T.pairs f)
      (λ f l. rest.each f ∙ and_comm (listed T.pairs f) (not (listed kept f))) in
      omega (arith, all, one, two)

-- "keeps the largest good sublist and says which pairs it dropped, in increasing order": what the two calls leave for one file.
pub record KeptAndDropped (task kept-lent dropped-lent : List ℕ) (k d : ℕ) : Type 0 where
  pub came : Task
  pub end : ℕ
  pub read : task_of task 0 ≡ got came end
  -- Each is a sublist, so it increases.
  pub kept : List ℕ
  pub dropped : List ℕ
  pub largest : Largest came kept
  pub rest : Dropped came kept dropped
  -- The one is the list of the file that mend left, the other is what dropped left.
  pub kept-file : judged_task (take k kept-lent) ≡ got (mended came kept) k
  pub dropped-file : judged_weights (features came.sizes) (take d dropped-lent) ≡ got dropped d
  -- Together they are the list that came.
  pub each : (f : ℕ) → listed came.pairs f ≡ (listed kept f || listed dropped f)
  pub never_both : (f : ℕ) → (listed kept f && listed dropped f) ≡ false
  pub together : length kept + length dropped ≡ length came.pairs

pub kept-dropped : (task kept-room kept-lent dropped-room dropped-lent : List ℕ) (k d : ℕ) → Mends task kept-room (record { answer = done k; lent = kept-lent })
    → Drops task dropped-room (record { answer = done d; lent = dropped-lent }) → KeptAndDropped task kept-lent dropped-lent k d
kept-dropped task kept-room kept-lent dropped-room dropped-lent k d mends drops =
    let file = mended-accepted task kept-room kept-lent k mends in
    let T = file.came in
    let known = known-task task T file.end file.read in
    let (kept, dropped, largest, rest', o) : (kept : List ℕ) × (dropped : List ℕ) × Largest T kept × Dropped T kept dropped
    × (record { answer = done d; lent = dropped-lent } ≡ delivered (weight_bytes dropped) dropped-room) = rw file.read at drops in
    let rest = subst (λ l. Dropped T l dropped) (largest-only T kept file.kept largest file.largest) rest' in
    let left = delivered-leaves dropped-room dropped-lent d (weight_bytes dropped) o in
    let n = features T.sizes in
    record {
      came = T;
      end = file.end;
      read = file.read;
      kept = file.kept;
      dropped = dropped;
      largest = file.largest;
      rest = rest;
      kept-file = file.accepted-as;
      dropped-file = ap (judged_weights n) left.front
          ∙ weights-back n dropped known.limits.total (run_wider (atoms T.sizes) n 0 n dropped (omega arith) (omega arith) rest.sublist.increasing)
          ∙ ap (got dropped) left.width;
      each = kept-or-dropped T file.kept dropped file.largest rest;
      never_both = not-kept-and-dropped T file.kept dropped file.largest rest;
      together = kept-and-dropped T file.kept dropped file.largest rest known;
    }

-- ---- demands 2 and 3 on the mended task

-- "Demands 2 and 3 read on the mended task": the file that mend left is a task file like any other.
module _ (task room left : List ℕ) (k : ℕ) (mends : Mends task room (record { answer = done k; lent = left })) where
  abbrev file : MendedFile task room left k
  file = mended-accepted task room left k mends

  -- The task with what was kept: its sizes, start, goal and operators are those that came.
  abbrev pub mended_task : Task
  mended_task = mended file.came file.kept

  -- A mended file is mended already.
  pub mended-again : (room' : List ℕ) → k ≤ length room' → (outcome : Outcome ℕ) → Mends (take k left) room' outcome → outcome ≡ writes k (take k left) room'
  mended-again room' fits outcome again = good-mends (take k left) mended_task k file.accepted-as room' outcome again
      ∙ ap (λ bytes. delivered bytes room') (ap (λ kind. task_bytes_as kind mended_task) file.same_kind ∙ sym file.bytes)
      ∙ delivered-written (take k left) room' k (sym (Files.accepted-end (take k left) mended_task k file.accepted-as)) fits

  -- "the checker accepts weights, from anyone, exactly when they separate start from goal"
  pub mended-accepts : (weights fs : List ℕ) (end : ℕ) → judged_weights (features mended_task.sizes) weights ≡ got fs end
      → Checks (take k left) weights (done accepted) ↔ Separates mended_task (listed fs)
  mended-accepts = accepts-exactly (take k left) mended_task k file.accepted-as

  -- "once it accepts, no sequence of that task's moves leads from the start to the goal": the task as it came has the same moves, start and goal.
  pub mended-unsolvable : (weights : List ℕ) → Checks (take k left) weights (done accepted) → (T : Task) × (end : ℕ) × (task_of task 0 ≡ got T end) × Unsolvable T
  mended-unsolvable weights checks =
      let (U, _, again, hopeless) = accepted-unsolvable (take k left) weights checks in
      (file.came, file.end, file.read, subst Unsolvable (got-value (sym again ∙ file.accepted-as)) hopeless)

  -- The finder, on a workspace that was opened from the mended file.
  module _ (space workspace : List ℕ) (due : ℕ) (opens : Opens (take k left) space (record { answer = done due; lent = workspace })) where
    -- "'none' exactly when no weights separate",
    pub mended-none : (lent lent' : List ℕ) → Finds workspace lent (record { answer = done none; lent = lent' })
        ↔ ((words_for (features mended_task.sizes) ≤ length lent) × ((w : Set) → Separates mended_task w → ⊥) × (lent' ≡ lent))
    mended-none = none-exactly (take k left) mended_task k file.accepted-as space workspace due opens

    -- "and otherwise gives the least that do";
    pub mended-some : (w : Set) → Separates mended_task w → (lent : List ℕ) → words_for (features mended_task.sizes) ≤ length lent → (outcome : Outcome Finding)
        → Finds workspace lent outcome → outcome.answer ≡ done separated
    mended-some = some-found (take k left) mended_task k file.accepted-as space workspace due opens

    pub mended-least : (lent lent' : List ℕ) → Finds workspace lent (record { answer = done separated; lent = lent' })
        → (w : Set) × LeastOf (features mended_task.sizes) (Separates mended_task) w
        × (lent' ≡ packed (features mended_task.sizes) w ++ drop (length (packed (features mended_task.sizes) w)) lent)
    mended-least = least-given (take k left) mended_task k file.accepted-as space workspace due opens

    -- what it gives, the checker accepts for the mended file.
    pub mended-found : (lent lent' : List ℕ) → Finds workspace lent (record { answer = done separated; lent = lent' })
        → Checks (take k left) (weight_bytes (members (features mended_task.sizes) (has lent'))) (done accepted)
    mended-found = found-accepted (take k left) mended_task k file.accepted-as space workspace due opens

-- ---- the pair behind a refusal

-- What pair_fault says, against what is said where 6 and 7 are judged.
pub record SaysWhy (judged : Read Task) (answer : Answer PairFault) : Type 0 where
  -- No fault exactly when the file is accepted,
  pub good : (answer ≡ done no_fault) ↔ ((T : Task) × (next : ℕ) × (judged ≡ got T next))
  -- a pair that the start holds exactly when it is refused 6,
  pub held : (answer ≡ done start_holds) ↔ (judged ≡ fault Held 0)
  -- an operator that breaks exactly when it is refused 7.
  pub unclosed : (answer ≡ done operator_breaks) ↔ (judged ≡ fault Unclosed 0)

both-said : {A B : Type 0} → A → B → A ↔ B
both-said a b = (λ _. b, λ _. a)

neither-said : {A B : Type 0} → (A → ⊥) → (B → ⊥) → A ↔ B
neither-said a b = (λ h. absurd (a h), λ h. absurd (b h))

module _ (judged : Read Task) (answer : Answer PairFault) where
  why-good : (T : Task) (next : ℕ) → judged ≡ got T next → answer ≡ done no_fault → SaysWhy judged answer
  why-good T next j a = record {
    good = both-said a (T, next, j);
    held = neither-said (λ b. let z : ◌≡◌ {A = ℕ} 0 1 = cc in omega arith) (λ i. not-got (sym i ∙ j));
    unclosed = neither-said (λ b. let z : ◌≡◌ {A = ℕ} 0 1 = cc in omega arith) (λ i. not-got (sym i ∙ j));
  }

  why-held : judged ≡ fault Held 0 → answer ≡ done start_holds → SaysWhy judged answer
  why-held j a = record {
    good = neither-said (λ b. let z : ◌≡◌ {A = ℕ} 0 1 = cc in omega arith) (λ h. not-got (sym j ∙ h.2));
    held = both-said a j;
    unclosed = neither-said (λ b. let z : ◌≡◌ {A = ℕ} 0 1 = cc in omega arith) (λ i. let z : ◌≡◌ {A = ℕ} 0 1 = cc in omega arith);
  }

  why-unclosed : judged ≡ fault Unclosed 0 → answer ≡ done operator_breaks → SaysWhy judged answer
  why-unclosed j a = record {
    good = neither-said (λ b. let z : ◌≡◌ {A = ℕ} 0 1 = cc in omega arith) (λ h. not-got (sym j ∙ h.2));
    held = neither-said (λ b. let z : ◌≡◌ {A = ℕ} 0 1 = cc in omega arith) (λ i. let z : ◌≡◌ {A = ℕ} 0 1 = cc in omega arith);
    unclosed = both-said a j;
  }

  why-unread : (reason : Reason) (place n : ℕ) → judged ≡ fault reason place → as_read reason ≡ true → answer ≡ refused n → SaysWhy judged answer
  why-unread reason place n j plain a = record {
    good = neither-said (λ b. let z : ◌≡◌ {A = ℕ} 0 1 = cc in omega arith) (λ h. not-got (sym j ∙ h.2));
    held = neither-said (λ b. let z : ◌≡◌ {A = ℕ} 0 1 = cc in omega arith) (λ i. let z : reason ≡ Held = cc in clash plain (rw z refl));
    unclosed = neither-said (λ b. let z : ◌≡◌ {A = ℕ} 0 1 = cc in omega arith) (λ i. let z : reason ≡ Unclosed = cc in clash plain (rw z refl));
  }

pub says-why : (task room : List ℕ) → fault_words ≤ length room → (outcome : Outcome PairFault) → FaultsPairs task room outcome → SaysWhy (judged_task task) outcome.answer
unfolding judged_task
says-why task room long outcome faults = by (task_of task 0) (plain-task.plain 0) (rw (le-ltb (length room) fault_words long) at faults)
  where
    open_at : (T : Task) (j f : ℕ) → LeastUnclosed T j f → all_of (closed T.sizes (listed T.pairs)) T.operators ≡ false
    open_at T j f h = all-not (closed T.sizes (listed T.pairs)) T.operators (get_or T.operators j []) (get_d-in T.operators j [] h.counted) h.broken

    found-why : (T : Task) (next : ℕ) → FindsFault T room outcome → SaysWhy (judged_pairs T next) outcome.answer
    found-why T next (inl h) = why-good _ _ T next
        (rw (h.0.free, all-each (closed T.sizes (listed T.pairs)) T.operators h.0.closed-under) refl) (ap (λ o. o.answer) h.1)
    found-why T next (inr (inl h)) = why-held _ _ (rw (held-holds T.sizes (listed T.pairs) T.start h.0 h.1.member) refl) (ap (λ o. o.answer) h.2)
    found-why T next (inr (inr h)) = why-unclosed _ _ (rw (h.2.free, open_at T h.1 h.0 h.2) refl) (ap (λ o. o.answer) h.3)

    by : (read : Read Task) → AsRead read → by_read read (λ T. FindsFault T room outcome) (λ reason. outcome ≡ refuses reason room) → SaysWhy (on_read read judged_pairs) outcome.answer
    by (got T next) plain h = found-why T next h
    by (fault reason place) plain h = why-unread _ _ reason place (refusal reason) refl (plain.reasoned reason place refl) (ap (λ o. o.answer) h)

-- ---- named and dropped

-- What pair_fault names.
abbrev pub Named : Task → ℕ → Type 0
Named T f = LeastHeld T f ⊎ ((j : ℕ) × LeastUnclosed T j f)

module _ (T : Task) (known : Files.Readable T) (f : ℕ) where
  -- It is listed,
  named-listed : Named T f → listed T.pairs f ≡ true
  named-listed (inl h) = and_left (listed T.pairs f) (held_pair T.sizes T.start f) h.member
  named-listed (inr (j, h)) = and_left (listed T.pairs f) (unclosed_pair T.sizes (listed T.pairs) (get_or T.operators j []) f) h.least.member

  -- and no good sublist has it;
  named-hopeless : Named T f → Hopeless T known (listed T.pairs) f
  named-hopeless (inl h) = held-hopeless T known (listed T.pairs) f (listed_below T known f (named-listed (inl h)))
      (and_right (listed T.pairs f) (held_pair T.sizes T.start f) h.member)
  named-hopeless (inr (j, h)) =
      let o = get_or T.operators j [] in
      let m = get_d-in T.operators j [] h.counted in
      unclosed-hopeless T known (listed T.pairs) o f m (listed_below T known f (named-listed (inr (j, h))))
      (or-none-left (idle T.sizes (listed T.pairs) o) _ (sym (closed-by-pairs T.sizes (listed T.pairs) o (known.operators o m).entries) ∙ h.broken))
      (and_right (listed T.pairs f) (unclosed_pair T.sizes (listed T.pairs) o f) h.least.member)

  -- so it is not kept,
  pub named-not-kept : Named T f → (kept : List ℕ) → Largest T kept → listed kept f ≡ false
  named-not-kept named kept largest = named-hopeless named (listed kept) largest.good largest.sublist.within

  -- but dropped.
  pub named-dropped : Named T f → (kept dropped : List ℕ) → Largest T kept → Dropped T kept dropped → listed dropped f ≡ true
  named-dropped named kept dropped largest rest = rest.each f ∙ and_both (listed T.pairs f) _ (named-listed named) (ap not (named-not-kept named kept largest))

  -- Without it the task has the same largest good sublist.
  pub named-out : Named T f → (left : List ℕ) → ((g : ℕ) → listed left g ≡ (listed T.pairs g && not (eqb g f))) → (kept : List ℕ)
      → Largest T kept ↔ Largest (mended T left) kept
  named-out named left out kept = (
    λ h. record {
      sublist = record { increasing = h.sublist.increasing; within = narrowed.keeps (listed kept) h.good h.sublist.within };
      good = (good-alike T left (listed kept)).0 h.good;
      most = λ other sub g. h.most other (record { increasing = sub.increasing; within = λ e q. narrowed.within e (sub.within e q) }) ((good-alike T left (listed other)).1 g);
    },
    λ h. record {
      sublist = record { increasing = h.sublist.increasing; within = λ e q. narrowed.within e (h.sublist.within e q) };
      good = (good-alike T left (listed kept)).1 h.good;
      most = λ other sub g. h.most other (record { increasing = sub.increasing; within = narrowed.keeps (listed other) g sub.within }) ((good-alike T left (listed other)).0 g);
    },
  )
    where
      narrowed : Narrowed T known (listed T.pairs) (listed left)
      narrowed = hopeless-narrowed T known (listed T.pairs) (listed left) f (named-hopeless named) out

-- pair_fault is asked again and again, each time without the pair that it named: the lists that a task's list comes to.
pub data AskedAgain (T : Task) : List ℕ → Type 0 where
  as-it-came : AskedAgain T T.pairs
  without : (pairs left : List ℕ) (f : ℕ) → AskedAgain T pairs → Named (mended T pairs) f → Run (atoms T.sizes) left (features T.sizes)
      → ((g : ℕ) → listed left g ≡ (listed pairs g && not (eqb g f))) → AskedAgain T left

module _ (T : Task) (known : Files.Readable T) where
  asked-same : (pairs : List ℕ) → AskedAgain T pairs → Run (atoms T.sizes) pairs (features T.sizes) × ((kept : List ℕ) → Largest T kept ↔ Largest (mended T pairs) kept)
  asked-same _ as-it-came = (known.pairs, λ kept. Iff.rfl)
  asked-same _ (without pairs left f a named increasing out) =
      let (run, same) = asked-same pairs a in
      (increasing, λ kept. Iff.trans (same kept) (named-out (mended T pairs) (listed-readable T known pairs run) f named left out kept))

  -- Where no pair is named any more, since the list is good, it is what mend keeps.
  pub asked-kept : (pairs : List ℕ) → AskedAgain T pairs → Good T (listed pairs) → Largest T pairs
  asked-kept pairs a good =
      let (run, same) = asked-same pairs a in
      (same pairs).1 (good-largest (mended T pairs) (listed-readable T known pairs run) ((good-alike T pairs (listed pairs)).0 good))
