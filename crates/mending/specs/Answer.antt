-- What the calls answer for a task that was read, by its file, its header and the words of the pairs that are kept or dropped.
use Rattle.std.specs.Prelude.{ℕ, ◌<◌, ◌≤◌, ◌≡◌, refl, Bool, true, false, not, ◌&&◌, List, [], ◌∷◌, length, set, drop, Option, Result, Ok, Err}
use Rattle.std.proofs.Common.{sym, ap, ap₂, ◌∙◌, subst, inl, inr, true≢false, arith, lt-ltb, le-ltb}
use Rattle.meaning.specs.Sets.{◌⊕◌, listed}
use Rattle.meaning.specs.Limits.{number_end, fault_words}
use Rattle.meaning.specs.Task.{Task, State}
use Rattle.meaning.specs.Number.{Small, refusal, got}
use Rattle.meaning.specs.File.{Kind, kind_of, task_of, task_bytes_as}
use Rattle.meaning.specs.Workspace.{words_for, pairs_at, has}
use Rattle.meaning.specs.Answer.{Answer, done, refused, Outcome, delivered}
use Rattle.meaning.specs.Mend as meaning
use Rattle.meaning.specs.Mend.{Good, Largest, Dropped, mended, Mends, Drops, no_fault, start_holds, operator_breaks, LeastHeld, LeastUnclosed, FindsFault, FaultsPairs}
use Rattle.theory.specs.Run.{run-members, run-same}
use Rattle.theory.specs.Reading.{got-value}
use Rattle.theory.specs.Spent.{Bytes}
use Rattle.theory.specs.Parts.{operators-said}
use Rattle.theory.specs.PartialParts.{operators-copied}
use Rattle.theory.specs.Accepted.{Readable}
use Rattle.theory.specs.Mending.{ReadAs, dropped-exists}
use Rattle.number.specs.Answers.{reason_of, faulted}
use Rattle.number.specs.declared.Fault.{Fault}
use Rattle.number.specs.declared.Reason.{Reason}
use Rattle.reader.specs.declared.Header.{Header}
use Rattle.words.specs.Change.{summed, length-summed, has-summed}
use Rattle.words.specs.Members.{members_in, listed-in-words}
use Rattle.layout.specs.Parts.{Headed, sizes_part, start_part, goal_part, pairs_part, length_part}
use Rattle.pairs.specs.Ready.{Listed}
use Rattle.task.specs.Answer.{JudgedInto, ReadInto, judged-told, left-room, left-parts, left-ready, read-end, read-readable, read_left, read_as}
use Rattle.writer.specs.Answer.{outcome_of}
use Rattle.writer.specs.Parts.{FewWords}
use Rattle.writer.specs.Front.{Front, sizes-countable, state-countable}
use Rattle.writer.specs.TaskFile.{file_bytes, task-file}
use Rattle.writer.specs.Judging.{weights-delivered}
use Rattle.writer.specs.Sets.{few-in-range, in-range-fine}
use Rattle.writer.specs.Weights.{weights_written}
use Rattle.keeping.specs.declared.Fault as keeping
use Rattle.keeping.specs.Fault.{FaultIs}
use Rattle.mending.specs.declared.PairFault.{PairFault}
use Rattle.mending.specs.declared.PairFault.TheVariants.{Good as Fine, Held, Unclosed}

-- ---- the answers of the code

-- The paper's answer for each case.
abbrev pub fault_of : Result PairFault Reason → Answer meaning.PairFault
fault_of (Ok Fine) = done no_fault
fault_of (Ok Held) = done start_holds
fault_of (Ok Unclosed) = done operator_breaks
fault_of (Err reason) = refused (refusal (reason_of reason))

-- A task file that was judged up to 5, by its header in words and its counts.
abbrev pub ReadBy : List ℕ → List ℕ → Header → Type 0
ReadBy bytes words h = (old : List ℕ) × ReadInto bytes old words h.variables h.features h.operators h.next

pub read-by : (bytes old words : List ℕ) (h : Header) → JudgedInto (task_of bytes 0) bytes old (Ok h) words → ReadBy bytes words h
read-by bytes old words h into = (old, judged-told bytes old words h into)

-- Words that hold the pairs that are kept of the task in a file.
abbrev pub KeptIn : List ℕ → List ℕ → Type 0
KeptIn bytes kept = (T : Task) (end : ℕ) → task_of bytes 0 ≡ got T end → Largest T (members_in kept)

-- What is asked for: the mended file, or what is dropped.
abbrev pub Answers : Bool → List ℕ → List ℕ → Outcome ℕ → Type 0
Answers false = Mends
Answers true = Drops

-- ---- a task that is refused

module _ (bytes : List ℕ) (f : Fault) (e : task_of bytes 0 ≡ faulted f) where
  pub answer-refused : (dropping : Bool) (room : List ℕ) → Answers dropping bytes room (outcome_of (Err f.0) room)
  answer-refused false room = rw e
  answer-refused true room = rw e

  pub fault-refused : (room : List ℕ) → FaultsPairs bytes room (record { answer = fault_of (Err f.0); lent = room })
  fault-refused room = rw e

-- ---- what is dropped

-- Of two sets one of which is within the other, the sum is what only the larger has.
only-larger : (a b : Bool) → (a ≡ true → b ≡ true) → (a ⊕ b) ≡ (b && not a)
only-larger true true h = refl
only-larger true false h = absurd (true≢false (sym (h refl)))
only-larger false true h = refl
only-larger false false h = refl

-- Words that have what is listed and not kept.
dropped-words : (T : Task) → Readable T → (kept words : List ℕ) → ((f : ℕ) → has words f ≡ (listed T.pairs f && not (listed kept f))) → Dropped T kept (members_in words)
dropped-words T known kept words each =
    let (dropped, is) = dropped-exists T known kept in
    subst (Dropped T kept) (run-same _ _ _ _ dropped (members_in words) is.sublist.increasing (run-members _ (has words)) (λ f. is.each f ∙ sym (each f) ∙ sym (listed-in-words words f))) is

-- ---- a task that was read

module _ {bytes words left : List ℕ} {v n count at : ℕ} (known : ReadInto bytes words left v n count at) where
  abbrev T : Task
  T = known.task

  -- What holds of it holds of any task that is read from the file.
  is-task : (U : Task) (end : ℕ) → task_of bytes 0 ≡ got U end → T ≡ U
  is-task U end e = got-value (sym known.judged ∙ e)

  -- All words of its header are there.
  pub headed : Headed v n left
  headed = left-room (read_left known)

  -- The operators begin within the file.
  pub at-within : at ≤ length bytes
  at-within = omega (arith, ((operators-said bytes T.sizes count).gives at T.operators known.next known.operators).moved, read-end known)

  -- The listed pairs, as they are lent, have the words that are due; those are few.
  pub pairs-long : (pairs : List ℕ) → pairs ≡ pairs_part v n left → length pairs ≡ words_for n
  pairs-long pairs e = ap length e ∙ length_part (pairs_at v) (words_for n) left headed.words

  few : (set : List ℕ) → length set ≡ words_for n → FewWords set
  few set long = omega (arith, headed.features)

  -- ---- by its sizes, start and pairs, as they are lent

  module _ (sizes start pairs : List ℕ) (sizes-are : sizes ≡ sizes_part v left) (start_is : start ≡ start_part v left) (pairs-are : pairs ≡ pairs_part v n left) where
    pub lent-ready : Listed sizes pairs × State sizes start
    lent-ready = let ready = left-ready (read_left known) in rw (sizes-are, start_is, pairs-are) (ready.0, ready.1)

    pub kept_in_lem : (kept : List ℕ) → ((U : Task) (end : ℕ) → ReadAs U bytes at count end sizes start (has pairs) → Largest U (members_in kept)) → KeptIn bytes kept
    kept_in_lem kept h U end e = subst (λ W. Largest W (members_in kept)) (is-task U end e) (h T known.next (read_as known sizes start pairs sizes-are start_is pairs-are))

    pub fault-is : (r : Option keeping.Fault) → ((U : Task) (end : ℕ) → ReadAs U bytes at count end sizes start (has pairs) → FaultIs U r) → FaultIs T r
    fault-is r h = h T known.next (read_as known sizes start pairs sizes-are start_is pairs-are)

  -- ---- dropped

  -- What the code comes to is the list of what is not kept: the kept pairs are added to the listed ones, as they are lent.
  module _ (kept pairs : List ℕ) (h : KeptIn bytes kept) (pairs-are : pairs ≡ pairs_part v n left) (long : length kept ≡ words_for n) where
    largest : Largest T (members_in kept)
    largest = h T known.next known.judged

    dropped-each : (f : ℕ) → has (summed kept pairs) f ≡ (listed T.pairs f && not (listed (members_in kept) f))
    dropped-each f =
        has-summed kept pairs f (long ∙ sym (pairs-long pairs pairs-are))
        ∙ ap₂ ◌⊕◌ (sym (listed-in-words kept f)) (ap (λ s. s f) (ap has pairs-are ∙ (left-parts (read_left known)).3))
        ∙ only-larger (listed (members_in kept) f) (listed T.pairs f) (largest.sublist.within f)

    pub drops-so : (dropped room : List ℕ) (outcome : Outcome ℕ) → dropped ≡ summed kept pairs → outcome ≡ weights_written (members_in dropped) room → Drops bytes room outcome
    drops-so dropped room outcome e q =
        let fits = few dropped (ap length e ∙ length-summed kept pairs ∙ long) in
        rw known.judged (
          members_in kept,
          members_in dropped,
          largest,
          dropped-words T (read-readable known) (members_in kept) dropped (λ f. ap (λ l. has l f) e ∙ dropped-each f),
          q ∙ weights-delivered (members_in dropped) room (in-range-fine dropped (few-in-range dropped fits)),
        )

  -- ---- mended, by its sizes, start and goal as they are lent

  module _ (sizes start goal kept : List ℕ) (sizes-are : sizes ≡ sizes_part v left) (start_is : start ≡ start_part v left) (goal-is : goal ≡ goal_part v left)
      (long : length kept ≡ words_for n) where
    pub mended-front : Front sizes start goal kept × (count < number_end)
    mended-front =
        let (Listed-in, begins, ends) = left-ready (read_left known) in
        let limits = Listed-in.limits in
        rw (sizes-are, start_is, goal-is) (
          (sizes-countable _ limits, state-countable _ _ limits begins, state-countable _ _ limits ends, few kept long),
          omega (arith, known.many, (read-readable known).countable),
        )

    module _ (small : Bytes bytes) where
      -- The file by its parts is the mended task's.
      file-same : (kind : Kind) → file_bytes kind count (drop at bytes) sizes start goal kept ≡ task_bytes_as kind (mended T (members_in kept))
      file-same kind = let parts = left-parts (read_left known) in
          rw (sizes-are ∙ parts.0, start_is ∙ parts.1, goal-is ∙ parts.2) (task-file kind (mended T (members_in kept)) count (drop at bytes) kept known.many
          (operators-copied bytes T.sizes count at T.operators known.next small known.operators (omega (arith, read-end known))) refl)

      -- What the code comes to is the mended task's file, of the kind that came.
      pub mends-so : KeptIn bytes kept → (kind : Kind) → kind ≡ kind_of bytes 0 → (own room : List ℕ) (outcome : Outcome ℕ) → own ≡ drop at bytes
          → outcome ≡ delivered (file_bytes kind count own sizes start goal kept) room → Mends bytes room outcome
      mends-so h kind came own room outcome q e = rw known.judged (
        members_in kept,
        h T known.next known.judged,
        e ∙ ap (λ rest. delivered (file_bytes kind count rest sizes start goal kept) room) q ∙ ap (λ file. delivered file room) (file-same kind ∙ ap (λ k. task_bytes_as k (mended T (members_in kept))) came),
      )

  -- ---- the pair behind a refusal

  module _ (room : List ℕ) where
    pub fault-small : length room < fault_words → FaultsPairs bytes room (record { answer = refused (refusal Small); lent = room })
    fault-small h = rw (known.judged, lt-ltb (length room) fault_words h) refl

    module _ (fits : fault_words ≤ length room) where
      told : (outcome : Outcome meaning.PairFault) → FindsFault T room outcome → FaultsPairs bytes room outcome
      told outcome h = rw (known.judged, le-ltb (length room) fault_words fits) h

      pub fault-none : Good T (listed T.pairs) → FaultsPairs bytes room (record { answer = done no_fault; lent = room })
      fault-none good = told _ (inl (good, refl))

      pub fault-held : (f : ℕ) → LeastHeld T f → FaultsPairs bytes room (record { answer = done start_holds; lent = set room 0 f })
      fault-held f least = told _ (inr (inl (f, least, ap (λ l. record { answer = done start_holds; lent = l }) (first room fits))))
        where
          first : (l : List ℕ) → fault_words ≤ length l → set l 0 f ≡ f ∷ drop 1 l
          first [] h = absurd (omega arith)
          first (x ∷ l) h = refl

      pub fault-unclosed : (f j : ℕ) → LeastUnclosed T j f → FaultsPairs bytes room (record { answer = done operator_breaks; lent = set (set room 0 f) 1 j })
      fault-unclosed f j least = told _ (inr (inr (f, j, least, ap (λ l. record { answer = done operator_breaks; lent = l }) (both room fits))))
        where
          both : (l : List ℕ) → fault_words ≤ length l → set (set l 0 f) 1 j ≡ f ∷ j ∷ drop 2 l
          both [] h = absurd (omega arith)
          both (x ∷ []) h = absurd (omega arith)
          both (x ∷ y ∷ l) h = refl
