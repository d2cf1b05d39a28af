-- What the judge's answer and the words that it leaves say of a task file; what an answer tells, and what makes one.
use Rattle.std.specs.Prelude.{ℕ, Bool, take, Result, Ok, Err}
use Rattle.std.proofs.Math.Path.{◌≡◌, refl, sym, ap}
use Rattle.std.proofs.Common.{◌∙◌, arith}
use mathlib.Core.List.{List, []}
use Rattle.std.proofs.Math.ListN.{length}
use Rattle.meaning.specs.Sets.{listed}
use Rattle.meaning.specs.Task.{Operator, Task, State}
use Rattle.meaning.specs.Feature.{features}
use Rattle.meaning.specs.Number.{Read, got, fault}
use Rattle.meaning.specs.File.{Kind, mark_of, operators_of, task_of, judged_task, Writable}
use Rattle.meaning.specs.Workspace.{slots_at, has}
use Rattle.theory.specs.Parts.{operators-said}
use Rattle.theory.specs.Accepted.{Readable, writable-readable, read_known, accepted}
use Rattle.theory.specs.Mending.{ReadAs}
use Rattle.number.specs.Answers.{declared-reason, fault_of, faulted, place_of, place-next, place-faulted}
use Rattle.number.specs.declared.Fault.{Fault}
use Rattle.layout.specs.Parts as layout
use Rattle.layout.specs.Parts.{sizes_part, start_part, goal_part, pairs_part}
use Rattle.reader.specs.declared.Header.{Header}
use Rattle.reader.specs.Answer.{begun}
use Rattle.reader.specs.Front.{Front, front_of, front_words, header_of, HeaderInto, task_with}
use Rattle.pairs.specs.Ready.{Listed}
use Rattle.task.specs.Header.{header_words, Headed, readable-headed, front-header, front-headed, header-front, header-room, header-parts, header-ready, header-has}
use Rattle.task.specs.Rest.{judged_by, file_by, rest_of, behind, front-unread, judged-behind, rest-operators, file-marked, file-unmarked}

-- The counts of a task, with a place.
abbrev pub counts_of : Task → ℕ → Header
counts_of T at = record { variables = length T.sizes; features = features T.sizes; operators = length T.operators; next = at }

-- An accepted task: the answer has its counts and the place after its front, where its operators are read, and the words left begin with its header.
pub record AcceptedInto (bytes words : List ℕ) (T : Task) (next : ℕ) (answer : Result Header Fault) (left : List ℕ) : Type 0 where
  pub at : ℕ
  pub counts : answer ≡ Ok (counts_of T at)
  pub operators : operators_of T.sizes (length T.operators) bytes at ≡ got T.operators next
  pub header : left ≡ begun words (header_words T)

-- Where a task is accepted, that; otherwise the answer is the fault, and nothing is said of the words.
unfoldable pub JudgedInto : Read Task → List ℕ → List ℕ → Result Header Fault → List ℕ → Type 0
JudgedInto (got T next) bytes words answer left = AcceptedInto bytes words T next answer left
JudgedInto (fault reason place) bytes words answer left = answer ≡ Err (fault_of reason place)

-- ---- what an answer tells

-- Words that are left with the header of a task, by its counts.
pub record HeaderLeft (T : Task) (words left : List ℕ) (v n : ℕ) : Type 0 where
  pub headed : Headed T
  pub variables : v ≡ length T.sizes
  pub total : n ≡ features T.sizes
  pub header : left ≡ begun words (header_words T)

module _ {T : Task} {words left : List ℕ} {v n : ℕ} (h : HeaderLeft T words left v n) where
  -- All before the slots is there.
  pub left-room : layout.Headed v n left
  left-room = header-room T h.headed words left h.header v n h.variables h.total

  -- The parts of the words that are left, as they are lent: sizes, start, goal and pairs.
  pub left-parts : (sizes_part v left ≡ T.sizes) × (start_part v left ≡ T.start) × (goal_part v left ≡ T.goal) × (has (pairs_part v n left) ≡ listed T.pairs)
  left-parts = let (sizes, start, goal, pairs) = header-parts T h.headed words left h.header v n h.variables h.total in
      (sizes, start, goal, header-has T h.headed words left h.header v n h.variables h.total)

  pub left-ready : Listed (sizes_part v left) (pairs_part v n left) × State (sizes_part v left) (start_part v left) × State (sizes_part v left) (goal_part v left)
  left-ready = header-ready T h.headed words left h.header v n h.variables h.total

-- What is known of a task that was accepted, by the counts of the answer: its header is left in the words.
pub record KnownAs (judging : Read Task) (words left : List ℕ) (v n : ℕ) : Type 0 where
  pub task : Task
  pub next : ℕ
  pub judged : judging ≡ got task next
  pub writable : Writable task
  pub variables : v ≡ length task.sizes
  pub total : n ≡ features task.sizes
  pub header : left ≡ begun words (header_words task)

-- Of an accepted task file also where its operators are read.
pub record Known (bytes words left : List ℕ) (v n count at : ℕ) : Type 0 where
  pub accepted : KnownAs (judged_task bytes) words left v n
  pub many : count ≡ length accepted.task.operators
  pub operators : operators_of accepted.task.sizes count bytes at ≡ got accepted.task.operators accepted.next

module _ {judging : Read Task} {words left : List ℕ} {v n : ℕ} (known : KnownAs judging words left v n) where
  pub known-headed : Headed known.task
  known-headed = readable-headed known.task (writable-readable known.task known.writable).0

  known-left : HeaderLeft known.task words left v n
  known-left = record { headed = known-headed; variables = known.variables; total = known.total; header = known.header }

  -- The front of the words that are left is the header.
  pub known-header : take (slots_at v n) left ≡ header_words known.task
  known-header = header-front known.task known-headed words left known.header v n known.variables known.total

  pub known-room : layout.Headed v n left
  known-room = left-room known-left

  pub known-parts : (sizes_part v left ≡ known.task.sizes) × (start_part v left ≡ known.task.start) × (goal_part v left ≡ known.task.goal) × (has (pairs_part v n left) ≡ listed known.task.pairs)
  known-parts = left-parts known-left

  pub known-ready : Listed (sizes_part v left) (pairs_part v n left) × State (sizes_part v left) (start_part v left) × State (sizes_part v left) (goal_part v left)
  known-ready = left-ready known-left

-- What an answer that accepts says of whatever was judged: the task, its counts, where its operators are read, and its header in the words.
pub record AcceptedAs (judging : Read Task) (bytes words left : List ℕ) (v n count at : ℕ) : Type 0 where
  pub task : Task
  pub next : ℕ
  pub judged : judging ≡ got task next
  pub variables : v ≡ length task.sizes
  pub total : n ≡ features task.sizes
  pub many : count ≡ length task.operators
  pub operators : operators_of task.sizes count bytes at ≡ got task.operators next
  pub header : left ≡ begun words (header_words task)

module _ {judging : Read Task} (bytes words left : List ℕ) where
  pub judged-told : (h : Header) → JudgedInto judging bytes words (Ok h) left → AcceptedAs judging bytes words left h.variables h.features h.operators h.next
  unfolding JudgedInto
  judged-told h into = by judging refl into
    where
      by : (read : Read Task) → judging ≡ read → JudgedInto read bytes words (Ok h) left → AcceptedAs judging bytes words left h.variables h.features h.operators h.next
      by (got T next) q k =
          let same : h ≡ counts_of T k.at = cc in
          record {
            task = T;
            next = next;
            judged = q;
            variables = ap (λ x. x.variables) same;
            total = ap (λ x. x.features) same;
            many = ap (λ x. x.operators) same;
            operators = rw same k.operators;
            header = k.header;
          }
      by (fault reason place) q k = absurd (let z : ◌≡◌ {A = ℕ} 0 1 = cc in omega arith)

  pub judged-refused : (f : Fault) → JudgedInto judging bytes words (Err f) left → judging ≡ faulted f
  unfolding JudgedInto
  judged-refused f into = by judging into
    where
      by : (read : Read Task) → JudgedInto read bytes words (Err f) left → read ≡ faulted f
      by (got T next) k = absurd (let z : ◌≡◌ {A = ℕ} 0 1 = cc in omega arith)
      by (fault other there) k = place-faulted {A = Task} (fault other there) f cc

-- A task file that was judged wholly.
pub judged-accepted : (bytes words left : List ℕ) (h : Header) → JudgedInto (judged_task bytes) bytes words (Ok h) left → Known bytes words left h.variables h.features h.operators h.next
judged-accepted bytes words left h into = let told = judged-told bytes words left h into in record {
  accepted = record {
    task = told.task;
    next = told.next;
    judged = told.judged;
    writable = accepted bytes told.task told.next told.judged;
    variables = told.variables;
    total = told.total;
    header = told.header;
  };
  many = told.many;
  operators = told.operators;
}

-- A task file that was judged up to 5.
abbrev pub ReadInto : List ℕ → List ℕ → List ℕ → ℕ → ℕ → ℕ → ℕ → Type 0
ReadInto bytes = AcceptedAs (task_of bytes 0) bytes

module _ {bytes words left : List ℕ} {v n count at : ℕ} (known : ReadInto bytes words left v n count at) where
  -- No byte is left over, and every rule but those for the listed pairs is kept.
  pub read-end : known.next ≡ length bytes
  read-end = (read_known bytes known.task known.next known.judged).0

  pub read-readable : Readable known.task
  read-readable = (read_known bytes known.task known.next known.judged).1

  pub read_left : HeaderLeft known.task words left v n
  read_left = record { headed = readable-headed known.task read-readable; variables = known.variables; total = known.total; header = known.header }

  -- The task by its sizes, start and pairs, as they are lent.
  pub read_as : (sizes start pairs : List ℕ) → sizes ≡ sizes_part v left → start ≡ start_part v left → pairs ≡ pairs_part v n left
      → ReadAs known.task bytes at count known.next sizes start (has pairs)
  read_as sizes start pairs sizes-are start_is pairs-are = let parts = left-parts read_left in record {
    known = read-readable;
    sizes-are = sizes-are ∙ parts.0;
    start_is = start_is ∙ parts.1;
    pairs-are = ap has pairs-are ∙ parts.3;
    operators = known.operators;
  }

-- ---- what makes an answer

-- What is known once a front was read, by the counts and the place that its reader answers.
pub record FrontedAs (reading : Read Front) (words left : List ℕ) (v n count at : ℕ) : Type 0 where
  pub front : Front
  pub read : reading ≡ got front at
  pub variables : v ≡ length front.states.sizes
  pub total : n ≡ features front.states.sizes
  pub many : count ≡ front.count
  pub words_are : left ≡ begun words (front_words front)

-- That of a task file of a kind.
abbrev pub Fronted : Kind → List ℕ → ℕ → List ℕ → List ℕ → ℕ → ℕ → ℕ → ℕ → Type 0
Fronted kind bytes from = FrontedAs (front_of kind bytes from)

-- What the reader of a front tells.
module _ (reading : Read Front) (words left : List ℕ) where
  pub front-told : (h : Header) → HeaderInto reading words (Ok h) left → FrontedAs reading words left h.variables h.features h.operators h.next
  unfolding HeaderInto
  front-told h into = by reading refl into
    where
      by : (read : Read Front) → reading ≡ read → HeaderInto read words (Ok h) left → FrontedAs reading words left h.variables h.features h.operators h.next
      by (got front next) q k =
          let same : h ≡ header_of front next = cc in
          record {
            front = front;
            read = q ∙ ap (got front) (sym (ap (λ x. x.next) same));
            variables = ap (λ x. x.variables) same;
            total = ap (λ x. x.features) same;
            many = ap (λ x. x.operators) same;
            words_are = k.1;
          }
      by (fault reason place) q k = absurd (let z : ◌≡◌ {A = ℕ} 0 1 = cc in omega arith)

  pub front-faulted : (f : Fault) → HeaderInto reading words (Err f) left → reading ≡ faulted f
  unfolding HeaderInto
  front-faulted f into = by reading into
    where
      by : (read : Read Front) → HeaderInto read words (Err f) left → read ≡ faulted f
      by (got front next) k = absurd (let e = k.0 in let z : ◌≡◌ {A = ℕ} 0 1 = cc in omega arith)
      by (fault other there) k = place-faulted {A = Front} (fault other there) f cc

-- A fault, whatever was judged.
answer-refused : (judging : Read Task) (bytes words left : List ℕ) (f : Fault) → judging ≡ faulted f → JudgedInto judging bytes words (Err f) left
unfolding JudgedInto
answer-refused judging bytes words left f e = rw e (ap (λ r. Err (record { 0 = r; 1 = f.1 })) (sym (declared-reason f.0)))

-- A file by its mark.
module _ (kind : Kind) (wholly : Bool) (bytes words left : List ℕ) where
  pub marked-judged : (at : ℕ) (answer : Result Header Fault) → Ok at ≡ place_of (mark_of kind bytes 0) → JudgedInto (judged_by kind wholly bytes at) bytes words answer left
      → JudgedInto (file_by kind wholly bytes) bytes words answer left
  marked-judged at answer e judged = let (mark, read) = place-next (mark_of kind bytes 0) at (sym e) in rw (file-marked kind bytes wholly mark at read) judged

  pub unmarked-judged : (f : Fault) → Err f ≡ place_of (mark_of kind bytes 0) → JudgedInto (file_by kind wholly bytes) bytes words (Err f) left
  unmarked-judged f e = answer-refused _ bytes words left f (file-unmarked kind bytes wholly _ _ (place-faulted (mark_of kind bytes 0) f (sym e)))

module _ (kind : Kind) (bytes : List ℕ) (from : ℕ) (words left : List ℕ) where
  pub front-refused : (wholly : Bool) (f : Fault) → front_of kind bytes from ≡ faulted f → JudgedInto (judged_by kind wholly bytes from) bytes words (Err f) left
  front-refused wholly f e = answer-refused _ bytes words left f (front-unread kind bytes from wholly _ _ e)

  module _ (v n count at : ℕ) (known : Fronted kind bytes from words left v n count at) where
    -- A task with this front, and its header.
    abbrev begins : List Operator → Task
    begins operators = task_with known.front operators

    header-words : (operators : List Operator) → left ≡ begun words (header_words (begins operators))
    header-words operators = known.words_are ∙ ap (begun words) (front-header known.front operators)

    fronted-left : HeaderLeft (begins []) words left v n
    fronted-left = record { headed = front-headed kind bytes from known.front at [] known.read; variables = known.variables; total = known.total; header = header-words [] }

    pub fronted-room : layout.Headed v n left
    fronted-room = left-room fronted-left

    -- Its sizes, start and pairs, as they are lent.
    module _ (sizes start pairs : List ℕ) (sizes-are : sizes ≡ sizes_part v left) (start_is : start ≡ start_part v left) (pairs-are : pairs ≡ pairs_part v n left) where
      pub lent-ready : Listed sizes pairs × State sizes start
      lent-ready = let ready = left-ready fronted-left in rw (sizes-are, start_is, pairs-are) (ready.0, ready.1)

      module _ (wholly : Bool) where
        -- What is judged behind them.
        abbrev rest : Read (List Operator)
        rest = rest_of wholly sizes (has pairs) start count bytes at

        lent-behind : rest ≡ behind kind bytes from known.front at wholly
        lent-behind = let parts = left-parts fronted-left in rw (sizes-are ∙ parts.0, start_is ∙ parts.1, ap has pairs-are ∙ parts.3, known.many)

        pub rest-refused : (f : Fault) → Err f ≡ place_of rest → JudgedInto (judged_by kind wholly bytes from) bytes words (Err f) left
        rest-refused f told =
            let found : behind kind bytes from known.front at wholly ≡ faulted f = sym lent-behind ∙ place-faulted rest f (sym told) in
            answer-refused _ bytes words left f (judged-behind kind bytes from known.front at wholly known.read ∙ rw found)

        -- The counts, and the place where the operators begin.
        abbrev accepted-counts : Header
        accepted-counts = record { variables = v; features = n; operators = count; next = at }

        pub rest-accepted : (next : ℕ) → Ok next ≡ place_of rest → JudgedInto (judged_by kind wholly bytes from) bytes words (Ok accepted-counts) left
        unfolding JudgedInto
        rest-accepted next told = let (operators, read) = place-next rest next (sym told) in passed operators (sym lent-behind ∙ read)
          where
            made : (operators : List Operator) → operators_of known.front.states.sizes known.front.count bytes at ≡ got operators next → length operators ≡ known.front.count
                → AcceptedInto bytes words (begins operators) next (Ok accepted-counts) left
            made operators read long = record {
              at = at;
              counts = rw (known.variables, known.total, known.many, long) refl;
              operators = rw long read;
              header = header-words operators;
            }

            passed : (operators : List Operator) → behind kind bytes from known.front at wholly ≡ got operators next
                → JudgedInto (judged_by kind wholly bytes from) bytes words (Ok accepted-counts) left
            passed operators found =
                let all : judged_by kind wholly bytes from ≡ got (begins operators) next = judged-behind kind bytes from known.front at wholly known.read ∙ rw found in
                let read = rest-operators wholly known.front.states.sizes (listed known.front.pairs) known.front.states.start known.front.count bytes at operators next found in
                rw all (made operators read ((operators-said bytes known.front.states.sizes known.front.count).gives at operators next read).known.0)
