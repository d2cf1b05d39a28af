-- Sizes, start and goal as the code reads them: what is known after each of the three, and each state is read behind what was read before it.
use Rattle.std.specs.Prelude.{ℕ, ◌≡◌, refl, Result, Ok, length, get_or}
use Rattle.std.proofs.Common.{sym, ap, ◌∙◌, arith}
use mathlib.Core.List.{List, [], ◌++◌, append-nil, append_assoc}
use Rattle.std.proofs.Math.ListN.{length-append}
use Rattle.meaning.specs.Limits.{least_size, most_size}
use Rattle.meaning.specs.Task.{State, Run}
use Rattle.meaning.specs.Feature.{atoms, features}
use Rattle.meaning.specs.Number.{got}
use Rattle.meaning.specs.File.{Parser, give, then, Kind, header, values_of, InLimits}
use Rattle.meaning.specs.Workspace.{start_at, goal_at, pairs_at}
use Rattle.theory.specs.Spent.{Gives, gives_then, gives-map}
use Rattle.theory.specs.Numbering.{atoms-room}
use Rattle.theory.specs.Parts.{header-said, values-said, number-said, feature-list-said}
use Rattle.theory.specs.Contents.{sizes_in}
use Rattle.layout.specs.Parts.{sizes_part}
use Rattle.number.specs.declared.Fault.{Fault}
use Rattle.reader.specs.Answer.{written, begun, sized_words, ReadsInto, reads-map}
use Rattle.reader.specs.After.{After, after, begun_more}
use Rattle.reader.specs.Front.{started_with, start_of, start_words, States, states_with, states_of, state_words, Front, behind_states}

-- ---- what is read

start-said : (bytes : List ℕ) → Gives bytes start_of (λ started l. InLimits started.sizes × State started.sizes started.start)
unfolding start_of
start-said bytes = gives_then _ _ (header-said bytes) (λ sizes l h. gives-map (started_with sizes) _ (values-said bytes sizes) (λ start m g. (h.0, g.0)))

pub states-said : (bytes : List ℕ)
    → Gives bytes states_of (λ states l. InLimits states.sizes × State states.sizes states.start × State states.sizes states.goal)
unfolding states_of
states-said bytes = gives_then _ _ (start-said bytes) (λ started l h. gives-map (states_with started) _ (values-said bytes started.sizes) (λ goal m g. (h.0, h.1, g.0)))

-- What is known of a front behind its states, by its pairs.
pub behind-said : (kind : Kind) (bytes : List ℕ) (states : States) (Q : Front → Type 0)
    → ((pairs : List ℕ) (count : ℕ) → Run (atoms states.sizes) pairs (features states.sizes) → Q (record { states = states; pairs = pairs; count = count }))
    → Gives bytes (behind_states kind states) (λ front l. Q front)
unfolding behind_states
behind-said kind bytes states Q made = gives_then _ _ (feature-list-said bytes kind (atoms states.sizes) (features states.sizes) (atoms-room states.sizes)) (λ pairs l p.
    gives-map (λ count. record { states = states; pairs = pairs; count = count }) _ (number-said bytes) (λ count m c. made pairs count p.0))

-- ---- a state behind what was read before it

-- Sizes within the limits, and words that end where the next part begins.
abbrev pub Ends : {A : Type 0} → (A → List ℕ) → (A → List ℕ) → (ℕ → ℕ) → A → Type 0
Ends sizes words at a = InLimits (sizes a) × (length (words a) ≡ at (length (sizes a)))

module _ {A B : Type 0} (first : Parser A) (sizes words : A → List ℕ) (at : ℕ → ℕ) (made : A → List ℕ → B) (others : B → List ℕ)
    (are : (a : A) (state : List ℕ) → words a ++ state ≡ others (made a state)) where
  state-behind : (bytes : List ℕ) (from : ℕ) (old new : List ℕ) (next : ℕ) → After (first bytes from) (Ends sizes words at) sizes words old new next
      → (answer : Result ℕ Fault) (left : List ℕ) → ReadsInto (values_of (sizes_in new) bytes next) (written new (at (get_or new 0 0))) answer left
      → ReadsInto (then first (λ a. then (values_of (sizes a)) (λ state. give (made a state))) bytes from) (λ b. begun old (others b)) answer left
  state-behind bytes from old new next known answer left read =
      rw known.is (
      reads-map (values_of (sizes known.value) bytes next) (written new (at (get_or new 0 0))) (made known.value) (λ b. begun old (others b)) answer left
      (λ state after r. rw (known.count, known.are) (begun_more old (words known.value) state _ known.known.1) ∙ ap (begun old) (are known.value state))
      (rw known.same at read))

-- ---- after each part

-- The words of states end where the pairs begin.
pub states-end : (states : States) → length states.start ≡ length states.sizes → length states.goal ≡ length states.sizes → length (state_words states) ≡ pairs_at (length states.sizes)
unfolding state_words
states-end states h k = omega (arith, length-append states.sizes (states.start ++ states.goal), length-append states.start states.goal)

-- After sizes, start and goal, whatever reads them.
abbrev pub AfterStates : Parser States → List ℕ → ℕ → List ℕ → List ℕ → ℕ → Type 0
AfterStates read bytes from = After (read bytes from) (Ends (λ states. states.sizes) state_words pairs_at) (λ states. states.sizes) state_words

pub after-states : (read : Parser States) (bytes : List ℕ) (from : ℕ) (old left : List ℕ) (next : ℕ)
    → ((states : States) → read bytes from ≡ got states next → Ends (λ states. states.sizes) state_words pairs_at states)
    → ReadsInto (read bytes from) (λ states. begun old (state_words states)) (Ok next) left → AfterStates read bytes from old left next
unfolding state_words
after-states read bytes from old left next = after _ _ _ state_words (λ states. (states.start ++ states.goal, refl)) old left next

module _ (bytes : List ℕ) (from : ℕ) (old : List ℕ) where
  abbrev pub AfterSizes : List ℕ → ℕ → Type 0
  AfterSizes = After (header least_size most_size bytes from) (Ends (λ sizes. sizes) sized_words start_at) (λ sizes. sizes) sized_words old

  abbrev pub AfterStart : List ℕ → ℕ → Type 0
  AfterStart = After (start_of bytes from) (Ends (λ started. started.sizes) start_words goal_at) (λ started. started.sizes) start_words old

  module _ (left : List ℕ) (next : ℕ) where
    pub after-header : ReadsInto (header least_size most_size bytes from) (λ sizes. begun old (sized_words sizes)) (Ok next) left → AfterSizes left next
    after-header = after _ _ _ sized_words (λ sizes. ([], sym (append-nil (sized_words sizes)))) old left next
        (λ sizes r. (((header-said bytes).gives from sizes next r).known.0, omega arith))

    pub after-start : ReadsInto (start_of bytes from) (λ started. begun old (start_words started)) (Ok next) left → AfterStart left next
    unfolding start_words
    after-start = after _ _ _ start_words (λ started. (started.start, refl)) old left next
        (λ started r. let said = ((start-said bytes).gives from started next r).known in (said.0, omega (arith, length-append started.sizes started.start, said.1.full)))

    pub after-goal : ReadsInto (states_of bytes from) (λ states. begun old (state_words states)) (Ok next) left → AfterStates states_of bytes from old left next
    after-goal = after-states states_of bytes from old left next
        (λ states r. let said = ((states-said bytes).gives from states next r).known in (said.0, states-end states said.1.full said.2.full))

  module _ (new : List ℕ) (next : ℕ) where
    pub start-behind : AfterSizes new next → (answer : Result ℕ Fault) (left : List ℕ) → ReadsInto (values_of (sizes_in new) bytes next) (written new (start_at (get_or new 0 0))) answer left
        → ReadsInto (start_of bytes from) (λ started. begun old (start_words started)) answer left
    unfolding start_of start_words
    start-behind = state-behind (header least_size most_size) (λ sizes. sizes) sized_words start_at started_with start_words (λ sizes start. refl) bytes from old new next

    pub goal-behind : AfterStart new next → (v : ℕ) → v ≡ get_or new 0 0 → (answer : Result ℕ Fault) (left : List ℕ)
        → ReadsInto (values_of (sizes_part v new) bytes next) (written new (goal_at v)) answer left → ReadsInto (states_of bytes from) (λ states. begun old (state_words states)) answer left
    unfolding states_of start_words state_words sizes_in
    goal-behind known v e answer left read = state-behind start_of (λ started. started.sizes) start_words goal_at states_with state_words
        (λ started goal. append_assoc (sized_words started.sizes) started.start goal) bytes from old new next known answer left (rw e at read)
