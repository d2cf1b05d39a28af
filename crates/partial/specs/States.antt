-- Sizes, marks, start and goal as the code reads them: the marks go where the goal will stand, the start between them and the sizes, and the goal over the marks.
use Rattle.std.specs.Prelude.{ℕ, ◌+◌, ◌≤◌, ◌≡◌, Result, Ok, Err, get_or, take, drop}
use Rattle.std.proofs.Math.Path.{refl, sym, ap}
use Rattle.std.proofs.Common.{◌∙◌, add_assoc, arith, length-append, length-drop, take_at, drop_at, drop-drop, length-take-le}
use mathlib.Core.List.{List, [], ◌∷◌, ◌++◌, append-nil, append_assoc}
use Rattle.std.proofs.Math.ListN.{length, length-replicate}
use Rattle.std.proofs.Math.Seq.{take-append-add, drop-append-add, take-append_seam}
use Rattle.meaning.specs.Limits.{most_partial_size}
use Rattle.meaning.specs.Number.{got}
use Rattle.meaning.specs.File.{give, then, values_of}
use Rattle.meaning.specs.Workspace.{start_at, goal_at}
use Rattle.meaning.specs.Partial.{built_sizes, partial_header, marks_of, goal_of}
use Rattle.theory.specs.Contents.{sizes_in}
use Rattle.theory.specs.Parts.{values-said}
use Rattle.theory.specs.PartialPairs.{built-length, built-size}
use Rattle.theory.specs.PartialFile.{goal-said}
use Rattle.layout.specs.Parts.{sizes_part, goal_part}
use Rattle.number.specs.declared.Fault.{Fault}
use Rattle.numbering.specs.Sizes.{SmallSizes}
use Rattle.reader.specs.Answer.{written, begun, sized_words, ReadsInto, reads-next, reads-map, reads-unread}
use Rattle.reader.specs.After.{After, after, sizes_begin}
use Rattle.reader.specs.Header.{Within}
use Rattle.reader.specs.Front.{States, state_words}
use Rattle.reader.specs.States.{Ends, AfterStates, after-states, states-end}
use Rattle.partial.specs.Front.{marked_with, marked_of, named_with, partial_states_of, sized-limits, sizes-said, marked-said, partial-states-said}

-- The sizes of the built task are small.
pub built-small : (sizes : List ℕ) → Within most_partial_size sizes → SmallSizes (built_sizes sizes)
built-small sizes known = record {
  few = rw (built-length sizes) known.few;
  small = λ i l. let k = rw (built-length sizes) at l in rw (built-size sizes i k) (omega (arith, known.small i k));
}

-- ---- values written with a gap before them, which is filled then

with-gap : (front rest values : List ℕ) (k place : ℕ) → length front + k ≡ place → written (front ++ rest) place values ≡ front ++ (take k rest ++ (values ++ drop (k + length values) rest))
with-gap front rest values k place e = rw (← e, take-append-add front rest k, add_assoc (length front) k (length values), drop-append-add front rest (k + length values))
    (append_assoc front (take k rest) (values ++ drop (k + length values) rest))

-- A part is written over with as many values.
part-over : (front part more values : List ℕ) (place : ℕ) → length front ≡ place → length part ≡ length values → written (front ++ (part ++ more)) place values ≡ front ++ (values ++ more)
part-over front part more values place e f =
    rw (← e, take-append_seam front (part ++ more), drop-append-add front (part ++ more) (length values), drop_at part more (length values) f) refl

-- Marks, and then the start in the gap.
gap-filled : (old front marks start : List ℕ) (from place : ℕ) → length front ≡ from → length front + length start ≡ place → place ≤ length old
    → written (written (begun old front) place marks) from start ≡ begun old (front ++ (start ++ marks))
gap-filled old front marks start from place e f room =
    let k = length start in
    let rest = drop (length front) old in
    let more = marks ++ drop (k + length marks) rest in
    let gap : length (take k rest) ≡ k = length-take-le k rest (omega (arith, length-drop (length front) old)) in
    let left = drop (length front + (k + length marks)) old in
    let last : front ++ (start ++ more) ≡ begun old (front ++ (start ++ marks)) = rw (drop-drop (k + length marks) (length front) old, length-append front (start ++ marks), length-append start marks)
    (sym (append_assoc front (start ++ marks) left ∙ ap (◌++◌ front) (append_assoc start marks left))) in
    ap (λ l. written l from start) (with-gap front rest marks k place f) ∙ part-over front (take k rest) more start from e gap ∙ last

-- The sizes before the gap are left as they were.
sizes-left : (sizes rest marks left : List ℕ) (v place : ℕ) → length sizes ≡ v → length (sized_words sizes) + v ≡ place → left ≡ written (sized_words sizes ++ rest) place marks → sizes_part v left ≡ sizes
unfolding sizes_in
sizes-left sizes rest marks left v place many e w =
    let same = sizes_begin sizes _ left (w ∙ with-gap (sized_words sizes) rest marks v place e) in
    rw (sym many ∙ sym same.0) same.1

-- What stands before the marks, the marks, and what stands behind them.
module _ (old : List ℕ) (marked : States) where
  abbrev before : List ℕ
  before = length marked.sizes ∷ (marked.sizes ++ marked.start)

  abbrev rest : List ℕ
  rest = drop (length (state_words marked)) old

  apart : (goal more : List ℕ) → state_words (named_with marked goal) ++ more ≡ before ++ (goal ++ more)
  unfolding state_words
  apart goal more = ap (λ l. length marked.sizes ∷ l) (append_assoc marked.sizes (marked.start ++ goal) more ∙ ap (◌++◌ marked.sizes) (append_assoc marked.start goal more)
      ∙ sym (append_assoc marked.sizes marked.start (goal ++ more)))

  module _ (v : ℕ) (many : length marked.sizes ≡ v) (full : length marked.start ≡ v) (each : length marked.goal ≡ v) where
    ends : length before ≡ goal_at v
    ends = omega (arith, many, full, length-append marked.sizes marked.start)

    marks-part : goal_part v (begun old (state_words marked)) ≡ marked.goal
    marks-part = rw (apart marked.goal rest, drop_at before (marked.goal ++ rest) (goal_at v) ends) (take_at marked.goal rest v each)

    -- The goal is written over them.
    goal-over : (goal : List ℕ) → length goal ≡ v → written (begun old (state_words marked)) (goal_at v) goal ≡ begun old (state_words (named_with marked goal))
    goal-over goal e =
        let same : length (state_words marked) ≡ length (state_words (named_with marked goal)) = states-end marked (full ∙ sym many) (each ∙ sym many)
        ∙ sym (states-end (named_with marked goal) (full ∙ sym many) (e ∙ sym many)) in
        ap (λ l. written l (goal_at v) goal) (apart marked.goal rest) ∙ part-over before marked.goal rest goal (goal_at v) ends (each ∙ sym e)
        ∙ ap (λ k. before ++ (goal ++ drop k old)) same ∙ sym (apart goal (drop (length (state_words (named_with marked goal))) old))

-- ---- after the sizes

module _ (bytes : List ℕ) (from : ℕ) (old : List ℕ) where
  abbrev pub AfterLimited : List ℕ → ℕ → Type 0
  AfterLimited = After (partial_header bytes from) (Ends (λ sizes. sizes) sized_words start_at) (λ sizes. sizes) sized_words old

  pub after-limited : (left : List ℕ) (next : ℕ) → ReadsInto (partial_header bytes from) (λ sizes. begun old (sized_words sizes)) (Ok next) left → AfterLimited left next
  after-limited left next = after _ _ _ sized_words (λ sizes. ([], sym (append-nil (sized_words sizes)))) old left next
      (λ sizes r. (sized-limits sizes ((sizes-said bytes).gives from sizes next r).known, omega arith))

  -- ---- marks and start

  module _ (new : List ℕ) (next : ℕ) (known : AfterLimited new next) (v : ℕ) (count : v ≡ get_or new 0 0) where
    many : length known.value ≡ v
    many = sym (count ∙ known.count)

    marked-rest : marked_of bytes from ≡ then (marks_of v) (λ marks. then (values_of known.value) (λ start. give (marked_with known.value marks start))) bytes next
    unfolding marked_of
    marked-rest = rw (known.is, many) refl

    module _ (answer : Result ℕ Fault) (left : List ℕ) (read : ReadsInto (marks_of v bytes next) (written new (goal_at v)) answer left) where
      pub marks-unread : (f : Fault) → answer ≡ Err f → ReadsInto (marked_of bytes from) (λ marked. begun old (state_words marked)) (Err f) left
      marks-unread f e = rw marked-rest (reads-unread (marks_of v bytes next) (written new (goal_at v)) _ _ answer f left read e)

      pub start-behind : (after : ℕ) → answer ≡ Ok after → goal_at v ≤ length old → (last : Result ℕ Fault) (final : List ℕ)
          → ReadsInto (values_of (sizes_part v left) bytes after) (written left (start_at v)) last final → ReadsInto (marked_of bytes from) (λ marked. begun old (state_words marked)) last final
      unfolding state_words
      start-behind after e room last final reads = let (marks, r, w) = reads-next (marks_of v bytes next) (written new (goal_at v)) answer after left read e in
          made marks r (w ∙ ap (λ l. written l (goal_at v) marks) known.are)
        where
          made : (marks : List ℕ) → marks_of v bytes next ≡ got marks after → left ≡ written (begun old (sized_words known.value)) (goal_at v) marks
              → ReadsInto (marked_of bytes from) (λ marked. begun old (state_words marked)) last final
          made marks r w =
              let sizes = known.value in
              let kept : sizes_part v left ≡ known.value = sizes-left known.value _ marks left v (goal_at v) many (omega (arith, many)) w in
              rw (marked-rest, r) (
              reads-map (values_of sizes bytes after) (written left (start_at v)) (marked_with sizes marks) (λ marked. begun old (state_words marked)) last final
              (λ start end q. ap (λ l. written l (start_at v) start) w ∙ gap-filled old (sized_words sizes) marks start (start_at v) (goal_at v) (omega (arith, many))
              (omega (arith, many, ((values-said bytes sizes).gives after start end q).known.0.full)) room)
              (rw kept at reads))

  -- ---- the goal over the marks

  module _ (left : List ℕ) (next : ℕ) where
    pub after-marked : ReadsInto (marked_of bytes from) (λ marked. begun old (state_words marked)) (Ok next) left → AfterStates marked_of bytes from old left next
    after-marked = after-states marked_of bytes from old left next (λ marked r.
        let said = ((marked-said bytes).gives from marked next r).known in
        (sized-limits _ said.0, states-end marked said.1.full (said.2.full ∙ length-replicate (length marked.sizes) 2)))

    pub after-goal : ReadsInto (partial_states_of bytes from) (λ states. begun old (state_words states)) (Ok next) left → AfterStates partial_states_of bytes from old left next
    after-goal = after-states partial_states_of bytes from old left next (λ states r.
        let said = ((partial-states-said bytes).gives from states next r).known in
        (sized-limits _ said.0, states-end states said.1.full (said.2.full ∙ built-length states.sizes)))

  pub goal-behind : (new : List ℕ) (next : ℕ) → AfterStates marked_of bytes from old new next → (v : ℕ) → v ≡ get_or new 0 0 → (answer : Result ℕ Fault) (left : List ℕ)
      → ReadsInto (goal_of (sizes_part v new) (goal_part v new) bytes next) (written new (goal_at v)) answer left
      → ReadsInto (partial_states_of bytes from) (λ states. begun old (state_words states)) answer left
  unfolding partial_states_of sizes_in
  goal-behind new next known v count answer left read =
      let marked = known.value in
      let said = ((marked-said bytes).gives from known.value next known.is).known in
      let many : length known.value.sizes ≡ v = sym (count ∙ known.count) in
      let full : length known.value.start ≡ v = said.1.full ∙ many in
      let each : length known.value.goal ≡ v = said.2.full ∙ length-replicate (length known.value.sizes) 2 ∙ many in
      let sizes-are : sizes_part v new ≡ known.value.sizes = rw count known.same in
      let marks-are : goal_part v new ≡ known.value.goal = ap (goal_part v) known.are ∙ marks-part old known.value v many full each in
      rw known.is (
      reads-map (goal_of marked.sizes marked.goal bytes next) (written new (goal_at v)) (named_with marked) (λ states. begun old (state_words states)) answer left
      (λ goal after r. ap (λ l. written l (goal_at v) goal) known.are ∙ goal-over old marked v many full each goal
      (((goal-said bytes marked.sizes marked.goal said.2).gives next goal after r).known.0.full ∙ built-length marked.sizes ∙ many))
      (rw (sizes-are, marks-are) at read))
