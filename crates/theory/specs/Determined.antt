-- Each call of the library and the program has one outcome: two that its relation allows for the same input are equal.
use Rattle.std.specs.Prelude.{ℕ, ◌<◌, ◌≡◌, refl, ◌⊎◌, Bool, true, false, ◌||◌, cond, List, [], ◌∷◌, ltb, length, get_or}
use Rattle.std.proofs.Common.{ap, ap₂, sym, ◌∙◌, subst, inl, inr, le_antisymm}
use Rattle.std.proofs.Math.Logic.Iff
use Rattle.meaning.specs.Sets.{Set, listed}
use Rattle.meaning.specs.Limits.{most_input, fault_words}
use Rattle.meaning.specs.Task.{Task}
use Rattle.meaning.specs.Feature.{features}
use Rattle.meaning.specs.Pair.{holds}
use Rattle.meaning.specs.Weight.{LeastOf, Separates}
use Rattle.meaning.specs.Number.{Reason, Small, Malformed, refusal, Read, got, fault}
use Rattle.meaning.specs.File.{task_of, judged_as, judged_task, Kind, other, kind_of, judged_weights_as, weight_bytes, task_bytes_as}
use Rattle.meaning.specs.Workspace.{Content, words_of, words_for, words_due, WellFormed, content_of}
use Rattle.meaning.specs.Answer.{Outcome, done, refused, refuses, writes, delivered, by_read, accepted, ends_alike, breaks, Breaks, Judges, ChecksAs, OpensAs}
use Rattle.meaning.specs.Answer.{separated, FindsIn, FindsBy, Finds, Edit, add_operator, replace_start, replace_goal, Judged, fine, faulty, edit_judged, Changes, EditsIn, Edits}
use Rattle.meaning.specs.Bay.{Builds, judged_bay}
use Rattle.meaning.specs.Partial.{Partial, judged_partial, BuildsBy, Silences}
use Rattle.meaning.specs.Mend.{Good, Dropped, mended, Mends, Drops, start_holds, operator_breaks, LeastHeld, LeastUnclosed, FindsFault, FaultsPairs}
use Rattle.meaning.specs.Convert.{Converts, ConvertsWeights}
use Rattle.meaning.specs.Line.{nothing, separating, Seeks, Says, too_large, Prints}
use Rattle.theory.specs.Truth.{clash, Order, less, same, more, order}
use Rattle.theory.specs.Flat.{flat-cong, get_d-in}
use Rattle.theory.specs.Run.{members, members-listed}
use Rattle.theory.specs.Slots.{least-same}
use Rattle.theory.specs.SlotsOf.{slots-only}
use Rattle.theory.specs.Whole.{whole_same}
use Rattle.theory.specs.Words.{packed-cong}
use Rattle.theory.specs.Contents.{formed-only, with_slots}
use Rattle.theory.specs.Mending.{held-holds, largest-only, dropped-only}

-- ---- how such statements are put together

-- A statement that holds of one thing at most.
abbrev pub AtMostOne : {A : Type 0} → (A → Type 0) → Type 0
AtMostOne {A} P = (a b : A) → P a → P b → a ≡ b

-- Two things that both equal a third.
pub is-only : {A : Type 0} (c : A) → AtMostOne (λ a. a ≡ c)
is-only c a b e e' = e ∙ sym e'

pub if-only : {A : Type 0} (t : Bool) (P Q : A → Type 0) → AtMostOne P → AtMostOne Q → AtMostOne (λ a. cond t (P a) (Q a))
if-only true P Q p q = p
if-only false P Q p q = q

-- A fault fixes the outcome, and so does whatever is read.
pub read_only : {A B : Type 0} (read : Read B) (P : B → A → Type 0) (bad : Reason → A) → ((b : B) → AtMostOne (P b)) → AtMostOne (λ a. by_read read (λ b. P b a) (λ reason. a ≡ bad reason))
read_only (got b next) P bad only = only b
read_only (fault reason place) P bad only = is-only (bad reason)

-- A workspace that is not well formed fixes the outcome, and so does the one content of a workspace that is.
pub formed-or : {A : Type 0} (workspace : List ℕ) (P : Content → A → Type 0) (bad : A) → ((c : Content) → AtMostOne (P c))
    → AtMostOne (λ a. ((WellFormed workspace → ⊥) × (a ≡ bad)) ⊎ ((formed : WellFormed workspace) × P formed.content a))
formed-or workspace P bad only a b (inl h) (inl h') = h.1 ∙ sym h'.1
formed-or workspace P bad only a b (inl h) (inr h') = absurd (h.0 h'.0)
formed-or workspace P bad only a b (inr h) (inl h') = absurd (h'.0 h.0)
formed-or workspace P bad only a b (inr h) (inr h') = only h.0.content a b h.1 (subst (λ c. P c b) (formed-only h'.0 h.0) h'.1)

-- ---- the checker

not-both : (T : Task) (weights : Set) (j : ℕ) → Separates T weights → Breaks T weights j → ⊥
not-both T weights j s b = b.broken (s.keeps (get_or T.operators j []) (get_d-in T.operators j [] b.counted) b.busy)

pub verdict-only : (T : Task) (weights : Set) → AtMostOne (Judges T weights)
verdict-only T weights accepted accepted h h' = refl
verdict-only T weights accepted ends_alike h h' = absurd (h.ends h')
verdict-only T weights accepted (breaks j) h h' = absurd (not-both T weights j h h')
verdict-only T weights ends_alike accepted h h' = absurd (h'.ends h)
verdict-only T weights ends_alike ends_alike h h' = refl
verdict-only T weights ends_alike (breaks j) h h' = absurd (h'.ends h)
verdict-only T weights (breaks j) accepted h h' = absurd (not-both T weights j h' h)
verdict-only T weights (breaks j) ends_alike h h' = absurd (h.ends h')
verdict-only T weights (breaks j) (breaks k) h h' = elim (order j k) [
  | less l ↦ absurd (h.broken (h'.earlier j l h.busy))
  | same q ↦ ap breaks q
  | more l ↦ absurd (h'.broken (h.earlier k l h'.busy))
]

-- Whatever file the task was read from.
pub checks-only : (kind : Kind) (judged : Read Task) (weights : List ℕ) → AtMostOne (ChecksAs kind judged weights)
checks-only kind judged weights = read_only judged _ (λ reason. refused (refusal reason))
    (λ T. read_only (judged_weights_as kind (features T.sizes) weights) _ (λ reason. refused (refusal reason))
    (λ ws a b h h'. h.1 ∙ ap done (verdict-only T (listed ws) h.0 h'.0 h.2 h'.2) ∙ sym h'.1))

-- ---- opening

pub opens-only : (judged : Read Task) (room : List ℕ) → AtMostOne (OpensAs judged room)
opens-only judged room = read_only judged _ (λ reason. refuses reason room)
    (λ T. let due = words_due (length T.sizes) (features T.sizes) in
    if-only (ltb (length room) due) _ _ (is-only (refuses Small room))
    (λ a b h h'. h.2
    ∙ ap (λ slots. writes due (words_of (content_of T slots)) room) (slots-only _ _ _ h.0 h'.0 (λ w. Iff.rfl) h.1 h'.1)
    ∙ sym h'.2))

-- ---- finding

-- Two least sets agree below n.
pub least-agree : (n : ℕ) (Good : Set → Type 0) (a b : Set) → LeastOf n Good a → LeastOf n Good b → (f : ℕ) → f < n → a f ≡ b f
least-agree n Good a b h h' = whole_same n a b (le_antisymm (h.least b h'.good) (h'.least a h.good))

pub finds-in-only : (c : Content) (room : List ℕ) → AtMostOne (FindsIn c room)
finds-in-only c room a b (inl h) (inl h') = h.1 ∙ sym h'.1
finds-in-only c room a b (inl h) (inr h') = absurd (h.0 h'.0 h'.1.good)
finds-in-only c room a b (inr h) (inl h') = absurd (h'.0 h.0 h.1.good)
finds-in-only c room a b (inr h) (inr h') = h.2
    ∙ ap (λ words. writes separated words room) (packed-cong (features c.sizes) h.0 h'.0 (least-agree _ _ h.0 h'.0 h.1 h'.1))
    ∙ sym h'.2

pub finds-only : (workspace room : List ℕ) → AtMostOne (Finds workspace room)
finds-only workspace room = formed-or workspace (λ c. FindsBy c room) (refuses Malformed room)
    (λ c. if-only (ltb (length room) (words_for (features c.sizes))) _ _ (is-only (refuses Small room)) (finds-in-only c room))

-- ---- edits

pub changes-only : (c : Content) (edit : Edit) → AtMostOne (Changes c edit)
changes-only c (add_operator r) a b h h' = h.2 ∙ ap (with_slots c) (slots-only _ _ _ h.0 h'.0 (λ w. Iff.rfl) h.1 h'.1) ∙ sym h'.2
changes-only c (replace_start values) a b h h' = h ∙ sym h'
changes-only c (replace_goal values) a b h h' = h ∙ sym h'

pub edits-in-only : (judged : Judged) (workspace : List ℕ) (c : Content) (edit : Edit) → AtMostOne (EditsIn judged workspace c edit)
edits-in-only (faulty reason) workspace c edit a b h h' = h ∙ sym h'
edits-in-only fine workspace c edit a b h h' = h.2 ∙ ap (λ c'. writes tt (words_of c') workspace) (changes-only c edit h.0 h'.0 h.1 h'.1) ∙ sym h'.2

pub edits-only : (workspace : List ℕ) (edit : Edit) → AtMostOne (Edits workspace edit)
edits-only workspace edit = formed-or workspace _ (refuses Malformed workspace) (λ c. edits-in-only (edit_judged c edit) workspace c edit)

-- ---- calls that write a file

-- What was read fixes the outcome: `build`, `build_partial` and `build_partial_lean`, `silence`, and the calls that convert a file.
pub writes-only : {A : Type 0} (read : Read A) (due : A → Outcome ℕ) (room : List ℕ)
    → AtMostOne (λ outcome. by_read read (λ a. outcome ≡ due a) (λ reason. outcome ≡ refuses reason room))
writes-only read due room = read_only read _ (λ reason. refuses reason room) (λ a. is-only (due a))

pub builds-only : (bay room : List ℕ) → AtMostOne (Builds bay room)
builds-only bay room = writes-only (judged_bay bay) _ room

pub builds-by-only : (out : Partial → ℕ → ℕ → Bool) (file room : List ℕ) → AtMostOne (BuildsBy out file room)
builds-by-only out file room = writes-only (judged_partial out file) _ room

pub silences-only : (task marks room : List ℕ) → AtMostOne (Silences task marks room)
silences-only task marks room = writes-only (judged_task task) _ room

pub converts-only : (kind : Kind) (task room : List ℕ) → AtMostOne (Converts kind task room)
converts-only kind task room = writes-only (judged_as (other kind) task) _ room

pub converts-weights-only : (kind : Kind) (task weights room : List ℕ) → AtMostOne (ConvertsWeights kind task weights room)
converts-weights-only kind task weights room = read_only (judged_task task) _ (λ reason. refuses reason room)
    (λ T. writes-only (judged_weights_as (other kind) (features T.sizes) weights) _ room)

-- ---- pair lists made by hand

pub mends-only : (task room : List ℕ) → AtMostOne (Mends task room)
mends-only task room = read_only (task_of task 0) _ (λ reason. refuses reason room)
    (λ T a b h h'. h.2 ∙ ap (λ kept. delivered (task_bytes_as (kind_of task 0) (mended T kept)) room) (largest-only T h.0 h'.0 h.1 h'.1) ∙ sym h'.2)

pub drops-only : (task room : List ℕ) → AtMostOne (Drops task room)
drops-only task room = read_only (task_of task 0) _ (λ reason. refuses reason room)
    (λ T a b h h'. let kept = largest-only T h'.0 h.0 h'.2 h.2 in
    h.4 ∙ ap (λ dropped. delivered (weight_bytes dropped) room) (dropped-only T h.0 h.1 h'.1 h.3 (subst (λ l. Dropped T l h'.1) kept h'.3)) ∙ sym h'.4)

-- A start that holds a listed pair is not free of them.
held-not-free : (T : Task) (f : ℕ) → LeastHeld T f → holds T.sizes (listed T.pairs) T.start ≡ false → ⊥
held-not-free T f h free = clash (held-holds T.sizes (listed T.pairs) T.start f h.member) free

-- A good list is closed under every operator, so none is named.
good-not-broken : (T : Task) (j f : ℕ) → Good T (listed T.pairs) → LeastUnclosed T j f → ⊥
good-not-broken T j f good h = clash (good.closed-under (get_or T.operators j []) (get_d-in T.operators j [] h.counted)) h.broken

pub fault-only : (T : Task) (room : List ℕ) → AtMostOne (FindsFault T room)
fault-only T room a b (inl h) (inl h') = h.1 ∙ sym h'.1
fault-only T room a b (inl h) (inr (inl h')) = absurd (held-not-free T h'.0 h'.1 h.0.free)
fault-only T room a b (inl h) (inr (inr h')) = absurd (good-not-broken T h'.1 h'.0 h.0 h'.2)
fault-only T room a b (inr (inl h)) (inl h') = absurd (held-not-free T h.0 h.1 h'.0.free)
fault-only T room a b (inr (inl h)) (inr (inl h')) = h.2 ∙ ap (λ f. writes start_holds (f ∷ []) room) (least-same _ h.0 h'.0 h.1 h'.1) ∙ sym h'.2
fault-only T room a b (inr (inl h)) (inr (inr h')) = absurd (held-not-free T h.0 h.1 h'.2.free)
fault-only T room a b (inr (inr h)) (inl h') = absurd (good-not-broken T h.1 h.0 h'.0 h.2)
fault-only T room a b (inr (inr h)) (inr (inl h')) = absurd (held-not-free T h'.0 h'.1 h.2.free)
fault-only T room a b (inr (inr h)) (inr (inr h')) = h.3 ∙ by (order h.1 h'.1) ∙ sym h'.3
  where
    by : Order h.1 h'.1 → writes operator_breaks (h.0 ∷ h.1 ∷ []) room ≡ writes operator_breaks (h'.0 ∷ h'.1 ∷ []) room
    by (less l) = absurd (clash (h'.2.earlier h.1 l) h.2.broken)
    by (same q) = ap₂ (λ f j. writes operator_breaks (f ∷ j ∷ []) room) (least-same _ h.0 h'.0 h.2.least (rw (← q) at h'.2.least)) q
    by (more l) = absurd (clash (h.2.earlier h'.1 l) h'.2.broken)

pub faults-only : (task room : List ℕ) → AtMostOne (FaultsPairs task room)
faults-only task room = read_only (task_of task 0) _ (λ reason. refuses reason room)
    (λ T. if-only (ltb (length room) fault_words) _ _ (is-only (refuses Small room)) (fault-only T room))

-- ---- the program

pub seeks-only : (T : Task) → AtMostOne (Seeks T)
unfolding members
seeks-only T nothing nothing h h' = refl
seeks-only T nothing (separating l) h h' = absurd (h (listed l) h'.1.good)
seeks-only T (separating l) nothing h h' = absurd (h' (listed l) h.1.good)
seeks-only T (separating l) (separating m) h h' = ap separating (sym (members-listed 0 (features T.sizes) l h.0)
    ∙ flat-cong _ _ _ (λ f k. ap (λ b. cond b (f ∷ []) []) (least-agree _ _ (listed l) (listed m) h.1 h'.1 f k))
    ∙ members-listed 0 (features T.sizes) m h'.0)

pub says-only : (task : List ℕ) → AtMostOne (Says task)
says-only task = read_only (judged_task task) _ (λ reason. refused (refusal reason))
    (λ T a b h h'. h.1 ∙ ap done (seeks-only T h.0 h'.0 h.2 h'.2) ∙ sym h'.1)

pub prints-only : (input : List ℕ) → AtMostOne (Prints input)
prints-only input = if-only (ltb most_input (length input) || too_large (judged_task input)) _ _ (is-only (refused (refusal Small))) (says-only input)
