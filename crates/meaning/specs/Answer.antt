-- What each call answers, and what it leaves in the memory that it was lent. Each call is a relation; that it allows one outcome is proved.
use Rattle.std.specs.Prelude.{ℕ, suc, ◌<◌, ◌≡◌, ◌≢◌, ◌⊎◌, Bool, true, false, not, cond, List, [], ◌∷◌, ◌++◌, length, get_or, drop, eqb, leb, ltb}
use Rattle.meaning.specs.Sets.{Set, Slots, table, listed}
use Rattle.meaning.specs.Task.{Operator, Task, size}
use Rattle.meaning.specs.Feature.{features, parity}
use Rattle.meaning.specs.Pair.{idle, closed, holds}
use Rattle.meaning.specs.Slot.{SlotsOf, Stored}
use Rattle.meaning.specs.Weight.{Keeps, Allows, Meets, SeparatesBy, Separates, LeastOf}
use Rattle.meaning.specs.Number.{Reason, Range, Unordered, Held, Unclosed, Small, Malformed, refusal, Read, got, fault}
use Rattle.meaning.specs.File.{inside, Kind, plain, gapped, judged_task, judged_weights_as}
use Rattle.meaning.specs.Workspace.{Content, words_of, words_for, words_due, packed, WellFormed, content_of}

-- A result, or the paper's number of a refusal and "no other result".
pub data Answer (A : Type 0) : Type 0 where
  done : A → Answer A
  refused : ℕ → Answer A

-- An answer with the lent words or bytes as they are then.
pub record Outcome (A : Type 0) : Type 0 where
  pub answer : Answer A
  pub lent : List ℕ

-- "A refusal hands back its number, no other result, and every lent word and byte as it came."
abbrev pub refuses : {A : Type 0} → Reason → List ℕ → Outcome A
refuses reason lent = record { answer = refused (refusal reason); lent = lent }

-- What is due goes to the front; "words and bytes past what is due stay".
abbrev pub writes : {A : Type 0} → A → List ℕ → List ℕ → Outcome A
writes result due lent = record { answer = done result; lent = due ++ drop (length due) lent }

-- A call that writes a file: "all bytes of the file" are due, and "a written file's length is part of the result".
abbrev pub delivered : List ℕ → List ℕ → Outcome ℕ
delivered file room = cond (ltb (length room) (length file)) (refuses Small room) (writes (length file) file room)

-- By what was read: the value, or the reason of the first fault.
abbrev pub by_read : {A : Type 0} → Read A → (A → Type 0) → (Reason → Type 0) → Type 0
by_read (got a next) Good Bad = Good a
by_read (fault reason place) Good Bad = Bad reason

-- ---- the checker

-- "The checker's answers are: accepted; rejected, ends alike (judged first); rejected at operator j, the least, from 0."
pub data Verdict : Type 0 where
  accepted ends_alike : Verdict
  breaks : ℕ → Verdict

-- Operator j, the least, breaks the weights' parity, and the ends are not alike.
pub record Breaks (T : Task) (weights : Set) (j : ℕ) : Type 0 where
  pub ends : parity T.sizes weights T.start ≢ parity T.sizes weights T.goal
  pub counted : j < length T.operators
  pub busy : idle T.sizes (listed T.pairs) (get_or T.operators j []) ≡ false
  pub broken : Keeps T.sizes (listed T.pairs) weights (get_or T.operators j []) → ⊥
  pub earlier : (i : ℕ) → i < j → Allows T.sizes (listed T.pairs) weights (get_or T.operators i [])

-- The verdict on weights for an accepted task.
abbrev pub Judges : Task → Set → Verdict → Type 0
Judges T weights accepted = Separates T weights
Judges T weights ends_alike = parity T.sizes weights T.start ≡ parity T.sizes weights T.goal
Judges T weights (breaks j) = Breaks T weights j

-- "Weights are read after a fully accepted task." "Callers say which kind of weight file they send."
abbrev pub ChecksAs : Kind → Read Task → List ℕ → Answer Verdict → Type 0
ChecksAs kind judged weights answer =
    by_read judged
    (λ T. by_read (judged_weights_as kind (features T.sizes) weights)
    (λ ws. (v : Verdict) × (answer ≡ done v) × Judges T (listed ws) v)
    (λ reason. answer ≡ refused (refusal reason)))
    (λ reason. answer ≡ refused (refusal reason))

-- check(task, weights)
abbrev pub Checks : List ℕ → List ℕ → Answer Verdict → Type 0
Checks task = ChecksAs plain (judged_task task)

-- check_new(task, weights)
abbrev pub ChecksNew : List ℕ → List ℕ → Answer Verdict → Type 0
ChecksNew task = ChecksAs gapped (judged_task task)

-- ---- opening

-- The number of words due is the result; "room is too small when it is shorter than .. the whole workspace".
abbrev pub OpensAs : Read Task → List ℕ → Outcome ℕ → Type 0
OpensAs judged room outcome =
    by_read judged
    (λ T. let due = words_due (length T.sizes) (features T.sizes) in
    cond (ltb (length room) due)
    (outcome ≡ refuses Small room)
    ((slots : Slots)
    × SlotsOf (features T.sizes) (Meets T.sizes (listed T.pairs) T.operators) slots
    × (outcome ≡ writes due (words_of (content_of T slots)) room)))
    (λ reason. outcome ≡ refuses reason room)

-- open(task, room)
abbrev pub Opens : List ℕ → List ℕ → Outcome ℕ → Type 0
Opens task = OpensAs (judged_task task)

-- ---- finding

-- "'None' is no refusal."
pub data Finding : Type 0 where
  none separated : Finding

-- Weights separate a workspace's start from its goal, where its stored slots stand for the operators' conditions.
abbrev pub SeparatesIn : Content → Set → Type 0
SeparatesIn c = SeparatesBy (Stored (features c.sizes) c.slots) c.sizes c.start c.goal

-- "The finder's answer goes to the first W lent words, any others stay; on 'none' all stay as found."
abbrev pub FindsIn : Content → List ℕ → Outcome Finding → Type 0
FindsIn c room outcome =
    (((weights : Set) → SeparatesIn c weights → ⊥) × (outcome ≡ writes none [] room))
    ⊎ ((weights : Set)
    × LeastOf (features c.sizes) (SeparatesIn c) weights
    × (outcome ≡ writes separated (packed (features c.sizes) weights) room))

-- 8 even where the answer would be "none": "W words for a finder's answer even where that is 'none'".
abbrev pub FindsBy : Content → List ℕ → Outcome Finding → Type 0
FindsBy c room outcome =
    cond (ltb (length room) (words_for (features c.sizes))) (outcome ≡ refuses Small room) (FindsIn c room outcome)

-- find(workspace, room): 9, then 8.
abbrev pub Finds : List ℕ → List ℕ → Outcome Finding → Type 0
Finds workspace room outcome =
    ((WellFormed workspace → ⊥) × (outcome ≡ refuses Malformed room))
    ⊎ ((formed : WellFormed workspace) × FindsBy formed.content room outcome)

-- ---- edits

-- "An operator is held as one record of its entries": a count, and a list of variables, of before values and of after values.
pub record OperatorRecord : Type 0 where
  pub count : ℕ
  pub variables : List ℕ
  pub befores : List ℕ
  pub afters : List ℕ

-- The operator that a record holds: its entries below the count; a place past a list's end counts as 0.
unfoldable pub operator_in : OperatorRecord → Operator
operator_in r =
    table r.count
    (λ i. record { variable = get_or r.variables i 0; before = get_or r.befores i 0; after = get_or r.afters i 0 })

pub data Edit : Type 0 where
  add_operator : OperatorRecord → Edit
  replace_start replace_goal : List ℕ → Edit

-- What is wrong with an operand: the first fault, or nothing.
pub data Judged : Type 0 where
  fine : Judged
  faulty : Reason → Judged

abbrev pub need : Bool → Reason → Judged → Judged
need true reason rest = rest
need false reason rest = faulty reason

-- Entries "judged in file order": variable (range, then order), before, after.
unfoldable pub entries_judged : List ℕ → ℕ → Operator → Judged → Judged
entries_judged sizes least [] rest = rest
entries_judged sizes least (e ∷ es) rest =
    need (ltb e.variable (length sizes)) Range
    (need (leb least e.variable) Unordered
    (need (ltb e.before (size sizes e.variable)) Range
    (need (ltb e.after (size sizes e.variable)) Range (entries_judged sizes (suc e.variable) es rest))))

-- New values, each in its range.
unfoldable pub values_judged : List ℕ → List ℕ → Judged → Judged
values_judged [] values rest = rest
values_judged (d ∷ ds) [] rest = rest
values_judged (d ∷ ds) (x ∷ xs) rest = need (ltb x d) Range (values_judged ds xs rest)

-- "An edit's operand is one operator, judged in file order with record places past its count ignored, or v values, their length judged first.
-- .. A start edit may be refused 6, an operator edit 7."
abbrev pub edit_judged : Content → Edit → Judged
edit_judged c (add_operator r) =
    need (inside 1 (suc (length c.sizes)) r.count) Range
    (entries_judged c.sizes 0 (operator_in r) (need (closed c.sizes c.pairs (operator_in r)) Unclosed fine))
edit_judged c (replace_start values) =
    need (eqb (length values) (length c.sizes)) Range
    (values_judged c.sizes values (need (not (holds c.sizes c.pairs values)) Held fine))
edit_judged c (replace_goal values) =
    need (eqb (length values) (length c.sizes)) Range (values_judged c.sizes values fine)

-- What an accepted edit makes of the content: the stored slots' conditions and the new operator's have new slots; or new values.
abbrev pub Changes : Content → Edit → Content → Type 0
Changes c (add_operator r) c' =
    (slots : Slots)
    × SlotsOf (features c.sizes)
    (λ weights. Stored (features c.sizes) c.slots weights × Allows c.sizes c.pairs weights (operator_in r))
    slots
    × (c' ≡ record { sizes = c.sizes; start = c.start; goal = c.goal; pairs = c.pairs; slots = slots })
Changes c (replace_start values) c' =
    c' ≡ record { sizes = c.sizes; start = values; goal = c.goal; pairs = c.pairs; slots = c.slots }
Changes c (replace_goal values) c' =
    c' ≡ record { sizes = c.sizes; start = c.start; goal = values; pairs = c.pairs; slots = c.slots }

-- By the judgement of an operand: the change, or the refusal.
abbrev pub EditsIn : Judged → List ℕ → Content → Edit → Outcome (Unit {0}) → Type 0
EditsIn (faulty reason) workspace c edit outcome = outcome ≡ refuses reason workspace
EditsIn fine workspace c edit outcome = (c' : Content) × Changes c edit c' × (outcome ≡ writes tt (words_of c') workspace)

-- An edit of a workspace, which is the memory that it is lent: "9, then its operand".
abbrev pub Edits : List ℕ → Edit → Outcome (Unit {0}) → Type 0
Edits workspace edit outcome =
    ((WellFormed workspace → ⊥) × (outcome ≡ refuses Malformed workspace))
    ⊎ ((formed : WellFormed workspace) × EditsIn (edit_judged formed.content edit) workspace formed.content edit outcome)
