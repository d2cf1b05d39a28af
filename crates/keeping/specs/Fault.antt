-- What keeps a list from being good: the least pair that the start holds, or the least unclosed pair of the first operator under which the list is not closed.
use Rattle.std.specs.Prelude.{ℕ, suc, ◌+◌, ◌-◌, ◌<◌, ◌≤◌, ◌≡◌, true, false, ◌&&◌, Option, Some, None, List, [], ◌∷◌, length, get_or, drop, ltb}
use Rattle.std.proofs.Common.{sym, ap, ◌∙◌, subst, arith, add-one, drop-cons, ltb-true, ltb-false}
use Rattle.std.proofs.Math.Path.{fun_ext}
use Rattle.meaning.specs.Sets.{Set, listed}
use Rattle.meaning.specs.Task.{Operator, Task, State}
use Rattle.meaning.specs.Feature.{atoms, features}
use Rattle.meaning.specs.Pair.{closed, unclosed_pair, holds, held_pair}
use Rattle.meaning.specs.Slot.{LeastMember}
use Rattle.meaning.specs.Number.{Reason, got, fault}
use Rattle.meaning.specs.File.{operator_of, operators_of}
use Rattle.meaning.specs.Workspace.{has}
use Rattle.meaning.specs.Mend.{Good, LeastHeld, LeastUnclosed}
use Rattle.theory.specs.Truth.{on, off, test, less, same, more, order}
use Rattle.theory.specs.Search.{and_both, and-none-right, some-not}
use Rattle.theory.specs.Flat.{in-get_d}
use Rattle.theory.specs.Reading.{not-got, got-value, got-next}
use Rattle.theory.specs.Parts.{operators-said}
use Rattle.theory.specs.Closed.{listed_unclosed, unclosed-above}
use Rattle.theory.specs.Mending.{holds-by-pairs, ReadAs}
use Rattle.operator.specs.Fold.{operators-apart, operators-fault}
use Rattle.pairs.specs.declared.PairAt.{PairAt}
use Rattle.pairs.specs.Walk.{place_in, Reached}
use Rattle.keeping.specs.declared.Broken.{Broken}
use Rattle.keeping.specs.declared.Fault.{Fault}
use Rattle.keeping.specs.declared.Fault.TheVariants.{Held, Unclosed}
use Rattle.keeping.specs.Standing.{standing, standing-unclosed}
use Rattle.keeping.specs.Pass.{OperatorsAt}

-- ---- what is found

-- The least member of a set; where there is none it has none below n.
abbrev pub FirstIn : ℕ → Set → Option ℕ → Type 0
FirstIn n a (Some r) = LeastMember r a
FirstIn n a None = (f : ℕ) → f < n → a f ≡ false

-- The least listed pair that is unclosed under an operator, if the list is not closed under it.
abbrev pub BrokenBy : List ℕ → List ℕ → Operator → Option ℕ → Type 0
BrokenBy sizes pairs o (Some r) = (closed sizes (has pairs) o ≡ false) × LeastMember r (listed_unclosed sizes (has pairs) o)
BrokenBy sizes pairs o None = closed sizes (has pairs) o ≡ true

-- The list is closed under the first k operators of a task.
abbrev pub ShutTo : Task → List ℕ → ℕ → Type 0
ShutTo T pairs k = (i : ℕ) → i < k → closed T.sizes (has pairs) (get_or T.operators i []) ≡ true

-- The first of a task's operators under which the list is not closed, with its pair, if there is one.
abbrev pub FirstBroken : Task → List ℕ → Option Broken → Type 0
FirstBroken T pairs (Some b) = (b.operator < length T.operators) × BrokenBy T.sizes pairs (get_or T.operators b.operator []) (Some b.pair) × ShutTo T pairs b.operator
FirstBroken T pairs None = ShutTo T pairs (length T.operators)

-- What the answer says.
abbrev pub FaultIs : Task → Option Fault → Type 0
FaultIs T None = Good T (listed T.pairs)
FaultIs T (Some (Held f)) = LeastHeld T f
FaultIs T (Some (Unclosed f j)) = LeastUnclosed T j f

-- ---- one operator

module _ (sizes pairs : List ℕ) (o : Operator) where
  -- What a walk over all pairs has not met is not there.
  pub passed : (next : Option PairAt) → Reached sizes pairs o (atoms sizes) next → (f : ℕ) → f < place_in sizes next → listed_unclosed sizes (has pairs) o f ≡ false
  passed next reached f l = elim (test (ltb f (atoms sizes))) [
    | on e ↦ and-none-right (has pairs f) _ (unclosed-above sizes (has pairs) o f (ltb-true f (atoms sizes) e))
    | off e ↦ reached.none f (ltb-false f (atoms sizes) e) l
  ]

  pub met : (pair : PairAt) → Reached sizes pairs o (atoms sizes) (Some pair) → unclosed_pair sizes (has pairs) o pair.feature ≡ true
      → LeastMember pair.feature (listed_unclosed sizes (has pairs) o)
  met pair reached told = record { member = and_both (has pairs pair.feature) _ reached.listed.listed told; first = passed (Some pair) reached }

-- What is unclosed under a state as an operator is what the state holds.
pub first-held : (sizes pairs state : List ℕ) (r : Option ℕ) (o : Operator) → State sizes state → o ≡ standing state → FirstIn (features sizes) (listed_unclosed sizes (has pairs) o) r
    → FirstIn (features sizes) (λ f. has pairs f && held_pair sizes state f) r
first-held sizes pairs state r o full is = subst (λ a. FirstIn (features sizes) a r)
    (fun_ext (λ f. ap (◌&&◌ (has pairs f)) (ap (λ p. unclosed_pair sizes (has pairs) p f) is ∙ standing-unclosed sizes state full (has pairs) f)))

-- ---- operator after operator

-- The list is closed under the first k operators of a task, and the others stand from a place on.
pub record ClosedTo (T : Task) (sizes bytes : List ℕ) (at many : ℕ) (stands : OperatorsAt T sizes bytes at many) (pairs : List ℕ) (k next : ℕ) : Type 0 where
  pub rest : operators_of T.sizes (many - k) bytes next ≡ got (drop k T.operators) stands.end
  pub shut : ShutTo T pairs k

module _ (T : Task) (sizes bytes : List ℕ) (at many : ℕ) (stands : OperatorsAt T sizes bytes at many) (pairs : List ℕ) where
  counted : length T.operators ≡ many
  counted = ((operators-said bytes T.sizes many).gives at T.operators stands.end stands.read).known.0

  -- Past the last one.
  pub none-broken : (k next : ℕ) → many ≤ k → ClosedTo T sizes bytes at many stands pairs k next → FirstBroken T pairs None
  none-broken k next l to = λ i h. to.shut i (omega (arith, counted))

  module _ (k next : ℕ) (to : ClosedTo T sizes bytes at many stands pairs k next) (further : k < many) where
    -- Operators that were read before can be read again.
    pub broken-never : (reason : Reason) (place : ℕ) → operator_of sizes bytes next ≡ fault reason place → ⊥
    broken-never reason place e = not-got (sym (operators-fault T.sizes bytes many k next _ place further (ap (λ s. operator_of s bytes next) (sym stands.sizes-are) ∙ e)) ∙ to.rest)

    module _ (o : Operator) (after : ℕ) (read : operator_of sizes bytes next ≡ got o after) where
      abbrev operator : Operator
      operator = get_or T.operators k []

      -- The operator at this turn.
      here : (o ≡ operator) × (operators_of T.sizes (many - (k + 1)) bytes after ≡ got (drop (k + 1) T.operators) stands.end)
      here =
          let left : many - k ≡ suc (many - (k + 1)) = omega arith in
          let split : drop k T.operators ≡ operator ∷ drop (suc k) T.operators = drop-cons T.operators k [] (omega (arith, counted)) in
          let (p, others, middle, apart, first, others-read) = operators-apart T.sizes bytes (many - (k + 1)) next (drop k T.operators) stands.end
          (ap (λ j. operators_of T.sizes j bytes next) (sym left) ∙ to.rest) in
          let read_same : got p middle ≡ got o after = sym first ∙ ap (λ s. operator_of s bytes next) (sym stands.sizes-are) ∙ read in
          let lists : p ∷ others ≡ operator ∷ drop (suc k) T.operators = sym apart ∙ split in
          let head : p ≡ operator = cc in
          let tail : others ≡ drop (suc k) T.operators = cc in (
            sym (got-value read_same) ∙ head,
            ap (operators_of T.sizes (many - (k + 1)) bytes) (sym (got-next read_same)) ∙ others-read ∙ ap (λ os. got os stands.end) (tail ∙ ap (λ j. drop j T.operators) (sym (add-one k))),
          )

      -- What was found of it.
      by : (r : Option ℕ) → BrokenBy sizes pairs o r → BrokenBy T.sizes pairs operator r
      by r turn = subst (λ s. BrokenBy s pairs operator r) stands.sizes-are (subst (λ p. BrokenBy sizes pairs p r) here.0 turn)

      pub closed-next : closed sizes (has pairs) o ≡ true → ClosedTo T sizes bytes at many stands pairs (k + 1) after
      closed-next e = record {
        rest = here.1;
        shut = λ i h. elim (order i k) [
          | less m ↦ to.shut i m
          | same q ↦ rw q (by None e)
          | more m ↦ absurd (omega arith)
        ];
      }

      pub broken-here : (r : ℕ) → BrokenBy sizes pairs o (Some r) → FirstBroken T pairs (Some (record { operator = k; pair = r }))
      broken-here r turn = (omega (arith, counted), by (Some r) turn, to.shut)

-- ---- the answer

module _ (T : Task) (bytes : List ℕ) (at many end : ℕ) (sizes start pairs : List ℕ) (read : ReadAs T bytes at many end sizes start (has pairs)) where
  pub stands-there : OperatorsAt T sizes bytes at many
  stands-there = record { known = read.known; sizes-are = read.sizes-are; end = end; read = read.operators }

  abbrev held : Set
  held f = has pairs f && held_pair sizes start f

  pub fault-held : (f : ℕ) → FirstIn (features sizes) held (Some f) → LeastHeld T f
  fault-held f first = rw (← read.sizes-are, ← read.start_is, ← read.pairs-are) first

  module _ (none : FirstIn (features sizes) held None) where
    free : holds T.sizes (listed T.pairs) T.start ≡ false
    free = holds-by-pairs T.sizes (listed T.pairs) T.start read.known.start
        ∙ rw (← read.sizes-are, ← read.start_is, ← read.pairs-are) (some-not (features sizes) held none)

    pub fault-unclosed : (b : Broken) → FirstBroken T pairs (Some b) → LeastUnclosed T b.operator b.pair
    fault-unclosed b (counts, broken, shut) = record {
      free = free;
      counted = counts;
      broken = rw (← read.pairs-are) broken.0;
      earlier = λ i k. rw (← read.pairs-are) (shut i k);
      least = rw (← read.pairs-are) broken.1;
    }

    pub fault-nothing : FirstBroken T pairs None → Good T (listed T.pairs)
    fault-nothing shut = record {
      closed-under = λ o m. let (i, k, q) = in-get_d T.operators o [] m in rw (← q, ← read.pairs-are) (shut i k);
      free = free;
    }
