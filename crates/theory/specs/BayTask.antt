-- The task of a bay keeps every rule of tasks, over any relation that sets no slot beside itself; so what a bay file says can be written.
use Rattle.std.specs.Prelude.{ℕ, zero, suc, ◌-◌, ◌*◌, ◌<◌, ◌≤◌, ◌≡◌, ◌≢◌, ◌↔◌, Bool, ◌&&◌, ◌||◌, cond, length, eqb, leb, ltb}
use Rattle.std.proofs.Math.Path.{refl, subst}
use Rattle.std.proofs.Common.{ap, sym, ◌∙◌, arith, le_trans}
use Rattle.std.proofs.Math.Logic.{inl, inr}
use Rattle.std.proofs.Math.Bool.{true, false, not, or-false}
use mathlib.Core.List.{List, [], Memᴰ as In}
use Rattle.std.proofs.lemmas.List.{length-replicate}
use borrow.Author.Tests.{eqb-true, eqb-false, ne_eqb, lt-ltb, le-ltb, ltb-true, ltb-false}
use Rattle.meaning.specs.Sets.{some, every, any_of, two_of, listed}
use Rattle.meaning.specs.Limits.{least_side, most_side, least_slots, most_slots, most_features, number_end}
use Rattle.meaning.specs.Task.{Operator, State, IsOperator, names, value, size}
use Rattle.meaning.specs.Feature.{sum_of, pairs_of, atoms, features}
use Rattle.meaning.specs.Pair.{paired, possible, stuck, idle, clashing_after, uncovered, closed, holds}
use Rattle.meaning.specs.Number.{Limit, Gaps, Unequal, Read, got, numbers_on}
use Rattle.meaning.specs.File.{give, then, judged_task, task_bytes, inside, limited, InLimits, Writable}
use Rattle.meaning.specs.Weight.{Unsolvable}
use Rattle.meaning.specs.Bay.{Move, Step, SameLabels, Bay, slot_count, side, sides_of, bay_of, one_gap, equal_lots, judged_lots, judged_bay, occurs_in, once_in, neighbours, bay_task, bay_sizes}
use Rattle.meaning.specs.Bay.{occurrences, exchange, slide, bay_operators, bay_pairs, task_for}
use Rattle.theory.specs.Truth.{on, off, test, less, same, more, order}
use Rattle.theory.specs.Search.{and_left, and_right, every-at, and-none-right, or_right, or-none-left, or-none-right, some_at, some-not, any-not}
use Rattle.theory.specs.Flat.{in_two, flat-few}
use Rattle.theory.specs.Tells.{tells-every, tells-and, tells-le, tells-lt}
use Rattle.theory.specs.Reading.{got-value, on-got, test-passed}
use Rattle.theory.specs.Spent.{Gives, gives-known, gives_then, gives-map, gives-tested, gives-ended}
use Rattle.theory.specs.Parts.{item-said, values-said}
use Rattle.theory.specs.ReadBack.{read_back}
use Rattle.theory.specs.BayMoves.{same-moves, Moves, moves-plan, plan-moves, neighbours-apart, labels-same, bay-size, bay-below, bay-length, bay-value, one_only, occurrences-get, Slide, operator-slide}
use Rattle.theory.specs.BayPairs.{pairs-run, paired-bay}

-- ---- limits

-- A list on a condition is no longer than the list.
length-when : {A : Type 0} (b : Bool) (l : List A) → length (cond b l []) ≤ length l
length-when true l = omega arith
length-when false l = omega arith

-- How many operators a bay has at most, whatever its neighbour relation.
abbrev pub most_operators : ℕ → ℕ
most_operators n = n * (n * ((n - 1) * 1))

pub operators-most : (n : ℕ) (near : ℕ → ℕ → Bool) (occurs : ℕ → Bool) → length (bay_operators n near occurs) ≤ most_operators n
unfolding bay_operators
operators-most n near occurs = flat-few n _ _ (λ p l. flat-few n _ _ (λ q k. le_trans (length-when (near p q) _) (flat-few (n - 1) 1 _ (λ t h. length-when (occurs (suc t)) _))))

-- Every bay with slots within the limit has features and operators within theirs: by computing.
bay-room : (n : ℕ) → n ≤ most_slots → (features (bay_sizes n) ≤ most_features) × (most_operators n < number_end)
unfolding every features atoms sum_of pairs_of
bay-room n h = (tells-every (suc most_slots) (λ k. leb (features (bay_sizes k)) most_features && ltb (most_operators k) number_end) _
    (λ k l. tells-and (tells-le (features (bay_sizes k)) most_features) (tells-lt (most_operators k) number_end))).yes refl n (omega arith)

-- So its operators can be counted in a file.
pub operators-countable : (n : ℕ) (near : ℕ → ℕ → Bool) (occurs : ℕ → Bool) → n ≤ most_slots → length (bay_operators n near occurs) < number_end
operators-countable n near occurs h = omega (arith, operators-most n near occurs, bay-room n h)

pub bay-limits : (n : ℕ) → least_slots ≤ n → n ≤ most_slots → InLimits (bay_sizes n)
bay-limits n h k = record {
  variables = rw (length-replicate n n) (omega arith, omega arith);
  each = λ i l. rw (bay-size n i (rw (length-replicate n n) at l)) (omega arith, omega arith);
  total = (bay-room n k).0;
}

-- ---- the operators

-- Slots i < j exchange the labels a and b.
module _ (n i j a b : ℕ) (ordered : i < j) (place : j < n) (label-a : a < n) (label-b : b < n) where
  exchange-operator : IsOperator (bay_sizes n) (exchange i j a b)
  exchange-operator = record {
    filled = omega arith;
    entries = rw (length-replicate n n) (
      omega arith,
      omega arith,
      bay-below n i a (omega arith) label-a,
      bay-below n i b (omega arith) label-b,
      (ordered, place, bay-below n j b place label-b, bay-below n j a place label-a, tt),
    );
  }

  -- A slot that is not named is neither of the two.
  unnamed : (u : ℕ) → names (exchange i j a b) u ≡ false → (i ≢ u) × (j ≢ u)
  unfolding names any_of
  unnamed u e = (eqb-false i u (or-none-left (eqb i u) (eqb j u || false) e), eqb-false j u (or-none-left (eqb j u) false (or-none-right (eqb i u) (eqb j u || false) e)))

  -- Over any set of labels that are said to occur once.
  module _ (once : ℕ → Bool) where
    possible-bay : (u y : ℕ) → i ≢ u → j ≢ u → u < n → y < n → possible (bay_sizes n) (listed (bay_pairs n once)) (exchange i j a b) u y ≡ not ((eqb a y && once a) || (eqb b y && once b))
    unfolding possible any_of
    possible-bay u y d d' l h = rw (paired-bay once n i a u y d (omega arith) l label-a h, paired-bay once n j b u y d' place l label-b h, or-false (eqb b y && once b)) refl

    -- An after atom with the label c of a named slot v is paired only with what a before atom is paired with.
    cover : (v c : ℕ) → v < n → c < n → ((u : ℕ) → names (exchange i j a b) u ≡ false → v ≢ u) → ((y : ℕ) → ((eqb c y && once c) && not ((eqb a y && once a) || (eqb b y && once b))) ≡ false)
        → some (length (bay_sizes n)) (λ u. not (names (exchange i j a b) u) && some (size (bay_sizes n) u) (λ y. paired (bay_sizes n) (listed (bay_pairs n once)) v c u y
        && possible (bay_sizes n) (listed (bay_pairs n once)) (exchange i j a b) u y)) ≡ false
    cover v c l h apart known = some-not _ _ (λ u k. elim (test (names (exchange i j a b) u)) [
      | on e ↦ rw e refl
      | off e ↦ and-none-right (not (names (exchange i j a b) u)) _ (some-not _ _ (λ y t. pair u y e (rw (length-replicate n n) at k) t))
    ])
      where
        pair : (u y : ℕ) → names (exchange i j a b) u ≡ false → u < n → y < size (bay_sizes n) u
            → (paired (bay_sizes n) (listed (bay_pairs n once)) v c u y && possible (bay_sizes n) (listed (bay_pairs n once)) (exchange i j a b) u y) ≡ false
        pair u y e k t = let t' : y < n = rw (bay-size n u k) at t in
            rw (paired-bay once n v c u y (apart u e) l k h t', possible-bay u y (unnamed u e).0 (unnamed u e).1 k t') (known y)

    covered : uncovered (bay_sizes n) (listed (bay_pairs n once)) (exchange i j a b) ≡ false
    unfolding uncovered
    covered = any-not _ _ (λ e m. elim (in_two m) [
      | inl q ↦ rw q (cover i b (omega arith) label-b (λ u e. (unnamed u e).0) (λ y. second (eqb a y && once a) (eqb b y && once b)))
      | inr q ↦ rw q (cover j a place label-a (λ u e. (unnamed u e).1) (λ y. first (eqb a y && once a) (eqb b y && once b)))
    ])
      where
        first : (p q : Bool) → (p && not (p || q)) ≡ false
        first true q = refl
        first false q = refl

        second : (p q : Bool) → (q && not (p || q)) ≡ false
        second true true = refl
        second true false = refl
        second false true = refl
        second false false = refl

    pub closed-bay : a ≢ b → closed (bay_sizes n) (listed (bay_pairs n once)) (exchange i j a b) ≡ true
    unfolding closed clashing_after two_of any_of
    closed-bay d = or_right (idle (bay_sizes n) (listed (bay_pairs n once)) (exchange i j a b)) _ (rw (after, covered) refl)
      where
        after : clashing_after (bay_sizes n) (listed (bay_pairs n once)) (exchange i j a b) ≡ false
        after = rw (paired-bay once n i b j a (omega arith) (omega arith) place label-b label-a, ne_eqb b a (λ q. d (sym q))) refl

    -- A third slot has a third label.
    third-label : (u : ℕ) → u < n → names (exchange i j a b) u ≡ false → some (size (bay_sizes n) u) (possible (bay_sizes n) (listed (bay_pairs n once)) (exchange i j a b) u) ≡ true
    third-label u l e =
        let (y, h, p, q) = third a b (omega (arith, ordered, place, l, unnamed u e)) in
        some_at (size (bay_sizes n) u) _ y (bay-below n u y l h) (rw (possible-bay u y (unnamed u e).0 (unnamed u e).1 l h, ne_eqb a y p, ne_eqb b y q) refl)
      where
        third : (a b : ℕ) → 3 ≤ n → (y : ℕ) × (y < n) × (a ≢ y) × (b ≢ y)
        third zero zero h = (1, omega arith, omega arith, omega arith)
        third zero (suc zero) h = (2, omega arith, omega arith, omega arith)
        third zero (suc (suc b)) h = (1, omega arith, omega arith, omega arith)
        third (suc zero) zero h = (2, omega arith, omega arith, omega arith)
        third (suc (suc a)) zero h = (1, omega arith, omega arith, omega arith)
        third (suc a) (suc b) h = (0, omega arith, omega arith, omega arith)

    -- So no slide is idle for want of a possible label.
    never_stuck : stuck (bay_sizes n) (listed (bay_pairs n once)) (exchange i j a b) ≡ false
    unfolding stuck
    never_stuck = some-not _ _ (λ u l. elim (test (names (exchange i j a b) u)) [
      | on e ↦ rw e refl
      | off e ↦ and-none-right (not (names (exchange i j a b) u)) _ (ap not (third-label u (rw (length-replicate n n) at l) e))
    ])

-- Every operator of a bay is one, the pairs are closed under it, and it is not idle for want of a possible label.
pub slide-rules : (n : ℕ) (near : ℕ → ℕ → Bool) (occurs once : ℕ → Bool) → ((p q : ℕ) → near p q ≡ true → p ≢ q) → (o : Operator) → In o (bay_operators n near occurs)
    → IsOperator (bay_sizes n) o × (closed (bay_sizes n) (listed (bay_pairs n once)) o ≡ true) × (stuck (bay_sizes n) (listed (bay_pairs n once)) o ≡ false)
unfolding slide
slide-rules n near occurs once apart o m = elim (order f.gap f.slot) [
  | less l ↦ rw (f.form, lt-ltb f.gap f.slot l) (rules f.gap f.slot 0 f.label l f.slot-place (omega (arith, f.is-label)) f.is-label (omega (arith, f.is-pallet)))
  | same q ↦ absurd (apart f.gap f.slot f.beside q)
  | more l ↦ rw (f.form, le-ltb f.gap f.slot (omega arith))
      (rules f.slot f.gap f.label 0 l f.gap-place f.is-label (omega (arith, f.is-label)) (omega (arith, f.is-pallet)))
]
  where
    f : Slide n near occurs o
    f = operator-slide n near occurs o m

    rules : (i j a b : ℕ) → i < j → j < n → a < n → b < n → a ≢ b → IsOperator (bay_sizes n) (exchange i j a b)
        × (closed (bay_sizes n) (listed (bay_pairs n once)) (exchange i j a b) ≡ true) × (stuck (bay_sizes n) (listed (bay_pairs n once)) (exchange i j a b) ≡ false)
    rules i j a b l k h h' d = (exchange-operator n i j a b l k h h', closed-bay n i j a b l k h h' once d, never_stuck n i j a b l k h h' once)

-- ---- the whole task

pub bay-free : (n : ℕ) (once : ℕ → Bool) (s : List ℕ) → State (bay_sizes n) s → ((label : ℕ) → once label ≡ true → occurrences label s ≤ 1)
    → holds (bay_sizes n) (listed (bay_pairs n once)) s ≡ false
unfolding holds
bay-free n once s S few = some-not _ _ (λ j l. let k : j < n = rw (length-replicate n n) at l in some-not _ _ (λ i h. apart i j h k))
  where
    apart : (i j : ℕ) → i < j → j < n → paired (bay_sizes n) (listed (bay_pairs n once)) i (value s i) j (value s j) ≡ false
    apart i j l k =
        paired-bay once n i (value s i) j (value s j) (omega arith) (omega arith) k (bay-value n s S i (omega arith)) (bay-value n s S j k)
        ∙ elim (test (eqb (value s i) (value s j) && once (value s i))) [
          | on q ↦ absurd (omega (
            arith,
            one_only (value s i) s i j (few (value s i) (and_right (eqb (value s i) (value s j)) (once (value s i)) q))
                (omega (arith, bay-length n s S)) (omega (arith, bay-length n s S)) refl (sym (eqb-true _ _ (and_left (eqb (value s i) (value s j)) (once (value s i)) q))),
          ))
          | off q ↦ q
        ]

pub bay-writable : (n : ℕ) (near : ℕ → ℕ → Bool) (start goal : List ℕ) → least_slots ≤ n → n ≤ most_slots → ((p q : ℕ) → near p q ≡ true → p ≢ q)
    → State (bay_sizes n) start → State (bay_sizes n) goal → Writable (task_for n near start goal)
unfolding task_for
bay-writable n near start goal h k apart S G = record {
  acceptable = record {
    limits = bay-limits n h k;
    taken = λ i l. ((bay-limits n h k).each i l).0;
    start = S;
    goal = G;
    pairs = pairs-run (once_in start) n;
    operators = λ o m. (slide-rules n near (occurs_in start) (once_in start) apart o m).0;
    free = bay-free n (once_in start) start S (λ label e. omega (arith, eqb-true (occurrences label start) 1 e));
    closed-under = λ o m. (slide-rules n near (occurs_in start) (once_in start) apart o m).1;
  };
  countable = operators-countable n near (occurs_in start) k;
}

-- ---- what an accepted bay file says

-- A bay that keeps every rule that is judged while it is read: "Rows and columns are each 1 to 9; rows times columns, n, is 2" to 16, "labels run
-- from 0 to n-1".
pub record ReadableBay (b : Bay) : Type 0 where
  pub rows-limit : (least_side ≤ b.rows) × (b.rows ≤ most_side)
  pub columns-limit : (least_side ≤ b.columns) × (b.columns ≤ most_side)
  pub slots-limit : (least_slots ≤ slot_count b) × (slot_count b ≤ most_slots)
  pub start-state : State (bay_sizes (slot_count b)) b.start
  pub goal-state : State (bay_sizes (slot_count b)) b.goal

-- "the gap still occurs once. Start and goal must hold each label equally often."
pub record AcceptedBay (b : Bay) : Type 0 where
  pub readable : ReadableBay b
  pub start-gap : occurrences 0 b.start ≡ 1
  pub goal-gap : occurrences 0 b.goal ≡ 1
  pub equal-lots : SameLabels b.start b.goal

pub sides-said : (bytes : List ℕ) → Gives bytes sides_of (λ sides l. (least_side ≤ sides.0) × (sides.0 ≤ most_side) × (least_side ≤ sides.1) × (sides.1 ≤ most_side)
    × (least_slots ≤ sides.0 * sides.1) × (sides.0 * sides.1 ≤ most_slots))
unfolding sides_of limited
sides-said bytes = gives-known _ (gives-tested (λ sides. inside least_slots (suc most_slots) (sides.0 * sides.1)) Limit (λ _. numbers_on 1)
    (gives_then (λ r. then side (λ c. give (r, c))) (λ sides l. (least_side ≤ sides.0) × (sides.0 ≤ most_side) × (least_side ≤ sides.1) × (sides.1 ≤ most_side))
    (item-said bytes least_side (suc most_side) Limit) (λ r l h.
    gives-map (λ c. (r, c)) _ (item-said bytes least_side (suc most_side) Limit) (λ c m g. (h.0, omega (arith, h.1), g.0, omega (arith, g.1))))))
    (λ sides l g. let few = (tells-and (tells-le least_slots (sides.0 * sides.1)) (tells-lt (sides.0 * sides.1) (suc most_slots))).yes g.0 in
    (g.1.0, g.1.1, g.1.2, g.1.3, few.0, omega (arith, few.1)))

pub bay-said : (bytes : List ℕ) → Gives bytes bay_of (λ b l. ReadableBay b)
unfolding bay_of
bay-said bytes =
    gives_then _ _ (sides-said bytes) (λ sides l₁ h.
    gives_then _ _ (values-said bytes (bay_sizes (sides.0 * sides.1))) (λ start l₂ s.
    gives-ended (λ goal. record { rows = sides.0; columns = sides.1; start = start; goal = goal }) _ (values-said bytes (bay_sizes (sides.0 * sides.1))) (λ goal l₃ g. record {
      rows-limit = (h.0, h.1);
      columns-limit = (h.2, h.3);
      slots-limit = (h.4, h.5);
      start-state = s.0;
      goal-state = g.0;
    })))

-- Equal counts of the labels below n are equal counts of all labels, in states of the bay.
lots-same : (n : ℕ) (start goal : List ℕ) → State (bay_sizes n) start → State (bay_sizes n) goal → equal_lots n start goal ≡ true → SameLabels start goal
unfolding equal_lots
lots-same n start goal S G t = record { as_long = bay-length n goal G ∙ sym (bay-length n start S); as-often = often }
  where
    past : (s : List ℕ) → State (bay_sizes n) s → (label : ℕ) → n ≤ label → occurrences label s ≡ 0
    past s H label l = elim (order 0 (occurrences label s)) [
      | less k ↦ let (i, h, q) = occurrences-get label s k in absurd (omega (arith, bay-value n s H i (omega (arith, bay-length n s H)), q))
      | same q ↦ sym q
      | more k ↦ absurd (omega arith)
    ]

    often : (label : ℕ) → occurrences label goal ≡ occurrences label start
    often label = elim (test (ltb label n)) [
      | on q ↦ sym (eqb-true (occurrences label start) (occurrences label goal) (every-at n _ t label (ltb-true label n q)))
      | off q ↦ past goal G label (ltb-false label n q) ∙ sym (past start S label (ltb-false label n q))
    ]

-- What labels that were not refused are like.
pub lots-passed : {A : Type 0} (n : ℕ) (start goal : List ℕ) (whole : Read A) (a : A) (next : ℕ) → judged_lots n start goal whole ≡ got a next
    → (occurrences 0 start ≡ 1) × (occurrences 0 goal ≡ 1) × (equal_lots n start goal ≡ true) × (whole ≡ got a next)
unfolding judged_lots one_gap
lots-passed n start goal whole a next e =
    let (one, e₁) = test-passed (one_gap start) _ Gaps 0 a next e in
    let (other, e₂) = test-passed (one_gap goal) _ Gaps 0 a next e₁ in
    let (lots, e₃) = test-passed (equal_lots n start goal) _ Unequal 0 a next e₂ in
    (eqb-true (occurrences 0 start) 1 one, eqb-true (occurrences 0 goal) 1 other, lots, e₃)

module _ (bytes : List ℕ) (b : Bay) (next : ℕ) (e : judged_bay bytes ≡ got b next) where
  pub accepted-bay : AcceptedBay b
  unfolding judged_bay
  accepted-bay =
      let (c, middle, p, q) = on-got (bay_of bytes 0) _ b next e in
      let readable = ((bay-said bytes).gives 0 c middle p).known in
      let (one, other, lots, z) = lots-passed (slot_count c) c.start c.goal (got c middle) b next q in
      subst AcceptedBay (got-value z) (record {
        readable = readable;
        start-gap = one;
        goal-gap = other;
        equal-lots = lots-same (slot_count c) c.start c.goal readable.start-state readable.goal-state lots;
      })

  -- The task of an accepted bay file can be written.
  pub bay-accepted : Writable (bay_task b)
  bay-accepted =
      let bay = accepted-bay.readable in
      bay-writable (slot_count b) (neighbours b.columns) b.start b.goal bay.slots-limit.0 bay.slots-limit.1 (neighbours-apart b.columns)
      bay.start-state bay.goal-state

  -- Its bytes are read as that task.
  pub bay-read : judged_task (task_bytes (bay_task b)) ≡ got (bay_task b) (length (task_bytes (bay_task b)))
  bay-read = read_back (bay_task b) bay-accepted

  -- "From every state that holds the start's labels, each as often, one operator leads to exactly the states that one move leads to."
  pub bay-moves : (s t : List ℕ) → SameLabels b.start s → Move (slot_count b) (neighbours b.columns) s t ↔ Step (bay_task b).operators s t
  unfolding task_for
  bay-moves s t a = same-moves (slot_count b) (neighbours b.columns) b.start s t accepted-bay.readable.start-state a

  -- The task is unsolvable exactly when no moves lead from the start to the goal.
  pub bay-unsolvable : Unsolvable (bay_task b) ↔ ((ms : List (List ℕ)) → Moves (slot_count b) (neighbours b.columns) ms b.start b.goal → ⊥)
  unfolding task_for
  bay-unsolvable = (
    λ no ms moves. let (plan, from, leads) = moves-plan _ _ b.start ms b.start b.goal accepted-bay.readable.start-state (labels-same b.start) moves in no plan from leads,
    λ no plan from leads. let (ms, moves) = plan-moves _ _ (occurs_in b.start) plan b.start b.goal from leads in no ms moves,
  )
