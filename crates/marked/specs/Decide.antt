-- For each statement of the definitions a test that computes, with the proof that it tells whether the statement holds. They serve any task.
use Rattle.std.specs.Prelude.{ℕ, suc, ◌<◌, ◌≤◌, ◌↔◌, Bool, not, ◌&&◌, ◌||◌, eqb, leb, ltb, get_or}
use Rattle.std.proofs.Math.Path.{◌≡◌, refl}
use Rattle.std.proofs.Common.{ap, sym, ◌∙◌, true≢false, arith}
use Rattle.std.proofs.Math.Logic.Iff
use Rattle.std.proofs.Math.Bool.{true, false}
use mathlib.Core.List.Memᴰ.{not-nil}
use mathlib.Core.List.{List, [], ◌∷◌}
use Rattle.std.proofs.Math.ListN.{length, get_or-eq_default}
use borrow.Author.Tests.{leb-true, ltb-true, ltb-false}
use Rattle.meaning.specs.Sets.{◌⊕◌, Set, Slots, odd, count, shared, some, every, any_of, all_of, two_of, flat, listed, whole_number}
use Rattle.meaning.specs.Task.{Operator, Task, State, Run, names, applies, applied, value, size}
use Rattle.meaning.specs.Feature.{sum_of, pairs_of, atoms, features, single, pair_start, double, both, true_in, parity}
use Rattle.meaning.specs.Pair.{paired, possible, clashing, stuck, idle, clashing_after, uncovered, closed, holds}
use Rattle.meaning.specs.Slot.{Reduced, SlotsOf, Stored}
use Rattle.meaning.specs.Weight.{Considered, Keeps, Allows, Meets, Separates}
use Rattle.meaning.specs.Number.{Reason, refusal, Read, got, fault, groups, number, numbers_on}
use Rattle.meaning.specs.File.{item, judge, limited, rising, ended, items_of, kind_of, mark_of, size_list, header, feature_of, features_of, feature_list, entries_of, operator_of, operators_of, body_of, parts_of, task_as, task_of, judged_task, judged_weights_as, judged_weights}
use Rattle.meaning.specs.Answer.{Answer, done, refused, by_read, Verdict, accepted, ends_alike, breaks, Breaks, Judges, Checks}
use Rattle.meaning.specs.Bay.{sides_of, bay_of, occurrences, one_gap, equal_lots, judged_lots, judged_bay, neighbours, slide, bay_operators, bay_pairs, task_for}
use Rattle.meaning.specs.Line.{Found, nothing, separating, Seeks, Says}
use Rattle.theory.specs.Truth.{on, off, test}
use Rattle.theory.specs.Search.{and_left, and_right, every-at, all-at, listed_in}
use Rattle.theory.specs.SlotsOf.{slots-of-stored}
use Rattle.theory.specs.Whole.{whole-cong}
use Rattle.theory.specs.Tells.{Tells, tells-map, tells-true, tells-false, tells-differ, tells-same, tells-and, tells-not, tells-imp, tells-every, tells_all, tells-eq, tells-lt, tells-le}
use Rattle.theory.specs.Cut.{cut, cut_below, shared-cut, meets-cut, separates-cut}
use Rattle.marked.specs.States.{states, in-states, tells-sets, every_set}

-- ---- an operator keeps parity

module _ (sizes : List ℕ) where
  unfoldable pub state? : List ℕ → Bool
  state? state = eqb (length state) (length sizes) && every (length sizes) (λ i. ltb (value state i) (size sizes i))

  pub tells-state : (state : List ℕ) → Tells (state? state) (State sizes state)
  unfolding state?
  tells-state state = tells-map (λ h. record { full = h.0; values = h.1 }) (λ h. (h.full, h.values))
      (tells-and (tells-eq _ _) (tells-every _ _ _ (λ i l. tells-lt _ _)))

module _ (sizes : List ℕ) (pairs : Set) where
  unfoldable pub considered? : Operator → List ℕ → Bool
  considered? o state =
      state? sizes state
      && (applies o state && every (length sizes) (λ u. not (not (names o u)) || possible sizes pairs o u (value state u)))

  pub tells-considered : (o : Operator) (state : List ℕ) → Tells (considered? o state) (Considered sizes pairs o state)
  unfolding considered?
  tells-considered o state = tells-map (λ h. record { is_state = h.0; has-before = h.1.0; elsewhere = h.1.1 }) (λ h. (h.is_state, (h.has-before, h.elsewhere)))
      (tells-and (tells-state sizes state) (tells-and (tells-true _) (tells-every _ _ _ (λ u l. tells-imp (tells-false (names o u)) (tells-true _)))))

  unfoldable pub keeps? : Set → Operator → Bool
  keeps? weights o =
      all_of (λ state. not (considered? o state) || not (parity sizes weights (applied o state) ⊕ parity sizes weights state)) (states sizes)

  pub tells-keeps : (weights : Set) (o : Operator) → Tells (keeps? weights o) (Keeps sizes pairs weights o)
  unfolding keeps?
  tells-keeps weights o = tells-map (λ h state c. h state (in-states sizes state c.is_state) c) (λ h state m. h state)
      (tells_all _ (λ state. Considered sizes pairs o state → parity sizes weights (applied o state) ≡ parity sizes weights state) (states sizes)
      (λ state m. tells-imp (tells-considered o state) (tells-same _ _)))

  unfoldable pub allows? : Set → Operator → Bool
  allows? weights o = not (not (idle sizes pairs o)) || keeps? weights o

  pub tells-allows : (weights : Set) (o : Operator) → Tells (allows? weights o) (Allows sizes pairs weights o)
  unfolding allows?
  tells-allows weights o = tells-imp (tells-false (idle sizes pairs o)) (tells-keeps weights o)

  unfoldable pub meets? : List Operator → Set → Bool
  meets? operators weights = all_of (allows? weights) operators

  pub tells-meets : (operators : List Operator) (weights : Set) → Tells (meets? operators weights) (Meets sizes pairs operators weights)
  unfolding meets?
  tells-meets operators weights = tells_all _ (Allows sizes pairs weights) operators (λ o m. tells-allows weights o)

-- ---- weights separate

-- The parities of start and goal differ.
unfoldable pub ends_differ? : Task → Set → Bool
ends_differ? T weights = parity T.sizes weights T.start ⊕ parity T.sizes weights T.goal

unfoldable pub separates? : Task → Set → Bool
separates? T weights = ends_differ? T weights && meets? T.sizes (listed T.pairs) T.operators weights

pub tells-separates : (T : Task) (weights : Set) → Tells (separates? T weights) (Separates T weights)
unfolding separates? ends_differ?
tells-separates T weights = tells-map (λ h. record { ends = h.0; keeps = h.1 }) (λ h. (h.ends, h.keeps))
    (tells-and (tells-differ _ _) (tells-meets T.sizes (listed T.pairs) T.operators weights))

-- ---- what is to be found

unfoldable pub run? : ℕ → List ℕ → ℕ → Bool
run? low [] high = leb low high
run? low (x ∷ xs) high = leb low x && run? (suc x) xs high

pub tells-run : (low : ℕ) (l : List ℕ) (high : ℕ) → Tells (run? low l high) (Run low l high)
unfolding run? Run
tells-run low [] high = tells-le low high
tells-run low (x ∷ xs) high = tells-and (tells-le low x) (tells-run (suc x) xs high)

-- No set separates whose whole number is smaller, of all sets below N.
unfoldable pub least? : Task → Set → Bool
least? T weights =
    every_set (features T.sizes)
    (λ other. not (separates? T other) || leb (whole_number (features T.sizes) weights) (whole_number (features T.sizes) other))

pub tells-least : (T : Task) (weights : Set)
    → Tells (least? T weights) ((other : Set) → Separates T other → whole_number (features T.sizes) weights ≤ whole_number (features T.sizes) other)
unfolding least?
tells-least T weights = let n = features T.sizes in
    tells-sets n _ (λ other. Separates T other → whole_number n weights ≤ whole_number n other)
    (λ other h s. rw (whole-cong n _ _ (cut_below n other)) at (h (separates-cut T other s)))
    (λ other. tells-imp (tells-separates T other) (tells-le _ _))

unfoldable pub seeks? : Task → Found → Bool
seeks? T nothing = every_set (features T.sizes) (λ other. not (separates? T other))
seeks? T (separating fs) = run? 0 fs (features T.sizes) && (separates? T (listed fs) && least? T (listed fs))

pub tells-seeks : (T : Task) (found : Found) → Tells (seeks? T found) (Seeks T found)
unfolding seeks?
tells-seeks T nothing = tells-sets (features T.sizes) _ (λ other. Separates T other → ⊥)
    (λ other h s. h (separates-cut T other s)) (λ other. tells-not (tells-separates T other))
tells-seeks T (separating fs) = tells-and (tells-run 0 fs (features T.sizes))
    (tells-map (λ h. record { good = h.0; least = h.1 }) (λ h. (h.good, h.least)) (tells-and (tells-separates T (listed fs)) (tells-least T (listed fs))))

-- ---- verdicts

unfoldable pub breaks? : Task → Set → ℕ → Bool
breaks? T weights j =
    ends_differ? T weights
    && (ltb j (length T.operators)
    && (not (idle T.sizes (listed T.pairs) (get_or T.operators j []))
    && (not (keeps? T.sizes (listed T.pairs) weights (get_or T.operators j []))
    && every j (λ i. allows? T.sizes (listed T.pairs) weights (get_or T.operators i [])))))

pub tells-breaks : (T : Task) (weights : Set) (j : ℕ) → Tells (breaks? T weights j) (Breaks T weights j)
unfolding breaks? ends_differ?
tells-breaks T weights j = tells-map
    (λ h. record { ends = h.0; counted = h.1.0; busy = h.1.1.0; broken = h.1.1.1.0; earlier = h.1.1.1.1 })
    (λ h. (h.ends, (h.counted, (h.busy, (h.broken, h.earlier)))))
    (tells-and (tells-differ _ _)
    (tells-and (tells-lt _ _)
    (tells-and (tells-false (idle T.sizes (listed T.pairs) (get_or T.operators j [])))
    (tells-and (tells-not (tells-keeps T.sizes (listed T.pairs) weights _))
    (tells-every j _ (λ i. Allows T.sizes (listed T.pairs) weights (get_or T.operators i [])) (λ i l. tells-allows _ _ weights _))))))

unfoldable pub judges? : Task → Set → Verdict → Bool
judges? T weights accepted = separates? T weights
judges? T weights ends_alike = not (ends_differ? T weights)
judges? T weights (breaks j) = breaks? T weights j

pub tells-judges : (T : Task) (weights : Set) (verdict : Verdict) → Tells (judges? T weights verdict) (Judges T weights verdict)
unfolding judges? ends_differ?
tells-judges T weights accepted = tells-separates T weights
tells-judges T weights ends_alike = tells-same _ _
tells-judges T weights (breaks j) = tells-breaks T weights j

-- ---- slots

-- Slots that are given as lists, empty from the end of the list on.
unfoldable pub slots_in : List (List ℕ) → Slots
slots_in rows i = listed (get_or rows i [])

-- What reduced shape asks of a member f of slot i.
abbrev InPlace : ℕ → List (List ℕ) → ℕ → ℕ → Type 0
InPlace n rows i f = (i ≤ f) × ((f < n) × ((slots_in rows i i ≡ true) × (slots_in rows f f ≡ true → f ≡ i)))

unfoldable pub in_place? : ℕ → List (List ℕ) → ℕ → ℕ → Bool
in_place? n rows i f = leb i f && (ltb f n && (slots_in rows i i && (not (slots_in rows f f) || eqb f i)))

tells-in-place : (n : ℕ) (rows : List (List ℕ)) (i f : ℕ) → Tells (in_place? n rows i f) (InPlace n rows i f)
unfolding in_place?
tells-in-place n rows i f = tells-and (tells-le i f) (tells-and (tells-lt f n) (tells-and (tells-true _) (tells-imp (tells-true (slots_in rows f f)) (tells-eq f i))))

unfoldable pub reduced? : ℕ → List (List ℕ) → Bool
reduced? n rows = leb (length rows) n && every (length rows) (λ i. all_of (in_place? n rows i) (get_or rows i []))

module _ (n : ℕ) (rows : List (List ℕ)) (e : reduced? n rows ≡ true) where
  slot-member : (i f : ℕ) → slots_in rows i f ≡ true → (i < n) × InPlace n rows i f
  unfolding reduced? slots_in
  slot-member i f m = elim (test (ltb i (length rows))) [
    | on l ↦ (omega (arith, ltb-true i (length rows) l, leb-true (length rows) n (and_left _ _ e)), placed (ltb-true i (length rows) l))
    | off l ↦ absurd (not-nil (rw (get_or-eq_default rows [] (ltb-false i (length rows) l)) at (listed_in _ f m)))
  ]
    where
      placed : i < length rows → InPlace n rows i f
      placed l = (tells-in-place n rows i f).yes (all-at _ _ (every-at _ _ (and_right (leb (length rows) n) _ e) i l) f (listed_in _ f m))

  pub reduced-rows : Reduced n (slots_in rows)
  reduced-rows = record {
    within = λ i f m. let h = slot-member i f m in (h.0, h.1.1.0);
    low = λ i f l. elim (test (slots_in rows i f)) [ on m ↦ absurd (omega (arith, (slot-member i f m).1.0)) | off q ↦ q ];
    full = λ i f m. (slot-member i f m).1.1.1.0;
    clear = λ i j m d. elim (test (slots_in rows i j)) [ on k ↦ absurd (d ((slot-member i j k).1.1.1.1 m)) | off q ↦ q ];
  }

unfoldable pub stored? : ℕ → Slots → Set → Bool
stored? n slots weights = every n (λ i. not (odd (shared n weights (slots i))))

pub tells-stored : (n : ℕ) (slots : Slots) (weights : Set) → Tells (stored? n slots weights) (Stored n slots weights)
unfolding stored?
tells-stored n slots weights = tells-every n _ _ (λ i l. tells-false (odd (shared n weights (slots i))))

pub stored_cut : (n : ℕ) (slots : Slots) (weights : Set) → Stored n slots (cut n weights) ↔ Stored n slots weights
stored_cut n slots weights = (λ h i l. sym (shared-cut n weights (slots i)) ∙ h i l, λ h i l. shared-cut n weights (slots i) ∙ h i l)

-- The slots are reduced, and of all sets below N they allow those that meet the operators' conditions.
unfoldable pub slots? : Task → List (List ℕ) → Bool
slots? T rows =
    let n = features T.sizes in
    let meets = meets? T.sizes (listed T.pairs) T.operators in
    reduced? n rows
    && every_set n (λ w. (not (stored? n (slots_in rows) w) || meets w) && (not (meets w) || stored? n (slots_in rows) w))

pub slots-of : (T : Task) (rows : List (List ℕ)) → slots? T rows ≡ true
    → SlotsOf (features T.sizes) (Meets T.sizes (listed T.pairs) T.operators) (slots_in rows)
unfolding slots?
slots-of T rows e = let n = features T.sizes in
    slots-of-stored _ (reduced-rows n rows (and_left (reduced? n rows) _ e))
    ((tells-sets n _ (λ w. Stored n (slots_in rows) w ↔ Meets T.sizes (listed T.pairs) T.operators w)
    (λ w h. Iff.trans (Iff.symm (stored_cut n (slots_in rows) w)) (Iff.trans h (meets-cut T.sizes (listed T.pairs) T.operators w)))
    (λ w. tells-and (tells-imp (tells-stored n (slots_in rows) w) (tells-meets _ _ _ w)) (tells-imp (tells-meets _ _ _ w) (tells-stored n (slots_in rows) w)))
    ).yes (and_right (reduced? n rows) _ e))

-- ---- answers

module _ {A : Type 0} where
  unfoldable pub done? : (A → Bool) → Answer A → Bool
  done? good (done a) = good a
  done? good (refused n) = false

  pub tells-done : (good : A → Bool) (Good : A → Type 0) → ((a : A) → Tells (good a) (Good a))
      → (answer : Answer A) → Tells (done? good answer) ((a : A) × (answer ≡ done a) × Good a)
  unfolding done?
  tells-done good Good t (done a) = record { yes = λ h. (a, refl, (t a).yes h); back = λ h. (t a).back (along h.0 h.1 h.2) }
    where
      along : (b : A) → ◌≡◌ {A = Answer A} (done a) (done b) → Good b → Good a
      along b e g = let q : a ≡ b = cc in rw q g
  tells-done good Good t (refused n) = record { yes = λ h. absurd (true≢false (sym h)); back = λ h. never h.0 h.1 }
    where
      never : (a : A) → ◌≡◌ {A = Answer A} (refused n) (done a) → false ≡ true
      never a e = cc

  unfoldable pub refused? : ℕ → Answer A → Bool
  refused? k (done a) = false
  refused? k (refused n) = eqb n k

  pub tells-refused : (k : ℕ) (answer : Answer A) → Tells (refused? k answer) (answer ≡ refused k)
  unfolding refused?
  tells-refused k (done a) = record { yes = λ h. absurd (true≢false (sym h)); back = λ e. cc }
  tells-refused k (refused n) = tells-map (ap refused) alike (tells-eq n k)
    where
      alike : ◌≡◌ {A = Answer A} (refused n) (refused k) → n ≡ k
      alike e = cc

  unfoldable pub by_read? : Read A → (A → Bool) → (Reason → Bool) → Bool
  by_read? (got a next) good bad = good a
  by_read? (fault reason place) good bad = bad reason

  pub tells-read : (read : Read A) {good : A → Bool} {bad : Reason → Bool} {Good : A → Type 0} {Bad : Reason → Type 0}
      → ((a : A) → Tells (good a) (Good a)) → ((reason : Reason) → Tells (bad reason) (Bad reason)) → Tells (by_read? read good bad) (by_read read Good Bad)
  unfolding by_read?
  tells-read (got a next) t s = t a
  tells-read (fault reason place) t s = s reason

unfoldable pub says? : List ℕ → Answer Found → Bool
says? task answer = by_read? (judged_task task) (λ T. done? (seeks? T) answer) (λ reason. refused? (refusal reason) answer)

pub tells-says : (task : List ℕ) (answer : Answer Found) → Tells (says? task answer) (Says task answer)
unfolding says?
tells-says task answer = tells-read (judged_task task) (λ T. tells-done (seeks? T) (Seeks T) (tells-seeks T) answer) (λ reason. tells-refused (refusal reason) answer)

unfoldable pub checks? : List ℕ → List ℕ → Answer Verdict → Bool
checks? task weights answer =
    by_read? (judged_task task)
    (λ T. by_read? (judged_weights (features T.sizes) weights) (λ ws. done? (judges? T (listed ws)) answer) (λ reason. refused? (refusal reason) answer))
    (λ reason. refused? (refusal reason) answer)

pub tells-checks : (task weights : List ℕ) (answer : Answer Verdict) → Tells (checks? task weights answer) (Checks task weights answer)
unfolding checks?
tells-checks task weights answer = tells-read (judged_task task)
    (λ T. tells-read (judged_weights (features T.sizes) weights)
    (λ ws. tells-done (judges? T (listed ws)) (Judges T (listed ws)) (tells-judges T (listed ws)) answer)
    (λ reason. tells-refused (refusal reason) answer))
    (λ reason. tells-refused (refusal reason) answer)

-- To name this on an `unfolding` line opens all that a task file, its task and the tests are computed with.
unfoldable pub computing : Unit {0}
unfolding says? checks? by_read? refused? done? judges? breaks? seeks? least? run? separates? ends_differ? meets? allows? keeps? considered? state?
    slots? reduced? in_place? stored? slots_in every_set states
    count shared some every any_of all_of two_of flat listed whole_number names applies applied
    sum_of pairs_of atoms features single pair_start double both true_in parity paired possible clashing stuck idle clashing_after uncovered closed holds
    groups number numbers_on item judge limited rising ended items_of kind_of mark_of size_list header feature_of features_of feature_list entries_of operator_of operators_of body_of parts_of task_as task_of
    judged_task judged_weights_as
computing = tt

-- And this, beside it, all that a bay file and the task of a bay are.
unfoldable pub bays : Unit {0}
unfolding computing judged_bay bay_of sides_of judged_lots one_gap equal_lots occurrences task_for bay_pairs bay_operators neighbours slide
bays = tt
