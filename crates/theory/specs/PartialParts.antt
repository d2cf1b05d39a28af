-- Partial tasks in order are written and read back; the operators' bytes in a file; the tests of what is left out, on the built task.
use Rattle.std.specs.Prelude.{ℕ, suc, ◌*◌, ◌<◌, ◌≤◌, ◌≡◌, Bool, true, false, ◌&&◌, cond, leb, length, replicate, drop}
use Rattle.std.proofs.Math.Path.{refl}
use Rattle.std.proofs.Common.{ap, sym, ◌∙◌, arith, mul-le-mul_left, suc-mul, length-append, drop_of_length-le}
use mathlib.Core.List.{List, [], ◌∷◌, ◌++◌, append-nil, Memᴰ as In}
use Rattle.std.proofs.Math.Dec.{ltb}
use Rattle.std.proofs.lemmas.List.{length-replicate, get_or-replicate}
use borrow.Author.Tests.{ltb-true, ltb-false, lt-ltb, le-leb}
use Rattle.meaning.specs.Sets.{some, listed, all_of}
use Rattle.meaning.specs.Limits.{most_variables, least_partial_size, most_partial_size, most_features, group, number_end}
use Rattle.meaning.specs.Task.{Operator, State, value, size}
use Rattle.meaning.specs.Feature.{sum_of, pairs_of, atoms, features}
use Rattle.meaning.specs.Pair.{paired, stuck, closed, holds}
use Rattle.meaning.specs.Number.{Range, got, group_bytes, number_bytes}
use Rattle.meaning.specs.File.{plain, operators_of, bytes_of, counted, entry_bytes, operator_bytes, list_bytes}
use Rattle.meaning.specs.Partial.{Partial, Ordered, named, built_sizes, built_pairs, forgetting, forgettings, built_task, against_goal, left_out, left_out_lean}
use Rattle.meaning.specs.Partial.{partial_header, goal_of, partial_of, judged_partial, marks_in, named_in, partial_bytes}
use Rattle.theory.specs.Tells.{tells-agree, tells-map, tells-lt}
use Rattle.theory.specs.Truth.{on, off, test, clash}
use Rattle.theory.specs.Search.{some-cong, all-each}
use Rattle.theory.specs.Reading.{Reads, reads-give, reads_then, reads-map}
use Rattle.theory.specs.ReadBack.{between-back, limited-back, size-list-back, ended-back, values-back, feature-list-back, operators-back, whole, Sayable}
use Rattle.theory.specs.NumberBack.{number-back}
use Rattle.theory.specs.Spent.{Bytes}
use Rattle.theory.specs.Parts.{each_more, operators-said}
use Rattle.theory.specs.PartialPairs.{built-length, built-size, paired-known}
use Rattle.theory.specs.PartialTask.{forgettings-in, closed-built, holds-built, all_closed}
use Rattle.theory.specs.BytesOf.{bytes-each}

-- ---- written and read back

partial-header-back : (P : Partial) → Ordered P → (after : List ℕ) → Reads partial_header P.sizes (counted number_bytes P.sizes) after
unfolding partial_header
partial-header-back P ok after =
    let (low, high) = ok.variables in
    limited-back (λ ds. leb (features (built_sizes ds)) most_features) length (le-leb (features (built_sizes P.sizes)) most_features ok.total)
    (size-list-back least_partial_size most_partial_size P.sizes (omega arith) low high ok.each after)

marks-state : (sizes goal : List ℕ) → length goal ≡ length sizes → State (replicate (length sizes) 2) (marks_in sizes goal)
unfolding marks_in
marks-state [] goal e = record { full = refl; values = λ i l. absurd (omega arith) }
marks-state (d ∷ ds) [] e = absurd (omega arith)
marks-state (d ∷ ds) (g ∷ gs) e =
    let t = marks-state ds gs (omega arith) in
    let twos : List ℕ = replicate (length ds) 2 in
    record { full = ap suc t.full; values = each_more (λ i. value (marks_in (d ∷ ds) (g ∷ gs)) i < size (2 ∷ twos) i) (length twos) (mark (ltb g d)) t.values }
  where
    mark : (b : Bool) → cond b 1 0 < 2
    mark true = omega arith
    mark false = omega arith

goal-back : (sizes goal : List ℕ) → ((i : ℕ) → i < length sizes → size sizes i ≤ most_partial_size) → length goal ≡ length sizes
    → ((i : ℕ) → i < length sizes → value goal i < suc (size sizes i)) → (after : List ℕ) → Reads (goal_of sizes (marks_in sizes goal)) goal (bytes_of number_bytes (named_in sizes goal)) after
unfolding goal_of marks_in named_in bytes_of
goal-back [] [] s e h after = reads-give
goal-back [] (g ∷ gs) s e h after = absurd (omega arith)
goal-back (d ∷ ds) [] s e h after = absurd (omega arith)
goal-back (d ∷ ds) (g ∷ gs) s e h after =
    let l : g < suc d = h 0 (omega arith) in
    let t : d ≤ most_partial_size = s 0 (omega arith) in
    let rest = goal-back ds gs (λ i k. s (suc i) (omega arith)) (omega arith) (λ i k. h (suc i) (omega arith)) after in
    elim (test (ltb g d)) [
      | on q ↦ rw q (reads_then _ (between-back 0 d Range g (omega arith) (ltb-true g d q) (omega arith) (bytes_of number_bytes (named_in ds gs) ++ after)) (reads-map (◌∷◌ g) rest))
      | off q ↦ let z : d ≡ g = omega (arith, ltb-false g d q) in rw q (rw z (reads-map (◌∷◌ g) rest))
    ]

-- The file's own features are fewer than the built task's.
sum-built : (sizes : List ℕ) → sum_of sizes ≤ sum_of (built_sizes sizes)
unfolding sum_of
sum-built [] = omega arith
sum-built (d ∷ ds) = omega (arith, sum-built ds)

pub features-built : (sizes : List ℕ) → features sizes ≤ features (built_sizes sizes)
unfolding features atoms pairs_of
features-built sizes = omega (arith, sum-built sizes, pairs-built sizes)
  where
    pairs-built : (sizes : List ℕ) → pairs_of sizes ≤ pairs_of (built_sizes sizes)
    pairs-built [] = omega arith
    pairs-built (d ∷ ds) = omega (arith, pairs-built ds, mul-le-mul_left d (sum-built ds), suc-mul d (sum_of (built_sizes ds)))

pub partial-back : (P : Partial) → Ordered P → length P.operators < number_end → Reads partial_of P (partial_bytes P) []
unfolding list_bytes partial_of partial_bytes counted
partial-back P ok few =
    let ds = P.sizes in
    let small : Sayable ds = λ i l. omega (arith, ok.each i l) in
    let short : length ds < number_end = omega (arith, ok.variables) in
    let long : length P.goal ≡ length ds = ok.goal.full ∙ built-length ds in
    let marks = marks-state ds P.goal long in
    let twos : List ℕ = replicate (length ds) 2 in
    reads_then _ (partial-header-back P ok _)
    (reads_then _ (values-back twos (marks_in ds P.goal) (λ i l. omega (arith, get_or-replicate {A = ℕ} (length ds) i 2 0 (omega (arith, length-replicate {A = ℕ} (length ds) 2)))) marks _)
    (reads_then _ (values-back ds P.start small ok.start _)
    (reads_then _ (goal-back ds P.goal (λ i l. (ok.each i l).1) long (λ i l. rw (built-size ds i l) at (ok.goal.values i (rw (built-length ds) l))) _)
    (reads_then _ (feature-list-back plain (atoms ds) (features ds) P.pairs (omega (arith, features-built ds, ok.total)) ok.pairs _)
    (reads_then _ (number-back (length P.operators) few _)
    (ended-back (λ os. record { sizes = ds; start = P.start; goal = P.goal; pairs = P.pairs; operators = os }) (operators-back ds short small P.operators ok.operators [])))))))

-- So a partial task whose start and operators pass on its own sizes and pairs is accepted, whatever is left out, if no operator is idle for want of a possible value, and a number counts
-- those that are kept.
pub partial-accepted : (P : Partial) → Ordered P → (out : Partial → ℕ → ℕ → Bool) → length (built_task P (out P)).operators < number_end
    → holds P.sizes (listed P.pairs) P.start ≡ false
    → ((o : Operator) → In o P.operators → (closed P.sizes (listed P.pairs) o ≡ true) × (stuck P.sizes (listed P.pairs) o ≡ false))
    → judged_partial out (partial_bytes P) ≡ got (built_task P (out P)) (length (partial_bytes P))
unfolding judged_partial built_task
partial-accepted P ok out few free rules =
    let ds = P.sizes in
    let fewer : length P.operators < number_end = omega (arith, few, length-append P.operators (forgettings ds (out P))) in
    let shut : all_of (closed (built_sizes ds) (listed (built_pairs ds (listed P.pairs)))) (P.operators ++ forgettings ds (out P)) ≡ true = all-each _ _
    (all_closed P ok (out P) (all-each _ P.operators (λ o m. closed-built ds (listed P.pairs) o (ok.operators o m).entries (rules o m).1 ∙ (rules o m).0))) in
    rw (
      whole partial_of P (partial_bytes P) (partial-back P ok fewer),
      lt-ltb (length (P.operators ++ forgettings ds (out P))) number_end few,
      holds-built ds (listed P.pairs) P.start ok.start,
      free,
      shut,
    ) refl

-- ---- the operators' bytes

-- The bytes of the operators that were read up to the end of the file are those that are written for them: they may be copied.
pub operators-copied : (bytes sizes : List ℕ) (k place : ℕ) (os : List Operator) (next : ℕ) → Bytes bytes → operators_of sizes k bytes place ≡ got os next → length bytes ≤ next
    → drop place bytes ≡ bytes_of operator_bytes os
operators-copied bytes sizes k place os next small e h =
    let s = (operators-said bytes sizes k).gives place os next e in
    s.there ∙ ap (◌++◌ s.spent) (drop_of_length-le bytes h) ∙ append-nil s.spent ∙ s.known.2 small

-- A forgetting operator has four bytes.
small_bytes : (n : ℕ) → n < group → number_bytes n ≡ n ∷ []
unfolding number_bytes group_bytes
small_bytes n h = rw (lt-ltb n group h) refl

pub forgetting-bytes : (sizes : List ℕ) (i x : ℕ) → i < group → x < group → size sizes i < group → operator_bytes (forgetting sizes i x) ≡ 1 ∷ i ∷ x ∷ size sizes i ∷ []
unfolding operator_bytes counted bytes_of entry_bytes
forgetting-bytes sizes i x h k l = rw (small_bytes 1 (omega arith), small_bytes i h, small_bytes x k, small_bytes (size sizes i) l) refl

pub forgettings-width : (sizes : List ℕ) (out : ℕ → ℕ → Bool) → length sizes ≤ most_variables → ((i : ℕ) → i < length sizes → size sizes i ≤ most_partial_size)
    → length (bytes_of operator_bytes (forgettings sizes out)) ≡ length (forgettings sizes out) * 4
forgettings-width sizes out few small =
    omega (
      arith,
      bytes-each operator_bytes 4 (forgettings sizes out) (λ o m.
          let (i, x, l, h, _, q) = forgettings-in sizes out o m in
          let t = small i l in
          ap length (ap operator_bytes q ∙ forgetting-bytes sizes i x (omega arith) (omega arith) (omega arith))),
    )

-- ---- the tests on the built task's sizes and pairs, which a header has

module _ (P : Partial) (ok : Ordered P) where
  pub named-built : (i : ℕ) → i < length P.sizes → named P i ≡ ltb (suc (value P.goal i)) (size (built_sizes P.sizes) i)
  unfolding named
  named-built i l = rw (built-size P.sizes i l) (one_more (value P.goal i) (size P.sizes i))
    where
      one_more : (g d : ℕ) → ltb g d ≡ ltb (suc g) (suc d)
      one_more g d = tells-agree (tells-lt g d) (tells-map (λ h. omega arith) (λ h. omega arith) (tells-lt (suc g) (suc d)))

  pub goal-value : (j : ℕ) → named P j ≡ true → value P.goal j < size P.sizes j
  unfolding named
  goal-value j r = ltb-true _ _ r

  -- Of a variable that is silent.
  pub against-built : (i x : ℕ) → i < length P.sizes → x < size P.sizes i → named P i ≡ false → against_goal P i x
      ≡ some (length P.sizes) (λ j. named P j && paired (built_sizes P.sizes) (listed (built_pairs P.sizes (listed P.pairs))) i x j (value P.goal j))
  unfolding against_goal
  against-built i x l h q = some-cong (length P.sizes) _ _ (λ j k. elim (test (named P j)) [
    | on r ↦ rw r (sym (paired-known P.sizes (listed P.pairs) i x j (value P.goal j) (λ z. clash r (rw (← z) q)) l k h (goal-value j r)))
    | off r ↦ rw r refl
  ])

-- The two tests by whether the task is to be lean: they differ on variables that are named.
abbrev pub out_for : Bool → Partial → ℕ → ℕ → Bool
out_for lean = cond lean left_out_lean left_out

pub out-split : (lean : Bool) (P : Partial) (i x : ℕ) → out_for lean P i x ≡ cond (named P i) lean (against_goal P i x)
unfolding left_out left_out_lean
out-split true P i x = elim (test (named P i)) [ on q ↦ rw q refl | off q ↦ rw q refl ]
out-split false P i x = elim (test (named P i)) [ on q ↦ rw q refl | off q ↦ rw q refl ]
