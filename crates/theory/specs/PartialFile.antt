-- Partial files: what is read is in order; what is in order is written and read back; the built task can be written; its bytes in parts.
use Prim.Native.Nat.{ℕ, zero, suc, ◌<◌, ◌≤◌}
use Rattle.std.specs.Prelude.{◌≡◌, ◌↔◌, Bool, true, false, cond, eqb, ltb, length, replicate}
use Rattle.std.proofs.Math.Path.{refl, ap, ap₂, sym, subst}
use Rattle.std.proofs.Common.{◌∙◌}
use mathlib.Core.List.Memᴰ.{append_left}
use mathlib.Core.List.{List, [], ◌∷◌, ◌++◌, append-nil}
use native.Mathlib.Omega.{arith}
use Rattle.std.proofs.Math.Dec.{leb}
use borrow.Author.Tests.{eqb-true, eqb-false, leb-true, ltb-true, lt-ltb, le-ltb}
use Rattle.meaning.specs.Sets.{listed, all_of}
use Rattle.meaning.specs.Limits.{least_variables, most_variables, least_partial_size, most_partial_size, most_features, number_end}
use Rattle.meaning.specs.Task.{Task, State, value, size}
use Rattle.meaning.specs.Feature.{atoms, features}
use Rattle.meaning.specs.Pair.{closed, holds}
use Rattle.meaning.specs.Number.{Reason, Limit, Range, Outgrown, Held, Unclosed, got, fault, on_read, number_bytes, number, numbers_on}
use Rattle.meaning.specs.File.{Parser, give, then, inside, item, limited, rising, values_of, plain, feature_list, entries_of, operator_of, operators_of, Writable, bytes_of, counted, list_bytes}
use Rattle.meaning.specs.Partial.{Partial, Ordered, Reaches, Met, built_sizes, built_pairs, forgettings, built_task}
use Rattle.meaning.specs.Partial.{partial_header, marks_of, goal_of, partial_of, judged_partial, marks_in, named_in, partial_bytes}
use Rattle.theory.specs.Truth.{on, off, test}
use Rattle.theory.specs.Search.{and_left, and_right, and_both, all-at, all-each}
use Rattle.theory.specs.Numbering.{atoms-room}
use Rattle.theory.specs.Reading.{on-got, test-passed, test-failed, got-value, got-next}
use Rattle.theory.specs.Spent.{Bytes, Gives, Ends, gives-known, gives_then, gives-map, gives-give, gives-tested, gives-ended, ends-then, ends-ended}
use Rattle.theory.specs.Parts.{Exact, exact-counted, each_more, number-said, item-said, size-list-said, values-said, feature-list-said, operators-said}
use Rattle.theory.specs.BytesOf.{bytes-join}
use Rattle.theory.specs.Accepted.{whole-said}
use Rattle.theory.specs.PartialPairs.{built-length}
use Rattle.theory.specs.PartialTask.{built-acceptable}
use Rattle.theory.specs.PartialPlans.{Permitted, reached-exactly}

-- ---- the file's operators, read again with sizes that are no smaller

-- What one reader gets in some bytes, another gets.
pub record Follows {A : Type 0} (bytes : List ℕ) (first second : Parser A) : Type 0 where
  pub follows : (place : ℕ) (a : A) (next : ℕ) → first bytes place ≡ got a next → second bytes place ≡ got a next

-- A number of a range is one of a longer range.
pub inside-wider : (low high high' n : ℕ) → high ≤ high' → inside low high n ≡ true → inside low high' n ≡ true
inside-wider low high high' n w t =
    and_both (leb low n) (ltb n high') (and_left (leb low n) (ltb n high) t) (lt-ltb n high' (omega (arith, ltb-true n high (and_right (leb low n) (ltb n high) t))))

module _ {bytes : List ℕ} where
  pub follows_same : {A : Type 0} (p : Parser A) → Follows bytes p p
  follows_same p = record { follows = λ place a next e. e }

  pub follows_then : {A B : Type 0} {p q : Parser A} (r s : A → Parser B) → Follows bytes p q → ((a : A) → Follows bytes (r a) (s a)) → Follows bytes (then p r) (then q s)
  follows_then {p = p} r s h k = record {
    follows = λ place b next e. let (a, middle, first, rest) = on-got (p bytes place) _ b next e in rw (h.follows place a middle first) ((k a).follows middle b next rest);
  }

  -- What was read has to pass a test, the other reader's one that is no stricter, with faults at any places.
  pub follows-tested : {A : Type 0} {p q : Parser A} (strict easy : A → Bool) (reason : Reason) (here there : A → List ℕ → ℕ → ℕ) → Follows bytes p q → ((a : A) → strict a ≡ true → easy a ≡ true)
      → Follows bytes (λ s place. on_read (p s place) (λ a next. cond (strict a) (got a next) (fault reason (here a s place))))
      (λ s place. on_read (q s place) (λ a next. cond (easy a) (got a next) (fault reason (there a s place))))
  follows-tested {p = p} strict easy reason here there h k = record {
    follows = λ place b next e.
        let (a, middle, first, rest) = on-got (p bytes place) _ b next e in
        let (passed, z) = test-passed (strict a) (got a middle) reason (here a bytes place) b next rest in
        rw (h.follows place a middle first, k a passed) z;
  }

  pub follows-item : (low high high' : ℕ) (reason : Reason) → high ≤ high' → Follows bytes (item (inside low high) reason) (item (inside low high') reason)
  unfolding item
  follows-item low high high' reason w = follows-tested (inside low high) (inside low high') reason _ _ (follows_same number) (λ n. inside-wider low high high' n w)

  module _ (sizes wider : List ℕ) (long : length wider ≡ length sizes) (room : (i : ℕ) → size sizes i ≤ size wider i) where
    pub entries-again : (k least : ℕ) → Follows bytes (entries_of sizes k least) (entries_of wider k least)
    unfolding entries_of
    entries-again zero least = follows_same (give [])
    entries-again (suc k) least = rw long (follows_then _ _ (follows_same (rising 0 (length sizes) least)) (λ i.
        follows_then _ _ (follows-item 0 (size sizes i) (size wider i) Range (room i)) (λ x.
        follows_then _ _ (follows-item 0 (size sizes i) (size wider i) Range (room i)) (λ y.
        follows_then _ _ (entries-again k (suc i)) (λ es. follows_same (give (record { variable = i; before = x; after = y } ∷ es)))))))

    pub operator-again : Follows bytes (operator_of sizes) (operator_of wider)
    unfolding operator_of
    operator-again = rw long (follows_then _ _ (follows_same (item (inside 1 (suc (length sizes))) Range)) (λ k. entries-again k 0))

    pub operators-again : (k : ℕ) → Follows bytes (operators_of sizes k) (operators_of wider k)
    unfolding operators_of
    operators-again zero = follows_same (give [])
    operators-again (suc k) = follows_then _ _ operator-again (λ o. follows_then _ _ (operators-again k) (λ os. follows_same (give (o ∷ os))))

pub built-room : (sizes : List ℕ) (i : ℕ) → size sizes i ≤ size (built_sizes sizes) i
built-room [] i = omega arith
built-room (d ∷ ds) zero = omega arith
built-room (d ∷ ds) (suc i) = built-room ds i

pub operators-built : (bytes sizes : List ℕ) (k : ℕ) → Follows bytes (operators_of sizes k) (operators_of (built_sizes sizes) k)
operators-built bytes sizes k = operators-again sizes (built_sizes sizes) (built-length sizes) (built-room sizes) k

-- ---- what is read is in order

module _ (bytes : List ℕ) where
  pub partial-header-said : Gives bytes partial_header (λ sizes l. ((least_variables ≤ length sizes) × (length sizes ≤ most_variables))
      × ((i : ℕ) → i < length sizes → (least_partial_size ≤ size sizes i) × (size sizes i ≤ most_partial_size)) × (features (built_sizes sizes) ≤ most_features)
      × Exact bytes (counted number_bytes) sizes l)
  unfolding partial_header limited
  partial-header-said =
      gives-known _ (gives-tested (λ ds. leb (features (built_sizes ds)) most_features) Limit (λ ds. numbers_on (length ds)) (size-list-said bytes least_partial_size most_partial_size)) (λ sizes l g.
      let (total, (low, high, each, exact)) = g in ((low, high), each, leb-true (features (built_sizes sizes)) most_features total, exact))

  -- A goal value, by its mark.
  abbrev Goal : ℕ → ℕ → ℕ → List ℕ → Type 0
  Goal d m x l = (x < suc d) × (cond (ltb x d) 1 0 ≡ m) × (Bytes bytes → l ≡ bytes_of number_bytes (cond (ltb x d) (x ∷ []) []))

  goal-value-said : (d m : ℕ) → m < 2 → Gives bytes (cond (eqb m 1) (item (inside 0 d) Range) (give d)) (Goal d m)
  unfolding bytes_of
  goal-value-said d m h = elim (test (eqb m 1)) [
    | on e ↦ rw e (gives-known _ (item-said bytes 0 d Range) (λ x l g. rw (lt-ltb x d g.1) (omega arith, sym (eqb-true m 1 e), λ small. g.2.1 small ∙ sym (append-nil (number_bytes x)))))
    | off e ↦ rw e (gives-give _ (rw (le-ltb d d (omega arith)) (omega arith, omega (arith, eqb-false m 1 e), λ small. refl)))
  ]

  pub goal-said : (sizes marks : List ℕ) → State (replicate (length sizes) 2) marks
      → Gives bytes (goal_of sizes marks) (λ goal l. State (built_sizes sizes) goal × (marks_in sizes goal ≡ marks)
      × (Bytes bytes → l ≡ bytes_of number_bytes (named_in sizes goal)))
  unfolding goal_of marks_in named_in bytes_of
  goal-said [] [] t = gives-give _ (record { full = refl; values = λ i l. absurd (omega arith) }, refl, λ small. refl)
  goal-said [] (m ∷ ms) t = absurd (omega (arith, t.full))
  goal-said (d ∷ ds) [] t = absurd (omega (arith, t.full))
  goal-said (d ∷ ds) (m ∷ ms) t =
      gives_then _ _ (goal-value-said d m (t.values 0 (omega arith))) (λ x l h.
      gives-map (◌∷◌ x) _ (goal-said ds ms (record { full = omega (arith, t.full); values = λ i k. t.values (suc i) (omega arith) })) (λ xs n g. (
        record { full = ap suc g.0.full; values = each_more (λ i. value (x ∷ xs) i < size (built_sizes (d ∷ ds)) i) (length (built_sizes ds)) h.0 g.0.values },
        ap₂ ◌∷◌ h.1 g.1,
        λ small. ap₂ ◌++◌ (h.2 small) (g.2 small) ∙ sym (bytes-join number_bytes (cond (ltb x d) (x ∷ []) []) (named_in ds xs)),
      )))

  pub partial-said : Gives bytes partial_of (λ P l. Ordered P × Exact bytes partial_bytes P l)
  unfolding partial_of partial_bytes list_bytes
  partial-said =
      gives_then _ _ partial-header-said (λ sizes l a.
      gives_then _ _ (values-said bytes (replicate (length sizes) 2)) (λ marks m c.
      gives_then _ _ (values-said bytes sizes) (λ start n d.
      gives_then _ _ (goal-said sizes marks c.0) (λ goal p e.
      gives_then _ _ (feature-list-said bytes plain (atoms sizes) (features sizes) (atoms-room sizes)) (λ pairs q f.
      gives_then _ _ (number-said bytes) (λ k r g.
      gives-ended (λ os. record { sizes = sizes; start = start; goal = goal; pairs = pairs; operators = os }) _ (operators-said bytes sizes k) (λ os s h. (
        record { variables = a.0; each = a.1; total = a.2; start = d.0; goal = e.0; pairs = f.0; operators = h.1 },
        λ small. ap₂ ◌++◌ (a.3 small) (ap₂ ◌++◌ (c.1 small ∙ ap (bytes_of number_bytes) (sym e.1)) (ap₂ ◌++◌ (d.1 small) (ap₂ ◌++◌ (e.2 small)
            (ap₂ ◌++◌ (f.1 small) (exact-counted bytes _ k os r s h.0 g.1 h.2 small))))),
      ))))))))

  pub partial-ends : Ends bytes partial_of
  unfolding partial_of
  partial-ends = ends-then partial_header _ (λ sizes. ends-then (marks_of (length sizes)) _ (λ marks. ends-then (values_of sizes) _ (λ start. ends-then (goal_of sizes marks) _ (λ goal.
      ends-then (feature_list plain (atoms sizes) (features sizes)) _ (λ pairs. ends-then number _ (λ k. ends-then (operators_of sizes k) _ (λ os. ends-ended _)))))))

  -- ---- an accepted partial file

  pub record AcceptedPartial (out : Partial → ℕ → ℕ → Bool) (T : Task) (next : ℕ) : Type 0 where
    pub partial : Partial
    pub read : partial_of bytes 0 ≡ got partial next
    pub ordered : Ordered partial
    pub task : T ≡ built_task partial (out partial)
    pub writable : Writable T
    pub end : next ≡ length bytes
    pub exact : Exact bytes partial_bytes partial bytes
    -- "Such a goal is reached exactly when the partial goal is"; leaving out what is permitted loses no plan.
    pub reached : Permitted partial (out partial) → Reaches T.operators T.start T.goal ↔ Met partial

  -- What was read passed the count, 6 and 7.
  accepted-as : (out : Partial → ℕ → ℕ → Bool) (P : Partial) (next : ℕ) → partial_of bytes 0 ≡ got P next → length (P.operators ++ forgettings P.sizes (out P)) < number_end
      → holds (built_sizes P.sizes) (listed (built_pairs P.sizes (listed P.pairs))) P.start ≡ false
      → all_of (closed (built_sizes P.sizes) (listed (built_pairs P.sizes (listed P.pairs)))) (P.operators ++ forgettings P.sizes (out P)) ≡ true
      → AcceptedPartial out (built_task P (out P)) next
  unfolding built_task
  accepted-as out P next read few free shut =
      let (end, (ok, exact)) = whole-said bytes partial_of _ P next partial-said partial-ends read in
      let file-shut = all-each _ P.operators (λ o m. all-at _ _ shut o (append_left _ m)) in
      record {
        partial = P;
        read = read;
        ordered = ok;
        task = refl;
        writable = record { acceptable = built-acceptable P ok (out P) free file-shut; countable = few };
        end = end;
        exact = exact;
        reached = reached-exactly P ok free file-shut (out P);
      }

  pub accepted-partial : (out : Partial → ℕ → ℕ → Bool) (T : Task) (next : ℕ) → judged_partial out bytes ≡ got T next → AcceptedPartial out T next
  unfolding judged_partial built_task
  accepted-partial out T next e =
      let (P, middle, read, q) = on-got (partial_of bytes 0) _ T next e in
      let U = built_task P (out P) in
      let (few, r) = test-passed (ltb (length U.operators) number_end) _ Outgrown 0 T next q in
      let (free, s) = test-failed (holds U.sizes (listed U.pairs) U.start) _ Held 0 T next r in
      let (shut, z) = test-passed (all_of (closed U.sizes (listed U.pairs)) U.operators) (got U middle) Unclosed 0 T next s in
      let accepted = accepted-as out P middle read (ltb-true _ _ few) free shut in
      subst (λ S. AcceptedPartial out S next) (got-value z) (subst (AcceptedPartial out U) (got-next z) accepted)
