-- What is read of each part of a file is in its range, and was read from the very bytes that are written for it.
use Prim.Native.Nat.{ℕ, zero, suc, ◌+◌, ◌-◌, ◌<◌, ◌≤◌, max}
use Rattle.std.specs.Prelude.{◌≡◌, refl, length, replicate, ltb}
use Rattle.std.proofs.Common.{sym, ◌∙◌, subst}
use Rattle.std.proofs.Math.Path.{ap, ap₂}
use Rattle.std.proofs.Math.Bool.{true, cond}
use Rattle.std.proofs.Math.Logic.{inl, inr}
use mathlib.Core.List.Memᴰ.{cases_cons}
use mathlib.Core.List.Memᴰ.{not-nil}
use mathlib.Core.List.{List, [], ◌∷◌, ◌++◌, Memᴰ as In}
use native.Mathlib.Omega.{arith}
use Rattle.std.proofs.Math.ListN.{get_or}
use Rattle.std.proofs.lemmas.List.{length-replicate, get_or-replicate}
use Rattle.std.proofs.Math.Dec.{leb}
use borrow.Author.Tests.{leb-true, ltb-true}
use Rattle.meaning.specs.Limits.{least_variables, most_variables, least_size, most_size, most_features, number_end}
use Rattle.meaning.specs.Task.{Entry, Operator, State, Entries, IsOperator, Run, size}
use Rattle.meaning.specs.Feature.{features}
use Rattle.meaning.specs.Number.{Reason, Limit, Range, Unordered, got, fault, number, numbers_on, number_bytes}
use Rattle.meaning.specs.File.{inside, item, limited, rising, items_of, sizes_of, size_list, header, values_of, Kind, plain, gapped, mark_of, feature_of, features_of, feature_list, entries_of}
use Rattle.meaning.specs.File.{operator_of, operators_of, InLimits, Taken, bytes_of, counted, entry_bytes, operator_bytes, weight_bytes, numbers_for, list_bytes, mark_bytes}
use Rattle.theory.specs.Search.{and_left, and_right}
use Rattle.theory.specs.Run.{run_none, run_more, run_wider}
use Rattle.theory.specs.Reading.{got-value, got-next, on-got, item-read, test-passed}
use Rattle.theory.specs.Spent.{Bytes, Gives, gives-known, gives_then, gives-map, gives-give, gives-tested, gives-still}
use Rattle.theory.specs.NumberBack.{number-gives}
use Rattle.theory.specs.ReadBack.{entry-apart, said_as, numbers-none, numbers_more, numbers-length}

-- ---- the bytes that were read are those that are written

-- Bytes that were spent on a value are those that are written for it.
abbrev pub Exact : {A : Type 0} → List ℕ → (A → List ℕ) → A → List ℕ → Type 0
Exact bytes write a spent = Bytes bytes → spent ≡ write a

exact_none : {A : Type 0} (bytes : List ℕ) (write : A → List ℕ) → Exact bytes (bytes_of write) [] []
unfolding bytes_of
exact_none bytes write small = refl

exact-more : {A : Type 0} (bytes : List ℕ) (write : A → List ℕ) (a : A) (others : List A) (l m : List ℕ)
    → Exact bytes write a l → Exact bytes (bytes_of write) others m → Exact bytes (bytes_of write) (a ∷ others) (l ++ m)
unfolding bytes_of
exact-more bytes write a others l m h k small = ap₂ ◌++◌ (h small) (k small)

pub exact-counted : {A : Type 0} (bytes : List ℕ) (write : A → List ℕ) (n : ℕ) (things : List A) (l m : List ℕ) → length things ≡ n
    → Exact bytes number_bytes n l → Exact bytes (bytes_of write) things m → Exact bytes (counted write) things (l ++ m)
unfolding counted
exact-counted bytes write n things l m e h k small = ap₂ ◌++◌ (h small ∙ ap number_bytes (sym e)) (k small)

exact-entry : (bytes : List ℕ) (e : Entry) (es : Operator) (l m n p : List ℕ) → Exact bytes number_bytes e.variable l → Exact bytes number_bytes e.before m
    → Exact bytes number_bytes e.after n → Exact bytes (bytes_of entry_bytes) es p → Exact bytes (bytes_of entry_bytes) (e ∷ es) (l ++ (m ++ (n ++ p)))
unfolding bytes_of
exact-entry bytes e es l m n p a b c d small =
    ap₂ ◌++◌ (a small) (ap₂ ◌++◌ (b small) (ap₂ ◌++◌ (c small) (d small))) ∙ sym (entry-apart e (bytes_of entry_bytes es))

-- What holds at the first index and at each later one.
pub each_more : (P : ℕ → Type 0) (n : ℕ) → P 0 → ((i : ℕ) → i < n → P (suc i)) → (i : ℕ) → i < suc n → P i
each_more P n h k zero l = h
each_more P n h k (suc i) l = k i (omega arith)

-- The last of a list, behind another number or not.
last_of : (v : ℕ) (ns : List ℕ) → 1 ≤ length ns → get_or (v ∷ ns) (length ns) 0 ≡ get_or ns (length ns - 1) 0
last_of v [] h = absurd (omega arith)
last_of v (n ∷ ns) h = let k : suc (length ns) - 1 ≡ length ns = omega arith in rw k refl

-- ---- one number

module _ (bytes : List ℕ) where
  -- A number of a file, with its bytes.
  abbrev pub Said : ℕ → List ℕ → Type 0
  Said n l = (n < number_end) × Exact bytes number_bytes n l

  pub number-said : Gives bytes number Said
  unfolding number_bytes
  number-said = gives-known _ (number-gives bytes) (λ n l g. (g.below, g.written))

  pub item-said : (low high : ℕ) (reason : Reason) → Gives bytes (item (inside low high) reason) (λ n l. (low ≤ n) × (n < high) × Said n l)
  unfolding item
  item-said low high reason = gives-known _ (gives-tested (inside low high) reason (λ n s place. place) number-said) (λ n l k.
      (leb-true low n (and_left (leb low n) (ltb n high) k.0), ltb-true n high (and_right (leb low n) (ltb n high) k.0), k.1))

  pub rising-said : (low high least : ℕ) → Gives bytes (rising low high least) (λ n l. (max low least ≤ n) × (n < high) × Said n l)
  unfolding rising
  rising-said low high least = gives-known _ (gives-tested (leb least) Unordered (λ n s place. place) (item-said low high Range)) (λ n l k.
      let (e, (h, m, said)) = k in let o : least ≤ n = leb-true least n e in (omega arith, m, said))

  -- ---- sizes and values

  pub items-said : (low : ℕ) (reason : Reason) (bounds : List ℕ) → Gives bytes (items_of low reason bounds) (λ ns l. (length ns ≡ length bounds)
      × ((i : ℕ) → i < length bounds → (low ≤ get_or ns i 0) × (get_or ns i 0 < get_or bounds i 0)) × Exact bytes (bytes_of number_bytes) ns l)
  unfolding items_of
  items-said low reason [] = gives-give _ (refl, (λ i l. absurd (omega arith)), exact_none bytes number_bytes)
  items-said low reason (bound ∷ bounds) = gives_then _ _ (item-said low bound reason) (λ n l h. gives-map (◌∷◌ n) _ (items-said low reason bounds) (λ ns m g. (
    ap suc g.0,
    each_more (λ i. (low ≤ get_or (n ∷ ns) i 0) × (get_or (n ∷ ns) i 0 < get_or (bound ∷ bounds) i 0)) (length bounds) (h.0, h.1) g.1,
    exact-more bytes number_bytes n ns l m h.2.1 g.2,
  )))

  pub sizes-said : (least most v : ℕ) → Gives bytes (sizes_of least most v) (λ sizes l. (length sizes ≡ v)
      × ((i : ℕ) → i < length sizes → (least ≤ size sizes i) × (size sizes i ≤ most)) × Exact bytes (bytes_of number_bytes) sizes l)
  sizes-said least most v = gives-known _ (items-said least Limit (replicate v (suc most))) (λ sizes l g.
      let long : length sizes ≡ v = g.0 ∙ length-replicate v (suc most) in
      (long, (λ i h. let k = g.1 i (omega arith) in (k.0, omega (arith, k.1, get_or-replicate v i (suc most) 0 (omega arith)))), g.2))

  pub size-list-said : (least most : ℕ) → Gives bytes (size_list least most) (λ sizes l. (least_variables ≤ length sizes) × (length sizes ≤ most_variables)
      × ((i : ℕ) → i < length sizes → (least ≤ size sizes i) × (size sizes i ≤ most)) × Exact bytes (counted number_bytes) sizes l)
  unfolding size_list
  size-list-said least most = gives_then _ _ (item-said least_variables (suc most_variables) Limit) (λ v l h. gives-known _ (sizes-said least most v) (λ sizes m g.
      (omega (arith, h.0, g.0), omega (arith, h.1, g.0), g.1, exact-counted bytes number_bytes v sizes l m g.0 h.2.1 g.2)))

  pub header-within : (least most : ℕ) → 0 < least → most ≤ most_size
      → Gives bytes (header least most) (λ sizes l. InLimits sizes × Exact bytes (counted number_bytes) sizes l × ((i : ℕ) → i < length sizes → least ≤ size sizes i))
  unfolding header limited
  header-within least most above within =
      gives-known _ (gives-tested (λ ds. leb (features ds) most_features) Limit (λ ds. numbers_on (length ds)) (size-list-said least most)) (λ sizes l g.
      let (total, (low, high, each, exact)) = g in (
        record {
          variables = (low, high);
          each = λ i h. let k = each i h in (omega (arith, k.0), omega (arith, k.1));
          total = leb-true (features sizes) most_features total;
        },
        exact,
        λ i h. (each i h).0,
      ))

  pub header-said : Gives bytes (header least_size most_size) (λ sizes l. InLimits sizes × Exact bytes (counted number_bytes) sizes l × Taken sizes)
  header-said = header-within least_size most_size (omega arith) (omega arith)

  -- Numbers behind another: the last of them all is as many numbers behind that one, and reading went on from there.
  items-last : (low : ℕ) (reason : Reason) (bounds : List ℕ) (place v next : ℕ) (ns : List ℕ) (after : ℕ) → number bytes place ≡ got v next
      → items_of low reason bounds bytes next ≡ got ns after → number bytes (numbers_on (length ns) bytes place) ≡ got (get_or (v ∷ ns) (length ns) 0) after
  unfolding items_of numbers_on
  items-last low reason [] place v next ns after e r = rw (← got-value r, ← got-next r) e
  items-last low reason (bound ∷ bounds) place v next ns after e r =
      let (n, middle, p, q) = on-got (item (inside low bound) reason bytes next) _ ns after r in
      let (others, last, rest, w) = on-got (items_of low reason bounds bytes middle) _ ns after q in
      rw (← got-value w, e) (items-last low reason bounds next n middle others after (item-read (inside low bound) reason bytes next n middle p) (rest ∙ ap (got others) (got-next w)))

  -- N is placed at the last size.
  pub sizes-last : (least most place : ℕ) (sizes : List ℕ) (after : ℕ) → size_list least most bytes place ≡ got sizes after
      → number bytes (numbers_on (length sizes) bytes place) ≡ got (size sizes (length sizes - 1)) after
  unfolding size_list
  sizes-last least most place sizes after r =
      let (v, next, p, q) = on-got (item (inside least_variables (suc most_variables)) Limit bytes place) _ sizes after r in
      let first = item-read (inside least_variables (suc most_variables)) Limit bytes place v next p in
      let known = ((size-list-said least most).gives place sizes after r).known in
      items-last least Limit (replicate v (suc most)) place v next sizes after first q ∙ ap (λ n. got n after) (last_of v sizes known.0)

  pub values-said : (sizes : List ℕ) → Gives bytes (values_of sizes) (λ state l. State sizes state × Exact bytes (bytes_of number_bytes) state l)
  values-said sizes = gives-known _ (items-said 0 Range sizes) (λ state l g. (record { full = g.0; values = λ i h. (g.1 i h).1 }, g.2))

  -- ---- features

  -- A feature in its range, with the bytes of the number that stands for it.
  abbrev FeatureSaid : Kind → ℕ → ℕ → ℕ → ℕ → List ℕ → Type 0
  FeatureSaid kind low high least f l = (max low least ≤ f) × (f < high) × Exact bytes (λ g. number_bytes (said_as kind least g)) f l

  pub feature-said : (kind : Kind) (low high least : ℕ) → Gives bytes (feature_of kind low high least) (FeatureSaid kind low high least)
  unfolding feature_of
  feature-said plain low high least = gives-known _ (rising-said low high least) (λ f l k. (k.0, k.1, k.2.1))
  feature-said gapped low high least = gives-still (λ place n s middle. cond (inside low high (least + n)) (got (least + n) middle) (fault Range place)) _ number-said
      (λ n l place middle f next said e.
      let (passed, z) = test-passed (inside low high (least + n)) (got (least + n) middle) Range place f next e in
      (subst (λ g. FeatureSaid gapped low high least g l) (got-value z) (known n l passed said.1), got-next z))
    where
      known : (n : ℕ) (l : List ℕ) → inside low high (least + n) ≡ true → Exact bytes number_bytes n l → FeatureSaid gapped low high least (least + n) l
      known n l passed exact =
          let above : low ≤ least + n = leb-true low (least + n) (and_left (leb low (least + n)) (ltb (least + n) high) passed) in
          let under : least + n < high = ltb-true (least + n) high (and_right (leb low (least + n)) (ltb (least + n) high) passed) in
          let back : n ≡ least + n - least = omega arith in
          (omega arith, under, λ small. exact small ∙ ap number_bytes back)

  -- The bytes of several features, where the first has to be `least` or more.
  abbrev listed_as : Kind → ℕ → List ℕ → List ℕ
  listed_as kind least fs = bytes_of number_bytes (numbers_for kind least fs)

  exact-feature : (kind : Kind) (least f : ℕ) (fs l m : List ℕ) → Exact bytes (λ g. number_bytes (said_as kind least g)) f l → Exact bytes (listed_as kind (suc f)) fs m
      → Exact bytes (listed_as kind least) (f ∷ fs) (l ++ m)
  unfolding bytes_of
  exact-feature kind least f fs l m h k small = rw (numbers_more kind least f fs) (ap₂ ◌++◌ (h small) (k small))

  exact-no-feature : (kind : Kind) (least : ℕ) → Exact bytes (listed_as kind least) [] []
  unfolding bytes_of
  exact-no-feature kind least small = rw (numbers-none kind least)

  features-said : (kind : Kind) (k low high least : ℕ) → low ≤ high → least ≤ high
      → Gives bytes (features_of kind k low high least) (λ fs l. (length fs ≡ k) × Run (max low least) fs high × Exact bytes (listed_as kind least) fs l)
  unfolding features_of
  features-said kind zero low high least h k = gives-give _ (refl, run_none (max low least) high (omega arith), exact-no-feature kind least)
  features-said kind (suc k) low high least h m = gives_then _ _ (feature-said kind low high least) (λ f l g.
      gives-map (◌∷◌ f) _ (features-said kind k low high (suc f) h g.1) (λ fs n r. (
        ap suc r.0,
        run_more (max low least) high f fs g.0 (run_wider (max low (suc f)) high (suc f) high fs (omega arith) (omega arith) r.1),
        exact-feature kind least f fs l n g.2 r.2,
      )))

  exact-list : (kind : Kind) (k : ℕ) (fs l m : List ℕ) → length fs ≡ k → Exact bytes number_bytes k l → Exact bytes (listed_as kind 0) fs m → Exact bytes (list_bytes kind) fs (l ++ m)
  unfolding list_bytes weight_bytes counted
  exact-list kind k fs l m e h r small = ap₂ ◌++◌ (h small ∙ ap number_bytes (sym (numbers-length kind 0 fs ∙ e))) (r small)

  pub feature-list-said : (kind : Kind) (low high : ℕ) → low ≤ high → Gives bytes (feature_list kind low high) (λ fs l. Run low fs high × Exact bytes (list_bytes kind) fs l)
  unfolding feature_list
  feature-list-said kind low high h = gives_then _ _ number-said (λ k l g. gives-known _ (features-said kind k low high 0 h (omega arith)) (λ fs m r.
      (run_wider (max low 0) high low high fs (omega arith) (omega arith) r.1, exact-list kind k fs l m r.0 g.1 r.2)))

  -- The mark of a file's kind.
  pub mark-said : (kind : Kind) → Gives bytes (mark_of kind) (Exact bytes (λ _. mark_bytes kind))
  unfolding mark_of
  mark-said plain = gives-give _ (λ small. refl)
  mark-said gapped = gives-map (λ n. tt) _ (item-said 0 1 Range) (λ n l h small. let z : n ≡ 0 = omega (arith, h.1) in h.2.1 small ∙ ap number_bytes z)

  -- ---- operators

  pub entries-said : (sizes : List ℕ) (k least : ℕ) → Gives bytes (entries_of sizes k least) (λ o l. (length o ≡ k) × Entries sizes least o × Exact bytes (bytes_of entry_bytes) o l)
  unfolding entries_of
  entries-said sizes zero least = gives-give _ (refl, tt, exact_none bytes entry_bytes)
  entries-said sizes (suc k) least = gives_then _ _ (rising-said 0 (length sizes) least) (λ i l g.
      gives_then _ _ (item-said 0 (size sizes i) Range) (λ x m h.
      gives_then _ _ (item-said 0 (size sizes i) Range) (λ y n r.
      gives-map (◌∷◌ (record { variable = i; before = x; after = y })) _ (entries-said sizes k (suc i)) (λ es p u.
      (ap suc u.0, (omega (arith, g.0), g.1, h.1, r.1, u.1), exact-entry bytes (record { variable = i; before = x; after = y }) es l m n p g.2.1 h.2.1 r.2.1 u.2)))))

  pub operator-said : (sizes : List ℕ) → Gives bytes (operator_of sizes) (λ o l. IsOperator sizes o × Exact bytes operator_bytes o l)
  unfolding operator_of operator_bytes
  operator-said sizes = gives_then _ _ (item-said 1 (suc (length sizes)) Range) (λ k l g. gives-known _ (entries-said sizes k 0) (λ o m h.
      (record { filled = omega (arith, g.0, h.0); entries = h.1 }, exact-counted bytes entry_bytes k o l m h.0 g.2.1 h.2)))

  pub operators-said : (sizes : List ℕ) (k : ℕ) → Gives bytes (operators_of sizes k) (λ os l. (length os ≡ k)
      × ((o : Operator) → In o os → IsOperator sizes o) × Exact bytes (bytes_of operator_bytes) os l)
  unfolding operators_of
  operators-said sizes zero = gives-give _ (refl, (λ o m. absurd (not-nil m)), exact_none bytes operator_bytes)
  operators-said sizes (suc k) = gives_then _ _ (operator-said sizes) (λ o l g. gives-map (◌∷◌ o) _ (operators-said sizes k) (λ os m h.
      (ap suc h.0, (λ p z. elim (cases_cons z) [ inl q ↦ rw q g.0 | inr q ↦ h.1 p q ]), exact-more bytes operator_bytes o os l m g.1 h.2)))
