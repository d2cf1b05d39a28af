-- Good lists of pairs: what no good sublist has, that there is exactly one largest good sublist, and that an operator need be judged again only where a pair that matters to it was taken out.
use Rattle.std.specs.Prelude.{ℕ, zero, suc, ◌<◌, ◌≡◌, ◌≢◌, ◌⊎◌, Bool, true, ◌&&◌, ltb, length}
use Rattle.std.proofs.Math.Path.{refl, ap, ap₂, fun_ext}
use Rattle.std.proofs.Common.{sym, ◌∙◌, subst, arith, ne_of_lt}
use Rattle.std.proofs.Math.Logic.{inl, inr}
use Rattle.std.proofs.Math.Bool.{false, not, ◌||◌}
use mathlib.Core.List.{List, Memᴰ as In}
use Rattle.std.proofs.Math.Dec.{eqb}
use borrow.Author.Tests.{eqb-true, eq-eqb, lt-ltb, not-true, not-false}
use Rattle.meaning.specs.Sets.{Set, count, some, any_of, two_of, listed}
use Rattle.meaning.specs.Task.{Entry, Operator, Task, State, Entries, Run, names, value, size}
use Rattle.meaning.specs.Feature.{atoms, features, single, both}
use Rattle.meaning.specs.Pair.{paired, possible, clashing, stuck, idle, closed, joins_afters, joins_possible, unclosed_pair, holds, held_pair}
use Rattle.meaning.specs.Number.{got}
use Rattle.meaning.specs.File.{operators_of, Writable}
use Rattle.meaning.specs.Mend.{Good, Within, Sublist, Largest, Dropped, mended}
use Rattle.theory.specs.Truth.{on, off, test, clash}
use Rattle.theory.specs.Search.{and_left, and_right, and_both, and-none-left, and-none-right, or_left, or_right, or-either, or-neither, or-none-left, or-none-right, true-together}
use Rattle.theory.specs.Search.{some_at, some-get, some-not, some-none, some-cong, any_at, any-get, any-not, any_none, any-cong, two_at, two-get, two-cong, member, nobody, which_of, earlier-left, earlier-right, listed_in, in-listed}
use Rattle.theory.specs.Run.{members, run_in, run-same, run-members, run_inside, listed-members}
use Rattle.theory.specs.Count.{count_less}
use Rattle.theory.specs.Numbering.{atoms-room, both_below, both-mirror}
use Rattle.theory.specs.Operators.{unnamed-apart, in-fine, entries-rise}
use Rattle.theory.specs.Closed.{closed-by-pairs}
use Rattle.theory.specs.Accepted.{Readable, good-writable}

-- ---- fewer pairs: more is possible, less is idle

module _ (sizes : List ℕ) (fewer pairs : Set) (within : Within fewer pairs) (o : Operator) where
  possible-fewer : (u y : ℕ) → possible sizes pairs o u y ≡ true → possible sizes fewer o u y ≡ true
  unfolding possible paired
  possible-fewer u y e = ap not (any-not _ o (λ x m. elim (test (fewer (both sizes x.variable x.before u y))) [
    | on q ↦ absurd (clash (within _ q) (any_none _ o (not-true _ e) x m))
    | off q ↦ q
  ]))

  -- An operator may stop being idle when pairs go; it never becomes idle.
  idle-fewer : idle sizes fewer o ≡ true → idle sizes pairs o ≡ true
  unfolding idle clashing stuck paired
  idle-fewer e = elim (or-either (clashing sizes fewer o) (stuck sizes fewer o) e) [
    | inl q ↦ let (x, x', r, z) = two-get _ o q in or_left (clashing sizes pairs o) (stuck sizes pairs o) (two_at _ o x x' r (within _ z))
    | inr q ↦ let (u, l, z) = some-get (length sizes) _ q in
        let free = and_left (not (names o u)) (not (some (size sizes u) (possible sizes fewer o u))) z in
        let none = not-true (some (size sizes u) (possible sizes fewer o u)) (and_right (not (names o u)) (not (some (size sizes u) (possible sizes fewer o u))) z) in
        or_right (clashing sizes pairs o) (stuck sizes pairs o) (some_at (length sizes) _ u l (and_both _ _ free
        (ap not (some-not (size sizes u) _ (λ y k. impossible u y (some-none (size sizes u) (possible sizes fewer o u) none y k))))))
  ]
    where
      impossible : (u y : ℕ) → possible sizes fewer o u y ≡ false → possible sizes pairs o u y ≡ false
      impossible u y q = elim (test (possible sizes pairs o u y)) [ on z ↦ absurd (clash (possible-fewer u y z) q) | off z ↦ z ]

  busy-fewer : idle sizes pairs o ≡ false → idle sizes fewer o ≡ false
  busy-fewer q = elim (test (idle sizes fewer o)) [ on z ↦ absurd (clash (idle-fewer z) q) | off z ↦ z ]

  -- A pair that is unclosed stays so.
  unclosed-fewer : (f : ℕ) → unclosed_pair sizes pairs o f ≡ true → unclosed_pair sizes fewer o f ≡ true
  unfolding unclosed_pair joins_afters joins_possible
  unclosed-fewer f e = elim (or-either (joins_afters sizes pairs o f) (joins_possible sizes pairs o f) e) [
    | inl q ↦ or_left (joins_afters sizes fewer o f) (joins_possible sizes fewer o f) q
    | inr q ↦ let (x, m, p) = any-get _ o q in
        let (u, k, z) = some-get (length sizes) _ p in
        let (y, j, c) = some-get (size sizes u) _ (and_right (not (names o u)) _ z) in
        let here = eqb f (both sizes x.variable x.after u y) in
        or_right (joins_afters sizes fewer o f) (joins_possible sizes fewer o f) (any_at _ o x m (some_at (length sizes) _ u k (and_both _ _
        (and_left (not (names o u)) (some (size sizes u) (λ y. eqb f (both sizes x.variable x.after u y) && possible sizes pairs o u y)) z)
        (some_at (size sizes u) _ y j (and_both _ _ (and_left here (possible sizes pairs o u y) c) (possible-fewer u y (and_right here (possible sizes pairs o u y) c)))))))
  ]

-- ---- a state's pairs

-- A listed pair that is held by a state is a pair that the state holds.
pub held-holds : (sizes : List ℕ) (pairs : Set) (state : List ℕ) (f : ℕ) → (pairs f && held_pair sizes state f) ≡ true → holds sizes pairs state ≡ true
unfolding holds held_pair paired
held-holds sizes pairs state f p =
    let (j, l, e) = some-get (length sizes) _ (and_right (pairs f) (held_pair sizes state f) p) in
    let (i, k, q) = some-get j _ e in
    some_at (length sizes) _ j l (some_at j _ i k (ap pairs (sym (eqb-true f _ q)) ∙ and_left (pairs f) (held_pair sizes state f) p))

-- A state holds a listed pair if one of the listed pairs is held by it.
pub holds-by-pairs : (sizes : List ℕ) (pairs : Set) (state : List ℕ) → State sizes state → holds sizes pairs state ≡ some (features sizes) (λ f. pairs f && held_pair sizes state f)
unfolding holds held_pair paired
holds-by-pairs sizes pairs state full = true-together _ _
    (λ t. let (j, l, e) = some-get (length sizes) _ t in
    let (i, k, q) = some-get j _ e in
    some_at (features sizes) _ (both sizes i (value state i) j (value state j)) (both_below sizes i _ j _ (ne_of_lt k) (full.values i (omega arith)) (full.values j l))
    (and_both _ _ q (some_at (length sizes) _ j l (some_at j _ i k (eq-eqb (both sizes i (value state i) j (value state j)) _ refl)))))
    (λ t. let (f, n, p) = some-get (features sizes) _ t in held-holds sizes pairs state f p)

-- ---- an operator to which nothing that went matters

-- A set of atoms has an atom of each pair that was taken out of a list.
abbrev pub Touches : List ℕ → Set → Set → Set → Type 0
Touches sizes before left touched = (i x j y : ℕ) → i ≢ j → i < length sizes → j < length sizes → x < size sizes i → y < size sizes j
    → before (both sizes i x j y) ≡ true → left (both sizes i x j y) ≡ false → touched (single sizes i x) ≡ true

-- An entry's before atom is in a set; an atom of a variable that the operator doesn't name is.
abbrev pub before_in : List ℕ → Set → Entry → Bool
before_in sizes touched e = touched (single sizes e.variable e.before)

unfoldable pub beside_in : List ℕ → Set → Operator → Bool
beside_in sizes touched o = some (length sizes) (λ u. not (names o u) && some (size sizes u) (λ y. touched (single sizes u y)))

-- A pair of the set's atoms may matter to the operator: two of its before atoms, or one of them and an atom of a variable that it doesn't name. Other pairs change neither what
-- is possible nor whether it is idle.
unfoldable pub touched_in : List ℕ → Set → Operator → Bool
touched_in sizes touched o = two_of (λ e e'. before_in sizes touched e && before_in sizes touched e') o || (any_of (before_in sizes touched) o && beside_in sizes touched o)

module _ (sizes : List ℕ) (before left touched : Set) (within : Within left before) (touches : Touches sizes before left touched) (o : Operator) (fine : Entries sizes 0 o)
    (clear : touched_in sizes touched o ≡ false) where
  -- Two atoms not both of which are touched are paired as they were.
  paired-steady : (i x j y : ℕ) → i ≢ j → i < length sizes → j < length sizes → x < size sizes i → y < size sizes j
      → (touched (single sizes i x) ≡ true → touched (single sizes j y) ≡ true → ⊥) → before (both sizes i x j y) ≡ left (both sizes i x j y)
  paired-steady i x j y d l k hx hy untouched = true-together _ _
      (λ t. elim (test (left (both sizes i x j y))) [
        | on q ↦ q
        | off q ↦ let turned = both-mirror sizes i x j y d in
            absurd (untouched (touches i x j y d l k hx hy t q) (touches j y i x (λ e. d (sym e)) k l hy hx (ap before (sym turned) ∙ t) (ap left (sym turned) ∙ q)))
      ])
      (within _)

  possible-steady : (u y : ℕ) → names o u ≡ false → u < length sizes → y < size sizes u → possible sizes before o u y ≡ possible sizes left o u y
  unfolding possible paired touched_in beside_in
  possible-steady u y free l k = ap not (any-cong _ _ o (λ e m. let own = in-fine sizes 0 o e m fine in
      paired-steady e.variable e.before u y (unnamed-apart o e u m free) own.1 l own.2 k (λ p q.
      clash (and_both (any_of (before_in sizes touched) o) (beside_in sizes touched o) (any_at _ o e m p) (some_at (length sizes) _ u l (and_both _ _ (ap not free) (some_at (size sizes u) _ y k q))))
      (or-none-right (two_of (λ e e'. before_in sizes touched e && before_in sizes touched e') o) _ clear))))

  idle-steady : idle sizes before o ≡ idle sizes left o
  unfolding idle clashing stuck paired touched_in
  idle-steady = ap₂ ◌||◌
      (two-cong _ _ o (λ e e' r. let own = in-fine sizes 0 o e (earlier-left r) fine in let other = in-fine sizes 0 o e' (earlier-right r) fine in
      paired-steady e.variable e.before e'.variable e'.before (ne_of_lt (entries-rise sizes 0 o e e' fine r)) own.1 other.1 own.2 other.2 (λ p q.
      clash (two_at _ o e e' r (and_both _ _ p q)) (or-none-left _ (any_of (before_in sizes touched) o && beside_in sizes touched o) clear))))
      (some-cong (length sizes) _ _ (λ u l. elim (test (names o u)) [
        | on q ↦ rw q refl
        | off q ↦ rw q (ap not (some-cong (size sizes u) _ _ (λ y k. possible-steady u y q l k)))
      ]))

  unclosed-steady : (f : ℕ) → unclosed_pair sizes before o f ≡ unclosed_pair sizes left o f
  unfolding unclosed_pair joins_afters joins_possible
  unclosed-steady f = ap (◌||◌ (joins_afters sizes before o f)) (any-cong _ _ o (λ e m. some-cong (length sizes) _ _ (λ u l. elim (test (names o u)) [
    | on q ↦ rw q refl
    | off q ↦ rw q (some-cong (size sizes u) _ _ (λ y k. ap (◌&&◌ (eqb f (both sizes e.variable e.after u y))) (possible-steady u y q l k)))
  ])))

  -- The list that is left is closed under it if none of its pairs was unclosed before,
  pub closed-left : ((f : ℕ) → f < features sizes → left f ≡ true → unclosed_pair sizes before o f ≡ false) → closed sizes left o ≡ true
  closed-left none = closed-by-pairs sizes left o fine ∙ or_right (idle sizes left o) _ (ap not (some-not (features sizes) _ (λ f l. elim (test (left f)) [
    | on q ↦ and-none-right (left f) _ (sym (unclosed-steady f) ∙ none f l q)
    | off q ↦ and-none-left (left f) _ q
  ])))

  -- and so if the list was closed before.
  pub closed-steady : closed sizes before o ≡ true → closed sizes left o ≡ true
  closed-steady shut = elim (or-either (idle sizes before o) _ (sym (closed-by-pairs sizes before o fine) ∙ shut)) [
    | inl q ↦ closed-by-pairs sizes left o fine ∙ or_left (idle sizes left o) _ (sym idle-steady ∙ q)
    | inr q ↦ closed-left (λ f l k. let none = some-none (features sizes) _ (not-true _ q) f l in elim (test (unclosed_pair sizes before o f)) [
      | on z ↦ absurd (clash (and_both (before f) (unclosed_pair sizes before o f) (within f k) z) none)
      | off z ↦ z
    ])
  ]

-- ---- at most one

module _ (T : Task) where
  -- There is at most one largest good sublist, and one list of what is dropped.
  pub largest-only : (a b : List ℕ) → Largest T a → Largest T b → a ≡ b
  largest-only a b p q = run-same _ _ _ _ a b p.sublist.increasing q.sublist.increasing
      (λ f. true-together (listed a f) (listed b f) (q.most a p.sublist p.good f) (p.most b q.sublist q.good f))

  pub dropped-only : (kept a b : List ℕ) → Dropped T kept a → Dropped T kept b → a ≡ b
  dropped-only kept a b p q = run-same _ _ _ _ a b p.sublist.increasing q.sublist.increasing (λ f. p.each f ∙ sym (q.each f))

-- ---- a list without what passes a test

abbrev pub Without : Set → Set → Set → Type 0
Without pairs gone left = (f : ℕ) → left f ≡ (pairs f && not (gone f))

module _ (pairs gone left : Set) (is : Without pairs gone left) where
  pub without-within : Within left pairs
  without-within f e = and_left (pairs f) (not (gone f)) (sym (is f) ∙ e)

  without_gone : (f : ℕ) → pairs f ≡ true → left f ≡ false → gone f ≡ true
  without_gone f p q = elim (test (gone f)) [ on z ↦ z | off z ↦ absurd (clash (is f ∙ and_both (pairs f) (not (gone f)) p (ap not z)) q) ]

  pub without-free : (f : ℕ) → left f ≡ true → gone f ≡ false
  without-free f e = not-true _ (and_right (pairs f) (not (gone f)) (sym (is f) ∙ e))

-- ---- what no good sublist has

module _ (T : Task) (known : Readable T) where
  -- A list that is left of another one and still has every good sublist of it.
  pub record Narrowed (pairs left : Set) : Type 0 where
    pub within : Within left pairs
    pub keeps : (other : Set) → Good T other → Within other pairs → Within other left

  pub narrowed-self : (pairs : Set) → Narrowed pairs pairs
  narrowed-self pairs = record { within = λ f e. e; keeps = λ other g h. h }

  pub narrowed-on : (a b c : Set) → Narrowed a b → Narrowed b c → Narrowed a c
  narrowed-on a b c p q = record { within = λ f e. p.within f (q.within f e); keeps = λ other g h. q.keeps other g (p.keeps other g h) }

  -- A pair is in no good sublist of a list.
  abbrev pub Hopeless : Set → ℕ → Type 0
  Hopeless pairs f = (other : Set) → Good T other → Within other pairs → other f ≡ false

  -- So it may be taken out.
  narrowed-out : (pairs left : Set) → Within left pairs → ((f : ℕ) → pairs f ≡ true → left f ≡ false → Hopeless pairs f) → Narrowed pairs left
  narrowed-out pairs left within out = record {
    within = within;
    keeps = λ other g h f e. elim (test (left f)) [ on q ↦ q | off q ↦ absurd (clash e (out f (h f e) q other g h)) ];
  }

  -- What is unclosed under an operator that is not idle,
  pub unclosed-hopeless : (pairs : Set) (o : Operator) (f : ℕ) → In o T.operators → f < features T.sizes → idle T.sizes pairs o ≡ false → unclosed_pair T.sizes pairs o f ≡ true
      → Hopeless pairs f
  unclosed-hopeless pairs o f m l busy e other good within = elim (test (other f)) [
    | on q ↦ absurd (clash (good.closed-under o m) (closed-by-pairs T.sizes other o (known.operators o m).entries
        ∙ or-neither (idle T.sizes other o) _ (busy-fewer T.sizes other pairs within o busy)
        (ap not (some_at (features T.sizes) _ f l (and_both _ _ q (unclosed-fewer T.sizes other pairs within o f e))))))
    | off q ↦ q
  ]

  -- and what the start holds.
  pub held-hopeless : (pairs : Set) (f : ℕ) → f < features T.sizes → held_pair T.sizes T.start f ≡ true → Hopeless pairs f
  held-hopeless pairs f l e other good within = elim (test (other f)) [
    | on q ↦ absurd (clash (holds-by-pairs T.sizes other T.start known.start ∙ some_at (features T.sizes) _ f l (and_both _ _ q e)) good.free)
    | off q ↦ q
  ]

  -- So a pair that is in no good sublist may be taken out by itself.
  pub hopeless-narrowed : (pairs left : Set) (f : ℕ) → Hopeless pairs f → Without pairs (λ g. eqb g f) left → Narrowed pairs left
  hopeless-narrowed pairs left f hopeless is = narrowed-out pairs left (without-within pairs (λ g. eqb g f) left is)
      (λ g e q. rw (eqb-true g f (without_gone pairs (λ g. eqb g f) left is g e q)) hopeless)

  -- Only features are listed.
  abbrev pub Below : Set → Type 0
  Below pairs = (f : ℕ) → pairs f ≡ true → f < features T.sizes

  pub unclosed-narrowed : (pairs left : Set) (o : Operator) → Below pairs → In o T.operators → idle T.sizes pairs o ≡ false → Without pairs (unclosed_pair T.sizes pairs o) left
      → Narrowed pairs left
  unclosed-narrowed pairs left o below m busy is = let gone = unclosed_pair T.sizes pairs o in
      narrowed-out pairs left (without-within pairs gone left is) (λ f p q. unclosed-hopeless pairs o f m (below f p) busy (without_gone pairs gone left is f p q))

  pub held-narrowed : (pairs left : Set) → Below pairs → Without pairs (held_pair T.sizes T.start) left → Narrowed pairs left
  held-narrowed pairs left below is = let gone = held_pair T.sizes T.start in
      narrowed-out pairs left (without-within pairs gone left is) (λ f p q. held-hopeless pairs f (below f p) (without_gone pairs gone left is f p q))

  pub held-free : (pairs left : Set) → Without pairs (held_pair T.sizes T.start) left → (fewer : Set) → Within fewer left → holds T.sizes fewer T.start ≡ false
  held-free pairs left is fewer within = holds-by-pairs T.sizes fewer T.start known.start ∙ some-not (features T.sizes) _ (λ f l. elim (test (fewer f)) [
    | on q ↦ and-none-right (fewer f) _ (without-free pairs (held_pair T.sizes T.start) left is f (within f q))
    | off q ↦ and-none-left (fewer f) _ q
  ])

  -- ---- the largest good sublist

  pub listed_below : Below (listed T.pairs)
  listed_below f e = (run_in (atoms T.sizes) (features T.sizes) T.pairs f known.pairs (listed_in T.pairs f e)).1

  -- The members of a set of listed pairs are a list of pairs.
  module _ (kept : Set) (within : Within kept (listed T.pairs)) where
    pub kept-listed : listed (members (features T.sizes) kept) ≡ kept
    kept-listed = fun_ext (λ f. listed-members (features T.sizes) kept f ∙ true-together _ _
        (λ e. and_right (ltb f (features T.sizes)) (kept f) e) (λ e. and_both _ _ (lt-ltb f _ (listed_below f (within f e))) e))

    pub kept-sublist : Sublist T (members (features T.sizes) kept)
    kept-sublist = record {
      increasing = run_inside 0 (features T.sizes) (atoms T.sizes) (members (features T.sizes) kept) (atoms-room T.sizes) (run-members _ kept)
          (λ f m. (run_in (atoms T.sizes) (features T.sizes) T.pairs f known.pairs (listed_in T.pairs f (from f (in-listed _ f m)))).0);
      within = from;
    }
      where
        from : Within (listed (members (features T.sizes) kept)) (listed T.pairs)
        from f e = within f (ap (λ s. s f) (sym kept-listed) ∙ e)

  -- A good list that has every good sublist is the largest.
  pub narrowed-largest : (kept : Set) → Narrowed (listed T.pairs) kept → Good T kept → Largest T (members (features T.sizes) kept)
  narrowed-largest kept narrowed good = let same = kept-listed kept narrowed.within in record {
    sublist = kept-sublist kept narrowed.within;
    good = subst (Good T) (sym same) good;
    most = λ other sub g f e. ap (λ s. s f) same ∙ narrowed.keeps (listed other) g sub.within f e;
  }

  -- A list is good, or has a pair that is in no good sublist.
  good-or : (pairs : Set) → Below pairs → Good T pairs ⊎ ((f : ℕ) × (f < features T.sizes) × (pairs f ≡ true) × Hopeless pairs f)
  good-or pairs below = elim (test (holds T.sizes pairs T.start)) [
    | on e ↦ let (f, l, q) = some-get (features T.sizes) _ (sym (holds-by-pairs T.sizes pairs T.start known.start) ∙ e) in
        inr (f, l, and_left (pairs f) (held_pair T.sizes T.start f) q, held-hopeless pairs f l (and_right (pairs f) (held_pair T.sizes T.start f) q))
    | off e ↦ elim (which_of (λ o. not (closed T.sizes pairs o)) T.operators) [
      | member o m q ↦ let open-here = sym (closed-by-pairs T.sizes pairs o (known.operators o m).entries) ∙ not-true _ q in
          let (f, l, z) = some-get (features T.sizes) _ (not-false _ (or-none-right (idle T.sizes pairs o) _ open-here)) in
          inr (
            f,
            l,
            and_left (pairs f) (unclosed_pair T.sizes pairs o f) z,
            unclosed-hopeless pairs o f m l (or-none-left (idle T.sizes pairs o) _ open-here) (and_right (pairs f) (unclosed_pair T.sizes pairs o f) z),
          )
      | nobody h ↦ inl (record { closed-under = λ o m. not-false _ (h o m); free = e })
    ]
  ]

  largest-set : (k : ℕ) (pairs : Set) → Below pairs → count (features T.sizes) pairs < k → (kept : Set) × Narrowed pairs kept × Good T kept
  largest-set zero pairs below l = absurd (omega arith)
  largest-set (suc k) pairs below l = elim (good-or pairs below) [
    | inl good ↦ (pairs, narrowed-self pairs, good)
    | inr h ↦ let (f, small, p, hopeless) = h in
        let left : Set = λ g. pairs g && not (eqb g f) in
        let within = without-within pairs (λ g. eqb g f) left (λ g. refl) in
        let fewer = count_less (features T.sizes) left pairs within f small (and-none-right (pairs f) (not (eqb f f)) (ap not (eq-eqb f f refl))) p in
        let (kept, narrowed, good) = largest-set k left (λ g e. below g (within g e)) (omega (arith, fewer)) in
        (kept, narrowed-on pairs left kept (hopeless-narrowed pairs left f hopeless (λ g. refl)) narrowed, good)
  ]

  -- There is one.
  pub largest-exists : (kept : List ℕ) × Largest T kept
  largest-exists =
      let (kept, narrowed, good) = largest-set (suc (count (features T.sizes) (listed T.pairs))) (listed T.pairs) listed_below (omega arith) in
      (members (features T.sizes) kept, narrowed-largest kept narrowed good)

  -- What is not kept is a list.
  pub dropped-exists : (kept : List ℕ) → (dropped : List ℕ) × Dropped T kept dropped
  dropped-exists kept =
      let gone : Set = λ f. listed T.pairs f && not (listed kept f) in
      let within : Within gone (listed T.pairs) = λ f e. and_left (listed T.pairs f) (not (listed kept f)) e in
      (members (features T.sizes) gone, record { sublist = kept-sublist gone within; each = λ f. ap (λ s. s f) (kept-listed gone within) })

  -- A good list is its own largest good sublist:
  pub good-largest : Good T (listed T.pairs) → Largest T T.pairs
  good-largest good = record { sublist = record { increasing = known.pairs; within = λ f e. e }; good = good; most = λ other sub g. sub.within }

  -- "a good list comes back unchanged"
  pub good-unchanged : (kept : List ℕ) → Good T (listed T.pairs) → Largest T kept → kept ≡ T.pairs
  good-unchanged kept good largest = largest-only T kept T.pairs largest (good-largest good)

  -- With another list of pairs the task keeps the same rules,
  pub listed-readable : (pairs : List ℕ) → Run (atoms T.sizes) pairs (features T.sizes) → Readable (mended T pairs)
  listed-readable pairs increasing = record {
    limits = known.limits;
    taken = known.taken;
    start = known.start;
    goal = known.goal;
    pairs = increasing;
    operators = known.operators;
    countable = known.countable;
  }

  -- and so does the mended task.
  mended-readable : (kept : List ℕ) → Largest T kept → Readable (mended T kept)
  mended-readable kept largest = listed-readable kept largest.sublist.increasing

  -- Its list is good, so it can be written.
  pub mended-writable : (kept : List ℕ) → Largest T kept → Writable (mended T kept)
  mended-writable kept largest = good-writable (mended T kept) (mended-readable kept largest) (record { closed-under = largest.good.closed-under; free = largest.good.free })

-- ---- a task by the parts of its file

-- A task that was read: its sizes, its start and the set of its listed pairs, and where its operators stand in the bytes.
pub record ReadAs (T : Task) (bytes : List ℕ) (at count end : ℕ) (sizes start : List ℕ) (pairs : Set) : Type 0 where
  pub known : Readable T
  pub sizes-are : sizes ≡ T.sizes
  pub start_is : start ≡ T.start
  pub pairs-are : pairs ≡ listed T.pairs
  pub operators : operators_of T.sizes count bytes at ≡ got T.operators end
