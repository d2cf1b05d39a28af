-- Closed lists pair by pair: a list is closed under an operator if the operator is idle or no listed pair is unclosed; and a pair is unclosed by its two atoms.
use Rattle.std.specs.Prelude.{ℕ, ◌<◌, ◌≡◌, Bool, ◌&&◌, cond, length}
use Rattle.std.proofs.Math.Path.{refl, sym, ap}
use Rattle.std.proofs.Common.{ap₂, ◌∙◌, arith, ne_of_lt, eqb-true, eq-eqb, ne_eqb}
use Rattle.std.proofs.Math.Logic.{inl, inr}
use Rattle.std.proofs.Math.Bool.{true, false, not, ◌||◌, and-or_distrib_left}
use mathlib.Core.List.{List, Memᴰ as In}
use Rattle.std.proofs.Math.Dec.{eqb}
use Rattle.std.proofs.lemmas.Bool.{not-true}
use Rattle.meaning.specs.Sets.{Set, some}
use Rattle.meaning.specs.Task.{Entry, Operator, Entries, names, size}
use Rattle.meaning.specs.Feature.{atoms, features, both, double}
use Rattle.meaning.specs.Pair.{paired, possible, idle, clashing_after, uncovered, closed, joins_afters, joins_possible, unclosed_pair}
use Rattle.theory.specs.Truth.{Test, on, off, test, clash, less, same, more, order}
use Rattle.theory.specs.Search.{and_left, and_right, and_both, and-none-left, and-none-right, or_left, or_right, or-either, or-neither, true-together}
use Rattle.theory.specs.Search.{some_at, some-get, some-not, some-cong, some_or, any_at, any-get, any-not, two_at, two-get, two-not, earlier-left, earlier-right}
use Rattle.theory.specs.Numbering.{both_below, both-above, both-less, both-more, double-only}
use Rattle.theory.specs.Operators.{after_of, names_in, unnamed-apart, entry_of, in-fine, entries-rise, entries-earlier, field_at}

-- A listed pair is unclosed under the operator.
abbrev pub listed_unclosed : List ℕ → Set → Operator → ℕ → Bool
listed_unclosed sizes pairs o f = pairs f && unclosed_pair sizes pairs o f

-- An operator leaves value x of variable i: it gives that value; or it doesn't name the variable, and the value is possible.
unfoldable pub leaves : List ℕ → Set → Operator → ℕ → ℕ → Bool
leaves sizes pairs o i x = cond (names o i) (eqb (after_of o i) x) (possible sizes pairs o i x)

neither : (a b : Bool) → (not a && not b) ≡ not (a || b)
neither true b = refl
neither false b = refl

-- ---- no single atom is unclosed

pub unclosed-above : (sizes : List ℕ) (pairs : Set) (o : Operator) (f : ℕ) → f < atoms sizes → unclosed_pair sizes pairs o f ≡ false
unfolding unclosed_pair joins_afters joins_possible
unclosed-above sizes pairs o f l = or-neither (joins_afters sizes pairs o f) (joins_possible sizes pairs o f)
    (two-not _ o (λ e e' t. apart e.variable e.after e'.variable e'.after))
    (any-not _ o (λ e m. some-not _ _ (λ u k. and-none-right (not (names o u)) _ (some-not _ _ (λ y j. and-none-left _ _ (apart e.variable e.after u y))))))
  where
    apart : (i x j y : ℕ) → eqb f (both sizes i x j y) ≡ false
    apart i x j y = ne_eqb f (both sizes i x j y) (λ q. omega (arith, both-above sizes i x j y))

module _ (sizes : List ℕ) (pairs : Set) (o : Operator) (fine : Entries sizes 0 o) where
  -- ---- no number past all features is

  pub unclosed-below : (f : ℕ) → unclosed_pair sizes pairs o f ≡ true → f < features sizes
  unfolding unclosed_pair joins_afters joins_possible
  unclosed-below f t = elim (or-either (joins_afters sizes pairs o f) (joins_possible sizes pairs o f) t) [
    | inl q ↦ let (e, e', r, z) = two-get _ o q in
        rw (eqb-true f _ z) (both_below sizes _ _ _ _ (ne_of_lt (entries-rise sizes 0 o e e' fine r)) (in-fine sizes 0 o e (earlier-left r) fine).3 (in-fine sizes 0 o e' (earlier-right r) fine).3)
    | inr q ↦ let (e, m, a) = any-get _ o q in
        let (u, k, b) = some-get (length sizes) _ a in
        let free = and_left (not (names o u)) (some (size sizes u) (λ y. eqb f (both sizes e.variable e.after u y) && possible sizes pairs o u y)) b in
        let (y, j, c) = some-get (size sizes u) _ (and_right (not (names o u)) _ b) in
        rw (eqb-true f _ (and_left (eqb f (both sizes e.variable e.after u y)) (possible sizes pairs o u y) c))
        (both_below sizes _ _ _ _ (unnamed-apart o e u m (not-true _ free)) (in-fine sizes 0 o e m fine).3 j)
  ]

  -- ---- closed by pairs

  -- Two after atoms are paired if a listed pair joins two.
  afters-joined : clashing_after sizes pairs o ≡ some (features sizes) (λ f. pairs f && joins_afters sizes pairs o f)
  unfolding joins_afters clashing_after paired
  afters-joined = true-together _ _
      (λ t. let (e, e', r, q) = two-get _ o t in
      some_at (features sizes) _ (both sizes e.variable e.after e'.variable e'.after)
      (both_below sizes _ _ _ _ (ne_of_lt (entries-rise sizes 0 o e e' fine r)) (in-fine sizes 0 o e (earlier-left r) fine).3 (in-fine sizes 0 o e' (earlier-right r) fine).3)
      (and_both _ _ q (two_at _ o e e' r (eq-eqb (both sizes e.variable e.after e'.variable e'.after) _ refl))))
      (λ t. let (f, l, q) = some-get (features sizes) _ t in
      let (e, e', r, z) = two-get _ o (and_right (pairs f) (joins_afters sizes pairs o f) q) in
      two_at _ o e e' r (ap pairs (sym (eqb-true f _ z)) ∙ and_left (pairs f) (joins_afters sizes pairs o f) q))

  -- So it is with an after atom and an uncovered one.
  possible-joined : uncovered sizes pairs o ≡ some (features sizes) (λ f. pairs f && joins_possible sizes pairs o f)
  unfolding joins_possible uncovered paired
  possible-joined = true-together _ _
      (λ t. let (e, m, a) = any-get _ o t in
      let (u, k, b) = some-get (length sizes) _ a in
      let free = and_left (not (names o u)) (some (size sizes u) (λ y. pairs (both sizes e.variable e.after u y) && possible sizes pairs o u y)) b in
      let (y, j, c) = some-get (size sizes u) _ (and_right (not (names o u)) _ b) in
      let f = both sizes e.variable e.after u y in
      some_at (features sizes) _ f (both_below sizes _ _ _ _ (unnamed-apart o e u m (not-true _ free)) (in-fine sizes 0 o e m fine).3 j)
      (and_both _ _ (and_left (pairs f) (possible sizes pairs o u y) c)
      (any_at _ o e m (some_at (length sizes) _ u k (and_both _ _ free (some_at (size sizes u) _ y j
      (and_both _ _ (eq-eqb f _ refl) (and_right (pairs f) (possible sizes pairs o u y) c))))))))
      (λ t. let (f, l, q) = some-get (features sizes) _ t in
      let (e, m, a) = any-get _ o (and_right (pairs f) (joins_possible sizes pairs o f) q) in
      let (u, k, b) = some-get (length sizes) _ a in
      let (y, j, c) = some-get (size sizes u) _ (and_right (not (names o u)) _ b) in
      let here = eqb f (both sizes e.variable e.after u y) in
      any_at _ o e m (some_at (length sizes) _ u k (and_both _ _
      (and_left (not (names o u)) (some (size sizes u) (λ y. eqb f (both sizes e.variable e.after u y) && possible sizes pairs o u y)) b)
      (some_at (size sizes u) _ y j (and_both _ _
      (ap pairs (sym (eqb-true f _ (and_left here (possible sizes pairs o u y) c))) ∙ and_left (pairs f) (joins_possible sizes pairs o f) q)
      (and_right here (possible sizes pairs o u y) c))))))

  -- A listed pair is unclosed if it joins one or the other.
  either-joined : some (features sizes) (listed_unclosed sizes pairs o)
      ≡ (some (features sizes) (λ f. pairs f && joins_afters sizes pairs o f) || some (features sizes) (λ f. pairs f && joins_possible sizes pairs o f))
  unfolding unclosed_pair
  either-joined = some-cong (features sizes) _ _ (λ f l. and-or_distrib_left (pairs f) (joins_afters sizes pairs o f) (joins_possible sizes pairs o f)) ∙ some_or (features sizes) _ _

  -- "The list is closed under an operator if it is idle, or" no listed pair is unclosed under it.
  pub closed-by-pairs : closed sizes pairs o ≡ (idle sizes pairs o || not (some (features sizes) (listed_unclosed sizes pairs o)))
  unfolding closed
  closed-by-pairs = ap (◌||◌ (idle sizes pairs o)) (neither (clashing_after sizes pairs o) (uncovered sizes pairs o)
      ∙ ap not (ap₂ ◌||◌ afters-joined possible-joined ∙ sym either-joined))

  -- ---- a pair by its two atoms

  leaves_after : (e : Entry) (i x : ℕ) → In e o → i ≡ e.variable → x ≡ e.after → leaves sizes pairs o i x ≡ true
  unfolding leaves
  leaves_after e i x m p q = rw (p, q, names_in o e m, field_at sizes (λ e. e.after) 0 o e m fine) (eq-eqb e.after _ refl)

  leaves-possible : (u y : ℕ) → names o u ≡ false → leaves sizes pairs o u y ≡ possible sizes pairs o u y
  unfolding leaves
  leaves-possible u y q = rw q refl

  after-left : (i x : ℕ) → names o i ≡ true → leaves sizes pairs o i x ≡ true → (e : Entry) × In e o × (i ≡ e.variable) × (x ≡ e.after)
  unfolding leaves
  after-left i x q t = let (e, m, z) = entry_of o i q in
      (e, m, sym z, sym (eqb-true (after_of o i) x (rw q at t)) ∙ ap (after_of o) (sym z) ∙ field_at sizes (λ e. e.after) 0 o e m fine)

  module _ (i x j y : ℕ) (l : i < j) (k : j < length sizes) (hx : x < size sizes i) (hy : y < size sizes j) where
    same-feature : {i' x' j' y' : ℕ} → i ≡ i' → x ≡ x' → j ≡ j' → y ≡ y' → double sizes i x j y ≡ double sizes i' x' j' y'
    same-feature a b c d = rw (a, b, c, d) refl

    abbrev joined : Bool
    joined = (names o i || names o j) && (leaves sizes pairs o i x && leaves sizes pairs o j y)

    joined_by : (names o i || names o j) ≡ true → leaves sizes pairs o i x ≡ true → leaves sizes pairs o j y ≡ true → joined ≡ true
    joined_by n a b = and_both (names o i || names o j) _ n (and_both (leaves sizes pairs o i x) (leaves sizes pairs o j y) a b)

    names-first : (e : Entry) → In e o → i ≡ e.variable → (names o i || names o j) ≡ true
    names-first e m q = or_left (names o i) (names o j) (ap (names o) q ∙ names_in o e m)

    names-second : (e : Entry) → In e o → j ≡ e.variable → (names o i || names o j) ≡ true
    names-second e m q = or_right (names o i) (names o j) (ap (names o) q ∙ names_in o e m)

    leaves_at : (u y z w : ℕ) → z ≡ u → w ≡ y → names o u ≡ false → possible sizes pairs o u y ≡ true → leaves sizes pairs o z w ≡ true
    leaves_at u y z w p q n t = rw (p, q) (leaves-possible u y n ∙ t)

    -- Two after atoms.
    joined-afters : joins_afters sizes pairs o (double sizes i x j y) ≡ true → joined ≡ true
    unfolding joins_afters
    joined-afters t = let (e, e', r, z) = two-get _ o t in
        let m = earlier-left r in
        let m' = earlier-right r in
        let rise = entries-rise sizes 0 o e e' fine r in
        let (a, b, c, d) = double-only sizes i x j y e.variable e.after e'.variable e'.after l rise hx hy (in-fine sizes 0 o e m fine).3 (in-fine sizes 0 o e' m' fine).3
        (eqb-true _ _ z ∙ both-less sizes _ _ _ _ rise) in
        joined_by (names-first e m a) (leaves_after e i x m a b) (leaves_after e' j y m' c d)

    -- An after atom and a possible one, in one order or the other.
    joined-possible : joins_possible sizes pairs o (double sizes i x j y) ≡ true → joined ≡ true
    unfolding joins_possible
    joined-possible t = let (e, m, a) = any-get _ o t in
        let (u, ku, b) = some-get (length sizes) _ a in
        let free = and_left (not (names o u)) (some (size sizes u) (λ w. eqb (double sizes i x j y) (both sizes e.variable e.after u w) && possible sizes pairs o u w)) b in
        let (w, kw, c) = some-get (size sizes u) _ (and_right (not (names o u)) _ b) in
        let here = eqb (double sizes i x j y) (both sizes e.variable e.after u w) in
        by e u w m kw (not-true _ free) (eqb-true _ _ (and_left here (possible sizes pairs o u w) c)) (and_right here (possible sizes pairs o u w) c)
      where
        by : (e : Entry) (u w : ℕ) → In e o → w < size sizes u → names o u ≡ false → double sizes i x j y ≡ both sizes e.variable e.after u w
            → possible sizes pairs o u w ≡ true → joined ≡ true
        by e u w m kw n z t = elim (order e.variable u) [
          | less q ↦ let (a, b, c, d) = double-only sizes i x j y e.variable e.after u w l q hx hy (in-fine sizes 0 o e m fine).3 kw (z ∙ both-less sizes _ _ _ _ q) in
              joined_by (names-first e m a) (leaves_after e i x m a b) (leaves_at u w j y c d n t)
          | same q ↦ absurd (unnamed-apart o e u m n q)
          | more q ↦ let (a, b, c, d) = double-only sizes i x j y u w e.variable e.after l q hx hy kw (in-fine sizes 0 o e m fine).3 (z ∙ both-more sizes _ _ _ _ q) in
              joined_by (names-second e m c) (leaves_at u w i x a b n t) (leaves_after e j y m c d)
        ]

    afters-at : names o i ≡ true → names o j ≡ true → leaves sizes pairs o i x ≡ true → leaves sizes pairs o j y ≡ true → joins_afters sizes pairs o (double sizes i x j y) ≡ true
    unfolding joins_afters
    afters-at n n' t t' = let (e, m, a, b) = after-left i x n t in
        let (e', m', c, d) = after-left j y n' t' in
        let rise : e.variable < e'.variable = omega (arith, a, c) in
        two_at _ o e e' (entries-earlier sizes 0 o e e' fine m m' rise) (eq-eqb (double sizes i x j y) _ (same-feature a b c d ∙ sym (both-less sizes _ _ _ _ rise)))

    possible-put : (e : Entry) (u w : ℕ) → In e o → u < length sizes → w < size sizes u → names o u ≡ false → leaves sizes pairs o u w ≡ true
        → double sizes i x j y ≡ both sizes e.variable e.after u w → joins_possible sizes pairs o (double sizes i x j y) ≡ true
    unfolding joins_possible
    possible-put e u w m ku kw n t z = any_at _ o e m (some_at (length sizes) _ u ku (and_both _ _ (ap not n)
        (some_at (size sizes u) _ w kw (and_both _ _ (eq-eqb (double sizes i x j y) _ z) (sym (leaves-possible u w n) ∙ t)))))

    -- A pair is unclosed if the operator names one of its variables and leaves both its atoms.
    pub unclosed_at : unclosed_pair sizes pairs o (double sizes i x j y) ≡ joined
    unfolding unclosed_pair
    unclosed_at = true-together _ _
        (λ t. elim (or-either (joins_afters sizes pairs o (double sizes i x j y)) (joins_possible sizes pairs o (double sizes i x j y)) t) [
          | inl q ↦ joined-afters q
          | inr q ↦ joined-possible q
        ])
        (λ t. let n = and_left (names o i || names o j) (leaves sizes pairs o i x && leaves sizes pairs o j y) t in
        let both' = and_right (names o i || names o j) (leaves sizes pairs o i x && leaves sizes pairs o j y) t in
        by n (and_left (leaves sizes pairs o i x) (leaves sizes pairs o j y) both') (and_right (leaves sizes pairs o i x) (leaves sizes pairs o j y) both') (test (names o i)) (test (names o j)))
      where
        by : (names o i || names o j) ≡ true → leaves sizes pairs o i x ≡ true → leaves sizes pairs o j y ≡ true → Test (names o i) → Test (names o j)
            → (joins_afters sizes pairs o (double sizes i x j y) || joins_possible sizes pairs o (double sizes i x j y)) ≡ true
        by n a b (on p) (on q) = or_left _ _ (afters-at p q a b)
        by n a b (on p) (off q) = let (e, m, c, d) = after-left i x p a in
            or_right (joins_afters sizes pairs o (double sizes i x j y)) _ (possible-put e j y m k hy q b (same-feature c d refl refl ∙ sym (both-less sizes e.variable e.after j y (omega (arith, c)))))
        by n a b (off p) (on q) = let (e, m, c, d) = after-left j y q b in
            or_right (joins_afters sizes pairs o (double sizes i x j y)) _ (possible-put e i x m (omega arith) hx p a (same-feature refl refl c d ∙ sym (both-more sizes e.variable e.after i x (omega (arith, c)))))
        by n a b (off p) (off q) = absurd (clash n (or-neither _ _ p q))
