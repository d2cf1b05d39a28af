-- The task that is built for a partial one keeps every rule of tasks. Forgetting operators are never idle and always closed.
use Rattle.std.specs.Prelude.{ℕ, suc, ◌<◌, ◌≡◌, Bool, true, cond}
use Rattle.std.proofs.Math.Path.{refl, ap, ap₂}
use Rattle.std.proofs.Common.{sym, ◌∙◌, arith, ne_of_lt}
use Rattle.std.proofs.Math.Logic.{inl, inr}
use Rattle.std.proofs.Math.Bool.{false, not, ◌&&◌, or-false}
use mathlib.Core.List.Memᴰ.{head as here}
use mathlib.Core.List.{List, [], ◌∷◌, ◌++◌, Memᴰ as In}
use mathlib.Core.List.Memᴰ.{append_cases}
use mathlib.Core.List.Memᴰ.{eq_of_singleton}
use mathlib.Core.List.Memᴰ.{not-nil}
use Rattle.std.proofs.Math.ListN.{length}
use Rattle.meaning.specs.Sets.{Set, some, any_of, two_of, all_of, listed}
use Rattle.meaning.specs.Task.{Entry, Operator, State, Entries, IsOperator, names, value, size}
use Rattle.meaning.specs.Pair.{paired, possible, clashing, stuck, idle, clashing_after, uncovered, closed, holds}
use Rattle.meaning.specs.File.{InLimits, Acceptable}
use Rattle.meaning.specs.Partial.{Partial, built_sizes, built_pairs, forgetting, forgettings, built_task, Ordered}
use Rattle.theory.specs.Truth.{on, off, test}
use Rattle.theory.specs.Search.{any-cong, some-cong, two-cong, and-none-left, and-none-right, or_right, some_at, some-not, any-not, all-at, earlier-left, earlier-right}
use Rattle.theory.specs.Flat.{flat_in, in-flat}
use Rattle.theory.specs.Operators.{unnamed-apart, in-fine, entries-rise}
use Rattle.theory.specs.PartialPairs.{built-length, built-size, built-run, paired-known, paired-unknown}

-- ---- what is in range for the old sizes is for the built ones

pub entries-built : (sizes : List ℕ) (k : ℕ) (o : Operator) → Entries sizes k o → Entries (built_sizes sizes) k o
entries-built sizes k [] h = tt
entries-built sizes k (e ∷ es) h = (
  h.0,
  rw (built-length sizes) h.1,
  rw (built-size sizes e.variable h.1) (omega (arith, h.2)),
  rw (built-size sizes e.variable h.1) (omega (arith, h.3)),
  entries-built sizes (suc e.variable) es h.4,
)

pub operator-built : (sizes : List ℕ) (o : Operator) → IsOperator sizes o → IsOperator (built_sizes sizes) o
operator-built sizes o h = record { filled = h.filled; entries = entries-built sizes 0 o h.entries }

pub state-built : (sizes s : List ℕ) → State sizes s → State (built_sizes sizes) s
state-built sizes s t = record { full = t.full ∙ sym (built-length sizes); values = λ i l. let k = rw (built-length sizes) at l in rw (built-size sizes i k) (omega (arith, t.values i k)) }

module _ (sizes : List ℕ) (pairs : Set) where
  abbrev b : List ℕ
  b = built_sizes sizes

  abbrev ps : Set
  ps = listed (built_pairs sizes pairs)

  -- ---- idle: "unknown" is always possible

  module _ (o : Operator) (h : Entries b 0 o) where
    pub unknown-possible : (u : ℕ) → u < length sizes → names o u ≡ false → possible b ps o u (size sizes u) ≡ true
    unfolding possible
    unknown-possible u l q = ap not (any-not _ o (λ e m.
        let f = in-fine b 0 o e m h in
        let k : e.variable < length sizes = rw (built-length sizes) at f.1 in
        paired-unknown sizes pairs e.variable e.before u (size sizes u) (unnamed-apart o e u m q) k l (rw (built-size sizes e.variable k) at f.2) (omega arith) (λ x y. omega arith)))

    pub never_stuck : stuck b ps o ≡ false
    unfolding stuck
    never_stuck = some-not _ _ (λ u l. let k : u < length sizes = rw (built-length sizes) at l in elim (test (names o u)) [
      | on q ↦ rw q refl
      | off q ↦ rw (q, some_at (size b u) (possible b ps o u) (size sizes u) (rw (built-size sizes u k) (omega arith)) (unknown-possible u k q)) refl
    ])

    pub idle-built : idle b ps o ≡ clashing b ps o
    unfolding idle
    idle-built = rw never_stuck (or-false (clashing b ps o))

  -- An operator of the file, whose values are old ones.
  module _ (o : Operator) (h : Entries sizes 0 o) where
    -- Atoms of two of its entries are listed as a pair where they were.
    entries-paired : (side : Entry → ℕ) → ((e : Entry) → In e o → side e < size sizes e.variable)
        → two_of (λ x y. paired b ps x.variable (side x) y.variable (side y)) o ≡ two_of (λ x y. paired sizes pairs x.variable (side x) y.variable (side y)) o
    entries-paired side r = two-cong _ _ o (λ x y t.
        paired-known sizes pairs _ _ _ _ (ne_of_lt (entries-rise sizes 0 o x y h t)) (in-fine sizes 0 o x (earlier-left t) h).1 (in-fine sizes 0 o y (earlier-right t) h).1
        (r x (earlier-left t)) (r y (earlier-right t)))

    -- It is idle exactly when two of its before atoms were listed as a pair.
    pub clashing-built : clashing b ps o ≡ clashing sizes pairs o
    unfolding clashing
    clashing-built = entries-paired (λ e. e.before) (λ e m. (in-fine sizes 0 o e m h).2)

    clashing-after-built : clashing_after b ps o ≡ clashing_after sizes pairs o
    unfolding clashing_after
    clashing-after-built = entries-paired (λ e. e.after) (λ e m. (in-fine sizes 0 o e m h).3)

    -- An old value of a variable that it does not name is possible where it was.
    possible-built : (u y : ℕ) → u < length sizes → y < size sizes u → names o u ≡ false → possible b ps o u y ≡ possible sizes pairs o u y
    unfolding possible
    possible-built u y l k q = ap not (any-cong _ _ o (λ e m. let f = in-fine sizes 0 o e m h in
        paired-known sizes pairs e.variable e.before u y (unnamed-apart o e u m q) f.1 l f.2 k))

    uncovered-built : uncovered b ps o ≡ uncovered sizes pairs o
    unfolding uncovered some
    uncovered-built = any-cong _ _ o (λ e m. rw (built-length sizes) (some-cong (length sizes) _ _ (λ u l. elim (test (names o u)) [
      | on q ↦ rw q refl
      | off q ↦ rw (q, built-size sizes u l, unknown e m u l q) (or-false _ ∙ some-cong (size sizes u) _ _ (λ y k. let f = in-fine sizes 0 o e m h in
          ap₂ ◌&&◌ (paired-known sizes pairs e.variable e.after u y (unnamed-apart o e u m q) f.1 l f.3 k) (possible-built u y l k q)))
    ])))
      where
        unknown : (e : Entry) → In e o → (u : ℕ) → u < length sizes → names o u ≡ false → paired b ps e.variable e.after u (size sizes u) ≡ false
        unknown e m u l q = let f = in-fine sizes 0 o e m h in
            paired-unknown sizes pairs e.variable e.after u (size sizes u) (unnamed-apart o e u m q) f.1 l (omega (arith, f.3)) (omega arith) (λ _ k. omega arith)

    -- The pairs are closed under it where they were, unless it was idle for want of a possible value.
    pub closed-built : stuck sizes pairs o ≡ false → closed b ps o ≡ closed sizes pairs o
    unfolding closed idle
    closed-built free = rw (never_stuck o (entries-built sizes 0 o h), free, clashing-built, clashing-after-built, uncovered-built) refl

  -- A state of the file holds a listed pair where it did.
  pub holds-built : (s : List ℕ) → State sizes s → holds b ps s ≡ holds sizes pairs s
  unfolding holds
  holds-built s t = rw (built-length sizes) (some-cong (length sizes) _ _ (λ j l. some-cong j _ _ (λ i k.
      paired-known sizes pairs i (value s i) j (value s j) (ne_of_lt k) (omega arith) l (t.values i (omega arith)) (t.values j l))))

  -- ---- forgetting operators

  module _ (i x : ℕ) (l : i < length sizes) (h : x < size sizes i) where
    pub forgetting-operator : IsOperator b (forgetting sizes i x)
    forgetting-operator = record { filled = omega arith; entries = (omega arith, rw (built-length sizes) l, rw (built-size sizes i l) (omega arith), rw (built-size sizes i l) (omega arith), tt) }

    pub forgetting-busy : idle b ps (forgetting sizes i x) ≡ false
    unfolding clashing two_of any_of
    forgetting-busy = idle-built (forgetting sizes i x) forgetting-operator.entries ∙ refl

    covered : uncovered b ps (forgetting sizes i x) ≡ false
    unfolding uncovered
    covered = any-not _ _ (λ e m. rw (eq_of_singleton m) (some-not _ _ (λ u k. elim (test (names (forgetting sizes i x) u)) [
      | on q ↦ rw q refl
      | off q ↦ and-none-right (not (names (forgetting sizes i x) u)) _ (some-not _ _ (λ y t. and-none-left _ _ (other u y (rw (built-length sizes) at k) q t)))
    ])))
      where
        other : (u y : ℕ) → u < length sizes → names (forgetting sizes i x) u ≡ false → y < size b u → paired b ps i (size sizes i) u y ≡ false
        other u y k q t = paired-unknown sizes pairs i (size sizes i) u y (unnamed-apart (forgetting sizes i x) _ u (here refl) q) l k (omega arith)
            (rw (built-size sizes u k) at t) (λ a c. omega arith)

    pub forgetting-closed : closed b ps (forgetting sizes i x) ≡ true
    unfolding closed clashing_after two_of any_of
    forgetting-closed = or_right (idle b ps (forgetting sizes i x)) _ (rw covered refl)

-- Which operators were kept.
pub forgettings-in : (sizes : List ℕ) (out : ℕ → ℕ → Bool) (o : Operator) → In o (forgettings sizes out)
    → (i : ℕ) × (x : ℕ) × (i < length sizes) × (x < size sizes i) × (out i x ≡ false) × (o ≡ forgetting sizes i x)
unfolding forgettings
forgettings-in sizes out o m =
    let (i, l, k) = flat_in (length sizes) _ o m in
    let (x, h, n) = flat_in (size sizes i) _ o k in
    let (e, q) = kept (out i x) (forgetting sizes i x) n in
    (i, x, l, h, e, q)
  where
    kept : (t : Bool) (p : Operator) → In o (cond t [] (p ∷ [])) → (t ≡ false) × (o ≡ p)
    kept true p m = absurd (not-nil m)
    kept false p m = (refl, eq_of_singleton m)

pub in-forgettings : (sizes : List ℕ) (out : ℕ → ℕ → Bool) (i x : ℕ) → i < length sizes → x < size sizes i → out i x ≡ false → In (forgetting sizes i x) (forgettings sizes out)
unfolding forgettings
in-forgettings sizes out i x l h e = in-flat (length sizes) _ i _ l (in-flat (size sizes i) _ x _ h (rw e (here refl)))

-- ---- the built task

module _ (P : Partial) (ok : Ordered P) (out : ℕ → ℕ → Bool) where
  abbrev ds : List ℕ
  ds = P.sizes

  pub built-limits : InLimits (built_sizes ds)
  built-limits = record {
    variables = rw (built-length ds) ok.variables;
    each = λ i l. let k = rw (built-length ds) at l in rw (built-size ds i k) (omega arith, omega (arith, ok.each i k));
    total = ok.total;
  }

  -- 7 is judged on the file's operators alone.
  pub all_closed : all_of (closed (built_sizes ds) (listed (built_pairs ds (listed P.pairs)))) P.operators ≡ true
      → (o : Operator) → In o (P.operators ++ forgettings ds out) → closed (built_sizes ds) (listed (built_pairs ds (listed P.pairs))) o ≡ true
  all_closed shut o m = elim (append_cases P.operators m) [
    | inl k ↦ all-at _ P.operators shut o k
    | inr k ↦ let (i, x, l, h, e, q) = forgettings-in ds out o k in rw q (forgetting-closed ds (listed P.pairs) i x l h)
  ]

  pub built-acceptable : holds (built_sizes ds) (listed (built_pairs ds (listed P.pairs))) P.start ≡ false
      → all_of (closed (built_sizes ds) (listed (built_pairs ds (listed P.pairs)))) P.operators ≡ true → Acceptable (built_task P out)
  unfolding built_task
  built-acceptable free shut = record {
    limits = built-limits;
    taken = λ i l. let k = rw (built-length ds) at l in rw (built-size ds i k) (omega (arith, ok.each i k));
    start = state-built ds P.start ok.start;
    goal = ok.goal;
    pairs = built-run ds (listed P.pairs);
    operators = λ o m. elim (append_cases P.operators m) [
      | inl k ↦ operator-built ds o (ok.operators o k)
      | inr k ↦ let (i, x, l, h, e, q) = forgettings-in ds out o k in rw q (forgetting-operator ds (listed P.pairs) i x l h)
    ];
    free = free;
    closed-under = all_closed shut;
  }
