-- An operator's condition on weights comes to finitely many rows: the change at its base state, and for each other possible value of an
-- unnamed variable the difference that it makes to the change. Weights meet the condition exactly when they meet each row evenly.
use Rattle.std.specs.Prelude.{ℕ, ◌<◌, ◌≡◌, ◌≢◌, ◌↔◌, Bool, true, not, ◌&&◌, cond, length, set}
use Rattle.std.proofs.Math.Path.{refl, ap, ap₂, sym}
use Rattle.std.proofs.Common.{subst, ◌∙◌, arith, ne_of_lt, get_or-set_other}
use Rattle.std.proofs.Math.Logic.{inl, inr}
use Rattle.std.proofs.Math.Bool.{false}
use mathlib.Core.List.Memᴰ.{head as here}
use mathlib.Core.List.Memᴰ.{tail as there}
use mathlib.Core.List.{List, [], ◌∷◌, ◌++◌, flat_map, Memᴰ as In}
use mathlib.Core.List.Memᴰ.{cases_cons}
use mathlib.Core.List.Memᴰ.{eq_of_singleton}
use mathlib.Core.List.Memᴰ.{not-nil}
use mathlib.Core.List.Memᴰ.{append_cases}
use mathlib.Core.List.Memᴰ.{append_left}
use mathlib.Core.List.Memᴰ.{append_right}
use Rattle.std.proofs.Math.ListN.{length-set}
use Rattle.std.proofs.Math.Seq.{get_or-set_same}
use Rattle.std.proofs.Math.Dec.{eqb}
use borrow.Author.Tests.{eqb-true, eqb-false, ne_eqb, not-true, not-false}
use Rattle.meaning.specs.Sets.{◌⊕◌, Set, all_of, some, flat, table}
use Rattle.meaning.specs.Task.{Operator, State, Entries, names, applies, applied, value, size}
use Rattle.meaning.specs.Feature.{features, single, both, true_in, parity}
use Rattle.meaning.specs.Pair.{possible, clashing, stuck, idle}
use Rattle.meaning.specs.Weight.{Considered, Keeps, Allows, Meets}
use Rattle.theory.specs.Truth.{on, off, test, clash, xors, xor_self, xor-false-same}
use Rattle.theory.specs.Search.{all-cong, and_left, and_right, or-none-right, some-none, some-not}
use Rattle.theory.specs.Flat.{in-when, when-in, in-flat, flat_in, length-table, get_d-table}
use Rattle.theory.specs.Parity.{par, dot, par-cong, par-one, par-xor, dot-xor}
use Rattle.theory.specs.Slots.{nothing, found, least, lead, lead-least}
use Rattle.theory.specs.Tells.{Tells, tells-map, tells_all, tells-false}
use Rattle.theory.specs.Group.{two}
use Rattle.theory.specs.Splits.{score-cong, part, fixed, splits}
use Rattle.theory.specs.Numbering.{both-mirror}
use Rattle.theory.specs.Meets.{par-sum, meets-score, parity-dot}
use Rattle.theory.specs.Operators.{before_of, after_of, unnamed-apart, names-range, before-range, applies-value, value-applies, applied-value, state-applied}

-- ---- definitions

-- The features whose truth an operator changes in a state.
unfoldable pub change : List ℕ → Operator → List ℕ → Set
change sizes o s f = true_in sizes (value (applied o s)) f ⊕ true_in sizes (value s) f

-- What weights gain from the value y of an unnamed variable u.
abbrev pub side_part : List ℕ → Operator → Set → ℕ → ℕ → Bool
side_part sizes o w = part two (λ i x. w (single sizes i x)) (λ i x j y. w (both sizes i x j y)) (length sizes) (names o) (before_of o) (after_of o)

-- What they gain from each variable's value in a state; the named ones count in the other part.
abbrev pub unnamed_part : List ℕ → Operator → Set → List ℕ → Set
unnamed_part sizes o w s u = cond (names o u) false (side_part sizes o w u (value s u))

-- What they gain from the named variables alone.
abbrev pub fixed_part : List ℕ → Operator → Set → Bool
fixed_part sizes o w = fixed two (λ i x. w (single sizes i x)) (λ i x j y. w (both sizes i x j y)) (length sizes) (names o) (before_of o) (after_of o)

module _ (sizes : List ℕ) (pairs : Set) where
  -- The before values, and the least possible values elsewhere.
  unfoldable pub base_value : Operator → ℕ → ℕ
  base_value o i = cond (names o i) (before_of o i) (lead (size sizes i) (possible sizes pairs o i))

  unfoldable pub base : Operator → List ℕ
  base o = table (length sizes) (base_value o)

  -- The difference that the value y of the variable u makes to the change.
  unfoldable pub apart : Operator → ℕ → ℕ → Set
  apart o u y f = change sizes o (set (base o) u y) f ⊕ change sizes o (base o) f

  -- An unnamed variable's possible value, other than in the base state.
  unfoldable pub wanted : Operator → ℕ → ℕ → Bool
  wanted o u y = not (names o u) && (possible sizes pairs o u y && not (eqb y (base_value o u)))

  -- The rows of an operator that is not idle.
  unfoldable pub busy_rows : Operator → List Set
  busy_rows o = change sizes o (base o) ∷ flat (length sizes) (λ u. flat (size sizes u) (λ y. cond (wanted o u y) (apart o u y ∷ []) []))

  unfoldable pub rows_of : Operator → List Set
  rows_of o = cond (idle sizes pairs o) [] (busy_rows o)

  unfoldable pub rows_all : List Operator → List Set
  rows_all operators = flat_map rows_of operators

  -- The weights meet the rows evenly.
  pub record Even (o : Operator) (w : Set) : Type 0 where
    pub at_base : dot (features sizes) w (change sizes o (base o)) ≡ false
    pub apart-even : (u y : ℕ) → u < length sizes → y < size sizes u → wanted o u y ≡ true → dot (features sizes) w (apart o u y) ≡ false

-- ---- the change of a state

-- The least passing number is below the bound and passes, if some number does.
pub lead-some : (n : ℕ) (p : Set) → some n p ≡ true → (lead n p < n) × (p (lead n p) ≡ true)
lead-some n p e = elim (least n p) [
  | nothing h ↦ absurd (clash e (some-not n p h))
  | found m l k ↦ rw (lead-least n m p l k) (l, k.member)
]

module _ (sizes : List ℕ) (o : Operator) (h : Entries sizes 0 o) (w : Set) where
  pub change-splits : (s : List ℕ) → State sizes s → applies o s ≡ true
      → dot (features sizes) w (change sizes o s) ≡ fixed_part sizes o w ⊕ par (length sizes) (unnamed_part sizes o w s)
  unfolding change
  change-splits s t a = dot-xor _ w _ _
      ∙ ap₂ ◌⊕◌ (meets-score sizes w _ (state-applied sizes 0 o s h t).values ∙ score-cong two _ _ _ _ _ (λ i l. applied-value sizes 0 o s i h t.full)) (meets-score sizes w _ t.values)
      ∙ splits two _ _ _ _ _ _ (λ i x j y l. ap w (both-mirror sizes i x j y (ne_of_lt l))) (value s) (λ i l q. applies-value sizes 0 o s i h a q)
      ∙ ap (λ b. fixed_part sizes o w ⊕ b) (sym (par-sum _ _))

-- A state's parity is kept exactly when the change is met evenly.
pub kept-even : (sizes : List ℕ) (o : Operator) (w : Set) (s : List ℕ)
    → (parity sizes w (applied o s) ≡ parity sizes w s) ↔ (dot (features sizes) w (change sizes o s) ≡ false)
unfolding change
kept-even sizes o w s = (λ e. split ∙ rw e (xor_self (parity sizes w s)), λ e. xor-false-same _ _ (sym split ∙ e))
  where
    split : dot (features sizes) w (change sizes o s) ≡ parity sizes w (applied o s) ⊕ parity sizes w s
    split = dot-xor _ w _ _ ∙ sym (ap₂ ◌⊕◌ (parity-dot sizes w (applied o s)) (parity-dot sizes w s))

-- What holds of a new value and of the old ones holds of the values of the changed list.
set_value : (P : ℕ → ℕ → Type 0) (s : List ℕ) (u y i : ℕ) → P u y → i < length s → P i (value s i) → P i (value (set s u y) i)
set_value P s u y i p l q = elim (test (eqb i u)) [ on z ↦ own (eqb-true i u z) | off z ↦ rw (get_or-set_other s u i y 0 (eqb-false i u z)) q ]
  where
    own : i ≡ u → P i (value (set s u y) i)
    own z = rw (z, get_or-set_same s u y 0 (omega arith)) p

module _ (sizes : List ℕ) (pairs : Set) (o : Operator) where
  pub wanted-parts : (u y : ℕ) → wanted sizes pairs o u y ≡ true → (names o u ≡ false) × (possible sizes pairs o u y ≡ true) × (y ≢ base_value sizes pairs o u)
  unfolding wanted
  wanted-parts u y e = let k = and_right (not (names o u)) _ e in
      (not-true _ (and_left (not (names o u)) _ e), and_left _ (not (eqb y (base_value sizes pairs o u))) k, eqb-false _ _ (not-true _ (and_right (possible sizes pairs o u y) _ k)))

  pub parts-wanted : (u y : ℕ) → names o u ≡ false → possible sizes pairs o u y ≡ true → y ≢ base_value sizes pairs o u → wanted sizes pairs o u y ≡ true
  unfolding wanted
  parts-wanted u y q p d = rw (q, p, ne_eqb y (base_value sizes pairs o u) d)

  pub base-value : (i : ℕ) → i < length sizes → value (base sizes pairs o) i ≡ base_value sizes pairs o i
  unfolding base
  base-value i l = get_d-table (length sizes) _ i 0 l

  pub base-named : (i : ℕ) → names o i ≡ true → base_value sizes pairs o i ≡ before_of o i
  unfolding base_value
  base-named i q = rw q

  pub base-unnamed : (u : ℕ) → names o u ≡ false → base_value sizes pairs o u ≡ lead (size sizes u) (possible sizes pairs o u)
  unfolding base_value
  base-unnamed u q = rw q

  -- A considered state stays so with another possible value of an unnamed variable.
  pub considered-set : (s : List ℕ) (u y : ℕ) → Considered sizes pairs o s → names o u ≡ false → y < size sizes u → possible sizes pairs o u y ≡ true → Considered sizes pairs o (set s u y)
  unfolding applies
  considered-set s u y c q k p = record {
    is_state = record {
      full = length-set s u y ∙ c.is_state.full;
      values = λ i l. set_value (λ i x. x < size sizes i) s u y i k (omega (arith, c.is_state.full)) (c.is_state.values i l);
    };
    has-before = all-cong _ _ o (λ e m. ap (λ x. eqb x e.before) (get_or-set_other s u e.variable y 0 (unnamed-apart o e u m q))) ∙ c.has-before;
    elsewhere = λ i l n. set_value (λ i x. possible sizes pairs o i x ≡ true) s u y i p (omega (arith, c.is_state.full)) (c.elsewhere i l n);
  }

  module _ (h : Entries sizes 0 o) (busy : idle sizes pairs o ≡ false) where
    -- An unnamed variable has a possible value.
    pub some-possible : (u : ℕ) → u < length sizes → names o u ≡ false → some (size sizes u) (possible sizes pairs o u) ≡ true
    unfolding idle stuck
    some-possible u l q = let e = some-none (length sizes) _ (or-none-right (clashing sizes pairs o) _ busy) u l in not-false _ (rw q at e)

    pub base-other : (u : ℕ) → u < length sizes → names o u ≡ false → (base_value sizes pairs o u < size sizes u) × (possible sizes pairs o u (base_value sizes pairs o u) ≡ true)
    base-other u l q = rw (base-unnamed u q) (lead-some _ _ (some-possible u l q))

    pub base-range : (i : ℕ) → i < length sizes → base_value sizes pairs o i < size sizes i
    base-range i l = elim (test (names o i)) [ on q ↦ rw (base-named i q) (before-range sizes 0 o i h q) | off q ↦ (base-other i l q).0 ]

    pub base-considered : Considered sizes pairs o (base sizes pairs o)
    unfolding base
    base-considered = record {
      is_state = record {
        full = length-table (length sizes) _;
        values = λ i l. rw (base-value i l) (base-range i l);
      };
      has-before = value-applies sizes 0 o _ h (λ i q. base-value i (names-range sizes 0 o i h q) ∙ base-named i q);
      elsewhere = λ u l q. rw (base-value u l) (base-other u l q).1;
    }

    module _ (w : Set) where
      -- One value changed: only that variable's part changes.
      pub diff-part : (u y : ℕ) → u < length sizes → y < size sizes u → names o u ≡ false → possible sizes pairs o u y ≡ true
          → dot (features sizes) w (apart sizes pairs o u y) ≡ side_part sizes o w u y ⊕ side_part sizes o w u (base_value sizes pairs o u)
      unfolding apart
      diff-part u y l k q p = let c = considered-set (base sizes pairs o) u y base-considered q k p in
          dot-xor _ w _ _
          ∙ ap₂ ◌⊕◌ (change-splits sizes o h w _ c.is_state c.has-before) (change-splits sizes o h w _ base-considered.is_state base-considered.has-before)
          ∙ cancel (fixed_part sizes o w) _ _ ∙ sym (par-xor (length sizes) _ _)
          ∙ par-one (length sizes) u _ l (λ i j d. rw (get_or-set_other (base sizes pairs o) u i y 0 d) (xor_self (unnamed_part sizes o w (base sizes pairs o) i)))
          ∙ rw (q, get_or-set_same (base sizes pairs o) u y 0 (omega (arith, base-considered.is_state.full)), base-value u l) refl
        where
          cancel : (f a b : Bool) → (f ⊕ a) ⊕ (f ⊕ b) ≡ a ⊕ b
          cancel f a b = simp xors

      pub keeps-even : Keeps sizes pairs w o → Even sizes pairs o w
      unfolding apart
      keeps-even keeps = record {
        at_base = (kept-even sizes o w _).0 (keeps _ base-considered);
        apart-even = λ u y l k e. let (q, p, d) = wanted-parts u y e in
            dot-xor _ w _ _ ∙ ap₂ ◌⊕◌ ((kept-even sizes o w _).0 (keeps _ (considered-set _ u y base-considered q k p))) ((kept-even sizes o w _).0 (keeps _ base-considered));
      }

      pub even-keeps : Even sizes pairs o w → Keeps sizes pairs w o
      even-keeps even s c = (kept-even sizes o w s).1 (change-splits sizes o h w s c.is_state c.has-before ∙ ap (λ b. fixed_part sizes o w ⊕ b) (par-cong (length sizes) _ _ alike)
          ∙ sym (change-splits sizes o h w _ base-considered.is_state base-considered.has-before) ∙ even.at_base)
        where
          alike : (u : ℕ) → u < length sizes → unnamed_part sizes o w s u ≡ unnamed_part sizes o w (base sizes pairs o) u
          alike u l = elim (test (names o u)) [
            | on q ↦ rw q refl
            | off q ↦ rw (q, base-value u l) (elim (test (eqb (value s u) (base_value sizes pairs o u))) [
              | on z ↦ ap (side_part sizes o w u) (eqb-true _ _ z)
              | off z ↦ let k = c.is_state.values u l in let p = c.elsewhere u l q in
                  xor-false-same _ _ (sym (diff-part u (value s u) l k q p) ∙ even.apart-even u (value s u) l k (parts-wanted u (value s u) q p (eqb-false _ _ z)))
            ])
          ]

    pub rows : (w : Set) → Keeps sizes pairs w o ↔ Even sizes pairs o w
    rows w = (keeps-even w, even-keeps w)

  -- ---- the rows as a list

  pub rows-even : (w : Set) → Even sizes pairs o w ↔ ((r : Set) → In r (busy_rows sizes pairs o) → dot (features sizes) w r ≡ false)
  unfolding busy_rows
  rows-even w = (
    forth,
    λ all. record {
      at_base = all _ (here refl);
      apart-even = λ u y l k e. all _ (there (in-flat _ _ u _ l (in-flat _ _ y _ k (when-in (wanted sizes pairs o u y) _ e (here refl)))));
    },
  )
    where
      forth : Even sizes pairs o w → (r : Set) → In r (busy_rows sizes pairs o) → dot (features sizes) w r ≡ false
      forth even r m = elim (cases_cons m) [
        | inl z ↦ ap (dot (features sizes) w) z ∙ even.at_base
        | inr m ↦ let (u, l, m) = flat_in (length sizes) _ r m in let (y, k, m) = flat_in (size sizes u) _ r m in let (e, m) = in-when (wanted sizes pairs o u y) _ m in
            ap (dot (features sizes) w) (eq_of_singleton m) ∙ even.apart-even u y l k e
      ]

  pub allows-rows : Entries sizes 0 o → (w : Set) → Allows sizes pairs w o ↔ ((r : Set) → In r (rows_of sizes pairs o) → dot (features sizes) w r ≡ false)
  unfolding rows_of
  allows-rows h w = elim (test (idle sizes pairs o)) [
    | on q ↦ (λ a r m. absurd (not-nil (rw q at m)), λ all b. absurd (clash q b))
    | off q ↦ (λ a r m. (rows-even w).0 ((rows h q w).0 (a q)) r (rw q at m), λ all b. (rows h q w).1 ((rows-even w).1 (λ r m. all r (rw q m))))
  ]

pub meets-rows : (sizes : List ℕ) (pairs : Set) (operators : List Operator) → ((o : Operator) → In o operators → Entries sizes 0 o) → (w : Set)
    → Meets sizes pairs operators w ↔ ((r : Set) → In r (rows_all sizes pairs operators) → dot (features sizes) w r ≡ false)
unfolding rows_all flat_map
meets-rows sizes pairs [] h w = (λ meets r m. absurd (not-nil m), λ all o m. absurd (not-nil m))
meets-rows sizes pairs (o ∷ os) h w = step (allows-rows sizes pairs o (h o (here refl)) w) (meets-rows sizes pairs os (λ x m. h x (there m)) w)
  where
    step : Allows sizes pairs w o ↔ ((r : Set) → In r (rows_of sizes pairs o) → dot (features sizes) w r ≡ false)
        → Meets sizes pairs os w ↔ ((r : Set) → In r (rows_all sizes pairs os) → dot (features sizes) w r ≡ false)
        → Meets sizes pairs (o ∷ os) w ↔ ((r : Set) → In r (rows_of sizes pairs o ++ rows_all sizes pairs os) → dot (features sizes) w r ≡ false)
    step own rest = (
      λ meets r m. elim (append_cases (rows_of sizes pairs o) m) [ inl k ↦ own.0 (meets o (here refl)) r k | inr k ↦ rest.0 (λ x i. meets x (there i)) r k ],
      λ all x m. elim (cases_cons m) [
        | inl z ↦ subst (Allows sizes pairs w) (sym z) (own.1 (λ r k. all r (append_left (rows_all sizes pairs os) k)))
        | inr k ↦ rest.1 (λ r i. all r (append_right (rows_of sizes pairs o) i)) x k
      ],
    )

-- The test whether weights meet an operator's condition: no row is met oddly.
unfoldable pub allowed : List ℕ → Set → Set → Operator → Bool
allowed sizes pairs w o = all_of (λ r. not (dot (features sizes) w r)) (rows_of sizes pairs o)

pub tells-allows : (sizes : List ℕ) (pairs w : Set) (o : Operator) → Entries sizes 0 o → Tells (allowed sizes pairs w o) (Allows sizes pairs w o)
unfolding allowed
tells-allows sizes pairs w o h = tells-map (allows-rows sizes pairs o h w).1 (allows-rows sizes pairs o h w).0 (tells_all _ (λ r. dot (features sizes) w r ≡ false) _ (λ r m. tells-false _))
