-- Sums over the named variables as walks over the entries of an operator; so each row is made by toggling features, a few for each entry.
use Prim.Native.Nat.{ℕ, zero, suc, ◌<◌, ◌≤◌}
use Rattle.std.specs.Prelude.{◌≡◌, refl, ◌≢◌, true, false, ◌&&◌, length, get_or, eqb}
use Rattle.std.proofs.Common.{ap, ◌∙◌, arith, eq-eqb, ne_eqb}
use Rattle.std.proofs.Math.Path.{ap₂, sym}
use Rattle.std.proofs.Math.Bool.{Bool, cond, and-true, and-false}
use mathlib.Core.List.{List, [], ◌∷◌, Memᴰ as In}
use Rattle.meaning.specs.Sets.{◌⊕◌, Set, flat, listed}
use Rattle.meaning.specs.Task.{Entry, Operator, State, Entries, names, applied, value}
use Rattle.meaning.specs.Feature.{features, single, both, true_in}
use Rattle.theory.specs.Truth.{on, off, test, less, same, more, order, clash}
use Rattle.theory.specs.Search.{listed_in}
use Rattle.theory.specs.Flat.{get_d-in, in-get_d}
use Rattle.theory.specs.Parity.{par, dot, par-cong, par-none, par-one, dot-par, dot-one}
use Rattle.theory.specs.Group.{two, sum}
use Rattle.theory.specs.Splits.{beside, part, fixed₁, fixed₂, fixed}
use Rattle.theory.specs.Meets.{par-sum, par-tri}
use Rattle.theory.specs.Operators.{before_of, after_of, names_in, entry_of, in-fine, field_at, state-applied}
use Rattle.theory.specs.GridRule.{kinds_of, grid_sum, grid-pair}
use Rattle.theory.specs.Rows.{change, side_part, fixed_part}
use Rattle.theory.specs.TrueList.{true_list, run-true, listed-true}
use Rattle.theory.specs.Run.{run_in}
use Rattle.theory.specs.Toggles.{xor_of, xor-two, xor-flat}

-- The entry at a place of an operator.
abbrev pub entry_at : Operator → ℕ → Entry
entry_at o k = get_or o k (record { variable = 0; before = 0; after = 0 })

-- ---- which features make a row

-- A family of features (variable, value): what an entry turns, after and before, and what all entries turn.
abbrev pub turned : (ℕ → ℕ → ℕ) → Entry → List ℕ
turned feature e = feature e.variable e.after ∷ feature e.variable e.before ∷ []

unfoldable pub walk : (ℕ → ℕ → ℕ) → Operator → List ℕ
walk feature o = flat (length o) (λ k. turned feature (entry_at o k))

module _ (sizes : List ℕ) where
  -- What two entries turn together, and what all pairs of entries turn.
  abbrev pub turned_both : Entry → Entry → List ℕ
  turned_both e e' = both sizes e.variable e.after e'.variable e'.after ∷ both sizes e.variable e.before e'.variable e'.before ∷ []

  unfoldable pub doubles_of : Operator → List ℕ
  doubles_of o = flat (length o) (λ l. flat l (λ k. turned_both (entry_at o k) (entry_at o l)))

  -- These pairs of features are what the grid gives, for two entries and for an entry beside an unnamed variable, which keeps its value.
  pub turned-grid : (w : Set) (e e' : Entry) → xor_of w (turned_both e e')
      ≡ grid_sum (λ x y. w (both sizes e.variable x e'.variable y)) (kinds_of e.before e.after) (kinds_of e'.before e'.after)
  turned-grid w e e' = xor-two w _ _ ∙ sym (grid-pair _ e.before e.after e'.before e'.after)

  pub side-grid : (w : Set) (u y : ℕ) (e : Entry) → xor_of w (turned (both sizes u y) e)
      ≡ grid_sum (λ x z. w (both sizes u x e.variable z)) (kinds_of y y) (kinds_of e.before e.after)
  side-grid w u y e = xor-two w _ _ ∙ sym (grid-pair _ y y e.before e.after)

-- ---- sums over places

-- A sum over the numbers that rising places name is a sum over the places.
pub by-places : (n m : ℕ) (place : ℕ → ℕ) (named h : Set) → ((k l : ℕ) → k < l → l < m → place k < place l) → ((k : ℕ) → k < m → place k < n)
    → ((k : ℕ) → k < m → named (place k) ≡ true) → ((i : ℕ) → i < n → named i ≡ true → (k : ℕ) × (k < m) × (place k ≡ i))
    → par n (λ i. cond (named i) (h i) false) ≡ par m (λ k. h (place k))
unfolding dot
by-places n m place named h rises inside held reached =
    par-cong n _ (λ i. h i && par m (λ k. eqb i (place k))) (λ i l. taken i l) ∙ dot-par n m h (λ k i. eqb i (place k)) ∙ par-cong m _ _ (λ k l. dot-one n (place k) h (inside k l))
  where
    apart-places : (k l : ℕ) → k < m → l < m → k ≢ l → place l ≢ place k
    apart-places k l p q d = elim (order k l) [ less r ↦ λ z. omega (arith, rises k l r q) | same r ↦ absurd (d r) | more r ↦ λ z. omega (arith, rises l k r p) ]

    hit : (i : ℕ) → (k : ℕ) × (k < m) × (place k ≡ i) → par m (λ k. eqb i (place k)) ≡ true
    hit i (k, j, z) = par-one m k _ j (λ l r d. ne_eqb i (place l) (λ e. apart-places k l j r (λ y. d (sym y)) (sym e ∙ sym z))) ∙ eq-eqb i (place k) (sym z)

    taken : (i : ℕ) → i < n → cond (named i) (h i) false ≡ (h i && par m (λ k. eqb i (place k)))
    taken i l = elim (test (named i)) [
      | on q ↦ rw (q, hit i (reached i l q)) (sym (and-true (h i)))
      | off q ↦ rw (q, par-none m (λ k. eqb i (place k)) (λ k j. ne_eqb i (place k) (λ z. clash (held k j) (ap named (sym z) ∙ q)))) (sym (and-false (h i)))
    ]

module _ (sizes : List ℕ) where
  pub places-rise : (c : ℕ) (o : Operator) → Entries sizes c o → (k l : ℕ) → k < l → l < length o → (entry_at o k).variable < (entry_at o l).variable
  places-rise c [] h k l q r = absurd (omega arith)
  places-rise c (e ∷ es) h zero zero q r = absurd (omega arith)
  places-rise c (e ∷ es) h zero (suc l) q r = (in-fine sizes (suc e.variable) es _ (get_d-in es l _ (omega arith)) h.4).0
  places-rise c (e ∷ es) h (suc k) zero q r = absurd (omega arith)
  places-rise c (e ∷ es) h (suc k) (suc l) q r = places-rise (suc e.variable) es h.4 k l (omega arith) (omega arith)

  module _ (o : Operator) (h : Entries sizes 0 o) where
    pub at_place : (k : ℕ) → k < length o → In (entry_at o k) o
    at_place k l = get_d-in o k _ l

    pub place_of : (i : ℕ) → names o i ≡ true → (k : ℕ) × (k < length o) × ((entry_at o k).variable ≡ i)
    place_of i q = let (e, m, z) = entry_of o i q in let (k, l, p) = in-get_d o e (record { variable = 0; before = 0; after = 0 }) m in (k, l, ap (λ x. x.variable) p ∙ z)

    pub by_entries : (g : Set) → par (length sizes) (λ i. cond (names o i) (g i) false) ≡ par (length o) (λ k. g (entry_at o k).variable)
    by_entries g = by-places _ _ (λ k. (entry_at o k).variable) (names o) g (places-rise 0 o h)
        (λ k l. (in-fine sizes 0 o _ (at_place k l) h).1) (λ k l. names_in o _ (at_place k l)) (λ i l q. place_of i q)

    -- The entries before a place are those of the smaller named variables.
    pub by-earlier : (l : ℕ) → l < length o → (g : Set) → par (entry_at o l).variable (λ i. cond (names o i) (g i) false) ≡ par l (λ k. g (entry_at o k).variable)
    by-earlier l r g = by-places _ _ (λ k. (entry_at o k).variable) (names o) g (λ k j p q. places-rise 0 o h k j p (omega arith)) (λ k p. places-rise 0 o h k l p r)
        (λ k p. names_in o _ (at_place k (omega arith))) (λ i p q. let (k, j, z) = place_of i q in (k, earlier k j (rw z p), z))
      where
        earlier : (k : ℕ) → k < length o → (entry_at o k).variable < (entry_at o l).variable → k < l
        earlier k j p = elim (order k l) [
          | less a ↦ a
          | same a ↦ absurd (omega (arith, ap (λ x. (entry_at o x).variable) a))
          | more a ↦ absurd (omega (arith, places-rise 0 o h l k a j))
        ]

    -- ---- the parts as walks

    pub before-place : (k : ℕ) → k < length o → before_of o (entry_at o k).variable ≡ (entry_at o k).before
    before-place k l = field_at sizes _ 0 o _ (at_place k l) h

    pub after-place : (k : ℕ) → k < length o → after_of o (entry_at o k).variable ≡ (entry_at o k).after
    after-place k l = field_at sizes _ 0 o _ (at_place k l) h

    pub walk-sum : (w : Set) (feature : ℕ → ℕ → ℕ)
        → sum two (length sizes) (λ i. cond (names o i) (w (feature i (after_of o i)) ⊕ w (feature i (before_of o i))) false) ≡ xor_of w (walk feature o)
    unfolding walk
    walk-sum w feature = sym (par-sum _ _) ∙ by_entries (λ i. w (feature i (after_of o i)) ⊕ w (feature i (before_of o i)))
        ∙ par-cong (length o) _ _ (λ k l. rw (after-place k l, before-place k l) (sym (xor-two w _ _))) ∙ sym (xor-flat w (length o) _)

    pub part-entries : (w : Set) (u y : ℕ) → side_part sizes o w u y ≡ xor_of w (walk (both sizes u y) o)
    unfolding part beside
    part-entries w u y = walk-sum w (both sizes u y)

    pub fixed-entries : (w : Set) → fixed_part sizes o w ≡ xor_of w (walk (single sizes) o) ⊕ xor_of w (doubles_of sizes o)
    unfolding fixed fixed₁ fixed₂ doubles_of
    fixed-entries w = ap₂ ◌⊕◌ (walk-sum w (single sizes)) (sym (par-tri _ _) ∙ par-cong (length sizes) _ _ (λ j l. outward j) ∙ by_entries (λ j. par j (λ i. cond (names o i) (gain i j) false))
        ∙ par-cong (length o) _ _ (λ l r. by-earlier l r (λ i. gain i (entry_at o l).variable) ∙ par-cong l _ _ (λ k q. at_places k l q r) ∙ sym (xor-flat w l _)) ∙ sym (xor-flat w (length o) _))
      where
        gain : ℕ → ℕ → Bool
        gain i j = w (both sizes i (after_of o i) j (after_of o j)) ⊕ w (both sizes i (before_of o i) j (before_of o j))

        at_places : (k l : ℕ) → k < l → l < length o → gain (entry_at o k).variable (entry_at o l).variable ≡ xor_of w (turned_both sizes (entry_at o k) (entry_at o l))
        at_places k l q r = rw (after-place k (omega arith), before-place k (omega arith), after-place l r, before-place l r) (sym (xor-two w _ _))

        outward : (j : ℕ) → par j (λ i. cond (names o i) (cond (names o j) (gain i j) false) false) ≡ cond (names o j) (par j (λ i. cond (names o i) (gain i j) false)) false
        outward j = elim (test (names o j)) [
          | on q ↦ rw q refl
          | off q ↦ rw q (par-none j _ (λ i l. elim (test (names o i)) [ on e ↦ rw e refl | off e ↦ rw e refl ]))
        ]

-- ---- the rows are toggled sets

-- No feature past the last is true, and none changes.
pub true-past : (sizes : List ℕ) (s : List ℕ) (f : ℕ) → State sizes s → features sizes ≤ f → true_in sizes (value s) f ≡ false
true-past sizes s f t l = sym (listed-true sizes (value s) f) ∙ elim (test (listed (true_list sizes (value s)) f)) [
  | on e ↦ absurd (omega (arith, run_in 0 (features sizes) _ f (run-true sizes (value s) t.values) (listed_in _ f e)))
  | off e ↦ e
]

pub change-past : (sizes : List ℕ) (o : Operator) (s : List ℕ) (f : ℕ) → Entries sizes 0 o → State sizes s → features sizes ≤ f → change sizes o s f ≡ false
unfolding change
change-past sizes o s f h t l = rw (true-past sizes (applied o s) f (state-applied sizes 0 o s h t) l, true-past sizes s f t l) refl
