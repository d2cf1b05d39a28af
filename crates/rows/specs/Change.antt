-- The features that the code toggles, by the grid, and that they make the change of an operator in a state and the difference of a value.
use Rattle.std.specs.Prelude.{ℕ, ◌<◌, ◌≡◌, ◌≢◌, Bool, false, cond, set, replicate, eqb}
use Rattle.std.proofs.Math.Path.{refl, ap, ap₂, sym}
use Rattle.std.proofs.Common.{◌∙◌, arith, ne_of_lt, get_or-set_other}
use Rattle.std.proofs.Math.Bool.{true}
use mathlib.Core.List.Memᴰ.{not-nil}
use mathlib.Core.List.{List, [], ◌++◌, flat_map}
use Rattle.std.proofs.Math.ListN.{length}
use Rattle.std.proofs.Math.Seq.{get_or-set_same}
use Rattle.meaning.specs.Sets.{◌⊕◌, Set, flat}
use Rattle.meaning.specs.Task.{Entry, Operator, State, Entries, names, applies, value, size}
use Rattle.meaning.specs.Feature.{features, single, both}
use Rattle.meaning.specs.Pair.{paired, possible}
use Rattle.meaning.specs.Weight.{Considered}
use Rattle.meaning.specs.Workspace.{words_for, packed}
use Rattle.theory.specs.Truth.{on, off, test, clash, xors, xor_comm, xor_assoc, xor_self}
use Rattle.theory.specs.Search.{any-not}
use Rattle.theory.specs.Parity.{par-cong, par-xor, par-one, dot, dot-xor}
use Rattle.theory.specs.Numbering.{atoms-room, single-below, both_below}
use Rattle.theory.specs.Operators.{names_in, in-fine}
use Rattle.theory.specs.GridRule.{kinds_of, grid_features, grid-features}
use Rattle.theory.specs.Rows.{change, side_part, unnamed_part, fixed_part, considered-set, change-splits}
use Rattle.theory.specs.Toggles.{xor_of, xor-join, xor-flat, toggles, toggled, Below, below_two, below-join, below-flat}
use Rattle.theory.specs.Walk.{entry_at, turned, walk, turned_both, doubles_of, turned-grid, side-grid, places-rise, at_place, part-entries, fixed-entries, change-past}
use Rattle.words.specs.Toggled.{toggled_all, toggled-join, toggled-packed}
use Rattle.rows.specs.Moves.{by_grid}

-- A variable that keeps its value.
abbrev pub stays : ℕ → ℕ → Entry
stays u y = record { variable = u; before = y; after = y }

module _ (sizes : List ℕ) where
  -- What two variables change together.
  abbrev pub moved_both : Entry → Entry → List ℕ
  moved_both e e' = by_grid sizes e.variable (kinds_of e.before e.after) e'.variable (kinds_of e'.before e'.after)

  -- What two values of one variable, each kept, change together with another.
  abbrev pub values_both : ℕ → ℕ → ℕ → Entry → List ℕ
  values_both u x y e = moved_both (stays u x) e ++ moved_both (stays u y) e

  -- What an unnamed variable, which keeps its value, changes together with the entries.
  unfoldable pub beside_features : Operator → ℕ → ℕ → List ℕ
  beside_features o u y = flat (length o) (λ k. moved_both (stays u y) (entry_at o k))

  -- What an entry changes together with those before it, and all entries two by two.
  unfoldable pub earlier_features : Operator → ℕ → List ℕ
  earlier_features o l = flat l (λ k. moved_both (entry_at o k) (entry_at o l))

  unfoldable pub named_features : Operator → List ℕ
  named_features o = flat (length o) (earlier_features o)

  -- What a variable changes together with the entries, where it is not named.
  unfoldable pub unnamed_features : Operator → List ℕ → ℕ → List ℕ
  unnamed_features o s u = cond (names o u) [] (beside_features o u (value s u))

  -- All that an operator changes in a state.
  unfoldable pub change_features : Operator → List ℕ → List ℕ
  change_features o s = walk (single sizes) o ++ (named_features o ++ flat (length sizes) (unnamed_features o s))

  -- What changes with one value of an unnamed variable u in place of another.
  unfoldable pub apart_features : Operator → ℕ → ℕ → ℕ → List ℕ
  apart_features o u x y = flat (length o) (λ k. values_both u x y (entry_at o k))

  -- The difference that the value y of the variable u makes to the change in a state.
  unfoldable pub difference : Operator → List ℕ → ℕ → ℕ → Set
  difference o s u y f = change sizes o (set s u y) f ⊕ change sizes o s f

-- ---- what weights share with these features

module _ (sizes : List ℕ) (w : Set) where
  flat-sum : (n : ℕ) (g h : ℕ → List ℕ) → ((i : ℕ) → xor_of w (g i) ≡ xor_of w (h i)) → xor_of w (flat n g) ≡ xor_of w (flat n h)
  flat-sum n g h e = xor-flat w n g ∙ par-cong n _ _ (λ i l. e i) ∙ sym (xor-flat w n h)

  moved_sum : (e e' : Entry) → xor_of w (moved_both sizes e e') ≡ xor_of w (turned_both sizes e e')
  moved_sum e e' = grid-features w _ _ _ ∙ sym (turned-grid sizes w e e')

  beside-sum : (o : Operator) (u y : ℕ) → xor_of w (beside_features sizes o u y) ≡ xor_of w (walk (both sizes u y) o)
  unfolding beside_features walk
  beside-sum o u y = flat-sum _ _ _ (λ k. grid-features w _ _ _ ∙ sym (side-grid sizes w u y (entry_at o k)))

  -- Value by value or entry by entry.
  values-sum : (o : Operator) (u x y : ℕ) → xor_of w (apart_features sizes o u x y) ≡ xor_of w (beside_features sizes o u x) ⊕ xor_of w (beside_features sizes o u y)
  unfolding apart_features beside_features
  values-sum o u x y = xor-flat w (length o) _ ∙ par-cong (length o) _ _ (λ k l. xor-join w (moved_both sizes (stays u x) (entry_at o k)) _)
      ∙ par-xor (length o) _ _ ∙ sym (ap₂ ◌⊕◌ (xor-flat w (length o) _) (xor-flat w (length o) _))

  named-sum : (o : Operator) → xor_of w (named_features sizes o) ≡ xor_of w (doubles_of sizes o)
  unfolding named_features earlier_features doubles_of
  named-sum o = flat-sum _ _ _ (λ l. flat-sum _ _ _ (λ k. moved_sum (entry_at o k) (entry_at o l)))

  module _ (o : Operator) (h : Entries sizes 0 o) where
    side-sum : (u y : ℕ) → xor_of w (beside_features sizes o u y) ≡ side_part sizes o w u y
    side-sum u y = beside-sum o u y ∙ sym (part-entries sizes o h w u y)

    unnamed-sum : (s : List ℕ) (u : ℕ) → xor_of w (unnamed_features sizes o s u) ≡ unnamed_part sizes o w s u
    unfolding unnamed_features xor_of
    unnamed-sum s u = elim (test (names o u)) [ on q ↦ rw q refl | off q ↦ rw q (side-sum u (value s u)) ]

    change-sum : (s : List ℕ) → State sizes s → applies o s ≡ true → dot (features sizes) w (change sizes o s) ≡ xor_of w (change_features sizes o s)
    unfolding change_features
    change-sum s t a = change-splits sizes o h w s t a
        ∙ ap₂ ◌⊕◌ (fixed-entries sizes o h w ∙ ap (◌⊕◌ (xor_of w (walk (single sizes) o))) (sym (named-sum o))) (par-cong (length sizes) _ _ (λ u l. sym (unnamed-sum s u)) ∙ sym (xor-flat w (length sizes) _))
        ∙ xor_assoc (xor_of w (walk (single sizes) o)) (xor_of w (named_features sizes o)) _
        ∙ sym (xor-join w (walk (single sizes) o) _ ∙ ap (◌⊕◌ (xor_of w (walk (single sizes) o))) (xor-join w (named_features sizes o) _))

-- ---- the features are below N

module _ (sizes : List ℕ) (o : Operator) (h : Entries sizes 0 o) where
  grid-below : (n : ℕ) (feature : ℕ → ℕ → ℕ) (b a b' a' : ℕ) → feature b b' < n → feature b a' < n → feature a b' < n → feature a a' < n
      → Below n (grid_features feature (kinds_of b a) (kinds_of b' a'))
  unfolding grid_features kinds_of flat_map
  grid-below n feature b a b' a' p q r s = elim (test (eqb b a)) [
    | on e ↦ elim (test (eqb b' a')) [ on e' ↦ rw (e, e') (λ m i. absurd (not-nil i)) | off e' ↦ rw (e, e') (below_two n _ _ p q) ]
    | off e ↦ elim (test (eqb b' a')) [ on e' ↦ rw (e, e') (below_two n _ _ p r) | off e' ↦ rw (e, e') (below_two n _ _ p s) ]
  ]

  -- Two variables, each with its values in range.
  Fits : Entry → Type 0
  Fits e = (e.before < size sizes e.variable) × (e.after < size sizes e.variable)

  moved-below : (e e' : Entry) → e.variable ≢ e'.variable → Fits e → Fits e' → Below (features sizes) (moved_both sizes e e')
  unfolding Fits
  moved-below e e' d p q = grid-below (features sizes) _ e.before e.after e'.before e'.after
      (both_below sizes _ _ _ _ d p.0 q.0) (both_below sizes _ _ _ _ d p.0 q.1) (both_below sizes _ _ _ _ d p.1 q.0) (both_below sizes _ _ _ _ d p.1 q.1)

  entry-fits : (k : ℕ) → k < length o → Fits (entry_at o k)
  unfolding Fits
  entry-fits k l = let r = in-fine sizes 0 o _ (at_place sizes o h k l) h in (r.2, r.3)

  beside-below : (u y : ℕ) → names o u ≡ false → y < size sizes u → Below (features sizes) (beside_features sizes o u y)
  unfolding beside_features Fits
  beside-below u y q l = below-flat _ _ _ (λ k j. moved-below (stays u y) (entry_at o k) (λ z. clash (names_in o _ (at_place sizes o h k j)) (ap (names o) (sym z) ∙ q)) (l, l) (entry-fits k j))

  change-below : (s : List ℕ) → State sizes s → Below (features sizes) (change_features sizes o s)
  unfolding change_features walk named_features earlier_features unnamed_features Fits
  change-below s t = below-join _ (walk (single sizes) o) _ (below-flat _ _ _ own)
      (below-join _ (named_features sizes o) _ (below-flat _ _ _ (λ l r. below-flat _ _ _ (λ k q. pair k l q r))) (below-flat _ _ _ side))
    where
      own : (k : ℕ) → k < length o → Below (features sizes) (turned (single sizes) (entry_at o k))
      own k l = let r = entry-fits k l in
          below_two _ _ _ (omega (arith, atoms-room sizes, single-below sizes _ _ r.1)) (omega (arith, atoms-room sizes, single-below sizes _ _ r.0))

      pair : (k l : ℕ) → k < l → l < length o → Below (features sizes) (moved_both sizes (entry_at o k) (entry_at o l))
      pair k l q r = moved-below _ _ (ne_of_lt (places-rise sizes 0 o h k l q r)) (entry-fits k (omega arith)) (entry-fits l r)

      side : (u : ℕ) → u < length sizes → Below (features sizes) (unnamed_features sizes o s u)
      side u l = elim (test (names o u)) [ on q ↦ rw q (λ m i. absurd (not-nil i)) | off q ↦ rw q (beside-below u _ q (t.values u l)) ]

  -- ---- the change and the difference are made by toggling

  pub change-toggles : (s : List ℕ) → State sizes s → applies o s ≡ true → change sizes o s ≡ toggles (change_features sizes o s)
  change-toggles s t a = toggled (features sizes) _ _ (λ f l. change-past sizes o s f h t l) (change-below s t) (λ w. change-sum sizes w o h s t a)

  -- The words after each of three steps, from words with no member on.
  pub change-packed : (s row one two three : List ℕ) → State sizes s → applies o s ≡ true → row ≡ replicate (words_for (features sizes)) 0 → one ≡ toggled_all row (walk (single sizes) o)
      → two ≡ toggled_all one (named_features sizes o) → three ≡ toggled_all two (flat (length sizes) (unnamed_features sizes o s)) → three ≡ packed (features sizes) (change sizes o s)
  unfolding change_features
  change-packed s row one two three t a e e₁ e₂ e₃ =
      e₃ ∙ rw (e₂, e₁, e) (sym (toggled-join _ (walk (single sizes) o) _ ∙ toggled-join _ (named_features sizes o) _))
      ∙ toggled-packed (features sizes) (change_features sizes o s) (change-below s t) ∙ ap (packed (features sizes)) (sym (change-toggles s t a))

  module _ (s : List ℕ) (t : State sizes s) (a : applies o s ≡ true) (u y : ℕ) (l : u < length sizes) (k : y < size sizes u) (q : names o u ≡ false) where
    -- With no listed pairs every value is possible, and the state stays one in which the operator applies.
    other : Considered sizes (λ f. false) o (set s u y)
    unfolding possible paired
    other = considered-set sizes (λ f. false) o s u y (record { is_state = t; has-before = a; elsewhere = λ i j n. any i (value s i) }) q k (any u y)
      where
        any : (i x : ℕ) → possible sizes (λ f. false) o i x ≡ true
        any i x = rw (any-not (λ e. paired sizes (λ f. false) e.variable e.before i x) o (λ e m. refl))

    apart_below : Below (features sizes) (apart_features sizes o u (value s u) y)
    unfolding apart_features Fits
    apart_below = below-flat _ _ _ (λ i j. below-join _ (moved_both sizes (stays u (value s u)) (entry_at o i)) _ (beside i (value s u) j (t.values u l)) (beside i y j k))
      where
        beside : (i x : ℕ) → i < length o → x < size sizes u → Below (features sizes) (moved_both sizes (stays u x) (entry_at o i))
        beside i x j m = moved-below (stays u x) (entry_at o i) (λ z. clash (names_in o _ (at_place sizes o h i j)) (ap (names o) (sym z) ∙ q)) (m, m) (entry-fits i j)

    apart-sum : (w : Set) → dot (features sizes) w (difference sizes o s u y) ≡ xor_of w (apart_features sizes o u (value s u) y)
    unfolding difference
    apart-sum w = dot-xor _ w _ _
        ∙ ap₂ ◌⊕◌ (change-splits sizes o h w _ other.is_state other.has-before) (change-splits sizes o h w s t a)
        ∙ cancel (fixed_part sizes o w) _ _ ∙ sym (par-xor (length sizes) _ _)
        ∙ par-one (length sizes) u _ l (λ i j d. rw (get_or-set_other s u i y 0 d) (xor_self (unnamed_part sizes o w s i)))
        ∙ rw (q, get_or-set_same s u y 0 (omega (arith, t.full))) (sym (ap₂ ◌⊕◌ (side-sum sizes w o h u y) (side-sum sizes w o h u (value s u))))
        ∙ xor_comm (xor_of w (beside_features sizes o u y)) (xor_of w (beside_features sizes o u (value s u))) ∙ sym (values-sum sizes w o u (value s u) y)
      where
        cancel : (f a b : Bool) → (f ⊕ a) ⊕ (f ⊕ b) ≡ a ⊕ b
        cancel f a b = simp xors

    pub apart-toggles : difference sizes o s u y ≡ toggles (apart_features sizes o u (value s u) y)
    unfolding difference
    apart-toggles = toggled (features sizes) _ _ (λ f j. ap₂ ◌⊕◌ (change-past sizes o _ f h other.is_state j) (change-past sizes o s f h t j)) apart_below apart-sum

    pub apart-packed : (row next : List ℕ) → row ≡ replicate (words_for (features sizes)) 0 → next ≡ toggled_all row (apart_features sizes o u (value s u) y)
        → next ≡ packed (features sizes) (difference sizes o s u y)
    apart-packed row next e e₁ =
        e₁ ∙ rw e (toggled-packed (features sizes) (apart_features sizes o u (value s u) y) apart_below) ∙ ap (packed (features sizes)) (sym apart-toggles)
