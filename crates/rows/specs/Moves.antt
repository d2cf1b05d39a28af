-- The code's kinds and atoms in the words of the meaning, and what two of them change together by the grid.
use Rattle.std.specs.Prelude.{ℕ, ◌*◌, ◌<◌, ◌≡◌, refl, ◌≢◌, true, false, length, replicate}
use Rattle.std.proofs.Common.{ap, sym, ◌∙◌, arith, eq-eqb, ne_eqb}
use mathlib.Core.List.{List, [], ◌∷◌, append-nil, flat_map}
use Rattle.std.proofs.lemmas.List.{length-replicate}
use Rattle.meaning.specs.Limits.{word_bits}
use Rattle.meaning.specs.Task.{Entry, size}
use Rattle.meaning.specs.Feature.{features, single, both}
use Rattle.meaning.specs.File.{InLimits}
use Rattle.meaning.specs.Grid.{Kind, absent, kept, made, used}
use Rattle.meaning.specs.Workspace.{words_for}
use Rattle.theory.specs.GridRule.{turns, kinds_of, grid_features}
use Rattle.numbering.specs.Sizes.{single-limit, both-limit}
use Rattle.words.specs.Change.{toggled}
use Rattle.words.specs.Toggled.{toggled_all, length-next, toggled-none, toggled-one, toggled-join}
use Rattle.rows.specs.declared.Kind.{Kind as CodeKind}
use Rattle.rows.specs.declared.Kind.TheVariants.{Absent, Kept, Made, Used}
use Rattle.rows.specs.declared.Atom.{Atom}

abbrev pub kind_of : CodeKind → Kind
kind_of Absent = absent
kind_of Kept = kept
kind_of Made = made
kind_of Used = used

-- An atom's value with its kind, as a list of one.
abbrev pub atom_of : Atom → List (ℕ × Kind)
atom_of a = (a.value, kind_of a.kind) ∷ []

abbrev pub AtomIn : List ℕ → Atom → Type 0
AtomIn sizes a = (a.variable < length sizes) × (a.value < size sizes a.variable)

abbrev pub EntryIn : List ℕ → Entry → Type 0
EntryIn sizes e = (e.variable < length sizes) × (e.before < size sizes e.variable) × (e.after < size sizes e.variable)

-- Words for a set of features.
pub record Room (sizes row : List ℕ) : Type 0 where
  pub limits : InLimits sizes
  pub long : length row ≡ words_for (features sizes)

-- The features of two variables' atoms for whose kinds the grid has 1.
abbrev pub by_grid : List ℕ → ℕ → List (ℕ × Kind) → ℕ → List (ℕ × Kind) → List ℕ
by_grid sizes i l j m = grid_features (λ x y. both sizes i x j y) l m

pub room-none : (sizes row : List ℕ) → InLimits sizes → row ≡ replicate (words_for (features sizes)) 0 → Room sizes row
room-none sizes row limits e = record { limits = limits; long = ap length e ∙ length-replicate {A = ℕ} (words_for (features sizes)) 0 }

pub room-toggled : (sizes row next l : List ℕ) → Room sizes row → next ≡ toggled_all row l → Room sizes next
room-toggled sizes row next l r e = record { limits = r.limits; long = length-next row next l e ∙ r.long }

pub room-one : (sizes row next : List ℕ) (f : ℕ) → Room sizes row → next ≡ toggled row f → Room sizes next
room-one sizes row next f r e = room-toggled sizes row next (f ∷ []) r (e ∙ sym (toggled-one row f))

-- Words for a set of features have a place for each.
pub single-room : (sizes row : List ℕ) (i x : ℕ) → Room sizes row → x < size sizes i → single sizes i x < word_bits * length row
single-room sizes row i x r h = omega (arith, r.long, single-limit sizes r.limits i x h)

pub both-room : (sizes row : List ℕ) (i x j y : ℕ) → Room sizes row → i ≢ j → x < size sizes i → y < size sizes j → both sizes i x j y < word_bits * length row
both-room sizes row i x j y r d h k = omega (arith, r.long, both-limit sizes r.limits i x j y d h k)

-- ---- the grid's entries for two atoms

pub kinds-same : (b a : ℕ) → b ≡ a → kinds_of b a ≡ (b, kept) ∷ []
unfolding kinds_of
kinds-same b a e = rw (eq-eqb b a e) refl

pub kinds-apart : (b a : ℕ) → b ≢ a → kinds_of b a ≡ (b, used) ∷ (a, made) ∷ []
unfolding kinds_of
kinds-apart b a d = rw (ne_eqb b a d) refl

module _ (row : List ℕ) (feature : ℕ → ℕ → ℕ) where
  -- The atoms of the one side one after another, and those of the other.
  pub grid-left : (x y : ℕ × Kind) (m : List (ℕ × Kind))
      → toggled_all row (grid_features feature (x ∷ y ∷ []) m) ≡ toggled_all (toggled_all row (grid_features feature (x ∷ []) m)) (grid_features feature (y ∷ []) m)
  unfolding grid_features flat_map
  grid-left x y m = simp (append-nil, toggled-join)

  pub grid-right : (x y z : ℕ × Kind)
      → toggled_all row (grid_features feature (x ∷ []) (y ∷ z ∷ [])) ≡ toggled_all (toggled_all row (grid_features feature (x ∷ []) (y ∷ []))) (grid_features feature (x ∷ []) (z ∷ []))
  unfolding grid_features flat_map
  grid-right x y z = simp (append-nil, toggled-join)

  pub grid-on : (x y : ℕ × Kind) → turns x.1 y.1 ≡ true → toggled_all row (grid_features feature (x ∷ []) (y ∷ [])) ≡ toggled row (feature x.0 y.0)
  unfolding grid_features flat_map
  grid-on x y e = rw e (toggled-one row _)

  pub grid-off : (x y : ℕ × Kind) → turns x.1 y.1 ≡ false → toggled_all row (grid_features feature (x ∷ []) (y ∷ [])) ≡ row
  unfolding grid_features flat_map
  grid-off x y e = rw e (toggled-none row)
