-- The features true in a state as the code toggles them, and that toggling those of two states makes the difference of the two.
use Rattle.std.specs.Prelude.{ℕ, ◌<◌, ◌≡◌, List, [], ◌∷◌, ◌++◌, eqb, length, replicate}
use Rattle.std.proofs.Math.Path.{ap, ap₂, sym, fun_ext}
use Rattle.std.proofs.Common.{◌∙◌, arith, ne_of_lt}
use mathlib.Core.List.Memᴰ.{eq_of_singleton}
use Rattle.meaning.specs.Sets.{◌⊕◌, flat}
use Rattle.meaning.specs.Task.{State, value}
use Rattle.meaning.specs.Feature.{features, single, both, true_in}
use Rattle.meaning.specs.Workspace.{words_for, packed}
use Rattle.theory.specs.Parity.{par-cong}
use Rattle.theory.specs.Numbering.{atoms-room, single-below, both_below, both-less}
use Rattle.theory.specs.Meets.{true-sum}
use Rattle.theory.specs.Toggles.{toggles, toggles-one, toggles-join, toggles-flat, Below, below-join, below-flat}
use Rattle.theory.specs.Finder.{difference}
use Rattle.words.specs.Toggled.{toggled_all, toggled-join, toggled-packed}

-- An atom for each variable.
unfoldable pub true_atoms : List ℕ → List ℕ → List ℕ
true_atoms sizes state = flat (length sizes) (λ i. single sizes i (value state i) ∷ [])

-- The pairs of variable j's atom with those of the variables before it, and all pairs.
unfoldable pub true_pairs_of : List ℕ → List ℕ → ℕ → List ℕ
true_pairs_of sizes state j = flat j (λ i. both sizes i (value state i) j (value state j) ∷ [])

unfoldable pub true_pairs : List ℕ → List ℕ → List ℕ
true_pairs sizes state = flat (length sizes) (true_pairs_of sizes state)

unfoldable pub true_features : List ℕ → List ℕ → List ℕ
true_features sizes state = true_atoms sizes state ++ true_pairs sizes state

below_one : (n m : ℕ) → m < n → Below n (m ∷ [])
below_one n m l k i = rw (eq_of_singleton i) l

module _ (sizes state : List ℕ) (good : State sizes state) where
  true-toggles : (f : ℕ) → toggles (true_features sizes state) f ≡ true_in sizes (value state) f
  unfolding true_features true_atoms true_pairs true_pairs_of
  true-toggles f = toggles-join (true_atoms sizes state) _ f
      ∙ ap₂ ◌⊕◌ (toggles-flat (length sizes) _ f ∙ par-cong (length sizes) _ _ (λ i l. toggles-one _ f))
      (toggles-flat (length sizes) _ f ∙ par-cong (length sizes) _ _ (λ j l. toggles-flat j _ f
      ∙ par-cong j _ _ (λ i k. toggles-one _ f ∙ ap (eqb f) (both-less sizes i _ j _ k))))
      ∙ sym (true-sum sizes (value state) good.values f)

  true_below : Below (features sizes) (true_features sizes state)
  unfolding true_features true_atoms true_pairs true_pairs_of
  true_below = below-join _ (true_atoms sizes state) _
      (below-flat _ _ _ (λ i l. below_one _ _ (omega (arith, atoms-room sizes, single-below sizes i _ (good.values i l)))))
      (below-flat _ _ _ (λ j l. below-flat _ _ _ (λ i k. below_one _ _ (both_below sizes i _ j _ (ne_of_lt k) (good.values i (omega arith)) (good.values j l)))))

-- The words after each of two steps, from words with no member on.
pub ends-packed : (sizes start goal row one two : List ℕ) → State sizes start → State sizes goal → row ≡ replicate (words_for (features sizes)) 0
    → one ≡ toggled_all row (true_features sizes start) → two ≡ toggled_all one (true_features sizes goal) → two ≡ packed (features sizes) (difference sizes start goal)
unfolding difference
ends-packed sizes start goal row one two s g e e₁ e₂ =
    e₂ ∙ rw (e₁, e) (sym (toggled-join _ (true_features sizes start) _))
    ∙ toggled-packed (features sizes) (true_features sizes start ++ true_features sizes goal) (below-join _ (true_features sizes start) _ (true_below sizes start s) (true_below sizes goal g))
    ∙ ap (packed (features sizes)) (fun_ext (λ f. toggles-join (true_features sizes start) _ f ∙ ap₂ ◌⊕◌ (true-toggles sizes start s f) (true-toggles sizes goal g f)))
