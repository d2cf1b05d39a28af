-- Filling the table of possible atoms: what one value adds to the words, and what one variable adds.
use Rattle.std.specs.Prelude.{ℕ, ◌+◌, ◌*◌, ◌<◌, ◌≤◌, ◌≡◌, true, false, not, ◌&&◌, ◌||◌, List, eqb, replicate}
use Rattle.std.proofs.Math.Path.{refl, sym, ap}
use Rattle.std.proofs.Common.{ap₂, ◌∙◌}
use Rattle.std.proofs.Math.Bool.{or-false}
use native.Mathlib.Omega.{arith}
use Rattle.std.proofs.Math.Numerals.{add-one}
use Rattle.std.proofs.Math.ListN.{length}
use borrow.Author.Tests.{eqb-true, ne_eqb}
use Rattle.meaning.specs.Sets.{Set, ◌⊕◌, some}
use Rattle.meaning.specs.Limits.{word_bits}
use Rattle.meaning.specs.Task.{Operator, names, size}
use Rattle.meaning.specs.Feature.{atoms, single}
use Rattle.meaning.specs.Workspace.{has}
use Rattle.meaning.specs.Pair.{possible}
use Rattle.theory.specs.Truth.{on, off, test}
use Rattle.theory.specs.Search.{and_both, and-none-left, and-none-right, or_right, or-neither, some-not, some-cong}
use Rattle.theory.specs.Numbering.{single-below, single-later}
use Rattle.theory.specs.Possible.{possible_atoms}
use Rattle.words.specs.Change.{toggled, length-toggled, has-toggled}
use Rattle.words.specs.Part.{has-none}
use Rattle.pairs.specs.Places.{some-start}
use Rattle.pairs.specs.Ready.{HoldsPossible}
use Rattle.pairs.specs.None.{Suffices}

-- ---- one variable

-- The possible atoms of the first n values of variable u.
unfoldable pub free_atoms : List ℕ → Set → Operator → ℕ → ℕ → Set
free_atoms sizes pairs o u n f = some n (λ y. eqb f (single sizes u y) && possible sizes pairs o u y)

-- Words to which a set was added that they had no member of.
abbrev pub Added : List ℕ → Set → List ℕ → Type 0
Added entry set exit = (length exit ≡ length entry) × ((f : ℕ) → has exit f ≡ (has entry f || set f))

-- Words that hold no atom of a variable.
abbrev pub Lacks : List ℕ → ℕ → List ℕ → Type 0
Lacks sizes u words = (y : ℕ) → y < size sizes u → has words (single sizes u y) ≡ false

module _ (sizes : List ℕ) (pairs : Set) (o : Operator) (u : ℕ) where
  own-apart : (y z : ℕ) → z < y → eqb (single sizes u y) (single sizes u z) ≡ false
  unfolding single
  own-apart y z l = ne_eqb (single sizes u y) (single sizes u z) (omega arith)

  free-next : (n f : ℕ) → free_atoms sizes pairs o u (n + 1) f
      ≡ (free_atoms sizes pairs o u n f || (eqb f (single sizes u n) && possible sizes pairs o u n))
  unfolding free_atoms some
  free-next n f = rw add-one refl

  free-fresh : (n : ℕ) → free_atoms sizes pairs o u n (single sizes u n) ≡ false
  unfolding free_atoms
  free-fresh n = some-not n _ (λ z l. and-none-left _ _ (own-apart n z l))

  pub free-start : (entry : List ℕ) → Added entry (free_atoms sizes pairs o u 0) entry
  unfolding free_atoms
  free-start entry = (refl, λ f. sym (ap (◌||◌ (has entry f)) (some-start _) ∙ or-false (has entry f)))

  module _ (entry words : List ℕ) (n : ℕ) (a : Added entry (free_atoms sizes pairs o u n) words) where
    -- A value that is not possible adds nothing.
    pub free-skip : (next : List ℕ) → possible sizes pairs o u n ≡ false → next ≡ words
        → Added entry (free_atoms sizes pairs o u (n + 1)) next
    free-skip next q e = rw e (
      a.0,
      λ f. a.1 f ∙ ap (◌||◌ (has entry f)) (sym (free-next n f
          ∙ ap (◌||◌ (free_atoms sizes pairs o u n f)) (and-none-right (eqb f (single sizes u n)) _ q) ∙ or-false _)),
    )

    -- Another adds its atom.
    pub free-put : (f : ℕ) (next : List ℕ) → atoms sizes ≤ word_bits * length entry → Lacks sizes u entry → n < size sizes u
        → possible sizes pairs o u n ≡ true → f ≡ single sizes u n → next ≡ toggled words f
        → Added entry (free_atoms sizes pairs o u (n + 1)) next
    free-put f next room lacks l q e e' = rw (e', e) (
      length-toggled words (single sizes u n) ∙ a.0,
      λ g. has-toggled words (single sizes u n) g (omega (arith, a.0, single-below sizes u n l)) ∙ elim (test (eqb g (single sizes u n))) [
        | on t ↦ here g t (eqb-true g _ t)
        | off t ↦ rw t (a.1 g ∙ ap (◌||◌ (has entry g)) (sym (free-next n g ∙ rw t (or-false _))))
      ],
    )
      where
        none : has words (single sizes u n) ≡ false
        none = a.1 (single sizes u n) ∙ or-neither _ _ (lacks n l) (free-fresh n)

        here : (g : ℕ) → eqb g (single sizes u n) ≡ true → g ≡ single sizes u n → eqb g (single sizes u n) ⊕ has words g ≡ (has entry g || free_atoms sizes pairs o u (n + 1) g)
        here g t z = ap₂ ◌⊕◌ t (ap (has words) z ∙ none)
            ∙ sym (or_right (has entry g) _ (free-next n g ∙ or_right (free_atoms sizes pairs o u n g) _ (and_both _ _ t q)))

-- ---- all variables

-- The possible atoms of the first n variables.
unfoldable pub possible_to : List ℕ → Set → Operator → ℕ → Set
possible_to sizes pairs o n f = some n (λ u. not (names o u) && some (size sizes u) (λ y. eqb f (single sizes u y) && possible sizes pairs o u y))

-- A number of words hold the possible atoms of the first u variables.
abbrev pub Filled : List ℕ → Set → Operator → ℕ → ℕ → List ℕ → Type 0
Filled sizes pairs o room u words = (length words ≡ room) × ((f : ℕ) → has words f ≡ possible_to sizes pairs o u f)

module _ (sizes : List ℕ) (pairs : Set) (o : Operator) where
  possible-next : (u f : ℕ) → possible_to sizes pairs o (u + 1) f
      ≡ (possible_to sizes pairs o u f || (not (names o u) && some (size sizes u) (λ y. eqb f (single sizes u y) && possible sizes pairs o u y)))
  unfolding possible_to some
  possible-next u f = rw add-one refl

  pub filled-start : (n : ℕ) (words : List ℕ) → words ≡ replicate n 0 → Filled sizes pairs o (length words) 0 words
  unfolding possible_to
  filled-start n words e = (refl, λ f. ap (λ l. has l f) e ∙ has-none n f ∙ sym (some-start _))

  module _ (room u : ℕ) (words : List ℕ) (h : Filled sizes pairs o room u words) where
    -- Atoms of a variable that is still to come are not in.
    pub filled-lacks : Lacks sizes u words
    unfolding possible_to
    filled-lacks y l = h.1 (single sizes u y) ∙ some-not u _ (λ i k. and-none-right (not (names o i)) _ (some-not (size sizes i) _ (λ x j.
        and-none-left _ _ (ne_eqb (single sizes u y) (single sizes i x) (λ q. omega (arith, single-later sizes i x u y k j))))))

    -- A named variable adds nothing.
    pub filled-skip : (next : List ℕ) → names o u ≡ true → next ≡ words → Filled sizes pairs o room (u + 1) next
    filled-skip next q e = rw e (h.0, λ f. h.1 f ∙ sym (possible-next u f ∙ ap (◌||◌ (possible_to sizes pairs o u f)) (and-none-left _ _ (ap not q)) ∙ or-false _))

    pub filled-done : length sizes ≤ u → u ≤ length sizes → atoms sizes ≤ word_bits * room → HoldsPossible sizes pairs o words
    unfolding possible_to possible_atoms
    filled-done l k r = let e : length sizes ≡ u = omega arith in record { room = rw h.0 r; each = λ f. rw e (h.1 f) }

    -- An unnamed variable adds its atoms, by the entries that were looked at.
    pub filled_put : (looked : Operator) (added next : List ℕ) → names o u ≡ false → Suffices pairs o looked → Added words (free_atoms sizes pairs looked u (size sizes u)) added
        → next ≡ added → Filled sizes pairs o room (u + 1) next
    unfolding free_atoms
    filled_put looked added next q enough a e = rw e (
      a.0 ∙ h.0,
      λ f. a.1 f ∙ ap₂ ◌||◌ (h.1 f) (some-cong (size sizes u) _ _ (λ y l. ap (◌&&◌ (eqb f (single sizes u y))) (enough.same sizes u y))
          ∙ rw q refl) ∙ sym (possible-next u f),
    )
