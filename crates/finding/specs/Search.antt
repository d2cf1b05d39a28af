-- What is left of the ends' difference, by the parts of a workspace.
use Rattle.std.specs.Prelude.{ℕ, ◌*◌, ◌≤◌, ◌≡◌, false, List, length}
use Rattle.std.proofs.Math.Path.{ap, fun_ext}
use Rattle.std.proofs.Common.{sym, ◌∙◌, subst, arith}
use Rattle.meaning.specs.Sets.{Set}
use Rattle.meaning.specs.Limits.{most_features}
use Rattle.meaning.specs.Task.{State}
use Rattle.meaning.specs.Feature.{features}
use Rattle.meaning.specs.Slot.{Reduced}
use Rattle.meaning.specs.File.{InLimits}
use Rattle.meaning.specs.Workspace.{has, packed, words_for, Proper}
use Rattle.theory.specs.Walk.{true-past}
use Rattle.theory.specs.Words.{length-packed, packed-holds}
use Rattle.theory.specs.Reduce.{red}
use Rattle.theory.specs.Contents.{content_in}
use Rattle.theory.specs.Finder.{difference}
use Rattle.layout.specs.Parts.{sizes_part, start_part, goal_part, slots_part, Due}
use Rattle.slots.specs.Area.{slots_in}
use Rattle.slots.specs.Reducing.{red-past}
use Rattle.formed.specs.Parts.{content_from, Cut, Sized, sized-content, sized-cut}

-- What a search stands on: sizes within their limits, of n features, two states and n slots in reduced shape.
pub record Searched (sizes start goal area : List ℕ) (n : ℕ) : Type 0 where
  pub limits : InLimits sizes
  pub total : n ≡ features sizes
  pub starts : State sizes start
  pub goals : State sizes goal
  pub slots : Reduced n (slots_in n area)
  pub words : length area ≡ n * words_for n

-- Parts of a proper content are such.
pub cut-searched : {sizes start goal pairs area : List ℕ} {n : ℕ} → Cut sizes start goal pairs area n → Proper (content_from sizes start goal pairs area) → Searched sizes start goal area n
cut-searched cut p = record {
  limits = cut.limits;
  total = cut.total;
  starts = p.start;
  goals = p.goal;
  slots = rw cut.total p.slots;
  words = cut.slots;
}

-- So are those of a workspace with a proper content.
pub sized-searched : (ws : List ℕ) (v n : ℕ) → Sized ws v n → Due v n ws → Proper (content_in ws) → Searched (sizes_part v ws) (start_part v ws) (goal_part v ws) (slots_part v n ws) n
sized-searched ws v n s due p = cut-searched (sized-cut ws v n s due.words) (subst Proper (sym (sized-content ws v n s)) p)

-- What is left of the ends' difference once it is reduced by the slots.
unfoldable pub left_in : List ℕ → List ℕ → List ℕ → List ℕ → ℕ → Set
left_in sizes start goal area n = red (slots_in n area) n (difference sizes start goal)

module _ {sizes start goal area : List ℕ} {n : ℕ} (s : Searched sizes start goal area n) where
  pub searched-few : n ≤ most_features
  searched-few = omega (arith, s.total, s.limits.total)

  difference-past : (f : ℕ) → n ≤ f → difference sizes start goal f ≡ false
  unfolding difference
  difference-past f l = let k : features sizes ≤ f = omega (arith, s.total) in rw (true-past sizes start f s.starts k, true-past sizes goal f s.goals k)

  module _ (row : List ℕ) (e : row ≡ packed (features sizes) (difference sizes start goal)) where
    -- The words of the difference hold it, and nothing past the last feature.
    held : (f : ℕ) → has row f ≡ difference sizes start goal f
    held f = ap (λ words. has words f) e ∙ packed-holds (features sizes) _ f (λ l. difference-past f (omega (arith, s.total)))

    pub held-past : (f : ℕ) → n ≤ f → has row f ≡ false
    held-past f l = held f ∙ difference-past f l

    pub held-words : length row ≡ words_for n
    held-words = ap length e ∙ length-packed (features sizes) _ ∙ ap words_for (sym s.total)

    -- Once they are reduced they hold what is left.
    pub left-held : (row' : List ℕ) → row' ≡ packed n (red (slots_in n area) n (has row)) → has row' ≡ left_in sizes start goal area n
    unfolding left_in
    left-held row' q = fun_ext (λ f. ap (λ words. has words f) (q ∙ ap (λ d. packed n (red (slots_in n area) n d)) (fun_ext held))
        ∙ packed-holds n (left_in sizes start goal area n) f (red-past s.slots _ difference-past f))
