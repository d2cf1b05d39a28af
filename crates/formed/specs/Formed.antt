-- What the answer says, and what callers have from it.
use Rattle.std.specs.Prelude.{ℕ, ◌≡◌, refl, List, Option, Some, None}
use Rattle.std.proofs.Common.{sym, ap₂, ◌∙◌}
use Rattle.meaning.specs.Workspace.{Proper, WellFormed}
use Rattle.theory.specs.Determined.{AtMostOne}
use Rattle.theory.specs.Contents.{content_in, variables_in, features_in, formed-proper}
use Rattle.layout.specs.Parts.{sizes_part, start_part, goal_part, pairs_part, slots_part, Due}
use Rattle.formed.specs.Parts.{Cut, Sized, content_parts, sized-length, sized-content, sized-cut, sized-due, formed-sized}
use Rattle.formed.specs.declared.Shape.{Shape}

-- The words are well formed, and their content has so many variables and features as the shape says; or they are not.
unfoldable pub FormedIs : List ℕ → Option Shape → Type 0
FormedIs ws (Some shape) = WellFormed ws × (shape.variables ≡ variables_in (content_in ws)) × (shape.features ≡ features_in (content_in ws))
FormedIs ws None = WellFormed ws → ⊥

pub formed-no : (ws : List ℕ) → (WellFormed ws → ⊥) → FormedIs ws None
unfolding FormedIs
formed-no ws d = d

pub formed-yes : (ws : List ℕ) (v n : ℕ) → Sized ws v n → WellFormed ws → FormedIs ws (Some (record { variables = v; features = n }))
unfolding FormedIs
formed-yes ws v n s f = (f, sym (sized-length ws v n s), s.total)

-- Any words have one such answer: whether they are well formed, and both counts.
pub formed-is-only : (ws : List ℕ) → AtMostOne (FormedIs ws)
unfolding FormedIs
formed-is-only ws (Some a) (Some b) h h' = ap₂ (λ v n. Some (record { variables = v; features = n })) (h.1 ∙ sym h'.1) (h.2 ∙ sym h'.2)
formed-is-only ws (Some a) None h h' = absurd (h' h.0)
formed-is-only ws None (Some b) h h' = absurd (h h'.0)
formed-is-only ws None None h h' = refl

-- ---- what a caller has where the answer is no, and where it is yes

pub no-formed : (ws : List ℕ) → FormedIs ws None → WellFormed ws → ⊥
unfolding FormedIs
no-formed ws d = d

module _ (ws : List ℕ) (v n : ℕ) (yes : FormedIs ws (Some (record { variables = v; features = n }))) where
  pub yes-formed : WellFormed ws
  unfolding FormedIs
  yes-formed = yes.0

  pub yes-proper : Proper (content_in ws)
  yes-proper = formed-proper ws yes-formed

  pub yes-sized : Sized ws v n
  unfolding FormedIs
  yes-sized = let s = formed-sized ws yes-formed in
      record { count = yes.1 ∙ sized-length ws _ _ s; room = rw (yes.1, sized-length ws _ _ s) s.room; limits = s.limits; taken = s.taken; total = yes.2 }

  pub yes-due : Due v n ws
  yes-due = sized-due ws v n yes-sized yes-formed

  -- The lengths of the parts, and the limits.
  pub yes-cut : Cut (sizes_part v ws) (start_part v ws) (goal_part v ws) (pairs_part v n ws) (slots_part v n ws) n
  yes-cut = sized-cut ws v n yes-sized yes-due.words

  -- The parts make the content.
  pub yes-content : content_parts v n ws ≡ content_in ws
  yes-content = sized-content ws v n yes-sized
