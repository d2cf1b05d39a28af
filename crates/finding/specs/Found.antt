-- What the answers say in the words of the meaning, and that what is found is what is to be found.
use Rattle.std.specs.Prelude.{ℕ, ◌<◌, ◌≤◌, ◌≡◌, refl, Bool, true, false, List, Some, Result, Ok, Err, ltb, length}
use Rattle.std.proofs.Math.Path.{ap}
use Rattle.std.proofs.Common.{◌∙◌, subst, inl, inr, arith, lt-ltb, le-ltb}
use Rattle.meaning.specs.Feature.{features}
use Rattle.meaning.specs.Slot.{Reduced}
use Rattle.meaning.specs.Number.{Small, Malformed, refusal}
use Rattle.meaning.specs.Workspace.{words_for, Content, WellFormed}
use Rattle.meaning.specs.Answer.{Answer, done, refused, Finding, none, separated, FindsIn, Finds}
use Rattle.theory.specs.Words.{length-packed}
use Rattle.theory.specs.Slots.{lead, lead-none, lead-least, wit, least, nothing, found as some}
use Rattle.theory.specs.Finder.{left, none_left, least-left}
use Rattle.theory.specs.Contents.{content_in, formed-content}
use Rattle.slots.specs.Area.{slots_in}
use Rattle.slots.specs.Find.{found}
use Rattle.formed.specs.Parts.{content_from}
use Rattle.formed.specs.Formed.{FormedIs, yes-formed}
use Rattle.number.specs.Answers.{reason_of}
use Rattle.number.specs.declared.Reason.{Reason}
use Rattle.finding.specs.Search.{Searched, left_in}
use Rattle.finding.specs.declared.Found.{Found}
use Rattle.finding.specs.declared.Found.TheVariants.{Separated, Nothing}

-- Whether weights are found.
abbrev pub finding_of : Bool → Finding
finding_of true = separated
finding_of false = none

abbrev pub found_of : Result Found Reason → Answer Finding
found_of (Ok Separated) = done separated
found_of (Ok Nothing) = done none
found_of (Err reason) = refused (refusal (reason_of reason))

-- The witness of the least number that is left is what is to be found, and nothing where nothing is left.
left-finds : (c : Content) (room : List ℕ) (R : Reduced (features c.sizes) c.slots) → FindsIn c room (record {
  answer = done (finding_of (ltb (lead (features c.sizes) (left c R)) (features c.sizes)));
  lent = found (features c.sizes) c.slots (left c R) room;
})
unfolding found
left-finds c room R = elim (least (features c.sizes) (left c R)) [
  | nothing h ↦ rw (lead-none _ (left c R) h, le-ltb (features c.sizes) (features c.sizes) (omega arith)) (inl (none_left c R h, refl))
  | some m l k ↦ rw (lead-least _ m (left c R) l k, lt-ltb m (features c.sizes) l)
      (inr (wit c.slots m, least-left c R m l k, rw (length-packed (features c.sizes) (wit c.slots m)) refl))
]

-- What a search finds in the parts is what is to be found in their content.
pub searched-finds : (sizes start goal pairs area room lent : List ℕ) (n : ℕ) (separates : Bool) → Searched sizes start goal area n
    → separates ≡ ltb (lead n (left_in sizes start goal area n)) n → lent ≡ found n (slots_in n area) (left_in sizes start goal area n) room
    → FindsIn (content_from sizes start goal pairs area) room (record { answer = done (finding_of separates); lent = lent })
unfolding left_in left
searched-finds sizes start goal pairs area room lent n separates s e q =
    rw (e, q, s.total) (left-finds (content_from sizes start goal pairs area) room (rw (← s.total) s.slots))

-- ---- the answers of a call: 9, then 8, then what is found

pub malformed : (workspace room : List ℕ) → (WellFormed workspace → ⊥) → Finds workspace room (record { answer = refused (refusal Malformed); lent = room })
malformed workspace room d = inl (d, refl)

module _ (workspace room : List ℕ) (v n : ℕ) (yes : FormedIs workspace (Some (record { variables = v; features = n }))) where
  formed : WellFormed workspace
  formed = yes-formed workspace v n yes

  total : n ≡ features formed.content.sizes
  unfolding FormedIs
  total = yes.2 ∙ ap (λ c. features c.sizes) (formed-content workspace formed)

  pub small : length room < words_for n → Finds workspace room (record { answer = refused (refusal Small); lent = room })
  small l = inr (formed, rw (lt-ltb (length room) (words_for (features formed.content.sizes)) (omega (arith, total))) refl)

  pub finds : (separates : Bool) (lent : List ℕ) → words_for n ≤ length room → FindsIn (content_in workspace) room (record { answer = done (finding_of separates); lent = lent })
      → Finds workspace room (record { answer = done (finding_of separates); lent = lent })
  finds separates lent l h = inr (
    formed,
    rw (le-ltb (length room) (words_for (features formed.content.sizes)) (omega (arith, total)))
        (subst (λ c. FindsIn c room (record { answer = done (finding_of separates); lent = lent })) (formed-content workspace formed) h),
  )
