-- A slot area of which some slots are pending, with the indices of those and of all that are not empty; what settling makes of it.
use Rattle.std.specs.Prelude.{ℕ, ◌*◌, ◌≤◌, ◌≡◌, true, ◌&&◌, List, ltb, length}
use Rattle.std.proofs.Common.{◌∙◌}
use Rattle.meaning.specs.Sets.{Slots}
use Rattle.meaning.specs.Limits.{most_features}
use Rattle.meaning.specs.Workspace.{has, words_for}
use Rattle.theory.specs.Postponed.{Part, settled, part_low, part-full}
use Rattle.slots.specs.Area.{slot_at, slots_in, LedArea, led-area, led-full}

-- A set has the indices of the slots that are not empty.
abbrev pub Indexes : Slots → List ℕ → Type 0
Indexes slots full = (i : ℕ) → has full i ≡ slots i i

-- As they are collected.
pub indexes-collected : (n w : ℕ) (full area : List ℕ) → w ≡ words_for n → ((f : ℕ) → has full f ≡ (ltb f n && has (slot_at w area f) f)) → Indexes (slots_in n area) full
unfolding slots_in
indexes-collected n w full area e h i = h i ∙ rw e

-- The index of a slot that has a member is in it.
pub indexes-cover : (n : ℕ) (full area : List ℕ) → LedArea n area → Indexes (slots_in n area) full → (i f : ℕ) → slots_in n area i f ≡ true → has full i ≡ true
indexes-cover n full area led full-are i f e = full-are i ∙ led-full n area led i f e

-- An area of n slots of which some are pending, with the indices of those that are not empty and of the pending ones.
pub record Waiting (n : ℕ) (full pending area : List ℕ) : Type 0 where
  pub few : n ≤ most_features
  pub long : length area ≡ n * words_for n
  pub full-long : length full ≡ words_for n
  pub pending-long : length pending ≡ words_for n
  pub full-are : Indexes (slots_in n area) full
  pub part : Part n (has pending) (slots_in n area)

-- The slots once they are settled.
abbrev pub settled_in : ℕ → List ℕ → List ℕ → Slots
settled_in n pending area = settled n (has pending) (slots_in n area)

pub waiting-led : {n : ℕ} {full pending area : List ℕ} → Waiting n full pending area → LedArea n area
waiting-led {n = n} {area = area} h = led-area n area h.few h.long (part_low h.part) (part-full h.part)
