-- The code's record of places in the words of the meaning, and that all of them are small.
use Rattle.std.specs.Prelude.{ℕ, ◌*◌, ◌≤◌, ◌≡◌, refl}
use Rattle.std.proofs.Common.{arith, mul-le-mul}
use Rattle.meaning.specs.Limits.{most_features}
use Rattle.meaning.specs.Workspace.{words_for, start_at, goal_at, pairs_at, slots_at, words_due}
use Rattle.layout.specs.declared.Places.{Places}

-- The places of a workspace for v variables and n features.
abbrev pub places_of : ℕ → ℕ → Places
places_of v n = record { start = start_at v; goal = goal_at v; pairs = pairs_at v; slots = slots_at v n; end = words_due v n }

-- The words of all slots are few enough to count.
pub slots-few : (n : ℕ) → n ≤ most_features → n * words_for n ≤ most_features * words_for most_features
slots-few n h = mul-le-mul h (let k : words_for n ≤ words_for most_features = omega arith in k)

-- Each place by its name, as `omega` reads it.
pub places-are : (v n : ℕ) (at : Places) → at ≡ places_of v n
    → (at.start ≡ start_at v) × (at.goal ≡ goal_at v) × (at.pairs ≡ pairs_at v) × (at.slots ≡ slots_at v n) × (at.end ≡ words_due v n)
places-are v n at is = rw is (refl, refl, refl, refl, refl)
