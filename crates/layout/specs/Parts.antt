-- The parts of a workspace for v variables and n features, each under one name; and that they are what is lent from one place to the next.
use Rattle.std.specs.Prelude.{ℕ, ◌+◌, ◌-◌, ◌*◌, ◌≤◌, ◌≡◌, refl, List, length, get_or, take, drop, replicate}
use Rattle.std.proofs.Common.{ap, ◌∙◌, arith, length-drop, length-take-le}
use Rattle.meaning.specs.Limits.{most_variables, most_features}
use Rattle.meaning.specs.Workspace.{words_for, sizes_at, start_at, goal_at, pairs_at, slots_at, words_due}
use Rattle.theory.specs.Flat.{take-replicate}
use Rattle.theory.specs.Contents.{sizes_in}
use Rattle.layout.specs.declared.Places.{Places}
use Rattle.layout.specs.Places.{places_of}

abbrev pub sizes_part : ℕ → List ℕ → List ℕ
sizes_part v ws = take v (drop sizes_at ws)

abbrev pub start_part : ℕ → List ℕ → List ℕ
start_part v ws = take v (drop (start_at v) ws)

abbrev pub goal_part : ℕ → List ℕ → List ℕ
goal_part v ws = take v (drop (goal_at v) ws)

abbrev pub pairs_part : ℕ → ℕ → List ℕ → List ℕ
pairs_part v n ws = take (words_for n) (drop (pairs_at v) ws)

abbrev pub slots_part : ℕ → ℕ → List ℕ → List ℕ
slots_part v n ws = take (n * words_for n) (drop (slots_at v n) ws)

-- The sizes by the count that words begin with.
pub sizes-first : (ws : List ℕ) → sizes_part (get_or ws 0 0) ws ≡ sizes_in ws
unfolding sizes_in
sizes-first ws = refl

-- All words before the slots are there, and few enough to count.
pub record Headed (v n : ℕ) (ws : List ℕ) : Type 0 where
  pub variables : v ≤ most_variables
  pub features : n ≤ most_features
  pub words : slots_at v n ≤ length ws

-- All words that are due are there, and few enough to count.
pub record Due (v n : ℕ) (ws : List ℕ) : Type 0 where
  pub variables : v ≤ most_variables
  pub features : n ≤ most_features
  pub words : words_due v n ≤ length ws

-- What is asked to lend a part.
pub headed-sizes : {v n : ℕ} {ws : List ℕ} → Headed v n ws → (v ≤ most_variables) × (start_at v ≤ length ws)
headed-sizes {n = n} headed = (headed.variables, omega (arith, headed.words))

module _ {v n : ℕ} {ws : List ℕ} (due : Due v n ws) where
  pub due-headed : Headed v n ws
  due-headed = record { variables = due.variables; features = due.features; words = omega (arith, due.words) }

  pub due-sizes : (v ≤ most_variables) × (start_at v ≤ length ws)
  due-sizes = headed-sizes due-headed

-- The words of a part, where all that are due are there.
pub length_part : (from n : ℕ) (ws : List ℕ) → from + n ≤ length ws → length (take n (drop from ws)) ≡ n
length_part from n ws h = length-take-le n (drop from ws) (rw (length-drop from ws) (omega arith))

-- The part of a list that is lent from one place to another.
pub lent : {A : Type 0} (from n : ℕ) (l : List A) → take (from + n - from) (drop from l) ≡ take n (drop from l)
lent from n l = let e : from + n - from ≡ n = omega arith in rw e

-- The parts as they are lent by the code's places.
module _ (v n : ℕ) (at : Places) (is : at ≡ places_of v n) (ws : List ℕ) where
  pub lent-start : take (at.goal - at.start) (drop at.start ws) ≡ start_part v ws
  lent-start = rw is (lent (start_at v) v ws)

  pub lent-goal : take (at.pairs - at.goal) (drop at.goal ws) ≡ goal_part v ws
  lent-goal = rw is (lent (goal_at v) v ws)

  pub lent-pairs : take (at.slots - at.pairs) (drop at.pairs ws) ≡ pairs_part v n ws
  lent-pairs = rw is (lent (pairs_at v) (words_for n) ws)

  pub lent-slots : take (at.end - at.slots) (drop at.slots ws) ≡ slots_part v n ws
  lent-slots = rw is (lent (slots_at v n) (n * words_for n) ws)

-- The first words of zeros for the most features are the zeros for fewer.
pub room-zeros : (w n : ℕ) → n ≤ most_features → w ≡ words_for n → take w (replicate {A = ℕ} (words_for most_features) 0) ≡ replicate (words_for n) 0
room-zeros w n h e = ap (λ k. take k (replicate {A = ℕ} (words_for most_features) 0)) e ∙ take-replicate (words_for n) (words_for most_features) 0 (omega arith)
