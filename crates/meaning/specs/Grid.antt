-- The small grid of four kinds by four: how a feature of two named variables changes.
use Rattle.std.specs.Prelude.{ℕ, Bool, true, false, List, [], ◌∷◌, get_or}

-- "kinds are absent, kept, made, used"
pub data Kind : Type 0 where
  absent kept made used : Kind

-- The kind of an atom, by whether it is true before and after.
abbrev pub kind : Bool → Bool → Kind
kind false false = absent
kind true true = kept
kind false true = made
kind true false = used

-- The row and the column of a kind.
abbrev pub place : Kind → ℕ
place absent = 0
place kept = 1
place made = 2
place used = 3

-- "the entry is 1 for made with made, used with used, and kept with made or used either way round; else 0"
abbrev pub grid : List (List ℕ)
grid = (0 ∷ 0 ∷ 0 ∷ 0 ∷ []) ∷ (0 ∷ 0 ∷ 1 ∷ 1 ∷ []) ∷ (0 ∷ 1 ∷ 1 ∷ 0 ∷ []) ∷ (0 ∷ 1 ∷ 0 ∷ 1 ∷ []) ∷ []

-- The entry for the kinds of two atoms.
abbrev pub effect : Kind → Kind → ℕ
effect a b = get_or (get_or grid (place a) []) (place b) 0
