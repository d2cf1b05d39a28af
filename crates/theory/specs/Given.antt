-- An operator within a task's limits, by the places of its entries.
use Rattle.std.specs.Prelude.{ℕ, ◌<◌, length}
use mathlib.Core.List.{List, Memᴰ as In}
use Rattle.meaning.specs.Task.{Entry, Operator, Entries, size}
use Rattle.meaning.specs.File.{InLimits}
use Rattle.theory.specs.Operators.{in-fine}
use Rattle.theory.specs.Walk.{entry_at, places-rise, at_place}

-- An entry of its parts.
abbrev pub entry_of : ℕ → ℕ → ℕ → Entry
entry_of variable before after = record { variable = variable; before = before; after = after }

-- An operator of a task within its limits.
pub record Given (sizes : List ℕ) (o : Operator) : Type 0 where
  pub limits : InLimits sizes
  pub entries : Entries sizes 0 o

module _ {sizes : List ℕ} {o : Operator} (given : Given sizes o) where
  pub entry_in_lem : (k : ℕ) → k < length o → In (entry_at o k) o
  entry_in_lem k l = at_place sizes o given.entries k l

  pub entry-fine : (k : ℕ) → k < length o → let e = entry_at o k in
      (e.variable < length sizes) × (e.before < size sizes e.variable) × (e.after < size sizes e.variable)
  entry-fine k l = let fine = in-fine sizes 0 o _ (entry_in_lem k l) given.entries in (fine.1, fine.2, fine.3)

  pub entries-rise : (k l : ℕ) → k < l → l < length o → (entry_at o k).variable < (entry_at o l).variable
  entries-rise k l q r = places-rise sizes 0 o given.entries k l q r
