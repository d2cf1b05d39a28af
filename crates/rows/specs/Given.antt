-- An operator within its task's limits: an unnamed variable is none of its entries'.
use Rattle.std.specs.Prelude.{ℕ, ◌<◌, ◌≡◌, ◌≢◌, false, List, length}
use Rattle.std.proofs.Common.{ap, sym, ◌∙◌}
use Rattle.meaning.specs.Task.{Operator, names}
use Rattle.theory.specs.Truth.{clash}
use Rattle.theory.specs.Given.{Given, entry_in_lem}
use Rattle.theory.specs.Operators.{names_in}
use Rattle.theory.specs.Walk.{entry_at}

module _ {sizes : List ℕ} {o : Operator} (given : Given sizes o) where
  pub entry_other : (u k : ℕ) → names o u ≡ false → k < length o → u ≢ (entry_at o k).variable
  entry_other u k q l z = clash (names_in o _ (entry_in_lem given k l)) (ap (names o) (sym z) ∙ q)
