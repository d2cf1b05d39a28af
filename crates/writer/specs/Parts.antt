-- What can be written as a part of a file: lists of numbers, the words of a set of features, and an operator.
use Rattle.std.specs.Prelude.{ℕ, ◌*◌, ◌<◌, ◌≤◌, List, length, get_or}
use Rattle.meaning.specs.Limits.{most_features, number_end, word_bits}
use Rattle.meaning.specs.Task.{Entry, Operator}
use Rattle.theory.specs.Walk.{entry_at}

-- Each element is a number of a file.
abbrev pub Numbers : List ℕ → Type 0
Numbers values = (i : ℕ) → i < length values → get_or values i 0 < number_end

-- And so is their count.
abbrev pub Countable : List ℕ → Type 0
Countable values = (length values < number_end) × Numbers values

-- Words of a set of features that are all in range, whichever they are.
abbrev pub FewWords : List ℕ → Type 0
FewWords words = word_bits * length words ≤ most_features

-- Each of the three numbers of an entry is a number of a file.
abbrev pub Numbered : Entry → Type 0
Numbered e = (e.variable < number_end) × (e.before < number_end) × (e.after < number_end)

-- And so are those of each entry of an operator, and their count.
abbrev pub Triples : Operator → Type 0
Triples o = (length o < number_end) × ((i : ℕ) → i < length o → Numbered (entry_at o i))
