-- What the functions answer in the words of the meaning: sides, what stands behind them, bays, and labels that are judged.
use Rattle.std.specs.Prelude.{ℕ, ◌*◌, ◌≡◌, List, take, Result, Ok, Err}
use Rattle.meaning.specs.Number.{Read, got, on_read}
use Rattle.meaning.specs.File.{Parser, give, then, values_of, ended}
use Rattle.meaning.specs.Bay.{Bay, slot_count, bay_sizes, judged_lots}
use Rattle.number.specs.Answers.{faulted}
use Rattle.number.specs.declared.Fault.{Fault}
use Rattle.building.specs.declared.Sides.{Sides}

-- What an answer says was read: both sides; or the labels that are left in two lent slices.
abbrev pub sides_read : Result Sides Fault → Read (ℕ × ℕ)
sides_read (Ok s) = got (s.rows, s.columns) s.next
sides_read (Err f) = faulted f

abbrev pub labels_read : Result ℕ Fault → List ℕ → List ℕ → Read (List ℕ × List ℕ)
labels_read (Ok next) start goal = got (start, goal) next
labels_read (Err f) start goal = faulted f

-- What a bay file of n slots holds behind its sides.
unfoldable pub labelled : ℕ → Parser (List ℕ × List ℕ)
labelled n = then (values_of (bay_sizes n)) (λ start. then (values_of (bay_sizes n)) (λ goal. then ended (λ _. give (start, goal))))

abbrev pub bay_with : ℕ → ℕ → List ℕ → List ℕ → Bay
bay_with rows columns start goal = record { rows = rows; columns = columns; start = start; goal = goal }

-- A bay of the code: its sides, and its labels in front of two arrays.
abbrev pub bay_in : Sides → List ℕ → List ℕ → Bay
bay_in s start goal = let n = s.rows * s.columns in bay_with s.rows s.columns (take n start) (take n goal)

-- Where a bay was read, the answer and the arrays are that bay, and otherwise the answer is the fault.
abbrev pub BayRead : Result Sides Fault → List ℕ → List ℕ → Read Bay → Type 0
BayRead (Ok s) start goal read = (next : ℕ) × (read ≡ got (bay_in s start goal) next)
BayRead (Err f) start goal read = read ≡ faulted f

-- A bay that was read, with its labels judged.
abbrev pub judged : Read Bay → Read Bay
judged read = on_read read (λ b next. judged_lots (slot_count b) b.start b.goal (got b next))
