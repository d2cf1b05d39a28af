-- A task file of a kind from its parts: its front anew, and its operators as they stand in another file.
use Rattle.std.specs.Prelude.{ℕ, ◌+◌, ◌*◌, ◌≤◌, ◌≡◌, length, take, drop, Ok}
use Rattle.std.proofs.Math.Path.{refl}
use Rattle.std.proofs.Common.{sym, arith}
use mathlib.Core.List.{List, [], ◌++◌, append-nil}
use Rattle.std.proofs.Math.ListN.{length-append}
use Rattle.meaning.specs.Number.{number_bytes}
use Rattle.meaning.specs.Task.{Task}
use Rattle.meaning.specs.File.{Kind, bytes_of, counted, operator_bytes, task_bytes_as}
use Rattle.meaning.specs.Answer.{delivered}
use Rattle.theory.specs.NumberBack.{number-bytes-length}
use Rattle.words.specs.Members.{members_in}
use Rattle.writer.specs.Widths.{four_lists}
use Rattle.writer.specs.Answer.{outcome_of}
use Rattle.writer.specs.Front.{Front, front_bytes, front-few, task-front}
use Rattle.writer.specs.Remains.{remains-all, remains-after, remains-none, delivered-done}

module _ (kind : Kind) (count : ℕ) (own sizes start goal pairs : List ℕ) where
  abbrev front : List ℕ
  front = front_bytes kind sizes start goal (members_in pairs)

  -- Front, count and operators.
  unfoldable pub file_bytes : List ℕ
  file_bytes = front ++ (number_bytes count ++ own)

  pub file-length : length file_bytes ≡ length front + (length (number_bytes count) + length own)
  unfolding file_bytes
  file-length = omega (arith, length-append front (number_bytes count ++ own), length-append (number_bytes count) own)

  -- The whole is short but for the operators.
  pub file-few : Front sizes start goal pairs → length file_bytes ≤ 2 * four_lists + length own
  file-few h = omega (arith, file-length, front-few kind sizes start goal pairs h, (number-bytes-length count).1)

  -- Three parts that were written one after the other are the whole file.
  pub file-delivered : (room : List ℕ) → length file_bytes ≤ length room
      → (room₁ : List ℕ) (second : ℕ) → second ≡ length front → room₁ ≡ front ++ drop second room
      → (room₂ : List ℕ) (third : ℕ) → third ≡ second + length (number_bytes count) → room₂ ≡ take second room₁ ++ (number_bytes count ++ drop third room₁)
      → (room₃ : List ℕ) (end : ℕ) → end ≡ third + length own → room₃ ≡ take third room₂ ++ (own ++ drop end room₂) → outcome_of (Ok end) room₃ ≡ delivered file_bytes room
  unfolding file_bytes
  file-delivered room fit room₁ second p₁ w₁ room₂ third p₂ w₂ room₃ end p₃ w₃ =
      let one = remains-after (remains-all room 0 file_bytes (omega arith)) front _ room₁ second refl (omega arith) w₁ in
      let two = remains-after one (number_bytes count) own room₂ third refl p₂ w₂ in
      let all = remains-none (remains-after two own [] room₃ end (sym (append-nil own)) p₃ w₃) refl in
      delivered-done file_bytes room room₃ end fit all.0 all.1

-- It is the file of a task whose parts they are.
pub task-file : (kind : Kind) (T : Task) (count : ℕ) (own pairs : List ℕ) → count ≡ length T.operators → own ≡ bytes_of operator_bytes T.operators → members_in pairs ≡ T.pairs
    → file_bytes kind count own T.sizes T.start T.goal pairs ≡ task_bytes_as kind T
unfolding file_bytes counted
task-file kind T count own pairs many copied same = rw (many, copied, same) (sym (task-front kind T))
