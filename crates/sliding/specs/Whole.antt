-- The whole task file: what it is written from, how many bytes it has, and what comes of labels as they are judged.
use Rattle.std.specs.Prelude.{ℕ, ◌+◌, ◌*◌, ◌≤◌, ◌≡◌, ◌≢◌, true, false, List, ◌++◌, length, take, replicate}
use Rattle.std.proofs.Math.Path.{refl}
use Rattle.std.proofs.Common.{sym, ap, subst, ◌∙◌, arith}
use Rattle.std.proofs.lemmas.List.{length-replicate}
use borrow.Author.Tests.{eq-eqb, ne_eqb}
use Rattle.meaning.specs.Limits.{most_slots, most_features}
use Rattle.meaning.specs.Number.{Gaps, Unequal}
use Rattle.meaning.specs.Feature.{atoms, features}
use Rattle.meaning.specs.Workspace.{words_for}
use Rattle.meaning.specs.File.{plain, InLimits, operator_bytes, counted, task_bytes}
use Rattle.meaning.specs.Answer.{refuses, delivered}
use Rattle.meaning.specs.Bay.{occurrences, one_gap, equal_lots, once_in, bay_sizes, bay_pairs, task_for}
use Rattle.theory.specs.Flat.{take-replicate}
use Rattle.theory.specs.Run.{run_wider}
use Rattle.theory.specs.NumberBack.{number-bytes-length}
use Rattle.theory.specs.BayPairs.{pairs-run}
use Rattle.theory.specs.BayTask.{bay-limits}
use Rattle.words.specs.Members.{members_in}
use Rattle.words.specs.Toggled.{toggled_all, run-held}
use Rattle.writer.specs.Widths.{four_lists, part_length}
use Rattle.writer.specs.Front.{Front, front_bytes, sizes-countable, state-countable, front-few, task-front}
use Rattle.sliding.specs.Parts.{Slots, Uniform, TaskParts, operators_in, task_in, built_in}
use Rattle.sliding.specs.Operators.{operators-length}
use Rattle.sliding.specs.Counts.{operators-few}

-- ---- sizes and pairs

module _ {near start : List ℕ} (slots : Slots near start) where
  slots-limits : InLimits (bay_sizes (length start))
  slots-limits = bay-limits (length start) slots.least slots.most

  -- The prefix of an array that is full of their number.
  pub take-sizes : take (length start) (replicate most_slots (length start)) ≡ bay_sizes (length start)
  take-sizes = take-replicate (length start) most_slots (length start) slots.most

  -- It is lent to mark the pairs, and the words of the most features have a place for each feature.
  pub sizes-lent : let sizes = take (length start) (replicate most_slots (length start)) in Uniform sizes × (features sizes ≤ most_features)
  sizes-lent =
      let n = length start in
      subst (λ sizes. Uniform sizes × (features sizes ≤ most_features)) (sym take-sizes)
      ((ap bay_sizes (sym (length-replicate n n)), rw (length-replicate n n) slots.most), slots-limits.total)

  -- Marked in such words, the pairs are their members.
  pub pairs-held : (sizes words : List ℕ) → sizes ≡ bay_sizes (length start) → words ≡ toggled_all (replicate (words_for most_features) 0) (bay_pairs (length sizes) (once_in start))
      → members_in words ≡ bay_pairs (length start) (once_in start)
  pairs-held sizes words s e =
      let n = length start in
      ap members_in (e ∙ ap (λ m. toggled_all (replicate (words_for most_features) 0) (bay_pairs m (once_in start))) (ap length s ∙ length-replicate n n))
      ∙ run-held (atoms (bay_sizes n)) (words_for most_features) (bay_pairs n (once_in start)) (run_wider _ _ _ _ _ (omega arith) slots-limits.total (pairs-run (once_in start) n))

-- ---- the file

module _ {near sizes start goal pairs : List ℕ} (parts : TaskParts near sizes start goal pairs) where
  -- What stands before the operators can be written.
  pub front-written : Front sizes start goal pairs
  front-written =
      let limits = slots-limits parts.slots in
      (rw parts.all-sizes (sizes-countable _ limits), state-countable _ start limits parts.slots.state, state-countable _ goal limits parts.is-goal, parts.few_words)

  pub task-split : task_bytes (task_in near start goal) ≡ front_bytes plain sizes start goal (members_in pairs) ++ counted operator_bytes (operators_in near start)
  unfolding task_for
  task-split = rw (parts.all-sizes, parts.all-pairs) (task-front plain (task_in near start goal))

  pub task-length : length (task_bytes (task_in near start goal)) ≡ length (front_bytes plain sizes start goal (members_in pairs)) + length (counted operator_bytes (operators_in near start))
  task-length = part_length (front_bytes plain sizes start goal (members_in pairs)) _ task-split

  -- The whole is small.
  pub task-few : length (task_bytes (task_in near start goal)) ≤ 2 * four_lists
  task-few =
      omega (
        arith,
        task-length,
        front-few plain sizes start goal pairs front-written,
        operators-length near start parts.slots,
        (number-bytes-length (length (operators_in near start))).1,
        operators-few near start parts.slots,
      )

-- ---- labels are judged

module _ (near start goal room : List ℕ) where
  pub built-start : occurrences 0 start ≢ 1 → built_in near start goal room ≡ refuses Gaps room
  unfolding built_in one_gap
  built-start d = rw (ne_eqb (occurrences 0 start) 1 d) refl

  module _ (one : occurrences 0 start ≡ 1) where
    pub built-goal : occurrences 0 goal ≢ 1 → built_in near start goal room ≡ refuses Gaps room
    unfolding built_in one_gap
    built-goal d = rw (eq-eqb (occurrences 0 start) 1 one, ne_eqb (occurrences 0 goal) 1 d) refl

    module _ (other : occurrences 0 goal ≡ 1) where
      pub built-unequal : equal_lots (length start) start goal ≡ false → built_in near start goal room ≡ refuses Unequal room
      unfolding built_in one_gap
      built-unequal e = rw (eq-eqb (occurrences 0 start) 1 one, eq-eqb (occurrences 0 goal) 1 other, e) refl

      pub built-whole : equal_lots (length start) start goal ≡ true → built_in near start goal room ≡ delivered (task_bytes (task_in near start goal)) room
      unfolding built_in one_gap
      built-whole e = rw (eq-eqb (occurrences 0 start) 1 one, eq-eqb (occurrences 0 goal) 1 other, e) refl
