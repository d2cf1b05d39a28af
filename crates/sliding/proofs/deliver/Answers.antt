-- `deliver` lends the prefix of an array that holds the sizes, and the words that hold the pairs.
use native.Mathlib.Omega.{arith}
use Rattle.sliding.specs.Whole.{take-sizes, sizes-lent, pairs-held}
use Rattle.sliding.proofs.deliver.Goals as goal

pub mark_pairs-requires : goal.mark_pairs-requires
mark_pairs-requires c = sizes-lent c.requires.0

pub write_task-requires : goal.write_task-requires
write_task-requires c =
    let (slots, goal) = c.requires in
    record {
      slots = slots;
      is-goal = goal;
      all-sizes = take-sizes slots;
      few_words = omega (arith, c.mark_pairs.auto.pairs);
      all-pairs = pairs-held slots _ _ (take-sizes slots) c.mark_pairs.ensures;
    }
