-- `main`: the room for a task is as long as it is said to be; it is too long to be counted by computing.
use Rattle.std.proofs.Common.{ℕ, sym}
use lib.ListN.{length-replicate}
use Rattle.checker.proofs.main.Goals as goal

pub slice_bounds-check-end : goal.slice_bounds-check-end
slice_bounds-check-end c = sym (length-replicate {A = ℕ} 1048577 0)
