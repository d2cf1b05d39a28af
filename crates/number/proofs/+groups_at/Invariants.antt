-- The measure of `groups_at` is how many groups are left.
use Rattle.number.proofs.+groups_at.Given as goal

abbrev pub decreases-groups_at : goal.decreases-groups_at
decreases-groups_at l = l.most
