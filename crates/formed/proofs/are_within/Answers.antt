-- `formed::are_within`: what is left is that no member is past the bound.
use Rattle.formed.specs.Tests.{within-past}
use Rattle.formed.proofs.are_within.Goals as goal

pub returns : goal.returns
returns c = within-past _ _ _ _ _ c.next_member.ensures c.if-next_member-low.false c.next_member-2.ensures
