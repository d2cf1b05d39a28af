-- `first_fault`: the start decides first, then the first operator under which the list is not closed.
use Rattle.keeping.specs.Fault.{stands-there, fault-unclosed, fault-nothing}
use Rattle.keeping.proofs.first_fault.Goals as goal

pub returns-in_err-broken : goal.returns-in_err-broken
returns-in_err-broken c = rw c.from_residual.ensures (λ T end read. fault-nothing T _ _ _ end _ _ _ read c.in_default.ensures (c.in_err-broken.ensures T (stands-there T _ _ _ end _ _ _ read)))

pub returns : goal.returns
returns c = λ T end read. fault-unclosed T _ _ _ end _ _ _ read c.in_default.ensures _ (c.in_ok-broken.ensures T (stands-there T _ _ _ end _ _ _ read))
