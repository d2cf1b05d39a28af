-- `slots::put`: after the pending slots below p are cleared of p, the row is written as slot p.
use native.Mathlib.Omega.{arith}
use Rattle.meaning.specs.Workspace.{has}
use Rattle.slots.specs.Inserting.{after-put}
use Rattle.slots.proofs.put.Goals as goal

pub returns : goal.returns
returns c = record { slots = after-put (has c.args.pending.now) c.args.p c.args.row.now c.args.area.now c.clear_pending.new.area c.write_slot.new.area (omega (arith, c.requires, c.clear_pending.auto)) c.write_slot.ensures c.clear_pending.ensures; full = c.toggle.ensures; pending = c.toggle-2.ensures }
