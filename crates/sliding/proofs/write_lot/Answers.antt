-- `write_lot` writes the slide of a label that occurs, and else nothing.
use mathlib.Core.Path.{◌≡◌, sym, ap, ◌∙◌}
use native.Mathlib.Omega.{arith}
use lib.ListN.{length}
use Rattle.meaning.specs.File.{operator_bytes}
use Rattle.meaning.specs.Bay.{slide}
use Rattle.sliding.specs.Parts.{lot_bytes}
use Rattle.sliding.specs.Turns.{nothing-due}
use Rattle.sliding.specs.Operators.{lot-there, no-lot, slide-written}
use Rattle.sliding.proofs.write_lot.Goals as goal
use Rattle.sliding.proofs.write_lot.Goals.{Else-occurrences-eq0}

-- Past the test the slide is due.
due : (c : Else-occurrences-eq0) → let a = c.args in lot_bytes a.start.now a.p a.q a.t ≡ operator_bytes (slide a.p a.q a.t)
due c =
    let a = c.args in
    lot-there a.start.now a.p a.q a.t (λ e. c.if-occurrences-eq0.false (c.occurrences.ensures ∙ e))

pub returns-then-occurrences-eq0 : goal.returns-then-occurrences-eq0
returns-then-occurrences-eq0 c =
    let a = c.args in
    let told = nothing-due a.room.now a.at (lot_bytes a.start.now a.p a.q a.t) c.requires.3
    (no-lot a.start.now a.p a.q a.t (sym c.occurrences.ensures ∙ c.if-occurrences-eq0.true)) in
    record { after = told.0; written = told.1 }

pub write_operator-requires : goal.write_operator-requires
write_operator-requires c =
    let a = c.args in
    let pre = c.requires in
    rw c.slide.ensures (slide-written a.p a.q a.t pre.0 pre.1 pre.2, omega (arith, pre.3, ap length (due (goal.at.write_operator-requires c).Else-occurrences-eq0)))

pub returns : goal.returns
returns c =
    let a = c.args in
    let whole : operator_bytes c.slide.result ≡ lot_bytes a.start.now a.p a.q a.t = ap operator_bytes c.slide.ensures ∙ sym (due (goal.at.returns c).Else-occurrences-eq0) in
    rw (← whole) (record { after = c.write_operator.ensures.after; written = c.write_operator.ensures.written })
