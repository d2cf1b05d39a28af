-- `write_operators` writes three parts one after the other.
use Rattle.completing.specs.Parts.{count_fits, own-fits, kept-fits, operators-written}
use Rattle.completing.proofs.write_operators.Goals as goal

pub write_number-second-requires : goal.write_number-second-requires
write_number-second-requires c = let a = c.args in (c.requires.0, count_fits a.count a.own.now a.sizes.now a.pairs.now a.goal.now a.lean a.room.now a.at c.requires.3)

pub write_bytes-third-requires : goal.write_bytes-third-requires
write_bytes-third-requires c = let a = c.args in own-fits a.count a.own.now a.sizes.now a.pairs.now a.goal.now a.lean a.room.now a.at c.requires.3 _ _ c.write_number-second.ensures.after c.write_number-second.ensures.written

pub write_kept-requires : goal.write_kept-requires
write_kept-requires c =
    let a = c.args in
    (c.requires.1, c.requires.2, kept-fits a.count a.own.now a.sizes.now a.pairs.now a.goal.now a.lean a.room.now a.at c.requires.3 _ _ c.write_number-second.ensures.after c.write_number-second.ensures.written _ _ c.write_bytes-third.ensures.after c.write_bytes-third.ensures.written)

pub returns : goal.returns
returns c =
    let a = c.args in
    let told = operators-written a.count a.own.now a.sizes.now a.pairs.now a.goal.now a.lean a.room.now a.at c.requires.3 _ _ c.write_number-second.ensures.after c.write_number-second.ensures.written _ _ c.write_bytes-third.ensures.after c.write_bytes-third.ensures.written _ _ c.write_kept.ensures.after c.write_kept.ensures.written in
    record { after = told.0; written = told.1 }
