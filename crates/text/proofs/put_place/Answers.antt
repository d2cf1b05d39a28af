-- `put_place`: three parts one behind the other.
use native.Mathlib.Omega.{arith}
use Rattle.text.specs.Parts.{place-put, place-long}
use Rattle.text.proofs.put_place.Goals as goal

pub put-first-requires : goal.put-first-requires
put-first-requires c = let a = c.args in omega (arith, place-long a.place a.file.now)

pub put_word-second-requires : goal.put_word-second-requires
put_word-second-requires c = let a = c.args in omega (arith, place-long a.place a.file.now, c.put-first.ensures.place)

pub put-requires : goal.put-requires
put-requires c = let a = c.args in omega (arith, place-long a.place a.file.now, c.put-first.ensures.place, c.put_word-second.ensures.place)

pub returns : goal.returns
returns c = place-put _ _ (omega arith) c.put-first.ensures c.put_word-second.ensures c.put.ensures
