-- `put_part` refuses a room that has not two words.
use mathlib.Core.Path.{refl}
use borrow.Author.Tests.{lt-ltb}
use lib.ListN.{length}
use Rattle.meaning.specs.Limits.{place_words}
use Rattle.showing.proofs.put_part.Goals as goal

pub returns-then-room-lt-PLACE_WORDS : goal.returns-then-room-lt-PLACE_WORDS
returns-then-room-lt-PLACE_WORDS c = rw (lt-ltb (length c.args.room.now) place_words c.if-room-lt-PLACE_WORDS.true) refl
