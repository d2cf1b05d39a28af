-- `pair_fault`: what is known of a task that was read goes to `tell_fault`, if the room is long enough; a refusal is answered as it is.
use Rattle.std.proofs.lemmas.Result.{err_from_is_err_and}
use Rattle.task.specs.Answer.{judged-refused}
use Rattle.mending.specs.Answer.{read-by, fault-refused, fault-small}
use Rattle.mending.proofs.pair_fault.Goals as goal

pub returns-in_err-header : goal.returns-in_err-header
returns-in_err-header c = let p = err_from_is_err_and c.from_residual.result c.from_residual.ensures.1 in
    rw (p.1, p.2) (fault-refused _ _ (judged-refused _ _ _ _ c.in_err-header.ensures) c.args.room.now)

pub returns-then-room-lt-FAULT_WORDS : goal.returns-then-room-lt-FAULT_WORDS
returns-then-room-lt-FAULT_WORDS c = fault-small (read-by _ _ _ _ c.in_ok-header.ensures).1 c.args.room.now c.if-room-lt-FAULT_WORDS.true

pub tell_fault-requires : goal.tell_fault-requires
tell_fault-requires c = (read-by _ _ _ _ c.in_ok-header.ensures, c.if-room-lt-FAULT_WORDS.false)
