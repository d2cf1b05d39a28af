-- `judge_whole`: the parts of the header that was built are lent, and what is judged of them is judged of the file.
use Rattle.std.proofs.lemmas.Result.{err_from_is_err_and}
use Rattle.layout.specs.Parts.{Headed}
use Rattle.order.specs.Whole.{whole-own, built-room, built-ready, whole-refused, whole-accepted}
use Rattle.order.proofs.judge_whole.Goals as goal
use Rattle.order.proofs.judge_whole.Goals.{After-build_header-n}

-- The header that was built has room for all its parts.
room : (s : After-build_header-n) → Headed s.args.front.variables s.build_header-n.result s.build_header-n.new.header
room s = built-room s.requires.0 s.args.lean _ _ s.build_header-n.ensures.words _ s.build_header-n.ensures.total

pub build_header-n-requires : goal.build_header-n-requires
build_header-n-requires c = let p = c.requires in (whole-own p.0, p.1, p.2)

pub start-requires : goal.start-requires
start-requires c = room (goal.at.start-requires c).After-build_header-n

pub goal-requires : goal.goal-requires
goal-requires c = room (goal.at.goal-requires c).After-build_header-n

pub pairs-requires : goal.pairs-requires
pairs-requires c = room (goal.at.pairs-requires c).After-build_header-n

pub judge_built-requires : goal.judge_built-requires
judge_built-requires c = built-ready c.requires.0 c.args.lean _ _ c.build_header-n.ensures.words _ c.build_header-n.ensures.total _ _ _ _ c.sizes.ensures
    c.start.ensures c.goal.ensures c.pairs.ensures

pub returns-in_err-kept : goal.returns-in_err-kept
returns-in_err-kept c =
    let p = err_from_is_err_and c.from_residual.result c.from_residual.ensures.1 in
    rw (p.1, p.2) (whole-refused c.requires.0 c.args.lean _ _ c.build_header-n.ensures.words _ c.build_header-n.ensures.total _ _ _ _ c.sizes.ensures
    c.start.ensures c.goal.ensures c.pairs.ensures _ c.in_err-kept.ensures)

pub returns : goal.returns
returns c = whole-accepted c.requires.0 c.args.lean _ _ c.build_header-n.ensures.words _ c.build_header-n.ensures.total _ _ _ _ c.sizes.ensures
    c.start.ensures c.goal.ensures c.pairs.ensures _ c.in_ok-kept.ensures
