-- `first_pair` meets its contract: at each turn only the pairs of the variables before k are not counted, and all sums stay small.
use Rattle.std.proofs.Common.{ℕ, ◌+◌, ◌-◌, ◌*◌, ◌≤◌, ◌≡◌, List, arith}
use Rattle.meaning.specs.Limits.{most_atoms}
use Rattle.numbering.specs.Sizes.{most_pairs}
use Rattle.numbering.specs.Blocks.{Counted, counted-first, counted-turn, counted-small, counted-last}
use Rattle.numbering.proofs.first_pair.Goals as goal
use Rattle.numbering.proofs.first_pair.Goals.{After-size-own, After-size-d}

-- What is counted, and that it is small.
abbrev Sums : List ℕ → ℕ → ℕ → ℕ → ℕ → ℕ → Type 0
Sums sizes i j k count pairs = Counted sizes i j k count pairs × (count ≤ most_atoms) × (pairs ≤ most_pairs)

-- At first the pairs of variable i itself are counted.
begin : (c : After-size-own) → let a = c.args in
    let rests = c.atoms_from-rests.result in
    let own = c.size-own.result in
    (own + rests.second ≤ rests.first) × Sums a.sizes.now a.i a.j a.i rests.first (own * (rests.first - (own + rests.second)))
begin c =
    let (small, ordered, _) = c.requires in
    let (first, second) = c.atoms_from-rests.ensures in
    let (room, counted) = counted-first _ _ _ ordered _ _ _ c.size-own.ensures first second in
    let (few, most) = counted-small _ _ _ ordered _ _ _ small counted in
    (room, (counted, few, most))

-- What a turn adds.
turn : (c : After-size-d) → let a = c.args in
    let at = c.loop-k in
    Sums a.sizes.now a.i a.j (at.k - 1) (at.behind + c.size-d.result) (at.pairs + c.size-d.result * at.behind)
turn c =
    let (small, ordered, _) = c.requires in
    let counted = counted-turn _ _ _ _ (omega arith) c.size-d.ensures _ _ _ c.loop-k.invariant in
    let (few, most) = counted-small _ _ _ ordered _ _ _ small counted in
    (counted, few, most)

pub overflow_add-pairs : goal.overflow_add-pairs
overflow_add-pairs c = let (room, sums) = begin (goal.at.overflow_add-pairs c).After-size-own in omega (arith, room, sums.1)

pub overflow_sub-pairs : goal.overflow_sub-pairs
overflow_sub-pairs c = (begin (goal.at.overflow_sub-pairs c).After-size-own).0

pub overflow_mul-pairs : goal.overflow_mul-pairs
overflow_mul-pairs c = omega (arith, (begin (goal.at.overflow_mul-pairs c).After-size-own).1.2)

pub loop-k-init : goal.loop-k-init
loop-k-init c = (begin (goal.at.loop-k-init c).After-size-own).1.0

pub overflow_mul-pairs-in-loop-k : goal.overflow_mul-pairs-in-loop-k
overflow_mul-pairs-in-loop-k c = omega (arith, (turn c).2)

pub overflow_add-pairs-in-loop-k : goal.overflow_add-pairs-in-loop-k
overflow_add-pairs-in-loop-k c = omega (arith, (turn c).2)

pub overflow_add-behind : goal.overflow_add-behind
overflow_add-behind c = omega (arith, (turn c).1)

pub loop-k-preserved : goal.loop-k-preserved
loop-k-preserved c = (turn c).0

pub overflow_add-result : goal.overflow_add-result
overflow_add-result c = let (small, ordered, _) = c.requires in omega (arith, counted-small _ _ _ ordered _ _ _ small c.loop-k.invariant)

pub returns : goal.returns
returns c = let e : c.loop-k.k ≡ 0 = omega arith in counted-last _ _ _ _ _ (rw e at c.loop-k.invariant)
