-- What is left when the start's pairs are taken out and then all passes are made: the largest good sublist.
use Rattle.std.specs.Prelude.{ℕ, ◌≡◌, Bool, ◌&&◌, not, List}
use Rattle.std.proofs.Common.{ap, ◌∙◌, subst, arith}
use Rattle.meaning.specs.Task.{Operator, Task, State}
use Rattle.meaning.specs.Feature.{features}
use Rattle.meaning.specs.Pair.{unclosed_pair, held_pair}
use Rattle.meaning.specs.Workspace.{has}
use Rattle.meaning.specs.Mend.{Largest}
use Rattle.theory.specs.Truth.{on, off, test}
use Rattle.theory.specs.Run.{members}
use Rattle.theory.specs.Mending.{Below, Narrowed, narrowed-on, narrowed-largest, Without, held-narrowed, held-free, listed_below, ReadAs}
use Rattle.words.specs.Members.{members_in, members-below}
use Rattle.keeping.specs.Standing.{standing, standing-unclosed}
use Rattle.keeping.specs.Turn.{LeftBy}
use Rattle.keeping.specs.Pass.{OperatorsAt, Settles}

-- Words without the pairs that a state holds.
pub record HeldOut (sizes state before now : List ℕ) : Type 0 where
  pub without : Without (has before) (held_pair sizes state) (has now)

-- They are what is left by the state as an operator.
pub held_out : (sizes state before touched₀ now touched : List ℕ) (any : Bool) (o : Operator) → State sizes state → o ≡ standing state → LeftBy sizes o before touched₀ now touched any
    → HeldOut sizes state before now
held_out sizes state before touched₀ now touched any o full is left = record {
  without = λ f. left.left f ∙ ap (λ b. has before f && not b) (ap (λ p. unclosed_pair sizes (has before) p f) is ∙ standing-unclosed sizes state full (has before) f);
}

pub kept-largest : (T : Task) (bytes : List ℕ) (at count end : ℕ) (sizes start before middle now : List ℕ) → ReadAs T bytes at count end sizes start (has before)
    → HeldOut sizes start before middle → Settles sizes bytes at count middle now → Largest T (members_in now)
kept-largest T bytes at count end sizes start before middle now read out settles =
    let without : Without (has before) (held_pair T.sizes T.start) (has middle) = rw (← read.sizes-are, ← read.start_is) out.without in
    let below : Below T read.known (has before) = rw read.pairs-are (listed_below T read.known) in
    let first = held-narrowed T read.known (has before) (has middle) below without in
    let stands : OperatorsAt T sizes bytes at count = record { known = read.known; sizes-are = read.sizes-are; end = end; read = read.operators } in
    let (then-narrowed, shut) = settles.settles T stands (λ f e. below f (first.within f e)) in
    let narrowed = subst (λ pairs. Narrowed T read.known pairs (has now)) read.pairs-are (narrowed-on T read.known (has before) (has middle) (has now) first then-narrowed) in
    let same : members (features T.sizes) (has now) ≡ members_in now = members-below (features T.sizes) now
    (λ f l. elim (test (has now f)) [ on e ↦ absurd (omega (arith, listed_below T read.known f (narrowed.within f e))) | off e ↦ e ]) in
    subst (Largest T) same (narrowed-largest T read.known (has now) narrowed
    (record { closed-under = shut; free = held-free T read.known (has before) (has middle) without (has now) then-narrowed.within }))
