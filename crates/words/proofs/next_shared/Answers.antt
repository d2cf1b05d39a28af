-- `words::next_shared`: the words are what those of two sets have in common.
use Rattle.std.specs.Prelude.{ℕ, ◌≡◌, ◌&&◌, List, get_or}
use Rattle.std.specs.Int.Bits.{bit_and}
use Rattle.std.proofs.Math.Path.{fun_ext}
use Rattle.meaning.specs.Workspace.{has}
use Rattle.words.specs.Bits.{bit-and}
use Rattle.words.specs.Next.{held}
use Rattle.words.proofs.next_shared.Goals as goal

common : (l m : List ℕ) → held (λ i. bit_and (get_or l i 0) (get_or m i 0)) ≡ (λ f. has l f && has m f)
unfolding has
common l m = fun_ext (λ f. bit-and _ _ _)

pub returns : goal.returns
returns c = let e = common c.args.a.now c.args.b.now in rw (← e) c.next_held.ensures
