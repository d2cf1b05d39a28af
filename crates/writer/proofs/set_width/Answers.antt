-- `set_width` adds the bytes of the count and those of the members.
use Prim.Native.Nat.{◌*◌}
use mathlib.Core.Path.{ap}
use native.Mathlib.Omega.{arith}
use lib.ListN.{length}
use Rattle.meaning.specs.Limits.{word_bits}
use Rattle.meaning.specs.Number.{number_bytes}
use Rattle.meaning.specs.File.{kind_if}
use Rattle.meaning.specs.Workspace.{has}
use Rattle.words.specs.Members.{members_in, members-few}
use Rattle.writer.specs.Widths.{features-length, features-few}
use Rattle.writer.proofs.set_width.Goals as goal

pub width-requires : goal.width-requires
width-requires c =
    let words = c.args.words.now in
    omega (arith, c.requires, c.count.ensures, members-few (has words) (word_bits * length words))

pub overflow_add-result : goal.overflow_add-result
overflow_add-result c =
    let words = c.args.words.now in
    let kind = kind_if c.args.gapped in
    omega (arith, c.requires, c.width.ensures, c.members_width.ensures, ap (λ n. length (number_bytes n)) c.count.ensures, features-length kind (members_in words), features-few kind (members_in words), members-few (has words) (word_bits * length words))

pub returns : goal.returns
returns c =
    omega (arith, c.width.ensures, c.members_width.ensures, ap (λ n. length (number_bytes n)) c.count.ensures, features-length (kind_if c.args.gapped) (members_in c.args.words.now))
