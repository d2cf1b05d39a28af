-- `words::is_empty`: all words are 0 exactly where no word has a member.
use Rattle.std.proofs.Common.{◌≡◌, ◌≢◌, ◌<◌, Bool, true, false, List, ℕ, arith, rules, length}
use borrow.Author.Tests.{tests}
use Rattle.std.specs.Bool.{MatchBool}
use Rattle.std.specs.List.{AllWithin, HoldsAt}
use Rattle.std.proofs.lemmas.Iterator.{cases_from_all, YieldsList-from_slice}
use Rattle.theory.specs.Tells.{Tells, told-yes, told-no}
use Rattle.theory.specs.Words.{Words}
use Rattle.words.specs.Next.{Empty, not-empty, all-clear}
use Rattle.words.proofs.is_empty.Goals as goal

tells : (b : Bool) (l : List ℕ) → Words l → MatchBool b (AllWithin (λ x. x ≡ 0) l 0 (length l)) ((k : ℕ) × (k < length l) × HoldsAt (λ x. x ≢ 0) l k) → Tells b (Empty l)
tells true l w h = told-yes (all-clear l (λ i k. h i 0 (omega arith) k))
tells false l w (k, j, h) = told-no (not-empty l k (w k j) (h 0))

pub returns : goal.returns
returns c = tells _ _ (λ i k. (c.type_inv.words i).fits) (cases_from_all _ _ _ (λ x. x ≡ 0) (λ x. x ≢ 0) c.all.ensures.ran (YieldsList-from_slice c.args.words.now cc) (λ x q k. search (rules, tests)) (λ x q k. search (rules, tests)))
