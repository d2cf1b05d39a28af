-- `slots::all_shaped`: each slot is told to be in shape (`AllShaped`).
use Rattle.std.proofs.Common.{ℕ, ◌<◌, ◌≡◌, refl, Bool, true, false, ◌∙◌, arith, rules, length, get_or}
use borrow.Author.Tests.{tests}
use Rattle.std.specs.Bool.{MatchBool}
use Rattle.std.specs.List.{range_with_len, AllWithin, HoldsAt}
use Rattle.std.proofs.lemmas.Iterator.{cases_from_all, YieldsList-from_range}
use Rattle.std.proofs.lemmas.List.FromFn.{length-range_with_len, get_or-range_with_len}
use Rattle.meaning.specs.Workspace.{has, words_for}
use Rattle.theory.specs.Tells.{Tells, told-yes, told-no, tells-no}
use Rattle.slots.specs.Area.{slot_at}
use Rattle.slots.specs.Shape.{Shaped}
use Rattle.slots.proofs.all_shaped.Goals as goal

at : (n i : ℕ) → i < n → get_or (range_with_len 0 n) i 0 ≡ i
at n i l = get_or-range_with_len 0 n i 0 l ∙ omega arith

-- Of the numbers below n each was told to have P, or one not to.
told : (n : ℕ) (P : ℕ → Type 0) (b : Bool) → MatchBool b (AllWithin (λ i. Tells true (P i)) (range_with_len 0 n) 0 (length (range_with_len 0 n)))
    ((i : ℕ) × (i < length (range_with_len 0 n)) × HoldsAt (λ i. Tells false (P i)) (range_with_len 0 n) i) → Tells b ((i : ℕ) → i < n → P i)
told n P true h = told-yes (λ i l. (rw (at n i l) at (h i 0 (omega arith) (omega (arith, length-range_with_len 0 n)))).yes refl)
told n P false (i, l, h) = let k : i < n = omega (arith, length-range_with_len 0 n) in told-no (λ all. tells-no (rw (at n i k) at (h 0)) refl (all i k))

pub returns : goal.returns
returns c =
    let shaped = λ (i : ℕ). Shaped c.args.n i (has c.args.full.now) (has (slot_at (words_for c.args.n) c.args.area.now i)) in
    told c.args.n shaped c.all.result (cases_from_all _ _ _ (λ i. Tells true (shaped i)) (λ i. Tells false (shaped i)) c.all.ensures.ran (YieldsList-from_range 0 c.args.n c.args.n (cc) (omega arith)) (λ x q k. search (rules, tests)) (λ x q k. search (rules, tests)))
