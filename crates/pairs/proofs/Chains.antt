-- Chains that end in `any`, over the numbers below n: what they answer, and that their closure may be called.
use Prim.Native.Nat.{ℕ, zero, suc, ◌+◌, ◌<◌}
use Rattle.std.specs.Prelude.{◌≡◌, Bool, ◌||◌, length}
use Rattle.std.proofs.Math.Path.{refl}
use Rattle.std.proofs.Math.Bool.{or-false, or_assoc}
use Rattle.std.proofs.Common.{sym, ap, ap₂, ◌∙◌}
use Rattle.std.specs.Fn.{Called}
use Rattle.std.specs.Iterator.{ChecksAny, CallableAtEachTurn}
use Rattle.std.specs.List.{list_any, range_with_len}
use Rattle.std.specs.declared.ops.Range.{Range}
use Rattle.std.proofs.iter.Yields.{nat_range_steps}
use Rattle.std.proofs.lemmas.Iterator.{YieldsList, YieldsList-from_range}
use Rattle.std.proofs.lemmas.Iterator.Adapters.{serves_from_places}
use Rattle.std.proofs.lemmas.Iterator.Search.{any_from_yields_List}
use Rattle.std.proofs.lemmas.List.FromFn.{length-range_with_len, get_or-range_with_len}
use denote.Param.Members.{Mut}
use native.Mathlib.Omega.{arith}
use Rattle.meaning.specs.Sets.{some, any_of}
use Rattle.meaning.specs.Task.{Entry, Operator}
use Rattle.theory.specs.Flat.{get_d-in, in-get_d}
use Rattle.theory.specs.Walk.{entry_at}
use Rattle.theory.specs.Search.{true-together, some_at, some-get, some-cong, any_at, any-get}

-- ---- by the definitions

some-front : (n : ℕ) (p : ℕ → Bool) → some (suc n) p ≡ (p 0 || some n (λ k. p (suc k)))
unfolding some
some-front zero p = sym (or-false (p 0))
some-front (suc n) p = ap (λ b. b || p (suc n)) (some-front n p) ∙ or_assoc (p 0) (some n (λ k. p (suc k))) (p (suc n))

range-from : (p : ℕ → Bool) (a n : ℕ) → list_any p (range_with_len a n) ≡ some n (λ k. p (a + k))
unfolding some
range-from p a zero = refl
range-from p a (suc n) = ap₂ ◌||◌ (ap p (omega arith)) (range-from p (a + 1) n ∙ some-cong n _ _ (λ k l. ap p (omega arith))) ∙ sym (some-front n (λ k. p (a + k)))

any-range : (p : ℕ → Bool) (n : ℕ) → list_any p (range_with_len 0 n) ≡ some n p
any-range p n = range-from p 0 n ∙ some-cong n _ _ (λ k l. ap p (omega arith))

-- ---- the answer

below_lem : {s : Range ℕ} (n : ℕ) → s ≡ record { start = 0; end = n } → YieldsList nat_range_steps (λ x. x) s (range_with_len 0 n)
below_lem n e = YieldsList-from_range 0 n n e (omega arith)

pub any-below : {F : Type 0} {g : Mut F (ℕ × Unit {0}) Bool} {s u : Range ℕ} {f : F} {r : Bool} (p : ℕ → Bool) (n : ℕ) → ChecksAny nat_range_steps g s f r u → s ≡ record { start = 0; end = n }
    → ((x : ℕ) (b : Bool) (q : F) → Called g f (x, tt) b q → (q ≡ f) × (b ≡ p x)) → r ≡ some n p
any-below p n ran e k = any_from_yields_List p _ _ _ ran (below_lem n e) k ∙ any-range p n

-- ---- over the entries of an operator

-- Some entry passes a test where that at some place does.
pub any-entry : (p : Entry → Bool) (o : Operator) → some (length o) (λ k. p (entry_at o k)) ≡ any_of p o
any-entry p o = true-together _ _
    (λ t. let (k, l, q) = some-get (length o) _ t in any_at p o (entry_at o k) (get_d-in o k _ l) q)
    (λ t. let (a, m, q) = any-get p o t in let (k, l, at) = in-get_d o a _ m in some_at (length o) _ k l (ap p at ∙ q))

-- ---- the calls

pub calls-below : {F : Type 0} {s : Range ℕ} {R : F → ℕ → F → Type 0} {Q : F → ℕ → Type 0} {f : F} (n : ℕ) → s ≡ record { start = 0; end = n } → ((x : ℕ) (q : F) → R f x q → q ≡ f)
    → ((x : ℕ) → x < n → Q f x) → CallableAtEachTurn nat_range_steps R Q s f
calls-below n e same each = serves_from_places (below_lem n e) same
    (λ x k h at. let l : k < n = omega (arith, length-range_with_len 0 n) in let q : x ≡ k = at ∙ get_or-range_with_len 0 n k x l ∙ omega arith in each x (rw q l))
