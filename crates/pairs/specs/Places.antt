-- Searches by places: what a loop knows of one, and searches over a table as searches over its places.
use Prim.Native.Nat.{ℕ, zero, suc, ◌+◌, ◌<◌, ◌≤◌}
use Rattle.std.specs.Prelude.{◌≡◌, Bool, false}
use Rattle.std.proofs.Math.Path.{refl}
use Rattle.std.proofs.Common.{sym, ap, ap₂, ◌∙◌, add-one}
use Rattle.std.proofs.Math.Logic.{inl, inr}
use mathlib.Core.List.Memᴰ.{not-nil}
use native.Mathlib.Omega.{arith}
use Rattle.meaning.specs.Sets.{some, any_of, two_of, table}
use Rattle.theory.specs.Search.{or-neither, true-together, some_at, some-get, any_at, any-get, Earlier, first, further, earlier-left, earlier-cases, two_at, two-get}
use Rattle.theory.specs.Flat.{table-in, in_table}

-- ---- a loop that searches

pub some-start : (p : ℕ → Bool) → some 0 p ≡ false
unfolding some
some-start p = refl

pub some_next : (i : ℕ) (p : ℕ → Bool) → some i p ≡ false → p i ≡ false → some (i + 1) p ≡ false
unfolding some
some_next i p e h = rw add-one (or-neither (some i p) (p i) e h)

-- A search that ended without success.
pub some-done : (n i : ℕ) (p : ℕ → Bool) → i ≤ n → n ≤ i → some i p ≡ false → false ≡ some n p
some-done n i p l k e = let q : i ≡ n = omega arith in sym e ∙ ap (λ m. some m p) q

-- ---- a table

module _ {A : Type 0} where
  pub any-table : (p : A → Bool) (n : ℕ) (value : ℕ → A) → any_of p (table n value) ≡ some n (λ k. p (value k))
  any-table p n value = true-together _ _
      (λ e. let (a, m, q) = any-get p (table n value) e in let (k, l, z) = in_table n value a m in some_at n _ k l (rw z at q))
      (λ e. let (k, l, q) = some-get n _ e in any_at p (table n value) (value k) (table-in n value k l) q)

  earlier-table : (n : ℕ) (value : ℕ → A) (k l : ℕ) → k < l → l < n → Earlier (value k) (value l) (table n value)
  unfolding table
  earlier-table zero value k l h j = absurd (omega arith)
  earlier-table (suc n) value k zero h j = absurd (omega arith)
  earlier-table (suc n) value zero (suc l) h j = first refl (table-in n (λ i. value (suc i)) l (omega arith))
  earlier-table (suc n) value (suc k) (suc l) h j = further (earlier-table n (λ i. value (suc i)) k l (omega arith) (omega arith))

  table-earlier : (n : ℕ) (value : ℕ → A) (a b : A) → Earlier a b (table n value) → (k : ℕ) × (l : ℕ) × (k < l) × (l < n) × (a ≡ value k) × (b ≡ value l)
  unfolding table
  table-earlier zero value a b t = absurd (not-nil (earlier-left t))
  table-earlier (suc n) value a b t = elim (earlier-cases t) [
    | inl m ↦ let (l, h, z) = in_table n (λ i. value (suc i)) b m.1 in (0, suc l, omega arith, omega arith, m.0, z)
    | inr t' ↦ let (k, l, h, j, y, z) = table-earlier n (λ i. value (suc i)) a b t' in (suc k, suc l, omega arith, omega arith, y, z)
  ]

  pub two-table : (r : A → A → Bool) (n : ℕ) (value : ℕ → A) → two_of r (table n value) ≡ some n (λ l. some l (λ k. r (value k) (value l)))
  two-table r n value = true-together _ _
      (λ e. let (a, b, t, q) = two-get r (table n value) e in let (k, l, h, j, y, z) = table-earlier n value a b t in some_at n _ l j (some_at l _ k h (ap₂ r (sym y) (sym z) ∙ q)))
      (λ e. let (l, j, e') = some-get n _ e in let (k, h, q) = some-get l _ e' in two_at r (table n value) (value k) (value l) (earlier-table n value k l h j) q)
