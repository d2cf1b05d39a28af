-- A list that a loop writes from the front: the invariant of the loops that change every word.
use Rattle.std.specs.Prelude.{ℕ, zero, suc, ◌+◌, ◌<◌, ◌≤◌, ◌≡◌, refl, List, [], ◌∷◌, ◌++◌, length, get_or, set, take, drop}
use Rattle.std.proofs.Common.{ap, append-nil, arith, add-one, length-set, length-take, drop_of_length-le, take_all}
use Rattle.std.proofs.Math.ListN.{get_or-eq_default}

-- In place of l the list s is written: m has the first i words of s, and then those of l.
abbrev pub Written : List ℕ → List ℕ → ℕ → List ℕ → Type 0
Written l s i m = (i ≤ length l) × (length m ≡ length l) × (m ≡ take i s ++ drop i l)

next : (l s : List ℕ) (i : ℕ) → i < length l → i < length s → set (take i s ++ drop i l) i (get_or s i 0) ≡ take (suc i) s ++ drop (suc i) l
next [] s i h k = absurd (omega arith)
next (x ∷ l) [] i h k = absurd (omega arith)
next (x ∷ l) (y ∷ s) zero h k = refl
next (x ∷ l) (y ∷ s) (suc i) h k = ap (λ r. y ∷ r) (next l s i (omega arith) (omega arith))

left : (l s : List ℕ) (i : ℕ) → i ≤ length s → get_or (take i s ++ drop i l) i 0 ≡ get_or l i 0
left l s zero h = refl
left l [] (suc i) h = absurd (omega arith)
left [] (y ∷ s) (suc i) h = get_or-eq_default (take i s ++ []) 0 (rw (append-nil (take i s), length-take i s) (omega arith))
left (x ∷ l) (y ∷ s) (suc i) h = left l s i (omega arith)

-- The word that is next to be written is still that of before.
pub written-word : (l s : List ℕ) (i : ℕ) (m : List ℕ) → length l ≡ length s → Written l s i m → get_or m i 0 ≡ get_or l i 0
written-word l s i m e w = rw w.2 (left l s i (omega arith))

pub written_next : (l s : List ℕ) (i : ℕ) (m : List ℕ) (x : ℕ) → length l ≡ length s → Written l s i m → i < length l → x ≡ get_or s i 0 → Written l s (i + 1) (set m i x)
written_next l s i m x e w h q = (omega arith, rw (length-set m i x) w.1, rw (w.2, q, add-one) (next l s i h (omega arith)))

pub written-done : (l s : List ℕ) (i : ℕ) (m : List ℕ) → length l ≡ length s → Written l s i m → length l ≤ i → m ≡ s
written-done l s i m e w h = rw (w.2, take_all i s (omega arith), drop_of_length-le l h) (append-nil s)
