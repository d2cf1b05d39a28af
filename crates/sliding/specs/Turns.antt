-- A list that is made number by number, in the turns of a loop: what is left from a number on, and how it is written.
use Prim.Native.Nat.{ℕ, zero, suc, ◌+◌, ◌-◌, ◌<◌, ◌≤◌}
use Rattle.std.specs.Prelude.{◌≡◌, List, [], ◌++◌, length, take, drop}
use Rattle.std.proofs.Math.Path.{refl, ap, ap₂}
use Rattle.std.proofs.Common.{sym, ◌∙◌, append-nil, append_assoc, zero-add}
use native.Mathlib.Omega.{arith}
use Rattle.std.proofs.Math.Nat.{sub-zero}
use Rattle.meaning.specs.Sets.{flat}
use Rattle.meaning.specs.File.{bytes_of}
use Rattle.theory.specs.BytesOf.{bytes-join}
use Rattle.writer.specs.Remains.{Remains, remains-all, part-fits, remains-after, remains-none}

-- The lists for so many numbers from i on, one after another.
unfoldable pub flat_from : {A : Type 0} → ℕ → ℕ → (ℕ → List A) → List A
flat_from zero i lists = []
flat_from (suc k) i lists = lists i ++ flat_from k (i + 1) lists

module _ {A : Type 0} (lists : ℕ → List A) where
  from_last : (k i : ℕ) → flat_from k i lists ++ lists (i + k) ≡ flat_from (suc k) i lists
  unfolding flat_from
  from_last zero i = let z : i + 0 ≡ i = omega arith in rw z (sym (append-nil (lists i)))
  from_last (suc k) i =
      let z : i + suc k ≡ i + 1 + k = omega arith in
      rw z (append_assoc (lists i) (flat_from k (i + 1) lists) (lists (i + 1 + k)) ∙ ap (◌++◌ (lists i)) (from_last k (i + 1)))

  flat-from : (n : ℕ) → flat n lists ≡ flat_from n 0 lists
  unfolding flat flat_from
  flat-from zero = refl
  flat-from (suc n) = ap₂ (λ l k. l ++ lists k) (flat-from n) (sym (zero-add n)) ∙ from_last n 0

-- Of n turns, each of which writes its list, those before i are done: the lists of the others are what remains.
pub record Turns (room₀ : List ℕ) (at : ℕ) (due : List ℕ) (n : ℕ) (lists : ℕ → List ℕ) (room : List ℕ) (next i : ℕ) : Type 0 where
  pub within : i ≤ n
  pub left : Remains room₀ at due room next (flat_from (n - i) i lists)

pub turns-begin : (room : List ℕ) (at : ℕ) (due : List ℕ) (n : ℕ) (lists : ℕ → List ℕ) → due ≡ flat n lists → at + length due ≤ length room
    → Turns room at due n lists room at 0
turns-begin room at due n lists e h = record { within = omega arith; left = rw (sub-zero n, ← flat-from lists n, ← e) (remains-all room at due h) }

module _ {room₀ : List ℕ} {at : ℕ} {due : List ℕ} {n : ℕ} {lists : ℕ → List ℕ} {room : List ℕ} {next i : ℕ} (turns : Turns room₀ at due n lists room next i) where
  more : i < n → flat_from (n - i) i lists ≡ lists i ++ flat_from (n - (i + 1)) (i + 1) lists
  unfolding flat_from
  more h = let k : n - i ≡ suc (n - (i + 1)) = omega arith in rw k refl

  -- The list of the next turn has room,
  pub turn-fits : i < n → next + length (lists i) ≤ length room
  turn-fits h = part-fits turns.left (lists i) _ (more h)

  -- and when it is written, that turn is done.
  pub turn-done : (room' : List ℕ) (after : ℕ) → i < n → after ≡ next + length (lists i) → room' ≡ take next room ++ (lists i ++ drop after room)
      → Turns room₀ at due n lists room' after (i + 1)
  turn-done room' after h p w = record { within = omega arith; left = remains-after turns.left (lists i) _ room' after (more h) p w }

  -- After the last turn all that is due stands in the room.
  pub turns-done : n ≤ i → (next ≡ at + length due) × (room ≡ take at room₀ ++ (due ++ drop next room₀))
  unfolding flat_from
  turns-done h = remains-none turns.left (let k : n - i ≡ 0 = omega arith in rw k refl)

-- Where nothing is due, nothing is written.
pub nothing-due : (room : List ℕ) (at : ℕ) (due : List ℕ) → at + length due ≤ length room → due ≡ []
    → (at ≡ at + length due) × (room ≡ take at room ++ (due ++ drop at room))
nothing-due room at due h e = remains-none (remains-all room at due h) e

-- ---- the bytes of such a list

pub bytes-flat : {A : Type 0} (write : A → List ℕ) (n : ℕ) (lists : ℕ → List A) → bytes_of write (flat n lists) ≡ flat n (λ i. bytes_of write (lists i))
unfolding flat bytes_of
bytes-flat write zero lists = refl
bytes-flat write (suc n) lists = bytes-join write (flat n lists) (lists n) ∙ ap (λ l. l ++ bytes_of write (lists n)) (bytes-flat write n lists)
