-- Bytes copied into a room one after another; what is lent from a place on, to be copied.
use Rattle.std.specs.Prelude.{ℕ, ◌+◌, ◌-◌, ◌<◌, ◌≤◌, ◌≡◌, List, ◌++◌, length, get_or, set, take, drop}
use Rattle.std.proofs.Common.{sym, ap, ◌∙◌, append_assoc, arith, add-one, length-drop, take_all}
use Rattle.std.proofs.Math.Seq.{paste, paste-suc}

module _ (room₀ : List ℕ) (at : ℕ) (bytes : List ℕ) (i : ℕ) (room : List ℕ) (so_far : room ≡ paste room₀ at bytes i) where
  pub copied_next : at + length bytes ≤ length room₀ → i < length bytes → set room (at + i) (get_or bytes i 0) ≡ paste room₀ at bytes (i + 1)
  copied_next fits more =
      ap (λ l. set l (at + i) (get_or bytes i 0)) so_far
      ∙ paste-suc room₀ at bytes i 0 (omega arith) more
      ∙ ap (paste room₀ at bytes) (sym (add-one i))

  pub copied_all : i ≡ length bytes → (at + i ≡ at + length bytes) × (room ≡ take at room₀ ++ (bytes ++ drop (at + i) room₀))
  copied_all all = (
    omega arith,
    so_far ∙ append_assoc (take at room₀) (take i bytes) (drop (at + i) room₀)
        ∙ ap (λ l. take at room₀ ++ (l ++ drop (at + i) room₀)) (take_all i bytes (omega arith)),
  )

pub lent-behind : {A : Type 0} (l : List A) (place other : ℕ) → place ≡ other → take (length l - place) (drop place l) ≡ drop other l
lent-behind l place other e = rw e (take_all (length l - other) (drop other l) (omega (arith, length-drop other l)))
