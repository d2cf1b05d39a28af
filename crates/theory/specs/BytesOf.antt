-- The bytes of several things: of two lists that are joined, and of things that have so many bytes each.
use Rattle.std.specs.Prelude.{ℕ, ◌*◌, ◌≡◌, length}
use Rattle.std.proofs.Math.Path.{refl, ap, sym}
use Rattle.std.proofs.Common.{◌∙◌}
use mathlib.Core.List.Memᴰ.{head as here}
use mathlib.Core.List.Memᴰ.{tail as there}
use mathlib.Core.List.{List, [], ◌∷◌, ◌++◌, append_assoc, Memᴰ as In}
use native.Mathlib.Omega.{arith}
use Rattle.std.proofs.Math.Nat.{mul-suc}
use Rattle.std.proofs.Math.ListN.{length-append}
use Rattle.meaning.specs.File.{bytes_of}

module _ {A : Type 0} (write : A → List ℕ) where
  pub bytes-join : (l m : List A) → bytes_of write (l ++ m) ≡ bytes_of write l ++ bytes_of write m
  unfolding bytes_of
  bytes-join [] m = refl
  bytes-join (a ∷ l) m = ap (◌++◌ (write a)) (bytes-join l m) ∙ sym (append_assoc (write a) (bytes_of write l) (bytes_of write m))

  pub bytes-each : (k : ℕ) (l : List A) → ((a : A) → In a l → length (write a) ≡ k) → length (bytes_of write l) ≡ k * length l
  unfolding bytes_of
  bytes-each k [] h = omega arith
  bytes-each k (a ∷ l) h = omega (arith, length-append (write a) (bytes_of write l), h a (here refl), bytes-each k l (λ b m. h b (there m)), mul-suc k (length l))
