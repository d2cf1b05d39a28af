-- How it is shown that whatever a relation allows is good: by its cases.
use Rattle.std.specs.Prelude.{ℕ, ◌≡◌, refl, Bool, true, false, cond}
use Rattle.std.proofs.Common.{sym, subst}
use Rattle.meaning.specs.Number.{Reason, Read, got, fault}
use Rattle.meaning.specs.Answer.{by_read}

module _ {A : Type 0} (Good : A → Type 0) where
  pub is-good : (b : A) → Good b → (a : A) → a ≡ b → Good a
  is-good b good a e = subst Good (sym e) good

  pub if-good : (t : Bool) (P Q : A → Type 0) → ((a : A) → P a → Good a) → ((a : A) → Q a → Good a) → (a : A) → cond t (P a) (Q a) → Good a
  if-good true P Q p q = p
  if-good false P Q p q = q

  pub read-good : {B : Type 0} (read : Read B) (P : B → A → Type 0) (bad : Reason → A)
      → ((b : B) (next : ℕ) → read ≡ got b next → (a : A) → P b a → Good a) → ((reason : Reason) → Good (bad reason)) → (a : A) → by_read read (λ b. P b a) (λ reason. a ≡ bad reason) → Good a
  read-good (got b next) P bad good refusals = good b next refl
  read-good (fault reason place) P bad good refusals = is-good (bad reason) (refusals reason)
