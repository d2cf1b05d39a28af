-- The walk from member to member of a set: the bytes of the members that are still ahead.
use Rattle.std.specs.Prelude.{ℕ, ◌+◌, ◌<◌, ◌≤◌, ◌≡◌}
use Rattle.std.proofs.Math.Path.{refl, ap}
use Rattle.std.proofs.Common.{sym, ◌∙◌, arith}
use mathlib.Core.List.{List, [], ◌∷◌, ◌++◌}
use Rattle.std.proofs.Math.Numerals.{add-one}
use Rattle.std.proofs.Math.ListN.{length, drop, drop_of_length-le}
use Rattle.std.proofs.Math.Seq.{drop-cons}
use Rattle.meaning.specs.Sets.{Set}
use Rattle.meaning.specs.Number.{number_bytes}
use Rattle.meaning.specs.File.{Kind, plain, gapped, bytes_of, numbers_for}
use Rattle.theory.specs.ReadBack.{said_as, numbers-none, numbers_more}
use Rattle.theory.specs.Run.{members}
use Rattle.words.specs.Next.{Next}
use Rattle.words.specs.Members.{Reached, members-first, member-at, members-behind}

-- The number that stands for a feature is not above it.
pub said-most : (kind : Kind) (least f : ℕ) → said_as kind least f ≤ f
said-most plain least f = omega arith
said-most gapped least f = omega arith

module _ (kind : Kind) (a : Set) (n : ℕ) where
  -- The bytes of the members but the first few, where the next has to be `least` or more.
  abbrev from : ℕ → ℕ → List ℕ
  from least k = bytes_of number_bytes (numbers_for kind least (drop k (members n a)))

  -- The bytes of the members from a place of the walk on.
  unfoldable pub ahead : ℕ → ℕ → List ℕ
  ahead least f = from least (length (members f a))

  pub ahead-first : (f : ℕ) → Next a n 0 f → ahead 0 f ≡ bytes_of number_bytes (numbers_for kind 0 (members n a))
  unfolding ahead
  ahead-first f h = ap (λ l. from 0 (length l)) (members-first a n f h)

  pub ahead_more : (least f : ℕ) → Reached a n f → f < n → ahead least f ≡ number_bytes (said_as kind least f) ++ from (f + 1) (length (members f a) + 1)
  unfolding ahead bytes_of
  ahead_more least f r l =
      let k = length (members f a) in
      let (more, here) = member-at a n f r l in
      let split : drop k (members n a) ≡ f ∷ drop (k + 1) (members n a) = drop-cons (members n a) k 0 more ∙ rw (here, add-one k) refl in
      rw (split, numbers_more kind least f (drop (k + 1) (members n a)), add-one f) refl

  -- From a member to the next one.
  pub ahead-next : (least f next : ℕ) → Reached a n f → f < n → Next a n (f + 1) next → ahead least f ≡ number_bytes (said_as kind least f) ++ ahead (f + 1) next
  unfolding ahead
  ahead-next least f next r l h = ahead_more least f r l ∙ ap (λ k. number_bytes (said_as kind least f) ++ from (f + 1) k) (sym (members-behind a n f next r l h))

  pub ahead_none : (least f : ℕ) → f ≡ n → ahead least f ≡ []
  unfolding ahead bytes_of
  ahead_none least f e =
      let none : drop (length (members f a)) (members n a) ≡ [] = drop_of_length-le (members n a) {i = length (members f a)} (omega (arith, ap (λ k. length (members k a)) e)) in
      rw (none, numbers-none kind least) refl
