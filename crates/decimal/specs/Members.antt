-- The words of the members of a set, found one after the other by the next member.
use Rattle.std.specs.Prelude.{ℕ, ◌+◌, ◌*◌, ◌^◌, ◌<◌, ◌≤◌, ◌≡◌, [], ◌∷◌, ◌++◌}
use Rattle.std.proofs.Math.Path.{ap}
use Rattle.std.proofs.Common.{◌∙◌, mul-le-mul_left}
use native.Mathlib.Omega.{arith}
use Rattle.std.proofs.Math.ListN.{length, length-append}
use Rattle.meaning.specs.Sets.{Set}
use Rattle.meaning.specs.Line.{word, words_in}
use Rattle.theory.specs.Run.{members, run-members}
use Rattle.words.specs.Next.{Next}
use Rattle.words.specs.Members.{Reached, members-few, members-next, members-from}
use Rattle.decimal.specs.Decimal.{word_width, words-join, words-one, words-few}

module _ (a : Set) where
  pub words-members-few : (most n : ℕ) → 0 < most → n ≤ 10 ^ most → length (words_in (members n a)) ≤ word_width most * n
  words-members-few most n some h =
      omega (arith, words-few most 0 n (members n a) some h (run-members n a), mul-le-mul_left (word_width most) (members-few a n))

  -- The words of the members below a member, and its own, are among those of all.
  pub words-part : (n f : ℕ) → Reached a n f → f < n → length (words_in (members f a)) + length (word f) ≤ length (words_in (members n a))
  unfolding words_in
  words-part n f r l =
      let (rest, q) = members-from a f n l (r.member l) in
      omega (
        arith,
        ap (λ m. length (words_in m)) q,
        ap length (words-join (members f a) (f ∷ rest)),
        length-append (words_in (members f a)) (words_in (f ∷ rest)),
        length-append (word f) (words_in rest),
      )

  pub words-next : (n f next : ℕ) → Reached a n f → f < n → Next a n (f + 1) next → words_in (members next a) ≡ words_in (members f a) ++ word f
  words-next n f next r l h = ap words_in (members-next a n f next r l h) ∙ words-join (members f a) (f ∷ []) ∙ ap (λ w. words_in (members f a) ++ w) (words-one f)
