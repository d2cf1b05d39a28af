-- What the tests of one part tell: sizes within their limits, members within bounds.
use Rattle.std.specs.Prelude.{ℕ, ◌*◌, ◌<◌, ◌≤◌, ◌≡◌, true, false, List, eqb, ltb, length}
use Rattle.std.proofs.Common.{arith, ltb-true, ltb-false}
use Rattle.meaning.specs.Sets.{Set}
use Rattle.meaning.specs.Limits.{least_size, most_size, word_bits}
use Rattle.meaning.specs.Task.{size}
use Rattle.meaning.specs.Workspace.{has}
use Rattle.theory.specs.Truth.{on, off, test, clash}
use Rattle.theory.specs.Tells.{Tells, tells-map, tells-eq}
use Rattle.words.specs.Next.{Next}
use Rattle.words.specs.Part.{has-past}

-- The first n sizes are within their limits.
abbrev pub EachSize : List ℕ → ℕ → Type 0
EachSize sizes n = (i : ℕ) → i < n → (least_size ≤ size sizes i) × (size sizes i ≤ most_size)

-- Every member of a set is at `low` or above it, and below n.
abbrev pub Within : Set → ℕ → ℕ → Type 0
Within a low n = (f : ℕ) → a f ≡ true → (low ≤ f) × (f < n)

-- Where no member is below `low`, it is left that none is at n or beyond.
pub within-past : (words : List ℕ) (low n r q : ℕ) → Next (has words) (word_bits * length words) 0 r → low ≤ r → Next (has words) (word_bits * length words) n q
    → Tells (eqb q (length words * word_bits)) (Within (has words) low n)
within-past words low n r q h l k = tells-map to from (tells-eq q (length words * word_bits))
  where
    above : (f : ℕ) → has words f ≡ true → low ≤ f
    above f e = elim (test (ltb f low)) [ on t ↦ absurd (clash e (h.clear f (omega arith) (omega (arith, ltb-true f low t)))) | off t ↦ ltb-false f low t ]

    none : q ≡ length words * word_bits → (f : ℕ) → n ≤ f → has words f ≡ false
    none z f j = elim (test (ltb f q)) [ on t ↦ k.clear f j (ltb-true f q t) | off t ↦ has-past words f (omega (arith, ltb-false f q t)) ]

    to : q ≡ length words * word_bits → Within (has words) low n
    to z f e = (above f e, elim (test (ltb f n)) [ on t ↦ ltb-true f n t | off t ↦ absurd (clash e (none z f (ltb-false f n t))) ])

    from : Within (has words) low n → q ≡ length words * word_bits
    from w = elim (test (ltb q (word_bits * length words))) [
      | on t ↦ absurd (omega (arith, w q (k.member (ltb-true q (word_bits * length words) t)), k.above))
      | off t ↦ omega (arith, ltb-false q (word_bits * length words) t, k.within)
    ]
