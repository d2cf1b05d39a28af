-- The members of a set, increasing, found one after the other by the next member; and the members of a set in words.
use Prim.Native.Nat.{ℕ, zero, suc, ◌+◌, ◌*◌, ◌<◌, ◌≤◌}
use Rattle.std.specs.Prelude.{◌≡◌, Bool, true, false, ltb, length, get_or, take, drop}
use Rattle.std.proofs.Math.Path.{refl, ap, ap₂, fun_ext}
use Rattle.std.proofs.Common.{sym, ◌∙◌, add-zero, add-one, length-append, get_or-append-add, ltb-false}
use Rattle.std.proofs.Math.Bool.{cond}
use mathlib.Core.List.{List, [], ◌∷◌, ◌++◌, append-nil, append_assoc}
use native.Mathlib.Omega.{arith}
use Rattle.std.specs.List.{sum_by}
use Rattle.std.specs.Int.Count.{ones}
use Rattle.std.proofs.lemmas.List.Sums.{sum_by-cons}
use Rattle.meaning.specs.Sets.{Set, flat, listed, count}
use Rattle.meaning.specs.Limits.{word_bits}
use Rattle.meaning.specs.Task.{Run}
use Rattle.meaning.specs.Workspace.{bit, has, packed}
use Rattle.theory.specs.Truth.{on, off, test, less, same, more, order}
use Rattle.theory.specs.Run.{members, run-members, run_in, run_length, run-same, listed-members}
use Rattle.theory.specs.Search.{listed_in}
use Rattle.theory.specs.Count.{count-cong, count-split}
use Rattle.theory.specs.Words.{Words, has-at, packed-holds}
use Rattle.words.specs.Bits.{ones-count}
use Rattle.words.specs.Part.{has-past, has-drop}
use Rattle.words.specs.Next.{Next, Clear, Empty, has-take}

module _ (a : Set) where
  pub members-few : (n : ℕ) → length (members n a) ≤ n
  members-few n = omega (arith, run_length 0 n (members n a) (run-members n a))

  members-here : (f : ℕ) → a f ≡ true → members (suc f) a ≡ members f a ++ (f ∷ [])
  unfolding members flat
  members-here f e = rw e refl

  members-clear : (start end : ℕ) → start ≤ end → Clear a start end → members end a ≡ members start a
  unfolding members flat
  members-clear start zero h c = let z : start ≡ 0 = omega arith in rw z refl
  members-clear start (suc end) h c = elim (order start (suc end)) [
    | less l ↦ rw (c end (omega arith) (omega arith)) (append-nil (members end a) ∙ members-clear start end (omega arith) (λ f j k. c f j (omega arith)))
    | same q ↦ rw q refl
    | more l ↦ absurd (omega arith)
  ]

  -- A place in the walk from member to member: a member, or the end.
  pub record Reached (n f : ℕ) : Type 0 where
    pub within : f ≤ n
    pub member : f < n → a f ≡ true

  pub reached : (n start f : ℕ) → Next a n start f → Reached n f
  reached n start f h = record { within = h.within; member = h.member }

  -- Below the first member there is none.
  pub members-first : (n f : ℕ) → Next a n 0 f → members f a ≡ []
  unfolding members flat
  members-first n f h = members-clear 0 f h.above h.clear

  -- Up to the next member there is one more.
  pub members-next : (n f next : ℕ) → Reached n f → f < n → Next a n (f + 1) next → members next a ≡ members f a ++ (f ∷ [])
  members-next n f next r l h = members-clear (f + 1) next h.above h.clear ∙ ap (λ k. members k a) (add-one f) ∙ members-here f (r.member l)

  -- The walk meets each member in its turn: at f so many are behind it, and f is the one at that place.
  pub members-from : (f n : ℕ) → f < n → a f ≡ true → (rest : List ℕ) × (members n a ≡ members f a ++ (f ∷ rest))
  unfolding members flat
  members-from f zero h e = absurd (omega arith)
  members-from f (suc n) h e = elim (order f n) [
    | less l ↦ let (rest, q) = members-from f n l e in
        (rest ++ cond (a n) (n ∷ []) [], ap (λ m. m ++ cond (a n) (n ∷ []) []) q ∙ append_assoc (members f a) (f ∷ rest) (cond (a n) (n ∷ []) []))
    | same q ↦ ([], rw (← q) (members-here f e))
    | more l ↦ absurd (omega arith)
  ]

  pub member-at : (n f : ℕ) → Reached n f → f < n → (length (members f a) < length (members n a)) × (get_or (members n a) (length (members f a)) 0 ≡ f)
  member-at n f r l =
      let (rest, q) = members-from f n l (r.member l) in (
        omega (arith, ap length q, length-append (members f a) (f ∷ rest)),
        ap (λ m. get_or m (length (members f a)) 0) q ∙ ap (λ k. get_or (members f a ++ (f ∷ rest)) k 0) (sym (add-zero (length (members f a)))) ∙ get_or-append-add (members f a) (f ∷ rest) 0 0,
      )

  pub members-behind : (n f next : ℕ) → Reached n f → f < n → Next a n (f + 1) next → length (members next a) ≡ length (members f a) + 1
  members-behind n f next r l h = ap length (members-next n f next r l h) ∙ length-append (members f a) (f ∷ [])

-- ---- the members of a set in words

-- The features that words hold, increasing.
abbrev pub members_in : List ℕ → List ℕ
members_in words = members (word_bits * length words) (has words)

-- A number is among them exactly when the words have it, wherever the words end.
pub listed-in-words : (words : List ℕ) (f : ℕ) → listed (members_in words) f ≡ has words f
listed-in-words words f = listed-members (word_bits * length words) (has words) f ∙ elim (test (ltb f (word_bits * length words))) [
  | on e ↦ rw e refl
  | off e ↦ rw e (sym (has-past words f (ltb-false f (word_bits * length words) e)))
]

-- Words that have the same features have the same members, whatever their lengths.
pub members-same : (n : ℕ) (a : Set) (words : List ℕ) → ((f : ℕ) → listed (members n a) f ≡ has words f) → members n a ≡ members_in words
members-same n a words h =
    run-same 0 n 0 (word_bits * length words) _ _ (run-members n a) (run-members (word_bits * length words) (has words)) (λ f. h f ∙ sym (listed-in-words words f))

-- Words that have the numbers of an increasing list have its numbers as members.
pub members-are : (lo hi : ℕ) (l words : List ℕ) → Run lo l hi → has words ≡ listed l → members_in words ≡ l
members-are lo hi l words r e =
    run-same 0 (word_bits * length words) lo hi _ _ (run-members (word_bits * length words) (has words)) r (λ f. listed-in-words words f ∙ ap (λ s. s f) e)

-- The words of an increasing list below n have its numbers, and no others.
pub run-has : (lo n : ℕ) (l : List ℕ) → Run lo l n → has (packed n (listed l)) ≡ listed l
run-has lo n l r = fun_ext (λ f. packed-holds n (listed l) f (λ k. elim (test (listed l f)) [ on e ↦ absurd (omega (arith, run_in lo n l f r (listed_in l f e))) | off e ↦ e ]))

-- Where words have nothing from n on, their members are those below n.
pub members-below : (n : ℕ) (words : List ℕ) → ((f : ℕ) → n ≤ f → has words f ≡ false) → members n (has words) ≡ members_in words
members-below n words h = members-same n (has words) words (λ f. listed-members n (has words) f ∙ elim (test (ltb f n)) [
  | on e ↦ rw e refl
  | off e ↦ rw e (sym (h f (ltb-false f n e)))
])

-- Words behind which nothing is a member have the members of all.
pub members-front : (k : ℕ) (words : List ℕ) → Empty (drop k words) → members_in (take k words) ≡ members_in words
members-front k words h = members-same (word_bits * length (take k words)) (has (take k words)) words (λ f. listed-in-words (take k words) f ∙ has-take k words h f)

-- ---- how many there are

length-members : (n : ℕ) (a : Set) → length (members n a) ≡ count n a
unfolding members flat count
length-members zero a = refl
length-members (suc n) a = length-append (members n a) (cond (a n) (n ∷ []) []) ∙ ap₂ ◌+◌ (length-members n a) (one (a n))
  where
    one : (b : Bool) → length (cond b (n ∷ []) []) ≡ cond b 1 0
    one true = refl
    one false = refl

ones-count_in : (l : List ℕ) → Words l → sum_by ones l ≡ count (word_bits * length l) (has l)
unfolding count
ones-count_in [] w = refl
ones-count_in (x ∷ l) w = let e : 64 * length (x ∷ l) ≡ 64 + 64 * length l = omega arith in
    sum_by-cons ones x l ∙ ap₂ ◌+◌ (ones-count 64 x (w 0 (omega arith)) ∙ count-cong 64 _ _ here) (ones-count_in l behind ∙ count-cong (64 * length l) _ _ (λ k j. has-drop 1 (x ∷ l) k))
    ∙ sym (ap (λ n. count n (has (x ∷ l))) e ∙ count-split 64 (64 * length l) (has (x ∷ l)))
  where
    here : (k : ℕ) → k < 64 → bit x k ≡ has (x ∷ l) k
    here k j = let q : 0 * 64 + k ≡ k = omega arith in sym (has-at (x ∷ l) 0 k j) ∙ ap (has (x ∷ l)) q

    behind : Words l
    behind i k = let p : suc i < length (x ∷ l) = omega arith in w (suc i) p

-- The ones of all words are the members.
pub ones-members : (l : List ℕ) → Words l → sum_by ones l ≡ length (members_in l)
ones-members l w = ones-count_in l w ∙ sym (length-members (word_bits * length l) (has l))
