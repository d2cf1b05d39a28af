-- Words with the features of a list toggled one after another, and what they hold then.
use Rattle.std.specs.Prelude.{ℕ, suc, ◌+◌, ◌*◌, ◌≡◌, refl, ◌&&◌, List, [], ◌∷◌, ◌++◌, length, replicate, eqb, ltb}
use Rattle.std.proofs.Common.{ap, sym, ◌∙◌, arith, add-one, eqb-true, ltb-false}
use mathlib.Core.List.Memᴰ.{head as here}
use mathlib.Core.List.Memᴰ.{tail as there}
use Rattle.std.proofs.lemmas.List.{length-replicate}
use Rattle.meaning.specs.Sets.{◌⊕◌, flat, any_of, listed}
use Rattle.meaning.specs.Task.{Run}
use Rattle.meaning.specs.Limits.{word_bits}
use Rattle.meaning.specs.Workspace.{words_for, has, packed}
use Rattle.theory.specs.Truth.{on, off, test, xor-left-comm, xor-false, xor_assoc}
use Rattle.theory.specs.Toggles.{xor_of, toggles, Below, toggles-past}
use Rattle.theory.specs.Run.{run-rest, run-outside, run_in, run-members, run-same}
use Rattle.theory.specs.Words.{Words, packed-is, packed-cong}
use Rattle.words.specs.Change.{toggled, length-toggled, words-toggled, has-toggled}
use Rattle.words.specs.Part.{has-none, words-none}
use Rattle.words.specs.Members.{members_in, listed-in-words}

unfoldable pub toggled_all : List ℕ → List ℕ → List ℕ
toggled_all row [] = row
toggled_all row (f ∷ fs) = toggled_all (toggled row f) fs

pub toggled-none : (row : List ℕ) → toggled_all row [] ≡ row
unfolding toggled_all
toggled-none row = refl

pub toggled-one : (row : List ℕ) (f : ℕ) → toggled_all row (f ∷ []) ≡ toggled row f
unfolding toggled_all
toggled-one row f = refl

pub toggled-two : (row : List ℕ) (f g : ℕ) → toggled_all row (f ∷ g ∷ []) ≡ toggled (toggled row f) g
unfolding toggled_all
toggled-two row f g = refl

pub toggled-join : (row l m : List ℕ) → toggled_all row (l ++ m) ≡ toggled_all (toggled_all row l) m
unfolding toggled_all
toggled-join row [] m = refl
toggled-join row (f ∷ l) m = toggled-join (toggled row f) l m

-- A loop that toggles list after list: its start and its turn.
pub toggled-start : (row : List ℕ) (g : ℕ → List ℕ) → row ≡ toggled_all row (flat 0 g)
unfolding flat
toggled-start row g = sym (toggled-none row)

pub toggled-turn : (row now next : List ℕ) (k : ℕ) (g : ℕ → List ℕ) → now ≡ toggled_all row (flat k g) → next ≡ toggled_all now (g k) → next ≡ toggled_all row (flat (k + 1) g)
unfolding flat
toggled-turn row now next k g e h = h ∙ rw (e, add-one) (sym (toggled-join row (flat k g) (g k)))

pub length-all : (row l : List ℕ) → length (toggled_all row l) ≡ length row
unfolding toggled_all
length-all row [] = refl
length-all row (f ∷ l) = length-all (toggled row f) l ∙ length-toggled row f

pub length-next : (row next l : List ℕ) → next ≡ toggled_all row l → length next ≡ length row
length-next row next l e = ap length e ∙ length-all row l

pub words-all : (row l : List ℕ) → Words row → Words (toggled_all row l)
unfolding toggled_all
words-all row [] w = w
words-all row (f ∷ l) w = words-all (toggled row f) l (words-toggled row f w)

pub has_all : (row l : List ℕ) (g : ℕ) → Below (word_bits * length row) l → has (toggled_all row l) g ≡ toggles l g ⊕ has row g
unfolding toggled_all toggles xor_of
has_all row [] g h = refl
has_all row (f ∷ l) g h =
    has_all (toggled row f) l g (λ m i. rw (length-toggled row f) (h m (there i))) ∙ rw (has-toggled row f g (h f (here refl))) (xor-left-comm (xor_of (eqb g) l) (eqb g f) (has row g) ∙ sym (xor_assoc (eqb g f) (xor_of (eqb g) l) (has row g)))

-- Toggling a list below n in words with no member makes the words of the list's set.
pub toggled-packed : (n : ℕ) (l : List ℕ) → Below n l → toggled_all (replicate (words_for n) 0) l ≡ packed n (toggles l)
toggled-packed n l below = sym (packed-is n (toggles l) _ (length-all _ l ∙ length-replicate {A = ℕ} (words_for n) 0) (words-all _ l (words-none (words_for n))) held)
  where
    held : (f : ℕ) → has (toggled_all (replicate (words_for n) 0) l) f ≡ (ltb f n && toggles l f)
    held f = has_all _ l f (λ m i. rw (length-replicate {A = ℕ} (words_for n) 0) (omega (arith, below m i))) ∙ rw (has-none (words_for n) f, xor-false (toggles l f)) (elim (test (ltb f n)) [
      | on e ↦ rw e refl
      | off e ↦ rw e (toggles-past n l f below (ltb-false f n e))
    ])

-- Of a list that increases each number is toggled once, so its members are what is toggled.
pub run-toggles : (low high : ℕ) (l : List ℕ) (f : ℕ) → Run low l high → toggles l f ≡ listed l f
unfolding toggles xor_of listed any_of
run-toggles low high [] f run = refl
run-toggles low high (x ∷ l) f run = elim (test (eqb f x)) [
  | on e ↦ rw (e, run-toggles (suc x) high l f (run-rest low high x l run), run-outside (suc x) high l f (run-rest low high x l run) (λ a b. let q : f ≡ x = eqb-true f x e in omega arith))
  | off e ↦ rw e (run-toggles (suc x) high l f (run-rest low high x l run))
]

-- Such a list in words with no member makes the words of its set.
pub run-packed : (low n : ℕ) (l : List ℕ) → Run low l n → toggled_all (replicate (words_for n) 0) l ≡ packed n (listed l)
run-packed low n l run = toggled-packed n l (λ m i. (run_in low n l m run i).1) ∙ packed-cong n (toggles l) (listed l) (λ f h. run-toggles low n l f run)

-- And it is the list of that set's members, in any number of words that have a place for each.
pub run-held : (low k : ℕ) (l : List ℕ) → Run low l (word_bits * k) → members_in (toggled_all (replicate k 0) l) ≡ l
run-held low k l run =
    let words = toggled_all (replicate k 0) l in
    run-same 0 (word_bits * length words) low (word_bits * k) (members_in words) l (run-members (word_bits * length words) (has words)) run (λ f. listed-in-words words f ∙ held f)
  where
    held : (f : ℕ) → has (toggled_all (replicate k 0) l) f ≡ listed l f
    held f =
        has_all (replicate k 0) l f (λ m i. rw (length-replicate {A = ℕ} k 0) (run_in low (word_bits * k) l m run i).1)
        ∙ rw (has-none k f, xor-false (toggles l f)) (run-toggles low (word_bits * k) l f run)
