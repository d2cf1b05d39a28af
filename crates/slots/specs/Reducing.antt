-- Slots added to a row turn by turn: by the indices that it has when their turns come, or by indices that are fixed beforehand.
use Prim.Native.Nat.{ℕ, suc, ◌+◌, ◌*◌, ◌<◌, ◌≤◌, min}
use Rattle.std.specs.Prelude.{◌≡◌, refl, true, false, ◌&&◌, List, ltb, replicate}
use Rattle.std.proofs.Math.Path.{ap, sym, fun_ext}
use Rattle.std.proofs.Common.{ap₂, ◌∙◌, ltb-true, ltb-false}
use Rattle.std.proofs.Math.Bool.{and-true, and-false}
use native.Mathlib.Omega.{arith}
use Rattle.std.proofs.Math.ListN.{length}
use Rattle.std.proofs.lemmas.List.{length-replicate}
use Rattle.meaning.specs.Sets.{◌⊕◌, Set, Slots}
use Rattle.meaning.specs.Limits.{word_bits}
use Rattle.meaning.specs.Slot.{Reduced}
use Rattle.meaning.specs.Workspace.{has, packed, words_for}
use Rattle.theory.specs.Truth.{on, off, test, clash}
use Rattle.theory.specs.Search.{and_left}
use Rattle.theory.specs.Reduce.{red, red-within}
use Rattle.theory.specs.Postponed.{red-skip, added, added-skip, added-turn}
use Rattle.theory.specs.Words.{Words, packed-has, packed-cong}
use Rattle.words.specs.Change.{summed, length-summed, has-summed}
use Rattle.words.specs.Part.{has-none, words-none}
use Rattle.words.specs.Next.{Next}

-- ---- by the indices that the row has by then

-- A row between two turns: it stands as a set d does after the turns of the slots below p, and p is the next index that it has.
pub record Turn (n : ℕ) (slots : Slots) (full : Set) (d : Set) (words p : ℕ) (row : List ℕ) : Type 0 where
  pub within : p ≤ word_bits * words
  pub long : length row ≡ words
  pub member : p < word_bits * words → (has row p && full p) ≡ true
  pub upto : (f : ℕ) → has row f ≡ red slots (min p n) d f

module _ (n : ℕ) (S : Slots) (full : Set) (covers : (i f : ℕ) → S i f ≡ true → full i ≡ true) (d : Set) where
  -- A slot whose index the row has not, or which is empty, changes nothing.
  still : (a : Set) (i f : ℕ) → (a i && full i) ≡ false → (a i && S i f) ≡ false
  still a i f h = elim (test (S i f)) [ on t ↦ rw t (rw (covers i f t) at h) | off t ↦ rw t (and-false (a i)) ]

  pub turn-first : (row : List ℕ) (p : ℕ) → has row ≡ d → Next (λ f. has row f && full f) (word_bits * length row) 0 p → Turn n S full d (length row) p row
  unfolding red
  turn-first row p e h = record {
    within = h.within;
    long = refl;
    member = h.member;
    upto = λ f. ap (λ a. a f) e ∙ sym (red-skip S d 0 (min p n) (omega arith) (λ i g j l. rw (← e) (still (has row) i g (h.clear i j (omega arith)))) f);
  }

  pub turn-next : (words : ℕ) (row row' slot : List ℕ) (p q : ℕ) → p < n → n ≤ word_bits * words → Next (λ f. has row' f && full f) (word_bits * words) (p + 1) q
      → length slot ≡ words → ((f : ℕ) → has slot f ≡ S p f) → row' ≡ summed row slot → Turn n S full d words p row → Turn n S full d words q row'
  unfolding red
  turn-next words row row' slot p q l m h s each r t = record {
    within = h.within;
    long = ap length r ∙ length-summed row slot ∙ t.long;
    member = h.member;
    upto = λ f. now f ∙ sym (red-skip S d (suc p) (min q n) (omega (arith, h.above)) (λ i g j k. rw (← now i) (still (has row') i g (h.clear i (omega arith) (omega arith)))) f);
  }
    where
      here : min p n ≡ p
      here = omega arith

      has-index : red S p d p ≡ true
      has-index = ap (λ k. red S k d p) (sym here) ∙ sym (t.upto p) ∙ and_left (has row p) (full p) (t.member (omega arith))

      now : (f : ℕ) → has row' f ≡ red S (suc p) d f
      now f = ap (λ a. has a f) r ∙ has-summed row slot f (t.long ∙ sym s) ∙ ap₂ ◌⊕◌ (t.upto f ∙ ap (λ k. red S k d f) here) (each f) ∙ rw has-index

  pub turn-done : (words : ℕ) (row : List ℕ) (p : ℕ) → n ≤ p → Turn n S full d words p row → (f : ℕ) → has row f ≡ red S n d f
  turn-done words row p l t f = let z : min p n ≡ n = omega arith in t.upto f ∙ ap (λ k. red S k d f) z

-- The next member, where every number may be an index.
pub next-every : (a : Set) (n start p : ℕ) → Next a n start p → Next (λ f. a f && true) n start p
next-every a n start p h = rw (fun_ext (λ f. and-true (a f))) h

-- ---- by indices that are fixed beforehand

-- A row between two turns: to a set d the slots below p are added whose indices are in a set, and p is the next index there.
pub record Adding (n : ℕ) (slots : Slots) (own : Set) (d : Set) (words p : ℕ) (row : List ℕ) : Type 0 where
  pub within : p ≤ word_bits * words
  pub long : length row ≡ words
  pub member : p < word_bits * words → own p ≡ true
  pub upto : (f : ℕ) → has row f ≡ added slots own (min p n) d f

module _ (n : ℕ) (S : Slots) (own : Set) (d : Set) (words : ℕ) where
  pub adding-first : (row : List ℕ) (start p : ℕ) → length row ≡ words → has row ≡ d → ((f : ℕ) → f < start → own f ≡ false) → Next own (word_bits * words) start p
      → Adding n S own d words p row
  unfolding added
  adding-first row start p e q none h = record {
    within = h.within;
    long = e;
    member = h.member;
    upto = λ f. ap (λ a. a f) q ∙ sym (added-skip S own d 0 (min p n) (omega arith) (λ i j l. elim (test (ltb i start)) [
      | on t ↦ none i (ltb-true i start t)
      | off t ↦ h.clear i (ltb-false i start t) (omega arith)
    ]) f);
  }

  pub adding-next : (row row' slot : List ℕ) (p q : ℕ) → p < n → n ≤ word_bits * words → Next own (word_bits * words) (p + 1) q
      → length slot ≡ words → ((f : ℕ) → has slot f ≡ S p f) → row' ≡ summed row slot → Adding n S own d words p row → Adding n S own d words q row'
  adding-next row row' slot p q l m h s each r t = record {
    within = h.within;
    long = ap length r ∙ length-summed row slot ∙ t.long;
    member = h.member;
    upto = λ f. let z : min p n ≡ p = omega arith in
        ap (λ a. has a f) r ∙ has-summed row slot f (t.long ∙ sym s) ∙ ap₂ ◌⊕◌ (t.upto f ∙ ap (λ k. added S own k d f) z) (each f)
        ∙ sym (added-turn S own d p (t.member (omega arith)) f)
        ∙ sym (added-skip S own d (suc p) (min q n) (omega (arith, h.above)) (λ i j k. h.clear i (omega arith) (omega arith)) f);
  }

  pub adding-done : (row : List ℕ) (p : ℕ) → n ≤ p → Adding n S own d words p row → (f : ℕ) → has row f ≡ added S own n d f
  adding-done row p l t f = let z : min p n ≡ n = omega arith in t.upto f ∙ ap (λ k. added S own k d f) z

-- ---- what is left in words

-- What is left of a set with nothing at n or beyond has nothing there.
pub red-past : {n : ℕ} {S : Slots} → Reduced n S → (d : Set) → ((f : ℕ) → n ≤ f → d f ≡ false) → (f : ℕ) → n ≤ f → red S n d f ≡ false
red-past {n} {S} R d past f l = elim (test (red S n d f)) [ on t ↦ absurd (omega (arith, red-within R n d inside f t)) | off t ↦ t ]
  where
    inside : (g : ℕ) → d g ≡ true → g < n
    inside g e = elim (test (ltb g n)) [ on t ↦ ltb-true g n t | off t ↦ absurd (clash e (past g (ltb-false g n t))) ]

-- Words that hold a set with nothing at n or beyond are the words of that set.
pub words_of : (n : ℕ) (a : Set) (l : List ℕ) → length l ≡ words_for n → Words l → ((f : ℕ) → n ≤ f → a f ≡ false) → ((f : ℕ) → has l f ≡ a f) → l ≡ packed n a
words_of n a l e w past each = sym (packed-has n l e w (λ f k. each f ∙ past f k)) ∙ packed-cong n _ _ (λ f k. each f)

-- Words that hold nothing are zeros.
pub zeros_of : (n : ℕ) (l : List ℕ) → length l ≡ words_for n → Words l → ((f : ℕ) → has l f ≡ false) → l ≡ replicate (words_for n) 0
zeros_of n l e w none = words_of n (λ f. false) l e w (λ f k. refl) none
    ∙ sym (words_of n (λ f. false) (replicate (words_for n) 0) (length-replicate (words_for n) 0) (words-none (words_for n)) (λ f k. refl) (has-none (words_for n)))
