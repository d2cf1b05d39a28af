-- The parity of what two lists of words share: the words in common are added up, and the ones of the sum are counted.
use Rattle.std.specs.Prelude.{ℕ, zero, suc, ◌+◌, ◌-◌, ◌*◌, ◌^◌, ◌<◌, ◌≤◌, ◌≡◌, false, ◌&&◌, List, length, get_or}
use Rattle.std.proofs.Common.{ap, ap₂, sym, ◌∙◌, arith, mul_comm, add-zero, add-suc}
use Rattle.std.specs.Int.Bits.{bit_xor, bit_and}
use Rattle.std.specs.Int.Count.{ones}
use Rattle.meaning.specs.Sets.{◌⊕◌, Set, odd, count, shared}
use Rattle.meaning.specs.Limits.{word_bits}
use Rattle.meaning.specs.Workspace.{bit, has, words_for}
use Rattle.theory.specs.Parity.{par, dot, par-none, par-cong, par-xor, dot-none, odd-shared}
use Rattle.theory.specs.Words.{has-at}
use Rattle.words.specs.Bits.{bit-none, bit-xor, bit-and, par-add, odd-ones}

-- The bits of a sum have the parity of what the lists share in their first i words.
abbrev pub Parity : List ℕ → List ℕ → ℕ → ℕ → Type 0
Parity l m i sum = par word_bits (bit sum) ≡ dot (i * word_bits) (has l) (has m)

word : (l m : List ℕ) (i : ℕ) → dot ((i + 1) * word_bits) (has l) (has m) ≡ dot (i * word_bits) (has l) (has m) ⊕ par word_bits (bit (bit_and (get_or l i 0) (get_or m i 0)))
unfolding dot
word l m i = let e : (i + 1) * 64 ≡ i * 64 + 64 = omega arith in
    ap (λ n. par n (λ f. has l f && has m f)) e ∙ par-add (i * 64) 64 (λ f. has l f && has m f)
    ∙ ap (◌⊕◌ (par (i * 64) (λ f. has l f && has m f)))
    (par-cong 64 _ _ (λ k h. ap₂ ◌&&◌ (has-at l i k h) (has-at m i k h) ∙ sym (bit-and (get_or l i 0) (get_or m i 0) k)))

pub parity-start : (l m : List ℕ) → Parity l m 0 0
parity-start l m = par-none 64 (bit 0) (λ k h. bit-none k) ∙ sym (dot-none 0 (has l) (has m) (λ f h. absurd (omega arith)))

pub parity-next : (l m : List ℕ) (i sum : ℕ) → Parity l m i sum → Parity l m (i + 1) (bit_xor sum (bit_and (get_or l i 0) (get_or m i 0)))
parity-next l m i sum h = par-cong 64 _ _ (λ k j. bit-xor sum (bit_and (get_or l i 0) (get_or m i 0)) k)
    ∙ par-xor 64 (bit sum) (bit (bit_and (get_or l i 0) (get_or m i 0))) ∙ rw h (sym (word l m i))

pub parity-done : (l m : List ℕ) (n sum : ℕ) → sum < 2 ^ word_bits → Parity l m n sum → odd (ones sum) ≡ odd (shared (word_bits * n) (has l) (has m))
parity-done l m n sum h e = odd-ones 64 sum h ∙ e ∙ ap (λ k. dot k (has l) (has m)) (mul_comm n 64) ∙ sym (odd-shared (64 * n) (has l) (has m))

-- ---- what is shared below a number, where nothing is shared from there on

count_past : (n k : ℕ) (a : Set) → ((f : ℕ) → n ≤ f → a f ≡ false) → count (n + k) a ≡ count n a
unfolding count
count_past n zero a h = rw add-zero
count_past n (suc k) a h = rw (add-suc n k, h (n + k) (omega arith), add-zero) (count_past n k a h)

due : (n : ℕ) (l : List ℕ) (a : Set) → length l ≡ words_for n → ((f : ℕ) → n ≤ f → (has l f && a f) ≡ false) → shared (word_bits * length l) (has l) a ≡ shared n (has l) a
unfolding shared
due n l a e h = let q : 64 * length l ≡ n + (64 * length l - n) = omega arith in
    ap (λ k. count k (λ f. has l f && a f)) q ∙ count_past n (64 * length l - n) (λ f. has l f && a f) h

-- A list of as many words as are due for n features, with no member at n or beyond, shares with any set what it shares below n ..
pub shared-words : (n : ℕ) (l : List ℕ) (a : Set) → length l ≡ words_for n → ((f : ℕ) → n ≤ f → has l f ≡ false) → shared (word_bits * length l) (has l) a ≡ shared n (has l) a
shared-words n l a e h = due n l a e (λ f j. rw (h f j))
