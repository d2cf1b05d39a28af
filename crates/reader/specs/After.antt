-- What is known once a value was read into the beginning of words, where the value's words begin with sizes and their count.
use Rattle.std.specs.Prelude.{ℕ, zero, suc, ◌<◌, ◌≡◌, refl, Ok, List, [], ◌∷◌, ◌++◌, length, get_or, drop}
use Rattle.std.proofs.Common.{sym, ap, ◌∙◌, append_assoc, arith, length-append, take_at, drop_at, drop-drop}
use Rattle.meaning.specs.Number.{Read, got}
use Rattle.theory.specs.Contents.{sizes_in}
use Rattle.layout.specs.Parts.{sizes_part, sizes-first}
use Rattle.reader.specs.Answer.{written, begun, sized_words, ReadsInto, reads-next}

-- Values written behind those that words begin with.
pub begun_more : (words front values : List ℕ) (at : ℕ) → length front ≡ at → written (begun words front) at values ≡ begun words (front ++ values)
begun_more words front values at e =
    rw (take_at front (drop (length front) words) at e, ← drop-drop (length values) at (begun words front), drop_at front (drop (length front) words) at e) (
    rw (drop-drop (length values) (length front) words, length-append front values) (sym (append_assoc front values _)))

-- Words that begin with sizes and their count.
pub sizes_begin : (sizes rest left : List ℕ) → left ≡ sized_words sizes ++ rest → (get_or left 0 0 ≡ length sizes) × (sizes_in left ≡ sizes)
unfolding sizes_in
sizes_begin sizes rest left e = rw e (refl, take_at sizes rest (length sizes) refl)

-- What is written behind the count leaves it.
pub count_left : (read : Read (List ℕ)) (old : List ℕ) (at : ℕ) (left : List ℕ) (next : ℕ) → 0 < at → 0 < length old
    → ReadsInto read (written old at) (Ok next) left → get_or left 0 0 ≡ get_or old 0 0
count_left read [] at left next h k reads = absurd (omega arith)
count_left read (x ∷ old) zero left next h k reads = absurd (omega arith)
count_left read (x ∷ old) (suc at) left next h k reads = ap (λ l. get_or l 0 0) (reads-next read (written (x ∷ old) (suc at)) (Ok next) next left reads refl).2

-- After a value was read; `left` are the words then.
pub record After {A : Type 0} (read : Read A) (Known : A → Type 0) (sizes words : A → List ℕ) (old left : List ℕ) (next : ℕ) : Type 0 where
  pub value : A
  pub is : read ≡ got value next
  pub known : Known value
  pub are : left ≡ begun old (words value)
  pub count : get_or left 0 0 ≡ length (sizes value)
  pub same : sizes_in left ≡ sizes value

module _ {A : Type 0} (read : Read A) (Known : A → Type 0) (sizes words : A → List ℕ) (begins : (a : A) → (more : List ℕ) × (words a ≡ sized_words (sizes a) ++ more)) where
  pub after : (old left : List ℕ) (next : ℕ) → ((a : A) → read ≡ got a next → Known a)
      → ReadsInto read (λ a. begun old (words a)) (Ok next) left → After read Known sizes words old left next
  after old left next said reads = known (reads-next read (λ a. begun old (words a)) (Ok next) next left reads refl)
    where
      known : (a : A) × (read ≡ got a next) × (left ≡ begun old (words a)) → After read Known sizes words old left next
      known (a, r, w) =
          let (more, b) = begins a in
          let rest = drop (length (words a)) old in
          let first = sizes_begin (sizes a) (more ++ rest) left (w ∙ ap (λ l. l ++ rest) b ∙ append_assoc (sized_words (sizes a)) more rest) in
          record { value = a; is = r; known = said a r; are = w; count = first.0; same = first.1 }

-- The sizes as they are lent from the words.
pub after-sizes : {A : Type 0} {read : Read A} {Known : A → Type 0} {sizes words : A → List ℕ} {old left : List ℕ} {next : ℕ} (k : After read Known sizes words old left next)
    {part : List ℕ} → part ≡ sizes_part (get_or left 0 0) left → part ≡ sizes k.value
after-sizes {left = left} k e = e ∙ sizes-first left ∙ k.same
