-- The sizes with their count, as the code reads and judges them; and the end of a weight file.
use Rattle.std.specs.Prelude.{ℕ, suc, ◌+◌, ◌<◌, ◌≤◌, ◌≡◌, Result, Ok, Err, Bool, cond, List, [], ◌∷◌, ◌++◌, length, get_or, set, drop, replicate}
use Rattle.std.proofs.Math.Path.{refl}
use Rattle.std.proofs.Common.{sym, ap, ◌∙◌, append-nil, arith, add-one}
use Rattle.std.proofs.Math.Bool.{true, false}
use Rattle.std.proofs.Math.Dec.{leb}
use denote.Ref.{Bor}
use borrow.Author.Tests.{le-leb, lt-leb}
use Rattle.meaning.specs.Limits.{least_variables, most_variables, most_features}
use Rattle.meaning.specs.Task.{size}
use Rattle.meaning.specs.Number as meaning
use Rattle.meaning.specs.Number.{Limit, Read, got, fault, numbers_on}
use Rattle.meaning.specs.File.{Parser, give, then, inside, item, judge, limited, items_of, sizes_of, size_list, Kind, mark_of, feature_list, ended, judged_weights_as}
use Rattle.meaning.specs.Workspace.{sizes_at, start_at}
use Rattle.theory.specs.Parts.{item-said, sizes-said, size-list-said}
use Rattle.number.specs.Answers.{place_of, place-next, place-faulted}
use Rattle.number.specs.declared.Reason.TheVariants.{LeftOver}
use Rattle.number.specs.declared.Fault.{Fault}
use Rattle.reader.specs.After.{After, after}
use Rattle.reader.specs.Answer.{written, begun, sized_words, ReadsInto, reads-next, unread, reads-unread, reads_same, answer-next, answer-fault}

-- How many variables there are.
abbrev pub count_at : Parser ℕ
count_at = item (inside least_variables (suc most_variables)) Limit

-- N as it is judged behind v sizes that begin at a place.
abbrev pub features_judged : List ℕ → ℕ → ℕ → ℕ → ℕ → Read (Unit {0})
features_judged bytes at v n next = cond (leb n most_features) (got tt next) (fault Limit (numbers_on v bytes at))

-- No more variables than there may be, and no larger sizes than this.
pub record Within (most : ℕ) (sizes : List ℕ) : Type 0 where
  pub few : length sizes ≤ most_variables
  pub small : (i : ℕ) → i < length sizes → size sizes i ≤ most

-- What is known once v and the sizes were read.
abbrev pub Sized : List ℕ → ℕ → ℕ → ℕ → List ℕ → List ℕ → ℕ → Type 0
Sized bytes at least most = After (size_list least most bytes at) (Within most) (λ sizes. sizes) sized_words

-- v and the sizes with N as it is counted by them.
abbrev pub limited_by : ℕ → ℕ → (List ℕ → ℕ) → Parser (List ℕ)
limited_by least most total = limited (size_list least most) (λ sizes. leb (total sizes) most_features) length

-- A call that counts so by any sizes that are no larger than this.
abbrev pub Counts : ℕ → (List ℕ → ℕ) → (Bor (List ℕ) → Type 0) → (Bor (List ℕ) → ℕ → Type 0) → Type 0
Counts most total pre post = (sizes : Bor (List ℕ)) → Within most sizes.now → pre sizes × ((n : ℕ) → post sizes n → n ≡ total sizes.now)

-- ---- v and the sizes

module _ (bytes : List ℕ) (at least most : ℕ) where
  pub count-fault : (reason : meaning.Reason) (there : ℕ) → count_at bytes at ≡ fault reason there → size_list least most bytes at ≡ fault reason there
  unfolding size_list
  count-fault reason there e = rw e

  pub count-known : (v next : ℕ) → count_at bytes at ≡ got v next → (least_variables ≤ v) × (v ≤ most_variables)
  count-known v next e = let known = ((item-said bytes least_variables (suc most_variables) Limit).gives at v next e).known in (known.0, omega (arith, known.1))

  -- The sizes are read behind v.
  pub sizes-behind : (v next : ℕ) (old : List ℕ) (answer : Result ℕ Fault) (left : List ℕ) → start_at most_variables ≤ length old → count_at bytes at ≡ got v next
      → ReadsInto (items_of least Limit (replicate v (most + 1)) bytes next) (written (set old 0 v) sizes_at) answer left
      → ReadsInto (size_list least most bytes at) (λ sizes. begun old (sized_words sizes)) answer left
  unfolding size_list
  sizes-behind v next old answer left h counted read =
      reads_same (size_list least most bytes at) (written (set old 0 v) sizes_at) (λ sizes. begun old (sized_words sizes)) answer left
      (λ sizes after r. same old h sizes ((sizes-said bytes least most v).gives next sizes after (sym begins ∙ r)).known.0)
      (rw begins (rw (add-one most) at read))
    where
      begins : size_list least most bytes at ≡ sizes_of least most v bytes next
      begins = rw counted

      same : (old : List ℕ) → start_at most_variables ≤ length old → (sizes : List ℕ) → length sizes ≡ v → written (set old 0 v) sizes_at sizes ≡ begun old (sized_words sizes)
      same [] h sizes q = absurd (omega arith)
      same (x ∷ old) h sizes q = let s : sizes_at + length sizes ≡ suc (length sizes) = omega arith in rw s (ap (λ k. k ∷ (sizes ++ drop (length sizes) old)) (sym q))

  -- ---- N

  pub sizes-known : (old words : List ℕ) (next : ℕ) → ReadsInto (size_list least most bytes at) (λ sizes. begun old (sized_words sizes)) (Ok next) words → Sized bytes at least most old words next
  sizes-known old words next = after (size_list least most bytes at) _ (λ sizes. sizes) sized_words (λ sizes. ([], sym (append-nil (sized_words sizes)))) old words next
      (λ sizes r. let said = ((size-list-said bytes least most).gives at sizes next r).known in record { few = said.1; small = λ i l. (said.2 i l).1 })

  -- N is counted by the sizes, as the kind of file says.
  pub sizes-judged : (count : List ℕ → ℕ) (old words : List ℕ) (next n : ℕ) (answer : Result ℕ Fault) (known : Sized bytes at least most old words next) → n ≡ count known.value
      → answer ≡ place_of (features_judged bytes at (get_or words 0 0) n next) → ReadsInto (limited_by least most count bytes at) (λ sizes. begun old (sized_words sizes)) answer words
  unfolding ReadsInto limited
  sizes-judged count old words next n answer known total told = rw told (by (leb (count known.value) most_features) refl)
    where
      by : (b : Bool) → leb (count known.value) most_features ≡ b
          → ReadsInto (limited_by least most count bytes at) (λ sizes. begun old (sized_words sizes)) (place_of (features_judged bytes at (get_or words 0 0) n next)) words
      by true e = rw (total, known.is, e) (refl, known.are)
      by false e = rw (total, known.is, e, known.count) refl

-- ---- a weight file

-- A list of features, and nothing follows.
abbrev pub whole_list : Kind → ℕ → Parser (List ℕ)
whole_list kind n = then (feature_list kind 0 n) (λ weights. then ended (λ _. give weights))

module _ (kind : Kind) (n : ℕ) (bytes : List ℕ) (words : List ℕ → List ℕ) (left : List ℕ) where
  module _ (at : ℕ) where
    pub list-unread : (f : Fault) → ReadsInto (feature_list kind 0 n bytes at) words (Err f) left → ReadsInto (whole_list kind n bytes at) words (Err f) left
    list-unread f read = reads-unread (feature_list kind 0 n bytes at) words _ words (Err f) f left read refl

    module _ (next : ℕ) (read : ReadsInto (feature_list kind 0 n bytes at) words (Ok next) left) where
      known : (weights : List ℕ) × (feature_list kind 0 n bytes at ≡ got weights next) × (left ≡ words weights)
      known = reads-next (feature_list kind 0 n bytes at) words (Ok next) next left read refl

      pub list_over : next < length bytes → ReadsInto (whole_list kind n bytes at) words (Err (record { 0 = LeftOver; 1 = next })) left
      unfolding ended judge
      list_over h = answer-fault (whole_list kind n bytes at) words (record { 0 = LeftOver; 1 = next }) left (rw (known.1, lt-leb (length bytes) next h))

      pub list-whole : length bytes ≤ next → ReadsInto (whole_list kind n bytes at) words (Ok next) left
      unfolding ended judge
      list-whole h = answer-next (whole_list kind n bytes at) words known.0 next left (rw (known.1, le-leb (length bytes) next h)) known.2

  -- The list behind the mark.
  pub weights-marked : (answer : Result ℕ Fault) (at : ℕ) → Ok at ≡ place_of (mark_of kind bytes 0) → ReadsInto (whole_list kind n bytes at) words answer left
      → ReadsInto (judged_weights_as kind n bytes) words answer left
  unfolding judged_weights_as
  weights-marked answer at e read = let (u, mark) = place-next (mark_of kind bytes 0) at (sym e) in rw mark read

  pub weights-unmarked : (f : Fault) → Err f ≡ place_of (mark_of kind bytes 0) → ReadsInto (judged_weights_as kind n bytes) words (Err f) left
  unfolding judged_weights_as
  weights-unmarked f e = answer-fault (judged_weights_as kind n bytes) words f left (unread (mark_of kind bytes 0) _ _ _ (place-faulted (mark_of kind bytes 0) f (sym e)))
