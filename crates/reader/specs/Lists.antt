-- The lists of a file as the code reads them: what is still to be read, after each turn, goes into the words as they are then.
use Prim.Native.Nat.{ℕ, suc, ◌+◌, ◌-◌, ◌<◌, ◌≤◌}
use Rattle.std.specs.Prelude.{◌≡◌, ◌≢◌, Result, List, ◌++◌, get_or, set, take, drop, replicate}
use Rattle.std.proofs.Math.Path.{refl}
use Rattle.std.proofs.Common.{sym, ap, ◌∙◌, length-append, length-drop, drop_of_length-le, drop-cons, drop-drop, take_at, drop_at, get_or-take, length-take-le}
use native.Mathlib.Omega.{arith}
use Rattle.std.proofs.Math.Numerals.{add-one}
use Rattle.std.proofs.Math.ListN.{length}
use Rattle.std.proofs.lemmas.List.{length-replicate}
use Rattle.std.proofs.lemmas.List.Edits.{sets}
use Rattle.std.proofs.Math.Seq.{get_or-set_other, get_or-drop}
use Rattle.meaning.specs.Limits.{most_variables}
use Rattle.meaning.specs.Number as meaning
use Rattle.meaning.specs.Number.{got, fault}
use Rattle.meaning.specs.File.{Parser, inside, item, items_of, Kind, feature_of, features_of}
use Rattle.theory.specs.Flat.{take-replicate}
use Rattle.theory.specs.Parts.{items-said, feature-said}
use Rattle.number.specs.Laws.{sets-all}
use Rattle.number.specs.declared.Fault.{Fault}
use Rattle.words.specs.Change.{toggled}
use Rattle.reader.specs.Answer.{written, ReadsInto, reads_same, placed, list_of, first_read, first-fault}
use Rattle.words.specs.Toggled.{toggled_all}

-- ---- any list

-- A list is read by its first number and then the rest.
pub record Splits (whole : Parser (List ℕ)) (first : Parser ℕ) (rest : ℕ → Parser (List ℕ)) : Type 0 where
  pub by : whole ≡ list_of first rest

module _ {whole : Parser (List ℕ)} {first : Parser ℕ} {rest : ℕ → Parser (List ℕ)} (split : Splits whole first rest) (bytes : List ℕ) (place : ℕ) where
  -- The first goes to a place, and the others behind it.
  pub list-more : (words : List ℕ) (to i x next : ℕ) → first bytes place ≡ got x next
      → placed (whole bytes place) (sets words (to + i)) ≡ placed (rest x bytes next) (sets (set words (to + i) x) (to + (i + 1)))
  list-more words to i x next e = let k : to + (i + 1) ≡ suc (to + i) = omega arith in
      rw (split.by, k) (first_read first rest bytes place (sets words (to + i)) x next e)

  pub list-fault : (words : List ℕ → List ℕ) (reason : meaning.Reason) (there : ℕ) → first bytes place ≡ fault reason there
      → placed (whole bytes place) words ≡ fault reason there
  list-fault words reason there e = rw split.by (first-fault first rest bytes place words reason there e)

-- ---- numbers with their bounds

-- Numbers go to words from `to` on and have their bounds in words from `bounds` on: none is written over a bound that is still to be read.
unfoldable pub Apart : ℕ → ℕ → ℕ → Type 0
Apart bounds to count = (i j : ℕ) → i < j → j < count → bounds + j ≢ to + i

-- Each number is written over its own bound; or all are written behind the bounds.
pub apart-same : (bounds count : ℕ) → Apart bounds bounds count
unfolding Apart
apart-same bounds count i j h l = omega arith

pub apart-behind : (bounds to count : ℕ) → bounds + count ≤ to → Apart bounds to count
unfolding Apart
apart-behind bounds to count k i j h l = omega arith

-- Words in which the bounds from number i on are as they were.
unfoldable pub Unread : ℕ → ℕ → ℕ → List ℕ → List ℕ → Type 0
Unread bounds count i old new = (j : ℕ) → i ≤ j → j < count → get_or new (bounds + j) 0 ≡ get_or old (bounds + j) 0

-- One number, below the bound that stands in the words.
abbrev pub item_in : List ℕ → ℕ → ℕ → meaning.Reason → Parser ℕ
item_in words bound low reason = item (inside low (get_or words bound 0)) reason

module _ (old : List ℕ) (bounds to count : ℕ) (within : bounds + count ≤ length old) (room : to + count ≤ length old) (apart : Apart bounds to count)
    (low : ℕ) (reason : meaning.Reason) where
  pub unread-all : Unread bounds count 0 old old
  unfolding Unread
  unread-all j h l = refl

  pub unread-set : (i n : ℕ) (new : List ℕ) → Unread bounds count i old new → Unread bounds count (i + 1) old (set new (to + i) n)
  unfolding Unread Apart
  unread-set i n new same j h l = get_or-set_other new (to + i) (bounds + j) n 0 (apart i j (omega arith) l) ∙ same j (omega arith) l

  bounds-length : length (take count (drop bounds old)) ≡ count
  bounds-length = length-take-le count (drop bounds old) (omega (arith, length-drop bounds old))

  -- Of the numbers that are still to be read, the first.
  pub first-item : (new : List ℕ) (i : ℕ) → i < count → Unread bounds count i old new
      → Splits (items_of low reason (drop i (take count (drop bounds old)))) (item_in new (bounds + i) low reason) (λ _. items_of low reason (drop (i + 1) (take count (drop bounds old))))
  unfolding Unread items_of
  first-item new i more same = record {
    by = rw (drop-cons (take count (drop bounds old)) i 0 (omega (arith, bounds-length)), add-one, same i (omega arith) more) (
        rw (get_or-take count (drop bounds old) i 0 more, get_or-drop bounds old i 0) refl);
  }

  pub items-none : (bytes new : List ℕ) (i place next : ℕ) → count ≤ i
      → placed (items_of low reason (drop i (take count (drop bounds old))) bytes next) (sets new place) ≡ got new next
  unfolding items_of
  items-none bytes new i place next h = let past : length (take count (drop bounds old)) ≤ i = omega (arith, bounds-length) in rw (drop_of_length-le (take count (drop bounds old)) past)

  pub items-written : (bytes : List ℕ) (place : ℕ) (answer : Result ℕ Fault) (left : List ℕ) → ReadsInto (items_of low reason (take count (drop bounds old)) bytes place) (sets old to) answer left
      → ReadsInto (items_of low reason (take count (drop bounds old)) bytes place) (written old to) answer left
  items-written bytes place answer left =
      reads_same (items_of low reason (take count (drop bounds old)) bytes place) (sets old to) (written old to) answer left
      (λ ns next e. sets-all old to _ ns refl (omega (arith, bounds-length, ((items-said bytes low reason (take count (drop bounds old))).gives place ns next e).known.0)))

-- ---- numbers below one bound

-- What is written over a part is written over what was there before it.
pub written_over : (old part values : List ℕ) (to : ℕ) → to + length part ≤ length old → length values ≡ length part → written (written old to part) to values ≡ written old to values
written_over old part values to room e =
    let first = length-take-le to old (omega arith) in
    let behind = part ++ drop (to + length part) old in
    rw (take_at (take to old) behind to first, ← drop-drop (length values) to (written old to part), drop_at (take to old) behind to first)
    (rw (drop_at part (drop (to + length part) old) (length values) (omega arith), e) refl)

-- Words with another part from a place on.
abbrev pub laid : List ℕ → ℕ → ℕ → List ℕ → List ℕ
laid old to count part = take to old ++ (part ++ drop (to + count - to) (drop to old))

-- The same bound for each of so many numbers, out of as many as there may be.
abbrev pub bounds : ℕ → ℕ → List ℕ
bounds count bound = take count (replicate most_variables bound)

module _ (old : List ℕ) (to count bound : ℕ) (few : count ≤ most_variables) (room : to + count ≤ length old) where
  bounds-are : bounds count bound ≡ replicate count bound
  bounds-are = take-replicate count most_variables bound few

  bounds-count : length (bounds count bound) ≡ count
  bounds-count = ap length bounds-are ∙ length-replicate count bound

  module _ (part : List ℕ) (e : part ≡ bounds count bound) where
    long : length part ≡ count
    long = ap length e ∙ bounds-count

    laid-written : laid old to count part ≡ written old to part
    laid-written = let k : to + count - to ≡ length part = omega (arith, long) in rw (k, drop-drop (length part) to old) refl

    pub laid-length : length (laid old to count part) ≡ length old
    laid-length = rw (laid-written, length-append (take to old) (part ++ drop (to + length part) old), length-append part (drop (to + length part) old), length-drop (to + length part) old)
        (omega (arith, long, length-take-le to old (omega arith)))

    -- The numbers are read over their bounds.
    pub items-over : (low : ℕ) (reason : meaning.Reason) (bytes : List ℕ) (place : ℕ) (answer : Result ℕ Fault) (left : List ℕ)
        → ReadsInto (items_of low reason (take count (drop to (laid old to count part))) bytes place) (written (laid old to count part) to) answer left
        → ReadsInto (items_of low reason (replicate count bound) bytes place) (written old to) answer left
    items-over low reason bytes place answer left read =
        reads_same (items_of low reason (replicate count bound) bytes place) (written (written old to part) to) (written old to) answer left
        (λ ns next r. written_over old part ns to (omega (arith, long))
        (((items-said bytes low reason (replicate count bound)).gives place ns next r).known.0 ∙ length-replicate count bound ∙ sym long))
        (rw (are, laid-written) at read)
      where
        are : take count (drop to (laid old to count part)) ≡ replicate count bound
        are = rw (drop_at (take to old) (part ++ drop (to + count - to) (drop to old)) to (length-take-le to old (omega arith)), take_at part (drop (to + count - to) (drop to old)) count long) (e ∙ bounds-are)

-- ---- features

module _ (kind : Kind) (k i low high least : ℕ) where
  pub first-feature : i < k → Splits (features_of kind (k - i) low high least) (feature_of kind low high least) (λ f. features_of kind (k - (i + 1)) low high (suc f))
  unfolding features_of
  first-feature h = let q : k - i ≡ suc (k - (i + 1)) = omega arith in record { by = rw q }

  module _ (bytes : List ℕ) (place : ℕ) (words : List ℕ) where
    pub features-more : (f next : ℕ) → i < k → feature_of kind low high least bytes place ≡ got f next
        → placed (features_of kind (k - i) low high least bytes place) (toggled_all words) ≡ placed (features_of kind (k - (i + 1)) low high (f + 1) bytes next) (toggled_all (toggled words f))
    unfolding toggled_all
    features-more f next h e = rw ((first-feature h).by, add-one f)
        (first_read (feature_of kind low high least) (λ f. features_of kind (k - (i + 1)) low high (suc f)) bytes place (toggled_all words) f next e)

    pub features-none : k ≤ i → placed (features_of kind (k - i) low high least bytes place) (toggled_all words) ≡ got words place
    unfolding features_of toggled_all
    features-none h = let q : k - i ≡ 0 = omega arith in rw q

-- A feature that was read is in its range.
pub feature-below : (kind : Kind) (low high least : ℕ) (bytes : List ℕ) (place f next : ℕ) → feature_of kind low high least bytes place ≡ got f next → f < high
feature-below kind low high least bytes place f next e = ((feature-said bytes kind low high least).gives place f next e).known.1
