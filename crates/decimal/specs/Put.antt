-- A part that is put into a line from a place on, and parts that are put one behind the other.
use Rattle.std.specs.Prelude.{ℕ, ◌+◌, ◌/◌, ◌%◌, ◌<◌, ◌≤◌, ◌≡◌, List, [], ◌∷◌, ◌++◌, length, set, take, drop}
use Rattle.std.proofs.Common.{sym, ap, ap₂, ◌∙◌, append_assoc, arith, add-one, length-set, length-append, take-append-drop, length-take-le, take_at, drop_at, drop-drop}
use Rattle.std.proofs.lemmas.List.{set_split}
use Rattle.meaning.specs.Line.{word}
use Rattle.decimal.specs.Decimal.{word-one, word_more, word-longer}

-- The line `exit` has a part from a place on, up to the place `after`; the rest is that of `entry`.
pub record Put (entry : List ℕ) (at : ℕ) (part : List ℕ) (after : ℕ) (exit : List ℕ) : Type 0 where
  pub place : after ≡ at + length part
  pub stands : exit ≡ take at entry ++ (part ++ drop after entry)

pub put-none : (entry : List ℕ) (at : ℕ) → Put entry at [] at entry
put-none entry at = record { place = omega arith; stands = sym (take-append-drop at entry) }

pub put_byte : (entry : List ℕ) (at byte : ℕ) → at < length entry → Put entry at (byte ∷ []) (at + 1) (set entry at byte)
put_byte entry at byte h = record {
  place = omega arith;
  stands = set_split entry at byte h ∙ ap (λ k. take at entry ++ (byte ∷ drop k entry)) (sym (add-one at));
}

-- What is put behind a part stands behind it.
pub put-behind : {entry : List ℕ} {at : ℕ} {part : List ℕ} {next : ℕ} {line more : List ℕ} {after : ℕ} {exit : List ℕ}
    → at ≤ length entry → Put entry at part next line → Put line next more after exit → Put entry at (part ++ more) after exit
put-behind {entry} {at} {part} {next} {line} {more} {after} {exit} h w v =
    record { place = omega (arith, w.place, v.place, length-append part more); stands = stands }
  where
    size : length (take at entry ++ part) ≡ next
    size = omega (arith, w.place, length-append (take at entry) part, length-take-le at entry h)

    parted : line ≡ (take at entry ++ part) ++ drop next entry
    parted = w.stands ∙ sym (append_assoc (take at entry) part (drop next entry))

    before : take next line ≡ take at entry ++ part
    before = ap (take next) parted ∙ take_at (take at entry ++ part) (drop next entry) next size

    rest : drop next line ≡ drop next entry
    rest = ap (drop next) parted ∙ drop_at (take at entry ++ part) (drop next entry) next size

    behind : drop after line ≡ drop after entry
    behind = rw v.place (sym (drop-drop (length more) next line) ∙ ap (drop (length more)) rest ∙ drop-drop (length more) next entry)

    stands : exit ≡ take at entry ++ ((part ++ more) ++ drop after entry)
    stands = v.stands ∙ ap₂ (λ l m. l ++ (more ++ m)) before behind ∙ append_assoc (take at entry) part (more ++ drop after entry)
        ∙ ap (λ l. take at entry ++ l) (sym (append_assoc part more (drop after entry)))

-- ---- a word

-- A word of one digit.
pub put_one : (entry : List ℕ) (at n : ℕ) → n < 10 → at + length (word n) ≤ length entry → Put entry at (word n) (at + 2) (set (set entry at 32) (at + 1) (48 + n))
put_one entry at n h room =
    let e : at + 1 + 1 ≡ at + 2 = omega arith in
    let size = ap length (word-one n h) in
    let behind = put_byte (set entry at 32) (at + 1) (48 + n) (omega (arith, size, length-set entry at 32)) in
    rw (word-one n h, ← e) (put-behind (omega arith) (put_byte entry at 32 (omega arith)) behind)

-- A longer word is one with a digit behind it.
pub put-more : (entry : List ℕ) (at n : ℕ) {last : ℕ} {line : List ℕ} → 10 ≤ n → at + length (word n) ≤ length entry
    → length line ≡ length entry → Put entry at (word (n / 10)) last line
    → (last < length line) × Put entry at (word n) (last + 1) (set line last (48 + n % 10))
put-more entry at n {last} {line} h room size others =
    let inside : last < length line = omega (arith, others.place, word-longer n h) in
    (inside, rw (word_more n h) (put-behind (omega arith) others (put_byte line last (48 + n % 10) inside)))
