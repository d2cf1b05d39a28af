-- The slots that an area of words holds: where each stands, what writing one changes, and that slots and words fix each other.
use Rattle.std.specs.Prelude.{ℕ, zero, suc, ◌+◌, ◌-◌, ◌*◌, ◌<◌, ◌≤◌, min, ◌≡◌, ◌≢◌, ◌⊎◌, true, false, ◌&&◌, List, [], ◌++◌, ltb, length, get_or, take, drop}
use Rattle.std.proofs.Common.{ap, ap₂, sym, ◌∙◌, inl, inr, append-nil, arith, mul-le-mul_right, length-take, length-drop, length-append, length-take-le, take_at, drop_at, drop-drop, take-add, take_all, get_or-take, get_or-drop, ext_get_or, ltb-true, ltb-false, lt-ltb}
use Rattle.std.proofs.Math.Path.{fun_ext}
use Rattle.meaning.specs.Sets.{Slots}
use Rattle.meaning.specs.Limits.{most_features}
use Rattle.meaning.specs.Slot.{Reduced}
use Rattle.meaning.specs.Workspace.{has, packed, words_for}
use Rattle.theory.specs.Truth.{on, off, test, less, same, more, order, clash}
use Rattle.theory.specs.Words.{Words, length-packed, packed-holds}
use Rattle.theory.specs.Slots.{slot-past}
use Rattle.theory.specs.Contents.{slot_words, length-slots, flat-from, written-outside}
use Rattle.words.specs.Part.{words_take, words-drop}
use Rattle.slots.specs.Change.{Led}
use Rattle.slots.specs.Reducing.{words_of}

-- The words of slot i, where slots are w words long.
abbrev pub slot_at : ℕ → List ℕ → ℕ → List ℕ
slot_at w area i = take w (drop (i * w) area)

-- The n slots in an area; those that are not there are empty.
unfoldable pub slots_in : ℕ → List ℕ → Slots
slots_in n area i f = ltb i n && has (slot_at (words_for n) area i) f

-- ---- where a slot stands

pub slot-in : (w i n : ℕ) → i < n → i * w + w ≤ n * w
slot-in w i n l = omega (arith, mul-le-mul_right w l)

pub length-slot : (w i : ℕ) (area : List ℕ) → i * w + w ≤ length area → length (slot_at w area i) ≡ w
length-slot w i area l = length-take-le w (drop (i * w) area) (rw (length-drop (i * w) area) (omega arith))

-- The part of an area that the code lends for slot i.
abbrev pub slot_part : ℕ → List ℕ → ℕ → List ℕ
slot_part w area i = take (i * w + w - i * w) (drop (i * w) area)

pub part-is : (w i : ℕ) (area : List ℕ) → slot_part w area i ≡ slot_at w area i
part-is w i area = let e : i * w + w - i * w ≡ w = omega arith in rw e

pub length_part : (w i : ℕ) (area : List ℕ) → i * w + w ≤ length area → length (slot_part w area i) ≡ w
length_part w i area l = ap length (part-is w i area) ∙ length-slot w i area l

pub slot-room : (n w i : ℕ) (area : List ℕ) → w ≡ words_for n → length area ≡ n * words_for n → i < n → i * w + w ≤ length area
slot-room n w i area q e l = rw q (omega (arith, slot-in (words_for n) i n l))

pub words-slot : (w i : ℕ) (area : List ℕ) → Words area → Words (slot_at w area i)
words-slot w i area h = words_take w (drop (i * w) area) (words-drop (i * w) area h)

pub slot_has : (n i : ℕ) (area : List ℕ) (f : ℕ) → i < n → slots_in n area i f ≡ has (slot_at (words_for n) area i) f
unfolding slots_in
slot_has n i area f l = rw (lt-ltb i n l)

-- An area of n slots, each empty or with its index as least member.
pub record LedArea (n : ℕ) (area : List ℕ) : Type 0 where
  pub few : n ≤ most_features
  pub long : length area ≡ n * words_for n
  pub each : (i : ℕ) → i < n → Led i (has (slot_at (words_for n) area i))

-- Slots that have no member below their index, and the index where they have one.
pub led-area : (n : ℕ) (area : List ℕ) → n ≤ most_features → length area ≡ n * words_for n → ((i f : ℕ) → f < i → slots_in n area i f ≡ false)
    → ((i f : ℕ) → slots_in n area i f ≡ true → slots_in n area i i ≡ true) → LedArea n area
led-area n area few long low full = record {
  few = few;
  long = long;
  each = λ i l. record { low = λ f j. sym (slot_has n i area f l) ∙ low i f j; full = λ f e. sym (slot_has n i area i l) ∙ full i f (slot_has n i area f l ∙ e) };
}

pub led-full : (n : ℕ) (area : List ℕ) → LedArea n area → (i f : ℕ) → slots_in n area i f ≡ true → slots_in n area i i ≡ true
unfolding slots_in
led-full n area led i f e = elim (test (ltb i n)) [ on t ↦ rw t ((led.each i (ltb-true i n t)).full f (rw t at e)) | off t ↦ absurd (clash e (rw t)) ]

-- The slots hold what the words of each hold.
pub slot-set : (n i : ℕ) (area : List ℕ) → i < n → has (slot_at (words_for n) area i) ≡ slots_in n area i
slot-set n i area l = fun_ext (λ f. sym (slot_has n i area f l))

-- ---- one slot written

-- An area with other words in place of slot i.
abbrev pub slot_put : ℕ → List ℕ → ℕ → List ℕ → List ℕ
slot_put w area i words = take (i * w) area ++ (words ++ drop (i * w + w - i * w) (drop (i * w) area))

module _ (w i : ℕ) (area words : List ℕ) (e : length words ≡ w) (l : i * w + w ≤ length area) where
  put-form : slot_put w area i words ≡ take (i * w) area ++ (words ++ drop (i * w + w) area)
  put-form = let q : i * w + w - i * w ≡ w = omega arith in rw (q, drop-drop w (i * w) area)

  pub length-put : length (slot_put w area i words) ≡ length area
  length-put = rw (
    put-form,
    length-append (take (i * w) area) (words ++ drop (i * w + w) area),
    length-append words (drop (i * w + w) area),
    length-take-le (i * w) area (omega arith),
    length-drop (i * w + w) area,
  ) (omega arith)

  pub put_same : slot_at w (slot_put w area i words) i ≡ words
  put_same = rw (put-form, drop_at (take (i * w) area) (words ++ drop (i * w + w) area) (i * w) (length-take-le (i * w) area (omega arith))) (take_at words (drop (i * w + w) area) w e)

  pub put_other : (j : ℕ) → j ≢ i → slot_at w (slot_put w area i words) j ≡ slot_at w area j
  put_other j d = ext_get_or 0 _ _ long each
    where
      long : length (slot_at w (slot_put w area i words) j) ≡ length (slot_at w area j)
      long = rw (length-take w (drop (j * w) (slot_put w area i words)), length-take w (drop (j * w) area), length-drop (j * w) (slot_put w area i words), length-drop (j * w) area, length-put)

      outside : (k : ℕ) → k < w → (j * w + k < i * w) ⊎ (i * w + w ≤ j * w + k)
      outside k h = elim (order j i)
          [ less m ↦ inl (omega (arith, mul-le-mul_right w m)) | same m ↦ absurd (d m) | more m ↦ inr (omega (arith, mul-le-mul_right w m)) ]

      each : (k : ℕ) → k < length (slot_at w (slot_put w area i words) j) → get_or (slot_at w (slot_put w area i words) j) k 0 ≡ get_or (slot_at w area j) k 0
      each k h = let m : k < min w (length (drop (j * w) (slot_put w area i words))) = rw (length-take w (drop (j * w) (slot_put w area i words))) at h in
          rw (
            get_or-take w (drop (j * w) (slot_put w area i words)) k 0 (omega arith),
            get_or-take w (drop (j * w) area) k 0 (omega arith),
            get_or-drop (j * w) (slot_put w area i words) k 0,
            get_or-drop (j * w) area k 0,
            put-form,
          )
          (written-outside area words (i * w) w (j * w + k) 0 e (omega arith) (outside k (omega arith)))

-- ---- slots and words fix each other

take_same : (w n : ℕ) (a b : List ℕ) → ((i : ℕ) → i < n → slot_at w a i ≡ slot_at w b i) → take (n * w) a ≡ take (n * w) b
take_same w zero a b h = let e : zero * w ≡ 0 = omega arith in rw e
take_same w (suc n) a b h = let e : suc n * w ≡ n * w + w = omega arith in
    rw (e, take-add (n * w) w a, take-add (n * w) w b) (ap₂ ◌++◌ (take_same w n a b (λ i l. h i (omega arith))) (h n (omega arith)))

-- Areas with the same slots are equal.
areas-same : (w n : ℕ) (a b : List ℕ) → length a ≡ n * w → length b ≡ n * w → ((i : ℕ) → i < n → slot_at w a i ≡ slot_at w b i) → a ≡ b
areas-same w n a b e q h = sym (take_all (n * w) a (omega arith)) ∙ take_same w n a b h ∙ take_all (n * w) b (omega arith)

-- One of the slots that are written one after another.
slot-written : (n : ℕ) (slots : Slots) (i : ℕ) → i < n → slot_at (words_for n) (slot_words n slots) i ≡ packed n (slots i)
slot-written n slots i l = ap (λ area. slot_at (words_for n) area i) (sym (append-nil (slot_words n slots)))
    ∙ flat-from n (words_for n) (λ j. packed n (slots j)) (λ j. length-packed n (slots j)) [] i l

-- The words of slots in reduced shape are read back as those slots.
pub area-back : {n : ℕ} {slots : Slots} → Reduced n slots → slots_in n (slot_words n slots) ≡ slots
unfolding slots_in
area-back {n} {slots} R = fun_ext (λ i. fun_ext (each i))
  where
    each : (i f : ℕ) → slots_in n (slot_words n slots) i f ≡ slots i f
    each i f = elim (test (ltb i n)) [
      | on t ↦ rw (t, slot-written n slots i (ltb-true i n t)) (packed-holds n (slots i) f (slot-past R i f))
      | off t ↦ rw t (elim (test (slots i f)) [ on e ↦ absurd (omega (arith, R.within i f e, ltb-false i n t)) | off e ↦ sym e ])
    ]

-- An area whose slots hold the sets of a family in reduced shape has the words of that family.
pub area-is : (n : ℕ) (area : List ℕ) → length area ≡ n * words_for n → Words area → {slots : Slots} → Reduced n slots
    → ((i f : ℕ) → i < n → has (slot_at (words_for n) area i) f ≡ slots i f) → area ≡ slot_words n slots
area-is n area e h {slots} R each = areas-same (words_for n) n area (slot_words n slots) e (length-slots n slots) (λ i l.
    words_of n (slots i) (slot_at (words_for n) area i) (length-slot (words_for n) i area (omega (arith, slot-in (words_for n) i n l)))
    (words-slot (words_for n) i area h) (slot-past R i) (λ f. each i f l)
    ∙ sym (slot-written n slots i l))
