-- The words of a content: how many there are, where each part is read back, that they fix the content, when a workspace is well formed,
-- what a changed part is written over, and that opening and accepted edits leave a proper content.
use Prim.Native.Nat.{ℕ, zero, suc, ◌+◌, ◌-◌, ◌*◌, ◌<◌, ◌≤◌, min}
use Rattle.std.specs.Prelude.{◌≡◌, refl, ◌⊎◌, false, ◌&&◌, List, ◌∷◌, ◌++◌, ltb, length, get_or, drop}
use Rattle.std.proofs.Math.Path.{ap}
use Rattle.std.proofs.Common.{ap₂, sym, ◌∙◌, subst, inl, inr, append_assoc, mul-le-mul_right, length-append, length-take, length-drop, take-append-drop, take_at, drop-drop, get_or-take, get_or-drop, get_or-append-add, length-take-le, drop-cons, ltb-true, ltb-false, lt-ltb}
use native.Mathlib.Omega.{arith}
use Rattle.std.proofs.Math.ListN.{take, get_or-append}
use Rattle.std.proofs.Math.Seq.{drop_at}
use Rattle.meaning.specs.Sets.{Slots, flat}
use Rattle.meaning.specs.Task.{Task}
use Rattle.meaning.specs.Feature.{features}
use Rattle.meaning.specs.Slot.{Reduced}
use Rattle.meaning.specs.File.{Acceptable}
use Rattle.meaning.specs.Workspace.{has, words_for, sizes_at, start_at, goal_at, pairs_at, slots_at, words_due, packed, Content, words_of, Proper, WellFormed, content_of}
use Rattle.meaning.specs.Answer.{Edit, add_operator, replace_start, replace_goal, fine, edit_judged, Changes}
use Rattle.theory.specs.Truth.{on, off, test, less, same, more, order}
use Rattle.theory.specs.Search.{listed_in}
use Rattle.theory.specs.Flat.{flat-cong, length-flat}
use Rattle.theory.specs.Run.{run_in}
use Rattle.theory.specs.Slots.{slot-past}
use Rattle.theory.specs.Operands.{start_fine, goal-fine}
use Rattle.theory.specs.Words.{Words, length-packed, packed-holds, packed-has, packed-cong}

-- ---- lists that begin with a known part

module _ {A : Type 0} where
  part-at : (l a b : List A) (k n : ℕ) → drop k l ≡ a ++ b → length a ≡ n → take n (drop k l) ≡ a
  part-at l a b k n e h = rw e (take_at a b n h)

  part-next : (l a b : List A) (k n : ℕ) → drop k l ≡ a ++ b → length a ≡ n → drop (k + n) l ≡ b
  part-next l a b k n e h = sym (drop-drop n k l) ∙ rw e (drop_at a b n h)

  -- One list of several that are equally long.
  pub flat-from : (n b : ℕ) (g : ℕ → List A) → ((i : ℕ) → length (g i) ≡ b) → (r : List A) (i : ℕ) → i < n → take b (drop (i * b) (flat n g ++ r)) ≡ g i
  unfolding flat
  flat-from zero b g h r i l = absurd (omega arith)
  flat-from (suc n) b g h r i l = rw (append_assoc (flat n g) (g n) r) (elim (order i n) [
    | less k ↦ flat-from n b g h (g n ++ r) i k
    | same q ↦ rw (q, drop_at (flat n g) (g n ++ r) (n * b) (length-flat n b g (λ j _. h j))) (take_at (g n) r b (h n))
    | more k ↦ absurd (omega arith)
  ])

  part_cut : (l : List A) (k n : ℕ) → take n (drop k l) ++ drop (k + n) l ≡ drop k l
  part_cut l k n = rw (← (drop-drop n k l)) (take-append-drop n (drop k l))

  -- A list cut into parts that are equally long, and the rest.
  flat-cut : (n b at : ℕ) (l : List A) → flat n (λ i. take b (drop (at + i * b) l)) ++ drop (at + n * b) l ≡ drop at l
  unfolding flat
  flat-cut zero b at l = let e : at + zero * b ≡ at = omega arith in rw e
  flat-cut (suc n) b at l = let e : at + suc n * b ≡ (at + n * b) + b = omega arith in
      rw (append_assoc (flat n (λ i. take b (drop (at + i * b) l))) (take b (drop (at + n * b) l)) (drop (at + suc n * b) l), e, part_cut l (at + n * b) b) (flat-cut n b at l)

  -- Lists that differ in one part: the second is the first with that part written over.
  part-changed : (l l' front old new rest : List A) (at n : ℕ) → l ≡ front ++ (old ++ rest) → l' ≡ front ++ (new ++ rest) → length front ≡ at → length old ≡ n
      → l' ≡ take at l ++ (new ++ drop (at + n) l)
  part-changed l l' front old new rest at n e e' h k =
      rw (e', e, ← (drop-drop n at (front ++ (old ++ rest))), take_at front (old ++ rest) at h, drop_at front (old ++ rest) at h, drop_at old rest n k)

  -- Values written over a part leave every element outside it as it was.
  pub written-outside : (l values : List A) (at n k : ℕ) (d : A) → length values ≡ n → at ≤ length l → (k < at) ⊎ (at + n ≤ k)
      → get_or (take at l ++ (values ++ drop (at + n) l)) k d ≡ get_or l k d
  written-outside l values at n k d e h (inl m) = get_or-append (take at l) _ d k (rw (length-take-le at l h) m) ∙ get_or-take at l k d m
  written-outside l values at n k d e h (inr m) = let q : (at + n) + (k - (at + n)) ≡ k = omega arith in
      rw (← (append_assoc (take at l) values (drop (at + n) l))) (rw q at (past (take at l ++ values) (at + n) (k - (at + n)) front))
    where
      front : length (take at l ++ values) ≡ at + n
      front = length-append (take at l) values ∙ rw (length-take-le at l h, e)

      past : (front : List A) (n j : ℕ) → length front ≡ n → get_or (front ++ drop n l) (n + j) d ≡ get_or l (n + j) d
      past front n j q = rw (← q) (get_or-append-add front (drop (length front) l) j d ∙ get_or-drop (length front) l j d)

-- ---- the parts of the words of a content, with any words after them

-- v and N of a content.
abbrev pub variables_in : Content → ℕ
variables_in c = length c.sizes

abbrev pub features_in : Content → ℕ
features_in c = features c.sizes

-- The words of all slots.
abbrev pub slot_words : ℕ → Slots → List ℕ
slot_words n slots = flat n (λ i. packed n (slots i))

pub length-slots : (n : ℕ) (slots : Slots) → length (slot_words n slots) ≡ n * words_for n
length-slots n slots = length-flat n (words_for n) _ (λ i l. length-packed n (slots i))

pub length-words : (c : Content) → length c.start ≡ variables_in c → length c.goal ≡ variables_in c → length (words_of c) ≡ words_due (variables_in c) (features_in c)
unfolding words_of
length-words c s g = rw (length-append c.sizes _, length-append c.start _, length-append c.goal _, length-append (packed (features_in c) c.pairs) _)
    (omega (arith, length-packed (features_in c) c.pairs, length-slots (features_in c) c.slots))

pub words_long : (c : Content) (further : List ℕ) → Proper c → length (words_of c ++ further) ≡ words_due (variables_in c) (features_in c) + length further
words_long c further p = length-append (words_of c) further ∙ rw (length-words c p.start.full p.goal.full)

module _ (c : Content) (further : List ℕ) where
  -- What stands from each part on.
  abbrev from_slots : List ℕ
  from_slots = slot_words (features_in c) c.slots ++ further

  abbrev from_pairs : List ℕ
  from_pairs = packed (features_in c) c.pairs ++ from_slots

  abbrev from_goal : List ℕ
  from_goal = c.goal ++ from_pairs

  abbrev from_start : List ℕ
  from_start = c.start ++ from_goal

  words-join : words_of c ++ further ≡ variables_in c ∷ (c.sizes ++ from_start)
  unfolding words_of
  words-join = ap (◌∷◌ (variables_in c)) (simp append_assoc)

  at-sizes : drop sizes_at (words_of c ++ further) ≡ c.sizes ++ from_start
  at-sizes = rw words-join

  at-start : drop (start_at (variables_in c)) (words_of c ++ further) ≡ from_start
  at-start = part-next (words_of c ++ further) c.sizes _ sizes_at _ at-sizes refl

  pub read_count : get_or (words_of c ++ further) 0 0 ≡ variables_in c
  read_count = rw words-join

  pub read-sizes : take (variables_in c) (drop sizes_at (words_of c ++ further)) ≡ c.sizes
  read-sizes = part-at (words_of c ++ further) c.sizes _ sizes_at _ at-sizes refl

  module _ (s : length c.start ≡ variables_in c) where
    at-goal : drop (goal_at (variables_in c)) (words_of c ++ further) ≡ from_goal
    at-goal = part-next (words_of c ++ further) c.start _ (start_at (variables_in c)) _ at-start s

    pub read-start : take (variables_in c) (drop (start_at (variables_in c)) (words_of c ++ further)) ≡ c.start
    read-start = part-at (words_of c ++ further) c.start _ (start_at (variables_in c)) _ at-start s

    module _ (g : length c.goal ≡ variables_in c) where
      at-pairs : drop (pairs_at (variables_in c)) (words_of c ++ further) ≡ from_pairs
      at-pairs = part-next (words_of c ++ further) c.goal _ (goal_at (variables_in c)) _ at-goal g

      pub read-goal : take (variables_in c) (drop (goal_at (variables_in c)) (words_of c ++ further)) ≡ c.goal
      read-goal = part-at (words_of c ++ further) c.goal _ (goal_at (variables_in c)) _ at-goal g

      at_slots : drop (slots_at (variables_in c) (features_in c)) (words_of c ++ further) ≡ from_slots
      at_slots = part-next (words_of c ++ further) (packed (features_in c) c.pairs) from_slots (pairs_at (variables_in c)) _ at-pairs (length-packed (features_in c) c.pairs)

      pub read_pairs : take (words_for (features_in c)) (drop (pairs_at (variables_in c)) (words_of c ++ further)) ≡ packed (features_in c) c.pairs
      read_pairs = part-at (words_of c ++ further) (packed (features_in c) c.pairs) from_slots (pairs_at (variables_in c)) _ at-pairs (length-packed (features_in c) c.pairs)

      pub read-slot : (i : ℕ) → i < features_in c
          → take (words_for (features_in c)) (drop (slots_at (variables_in c) (features_in c) + i * words_for (features_in c)) (words_of c ++ further))
          ≡ packed (features_in c) (c.slots i)
      read-slot i l = rw (← (drop-drop (i * words_for (features_in c)) (slots_at (variables_in c) (features_in c)) (words_of c ++ further)), at_slots)
          (flat-from (features_in c) (words_for (features_in c)) _ (λ j. length-packed (features_in c) (c.slots j)) further i l)

      pub read-further : drop (words_due (variables_in c) (features_in c)) (words_of c ++ further) ≡ further
      read-further = part-next (words_of c ++ further) (slot_words (features_in c) c.slots) further (slots_at (variables_in c) (features_in c)) _ at_slots (length-slots (features_in c) c.slots)

-- ---- the content in a list of words, which need not be in order

unfoldable pub sizes_in : List ℕ → List ℕ
sizes_in ws = take (get_or ws 0 0) (drop sizes_at ws)

-- The content in words, given the sizes; slots that are not there are empty.
abbrev pub content_by : List ℕ → List ℕ → Content
content_by sizes ws = record {
  sizes = sizes;
  start = take (length sizes) (drop (start_at (length sizes)) ws);
  goal = take (length sizes) (drop (goal_at (length sizes)) ws);
  pairs = has (take (words_for (features sizes)) (drop (pairs_at (length sizes)) ws));
  slots = λ i f. ltb i (features sizes) && has (take (words_for (features sizes)) (drop (slots_at (length sizes) (features sizes) + i * words_for (features sizes)) ws)) f;
}

abbrev pub content_in : List ℕ → Content
content_in ws = content_by (sizes_in ws) ws

pub pairs-past : {c : Content} → Proper c → (f : ℕ) → features_in c ≤ f → c.pairs f ≡ false
pairs-past {c} p f l = elim (test (c.pairs f)) [ on e ↦ absurd (omega (arith, p.pairs f e)) | off e ↦ e ]

slot-beyond : {n : ℕ} {slots : Slots} → Reduced n slots → (i f : ℕ) → n ≤ i → slots i f ≡ false
slot-beyond {n} {slots} R i f l = elim (test (slots i f)) [ on e ↦ absurd (omega (arith, R.within i f e)) | off e ↦ e ]

-- The words of a proper content are read back as that content.
pub content-back : {c : Content} (further : List ℕ) → Proper c → content_in (words_of c ++ further) ≡ c
unfolding sizes_in
content-back {c} further p = ap (λ sizes. content_by sizes (words_of c ++ further)) sizes ∙ parts
  where
    sizes : sizes_in (words_of c ++ further) ≡ c.sizes
    sizes = rw (read_count c further) (read-sizes c further)

    pairs : (f : ℕ) → (content_by c.sizes (words_of c ++ further)).pairs f ≡ c.pairs f
    pairs f = rw (read_pairs c further p.start.full p.goal.full) (packed-holds (features_in c) c.pairs f (pairs-past p f))

    slots : (i f : ℕ) → (content_by c.sizes (words_of c ++ further)).slots i f ≡ c.slots i f
    slots i f = elim (test (ltb i (features_in c))) [
      | on t ↦ rw (t, read-slot c further p.start.full p.goal.full i (ltb-true i (features_in c) t)) (packed-holds (features_in c) (c.slots i) f (slot-past p.slots i f))
      | off t ↦ rw t (sym (slot-beyond p.slots i f (ltb-false i (features_in c) t)))
    ]

    parts : content_by c.sizes (words_of c ++ further) ≡ c
    parts i = record {
      sizes = c.sizes;
      start = read-start c further p.start.full i;
      goal = read-goal c further p.start.full p.goal.full i;
      pairs = λ f. pairs f i;
      slots = λ n f. slots n f i;
    }

-- Proper contents with the same words, and with any words after them, are equal, and so are the words after them.
pub contents-same : {c c' : Content} → Proper c → Proper c' → (further further' : List ℕ) → words_of c ++ further ≡ words_of c' ++ further' → (c ≡ c') × (further ≡ further')
contents-same {c} {c'} p p' further further' e = (whole, rest)
  where
    whole : c ≡ c'
    whole = sym (content-back further p) ∙ ap content_in e ∙ content-back further' p'

    rest : further ≡ further'
    rest = sym (read-further c further p.start.full p.goal.full)
        ∙ ap₂ (λ d l. drop (words_due (variables_in d) (features_in d)) l) whole e
        ∙ read-further c' further' p'.start.full p'.goal.full

-- A well formed workspace has one content.
pub formed-only : {workspace : List ℕ} (formed formed' : WellFormed workspace) → formed.content ≡ formed'.content
formed-only formed formed' = (contents-same formed.proper formed'.proper formed.further formed'.further (sym formed.words ∙ formed'.words)).0

-- ---- when a workspace is well formed

words-part : (l : List ℕ) (k n : ℕ) → Words l → Words (take n (drop k l))
words-part l k n w i h = let j : i < min n (length l - k) = rw (length-take n (drop k l), length-drop k l) at h in
    rw (get_or-take n (drop k l) i 0 (omega arith), get_or-drop k l i 0) (w (k + i) (omega arith))

module _ (sizes ws : List ℕ) (due : words_due (length sizes) (features sizes) ≤ length ws) (w : Words ws) where
  -- A group of words inside the words due, with no bit past the features.
  group-packed : (at : ℕ) → at + words_for (features sizes) ≤ length ws
      → ((f : ℕ) → features sizes ≤ f → has (take (words_for (features sizes)) (drop at ws)) f ≡ false)
      → packed (features sizes) (has (take (words_for (features sizes)) (drop at ws))) ≡ take (words_for (features sizes)) (drop at ws)
  group-packed at l h = packed-has (features sizes) _ (length-take-le (words_for (features sizes)) (drop at ws) (rw (length-drop at ws) (omega arith)))
      (words-part ws at (words_for (features sizes)) w) h

  slot-packed : ((i f : ℕ) → features sizes ≤ f → (content_by sizes ws).slots i f ≡ false) → (i : ℕ) → i < features sizes
      → packed (features sizes) ((content_by sizes ws).slots i)
      ≡ take (words_for (features sizes)) (drop (slots_at (length sizes) (features sizes) + i * words_for (features sizes)) ws)
  slot-packed s i l = packed-cong (features sizes) _ _ (λ f k. rw (lt-ltb i (features sizes) l)) ∙ group-packed _ inside (λ f k. rw (lt-ltb i (features sizes) l) at (s i f k))
    where
      inside : (slots_at (length sizes) (features sizes) + i * words_for (features sizes)) + words_for (features sizes) ≤ length ws
      inside = omega (arith, mul-le-mul_right (words_for (features sizes)) l)

  parts-packed : ((f : ℕ) → features sizes ≤ f → (content_by sizes ws).pairs f ≡ false) → ((i f : ℕ) → features sizes ≤ f → (content_by sizes ws).slots i f ≡ false)
      → from_start (content_by sizes ws) (drop (words_due (length sizes) (features sizes)) ws) ≡ drop (start_at (length sizes)) ws
  parts-packed p s = rw (
    group-packed (pairs_at (length sizes)) (omega arith) p,
    flat-cong (features sizes) _ _ (slot-packed s),
    flat-cut (features sizes) (words_for (features sizes)) (slots_at (length sizes) (features sizes)) ws,
    part_cut ws (pairs_at (length sizes)) (words_for (features sizes)),
    part_cut ws (goal_at (length sizes)) (length sizes),
  )
      (part_cut ws (start_at (length sizes)) (length sizes))

count-in : (ws : List ℕ) → start_at (get_or ws 0 0) ≤ length ws → length (sizes_in ws) ≡ get_or ws 0 0
unfolding sizes_in
count-in ws l = length-take-le (get_or ws 0 0) (drop sizes_at ws) (rw (length-drop sizes_at ws) (omega arith))

header-in : (ws : List ℕ) → start_at (get_or ws 0 0) ≤ length ws → length (sizes_in ws) ∷ (sizes_in ws ++ drop (start_at (length (sizes_in ws))) ws) ≡ ws
unfolding sizes_in
header-in ws l = rw (count-in ws l, part_cut ws sizes_at (get_or ws 0 0)) (sym (drop-cons ws 0 0 (omega arith)))

module _ (ws : List ℕ) where
  -- A workspace that is long enough, and whose content is proper, is well formed.
  pub formed-by : words_due (get_or ws 0 0) (features (sizes_in ws)) ≤ length ws → Words ws → Proper (content_in ws) → WellFormed ws
  formed-by due w p = record {
    content = content_in ws;
    further = drop (words_due (length (sizes_in ws)) (features (sizes_in ws))) ws;
    words = sym (words-join (content_in ws) _ ∙ rw (parts-packed (sizes_in ws) ws (rw (count-in ws (omega arith)) due) w (pairs-past p) (slot-past p.slots)) (header-in ws (omega arith)));
    proper = p;
  }

  module _ (formed : WellFormed ws) where
    pub formed-content : content_in ws ≡ formed.content
    formed-content = ap content_in formed.words ∙ content-back formed.further formed.proper

    pub formed-proper : Proper (content_in ws)
    formed-proper = subst Proper (sym formed-content) formed.proper

    pub formed-sizes : sizes_in ws ≡ formed.content.sizes
    formed-sizes = ap (λ d. d.sizes) formed-content

    pub formed-count : get_or ws 0 0 ≡ variables_in formed.content
    formed-count = ap (λ l. get_or l 0 0) formed.words ∙ read_count formed.content formed.further

    pub formed-due : words_due (get_or ws 0 0) (features (sizes_in ws)) ≤ length ws
    formed-due = rw (formed-count, formed-sizes) (omega (arith, ap length formed.words, words_long formed.content formed.further formed.proper))

-- ---- a changed part

abbrev pub with_start : Content → List ℕ → Content
with_start c values = record { sizes = c.sizes; start = values; goal = c.goal; pairs = c.pairs; slots = c.slots }

abbrev pub with_goal : Content → List ℕ → Content
with_goal c values = record { sizes = c.sizes; start = c.start; goal = values; pairs = c.pairs; slots = c.slots }

abbrev pub with_slots : Content → Slots → Content
with_slots c slots = record { sizes = c.sizes; start = c.start; goal = c.goal; pairs = c.pairs; slots = slots }

module _ (c : Content) (further : List ℕ) (s : length c.start ≡ variables_in c) where
  -- A new start is written over the old one.
  pub start-changed : (values : List ℕ) → words_of (with_start c values) ++ further
      ≡ take (start_at (variables_in c)) (words_of c ++ further) ++ (values ++ drop (goal_at (variables_in c)) (words_of c ++ further))
  start-changed values = part-changed _ _ (variables_in c ∷ c.sizes) c.start values (from_goal c further) (start_at (variables_in c)) (variables_in c)
      (words-join c further) (words-join (with_start c values) further) (omega arith) s

  module _ (g : length c.goal ≡ variables_in c) where
    pub goal-changed : (values : List ℕ) → words_of (with_goal c values) ++ further
        ≡ take (goal_at (variables_in c)) (words_of c ++ further) ++ (values ++ drop (pairs_at (variables_in c)) (words_of c ++ further))
    goal-changed values = part-changed _ _ (variables_in c ∷ (c.sizes ++ c.start)) c.goal values (from_pairs c further) (goal_at (variables_in c)) (variables_in c)
        (words-join c further ∙ simp append_assoc) (words-join (with_goal c values) further ∙ simp append_assoc) (rw (length-append c.sizes c.start) (omega arith)) g

    pub slots-changed : (slots : Slots) → words_of (with_slots c slots) ++ further
        ≡ take (slots_at (variables_in c) (features_in c)) (words_of c ++ further) ++ (slot_words (features_in c) slots ++ drop (words_due (variables_in c) (features_in c)) (words_of c ++ further))
    slots-changed slots = part-changed _ _ front (slot_words (features_in c) c.slots) (slot_words (features_in c) slots) further
        (slots_at (variables_in c) (features_in c)) (features_in c * words_for (features_in c))
        (words-join c further ∙ simp append_assoc) (words-join (with_slots c slots) further ∙ simp append_assoc) long (length-slots (features_in c) c.slots)
      where
        front : List ℕ
        front = variables_in c ∷ (c.sizes ++ (c.start ++ (c.goal ++ packed (features_in c) c.pairs)))

        long : length front ≡ slots_at (variables_in c) (features_in c)
        long = rw (length-append c.sizes _, length-append c.start _, length-append c.goal _) (omega (arith, length-packed (features_in c) c.pairs))

-- ---- an opened task, and an accepted edit

-- The content of an opened task is proper.
pub opened-proper : (T : Task) (slots : Slots) → Acceptable T → Reduced (features T.sizes) slots → Proper (content_of T slots)
opened-proper T slots a R = record {
  limits = a.limits;
  taken = a.taken;
  start = a.start;
  goal = a.goal;
  pairs = λ f e. run_in _ _ T.pairs f a.pairs (listed_in T.pairs f e);
  free = a.free;
  slots = R;
}

-- An accepted edit leaves a proper content.
pub edit-proper : (c c' : Content) (edit : Edit) → Proper c → edit_judged c edit ≡ fine → Changes c edit c' → Proper c'
edit-proper c c' (add_operator r) p e h = subst Proper (sym h.2)
    (record { limits = p.limits; taken = p.taken; start = p.start; goal = p.goal; pairs = p.pairs; free = p.free; slots = h.1.shape })
edit-proper c c' (replace_start values) p e h = let (s, k) = start_fine c values e in subst Proper (sym h)
    (record { limits = p.limits; taken = p.taken; start = s; goal = p.goal; pairs = p.pairs; free = k; slots = p.slots })
edit-proper c c' (replace_goal values) p e h = subst Proper (sym h)
    (record { limits = p.limits; taken = p.taken; start = p.start; goal = (goal-fine c values fine e).0; pairs = p.pairs; free = p.free; slots = p.slots })

pub edit-sizes : (c c' : Content) (edit : Edit) → Changes c edit c' → c'.sizes ≡ c.sizes
edit-sizes c c' (add_operator r) h = ap (λ d. d.sizes) h.2
edit-sizes c c' (replace_start values) h = ap (λ d. d.sizes) h
edit-sizes c c' (replace_goal values) h = ap (λ d. d.sizes) h

-- An accepted edit leaves the words after those due as they were.
pub edit-further : (c c' : Content) (edit : Edit) (further : List ℕ) → Proper c → Proper c' → Changes c edit c' → drop (length (words_of c')) (words_of c ++ further) ≡ further
edit-further c c' edit further p p' h = ap (λ n. drop n (words_of c ++ further))
    (length-words c' p'.start.full p'.goal.full ∙ ap (λ sizes. words_due (length sizes) (features sizes)) (edit-sizes c c' edit h))
    ∙ read-further c further p.start.full p.goal.full
