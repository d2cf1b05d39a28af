-- The header of a task in words: where each part is read back, and what is known of a front that was read.
use Rattle.std.specs.Prelude.{ℕ, ◌≡◌, List, [], ◌∷◌, ◌++◌, length, take, drop}
use Rattle.std.proofs.Math.Path.{refl, ap}
use Rattle.std.proofs.Common.{sym, ◌∙◌, append_assoc, arith, take_at, drop_at}
use Rattle.std.proofs.Math.ListN.{length-append}
use Rattle.meaning.specs.Sets.{Slots, listed, flat}
use Rattle.meaning.specs.Task.{Operator, Task, State, Run}
use Rattle.meaning.specs.Feature.{atoms, features}
use Rattle.meaning.specs.Number.{got}
use Rattle.meaning.specs.File.{Kind, InLimits}
use Rattle.meaning.specs.Workspace.{words_for, sizes_at, start_at, goal_at, pairs_at, slots_at, has, packed, words_of, content_of}
use Rattle.theory.specs.Words.{length-packed}
use Rattle.theory.specs.Spent.{Gives, gives_then}
use Rattle.theory.specs.Accepted.{Readable}
use Rattle.words.specs.Members.{run-has}
use Rattle.layout.specs.Parts as layout
use Rattle.layout.specs.Parts.{sizes_part, start_part, goal_part, pairs_part}
use Rattle.reader.specs.Answer.{begun, feature_words}
use Rattle.reader.specs.Front.{Front, front_of, state_words, front_words, task_with}
use Rattle.reader.specs.States.{states-said, behind-said}
use Rattle.pairs.specs.Ready.{Listed}

-- "v; v sizes; v start values; v goal values; W words of listed pairs".
unfoldable pub header_words : Task → List ℕ
header_words T = length T.sizes ∷ (T.sizes ++ (T.start ++ (T.goal ++ feature_words (features T.sizes) T.pairs)))

pub front-header : (front : Front) (operators : List Operator) → front_words front ≡ header_words (task_with front operators)
unfolding front_words state_words header_words
front-header front operators = simp append_assoc

-- The words of a task's content are its header and then its slots.
pub header-content : (T : Task) (slots : Slots) → let n = features T.sizes in words_of (content_of T slots) ≡ header_words T ++ flat n (λ i. packed n (slots i))
unfolding words_of header_words
header-content T slots = simp append_assoc

-- So many elements of a list from place a on.
part-at : (left front part rest : List ℕ) (a k : ℕ) → left ≡ front ++ (part ++ rest) → length front ≡ a → length part ≡ k → take k (drop a left) ≡ part
part-at left front part rest a k e h l = rw (e, drop_at front (part ++ rest) a h) (take_at part rest k l)

-- What is known of a header that is read, before its operators are. The goal's values are below those of a list: below the sizes in a task file.
pub record HeadedFor (above : List ℕ) (T : Task) : Type 0 where
  pub limits : InLimits T.sizes
  pub start : State T.sizes T.start
  pub even : length above ≡ length T.sizes
  pub goal : State above T.goal
  pub pairs : Run (atoms T.sizes) T.pairs (features T.sizes)

abbrev pub Headed : Task → Type 0
Headed T = HeadedFor T.sizes T

pub readable-headed : (T : Task) → Readable T → Headed T
readable-headed T known = record { limits = known.limits; start = known.start; even = refl; goal = known.goal; pairs = known.pairs }

-- The words of its pairs.
abbrev pair_words : Task → List ℕ
pair_words T = feature_words (features T.sizes) T.pairs

module _ {above : List ℕ} (T : Task) (known : HeadedFor above T) where
  goal-long : length T.goal ≡ length T.sizes
  goal-long = known.goal.full ∙ known.even

  header-listed : Listed T.sizes (pair_words T)
  header-listed = record { limits = known.limits; due = length-packed (features T.sizes) (listed T.pairs) }

  pairs-has : has (pair_words T) ≡ listed T.pairs
  pairs-has = run-has (atoms T.sizes) (features T.sizes) T.pairs known.pairs

  pub header-length : length (header_words T) ≡ slots_at (length T.sizes) (features T.sizes)
  unfolding header_words
  header-length = rw (length-append T.sizes (T.start ++ (T.goal ++ pair_words T)), length-append T.start (T.goal ++ pair_words T), length-append T.goal (pair_words T))
      (omega (arith, known.start.full, goal-long, length-packed (features T.sizes) (listed T.pairs)))

  -- Words that begin with the header, part by part.
  module _ (words left : List ℕ) (e : left ≡ begun words (header_words T)) (v n : ℕ) (many : v ≡ length T.sizes) (total : n ≡ features T.sizes) where
    abbrev further : List ℕ
    further = drop (length (header_words T)) words

    -- The front of the words, and that all before the slots is there.
    pub header-front : take (slots_at v n) left ≡ header_words T
    header-front = rw (e, many, total) (take_at (header_words T) further (slots_at (length T.sizes) (features T.sizes)) header-length)

    pub header-room : layout.Headed v n left
    header-room = record {
      variables = omega (arith, many, known.limits.variables);
      features = omega (arith, total, known.limits.total);
      words = omega (arith, many, total, header-length, ap length e, length-append (header_words T) further);
    }

    -- Sizes, start, goal and pairs.
    pub header-parts : (sizes_part v left ≡ T.sizes) × (start_part v left ≡ T.start) × (goal_part v left ≡ T.goal) × (pairs_part v n left ≡ pair_words T)
    unfolding header_words
    header-parts = (
      part-at left (length T.sizes ∷ []) T.sizes ((T.start ++ (T.goal ++ pair_words T)) ++ further) sizes_at v (e ∙ simp append_assoc) refl (sym many),
      part-at left (length T.sizes ∷ T.sizes) T.start ((T.goal ++ pair_words T) ++ further) (start_at v) v (e ∙ simp append_assoc) (omega arith)
          (omega (arith, known.start.full)),
      part-at left (length T.sizes ∷ (T.sizes ++ T.start)) T.goal (pair_words T ++ further) (goal_at v) v (e ∙ simp append_assoc)
          (omega (arith, known.start.full, length-append T.sizes T.start)) (omega (arith, goal-long)),
      part-at left (length T.sizes ∷ (T.sizes ++ (T.start ++ T.goal))) (pair_words T) further (pairs_at v) (words_for n) (e ∙ simp append_assoc)
          (omega (arith, known.start.full, goal-long, length-append T.sizes (T.start ++ T.goal), length-append T.start T.goal))
          (length-packed (features T.sizes) (listed T.pairs) ∙ ap words_for (sym total)),
    )

    pub header-has : has (pairs_part v n left) ≡ listed T.pairs
    header-has = ap has header-parts.3 ∙ pairs-has

-- What is known of the parts as they are lent.
pub header-ready : (T : Task) (known : Headed T) (words left : List ℕ) → left ≡ begun words (header_words T) → (v n : ℕ) → v ≡ length T.sizes → n ≡ features T.sizes
    → Listed (sizes_part v left) (pairs_part v n left) × State (sizes_part v left) (start_part v left) × State (sizes_part v left) (goal_part v left)
header-ready T known words left e v n many total = let parts = header-parts T known words left e v n many total in
    rw (parts.0, parts.1, parts.2, parts.3) (header-listed T known, known.start, known.goal)

-- ---- a front that was read

front-said : (kind : Kind) (bytes : List ℕ) → Gives bytes (front_of kind) (λ front l. Headed (task_with front []))
unfolding front_of
front-said kind bytes = gives_then _ _ (states-said bytes)
    (λ states l s. behind-said kind bytes states (λ front. Headed (task_with front [])) (λ pairs count p. record { limits = s.0; start = s.1; even = refl; goal = s.2; pairs = p }))

pub front-headed : (kind : Kind) (bytes : List ℕ) (from : ℕ) (front : Front) (at : ℕ) (operators : List Operator) → front_of kind bytes from ≡ got front at → Headed (task_with front operators)
front-headed kind bytes from front at operators e = let known = ((front-said kind bytes).gives from front at e).known in
    record { limits = known.limits; start = known.start; even = refl; goal = known.goal; pairs = known.pairs }
