-- The words of a workspace: lengths, offsets, what stands where, and when a workspace is well formed.
use Rattle.std.specs.Prelude.{ℕ, ◌+◌, ◌-◌, ◌*◌, ◌/◌, ◌%◌, ◌^◌, ◌<◌, ◌≤◌, ◌≡◌, Bool, true, false, ◌&&◌, List, ◌∷◌, ◌++◌, length, get_or, eqb, ltb}
use Rattle.meaning.specs.Sets.{Set, Slots, listed, table, flat, whole_number}
use Rattle.meaning.specs.Limits.{word_bits}
use Rattle.meaning.specs.Task.{Task, State}
use Rattle.meaning.specs.Feature.{atoms, features}
use Rattle.meaning.specs.Pair.{holds}
use Rattle.meaning.specs.Slot.{Reduced}
use Rattle.meaning.specs.File.{InLimits, Taken}

-- "W = N/64 rounded up"
abbrev pub words_for : ℕ → ℕ
words_for n = (n + (word_bits - 1)) / word_bits

-- Where each part begins: "v; v sizes; v start values; v goal values; W words of listed pairs; N slots of W words".
abbrev pub sizes_at : ℕ
sizes_at = 1

abbrev pub start_at : ℕ → ℕ
start_at v = sizes_at + v

abbrev pub goal_at : ℕ → ℕ
goal_at v = start_at v + v

abbrev pub pairs_at : ℕ → ℕ
pairs_at v = goal_at v + v

abbrev pub slots_at : ℕ → ℕ → ℕ
slots_at v n = pairs_at v + words_for n

-- How many words are due for v variables and n features.
abbrev pub words_due : ℕ → ℕ → ℕ
words_due v n = slots_at v n + n * words_for n

-- Bit k of a word.
abbrev pub bit : ℕ → ℕ → Bool
bit word k = eqb (word / 2 ^ k % 2) 1

-- "Feature i is bit i mod 64 of word i/64 in its group."
unfoldable pub has : List ℕ → Set
has words f = bit (get_or words (f / word_bits) 0) (f % word_bits)

-- The words of a set of features below n. "Unused bits are 0."
unfoldable pub packed : ℕ → Set → List ℕ
packed n features = table (words_for n) (λ k. whole_number word_bits (λ b. ltb (k * word_bits + b) n && features (k * word_bits + b)))

-- What a workspace holds.
pub record Content : Type 0 where
  pub sizes : List ℕ
  pub start : List ℕ
  pub goal : List ℕ
  pub pairs : Set
  pub slots : Slots

-- The words of a content, in document 01's order.
unfoldable pub words_of : Content → List ℕ
words_of c =
    length c.sizes
    ∷ (c.sizes
    ++ (c.start
    ++ (c.goal
    ++ (packed (features c.sizes) c.pairs
    ++ flat (features c.sizes) (λ i. packed (features c.sizes) (c.slots i))))))

-- "each header word and N keep their limits, only pair features are listed, the start holds none of them, .. and the slots have that reduced
-- shape"
pub record Proper (c : Content) : Type 0 where
  pub limits : InLimits c.sizes
  pub taken : Taken c.sizes
  pub start : State c.sizes c.start
  pub goal : State c.sizes c.goal
  pub pairs : (f : ℕ) → c.pairs f ≡ true → (atoms c.sizes ≤ f) × (f < features c.sizes)
  pub free : holds c.sizes c.pairs c.start ≡ false
  pub slots : Reduced (features c.sizes) c.slots

-- A well formed workspace: "long enough" for the words of a proper content, with which it begins. "Further words are never touched."
pub record WellFormed (workspace : List ℕ) : Type 0 where
  pub content : Content
  pub further : List ℕ
  pub words : workspace ≡ words_of content ++ further
  pub proper : Proper content

-- What a task's workspace holds, with the task's slots.
abbrev pub content_of : Task → Slots → Content
content_of T slots =
    record { sizes = T.sizes; start = T.start; goal = T.goal; pairs = listed T.pairs; slots = slots }
