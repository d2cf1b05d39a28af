-- The operators of a built task: the file's as they stand there, and the forgetting ones that are kept, written one after another.
use Rattle.std.specs.Prelude.{ℕ, ◌+◌, ◌*◌, ◌-◌, ◌<◌, ◌≤◌, ◌≡◌, Bool, List, [], ◌∷◌, ◌++◌, length, take, drop, Option, Some, None, Ok}
use Rattle.std.proofs.Math.Path.{refl}
use Rattle.std.proofs.Common.{sym, ap, ◌∙◌, append-nil}
use native.Mathlib.Omega.{arith}
use Rattle.std.proofs.Math.ListN.{length-append}
use Rattle.meaning.specs.Limits.{number_end}
use Rattle.meaning.specs.Task.{Operator, State}
use Rattle.meaning.specs.Number.{group_bytes, number_bytes}
use Rattle.meaning.specs.File.{plain, InLimits, bytes_of, entry_bytes, counted, operator_bytes}
use Rattle.meaning.specs.Answer.{delivered}
use Rattle.meaning.specs.Workspace.{has}
use Rattle.theory.specs.NumberBack.{number-bytes-length}
use Rattle.theory.specs.Given.{entry_of}
use Rattle.words.specs.Members.{members_in}
use Rattle.pairs.specs.Ready.{Listed}
use Rattle.forgetting.specs.declared.Kept.{Kept}
use Rattle.forgetting.specs.Out.{out_by}
use Rattle.forgetting.specs.Kept.{kept_in, unknown_of, forgotten_by, passed_by, Found, Stands, stands-first, stands-next, stands-below, stands-end, stands_at}
use Rattle.writer.specs.Answer.{outcome_of}
use Rattle.writer.specs.Parts.{Triples}
use Rattle.writer.specs.Front.{Front, front_bytes, front-few}
use Rattle.writer.specs.Widths.{four_lists, bytes-more, bytes-none}
use Rattle.writer.specs.Remains.{Remains, remains-all, part-fits, remains-after, remains-none, parts-delivered}

-- The bytes of the forgetting operators that a header keeps.
unfoldable pub kept_bytes : List ℕ → List ℕ → List ℕ → Bool → List ℕ
kept_bytes sizes pairs goal lean = bytes_of operator_bytes (kept_in sizes (has pairs) goal lean)

-- The count of all operators, the file's, and the forgetting ones.
unfoldable pub operators_bytes : ℕ → List ℕ → List ℕ → List ℕ → List ℕ → Bool → List ℕ
operators_bytes count own sizes pairs goal lean = number_bytes count ++ (own ++ kept_bytes sizes pairs goal lean)

-- ---- the walk

-- A forgetting operator can be written.
kept-triples : (sizes : List ℕ) (i x : ℕ) → InLimits sizes → i < length sizes → x < unknown_of sizes i → Triples (forgotten_by sizes i x)
kept-triples sizes i x limits l h = let small = (limits.each i l).1 in
    (omega arith, λ k below. let first : k ≡ 0 = omega arith in rw first (omega (arith, limits.variables.1), omega arith, omega arith))

module _ (sizes pairs goal : List ℕ) (lean : Bool) where
  abbrev out : ℕ → ℕ → Bool
  out = out_by sizes (has pairs) goal lean

  abbrev all : List Operator
  all = kept_in sizes (has pairs) goal lean

  -- The walk stands at one that is kept, or at the end, k come before it, and from it on they are still to be written.
  pub record Writing (room₀ : List ℕ) (at : ℕ) (room : List ℕ) (next : ℕ) (r : Option Kept) : Type 0 where
    pub k : ℕ
    pub stands : Stands sizes out r k
    pub remains : Remains room₀ at (kept_bytes sizes pairs goal lean) room next (bytes_of operator_bytes (drop k all))

  -- How many are left.
  abbrev pub left_from : Option Kept → ℕ
  left_from r = length all - length (passed_by sizes out r)

  pub writing-first : (room : List ℕ) (at : ℕ) (r : Option Kept) → at + length (kept_bytes sizes pairs goal lean) ≤ length room → Found sizes out 0 0 r
      → Writing room at room at r
  unfolding kept_bytes
  writing-first room at r fit found = record { k = 0; stands = stands-first _ _ r found; remains = remains-all room at _ fit }

  module _ (room₀ : List ℕ) (at : ℕ) (room : List ℕ) (next : ℕ) where
    module _ (kept : Kept) (w : Writing room₀ at room next (Some kept)) where
      -- The next operator, as it is written.
      abbrev one : List ℕ
      one = operator_bytes (forgotten_by sizes kept.variable kept.value)

      split : bytes_of operator_bytes (drop w.k all) ≡ one ++ bytes_of operator_bytes (drop (w.k + 1) all)
      split = bytes-more operator_bytes all w.k [] (stands-below _ _ kept w.k w.stands)
          ∙ ap (λ o. operator_bytes o ++ bytes_of operator_bytes (drop (w.k + 1) all)) (stands_at _ _ kept w.k w.stands)

      pub writing-fits : InLimits sizes → (o : Operator) → o ≡ forgotten_by sizes kept.variable kept.value → Triples o × (next + length (operator_bytes o) ≤ length room)
      writing-fits limits o is = rw is (kept-triples sizes kept.variable kept.value limits w.stands.there.0 w.stands.there.1, part-fits w.remains one _ split)

      pub writing-next : (room' : List ℕ) (after : ℕ) (r : Option Kept) → after ≡ next + length one → room' ≡ take next room ++ (one ++ drop after room)
          → Found sizes out kept.variable (kept.value + 1) r → Writing room₀ at room' after r
      writing-next room' after r p v found = record {
        k = w.k + 1;
        stands = stands-next _ _ kept w.k w.stands r found;
        remains = remains-after w.remains one _ room' after split p v;
      }

      pub writing-less : (r : Option Kept) → Found sizes out kept.variable (kept.value + 1) r → left_from r < left_from (Some kept)
      writing-less r found = omega (arith, w.stands.before, stands-below _ _ kept w.k w.stands, (stands-next _ _ kept w.k w.stands r found).before)

    pub writing-end : Writing room₀ at room next None → (next ≡ at + length (kept_bytes sizes pairs goal lean)) × (room ≡ take at room₀ ++ (kept_bytes sizes pairs goal lean ++ drop next room₀))
    writing-end w = remains-none w.remains (bytes-none operator_bytes all w.k (omega (arith, stands-end _ _ w.k w.stands)))

-- ---- the whole

-- What is asked of the parts of a built task with so many operators of the file and so many forgetting ones: these have four bytes each.
pub record BuiltParts (count kept : ℕ) (sizes start goal pairs : List ℕ) (lean : Bool) : Type 0 where
  pub front : Front sizes start goal pairs
  pub ready : Listed sizes pairs
  pub is-goal : State sizes goal
  pub countable : count + kept < number_end
  pub width : length (kept_bytes sizes pairs goal lean) ≡ kept * 4

-- A forgetting operator is as long as this one.
pub one_width : length (operator_bytes (entry_of 0 0 1 ∷ [])) ≡ 4
unfolding operator_bytes counted bytes_of entry_bytes number_bytes group_bytes
one_width = refl

module _ (count : ℕ) (own sizes pairs goal : List ℕ) (lean : Bool) where
  pub operators-length : length (operators_bytes count own sizes pairs goal lean) ≡ length (number_bytes count) + length own + length (kept_bytes sizes pairs goal lean)
  unfolding operators_bytes
  operators-length =
      omega (arith, length-append (number_bytes count) (own ++ kept_bytes sizes pairs goal lean), length-append own (kept_bytes sizes pairs goal lean))

  -- They are written in three parts.
  module _ (room : List ℕ) (at : ℕ) (fit : at + length (operators_bytes count own sizes pairs goal lean) ≤ length room) where
    abbrev whole : List ℕ
    whole = operators_bytes count own sizes pairs goal lean

    -- Of the whole, so much remains.
    abbrev Left : List ℕ → ℕ → List ℕ → Type 0
    Left = Remains room at whole

    pub count_fits : at + length (number_bytes count) ≤ length room
    count_fits = omega (arith, operators-length)

    module _ (room₁ : List ℕ) (second : ℕ) (p₁ : second ≡ at + length (number_bytes count)) (w₁ : room₁ ≡ take at room ++ (number_bytes count ++ drop second room)) where
      after-count : Left room₁ second (own ++ kept_bytes sizes pairs goal lean)
      unfolding operators_bytes
      after-count = remains-after (remains-all room at whole fit) (number_bytes count) _ room₁ second refl p₁ w₁

      pub own-fits : second + length own ≤ length room₁
      own-fits = part-fits after-count own _ refl

      module _ (room₂ : List ℕ) (third : ℕ) (p₂ : third ≡ second + length own) (w₂ : room₂ ≡ take second room₁ ++ (own ++ drop third room₁)) where
        after-own : Left room₂ third (kept_bytes sizes pairs goal lean)
        after-own = remains-after after-count own _ room₂ third refl p₂ w₂

        pub kept-fits : third + length (kept_bytes sizes pairs goal lean) ≤ length room₂
        kept-fits = after-own.fits

        pub operators-written : (room₃ : List ℕ) (end : ℕ) → end ≡ third + length (kept_bytes sizes pairs goal lean)
            → room₃ ≡ take third room₂ ++ (kept_bytes sizes pairs goal lean ++ drop end room₂) → (end ≡ at + length whole) × (room₃ ≡ take at room ++ (whole ++ drop end room))
        operators-written room₃ end p₃ w₃ = remains-none (remains-after after-own (kept_bytes sizes pairs goal lean) [] room₃ end (sym (append-nil _)) p₃ w₃) refl

module _ (count kept : ℕ) (own sizes start goal pairs : List ℕ) (lean : Bool) where
  -- The file of the built task.
  unfoldable pub built_bytes : List ℕ
  built_bytes = front_bytes plain sizes start goal (members_in pairs) ++ operators_bytes (count + kept) own sizes pairs goal lean

  module _ (parts : BuiltParts count kept sizes start goal pairs lean) where
    pub file-length : length built_bytes ≡ length (front_bytes plain sizes start goal (members_in pairs)) + (length (number_bytes (count + kept)) + length own + 4 * kept)
    unfolding built_bytes
    file-length = omega (
      arith,
      length-append (front_bytes plain sizes start goal (members_in pairs)) (operators_bytes (count + kept) own sizes pairs goal lean),
      operators-length (count + kept) own sizes pairs goal lean,
      parts.width,
    )

    -- The whole is short but for the file's operators.
    pub file-few : length built_bytes ≤ 2 * four_lists + length own
    file-few = omega (arith, file-length, front-few plain sizes start goal pairs parts.front, (number-bytes-length (count + kept)).1, parts.countable)

    pub file-delivered : (room room₁ room₂ : List ℕ) (next end : ℕ) → length built_bytes ≤ length room
        → next ≡ length (front_bytes plain sizes start goal (members_in pairs)) → room₁ ≡ front_bytes plain sizes start goal (members_in pairs) ++ drop next room
        → end ≡ next + length (operators_bytes (count + kept) own sizes pairs goal lean) → room₂ ≡ take next room₁ ++ (operators_bytes (count + kept) own sizes pairs goal lean ++ drop end room₁)
        → outcome_of (Ok end) room₂ ≡ delivered built_bytes room
    unfolding built_bytes
    file-delivered room room₁ room₂ next end fit p₁ w₁ p₂ w₂ = parts-delivered built_bytes (front_bytes plain sizes start goal (members_in pairs)) (operators_bytes (count + kept) own sizes pairs goal lean) room room₁ room₂ next end refl fit p₁ w₁ p₂ w₂
