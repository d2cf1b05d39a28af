-- The parts of a workspace, and the content that they make.
use Rattle.std.specs.Prelude.{ℕ, zero, suc, ◌+◌, ◌*◌, ◌<◌, ◌≤◌, ◌≡◌, refl, Bool, ◌&&◌, List, [], ◌∷◌, ltb, get_or, take, drop}
use Rattle.std.proofs.Math.Path.{ap, fun_ext}
use Rattle.std.proofs.Common.{sym, ◌∙◌, subst, arith, take-take, drop-drop, ltb-true}
use Rattle.std.proofs.Math.ListN.{length}
use Rattle.meaning.specs.Limits.{least_variables, most_variables, most_features}
use Rattle.meaning.specs.Feature.{atoms, features}
use Rattle.meaning.specs.File.{InLimits, Taken}
use Rattle.meaning.specs.Workspace.{has, words_for, sizes_at, start_at, goal_at, pairs_at, slots_at, words_due, Content, Proper, WellFormed}
use Rattle.theory.specs.Truth.{on, off, test}
use Rattle.theory.specs.Tells.{Tells, tells-map}
use Rattle.theory.specs.Words.{Words}
use Rattle.theory.specs.Numbering.{atoms-room}
use Rattle.theory.specs.Contents.{sizes_in, content_by, content_in, formed-by, formed-proper, formed-due}
use Rattle.layout.specs.Parts.{sizes_part, start_part, goal_part, pairs_part, slots_part, Due, length_part}
use Rattle.pairs.specs.Ready.{Listed}
use Rattle.slots.specs.Area.{slot_at, slots_in, slot-in}
use Rattle.formed.specs.Tests.{EachSize}

-- The content that five parts make.
abbrev pub content_from : List ℕ → List ℕ → List ℕ → List ℕ → List ℕ → Content
content_from sizes start goal pairs area = record { sizes = sizes; start = start; goal = goal; pairs = has pairs; slots = slots_in (features sizes) area }

-- Parts with the lengths that are due for sizes within their limits, of n features.
pub record Cut (sizes start goal pairs area : List ℕ) (n : ℕ) : Type 0 where
  pub limits : InLimits sizes
  pub taken : Taken sizes
  pub total : n ≡ features sizes
  pub starts : length start ≡ length sizes
  pub goals : length goal ≡ length sizes
  pub words : length pairs ≡ words_for n
  pub slots : length area ≡ n * words_for n

-- Words that begin with v and v sizes within their limits, of n features.
pub record Sized (ws : List ℕ) (v n : ℕ) : Type 0 where
  pub count : v ≡ get_or ws 0 0
  pub room : start_at v ≤ length ws
  pub limits : InLimits (sizes_in ws)
  pub taken : Taken (sizes_in ws)
  pub total : n ≡ features (sizes_in ws)

-- ---- parts that are cut

module _ {sizes start goal pairs area : List ℕ} {n : ℕ} (cut : Cut sizes start goal pairs area n) where
  pub cut-bounds : (atoms sizes ≤ n) × (n ≤ most_features)
  cut-bounds = rw cut.total (atoms-room sizes, cut.limits.total)

  pub cut-listed : Listed sizes pairs
  cut-listed = record { limits = cut.limits; due = rw (← cut.total) cut.words }

-- ---- parts of lists

module _ {A : Type 0} where
  part-inside : (k n m : ℕ) (l : List A) → k + n ≤ m → take n (drop k (take m l)) ≡ take n (drop k l)
  part-inside zero n m l h = take-take n m l (omega arith)
  part-inside (suc k) n zero l h = absurd (omega arith)
  part-inside (suc k) n (suc m) [] h = refl
  part-inside (suc k) n (suc m) (x ∷ l) h = part-inside k n m l (omega arith)

-- The slots of a workspace are those of its slot area.
pub slots-area : (n at : ℕ) (ws : List ℕ) → slots_in n (take (n * words_for n) (drop at ws)) ≡ (λ i f. ltb i n && has (take (words_for n) (drop (at + i * words_for n) ws)) f)
unfolding slots_in
slots-area n at ws = fun_ext (λ i. fun_ext (each i))
  where
    each : (i f : ℕ) → (ltb i n && has (slot_at (words_for n) (take (n * words_for n) (drop at ws)) i) f) ≡ (ltb i n && has (take (words_for n) (drop (at + i * words_for n) ws)) f)
    each i f = elim (test (ltb i n)) [
      | on e ↦ ap (λ words. ltb i n && has words f)
          (part-inside (i * words_for n) (words_for n) (n * words_for n) (drop at ws) (slot-in (words_for n) i n (ltb-true i n e)) ∙ ap (take (words_for n)) (drop-drop (i * words_for n) at ws))
      | off e ↦ rw e
    ]

-- ---- the parts of a workspace with v variables and n features

-- The content that its parts make.
abbrev pub content_parts : ℕ → ℕ → List ℕ → Content
content_parts v n ws = content_from (sizes_part v ws) (start_part v ws) (goal_part v ws) (pairs_part v n ws) (slots_part v n ws)

content-by : (sizes ws : List ℕ) (v n : ℕ) → v ≡ length sizes → n ≡ features sizes
    → content_from sizes (start_part v ws) (goal_part v ws) (pairs_part v n ws) (slots_part v n ws) ≡ content_by sizes ws
content-by sizes ws v n e q = rw (e, q, slots-area (features sizes) (slots_at (length sizes) (features sizes)) ws)

module _ (ws : List ℕ) (v n : ℕ) (s : Sized ws v n) where
  pub sized-sizes : sizes_part v ws ≡ sizes_in ws
  unfolding sizes_in
  sized-sizes = rw s.count

  pub sized-length : length (sizes_in ws) ≡ v
  sized-length = ap length (sym sized-sizes) ∙ length_part sizes_at v ws s.room

  -- The parts make the content.
  pub sized-content : content_parts v n ws ≡ content_in ws
  sized-content = rw sized-sizes (content-by (sizes_in ws) ws v n (sym sized-length) s.total)

  -- Where all words that are due are there, the parts have their lengths.
  pub sized-cut : words_due v n ≤ length ws → Cut (sizes_part v ws) (start_part v ws) (goal_part v ws) (pairs_part v n ws) (slots_part v n ws) n
  sized-cut due = record {
    limits = rw sized-sizes s.limits;
    taken = rw sized-sizes s.taken;
    total = rw sized-sizes s.total;
    starts = length_part (start_at v) v ws (omega arith) ∙ sym size;
    goals = length_part (goal_at v) v ws (omega arith) ∙ sym size;
    words = length_part (pairs_at v) (words_for n) ws (omega arith);
    slots = length_part (slots_at v n) (n * words_for n) ws due;
  }
    where
      size : length (sizes_part v ws) ≡ v
      size = length_part sizes_at v ws s.room

  pub sized-few : (v ≤ most_variables) × (n ≤ most_features)
  sized-few = (omega (arith, s.limits.variables, sized-length), rw s.total s.limits.total)

  pub sized-due : WellFormed ws → Due v n ws
  sized-due f = record { variables = sized-few.0; features = sized-few.1; words = rw (s.count, s.total) (formed-due ws f) }

  -- What tells whether the parts are proper tells whether the workspace is well formed.
  pub sized-formed : {b : Bool} → words_due v n ≤ length ws → Words ws → Tells b (Proper (content_parts v n ws)) → Tells b (WellFormed ws)
  sized-formed due w = tells-map (λ p. formed-by ws (rw (← s.count, ← s.total) due) w (subst Proper sized-content p)) (λ f. subst Proper (sym sized-content) (formed-proper ws f))

-- A well formed workspace begins with sizes within their limits.
pub formed-sized : (ws : List ℕ) → WellFormed ws → Sized ws (get_or ws 0 0) (features (sizes_in ws))
formed-sized ws f = record { count = refl; room = omega (arith, formed-due ws f); limits = (formed-proper ws f).limits; taken = (formed-proper ws f).taken; total = refl }

-- ---- the sizes that words begin with

-- What a well formed workspace begins with.
pub formed-count : (ws : List ℕ) → WellFormed ws → (least_variables ≤ get_or ws 0 0) × (get_or ws 0 0 ≤ most_variables) × (start_at (get_or ws 0 0) ≤ length ws)
formed-count ws f = let s = formed-sized ws f in
    (omega (arith, s.limits.variables, sized-length ws _ _ s), omega (arith, s.limits.variables, sized-length ws _ _ s), s.room)

module _ (ws sizes : List ℕ) (q : sizes ≡ sizes_in ws) where
  pub no-sizes : (EachSize sizes (length sizes) → ⊥) → WellFormed ws → ⊥
  no-sizes d f = let s = formed-sized ws f in d (rw q (λ i l. (s.taken i l, (s.limits.each i l).1)))

  pub no-total : (n : ℕ) → n ≡ features sizes → most_features < n → WellFormed ws → ⊥
  no-total n e l f = omega (arith, (formed-sized ws f).limits.total, ap features q)

  module _ (few : least_variables ≤ get_or ws 0 0) (most : get_or ws 0 0 ≤ most_variables) (room : start_at (get_or ws 0 0) ≤ length ws) (each : EachSize sizes (length sizes)) where
    count : length sizes ≡ get_or ws 0 0
    unfolding sizes_in
    count = ap length q ∙ length_part sizes_at (get_or ws 0 0) ws room

    pub sizes-sized : (n : ℕ) → n ≡ features sizes → n ≤ most_features → Sized ws (get_or ws 0 0) n
    sizes-sized n e l = record { count = refl; room = room; limits = subst InLimits q within; taken = subst Taken q (λ i l. (each i l).0); total = e ∙ ap features q }
      where
        within : InLimits sizes
        within = record { variables = (omega (arith, count), omega (arith, count)); each = λ i l. (omega (arith, (each i l).0), (each i l).1); total = omega (arith, e) }
