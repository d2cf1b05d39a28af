-- The goal of a partial task file as the code reads it, over the marks: what is still to be read, after each turn, goes into the words as they are then.
use Rattle.std.specs.Prelude.{ℕ, suc, ◌+◌, ◌<◌, ◌≤◌, ◌≡◌, refl, ◌≢◌, Result, cond, List, [], ◌∷◌, eqb, get_or, set, take, drop}
use Rattle.std.proofs.Common.{sym, ap, ◌∙◌, arith, length-set, drop_of_length-le, eq-eqb, ne_eqb}
use Rattle.std.proofs.Math.Numerals.{add-one}
use Rattle.std.proofs.Math.ListN.{length}
use Rattle.std.proofs.lemmas.List.Edits.{sets}
use Rattle.std.proofs.Math.Seq.{drop-cons, get_or-take, get_or-drop}
use Rattle.meaning.specs.Number.{Range, got}
use Rattle.meaning.specs.File.{Parser, give, inside, item}
use Rattle.meaning.specs.Workspace.{sizes_at, goal_at, pairs_at}
use Rattle.meaning.specs.Partial.{goal_of}
use Rattle.theory.specs.Reading.{on-got, got-value}
use Rattle.layout.specs.Parts.{sizes_part, goal_part, length_part}
use Rattle.number.specs.Laws.{sets-all}
use Rattle.number.specs.declared.Fault.{Fault}
use Rattle.reader.specs.Answer.{written, ReadsInto, reads_same, placed}
use Rattle.reader.specs.Lists.{Splits, Unread, apart-same, apart-behind, unread-all, unread-set}

-- A goal value by the variable's size and mark.
unfoldable pub value_by : ℕ → ℕ → Parser ℕ
value_by size mark = cond (eqb mark 1) (item (inside 0 size) Range) (give size)

module _ (size mark : ℕ) (bytes : List ℕ) (place : ℕ) where
  pub value-named : mark ≡ 1 → value_by size mark bytes place ≡ item (inside 0 size) Range bytes place
  unfolding value_by
  value-named e = rw (eq-eqb mark 1 e)

  pub value-silent : mark ≢ 1 → value_by size mark bytes place ≡ got size place
  unfolding value_by
  value-silent e = rw (ne_eqb mark 1 e)

-- As many values are read as there are variables.
goal-long : (sizes marks : List ℕ) → length marks ≡ length sizes → (bytes : List ℕ) (place : ℕ) (goal : List ℕ) (next : ℕ) → goal_of sizes marks bytes place ≡ got goal next
    → length goal ≡ length sizes
unfolding goal_of
goal-long [] marks e bytes place goal next r = ap length (sym (got-value r))
goal-long (d ∷ ds) [] e bytes place goal next r = absurd (omega arith)
goal-long (d ∷ ds) (m ∷ ms) e bytes place goal next r =
    let (x, middle, p, q) = on-got (cond (eqb m 1) (item (inside 0 d) Range) (give d) bytes place) _ goal next r in
    let (xs, after, s, t) = on-got (goal_of ds ms bytes middle) _ goal next q in
    ap length (sym (got-value t)) ∙ ap suc (goal-long ds ms (omega arith) bytes middle xs after s)

-- Words in which the sizes, and the marks from number i on, are as they were.
pub record Kept (old : List ℕ) (v goal i : ℕ) (new : List ℕ) : Type 0 where
  pub long : length new ≡ length old
  pub sizes : Unread sizes_at v i old new
  pub marks : Unread goal v i old new

module _ (old : List ℕ) (v goal : ℕ) (is : goal ≡ goal_at v) (room : pairs_at v ≤ length old) where
  abbrev marked : List ℕ
  marked = take v (drop goal old)

  sizes-length : length (sizes_part v old) ≡ v
  sizes-length = length_part sizes_at v old (omega arith)

  marks-length : length marked ≡ v
  marks-length = length_part goal v old (omega arith)

  -- Values are written behind the sizes, each over its own mark.
  pub kept-all : Kept old v goal 0 old
  kept-all = record {
    long = refl;
    sizes = unread-all old sizes_at goal v (omega arith) (omega arith) (apart-behind sizes_at goal v (omega arith)) 0 Range;
    marks = unread-all old goal goal v (omega arith) (omega arith) (apart-same goal v) 0 Range;
  }

  pub kept_set : (i n : ℕ) (new : List ℕ) → Kept old v goal i new → Kept old v goal (i + 1) (set new (goal + i) n)
  kept_set i n new kept = record {
    long = length-set new (goal + i) n ∙ kept.long;
    sizes = unread-set old sizes_at goal v (omega arith) (omega arith) (apart-behind sizes_at goal v (omega arith)) 0 Range i n new kept.sizes;
    marks = unread-set old goal goal v (omega arith) (omega arith) (apart-same goal v) 0 Range i n new kept.marks;
  }

  -- Of the values that are still to be read, the first.
  pub first-value : (new : List ℕ) (i : ℕ) → i < v → Kept old v goal i new
      → Splits (goal_of (drop i (sizes_part v old)) (drop i marked)) (value_by (get_or new (sizes_at + i) 0) (get_or new (goal + i) 0)) (λ _. goal_of (drop (i + 1) (sizes_part v old)) (drop (i + 1) marked))
  unfolding Unread goal_of value_by
  first-value new i more kept = record {
    by = rw (drop-cons (sizes_part v old) i 0 (omega (arith, sizes-length)), drop-cons marked i 0 (omega (arith, marks-length)), add-one, kept.sizes i (omega arith) more, kept.marks i (omega arith) more) (
        rw (get_or-take v (drop sizes_at old) i 0 more, get_or-drop sizes_at old i 0, get_or-take v (drop goal old) i 0 more, get_or-drop goal old i 0) refl);
  }

  pub values-none : (bytes new : List ℕ) (i place next : ℕ) → v ≤ i → placed (goal_of (drop i (sizes_part v old)) (drop i marked) bytes next) (sets new place) ≡ got new next
  unfolding goal_of
  values-none bytes new i place next h = let past : length (sizes_part v old) ≤ i = omega (arith, sizes-length) in rw (drop_of_length-le (sizes_part v old) past)

  pub values-written : (bytes : List ℕ) (place : ℕ) (answer : Result ℕ Fault) (left : List ℕ) → ReadsInto (goal_of (sizes_part v old) marked bytes place) (sets old goal) answer left
      → ReadsInto (goal_of (sizes_part v old) (goal_part v old) bytes place) (written old (goal_at v)) answer left
  values-written bytes place answer left read = rw (← is) (
      reads_same (goal_of (sizes_part v old) marked bytes place) (sets old goal) (written old goal) answer left
      (λ values next r. sets-all old goal _ values refl (omega (arith, sizes-length, goal-long (sizes_part v old) marked (marks-length ∙ sym sizes-length) bytes place values next r))) read)
