-- The partial file of a task and marks: it is in order, and meets its goal where the task's goal has the values that are named.
use Rattle.std.specs.Prelude.{ℕ, ◌<◌, ◌≤◌, ◌≡◌, ◌↔◌, ◌&&◌, List, leb, replicate}
use Rattle.std.proofs.Math.Path.{refl, sym}
use Rattle.std.proofs.Common.{◌∙◌, arith}
use Rattle.std.proofs.Math.Bool.{true, cond}
use Rattle.std.proofs.Math.Dec.{eqb}
use Rattle.std.proofs.Math.ListN.{length}
use Rattle.std.proofs.lemmas.List.{length-replicate, get_or-replicate}
use borrow.Author.Tests.{eqb-true, eq-eqb, leb-true, lt-ltb, le-ltb}
use Rattle.meaning.specs.Sets.{table, all_of}
use Rattle.meaning.specs.Limits.{most_partial_size, most_features}
use Rattle.meaning.specs.Task.{Task, value, size}
use Rattle.meaning.specs.Feature.{features}
use Rattle.meaning.specs.Number.{Outgrown}
use Rattle.meaning.specs.File.{Acceptable}
use Rattle.meaning.specs.Answer.{fine}
use Rattle.meaning.specs.Partial.{Ordered, named, MeetsGoal, Reaches, Met, built_sizes, silenced, marks_judged}
use Rattle.theory.specs.Truth.{on, off, test}
use Rattle.theory.specs.Search.{and_left, and_right, all-at}
use Rattle.theory.specs.Flat.{length-table, get_d-table, get_d-in}
use Rattle.theory.specs.Operands.{need-fine, values-fine}
use Rattle.theory.specs.PartialPairs.{built-length, built-size}

-- Marks that are found fine: one for each variable, each 0 or 1, for a task within the partial file's own limits.
pub record FineMarks (T : Task) (marks : List ℕ) : Type 0 where
  pub full : length marks ≡ length T.sizes
  pub each : (i : ℕ) → i < length T.sizes → value marks i < 2
  pub small : (i : ℕ) → i < length T.sizes → size T.sizes i ≤ most_partial_size
  pub total : features (built_sizes T.sizes) ≤ most_features

pub marks-fine : (T : Task) (marks : List ℕ) → marks_judged T marks ≡ fine → FineMarks T marks
unfolding marks_judged
marks-fine T marks e =
    let ds = T.sizes in
    let v = length ds in
    let (long, e₁) = need-fine _ _ _ e in
    let full : length marks ≡ length {A = ℕ} (replicate v 2) = eqb-true (length marks) v long ∙ sym (length-replicate {A = ℕ} v 2) in
    let (each, e₂) = values-fine (replicate v 2) marks _ full e₁ in
    let (limits, _) = need-fine (all_of (λ d. leb d most_partial_size) ds && leb (features (built_sizes ds)) most_features) Outgrown fine e₂ in
    record {
      full = eqb-true (length marks) v long;
      each = λ i l. rw (get_or-replicate {A = ℕ} v i 2 0 l) at (each i (rw (length-replicate {A = ℕ} v 2) l));
      small = λ i l. leb-true _ _ (all-at _ ds (and_left (all_of (λ d. leb d most_partial_size) ds) _ limits) _ (get_d-in ds i 0 l));
      total = leb-true _ _ (and_right (all_of (λ d. leb d most_partial_size) ds) _ limits);
    }

-- A state is reached by a task's moves that has the task's goal value wherever the mark is 1.
abbrev pub MetWhere : Task → List ℕ → Type 0
MetWhere T marks = (state : List ℕ) × Reaches T.operators T.start state × ((i : ℕ) → i < length T.sizes → value marks i ≡ 1 → value state i ≡ value T.goal i)

module _ (T : Task) (marks : List ℕ) (ok : Acceptable T) where
  -- The mark says whether a variable is named.
  pub silenced-named : (i : ℕ) → i < length T.sizes → named (silenced T marks) i ≡ eqb (value marks i) 1
  unfolding named silenced
  silenced-named i l = rw (get_d-table (length T.sizes) (λ k. cond (eqb (value marks k) 1) (value T.goal k) (size T.sizes k)) i 0 l) (elim (test (eqb (value marks i) 1)) [
    | on e ↦ rw e (lt-ltb _ _ (ok.goal.values i l))
    | off e ↦ rw e (le-ltb (size T.sizes i) (size T.sizes i) (omega arith))
  ])

  -- A state meets the order exactly when it has the task's goal value wherever the mark is 1.
  pub silenced-meets : (state : List ℕ) → MeetsGoal (silenced T marks) state ↔ ((i : ℕ) → i < length T.sizes → value marks i ≡ 1 → value state i ≡ value T.goal i)
  unfolding silenced
  silenced-meets state = (
    λ h i l e. h i l (silenced-named i l ∙ eq-eqb _ _ e) ∙ goal-there i l (eq-eqb _ _ e),
    λ h i l q. let e = sym (silenced-named i l) ∙ q in h i l (eqb-true _ _ e) ∙ sym (goal-there i l e),
  )
    where
      goal-there : (i : ℕ) → i < length T.sizes → eqb (value marks i) 1 ≡ true
          → value (table (length T.sizes) (λ k. cond (eqb (value marks k) 1) (value T.goal k) (size T.sizes k))) i ≡ value T.goal i
      goal-there i l e = get_d-table (length T.sizes) (λ k. cond (eqb (value marks k) 1) (value T.goal k) (size T.sizes k)) i 0 l ∙ rw e refl

  -- So it is met exactly when the task's own moves meet it.
  pub silenced-met : Met (silenced T marks) ↔ MetWhere T marks
  unfolding silenced
  silenced-met = (
    λ h. let (state, reached, meets) = h in (state, reached, (silenced-meets state).0 meets),
    λ h. let (state, reached, meets) = h in (state, reached, (silenced-meets state).1 meets),
  )

  pub silenced-ordered : ((i : ℕ) → i < length T.sizes → size T.sizes i ≤ most_partial_size) → features (built_sizes T.sizes) ≤ most_features → Ordered (silenced T marks)
  unfolding silenced
  silenced-ordered small few = record {
    variables = ok.limits.variables;
    each = λ i l. ((ok.limits.each i l).0, small i l);
    total = few;
    start = ok.start;
    goal = record {
      full = length-table (length T.sizes) _ ∙ sym (built-length T.sizes);
      values = λ i k. let l : i < length T.sizes = rw (built-length T.sizes) at k in
          rw (built-size T.sizes i l, get_d-table (length T.sizes) (λ k. cond (eqb (value marks k) 1) (value T.goal k) (size T.sizes k)) i 0 l) (elim (test (eqb (value marks i) 1)) [
            | on e ↦ rw e (omega (arith, ok.goal.values i l))
            | off e ↦ rw e (omega arith)
          ]);
    };
    pairs = ok.pairs;
    operators = ok.operators;
  }

-- So what is written for them is in order.
pub marks-ordered : (T : Task) (marks : List ℕ) → Acceptable T → marks_judged T marks ≡ fine → Ordered (silenced T marks)
marks-ordered T marks ok e = let h = marks-fine T marks e in silenced-ordered T marks ok h.small h.total
