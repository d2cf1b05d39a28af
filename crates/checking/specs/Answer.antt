-- The checker's answer in the words of the meaning, and that the verdict it comes to is the meaning's.
use Rattle.std.specs.Prelude.{ℕ, ◌+◌, ◌*◌, ◌<◌, ◌≡◌, ◌≢◌, Bool, true, false, cond, get_or, Option, Some, None}
use Rattle.std.proofs.Math.Path.{refl}
use Rattle.std.proofs.Common.{sym, ap, ◌∙◌, arith}
use mathlib.Core.List.{List, [], ◌++◌, Memᴰ as In}
use Rattle.std.proofs.Math.ListN.{length}
use borrow.Author.Tests.{lt-ltb}
use Rattle.meaning.specs.Limits.{word_bits}
use Rattle.meaning.specs.Sets.{◌⊕◌, Set, odd, shared, listed}
use Rattle.meaning.specs.Task as task
use Rattle.meaning.specs.Task.{Task, Run}
use Rattle.meaning.specs.Feature.{features, parity}
use Rattle.meaning.specs.Pair.{idle}
use Rattle.meaning.specs.Weight.{Allows}
use Rattle.meaning.specs.Number.{got}
use Rattle.meaning.specs.File.{Kind, operators_of, judged_weights_as, Acceptable}
use Rattle.meaning.specs.Workspace.{has, packed}
use Rattle.meaning.specs.Answer as meaning
use Rattle.meaning.specs.Answer.{Answer, done, refused, accepted, ends_alike, breaks, Judges}
use Rattle.theory.specs.Truth.{on, off, test, clash, xor-false-same, xor-true-differ}
use Rattle.theory.specs.Flat.{get_d-in, in-get_d}
use Rattle.theory.specs.Run.{run-outside}
use Rattle.theory.specs.Words.{length-packed, has-packed}
use Rattle.words.specs.Members.{run-has}
use Rattle.theory.specs.Parity.{dot-cong, odd-shared}
use Rattle.theory.specs.Finder.{difference, parity-difference}
use Rattle.words.specs.Parity.{shared-words}
use Rattle.theory.specs.Tells.{Tells, tells-no}
use Rattle.theory.specs.Rows.{allowed, tells-allows}
use Rattle.theory.specs.Accepted.{weights-accepted-as}
use Rattle.reader.specs.Answer.{feature_words}
use Rattle.condition.specs.Walk.{RowFor}
use Rattle.checking.specs.declared.Verdict.{Verdict}
use Rattle.checking.specs.declared.Verdict.TheVariants.{Accepted, EndsAlike, Operator, Refused}
use Rattle.checking.specs.Breaking.{breaking_from, breaking_among, behind, place_then, FirstBreaking, among_first, first_then, breaking-first}

abbrev pub verdict_of : Verdict → Answer meaning.Verdict
verdict_of Accepted = done accepted
verdict_of EndsAlike = done ends_alike
verdict_of (Operator j) = done (breaks j)
verdict_of (Refused n) = refused n

-- The verdict by the first operator that is not allowed, and by whether the ends differ.
abbrev pub verdict_at : Option ℕ → Verdict
verdict_at (Some j) = Operator j
verdict_at None = Accepted

abbrev pub verdict_by : Bool → Option ℕ → Verdict
verdict_by differ r = cond differ (verdict_at r) EndsAlike

-- The verdict on weights, where so many operators are read from a place on and others follow them.
unfoldable pub verdict_from : List ℕ → List ℕ → List ℕ → Set → Set → ℕ → List ℕ → ℕ → List task.Operator → Verdict
verdict_from sizes start goal pairs weights count bytes at follow =
    verdict_by (parity sizes weights start ⊕ parity sizes weights goal)
    (place_then count (breaking_from sizes pairs weights count bytes at) (breaking_among sizes pairs weights follow))

-- That on those that follow, where all before them are allowed.
unfoldable pub verdict_then : List ℕ → Set → Set → ℕ → List task.Operator → Verdict
verdict_then sizes pairs weights count follow = verdict_at (behind count (breaking_among sizes pairs weights follow))

-- ---- by what the code finds

module _ (sizes start goal : List ℕ) (pairs weights : Set) (count : ℕ) (bytes : List ℕ) (at : ℕ) (follow : List task.Operator) (differ : Bool)
    (ends : differ ≡ parity sizes weights start ⊕ parity sizes weights goal) where
  pub verdict-alike : differ ≡ false → EndsAlike ≡ verdict_from sizes start goal pairs weights count bytes at follow
  unfolding verdict_from
  verdict-alike e = rw (sym ends ∙ e) refl

  module _ (e : differ ≡ true) where
    pub verdict-breaks : (j : ℕ) → Some j ≡ breaking_from sizes pairs weights count bytes at → Operator j ≡ verdict_from sizes start goal pairs weights count bytes at follow
    unfolding verdict_from
    verdict-breaks j found = rw (sym ends ∙ e, ← found) refl

    pub verdict-follows : None ≡ breaking_from sizes pairs weights count bytes at → (r : Verdict) → r ≡ verdict_then sizes pairs weights count follow
        → r ≡ verdict_from sizes start goal pairs weights count bytes at follow
    unfolding verdict_from verdict_then
    verdict-follows found r then = then ∙ rw (sym ends ∙ e, ← found) refl

module _ (sizes : List ℕ) (pairs weights : Set) (count : ℕ) where
  pub then-breaks : (follow : List task.Operator) (k : ℕ) → breaking_among sizes pairs weights follow ≡ Some k → Operator (count + k) ≡ verdict_then sizes pairs weights count follow
  unfolding verdict_then
  then-breaks follow k e = rw e refl

  pub then-accepts : (follow : List task.Operator) → breaking_among sizes pairs weights follow ≡ None → Accepted ≡ verdict_then sizes pairs weights count follow
  unfolding verdict_then
  then-accepts follow e = rw e refl

  pub then-none : Accepted ≡ verdict_then sizes pairs weights count []
  unfolding breaking_among
  then-none = then-accepts [] refl

-- ---- the verdict is the meaning's

module _ (T : Task) (weights : Set) (ok : Acceptable T) where
  allows : (o : task.Operator) → In o T.operators → Tells (allowed T.sizes (listed T.pairs) weights o) (Allows T.sizes (listed T.pairs) weights o)
  allows o m = tells-allows T.sizes (listed T.pairs) weights o (ok.operators o m).entries

  -- An operator at a place, where it is not allowed.
  module _ (j : ℕ) (inside : j < length T.operators) (breaks : allowed T.sizes (listed T.pairs) weights (get_or T.operators j []) ≡ false) where
    abbrev there : task.Operator
    there = get_or T.operators j []

    forbidden : Allows T.sizes (listed T.pairs) weights there → ⊥
    forbidden = tells-no (allows there (get_d-in T.operators j [] inside)) breaks

    busy : idle T.sizes (listed T.pairs) there ≡ false
    busy = elim (test (idle T.sizes (listed T.pairs) there)) [ on e ↦ absurd (forbidden (λ b. absurd (clash e b))) | off e ↦ e ]

  judged-by : (r : Option ℕ) → FirstBreaking T.sizes (listed T.pairs) weights T.operators r
      → (v : meaning.Verdict) × (verdict_of (verdict_by (parity T.sizes weights T.start ⊕ parity T.sizes weights T.goal) r) ≡ done v) × Judges T weights v
  judged-by r first = elim (test (parity T.sizes weights T.start ⊕ parity T.sizes weights T.goal)) [
    | off e ↦ (ends_alike, rw e refl, xor-false-same _ _ e)
    | on e ↦ rw e (differing r first (xor-true-differ _ _ e))
  ]
    where
      differing : (r : Option ℕ) → FirstBreaking T.sizes (listed T.pairs) weights T.operators r → parity T.sizes weights T.start ≢ parity T.sizes weights T.goal
          → (v : meaning.Verdict) × (verdict_of (verdict_at r) ≡ done v) × Judges T weights v
      differing (Some j) (inside, earlier, here) ends = (
        breaks j,
        refl,
        record {
          ends = ends;
          counted = inside;
          busy = busy j inside here;
          broken = λ k. forbidden j inside here (λ _. k);
          earlier = λ i l. (allows _ (get_d-in T.operators i [] (omega arith))).yes (earlier i l);
        },
      )
      differing None all ends = (accepted, refl, record { ends = ends; keeps = λ o m. kept o m })
        where
          kept : (o : task.Operator) → In o T.operators → Allows T.sizes (listed T.pairs) weights o
          kept o m = let (i, l, e) = in-get_d T.operators o [] m in (allows o m).yes (ap (allowed T.sizes (listed T.pairs) weights) (sym e) ∙ all i l)

  -- Where some were read from a file, and the others follow.
  pub verdict-judges : (os follow : List task.Operator) → T.operators ≡ os ++ follow → (bytes : List ℕ) (at next : ℕ) → operators_of T.sizes (length os) bytes at ≡ got os next
      → (v : meaning.Verdict) × (verdict_of (verdict_from T.sizes T.start T.goal (listed T.pairs) weights (length os) bytes at follow) ≡ done v) × Judges T weights v
  unfolding verdict_from
  verdict-judges os follow e bytes at next read =
      let first = first_then T.sizes (listed T.pairs) weights os follow _ _ (breaking-first T.sizes (listed T.pairs) weights bytes at os next read)
      (among_first T.sizes (listed T.pairs) weights follow) in
      judged-by _ (rw e first)

-- ---- the ends

module _ (sizes start goal weights row : List ℕ) (h : RowFor (features sizes) weights) (e : row ≡ packed (features sizes) (difference sizes start goal)) where
  pub ends-long : length weights ≡ length row
  ends-long = omega (arith, h.long, ap length e, length-packed (features sizes) (difference sizes start goal))

  -- The weights meet the row of the difference oddly where the parities differ.
  pub ends-odd : odd (shared (word_bits * length weights) (has weights) (has row)) ≡ parity sizes (has weights) start ⊕ parity sizes (has weights) goal
  ends-odd =
      ap odd (shared-words (features sizes) weights (has row) h.long h.past) ∙ odd-shared (features sizes) (has weights) (has row)
      ∙ dot-cong (features sizes) (has weights) (has row) (difference sizes start goal) (λ f l. rw (e, has-packed (features sizes) (difference sizes start goal) f, lt-ltb f _ l) refl)
      ∙ sym (parity-difference sizes start goal (has weights))

-- ---- weights that were read

module _ (kind : Kind) (n : ℕ) (bytes ws : List ℕ) (end : ℕ) (read : judged_weights_as kind n bytes ≡ got ws end) where
  run : Run 0 ws n
  run = weights-accepted-as bytes kind n ws end read

  pub weights-has : has (feature_words n ws) ≡ listed ws
  weights-has = run-has 0 n ws run

  pub weights-for : RowFor n (feature_words n ws)
  weights-for = record { long = length-packed n (listed ws); past = λ f l. ap (λ s. s f) weights-has ∙ run-outside 0 n ws f run (λ j k. omega arith) }
