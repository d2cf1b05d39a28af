-- Lots that are compared label by label.
use Rattle.std.specs.Prelude.{ℕ, ◌<◌, ◌≡◌, ◌≢◌, Bool, true, false, List, length}
use Rattle.std.specs.Bool.{MatchBool}
use Rattle.std.specs.List.{range_with_len, AllWithin, HoldsAt}
use Rattle.std.proofs.Common.{sym, arith, zero-add, eq-eqb, ne_eqb}
use Rattle.std.proofs.lemmas.List.FromFn.{length-range_with_len, get_or-range_with_len}
use Rattle.std.proofs.Math.Dec.{eqb}
use Rattle.meaning.specs.Bay.{occurrences, equal_lots}
use Rattle.theory.specs.Search.{every-each, every-not}

module _ (start goal : List ℕ) where
  -- A label stands as often in both lists, or not.
  abbrev pub Alike : ℕ → Type 0
  Alike label = occurrences label start ≡ occurrences label goal

  abbrev pub Unlike : ℕ → Type 0
  Unlike label = occurrences label start ≢ occurrences label goal

  -- What a walk over the labels below n tells: all are alike, or one is not.
  pub equal-told : (n : ℕ) (told : Bool) → let labels = range_with_len 0 n in
      MatchBool told (AllWithin Alike labels 0 (length labels)) ((k : ℕ) × (k < length labels) × HoldsAt Unlike labels k) → told ≡ equal_lots n start goal
  unfolding equal_lots
  equal-told n true each =
      sym (every-each n _ (λ i l. let known : Alike i = rw (get_or-range_with_len 0 n i 0 l, zero-add) at (each i 0 (omega arith) (omega (arith, length-range_with_len 0 n))) in
      eq-eqb (occurrences i start) (occurrences i goal) known))
  equal-told n false (k, l, differs) =
      let below : k < n = omega (arith, l, length-range_with_len 0 n) in
      let known : Unlike k = rw (get_or-range_with_len 0 n k 0 below, zero-add) at (differs 0) in
      sym (every-not n (λ label. eqb (occurrences label start) (occurrences label goal)) k below (ne_eqb (occurrences k start) (occurrences k goal) known))
