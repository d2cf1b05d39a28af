-- How a list of features is judged, that an accepted list is a run, and what comes of writing it.
use Rattle.std.specs.Prelude.{ℕ, suc, ◌+◌, ◌*◌, ◌<◌, ◌≤◌, ◌≡◌, refl, List, [], ◌∷◌, length, get_or, take, drop, leb, ltb}
use Rattle.std.proofs.Common.{sym, ◌∙◌, arith, drop_of_length-le, drop-cons, take_at, ltb-true, ltb-false, leb-true, lt-ltb, le-ltb, le-leb}
use Rattle.std.proofs.Math.Path.{ap}
use Rattle.std.proofs.Math.Numerals.{add-one}
use Rattle.std.proofs.lemmas.Bool.{lt-leb}
use Rattle.meaning.specs.Limits.{most_features, most_groups}
use Rattle.meaning.specs.Number.{Reason, Range, Unordered, Small, refusal, got, number_bytes}
use Rattle.meaning.specs.Task.{Run}
use Rattle.meaning.specs.File.{weight_bytes, judged_weights}
use Rattle.meaning.specs.Answer.{Judged, fine, faulty, need, done, refused, refuses, delivered}
use Rattle.theory.specs.Flat.{get_d-in}
use Rattle.theory.specs.Truth.{on, off, test}
use Rattle.theory.specs.NumberBack.{number-bytes-length}
use Rattle.theory.specs.ReadBack.{weights-back}
use Rattle.theory.specs.Operands.{need-fine}
use Rattle.theory.specs.Run.{run_none, run_more, run_length, run_in}
use Rattle.writer.specs.Parts.{Countable}
use Rattle.writer.specs.Widths.{counted-length, numbers-few}
use Rattle.writer.specs.Remains.{delivered-small, delivered-whole}
use Rattle.writer.specs.Weights.{weights_judged, weights_written}

-- ---- a list is judged in the steps of the code

module _ (weights : List ℕ) (i least : ℕ) where
  judged-step : i < length weights → weights_judged least (drop i weights)
      ≡ need (ltb (get_or weights i 0) most_features) Range (need (leb least (get_or weights i 0)) Unordered (weights_judged (get_or weights i 0 + 1) (drop (i + 1) weights)))
  unfolding weights_judged
  judged-step h = rw (add-one (get_or weights i 0), add-one i) (ap (weights_judged least) (drop-cons weights i 0 h))

  pub judged-outside : i < length weights → most_features ≤ get_or weights i 0 → weights_judged least (drop i weights) ≡ faulty Range
  judged-outside h l = rw (le-ltb (get_or weights i 0) most_features l) at (judged-step h)

  pub judged-unordered : i < length weights → get_or weights i 0 < most_features → get_or weights i 0 < least → weights_judged least (drop i weights) ≡ faulty Unordered
  judged-unordered h l o = rw (lt-ltb (get_or weights i 0) most_features l, lt-leb least (get_or weights i 0) o) at (judged-step h)

  pub judged-more : i < length weights → get_or weights i 0 < most_features → least ≤ get_or weights i 0
      → weights_judged least (drop i weights) ≡ weights_judged (get_or weights i 0 + 1) (drop (i + 1) weights)
  judged-more h l o = rw (lt-ltb (get_or weights i 0) most_features l, le-leb least (get_or weights i 0) o) at (judged-step h)

  pub judged-none : length weights ≤ i → weights_judged least (drop i weights) ≡ fine
  unfolding weights_judged
  judged-none h = ap (weights_judged least) (drop_of_length-le weights h)

-- ---- accepted lists of features

-- A list with no fault is a run, and each run has no fault.
pub fine-run : (least : ℕ) (weights : List ℕ) → least ≤ most_features → weights_judged least weights ≡ fine → Run least weights most_features
unfolding weights_judged
fine-run least [] h e = run_none least most_features h
fine-run least (f ∷ fs) h e =
    let (inside, e₁) = need-fine _ _ _ e in
    let (above, e₂) = need-fine _ _ _ e₁ in
    run_more least most_features f fs (leb-true least f above) (fine-run (suc f) fs (ltb-true f most_features inside) e₂)

-- A list with no fault can be written.
pub fine-countable : (weights : List ℕ) → weights_judged 0 weights ≡ fine → Countable weights
fine-countable weights e =
    let run = fine-run 0 weights (omega arith) e in
    (omega (arith, run_length 0 most_features weights run), λ i h. omega (arith, run_in 0 most_features weights (get_or weights i 0) run (get_d-in weights i 0 h)))

-- And its file is short.
pub fine-few : (weights : List ℕ) → weights_judged 0 weights ≡ fine → length (weight_bytes weights) ≤ most_groups * suc most_features
unfolding weight_bytes
fine-few weights e =
    omega (arith, run_length 0 most_features weights (fine-run 0 weights (omega arith) e), counted-length number_bytes weights, number-bytes-length (length weights), numbers-few weights)

-- ---- the outcome of writing a weight file

pub weights-refused : (weights room : List ℕ) (reason : Reason) → weights_judged 0 weights ≡ faulty reason → weights_written weights room ≡ refuses reason room
unfolding weights_written
weights-refused weights room reason e = rw e

pub weights-delivered : (weights room : List ℕ) → weights_judged 0 weights ≡ fine → weights_written weights room ≡ delivered (weight_bytes weights) room
unfolding weights_written
weights-delivered weights room e = rw e

-- A weight file that was written is read back as its list, from the first bytes of the room.
pub written_back : (weights room : List ℕ) (n : ℕ) → (weights_written weights room).answer ≡ done n
    → Run 0 weights most_features × (judged_weights most_features (take n (weights_written weights room).lent) ≡ got weights n)
written_back weights room n d = by (weights_judged 0 weights) refl
  where
    file : List ℕ
    file = weight_bytes weights

    not-refused : (reason : Reason) → weights_written weights room ≡ refuses reason room → ⊥
    not-refused reason e = let p : refused (refusal reason) ≡ done n = sym (ap (λ o. o.answer) e) ∙ d in let z : ◌≡◌ {A = ℕ} 0 1 = cc in omega arith

    by : (j : Judged) → weights_judged 0 weights ≡ j
        → Run 0 weights most_features × (judged_weights most_features (take n (weights_written weights room).lent) ≡ got weights n)
    by (faulty reason) e = absurd (not-refused reason (weights-refused weights room reason e))
    by fine e = elim (test (ltb (length room) (length file))) [
      | on s ↦ absurd (not-refused Small (weights-delivered weights room e ∙ delivered-small file room (ltb-true (length room) (length file) s)))
      | off s ↦
          let r = fine-run 0 weights (omega arith) e in
          let w = weights-delivered weights room e ∙ delivered-whole file room (ltb-false (length room) (length file) s) in
          let q : n ≡ length file = let p : done (length file) ≡ done n = sym (ap (λ o. o.answer) w) ∙ d in cc in
          (r, rw (w, q, take_at file (drop (length file) room) (length file) refl) (weights-back most_features weights (omega arith) r))
    ]
