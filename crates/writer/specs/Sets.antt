-- The weight file of a set of features in words: 3 where a feature is out of range, and otherwise 8 or the file; 4 is never given.
use Rattle.std.specs.Prelude.{ℕ, suc, ◌+◌, ◌*◌, ◌≤◌, ◌≡◌, refl, ◌⊎◌, false, List, [], ◌∷◌, ltb, length, drop}
use Rattle.std.proofs.Common.{sym, ap, ◌∙◌, inl, inr, arith, lt-ltb, le-leb}
use Rattle.meaning.specs.Limits.{most_features, word_bits}
use Rattle.meaning.specs.Number.{Range}
use Rattle.meaning.specs.Task.{Run}
use Rattle.meaning.specs.Workspace.{words_for, has}
use Rattle.meaning.specs.File.{plain, weight_bytes, weight_bytes_as}
use Rattle.meaning.specs.Answer.{fine, faulty, refuses, delivered}
use Rattle.theory.specs.Truth.{on, off, test}
use Rattle.theory.specs.ReadBack.{plain-weights}
use Rattle.theory.specs.Run.{run-first, run-rest, run_length, run-outside, run-members}
use Rattle.words.specs.Part.{has-past, has-drop}
use Rattle.words.specs.Next.{Empty}
use Rattle.words.specs.Members.{members_in, members-below, listed-in-words}
use Rattle.writer.specs.Parts.{FewWords}
use Rattle.writer.specs.Weights.{weights_judged, weights_written}
use Rattle.writer.specs.Judging.{fine-run, weights-refused, weights-delivered}

-- As many words as the most features fill.
abbrev pub most_words : ℕ
most_words = words_for most_features

-- Each feature is in the range of a weight file: below the most features.
abbrev pub InRange : List ℕ → Type 0
InRange words = (f : ℕ) → most_features ≤ f → has words f ≡ false

-- ---- lists that increase

run-fine : (least : ℕ) (l : List ℕ) → Run least l most_features → weights_judged least l ≡ fine
unfolding weights_judged
run-fine least [] r = refl
run-fine least (f ∷ fs) r =
    let rest = run-rest least most_features f fs r in
    rw (lt-ltb f most_features (omega (arith, run_length (suc f) most_features fs rest)), le-leb least f (run-first least most_features f fs r)) (run-fine (suc f) fs rest)

run-judged : (least hi : ℕ) (l : List ℕ) → Run least l hi → (weights_judged least l ≡ fine) ⊎ (weights_judged least l ≡ faulty Range)
unfolding weights_judged
run-judged least hi [] r = inl refl
run-judged least hi (f ∷ fs) r = elim (test (ltb f most_features)) [
  | on e ↦ rw (e, le-leb least f (run-first least hi f fs r)) (run-judged (suc f) hi fs (run-rest least hi f fs r))
  | off e ↦ rw e (inr refl)
]

-- ---- the features of words

module _ (words : List ℕ) where
  pub in-range-fine : InRange words → weights_judged 0 (members_in words) ≡ fine
  in-range-fine h = run-fine 0 (members_in words) (rw (← members-below most_features words h) (run-members most_features (has words)))

  fine-in-range : weights_judged 0 (members_in words) ≡ fine → InRange words
  fine-in-range e f l = sym (listed-in-words words f) ∙ run-outside 0 most_features (members_in words) f (fine-run 0 (members_in words) (omega arith) e) (λ j k. omega arith)

  set-judged : (weights_judged 0 (members_in words) ≡ fine) ⊎ (weights_judged 0 (members_in words) ≡ faulty Range)
  set-judged = run-judged 0 (word_bits * length words) (members_in words) (run-members (word_bits * length words) (has words))

  pub outside-range : (InRange words → ⊥) → weights_judged 0 (members_in words) ≡ faulty Range
  outside-range d = elim set-judged [ inl e ↦ absurd (d (fine-in-range e)) | inr e ↦ e ]

  -- What weight_file(words, room) comes to: 3 exactly where a feature is out of range; otherwise 8 or the file, by the room.
  pub set-written : (room : List ℕ) → (InRange words × (weights_written (members_in words) room ≡ delivered (weight_bytes (members_in words)) room))
      ⊎ ((InRange words → ⊥) × (weights_written (members_in words) room ≡ refuses Range room))
  set-written room = elim set-judged [
    | inl e ↦ inl (fine-in-range e, weights-delivered (members_in words) room e)
    | inr e ↦ inr (λ h. not-both (sym (in-range-fine h) ∙ e), weights-refused (members_in words) room Range e)
  ]
    where
      not-both : fine ≡ faulty Range → ⊥
      not-both q = let z : ◌≡◌ {A = ℕ} 0 1 = cc in omega arith

  pub few-in-range : FewWords words → InRange words
  few-in-range h f l = has-past words f (omega arith)

  -- Nothing stands in the words behind the most.
  pub in-range-behind : InRange words → Empty (drop most_words words)
  in-range-behind h f = has-drop most_words words f ∙ h (most_words * word_bits + f) (omega arith)

  -- Few words have no feature out of range, so the room decides.
  pub set-delivered : FewWords words → (room : List ℕ) → delivered (weight_bytes_as plain (members_in words)) room ≡ weights_written (members_in words) room
  set-delivered few room = ap (λ file. delivered file room) (plain-weights (members_in words)) ∙ sym (weights-delivered (members_in words) room (in-range-fine (few-in-range few)))
