-- Opening a task file and finding in its workspace gives the program's answer.
use Rattle.std.specs.Prelude.{ℕ, suc, ◌+◌, ◌-◌, ◌*◌, ◌<◌, ◌≤◌, ◌≡◌, refl, List, ◌++◌, Result, Ok, Err, ltb, length, drop, replicate}
use Rattle.std.proofs.Math.Path.{sym, ap, subst, fun_ext}
use Rattle.std.proofs.Common.{◌∙◌, inl, inr, arith, mul-le-mul, ltb-true, ltb-false, lt-ltb, le-ltb}
use Rattle.std.proofs.lemmas.List.{length-replicate}
use Rattle.meaning.specs.Limits.{most_variables, most_program_features, most_input, word_bits}
use Rattle.meaning.specs.Sets.{Set, listed}
use Rattle.meaning.specs.Task.{Task, Run}
use Rattle.meaning.specs.Feature.{features}
use Rattle.meaning.specs.Weight.{Separates, LeastOf}
use Rattle.meaning.specs.Number.{Reason, Small, refusal, Read, got, fault}
use Rattle.meaning.specs.File.{judged_task}
use Rattle.meaning.specs.Workspace.{words_for, words_due, has, packed, Content}
use Rattle.meaning.specs.Answer.{Answer, done, refused, Outcome, refuses, Opens, Finding, FindsBy, Finds}
use Rattle.meaning.specs.Line.{Found as Answered, separating, nothing, Seeks, Prints}
use Rattle.theory.specs.Truth.{on, off, test}
use Rattle.theory.specs.Run.{members, run-members, listed-members}
use Rattle.theory.specs.Cut.{cut, cut_below, separates-cut}
use Rattle.theory.specs.Whole.{whole-cong}
use Rattle.theory.specs.Words.{has-packed}
use Rattle.theory.specs.Accepted.{accepted}
use Rattle.theory.specs.Histories.{opened-stands, stands-formed, stands-content}
use Rattle.theory.specs.Demands.{none_said, least-given}
use Rattle.words.specs.Part.{has-front, has-back, has-drop, has-none, has-past}
use Rattle.words.specs.Members.{members_in, listed-in-words, members-same}
use Rattle.number.specs.Answers.{reason_of}
use Rattle.number.specs.declared.Reason as declared
use Rattle.finding.specs.Found.{found_of}
use Rattle.finding.specs.declared.Found.{Found}
use Rattle.finding.specs.declared.Found.TheVariants.{Separated, Nothing}
use Rattle.line.specs.Answer.{sought_of}

-- ---- how many words are due

-- The words of the largest workspace that the program takes, and of weights for its features.
abbrev pub most_due : ℕ
most_due = words_due most_variables most_program_features

abbrev pub weight_words : ℕ
weight_words = words_for most_program_features

-- A workspace needs more words than that exactly when there are too many features.
due-fits : (v n : ℕ) → v ≤ most_variables → n ≤ most_program_features → words_due v n ≤ most_due
due-fits v n h k = let words : words_for n ≤ weight_words = omega arith in omega (arith, mul-le-mul k words)

due-exceeds : (v n : ℕ) → most_program_features < n → most_due < words_due v n
due-exceeds v n h = let words : suc weight_words ≤ words_for n = omega arith in omega (arith, mul-le-mul h words)

-- ---- what the words of the weights list

-- Zeros behind words add no member.
zeros-behind : (l : List ℕ) (k f : ℕ) → has (l ++ drop (length l) (replicate k 0)) f ≡ has l f
zeros-behind l k f = elim (test (ltb f (word_bits * length l))) [
  | on e ↦ has-front l _ f (ltb-true _ _ e)
  | off e ↦
      let there : length l * word_bits + (f - length l * word_bits) ≡ f = omega (arith, ltb-false f (word_bits * length l) e) in
      subst (λ g. has (l ++ drop (length l) (replicate k 0)) g ≡ has l g) there (past (f - length l * word_bits))
]
  where
    past : (g : ℕ) → has (l ++ drop (length l) (replicate k 0)) (length l * word_bits + g) ≡ has l (length l * word_bits + g)
    past g = has-back l _ g ∙ has-drop (length l) (replicate k 0) g ∙ has-none k _ ∙ sym (has-past l _ (omega arith))

-- Weights of n features in the first of words that were zeros.
module _ (n k : ℕ) (w : Set) (words : List ℕ) (e : words ≡ packed n w ++ drop (length (packed n w)) (replicate k 0)) where
  -- The features that the words hold are the weights below n.
  listed-weights : listed (members_in words) ≡ cut n w
  unfolding cut
  listed-weights = fun_ext (λ f. listed-in-words words f ∙ ap (λ l. has l f) e ∙ zeros-behind (packed n w) k f ∙ has-packed n w f)

  weights-run : Run 0 (members_in words) n
  unfolding cut
  weights-run = subst (λ l. Run 0 l n) same (run-members n w)
    where
      same : members n w ≡ members_in words
      same = members-same n w words (λ f. listed-members n w f ∙ sym (ap (λ a. a f) listed-weights) ∙ listed-in-words words f)

  least-weights : (T : Task) → n ≡ features T.sizes → LeastOf n (Separates T) w → Seeks T (separating (members_in words))
  least-weights T q best = (
    subst (Run 0 _) q weights-run,
    record {
      good = rw (listed-weights, q) (separates-cut T w best.good);
      least = λ other s. rw (listed-weights, ← q, whole-cong n (cut n w) w (cut_below n w)) (best.least other s);
    },
  )

-- ---- the program's answer

-- A finder with enough room does not refuse a content.
room-taken : (c : Content) (room left : List ℕ) (number : ℕ) → words_for (features c.sizes) ≤ length room
    → FindsBy c room (record { answer = refused number; lent = left }) → ⊥
room-taken c room left number h finds = elim (rw (le-ltb (length room) (words_for (features c.sizes)) h) at finds) [
  | inl k ↦ let z : ◌≡◌ {A = ℕ} 0 1 = cc (ap (λ (o : Outcome Finding). o.answer) k.1) in omega arith
  | inr k ↦ let z : ◌≡◌ {A = ℕ} 0 1 = cc (ap (λ (o : Outcome Finding). o.answer) k.2) in omega arith
]

module _ (input : List ℕ) where
  pub too_long_lem : most_input < length input → Prints input (refused (refusal Small))
  too_long_lem h = rw (lt-ltb most_input (length input) h) refl

  -- What an opening's answer tells: the program's refusal; or a task that was accepted and has not too many features.
  abbrev Told : Answer ℕ → Type 0
  Told (refused number) = Prints input (refused number)
  Told (done due) = (T : Task) × (next : ℕ) × (judged_task input ≡ got T next) × (features T.sizes ≤ most_program_features)

  module _ (few : length input ≤ most_input) (room : List ℕ) (size : length room ≡ most_due) where
    told : (outcome : Outcome ℕ) → Opens input room outcome → Told outcome.answer
    told outcome opens = by (judged_task input) refl
      where
        by : (read : Read Task) → judged_task input ≡ read → Told outcome.answer
        by (fault reason place) e =
            let q : outcome ≡ refuses reason room = rw e at opens in
            rw (q, le-ltb most_input (length input) few, e) refl
        by (got T next) e =
            let v = length T.sizes in
            let n = features T.sizes in
            let limits = (accepted input T next e).acceptable.limits in
            elim (test (ltb most_program_features n)) [
              | on t ↦
                  let short : length room < words_due v n = omega (arith, size, due-exceeds v n (ltb-true most_program_features n t)) in
                  let q : outcome ≡ refuses Small room = rw (e, lt-ltb (length room) (words_due v n) short) at opens in
                  rw (q, le-ltb most_input (length input) few, e, t) refl
              | off t ↦
                  let total : n ≤ most_program_features = ltb-false most_program_features n t in
                  let long : words_due v n ≤ length room = omega (arith, size, due-fits v n limits.variables.1 total) in
                  let (slots, are, q) = rw (e, le-ltb (length room) (words_due v n) long) at opens in
                  rw q (T, next, e, total)
            ]

    seeks-prints : (T : Task) (next : ℕ) (found : Answered) → judged_task input ≡ got T next → features T.sizes ≤ most_program_features
        → Seeks T found → Prints input (done found)
    seeks-prints T next found e total seeks =
        rw (le-ltb most_input (length input) few, e, le-ltb most_program_features (features T.sizes) total) (found, refl, seeks)

    pub unopened : (reason : Reason) (workspace : List ℕ) → Opens input room (record { answer = refused (refusal reason); lent = workspace }) → Prints input (refused (refusal reason))
    unopened reason workspace opens = told _ opens

    module _ (due : ℕ) (workspace : List ℕ) (opens : Opens input room (record { answer = done due; lent = workspace })) where
      -- The finder does not refuse the opened workspace and so many words.
      not-refused : (left : List ℕ) (number : ℕ) → Finds workspace (replicate weight_words 0) (record { answer = refused number; lent = left }) → ⊥
      not-refused left number finds =
          let (T, next, e, total) = told _ opens in
          let S = opened-stands T input room workspace next due e opens in
          elim finds [
            | inl h ↦ h.0 (stands-formed T workspace S)
            | inr (formed, h) ↦
                let content = stands-content T workspace S formed in
                let n : features formed.content.sizes ≤ most_program_features = omega (arith, ap (λ c. features c.sizes) content) in
                room-taken formed.content (replicate weight_words 0) left number (omega (arith, length-replicate {A = ℕ} weight_words 0)) h
          ]

      found-so : (left : List ℕ) (found : Result Found declared.Reason) → Finds workspace (replicate weight_words 0) (record { answer = found_of found; lent = left })
          → Prints input (sought_of found left)
      found-so left (Ok Separated) finds =
          let (T, next, e, total) = told _ opens in
          let (w, best, q) = least-given input T next e room workspace due opens (replicate weight_words 0) left finds in
          seeks-prints T next _ e total (least-weights (features T.sizes) weight_words w left q T refl best)
      found-so left (Ok Nothing) finds =
          let (T, next, e, total) = told _ opens in
          seeks-prints T next nothing e total (none_said input T next e room workspace due opens (replicate weight_words 0) left finds)
      found-so left (Err reason) finds = absurd (not-refused left (refusal (reason_of reason)) finds)

      -- What is found in the opened workspace, in words that were zeros, is the program's answer.
      pub sought : (weights left : List ℕ) (found : Result Found declared.Reason) → weights ≡ replicate weight_words 0
          → Finds workspace weights (record { answer = found_of found; lent = left }) → Prints input (sought_of found left)
      sought weights left found zeros finds = found-so left found (rw zeros at finds)
