-- Case A, 00 to 01 with no operators, against an impostor that always refuses or says none: the calls' relations do not allow it there.
use Rattle.std.specs.Prelude.{ℕ, zero, suc, ◌<◌, ◌≤◌, ◌≡◌, refl, Bool, true, false, cond, List, [], ◌∷◌, length, replicate, ltb}
use Rattle.std.proofs.Common.{ap, sym, inl, inr, true≢false, arith}
use mathlib.Core.List.Memᴰ.{not-nil}
use Rattle.meaning.specs.Sets.{count, shared, some, any_of, all_of, listed, table, flat, whole_number}
use Rattle.meaning.specs.Task.{Task, size}
use Rattle.meaning.specs.Feature.{sum_of, pairs_of, atoms, features, single, pair_start, double, true_in, parity}
use Rattle.meaning.specs.Pair.{paired, holds}
use Rattle.meaning.specs.Weight.{Separates}
use Rattle.meaning.specs.Number.{Malformed, Small, groups, number}
use Rattle.meaning.specs.File.{item, judge, ended, items_of, size_list, header, limited, feature_of, features_of, feature_list, operators_of, kind_of, mark_of, body_of, parts_of, task_as, task_of, judged_task}
use Rattle.meaning.specs.Workspace.{Content, words_for, packed, words_of, WellFormed}
use Rattle.meaning.specs.Answer.{Answer, done, Outcome, refuses, Opens, Finding, separated, SeparatesIn, FindsIn, Finds}
use Rattle.meaning.specs.Line.{Found, nothing, separating, Says}
use Rattle.meaning.proofs.Facts.{pair_of_two, state-none, state-more}

abbrev file_a : List ℕ
file_a = 2 ∷ 2 ∷ 2 ∷ 0 ∷ 0 ∷ 0 ∷ 1 ∷ 0 ∷ 0 ∷ []

abbrev task_a : Task
task_a = record { sizes = pair_of_two; start = 0 ∷ 0 ∷ []; goal = 0 ∷ 1 ∷ []; pairs = []; operators = [] }

-- What its workspace holds: no pairs, and empty slots.
abbrev content_a : Content
content_a = record { sizes = pair_of_two; start = 0 ∷ 0 ∷ []; goal = 0 ∷ 1 ∷ []; pairs = λ f. false; slots = λ i f. false }

abbrev words_a : List ℕ
words_a = 2 ∷ 2 ∷ 2 ∷ 0 ∷ 0 ∷ 0 ∷ 1 ∷ 0 ∷ replicate 8 0

-- {2} separates, by the task and by the workspace.
separates-A : Separates task_a (listed (2 ∷ []))
unfolding parity shared count true_in some features atoms pairs_of sum_of single double pair_start listed any_of
separates-A = record { ends = true≢false; keeps = λ o m. absurd (not-nil m) }

separates-in-A : SeparatesIn content_a (listed (2 ∷ []))
unfolding parity shared count true_in some features atoms pairs_of sum_of single double pair_start listed any_of
separates-in-A = record { ends = true≢false; keeps = λ i l. refl }

-- An opening in the 16 words that are due is not refused.
open-A : (outcome : Outcome ℕ) → Opens file_a (replicate 16 0) outcome → outcome.answer ≡ done 16
unfolding judged_task task_of kind_of task_as mark_of parts_of body_of header size_list items_of limited feature_list features_of feature_of operators_of item judge ended number groups features atoms pairs_of sum_of holds some all_of paired listed any_of
open-A outcome (slots, shape, e) = ap (λ o. o.answer) e

-- "None" is not found.
find-A : (room : List ℕ) (outcome : Outcome Finding) → FindsIn content_a room outcome → outcome.answer ≡ done separated
find-A room outcome (inl h) = absurd (h.0 _ separates-in-A)
find-A room outcome (inr h) = ap (λ o. o.answer) h.2

-- "None" is not said of the file, nor is it refused.
said-A : (answer : Answer Found) → Says file_a answer → (fs : List ℕ) × (answer ≡ done (separating fs))
unfolding judged_task task_of kind_of task_as mark_of parts_of body_of header size_list items_of limited feature_list features_of feature_of operators_of item judge ended number groups features atoms pairs_of sum_of holds some all_of paired listed any_of
said-A answer (nothing, e, never) = absurd (never _ separates-A)
said-A answer (separating fs, e, h) = (fs, e)

-- Its workspace is well formed, so a finding in it is not refused as malformed.
formed-A : WellFormed words_a
unfolding words_of packed table flat whole_number features atoms pairs_of sum_of holds some paired
formed-A = record {
  content = content_a;
  further = [];
  words = refl;
  proper = record {
    limits = record { variables = (omega arith, omega arith); each = size-two; total = omega arith };
    taken = λ i l. (size-two i l).0;
    start = state-more 2 0 _ _ (omega arith) (state-more 2 0 _ _ (omega arith) state-none);
    goal = state-more 2 0 _ _ (omega arith) (state-more 2 1 _ _ (omega arith) state-none);
    pairs = λ f e. absurd (true≢false (sym e));
    free = refl;
    slots = record { within = λ i f e. absurd (true≢false (sym e)); low = λ i f l. refl; full = λ i f e. e; clear = λ i j e d. refl };
  };
}
  where
    size-two : (i : ℕ) → i < 2 → (0 < size pair_of_two i) × (size pair_of_two i ≤ 64)
    size-two zero l = (omega arith, omega arith)
    size-two (suc zero) l = (omega arith, omega arith)
    size-two (suc (suc i)) l = absurd (omega arith)

find-formed-A : (room : List ℕ) → Finds words_a room (refuses Malformed room) → ⊥
find-formed-A room (inl h) = h.0 formed-A
find-formed-A room (inr (formed, h)) = by (ltb (length room) (words_for (features formed.content.sizes))) h
  where
    by : (small : Bool) → cond small (refuses {A = Finding} Malformed room ≡ refuses Small room) (FindsIn formed.content room (refuses Malformed room)) → ⊥
    by true e = let z : ◌≡◌ {A = ℕ} 0 1 = cc (ap (λ o. o.answer) e) in absurd (omega arith)
    by false (inl f) = let z : ◌≡◌ {A = ℕ} 0 1 = cc (ap (λ o. o.answer) f.1) in absurd (omega arith)
    by false (inr f) = let z : ◌≡◌ {A = ℕ} 0 1 = cc (ap (λ o. o.answer) f.2) in absurd (omega arith)
