-- A list of features in words: features that increase, each toggled once in words that hold none, leave the words of their set.
use Rattle.std.specs.Prelude.{ℕ, ◌≤◌, ◌≡◌, Result, List, replicate}
use Rattle.meaning.specs.Number.{Reason, got, fault, number}
use Rattle.meaning.specs.File.{Kind, features_of, feature_list}
use Rattle.meaning.specs.Workspace.{words_for}
use Rattle.theory.specs.Parts.{feature-list-said}
use Rattle.number.specs.declared.Fault.{Fault}
use Rattle.reader.specs.Answer.{feature_words, ReadsInto, reads_same}
use Rattle.words.specs.Toggled.{toggled_all, run-packed}

-- ---- a count and features

module _ (kind : Kind) (low high : ℕ) (bytes : List ℕ) (place : ℕ) where
  pub list-fault : (reason : Reason) (there : ℕ) → number bytes place ≡ fault reason there → feature_list kind low high bytes place ≡ fault reason there
  unfolding feature_list
  list-fault reason there e = rw e

  pub list_read : (count next : ℕ) (words : List ℕ) (answer : Result ℕ Fault) (left : List ℕ) → low ≤ high → words ≡ replicate (words_for high) 0
      → number bytes place ≡ got count next
      → ReadsInto (features_of kind count low high 0 bytes next) (toggled_all words) answer left
      → ReadsInto (feature_list kind low high bytes place) (feature_words high) answer left
  unfolding feature_list
  list_read count next words answer left h none e read =
      reads_same (feature_list kind low high bytes place) (toggled_all words) (feature_words high) answer left
      (λ fs after r. rw none (run-packed low high fs ((feature-list-said bytes kind low high h).gives place fs after r).known.0))
      (rw same read)
    where
      same : feature_list kind low high bytes place ≡ features_of kind count low high 0 bytes next
      same = rw e
