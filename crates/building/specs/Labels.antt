-- What an answer tells of labels that are read.
use Rattle.std.specs.Prelude.{ℕ, ◌+◌, ◌≤◌, ◌≡◌, refl, List, length, take, drop, Ok, Err}
use Rattle.std.proofs.Common.{sym, ap, ◌∙◌, append-nil, arith, drop_of_length-le, take_all}
use Rattle.meaning.specs.Number.{got}
use Rattle.meaning.specs.File.{values_of}
use Rattle.meaning.specs.Bay.{bay_sizes}
use Rattle.theory.specs.Parts.{values-said}
use Rattle.number.specs.Answers.{faulted}
use Rattle.number.specs.declared.Fault.{Fault}
use Rattle.reader.specs.Answer.{written, ReadsInto, reads-next, reads-fault}

-- Labels are read over their bounds, n of each: what an answer tells of those that are then in the words.
module _ (n : ℕ) (bytes : List ℕ) (at : ℕ) (old : List ℕ) (count : ℕ) (labels : List ℕ) (bounds : old ≡ bay_sizes n) (all : length old ≤ count) where
  whole : take count (drop 0 old) ≡ bay_sizes n
  whole = take_all count old all ∙ bounds

  pub labels-fault : (f : Fault) → ReadsInto (values_of (take count (drop 0 old)) bytes at) (written old 0) (Err f) labels → values_of (bay_sizes n) bytes at ≡ faulted f
  labels-fault f read = rw whole at (reads-fault (values_of (take count (drop 0 old)) bytes at) (written old 0) (Err f) f labels read refl)

  pub labels-read : (next : ℕ) → ReadsInto (values_of (take count (drop 0 old)) bytes at) (written old 0) (Ok next) labels → values_of (bay_sizes n) bytes at ≡ got labels next
  labels-read next read = known (reads-next (values_of (take count (drop 0 old)) bytes at) (written old 0) (Ok next) next labels read refl)
    where
      known : (values : List ℕ) × (values_of (take count (drop 0 old)) bytes at ≡ got values next) × (labels ≡ written old 0 values) → values_of (bay_sizes n) bytes at ≡ got labels next
      known (values, r, w) =
          let long : length values ≡ length old = ((values-said bytes (take count (drop 0 old))).gives at values next r).known.0.full ∙ ap length (take_all count old all) in
          let past : length old ≤ 0 + length values = omega arith in
          rw whole at r ∙ ap (λ l. got l next) (sym (w ∙ rw (drop_of_length-le old past) (append-nil values)))
