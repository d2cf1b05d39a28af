-- The parts of a file, one after another, and how many bytes they have.
use Rattle.std.specs.List.{sum_by}
use Rattle.std.proofs.lemmas.List.Sums.{sum_by-cons}
use Rattle.std.specs.Prelude.{ℕ, ◌+◌, ◌*◌, ◌<◌, ◌≤◌, ◌≡◌, refl, length, get_or, drop}
use Rattle.std.proofs.Common.{sym, ◌∙◌, add-one, drop_of_length-le, drop-cons}
use Rattle.std.proofs.Math.Path.{ap}
use mathlib.Core.List.Memᴰ.{head as here}
use mathlib.Core.List.Memᴰ.{tail as there}
use mathlib.Core.List.{List, [], ◌∷◌, ◌++◌, Memᴰ as In}
use native.Mathlib.Omega.{arith}
use Rattle.std.proofs.Math.Nat.{mul-suc}
use Rattle.std.proofs.Math.ListN.{length-append}
use Rattle.meaning.specs.Limits.{most_groups, number_end}
use Rattle.meaning.specs.Number.{group_bytes, number_bytes}
use Rattle.meaning.specs.Task.{Entry, Operator}
use Rattle.meaning.specs.File.{Kind, plain, gapped, bytes_of, counted, entry_bytes, operator_bytes, weight_bytes, numbers_for, list_bytes, mark_bytes}
use Rattle.theory.specs.ReadBack.{numbers-length}
use Rattle.theory.specs.NumberBack.{number-bytes-length}

pub part_length : {l : List ℕ} (part others : List ℕ) → l ≡ part ++ others → length l ≡ length part + length others
part_length part others e = ap length e ∙ length-append part others

module _ {A : Type 0} (write : A → List ℕ) where
  pub bytes-more : (l : List A) (i : ℕ) (d : A) → i < length l → bytes_of write (drop i l) ≡ write (get_or l i d) ++ bytes_of write (drop (i + 1) l)
  unfolding bytes_of
  bytes-more l i d h = ap (bytes_of write) (drop-cons l i d h) ∙ ap (λ k. write (get_or l i d) ++ bytes_of write (drop k l)) (sym (add-one i))

  pub bytes-none : (l : List A) (i : ℕ) → length l ≤ i → bytes_of write (drop i l) ≡ []
  unfolding bytes_of
  bytes-none l i h = ap (bytes_of write) (drop_of_length-le l h)

  -- The bytes of all things are those of each, added up.
  pub bytes-summed : (l : List A) → sum_by (λ a. length (write a)) l ≡ length (bytes_of write l)
  unfolding bytes_of
  bytes-summed [] = refl
  bytes-summed (a ∷ l) = sum_by-cons _ a l ∙ ap (λ k. length (write a) + k) (bytes-summed l) ∙ sym (length-append (write a) (bytes_of write l))

  -- Things of at most k bytes each.
  pub bytes-few : (k : ℕ) (l : List A) → ((a : A) → In a l → length (write a) ≤ k) → length (bytes_of write l) ≤ k * length l
  unfolding bytes_of
  bytes-few k [] h = omega arith
  bytes-few k (a ∷ l) h = omega (arith, length-append (write a) (bytes_of write l), h a (here refl), bytes-few k l (λ b m. h b (there m)), mul-suc k (length l))

  pub counted-length : (l : List A) → length (counted write l) ≡ length (number_bytes (length l)) + length (bytes_of write l)
  unfolding counted
  counted-length l = length-append (number_bytes (length l)) (bytes_of write l)

pub numbers-few : (l : List ℕ) → length (bytes_of number_bytes l) ≤ most_groups * length l
numbers-few l = bytes-few number_bytes most_groups l (λ n _. (number-bytes-length n).1)

pub list-few : (l : List ℕ) → length (counted number_bytes l) ≤ most_groups + most_groups * length l
list-few l = omega (arith, counted-length number_bytes l, (number-bytes-length (length l)).1, numbers-few l)

-- The mark of a kind, and a list of features in a file of a kind.
pub mark-few : (kind : Kind) → length (mark_bytes kind) ≤ 1
unfolding number_bytes group_bytes
mark-few plain = omega arith
mark-few gapped = omega arith

module _ (kind : Kind) (fs : List ℕ) where
  pub features-split : list_bytes kind fs ≡ number_bytes (length fs) ++ bytes_of number_bytes (numbers_for kind 0 fs)
  unfolding list_bytes weight_bytes counted
  features-split = ap (λ n. number_bytes n ++ bytes_of number_bytes (numbers_for kind 0 fs)) (numbers-length kind 0 fs)

  pub features-length : length (list_bytes kind fs) ≡ length (number_bytes (length fs)) + length (bytes_of number_bytes (numbers_for kind 0 fs))
  features-length = part_length (number_bytes (length fs)) (bytes_of number_bytes (numbers_for kind 0 fs)) features-split

  pub features-few : length (list_bytes kind fs) ≤ most_groups + most_groups * length fs
  features-few = omega (arith, features-length, (number-bytes-length (length fs)).1, numbers-few (numbers_for kind 0 fs), numbers-length kind 0 fs)

-- As many bytes as four lists of numbers have at most, each as long as a number can count.
abbrev pub four_lists : ℕ
four_lists = 4 * most_groups * number_end

pub entry_length : (e : Entry) → length (entry_bytes e) ≡ length (number_bytes e.variable) + length (number_bytes e.before) + length (number_bytes e.after)
unfolding entry_bytes
entry_length e =
    let values = number_bytes e.before ++ number_bytes e.after in
    omega (arith, length-append (number_bytes e.variable) values, length-append (number_bytes e.before) (number_bytes e.after))

pub entries-few : (o : List Entry) → length (bytes_of entry_bytes o) ≤ 3 * most_groups * length o
entries-few o = bytes-few entry_bytes (3 * most_groups) o (λ e _. few e)
  where
    few : (e : Entry) → length (entry_bytes e) ≤ 3 * most_groups
    few e = omega (arith, entry_length e, number-bytes-length e.variable, number-bytes-length e.before, number-bytes-length e.after)

module _ (o : Operator) where
  pub operator-length : length (operator_bytes o) ≡ length (number_bytes (length o)) + length (bytes_of entry_bytes o)
  unfolding operator_bytes
  operator-length = counted-length entry_bytes o

  pub operator-few : length (operator_bytes o) ≤ most_groups + 3 * most_groups * length o
  operator-few = omega (arith, operator-length, number-bytes-length (length o), entries-few o)
