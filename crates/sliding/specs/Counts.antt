-- How many operators slots have: one for each place of the table that lets a pallet slide and each label that slides.
use Rattle.std.specs.Prelude.{ℕ, zero, suc, ◌+◌, ◌-◌, ◌*◌, ◌<◌, ◌≡◌, refl, Bool, cond, List, [], ◌∷◌, length, get_or, eqb, count_by}
use Rattle.std.specs.List.{range_with_len}
use Rattle.std.proofs.lemmas.List.Sums.{sum_by-cons}
use Rattle.std.proofs.Common.{sym, ap, ap₂, ◌∙◌, add-one, zero-add, arith}
use Rattle.meaning.specs.Sets.{count}
use Rattle.meaning.specs.Limits.{number_end}
use Rattle.meaning.specs.Bay.{occurrences, occurs_in, bay_operators}
use Rattle.theory.specs.Count.{total, count-cong, count-front, count-square, length_some, length-when, length-total}
use Rattle.theory.specs.BayTask.{operators-countable}
use Rattle.sliding.specs.Parts.{Slots, near_in, places_in, lots_in, operators_in}

-- ---- as the code counts

-- Among the elements of a list,
pub occurrences-counted : (label : ℕ) (labels : List ℕ) → count_by (λ other. eqb other label) labels ≡ occurrences label labels
unfolding occurrences
occurrences-counted label [] = refl
occurrences-counted label (x ∷ xs) = sum_by-cons _ x xs ∙ ap (λ k. cond (eqb x label) 1 0 + k) (occurrences-counted label xs)

pub places-counted : (near : List ℕ) → count_by (λ mark. eqb mark 1) near ≡ places_in near
unfolding count
places-counted [] = refl
places-counted (x ∷ xs) = sum_by-cons _ x xs ∙ ap (λ k. cond (eqb x 1) 1 0 + k) (places-counted xs) ∙ sym (count-front (length xs) (λ place. eqb (get_or (x ∷ xs) place 0) 1))

-- and among numbers from one on.
pub range-counted : (a n : ℕ) (test : ℕ → Bool) → count_by test (range_with_len a n) ≡ count n (λ k. test (k + a))
unfolding count
range-counted a zero test = refl
range-counted a (suc n) test =
    sum_by-cons _ a (range_with_len (a + 1) n)
    ∙ ap₂ (λ first k. cond (test first) 1 0 + k) (sym (zero-add a)) (range-counted (a + 1) n test ∙ count-cong n _ _ (λ k l. ap test (omega arith)))
    ∙ sym (count-front n (λ k. test (k + a)))

operators-number : (n : ℕ) (near : ℕ → ℕ → Bool) (occurs : ℕ → Bool) → length (bay_operators n near occurs) ≡ total n (λ p. count n (near p)) * count (n - 1) (λ k. occurs (suc k))
unfolding bay_operators
operators-number n near occurs = length-total n _ _ _ (λ p l. length-when n _ (near p) _ (λ q k. length_some (n - 1) (λ t. occurs (suc t)) _))

module _ (near start : List ℕ) (slots : Slots near start) where
  places : places_in near ≡ total (length start) (λ p. count (length start) (near_in near (length start) p))
  places = ap (λ m. count m (λ place. eqb (get_or near place 0) 1)) slots.square ∙ count-square (length start) (length start) (λ place. eqb (get_or near place 0) 1)

  lots : lots_in start ≡ count (length start - 1) (λ k. occurs_in start (suc k))
  lots = count-cong (length start - 1) _ _ (λ k h. ap (occurs_in start) (add-one k))

  pub operators-counted : places_in near * lots_in start ≡ length (operators_in near start)
  operators-counted = ap₂ ◌*◌ places lots ∙ sym (operators-number (length start) (near_in near (length start)) (occurs_in start))

  -- They can be counted in a file.
  pub operators-few : length (operators_in near start) < number_end
  operators-few = operators-countable (length start) (near_in near (length start)) (occurs_in start) slots.most
