-- What is judged of the built task once its partial file was read wholly, by the header: the count of operators, 6, and 7 on the file's operators.
use Rattle.std.specs.Prelude.{ℕ, ◌+◌, ◌<◌, ◌≤◌, ◌≡◌, Bool, true, false, cond, List, ltb, Result, Ok, Err}
use Rattle.std.proofs.Math.Path.{refl, sym}
use Rattle.std.proofs.Math.ListN.{length}
use borrow.Author.Tests.{lt-ltb, le-ltb}
use Rattle.meaning.specs.Sets.{Set}
use Rattle.meaning.specs.Limits.{number_end}
use Rattle.meaning.specs.Pair.{holds}
use Rattle.meaning.specs.Number.{Read, got, fault, on_read, Outgrown, Held, Unclosed}
use Rattle.theory.specs.Reading.{test-passed, test-failed, got-value}
use Rattle.number.specs.Answers.{faulted}
use Rattle.number.specs.declared.Fault.{Fault}
use Rattle.forgetting.specs.Kept.{kept_in}
use Rattle.task.specs.Walk.{closed_from}

-- "more operators kept than a number can count is 2, judged after 5"; "6 and 7 apply to the built task". A task that passes is told by how many forgetting
-- operators it keeps.
unfoldable pub last_of : List ℕ → Set → List ℕ → List ℕ → Bool → ℕ → List ℕ → ℕ → Read ℕ
last_of sizes pairs start goal lean count bytes at =
    cond (ltb (count + length (kept_in sizes pairs goal lean)) number_end)
    (cond (holds sizes pairs start) (fault Held 0) (cond (closed_from sizes pairs count bytes at) (got (length (kept_in sizes pairs goal lean)) at) (fault Unclosed 0)))
    (fault Outgrown 0)

-- What the code answers for it, where the file's operators begin at a place.
abbrev pub kept_of : ℕ → Result ℕ Fault → Read ℕ
kept_of at (Ok kept) = got kept at
kept_of at (Err f) = faulted f

module _ (sizes : List ℕ) (pairs : Set) (start goal : List ℕ) (lean : Bool) (count : ℕ) (bytes : List ℕ) (at : ℕ) where
  -- ---- by what the code finds

  module _ (kept : ℕ) (are : kept ≡ length (kept_in sizes pairs goal lean)) where
    pub last-outgrown : number_end ≤ count + kept → last_of sizes pairs start goal lean count bytes at ≡ fault Outgrown 0
    unfolding last_of
    last-outgrown h = rw (← are, le-ltb (count + kept) number_end h)

    module _ (few : count + kept < number_end) where
      pub last-held : holds sizes pairs start ≡ true → last_of sizes pairs start goal lean count bytes at ≡ fault Held 0
      unfolding last_of
      last-held h = rw (← are, lt-ltb (count + kept) number_end few, h)

      pub last-unclosed : holds sizes pairs start ≡ false → closed_from sizes pairs count bytes at ≡ false → last_of sizes pairs start goal lean count bytes at ≡ fault Unclosed 0
      unfolding last_of
      last-unclosed h c = rw (← are, lt-ltb (count + kept) number_end few, h, c)

      pub last-got : holds sizes pairs start ≡ false → closed_from sizes pairs count bytes at ≡ true → last_of sizes pairs start goal lean count bytes at ≡ got kept at
      unfolding last_of
      last-got h c = rw (← are, lt-ltb (count + kept) number_end few, h, c)

  -- ---- what a task that passed tells

  pub last-kept : (kept place : ℕ) → last_of sizes pairs start goal lean count bytes at ≡ got kept place → kept ≡ length (kept_in sizes pairs goal lean)
  unfolding last_of
  last-kept kept place e =
      let (few, p) = test-passed (ltb (count + length (kept_in sizes pairs goal lean)) number_end) _ Outgrown 0 kept place e in
      let (free, q) = test-failed (holds sizes pairs start) _ Held 0 kept place p in
      let (shut, z) = test-passed (closed_from sizes pairs count bytes at) (got (length (kept_in sizes pairs goal lean)) at) Unclosed 0 kept place q in
      sym (got-value z)

-- The same tests on what is made of the parts.
pub last_made : {A B : Type 0} (a : A) (next : ℕ) (b : B) (there : ℕ) (few few' held shut shut' : Bool) → few ≡ few' → shut ≡ shut'
    → cond few (cond held (fault Held 0) (cond shut (got a next) (fault Unclosed 0))) (fault Outgrown 0)
    ≡ on_read (cond few' (cond held (fault Held 0) (cond shut' (got b there) (fault Unclosed 0))) (fault Outgrown 0)) (λ _ _. got a next)
last_made a next b there few few' held shut shut' e q = rw (e, q) (by few' held shut')
  where
    by : (few held shut : Bool) → cond few (cond held (fault Held 0) (cond shut (got a next) (fault Unclosed 0))) (fault Outgrown 0)
        ≡ on_read (cond few (cond held (fault Held 0) (cond shut (got b there) (fault Unclosed 0))) (fault Outgrown 0)) (λ _ _. got a next)
    by false held shut = refl
    by true true shut = refl
    by true false true = refl
    by true false false = refl
