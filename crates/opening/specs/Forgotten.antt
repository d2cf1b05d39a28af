-- The rows of the forgetting operators that a header keeps, inserted one operator after another.
use Rattle.std.specs.Prelude.{ℕ, ◌+◌, ◌-◌, ◌<◌, ◌≡◌, refl, Bool, length, Option, Some}
use Rattle.std.proofs.Common.{sym, ap, ◌∙◌, arith}
use mathlib.Core.List.{List, foldl, foldl-append}
use Rattle.layout.specs.Parts.{pairs_part}
use Rattle.forgetting.specs.declared.Kept.{Kept}
use Rattle.forgetting.specs.Kept.{unknown_of, forgotten_by, kept_before, kept_all, passed_by, There, Found, kept-none, found-more, found-next, found_below, kept-ready}
use Rattle.condition.specs.Slotted.{Opened, with_rows}
use Rattle.condition.specs.Holds.{held-listed, held-opened}
use Rattle.opening.specs.Adding.{Sized, sized_rows}

-- The workspace is ready for one of them.
pub forgotten-opened : (v n : ℕ) (sizes ws : List ℕ) → Sized v n sizes ws → (i x : ℕ) → i < length sizes → x < unknown_of sizes i → Opened v n ws (forgotten_by sizes i x)
forgotten-opened v n sizes ws sized i x l h = let (c, further, held) = sized.workable in
    held-opened v n c further ws held (forgotten_by sizes i x)
    (rw (← sized.sizes-are) (kept-ready sizes i x l h (pairs_part v n ws) (rw sized.sizes-are (held-listed v n c further ws held))))

-- Those before one that is kept, or all of them, are inserted.
pub record Forgot (v n : ℕ) (sizes : List ℕ) (out : ℕ → ℕ → Bool) (first ws : List ℕ) (r : Option Kept) : Type 0 where
  pub sized : Sized v n sizes ws
  pub there : There sizes out r
  pub rows : ws ≡ foldl (with_rows v n) first (passed_by sizes out r)

module _ (v n : ℕ) (sizes : List ℕ) (out : ℕ → ℕ → Bool) (first : List ℕ) where
  pub forgot_none : (r : Option Kept) → Sized v n sizes first → Found sizes out 0 0 r → Forgot v n sizes out first first r
  forgot_none r sized found = record {
    sized = sized;
    there = found.there;
    rows = ap (foldl (with_rows v n) first) (sym (found.same ∙ kept-none sizes out));
  }

  module _ (ws : List ℕ) (kept : Kept) (forgot : Forgot v n sizes out first ws (Some kept)) where
    -- It is found from its own place on.
    here : Found sizes out kept.variable kept.value (Some kept)
    here = record { same = refl; there = forgot.there }

    pub forgot-more : (r : Option Kept) (left : List ℕ) → left ≡ with_rows v n ws (forgotten_by sizes kept.variable kept.value)
        → Found sizes out kept.variable (kept.value + 1) r → Forgot v n sizes out first left r
    forgot-more r left e found = record {
      sized = rw e (sized_rows forgot.sized _);
      there = found.there;
      rows = e ∙ ap (λ before. with_rows v n before (forgotten_by sizes kept.variable kept.value)) forgot.rows
          ∙ sym (ap (foldl (with_rows v n) first) (found.same ∙ found-more sizes out _ _ kept here)
          ∙ foldl-append (with_rows v n) first (kept_before sizes out kept.variable kept.value) _);
    }

    -- With the next one fewer are left.
    pub forgot-less : (r : Option Kept) → Found sizes out kept.variable (kept.value + 1) r
        → length (kept_all sizes out) - length (passed_by sizes out r) < length (kept_all sizes out) - length (kept_before sizes out kept.variable kept.value)
    forgot-less r found = omega (arith, ap length found.same, found-next sizes out _ _ kept here, found_below sizes out _ _ kept here)
