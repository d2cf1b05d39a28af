-- One operator's turn: what it leaves of the listed pairs, which atoms are touched then, and why the operator need not be judged again unless one of its before atoms is.
use Rattle.std.specs.Prelude.{ℕ, ◌<◌, ◌≤◌, ◌≡◌, refl, ◌⊎◌, Bool, true, false, not, ◌&&◌, List, length}
use Rattle.std.proofs.Common.{sym, ap, ◌∙◌, arith, inl, inr, true≢false}
use Rattle.std.proofs.Math.Bool.{and-false}
use Rattle.meaning.specs.Limits.{most_variables}
use Rattle.meaning.specs.Number.{got}
use Rattle.meaning.specs.File.{operator_of}
use Rattle.meaning.specs.Answer.{operator_in}
use Rattle.meaning.specs.Sets.{Set, ◌⊕◌, count}
use Rattle.meaning.specs.Task.{Operator, Entries, IsOperator, size}
use Rattle.meaning.specs.Feature.{features, single, both}
use Rattle.meaning.specs.Pair.{idle, closed, unclosed_pair}
use Rattle.meaning.specs.Workspace.{has}
use Rattle.meaning.specs.Mend.{Within}
use Rattle.theory.specs.Truth.{on, off, test, clash, less, same, more, order}
use Rattle.theory.specs.Search.{and_left, and_right, found, nowhere, which}
use Rattle.theory.specs.Count.{count_less}
use Rattle.theory.specs.Numbering.{both-less, both-mirror}
use Rattle.theory.specs.Closed.{listed_unclosed, unclosed-below}
use Rattle.theory.specs.Mending.{Touches, touched_in, Without, without-within, without-free, closed-left}
use Rattle.words.specs.Change.{summed, length-summed, has-summed}
use Rattle.words.specs.Next.{Empty}
use Rattle.operator.specs.declared.Operator as declared
use Rattle.operator.specs.Records.{record_of}
use Rattle.operator.specs.Known.{operator-is, count-fine}
use Rattle.pairs.specs.Ready.{Listed, Ready, ready-is}
use Rattle.pairs.specs.Judge.{closed-idle}
use Rattle.keeping.specs.Marks.{Marked}

-- ---- an operator that was read

module _ (sizes pairs bytes : List ℕ) (at : ℕ) (o : declared.Operator) (next : ℕ) (listed : Listed sizes pairs) (read : got (operator_in (record_of o)) next ≡ operator_of sizes bytes at) where
  is : IsOperator sizes (operator_in (record_of o))
  is = operator-is sizes bytes at _ next (sym read)

  pub read-few : o.count ≤ most_variables
  read-few = omega (arith, count-fine sizes o is, listed.limits.variables.1)

  pub read-ready : Ready sizes pairs (operator_in (record_of o))
  read-ready = ready-is listed is

-- ---- what a turn leaves

-- Whether something was taken out is told truly: nothing changes, or there are fewer pairs.
pub record Told (sizes : List ℕ) (before touched₀ now touched : Set) (any : Bool) : Type 0 where
  pub quiet : any ≡ false → (now ≡ before) × (touched ≡ touched₀)
  pub fewer : any ≡ true → count (features sizes) now < count (features sizes) before

-- What is unclosed is taken out, judged by the list as it came.
pub record LeftBy (sizes : List ℕ) (o : Operator) (pairs₀ touched₀ pairs touched : List ℕ) (any : Bool) : Type 0 where
  pub long : length pairs ≡ length pairs₀
  pub touched-long : length touched ≡ length touched₀
  pub left : Without (has pairs₀) (unclosed_pair sizes (has pairs₀) o) (has pairs)
  pub within : Within (has touched₀) (has touched)
  pub touches : Touches sizes (has pairs₀) (has pairs) (has touched)
  pub told : Told sizes (has pairs₀) (has touched₀) (has pairs) (has touched) any

-- A turn takes out nothing, or what is unclosed under an operator that is not idle. Where none of its before atoms is touched then, the list that is left is closed under it.
pub record TurnTo (sizes : List ℕ) (o : Operator) (before touched₀ now touched : Set) (any : Bool) : Type 0 where
  pub gone : (now ≡ before) ⊎ ((idle sizes before o ≡ false) × Without before (unclosed_pair sizes before o) now)
  pub within : Within touched₀ touched
  pub touches : Touches sizes before now touched
  pub told : Told sizes before touched₀ now touched any
  pub settled : touched_in sizes touched o ≡ false → closed sizes now o ≡ true

-- The same of words.
pub record TurnBy (sizes : List ℕ) (o : Operator) (pairs₀ touched₀ pairs touched : List ℕ) (any : Bool) : Type 0 where
  pub long : length pairs ≡ length pairs₀
  pub touched-long : length touched ≡ length touched₀
  pub turn : TurnTo sizes o (has pairs₀) (has touched₀) (has pairs) (has touched) any

-- ---- marks are taken out

told-nothing : (sizes : List ℕ) (pairs touched : Set) → Told sizes pairs touched pairs touched false
told-nothing sizes pairs touched = record { quiet = λ e. (refl, refl); fewer = λ e. absurd (true≢false (sym e)) }

touches-nothing : (sizes : List ℕ) (pairs touched : Set) → Touches sizes pairs pairs touched
touches-nothing sizes pairs touched i x j y d l k hx hy e q = absurd (clash e q)

module _ (sizes : List ℕ) (o : Operator) (fine : Entries sizes 0 o) (pairs touched₀ gone touched : List ℕ) (marked : Marked sizes pairs o touched₀ gone touched) where
  -- There are some.
  module _ (now : List ℕ) (sum : now ≡ summed pairs gone) where
    taken : (f : ℕ) → has now f ≡ (has pairs f && not (unclosed_pair sizes (has pairs) o f))
    taken f = ap (λ l. has l f) sum ∙ has-summed pairs gone f (sym marked.gone_long) ∙ ap (◌⊕◌ (has pairs f)) (marked.each f) ∙ out (has pairs f) (unclosed_pair sizes (has pairs) o f)
      where
        out : (a b : Bool) → a ⊕ (a && b) ≡ (a && not b)
        out true true = refl
        out true false = refl
        out false b = refl

    -- The two atoms of what is taken out are touched.
    taken-touched : (i x j y : ℕ) → i < j → j < length sizes → x < size sizes i → y < size sizes j → has pairs (both sizes i x j y) ≡ true → has now (both sizes i x j y) ≡ false
        → (has touched (single sizes i x) ≡ true) × (has touched (single sizes j y) ≡ true)
    taken-touched i x j y l k hx hy p q = marked.touches (both sizes i x j y) i x j y (marked.each _ ∙ lost (has pairs (both sizes i x j y)) _ p (sym (taken _) ∙ q))
        (record { ordered = l; place = k; first = hx; second = hy; number = both-less sizes i x j y l })
      where
        lost : (a b : Bool) → a ≡ true → (a && not b) ≡ false → (a && b) ≡ true
        lost true true p q = refl
        lost true false p q = sym q
        lost false b p q = p

    pub left-some : (Empty gone → ⊥) → LeftBy sizes o pairs touched₀ now touched true
    left-some full = record {
      long = ap length sum ∙ length-summed pairs gone;
      touched-long = marked.touched-long;
      left = taken;
      within = marked.within;
      touches = λ i x j y d l k hx hy p q. elim (order i j) [
        | less h ↦ (taken-touched i x j y h k hx hy p q).0
        | same h ↦ absurd (d h)
        | more h ↦ let turned = both-mirror sizes i x j y d in (taken-touched j y i x h l hy hx (sym (ap (has pairs) turned) ∙ p) (sym (ap (has now) turned) ∙ q)).1
      ];
      told = record { quiet = λ e. absurd (true≢false e); fewer = λ e. fewer };
    }
      where
        fewer : count (features sizes) (has now) < count (features sizes) (has pairs)
        fewer = elim (which (features sizes) (listed_unclosed sizes (has pairs) o)) [
          | found f l e ↦ let u = and_right (has pairs f) (unclosed_pair sizes (has pairs) o f) e in
              count_less (features sizes) (has now) (has pairs) (without-within (has pairs) (unclosed_pair sizes (has pairs) o) (has now) taken) f l
              (taken f ∙ rw u (and-false (has pairs f))) (and_left (has pairs f) (unclosed_pair sizes (has pairs) o f) e)
          | nowhere h ↦ absurd (full (λ g. marked.each g ∙ elim (test (unclosed_pair sizes (has pairs) o g)) [
            | on e ↦ h g (unclosed-below sizes (has pairs) o fine g e)
            | off e ↦ rw e (and-false (has pairs g))
          ]))
        ]

-- ---- turns

module _ (sizes : List ℕ) (o : Operator) (pairs touched : List ℕ) where
  -- An idle operator takes nothing out.
  pub turn-idle : idle sizes (has pairs) o ≡ true → TurnBy sizes o pairs touched pairs touched false
  turn-idle e = record {
    long = refl;
    touched-long = refl;
    turn = record {
      gone = inl refl;
      within = λ a q. q;
      touches = touches-nothing sizes (has pairs) (has touched);
      told = told-nothing sizes (has pairs) (has touched);
      settled = λ q. closed-idle sizes (has pairs) o e;
    };
  }

  pub turn-left : (now touched' : List ℕ) (any : Bool) → Entries sizes 0 o → idle sizes (has pairs) o ≡ false → LeftBy sizes o pairs touched now touched' any → TurnBy sizes o pairs touched now touched' any
  turn-left now touched' any fine busy left = record {
    long = left.long;
    touched-long = left.touched-long;
    turn = record {
      gone = inr (busy, left.left);
      within = left.within;
      touches = left.touches;
      told = left.told;
      settled = λ clear. closed-left sizes (has pairs) (has now) (has touched') (without-within (has pairs) (unclosed_pair sizes (has pairs) o) (has now) left.left) left.touches o fine clear
          (λ f l e. without-free (has pairs) (unclosed_pair sizes (has pairs) o) (has now) left.left f e);
    };
  }
