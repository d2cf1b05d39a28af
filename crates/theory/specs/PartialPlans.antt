-- The built goal is reached exactly when the partial goal is; leaving out what may be left out loses no plan.
use Prim.Native.Nat.{ℕ, zero, suc, ◌<◌, ◌≤◌}
use Rattle.std.specs.Prelude.{◌≡◌, ◌≢◌, ◌↔◌, Bool, not, set}
use Rattle.std.proofs.Math.Path.{refl, sym}
use Rattle.std.proofs.Common.{◌∙◌, arith, get_or-set_same}
use Rattle.std.proofs.Math.Logic.{inl, inr}
use Rattle.std.proofs.Math.Bool.{true, false}
use mathlib.Core.List.Memᴰ.{cases_cons}
use mathlib.Core.List.Memᴰ.{head as here}
use mathlib.Core.List.Memᴰ.{not-nil}
use mathlib.Core.List.Memᴰ.{tail as there}
use mathlib.Core.List.{List, [], ◌∷◌, ◌++◌, Memᴰ as In}
use mathlib.Core.List.Memᴰ.{append_cases}
use mathlib.Core.List.Memᴰ.{append_left}
use mathlib.Core.List.Memᴰ.{append_right}
use Rattle.std.proofs.Math.ListN.{length, length-set}
use Rattle.std.proofs.Math.Seq.{get_or-set_other, ext_get_or}
use borrow.Author.Tests.{eq-eqb, ltb-true, ltb-false}
use Rattle.meaning.specs.Sets.{Set, all_of, listed}
use Rattle.meaning.specs.Task.{Operator, Task, State, Entries, names, applies, applied, value, size}
use Rattle.meaning.specs.Pair.{paired, closed, holds}
use Rattle.meaning.specs.Weight.{Leads}
use Rattle.meaning.specs.Partial.{Partial, named, MeetsGoal, Reaches, Met, built_sizes, built_pairs, forgetting, forgettings, built_task, against_goal, left_out, left_out_lean, Ordered}
use Rattle.theory.specs.Truth.{on, off, test, less, same, more, order, clash}
use Rattle.theory.specs.Search.{and_left, and_right, or-either, or_right, some-get, all-at}
use Rattle.theory.specs.Operators.{length-applied, before-range, applies-value, value-applies, applied-value, state-applied}
use Rattle.theory.specs.Sound.{none-paired, kept-along}
use Rattle.theory.specs.PartialPairs.{built-length, built-size, paired-known}
use Rattle.theory.specs.PartialTask.{entries-built, state-built, forgettings-in, in-forgettings}

-- ---- plans

leads-join : (p q : List Operator) (s t u : List ℕ) → Leads p s t → Leads q t u → Leads (p ++ q) s u
leads-join [] q s t u h k = rw h k
leads-join (o ∷ p) q s t u h k = (h.0, leads-join p q (applied o s) t u h.1 k)

pub reaches-none : (os : List Operator) (s : List ℕ) → Reaches os s s
reaches-none os s = ([], (λ o m. absurd (not-nil m)), refl)

pub reaches-join : (os : List Operator) (s t u : List ℕ) → Reaches os s t → Reaches os t u → Reaches os s u
reaches-join os s t u (p, h, l) (q, k, r) = (p ++ q, (λ o m. elim (append_cases p m) [ inl a ↦ h o a | inr a ↦ k o a ]), leads-join p q s t u l r)

pub reaches_step : (os : List Operator) (o : Operator) (s : List ℕ) → In o os → applies o s ≡ true → Reaches os s (applied o s)
reaches_step os o s m a = (o ∷ [], (λ p k. elim (cases_cons k) [ inl q ↦ rw q m | inr z ↦ absurd (not-nil z) ]), (a, refl))

pub reaches_more : (os os' : List Operator) (s t : List ℕ) → ((o : Operator) → In o os → In o os') → Reaches os s t → Reaches os' s t
reaches_more os os' s t w (p, h, l) = (p, (λ o m. w o (h o m)), l)

-- ---- a test that leaves out only what may be left out

-- The values of variables that are named, and values that are exclusive with the goal value of another variable.
abbrev pub Permitted : Partial → (ℕ → ℕ → Bool) → Type 0
Permitted P out = (i x : ℕ) → out i x ≡ true → left_out_lean P i x ≡ true

pub letter-permitted : (P : Partial) → Permitted P (left_out P)
unfolding left_out left_out_lean
letter-permitted P i x e = or_right (named P i) (against_goal P i x) (and_right (not (named P i)) (against_goal P i x) e)

pub lean-permitted : (P : Partial) → Permitted P (left_out_lean P)
lean-permitted P i x e = e

pub none-permitted : (P : Partial) → Permitted P (λ i x. false)
none-permitted P i x e = absurd (clash refl (sym e))

module _ (P : Partial) (ok : Ordered P) where
  abbrev ds : List ℕ
  ds = P.sizes

  abbrev b : List ℕ
  b = built_sizes ds

  abbrev ps : Set
  ps = listed (built_pairs ds (listed P.pairs))

  abbrev fine : (o : Operator) → In o P.operators → Entries ds 0 o
  fine o m = (ok.operators o m).entries

  -- ---- from a state that meets the partial goal, the silent variables are forgotten

  -- The silent variables below n are forgotten, and nothing else.
  pub record Forgot (out : ℕ → ℕ → Bool) (s : List ℕ) (n : ℕ) : Type 0 where
    pub state : List ℕ
    pub reached : Reaches (forgettings ds out) s state
    pub full : length state ≡ length ds
    pub gone : (i : ℕ) → i < n → named P i ≡ false → value state i ≡ size ds i
    pub left : (i : ℕ) → (i < n → named P i ≡ false → ⊥) → value state i ≡ value s i

  module _ (out : ℕ → ℕ → Bool) (s : List ℕ) (t : State ds s) (there-kept : (i : ℕ) → i < length ds → named P i ≡ false → out i (value s i) ≡ false) where
    forget : (n : ℕ) → n < length ds → named P n ≡ false → Forgot out s n → Forgot out s (suc n)
    unfolding applied applies all_of
    forget n l q f =
        let o = forgetting ds n (value s n) in
        let a : applies o f.state ≡ true = rw (eq-eqb (value f.state n) (value s n) (f.left n (λ k e. omega arith))) refl in
        record {
          state = applied o f.state;
          reached = reaches-join _ s f.state _ f.reached (reaches_step _ o f.state (in-forgettings ds out n (value s n) l (t.values n l) (there-kept n l q)) a);
          full = length-set f.state n (size ds n) ∙ f.full;
          gone = λ i k e. elim (order i n) [
            | less m ↦ get_or-set_other f.state n i (size ds n) 0 (λ z. omega arith) ∙ f.gone i m e
            | same z ↦ rw z (get_or-set_same f.state n (size ds n) 0 (rw f.full l))
            | more m ↦ absurd (omega arith)
          ];
          left = λ i d. get_or-set_other f.state n i (size ds n) 0 (λ z. d (omega arith) (rw z q)) ∙ f.left i (λ k e. d (omega arith) e);
        }

    pub forgot : (n : ℕ) → n ≤ length ds → Forgot out s n
    forgot zero l = record { state = s; reached = reaches-none _ s; full = t.full; gone = λ i k e. absurd (omega arith); left = λ i d. refl }
    forgot (suc n) l = elim (test (named P n)) [
      | on q ↦ let f = forgot n (omega arith) in record {
        state = f.state;
        reached = f.reached;
        full = f.full;
        gone = λ i k e. elim (order i n) [ less m ↦ f.gone i m e | same z ↦ absurd (clash (rw z q) e) | more m ↦ absurd (omega arith) ];
        left = λ i d. f.left i (λ k e. d (omega arith) e);
      }
      | off q ↦ forget n (omega arith) q (forgot n (omega arith))
    ]

    -- All of them: this is the built goal.
    pub forgot-goal : MeetsGoal P s → Reaches (forgettings ds out) s P.goal
    unfolding named
    forgot-goal meets = let f = forgot (length ds) (omega arith) in rw (sym (all f)) f.reached
      where
        all : (f : Forgot out s (length ds)) → f.state ≡ P.goal
        all f = ext_get_or 0 f.state P.goal (f.full ∙ sym (ok.goal.full ∙ built-length ds)) (λ i k. let l : i < length ds = rw f.full at k in elim (test (named P i)) [
          | on q ↦ f.left i (λ _ e. clash q e) ∙ meets i l q
          | off q ↦ f.gone i l q ∙ unknown i l q
        ])
          where
            unknown : (i : ℕ) → i < length ds → named P i ≡ false → size ds i ≡ value P.goal i
            unknown i l q =
                let h : value P.goal i < suc (size ds i) = rw (built-size ds i l) at (ok.goal.values i (rw (built-length ds) l)) in
                omega (arith, ltb-false (value P.goal i) (size ds i) q)

  -- ---- the built task's plan, replayed without forgetting

  -- A state has every value that another has not forgotten.
  abbrev pub Agrees : List ℕ → List ℕ → Type 0
  Agrees u s = (i : ℕ) → value u i < size ds i → value s i ≡ value u i

  -- An operator of the file applies in it too, and they agree after it.
  applies-too : (o : Operator) (u s : List ℕ) → Entries ds 0 o → Agrees u s → applies o u ≡ true → applies o s ≡ true
  applies-too o u s h agree a = value-applies ds 0 o s h (λ i q. let e = applies-value ds 0 o u i h a q in agree i (rw e (before-range ds 0 o i h q)) ∙ e)

  agrees_after : (o : Operator) (u s : List ℕ) → Entries ds 0 o → length u ≡ length ds → length s ≡ length ds → Agrees u s → Agrees (applied o u) (applied o s)
  agrees_after o u s h hu hs agree i = rw (applied-value ds 0 o u i h hu, applied-value ds 0 o s i h hs) (elim (test (names o i)) [ on q ↦ rw q (λ _. refl) | off q ↦ rw q (agree i) ])

  agrees-forgotten : (i x : ℕ) (u s : List ℕ) → i < length ds → length u ≡ length ds → Agrees u s → Agrees (applied (forgetting ds i x) u) s
  unfolding applied
  agrees-forgotten i x u s l hu agree k h = elim (order k i) [
    | less m ↦ other k (λ z. omega arith) h
    | same z ↦ absurd (gone k z h)
    | more m ↦ other k (λ z. omega arith) h
  ]
    where
      other : (k : ℕ) → k ≢ i → value (set u i (size ds i)) k < size ds k → value s k ≡ value (set u i (size ds i)) k
      other k d = rw (get_or-set_other u i k (size ds i) 0 d) (agree k)

      gone : (k : ℕ) → k ≡ i → value (set u i (size ds i)) k < size ds k → ⊥
      gone k z h = omega (arith, (rw (z, get_or-set_same u i (size ds i) 0 (rw hu l)) at h))

  pub replay : (out : ℕ → ℕ → Bool) (plan : List Operator) → ((o : Operator) → In o plan → In o (P.operators ++ forgettings ds out)) → (u s end : List ℕ)
      → length u ≡ length ds → length s ≡ length ds → Agrees u s → Leads plan u end → (t : List ℕ) × Reaches P.operators s t × Agrees end t
  replay out [] from u s end hu hs agree leads = (s, reaches-none _ s, rw (← leads) agree)
  replay out (o ∷ plan) from u s end hu hs agree leads = elim (append_cases P.operators (from o (here refl))) [
    | inl m ↦
        let a = applies-too o u s (fine o m) agree leads.0 in
        let after = agrees_after o u s (fine o m) hu hs agree in
        let (t, r, z) = replay out plan (λ p k. from p (there k)) (applied o u) (applied o s) end (length-applied o u ∙ hu) (length-applied o s ∙ hs) after leads.1 in
        (t, reaches-join _ s (applied o s) t (reaches_step _ o s m a) r, z)
    | inr m ↦
        let (i, x, l, h, e, q) = forgettings-in ds out o m in
        replay out plan (λ p k. from p (there k)) (applied o u) s end (length-applied o u ∙ hu) hs (rw q (agrees-forgotten i x u s l hu agree)) leads.1
  ]

  -- ---- both ways

  module _ (free : holds b ps P.start ≡ false) (shut : all_of (closed b ps) P.operators ≡ true) (out : ℕ → ℕ → Bool) (permitted : Permitted P out) where
    abbrev T : Task
    T = built_task P out

    -- No state that meets the order and is reached has a value that was left out.
    never-out : (s : List ℕ) → State ds s → holds b ps s ≡ false → MeetsGoal P s → (i : ℕ) → i < length ds → named P i ≡ false → out i (value s i) ≡ false
    unfolding left_out_lean against_goal
    never-out s t clean meets i l q = elim (test (out i (value s i))) [
      | off e ↦ e
      | on e ↦ elim (or-either (named P i) (against_goal P i (value s i)) (permitted i (value s i) e)) [
        | inl h ↦ absurd (clash h q)
        | inr h ↦ let (j, k, r) = some-get (length ds) _ h in absurd (against j k (and_left (named P j) _ r) (and_right (named P j) _ r))
      ]
    ]
      where
        against : (j : ℕ) → j < length ds → named P j ≡ true → paired ds (listed P.pairs) i (value s i) j (value P.goal j) ≡ true → ⊥
        against j k n r =
            let d : i ≢ j = λ z. clash n (rw (← z) q) in
            clash (paired-known ds (listed P.pairs) i (value s i) j (value s j) d l k (t.values i l) (t.values j k) ∙ rw (meets j k n) r)
            (none-paired b ps s (state-built ds s t) clean i j (rw (built-length ds) l) (rw (built-length ds) k) d)

    pub reached-exactly : Reaches T.operators T.start T.goal ↔ Met P
    unfolding built_task named
    reached-exactly = (to, back)
      where
        to : Reaches (P.operators ++ forgettings ds out) P.start P.goal → (s : List ℕ) × Reaches P.operators P.start s × MeetsGoal P s
        to (plan, from, leads) = let (s, r, agree) = replay out plan from P.start P.start P.goal ok.start.full ok.start.full (λ i h. refl) leads in
            (s, r, λ i l q. agree i (ltb-true _ _ q))

        back : (s : List ℕ) × Reaches P.operators P.start s × MeetsGoal P s → Reaches (P.operators ++ forgettings ds out) P.start P.goal
        back (s, (plan, from, leads), meets) =
            let (_, clean, t) = kept-along b ps P.operators (λ o m. entries-built ds 0 o (fine o m)) (all-at _ P.operators shut) (State ds)
            (λ o u m _ _ _ h. state-applied ds 0 o u (fine o m) h) plan from P.start s (state-built ds P.start ok.start) free ok.start leads in
            reaches-join _ P.start s P.goal (reaches_more _ _ _ _ (λ o m. append_left _ m) (plan, from, leads))
            (reaches_more _ _ _ _ (λ o m. append_right P.operators m) (forgot-goal out s t (never-out s t clean meets) meets))
