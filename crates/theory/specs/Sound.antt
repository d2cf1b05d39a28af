-- Weights that separate prove a task unsolvable: no state that a plan reaches holds a listed pair, and each has the start's parity.
use Rattle.std.specs.Prelude.{ℕ, ◌<◌, ◌≡◌, ◌≢◌, true, false, ◌&&◌, length}
use Rattle.std.proofs.Math.Path.{refl, ap}
use Rattle.std.proofs.Common.{sym, ◌∙◌, arith, ne_of_lt}
use Rattle.std.proofs.Math.Bool.{not}
use mathlib.Core.List.Memᴰ.{head as here}
use mathlib.Core.List.Memᴰ.{tail as there}
use mathlib.Core.List.{List, [], ◌∷◌, Memᴰ as In}
use borrow.Author.Tests.{eqb-true, not-true}
use Rattle.meaning.specs.Sets.{Set, listed}
use Rattle.meaning.specs.Task.{Entry, Operator, Task, State, Entries, names, applies, applied, value, size}
use Rattle.meaning.specs.Feature.{parity}
use Rattle.meaning.specs.Pair.{paired, possible, clashing, stuck, idle, clashing_after, uncovered, closed, holds}
use Rattle.meaning.specs.Weight.{Considered, Meets, Separates, Leads, Unsolvable}
use Rattle.meaning.specs.File.{Acceptable}
use Rattle.theory.specs.Truth.{on, off, test, less, same, more, order, clash}
use Rattle.theory.specs.Search.{and_left, and_right, or-neither, some_at, some-not, some-none, any-not, all-at, two-not, two_none, earlier-left, earlier-right, and_both, any_at}
use Rattle.theory.specs.Numbering.{both-mirror}
use Rattle.theory.specs.Operators.{after_of, unnamed-apart, by_name, in-fine, entries-rise, entries-earlier, field_at, applied-value, state-applied}

module _ (sizes : List ℕ) (pairs : Set) where
  pub paired-mirror : (i x j y : ℕ) → i ≢ j → paired sizes pairs i x j y ≡ paired sizes pairs j y i x
  unfolding paired
  paired-mirror i x j y d = ap pairs (both-mirror sizes i x j y d)

  -- A state that holds no listed pair.
  module _ (s : List ℕ) (t : State sizes s) (clean : holds sizes pairs s ≡ false) where
    pub none-paired : (i j : ℕ) → i < length sizes → j < length sizes → i ≢ j → paired sizes pairs i (value s i) j (value s j) ≡ false
    unfolding holds
    none-paired i j l k d = elim (order i j) [
      | less q ↦ some-none j _ (some-none (length sizes) _ clean j k) i q
      | same q ↦ absurd (d q)
      | more q ↦ paired-mirror i (value s i) j (value s j) d ∙ some-none i _ (some-none (length sizes) _ clean i l) j q
    ]

    -- An operator that applies in it.
    module _ (o : Operator) (h : Entries sizes 0 o) (a : applies o s ≡ true) where
      at_entry : (e : Entry) → In e o → value s e.variable ≡ e.before
      unfolding applies
      at_entry e m = eqb-true _ _ (all-at _ o a e m)

      pub others-possible : (u : ℕ) → u < length sizes → names o u ≡ false → possible sizes pairs o u (value s u) ≡ true
      unfolding possible
      others-possible u l q = ap not (any-not _ o (λ e m. rw (← at_entry e m) (none-paired e.variable u (in-fine sizes 0 o e m h).1 l (unnamed-apart o e u m q))))

      not-clashing : clashing sizes pairs o ≡ false
      unfolding clashing
      not-clashing = two-not _ o (λ e e' r. rw (← at_entry e (earlier-left r), ← at_entry e' (earlier-right r))
          (none-paired e.variable e'.variable (in-fine sizes 0 o e (earlier-left r) h).1 (in-fine sizes 0 o e' (earlier-right r) h).1 (ne_of_lt (entries-rise sizes 0 o e e' h r))))

      not_stuck : stuck sizes pairs o ≡ false
      unfolding stuck
      not_stuck = some-not _ _ (λ u l. elim (test (names o u)) [
        | on q ↦ rw q refl
        | off q ↦ rw (q, some_at (size sizes u) (possible sizes pairs o u) (value s u) (t.values u l) (others-possible u l q)) refl
      ])

      pub not-idle : idle sizes pairs o ≡ false
      unfolding idle
      not-idle = or-neither _ _ not-clashing not_stuck

      pub considered : Considered sizes pairs o s
      considered = record { is_state = t; has-before = a; elsewhere = others-possible }

      -- The pairs are closed under it.
      module _ (c : closed sizes pairs o ≡ true) where
        afters-free : (not (clashing_after sizes pairs o) && not (uncovered sizes pairs o)) ≡ true
        unfolding closed
        afters-free = rw not-idle at c

        two-afters : (e e' : Entry) → In e o → In e' o → e.variable < e'.variable → paired sizes pairs e.variable (after_of o e.variable) e'.variable (after_of o e'.variable) ≡ false
        unfolding clashing_after
        two-afters e e' m m' k = rw (field_at sizes _ 0 o e m h, field_at sizes _ 0 o e' m' h)
            (two_none _ o (not-true _ (and_left (not (clashing_after sizes pairs o)) (not (uncovered sizes pairs o)) afters-free)) e e' (entries-earlier sizes 0 o e e' h m m' k))

        named-named : (i j : ℕ) → i < j → names o i ≡ true → names o j ≡ true → paired sizes pairs i (after_of o i) j (after_of o j) ≡ false
        named-named i j l p q = by_name (λ n. n < j → paired sizes pairs n (after_of o n) j (after_of o j) ≡ false) o i
            (λ e m. by_name (λ n. e.variable < n → paired sizes pairs e.variable (after_of o e.variable) n (after_of o n) ≡ false) o j (λ e' m'. two-afters e e' m m') q) p l

        after-other : (e : Entry) (u : ℕ) → In e o → u < length sizes → names o u ≡ false → paired sizes pairs e.variable e.after u (value s u) ≡ false
        unfolding uncovered
        after-other e u m l q = elim (test (paired sizes pairs e.variable e.after u (value s u))) [
          | on r ↦ absurd (clash (any_at _ o e m (some_at _ _ u l (and_both (not (names o u)) _ (ap not q) (some_at _ _ (value s u) (t.values u l) (and_both _ _ r (others-possible u l q))))))
              (not-true _ (and_right (not (clashing_after sizes pairs o)) (not (uncovered sizes pairs o)) afters-free)))
          | off r ↦ r
        ]

        named_other : (i u : ℕ) → u < length sizes → names o i ≡ true → names o u ≡ false → paired sizes pairs i (after_of o i) u (value s u) ≡ false
        named_other i u l p q = by_name (λ n. paired sizes pairs n (after_of o n) u (value s u) ≡ false) o i (λ e m. rw (field_at sizes _ 0 o e m h) (after-other e u m l q)) p

        pub still-clean : holds sizes pairs (applied o s) ≡ false
        unfolding holds
        still-clean = some-not _ _ (λ j l. some-not _ _ (λ i k. rw (applied-value sizes 0 o s i h t.full, applied-value sizes 0 o s j h t.full) (elim (test (names o i)) [
          | on p ↦ elim (test (names o j)) [ on q ↦ rw (p, q) (named-named i j k p q) | off q ↦ rw (p, q) (named_other i j l p q) ]
          | off p ↦ elim (test (names o j)) [
            | on q ↦ rw (p, q) (paired-mirror i (value s i) j (after_of o j) (ne_of_lt k) ∙ named_other j i (omega arith) q p)
            | off q ↦ rw (p, q) (none-paired i j (omega arith) l (ne_of_lt k))
          ]
        ])))

  -- Operators under which the pairs are closed.
  module _ (operators : List Operator) (fine : (o : Operator) → In o operators → Entries sizes 0 o) (covered : (o : Operator) → In o operators → closed sizes pairs o ≡ true) where
    -- What each operator keeps in a clean state that it applies in, a plan keeps; and it leads to clean states.
    pub kept-along : (Kept : List ℕ → Type 0)
        → ((o : Operator) (s : List ℕ) → In o operators → State sizes s → holds sizes pairs s ≡ false → applies o s ≡ true → Kept s → Kept (applied o s))
        → (plan : List Operator) → ((o : Operator) → In o plan → In o operators) → (s end : List ℕ) → State sizes s → holds sizes pairs s ≡ false → Kept s → Leads plan s end
        → State sizes end × (holds sizes pairs end ≡ false) × Kept end
    kept-along Kept step [] from s end t clean k leads = rw (← leads) (t, clean, k)
    kept-along Kept step (o ∷ plan) from s end t clean k leads = let m = from o (here refl) in
        kept-along Kept step plan (λ x q. from x (there q)) (applied o s) end (state-applied sizes 0 o s (fine o m) t) (still-clean s t clean o (fine o m) leads.0 (covered o m))
        (step o s m t clean leads.0 k) leads.1

    -- Weights that meet their conditions.
    pub same-parity : (w : Set) → Meets sizes pairs operators w → (plan : List Operator) → ((o : Operator) → In o plan → In o operators) → (s end : List ℕ) → State sizes s
        → holds sizes pairs s ≡ false → Leads plan s end → parity sizes w end ≡ parity sizes w s
    same-parity w meets plan from s end t clean leads = (kept-along (λ u. parity sizes w u ≡ parity sizes w s)
        (λ o u m is free a e. meets o m (not-idle u is free o (fine o m) a) u (considered u is free o (fine o m) a) ∙ e) plan from s end t clean refl leads).2

pub sound : (T : Task) (w : Set) → Acceptable T → Separates T w → Unsolvable T
sound T w ok good plan from leads = good.ends (sym (same-parity T.sizes (listed T.pairs) T.operators (λ o m. (ok.operators o m).entries) ok.closed-under w good.keeps
    plan from T.start T.goal ok.start ok.free leads))
