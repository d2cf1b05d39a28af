-- Passes over the operators of a task: an operator is judged only where one of its before atoms may be touched, and after a pass that takes nothing out the list is closed under all of them.
use Prim.Native.Nat.{ℕ, suc, ◌+◌, ◌-◌, ◌<◌, ◌≤◌}
use Rattle.std.specs.Prelude.{◌≡◌, ◌⊎◌, Bool, true, false, not, ◌&&◌, ◌||◌}
use Rattle.std.proofs.Math.Path.{refl, sym, ap, subst}
use Rattle.std.proofs.Common.{◌∙◌, true≢false}
use Rattle.std.proofs.Math.Logic.{inl, inr}
use mathlib.Core.List.Memᴰ.{cases_cons}
use mathlib.Core.List.Memᴰ.{head as here}
use mathlib.Core.List.Memᴰ.{not-nil}
use mathlib.Core.List.Memᴰ.{tail as there}
use mathlib.Core.List.{List, [], ◌∷◌, Memᴰ as In}
use native.Mathlib.Omega.{arith}
use Rattle.std.proofs.Math.Nat.{sub-zero}
use Rattle.std.proofs.Math.ListN.{length}
use Rattle.meaning.specs.Sets.{Set, count, some, any_of, two_of}
use Rattle.meaning.specs.Task.{Operator, Task, names, size}
use Rattle.meaning.specs.Feature.{features, single}
use Rattle.meaning.specs.Pair.{closed, unclosed_pair}
use Rattle.meaning.specs.Number.{Reason, got, fault}
use Rattle.meaning.specs.File.{operator_of, operators_of}
use Rattle.meaning.specs.Workspace.{has}
use Rattle.meaning.specs.Mend.{Within}
use Rattle.theory.specs.Truth.{on, off, test, clash}
use Rattle.theory.specs.Search.{and_left, and_right, and_both, and-none-left, or-either, or-neither, or-none-left, or-none-right, some_at, some-get, any_at, any-get, any-not, two-not, two_none}
use Rattle.theory.specs.Count.{count-within}
use Rattle.theory.specs.Accepted.{Readable}
use Rattle.theory.specs.Mending.{Below, Narrowed, narrowed-self, narrowed-on, unclosed-narrowed, before_in, beside_in, touched_in, closed-steady, without-within}
use Rattle.theory.specs.Reading.{not-got, got-value, got-next}
use Rattle.operator.specs.Fold.{operators-apart, operators-fault, operators-none}
use Rattle.keeping.specs.Turn.{TurnTo, TurnBy}

-- ---- a turn that may be passed over

-- Whether an operator has to be judged: all of them in the first pass; later those to which atoms matter that were touched in the pass before, or in this one.
abbrev pub due : List ℕ → Bool → Set → Set → Operator → Bool
due sizes all old touched o = all || (touched_in sizes old o || touched_in sizes touched o)

-- An operator's turn, or nothing where it is passed over.
abbrev pub TurnIf : List ℕ → Bool → List ℕ → Operator → List ℕ → List ℕ → List ℕ → List ℕ → Bool → Type 0
TurnIf sizes all old o pairs₀ touched₀ pairs touched any =
    TurnBy sizes o pairs₀ touched₀ pairs touched any
    ⊎ ((due sizes all (has old) (has touched₀) o ≡ false) × (pairs ≡ pairs₀) × (touched ≡ touched₀) × (any ≡ false))

-- ---- one pass

-- A task's operators stand in the bytes.
pub record OperatorsAt (T : Task) (sizes bytes : List ℕ) (at count : ℕ) : Type 0 where
  pub known : Readable T
  pub sizes-are : sizes ≡ T.sizes
  pub end : ℕ
  pub read : operators_of T.sizes count bytes at ≡ got T.operators end

-- The list is closed under every operator that need not be judged again.
abbrev pub Settled : Task → Bool → Set → Set → Type 0
Settled T all touched pairs = (o : Operator) → In o T.operators → all ≡ false → touched_in T.sizes touched o ≡ false → closed T.sizes pairs o ≡ true

-- Before the operators that are left.
pub record PassAt (T : Task) (known : Readable T) (all : Bool) (old before : Set) (rest : List Operator) (now touched : Set) : Type 0 where
  pub from : (o : Operator) → In o rest → In o T.operators
  pub narrowed : Narrowed T known before now
  pub each : (o : Operator) → In o T.operators
      → (touched_in T.sizes touched o ≡ false → closed T.sizes now o ≡ true) ⊎ (In o rest × (due T.sizes all old touched o ≡ false → closed T.sizes now o ≡ true))

-- What a pass leaves: it tells truly whether something was taken out; nothing that goes is in a good sublist, and the list is closed under all operators with no before atom touched.
pub record PassTo (sizes bytes : List ℕ) (at many : ℕ) (all : Bool) (old pairs₀ pairs touched : List ℕ) (any : Bool) : Type 0 where
  pub long : length pairs ≡ length pairs₀
  pub quiet : any ≡ false → (has pairs ≡ has pairs₀) × ((a : ℕ) → has touched a ≡ false)
  pub fewer : any ≡ true → count (features sizes) (has pairs) < count (features sizes) (has pairs₀)
  pub passed : (T : Task) (stands : OperatorsAt T sizes bytes at many) → Below T stands.known (has pairs₀) → Settled T all (has old) (has pairs₀)
      → Narrowed T stands.known (has pairs₀) (has pairs) × Settled T false (has touched) (has pairs)

-- After k operators.
pub record PassBy (sizes bytes : List ℕ) (at many : ℕ) (all : Bool) (old pairs₀ : List ℕ) (k next : ℕ) (pairs touched : List ℕ) (any : Bool) : Type 0 where
  pub long : length pairs ≡ length pairs₀
  pub touched-long : length touched ≡ length old
  pub within : Within (has pairs) (has pairs₀)
  pub quiet : any ≡ false → (has pairs ≡ has pairs₀) × ((a : ℕ) → has touched a ≡ false)
  pub fewer : any ≡ true → count (features sizes) (has pairs) < count (features sizes) (has pairs₀)
  pub passed : (T : Task) (stands : OperatorsAt T sizes bytes at many) → Below T stands.known (has pairs₀) → Settled T all (has old) (has pairs₀)
      → (rest : List Operator) × (operators_of T.sizes (many - k) bytes next ≡ got rest stands.end) × PassAt T stands.known all (has old) (has pairs₀) rest (has pairs) (has touched)

-- ---- from operator to operator

-- Fewer atoms touch fewer operators.
touched-less : (sizes : List ℕ) (a b : Set) (o : Operator) → Within a b → touched_in sizes b o ≡ false → touched_in sizes a o ≡ false
unfolding touched_in beside_in
touched-less sizes a b o within e = or-neither _ _
    (two-not _ o (λ x x' r. elim (test (before_in sizes a x && before_in sizes a x')) [
      | on q ↦ absurd (clash (and_both _ _ (within _ (and_left (before_in sizes a x) (before_in sizes a x') q)) (within _ (and_right (before_in sizes a x) (before_in sizes a x') q)))
          (two_none _ o (or-none-left _ (any_of (before_in sizes b) o && beside_in sizes b o) e) x x' r))
      | off q ↦ q
    ]))
    (elim (test (any_of (before_in sizes a) o && beside_in sizes a o)) [
      | on q ↦ let (x, m, p) = any-get _ o (and_left (any_of (before_in sizes a) o) (beside_in sizes a o) q) in
          let (u, l, t) = some-get (length sizes) _ (and_right (any_of (before_in sizes a) o) (beside_in sizes a o) q) in
          let (y, k, z) = some-get (size sizes u) _ (and_right (not (names o u)) _ t) in
          absurd (clash (and_both (any_of (before_in sizes b) o) (beside_in sizes b o) (any_at _ o x m (within _ p))
          (some_at (length sizes) _ u l (and_both _ _ (and_left (not (names o u)) (some (size sizes u) (λ y. a (single sizes u y))) t) (some_at (size sizes u) _ y k (within _ z)))))
          (or-none-right (two_of (λ x x'. before_in sizes b x && before_in sizes b x') o) _ e))
      | off q ↦ q
    ])

touched_none : (sizes : List ℕ) (a : Set) (o : Operator) → ((x : ℕ) → a x ≡ false) → touched_in sizes a o ≡ false
unfolding touched_in
touched_none sizes a o none = or-neither _ _ (two-not _ o (λ x x' r. and-none-left (before_in sizes a x) _ (none _))) (and-none-left (any_of (before_in sizes a) o) _ (any-not _ o (λ x m. none _)))

due-parts : (a b c : Bool) → (a || (b || c)) ≡ false → (a ≡ false) × (b ≡ false) × (c ≡ false)
due-parts false false c e = (refl, refl, e)
due-parts false true c e = absurd (true≢false e)
due-parts true b c e = absurd (true≢false e)

due-less : (a b c d : Bool) → (a || (b || c)) ≡ false → d ≡ false → (a || (b || d)) ≡ false
due-less a b c d e q = let (x, y, z) = due-parts a b c e in rw (x, y) q

module _ (T : Task) (known : Readable T) (all : Bool) (old before : Set) (o : Operator) (others : List Operator) (now touched : Set)
    (at : PassAt T known all old before (o ∷ others) now touched) where
  -- An operator that is passed over.
  pass-over : due T.sizes all old touched o ≡ false → PassAt T known all old before others now touched
  pass-over e = record {
    from = λ p m. at.from p (there m);
    narrowed = at.narrowed;
    each = λ p m. elim (at.each p m) [
      | inl h ↦ inl h
      | inr h ↦ elim (cases_cons h.0) [ inl q ↦ inl (λ clear. h.1 (ap (due T.sizes all old touched) q ∙ e)) | inr k ↦ inr (k, h.1) ]
    ];
  }

  -- An operator's turn.
  pass-turn : (now' touched' : Set) (any : Bool) → Below T known before → TurnTo T.sizes o now touched now' touched' any → PassAt T known all old before others now' touched'
  pass-turn now' touched' any below turn = record {
    from = λ p m. at.from p (there m);
    narrowed = narrowed-on T known before now now' at.narrowed narrow;
    each = λ p m. elim (at.each p m) [
      | inl h ↦ inl (λ clear. steady p m clear (h (touched-less T.sizes touched touched' p turn.within clear)))
      | inr h ↦ elim (cases_cons h.0) [
        | inl q ↦ inl (λ clear. rw q (turn.settled (rw (← q) clear)))
        | inr k ↦ inr (
          k,
          λ e. let (x, y, clear) = due-parts all (touched_in T.sizes old p) (touched_in T.sizes touched' p) e in
              steady p m clear (h.1 (due-less all (touched_in T.sizes old p) _ _ e (touched-less T.sizes touched touched' p turn.within clear))),
        )
      ]
    ];
  }
    where
      narrow : Narrowed T known now now'
      narrow = elim turn.gone [
        | inl same ↦ rw same (narrowed-self T known now)
        | inr h ↦ unclosed-narrowed T known now now' o (λ f e. below f (at.narrowed.within f e)) (at.from o (here refl)) h.0 h.1
      ]

      steady : (p : Operator) → In p T.operators → touched_in T.sizes touched' p ≡ false → closed T.sizes now p ≡ true → closed T.sizes now' p ≡ true
      steady p m clear = closed-steady T.sizes now now' touched' narrow.within turn.touches p (known.operators p m).entries clear

-- ---- by what a loop finds at its turn

module _ (sizes bytes : List ℕ) (at many : ℕ) (all : Bool) (old pairs₀ : List ℕ) where
  pub pass-start : (touched : List ℕ) → length touched ≡ length old → ((a : ℕ) → has touched a ≡ false) → PassBy sizes bytes at many all old pairs₀ 0 at pairs₀ touched false
  pass-start touched long none = record {
    long = refl;
    touched-long = long;
    within = λ f e. e;
    quiet = λ e. (refl, none);
    fewer = λ e. absurd (true≢false (sym e));
    passed = λ T stands below settled. (
      T.operators,
      ap (λ k. operators_of T.sizes k bytes at) (sub-zero many) ∙ stands.read,
      record {
        from = λ o m. m;
        narrowed = narrowed-self T stands.known (has pairs₀);
        each = λ o m. inr (m, λ e. let (x, y, z) = due-parts all (touched_in T.sizes (has old) o) (touched_in T.sizes (has touched) o) e in settled o m x y);
      },
    );
  }

  module _ (k next : ℕ) (pairs touched : List ℕ) (any : Bool) (by : PassBy sizes bytes at many all old pairs₀ k next pairs touched any) where
    pub pass-end : many ≤ k → PassTo sizes bytes at many all old pairs₀ pairs touched any
    pass-end l = record {
      long = by.long;
      quiet = by.quiet;
      fewer = by.fewer;
      passed = λ T stands below settled. let (rest, read, stand) = by.passed T stands below settled in
          let none : rest ≡ [] = got-value (sym read ∙ operators-none T.sizes bytes many k next l) in (
            stand.narrowed,
            λ o m x clear. elim (stand.each o m) [ inl h ↦ h clear | inr h ↦ absurd (not-nil (subst (In o) none h.0)) ],
          );
    }

    -- Operators that were read before can be read again.
    pub pass-unread : (reason : Reason) (place : ℕ) → k < many → operator_of sizes bytes next ≡ fault reason place → PassTo sizes bytes at many all old pairs₀ pairs touched any
    pass-unread reason place l read = record {
      long = by.long;
      quiet = by.quiet;
      fewer = by.fewer;
      passed = λ T stands below settled. let (rest, all_read, stand) = by.passed T stands below settled in
          absurd (not-got (sym (operators-fault T.sizes bytes many k next _ place l (ap (λ s. operator_of s bytes next) (sym stands.sizes-are) ∙ read)) ∙ all_read));
    }

    pub pass-next : (o : Operator) (after : ℕ) (pairs' touched' : List ℕ) (one any' : Bool) → k < many → operator_of sizes bytes next ≡ got o after
        → TurnIf sizes all old o pairs touched pairs' touched' one → any' ≡ (any || one) → PassBy sizes bytes at many all old pairs₀ (k + 1) after pairs' touched' any'
    pass-next o after pairs' touched' one any' l read turn told = record {
      long = longs.0 ∙ by.long;
      touched-long = longs.1 ∙ by.touched-long;
      within = λ f e. by.within f (less f e);
      quiet = λ e. let q = sym told ∙ e in
          let (p, t) = still (or-none-right any one q) in
          let (p₀, t₀) = by.quiet (or-none-left any one q) in
          (p ∙ p₀, λ a. ap (λ s. s a) t ∙ t₀ a);
      fewer = λ e. elim (or-either any one (sym told ∙ e)) [
        | inl x ↦ omega (arith, by.fewer x, count-within (features sizes) (has pairs') (has pairs) less)
        | inr y ↦ omega (arith, gone y, count-within (features sizes) (has pairs) (has pairs₀) by.within)
      ];
      passed = λ T stands below settled. let (rest, all_read, stand) = by.passed T stands below settled in
          let left : many - k ≡ suc (many - (k + 1)) = omega arith in
          let (p, others, middle, apart, first, others-read) = operators-apart T.sizes bytes (many - (k + 1)) next rest stands.end (ap (λ j. operators_of T.sizes j bytes next) (sym left) ∙ all_read) in
          let same : got p middle ≡ got o after = sym first ∙ ap (λ s. operator_of s bytes next) (sym stands.sizes-are) ∙ read in (
            others,
            ap (operators_of T.sizes (many - (k + 1)) bytes) (sym (got-next same)) ∙ others-read,
            went T stands.known stands.sizes-are others below (subst (λ os. PassAt T stands.known all (has old) (has pairs₀) os (has pairs) (has touched)) (apart ∙ ap (λ x. x ∷ others) (got-value same)) stand),
          );
    }
      where
        longs : (length pairs' ≡ length pairs) × (length touched' ≡ length touched)
        longs = elim turn [ inl t ↦ (t.long, t.touched-long) | inr h ↦ (ap length h.1, ap length h.2) ]

        still : one ≡ false → (has pairs' ≡ has pairs) × (has touched' ≡ has touched)
        still e = elim turn [ inl t ↦ t.turn.told.quiet e | inr h ↦ (ap has h.1, ap has h.2) ]

        gone : one ≡ true → count (features sizes) (has pairs') < count (features sizes) (has pairs)
        gone e = elim turn [ inl t ↦ t.turn.told.fewer e | inr h ↦ absurd (clash e h.3) ]

        less : Within (has pairs') (has pairs)
        less f e = elim turn [
          | inl t ↦ elim t.turn.gone [
            | inl q ↦ ap (λ s. s f) (sym q) ∙ e
            | inr h ↦ without-within (has pairs) (unclosed_pair sizes (has pairs) o) (has pairs') h.1 f e
          ]
          | inr h ↦ ap (λ l. has l f) (sym h.1) ∙ e
        ]

        went : (T : Task) (known : Readable T) → sizes ≡ T.sizes → (others : List Operator) → Below T known (has pairs₀)
            → PassAt T known all (has old) (has pairs₀) (o ∷ others) (has pairs) (has touched) → PassAt T known all (has old) (has pairs₀) others (has pairs') (has touched')
        went T known sizes-are others below stand = elim turn [
          | inl t ↦ pass-turn T known all (has old) (has pairs₀) o others (has pairs) (has touched) stand (has pairs') (has touched') one below
              (subst (λ s. TurnTo s o (has pairs) (has touched) (has pairs') (has touched') one) sizes-are t.turn)
          | inr h ↦ rw (h.1, h.2) (pass-over T known all (has old) (has pairs₀) o others (has pairs) (has touched) stand
              (subst (λ s. due s all (has old) (has touched) o ≡ false) sizes-are h.0))
        ]

-- ---- pass after pass

-- After some passes: nothing that went is in a good sublist.
pub record SettledTo (sizes bytes : List ℕ) (at many : ℕ) (pairs₀ : List ℕ) (first : Bool) (touched pairs : List ℕ) : Type 0 where
  pub long : length pairs ≡ length pairs₀
  pub settled : (T : Task) (stands : OperatorsAt T sizes bytes at many) → Below T stands.known (has pairs₀)
      → Narrowed T stands.known (has pairs₀) (has pairs) × Settled T first (has touched) (has pairs)

-- What is left after all of them.
pub record Settles (sizes bytes : List ℕ) (at many : ℕ) (pairs₀ pairs : List ℕ) : Type 0 where
  pub settles : (T : Task) (stands : OperatorsAt T sizes bytes at many) → Below T stands.known (has pairs₀)
      → Narrowed T stands.known (has pairs₀) (has pairs) × ((o : Operator) → In o T.operators → closed T.sizes (has pairs) o ≡ true)

module _ (sizes bytes : List ℕ) (at many : ℕ) (pairs₀ : List ℕ) where
  module _ (first : Bool) (touched pairs : List ℕ) (to : SettledTo sizes bytes at many pairs₀ first touched pairs)
      (fresh pairs' : List ℕ) (any : Bool) (pass : PassTo sizes bytes at many first touched pairs pairs' fresh any) where
    pub settled-next : SettledTo sizes bytes at many pairs₀ false fresh pairs'
    settled-next = record {
      long = pass.long ∙ to.long;
      settled = λ T stands below. let (narrowed, shut) = to.settled T stands below in
          let (further, shut') = pass.passed T stands (λ f e. below f (narrowed.within f e)) shut in
          (narrowed-on T stands.known (has pairs₀) (has pairs) (has pairs') narrowed further, shut');
    }

    -- Once a pass took nothing out the list is closed under every operator.
    pub settled-all : any ≡ false → Settles sizes bytes at many pairs₀ pairs'
    settled-all e = record {
      settles = λ T stands below. let (narrowed, shut) = settled-next.settled T stands below in
          (narrowed, λ o m. shut o m refl (touched_none T.sizes (has fresh) o (pass.quiet e).1));
    }
