-- The listed pairs that are unclosed under an operator, marked one after another with their atoms; and whether a set of atoms may matter to an operator, entry after entry.
use Rattle.std.specs.Prelude.{ℕ, ◌+◌, ◌<◌, ◌≤◌, ◌≡◌, refl, Bool, true, ◌&&◌, ◌||◌, Option, Some, None, IfSome, eqb, ltb, drop, replicate}
use Rattle.std.proofs.Math.Path.{sym, ap}
use Rattle.std.proofs.Common.{◌∙◌, subst, arith, true≢false, add-one, drop-cons, drop_of_length-le, eqb-true, eq-eqb, ne_eqb, ltb-true, ltb-false, lt-ltb, le-ltb}
use Rattle.std.proofs.Math.Bool.{false}
use Rattle.std.proofs.Math.ListN.{length}
use Rattle.std.proofs.lemmas.List.{length-replicate}
use mathlib.Core.List.{List, ◌∷◌}
use Rattle.meaning.specs.Sets.{Set, ◌⊕◌, any_of, two_of}
use Rattle.meaning.specs.Task.{Operator, Entries}
use Rattle.meaning.specs.Feature.{atoms, features, single}
use Rattle.meaning.specs.Pair.{unclosed_pair}
use Rattle.meaning.specs.Workspace.{has}
use Rattle.meaning.specs.Mend.{Within}
use Rattle.theory.specs.Truth.{on, off, test, clash, less, same, more, order}
use Rattle.theory.specs.Search.{and_left, and_both, and-none-right, or_left, or_right, any_at, any-not, two-get, earlier-left}
use Rattle.theory.specs.Numbering.{single-below, double-only}
use Rattle.theory.specs.Closed.{listed_unclosed, unclosed-above, unclosed-below}
use Rattle.theory.specs.Mending.{before_in, beside_in, touched_in}
use Rattle.theory.specs.Walk.{entry_at}
use Rattle.theory.specs.Given.{entry_of}
use Rattle.numbering.specs.Order.{Joins}
use Rattle.words.specs.Change.{toggled, length-toggled, has-toggled, Includes}
use Rattle.words.specs.Part.{has-none}
use Rattle.pairs.specs.declared.PairAt.{PairAt}
use Rattle.pairs.specs.Ready.{Listed}
use Rattle.pairs.specs.Walk.{ListedAt, place_in, pairs_left, Reached}

-- ---- the atoms of a pair

-- A set of atoms with the two of feature f put in.
pub record Touched (sizes : List ℕ) (f : ℕ) (before now : List ℕ) : Type 0 where
  pub long : length now ≡ length before
  pub within : Within (has before) (has now)
  pub both-in : (i x j y : ℕ) → Joins sizes f i x j y → (has now (single sizes i x) ≡ true) × (has now (single sizes j y) ≡ true)

-- The atoms of a feature are atoms.
pub atom-room : (sizes : List ℕ) (f i x j y : ℕ) → Joins sizes f i x j y → (i < length sizes) × (single sizes i x < atoms sizes) × (single sizes j y < atoms sizes)
atom-room sizes f i x j y joins = (omega (arith, joins.ordered, joins.place), single-below sizes i x joins.first, single-below sizes j y joins.second)

both-put : (sizes : List ℕ) (f i x j y : ℕ) (before middle now : List ℕ) → Joins sizes f i x j y → Includes before (single sizes i x) middle → Includes middle (single sizes j y) now
    → Touched sizes f before now
both-put sizes f i x j y before middle now joins first second = record {
  long = second.long ∙ first.long;
  within = λ g e. further g (first.each g ∙ or_right (eqb g (single sizes i x)) (has before g) e);
  both-in = λ i' x' j' y' other.
      let (a, b, c, d) = double-only sizes i x j y i' x' j' y' joins.ordered other.ordered joins.first joins.second other.first other.second (sym joins.number ∙ other.number) in
      rw (← a, ← b, ← c, ← d) (
        further _ (first.each _ ∙ or_left (eqb (single sizes i x) (single sizes i x)) (has before (single sizes i x)) (eq-eqb (single sizes i x) _ refl)),
        second.each _ ∙ or_left (eqb (single sizes j y) (single sizes j y)) (has middle (single sizes j y)) (eq-eqb (single sizes j y) _ refl),
      );
}
  where
    further : (g : ℕ) → has middle g ≡ true → has now g ≡ true
    further g e = second.each g ∙ or_right (eqb g (single sizes j y)) (has middle g) e

pub touched-both : (sizes : List ℕ) (f i x j y a b : ℕ) (before middle now : List ℕ) → Joins sizes f i x j y → a ≡ single sizes i x → Includes before a middle → b ≡ single sizes j y
    → Includes middle b now → Touched sizes f before now
touched-both sizes f i x j y a b before middle now joins here first' there second' =
    both-put sizes f i x j y before middle now joins (subst (λ n. Includes before n middle) here first') (subst (λ n. Includes middle n now) there second')

-- ---- what matters to an operator, entry after entry

-- Whether it is touched, by the entries that are left, where a before atom was met among those before them or none was.
abbrev pub awaited : List ℕ → Set → Bool → Operator → Bool → Bool
awaited sizes touched beside rest true = any_of (before_in sizes touched) rest || beside
awaited sizes touched beside rest false = two_of (λ e e'. before_in sizes touched e && before_in sizes touched e') rest || (any_of (before_in sizes touched) rest && beside)

-- From entry to entry.
module _ (sizes : List ℕ) (touched : Set) (o : Operator) where
  -- Of all entries, where none was met yet, that is what is asked.
  abbrev pub left-from : ℕ → Bool → Bool
  left-from k = awaited sizes touched (beside_in sizes touched o) (drop k o)

  pub left-start : left-from 0 false ≡ touched_in sizes touched o
  unfolding touched_in
  left-start = refl

  pub left-end : (k : ℕ) (met : Bool) → length o ≤ k → left-from k met ≡ (met && beside_in sizes touched o)
  unfolding any_of two_of
  left-end k true h = rw (drop_of_length-le o {i = k} h) refl
  left-end k false h = rw (drop_of_length-le o {i = k} h) refl

  module _ (k : ℕ) (inside : k < length o) where
    split : drop k o ≡ entry_at o k ∷ drop (k + 1) o
    split = drop-cons o k (entry_of 0 0 0) inside ∙ ap (λ j. entry_at o k ∷ drop j o) (sym (add-one k))

    pub left-second : before_in sizes touched (entry_at o k) ≡ true → left-from k true ≡ true
    unfolding any_of
    left-second e = rw (split, e) refl

    pub left-first : before_in sizes touched (entry_at o k) ≡ true → left-from k false ≡ left-from (k + 1) true
    unfolding any_of two_of
    left-first e = rw (split, e) (ap (λ b. b || beside_in sizes touched o) (absorbed _ _ two-any))
      where
        absorbed : (a b : Bool) → (b ≡ true → a ≡ true) → (a || b) ≡ a
        absorbed true b h = refl
        absorbed false true h = absurd (true≢false (sym (h refl)))
        absorbed false false h = refl

        two-any : two_of (λ e e'. before_in sizes touched e && before_in sizes touched e') (drop (k + 1) o) ≡ true → any_of (before_in sizes touched) (drop (k + 1) o) ≡ true
        two-any q = let (x, x', r, z) = two-get _ (drop (k + 1) o) q in any_at _ _ x (earlier-left r) (and_left (before_in sizes touched x) (before_in sizes touched x') z)

    pub left-next : (met : Bool) → before_in sizes touched (entry_at o k) ≡ false → left-from k met ≡ left-from (k + 1) met
    unfolding any_of two_of
    left-next true e = rw (split, e) refl
    left-next false e = rw (split, e, any-not (λ e'. false) (drop (k + 1) o) (λ e' m. refl)) refl

-- ---- marks

-- The walk comes nearer to the end.
pub reached-fewer : (sizes pairs : List ℕ) (o : Operator) (end : ℕ) (pair : PairAt) (next : Option PairAt) → end ≡ features sizes → Reached sizes pairs o (pair.feature + 1) next
    → pairs_left end next < pairs_left end (Some pair)
reached-fewer sizes pairs o end pair None all reached = omega arith
reached-fewer sizes pairs o end pair (Some next) all reached = omega (arith, all, reached.above, reached.listed.below)

module _ (sizes pairs : List ℕ) (o : Operator) (touched₀ : List ℕ) where
  -- Below a feature all that is unclosed is marked, and the atoms of what is marked are touched.
  pub record MarkedTo (f : ℕ) (gone touched : List ℕ) : Type 0 where
    pub gone_long : length gone ≡ length pairs
    pub touched-long : length touched ≡ length touched₀
    pub each : (g : ℕ) → has gone g ≡ (ltb g f && listed_unclosed sizes (has pairs) o g)
    pub within : Within (has touched₀) (has touched)
    pub touches : (g i x j y : ℕ) → has gone g ≡ true → Joins sizes g i x j y → (has touched (single sizes i x) ≡ true) × (has touched (single sizes j y) ≡ true)
    pub untouched : ((g : ℕ) → has gone g ≡ false) → touched ≡ touched₀

  -- What is known where the walk has come to a pair, or past all.
  pub record Marking (next : Option PairAt) (gone touched : List ℕ) : Type 0 where
    pub marked : MarkedTo (place_in sizes next) gone touched
    pub at : IfSome next (ListedAt sizes pairs)
    pub told : IfSome next (λ pair. unclosed_pair sizes (has pairs) o pair.feature ≡ true)

  -- All of it.
  pub record Marked (gone touched : List ℕ) : Type 0 where
    pub gone_long : length gone ≡ length pairs
    pub touched-long : length touched ≡ length touched₀
    pub each : (g : ℕ) → has gone g ≡ listed_unclosed sizes (has pairs) o g
    pub within : Within (has touched₀) (has touched)
    pub touches : (g i x j y : ℕ) → has gone g ≡ true → Joins sizes g i x j y → (has touched (single sizes i x) ≡ true) × (has touched (single sizes j y) ≡ true)
    pub untouched : ((g : ℕ) → has gone g ≡ false) → touched ≡ touched₀

  -- Up to the first that is unclosed nothing is.
  pub marked_start : (first : Option PairAt) → Reached sizes pairs o (atoms sizes) first → (gone : List ℕ) → gone ≡ replicate (length pairs) 0 → MarkedTo (place_in sizes first) gone touched₀
  marked_start first reached gone none = record {
    gone_long = ap length none ∙ length-replicate {A = ℕ} (length pairs) 0;
    touched-long = refl;
    each = λ g. empty g ∙ sym (elim (test (ltb g (place_in sizes first))) [
      | on e ↦ and-none-right (ltb g (place_in sizes first)) _ (elim (test (ltb g (atoms sizes))) [
        | on q ↦ and-none-right (has pairs g) _ (unclosed-above sizes (has pairs) o g (ltb-true g _ q))
        | off q ↦ reached.none g (ltb-false g _ q) (ltb-true g _ e)
      ])
      | off e ↦ rw e refl
    ]);
    within = λ a e. e;
    touches = λ g i x j y e. absurd (clash e (empty g));
    untouched = λ h. refl;
  }
    where
      empty : (g : ℕ) → has gone g ≡ false
      empty g = ap (λ l. has l g) none ∙ has-none (length pairs) g

  -- One more is marked, and none stands between it and the next one.
  module _ (listed : Listed sizes pairs) (pair : PairAt) (gone touched : List ℕ) (marked : MarkedTo pair.feature gone touched) (at : ListedAt sizes pairs pair)
      (unclosed : unclosed_pair sizes (has pairs) o pair.feature ≡ true) where
    here : listed_unclosed sizes (has pairs) o pair.feature ≡ true
    here = and_both (has pairs pair.feature) (unclosed_pair sizes (has pairs) o pair.feature) at.listed unclosed

    pub marked_next : (gone' touched' : List ℕ) (next : Option PairAt) → gone' ≡ toggled gone pair.feature → Touched sizes pair.feature touched touched'
        → Reached sizes pairs o (pair.feature + 1) next → MarkedTo (place_in sizes next) gone' touched'
    marked_next gone' touched' next toggles touch reached = record {
      gone_long = ap length toggles ∙ length-toggled gone pair.feature ∙ marked.gone_long;
      touched-long = touch.long ∙ marked.touched-long;
      each = each;
      within = λ a e. touch.within a (marked.within a e);
      touches = λ g i x j y e joins. elim (test (eqb g pair.feature)) [
        | on q ↦ touch.both-in i x j y (rw (← eqb-true g pair.feature q) joins)
        | off q ↦ let (a, b) = marked.touches g i x j y (old g q ∙ e) joins in (touch.within _ a, touch.within _ b)
      ];
      untouched = λ h. absurd (clash (changed pair.feature ∙ rw (eq-eqb pair.feature pair.feature refl, marked.each pair.feature, le-ltb pair.feature pair.feature (omega arith)) refl) (h pair.feature));
    }
      where
        changed : (g : ℕ) → has gone' g ≡ eqb g pair.feature ⊕ has gone g
        changed g = ap (λ l. has l g) toggles ∙ has-toggled gone pair.feature g (omega (arith, at.below, marked.gone_long, listed.due))

        old : (g : ℕ) → eqb g pair.feature ≡ false → has gone g ≡ has gone' g
        old g q = sym (changed g ∙ rw q refl)

        between : (g : ℕ) → pair.feature < g → g < place_in sizes next → listed_unclosed sizes (has pairs) o g ≡ false
        between g l k = reached.none g (omega arith) k

        each : (g : ℕ) → has gone' g ≡ (ltb g (place_in sizes next) && listed_unclosed sizes (has pairs) o g)
        each g = changed g ∙ elim (order g pair.feature) [
          | less l ↦ rw (ne_eqb g pair.feature (omega arith), marked.each g, lt-ltb g pair.feature l, lt-ltb g (place_in sizes next) (omega (arith, reached.above))) refl
          | same l ↦ rw (l, eq-eqb pair.feature pair.feature refl, marked.each pair.feature, le-ltb pair.feature pair.feature (omega arith), lt-ltb pair.feature (place_in sizes next) (omega (arith, reached.above))) (sym here)
          | more l ↦ rw (ne_eqb g pair.feature (omega arith), marked.each g, le-ltb g pair.feature (omega arith)) (sym (elim (test (ltb g (place_in sizes next))) [
            | on e ↦ and-none-right (ltb g (place_in sizes next)) _ (between g l (ltb-true g _ e))
            | off e ↦ rw e refl
          ]))
        ]

  -- Past the last feature.
  pub marked_all : Entries sizes 0 o → (next : Option PairAt) (gone touched : List ℕ) → next ≡ None → Marking next gone touched → Marked gone touched
  marked_all fine next gone touched end marking = let marked : MarkedTo (features sizes) gone touched = subst (λ n. MarkedTo (place_in sizes n) gone touched) end marking.marked in record {
    gone_long = marked.gone_long;
    touched-long = marked.touched-long;
    each = λ g. marked.each g ∙ elim (test (unclosed_pair sizes (has pairs) o g)) [
      | on e ↦ rw (lt-ltb g (features sizes) (unclosed-below sizes (has pairs) o fine g e)) refl
      | off e ↦ let none = and-none-right (has pairs g) (unclosed_pair sizes (has pairs) o g) e in and-none-right (ltb g (features sizes)) _ none ∙ sym none
    ];
    within = marked.within;
    touches = marked.touches;
    untouched = marked.untouched;
  }
