-- A walk over the listed pairs: the next one with its block, what is known where the walk has come to one, and how it decides whether the list is closed.
use Rattle.std.specs.Prelude.{ℕ, suc, ◌+◌, ◌-◌, ◌*◌, ◌<◌, ◌≤◌, ◌≡◌, Bool, true, false, not, ◌&&◌, ◌||◌, eqb, ltb, Option, Some, None, is_some, IfSome, IfNone, length}
use Rattle.std.proofs.Math.Path.{refl}
use Rattle.std.proofs.Common.{sym, ap, ◌∙◌, arith, ltb-true, ltb-false, true≢false}
use mathlib.Core.List.{List, Memᴰ as In}
use Rattle.meaning.specs.Limits.{word_bits}
use Rattle.meaning.specs.Task.{Entry, Operator, Entries, names, size}
use Rattle.meaning.specs.Feature.{atoms, features, single}
use Rattle.meaning.specs.Workspace.{has}
use Rattle.meaning.specs.Pair.{idle, closed, unclosed_pair}
use Rattle.theory.specs.Truth.{on, off, test, less, same, more, order}
use Rattle.theory.specs.Search.{and_both, and-none-left, and-none-right, or_right, or-neither, some_at, some-not}
use Rattle.theory.specs.Operators.{names_in, field_at}
use Rattle.theory.specs.Closed.{listed_unclosed, leaves, unclosed-above, closed-by-pairs, unclosed_at}
use Rattle.numbering.specs.Order.{Contains, Joins}
use Rattle.words.specs.Next.{Next, Clear}
use Rattle.pairs.specs.declared.PairAt.{PairAt}
use Rattle.pairs.specs.Ready.{HoldsPossible}
use Rattle.pairs.specs.Judge.{possible-word}

-- ---- from pair to pair

-- A listed pair with its block.
pub record ListedAt (sizes words : List ℕ) (pair : PairAt) : Type 0 where
  pub below : pair.feature < features sizes
  pub listed : has words pair.feature ≡ true
  pub holds : Contains sizes pair.block pair.feature

-- The place that a walk has come to: its pair, or the end of all features.
abbrev pub place_in : List ℕ → Option PairAt → ℕ
place_in sizes None = features sizes
place_in sizes (Some pair) = pair.feature

-- The next listed pair from a feature on, if there is one; if there is none, the next member is no feature's.
pub record Found (sizes words : List ℕ) (start : ℕ) (next : Option PairAt) : Type 0 where
  pub above : start ≤ place_in sizes next
  pub clear : Clear (has words) start (place_in sizes next)
  pub listed : IfSome next (ListedAt sizes words)
  pub past : IfNone next ((f : ℕ) × (features sizes ≤ f) × Next (has words) (word_bits * length words) start f)

-- A walk from a feature on has come to a listed pair, or past all: none of the listed pairs that it has passed is unclosed.
pub record Reached (sizes words : List ℕ) (o : Operator) (start : ℕ) (next : Option PairAt) : Type 0 where
  pub above : start ≤ place_in sizes next
  pub none : Clear (listed_unclosed sizes (has words) o) start (place_in sizes next)
  pub listed : IfSome next (ListedAt sizes words)

pub place-below : (sizes words : List ℕ) (next : Option PairAt) → IfSome next (ListedAt sizes words) → place_in sizes next ≤ features sizes
place-below sizes words None h = omega arith
place-below sizes words (Some pair) h = omega (arith, h.below)

-- How many features are left behind the place of a walk, and one more where it stands at a pair.
abbrev pub pairs_left : ℕ → Option PairAt → ℕ
pairs_left end None = 0
pairs_left end (Some pair) = suc (end - pair.feature)

pub left-fewer : (sizes words : List ℕ) (end : ℕ) (pair : PairAt) (next : Option PairAt) → end ≡ features sizes → Found sizes words (pair.feature + 1) next → pairs_left end next < pairs_left end (Some pair)
left-fewer sizes words end pair None all found = omega arith
left-fewer sizes words end pair (Some next) all found = omega (arith, all, found.above, found.listed.below)

module _ (sizes words : List ℕ) (o : Operator) where
  -- It begins at the next listed pair.
  pub reached-first : (start : ℕ) (next : Option PairAt) → Found sizes words start next → Reached sizes words o start next
  reached-first start next found = record { above = found.above; none = λ f l k. and-none-left (has words f) _ (found.clear f l k); listed = found.listed }

  -- From a pair that is not unclosed to the next one.
  pub reached-next : (start : ℕ) (pair : PairAt) (next : Option PairAt) → Reached sizes words o start (Some pair) → unclosed_pair sizes (has words) o pair.feature ≡ false
      → Found sizes words (pair.feature + 1) next → Reached sizes words o start next
  reached-next start pair next reached fine found = record {
    above = omega (arith, reached.above, found.above);
    none = λ f l k. elim (order f pair.feature) [
      | less m ↦ reached.none f l m
      | same m ↦ ap (listed_unclosed sizes (has words) o) m ∙ and-none-right (has words pair.feature) _ fine
      | more m ↦ and-none-left (has words f) _ (found.clear f (omega arith) k)
    ];
    listed = found.listed;
  }

module _ (sizes words : List ℕ) (o : Operator) (fine : Entries sizes 0 o) where
  -- What a walk over all pairs has passed is not unclosed, and neither is a single atom.
  pub passed-fine : (next : Option PairAt) → Reached sizes words o (atoms sizes) next → (f : ℕ) → f < place_in sizes next → listed_unclosed sizes (has words) o f ≡ false
  passed-fine next reached f l = elim (test (ltb f (atoms sizes))) [
    | on e ↦ and-none-right (has words f) _ (unclosed-above sizes (has words) o f (ltb-true f (atoms sizes) e))
    | off e ↦ reached.none f (ltb-false f (atoms sizes) e) l
  ]

  -- A walk over all pairs that has come past all features.
  pub closed-past : Reached sizes words o (atoms sizes) None → closed sizes (has words) o ≡ true
  closed-past reached = closed-by-pairs sizes (has words) o fine
      ∙ or_right (idle sizes (has words) o) _ (ap not (some-not (features sizes) _ (passed-fine None reached)))

  -- A walk that has come to an unclosed pair.
  pub closed-broken : (pair : PairAt) → ListedAt sizes words pair → idle sizes (has words) o ≡ false → unclosed_pair sizes (has words) o pair.feature ≡ true → closed sizes (has words) o ≡ false
  closed-broken pair at busy e = closed-by-pairs sizes (has words) o fine
      ∙ or-neither _ _ busy (ap not (some_at (features sizes) _ pair.feature at.below (and_both _ _ at.listed e)))

  -- The first unclosed pair, or that there is none, decides.
  pub closed-found : (next : Option PairAt) (none : Bool) → is_some next ≡ not none → idle sizes (has words) o ≡ false → Reached sizes words o (atoms sizes) next
      → IfSome next (λ pair. unclosed_pair sizes (has words) o pair.feature ≡ true) → none ≡ closed sizes (has words) o
  closed-found None true e busy reached told = sym (closed-past reached)
  closed-found None false e busy reached told = absurd (true≢false (sym e))
  closed-found (Some pair) true e busy reached told = absurd (true≢false e)
  closed-found (Some pair) false e busy reached told = sym (closed-broken pair reached.listed busy told)

-- ---- a pair by its atoms

module _ (sizes pairs : List ℕ) (o : Operator) (fine : Entries sizes 0 o) where
  -- An operator leaves of a variable that it names the after value,
  pub leaves_entry : (i x : ℕ) (e : Entry) → In e o → e.variable ≡ i → leaves sizes (has pairs) o i x ≡ eqb e.after x
  unfolding leaves
  leaves_entry i x e here q = rw (← q, names_in o e here, field_at sizes (λ e. e.after) 0 o e here fine) refl

  -- and of another one what the table has.
  pub leaves_word : (words : List ℕ) (i x : ℕ) → HoldsPossible sizes (has pairs) o words → i < length sizes → x < size sizes i → names o i ≡ false
      → leaves sizes (has pairs) o i x ≡ has words (single sizes i x)
  unfolding leaves
  leaves_word words i x t l k q = rw q (sym (possible-word sizes (has pairs) o words t i x l k q))

  module _ (f i x j y : ℕ) (joins : Joins sizes f i x j y) where
    atoms-decide : unclosed_pair sizes (has pairs) o f ≡ ((names o i || names o j) && (leaves sizes (has pairs) o i x && leaves sizes (has pairs) o j y))
    atoms-decide = ap (unclosed_pair sizes (has pairs) o) joins.number
        ∙ unclosed_at sizes (has pairs) o fine i x j y joins.ordered joins.place joins.first joins.second

    pub unnamed-closed : names o i ≡ false → names o j ≡ false → unclosed_pair sizes (has pairs) o f ≡ false
    unnamed-closed p q = atoms-decide ∙ and-none-left (names o i || names o j) _ (or-neither _ _ p q)

    pub named-decided : (names o i || names o j) ≡ true → unclosed_pair sizes (has pairs) o f ≡ (leaves sizes (has pairs) o i x && leaves sizes (has pairs) o j y)
    named-decided q = atoms-decide ∙ rw q refl
