-- What the routines ask: the listed pairs as words, an operator within its task's limits, and the table of its possible atoms.
use Rattle.std.specs.Prelude.{ℕ, suc, ◌+◌, ◌*◌, ◌<◌, ◌≤◌, ◌≡◌, ◌≢◌, false, length}
use Rattle.std.specs.Coded.{Unit-prop}
use Rattle.std.proofs.Props.{props}
use Rattle.std.proofs.Common.{arith}
use mathlib.Core.List.{List, [], ◌∷◌}
use Rattle.meaning.specs.Sets.{Set}
use Rattle.meaning.specs.Limits.{word_bits, most_features}
use Rattle.meaning.specs.Task.{Entry, Operator, Entries, IsOperator, names, size}
use Rattle.meaning.specs.Feature.{atoms, features, single, both}
use Rattle.meaning.specs.File.{InLimits}
use Rattle.meaning.specs.Workspace.{words_for, has}
use Rattle.theory.specs.Flat.{get_d-in}
use Rattle.theory.specs.Operators.{in-fine, unnamed-apart}
use Rattle.theory.specs.Numbering.{single-below, both_below}
use Rattle.theory.specs.Possible.{possible_atoms}
use Rattle.theory.specs.Given.{Given}
use Rattle.theory.specs.Walk.{entry_at}
use Rattle.numbering.specs.Sizes.{atoms-limit}

-- ---- what is asked

-- Sizes within every limit, and as many words of listed pairs as are due for them.
pub record Listed (sizes pairs : List ℕ) : Type 0 where
  pub limits : InLimits sizes
  pub due : length pairs ≡ words_for (features sizes)

-- An operator ready to be judged.
pub record Ready (sizes pairs : List ℕ) (o : Operator) : Type 0 where
  pub limits : InLimits sizes
  pub due : length pairs ≡ words_for (features sizes)
  pub entries : Entries sizes 0 o

-- Words with room for every atom, which hold the possible ones.
pub record HoldsPossible (sizes : List ℕ) (pairs : Set) (o : Operator) (words : List ℕ) : Type 0 where
  pub room : atoms sizes ≤ word_bits * length words
  pub each : (f : ℕ) → has words f ≡ possible_atoms sizes pairs o f

-- Each of these has one proof.
Entries-prop : (sizes : List ℕ) (low : ℕ) (o : Operator) → IsProp (Entries sizes low o)
Entries-prop sizes low [] = Unit-prop
Entries-prop sizes low (e ∷ es) = let rest = Entries-prop sizes (suc e.variable) es in hlevel (props, rest)

pub Ready-prop : (sizes pairs : List ℕ) (o : Operator) → IsProp (Ready sizes pairs o)
Ready-prop sizes pairs o = hlevel (props, Entries-prop sizes 0 o)

pub HoldsPossible-prop : (sizes : List ℕ) (pairs : Set) (o : Operator) (words : List ℕ) → IsProp (HoldsPossible sizes pairs o words)
HoldsPossible-prop sizes pairs o words = hlevel props

module _ {sizes pairs : List ℕ} {o : Operator} where
  -- An operator of the task is ready.
  pub ready-is : Listed sizes pairs → IsOperator sizes o → Ready sizes pairs o
  ready-is listed is = record { limits = listed.limits; due = listed.due; entries = is.entries }

  module _ (ready : Ready sizes pairs o) where
    pub ready-listed : Listed sizes pairs
    ready-listed = record { limits = ready.limits; due = ready.due }

    pub ready-given : Given sizes o
    ready-given = record { limits = ready.limits; entries = ready.entries }

-- An entry at a place of an operator, and a value of a variable that the operator doesn't name: atoms of two variables.
pub record Apart (sizes : List ℕ) (e : Entry) (u : ℕ) : Type 0 where
  pub apart : e.variable ≢ u
  pub place : e.variable < length sizes
  pub value : e.before < size sizes e.variable

pub entry-apart : (sizes : List ℕ) (o : Operator) (k u : ℕ) → Entries sizes 0 o → k < length o → names o u ≡ false → Apart sizes (entry_at o k) u
entry-apart sizes o k u fine l q =
    let here = get_d-in o k _ l in
    let known = in-fine sizes 0 o (entry_at o k) here fine in
    record { apart = unnamed-apart o (entry_at o k) u here q; place = known.1; value = known.2 }

-- ---- numbers of atoms

-- The values of a variable count on from its first atom, and their atoms are within the words.
pub record ValueAt (sizes words : List ℕ) (u y f : ℕ) : Type 0 where
  pub number : f ≡ single sizes u y
  pub room : f < word_bits * length words
  pub small : f < most_features

pub value-at : (sizes words : List ℕ) (u y start d : ℕ) → InLimits sizes → atoms sizes ≤ word_bits * length words → start ≡ single sizes u 0 → d ≡ size sizes u → y < d
    → ValueAt sizes words u y (start + y)
unfolding single
value-at sizes words u y start d limits room e own l = record { number = number; room = omega (arith, below); small = omega (arith, below, atoms-limit sizes limits) }
  where
    number : start + y ≡ single sizes u y
    number = omega (arith, e)

    below : start + y < atoms sizes
    below = rw number (single-below sizes u y (rw (← own) l))

pub both-room : (sizes pairs : List ℕ) (i x j y : ℕ) → Listed sizes pairs → i ≢ j → x < size sizes i → y < size sizes j → both sizes i x j y < word_bits * length pairs
both-room sizes pairs i x j y h d k l = omega (arith, h.due, both_below sizes i x j y d k l)
