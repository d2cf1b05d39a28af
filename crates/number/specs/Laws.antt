-- How a number is read and written a byte at a time, in the steps of the code.
use Prim.Native.Nat.{ℕ, zero, suc, ◌+◌, ◌*◌, ◌-◌, ◌/◌, ◌%◌, ◌^◌, ◌<◌, ◌≤◌}
use Rattle.std.specs.Prelude.{◌≡◌, cond, List, [], ◌∷◌, ◌++◌, length, get_or, set, take, drop, eqb}
use Rattle.std.proofs.Math.Path.{refl}
use Rattle.std.proofs.Common.{sym, ap, ◌∙◌, append_assoc, lt_of_lt_of_le, add-one}
use native.Mathlib.Omega.{arith}
use Rattle.std.proofs.Math.Nat.{pow-succ', pow-le-pow_right, mod-add-div}
use Rattle.std.proofs.lemmas.List.Edits.{sets, sets-eq}
use borrow.Author.Tests.{lt-ltb, le-ltb}
use Rattle.meaning.specs.Limits.{group, most_groups, number_end}
use Rattle.meaning.specs.Number.{Reason, Read, got, fault, on_read, Ends, Padded, Endless, groups, number, groups_read, numbers_on, group_bytes, number_bytes}
use Rattle.theory.specs.NumberBack.{groups-one, groups-give, group-one, group-more, group-bytes-filled}

-- ---- reading

-- What a byte that says that one group follows makes of the groups after it.
abbrev pub joined : ℕ → ℕ → Read ℕ → Read ℕ
joined first byte rest = on_read rest (λ high next. cond (eqb high 0) (fault Padded first) (got (byte % group + group * high) next))

module _ (first : ℕ) (bytes : List ℕ) (place : ℕ) where
  pub none_left : (k : ℕ) → k ≡ 0 → groups k first bytes place ≡ fault Endless first
  unfolding groups
  none_left zero e = refl
  none_left (suc k) e = absurd (omega arith)

  pub ended : (k : ℕ) → (k ≡ 0 → ⊥) → length bytes ≤ place → groups k first bytes place ≡ fault Ends first
  unfolding groups
  ended zero some h = absurd (some refl)
  ended (suc k) some h = rw (le-ltb place (length bytes) h)

  pub last-group : (k : ℕ) → (k ≡ 0 → ⊥) → place < length bytes → get_or bytes place 0 < group → groups k first bytes place ≡ got (get_or bytes place 0) (place + 1)
  last-group zero some h l = absurd (some refl)
  last-group (suc k) some h l = groups-one k first bytes place h l

  pub more-groups : (k : ℕ) → (k ≡ 0 → ⊥) → place < length bytes → group ≤ get_or bytes place 0
      → groups k first bytes place ≡ joined first (get_or bytes place 0) (groups (k - 1) first bytes (place + 1))
  unfolding groups
  more-groups zero some h l = absurd (some refl)
  more-groups (suc k) some h l =
      let less : suc k - 1 ≡ k = omega arith in
      rw (lt-ltb place (length bytes) h, le-ltb (get_or bytes place 0) group l, less)

  -- What so many groups hold at most.
  pub groups-below : (k n next : ℕ) → k ≤ most_groups → groups k first bytes place ≡ got n next → n < number_end
  groups-below k n next h e = lt_of_lt_of_le ((groups-give bytes k first).gives place n next e).known.below (pow-le-pow_right (omega arith) h)

-- ---- how far a number is read

module _ (bytes : List ℕ) (place : ℕ) where
  pub read_none : (k : ℕ) → length bytes ≤ place → groups_read k bytes place ≡ 0
  unfolding groups_read
  read_none zero h = refl
  read_none (suc k) h = rw (le-ltb place (length bytes) h)

  pub read-last : (k : ℕ) → 0 < k → place < length bytes → get_or bytes place 0 < group → groups_read k bytes place ≡ 1
  unfolding groups_read
  read-last zero some h l = absurd (omega arith)
  read-last (suc k) some h l = rw (lt-ltb place (length bytes) h, lt-ltb (get_or bytes place 0) group l)

  pub read_more : (k : ℕ) → 0 < k → place < length bytes → group ≤ get_or bytes place 0 → groups_read k bytes place ≡ suc (groups_read (k - 1) bytes (place + 1))
  unfolding groups_read
  read_more zero some h l = absurd (omega arith)
  read_more (suc k) some h l =
      let less : suc k - 1 ≡ k = omega arith in
      rw (lt-ltb place (length bytes) h, le-ltb (get_or bytes place 0) group l, less)

-- ---- numbers that are passed over

module _ (bytes : List ℕ) (place count i : ℕ) where
  pub on_none : count ≤ i → numbers_on (count - i) bytes place ≡ place
  unfolding numbers_on
  on_none h = let q : count - i ≡ 0 = omega arith in rw q

  pub on-more : (n next : ℕ) → i < count → number bytes place ≡ got n next → numbers_on (count - i) bytes place ≡ numbers_on (count - (i + 1)) bytes next
  unfolding numbers_on
  on-more n next h e = let q : count - i ≡ suc (count - (i + 1)) = omega arith in rw (q, e)

  pub on-fault : (reason : Reason) (there : ℕ) → i < count → number bytes place ≡ fault reason there → numbers_on (count - i) bytes place ≡ place
  unfolding numbers_on
  on-fault reason there h e = let q : count - i ≡ suc (count - (i + 1)) = omega arith in rw (q, e)

-- ---- writing

-- The bytes of a number, in one group and so many more that hold it.
pub record Spelled (n : ℕ) (bytes : List ℕ) : Type 0 where
  pub more : ℕ
  pub below : n < group ^ suc more
  pub spelling : bytes ≡ group_bytes (suc more) n

pub spelled-number : (n : ℕ) → n < number_end → Spelled n (number_bytes n)
unfolding number_bytes
spelled-number n h = record { more = most_groups - 1; below = h; spelling = refl }

pub spelled-filled : (n : ℕ) (bytes : List ℕ) → Spelled n bytes → 1 ≤ length bytes
spelled-filled n bytes s = rw s.spelling (group-bytes-filled s.more n)

pub spelled-one : (n : ℕ) (bytes : List ℕ) → Spelled n bytes → n < group → bytes ≡ n ∷ []
spelled-one n bytes s h = s.spelling ∙ group-one s.more n h

-- Bytes that begin with the low group, and go on with those of what is left of the number.
pub record Further (n : ℕ) (bytes : List ℕ) : Type 0 where
  pub rest : List ℕ
  pub split : bytes ≡ (group + n % group) ∷ rest
  pub spelled : Spelled (n / group) rest

pub spelled-more : (n : ℕ) (bytes : List ℕ) → Spelled n bytes → group ≤ n → Further n bytes
spelled-more n bytes s h = further s.more s.below s.spelling
  where
    further : (k : ℕ) → n < group ^ suc k → bytes ≡ group_bytes (suc k) n → Further n bytes
    further zero l e = absurd (omega arith)
    further (suc k) l e = record {
      rest = group_bytes (suc k) (n / group);
      split = e ∙ ap (group_bytes (suc (suc k))) (sym (mod-add-div n group)) ∙ group-more (suc k) (n % group) (n / group) (omega arith) (omega arith);
      spelled = record { more = k; below = omega (arith, pow-succ' group (suc k)); spelling = refl };
    }

-- ---- a run of bytes in a room

pub sets_more : (room : List ℕ) (next byte : ℕ) (rest : List ℕ) → sets room next (byte ∷ rest) ≡ sets (set room next byte) (next + 1) rest
sets_more room next byte rest = ap (λ k. sets (set room next byte) k rest) (sym (add-one next))

pub sets-all : (room : List ℕ) (at after : ℕ) (bytes : List ℕ) → after ≡ at + length bytes → after ≤ length room
    → sets room at bytes ≡ take at room ++ (bytes ++ drop after room)
sets-all room at after bytes e h =
    sets-eq bytes room at (omega arith) ∙ append_assoc (take at room) bytes (drop (at + length bytes) room) ∙ ap (λ k. take at room ++ (bytes ++ drop k room)) (sym e)
