-- Reasons for a refusal and their numbers; reading a list of bytes at a place; numbers in a file.
use Rattle.std.specs.Prelude.{ℕ, zero, suc, ◌+◌, ◌*◌, ◌/◌, ◌%◌, Bool, true, false, cond, List, [], ◌∷◌, length, get_or, eqb, ltb}
use Rattle.meaning.specs.Limits.{group, most_groups}

-- Why a call refuses.
pub data Reason : Type 0 where
  Ends Padded Endless Limit Range Unordered LeftOver Outgrown Held Unclosed Small Malformed Gaps Unequal : Reason

-- The paper's number for a reason. Document 01 said of 1: "input ends inside what is due, or a number is badly formed".
abbrev pub refusal : Reason → ℕ
-- "1 is now only input that ends"
refusal Ends = 1
-- "12 a number not in shortest form"
refusal Padded = 12
-- "a third byte that says more follows is too long" (ticket 5 said: "13 one whose second byte says that more follows")
refusal Endless = 13
-- "v, a size, N, or a bay dimension breaks its limit"
refusal Limit = 2
-- "a value, variable, entry count, feature or label is outside its range, or a list of new values hasn't length v"
refusal Range = 3
-- "entries, pairs or weights don't increase"
refusal Unordered = 4
-- "bytes are left over"
refusal LeftOver = 5
-- a task that is made of what was read breaks a limit, which is judged after 5
refusal Outgrown = 2
-- "the start holds a listed pair"
refusal Held = 6
-- "the pairs aren't closed under an operator"
refusal Unclosed = 7
-- "lent room is too small"
refusal Small = 8
-- "a workspace isn't well formed"
refusal Malformed = 9
-- "no gap or more than one, in the start and then in the goal" (document 01 said: "a bay list misses or repeats a label")
refusal Gaps = 10
-- "unequal lots"
refusal Unequal = 11

-- Whether a reason has a place in a file: a number is at fault. What is judged after the last number has none.
abbrev pub has_place : Reason → Bool
has_place Ends = true
has_place Padded = true
has_place Endless = true
has_place Limit = true
has_place Range = true
has_place Unordered = true
has_place LeftOver = false
has_place Outgrown = false
has_place Held = false
has_place Unclosed = false
has_place Small = false
has_place Malformed = false
has_place Gaps = false
has_place Unequal = false

-- What stands at a place: a value and the place after it; or the first fault, with the place of the first byte of the number at fault.
-- Where a reason has no place, the place of a fault says nothing.
pub data Read (A : Type 0) : Type 0 where
  got : A → ℕ → Read A
  fault : Reason → ℕ → Read A

-- Goes on with what was read; the first fault decides.
abbrev pub on_read : {A B : Type 0} → Read A → (A → ℕ → Read B) → Read B
on_read (got a next) rest = rest a next
on_read (fault reason place) rest = fault reason place

-- At most k groups from a place on, of the number that begins at `first`: "low group first; a byte of 128 or more says that one group
-- follows. Shortest form only": the groups that follow are not 0.
unfoldable pub groups : ℕ → ℕ → List ℕ → ℕ → Read ℕ
groups zero first bytes place = fault Endless first
groups (suc k) first bytes place =
    cond (ltb place (length bytes))
    (cond (ltb (get_or bytes place 0) group)
    (got (get_or bytes place 0) (place + 1))
    (on_read (groups k first bytes (place + 1))
    (λ high next. cond (eqb high 0) (fault Padded first) (got (get_or bytes place 0 % group + group * high) next))))
    (fault Ends first)

-- The number at a place: "Numbers take up to three groups". (Document 01 said: "two bytes at most".)
unfoldable pub number : List ℕ → ℕ → Read ℕ
number bytes place = groups most_groups place bytes place

-- How many bytes are read of a number in at most k groups: to its last group, to the last byte that is allowed, or to the end of the file.
unfoldable pub groups_read : ℕ → List ℕ → ℕ → ℕ
groups_read zero bytes place = 0
groups_read (suc k) bytes place =
    cond (ltb place (length bytes)) (cond (ltb (get_or bytes place 0) group) 1 (suc (groups_read k bytes (place + 1)))) 0

-- "that number's bytes as far as they were read"
unfoldable pub bytes_read : List ℕ → ℕ → ℕ
bytes_read bytes place = groups_read most_groups bytes place

-- Goes on from the place after a number; one that is badly formed is the last.
abbrev pub place_after : Read ℕ → ℕ → (ℕ → ℕ) → ℕ
place_after (got n next) here on = on next
place_after (fault reason place) here on = here

-- The place of the number that stands k numbers behind the one at a place.
unfoldable pub numbers_on : ℕ → List ℕ → ℕ → ℕ
numbers_on zero bytes place = place
numbers_on (suc k) bytes place = place_after (number bytes place) place (numbers_on k bytes)

-- The bytes of a number in at most k groups.
unfoldable pub group_bytes : ℕ → ℕ → List ℕ
group_bytes zero n = []
group_bytes (suc k) n = cond (ltb n group) (n ∷ []) ((group + n % group) ∷ group_bytes k (n / group))

-- The bytes of a number.
unfoldable pub number_bytes : ℕ → List ℕ
number_bytes n = group_bytes most_groups n
