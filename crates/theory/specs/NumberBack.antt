-- Numbers of a file, over how many groups a number may have: what is written is read back, what is read is in its range, and it is written as
-- the bytes that it was read from.
use Rattle.std.specs.Prelude.{ℕ, zero, suc, ◌+◌, ◌-◌, ◌*◌, ◌/◌, ◌%◌, ◌^◌, ◌<◌, ◌≤◌, ◌≡◌, refl, List, [], ◌∷◌, ◌++◌, length, get_or, eqb, ltb}
use Rattle.std.proofs.Common.{sym, ap, ap₂, ◌∙◌, subst, arith, add-one, length-append, drop-cons, ltb-true, ltb-false, lt-ltb, le-ltb, ne_eqb}
use Rattle.std.proofs.Math.Nat.{pow-succ', one-le-pow}
use Rattle.std.proofs.Math.Seq.{get_or-append_seam, append_snoc}
use Rattle.std.proofs.lemmas.Bool.{eqb-false}
use Rattle.meaning.specs.Limits.{group, most_groups, number_end}
use Rattle.meaning.specs.Number.{got, groups, number, group_bytes, number_bytes}
use Rattle.theory.specs.Truth.{on, off, test}
use Rattle.theory.specs.Reading.{Reads, not-got, on-got, test-passed, test-failed}
use Rattle.theory.specs.Spent.{Bytes, Spent, Gives, spent-same}

-- ---- the bytes of a number

pub group-one : (k n : ℕ) → n < group → group_bytes (suc k) n ≡ n ∷ []
unfolding group_bytes
group-one k n h = rw (lt-ltb n group h)

pub group-more : (k low high : ℕ) → low < group → 1 ≤ high → group_bytes (suc k) (low + group * high) ≡ (group + low) ∷ group_bytes k high
unfolding group_bytes
group-more k low high h l =
    let a : (low + group * high) % group ≡ low = omega arith in
    let b : (low + group * high) / group ≡ high = omega arith in
    rw (le-ltb (low + group * high) group (omega arith), a, b)

-- A number is its low group and what is left.
parts : (n : ℕ) → n ≡ n % group + group * (n / group)
parts n = omega arith

pub group-bytes-filled : (k n : ℕ) → 1 ≤ length (group_bytes (suc k) n)
unfolding group_bytes
group-bytes-filled k n = elim (test (ltb n group)) [ on e ↦ rw e (omega arith) | off e ↦ rw e (omega arith) ]

pub group-bytes-few : (k n : ℕ) → length (group_bytes k n) ≤ k
unfolding group_bytes
group-bytes-few zero n = omega arith
group-bytes-few (suc k) n = elim (test (ltb n group)) [ on e ↦ rw e (omega arith) | off e ↦ rw e (omega (arith, group-bytes-few k (n / group))) ]

-- ---- reading a byte

pub groups-one : (k first : ℕ) (bytes : List ℕ) (place : ℕ) → place < length bytes → get_or bytes place 0 < group
    → groups (suc k) first bytes place ≡ got (get_or bytes place 0) (place + 1)
unfolding groups
groups-one k first bytes place h l = rw (lt-ltb place (length bytes) h, lt-ltb (get_or bytes place 0) group l)

pub groups-more : (k first : ℕ) (bytes : List ℕ) (place high next : ℕ) → place < length bytes → group ≤ get_or bytes place 0
    → groups k first bytes (place + 1) ≡ got high next → 1 ≤ high
    → groups (suc k) first bytes place ≡ got (get_or bytes place 0 % group + group * high) next
unfolding groups
groups-more k first bytes place high next h l e m =
    rw (lt-ltb place (length bytes) h, le-ltb (get_or bytes place 0) group l, e, ne_eqb high 0 (omega arith))

-- ---- what is written is read back

-- A byte that was written where it is read.
stands : (before : List ℕ) (b : ℕ) (after : List ℕ) → length before < length (before ++ (b ∷ after))
stands before b after = omega (arith, length-append before (b ∷ after))

pub one-back : (k n : ℕ) → n < group → (first : ℕ) (after : List ℕ) → Reads (groups (suc k) first) n (n ∷ []) after
one-back k n h first after = record {
  reads = λ before.
      let e : get_or (before ++ (n ∷ after)) (length before) 0 ≡ n = get_or-append_seam before n after 0 in
      groups-one k first (before ++ (n ∷ after)) (length before) (stands before n after) (rw e h) ∙ ap (λ m. got m (length before + 1)) e;
}

pub more-back : (k low high : ℕ) → low < group → 1 ≤ high → (first : ℕ) (l after : List ℕ)
    → Reads (groups k first) high l after → Reads (groups (suc k) first) (low + group * high) ((group + low) ∷ l) after
more-back k low high h m first l after rest = record {
  reads = λ before.
      let b : ℕ = group + low in
      let bytes : List ℕ = before ++ (b ∷ (l ++ after)) in
      let e : get_or bytes (length before) 0 ≡ b = get_or-append_seam before b (l ++ after) 0 in
      let r = rw (append_snoc before b (l ++ after), length-append before (b ∷ [])) at (rest.reads (before ++ (b ∷ []))) in
      groups-more k first bytes (length before) high (length before + 1 + length l) (stands before b (l ++ after)) (rw e (omega arith)) r m
      ∙ ap₂ got (ap (λ c. c % group + group * high) e ∙ remains) (omega arith);
}
  where
    remains : (group + low) % group + group * high ≡ low + group * high
    remains = omega arith

-- One group, and at most k more.
pub groups-back : (k n : ℕ) → n < group ^ suc k → (first : ℕ) (after : List ℕ) → Reads (groups (suc k) first) n (group_bytes (suc k) n) after
groups-back zero n h first after = let l : n < group = omega arith in rw (group-one zero n l) (one-back zero n l first after)
groups-back (suc k) n h first after = elim (test (ltb n group)) [
  | on e ↦ let l : n < group = ltb-true n group e in rw (group-one (suc k) n l) (one-back (suc k) n l first after)
  | off e ↦ subst (λ m. Reads (groups (suc (suc k)) first) m (group_bytes (suc (suc k)) m) after) (sym (parts n))
      (several (n % group) (n / group) (omega arith) (omega (arith, ltb-false n group e)) (groups-back k (n / group) (omega (arith, pow-succ' group (suc k))) first after))
]
  where
    several : (low high : ℕ) → low < group → 1 ≤ high → Reads (groups (suc k) first) high (group_bytes (suc k) high) after
        → Reads (groups (suc (suc k)) first) (low + group * high) (group_bytes (suc (suc k)) (low + group * high)) after
    several low high l m rest = rw (group-more (suc k) low high l m) (more-back (suc k) low high l m first (group_bytes (suc k) high) after rest)

-- ---- what is read

-- A number in its range, read from so many bytes, which are those that are written for it.
pub record Grouped (bytes : List ℕ) (k n : ℕ) (spent : List ℕ) : Type 0 where
  pub below : n < group ^ k
  pub filled : 1 ≤ length spent
  pub few : length spent ≤ k
  pub written : Bytes bytes → spent ≡ group_bytes k n

give-one : (bytes : List ℕ) (k place : ℕ) → place < length bytes → get_or bytes place 0 < group → Spent bytes place (place + 1) (Grouped bytes (suc k) (get_or bytes place 0))
give-one bytes k place h l = record {
  spent = get_or bytes place 0 ∷ [];
  moved = refl;
  there = rw add-one (drop-cons bytes place 0 h);
  known = record {
    below = omega (arith, l, pow-succ' group k, one-le-pow k group (omega arith));
    filled = omega arith;
    few = omega arith;
    written = λ small. sym (group-one k (get_or bytes place 0) l);
  };
}

give-more : (bytes : List ℕ) (k place high next : ℕ) → place < length bytes → group ≤ get_or bytes place 0 → 1 ≤ high
    → Spent bytes (place + 1) next (Grouped bytes k high) → Spent bytes place next (Grouped bytes (suc k) (get_or bytes place 0 % group + group * high))
give-more bytes k place high next h l m s = record {
  spent = get_or bytes place 0 ∷ s.spent;
  moved = omega (arith, s.moved);
  there = drop-cons bytes place 0 h ∙ ap (◌∷◌ (get_or bytes place 0)) (rw (← add-one place) s.there);
  known = record {
    below = omega (arith, s.known.below, pow-succ' group k);
    filled = omega arith;
    few = omega (arith, s.known.few);
    written = λ small. ap₂ ◌∷◌ (byte (small place)) (s.known.written small) ∙ sym (group-more k (get_or bytes place 0 % group) high (omega arith) m);
  };
}
  where
    byte : get_or bytes place 0 < 256 → get_or bytes place 0 ≡ group + get_or bytes place 0 % group
    byte small = omega arith

pub groups-give : (bytes : List ℕ) (k first : ℕ) → Gives bytes (groups k first) (Grouped bytes k)
unfolding groups
groups-give bytes zero first = record { gives = λ place n next e. absurd (not-got e) }
groups-give bytes (suc k) first = record {
  gives = λ place n next e.
      let (begun, q) = test-passed (ltb place (length bytes)) _ _ first n next e in
      elim (test (ltb (get_or bytes place 0) group)) [
        | on c ↦ spent-same (Grouped bytes (suc k)) (rw c at q) (give-one bytes k place (ltb-true place (length bytes) begun) (ltb-true (get_or bytes place 0) group c))
        | off c ↦
            let (high, middle, p, r) = on-got (groups k first bytes (place + 1)) _ n next (rw c at q) in
            let (some, z) = test-failed (eqb high 0) _ _ first n next r in
            spent-same (Grouped bytes (suc k)) z (give-more bytes k place high middle (ltb-true place (length bytes) begun) (ltb-false (get_or bytes place 0) group c)
            (omega (arith, eqb-false high 0 some)) ((groups-give bytes k first).gives (place + 1) high middle p))
      ];
}

-- ---- numbers of a file

pub number-back : (n : ℕ) → n < number_end → (after : List ℕ) → Reads number n (number_bytes n) after
unfolding number number_bytes
number-back n h after = record { reads = λ before. (groups-back (most_groups - 1) n h (length before) after).reads before }

pub number-bytes-length : (n : ℕ) → (1 ≤ length (number_bytes n)) × (length (number_bytes n) ≤ most_groups)
unfolding number_bytes
number-bytes-length n = (group-bytes-filled (most_groups - 1) n, group-bytes-few most_groups n)

pub number-gives : (bytes : List ℕ) → Gives bytes number (Grouped bytes most_groups)
unfolding number
number-gives bytes = record { gives = λ place n next e. (groups-give bytes most_groups place).gives place n next e }
