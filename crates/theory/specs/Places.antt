-- Where a fault stands (document 02, ticket 5): what is shown is the bytes of the number at fault as far as they were read, within the file; and what follows that number moves
-- neither the fault nor its place. First what is claimed, then numbers, readers one after another, and whole files.
use Prim.Native.Nat.{ℕ, zero, suc, ◌+◌, ◌-◌, ◌*◌, ◌%◌, ◌<◌, ◌≤◌}
use Rattle.std.proofs.Math.Path.{◌≡◌, refl, sym, ap, fun_ext}
use Rattle.std.proofs.Common.{◌∙◌, subst, length-append, length-take-le, get_or-take}
use Rattle.std.specs.Prelude.{◌⊎◌, Bool, true, false, cond, replicate, eqb, leb, ltb}
use Rattle.std.proofs.Math.Logic.{inl, inr}
use mathlib.Core.List.{List, [], ◌∷◌, ◌++◌}
use native.Mathlib.Omega.{arith}
use Rattle.std.proofs.Math.ListN.{length, get_or, take, drop, get_or-append}
use Rattle.std.proofs.lemmas.List.{length-replicate}
use Rattle.std.proofs.Math.Seq.{take-append_seam}
use borrow.Author.Tests.{le-leb, ltb-true, ltb-false, lt-ltb, eqb-true, eqb-false, ne_eqb}
use Rattle.meaning.specs.Limits.{least_variables, most_variables, least_size, most_size, least_partial_size, most_partial_size, least_side, most_side, most_features, group, most_groups, number_end}
use Rattle.meaning.specs.Sets.{listed, all_of}
use Rattle.meaning.specs.Task.{Task, size}
use Rattle.meaning.specs.Feature.{atoms, features}
use Rattle.meaning.specs.Pair.{closed, holds}
use Rattle.meaning.specs.Number.{Reason, Ends, Padded, Endless, Limit, Range, Unordered, LeftOver, Outgrown, Held, Unclosed, Small, Malformed, Gaps, Unequal, has_place}
use Rattle.meaning.specs.Number.{Read, got, fault, on_read, groups, number, numbers_on, groups_read, bytes_read, number_bytes}
use Rattle.meaning.specs.File.{Parser, give, then, inside, item, judge, limited, rising, ended, items_of, sizes_of, size_list, header, values_of, Kind, plain, gapped, mark_of, kind_by, kind_of, feature_of, features_of, feature_list, entries_of}
use Rattle.meaning.specs.File.{operator_of, operators_of, body_of, parts_of, task_as, task_of, judged_pairs, judged_task, judged_weights_as}
use Rattle.meaning.specs.Bay.{side, sides_of, bay_of, slot_count, bay_sizes, one_gap, equal_lots, judged_lots, judged_bay}
use Rattle.meaning.specs.Partial.{Partial, built_task, partial_header, goal_of, partial_of, judged_partial}
use Rattle.theory.specs.Truth.{on, off, test, clash}
use Rattle.theory.specs.Reading.{not-got, got-value, got-next, on-got, on-on, test-passed, test-failed, item-read}
use Rattle.theory.specs.Spent.{Bytes}
use Rattle.theory.specs.NumberBack.{number-gives}
use Rattle.theory.specs.Parts.{item-said, sizes-said}

-- ---- what is claimed

-- Each byte of a part says that one group follows.
abbrev pub Continuing : List ℕ → ℕ → ℕ → Type 0
Continuing bytes place many = (i : ℕ) → i < many → group ≤ get_or bytes (place + i) 0

-- The part is a number of the file, in shortest form: it is read, and it is what is written for its value.
pub record ShortestForm (bytes : List ℕ) (place many : ℕ) : Type 0 where
  pub value : ℕ
  pub read : number bytes place ≡ got value (place + many)
  pub shortest : Bytes bytes → take many (drop place bytes) ≡ number_bytes value

-- The file ends inside the number, or before it.
pub record Unfinished (bytes : List ℕ) (place many most : ℕ) : Type 0 where
  pub end : place + many ≡ length bytes
  pub few : many < most
  pub continuing : Continuing bytes place many

-- The last byte is 0 and ends a number that other bytes begin: it is not in shortest form.
pub record ZeroLast (bytes : List ℕ) (place many most : ℕ) : Type 0 where
  pub several : 2 ≤ many
  pub few : many ≤ most
  pub last : get_or bytes (place + (many - 1)) 0 ≡ 0
  pub continuing : Continuing bytes place (many - 1)

-- The last byte that is allowed says that more follows.
pub record Unending (bytes : List ℕ) (place many most : ℕ) : Type 0 where
  pub full : many ≡ most
  pub continuing : Continuing bytes place many

-- So many bytes from a place on are the number at fault as far as it was read, for each reason that has a place.
abbrev pub NumberAtFault : Reason → List ℕ → ℕ → ℕ → Type 0
NumberAtFault Ends bytes place many = Unfinished bytes place many most_groups
NumberAtFault Padded bytes place many = ZeroLast bytes place many most_groups
NumberAtFault Endless bytes place many = Unending bytes place many most_groups
NumberAtFault Limit bytes place many = ShortestForm bytes place many
NumberAtFault Range bytes place many = ShortestForm bytes place many
NumberAtFault Unordered bytes place many = ShortestForm bytes place many
NumberAtFault LeftOver bytes place many = ⊥
NumberAtFault Outgrown bytes place many = ⊥
NumberAtFault Held bytes place many = ⊥
NumberAtFault Unclosed bytes place many = ⊥
NumberAtFault Small bytes place many = ⊥
NumberAtFault Malformed bytes place many = ⊥
NumberAtFault Gaps bytes place many = ⊥
NumberAtFault Unequal bytes place many = ⊥

-- A refusal points at the number at fault: the part is within the file and is that number's bytes as far as they were read. No file that is the same up to the place has a fault
-- with an earlier place; and whatever follows the part, refusal and place stay, unless the reason is that the file ends there.
pub record Pointed {A : Type 0} (judged : List ℕ → Read A) (bytes : List ℕ) (reason : Reason) (place : ℕ) : Type 0 where
  pub within : place + bytes_read bytes place ≤ length bytes
  pub at-number : NumberAtFault reason bytes place (bytes_read bytes place)
  pub no-earlier : (other : List ℕ) (r : Reason) (p : ℕ) → judged (take place bytes ++ other) ≡ fault r p → has_place r ≡ true → place ≤ p
  pub settled : (reason ≡ Ends → ⊥) → (other : List ℕ) → judged (take (place + bytes_read bytes place) bytes ++ other) ≡ fault reason place

-- ---- bytes that are the same up to a place

-- Both go so far, and each byte before is the same.
record Agree (upto : ℕ) (bytes other : List ℕ) : Type 0 where
  pub here : upto ≤ length bytes
  pub there : upto ≤ length other
  pub each : (i : ℕ) → i < upto → get_or bytes i 0 ≡ get_or other i 0

agree-back : {upto : ℕ} {bytes other : List ℕ} → Agree upto bytes other → Agree upto other bytes
agree-back g = record { here = g.there; there = g.here; each = λ i h. sym (g.each i h) }

agree_less : {upto less : ℕ} {bytes other : List ℕ} → less ≤ upto → Agree upto bytes other → Agree less bytes other
agree_less {upto} {less} h g = record { here = omega (arith, g.here); there = omega (arith, g.there); each = λ i l. g.each i (omega arith) }

agree-front : (upto : ℕ) (bytes other : List ℕ) → upto ≤ length bytes → Agree upto bytes (take upto bytes ++ other)
agree-front upto bytes other h =
    let long : length (take upto bytes) ≡ upto = length-take-le upto bytes h in
    record {
      here = h;
      there = omega (arith, length-append (take upto bytes) other);
      each = λ i l. sym (get_or-append (take upto bytes) other 0 i (omega arith) ∙ get_or-take upto bytes i 0 l);
    }

-- ---- outcomes

reason-same : {A : Type 0} {reason other : Reason} {place there : ℕ} → ◌≡◌ {A = Read A} (fault reason place) (fault other there) → reason ≡ other
reason-same e = cc

place_same : {A : Type 0} {reason other : Reason} {place there : ℕ} → ◌≡◌ {A = Read A} (fault reason place) (fault other there) → place ≡ there
place_same e = cc

-- Where reading on came to a fault, the first read came to it, or what followed.
on-faulted : {A B : Type 0} (r : Read A) (rest : A → ℕ → Read B) (reason : Reason) (place : ℕ) → on_read r rest ≡ fault reason place
    → (r ≡ fault reason place) ⊎ ((a : A) × (middle : ℕ) × (r ≡ got a middle) × (rest a middle ≡ fault reason place))
on-faulted (got a middle) rest reason place e = inr (a, middle, refl, e)
on-faulted (fault other there) rest reason place e = inl cc

-- A test that refuses when it fails: the fault is its own.
fault-failed : {A : Type 0} (b : Bool) (a : A) (next : ℕ) (reason other : Reason) (place there : ℕ) → cond b (got a next) (fault other there) ≡ fault reason place
    → (other ≡ reason) × (there ≡ place)
fault-failed true a next reason other place there e = absurd (not-got (sym e))
fault-failed false a next reason other place there e = (reason-same e, place_same e)

-- A test that refuses when it passes: it has passed, and the fault is its own.
fault-passed : {A : Type 0} (b : Bool) (a : A) (next : ℕ) (reason other : Reason) (place there : ℕ) → cond b (fault other there) (got a next) ≡ fault reason place
    → (b ≡ true) × (other ≡ reason) × (there ≡ place)
fault-passed true a next reason other place there e = (refl, reason-same e, place_same e)
fault-passed false a next reason other place there e = absurd (not-got (sym e))

-- ---- how far a number is read

module _ (bytes : List ℕ) where
  groups-within : (k place : ℕ) → place ≤ length bytes → place + groups_read k bytes place ≤ length bytes
  unfolding groups_read
  groups-within zero place h = omega arith
  groups-within (suc k) place h = elim (test (ltb place (length bytes))) [
    | off e ↦ rw e (omega arith)
    | on e ↦ let l = ltb-true place (length bytes) e in elim (test (ltb (get_or bytes place 0) group)) [
      | on c ↦ rw (e, c) (omega arith)
      | off c ↦ rw (e, c) (omega (arith, groups-within k (place + 1) (omega arith)))
    ]
  ]

  -- A number that is well formed is read to its end.
  groups-end : (k first place n next : ℕ) → groups k first bytes place ≡ got n next → place + groups_read k bytes place ≡ next
  unfolding groups groups_read
  groups-end zero first place n next e = absurd (not-got e)
  groups-end (suc k) first place n next e =
      let (begun, q) = test-passed (ltb place (length bytes)) _ _ first n next e in
      elim (test (ltb (get_or bytes place 0) group)) [
        | on c ↦ rw (begun, c) (got-next (rw c at q))
        | off c ↦
            let (high, middle, p, r) = on-got (groups k first bytes (place + 1)) _ n next (rw c at q) in
            let (some, z) = test-failed (eqb high 0) _ _ first n next r in
            rw (begun, c) (omega (arith, groups-end k first (place + 1) high middle p, got-next z))
      ]

  -- The groups that give 0 are one byte.
  groups-zero : (k first place next : ℕ) → groups k first bytes place ≡ got 0 next → (groups_read k bytes place ≡ 1) × (get_or bytes place 0 ≡ 0) × (1 ≤ k)
  unfolding groups groups_read
  groups-zero zero first place next e = absurd (not-got e)
  groups-zero (suc k) first place next e =
      let (begun, q) = test-passed (ltb place (length bytes)) _ _ first 0 next e in
      elim (test (ltb (get_or bytes place 0) group)) [
        | on c ↦ (rw (begun, c), got-value (rw c at q), omega arith)
        | off c ↦ absurd (
            let (high, middle, p, r) = on-got (groups k first bytes (place + 1)) _ 0 next (rw c at q) in
            let (some, z) = test-failed (eqb high 0) _ _ first 0 next r in
            let v : get_or bytes place 0 % group + group * high ≡ 0 = got-value z in
            omega (arith, v, eqb-false high 0 some))
      ]

  -- One more byte that says that one group follows.
  continuing-more : (place many : ℕ) → group ≤ get_or bytes place 0 → Continuing bytes (place + 1) many → Continuing bytes place (suc many)
  continuing-more place many h k zero l = let z : place + 0 ≡ place = omega arith in rw z h
  continuing-more place many h k (suc i) l = let z : place + suc i ≡ place + 1 + i = omega arith in rw z (k i (omega arith))

-- The number at a place is badly formed: how, and what is read of it.
data Broken (bytes : List ℕ) (k place many : ℕ) (reason : Reason) : Type 0 where
  ends : reason ≡ Ends → Unfinished bytes place many k → Broken bytes k place many reason
  padded : reason ≡ Padded → ZeroLast bytes place many k → Broken bytes k place many reason
  endless : reason ≡ Endless → Unending bytes place many k → Broken bytes k place many reason

module _ (bytes : List ℕ) where
  zero_more : (k place many : ℕ) → group ≤ get_or bytes place 0 → ZeroLast bytes (place + 1) many k → ZeroLast bytes place (suc many) (suc k)
  zero_more k place many h s =
      let last : place + (suc many - 1) ≡ place + 1 + (many - 1) = omega (arith, s.several) in
      let front : suc many - 1 ≡ suc (many - 1) = omega (arith, s.several) in
      record {
        several = omega (arith, s.several);
        few = omega (arith, s.few);
        last = rw last s.last;
        continuing = rw front (continuing-more bytes place (many - 1) h s.continuing);
      }

  zero-first : (k place : ℕ) → group ≤ get_or bytes place 0 → get_or bytes (place + 1) 0 ≡ 0 → 1 ≤ k → ZeroLast bytes place 2 (suc k)
  zero-first k place h z l = record {
    several = omega arith;
    few = omega arith;
    last = z;
    continuing = continuing-more bytes place 0 h (λ i m. absurd (omega arith));
  }

  broken-more : (k place many : ℕ) (reason : Reason) → group ≤ get_or bytes place 0 → Broken bytes k (place + 1) many reason → Broken bytes (suc k) place (suc many) reason
  broken-more k place many reason h (ends e s) =
      ends e (record { end = omega (arith, s.end); few = omega (arith, s.few); continuing = continuing-more bytes place many h s.continuing })
  broken-more k place many reason h (padded e s) = padded e (zero_more k place many h s)
  broken-more k place many reason h (endless e s) = endless e (record { full = ap suc s.full; continuing = continuing-more bytes place many h s.continuing })

  groups-broken : (k first place : ℕ) (reason : Reason) (there : ℕ) → place ≤ length bytes → groups k first bytes place ≡ fault reason there
      → (there ≡ first) × Broken bytes k place (groups_read k bytes place) reason
  unfolding groups groups_read
  groups-broken zero first place reason there h e =
      (sym (place_same e), endless (sym (reason-same e)) (record { full = refl; continuing = λ i l. absurd (omega arith) }))
  groups-broken (suc k) first place reason there h e = elim (test (ltb place (length bytes))) [
    | off b ↦ let q : ◌≡◌ {A = Read ℕ} (fault Ends first) (fault reason there) = rw b at e in (
      sym (place_same q),
      ends (sym (reason-same q)) (rw b (record {
        end = omega (arith, ltb-false place (length bytes) b);
        few = omega arith;
        continuing = λ i l. absurd (omega arith);
      })),
    )
    | on b ↦ elim (test (ltb (get_or bytes place 0) group)) [
      | on c ↦ absurd (not-got (sym (rw (b, c) at e)))
      | off c ↦
          let more : group ≤ get_or bytes place 0 = ltb-false (get_or bytes place 0) group c in
          elim (on-faulted (groups k first bytes (place + 1)) _ reason there (rw (b, c) at e)) [
            | inl p ↦ let (q, s) = groups-broken k first (place + 1) reason there (omega (arith, ltb-true place (length bytes) b)) p in
                (q, rw (b, c) (broken-more k place (groups_read k bytes (place + 1)) reason more s))
            | inr r ↦
                let (high, middle, p, q) = r in
                let (z, same, at) = fault-passed (eqb high 0) _ _ reason Padded there first q in
                let (one, byte, some) = groups-zero bytes k first (place + 1) middle (rw (eqb-true high 0 z) at p) in
                (sym at, rw (b, c, one) (padded (sym same) (zero-first k place more byte some)))
          ]
    ]
  ]

-- ---- what follows a number does not matter to it

module _ (bytes other : List ℕ) where
  -- A byte that was read stands in the other bytes too.
  byte-same : (place many : ℕ) → Agree (place + suc many) bytes other → (ltb place (length other) ≡ true) × (get_or other place 0 ≡ get_or bytes place 0)
  byte-same place many g = (lt-ltb place (length other) (omega (arith, g.there)), sym (g.each place (omega arith)))

  groups-same : (k first place : ℕ) → (groups k first bytes place ≡ fault Ends first → ⊥) → Agree (place + groups_read k bytes place) bytes other
      → groups k first other place ≡ groups k first bytes place
  unfolding groups groups_read
  groups-same zero first place more g = refl
  groups-same (suc k) first place more g = elim (test (ltb place (length bytes))) [
    | off b ↦ absurd (more (rw b refl))
    | on b ↦ elim (test (ltb (get_or bytes place 0) group)) [
      | on c ↦ let (l, e) = byte-same place 0 (rw (b, c) at g) in rw (b, l, e, c) refl
      | off c ↦
          let there : place + suc (groups_read k bytes (place + 1)) ≡ place + 1 + groups_read k bytes (place + 1) = omega arith in
          let far : Agree (place + suc (groups_read k bytes (place + 1))) bytes other = rw (b, c) at g in
          let (l, e) = byte-same place (groups_read k bytes (place + 1)) far in
          let rest = groups-same k first (place + 1) (λ z. more (rw (b, c, z) refl)) (rw there at far) in
          rw (b, l, e, c, rest) refl
    ]
  ]

  number_same : (place : ℕ) → (number bytes place ≡ fault Ends place → ⊥) → Agree (place + bytes_read bytes place) bytes other → number other place ≡ number bytes place
  unfolding number bytes_read
  number_same place more g = groups-same most_groups place place more g

module _ (bytes : List ℕ) (place : ℕ) where
  pub read-within : place ≤ length bytes → place + bytes_read bytes place ≤ length bytes
  unfolding bytes_read
  read-within h = groups-within bytes most_groups place h

  number-end : (n next : ℕ) → number bytes place ≡ got n next → place + bytes_read bytes place ≡ next
  unfolding number bytes_read
  number-end n next e = groups-end bytes most_groups place place n next e

  number-broken : (reason : Reason) (there : ℕ) → place ≤ length bytes → number bytes place ≡ fault reason there
      → (there ≡ place) × NumberAtFault reason bytes place (bytes_read bytes place)
  unfolding number bytes_read
  number-broken reason there h e =
      let (same, b) = groups-broken bytes most_groups place place reason there h e in
      (same, elim b [ ends z s ↦ rw z s | padded z s ↦ rw z s | endless z s ↦ rw z s ])

  number-whole : (n next : ℕ) → number bytes place ≡ got n next → ShortestForm bytes place (bytes_read bytes place)
  unfolding number_bytes
  number-whole n next e =
      let s = (number-gives bytes).gives place n next e in
      let end : place + bytes_read bytes place ≡ next = number-end n next e in
      let long : bytes_read bytes place ≡ length s.spent = omega (arith, s.moved) in
      record {
        value = n;
        read = e ∙ ap (got n) (sym end);
        shortest = λ small.
            ap (take (bytes_read bytes place)) s.there
            ∙ ap (λ m. take m (s.spent ++ drop next bytes)) long
            ∙ take-append_seam s.spent (drop next bytes)
            ∙ s.known.written small;
      }

-- ---- readers

-- A fault that has a place.
record Faults {A : Type 0} (parser : Parser A) (bytes : List ℕ) (place : ℕ) (reason : Reason) (there : ℕ) : Type 0 where
  pub begun : place ≤ length bytes
  pub read : parser bytes place ≡ fault reason there
  pub placed : has_place reason ≡ true

-- A value that is read.
record Gets {A : Type 0} (parser : Parser A) (bytes : List ℕ) (place : ℕ) (a : A) (next : ℕ) : Type 0 where
  pub begun : place ≤ length bytes
  pub read : parser bytes place ≡ got a next

-- A reason that finds fault with a number that is well formed.
abbrev Valued : Reason → Type 0
Valued reason = (bytes : List ℕ) (place many : ℕ) → ShortestForm bytes place many → NumberAtFault reason bytes place many

-- Limit, Range and Unordered are such.
abbrev fit : (bytes : List ℕ) (place many : ℕ) → ShortestForm bytes place many → ShortestForm bytes place many
fit bytes place many w = w

-- The number at a place is at fault: badly formed, or not of the values that are allowed.
data AtNumber (reason : Reason) (bytes : List ℕ) (place : ℕ) : Type 0 where
  broken : number bytes place ≡ fault reason place → AtNumber reason bytes place
  unfit : (n next : ℕ) → Valued reason → number bytes place ≡ got n next → AtNumber reason bytes place

-- A reader's faults with a place: each stands at a number that is at fault, no earlier in other bytes that are the same up to there, and it stays where the number stays.
record Pointing {A : Type 0} (parser : Parser A) : Type 0 where
  pub onward : {bytes : List ℕ} {place : ℕ} {reason : Reason} {there : ℕ} → Faults parser bytes place reason there
      → (place ≤ there) × (there ≤ length bytes) × AtNumber reason bytes there
  pub early : {bytes other : List ℕ} {place : ℕ} {r s : Reason} {t u : ℕ} → Faults parser bytes place r t → Agree t bytes other → Faults parser other place s u → t ≤ u
  pub still : {bytes other : List ℕ} {place : ℕ} {reason : Reason} {there : ℕ} → Faults parser bytes place reason there → (reason ≡ Ends → ⊥)
      → Agree (there + bytes_read bytes there) bytes other → parser other place ≡ fault reason there

-- A reader that does not look past what it reads either.
record Going {A : Type 0} (parser : Parser A) : Type 0 where
  pub points : Pointing parser
  pub forward : {bytes : List ℕ} {place : ℕ} {a : A} {next : ℕ} → Gets parser bytes place a next → (place ≤ next) × (next ≤ length bytes)
  pub same : {bytes other : List ℕ} {place : ℕ} {a : A} {next : ℕ} → Gets parser bytes place a next → Agree next bytes other → parser other place ≡ got a next

-- ---- readers of one number

-- A reader that looks at the number where it begins and at nothing else.
record One {A : Type 0} (parser : Parser A) : Type 0 where
  pub fails : {bytes : List ℕ} {place : ℕ} {reason : Reason} {there : ℕ} → Faults parser bytes place reason there → (there ≡ place) × AtNumber reason bytes place
  pub reads : {bytes : List ℕ} {place : ℕ} {a : A} {next : ℕ} → Gets parser bytes place a next → (n : ℕ) × (number bytes place ≡ got n next)
  pub only : (bytes other : List ℕ) (place : ℕ) → number other place ≡ number bytes place → parser other place ≡ parser bytes place

-- The file does not end inside a number that is at fault for another reason.
not-ends : {reason : Reason} {bytes : List ℕ} {place : ℕ} → AtNumber reason bytes place → (reason ≡ Ends → ⊥) → number bytes place ≡ fault Ends place → ⊥
not-ends (broken e) h z = h (reason-same (sym e ∙ z))
not-ends (unfit n next v e) h z = not-got (sym z ∙ e)

one-going : {A : Type 0} {parser : Parser A} → One parser → Going parser
one-going {parser = parser} one = record {
  points = record {
    onward = λ f. let (e, n) = one.fails f in (omega arith, omega (arith, f.begun), rw e n);
    early = λ f g h. let (e, n) = one.fails f in let (q, m) = one.fails h in omega arith;
    still = λ {bytes} {other} {place} {reason} {there} f more g.
        let (e, n) = one.fails f in
        one.only bytes other place (number_same bytes other place (not-ends n more) (rw e at g)) ∙ f.read;
  };
  forward = λ {bytes} {place} {a} {next} g.
      let (n, e) = one.reads g in
      (omega (arith, number-end bytes place n next e), omega (arith, number-end bytes place n next e, read-within bytes place g.begun));
  same = λ {bytes} {other} {place} {a} {next} g h.
      let (n, e) = one.reads g in
      one.only bytes other place (number_same bytes other place (λ z. not-got (sym z ∙ e)) (rw (number-end bytes place n next e) h)) ∙ g.read;
}

one_number : One number
one_number = record {
  fails = λ {bytes} {place} {reason} {there} f.
      let (e, s) = number-broken bytes place reason there f.begun f.read in
      (e, broken (f.read ∙ ap (fault reason) e));
  reads = λ {bytes} {place} {a} {next} g. (a, g.read);
  only = λ bytes other place e. e;
}

-- What was read has to pass a test, with a fault where it began.
abbrev tested : {A : Type 0} → Parser A → (A → Bool) → Reason → Parser A
tested first test reason bytes place = on_read (first bytes place) (λ a next. cond (test a) (got a next) (fault reason place))

one-tested : {A : Type 0} (first : Parser A) (check : A → Bool) (reason : Reason) → One first → Valued reason → One (tested first check reason)
one-tested first check reason one v = record {
  fails = λ {bytes} {place} {reason = r} {there} f. elim (on-faulted (first bytes place) _ r there f.read) [
    | inl e ↦ one.fails (record { begun = f.begun; read = e; placed = f.placed })
    | inr w ↦
        let (a, next, e, q) = w in
        let (z, at) = fault-failed (check a) a next r reason there place q in
        let (n, e') = one.reads (record { begun = f.begun; read = e }) in
        (sym at, rw (← z) (unfit n next v e'))
  ];
  reads = λ {bytes} {place} {a} {next} g.
      let (b, middle, e, q) = on-got (first bytes place) _ a next g.read in
      let (right, z) = test-passed (check b) (got b middle) reason place a next q in
      one.reads (record { begun = g.begun; read = e ∙ z });
  only = λ bytes other place e. ap (λ r. on_read r (λ a next. cond (check a) (got a next) (fault reason place))) (one.only bytes other place e);
}

one_map : {A B : Type 0} (first : Parser A) (f : A → B) → One first → One (then first (λ a. give (f a)))
one_map first f one = record {
  fails = λ {bytes} {place} {reason = r} {there} k. elim (on-faulted (first bytes place) _ r there k.read) [
    | inl e ↦ one.fails (record { begun = k.begun; read = e; placed = k.placed })
    | inr w ↦ let (a, next, e, q) = w in absurd (not-got (sym q))
  ];
  reads = λ {bytes} {place} {a = b} {next} g.
      let (a, middle, e, q) = on-got (first bytes place) _ b next g.read in
      one.reads (record { begun = g.begun; read = e ∙ ap (got a) (got-next q) });
  only = λ bytes other place e. ap (λ r. on_read r (λ a next. got (f a) next)) (one.only bytes other place e);
}

one-item : (check : ℕ → Bool) (reason : Reason) → Valued reason → One (item check reason)
unfolding item
one-item check reason v = one-tested number check reason one_number v

one-rising : (low high least : ℕ) → One (rising low high least)
unfolding rising
one-rising low high least = one-tested (item (inside low high) Range) (leb least) Unordered (one-item (inside low high) Range fit) fit

going-number : Going number
going-number = one-going one_number

going-item : (check : ℕ → Bool) (reason : Reason) → Valued reason → Going (item check reason)
going-item check reason v = one-going (one-item check reason v)

going-rising : (low high least : ℕ) → Going (rising low high least)
going-rising low high least = one-going (one-rising low high least)

-- ---- readers in turn

-- A reader that has no fault with a place.
pointing-none : {A : Type 0} {parser : Parser A} → ((bytes : List ℕ) (place : ℕ) (reason : Reason) (there : ℕ) → Faults parser bytes place reason there → ⊥) → Pointing parser
pointing-none h = record {
  onward = λ f. absurd (h _ _ _ _ f);
  early = λ f g k. absurd (h _ _ _ _ f);
  still = λ f more g. absurd (h _ _ _ _ f);
}

going-give : {A : Type 0} (a : A) → Going (give a)
going-give a = record {
  points = pointing-none (λ bytes place reason there f. not-got (sym f.read));
  forward = λ g. let e = got-next g.read in (omega arith, omega (arith, g.begun));
  same = λ g h. g.read;
}

-- Some bytes give this value.
abbrev Given : {A : Type 0} → Parser A → A → Type 0
Given first a = (bytes : List ℕ) × (place : ℕ) × (next : ℕ) × (first bytes place ≡ got a next)

-- A fault of two readers in turn: the first one's, or the other's after a value.
data Split {A B : Type 0} (first : Parser A) (rest : A → Parser B) (bytes : List ℕ) (place : ℕ) (reason : Reason) (there : ℕ) : Type 0 where
  at_first : Faults first bytes place reason there → Split first rest bytes place reason there
  at_rest : (a : A) (middle : ℕ) → Gets first bytes place a middle → Faults (rest a) bytes middle reason there → Split first rest bytes place reason there

module _ {A B : Type 0} {first : Parser A} (rest : A → Parser B) (going : Going first) where
  split : {bytes : List ℕ} {place : ℕ} {reason : Reason} {there : ℕ} → Faults (then first rest) bytes place reason there → Split first rest bytes place reason there
  split {bytes} {place} {reason} {there} f = elim (on-faulted (first bytes place) _ reason there f.read) [
    | inl e ↦ at_first (record { begun = f.begun; read = e; placed = f.placed })
    | inr w ↦
        let (a, middle, e, q) = w in
        let g : Gets first bytes place a middle = record { begun = f.begun; read = e } in
        at_rest a middle g (record { begun = (going.forward g).1; read = q; placed = f.placed })
  ]

  -- After a value the fault is the other's.
  later : {bytes : List ℕ} {place : ℕ} {a : A} {middle : ℕ} {reason : Reason} {there : ℕ} → first bytes place ≡ got a middle → Faults (then first rest) bytes place reason there
      → Faults (rest a) bytes middle reason there
  later e f = record { begun = (going.forward (record { begun = f.begun; read = e })).1; read = rw e at f.read; placed = f.placed }

  -- Where the first reader has a fault, in no other bytes that are the same up to there does it come to a value before.
  not-before : {bytes other : List ℕ} {place : ℕ} {a : A} {next : ℕ} {reason : Reason} {there : ℕ} → Faults first bytes place reason there → Agree there bytes other
      → Gets first other place a next → there ≤ next
  not-before {next = next} {there = there} f g h = elim (test (ltb next there)) [
    | off l ↦ ltb-false next there l
    | on l ↦ let less : next < there = ltb-true next there l in
        absurd (not-got (sym f.read ∙ going.same h (agree_less (omega arith) (agree-back g))))
  ]

  pointing-then : ((a : A) → Given first a → Pointing (rest a)) → Pointing (then first rest)
  pointing-then k = record {
    onward = λ f. elim (split f) [
      | at_first g ↦ going.points.onward g
      | at_rest a middle g h ↦ let (l, m, n) = (k a (_, _, _, g.read)).onward h in (omega (arith, going.forward g), m, n)
    ];
    early = λ f g h. elim (split f) [
      | at_first u ↦ elim (split h) [
        | at_first v ↦ going.points.early u g v
        | at_rest a middle v w ↦ omega (arith, not-before u g v, (k a (_, _, _, v.read)).onward w)
      ]
      | at_rest a middle u v ↦
          let reached = ((k a (_, _, _, u.read)).onward v).0 in
          (k a (_, _, _, u.read)).early v g (later (going.same u (agree_less reached g)) h)
    ];
    still = λ f more g. elim (split f) [
      | at_first u ↦ rw (going.points.still u more g) refl
      | at_rest a middle u v ↦
          let reached = ((k a (_, _, _, u.read)).onward v).0 in
          rw (going.same u (agree_less (omega (arith, reached)) g)) ((k a (_, _, _, u.read)).still v more g)
    ];
  }

  going-then : ((a : A) → Given first a → Going (rest a)) → Going (then first rest)
  going-then k = record {
    points = pointing-then (λ a given. (k a given).points);
    forward = λ {bytes} {place} {a = b} {next} g.
        let (a, middle, e, q) = on-got (first bytes place) _ b next g.read in
        let (l, m) = going.forward (record { begun = g.begun; read = e }) in
        let (n, p) = (k a (_, _, _, e)).forward (record { begun = m; read = q }) in
        (omega arith, p);
    same = λ {bytes} {other} {place} {a = b} {next} g h.
        let (a, middle, e, q) = on-got (first bytes place) _ b next g.read in
        let (l, m) = going.forward (record { begun = g.begun; read = e }) in
        let u : Gets (rest a) bytes middle b next = record { begun = m; read = q } in
        let (n, p) = (k a (_, _, _, e)).forward u in
        rw (going.same (record { begun = g.begun; read = e }) (agree_less n h)) ((k a (_, _, _, e)).same u h);
  }

-- ---- a limit over several numbers is judged where the last of them is read

going-same : {A : Type 0} {parser other : Parser A} → ((bytes : List ℕ) (place : ℕ) → parser bytes place ≡ other bytes place) → Going other → Going parser
going-same h g = subst Going (sym (fun_ext (λ bytes. fun_ext (h bytes)))) g

pointing-same : {A : Type 0} {parser other : Parser A} → ((bytes : List ℕ) (place : ℕ) → parser bytes place ≡ other bytes place) → Pointing other → Pointing parser
pointing-same h p = subst Pointing (sym (fun_ext (λ bytes. fun_ext (h bytes)))) p

on_same : {A B : Type 0} (r : Read A) (f g : A → ℕ → Read B) → ((a : A) (next : ℕ) → r ≡ got a next → f a next ≡ g a next) → on_read r f ≡ on_read r g
on_same (got a next) f g h = h a next refl
on_same (fault reason place) f g h = refl

-- The number that is so many behind one is one fewer behind the next.
numbers-later : (bytes : List ℕ) (place k behind n next : ℕ) → k ≡ suc behind → number bytes place ≡ got n next → numbers_on k bytes place ≡ numbers_on behind bytes next
unfolding numbers_on
numbers-later bytes place k behind n next z e = rw (z, e) refl

-- A limit may as well be judged by what reads on after the first number.
limited-later : {B : Type 0} (check : ℕ → Bool) (reason : Reason) (rest : ℕ → Parser B) (fine : B → Bool) (before : B → ℕ) (behind : ℕ → ℕ)
    → ((bytes : List ℕ) (place n next : ℕ) (b : B) (after : ℕ) → item check reason bytes place ≡ got n next → rest n bytes next ≡ got b after → before b ≡ suc (behind n))
    → (bytes : List ℕ) (place : ℕ) → limited (then (item check reason) rest) fine before bytes place ≡ then (item check reason) (λ n. limited (rest n) fine (λ _. behind n)) bytes place
unfolding limited
limited-later check reason rest fine before behind h bytes place =
    on-on (item check reason bytes place) (λ n next. rest n bytes next) _
    ∙ on_same (item check reason bytes place) _ _ (λ n next e. on_same (rest n bytes next) _ _ (λ b after q.
    ap (λ t. cond (fine b) (got b after) (fault Limit t))
    (numbers-later bytes place (before b) (behind n) n next (h bytes place n next b after e q) (item-read check reason bytes place n next e))))

-- A limit may as well be judged before a value is made of what was read.
limited-map : {A B : Type 0} (first : Parser A) (f : A → B) (fine : B → Bool) (k : ℕ) (bytes : List ℕ) (place : ℕ)
    → limited (then first (λ a. give (f a))) fine (λ _. k) bytes place ≡ then (limited first (λ a. fine (f a)) (λ _. k)) (λ a. give (f a)) bytes place
unfolding limited
limited-map {A} first f fine k bytes place = by (first bytes place)
  where
    pick : (b : Bool) (a : A) (next there : ℕ) → cond b (got (f a) next) (fault Limit there) ≡ on_read (cond b (got a next) (fault Limit there)) (λ c m. got (f c) m)
    pick true a next there = refl
    pick false a next there = refl

    by : (r : Read A) → on_read (on_read r (λ a next. got (f a) next)) (λ b next. cond (fine b) (got b next) (fault Limit (numbers_on k bytes place)))
        ≡ on_read (on_read r (λ a next. cond (fine (f a)) (got a next) (fault Limit (numbers_on k bytes place)))) (λ a next. got (f a) next)
    by (got a next) = pick (fine (f a)) a next (numbers_on k bytes place)
    by (fault reason there) = refl

-- A limit over one number.
limited-one : {A : Type 0} (first : Parser A) (fine : A → Bool) → One first → Going (limited first fine (λ _. 0))
unfolding limited numbers_on
limited-one first fine one = one-going (one-tested first fine Limit one fit)

module _ (low : ℕ) (reason : Reason) (v : Valued reason) where
  going-items : (bounds : List ℕ) → Going (items_of low reason bounds)
  unfolding items_of
  going-items [] = going-give []
  going-items (bound ∷ bounds) = going-then _ (going-item (inside low bound) reason v) (λ n _. going-then _ (going-items bounds) (λ ns _. going-give (n ∷ ns)))

  -- The last of several is as many behind the first as there are others.
  going-limited : (bound : ℕ) (bounds : List ℕ) (fine : List ℕ → Bool) → Going (limited (items_of low reason (bound ∷ bounds)) fine (λ _. length bounds))
  unfolding items_of
  going-limited bound [] fine = limited-one _ fine (one_map (item (inside low bound) reason) (λ n. n ∷ []) (one-item (inside low bound) reason v))
  going-limited bound (next ∷ bounds) fine =
      going-same (limited-later (inside low bound) reason _ fine _ (λ n. length bounds) (λ bytes place n middle ns after e q. refl))
      (going-then _ (going-item (inside low bound) reason v) (λ n _.
      going-same (limited-map (items_of low reason (next ∷ bounds)) (λ ns. n ∷ ns) fine (length bounds))
      (going-then _ (going-limited next bounds (λ ns. fine (n ∷ ns))) (λ ns _. going-give (n ∷ ns)))))

-- So many sizes: the last is one number fewer behind the first.
going-sizes : (least most v : ℕ) (fine : List ℕ → Bool) → 1 ≤ v → Going (limited (sizes_of least most v) fine (λ _. v - 1))
going-sizes least most zero fine h = absurd (omega arith)
going-sizes least most (suc w) fine h =
    let z : length (replicate w (suc most)) ≡ suc w - 1 = omega (arith, length-replicate w (suc most)) in
    subst (λ k. Going (limited (sizes_of least most (suc w)) fine (λ _. k))) z (going-limited least Limit fit (suc most) (replicate w (suc most)) fine)

-- "v; sizes": the last is v numbers behind v, of which there is one at least.
filled : (v : ℕ) → Given (item (inside least_variables (suc most_variables)) Limit) v → 1 ≤ v
filled v given = let (bytes, place, next, e) = given in ((item-said bytes least_variables (suc most_variables) Limit).gives place v next e).known.0

header-later : (least most : ℕ) (fine : List ℕ → Bool) (bytes : List ℕ) (place : ℕ) → limited (size_list least most) fine length bytes place
    ≡ then (item (inside least_variables (suc most_variables)) Limit) (λ v. limited (sizes_of least most v) fine (λ _. v - 1)) bytes place
unfolding size_list
header-later least most fine = limited-later (inside least_variables (suc most_variables)) Limit (sizes_of least most) fine length (λ v. v - 1) (λ bytes place v next sizes after e q.
    omega (arith, filled v (bytes, place, next, e), ((sizes-said bytes least most v).gives next sizes after q).known.0))

going-header : (least most : ℕ) (fine : List ℕ → Bool) → Going (limited (size_list least most) fine length)
going-header least most fine =
    going-same (header-later least most fine)
    (going-then _ (going-item (inside least_variables (suc most_variables)) Limit fit) (λ v given. going-sizes least most v fine (filled v given)))

-- ---- the parts of a file

going-values : (sizes : List ℕ) → Going (values_of sizes)
going-values sizes = going-items 0 Range fit sizes

going-value : (bound : ℕ) → Going (item (inside 0 bound) Range)
going-value bound = going-item (inside 0 bound) Range fit

going-feature : (kind : Kind) (low high least : ℕ) → Going (feature_of kind low high least)
unfolding feature_of
going-feature plain low high least = going-rising low high least
going-feature gapped low high least =
    going-same (λ bytes place. sym (on-on (number bytes place) (λ n next. got (least + n) next) _))
    (one-going (one-tested (then number (λ n. give (least + n))) (inside low high) Range (one_map number (λ n. least + n) one_number) fit))

going-features : (kind : Kind) (k low high least : ℕ) → Going (features_of kind k low high least)
unfolding features_of
going-features kind zero low high least = going-give []
going-features kind (suc k) low high least =
    going-then _ (going-feature kind low high least) (λ f _. going-then _ (going-features kind k low high (suc f)) (λ fs _. going-give (f ∷ fs)))

going-feature-list : (kind : Kind) (low high : ℕ) → Going (feature_list kind low high)
unfolding feature_list
going-feature-list kind low high = going-then _ going-number (λ k _. going-features kind k low high 0)

going-entries : (sizes : List ℕ) (k least : ℕ) → Going (entries_of sizes k least)
unfolding entries_of
going-entries sizes zero least = going-give []
going-entries sizes (suc k) least =
    going-then _ (going-rising 0 (length sizes) least) (λ i _.
    going-then _ (going-value (size sizes i)) (λ x _.
    going-then _ (going-value (size sizes i)) (λ y _.
    going-then _ (going-entries sizes k (suc i)) (λ es _. going-give (record { variable = i; before = x; after = y } ∷ es)))))

going-operators : (sizes : List ℕ) (k : ℕ) → Going (operators_of sizes k)
unfolding operators_of operator_of
going-operators sizes zero = going-give []
going-operators sizes (suc k) = going-then _ (going-then _ (going-item (inside 1 (suc (length sizes))) Range fit) (λ n _. going-entries sizes n 0)) (λ o _.
    going-then _ (going-operators sizes k) (λ os _. going-give (o ∷ os)))

-- The mark of a file's kind.
going-mark : (kind : Kind) → Going (mark_of kind)
unfolding mark_of
going-mark plain = going-give tt
going-mark gapped = one-going (one_map (item (inside 0 1) Range) (λ _. tt) (one-item (inside 0 1) Range fit))

-- A goal value that the mark says is there, or none.
going-marked : (there : Bool) (d : ℕ) → Going (cond there (item (inside 0 d) Range) (give d))
going-marked true d = going-value d
going-marked false d = going-give d

going-goal : (sizes marks : List ℕ) → Going (goal_of sizes marks)
unfolding goal_of
going-goal [] marks = going-give []
going-goal (d ∷ ds) [] = going-give []
going-goal (d ∷ ds) (m ∷ ms) = going-then _ (going-marked (eqb m 1) d) (λ x _. going-then _ (going-goal ds ms) (λ xs _. going-give (x ∷ xs)))

-- n is placed at the columns.
going-sides : Going sides_of
unfolding sides_of
going-sides =
    going-same (limited-later (inside least_side (suc most_side)) Limit _ _ _ (λ r. 0) (λ bytes place r next sides after e q. refl))
    (going-then _ (going-item (inside least_side (suc most_side)) Limit fit) (λ r _.
    limited-one _ _ (one_map side (λ c. (r, c)) (one-item (inside least_side (suc most_side)) Limit fit))))

-- ---- whole files

-- Bytes that are left over have no place.
pointing-ended : {A : Type 0} (a : A) → Pointing (then ended (λ _. give a))
unfolding ended judge
pointing-ended a = pointing-none (λ bytes place reason there f. by (leb (length bytes) place) bytes place reason there f.read f.placed)
  where
    by : (b : Bool) (bytes : List ℕ) (place : ℕ) (reason : Reason) (there : ℕ) → on_read (judge b LeftOver bytes place) (λ _ next. got a next) ≡ fault reason there
        → has_place reason ≡ true → ⊥
    by true bytes place reason there e h = not-got (sym e)
    by false bytes place reason there e h = clash h (ap has_place (sym (reason-same e)))

pointing-body : (kind : Kind) (sizes : List ℕ) → Pointing (body_of kind sizes)
unfolding body_of
pointing-body kind sizes =
    pointing-then _ (going-values sizes) (λ start _.
    pointing-then _ (going-values sizes) (λ goal _.
    pointing-then _ (going-feature-list kind (atoms sizes) (features sizes)) (λ pairs _.
    pointing-then _ going-number (λ k _.
    pointing-then _ (going-operators sizes k) (λ operators _. pointing-ended _)))))

-- What stands behind the first number of a task file: 0 is the mark of the new kind, and another is how many sizes there are.
few : List ℕ → Bool
few sizes = leb (features sizes) most_features

behind-first : ℕ → Parser Task
behind-first zero = parts_of gapped
behind-first (suc w) = then (limited (sizes_of least_size most_size (suc w)) few (λ _. suc w - 1)) (body_of plain)

pointing-behind : (n : ℕ) → Pointing (behind-first n)
unfolding behind-first parts_of header few
pointing-behind zero = pointing-then _ (going-header least_size most_size _) (λ sizes _. pointing-body gapped sizes)
pointing-behind (suc w) = pointing-then _ (going-sizes least_size most_size (suc w) _ (omega arith)) (λ sizes _. pointing-body plain sizes)

-- Either kind of task file is read by its first number.
first-decides : (bytes : List ℕ) (place : ℕ) → task_of bytes place ≡ then (item (inside 0 (suc most_variables)) Limit) behind-first bytes place
unfolding task_of kind_of task_as mark_of parts_of header few behind-first item
first-decides bytes place = by (number bytes place) refl
  where
    by : (r : Read ℕ) → number bytes place ≡ r → task_as (kind_by r) bytes place ≡ then (item (inside 0 (suc most_variables)) Limit) behind-first bytes place
    by (fault reason there) e = rw (header-later least_size most_size few bytes place, e) refl
    by (got zero next) e = rw e refl
    by (got (suc w) next) e = rw (ne_eqb (suc w) 0 (omega arith), header-later least_size most_size few bytes place, e, le-leb least_variables (suc w) (omega arith), le-leb 0 (suc w) (omega arith)) (pick (ltb (suc w) (suc most_variables)))
      where
        pick : (b : Bool) → on_read (on_read (cond b (got (suc w) next) (fault Limit place)) (λ v m. limited (sizes_of least_size most_size v) few (λ _. v - 1) bytes m)) (λ sizes m. body_of plain sizes bytes m)
            ≡ on_read (cond b (got (suc w) next) (fault Limit place)) (λ v m. behind-first v bytes m)
        pick true = refl
        pick false = refl

pointing-task : Pointing task_of
pointing-task = pointing-same first-decides (pointing-then _ (going-item (inside 0 (suc most_variables)) Limit fit) (λ n _. pointing-behind n))

pointing-partial : Pointing partial_of
unfolding partial_of partial_header
pointing-partial =
    pointing-then _ (going-header least_partial_size most_partial_size _) (λ sizes _.
    pointing-then _ (going-values (replicate (length sizes) 2)) (λ marks _.
    pointing-then _ (going-values sizes) (λ start _.
    pointing-then _ (going-goal sizes marks) (λ goal _.
    pointing-then _ (going-feature-list plain (atoms sizes) (features sizes)) (λ pairs _.
    pointing-then _ going-number (λ k _.
    pointing-then _ (going-operators sizes k) (λ operators _. pointing-ended _)))))))

pointing-bay : Pointing bay_of
unfolding bay_of
pointing-bay =
    pointing-then _ going-sides (λ sides _.
    pointing-then _ (going-values (bay_sizes (sides.0 * sides.1))) (λ start _.
    pointing-then _ (going-values (bay_sizes (sides.0 * sides.1))) (λ goal _. pointing-ended _)))

-- A judgement whose faults have no place.
abbrev Placeless : {A : Type 0} → Read A → Type 0
Placeless r = (reason : Reason) (place : ℕ) → r ≡ fault reason place → has_place reason ≡ true → ⊥

placeless-got : {A : Type 0} (a : A) (next : ℕ) → Placeless (got a next)
placeless-got a next reason place e h = not-got (sym e)

placeless-fault : {A : Type 0} (other : Reason) (there : ℕ) → has_place other ≡ false → Placeless {A = A} (fault other there)
placeless-fault other there no_place reason place e h = clash h (ap has_place (sym (reason-same e)) ∙ no_place)

placeless-if : {A : Type 0} (b : Bool) (r s : Read A) → Placeless r → Placeless s → Placeless (cond b r s)
placeless-if true r s h k = h
placeless-if false r s h k = k

placeless-pairs : (T : Task) (next : ℕ) → Placeless (judged_pairs T next)
placeless-pairs T next =
    placeless-if (holds T.sizes (listed T.pairs) T.start) _ _ (placeless-fault Held 0 refl)
    (placeless-if (all_of (closed T.sizes (listed T.pairs)) T.operators) _ _ (placeless-got T next) (placeless-fault Unclosed 0 refl))

pointing-on : {A B : Type 0} {parser : Parser A} (rest : A → ℕ → Read B) → Pointing parser → ((a : A) (next : ℕ) → Placeless (rest a next))
    → Pointing (λ bytes place. on_read (parser bytes place) rest)
pointing-on {parser = parser} rest points none = record {
  onward = λ f. points.onward (front f);
  early = λ f g h. points.early (front f) g (front h);
  still = λ f more g. rw (points.still (front f) more g) refl;
}
  where
    front : {bytes : List ℕ} {place : ℕ} {reason : Reason} {there : ℕ} → Faults (λ s p. on_read (parser s p) rest) bytes place reason there → Faults parser bytes place reason there
    front {bytes} {place} {reason} {there} f = elim (on-faulted (parser bytes place) rest reason there f.read) [
      | inl e ↦ record { begun = f.begun; read = e; placed = f.placed }
      | inr w ↦ let (a, next, e, q) = w in absurd (none a next reason there q f.placed)
    ]

pointed : {A : Type 0} {parser : Parser A} → Pointing parser → (bytes : List ℕ) (reason : Reason) (place : ℕ) → parser bytes 0 ≡ fault reason place → has_place reason ≡ true
    → Pointed (λ s. parser s 0) bytes reason place
pointed {parser = parser} points bytes reason place e h =
    let f : Faults parser bytes 0 reason place = record { begun = omega arith; read = e; placed = h } in
    let (l, m, n) = points.onward f in
    record {
      within = read-within bytes place m;
      at-number = elim n [
        | broken q ↦ (number-broken bytes place reason place m q).1
        | unfit value next v q ↦ v bytes place (bytes_read bytes place) (number-whole bytes place value next q)
      ];
      no-earlier = λ other r p q k. points.early f (agree-front place bytes other m) (record { begun = omega arith; read = q; placed = k });
      settled = λ more other. points.still f more (agree-front (place + bytes_read bytes place) bytes other (read-within bytes place m));
    }

-- ---- every file that is judged

module _ (bytes : List ℕ) (reason : Reason) (place : ℕ) where
  -- A task file before its pairs are judged.
  pub read-pointed : task_of bytes 0 ≡ fault reason place → has_place reason ≡ true → Pointed (λ file. task_of file 0) bytes reason place
  read-pointed e h = pointed pointing-task bytes reason place e h

  pub task-pointed : judged_task bytes ≡ fault reason place → has_place reason ≡ true → Pointed judged_task bytes reason place
  unfolding judged_task
  task-pointed e h = pointed (pointing-on judged_pairs pointing-task placeless-pairs) bytes reason place e h

  pub weights-pointed : (kind : Kind) (n : ℕ) → judged_weights_as kind n bytes ≡ fault reason place → has_place reason ≡ true → Pointed (judged_weights_as kind n) bytes reason place
  unfolding judged_weights_as
  weights-pointed kind n e h =
      pointed (pointing-then _ (going-mark kind) (λ _ _. pointing-then _ (going-feature-list kind 0 n) (λ weights _. pointing-ended weights))) bytes reason place e h

  pub partial-pointed : (out : Partial → ℕ → ℕ → Bool) → judged_partial out bytes ≡ fault reason place → has_place reason ≡ true → Pointed (judged_partial out) bytes reason place
  unfolding judged_partial
  partial-pointed out e h = pointed (pointing-on _ pointing-partial (λ P next.
      placeless-if (ltb (length (built_task P (out P)).operators) number_end) _ _ (placeless-pairs (built_task P (out P)) next) (placeless-fault Outgrown 0 refl))) bytes reason place e h

  pub bay-pointed : judged_bay bytes ≡ fault reason place → has_place reason ≡ true → Pointed judged_bay bytes reason place
  unfolding judged_bay judged_lots
  bay-pointed e h = pointed (pointing-on _ pointing-bay (λ b next.
      placeless-if (one_gap b.start) _ _ (placeless-if (one_gap b.goal) _ _
      (placeless-if (equal_lots (slot_count b) b.start b.goal) _ _ (placeless-got b next) (placeless-fault Unequal 0 refl))
      (placeless-fault Gaps 0 refl)) (placeless-fault Gaps 0 refl))) bytes reason place e h
