-- Small facts that pin down good lists, the largest good sublist, and what the calls say of it. Nothing else builds on them.
use Rattle.std.specs.Prelude.{ℕ, ◌≡◌, refl, Bool, true, false, not, ◌&&◌, ◌||◌, cond, List, [], ◌∷◌, eqb, get_or, replicate}
use Rattle.std.proofs.Common.{ap, ap₂, sym, ◌∙◌, subst, inl, inr, true≢false, arith, eqb-true, eq-eqb}
use Rattle.std.proofs.Math.Path.{fun_ext}
use Rattle.std.proofs.Math.Bool.{and-eq-true_iff}
use mathlib.Core.List.Memᴰ.{eq_of_singleton}
use mathlib.Core.List.Memᴰ.{head as here}
use mathlib.Core.List.Memᴰ.{tail as there}
use Rattle.meaning.specs.Sets.{Set, listed, any_of, all_of, two_of, some}
use Rattle.meaning.specs.Task.{Operator, Task, Run, names}
use Rattle.meaning.specs.Feature.{sum_of, pairs_of, atoms, features, pair_start, double, both}
use Rattle.meaning.specs.Pair.{paired, possible, clashing, stuck, idle, clashing_after, uncovered, closed, holds, held_pair, joins_afters, joins_possible, unclosed_pair}
use Rattle.meaning.specs.Slot.{LeastMember}
use Rattle.meaning.specs.Number.{groups, number, group_bytes, number_bytes}
use Rattle.meaning.specs.File.{item, judge, rising, ended, items_of, size_list, header, limited, feature_of, features_of, feature_list, entries_of, operator_of, operators_of, gapped, kind_of, mark_of, body_of, parts_of, task_as, task_of}
use Rattle.meaning.specs.File.{bytes_of, counted, entry_bytes, operator_bytes, weight_bytes, gaps_from, list_bytes, task_bytes_as, task_bytes}
use Rattle.meaning.specs.Answer.{done, Outcome, writes, delivered}
use Rattle.meaning.specs.Mend.{Good, Within, Sublist, Largest, Dropped, mended, Mends, Drops, PairFault, no_fault, start_holds, operator_breaks, LeastHeld, LeastUnclosed, FaultsPairs}
use Rattle.meaning.proofs.Facts.{pair_of_two}

-- To name one of these on an `unfolding` line opens what pairs are judged with, what files are read with, what bytes are written with.
pairing : Unit {0}
unfolding pair_start double both paired possible clashing stuck idle clashing_after uncovered closed holds held_pair joins_afters joins_possible unclosed_pair listed any_of all_of two_of some names
    features atoms pairs_of sum_of
pairing = tt

reading : Unit {0}
unfolding task_of kind_of task_as mark_of parts_of body_of header limited size_list items_of feature_list features_of feature_of operators_of operator_of entries_of item judge rising ended number groups features atoms pairs_of sum_of
reading = tt

writing : Unit {0}
unfolding task_bytes_as list_bytes gaps_from counted bytes_of entry_bytes operator_bytes weight_bytes number_bytes group_bytes
writing = tt

-- ---- the tasks

-- The operators (0: 0 to 1) and (1: 0 to 1). Of two variables of size 2 the pairs are 4 (00), 5 (01), 6 (10) and 7 (11).
abbrev lift : Operator
lift = record { variable = 0; before = 0; after = 1 } ∷ []

abbrev push : Operator
push = record { variable = 1; before = 0; after = 1 } ∷ []

abbrev task_of_two : List ℕ → List ℕ → List ℕ → List Operator → Task
task_of_two start goal pairs operators = record { sizes = pair_of_two; start = start; goal = goal; pairs = pairs; operators = operators }

-- Document 01's case G, refused 7: 00 to 10, lift, pair 7.
abbrev task_g : Task
task_g = task_of_two (0 ∷ 0 ∷ []) (1 ∷ 0 ∷ []) (7 ∷ []) (lift ∷ [])

-- Case H, refused 6: 11 to 00, pair 7.
abbrev task_h : Task
task_h = task_of_two (1 ∷ 1 ∷ []) (0 ∷ 0 ∷ []) (7 ∷ []) []

-- A chain: 01 to 10, lift, pairs 4, 5 and 7. The list is closed, since lift is idle; but the start holds 5. Without 5 lift is not idle, and 7 is unclosed.
abbrev chain : Task
chain = task_of_two (0 ∷ 1 ∷ []) (1 ∷ 0 ∷ []) (4 ∷ 5 ∷ 7 ∷ []) (lift ∷ [])

-- ---- held pairs

-- The state 01 holds 5 and not 6.
held-by-01 : (held_pair pair_of_two (0 ∷ 1 ∷ []) 5 ≡ true) × (held_pair pair_of_two (0 ∷ 1 ∷ []) 6 ≡ false)
unfolding pairing
held-by-01 = (refl, refl)

-- ---- good lists

-- The list of 5 is closed under lift, and not under the second operator.
second-operator : (closed pair_of_two (listed (5 ∷ [])) lift ≡ true) × (Good (task_of_two (0 ∷ 0 ∷ []) (1 ∷ 0 ∷ []) (5 ∷ []) (lift ∷ push ∷ [])) (listed (5 ∷ [])) → ⊥)
unfolding pairing
second-operator = (refl, λ g. true≢false (sym (g.closed-under push (there (here refl)))))

-- The chain's list is closed, and the start holds a pair of it.
held-by-the-start : (closed pair_of_two (listed (4 ∷ 5 ∷ 7 ∷ [])) lift ≡ true) × (Good chain (listed (4 ∷ 5 ∷ 7 ∷ [])) → ⊥)
unfolding pairing
held-by-the-start = (refl, λ g. true≢false g.free)

-- ---- sublists, by what they have of a list

-- The numbers of a list that are marked.
unfoldable marked : List ℕ → List Bool → Set
marked [] bs f = false
marked (x ∷ xs) [] f = false
marked (x ∷ xs) (b ∷ bs) f = (eqb f x && b) || marked xs bs f

-- Which of them are in a set.
unfoldable marks : Set → List ℕ → List Bool
marks a [] = []
marks a (x ∷ xs) = a x ∷ marks a xs

marked-at : (a : Set) (xs : List ℕ) (f : ℕ) → marked xs (marks a xs) f ≡ (listed xs f && a f)
unfolding marked marks listed any_of
marked-at a [] f = refl
marked-at a (x ∷ xs) f = by (eqb f x) (eqb-true f x) (marked-at a xs f)
  where
    twice : (b c m : Bool) → m ≡ (c && b) → (b || m) ≡ b
    twice true c m e = refl
    twice false true m e = e
    twice false false m e = e

    by : (alike : Bool) → (alike ≡ true → f ≡ x) → marked xs (marks a xs) f ≡ (listed xs f && a f) → ((alike && a x) || marked xs (marks a xs) f) ≡ ((alike || listed xs f) && a f)
    by false q rest = rest
    by true q rest = rw (← q refl) (twice (a f) (listed xs f) _ rest)

-- A set within a list is what it has of the list.
within-marked : (a : Set) (xs : List ℕ) → Within a (listed xs) → a ≡ marked xs (marks a xs)
within-marked a xs within = fun_ext (λ f. sym (marked-at a xs f ∙ by (listed xs f) (a f) (within f)))
  where
    by : (l b : Bool) → (b ≡ true → l ≡ true) → (l && b) ≡ b
    by true b h = refl
    by false true h = h refl
    by false false h = refl

-- So a good sublist is good by what it has of the list.
good-marked : (T : Task) (pairs : List ℕ) → Sublist T pairs → Good T (listed pairs) → Good T (marked T.pairs (marks (listed pairs) T.pairs))
good-marked T pairs sub = subst (Good T) (within-marked (listed pairs) T.pairs sub.within)

-- A list has its first number.
first-listed : (x : ℕ) (l : List ℕ) → listed (x ∷ l) x ≡ true
unfolding listed any_of
first-listed x l = rw (eq-eqb x x refl) refl

-- ---- the largest good sublist

-- Of the chain's list a good sublist has neither 5 nor 7,
chain-good : (b c a : Bool) → Good chain (marked (4 ∷ 5 ∷ 7 ∷ []) (a ∷ b ∷ c ∷ [])) → (b ≡ false) × (c ≡ false)
unfolding pairing marked
chain-good true c a g = absurd (true≢false g.free)
chain-good false true true g = absurd (true≢false (sym (g.closed-under lift (here refl))))
chain-good false true false g = absurd (true≢false (sym (g.closed-under lift (here refl))))
chain-good false false a g = (refl, refl)

-- whatever list of pairs it is:
chain-lacks : (kept : List ℕ) → Sublist chain kept → Good chain (listed kept) → (listed kept 5 ≡ false) × (listed kept 7 ≡ false)
unfolding marks
chain-lacks kept sub g = chain-good _ _ _ (good-marked chain kept sub g)

-- 4 alone is a good sublist,
four : Sublist chain (4 ∷ []) × Good chain (listed (4 ∷ []))
unfolding pairing Run
four = (
  record { increasing = (omega arith, omega arith); within = λ f. wider (eqb f 4) _ },
  record { closed-under = λ o m. rw (eq_of_singleton m) refl; free = refl },
)
  where
    wider : (a b : Bool) → (a || false) ≡ true → (a || b) ≡ true
    wider true b e = refl
    wider false b e = absurd (true≢false (sym e))

-- so the largest has 4, and it has no more:
chain-only : (kept : List ℕ) → Largest chain kept → (listed kept 4 ≡ true) × (listed kept 5 ≡ false) × (listed kept 7 ≡ false)
chain-only kept h = let (five, seven) = chain-lacks kept h.sublist h.good in (h.most (4 ∷ []) four.0 four.1 4 (first-listed 4 []), five, seven)

-- one pair stays, and two go.
chain-largest : Largest chain (4 ∷ [])
unfolding listed any_of
chain-largest = record {
  sublist = four.0;
  good = four.1;
  most = λ other sub g f e. let (five, seven) = chain-lacks other sub g in
      left (eqb f 4) (eqb f 5) (eqb f 7)
      (λ z. true≢false (sym e ∙ ap (listed other) (eqb-true f 5 z) ∙ five))
      (λ z. true≢false (sym e ∙ ap (listed other) (eqb-true f 7 z) ∙ seven))
      (sub.within f e);
}
  where
    left : (a b c : Bool) → (b ≡ true → ⊥) → (c ≡ true → ⊥) → (a || (b || (c || false))) ≡ true → (a || false) ≡ true
    left true b c p q w = refl
    left false true c p q w = absurd (p refl)
    left false false true p q w = absurd (q refl)
    left false false false p q w = w

-- What is dropped is what is not kept.
chain-dropped : (dropped : List ℕ) → Dropped chain (4 ∷ []) dropped → (listed dropped 4 ≡ false) × (listed dropped 5 ≡ true) × (listed dropped 7 ≡ true)
unfolding pairing
chain-dropped dropped h = (h.each 4, h.each 5, h.each 7)

-- A sublist has only what was listed, in increasing order.
not_listed : Sublist chain (6 ∷ []) → ⊥
unfolding pairing
not_listed sub = true≢false (sym (sub.within 6 refl))

not-increasing : Sublist chain (5 ∷ 4 ∷ []) → ⊥
unfolding Run
not-increasing sub = omega (arith, sub.increasing)

-- ---- the pair that is named

-- The start 000 of three variables of size 2 holds the pairs 6, 10 and 14. Listed are 10 and 14, and 7, which it does not hold.
abbrev three_held : Task
three_held = record { sizes = 2 ∷ 2 ∷ 2 ∷ []; start = 0 ∷ 0 ∷ 0 ∷ []; goal = 1 ∷ 1 ∷ 1 ∷ []; pairs = 7 ∷ 10 ∷ 14 ∷ []; operators = [] }

-- 10 is the least that is listed and held, so no other is named.
least-held : (LeastHeld three_held 14 → ⊥) × (LeastHeld three_held 7 → ⊥) × (LeastHeld three_held 6 → ⊥)
unfolding pairing
least-held = (λ h. true≢false (h.first 10 (omega arith)), λ h. true≢false (sym h.member), λ h. true≢false (sym h.member))

-- Pair 7 is unclosed under lift and under push: the first of them is named.
first-operator : (unclosed_pair pair_of_two (listed (7 ∷ [])) lift 7 ≡ true) × (unclosed_pair pair_of_two (listed (7 ∷ [])) push 7 ≡ true)
    × (LeastUnclosed (task_of_two (0 ∷ 0 ∷ []) (1 ∷ 0 ∷ []) (7 ∷ []) (lift ∷ push ∷ [])) 1 7 → ⊥)
unfolding pairing
first-operator = (refl, refl, λ h. true≢false (sym (h.earlier 0 (omega arith))))

-- Pairs 6 and 7 are unclosed under lift: the least of them is named.
least-unclosed : LeastUnclosed (task_of_two (0 ∷ 0 ∷ []) (1 ∷ 0 ∷ []) (6 ∷ 7 ∷ []) (lift ∷ [])) 0 7 → ⊥
unfolding pairing
least-unclosed h = true≢false (h.least.first 6 (omega arith))

-- ---- what the calls leave

one-member : (x f : ℕ) → listed (x ∷ []) f ≡ true → f ≡ x
unfolding listed any_of
one-member x f e = eqb-true f x (by (eqb f x) e)
  where
    by : (b : Bool) → (b || false) ≡ true → b ≡ true
    by true e = refl
    by false e = e

-- An increasing list within a list of one is that list or empty.
within-one : (x lo hi : ℕ) (l : List ℕ) → Run lo l hi → Within (listed l) (listed (x ∷ [])) → l ≡ cond (listed l x) (x ∷ []) []
unfolding listed any_of Run
within-one x lo hi [] r w = refl
within-one x lo hi (y ∷ []) r w = let q : y ≡ x = one-member x y (w y (first-listed y [])) in rw (← q, eq-eqb y y refl) refl
within-one x lo hi (y ∷ z ∷ l) r w = absurd (omega (arith, r.1.0, one-member x y (w y (first-listed y (z ∷ l))), one-member x z (w z (later (eqb z y) _ (first-listed z l)))))
  where
    later : (a b : Bool) → b ≡ true → (a || b) ≡ true
    later true b e = refl
    later false b e = e

-- The least member of a list of one that passes a test.
one-least : (x f : ℕ) (passes : Set) → LeastMember f (λ g. listed (x ∷ []) g && passes g) → (f ≡ x) × (passes x ≡ true)
one-least x f passes h =
    let (l, q) = (and-eq-true_iff (listed (x ∷ []) f) (passes f)).0 h.member in
    let z = one-member x f l in
    (z, ap passes (sym z) ∙ q)

-- Where no good sublist has the pair 7, and only that is listed, nothing is kept.
none_kept : (start goal : List ℕ) (operators : List Operator) → let T = task_of_two start goal (7 ∷ []) operators in
    ((b : Bool) → Good T (marked (7 ∷ []) (b ∷ [])) → b ≡ false) → (kept : List ℕ) → Largest T kept → kept ≡ []
unfolding marks
none_kept start goal operators lacks kept h = within-one 7 _ _ kept h.sublist.increasing h.sublist.within
    ∙ ap (λ b. cond b (7 ∷ []) []) (lacks _ (good-marked (task_of_two start goal (7 ∷ []) operators) kept h.sublist h.good))

-- Case G. No good sublist has pair 7, so the file of case D is left,
G-good : (b : Bool) → Good task_g (marked (7 ∷ []) (b ∷ [])) → b ≡ false
unfolding pairing marked
G-good true g = absurd (true≢false (sym (g.closed-under lift (here refl))))
G-good false g = refl

G-kept : (kept : List ℕ) → Largest task_g kept → kept ≡ []
G-kept = none_kept task_g.start task_g.goal task_g.operators G-good

abbrev file_g : List ℕ
file_g = 2 ∷ 2 ∷ 2 ∷ 0 ∷ 0 ∷ 1 ∷ 0 ∷ 1 ∷ 7 ∷ 1 ∷ 1 ∷ 0 ∷ 0 ∷ 1 ∷ []

G-mended : (outcome : Outcome ℕ) → Mends file_g (replicate 15 9) outcome
    → outcome ≡ record { answer = done 13; lent = 2 ∷ 2 ∷ 2 ∷ 0 ∷ 0 ∷ 1 ∷ 0 ∷ 0 ∷ 1 ∷ 1 ∷ 0 ∷ 0 ∷ 1 ∷ 9 ∷ 9 ∷ [] }
unfolding reading pairing writing
G-mended outcome (kept, largest, e) = e ∙ ap (λ l. delivered (task_bytes (mended task_g l)) (replicate 15 9)) (G-kept kept largest)

-- of the kind that came: the same of a new file.
G-mended-new : (outcome : Outcome ℕ) → Mends (0 ∷ file_g) (replicate 15 9) outcome
    → outcome ≡ record { answer = done 14; lent = 0 ∷ 2 ∷ 2 ∷ 2 ∷ 0 ∷ 0 ∷ 1 ∷ 0 ∷ 0 ∷ 1 ∷ 1 ∷ 0 ∷ 0 ∷ 1 ∷ 9 ∷ [] }
unfolding reading pairing writing
G-mended-new outcome (kept, largest, e) = e ∙ ap (λ l. delivered (task_bytes_as gapped (mended task_g l)) (replicate 15 9)) (G-kept kept largest)

-- 7 is said to be dropped,
G-lost : (kept dropped : List ℕ) → Largest task_g kept → Dropped task_g kept dropped → dropped ≡ 7 ∷ []
unfolding pairing
G-lost kept dropped h rest = within-one 7 _ _ dropped rest.sublist.increasing rest.sublist.within
    ∙ ap (λ b. cond b (7 ∷ []) []) (rest.each 7 ∙ ap (λ l. not (listed l 7)) (G-kept kept h))

G-dropped : (outcome : Outcome ℕ) → Drops file_g (replicate 3 9) outcome → outcome ≡ record { answer = done 2; lent = 1 ∷ 7 ∷ 9 ∷ [] }
unfolding reading writing
G-dropped outcome (kept, dropped, largest, rest, e) = e ∙ ap (λ l. delivered (weight_bytes l) (replicate 3 9)) (G-lost kept dropped largest rest)

-- and is named as unclosed under operator 0.
G-fault : (outcome : Outcome PairFault) → FaultsPairs file_g (replicate 3 9) outcome → outcome ≡ record { answer = done operator_breaks; lent = 7 ∷ 0 ∷ 9 ∷ [] }
unfolding reading pairing
G-fault outcome (inl (good, e)) = absurd (true≢false (sym (good.closed-under lift (here refl))))
G-fault outcome (inr (inl (f, h, e))) = absurd (true≢false (sym (one-least 7 f _ h).1))
G-fault outcome (inr (inr (f, j, h, e))) =
    let z : j ≡ 0 = omega (arith, h.counted) in
    e ∙ ap₂ (λ g i. writes operator_breaks (g ∷ i ∷ []) (replicate 3 9)) (one-least 7 f _ h.least).0 z

-- Case H. Pair 7 is dropped here too, with no 6, and is named as held; the second word stays.
H-good : (b : Bool) → Good task_h (marked (7 ∷ []) (b ∷ [])) → b ≡ false
unfolding pairing marked
H-good true g = absurd (true≢false g.free)
H-good false g = refl

H-kept : (kept : List ℕ) → Largest task_h kept → kept ≡ []
H-kept = none_kept task_h.start task_h.goal task_h.operators H-good

abbrev file_h : List ℕ
file_h = 2 ∷ 2 ∷ 2 ∷ 1 ∷ 1 ∷ 0 ∷ 0 ∷ 1 ∷ 7 ∷ 0 ∷ []

H-mended : (outcome : Outcome ℕ) → Mends file_h (replicate 10 9) outcome → outcome ≡ record { answer = done 9; lent = 2 ∷ 2 ∷ 2 ∷ 1 ∷ 1 ∷ 0 ∷ 0 ∷ 0 ∷ 0 ∷ 9 ∷ [] }
unfolding reading pairing writing
H-mended outcome (kept, largest, e) = e ∙ ap (λ l. delivered (task_bytes (mended task_h l)) (replicate 10 9)) (H-kept kept largest)

H-fault : (outcome : Outcome PairFault) → FaultsPairs file_h (replicate 3 9) outcome → outcome ≡ record { answer = done start_holds; lent = 7 ∷ 9 ∷ 9 ∷ [] }
unfolding reading pairing
H-fault outcome (inl (good, e)) = absurd (true≢false good.free)
H-fault outcome (inr (inl (f, h, e))) = e ∙ ap (λ g. writes start_holds (g ∷ []) (replicate 3 9)) (one-least 7 f _ h).0
H-fault outcome (inr (inr (f, j, h, e))) = absurd (true≢false h.free)

-- Case I, accepted: 00 to 11, pair 7, (0: 0 to 1; 1: 0 to 0). Its list is its own largest good sublist, and the only one;
abbrev task_i : Task
task_i = task_of_two (0 ∷ 0 ∷ []) (1 ∷ 1 ∷ []) (7 ∷ []) ((record { variable = 0; before = 0; after = 1 } ∷ record { variable = 1; before = 0; after = 0 } ∷ []) ∷ [])

I-largest : Largest task_i (7 ∷ [])
unfolding pairing Run
I-largest = record {
  sublist = record { increasing = (omega arith, omega arith); within = λ f e. e };
  good = record { closed-under = λ o m. rw (eq_of_singleton m) refl; free = refl };
  most = λ other sub g. sub.within;
}

I-kept : (kept : List ℕ) → Largest task_i kept → kept ≡ 7 ∷ []
I-kept kept h = within-one 7 _ _ kept h.sublist.increasing h.sublist.within
    ∙ ap (λ b. cond b (7 ∷ []) []) (h.most (7 ∷ []) I-largest.sublist I-largest.good 7 (first-listed 7 []))

abbrev file_i : List ℕ
file_i = 2 ∷ 2 ∷ 2 ∷ 0 ∷ 0 ∷ 1 ∷ 1 ∷ 1 ∷ 7 ∷ 1 ∷ 2 ∷ 0 ∷ 0 ∷ 1 ∷ 1 ∷ 0 ∷ 0 ∷ []

-- so the file comes back byte for byte,
I-mended : (outcome : Outcome ℕ) → Mends file_i (replicate 17 9) outcome → outcome ≡ record { answer = done 17; lent = file_i }
unfolding reading pairing writing
I-mended outcome (kept, largest, e) = e ∙ ap (λ l. delivered (task_bytes (mended task_i l)) (replicate 17 9)) (I-kept kept largest)

-- and nothing is named.
I-fault : (outcome : Outcome PairFault) → FaultsPairs file_i (replicate 3 9) outcome → outcome ≡ record { answer = done no_fault; lent = replicate 3 9 }
unfolding reading pairing
I-fault outcome (inl (good, e)) = e
I-fault outcome (inr (inl (f, h, e))) = absurd (true≢false (sym (one-least 7 f _ h).1))
I-fault outcome (inr (inr (f, j, h, e))) =
    let z : j ≡ 0 = omega (arith, h.counted) in
    absurd (true≢false (subst (λ i. closed pair_of_two (listed (7 ∷ [])) (get_or task_i.operators i []) ≡ false) z h.broken))
