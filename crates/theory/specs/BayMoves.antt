-- Bays over any neighbour relation: counts of labels, what a move leaves as it was, and that operators lead where moves lead.
use Rattle.std.specs.Prelude.{ℕ, zero, suc, ◌+◌, ◌-◌, ◌/◌, ◌%◌, ◌<◌, ◌≤◌, ◌≡◌, refl, ◌≢◌, ◌↔◌, Bool, true, false, ◌&&◌, cond, length, set, eqb, ltb}
use Rattle.std.proofs.Common.{sym, ap, ap₂, ◌∙◌, subst, inl, inr, arith, length-set, get_or-set_other, eqb-true, eq-eqb, ne_eqb, lt-ltb}
use mathlib.Core.List.Memᴰ.{eq_of_singleton}
use mathlib.Core.List.Memᴰ.{head as here}
use mathlib.Core.List.Memᴰ.{tail as there}
use mathlib.Core.List.{List, [], ◌∷◌, Memᴰ as In}
use mathlib.Core.List.Memᴰ.{cases_cons}
use mathlib.Core.List.Memᴰ.{not-nil}
use Rattle.std.proofs.lemmas.List.{length-replicate, get_or-replicate, set_comm}
use Rattle.meaning.specs.Sets.{all_of, count}
use Rattle.meaning.specs.Task.{Operator, State, applies, applied, value, size}
use Rattle.meaning.specs.Weight.{Leads}
use Rattle.meaning.specs.Bay.{bay_sizes, occurrences, one_apart, neighbours, Move, Step, SameLabels, exchange, slide, occurs_in, bay_operators}
use Rattle.theory.specs.Truth.{on, off, test, clash}
use Rattle.theory.specs.Search.{or-neither, and-none-right}
use Rattle.theory.specs.Count.{count-front}
use Rattle.theory.specs.Tells.{Tells, tells-agree, tells-map, tells-and, tells-eq, tells-true}
use Rattle.theory.specs.Flat.{in-flat, flat_in, flat-cong, in-when, when-in}

pub eqb-mirror : (a b : ℕ) → eqb a b ≡ eqb b a
eqb-mirror a b = tells-agree (tells-eq a b) (tells-map sym sym (tells-eq b a))

-- ---- how often a label stands in a list

-- The places in which a label stands.
pub occurrences-count : (label : ℕ) (l : List ℕ) → occurrences label l ≡ count (length l) (λ i. eqb (value l i) label)
unfolding occurrences count
occurrences-count label [] = refl
occurrences-count label (x ∷ xs) = ap (λ k. cond (eqb x label) 1 0 + k) (occurrences-count label xs) ∙ sym (count-front (length xs) (λ i. eqb (value (x ∷ xs) i) label))

-- A label that stands somewhere is counted.
pub occurrences-at : (label : ℕ) (l : List ℕ) (i : ℕ) → i < length l → value l i ≡ label → 1 ≤ occurrences label l
unfolding occurrences
occurrences-at label [] i h e = absurd (omega arith)
occurrences-at label (x ∷ xs) zero h e = rw (eq-eqb x label e) (omega arith)
occurrences-at label (x ∷ xs) (suc i) h e = omega (arith, occurrences-at label xs i (omega arith) e)

-- A label that is counted stands somewhere.
pub occurrences-get : (label : ℕ) (l : List ℕ) → 1 ≤ occurrences label l → (i : ℕ) × (i < length l) × (value l i ≡ label)
unfolding occurrences
occurrences-get label [] h = absurd (omega arith)
occurrences-get label (x ∷ xs) h = elim (test (eqb x label)) [
  | on e ↦ (0, omega arith, eqb-true x label e)
  | off e ↦ let (i, k, q) = occurrences-get label xs (rest e) in (suc i, omega arith, q)
]
  where
    rest : eqb x label ≡ false → 1 ≤ occurrences label xs
    rest e = let k : 1 ≤ 0 + occurrences label xs = rw e at h in omega arith

-- A label that stands at most once does not stand first and again later.
not-twice : (label x : ℕ) (xs : List ℕ) (j : ℕ) → occurrences label (x ∷ xs) ≤ 1 → j < length xs → x ≡ label → value xs j ≡ label → ⊥
unfolding occurrences
not-twice label x xs j h k e e' = let f : 1 + occurrences label xs ≤ 1 = rw (eq-eqb x label e) at h in omega (arith, occurrences-at label xs j k e')

-- A label that stands at most once stands in one place.
pub one_only : (label : ℕ) (l : List ℕ) (i j : ℕ) → occurrences label l ≤ 1 → i < length l → j < length l → value l i ≡ label → value l j ≡ label → i ≡ j
unfolding occurrences
one_only label [] i j h k k' e e' = absurd (omega arith)
one_only label (x ∷ xs) zero zero h k k' e e' = refl
one_only label (x ∷ xs) zero (suc j) h k k' e e' = absurd (not-twice label x xs j h (omega arith) e e')
one_only label (x ∷ xs) (suc i) zero h k k' e e' = absurd (not-twice label x xs i h (omega arith) e' e)
one_only label (x ∷ xs) (suc i) (suc j) h k k' e e' = ap suc (one_only label xs i j (omega arith) (omega arith) (omega arith) e e')

-- A new label in a place: one more of the new, one less of the old.
pub occurrences-set : (label : ℕ) (l : List ℕ) (i a : ℕ) → i < length l
    → occurrences label (set l i a) + cond (eqb (value l i) label) 1 0 ≡ occurrences label l + cond (eqb a label) 1 0
unfolding occurrences
occurrences-set label [] i a h = absurd (omega arith)
occurrences-set label (x ∷ xs) zero a h = omega arith
occurrences-set label (x ∷ xs) (suc i) a h = omega (arith, occurrences-set label xs i a (omega arith))

-- Two places that exchange their labels leave every count as it was.
pub occurrences-exchange : (label : ℕ) (l : List ℕ) (i j : ℕ) → i < length l → j < length l → i ≢ j
    → occurrences label (set (set l i (value l j)) j (value l i)) ≡ occurrences label l
occurrences-exchange label l i j h k d = omega (arith, occurrences-set label l i (value l j) h, second)
  where
    second : occurrences label (set (set l i (value l j)) j (value l i)) + cond (eqb (value l j) label) 1 0
        ≡ occurrences label (set l i (value l j)) + cond (eqb (value l i) label) 1 0
    second = rw (get_or-set_other l i j (value l j) 0 (λ q. d (sym q))) at (occurrences-set label (set l i (value l j)) j (value l i) (rw (length-set l i (value l j)) k))

-- ---- states of a bay

pub bay-size : (n i : ℕ) → i < n → size (bay_sizes n) i ≡ n
bay-size n i l = get_or-replicate n i n 0 l

pub bay-below : (n i x : ℕ) → i < n → x < n → x < size (bay_sizes n) i
bay-below n i x l h = rw (bay-size n i l) h

pub bay-state : (n : ℕ) (s : List ℕ) → length s ≡ n → ((i : ℕ) → i < n → value s i < n) → State (bay_sizes n) s
bay-state n s e h = record {
  full = e ∙ sym (length-replicate n n);
  values = λ i l. let k : i < n = rw (length-replicate n n) at l in bay-below n i (value s i) k (h i k);
}

pub bay-length : (n : ℕ) (s : List ℕ) → State (bay_sizes n) s → length s ≡ n
bay-length n s S = S.full ∙ length-replicate n n

pub bay-value : (n : ℕ) (s : List ℕ) → State (bay_sizes n) s → (i : ℕ) → i < n → value s i < n
bay-value n s S i l = rw (bay-size n i l) at (S.values i (rw (length-replicate n n) l))

-- ---- the same labels, each as often

pub labels-same : (s : List ℕ) → SameLabels s s
labels-same s = record { as_long = refl; as-often = λ label. refl }

pub labels-then : (a b c : List ℕ) → SameLabels a b → SameLabels b c → SameLabels a c
labels-then a b c p q = record { as_long = q.as_long ∙ p.as_long; as-often = λ label. q.as-often label ∙ p.as-often label }

-- A list with the labels of a state of the bay is a state of the bay.
pub same-labels-state : (n : ℕ) (start s : List ℕ) → State (bay_sizes n) start → SameLabels start s → State (bay_sizes n) s
same-labels-state n start s S a = bay-state n s long (λ i l. below i (rw long l))
  where
    long : length s ≡ n
    long = a.as_long ∙ bay-length n start S

    below : (i : ℕ) → i < length s → value s i < n
    below i l = let (j, k, e) = occurrences-get (value s i) start (rw (a.as-often (value s i)) at (occurrences-at (value s i) s i l refl)) in
        rw e at (bay-value n start S j (rw (bay-length n start S) at k))

-- The gap and the pallet stand in two places.
pub move-apart : (n : ℕ) (near : ℕ → ℕ → Bool) (s t : List ℕ) (m : Move n near s t) → m.gap ≢ m.slot
move-apart n near s t m q = m.is-pallet (ap (value s) (sym q) ∙ m.is-gap)

-- A move keeps the labels.
pub move-labels : (n : ℕ) (near : ℕ → ℕ → Bool) (s t : List ℕ) → length s ≡ n → Move n near s t → SameLabels s t
move-labels n near s t e m = record {
  as_long = ap length m.result ∙ length-set (set s m.gap (value s m.slot)) m.slot 0 ∙ length-set s m.gap (value s m.slot);
  as-often = λ label. ap (occurrences label) exchanged ∙ occurrences-exchange label s m.gap m.slot (rw e m.gap-place) (rw e m.slot-place) (move-apart n near s t m);
}
  where
    exchanged : t ≡ set (set s m.gap (value s m.slot)) m.slot (value s m.gap)
    exchanged = m.result ∙ ap (set (set s m.gap (value s m.slot)) m.slot) (sym m.is-gap)

-- ---- operators and moves

-- An operator of a bay: a pallet with some label slides from a slot into the gap beside it.
pub record Slide (n : ℕ) (near : ℕ → ℕ → Bool) (occurs : ℕ → Bool) (o : Operator) : Type 0 where
  pub gap : ℕ
  pub slot : ℕ
  pub label : ℕ
  pub gap-place : gap < n
  pub slot-place : slot < n
  pub beside : near gap slot ≡ true
  pub is-pallet : 1 ≤ label
  pub is-label : label < n
  pub is-there : occurs label ≡ true
  pub form : o ≡ slide gap slot label

pub operator-slide : (n : ℕ) (near : ℕ → ℕ → Bool) (occurs : ℕ → Bool) (o : Operator) → In o (bay_operators n near occurs) → Slide n near occurs o
unfolding bay_operators
operator-slide n near occurs o m =
    let (p, l, m₁) = flat_in n _ o m in
    let (q, k, m₂) = flat_in n _ o m₁ in
    let (e, m₃) = in-when (near p q) _ m₂ in
    let (t, h, m₄) = flat_in (n - 1) _ o m₃ in
    let (c, m₅) = in-when (occurs (suc t)) _ m₄ in
    record { gap = p; slot = q; label = suc t; gap-place = l; slot-place = k; beside = e; is-pallet = omega arith; is-label = omega arith; is-there = c; form = eq_of_singleton m₅ }

pub slide-operator : (n : ℕ) (near : ℕ → ℕ → Bool) (occurs : ℕ → Bool) (p q t : ℕ) → p < n → q < n → near p q ≡ true → 1 ≤ t → t < n → occurs t ≡ true → In (slide p q t) (bay_operators n near occurs)
unfolding bay_operators
slide-operator n near occurs p q zero l k e h h' c = absurd (omega arith)
slide-operator n near occurs p q (suc t) l k e h h' c =
    in-flat n _ p _ l (in-flat n _ q _ k (when-in (near p q) _ e (in-flat (n - 1) _ t _ (omega arith) (when-in (occurs (suc t)) _ c (here refl)))))

-- Relations and sets of labels that agree below n give the same operators.
pub operators-cong : (n : ℕ) (near near' : ℕ → ℕ → Bool) (occurs occurs' : ℕ → Bool) → ((p q : ℕ) → p < n → q < n → near p q ≡ near' p q)
    → ((t : ℕ) → t < n → occurs t ≡ occurs' t) → bay_operators n near occurs ≡ bay_operators n near' occurs'
unfolding bay_operators
operators-cong n near near' occurs occurs' beside labels = flat-cong n _ _ (λ p l. flat-cong n _ _ (λ q k. ap₂ (λ b s. cond b s []) (beside p q l k)
    (flat-cong (n - 1) _ _ (λ t h. ap (λ b. cond b (slide p q (suc t) ∷ []) []) (labels (suc t) (omega arith))))))

-- The slide applies where the gap is at one place and the pallet at the other.
pub tells-exchange : (i j a b : ℕ) (s : List ℕ) → Tells (applies (exchange i j a b) s) ((value s i ≡ a) × (value s j ≡ b))
unfolding applies all_of
tells-exchange i j a b s =
    tells-map (λ h. (h.0, h.1.0)) (λ h. (h.0, (h.1, refl))) (tells-and (tells-eq (value s i) a) (tells-and (tells-eq (value s j) b) (tells-true true)))

pub tells-slide : (p q t : ℕ) (s : List ℕ) → Tells (applies (slide p q t) s) ((value s p ≡ 0) × (value s q ≡ t))
unfolding slide
tells-slide p q t s = elim (test (ltb p q)) [
  | on e ↦ rw e (tells-exchange p q 0 t s)
  | off e ↦ rw e (tells-map (λ h. (h.1, h.0)) (λ h. (h.1, h.0)) (tells-exchange q p t 0 s))
]

pub applied-slide : (p q t : ℕ) (s : List ℕ) → p ≢ q → applied (slide p q t) s ≡ set (set s p t) q 0
unfolding slide applied
applied-slide p q t s d = elim (test (ltb p q)) [ on e ↦ rw e refl | off e ↦ rw e (set_comm s q p 0 t (λ z. d (sym z))) ]

pub step_move : (n : ℕ) (near : ℕ → ℕ → Bool) (occurs : ℕ → Bool) (s t : List ℕ) → Step (bay_operators n near occurs) s t → Move n near s t
step_move n near occurs s t step =
    record { gap = o.gap; slot = o.slot; gap-place = o.gap-place; slot-place = o.slot-place; beside = o.beside; is-gap = able.0; is-pallet = pallet; result = result }
  where
    o : Slide n near occurs step.by
    o = operator-slide n near occurs step.by step.has

    able : (value s o.gap ≡ 0) × (value s o.slot ≡ o.label)
    able = (tells-slide o.gap o.slot o.label s).yes (ap (λ b. applies b s) (sym o.form) ∙ step.able)

    pallet : value s o.slot ≢ 0
    pallet q = omega (arith, o.is-pallet, able.1)

    result : t ≡ set (set s o.gap (value s o.slot)) o.slot 0
    result = step.result ∙ ap (λ b. applied b s) o.form ∙ applied-slide o.gap o.slot o.label s (λ q. pallet (ap (value s) (sym q) ∙ able.0))
        ∙ ap (λ x. set (set s o.gap x) o.slot 0) (sym able.1)

pub move_step : (n : ℕ) (near : ℕ → ℕ → Bool) (start s t : List ℕ) → State (bay_sizes n) start → SameLabels start s → Move n near s t → Step (bay_operators n near (occurs_in start)) s t
move_step n near start s t S a m = record {
  by = slide m.gap m.slot (value s m.slot);
  has = slide-operator n near (occurs_in start) m.gap m.slot _ m.gap-place m.slot-place m.beside (omega (arith, m.is-pallet)) (bay-value n s state m.slot m.slot-place) there-is;
  able = (tells-slide m.gap m.slot _ s).back (m.is-gap, refl);
  result = m.result ∙ sym (applied-slide m.gap m.slot _ s (move-apart n near s t m));
}
  where
    state : State (bay_sizes n) s
    state = same-labels-state n start s S a

    -- The pallet's label stands in the state, so it stands in the start.
    there-is : occurs_in start (value s m.slot) ≡ true
    there-is = lt-ltb 0 (occurrences (value s m.slot) start)
        (omega (arith, a.as-often (value s m.slot), occurrences-at (value s m.slot) s m.slot (omega (arith, bay-length n s state, m.slot-place)) refl))

-- "From every state that holds the start's labels, each as often, one operator leads to exactly the states that one move leads to."
pub same-moves : (n : ℕ) (near : ℕ → ℕ → Bool) (start s t : List ℕ) → State (bay_sizes n) start → SameLabels start s → Move n near s t ↔ Step (bay_operators n near (occurs_in start)) s t
same-moves n near start s t S a = (move_step n near start s t S a, step_move n near (occurs_in start) s t)

-- ---- many moves

-- Moves, one after another, through the listed states.
abbrev pub Moves : ℕ → (ℕ → ℕ → Bool) → List (List ℕ) → List ℕ → List ℕ → Type 0
Moves n near [] s t = s ≡ t
Moves n near (m ∷ ms) s t = Move n near s m × Moves n near ms m t

-- A plan of operators is a way to move.
pub plan-moves : (n : ℕ) (near : ℕ → ℕ → Bool) (occurs : ℕ → Bool) (plan : List Operator) (s t : List ℕ) → ((o : Operator) → In o plan → In o (bay_operators n near occurs))
    → Leads plan s t → (ms : List (List ℕ)) × Moves n near ms s t
plan-moves n near occurs [] s t from z = ([], z)
plan-moves n near occurs (o ∷ plan) s t from (able, rest) =
    let (ms, moves) = plan-moves n near occurs plan (applied o s) t (λ b m. from b (there m)) rest in
    (applied o s ∷ ms, (step_move n near occurs s (applied o s) (record { by = o; has = from o (here refl); able = able; result = refl }), moves))

-- A way to move from a state with the start's labels is a plan of operators.
pub moves-plan : (n : ℕ) (near : ℕ → ℕ → Bool) (start : List ℕ) (ms : List (List ℕ)) (s t : List ℕ) → State (bay_sizes n) start → SameLabels start s → Moves n near ms s t
    → (plan : List Operator) × ((o : Operator) → In o plan → In o (bay_operators n near (occurs_in start))) × Leads plan s t
moves-plan n near start [] s t S a z = ([], λ o m. absurd (not-nil m), z)
moves-plan n near start (m ∷ ms) s t S a (move, rest) =
    let (plan, from, leads) = moves-plan n near start ms m t S (labels-then start s m a (move-labels n near s m (bay-length n s (same-labels-state n start s S a)) move)) rest in
    (step.by ∷ plan, λ o k. elim (cases_cons k) [ inl z ↦ rw z step.has | inr k' ↦ from o k' ], (step.able, subst (λ x. Leads plan x t) step.result leads))
  where
    step : Step (bay_operators n near (occurs_in start)) s m
    step = move_step n near start s m S a move

-- Moves keep the labels.
pub moves-labels : (n : ℕ) (near : ℕ → ℕ → Bool) (ms : List (List ℕ)) (s t : List ℕ) → length s ≡ n → Moves n near ms s t → SameLabels s t
moves-labels n near [] s t e z = rw (← z) (labels-same s)
moves-labels n near (m ∷ ms) s t e (move, rest) =
    let first = move-labels n near s m e move in
    labels-then s m t first (moves-labels n near ms m t (first.as_long ∙ e) rest)

-- ---- neighbours share a side

-- No slot is beside itself.
pub neighbours-self : (columns p : ℕ) → neighbours columns p p ≡ false
unfolding neighbours
neighbours-self columns p =
    or-neither (eqb (p / columns) (p / columns) && one_apart (p % columns) (p % columns)) _ (side (p / columns) (p % columns)) (side (p % columns) (p / columns))
  where
    side : (a b : ℕ) → (eqb a a && one_apart b b) ≡ false
    side a b = and-none-right (eqb a a) (one_apart b b) (or-neither (eqb b (suc b)) _ (ne_eqb b (suc b) (omega arith)) (ne_eqb b (suc b) (omega arith)))

pub neighbours-apart : (columns p q : ℕ) → neighbours columns p q ≡ true → p ≢ q
neighbours-apart columns p q e z = clash e (rw z (neighbours-self columns q))
