-- A family of slots with the set of those that are pending, as code holds it: rows are inserted with the clearing postponed, and settling gives the family that inserting at once gives.
use Rattle.std.specs.Prelude.{ℕ, zero, suc, ◌+◌, ◌-◌, ◌<◌, ◌≤◌, ◌≡◌, refl, ◌↔◌, false, not, ◌&&◌, cond, eqb}
use Rattle.std.proofs.Math.Path.{ap, fun_ext}
use Rattle.std.proofs.Common.{ap₂, sym, ◌∙◌, arith, add-zero, add-suc}
use Rattle.std.proofs.Math.Logic.Iff
use Rattle.std.proofs.Math.Bool.{true, and-false}
use borrow.Author.Tests.{eqb-true}
use Rattle.meaning.specs.Sets.{◌⊕◌, Set, Slots}
use Rattle.meaning.specs.Slot.{LeastMember, Reduced, Stored}
use Rattle.theory.specs.Truth.{on, off, test, clash, xor-false}
use Rattle.theory.specs.Parity.{dot, dot-none, dot-cong}
use Rattle.theory.specs.Slots.{stored-dot, dot-stored}
use Rattle.theory.specs.Reduce.{red, red-dot, red-lowest, red-below, red-later}
use Rattle.theory.specs.SlotsOf.{same-slots}
use Rattle.theory.specs.Cut.{cut, cut-within, cut-dot}
use Rattle.theory.specs.Insert.{put, Fresh, put-stored, rest, insert, insert-reduced, insert-stored}
use Rattle.theory.specs.Pending.{Two, settle, red-keeps, red-none, settle-free, settle-reduced, settle-stored, put_two}

-- The slots whose indices are in a set; the others are empty.
unfoldable pub only : Set → Slots → Slots
only C S i f = C i && S i f

abbrev settled_in : Set → Slots → Slots
settled_in P S = only (λ i. not (P i)) S

-- A family of which the slots of a set are pending: no slot has a settled one's index, no pending slot another pending one's, and none of these is empty.
pub record Part (n : ℕ) (P : Set) (S : Slots) : Type 0 where
  pub two : Two n (settled_in P S) (only P S)
  pub filled : (i : ℕ) → P i ≡ true → S i i ≡ true

-- The reduced family that settling makes.
unfoldable pub settled : ℕ → Set → Slots → Slots
settled n P S = settle n (settled_in P S) (only P S)

-- Row r becomes slot p, and r is added to every pending slot that has p.
unfoldable pub put_later : Set → Slots → ℕ → Set → Slots
put_later P S p r i f = cond (eqb i p) (r f) (S i f ⊕ ((P i && S i p) && r f))

-- A set with one number toggled.
unfoldable pub with : Set → ℕ → Set
with P p f = eqb f p ⊕ P f

-- ---- the slots of a set and the others

module _ (P : Set) (S : Slots) where
  only-on : (i f : ℕ) → P i ≡ true → only P S i f ≡ S i f
  unfolding only
  only-on i f e = rw e

  only-off : (i f : ℕ) → P i ≡ false → only P S i f ≡ false
  unfolding only
  only-off i f e = rw e

  settled_on : (i f : ℕ) → P i ≡ true → settled_in P S i f ≡ false
  unfolding only
  settled_on i f e = rw e

  settled-off : (i f : ℕ) → P i ≡ false → settled_in P S i f ≡ S i f
  unfolding only
  settled-off i f e = rw e

-- Nothing is pending: the family is reduced, and settling changes nothing.
module _ (n : ℕ) (P : Set) (S : Slots) (none : (i : ℕ) → P i ≡ false) where
  all_settled : settled_in P S ≡ S
  all_settled = fun_ext (λ i. fun_ext (λ f. settled-off P S i f (none i)))

  pub reduced-part : Reduced n S → Part n P S
  reduced-part R = record {
    two = record {
      settled = rw all_settled R;
      pending = record {
        within = λ i f e. absurd (clash e (only-off P S i f (none i)));
        low = λ i f l. only-off P S i f (none i);
        full = λ i f e. absurd (clash e (only-off P S i f (none i)));
        clear = λ i j e d. only-off P S i j (none i);
      };
      apart = λ i j e. only-off P S i j (none i);
    };
    filled = λ i e. absurd (clash e (none i));
  }

  pub settled-none : settled n P S ≡ S
  unfolding settled settle
  settled-none = fun_ext (λ i. fun_ext (λ f. rw (
    only-off P S i f (none i),
    red-keeps (only P S) n (settled_in P S i) f (λ k. only-off P S k f (none k)),
    settled-off P S i f (none i),
  ) (xor-false (S i f))))

module _ {n : ℕ} {P : Set} {S : Slots} (h : Part n P S) where
  pub settled-reduced : Reduced n (settled n P S)
  unfolding settled
  settled-reduced = settle-reduced h.two

  parts-stored : (w : Set) → (Stored n (settled_in P S) w × Stored n (only P S) w) ↔ Stored n S w
  parts-stored w = (
    λ k. dot-stored n S w (λ i l. elim (test (P i)) [
      | on e ↦ dot-cong n w (S i) _ (λ f j. sym (only-on P S i f e)) ∙ stored-dot n (only P S) w k.1 i l
      | off e ↦ dot-cong n w (S i) _ (λ f j. sym (settled-off P S i f e)) ∙ stored-dot n (settled_in P S) w k.0 i l
    ]),
    λ k. (
      dot-stored n (settled_in P S) w (λ i l. elim (test (P i)) [
        | on e ↦ dot-none n w _ (λ f j. settled_on P S i f e)
        | off e ↦ dot-cong n w _ (S i) (λ f j. settled-off P S i f e) ∙ stored-dot n S w k i l
      ]),
      dot-stored n (only P S) w (λ i l. elim (test (P i)) [
        | on e ↦ dot-cong n w _ (S i) (λ f j. only-on P S i f e) ∙ stored-dot n S w k i l
        | off e ↦ dot-none n w _ (λ f j. only-off P S i f e)
      ]),
    ),
  )

  -- Settling keeps the weights that meet all slots evenly.
  settled-stored : (w : Set) → Stored n (settled n P S) w ↔ Stored n S w
  unfolding settled
  settled-stored w = Iff.trans (settle-stored h.two w) (parts-stored w)

  -- A slot is empty or has its index as least member.
  pub part_low : (i f : ℕ) → f < i → S i f ≡ false
  part_low i f l = elim (test (P i)) [ on e ↦ sym (only-on P S i f e) ∙ h.two.pending.low i f l | off e ↦ sym (settled-off P S i f e) ∙ h.two.settled.low i f l ]

  pub part-full : (i f : ℕ) → S i f ≡ true → S i i ≡ true
  part-full i f t = elim (test (P i)) [ on e ↦ h.filled i e | off e ↦ sym (settled-off P S i i e) ∙ h.two.settled.full i f (settled-off P S i f e ∙ t) ]

  part-within : (i f : ℕ) → S i f ≡ true → (i < n) × (f < n)
  part-within i f t = elim (test (P i)) [ on e ↦ h.two.pending.within i f (only-on P S i f e ∙ t) | off e ↦ h.two.settled.within i f (settled-off P S i f e ∙ t) ]

  -- Settling a slot: a pending one stays, another is reduced by the pending ones.
  pub settled-pending : (i : ℕ) → P i ≡ true → (f : ℕ) → settled n P S i f ≡ S i f
  unfolding settled
  settled-pending i e f = settle-free h.two i (settled_on P S i i e) f ∙ only-on P S i f e

  settled-other : (i : ℕ) → P i ≡ false → (f : ℕ) → settled n P S i f ≡ red (only P S) n (S i) f
  unfolding settled settle
  settled-other i e f = rw (only-off P S i f e) (xor-false (red (only P S) n (settled_in P S i) f) ∙ ap (λ d. red (only P S) n d f) (fun_ext (λ g. settled-off P S i g e)))

  -- A slot's index stays.
  pub settled-index : (i : ℕ) → settled n P S i i ≡ S i i
  settled-index i = elim (test (P i)) [
    | on e ↦ settled-pending i e i
    | off e ↦ settled-other i e i ∙ elim (test (S i i)) [
      | on t ↦ red-keeps (only P S) n (S i) i (λ k. h.two.apart k i (settled-off P S i i e ∙ t))
      | off t ↦ red-none (only P S) n (S i) (λ f. elim (test (S i f)) [ on q ↦ absurd (clash (part-full i f q) t) | off q ↦ q ]) i ∙ sym t
    ]
  ]

-- ---- a row

module _ {n : ℕ} {P : Set} {S : Slots} (h : Part n P S) (r : Set) where
  -- A family whose weights are those that also meet the row evenly settles to what inserting the row gives: there is one such reduced family.
  settled-inserted : {P' : Set} {S' : Slots} → Part n P' S' → ((w : Set) → Stored n S' w ↔ (Stored n S w × (dot n w r ≡ false))) → settled n P' S' ≡ insert n (settled n P S) r
  settled-inserted h' weights = same-slots (settled-reduced h') (insert-reduced (settled-reduced h) r) (λ w. Iff.trans (settled-stored h' w) (Iff.trans (weights w) (Iff.trans
      (λ k. ((settled-stored h w).1 k.0, k.1), λ k. ((settled-stored h w).0 k.0, k.1)) (Iff.symm (insert-stored (settled-reduced h) r w)))))

  -- What the slots leave of it.
  left-dot : (w : Set) → Stored n S w → dot n w (rest n S r) ≡ dot n w r
  unfolding rest
  left-dot w k = red-dot n S w k n (cut n r) (omega arith) ∙ cut-dot n w r

  left-bounded : (f : ℕ) → rest n S r f ≡ true → f < n
  unfolding rest
  left-bounded = red-below (part-within h) n (cut n r) (cut-within n r)

  left-avoids : (j : ℕ) → S j j ≡ true → rest n S r j ≡ false
  unfolding rest
  left-avoids j e = red-lowest (part_low h) n (cut n r) j (part-within h j j e).0 e

  -- Nothing is left: the settled family has the row already.
  pub left-none : ((f : ℕ) → f < n → rest n S r f ≡ false) → settled n P S ≡ insert n (settled n P S) r
  left-none none = settled-inserted h (λ w. (λ k. (k, sym (left-dot w k) ∙ dot-none n w _ none), λ k. k.0))

  -- The least member that is left is p: what is left becomes slot p, which is pending.
  module _ (p : ℕ) (l : p < n) (first : LeastMember p (rest n S r)) where
    pub free-slot : (f : ℕ) → S p f ≡ false
    free-slot f = elim (test (S p f)) [ on e ↦ absurd (clash first.member (left-avoids p (part-full h p f e))) | off e ↦ e ]

    not-pending : P p ≡ false
    not-pending = elim (test (P p)) [ on e ↦ absurd (clash (h.filled p e) (free-slot p)) | off e ↦ e ]

    fresh : Fresh n (only P S) p (rest n S r)
    fresh = record {
      inside = l;
      lowest = first;
      bounded = left-bounded;
      avoids = λ j e. elim (test (P j)) [
        | on t ↦ left-avoids j (sym (only-on P S j j t) ∙ e)
        | off t ↦ absurd (clash e (only-off P S j j t))
      ];
    }

    away : (j : ℕ) → settled_in P S j j ≡ true → rest n S r j ≡ false
    away j e = elim (test (P j)) [ on t ↦ absurd (clash e (settled_on P S j j t)) | off t ↦ left-avoids j (sym (settled-off P S j j t) ∙ e) ]

    now-pending : only (with P p) (put_later P S p (rest n S r)) ≡ put (only P S) p (rest n S r)
    unfolding only with put_later put
    now-pending = fun_ext (λ i. fun_ext (λ f. elim (test (eqb i p)) [
      | on t ↦ rw (t, eqb-true i p t, not-pending)
      | off t ↦ rw t (elim (test (P i)) [ on e ↦ rw e | off e ↦ rw e ])
    ]))

    still-settled : settled_in (with P p) (put_later P S p (rest n S r)) ≡ settled_in P S
    unfolding only with put_later
    still-settled = fun_ext (λ i. fun_ext (λ f. elim (test (eqb i p)) [
      | on t ↦ rw (t, eqb-true i p t, not-pending, free-slot f)
      | off t ↦ rw t (elim (test (P i)) [ on e ↦ rw e | off e ↦ rw e (xor-false (S i f)) ])
    ]))

    put-filled : (i : ℕ) → with P p i ≡ true → put_later P S p (rest n S r) i i ≡ true
    unfolding with put_later
    put-filled i e = elim (test (eqb i p)) [
      | on t ↦ rw (t, eqb-true i p t) first.member
      | off t ↦ let q : P i ≡ true = rw t at e in rw (t, h.filled i q, left-avoids i (h.filled i q), and-false (P i && S i p))
    ]

    -- The indices of the slots that are not empty: those of before, and p.
    pub put-index : (full : Set) → ((i : ℕ) → full i ≡ S i i) → (i : ℕ) → with full p i ≡ put_later P S p (rest n S r) i i
    unfolding with put_later
    put-index full h' i = elim (test (eqb i p)) [
      | on t ↦ rw (t, eqb-true i p t, h' p, free-slot p, first.member)
      | off t ↦ rw (t, h' i) (elim (test (S i i)) [
        | on e ↦ rw (e, left-avoids i e, and-false (P i && S i p))
        | off e ↦ elim (test (P i)) [ on q ↦ absurd (clash (h.filled i q) e) | off q ↦ rw (e, q) ]
      ])
    ]

    pub put-part : Part n (with P p) (put_later P S p (rest n S r))
    put-part = record { two = rw (now-pending, still-settled) (put_two h.two fresh away); filled = put-filled }

    put-weights : (w : Set) → Stored n (put_later P S p (rest n S r)) w ↔ (Stored n S w × (dot n w r ≡ false))
    put-weights w = Iff.trans (Iff.symm (parts-stored put-part w)) (rw (now-pending, still-settled) (to, back))
      where
        to : (Stored n (settled_in P S) w × Stored n (put (only P S) p (rest n S r)) w) → (Stored n S w × (dot n w r ≡ false))
        to (a, k) = let (b, e) = (put-stored h.two.pending fresh w).0 k in let s = (parts-stored h w).0 (a, b) in (s, sym (left-dot w s) ∙ e)

        back : (Stored n S w × (dot n w r ≡ false)) → (Stored n (settled_in P S) w × Stored n (put (only P S) p (rest n S r)) w)
        back (s, e) = let (a, b) = (parts-stored h w).1 s in (a, (put-stored h.two.pending fresh w).1 (b, left-dot w s ∙ e))

    pub put-settled : settled n (with P p) (put_later P S p (rest n S r)) ≡ insert n (settled n P S) r
    put-settled = settled-inserted put-part put-weights

-- ---- step by step

-- Turns that change nothing: the set as it is by then has none of their slots' indices, or the slots are empty.
red-still : (S : Slots) (d : Set) (k p : ℕ) → ((i f : ℕ) → p ≤ i → i < p + k → (red S p d i && S i f) ≡ false) → (f : ℕ) → red S (p + k) d f ≡ red S p d f
unfolding red
red-still S d zero p h f = rw (add-zero p)
red-still S d (suc k) p h f = let e = red-still S d k p (λ i g j l. h i g j (omega arith)) in
    rw (add-suc p k, e f, e (p + k), h (p + k) f (omega arith) (omega arith)) (xor-false (red S p d f))

pub red-skip : (S : Slots) (d : Set) (p q : ℕ) → p ≤ q → ((i f : ℕ) → p ≤ i → i < q → (red S p d i && S i f) ≡ false) → (f : ℕ) → red S q d f ≡ red S p d f
red-skip S d p q l h f = let e : p + (q - p) ≡ q = omega arith in ap (λ k. red S k d f) (sym e) ∙ red-still S d (q - p) p (rw e h) f

-- The set, with slot i added for each i below k in a set of indices that is fixed beforehand.
unfoldable pub added : Slots → Set → ℕ → Set → Set
added S own zero d = d
added S own (suc k) d = λ f. added S own k d f ⊕ (own k && S k f)

added-still : (S : Slots) (own d : Set) (k p : ℕ) → ((i : ℕ) → p ≤ i → i < p + k → own i ≡ false) → (f : ℕ) → added S own (p + k) d f ≡ added S own p d f
unfolding added
added-still S own d zero p h f = rw (add-zero p)
added-still S own d (suc k) p h f = rw (add-suc p k, h (p + k) (omega arith) (omega arith)) (xor-false (added S own (p + k) d f) ∙ added-still S own d k p (λ i j l. h i j (omega arith)) f)

-- Turns of numbers that are no indices.
pub added-skip : (S : Slots) (own d : Set) (p q : ℕ) → p ≤ q → ((i : ℕ) → p ≤ i → i < q → own i ≡ false) → (f : ℕ) → added S own q d f ≡ added S own p d f
added-skip S own d p q l h f = let e : p + (q - p) ≡ q = omega arith in ap (λ k. added S own k d f) (sym e) ∙ added-still S own d (q - p) p (rw e h) f

pub added-turn : (S : Slots) (own d : Set) (p : ℕ) → own p ≡ true → (f : ℕ) → added S own (suc p) d f ≡ added S own p d f ⊕ S p f
unfolding added
added-turn S own d p e f = rw e

-- Reducing by a family of reduced shape adds the slots whose indices are among the set's own members: no slot brings one in.
pub red-added : {n : ℕ} {S : Slots} → Reduced n S → (k : ℕ) (d : Set) (f : ℕ) → red S k d f ≡ added S d k d f
unfolding red added
red-added R zero d f = refl
red-added {n} {S} R (suc k) d f = ap₂ ◌⊕◌ (red-added R k d f) (elim (test (S k f)) [
  | on t ↦ rw (t, red-later R k d k (omega arith) (R.full k f t))
  | off t ↦ rw (t, and-false (red S k d k), and-false (d k))
])

-- To add the slots of a set among those of another is to add the slots of both.
added-only : (S : Slots) (C own : Set) (k : ℕ) (d : Set) (f : ℕ) → added (only C S) own k d f ≡ added S (λ i. own i && C i) k d f
unfolding added only
added-only S C own zero d f = refl
added-only S C own (suc k) d f = ap₂ ◌⊕◌ (added-only S C own k d f) (elim (test (own k)) [ on t ↦ rw t | off t ↦ rw t ])

-- A slot that is not pending is settled by adding the pending slots whose indices it has.
pub settled-added : {n : ℕ} {P : Set} {S : Slots} → Part n P S → (i : ℕ) → P i ≡ false → (f : ℕ) → settled n P S i f ≡ added S (λ k. S i k && P k) n (S i) f
settled-added {n} {P} {S} h i e f = settled-other h i e f ∙ red-added h.two.pending n (S i) f ∙ added-only S P (S i) n (S i) f
