-- The least member of a set, and reduced families of slots: the witness of a free index is stored.
use Rattle.std.specs.Prelude.{ℕ, zero, suc, ◌<◌, ◌≤◌, ◌≡◌, refl, ◌≢◌, true, false, ◌&&◌, cond, eqb, ltb}
use Rattle.std.proofs.Common.{sym, ◌∙◌, arith, lt-ltb, le-ltb, ne_eqb}
use Rattle.meaning.specs.Sets.{◌⊕◌, Set, Slots}
use Rattle.theory.specs.Truth.{Test, on, off, test, less, same, more, order, clash, xor-false}
use Rattle.theory.specs.Parity.{par, dot, par-one, par-none, dot-comm, dot-one, dot-xor, xor-dot, even-dot, dot-even}
use Rattle.meaning.specs.Slot.{LeastMember, Reduced, Forced, Stored}

-- ---- the least member

-- What holds below n and at n holds below the next.
pub below_suc : (n : ℕ) (P : ℕ → Type 0) → ((f : ℕ) → f < n → P f) → P n → (f : ℕ) → f < suc n → P f
below_suc n P h last f l = elim (order f n) [ less k ↦ h f k | same q ↦ rw q last | more k ↦ absurd (omega arith) ]

-- A set below n: nothing is there, or there is a least member.
pub data Least (n : ℕ) (a : Set) : Type 0 where
  nothing : ((f : ℕ) → f < n → a f ≡ false) → Least n a
  found : (m : ℕ) → m < n → LeastMember m a → Least n a

pub least : (n : ℕ) (a : Set) → Least n a
least zero a = nothing (λ f l. absurd (omega arith))
least (suc n) a = go (least n a) (test (a n))
  where
    go : Least n a → Test (a n) → Least (suc n) a
    go (found m l k) t = found m (omega arith) k
    go (nothing h) (on e) = found n (omega arith) (record { member = e; first = h })
    go (nothing h) (off e) = nothing (below_suc n (λ f. a f ≡ false) h e)

-- A set has one least member.
pub least-same : (a : Set) (m m' : ℕ) → LeastMember m a → LeastMember m' a → m ≡ m'
least-same a m m' p q = elim (order m m') [
  | less l ↦ absurd (clash p.member (q.first m l))
  | same e ↦ e
  | more l ↦ absurd (clash q.member (p.first m' l))
]

-- The least member below n as a number to compute with; n itself where there is none.
unfoldable pub lead : ℕ → Set → ℕ
lead zero a = 0
lead (suc n) a = cond (ltb (lead n a) n) (lead n a) (cond (a n) n (suc n))

pub lead-none : (n : ℕ) (a : Set) → ((f : ℕ) → f < n → a f ≡ false) → lead n a ≡ n
unfolding lead
lead-none zero a h = refl
lead-none (suc n) a h = rw (lead-none n a (λ f l. h f (omega arith)), le-ltb n n (omega arith), h n (omega arith))

pub lead-least : (n m : ℕ) (a : Set) → m < n → LeastMember m a → lead n a ≡ m
unfolding lead
lead-least zero m a l k = absurd (omega arith)
lead-least (suc n) m a l k = elim (order m n) [
  | less j ↦ rw (lead-least n m a j k, lt-ltb m n j)
  | same q ↦ rw (lead-none n a (λ f j. k.first f (omega arith)), le-ltb n n (omega arith), rw q at k.member) (sym q)
  | more j ↦ absurd (omega arith)
]

-- ---- stored weights and forced sets, by sums

pub stored-dot : (n : ℕ) (S : Slots) (w : Set) → Stored n S w → (i : ℕ) → i < n → dot n w (S i) ≡ false
stored-dot n S w h i l = even-dot n w (S i) (h i l)

pub dot-stored : (n : ℕ) (S : Slots) (w : Set) → ((i : ℕ) → i < n → dot n w (S i) ≡ false) → Stored n S w
dot-stored n S w h i l = dot-even n w (S i) (h i l)

pub forced-xor : (n : ℕ) (Meets : Set → Type 0) (a b : Set) → Forced n Meets a → Forced n Meets b → Forced n Meets (λ f. a f ⊕ b f)
forced-xor n Meets a b h k w m = dot-even n w _ (rw (dot-xor n w a b, even-dot n w a (h w m), even-dot n w b (k w m)))

-- ---- the witness of a free index

-- The index itself and every slot that has it as a member.
unfoldable pub wit : Slots → ℕ → Set
wit S m p = eqb p m ⊕ S p m

pub wit-dot : (n : ℕ) (S : Slots) (m : ℕ) (g : Set) → m < n → dot n (wit S m) g ≡ g m ⊕ par n (λ p. S p m && g p)
unfolding wit dot
wit-dot n S m g l = xor-dot n (λ p. eqb p m) (λ p. S p m) g ∙ rw (dot-comm n (λ p. eqb p m) g, dot-one n m g l)

-- If a set has no index of a slot with m in it, the witness of m meets it in m alone.
pub wit-at : (n : ℕ) (S : Slots) (m : ℕ) (g : Set) → m < n → ((p : ℕ) → S p m ≡ true → g p ≡ false) → dot n (wit S m) g ≡ g m
wit-at n S m g l h = wit-dot n S m g l ∙ rw (par-none n (λ p. S p m && g p) (λ p k. rest p)) (xor-false (g m))
  where
    rest : (p : ℕ) → (S p m && g p) ≡ false
    rest p = elim (test (S p m)) [ on e ↦ rw e (h p e) | off e ↦ rw e ]

module _ {n : ℕ} {S : Slots} (R : Reduced n S) where
  pub slot-none : (i : ℕ) → S i i ≡ false → (f : ℕ) → S i f ≡ false
  slot-none i free f = elim (test (S i f)) [ on e ↦ absurd (clash (R.full i f e) free) | off e ↦ e ]

  pub slot-low : (i f : ℕ) → S i f ≡ true → i ≤ f
  slot-low i f e = elim (order f i) [ less l ↦ absurd (clash e (R.low i f l)) | same q ↦ omega arith | more l ↦ omega arith ]

  pub slot-past : (i f : ℕ) → n ≤ f → S i f ≡ false
  slot-past i f l = elim (test (S i f)) [ on e ↦ absurd (omega (arith, R.within i f e)) | off e ↦ e ]

  pub wit-in : (m : ℕ) → m < n → S m m ≡ false → Stored n S (wit S m)
  wit-in m l free = dot-stored n S (wit S m) (λ i k. wit-dot n S m (S i) l ∙ rw (par-one n i (λ p. S p m && S i p) k (λ p j d. others i p d)) (own i))
    where
      others : (i p : ℕ) → p ≢ i → (S p m && S i p) ≡ false
      others i p d = elim (test (S p m)) [ on e ↦ rw e (R.clear i p (R.full p m e) d) | off e ↦ rw e ]

      own : (i : ℕ) → S i m ⊕ (S i m && S i i) ≡ false
      own i = elim (test (S i m)) [ on e ↦ rw (e, R.full i m e) | off e ↦ rw e ]

  -- A witness has its index and lower numbers only.
  pub wit-past : (m f : ℕ) → m < f → wit S m f ≡ false
  unfolding wit
  wit-past m f l = rw (ne_eqb f m (omega arith), R.low f m l)

  -- Where a slot is empty no forced set has its index as least member.
  pub empty-none : (i : ℕ) (g : Set) → i < n → S i i ≡ false → Forced n (Stored n S) g → LeastMember i g → ⊥
  empty-none i g l free h k = clash k.member (sym (wit-at n S i g l outside) ∙ even-dot n _ g (h (wit S i) (wit-in i l free)))
    where
      outside : (p : ℕ) → S p i ≡ true → g p ≡ false
      outside p e = elim (order p i)
          [ less d ↦ k.first p d | same q ↦ absurd (clash e (rw q free)) | more d ↦ absurd (clash e (R.low p i d)) ]
