-- Laws of the finite tests: what follows when a search over numbers or over a list succeeds, and when it does not.
use Rattle.std.specs.Prelude.{ℕ, zero, suc, ◌<◌, ◌≡◌, refl, ◌⊎◌, Bool, true, false, ◌&&◌, ◌||◌, eqb}
use Rattle.std.proofs.Common.{sym, ap, ap₂, ◌∙◌, inl, inr, true≢false, arith, eqb-true, eq-eqb}
use Rattle.std.proofs.Math.Bool.{and-eq-true_iff, or_assoc}
use mathlib.Core.List.Memᴰ.{cases_cons}
use mathlib.Core.List.Memᴰ.{cast}
use mathlib.Core.List.Memᴰ.{head as here}
use mathlib.Core.List.Memᴰ.{not-nil}
use mathlib.Core.List.Memᴰ.{tail as there}
use mathlib.Core.List.{List, [], ◌∷◌, ◌++◌, Memᴰ as In}
use Rattle.meaning.specs.Sets.{some, every, any_of, all_of, two_of, listed}
use Rattle.theory.specs.Truth.{Test, on, off, test, less, same, more, order, clash}

-- ---- both, and at least one

pub and_left : (a b : Bool) → (a && b) ≡ true → a ≡ true
and_left a b e = ((and-eq-true_iff a b).0 e).0

pub and_right : (a b : Bool) → (a && b) ≡ true → b ≡ true
and_right a b e = ((and-eq-true_iff a b).0 e).1

pub and_both : (a b : Bool) → a ≡ true → b ≡ true → (a && b) ≡ true
and_both a b e f = (and-eq-true_iff a b).1 (e, f)

pub and-none-left : (a b : Bool) → a ≡ false → (a && b) ≡ false
and-none-left a b e = cc

pub and-none-right : (a b : Bool) → b ≡ false → (a && b) ≡ false
and-none-right true b e = e
and-none-right false b e = refl

pub or_left : (a b : Bool) → a ≡ true → (a || b) ≡ true
or_left a b e = cc

pub or_right : (a b : Bool) → b ≡ true → (a || b) ≡ true
or_right true b e = refl
or_right false b e = e

pub or-either : (a b : Bool) → (a || b) ≡ true → (a ≡ true) ⊎ (b ≡ true)
or-either true b e = inl refl
or-either false b e = inr e

pub or-neither : (a b : Bool) → a ≡ false → b ≡ false → (a || b) ≡ false
or-neither a b e f = cc

pub or-none-left : (a b : Bool) → (a || b) ≡ false → a ≡ false
or-none-left true b e = e
or-none-left false b e = refl

pub or-none-right : (a b : Bool) → (a || b) ≡ false → b ≡ false
or-none-right true b e = absurd (true≢false e)
or-none-right false b e = e

-- Truth values that are true together are equal.
pub true-together : (a b : Bool) → (a ≡ true → b ≡ true) → (b ≡ true → a ≡ true) → a ≡ b
true-together true b to back = sym (to refl)
true-together false true to back = back refl
true-together false false to back = refl

-- ---- numbers below n: some passes

pub some_at : (n : ℕ) (p : ℕ → Bool) (i : ℕ) → i < n → p i ≡ true → some n p ≡ true
unfolding some
some_at zero p i l e = absurd (omega arith)
some_at (suc n) p i l e = elim (order i n) [
  | less k ↦ or_left (some n p) (p n) (some_at n p i k e)
  | same q ↦ or_right (some n p) (p n) (rw (← q) e)
  | more k ↦ absurd (omega arith)
]

pub some-not : (n : ℕ) (p : ℕ → Bool) → ((i : ℕ) → i < n → p i ≡ false) → some n p ≡ false
unfolding some
some-not zero p h = refl
some-not (suc n) p h = or-neither (some n p) (p n) (some-not n p (λ i l. h i (omega arith))) (h n (omega arith))

pub some-none : (n : ℕ) (p : ℕ → Bool) → some n p ≡ false → (i : ℕ) → i < n → p i ≡ false
some-none n p e i l = elim (test (p i)) [ on q ↦ absurd (clash (some_at n p i l q) e) | off q ↦ q ]

-- A number below n that passes, or the fact that none does.
pub data Some (n : ℕ) (p : ℕ → Bool) : Type 0 where
  found : (i : ℕ) → i < n → p i ≡ true → Some n p
  nowhere : ((i : ℕ) → i < n → p i ≡ false) → Some n p

pub which : (n : ℕ) (p : ℕ → Bool) → Some n p
which zero p = nowhere (λ i l. absurd (omega arith))
which (suc n) p = step (which n p) (test (p n))
  where
    step : Some n p → Test (p n) → Some (suc n) p
    step (found i l e) t = found i (omega arith) e
    step (nowhere h) (on q) = found n (omega arith) q
    step (nowhere h) (off q) = nowhere (λ i l. elim (order i n) [ less k ↦ h i k | same z ↦ rw z q | more k ↦ absurd (omega arith) ])

pub some-get : (n : ℕ) (p : ℕ → Bool) → some n p ≡ true → (i : ℕ) × (i < n) × (p i ≡ true)
some-get n p e = elim (which n p) [ found i l q ↦ (i, l, q) | nowhere h ↦ absurd (clash e (some-not n p h)) ]

pub some-cong : (n : ℕ) (p q : ℕ → Bool) → ((i : ℕ) → i < n → p i ≡ q i) → some n p ≡ some n q
unfolding some
some-cong zero p q h = refl
some-cong (suc n) p q h = ap₂ ◌||◌ (some-cong n p q (λ i l. h i (omega arith))) (h n (omega arith))

pub some_or : (n : ℕ) (p q : ℕ → Bool) → some n (λ i. p i || q i) ≡ (some n p || some n q)
some_or n p q = true-together _ _
    (λ t. let (i, l, e) = some-get n _ t in elim (or-either (p i) (q i) e) [
      | inl a ↦ or_left (some n p) (some n q) (some_at n p i l a)
      | inr a ↦ or_right (some n p) (some n q) (some_at n q i l a)
    ])
    (λ t. elim (or-either (some n p) (some n q) t) [
      | inl a ↦ let (i, l, e) = some-get n p a in some_at n _ i l (or_left (p i) (q i) e)
      | inr a ↦ let (i, l, e) = some-get n q a in some_at n _ i l (or_right (p i) (q i) e)
    ])

-- ---- numbers below n: every one passes

pub every-each : (n : ℕ) (p : ℕ → Bool) → ((i : ℕ) → i < n → p i ≡ true) → every n p ≡ true
unfolding every
every-each zero p h = refl
every-each (suc n) p h = and_both (every n p) (p n) (every-each n p (λ i l. h i (omega arith))) (h n (omega arith))

pub every-at : (n : ℕ) (p : ℕ → Bool) → every n p ≡ true → (i : ℕ) → i < n → p i ≡ true
unfolding every
every-at zero p e i l = absurd (omega arith)
every-at (suc n) p e i l = elim (order i n) [
  | less k ↦ every-at n p (and_left (every n p) (p n) e) i k
  | same q ↦ rw q (and_right (every n p) (p n) e)
  | more k ↦ absurd (omega arith)
]

pub every-not : (n : ℕ) (p : ℕ → Bool) (i : ℕ) → i < n → p i ≡ false → every n p ≡ false
every-not n p i l q = elim (test (every n p)) [ on e ↦ absurd (clash (every-at n p e i l) q) | off e ↦ e ]

-- ---- lists: some element passes

-- Along a list the element stays: in a lemma that goes down a list it stands before it.
any_along : {A : Type 0} (p : A → Bool) (a : A) (l : List A) → In a l → p a ≡ true → any_of p l ≡ true
unfolding any_of
any_along p a l (here {x} {xs} q) e = or_left (p x) (any_of p xs) (rw (← q) e)
any_along p a l (there {x} {xs} m) e = or_right (p x) (any_of p xs) (any_along p a xs m e)

pub any_at : {A : Type 0} (p : A → Bool) (l : List A) (a : A) → In a l → p a ≡ true → any_of p l ≡ true
any_at p l a = any_along p a l

pub any-not : {A : Type 0} (p : A → Bool) (l : List A) → ((a : A) → In a l → p a ≡ false) → any_of p l ≡ false
unfolding any_of
any-not p [] h = refl
any-not p (x ∷ xs) h = or-neither (p x) (any_of p xs) (h x (here refl)) (any-not p xs (λ a m. h a (there m)))

pub any_none : {A : Type 0} (p : A → Bool) (l : List A) → any_of p l ≡ false → (a : A) → In a l → p a ≡ false
any_none p l e a m = elim (test (p a)) [ on q ↦ absurd (clash (any_at p l a m q) e) | off q ↦ q ]

-- An element that passes, or the fact that none does.
pub data SomeOf {A : Type 0} (p : A → Bool) (l : List A) : Type 0 where
  member : (a : A) → In a l → p a ≡ true → SomeOf p l
  nobody : ((a : A) → In a l → p a ≡ false) → SomeOf p l

pub which_of : {A : Type 0} (p : A → Bool) (l : List A) → SomeOf p l
which_of p [] = nobody (λ a m. absurd (not-nil m))
which_of {A} p (x ∷ xs) = step (test (p x)) (which_of p xs)
  where
    step : Test (p x) → SomeOf p xs → SomeOf p (x ∷ xs)
    step (on q) w = member x (here refl) q
    step (off q) (member a m e) = member a (there m) e
    step (off q) (nobody h) = nobody (λ a m. elim (cases_cons m) [ inl z ↦ rw z q | inr k ↦ h a k ])

pub any-get : {A : Type 0} (p : A → Bool) (l : List A) → any_of p l ≡ true → (a : A) × In a l × (p a ≡ true)
any-get p l e = elim (which_of p l) [ member a m q ↦ (a, m, q) | nobody h ↦ absurd (clash e (any-not p l h)) ]

pub any-cong : {A : Type 0} (p q : A → Bool) (l : List A) → ((a : A) → In a l → p a ≡ q a) → any_of p l ≡ any_of q l
unfolding any_of
any-cong p q [] h = refl
any-cong p q (x ∷ xs) h = ap₂ ◌||◌ (h x (here refl)) (any-cong p q xs (λ a m. h a (there m)))

pub any-join : {A : Type 0} (p : A → Bool) (l m : List A) → any_of p (l ++ m) ≡ (any_of p l || any_of p m)
unfolding any_of
any-join p [] m = refl
any-join p (x ∷ xs) m = ap (◌||◌ (p x)) (any-join p xs m) ∙ sym (or_assoc (p x) (any_of p xs) (any_of p m))

-- ---- lists: every element passes

pub all-each : {A : Type 0} (p : A → Bool) (l : List A) → ((a : A) → In a l → p a ≡ true) → all_of p l ≡ true
unfolding all_of
all-each p [] h = refl
all-each p (x ∷ xs) h = and_both (p x) (all_of p xs) (h x (here refl)) (all-each p xs (λ a m. h a (there m)))

all_along : {A : Type 0} (p : A → Bool) (a : A) (l : List A) → all_of p l ≡ true → In a l → p a ≡ true
unfolding all_of
all_along p a l e (here {x} {xs} q) = rw q (and_left (p x) (all_of p xs) e)
all_along p a l e (there {x} {xs} m) = all_along p a xs (and_right (p x) (all_of p xs) e) m

pub all-at : {A : Type 0} (p : A → Bool) (l : List A) → all_of p l ≡ true → (a : A) → In a l → p a ≡ true
all-at p l e a = all_along p a l e

pub all-not : {A : Type 0} (p : A → Bool) (l : List A) (a : A) → In a l → p a ≡ false → all_of p l ≡ false
all-not p l a m q = elim (test (all_of p l)) [ on e ↦ absurd (clash (all-at p l e a m) q) | off e ↦ e ]

pub all-cong : {A : Type 0} (p q : A → Bool) (l : List A) → ((a : A) → In a l → p a ≡ q a) → all_of p l ≡ all_of q l
unfolding all_of
all-cong p q [] h = refl
all-cong p q (x ∷ xs) h = ap₂ ◌&&◌ (h x (here refl)) (all-cong p q xs (λ a m. h a (there m)))

-- ---- an element and a later one

-- a stands in a list, and b stands after it.
pub data Earlier {A : Type 0} (a b : A) : List A → Type 0 where
  first : {x : A} {l : List A} → a ≡ x → In b l → Earlier a b (x ∷ l)
  further : {x : A} {l : List A} → Earlier a b l → Earlier a b (x ∷ l)

pub earlier-left : {A : Type 0} {a b : A} {l : List A} → Earlier a b l → In a l
earlier-left (first q m) = here q
earlier-left (further t) = there (earlier-left t)

pub earlier-right : {A : Type 0} {a b : A} {l : List A} → Earlier a b l → In b l
earlier-right (first q m) = there m
earlier-right (further t) = there (earlier-right t)

pub earlier-cases : {A : Type 0} {a b x : A} {l : List A} → Earlier a b (x ∷ l) → ((a ≡ x) × In b l) ⊎ Earlier a b l
earlier-cases (first q m) = inl (q, m)
earlier-cases (further t) = inr t

-- Two elements of a list stand in one order, or in the other, or are equal.
pub earlier-either : {A : Type 0} (a b : A) (l : List A) → In a l → In b l → Earlier a b l ⊎ ((a ≡ b) ⊎ Earlier b a l)
earlier-either a b l (here {x} {xs} q) k = elim (cases_cons k) [ inl z ↦ inr (inl (q ∙ sym z)) | inr k ↦ inl (first q k) ]
earlier-either a b l (there {x} {xs} m) k = step (cases_cons k) (earlier-either a b xs m)
  where
    step : (b ≡ x) ⊎ In b xs → (In b xs → Earlier a b xs ⊎ ((a ≡ b) ⊎ Earlier b a xs)) → Earlier a b (x ∷ xs) ⊎ ((a ≡ b) ⊎ Earlier b a (x ∷ xs))
    step (inl z) rest = inr (inr (first z m))
    step (inr k) rest = elim (rest k) [ inl t ↦ inl (further t) | inr u ↦ elim u [ inl z ↦ inr (inl z) | inr t ↦ inr (inr (further t)) ] ]

-- In a list whose keys increase, the element with the smaller key stands first.
pub earlier-by : {A : Type 0} (key : A → ℕ) (l : List A) → ((a b : A) → Earlier a b l → key a < key b) → (a b : A) → In a l → In b l → key a < key b → Earlier a b l
earlier-by key l rises a b m k h = elim (earlier-either a b l m k) [
  | inl t ↦ t
  | inr u ↦ elim u [ inl z ↦ let e : key a ≡ key b = ap key z in absurd (omega arith) | inr t ↦ let e : key b < key a = rises b a t in absurd (omega arith) ]
]

two_along : {A : Type 0} (r : A → A → Bool) (a b : A) (l : List A) → Earlier a b l → r a b ≡ true → two_of r l ≡ true
unfolding two_of
two_along r a b l (first {x} {l = xs} q m) e = or_left (any_of (r x) xs) (two_of r xs) (any_at (r x) xs b m (rw (← q) e))
two_along r a b l (further {x} {l = xs} t) e = or_right (any_of (r x) xs) (two_of r xs) (two_along r a b xs t e)

pub two_at : {A : Type 0} (r : A → A → Bool) (l : List A) (a b : A) → Earlier a b l → r a b ≡ true → two_of r l ≡ true
two_at r l a b = two_along r a b l

pub two_none : {A : Type 0} (r : A → A → Bool) (l : List A) → two_of r l ≡ false → (a b : A) → Earlier a b l → r a b ≡ false
two_none r l e a b t = elim (test (r a b)) [ on q ↦ absurd (clash (two_at r l a b t q) e) | off q ↦ q ]

pub two-not : {A : Type 0} (r : A → A → Bool) (l : List A) → ((a b : A) → Earlier a b l → r a b ≡ false) → two_of r l ≡ false
unfolding two_of
two-not r [] h = refl
two-not r (x ∷ xs) h = or-neither (any_of (r x) xs) (two_of r xs) (any-not (r x) xs (λ b m. h x b (first refl m))) (two-not r xs (λ a b t. h a b (further t)))

pub two-get : {A : Type 0} (r : A → A → Bool) (l : List A) → two_of r l ≡ true → (a : A) × (b : A) × Earlier a b l × (r a b ≡ true)
unfolding two_of
two-get r [] e = absurd (true≢false (sym e))
two-get {A} r (x ∷ xs) e = step (or-either (any_of (r x) xs) (two_of r xs) e) (two-get r xs)
  where
    step : (any_of (r x) xs ≡ true) ⊎ (two_of r xs ≡ true) → (two_of r xs ≡ true → (a : A) × (b : A) × Earlier a b xs × (r a b ≡ true))
        → (a : A) × (b : A) × Earlier a b (x ∷ xs) × (r a b ≡ true)
    step (inl h) rest = let (b, m, q) = any-get (r x) xs h in (x, b, first refl m, q)
    step (inr h) rest = let (a, b, t, q) = rest h in (a, b, further t, q)

pub two-cong : {A : Type 0} (r s : A → A → Bool) (l : List A) → ((a b : A) → Earlier a b l → r a b ≡ s a b) → two_of r l ≡ two_of s l
unfolding two_of
two-cong r s [] h = refl
two-cong r s (x ∷ xs) h = ap₂ ◌||◌ (any-cong (r x) (s x) xs (λ b m. h x b (first refl m))) (two-cong r s xs (λ a b t. h a b (further t)))

-- ---- the members of a list of numbers

pub listed_in : (l : List ℕ) (f : ℕ) → listed l f ≡ true → In f l
unfolding listed
listed_in l f e = let (a, m, q) = any-get (eqb f) l e in cast (eqb-true f a q) m

pub in-listed : (l : List ℕ) (f : ℕ) → In f l → listed l f ≡ true
unfolding listed
in-listed l f m = any_at (eqb f) l f m (eq-eqb f f refl)

pub listed-join : (l m : List ℕ) (f : ℕ) → listed (l ++ m) f ≡ (listed l f || listed m f)
unfolding listed
listed-join l m f = any-join (eqb f) l m
