-- Strictly increasing lists of numbers as runs from one bound to another; the runs below n are the sets of numbers below n.
use Rattle.std.specs.Prelude.{ℕ, zero, suc, ◌+◌, ◌<◌, ◌≤◌, ◌≡◌, refl, Bool, true, false, ◌&&◌, cond, eqb, ltb, length}
use Rattle.std.proofs.Common.{ap₂, sym, ◌∙◌, inl, inr, arith, eqb-true, ltb-true, ltb-false, lt-ltb}
use mathlib.Core.List.Memᴰ.{head as here}
use mathlib.Core.List.Memᴰ.{tail as there}
use mathlib.Core.List.{List, [], ◌∷◌, ◌++◌, Memᴰ as In}
use mathlib.Core.List.Memᴰ.{cases_cons}
use mathlib.Core.List.Memᴰ.{eq_of_singleton}
use mathlib.Core.List.Memᴰ.{not-nil}
use Rattle.meaning.specs.Sets.{Set, flat, any_of, listed}
use Rattle.theory.specs.Truth.{Test, on, off, test}
use Rattle.theory.specs.Search.{and_left, and_right, and_both, true-together, listed_in, in-listed}
use Rattle.theory.specs.Flat.{in-flat, flat_in, in-when, when-in}
use Rattle.meaning.specs.Task.{Run}

-- ---- runs made of runs

pub run_none : (lo hi : ℕ) → lo ≤ hi → Run lo [] hi
unfolding Run
run_none lo hi h = h

pub run_more : (lo hi x : ℕ) (l : List ℕ) → lo ≤ x → Run (suc x) l hi → Run lo (x ∷ l) hi
unfolding Run
run_more lo hi x l h r = (h, r)

pub run-one : (lo hi x : ℕ) → lo ≤ x → x < hi → Run lo (x ∷ []) hi
unfolding Run
run-one lo hi x h k = (h, k)

pub run_wider : (lo hi lo' hi' : ℕ) (l : List ℕ) → lo' ≤ lo → hi ≤ hi' → Run lo l hi → Run lo' l hi'
unfolding Run
run_wider lo hi lo' hi' [] h k r = omega arith
run_wider lo hi lo' hi' (x ∷ l) h k r = (omega arith, run_wider (suc x) hi (suc x) hi' l (omega arith) k r.1)

pub run-when : (lo hi : ℕ) (b : Bool) (l : List ℕ) → lo ≤ hi → (b ≡ true → Run lo l hi) → Run lo (cond b l []) hi
run-when lo hi true l h r = r refl
run-when lo hi false l h r = run_none lo hi h

pub run_join : (lo mid hi : ℕ) (l m : List ℕ) → Run lo l mid → Run mid m hi → Run lo (l ++ m) hi
unfolding Run
run_join lo mid hi [] m r s = run_wider mid hi lo hi m r (omega arith) s
run_join lo mid hi (x ∷ l) m r s = (r.0, run_join (suc x) mid hi l m r.1 s)

-- Runs that follow on each other, number by number.
pub run-flat : (n : ℕ) (g : ℕ → List ℕ) (lo : ℕ → ℕ) → ((i : ℕ) → i < n → Run (lo i) (g i) (lo (suc i))) → Run (lo 0) (flat n g) (lo n)
unfolding flat
run-flat zero g lo h = run_none (lo 0) (lo 0) (omega arith)
run-flat (suc n) g lo h = run_join (lo 0) (lo n) (lo (suc n)) (flat n g) (g n) (run-flat n g lo (λ i l. h i (omega arith))) (h n (omega arith))

-- ---- what a run says

pub run-first : (lo hi x : ℕ) (l : List ℕ) → Run lo (x ∷ l) hi → lo ≤ x
unfolding Run
run-first lo hi x l r = r.0

pub run-rest : (lo hi x : ℕ) (l : List ℕ) → Run lo (x ∷ l) hi → Run (suc x) l hi
unfolding Run
run-rest lo hi x l r = r.1

pub run_length : (lo hi : ℕ) (l : List ℕ) → Run lo l hi → lo + length l ≤ hi
unfolding Run
run_length lo hi [] r = omega arith
run_length lo hi (x ∷ l) r = omega (arith, run_length (suc x) hi l r.1)

run_along : (f hi lo : ℕ) (l : List ℕ) → Run lo l hi → In f l → (lo ≤ f) × (f < hi)
unfolding Run
run_along f hi lo l r (here {x} {xs} q) = omega (arith, run_length (suc x) hi xs r.1)
run_along f hi lo l r (there {x} {xs} m) = omega (arith, run_along f hi (suc x) xs r.1 m)

pub run_in : (lo hi : ℕ) (l : List ℕ) (f : ℕ) → Run lo l hi → In f l → (lo ≤ f) × (f < hi)
run_in lo hi l f = run_along f hi lo l

-- A run whose numbers are all from another bound on begins there.
pub run_inside : (lo hi lo' : ℕ) (l : List ℕ) → lo' ≤ hi → Run lo l hi → ((f : ℕ) → In f l → lo' ≤ f) → Run lo' l hi
unfolding Run
run_inside lo hi lo' [] k r h = k
run_inside lo hi lo' (x ∷ l) k r h = (h x (here refl), r.1)

-- A number outside the bounds is not in the run.
pub run-outside : (lo hi : ℕ) (l : List ℕ) (f : ℕ) → Run lo l hi → (lo ≤ f → f < hi → ⊥) → listed l f ≡ false
run-outside lo hi l f r d = elim (test (listed l f)) [ on e ↦ let h = run_in lo hi l f r (listed_in l f e) in absurd (d h.0 h.1) | off e ↦ e ]

-- ---- a run and the set of its members

listed-rest : (x : ℕ) (l : List ℕ) (f : ℕ) → eqb f x ≡ false → listed (x ∷ l) f ≡ listed l f
unfolding listed any_of
listed-rest x l f e = rw e refl

-- A first number is in every list with the same members.
first-in : (x : ℕ) (l m : List ℕ) → ((f : ℕ) → listed (x ∷ l) f ≡ listed m f) → In x m
first-in x l m h = listed_in m x (sym (h x) ∙ in-listed (x ∷ l) x (here refl))

-- Two runs with the same members are equal.
pub run-same : (lo hi lo' hi' : ℕ) (l m : List ℕ) → Run lo l hi → Run lo' m hi' → ((f : ℕ) → listed l f ≡ listed m f) → l ≡ m
run-same lo hi lo' hi' [] [] r s h = refl
run-same lo hi lo' hi' [] (y ∷ m) r s h = absurd (not-nil (first-in y m [] (λ f. sym (h f))))
run-same lo hi lo' hi' (x ∷ l) [] r s h = absurd (not-nil (first-in x l [] h))
run-same lo hi lo' hi' (x ∷ l) (y ∷ m) r s h = ap₂ ◌∷◌ heads (run-same (suc x) hi (suc y) hi' l m rest rest' (λ f. tails f (test (eqb f x))))
  where
    rest : Run (suc x) l hi
    rest = run-rest lo hi x l r

    rest' : Run (suc y) m hi'
    rest' = run-rest lo' hi' y m s

    heads : x ≡ y
    heads = elim (cases_cons (first-in x l (y ∷ m) h)) [
      | inl q ↦ q
      | inr k ↦ elim (cases_cons (first-in y m (x ∷ l) (λ f. sym (h f)))) [ inl q ↦ sym q | inr k' ↦ absurd (omega (arith, run_in (suc y) hi' m x rest' k, run_in (suc x) hi l y rest k')) ]
    ]

    tails : (f : ℕ) → Test (eqb f x) → listed l f ≡ listed m f
    tails f (on e) = run-outside (suc x) hi l f rest (λ j k. omega (arith, eqb-true f x e)) ∙ sym (run-outside (suc y) hi' m f rest' (λ j k. omega (arith, eqb-true f x e, heads)))
    tails f (off e) = sym (listed-rest x l f e) ∙ h f ∙ listed-rest y m f (rw (← heads) e)

-- The numbers below n of a set, in increasing order.
unfoldable pub members : ℕ → Set → List ℕ
members n a = flat n (λ f. cond (a f) (f ∷ []) [])

pub run-members : (n : ℕ) (a : Set) → Run 0 (members n a) n
unfolding members
run-members n a = run-flat n _ (λ i. i) (λ i l. run-when i (suc i) (a i) (i ∷ []) (omega arith) (λ e. run-one i (suc i) i (omega arith) (omega arith)))

pub listed-members : (n : ℕ) (a : Set) (f : ℕ) → listed (members n a) f ≡ (ltb f n && a f)
unfolding members
listed-members n a f = true-together (listed (members n a) f) (ltb f n && a f) to back
  where
    to : listed (members n a) f ≡ true → (ltb f n && a f) ≡ true
    to e = let (i, l, m) = flat_in n _ f (listed_in _ f e) in let (q, k) = in-when (a i) (i ∷ []) m in
        and_both (ltb f n) (a f) (rw (eq_of_singleton k) (lt-ltb i n l)) (rw (eq_of_singleton k) q)

    back : (ltb f n && a f) ≡ true → listed (members n a) f ≡ true
    back e = in-listed _ f (in-flat n _ f f (ltb-true f n (and_left (ltb f n) (a f) e)) (when-in (a f) (f ∷ []) (and_right (ltb f n) (a f) e) (here refl)))

-- A run is the run of its own members.
pub members-listed : (lo n : ℕ) (l : List ℕ) → Run lo l n → members n (listed l) ≡ l
members-listed lo n l r = run-same 0 n lo n _ l (run-members n (listed l)) r (λ f. listed-members n (listed l) f ∙ elim (test (ltb f n)) [
  | on e ↦ rw e refl
  | off e ↦ rw e (sym (run-outside lo n l f r (λ j k. omega (arith, ltb-false f n e))))
])
