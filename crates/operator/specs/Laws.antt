-- Entries that are read, or judged, one at a time: the turns of the code's loops.
use Prim.Native.Nat.{ℕ, zero, suc, ◌+◌, ◌-◌, ◌<◌, ◌≤◌}
use Rattle.std.specs.Prelude.{◌≡◌, length, get_or, set, drop}
use Rattle.std.proofs.Math.Path.{refl}
use Rattle.std.proofs.Common.{sym, ap, ap₂, ◌∙◌, add-one, drop_of_length-le, drop-cons, get_or-set_same, get_or-set_other}
use mathlib.Core.List.{List, [], ◌∷◌, ◌++◌, append_assoc, append-nil}
use native.Mathlib.Omega.{arith}
use Rattle.meaning.specs.Sets.{table}
use Rattle.meaning.specs.Task.{Entry, Operator}
use Rattle.meaning.specs.Number.{Reason, Read, got, fault, on_read}
use Rattle.meaning.specs.File.{entries_of}
use Rattle.meaning.specs.Answer.{operator_in, Judged, fine, entries_judged}
use Rattle.theory.specs.Flat.{table-cong}
use Rattle.theory.specs.Walk.{entry_at}
use Rattle.theory.specs.Given.{entry_of}
use Rattle.theory.specs.Reading.{on-on}
use Rattle.theory.specs.Operands.{unless, need-unless}
use Rattle.operator.specs.Entries.{held_in}

-- ---- the arrays of a record

table-last : {A : Type 0} (n : ℕ) (f : ℕ → A) → table (suc n) f ≡ table n f ++ (f n ∷ [])
unfolding table
table-last zero f = refl
table-last (suc n) f = ap (◌∷◌ (f 0)) (table-last n (λ i. f (suc i)))

-- A store at the count of what is held adds an entry.
pub held_more : (k v x y : ℕ) (vs xs ys : List ℕ) → k < length vs → k < length xs → k < length ys
    → held_in (k + 1) (set vs k v) (set xs k x) (set ys k y) ≡ held_in k vs xs ys ++ (entry_of v x y ∷ [])
unfolding operator_in
held_more k v x y vs xs ys h₁ h₂ h₃ =
    ap (λ n. held_in n (set vs k v) (set xs k x) (set ys k y)) (add-one k)
    ∙ table-last k _
    ∙ ap₂ (λ l e. l ++ (e ∷ [])) (table-cong k _ _ (λ i l. same-entry (left vs v i l) (left xs x i l) (left ys y i l)))
    (same-entry (get_or-set_same vs k v 0 h₁) (get_or-set_same xs k x 0 h₂) (get_or-set_same ys k y 0 h₃))
  where
    same-entry : {v v' x x' y y' : ℕ} → v ≡ v' → x ≡ x' → y ≡ y' → entry_of v x y ≡ entry_of v' x' y'
    same-entry p q r = cc

    left : (l : List ℕ) (a i : ℕ) → i < k → get_or (set l k a) i 0 ≡ get_or l i 0
    left l a i h = get_or-set_other l k i a 0 (λ e. omega arith)

-- ---- reading

-- Entries that were read before others.
abbrev pub behind : Operator → Read Operator → Read Operator
behind done rest = on_read rest (λ es next. got (done ++ es) next)

pub behind-none : (r : Read Operator) → behind [] r ≡ r
behind-none (got es next) = refl
behind-none (fault reason place) = refl

behind_more : (done o : Operator) (r : Read Operator) → behind done (behind o r) ≡ behind (done ++ o) r
behind_more done o (got es next) = ap (λ l. got l next) (sym (append_assoc done o es))
behind_more done o (fault reason place) = refl

module _ (sizes bytes : List ℕ) (count k : ℕ) where
  -- The first entry of those that are left, and those after it.
  entries-turn : (least at : ℕ) → k < count → entries_of sizes (count - k) least bytes at
      ≡ on_read (entries_of sizes 1 least bytes at) (λ o next. behind o (entries_of sizes (count - (k + 1)) ((entry_at o 0).variable + 1) bytes next))
  unfolding entries_of
  entries-turn least at h = let left : count - k ≡ suc (count - (k + 1)) = omega arith in rw left (simp (on-on, add-one))

  module _ (done : Operator) (least at : ℕ) where
    pub read_more : (e : Entry) (next : ℕ) → k < count → entries_of sizes 1 least bytes at ≡ got (e ∷ []) next
        → behind done (entries_of sizes (count - k) least bytes at) ≡ behind (done ++ (e ∷ [])) (entries_of sizes (count - (k + 1)) (e.variable + 1) bytes next)
    read_more e next h q = rw (entries-turn least at h, q) (behind_more done (e ∷ []) (entries_of sizes (count - (k + 1)) (e.variable + 1) bytes next))

    pub read-fault : (reason : Reason) (place : ℕ) → k < count → entries_of sizes 1 least bytes at ≡ fault reason place
        → behind done (entries_of sizes (count - k) least bytes at) ≡ fault reason place
    read-fault reason place h q = rw (entries-turn least at h, q)

    pub read_all : count ≤ k → behind done (entries_of sizes (count - k) least bytes at) ≡ got done at
    unfolding entries_of
    read_all h = let none : count - k ≡ 0 = omega arith in rw none (ap (λ l. got l at) (append-nil done))

-- ---- judging

module _ (sizes : List ℕ) where
  -- What is judged after the entries.
  pub entries-unless : (least : ℕ) (o : Operator) (rest : Judged) → entries_judged sizes least o rest ≡ unless (entries_judged sizes least o fine) rest
  unfolding entries_judged
  entries-unless least [] rest = refl
  entries-unless least (e ∷ es) rest = rw (entries-unless (suc e.variable) es rest) (simp need-unless)

  judged-first : (least : ℕ) (e : Entry) (es : Operator) (rest : Judged)
      → entries_judged sizes least (e ∷ es) rest ≡ unless (entries_judged sizes least (e ∷ []) fine) (entries_judged sizes (suc e.variable) es rest)
  unfolding entries_judged
  judged-first least e es rest = entries-unless least (e ∷ []) (entries_judged sizes (suc e.variable) es rest)

  pub judge-more : (least k : ℕ) (o : Operator) (rest : Judged) → k < length o → entries_judged sizes least (drop k o) rest
      ≡ unless (entries_judged sizes least (entry_at o k ∷ []) fine) (entries_judged sizes ((entry_at o k).variable + 1) (drop (k + 1) o) rest)
  judge-more least k o rest h =
      rw (drop-cons o k (entry_of 0 0 0) h, add-one k, add-one (entry_at o k).variable) (judged-first least _ (drop (suc k) o) rest)

  pub judge-all : (least k : ℕ) (o : Operator) (rest : Judged) → length o ≤ k → entries_judged sizes least (drop k o) rest ≡ rest
  unfolding entries_judged
  judge-all least k o rest h = rw (drop_of_length-le o {i = k} h)
