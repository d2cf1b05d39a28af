-- The operators of the task file: what each is written from, how many bytes they have, and the turns in which they are written.
use Rattle.std.specs.Prelude.{ℕ, zero, suc, ◌+◌, ◌-◌, ◌*◌, ◌<◌, ◌≤◌, ◌≡◌, ◌≢◌, Bool, true, false, length, ltb}
use Rattle.std.proofs.Math.Path.{refl, ap}
use Rattle.std.proofs.Common.{sym, ◌∙◌, arith, add-one, lt-ltb, le-ltb}
use Rattle.std.proofs.Math.Bool.{cond}
use mathlib.Core.List.{List, [], ◌∷◌, ◌++◌, append-nil, Memᴰ as In}
use Rattle.meaning.specs.Sets.{flat}
use Rattle.meaning.specs.Limits.{group, most_slots}
use Rattle.meaning.specs.Number.{group_bytes, number_bytes}
use Rattle.meaning.specs.Task.{Operator}
use Rattle.meaning.specs.File.{bytes_of, counted, entry_bytes, operator_bytes}
use Rattle.meaning.specs.Bay.{occurrences, occurs_in, exchange, slide, bay_operators}
use Rattle.theory.specs.Flat.{flat-cong}
use Rattle.theory.specs.BayMoves.{operator-slide}
use Rattle.theory.specs.BytesOf.{bytes-each}
use Rattle.theory.specs.Walk.{entry_at}
use Rattle.writer.specs.Parts.{Numbered, Triples}
use Rattle.writer.specs.Widths.{counted-length}
use Rattle.sliding.specs.Parts.{Slots, near_in, operators_in, lot_bytes, slide_bytes, gap_bytes, walk_bytes}
use Rattle.sliding.specs.Turns.{bytes-flat}

-- ---- one operator

module _ (p q t : ℕ) where
  -- A slide has two entries, by slot number.
  pub slide-ordered : p < q → slide p q t ≡ exchange p q 0 t
  unfolding slide
  slide-ordered h = rw (lt-ltb p q h) refl

  pub slide-turned : q ≤ p → slide p q t ≡ exchange q p t 0
  unfolding slide
  slide-turned h = rw (le-ltb p q h) refl

  -- It can be written.
  pub slide-written : p < most_slots → q < most_slots → t < most_slots → Triples (slide p q t)
  unfolding slide
  slide-written hp hq ht = by (ltb p q)
    where
      two : (i j a b : ℕ) → i < most_slots → j < most_slots → a < most_slots → b < most_slots → Triples (exchange i j a b)
      two i j a b hi hj ha hb = (omega arith, λ k l. each k l)
        where
          each : (k : ℕ) → k < 2 → Numbered (entry_at (exchange i j a b) k)
          each zero l = (omega arith, omega arith, omega arith)
          each (suc zero) l = (omega arith, omega arith, omega arith)
          each (suc (suc k)) l = absurd (omega arith)

      by : (b : Bool) → Triples (cond b (exchange p q 0 t) (exchange q p t 0))
      by true = two p q 0 t hp hq (omega arith) ht
      by false = two q p t 0 hq hp ht (omega arith)

-- ---- how many bytes

-- Each of the seven numbers of an operator is below 128.
abbrev pub operator_width : ℕ
operator_width = 7

exchange-width : (i j a b : ℕ) → i < group → j < group → a < group → b < group → length (operator_bytes (exchange i j a b)) ≡ operator_width
unfolding operator_bytes counted bytes_of entry_bytes number_bytes group_bytes
exchange-width i j a b hi hj ha hb = rw (lt-ltb i group hi, lt-ltb j group hj, lt-ltb a group ha, lt-ltb b group hb) refl

slide-width : (p q t : ℕ) → p < most_slots → q < most_slots → t < most_slots → length (operator_bytes (slide p q t)) ≡ operator_width
unfolding slide
slide-width p q t hp hq ht = by (ltb p q)
  where
    by : (b : Bool) → length (operator_bytes (cond b (exchange p q 0 t) (exchange q p t 0))) ≡ operator_width
    by true = exchange-width p q 0 t (omega arith) (omega arith) (omega arith) (omega arith)
    by false = exchange-width q p t 0 (omega arith) (omega arith) (omega arith) (omega arith)

-- So has the one that is measured.
pub one_width : length (operator_bytes (slide 0 1 1)) ≡ operator_width
one_width = slide-width 0 1 1 (omega arith) (omega arith) (omega arith)

pub operators-length : (near start : List ℕ) → Slots near start
    → length (counted operator_bytes (operators_in near start)) ≡ length (number_bytes (length (operators_in near start))) + operator_width * length (operators_in near start)
operators-length near start slots =
    counted-length operator_bytes (operators_in near start) ∙ ap (λ k. length (number_bytes (length (operators_in near start))) + k) (bytes-each operator_bytes operator_width _ each)
  where
    each : (o : Operator) → In o (operators_in near start) → length (operator_bytes o) ≡ operator_width
    each o m =
        let s = operator-slide (length start) (near_in near (length start)) (occurs_in start) o m in
        let few = slots.most in
        ap (λ b. length (operator_bytes b)) s.form
        ∙ slide-width s.gap s.slot s.label (omega (arith, s.gap-place)) (omega (arith, s.slot-place)) (omega (arith, s.is-label))

-- ---- in turns

module _ (start : List ℕ) (p q t : ℕ) where
  pub lot-there : occurrences t start ≢ 0 → lot_bytes start p q t ≡ operator_bytes (slide p q t)
  unfolding lot_bytes
  lot-there d = rw (lt-ltb 0 (occurrences t start) (omega arith)) refl

  pub no-lot : occurrences t start ≡ 0 → lot_bytes start p q t ≡ []
  unfolding lot_bytes
  no-lot e = rw (le-ltb 0 (occurrences t start) (omega arith)) refl

module _ (near start : List ℕ) (p q : ℕ) where
  pub slides-beside : near_in near (length start) p q ≡ true → slide_bytes near start p q ≡ flat (length start - 1) (λ k. lot_bytes start p q (k + 1))
  unfolding slide_bytes
  slides-beside e = rw e refl

  pub no-slides : near_in near (length start) p q ≡ false → slide_bytes near start p q ≡ []
  unfolding slide_bytes
  no-slides e = rw e refl

bytes-when : (b : Bool) (l : List Operator) → bytes_of operator_bytes (cond b l []) ≡ cond b (bytes_of operator_bytes l) []
unfolding bytes_of
bytes-when true l = refl
bytes-when false l = refl

lot-bytes : (start : List ℕ) (p q t : ℕ) → bytes_of operator_bytes (cond (occurs_in start t) (slide p q t ∷ []) []) ≡ lot_bytes start p q t
unfolding bytes_of lot_bytes
lot-bytes start p q t = bytes-when (occurs_in start t) (slide p q t ∷ []) ∙ ap (λ l. cond (occurs_in start t) l []) (append-nil (operator_bytes (slide p q t)))

module _ (near start : List ℕ) where
  -- The operators that slide a pallet from q into the gap at p.
  abbrev slides_in : ℕ → ℕ → List Operator
  slides_in p q = cond (near_in near (length start) p q) (flat (length start - 1) (λ k. cond (occurs_in start (suc k)) (slide p q (suc k) ∷ []) [])) []

  slides-bytes : (p q : ℕ) → bytes_of operator_bytes (slides_in p q) ≡ slide_bytes near start p q
  unfolding slide_bytes
  slides-bytes p q =
      bytes-when (near_in near (length start) p q) _
      ∙ ap (λ l. cond (near_in near (length start) p q) l [])
      (bytes-flat operator_bytes (length start - 1) _
      ∙ flat-cong (length start - 1) _ _ (λ k h. lot-bytes start p q (suc k) ∙ ap (lot_bytes start p q) (sym (add-one k))))

  -- The operators in the turns in which they are written.
  walk-bytes : bytes_of operator_bytes (operators_in near start) ≡ walk_bytes near start
  unfolding bay_operators walk_bytes gap_bytes
  walk-bytes =
      bytes-flat operator_bytes (length start) _
      ∙ flat-cong (length start) _ _ (λ p h. bytes-flat operator_bytes (length start) (slides_in p) ∙ flat-cong (length start) _ _ (λ q k. slides-bytes p q))

  pub operators-split : counted operator_bytes (operators_in near start) ≡ number_bytes (length (operators_in near start)) ++ walk_bytes near start
  unfolding counted
  operators-split = ap (◌++◌ (number_bytes (length (operators_in near start)))) walk-bytes
