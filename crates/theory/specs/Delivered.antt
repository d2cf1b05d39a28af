-- What a call that writes a file leaves where it does not refuse: the bytes of the file, with their number as its answer, and the others as they were.
use Rattle.std.specs.Prelude.{ℕ, ◌≤◌, ◌≡◌, refl, List, ◌++◌, ltb, length, take, drop}
use Rattle.std.proofs.Common.{ap, ◌∙◌, arith, take_at, drop_at, le-ltb}
use Rattle.meaning.specs.Number.{Reason, Small, refusal, Read, got}
use Rattle.meaning.specs.Answer.{done, refused, Outcome, refuses, writes, delivered, by_read}
use Rattle.theory.specs.Truth.{on, off, test}
use Rattle.theory.specs.Reading.{by-got}

pub record Leaves (file room lent : List ℕ) (k : ℕ) : Type 0 where
  pub width : length file ≡ k
  pub front : take k lent ≡ file
  pub others : drop k lent ≡ drop k room

-- Where the room has k bytes, a file of k bytes is written.
pub delivered-written : (file room : List ℕ) (k : ℕ) → length file ≡ k → k ≤ length room → delivered file room ≡ writes k file room
delivered-written file room k e h = rw (e, le-ltb (length room) k h) refl

-- Where a file fits, a call that writes it is done.
pub delivered-done : (file room : List ℕ) → length file ≤ length room → (outcome : Outcome ℕ) → outcome ≡ delivered file room → (k : ℕ) × (outcome.answer ≡ done k)
delivered-done file room fits outcome e = (length file, ap (λ o. o.answer) (e ∙ delivered-written file room _ refl fits))

module _ (room lent : List ℕ) (k : ℕ) where
  -- A result is no refusal.
  pub not-refused : (reason : Reason) → ◌≡◌ {A = Outcome ℕ} (record { answer = done k; lent = lent }) (refuses reason room) → ⊥
  not-refused reason e = let q : done k ≡ refused (refusal reason) = ap (λ o. o.answer) e in let z : ◌≡◌ {A = ℕ} 0 1 = cc in omega arith

  pub delivered-leaves : (file : List ℕ) → record { answer = done k; lent = lent } ≡ delivered file room → Leaves file room lent k
  delivered-leaves file e = elim (test (ltb (length room) (length file))) [ on p ↦ absurd (not-refused Small (rw p at e)) | off p ↦ whole (rw p at e) ]
    where
      whole : record { answer = done k; lent = lent } ≡ writes (length file) file room → Leaves file room lent k
      whole w =
          let q : done k ≡ done (length file) = ap (λ o. o.answer) w in
          let width : length file ≡ k = cc in
          let filled : lent ≡ file ++ drop (length file) room = ap (λ o. o.lent) w in
          record { width = width; front = ap (take k) filled ∙ take_at file _ k width; others = ap (drop k) filled ∙ drop_at file _ k width ∙ ap (λ n. drop n room) width }

  -- The file that is written for what was read.
  pub builds-leave : {A : Type 0} (read : Read A) (file : A → List ℕ)
      → by_read read (λ a. record { answer = done k; lent = lent } ≡ delivered (file a) room) (λ reason. ◌≡◌ {A = Outcome ℕ} (record { answer = done k; lent = lent }) (refuses reason room))
      → (a : A) × (end : ℕ) × (read ≡ got a end) × Leaves (file a) room lent k
  builds-leave read file builds =
      let (a, end, e, o) = by-got read _ _ not-refused builds in
      (a, end, e, delivered-leaves (file a) o)
