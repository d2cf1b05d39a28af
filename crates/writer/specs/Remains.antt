-- How a room is filled part after part: what remains to be written, from the start to the end, and when a whole file is delivered.
use Rattle.std.specs.Prelude.{ℕ, suc, ◌+◌, ◌<◌, ◌≤◌, ◌≡◌, refl, List, [], ◌∷◌, ◌++◌, length, set, take, drop, Ok}
use Rattle.std.proofs.Common.{sym, ap, ap₂, ◌∙◌, append-nil, arith, add-zero, lt-ltb, le-ltb}
use Rattle.std.proofs.lemmas.List.Edits.{sets}
use Rattle.std.proofs.Math.Seq.{length-sets}
use Rattle.meaning.specs.Number.{Small}
use Rattle.meaning.specs.Answer.{refuses, writes, delivered}
use Rattle.number.specs.Laws.{sets-all}
use Rattle.writer.specs.Answer.{outcome_of}
use Rattle.writer.specs.Widths.{part_length}

sets-append : (room : List ℕ) (at : ℕ) (l m : List ℕ) → sets room at (l ++ m) ≡ sets (sets room at l) (at + length l) m
sets-append room at [] m = ap (λ k. sets room k m) (sym (add-zero at))
sets-append room at (b ∷ l) m = sets-append (set room at b) (suc at) l m ∙ ap (λ k. sets (sets (set room at b) (suc at) l) k m) (omega arith)

-- Of what is due from a place on, the rest is still to be written: from the next place on it fits, and gives the same room.
pub record Remains (room₀ : List ℕ) (at : ℕ) (due room : List ℕ) (next : ℕ) (rest : List ℕ) : Type 0 where
  pub kept : length room ≡ length room₀
  pub fits : next + length rest ≤ length room
  pub place : at + length due ≡ next + length rest
  pub same : sets room₀ at due ≡ sets room next rest

pub remains-all : (room : List ℕ) (at : ℕ) (due : List ℕ) → at + length due ≤ length room → Remains room at due room at due
remains-all room at due h = record { kept = refl; fits = h; place = refl; same = refl }

module _ {room₀ : List ℕ} {at : ℕ} {due room : List ℕ} {next : ℕ} {rest : List ℕ} (r : Remains room₀ at due room next rest) where
  -- The next part has room.
  pub part-fits : (part others : List ℕ) → rest ≡ part ++ others → next + length part ≤ length room
  part-fits part others e = omega (arith, r.fits, part_length part others e)

  -- And when it is written, the others remain.
  pub remains-after : (part others room' : List ℕ) (after : ℕ) → rest ≡ part ++ others → after ≡ next + length part
      → room' ≡ take next room ++ (part ++ drop after room) → Remains room₀ at due room' after others
  remains-after part others room' after e p w =
      let fit = part-fits part others e in
      let written : room' ≡ sets room next part = w ∙ sym (sets-all room next after part p (omega arith)) in
      let size : length room' ≡ length room = ap length written ∙ length-sets room next part in
      let count : length rest ≡ length part + length others = part_length part others e in
      record {
        kept = size ∙ r.kept;
        fits = omega (arith, r.fits);
        place = omega (arith, r.place);
        same = r.same ∙ ap (sets room next) e ∙ sets-append room next part others ∙ ap₂ (λ l k. sets l k others) (sym written) (sym p);
      }

  -- Where nothing remains, all that is due stands in the room.
  pub remains-none : rest ≡ [] → (next ≡ at + length due) × (room ≡ take at room₀ ++ (due ++ drop next room₀))
  remains-none e =
      let last : next ≡ at + length due = omega (arith, r.place, ap length e) in
      (last, sym (sym (sets-all room₀ at next due last (omega (arith, r.fits, r.kept))) ∙ r.same ∙ ap (sets room next) e))

-- ---- a whole file

module _ (file room : List ℕ) where
  pub delivered-small : length room < length file → delivered file room ≡ refuses Small room
  delivered-small h = rw (lt-ltb (length room) (length file) h)

  pub delivered-whole : length file ≤ length room → delivered file room ≡ writes (length file) file room
  delivered-whole h = rw (le-ltb (length room) (length file) h)

  -- A file that was written from the front of a room on is delivered.
  pub delivered-done : (room' : List ℕ) (n : ℕ) → length file ≤ length room → n ≡ 0 + length file → room' ≡ take 0 room ++ (file ++ drop n room)
      → outcome_of (Ok n) room' ≡ delivered file room
  delivered-done room' n h p w =
      let q : n ≡ length file = omega arith in
      ap₂ (λ k l. outcome_of (Ok k) l) q (w ∙ ap (λ k. file ++ drop k room) q) ∙ sym (delivered-whole h)

-- A file of two parts that were written one after the other is delivered: what stands before the operators of a task, and the operators.
pub parts-delivered : (file front last room room₁ room₂ : List ℕ) (next end : ℕ) → file ≡ front ++ last → length file ≤ length room
    → next ≡ length front → room₁ ≡ front ++ drop next room → end ≡ next + length last → room₂ ≡ take next room₁ ++ (last ++ drop end room₁)
    → outcome_of (Ok end) room₂ ≡ delivered file room
parts-delivered file front last room room₁ room₂ next end split fit p₁ w₁ p₂ w₂ =
    let one = remains-after (remains-all room 0 file (omega arith)) front last room₁ next split (omega arith) w₁ in
    let all = remains-none (remains-after one last [] room₂ end (sym (append-nil last)) p₂ w₂) refl in
    delivered-done file room room₂ end fit all.0 all.1
