-- What the finder leaves, written as a weight file, is a file that the checker accepts.
use Rattle.std.specs.Prelude.{ℕ, ◌≤◌, ◌≡◌, refl, false, ◌&&◌, List, ◌++◌, ltb, length, take, drop}
use Rattle.std.proofs.Common.{sym, ap, ◌∙◌, subst, arith, take_at, ltb-true, le-ltb}
use Rattle.meaning.specs.Sets.{Set}
use Rattle.meaning.specs.Task.{Task}
use Rattle.meaning.specs.Feature.{features}
use Rattle.meaning.specs.Number.{got}
use Rattle.meaning.specs.File.{judged_task, weight_bytes}
use Rattle.meaning.specs.Workspace.{has, packed, words_for}
use Rattle.meaning.specs.Answer.{done, accepted, Checks, Opens, separated, Finds}
use Rattle.theory.specs.Truth.{on, off, test}
use Rattle.theory.specs.Run.{members, listed-members}
use Rattle.theory.specs.Words.{length-packed, has-packed, packed-front}
use Rattle.theory.specs.Accepted as Files
use Rattle.theory.specs.Demands.{least-given, found-accepted}
use Rattle.words.specs.Members.{members_in, members-same}
use Rattle.writer.specs.Weights.{Writes}
use Rattle.writer.specs.Remains.{delivered-whole}
use Rattle.writer.specs.Judging.{weights-delivered}
use Rattle.writer.specs.Sets.{in-range-fine}

-- Weights of n features in the first words of a room: these words have the weights below n and nothing else.
module _ (n : ℕ) (w : Set) (lent further : List ℕ) (e : lent ≡ packed n w ++ further) where
  first-words : take (words_for n) lent ≡ packed n w
  first-words = ap (take (words_for n)) e ∙ take_at (packed n w) further (words_for n) (length-packed n w)

  first-members : members n (has lent) ≡ members_in (take (words_for n) lent)
  first-members = members-same n (has lent) (take (words_for n) lent) (λ f. listed-members n (has lent) f ∙ below f ∙ sym (ap (λ l. has l f) first-words ∙ has-packed n w f))
    where
      below : (f : ℕ) → (ltb f n && has lent f) ≡ (ltb f n && w f)
      below f = elim (test (ltb f n)) [
        | on t ↦ rw (t, e) (packed-front n w further f (ltb-true f n t))
        | off t ↦ rw t refl
      ]

  first_past : (f : ℕ) → n ≤ f → has (take (words_for n) lent) f ≡ false
  first_past f h = ap (λ l. has l f) first-words ∙ has-packed n w f ∙ rw (le-ltb f n h) refl

-- For the workspace of an accepted task: the first W words that the finder leaves, as document 01 calls them, written as a weight file into any bytes
-- that are long enough.
module _ (file : List ℕ) (T : Task) (next : ℕ) (judged : judged_task file ≡ got T next) (room workspace : List ℕ) (k : ℕ)
    (opens : Opens file room (record { answer = done k; lent = workspace }))
    (lent lent' : List ℕ) (finds : Finds workspace lent (record { answer = done separated; lent = lent' })) (bytes : List ℕ) where
  abbrev found : List ℕ
  found = members_in (take (words_for (features T.sizes)) lent')

  -- They are written, and the checker accepts the file that was written against the task.
  pub found-written : length (weight_bytes found) ≤ length bytes
      → (n : ℕ) × (left : List ℕ) × Writes found bytes (record { answer = done n; lent = left }) × Checks file (take n left) (done accepted)
  found-written enough =
      let (w, best, q) = least-given file T next judged room workspace k opens lent lent' finds in
      let features-few = (Files.accepted file T next judged).acceptable.limits.total in
      let whole = weights-delivered found bytes (in-range-fine _ (λ f l. first_past (features T.sizes) w lent' _ q f (omega arith))) ∙ delivered-whole (weight_bytes found) bytes enough in
      let same = first-members (features T.sizes) w lent' _ q in (
        length (weight_bytes found),
        weight_bytes found ++ drop (length (weight_bytes found)) bytes,
        sym whole,
        rw (take_at (weight_bytes found) (drop (length (weight_bytes found)) bytes) (length (weight_bytes found)) refl)
            (subst (λ l. Checks file (weight_bytes l) (done accepted)) same (found-accepted file T next judged room workspace k opens lent lent' finds)),
      )
