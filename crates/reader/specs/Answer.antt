-- What a reader's answer and the words that it leaves say of what was read; and how that follows from one read after another.
use Rattle.std.specs.Prelude.{ℕ, ◌+◌, ◌≡◌, refl, Result, Ok, Err, List, ◌∷◌, ◌++◌, length, take, drop}
use Rattle.std.proofs.Common.{sym, ap, ◌∙◌}
use Rattle.meaning.specs.Number as meaning
use Rattle.meaning.specs.Number.{Read, got, fault, on_read}
use Rattle.meaning.specs.File.{Parser, give, then}
use Rattle.meaning.specs.Sets.{listed}
use Rattle.meaning.specs.Workspace.{packed}
use Rattle.theory.specs.Reading.{not-got, got-value, got-next}
use Rattle.number.specs.Answers.{declared-reason, fault_of, faulted, place_of, place-next, place-faulted}
use Rattle.number.specs.declared.Fault.{Fault}

-- Words with values written over them from a place on.
abbrev pub written : List ℕ → ℕ → List ℕ → List ℕ
written words at values = take at words ++ (values ++ drop (at + length values) words)

-- Words with values written over their beginning.
abbrev pub begun : List ℕ → List ℕ → List ℕ
begun words values = values ++ drop (length values) words

-- Sizes with their count in front.
abbrev pub sized_words : List ℕ → List ℕ
sized_words sizes = length sizes ∷ sizes

-- The words of a list of features below `high`.
abbrev pub feature_words : ℕ → List ℕ → List ℕ
feature_words high features = packed high (listed features)

-- Where a value was read, the answer is the place after it, and the words left are those that hold the value. Otherwise the answer is the
-- fault, and nothing is said of the words.
unfoldable pub ReadsInto : {A : Type 0} → Read A → (A → List ℕ) → Result ℕ Fault → List ℕ → Type 0
ReadsInto (got a next) words answer left = (answer ≡ Ok next) × (left ≡ words a)
ReadsInto (fault reason place) words answer left = answer ≡ Err (fault_of reason place)

-- ---- what an answer tells

pub reads-place : {A : Type 0} (read : Read A) (words : A → List ℕ) (answer : Result ℕ Fault) (left : List ℕ) → ReadsInto read words answer left → answer ≡ place_of read
unfolding ReadsInto
reads-place (got a next) words answer left h = h.0
reads-place (fault reason place) words answer left h = h

pub reads-next : {A : Type 0} (read : Read A) (words : A → List ℕ) (answer : Result ℕ Fault) (next : ℕ) (left : List ℕ)
    → ReadsInto read words answer left → answer ≡ Ok next → (a : A) × (read ≡ got a next) × (left ≡ words a)
unfolding ReadsInto
reads-next (got a after) words answer next left h e = let q : ◌≡◌ {A = Result ℕ Fault} (Ok after) (Ok next) = sym h.0 ∙ e in (a, cc, h.1)
reads-next {A} (fault reason place) words answer next left h e = absurd (not-got (place-next {A = A} (fault reason place) next (sym h ∙ e)).1)

pub reads-fault : {A : Type 0} (read : Read A) (words : A → List ℕ) (answer : Result ℕ Fault) (f : Fault) (left : List ℕ)
    → ReadsInto read words answer left → answer ≡ Err f → read ≡ faulted f
reads-fault read words answer f left h e = place-faulted read f (sym (reads-place read words answer left h) ∙ e)

-- ---- what makes an answer

module _ {A : Type 0} (read : Read A) (words : A → List ℕ) where
  pub answer-next : (a : A) (next : ℕ) (left : List ℕ) → read ≡ got a next → left ≡ words a → ReadsInto read words (Ok next) left
  unfolding ReadsInto
  answer-next a next left e h = rw e (refl, h)

  pub answer-fault : (f : Fault) (left : List ℕ) → read ≡ faulted f → ReadsInto read words (Err f) left
  unfolding ReadsInto
  answer-fault f left e = rw e (ap (λ r. Err (record { 0 = r; 1 = f.1 })) (sym (declared-reason f.0)))

-- Where the first part is not read, nothing is.
pub unread : {A B : Type 0} (read : Read A) (rest : A → ℕ → Read B) (reason : meaning.Reason) (place : ℕ) → read ≡ fault reason place → on_read read rest ≡ fault reason place
unread read rest reason place e = rw e

pub reads-unread : {A B : Type 0} (read : Read A) (words : A → List ℕ) (rest : A → ℕ → Read B) (others : B → List ℕ) (answer : Result ℕ Fault) (f : Fault) (left : List ℕ)
    → ReadsInto read words answer left → answer ≡ Err f → ReadsInto (on_read read rest) others (Err f) left
reads-unread read words rest others answer f left h e = answer-fault (on_read read rest) others f left (unread read rest _ _ (reads-fault read words answer f left h e))

-- The words are part of others, or are told in another way.
pub reads-put : {A : Type 0} (read : Read A) (words others : A → List ℕ) (put : List ℕ → List ℕ) (answer : Result ℕ Fault) (left : List ℕ)
    → ((a : A) (next : ℕ) → read ≡ got a next → put (words a) ≡ others a) → ReadsInto read words answer left → ReadsInto read others answer (put left)
unfolding ReadsInto
reads-put (got a next) words others put answer left same h = (h.0, ap put h.1 ∙ same a next refl)
reads-put (fault reason place) words others put answer left same h = h

pub reads_same : {A : Type 0} (read : Read A) (words others : A → List ℕ) (answer : Result ℕ Fault) (left : List ℕ)
    → ((a : A) (next : ℕ) → read ≡ got a next → words a ≡ others a) → ReadsInto read words answer left → ReadsInto read others answer left
reads_same read words others answer left = reads-put read words others (λ l. l) answer left

-- More is made of what was read.
pub reads-map : {A B : Type 0} (read : Read A) (words : A → List ℕ) (f : A → B) (others : B → List ℕ) (answer : Result ℕ Fault) (left : List ℕ)
    → ((a : A) (next : ℕ) → read ≡ got a next → words a ≡ others (f a)) → ReadsInto read words answer left
    → ReadsInto (on_read read (λ a next. got (f a) next)) others answer left
unfolding ReadsInto
reads-map (got a next) words f others answer left same h = (h.0, h.1 ∙ same a next refl)
reads-map (fault reason place) words f others answer left same h = h

-- ---- lists that are read one number after another

-- The words that hold what was read.
abbrev pub placed : {A : Type 0} → Read A → (A → List ℕ) → Read (List ℕ)
placed read words = on_read read (λ a next. got (words a) next)

pub placed-next : {A : Type 0} (read : Read A) (words : A → List ℕ) (left : List ℕ) (next : ℕ) → placed read words ≡ got left next
    → ReadsInto read words (Ok next) left
unfolding ReadsInto
placed-next (got a after) words left next e = (ap Ok (sym (got-next e)), sym (got-value e))
placed-next (fault reason place) words left next e = absurd (not-got e)

pub placed-fault : {A : Type 0} (read : Read A) (words : A → List ℕ) (f : Fault) (left : List ℕ)
    → placed read words ≡ faulted f → ReadsInto read words (Err f) left
placed-fault (got a after) words f left e = absurd (not-got (sym e))
placed-fault (fault other there) words f left e = answer-fault (fault other there) words f left cc

-- A number and then the rest of the list.
abbrev pub list_of : Parser ℕ → (ℕ → Parser (List ℕ)) → Parser (List ℕ)
list_of first rest = then first (λ x. then (rest x) (λ xs. give (x ∷ xs)))

module _ (first : Parser ℕ) (rest : ℕ → Parser (List ℕ)) (bytes : List ℕ) (place : ℕ) (words : List ℕ → List ℕ) where
  pub first_read : (x next : ℕ) → first bytes place ≡ got x next → placed (list_of first rest bytes place) words ≡ placed (rest x bytes next) (λ xs. words (x ∷ xs))
  first_read x next e = rw e (others (rest x bytes next))
    where
      others : (read : Read (List ℕ)) → placed (on_read read (λ xs after. got (x ∷ xs) after)) words ≡ placed read (λ xs. words (x ∷ xs))
      others (got xs after) = refl
      others (fault reason there) = refl

  pub first-fault : (reason : meaning.Reason) (there : ℕ) → first bytes place ≡ fault reason there
      → placed (list_of first rest bytes place) words ≡ fault reason there
  first-fault reason there e = rw e
