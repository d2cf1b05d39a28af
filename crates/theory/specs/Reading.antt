-- The outcome of a read; and bytes that were written for a value and are read as that value, part after part.
use Rattle.std.specs.Prelude.{ℕ, ◌+◌, ◌≡◌, refl, Bool, true, false, cond, List, [], ◌++◌, length}
use Rattle.std.proofs.Common.{sym, ap, subst, ◌∙◌, append_assoc, add-zero, add_assoc, length-append}
use Rattle.meaning.specs.Number.{Reason, Read, got, fault, on_read, number}
use Rattle.meaning.specs.File.{Parser, give, then, item, judge}
use Rattle.meaning.specs.Answer.{by_read}

-- ---- the outcome of a read

IsGot : {A : Type 0} → Read A → Type 0
IsGot (got a next) = Unit {0}
IsGot (fault reason place) = ⊥

-- A fault is no value.
pub not-got : {A : Type 0} {a : A} {next : ℕ} {reason : Reason} {place : ℕ} → fault reason place ≡ got a next → ⊥
unfolding IsGot
not-got e = subst IsGot (sym e) tt

pub got-value : {A : Type 0} {a b : A} {next other : ℕ} → got a next ≡ got b other → a ≡ b
got-value e = cc

pub got-next : {A : Type 0} {a b : A} {next other : ℕ} → got a next ≡ got b other → next ≡ other
got-next e = cc

-- Where reading on came to a value, the first read came to one.
pub on-got : {A B : Type 0} (r : Read A) (rest : A → ℕ → Read B) (b : B) (next : ℕ)
    → on_read r rest ≡ got b next → (a : A) × (middle : ℕ) × (r ≡ got a middle) × (rest a middle ≡ got b next)
on-got (got a middle) rest b next e = (a, middle, refl, e)
on-got (fault reason place) rest b next e = absurd (not-got e)

-- Where a fault is shut out, a value was read.
pub by-got : {A : Type 0} (r : Read A) (Good : A → Type 0) (Bad : Reason → Type 0) → ((reason : Reason) → Bad reason → ⊥) → by_read r Good Bad
    → (a : A) × (next : ℕ) × (r ≡ got a next) × Good a
by-got (got a next) Good Bad shut h = (a, next, refl, h)
by-got (fault reason place) Good Bad shut h = absurd (shut reason h)

-- Reading on after reading on.
pub on-on : {A B C : Type 0} (r : Read A) (first : A → ℕ → Read B) (rest : B → ℕ → Read C)
    → on_read (on_read r first) rest ≡ on_read r (λ a next. on_read (first a next) rest)
on-on (got a next) first rest = refl
on-on (fault reason place) first rest = refl

-- A test that refuses when it fails has passed.
pub test-passed : {A : Type 0} (b : Bool) (r : Read A) (reason : Reason) (place : ℕ) (a : A) (next : ℕ)
    → cond b r (fault reason place) ≡ got a next → (b ≡ true) × (r ≡ got a next)
test-passed true r reason place a next e = (refl, e)
test-passed false r reason place a next e = absurd (not-got e)

-- A test that refuses when it passes has failed.
pub test-failed : {A : Type 0} (b : Bool) (r : Read A) (reason : Reason) (place : ℕ) (a : A) (next : ℕ)
    → cond b (fault reason place) r ≡ got a next → (b ≡ false) × (r ≡ got a next)
test-failed true r reason place a next e = absurd (not-got e)
test-failed false r reason place a next e = (refl, e)

-- A number that passed a test was read.
pub item-read : (test : ℕ → Bool) (reason : Reason) (bytes : List ℕ) (place n next : ℕ) → item test reason bytes place ≡ got n next → number bytes place ≡ got n next
unfolding item
item-read test reason bytes place n next e =
    let (m, other, read, t) = on-got (number bytes place) _ n next e in
    let (passed, z) = test-passed (test m) (got m other) reason place n next t in
    read ∙ z

-- A judgement that was passed.
pub judged-passed : {A : Type 0} (b : Bool) (reason : Reason) (bytes : List ℕ) (place : ℕ) (a c : A) (next : ℕ)
    → then (judge b reason) (λ _. give a) bytes place ≡ got c next → (b ≡ true) × (got a place ≡ got c next)
unfolding judge
judged-passed true reason bytes place a c next e = (refl, e)
judged-passed false reason bytes place a c next e = absurd (not-got e)

-- ---- what was written is read

-- Where `written` stands, whatever is before it and with `after` behind it, a value is read and the place is then behind `written`.
pub record Reads {A : Type 0} (parser : Parser A) (a : A) (written after : List ℕ) : Type 0 where
  pub reads : (before : List ℕ) → parser (before ++ (written ++ after)) (length before) ≡ got a (length before + length written)

pub reads-give : {A : Type 0} {a : A} {after : List ℕ} → Reads (give a) a [] after
reads-give {a = a} = record { reads = λ before. ap (got a) (sym (add-zero (length before))) }

pub reads_then : {A B : Type 0} {first : Parser A} (rest : A → Parser B) {a : A} {b : B} {l m after : List ℕ}
    → Reads first a l (m ++ after) → Reads (rest a) b m after → Reads (then first rest) b (l ++ m) after
reads_then rest {l = l} {m = m} {after = after} h k = record {
  reads = λ before.
      rw (append_assoc l m after, h.reads before, length-append l m, ← add_assoc (length before) (length l) (length m)) (
      rw (← length-append before l, ← append_assoc before l (m ++ after)) (k.reads (before ++ l)));
}

-- Nothing more is read.
pub reads-map : {A B : Type 0} {first : Parser A} (f : A → B) {a : A} {l after : List ℕ}
    → Reads first a l after → Reads (then first (λ c. give (f c))) (f a) l after
reads-map f h = record { reads = λ before. rw (h.reads before) }
