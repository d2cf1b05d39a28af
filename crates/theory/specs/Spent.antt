-- What is known of a value that was read and of the bytes that were spent on it, part after part; and the end of a file.
use Rattle.std.specs.Prelude.{ℕ, ◌+◌, ◌<◌, ◌≤◌, ◌≡◌, refl, Bool, true, cond, List, [], ◌++◌, length, get_or, drop, leb}
use Rattle.std.proofs.Common.{sym, ap, ◌∙◌, subst, append_assoc, append-nil, arith, zero-add, add-zero, length-append, drop_of_length-le, leb-true}
use Rattle.meaning.specs.Number.{Reason, LeftOver, got, fault, on_read}
use Rattle.meaning.specs.File.{Parser, give, then, ended}
use Rattle.theory.specs.Reading.{got-value, got-next, on-got, test-passed, judged-passed}

-- Bytes: each is below 256.
abbrev pub Bytes : List ℕ → Type 0
Bytes bytes = (i : ℕ) → get_or bytes i 0 < 256

-- The bytes from one place to another, and what is known of them.
pub record Spent (bytes : List ℕ) (place next : ℕ) (P : List ℕ → Type 0) : Type 0 where
  pub spent : List ℕ
  pub moved : next ≡ place + length spent
  pub there : drop place bytes ≡ spent ++ drop next bytes
  pub known : P spent

pub spent-same : {A : Type 0} {bytes : List ℕ} {place next other : ℕ} {a b : A} (P : A → List ℕ → Type 0)
    → got a next ≡ got b other → Spent bytes place next (P a) → Spent bytes place other (P b)
spent-same P e s = rw (← got-value e, ← got-next e) s

pub spent-known : {bytes : List ℕ} {place next other : ℕ} (P Q : List ℕ → Type 0) (s : Spent bytes place next P) → Q s.spent → next ≡ other → Spent bytes place other Q
spent-known P Q s h e = rw (← e) (record { spent = s.spent; moved = s.moved; there = s.there; known = h })

-- What is known of each value that is read anywhere in some bytes, together with the bytes that it was read from.
pub record Gives {A : Type 0} (bytes : List ℕ) (parser : Parser A) (P : A → List ℕ → Type 0) : Type 0 where
  pub gives : (place : ℕ) (a : A) (next : ℕ) → parser bytes place ≡ got a next → Spent bytes place next (P a)

pub gives-known : {A : Type 0} {bytes : List ℕ} {parser : Parser A} {P : A → List ℕ → Type 0} (Q : A → List ℕ → Type 0)
    → Gives bytes parser P → ((a : A) (l : List ℕ) → P a l → Q a l) → Gives bytes parser Q
gives-known {P = P} Q h k = record {
  gives = λ place a next e. let s = h.gives place a next e in spent-known (P a) (Q a) s (k a s.spent s.known) refl;
}

pub gives_then : {A B : Type 0} {bytes : List ℕ} {first : Parser A} (rest : A → Parser B) {P : A → List ℕ → Type 0} (Q : B → List ℕ → Type 0)
    → Gives bytes first P → ((a : A) (l : List ℕ) → P a l → Gives bytes (rest a) (λ b m. Q b (l ++ m))) → Gives bytes (then first rest) Q
gives_then {A} {B} {bytes} {first} rest {P} Q h k = record { gives = λ place b next e. join place b next (on-got (first bytes place) (λ a middle. rest a bytes middle) b next e) }
  where
    join : (place : ℕ) (b : B) (next : ℕ) → (a : A) × (middle : ℕ) × (first bytes place ≡ got a middle) × (rest a bytes middle ≡ got b next) → Spent bytes place next (Q b)
    join place b next (a, middle, p, q) =
        let s : Spent bytes place middle (P a) = h.gives place a middle p in
        let t : Spent bytes middle next (λ m. Q b (s.spent ++ m)) = (k a s.spent s.known).gives middle b next q in
        record {
          spent = s.spent ++ t.spent;
          moved = omega (arith, s.moved, t.moved, length-append s.spent t.spent);
          there = s.there ∙ ap (◌++◌ s.spent) t.there ∙ sym (append_assoc s.spent t.spent (drop next bytes));
          known = t.known;
        }

-- After the first read there are only tests, which know where it began, and the place stays.
pub gives-still : {A B : Type 0} {bytes : List ℕ} {first : Parser A} (step : ℕ → A → Parser B) {P : A → List ℕ → Type 0} (Q : B → List ℕ → Type 0) → Gives bytes first P
    → ((a : A) (l : List ℕ) (place middle : ℕ) (b : B) (next : ℕ) → P a l → step place a bytes middle ≡ got b next → Q b l × (middle ≡ next))
    → Gives bytes (λ s place. on_read (first s place) (λ a middle. step place a s middle)) Q
gives-still {bytes = bytes} {first = first} step {P} Q h k = record {
  gives = λ place b next e.
      let (a, middle, p, q) = on-got (first bytes place) _ b next e in
      let s : Spent bytes place middle (P a) = h.gives place a middle p in
      let (known, still) = k a s.spent place middle b next s.known q in
      spent-known (λ l. P a l) (Q b) s known still;
}

-- Nothing more is read.
pub gives-map : {A B : Type 0} {bytes : List ℕ} {first : Parser A} (f : A → B) {P : A → List ℕ → Type 0} (Q : B → List ℕ → Type 0)
    → Gives bytes first P → ((a : A) (l : List ℕ) → P a l → Q (f a) l) → Gives bytes (then first (λ c. give (f c))) Q
gives-map f Q h k = gives-still (λ place a. give (f a)) Q h (λ a l place middle b next x e. (subst (λ c. Q c l) (got-value e) (k a l x), got-next e))

pub gives-give : {A : Type 0} {bytes : List ℕ} {a : A} (P : A → List ℕ → Type 0) → P a [] → Gives bytes (give a) P
gives-give P h = record { gives = λ place b next e. spent-same P e (record { spent = []; moved = sym (add-zero place); there = refl; known = h }) }

-- What was read has to pass a test, with a fault at some place.
pub gives-tested : {A : Type 0} {bytes : List ℕ} {first : Parser A} (test : A → Bool) (reason : Reason) (there : A → List ℕ → ℕ → ℕ) {P : A → List ℕ → Type 0}
    → Gives bytes first P → Gives bytes (λ s place. on_read (first s place) (λ a next. cond (test a) (got a next) (fault reason (there a s place)))) (λ a l. (test a ≡ true) × P a l)
gives-tested {bytes = bytes} test reason there {P} h = gives-still (λ place a s middle. cond (test a) (got a middle) (fault reason (there a s place))) _ h (λ a l place middle b next x e.
    let (passed, z) = test-passed (test a) (got a middle) reason (there a bytes place) b next e in (subst (λ c. (test c ≡ true) × P c l) (got-value z) (passed, x), got-next z))

-- ---- the end of the file

-- A reader that comes to a value at the end of the bytes only.
pub record Ends {A : Type 0} (bytes : List ℕ) (parser : Parser A) : Type 0 where
  pub ends : (place : ℕ) (a : A) (next : ℕ) → parser bytes place ≡ got a next → length bytes ≤ next

pub ends-then : {A B : Type 0} {bytes : List ℕ} (first : Parser A) (rest : A → Parser B) → ((a : A) → Ends bytes (rest a)) → Ends bytes (then first rest)
ends-then {bytes = bytes} first rest h = record {
  ends = λ place b next e. let (a, middle, p, q) = on-got (first bytes place) (λ c m. rest c bytes m) b next e in (h a).ends middle b next q;
}

pub ends-ended : {A : Type 0} {bytes : List ℕ} (a : A) → Ends bytes (then ended (λ _. give a))
unfolding ended
ends-ended {bytes = bytes} a = record {
  ends = λ place b next e.
      let (passed, z) = judged-passed (leb (length bytes) place) LeftOver bytes place a b next e in
      subst (λ k. length bytes ≤ k) (got-next z) (leb-true (length bytes) place passed);
}

pub gives-ended : {A B : Type 0} {bytes : List ℕ} {first : Parser A} (f : A → B) {P : A → List ℕ → Type 0} (Q : B → List ℕ → Type 0)
    → Gives bytes first P → ((a : A) (l : List ℕ) → P a l → Q (f a) l) → Gives bytes (then first (λ c. then ended (λ _. give (f c)))) Q
unfolding ended
gives-ended {bytes = bytes} f Q h k = gives-still (λ place a. then ended (λ _. give (f a))) Q h (λ a l place middle b next x e.
    let (passed, z) = judged-passed (leb (length bytes) middle) LeftOver bytes middle (f a) b next e in (subst (λ c. Q c l) (got-value z) (k a l x), got-next z))

-- Bytes that were read from the first place on to the end are all of the bytes.
pub spent_all : (bytes : List ℕ) (next : ℕ) (P : List ℕ → Type 0) → Spent bytes 0 next P → length bytes ≤ next → (next ≡ length bytes) × P bytes
spent_all bytes next P s h = (s.moved ∙ zero-add (length s.spent) ∙ ap length same, subst P same s.known)
  where
    same : s.spent ≡ bytes
    same = sym (s.there ∙ rw (drop_of_length-le bytes h) (append-nil s.spent))
