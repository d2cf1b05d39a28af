-- What the answers of the code say in the words of the meaning, and the way back from a read to an answer.
use Rattle.std.specs.Prelude.{ℕ, ◌≡◌, refl, Result, Ok, Err}
use Rattle.std.proofs.Common.{sym, ap, ap₂, ◌∙◌, arith}
use Rattle.meaning.specs.Number as meaning
use Rattle.number.specs.declared.Reason.{Reason}
use Rattle.number.specs.declared.Reason.TheVariants as code
use Rattle.number.specs.declared.Number.{Number}
use Rattle.number.specs.declared.Fault.{Fault}

-- A reason of the code, as the meaning's; and back.
abbrev pub reason_of : Reason → meaning.Reason
reason_of code.Ends = meaning.Ends
reason_of code.Padded = meaning.Padded
reason_of code.Endless = meaning.Endless
reason_of code.Limit = meaning.Limit
reason_of code.Range = meaning.Range
reason_of code.Unordered = meaning.Unordered
reason_of code.LeftOver = meaning.LeftOver
reason_of code.Outgrown = meaning.Outgrown
reason_of code.Held = meaning.Held
reason_of code.Unclosed = meaning.Unclosed
reason_of code.Small = meaning.Small
reason_of code.Malformed = meaning.Malformed
reason_of code.Gaps = meaning.Gaps
reason_of code.Unequal = meaning.Unequal

abbrev pub declared_of : meaning.Reason → Reason
declared_of meaning.Ends = code.Ends
declared_of meaning.Padded = code.Padded
declared_of meaning.Endless = code.Endless
declared_of meaning.Limit = code.Limit
declared_of meaning.Range = code.Range
declared_of meaning.Unordered = code.Unordered
declared_of meaning.LeftOver = code.LeftOver
declared_of meaning.Outgrown = code.Outgrown
declared_of meaning.Held = code.Held
declared_of meaning.Unclosed = code.Unclosed
declared_of meaning.Small = code.Small
declared_of meaning.Malformed = code.Malformed
declared_of meaning.Gaps = code.Gaps
declared_of meaning.Unequal = code.Unequal

-- The two are inverse.
pub declared-reason : (reason : Reason) → declared_of (reason_of reason) ≡ reason
declared-reason code.Ends = refl
declared-reason code.Padded = refl
declared-reason code.Endless = refl
declared-reason code.Limit = refl
declared-reason code.Range = refl
declared-reason code.Unordered = refl
declared-reason code.LeftOver = refl
declared-reason code.Outgrown = refl
declared-reason code.Held = refl
declared-reason code.Unclosed = refl
declared-reason code.Small = refl
declared-reason code.Malformed = refl
declared-reason code.Gaps = refl
declared-reason code.Unequal = refl

pub reason-declared : (reason : meaning.Reason) → reason_of (declared_of reason) ≡ reason
reason-declared meaning.Ends = refl
reason-declared meaning.Padded = refl
reason-declared meaning.Endless = refl
reason-declared meaning.Limit = refl
reason-declared meaning.Range = refl
reason-declared meaning.Unordered = refl
reason-declared meaning.LeftOver = refl
reason-declared meaning.Outgrown = refl
reason-declared meaning.Held = refl
reason-declared meaning.Unclosed = refl
reason-declared meaning.Small = refl
reason-declared meaning.Malformed = refl
reason-declared meaning.Gaps = refl
reason-declared meaning.Unequal = refl

-- A fault of the code, as the meaning tells it; and back.
abbrev pub faulted : {A : Type 0} → Fault → meaning.Read A
faulted f = meaning.fault (reason_of f.0) f.1

abbrev pub fault_of : meaning.Reason → ℕ → Fault
fault_of reason place = record { 0 = declared_of reason; 1 = place }

-- What an answer says was read.
abbrev pub number_of : Result Number Fault → meaning.Read ℕ
number_of (Ok n) = meaning.got n.value n.next
number_of (Err f) = faulted f

-- The answer that a reader gives for what was read: it leaves out the value.
abbrev pub place_of : {A : Type 0} → meaning.Read A → Result ℕ Fault
place_of (meaning.got a next) = Ok next
place_of (meaning.fault reason place) = Err (fault_of reason place)

-- ---- what an answer tells

pub place-fault : {A : Type 0} (read : meaning.Read A) (f : Fault) → read ≡ faulted f → place_of read ≡ Err f
place-fault read f e = rw e (ap (λ r. Err (record { 0 = r; 1 = f.1 })) (declared-reason f.0))

-- Where a reader went on, it has read something.
pub place-next : {A : Type 0} (read : meaning.Read A) (next : ℕ) → place_of read ≡ Ok next → (a : A) × (read ≡ meaning.got a next)
place-next (meaning.got a after) next e = (a, cc)
place-next (meaning.fault reason place) next e = absurd (let z : ◌≡◌ {A = ℕ} 0 1 = cc in omega arith)

-- Where a reader found a fault, that fault was read.
pub place-faulted : {A : Type 0} (read : meaning.Read A) (f : Fault) → place_of read ≡ Err f → read ≡ faulted f
place-faulted (meaning.got a after) f e = absurd (let z : ◌≡◌ {A = ℕ} 0 1 = cc in omega arith)
place-faulted (meaning.fault other there) f e =
    let p : declared_of other ≡ f.0 = cc in
    let q : there ≡ f.1 = cc in
    ap₂ meaning.fault (sym (reason-declared other) ∙ ap reason_of p) q
