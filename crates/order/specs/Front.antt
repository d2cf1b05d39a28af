-- What is known once the front of a partial file was read, with its operators behind it.
use Rattle.std.specs.Prelude.{ℕ, ◌<◌, ◌≤◌, ◌≡◌, Bool, Result, Ok, Err}
use Rattle.std.proofs.Math.Path.{sym, ap}
use Rattle.std.proofs.Common.{ap₂, ◌∙◌}
use mathlib.Core.List.Memᴰ.{not-nil}
use mathlib.Core.List.{List, []}
use Rattle.std.proofs.Math.ListN.{length}
use borrow.Author.Tests.{le-leb, lt-leb}
use Rattle.meaning.specs.Limits.{most_variables}
use Rattle.meaning.specs.Task.{Operator}
use Rattle.meaning.specs.Number.{got, fault, LeftOver}
use Rattle.meaning.specs.File.{judge, operators_of, ended}
use Rattle.meaning.specs.Partial.{Partial, Ordered, partial_of, judged_partial}
use Rattle.theory.specs.Parts.{operators-said}
use Rattle.theory.specs.PartialFile.{partial-said}
use Rattle.number.specs.Answers.{faulted, place_of, place-next, place-faulted}
use Rattle.number.specs.declared.Fault.{Fault}
use Rattle.layout.specs.Parts as layout
use Rattle.layout.specs.Parts.{sizes_part}
use Rattle.reader.specs.Answer.{begun}
use Rattle.reader.specs.Front.{Front, task_with}
use Rattle.partial.specs.Front.{partial_front_of, partial_with, partial-front, front_ordered}
use Rattle.task.specs.Header.{header_words, front-header, header-room, header-parts}
use Rattle.task.specs.Answer.{FrontedAs}
use Rattle.order.specs.Whole.{Whole, own-headed}

pub front-unread : (out : Partial → ℕ → ℕ → Bool) (bytes : List ℕ) (f : Fault) → partial_front_of bytes 0 ≡ faulted f → judged_partial out bytes ≡ faulted f
unfolding judged_partial
front-unread out bytes f e = rw (partial-front bytes 0, e)

module _ (bytes : List ℕ) {words own : List ℕ} {v n count at : ℕ} (known : FrontedAs (partial_front_of bytes 0) words own v n count at) where
  abbrev front : Front
  front = known.front

  -- It is in order, so far.
  front-said : Ordered (partial_with front [])
  front-said = front_ordered bytes 0 front at [] known.read (λ o m. absurd (not-nil m))

  own-words : (operators : List Operator) → own ≡ begun words (header_words (task_with front operators))
  own-words operators = known.words_are ∙ ap (begun words) (front-header front operators)

  pub front-room : layout.Headed v n own
  front-room = header-room (task_with front []) (own-headed (partial_with front []) front-said) words own (own-words []) v n known.variables known.total

  -- Its sizes, as they are lent.
  module _ (sizes : List ℕ) (are : sizes ≡ sizes_part v own) where
    own-sizes : sizes ≡ front.states.sizes
    own-sizes = are ∙ (header-parts (task_with front []) (own-headed (partial_with front []) front-said) words own (own-words []) v n known.variables known.total).0

    pub front-few : length sizes ≤ most_variables
    front-few = rw own-sizes front-said.variables.1

    -- The operators behind it, as they are told.
    abbrev behind : Result ℕ Fault
    behind = place_of (operators_of sizes count bytes at)

    behind-own : behind ≡ place_of (operators_of front.states.sizes front.count bytes at)
    behind-own = ap₂ (λ s k. place_of (operators_of s k bytes at)) own-sizes known.many

    pub operators-unread : (f : Fault) → Err f ≡ behind → (out : Partial → ℕ → ℕ → Bool) → judged_partial out bytes ≡ faulted f
    unfolding judged_partial
    operators-unread f told out =
        let found : operators_of front.states.sizes front.count bytes at ≡ faulted f = place-faulted _ f (sym (told ∙ behind-own)) in
        rw (partial-front bytes 0, known.read, found)

    module _ (next : ℕ) (told : Ok next ≡ behind) where
      read : (operators : List Operator) × (operators_of front.states.sizes front.count bytes at ≡ got operators next)
      read = place-next (operators_of front.states.sizes front.count bytes at) next (sym (told ∙ behind-own))

      pub operators-over : next < length bytes → (out : Partial → ℕ → ℕ → Bool) → judged_partial out bytes ≡ fault LeftOver next
      unfolding judged_partial ended judge
      operators-over h out = rw (partial-front bytes 0, known.read, read.1, lt-leb (length bytes) next h)

      pub operators-whole : length bytes ≤ next → Whole bytes own v n count at
      unfolding ended judge
      operators-whole h = made read.0 read.1
        where
          made : (operators : List Operator) → operators_of front.states.sizes front.count bytes at ≡ got operators next → Whole bytes own v n count at
          made operators r =
              let all : partial_of bytes 0 ≡ got (partial_with front operators) next = partial-front bytes 0 ∙ rw (known.read, r, le-leb (length bytes) next h) in
              let long : length operators ≡ front.count = ((operators-said bytes front.states.sizes front.count).gives at operators next r).known.0 in
              record {
                partial = partial_with front operators;
                next = next;
                read = all;
                ordered = ((partial-said bytes).gives 0 (partial_with front operators) next all).known.0;
                variables = known.variables;
                total = known.total;
                many = known.many ∙ sym long;
                operators = ap (λ k. operators_of front.states.sizes k bytes at) known.many ∙ r;
                end = h;
                words = words;
                words_are = own-words operators;
              }
