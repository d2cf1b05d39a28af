-- A partial file that was read wholly, with its own front in words: what is asked of it to build the header, and that what is judged of that header is what is judged of the file.
use Prim.Native.Nat.{ℕ, ◌+◌, ◌≤◌}
use Rattle.std.specs.Prelude.{◌≡◌, refl, Bool, true, List, ◌∷◌, ◌++◌}
use Rattle.std.proofs.Math.Path.{sym, ap, ap₂}
use Rattle.std.proofs.Common.{◌∙◌, append_assoc}
use mathlib.Core.List.Memᴰ.{append_left}
use Rattle.std.proofs.Math.ListN.{length, length-append}
use Rattle.std.proofs.Math.Dec.{ltb}
use Rattle.meaning.specs.Sets.{listed, all_of}
use Rattle.meaning.specs.Limits.{number_end}
use Rattle.meaning.specs.Task.{Task, State}
use Rattle.meaning.specs.Feature.{features}
use Rattle.meaning.specs.Pair.{closed, holds}
use Rattle.meaning.specs.Number.{got, on_read}
use Rattle.meaning.specs.File.{operators_of}
use Rattle.meaning.specs.Workspace.{has}
use Rattle.meaning.specs.Partial.{Partial, Ordered, built_sizes, built_pairs, forgettings, built_task, partial_of, judged_partial}
use Rattle.theory.specs.Search.{true-together, all-each, all-at}
use Rattle.theory.specs.PartialPairs.{built-length, built-run}
use Rattle.theory.specs.PartialTask.{state-built, built-limits, all_closed}
use Rattle.theory.specs.PartialFile.{operators-built, accepted-partial}
use Rattle.theory.specs.PartialParts.{out_for}
use Rattle.number.specs.Answers.{faulted}
use Rattle.number.specs.declared.Fault.{Fault}
use Rattle.layout.specs.Parts as layout
use Rattle.layout.specs.Parts.{sizes_part, start_part, goal_part, pairs_part}
use Rattle.reader.specs.Answer.{begun}
use Rattle.partial.specs.Front.{ordered-limits}
use Rattle.renumbering.specs.Header.{Own, built_total, states_by, pairs_by, built_words}
use Rattle.pairs.specs.Ready.{Listed}
use Rattle.forgetting.specs.Kept.{kept_in, kept-forgettings}
use Rattle.task.specs.Header.{header_words, HeadedFor, Headed, header-room, header-parts, header-ready, header-has}
use Rattle.task.specs.Walk.{closed_from, closed_all}
use Rattle.order.specs.Answer.{KnownPartial}
use Rattle.order.specs.Last.{last_of, last-kept, last_made}

-- A partial task's own parts as those of a task.
abbrev pub own_task : Partial → Task
own_task P = record { sizes = P.sizes; start = P.start; goal = P.goal; pairs = P.pairs; operators = P.operators }

pub own-headed : (P : Partial) → Ordered P → HeadedFor (built_sizes P.sizes) (own_task P)
own-headed P ok = record { limits = ordered-limits P ok; start = ok.start; even = built-length P.sizes; goal = ok.goal; pairs = ok.pairs }

-- Words with pairs behind sizes, start and goal.
behind-states : (v k : ℕ) (sizes start goal pairs : List ℕ) → v ≡ k → (v ∷ (sizes ++ (start ++ goal))) ++ pairs ≡ k ∷ (sizes ++ (start ++ (goal ++ pairs)))
behind-states v k sizes start goal pairs e = rw e (simp append_assoc)

-- The partial task, by the counts and the place that were answered, and its own front in words.
pub record Whole (bytes own : List ℕ) (v n count at : ℕ) : Type 0 where
  pub partial : Partial
  pub next : ℕ
  pub read : partial_of bytes 0 ≡ got partial next
  pub ordered : Ordered partial
  pub variables : v ≡ length partial.sizes
  pub total : n ≡ features partial.sizes
  pub many : count ≡ length partial.operators
  pub operators : operators_of partial.sizes count bytes at ≡ got partial.operators next
  pub end : length bytes ≤ next
  pub words : List ℕ
  pub words_are : own ≡ begun words (header_words (own_task partial))

module _ {bytes own : List ℕ} {v n count at : ℕ} (whole : Whole bytes own v n count at) where
  abbrev P : Partial
  P = whole.partial

  own-parts : (sizes_part v own ≡ P.sizes) × (start_part v own ≡ P.start) × (goal_part v own ≡ P.goal) × (has (pairs_part v n own) ≡ listed P.pairs)
  own-parts =
      let known = own-headed P whole.ordered in
      let (sizes, start, goal, pairs) = header-parts (own_task P) known whole.words own whole.words_are v n whole.variables whole.total in
      (sizes, start, goal, header-has (own_task P) known whole.words own whole.words_are v n whole.variables whole.total)

  -- What is asked to build the header.
  pub whole-own : Own v n own
  whole-own = record {
    headed = header-room (own_task P) (own-headed P whole.ordered) whole.words own whole.words_are v n whole.variables whole.total;
    total = whole.total ∙ ap features (sym own-parts.0);
    limits = rw own-parts.0 (built-limits P whole.ordered (λ i x. true));
  }

  module _ (lean : Bool) where
    -- The built task.
    abbrev T : Task
    T = built_task P (out_for lean P)

    built-headed : Headed T
    unfolding built_task
    built-headed = record {
      limits = built-limits P whole.ordered (out_for lean P);
      start = state-built P.sizes P.start whole.ordered.start;
      even = refl;
      goal = whole.ordered.goal;
      pairs = built-run P.sizes (listed P.pairs);
    }

    built-many : v ≡ length T.sizes
    unfolding built_task
    built-many = whole.variables ∙ sym (built-length P.sizes)

    built-words : built_words v n own ≡ header_words T
    unfolding built_words states_by pairs_by built_total header_words built_task
    built-words = rw (own-parts.0, own-parts.1, own-parts.2, own-parts.3) (behind-states v (length T.sizes) (built_sizes P.sizes) P.start P.goal _ built-many)

    -- ---- what is judged of it

    kept-many : length (kept_in T.sizes (listed T.pairs) T.goal lean) ≡ length (forgettings P.sizes (out_for lean P))
    unfolding built_task
    kept-many = ap length (kept-forgettings P whole.ordered lean)

    -- The file's operators are read by the built sizes too.
    read-built : operators_of T.sizes count bytes at ≡ got P.operators whole.next
    unfolding built_task
    read-built = (operators-built bytes P.sizes count).follows at P.operators whole.next whole.operators

    count-all : length T.operators ≡ count + length (kept_in T.sizes (listed T.pairs) T.goal lean)
    unfolding built_task
    count-all = length-append P.operators (forgettings P.sizes (out_for lean P)) ∙ ap₂ ◌+◌ (sym whole.many) (sym kept-many)

    -- The list is closed under all operators exactly when it is under the file's.
    shut-all : all_of (closed T.sizes (listed T.pairs)) T.operators ≡ closed_from T.sizes (listed T.pairs) count bytes at
    unfolding built_task
    shut-all = true-together _ _
        (λ e. all-each _ P.operators (λ o m. all-at _ _ e o (append_left _ m)))
        (λ e. all-each _ _ (all_closed P whole.ordered (out_for lean P) e))
        ∙ sym (closed_all (built_sizes P.sizes) (listed (built_pairs P.sizes (listed P.pairs))) bytes count at P.operators whole.next read-built)

    judged-last : judged_partial (out_for lean) bytes ≡ on_read (last_of T.sizes (listed T.pairs) T.start T.goal lean count bytes at) (λ _ _. got T whole.next)
    unfolding judged_partial last_of
    judged-last = rw whole.read (last_made T whole.next _ at _ _ (holds T.sizes (listed T.pairs) T.start) _ _ (ap (λ k. ltb k number_end) count-all) shut-all)

    -- ---- its header in words, which was built

    module _ (words left : List ℕ) (built : left ≡ begun words (built_words v n own)) (total : ℕ) (is : total ≡ built_total v own) where
      built-header : left ≡ begun words (header_words T)
      built-header = built ∙ ap (begun words) built-words

      built-total : total ≡ features T.sizes
      unfolding built_total built_task
      built-total = is ∙ ap (λ sizes. features (built_sizes sizes)) own-parts.0

      pub built-room : layout.Headed v total left
      built-room = header-room T built-headed words left built-header v total built-many built-total

      -- Its sizes, start, goal and pairs, as they are lent.
      module _ (sizes start goal pairs : List ℕ) (sizes-are : sizes ≡ sizes_part v left) (start_is : start ≡ start_part v left) (goal-is : goal ≡ goal_part v left)
          (pairs-are : pairs ≡ pairs_part v total left) where
        pub built-ready : Listed sizes pairs × State sizes start × State sizes goal
        built-ready = rw (sizes-are, start_is, goal-is, pairs-are) (header-ready T built-headed words left built-header v total built-many built-total)

        built-last : last_of sizes (has pairs) start goal lean count bytes at ≡ last_of T.sizes (listed T.pairs) T.start T.goal lean count bytes at
        built-last =
            let (first, second, third, _) = header-parts T built-headed words left built-header v total built-many built-total in
            rw (sizes-are ∙ first, start_is ∙ second, goal-is ∙ third, ap has pairs-are ∙ header-has T built-headed words left built-header v total built-many built-total)

        pub whole-refused : (f : Fault) → faulted f ≡ last_of sizes (has pairs) start goal lean count bytes at → judged_partial (out_for lean) bytes ≡ faulted f
        whole-refused f e = judged-last ∙ rw (sym built-last ∙ sym e)

        pub whole-accepted : (kept : ℕ) → got kept at ≡ last_of sizes (has pairs) start goal lean count bytes at → KnownPartial lean bytes words left v total count kept at
        whole-accepted kept e = record {
          accepted = record {
            task = T;
            next = whole.next;
            judged = judged;
            writable = (accepted-partial bytes (out_for lean) T whole.next judged).writable;
            variables = built-many;
            total = built-total;
            header = built-header;
          };
          partial = P;
          ordered = whole.ordered;
          built = refl;
          many = whole.many;
          forgotten = last-kept _ _ _ _ lean count bytes at kept at (sym built-last ∙ sym e) ∙ kept-many;
          operators = read-built;
          end = whole.end;
        }
          where
            judged : judged_partial (out_for lean) bytes ≡ got T whole.next
            judged = judged-last ∙ rw (sym built-last ∙ sym e)
