-- An accepted task by its header: the parts that weights are judged by, its operators, and the answer that follows.
use Rattle.std.specs.Prelude.{ℕ, ◌≡◌, refl, Bool, List, length}
use Rattle.std.proofs.Common.{sym, ap, ◌∙◌}
use Rattle.meaning.specs.Sets.{listed}
use Rattle.meaning.specs.Task.{Task, State}
use Rattle.meaning.specs.Feature.{features}
use Rattle.meaning.specs.Number.{Read, Reason, refusal, got, fault}
use Rattle.meaning.specs.File.{Kind, operators_of, judged_weights_as}
use Rattle.meaning.specs.Workspace.{has}
use Rattle.meaning.specs.Answer as meaning
use Rattle.meaning.specs.Answer.{Answer, done, refused, Judges, ChecksAs}
use Rattle.layout.specs.Parts.{sizes_part, start_part, goal_part, pairs_part}
use Rattle.reader.specs.Answer.{feature_words}
use Rattle.reader.specs.declared.Header.{Header}
use Rattle.pairs.specs.Ready.{Listed}
use Rattle.condition.specs.Walk.{RowFor}
use Rattle.task.specs.Answer.{KnownAs, known-parts, known-ready}
use Rattle.order.specs.With.{following, KnownWith}
use Rattle.checking.specs.declared.Verdict.{Verdict}
use Rattle.checking.specs.Answer.{verdict_of, verdict_from, verdict-judges, weights-has, weights-for}

module _ (kind : Kind) (judging : Read Task) (old parts : List ℕ) (v n : ℕ) (known : KnownAs judging old parts v n) (weights : List ℕ) where
  -- Weights that are refused are answered so.
  pub weights-refused : (reason : Reason) (place : ℕ) → judged_weights_as kind n weights ≡ fault reason place → (k : ℕ) → k ≡ refusal reason → ChecksAs kind judging weights (refused k)
  weights-refused reason place e k q = rw (known.judged, ap (λ m. judged_weights_as kind m weights) (sym known.total) ∙ e) (ap refused q)

  -- The weights that were read.
  module _ (ws left : List ℕ) (last : ℕ) (read : judged_weights_as kind n weights ≡ got ws last) (held : left ≡ feature_words n ws) where
    -- A verdict on them is the answer.
    pub read-checks : (answer : Answer meaning.Verdict) → (verdict : meaning.Verdict) × (answer ≡ done verdict) × Judges known.task (listed ws) verdict → ChecksAs kind judging weights answer
    read-checks answer judged = rw (known.judged, ap (λ k. judged_weights_as kind k weights) (sym known.total) ∙ read) judged

    -- The task's parts, as they are lent.
    module _ (sizes start goal pairs : List ℕ) (sizes-are : sizes ≡ sizes_part v parts) (start_is : start ≡ start_part v parts) (goal-is : goal ≡ goal_part v parts)
        (pairs-are : pairs ≡ pairs_part v n parts) where
      pub lent-ready : Listed sizes pairs × State sizes start × State sizes goal × RowFor (features sizes) left
      lent-ready = let ready = known-ready known in rw (sizes-are, start_is, goal-is, pairs-are, held)
          (ready.0, ready.1, ready.2, rw ((known-parts known).0, ← known.total) (weights-for kind n weights ws last read))

      pub lent-parts : (sizes ≡ known.task.sizes) × (start ≡ known.task.start) × (goal ≡ known.task.goal) × (has pairs ≡ listed known.task.pairs) × (has left ≡ listed ws)
      lent-parts = let same = known-parts known in
          (sizes-are ∙ same.0, start_is ∙ same.1, goal-is ∙ same.2, ap has pairs-are ∙ same.3, ap has held ∙ weights-has kind n weights ws last read)

module _ (judging : Read Task) (bytes old parts : List ℕ) (h : Header) (forgets : Bool) (known : KnownWith judging bytes old parts h forgets) where
  -- What the code comes to is the checker's answer.
  module _ (kind : Kind) (weights : List ℕ) (ws left : List ℕ) (last : ℕ) (read : judged_weights_as kind h.features weights ≡ got ws last) (held : left ≡ feature_words h.features ws)
      (sizes start goal pairs : List ℕ) (sizes-are : sizes ≡ sizes_part h.variables parts) (start_is : start ≡ start_part h.variables parts)
      (goal-is : goal ≡ goal_part h.variables parts) (pairs-are : pairs ≡ pairs_part h.variables h.features parts) where
    pub lent-checks : (r : Verdict) → r ≡ verdict_from sizes start goal (has pairs) (has left) h.operators bytes h.next (following sizes (has pairs) goal forgets)
        → ChecksAs kind judging weights (verdict_of r)
    lent-checks r e =
        let T = known.accepted.task in
        let os = known.operators in
        let follow = following T.sizes (listed T.pairs) T.goal forgets in
        let (sizes-same, start-same, goal-same, pairs-same, weights-same)
        = lent-parts kind judging old parts h.variables h.features known.accepted weights ws left last read held sizes start goal pairs sizes-are start_is goal-is pairs-are in
        let same : r ≡ verdict_from T.sizes T.start T.goal (listed T.pairs) (listed ws) (length os) bytes h.next follow
        = e ∙ rw (sizes-same, start-same, goal-same, pairs-same, weights-same, known.many) refl in
        let operators : operators_of T.sizes (length os) bytes h.next ≡ got os known.next
        = ap (λ k. operators_of T.sizes k bytes h.next) (sym known.many) ∙ known.read in
        let (verdict, told, judges) = verdict-judges T (listed ws) known.accepted.writable.acceptable os follow known.all bytes h.next known.next operators in
        read-checks kind judging old parts h.variables h.features known.accepted weights ws left last read held (verdict_of r) (verdict, ap verdict_of same ∙ told, judges)
