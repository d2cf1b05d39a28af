-- What an edit of a well formed workspace leaves: the same words where it is refused, the words of the changed content where it is done.
use Rattle.std.specs.Prelude.{ℕ, ◌+◌, ◌-◌, ◌≤◌, ◌≡◌, refl, List, ◌++◌, Option, Some, None, Err, length, take, drop}
use Rattle.std.proofs.Common.{ap, ap₂, sym, ◌∙◌, subst, inl, inr, arith, drop-drop}
use Rattle.std.proofs.Math.Logic.Iff
use Rattle.meaning.specs.Sets.{Set, Slots}
use Rattle.meaning.specs.Feature.{features}
use Rattle.meaning.specs.Slot.{SlotsOf, Stored}
use Rattle.meaning.specs.Weight.{Allows}
use Rattle.meaning.specs.Number.{Reason, refusal}
use Rattle.meaning.specs.Workspace.{has, sizes_at, start_at, goal_at, pairs_at, Content, words_of, Proper, WellFormed}
use Rattle.meaning.specs.Answer.{OperatorRecord, operator_in, Edit, add_operator, fine, faulty, edit_judged, Changes, EditsIn, Edits, done, refused}
use Rattle.theory.specs.SlotsOf.{slots-of-stored}
use Rattle.theory.specs.Rows.{rows_of, allows-rows}
use Rattle.theory.specs.InsertAll.{insert_all, insert_all-reduced, insert_all-stored}
use Rattle.theory.specs.Operands.{add-fine}
use Rattle.theory.specs.Contents.{formed-content, with_start, with_goal, with_slots, start-changed, goal-changed, edit-proper, edit-further}
use Rattle.pairs.specs.Ready.{Listed}
use Rattle.layout.specs.declared.Places.{Places}
use Rattle.layout.specs.Places.{places_of}
use Rattle.layout.specs.Parts.{sizes_part, pairs_part, lent, length_part}
use Rattle.condition.specs.Slotted.{with_rows}
use Rattle.condition.specs.Holds.{Holds, held_rows}
use Rattle.std.specs.Option.{ok_or}
use Rattle.number.specs.Answers.{reason_of}
use Rattle.number.specs.declared.Reason as declared
use Rattle.number.specs.declared.Reason.TheVariants as code
use Rattle.formed.specs.declared.Shape.{Shape}
use Rattle.formed.specs.Parts.{content_parts, cut-listed}
use Rattle.formed.specs.Formed.{FormedIs, no-formed, yes-formed, yes-content, yes-sized, yes-due, yes-cut}
use Rattle.editing.specs.declared.End.{End}
use Rattle.editing.specs.declared.End.TheVariants.{Start, Goal}
use Rattle.editing.specs.Answers.{replaced, end_at, place_of}
use Rattle.editing.specs.Operand.{end_judged, operator_judged, values-long}

-- Values written over a part that was lent.
part-written : (ws values new : List ℕ) (at v : ℕ) → new ≡ values
    → take at ws ++ (new ++ drop (at + v - at) (drop at ws)) ≡ take at ws ++ (values ++ drop (at + v) ws)
part-written ws values new at v e = let q : at + v - at ≡ v = omega arith in rw (e, q, drop-drop v at ws)

-- An end's place by the places of a workspace.
pub place_is : (end : End) (v n : ℕ) (at : Places) → at ≡ places_of v n → place_of end at ≡ end_at end v
place_is Start v n at is = ap (λ p. p.start) is
place_is Goal v n at is = ap (λ p. p.goal) is

-- Words that are not well formed.
pub edit-malformed : (ws : List ℕ) (edit : Edit) (found : Option Shape) (reason : declared.Reason) → FormedIs ws found → Err reason ≡ ok_or found code.Malformed
    → Edits ws edit (record { answer = refused (refusal (reason_of reason)); lent = ws })
edit-malformed ws edit None reason is-not e = let q : reason ≡ code.Malformed = cc in inl (no-formed ws is-not, rw q refl)
edit-malformed ws edit (Some shape) reason is e = absurd (let z : ◌≡◌ {A = ℕ} 0 1 = cc in omega arith)

module _ (ws : List ℕ) (v n : ℕ) (yes : FormedIs ws (Some (record { variables = v; features = n }))) where
  pub whole : (yes-formed ws v n yes).content ≡ content_parts v n ws
  whole = sym (formed-content ws (yes-formed ws v n yes)) ∙ sym (yes-content ws v n yes)

  -- The workspace is well formed with the content that its parts make.
  abbrev pub formed-parts : WellFormed ws
  formed-parts = record {
    content = content_parts v n ws;
    further = (yes-formed ws v n yes).further;
    words = (yes-formed ws v n yes).words ∙ ap (λ c. words_of c ++ (yes-formed ws v n yes).further) whole;
    proper = subst Proper whole (yes-formed ws v n yes).proper;
  }

  pub edit-refused : (edit : Edit) (reason : Reason) → edit_judged (content_parts v n ws) edit ≡ faulty reason
      → Edits ws edit (record { answer = refused (refusal reason); lent = ws })
  edit-refused edit reason e = inr (
    formed-parts,
    subst (λ j. EditsIn j ws (content_parts v n ws) edit (record { answer = refused (refusal reason); lent = ws })) (sym e) refl,
  )

  edit-done : (edit : Edit) (c' : Content) (exit : List ℕ) → edit_judged (content_parts v n ws) edit ≡ fine → Changes (content_parts v n ws) edit c'
      → exit ≡ words_of c' ++ formed-parts.further → Edits ws edit (record { answer = done tt; lent = exit })
  edit-done edit c' exit e h q = inr (
    formed-parts,
    subst (λ j. EditsIn j ws (content_parts v n ws) edit (record { answer = done tt; lent = exit })) (sym e)
        (c', h, ap (λ l. record { answer = done tt; lent = l }) (q ∙ ap (λ l. words_of c' ++ l) further)),
  )
    where
      further : formed-parts.further ≡ drop (length (words_of c')) ws
      further = sym (ap (drop (length (words_of c'))) formed-parts.words
          ∙ edit-further (content_parts v n ws) c' edit formed-parts.further formed-parts.proper (edit-proper (content_parts v n ws) c' edit formed-parts.proper e h) h)

  count : length (sizes_part v ws) ≡ v
  count = length_part sizes_at v ws (yes-sized ws v n yes).room

  pub parts-listed : Listed (sizes_part v ws) (pairs_part v n ws)
  parts-listed = cut-listed (yes-cut ws v n yes)

  -- What is judged by the sizes and the listed pairs that are lent is what the edit is judged to be.
  module _ (sizes pairs : List ℕ) (sized : sizes ≡ sizes_part v ws) (paired : pairs ≡ pairs_part v n ws) where
    pub end-judged : (end : End) (values : List ℕ) → end_judged end sizes (has pairs) values ≡ edit_judged (content_parts v n ws) (replaced end values)
    end-judged Start values = rw (sized, paired)
    end-judged Goal values = rw sized

    pub operator-judged : (r : OperatorRecord) → operator_judged sizes (has pairs) r ≡ edit_judged (content_parts v n ws) (add_operator r)
    operator-judged r = rw (sized, paired)

  abbrev with_end : End → List ℕ → Content
  with_end Start values = with_start (content_parts v n ws) values
  with_end Goal values = with_goal (content_parts v n ws) values

  end-changes : (end : End) (values : List ℕ) → Changes (content_parts v n ws) (replaced end values) (with_end end values)
  end-changes Start values = refl
  end-changes Goal values = refl

  end-written : (end : End) (values : List ℕ)
      → words_of (with_end end values) ++ formed-parts.further ≡ take (end_at end v) ws ++ (values ++ drop (end_at end v + v) ws)
  end-written Start values = start-changed (content_parts v n ws) formed-parts.further formed-parts.proper.start.full values
      ∙ ap₂ (λ k l. take (start_at k) l ++ (values ++ drop (goal_at k) l)) count (sym formed-parts.words)
  end-written Goal values = goal-changed (content_parts v n ws) formed-parts.further formed-parts.proper.start.full formed-parts.proper.goal.full values
      ∙ ap₂ (λ k l. take (goal_at k) l ++ (values ++ drop (pairs_at k) l)) count (sym formed-parts.words)

  end-due : (end : End) → end_at end v + v ≤ length ws
  end-due Start = omega (arith, (yes-due ws v n yes).words)
  end-due Goal = omega (arith, (yes-due ws v n yes).words)

  -- The part for an end's values is in the words, and as long as values that are found fine; with these in it the edit is done.
  module _ (end : End) (at : ℕ) (here : at ≡ end_at end v) (values : List ℕ) where
    pub end-room : at + v ≤ length ws
    end-room = rw here (end-due end)

    pub end-long : edit_judged (content_parts v n ws) (replaced end values) ≡ fine → length (take (at + v - at) (drop at ws)) ≡ length values
    end-long e = ap length (lent at v ws) ∙ length_part at v ws end-room
        ∙ sym (values-long (sizes_part v ws) values _ (end-judged (sizes_part v ws) (pairs_part v n ws) refl refl end values ∙ e) ∙ count)

    pub end-done : (new : List ℕ) → edit_judged (content_parts v n ws) (replaced end values) ≡ fine → new ≡ values
        → Edits ws (replaced end values) (record { answer = done tt; lent = take at ws ++ (new ++ drop (at + v - at) (drop at ws)) })
    end-done new e q = edit-done (replaced end values) (with_end end values) _ e (end-changes end values)
        (part-written ws values new at v q ∙ rw here (sym (end-written end values)))

  -- ---- one more operator

  -- The workspace holds the content that its parts make.
  pub held-parts : Holds v n (content_parts v n ws) formed-parts.further ws
  held-parts = record { words = formed-parts.words; proper = formed-parts.proper; variables = sym count; total = (yes-cut ws v n yes).total }

  -- The slots after an operator's rows were inserted stand for what was stored and for the operator's condition.
  pub operator-done : (r : OperatorRecord) (exit : List ℕ) → edit_judged (content_parts v n ws) (add_operator r) ≡ fine
      → exit ≡ with_rows v n ws (operator_in r) → Edits ws (add_operator r) (record { answer = done tt; lent = exit })
  operator-done r exit e q = edit-done (add_operator r) (with_slots (content_parts v n ws) slots) exit e (slots, stands, refl)
      (q ∙ (held_rows v n (content_parts v n ws) formed-parts.further ws held-parts (operator_in r)).words
      ∙ ap (λ m. words_of (with_slots (content_parts v n ws) (insert_all m (content_parts v n ws).slots rows)) ++ formed-parts.further) held-parts.total)
    where
      rows : List Set
      rows = rows_of (sizes_part v ws) (has (pairs_part v n ws)) (operator_in r)

      slots : Slots
      slots = insert_all (features (sizes_part v ws)) (content_parts v n ws).slots rows

      stands : SlotsOf (features (sizes_part v ws))
          (λ weights. Stored (features (sizes_part v ws)) (content_parts v n ws).slots weights × Allows (sizes_part v ws) (has (pairs_part v n ws)) weights (operator_in r)) slots
      stands = slots-of-stored _ (insert_all-reduced formed-parts.proper.slots rows) (λ w.
          let own = allows-rows (sizes_part v ws) (has (pairs_part v n ws)) (operator_in r) (add-fine (content_parts v n ws) r e).1 w in
          Iff.trans (insert_all-stored formed-parts.proper.slots rows w) (λ k. (k.0, own.1 k.1), λ k. (k.0, own.0 k.1)))
