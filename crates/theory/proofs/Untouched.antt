-- "Replacing a start or goal touches only its own words": an edit leaves each word that is not its own as it was, further words too.
use Rattle.std.specs.Prelude.{ℕ, ◌*◌, ◌<◌, ◌≤◌, ◌≡◌, refl, ◌⊎◌, List, ◌++◌, length, get_or, drop}
use Rattle.std.proofs.Common.{ap, sym, ◌∙◌, inl, inr, arith}
use Rattle.meaning.specs.Sets.{Slots}
use Rattle.meaning.specs.Workspace.{start_at, goal_at, pairs_at, slots_at, words_for, words_due, Content, words_of, Proper, WellFormed}
use Rattle.meaning.specs.Answer.{Outcome, Edit, add_operator, replace_start, replace_goal, Judged, fine, faulty, edit_judged, Changes, EditsIn, Edits}
use Rattle.theory.specs.Contents.{written-outside, variables_in, features_in, slot_words, length-slots, words_long, formed-sizes, formed-count, with_start, with_goal, with_slots, start-changed, goal-changed, slots-changed, edit-proper, edit-sizes, edit-further}
use Rattle.theory.specs.Untouched.{Outside, Untouched}

-- ---- a changed part of a content's words, with any words after them

module _ (c : Content) (further : List ℕ) (p : Proper c) where
  start_outside : (values : List ℕ) (k : ℕ) → length values ≡ variables_in c → (k < start_at (variables_in c)) ⊎ (goal_at (variables_in c) ≤ k)
      → get_or (words_of (with_start c values) ++ further) k 0 ≡ get_or (words_of c ++ further) k 0
  start_outside values k e o = rw (start-changed c further p.start.full values)
      (written-outside (words_of c ++ further) values (start_at (variables_in c)) (variables_in c) k 0 e (omega (arith, words_long c further p)) o)

  goal-outside : (values : List ℕ) (k : ℕ) → length values ≡ variables_in c → (k < goal_at (variables_in c)) ⊎ (pairs_at (variables_in c) ≤ k)
      → get_or (words_of (with_goal c values) ++ further) k 0 ≡ get_or (words_of c ++ further) k 0
  goal-outside values k e o = rw (goal-changed c further p.start.full p.goal.full values)
      (written-outside (words_of c ++ further) values (goal_at (variables_in c)) (variables_in c) k 0 e (omega (arith, words_long c further p)) o)

  slots-outside : (slots : Slots) (k : ℕ) → (k < slots_at (variables_in c) (features_in c)) ⊎ (words_due (variables_in c) (features_in c) ≤ k)
      → get_or (words_of (with_slots c slots) ++ further) k 0 ≡ get_or (words_of c ++ further) k 0
  slots-outside slots k o = rw (slots-changed c further p.start.full p.goal.full slots)
      (written-outside (words_of c ++ further) (slot_words (features_in c) slots) (slots_at (variables_in c) (features_in c))
      (features_in c * words_for (features_in c)) k 0 (length-slots (features_in c) slots) (omega (arith, words_long c further p)) o)

  -- By what an accepted edit makes of the content.
  changed-outside : (edit : Edit) (c' : Content) → Proper c' → Changes c edit c' → (k : ℕ) → Outside (variables_in c) (features_in c) edit k
      → get_or (words_of c' ++ further) k 0 ≡ get_or (words_of c ++ further) k 0
  changed-outside (add_operator r) c' p' h k o = rw h.2 (slots-outside h.0 k o)
  changed-outside (replace_start values) c' p' h k o = let q : Proper (with_start c values) = rw h at p' in rw h (start_outside values k q.start.full o)
  changed-outside (replace_goal values) c' p' h k o = let q : Proper (with_goal c values) = rw h at p' in rw h (goal-outside values k q.goal.full o)

-- ---- an edit of a workspace

same-untouched : (workspace : List ℕ) (edit : Edit) (lent : List ℕ) → lent ≡ workspace → Untouched workspace edit lent
same-untouched workspace edit lent e = record { as_many = ap length e; others = λ k _. ap (λ l. get_or l k 0) e }

module _ (workspace : List ℕ) (formed : WellFormed workspace) (edit : Edit) where
  changed-untouched : (c' : Content) (lent : List ℕ) → Proper c' → Changes formed.content edit c'
      → lent ≡ words_of c' ++ drop (length (words_of c')) workspace → Untouched workspace edit lent
  changed-untouched c' lent p' h e = record {
    as_many = ap length whole ∙ words_long c' formed.further p' ∙ rw (edit-sizes formed.content c' edit h) (sym (words_long formed.content formed.further formed.proper))
        ∙ ap length (sym formed.words);
    others = λ k o. ap (λ l. get_or l k 0) whole
        ∙ changed-outside formed.content formed.further formed.proper edit c' p' h k (rw (formed-count workspace formed, formed-sizes workspace formed) at o)
        ∙ ap (λ l. get_or l k 0) (sym formed.words);
  }
    where
      whole : lent ≡ words_of c' ++ formed.further
      whole = e ∙ ap (λ l. words_of c' ++ drop (length (words_of c')) l) formed.words
          ∙ ap (λ l. words_of c' ++ l) (edit-further formed.content c' edit formed.further formed.proper p' h)

  by-judgement : (outcome : Outcome (Unit {0})) (judged : Judged) → edit_judged formed.content edit ≡ judged
      → EditsIn judged workspace formed.content edit outcome → Untouched workspace edit outcome.lent
  by-judgement outcome (faulty reason) e q = same-untouched workspace edit outcome.lent (ap (λ o. o.lent) q)
  by-judgement outcome fine e (c', h, q) =
      changed-untouched c' outcome.lent (edit-proper formed.content c' edit formed.proper e h) h (ap (λ o. o.lent) q)

pub edit-untouched : (workspace : List ℕ) (edit : Edit) (outcome : Outcome (Unit {0})) → Edits workspace edit outcome → Untouched workspace edit outcome.lent
edit-untouched workspace edit outcome (inl h) = same-untouched workspace edit outcome.lent (ap (λ o. o.lent) h.1)
edit-untouched workspace edit outcome (inr (formed, h)) = by-judgement workspace formed edit outcome (edit_judged formed.content edit) refl h

-- "Replacing a start or goal touches only its own words", and adding a move only those of the slots: accepted or refused, and of any workspace.
pub own-words : (workspace : List ℕ) (edit : Edit) (outcome : Outcome (Unit {0})) → Edits workspace edit outcome → Untouched workspace edit outcome.lent
own-words = edit-untouched
