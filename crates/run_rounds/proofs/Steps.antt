-- Units of a render while suspended, one behind the others.
use Rattle.std.proofs.Common.{ℕ, List, [], ◌∷◌, ◌++◌, ◌≡◌, refl, sym, ap, ◌∙◌, subst, map, append_assoc}
use Rattle.std.proofs.lemmas.List.{append-nil}
use Rattle.rt_model.specs.Document as doc
use Rattle.rt_model.specs.Lists.{joined}
use Rattle.rt_model.specs.Tree.{Types}
use Rattle.rt_model.specs.World.{Application}
use Rattle.rt_model.specs.State as model
use Rattle.rt_model.specs.Replay as replay
use Rattle.rt_model.specs.Causes as causes
use Rattle.rt_model.specs.Asides.{resting}
use Rattle.rt_model.specs.Rendering.{rendering_rest}
use Rattle.run_rounds.specs.Rounds.{OpensFirst}
use Rattle.run_rounds.specs.Steps.{Step, UnitFrom, StepsTold, Stepped}

-- one list more behind the others
joined_more : {A B : Type 0} (f : A → List B) (xs : List A) (x : A) → joined (map f (xs ++ x ∷ [])) ≡ joined (map f xs) ++ f x
joined_more f [] x = append-nil (f x)
joined_more f (y ∷ xs) x = ap (λ ys. f y ++ ys) (joined_more f xs x) ∙ sym (append_assoc (f y) (joined (map f xs)) (f x))

module _ {K : Types} (app : Application K) (limits : causes.Limits) where
  -- one unit more behind the others
  told_behind : (w x : model.State K) (steps : List (Step K)) (s : Step K) (units : ℕ) → StepsTold app limits w steps x
      → UnitFrom app limits (rendering_rest x) s.log s.edits (record (resting s.left) { units = units }) → OpensFirst s.log
      → StepsTold app limits w (steps ++ s ∷ []) s.left
  told_behind w x [] s units told unit opened = (
    units,
    subst (λ (y : model.State K). UnitFrom app limits (rendering_rest y) s.log s.edits (record (resting s.left) { units = units })) (sym told) unit,
    opened,
    refl,
  )
  told_behind w x (t ∷ steps) s units told unit opened =
      (told.0, told.1, told.2, told_behind t.left x steps s units told.3 unit opened)

  pub steps_more : (w x v : model.State K) (log more : List replay.Entry) (edits others : List doc.Edit) (units : ℕ)
      → Stepped app limits w log edits x
      → UnitFrom app limits (rendering_rest x) more others (record (resting v) { units = units }) → OpensFirst more
      → Stepped app limits w (log ++ more) (edits ++ others) v
  steps_more w x v log more edits others units h unit opened =
      let s : Step K = record { log = more; edits = others; left = v } in
      record {
        steps = h.steps ++ s ∷ [];
        told = told_behind w x h.steps s units h.told unit opened;
        entries =
            ap (λ (l : List replay.Entry). l ++ more) h.entries ∙ sym (joined_more (λ (t : Step K). t.log) h.steps s);
        edits_are =
            ap (λ (l : List doc.Edit). l ++ others) h.edits_are ∙ sym (joined_more (λ (t : Step K). t.edits) h.steps s);
      }
