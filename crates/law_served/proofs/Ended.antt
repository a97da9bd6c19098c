-- What marks leave for the end is what the definitions drop and don't keep.
use Rattle.std.proofs.Common.{ℕ, List, [], ◌∷◌, ◌++◌, ◌≡◌, map, refl, sym, ap, ◌∙◌, append-nil}
use Rattle.rt_values.specs.declared.element.ElementId.{ElementId}
use Rattle.rt_values.specs.declared.names.ScopeId.{ScopeId}
use Rattle.rt_model.specs.Lists.{joined}
use Rattle.rt_model.specs.OneLog.{types}
use Rattle.rt_model.specs.State.{SideName}
use Rattle.rt_model.specs.State as state
use Rattle.rt_model.specs.Tree.{Tree}
use Rattle.rt_model.specs.World.{Application}
use Rattle.tree_marks.specs.Deeds.{dropped_at, gone_at}
use Rattle.tree_marks.specs.Marks.{Mark, tree_marks}
use Rattle.run_places.specs.Places.{side_of}
use Rattle.law_patch.proofs.Doing.{marks_do}
use Rattle.rt_tree.specs.declared.patch.Patch.{Patch}
use Rattle.rt_tree.specs.declared.step.PatchStep.{PatchStep}
use Rattle.rt_tree.specs.Endings.{IsClear, dropping, drops_left, gone_left}
use Rattle.rt_tree.specs.Runs.{IsInOrder, IsTold, Runs, removed_of, told_of}
use Rattle.rt_tree.specs.Served.{marks_left}
use Rattle.rt_tree.proofs.Running.{in_order}
use Rattle.rt_tree.proofs.Telling.{told}
use Rattle.law_served.specs.RunDone.{TellsAll}

-- what was left at neither end
between : {A : Type 0} (first all told last : List A) → first ≡ [] → last ≡ [] → first ++ all ≡ told ++ last → told ≡ all
between {A = A} first all told last none done h =
    sym (append-nil told) ∙ ap (λ (zs : List A). told ++ zs) (sym done) ∙ sym h ∙ ap (λ (zs : List A). zs ++ all) none

module _ {P C Q V H T E L : Type 0} where
  -- what is left of marks, by the marks alone
  of_firsts : {B : Type 0} (f : Mark (types C Q V H T E L) → List B) (met : List (Mark (types C Q V H T E L) × Patch P C Q V H T E L))
      → joined (map (λ x. f x.0) met) ≡ joined (map f (map (λ x. x.0) met))
  of_firsts f [] = refl
  of_firsts {B = B} f (x ∷ met) = ap (λ (zs : List B). f x.0 ++ zs) (of_firsts f met)

module _ {P C Q V H T E L : Type 0} (app : Application (types C Q V H T E L)) where
  pub run_tells : (p r : Patch P C Q V H T E L) (ss : List (PatchStep P C Q V H T E L)) (met : List (Mark (types C Q V H T E L) × Patch P C Q V H T E L)) (new old : Tree (types C Q V H T E L))
      → Runs app p ss met r → marks_left p ≡ tree_marks app [] new old → IsClear p → marks_left r ≡ [] → IsClear r → TellsAll app p ss new old
  run_tells p r ss met new old run start clear over done =
      let order : IsInOrder app p ss met r = in_order app p r ss met run in
      let all : IsTold p ss met r = told app p r ss met run in
      let ms : List (Mark (types C Q V H T E L)) = map (λ x. x.0) met in
      let trees : ms ≡ tree_marks app [] new old = sym (order.marks ∙ ap (λ (ns : List (Mark (types C Q V H T E L))). ms ++ ns) over ∙ append-nil ms) ∙ start in
      record {
        drops = λ scope side.
            between (drops_left scope side p) (joined (map (λ x. dropped_at scope side (side_of p.old).children x.0) met)) (removed_of scope side ss) (drops_left scope side r)
            (ap (λ (ts : List ScopeId). dropping scope side ts) clear.drops) (ap (λ (ts : List ScopeId). dropping scope side ts) done.drops) (all.drops scope side)
            ∙ of_firsts (λ m. dropped_at scope side (side_of p.old).children m) met
            ∙ ap (λ (ns : List (Mark (types C Q V H T E L))). joined (map (λ m. dropped_at scope side (side_of p.old).children m) ns)) trees
            ∙ (marks_do app scope side (side_of p.old).numbers (side_of p.old).children [] new old).drops;
        gone =
            between (gone_left p) (joined (map (λ x. gone_at (side_of p.old).numbers x.0) met)) (told_of ss) (gone_left r) (ap (λ (ids : List ElementId). map (λ i. i.0) ids) clear.gone)
            (ap (λ (ids : List ElementId). map (λ i. i.0) ids) done.gone) all.gone
            ∙ of_firsts (λ m. gone_at (side_of p.old).numbers m) met
            ∙ ap (λ (ns : List (Mark (types C Q V H T E L))). joined (map (λ m. gone_at (side_of p.old).numbers m) ns)) trees
            ∙ (marks_do app 0 state.MainSide (side_of p.old).numbers (side_of p.old).children [] new old).gone;
      }
