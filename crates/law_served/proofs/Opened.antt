-- What marks open is the agenda of the definitions.
use Rattle.std.proofs.Common.{ℕ, List, [], ◌∷◌, ◌++◌, ◌≡◌, inl, inr, map, refl, sym, ap, subst, ◌∙◌, append-nil}
use Rattle.std.specs.Prelude.{Some}
use Rattle.rt_model.specs.Lists.{joined}
use Rattle.rt_model.specs.OneLog.{types}
use Rattle.rt_model.specs.Run.{child_at, component_in, serves}
use Rattle.rt_model.specs.State.{SideName, Item}
use Rattle.rt_model.specs.Tree.{Types, Place, Tree, VComponent, Spot, spots}
use Rattle.rt_model.specs.World.{Application}
use Rattle.tree_marks.specs.Deeds.{work_at}
use Rattle.tree_marks.specs.Marks.{Mark, stays, goes, comes, fed, left, made, given, worded, slot_goes, tree_goes, slot_way, tree_way, come_in, go_out, lone, tree_marks}
use Rattle.run_places.specs.Places.{side_of}
use Rattle.run_work.specs.Events as event
use Rattle.run_work.specs.Events.{Event}
use Rattle.run_work.specs.Marked.{events_in}
use Rattle.run_work.proofs.Agreed.{IsAgreed}
use Rattle.run_work.proofs.Branches.{AllIn}
use Rattle.run_work.proofs.Eventful.{tree_events}
use Rattle.law_patch.proofs.Doing.{marks_do}
use Rattle.rt_tree.specs.declared.patch.Patch.{Patch}
use Rattle.rt_tree.specs.declared.step.PatchStep.{PatchStep}
use Rattle.rt_tree.specs.Runs.{IsInOrder, Runs}
use Rattle.rt_tree.specs.Served.{marks_left}
use Rattle.rt_tree.specs.Works.{AllHave, WorksOn}
use Rattle.rt_tree.proofs.Running.{in_order}
use Rattle.rt_tree.proofs.Working as working
use Rattle.law_served.specs.Starting.{IsFull}
use Rattle.law_served.proofs.Begun.{agreed_two, fed_old}

module _ {K : Types} (app : Application K) (children : List (Place × ℕ)) (olds news : List (Spot K))
    (full : (q : Place) (c : VComponent K) → component_in olds q ≡ Some c → (t : ℕ) × (child_at children q ≡ Some t)) where
  -- each component that stays has its child scope
  all_have : (ms : List (Mark K)) → AllIn (IsAgreed app olds news) (events_in ms) → AllHave children ms
  all_have [] agreed = tt
  all_have (stays q k ∷ ms) agreed = (tt, all_have ms (λ x a. agreed x (inr a)))
  all_have (goes q k ∷ ms) agreed = (tt, all_have ms (λ x a. agreed x (inr a)))
  all_have (comes q k ∷ ms) agreed = (tt, all_have ms (λ x a. agreed x (inr a)))
  all_have (fed q c d ∷ ms) agreed =
      let says = agreed (event.fed q c d) (inl refl) in
      let was = fed_old app (component_in olds q) (component_in news q) says.2 in
      (full q was.0 was.1, all_have ms (λ x a. agreed x (inr a)))
  all_have (left q c ∷ ms) agreed = (tt, all_have ms (λ x a. agreed x (inr a)))
  all_have (made q d ∷ ms) agreed = (tt, all_have ms (λ x a. agreed x (inr a)))
  all_have (given above whole new old ∷ ms) agreed = (tt, all_have ms agreed)
  all_have (worded q new old ∷ ms) agreed = (tt, all_have ms agreed)
  all_have (slot_goes q old ∷ ms) agreed = (tt, all_have ms agreed)
  all_have (tree_goes above old ∷ ms) agreed = (tt, all_have ms agreed)
  all_have (slot_way q new old ∷ ms) agreed = (tt, all_have ms agreed)
  all_have (tree_way above new old ∷ ms) agreed = (tt, all_have ms agreed)
  all_have (come_in q front i new ∷ ms) agreed = (tt, all_have ms agreed)
  all_have (go_out q i old ∷ ms) agreed = (tt, all_have ms agreed)
  all_have (lone q new ∷ ms) agreed = (tt, all_have ms agreed)

module _ {P C Q V H T E L : Type 0} (app : Application (types C Q V H T E L)) where
  pub run_opens : (scope : ℕ) (side : SideName) (p r : Patch P C Q V H T E L) (ss : List (PatchStep P C Q V H T E L)) (met : List (Mark (types C Q V H T E L) × Patch P C Q V H T E L))
      (new old : Tree (types C Q V H T E L)) → Runs app p ss met r → marks_left p ≡ tree_marks app [] new old → IsFull (side_of p.old) old → marks_left r ≡ []
      → WorksOn scope side p r ss (serves app scope side (spots [] old) (spots [] new))
  run_opens scope side p r ss met new old run start full over =
      let order : IsInOrder app p ss met r = in_order app p r ss met run in
      let ms : List (Mark (types C Q V H T E L)) = map (λ x. x.0) met in
      let trees : ms ≡ tree_marks app [] new old = sym (order.marks ∙ ap (λ (ns : List (Mark (types C Q V H T E L))). ms ++ ns) over ∙ append-nil ms) ∙ start in
      let agreed : AllIn (IsAgreed app (spots [] old) (spots [] new)) (events_in (tree_marks app [] new old)) =
      subst (λ (es : List (Event (types C Q V H T E L))). AllIn (IsAgreed app (spots [] old) (spots [] new)) es) (sym (tree_events app [] new old)) (agreed_two app new old) in
      let have : AllHave (side_of p.old).children ms =
      subst (λ (ns : List (Mark (types C Q V H T E L))). AllHave (side_of p.old).children ns) (sym trees)
      (all_have app (side_of p.old).children (spots [] old) (spots [] new) full.children (tree_marks app [] new old) agreed) in
      subst (λ (zs : List (Item (types C Q V H T E L))). WorksOn scope side p r ss zs)
      (ap (λ (ns : List (Mark (types C Q V H T E L))). joined (map (λ m. work_at scope side m) ns)) trees
      ∙ (marks_do app scope side (side_of p.old).numbers (side_of p.old).children [] new old).work)
      (working.works app scope side p r ss met run have)
