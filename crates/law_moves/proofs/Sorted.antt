-- A child scope is of the sort of the component at its place, and of one that it is handed.
use Rattle.std.proofs.Common.{List, ◌≡◌, inr, sym, ap, ◌∙◌, subst}
use Rattle.std.specs.Prelude.{Option, Some}
use Rattle.std.specs.List.{AllByRecursion}
use Rattle.rt_model.specs.Run.{child_at, component_in, spots_of}
use Rattle.rt_model.specs.State.{Item, Scope, Side}
use Rattle.rt_model.specs.Tree.{Types, Tree}
use Rattle.rt_model.specs.World.{Application}
use Rattle.law_moves.specs.Sorts.{ChildrenFitSlots, FedFit, sort_of}
use Rattle.law_moves.proofs.ChildKinds.{Placed, kind_of}
use Rattle.law_moves.proofs.Everywhere.{fed_kid}
use Rattle.law_moves.proofs.Moved.{reached_holds}
use Rattle.law_moves.proofs.Moving.{Holding}
use Rattle.law_moves.proofs.Twigs.{kids, side_found, slots}

pub children_fit_slots : {K : Types} (app : Application K) → ChildrenFitSlots app
children_fit_slots {K = K} app lawful limits props inputs m reached built alive s t x y side tree p c there output slot kid child =
    let h : Holding app lawful (Unit {0}) m.state m.work = reached_holds app lawful (Unit {0}) limits props inputs m reached (inr tt) built alive in
    let found = side_found m.state s side x there in
    let kid_is : child_at (kids m.state s side) p ≡ Some t = ap (λ (z : Side K). child_at z.children p) found ∙ kid in
    let slot_is : component_in (slots m.state s side) p ≡ Some c =
    ap (λ (z : Side K). component_in (spots_of z.output) p) found ∙ ap (λ (o : Option (Tree K)). component_in (spots_of o) p) output ∙ slot in
    h.kinds.kids_fit s t side p c (sort_of y.component) kid_is slot_is (ap (λ (o : Option (Scope K)). kind_of o) child)

pub fed_fit : {K : Types} (app : Application K) → FedFit app
fed_fit {K = K} app lawful limits props inputs m reached built alive s t y side p c later next fed child =
    let h : Holding app lawful (Unit {0}) m.state m.work = reached_holds app lawful (Unit {0}) limits props inputs m reached (inr tt) built alive in
    let placed = subst (λ (items : List (Item K)). AllByRecursion (λ (i : Item K). Placed m.state i) items) next h.kinds.placed in
    h.kinds.kids_fit s t side p c (sort_of y.component) (sym (fed_kid m.state s side p) ∙ fed) placed.0 (ap (λ (o : Option (Scope K)). kind_of o) child)
