-- One number more is told at the end.
use Rattle.std.proofs.Common.{List, [], ◌∷◌, ◌++◌, ◌∙◌, ap, arith, map}
use Rattle.rt_values.specs.declared.element.ElementId.{ElementId}
use Rattle.run_places.specs.Places.{kind_of, place_of}
use Rattle.run_places.specs.Sides.{number_in}
use Rattle.run_places.proofs.Trails.{on_At}
use Rattle.run_work.proofs.Walking.{mapped}
use Rattle.rt_tree.specs.Endings.{gone_left}
use Rattle.rt_tree.proofs.Counted.{one_longer}
use Rattle.rt_tree.proofs.patch.Patch.go.Goals as goal

pub returns-clause-behind : goal.returns-clause-behind
returns-clause-behind g c =
    let more = one_longer c.args.self.now.gone.items c.push_back.new.self.items _ c.in_ok-push_back.ensures.items in
    omega (arith, more)

pub returns-clause-told : goal.returns-clause-told
returns-clause-told g c =
    let old = c.args.self.now.old in
    ap (λ (ids : List ElementId). map (λ i. i.0) ids) c.in_ok-push_back.ensures.items
    ∙ mapped (λ (i : ElementId). i.0) c.args.self.now.gone.items _
    ∙ ap (λ n. gone_left c.args.self.now ++ n ∷ [])
    (c.number_on-number.ensures ∙ ap (λ q. number_in old q (kind_of c.args.kind)) (on_At _ ∙ ap place_of c.in_ok-steps.ensures.steps))
