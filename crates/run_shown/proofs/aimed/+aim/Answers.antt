-- The way goes on to the one place where the number stands.
use Rattle.std.proofs.Common.{rules, ◌≡◌, ◌≢◌, ◌<◌, [], ◌∷◌, ◌++◌, length, sym, ap, ◌∙◌, arith}
use Rattle.std.proofs.lemmas.List.{append_assoc}
use Rattle.std.proofs.lemmas.Result.{IfOk-weaker}
use Rattle.rt_model.specs.Tree.{item}
use Rattle.tree_mirror.specs.Sealed.{template_of}
use Rattle.run_places.specs.Places.{place_of, step_of}
use Rattle.run_places.specs.Trails.{path_of, place_on}
use Rattle.run_places.proofs.Trails.{on_Item, on_Root, path_Below, path_Top}
use Rattle.run_shown.specs.Climbs.{climb_found, entries_slots, slots_of}
use Rattle.run_shown.specs.Leading.{IsOnlyBelow, IsOnlyFrom, LeadsTo}
use Rattle.run_shown.proofs.Onwards.{along_same, below_item, below_root, below_same, element_end, element_onward, from_inside, from_same, inside_tree, items_onward, not_ended, row_onward}
use Rattle.run_shown.proofs.Walked.{stands_below}
use Rattle.run_shown.proofs.aimed.+aim.Goals as goal

pub aim_output-aim_tree-requires : goal.aim_output-aim_tree-requires
aim_output-aim_tree-requires g t c =
    let leads : LeadsTo c.args.shown.now.look.now c.args.sought.now = c.requires.leads in
    let only =
    below_root c.args.shown.now.side.now c.args.sought.now (place_of c.in-Some.place.now) _ _ on_Root
    (ap place_of (c.as_slice.ensures.items ∙ c.in_ok-steps-in-Some.ensures.steps))
    c.in-Some.ensures in
    search rules

pub aim_tree-aim_step-requires : goal.aim_tree-aim_step-requires
aim_tree-aim_step-requires g t c =
    let is : c.args.ahead.now.steps.now ≡ c.in-Some.step.now ∷ c.in-Some.steps.now = search rules in
    let leads : LeadsTo c.args.shown.now.look.now c.args.ahead.now.sought.now = c.requires.leads in
    let only : IsOnlyBelow c.args.shown.now.side.now c.args.ahead.now.sought.now (place_on c.args.above.now) (step_of c.in-Some.step.now ∷ place_of c.in-Some.steps.now) =
    below_same c.args.shown.now.side.now c.args.ahead.now.sought.now (place_on c.args.above.now) _ _ (ap place_of is) c.requires.only in
    search rules

pub aim_step-aim_nodes-requires : goal.aim_step-aim_nodes-requires
aim_step-aim_nodes-requires g t c =
    let n = c.in-Inside in
    let side = c.args.shown.now.side.now in
    let sought = c.args.ahead.now.sought.now in
    let rest = place_of c.args.ahead.now.steps.now in
    let leads : LeadsTo c.args.shown.now.look.now sought = c.requires.leads in
    let only =
    inside_tree side sought (template_of c.args.tree.now.template) (template_of n.template) (place_on c.args.above.now) n.path _ rest
    (ap (λ p. p ++ c.as_slice.result.now) path_Top ∙ c.as_slice.ensures.items)
    (below_same side sought (place_on c.args.above.now) _ _ (ap (λ s. step_of s ∷ rest) n.is) c.requires.only) in
    search rules

pub aim_nodes-aim_node-requires : goal.aim_nodes-aim_node-requires
aim_nodes-aim_node-requires g t c =
    let standing = c.args.standing.now in
    let ahead = c.args.ahead.now in
    let up = path_of c.args.up.now in
    let is : ahead.path.now ≡ c.in-Some.index.now ∷ c.in-Some.path.now = search rules in
    let leads : LeadsTo (standing.shown.now).look.now ahead.sought.now = c.requires.leads in
    let only =
    along_same (standing.shown.now).side.now ahead.sought.now (template_of (standing.tree.now).template) (place_on standing.above.now) (up ++ ahead.path.now) ((up ++ c.in-Some.index.now ∷ []) ++ c.in-Some.path.now) (place_of ahead.steps.now)
    (ap (λ p. up ++ p) is ∙ sym (append_assoc up (c.in-Some.index.now ∷ []) c.in-Some.path.now))
    c.requires.only in
    search rules

pub aim_nodes-returns-in-Some-get : goal.aim_nodes-returns-in-Some-get
aim_nodes-returns-in-Some-get g t c =
    let standing = c.args.standing.now in
    let ahead = c.args.ahead.now in
    let up = path_of c.args.up.now in
    let index = c.in-Some.index.now in
    let is : ahead.path.now ≡ index ∷ c.in-Some.path.now = search rules in
    let low : index < length c.args.nodes.now = omega (arith, c.in-Some-get.ensures.lookup) in
    IfOk-weaker c.aim_node.result _ _
    (λ found here.
    row_onward standing ahead.sought.now c.requires.leads up index c.in-Some.path.now (place_of ahead.steps.now)
    (along_same (standing.shown.now).side.now ahead.sought.now (template_of (standing.tree.now).template) (place_on standing.above.now) (up ++ ahead.path.now) ((up ++ index ∷ []) ++ c.in-Some.path.now) (place_of ahead.steps.now)
    (ap (λ p. up ++ p) is ∙ sym (append_assoc up (index ∷ []) c.in-Some.path.now))
    c.requires.only)
    c.args.nodes.now c.in-Some-get.node.now (climb_found found) low c.in-Some-get.ensures.lookup.1 here)
    c.aim_node.ensures

pub aim_node-aim_nodes-requires : goal.aim_node-aim_nodes-requires
aim_node-aim_nodes-requires g t c =
    let standing = c.args.standing.now in
    let ahead = c.args.ahead.now in
    let up = path_of c.args.up.now in
    λ κs bounds. (
      search rules,
      (
        search rules,
        (
          search rules,
          (
            search rules,
            (
              search rules,
              (
                search rules,
                (
                  search rules,
                  (
                    search rules,
                    (
                      search rules,
                      (
                        c.requires.leads,
                        along_same (standing.shown.now).side.now ahead.sought.now (template_of (standing.tree.now).template) (place_on standing.above.now) ((up ++ c.args.index ∷ []) ++ ahead.path.now) _ (place_of ahead.steps.now)
                            (ap (λ p. p ++ ahead.path.now) (sym (path_Below _ _)))
                            c.requires.only,
                      ),
                    ),
                  ),
                ),
              ),
            ),
          ),
        ),
      ),
    )

pub aim_node-aim_slot-requires : goal.aim_node-aim_slot-requires
aim_node-aim_slot-requires g t c =
    let standing = c.args.standing.now in
    let ahead = c.args.ahead.now in
    let own = path_of c.args.up.now ++ c.args.index ∷ [] in
    λ κs bounds. (
      search rules,
      (
        search rules,
        (
          search rules,
          (
            search rules,
            (
              search rules,
              (
                search rules,
                (
                  search rules,
                  (
                    search rules,
                    (
                      search rules,
                      (
                        c.requires.leads,
                        from_inside (standing.shown.now).side.now ahead.sought.now (template_of (standing.tree.now).template) (place_on standing.above.now) own ahead.path.now _ (place_of ahead.steps.now)
                            (stands_below _ _ _ own (path_Below _ _))
                            c.requires.only,
                      ),
                    ),
                  ),
                ),
              ),
            ),
          ),
        ),
      ),
    )

pub aim_node-returns-then-is_end : goal.aim_node-returns-then-is_end
aim_node-returns-then-is_end g t c =
    let n = c.in-Element in
    let standing = c.args.standing.now in
    let ahead = c.args.ahead.now in
    let up = path_of c.args.up.now in
    IfOk-weaker c.own_climb.result _ _
    (λ found here.
    element_end standing ahead.sought.now c.requires.leads up c.args.index ahead.path.now (place_of ahead.steps.now) c.requires.only n.tag n.namespace n.attrs n.children c.args.node.now n.is
    (slots_of c.in_ok-slots-in-Element.slots)
    (c.in_ok-slots-in-Element.ensures ∙ ap (λ es. entries_slots (standing.tree.now).dynamic_attrs es) c.as_slice-entries.ensures.items)
    (climb_found found) _ (c.is_end.ensures.0 c.if-is_end.true) (stands_below _ _ _ (up ++ c.args.index ∷ []) (path_Below _ _)) here)
    c.own_climb.ensures

pub aim_node-returns-in_ok-found-in-Element : goal.aim_node-returns-in_ok-found-in-Element
aim_node-returns-in_ok-found-in-Element g t c =
    let n = c.in-Element in
    let standing = c.args.standing.now in
    let ahead = c.args.ahead.now in
    let up = path_of c.args.up.now in
    IfOk-weaker c.below_element.result _ _
    (λ climb here.
    element_onward standing ahead.sought.now c.requires.leads up c.args.index ahead.path.now (place_of ahead.steps.now) c.requires.only n.tag n.namespace n.attrs n.children c.args.node.now n.is
    (slots_of c.in_ok-slots-in-Element.slots)
    (c.in_ok-slots-in-Element.ensures ∙ ap (λ es. entries_slots (standing.tree.now).dynamic_attrs es) c.as_slice-entries.ensures.items)
    (climb_found climb) (climb_found c.in_ok-found-in-Element.found) _ _ (λ none. not_ended c.is_end.result c.if-is_end.false (c.is_end.ensures.1 none)) (path_Below _ _) c.as_slice-nodes.ensures.items
    c.in_ok-found-in-Element.ensures here)
    c.below_element.ensures

pub aim_items-aim_item-requires : goal.aim_items-aim_item-requires
aim_items-aim_item-requires g t c =
    let side = c.args.shown.now.side.now in
    let sought = c.args.ahead.now.sought.now in
    let is : c.args.ahead.now.steps.now ≡ c.in-Some.step.now ∷ c.in-Some.steps.now = search rules in
    let leads : LeadsTo c.args.shown.now.look.now sought = c.requires.leads in
    let only : IsOnlyFrom side sought (place_on c.args.place.now) (step_of c.in-Some.step.now ∷ place_of c.in-Some.steps.now) =
    from_same side sought (place_on c.args.place.now) _ _ (ap place_of is)
    (c.requires.only (c.is_end.ensures.0 c.if-not-is_end.false)) in
    search rules

pub aim_item-aim_tree-requires : goal.aim_item-aim_tree-requires
aim_item-aim_tree-requires g t c =
    let side = c.args.shown.now.side.now in
    let sought = c.args.ahead.now.sought.now in
    let place = place_on c.args.place.now in
    let rest = place_of c.args.ahead.now.steps.now in
    λ κs bounds. (
      search rules,
      (
        search rules,
        (
          search rules,
          (
            search rules,
            (
              search rules,
              (
                search rules,
                (
                  search rules,
                  (
                    search rules,
                    (
                      search rules,
                      (
                        c.requires.leads,
                        below_item side sought place _ c.in-Item.position rest (on_Item _ _)
                            (from_same side sought place _ (item c.in-Item.position ∷ rest) (ap (λ s. step_of s ∷ rest) c.in-Item.is) c.requires.only),
                      ),
                    ),
                  ),
                ),
              ),
            ),
          ),
        ),
      ),
    )

pub aim_item-returns-in-Some : goal.aim_item-returns-in-Some
aim_item-returns-in-Some g t c =
    let shown = c.args.shown.now in
    let sought = c.args.ahead.now.sought.now in
    let place = place_on c.args.place.now in
    let rest = place_of c.args.ahead.now.steps.now in
    let position = c.in-Item.position in
    let low : position < length c.args.trees.now = omega (arith, c.in-Some.ensures.lookup) in
    IfOk-weaker c.aim_tree.result _ _
    (λ found here.
    items_onward shown sought c.requires.leads place _ position rest c.args.trees.now c.in-Some.tree.now (climb_found found)
    (from_same shown.side.now sought place _ (item position ∷ rest) (ap (λ s. step_of s ∷ rest) c.in-Item.is) c.requires.only)
    low c.in-Some.ensures.lookup.1 (on_Item _ _) here)
    c.aim_tree.ensures
