use Rattle.std.proofs.Common.{◌∙◌, ap, sym, subst}
use Rattle.tree_mirror.specs.Sealed.{component_of}
use Rattle.run_places.specs.Places.{place_of, side_name_of}
use Rattle.run_state.specs.Mirror.{state_of}
use Rattle.run_work.specs.Items.{item_of}
use Rattle.run_standing.specs.Changes.{AllKept, changes_of}
use Rattle.rt_scopes.specs.Knowing.{leaf_of}
use Rattle.run_standing.specs.Feeds.{feeds, leaf_changes}
use Rattle.run_standing.proofs.Changes.{feed_changes}
use Rattle.run_outside.proofs.Said.{on_ok}
use Rattle.run_standing.proofs.standing.keep_for.Goals as goal

pub returns-in-Feed-clause-kept : goal.returns-in-Feed-clause-kept
returns-in-Feed-clause-kept g c =
    on_ok c.keep_fed.result c.keep_fed.ensures.kept
    (
    λ h app kept is leaf.
    let w = state_of kept c.args.state.now in
    subst (λ ss. AllKept c.keep_fed.new.stood ss)
    (sym
    (ap (λ i. changes_of app w (item_of i)) c.in-Feed.is
    ∙ feed_changes app w c.in-Feed.scope (side_name_of c.in-Feed.side) (place_of c.in-Feed.place) (component_of c.in-Feed.component) c.args.fed
    (is ∙ ap (λ i. feeds app w (item_of i)) c.in-Feed.is)))
    h
    )

pub returns-in-Drop-clause-kept : goal.returns-in-Drop-clause-kept
returns-in-Drop-clause-kept g c =
    on_ok c.keep_leaf.result c.keep_leaf.ensures.kept
    (
    λ h app kept fed leaf.
    let w = state_of kept c.args.state.now in
    subst (λ ss. AllKept c.keep_leaf.new.stood ss)
    (sym
    (ap (λ i. changes_of app w (item_of i)) c.in-Drop.is
    ∙ ap (λ o. leaf_changes o) (sym (leaf ∙ ap (λ i. leaf_of w (item_of i)) c.in-Drop.is))))
    h
    )
