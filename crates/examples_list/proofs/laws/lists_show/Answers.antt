-- The page's function of the present value of its cell.
use Rattle.std.proofs.Common.{ℕ, Bool, ◌∷◌, [], ◌≡◌, refl, ap, ◌∙◌}
use Rattle.std.specs.Prelude.{Option, Some, None, if◌then◌else◌}
use Rattle.rt_author.specs.Lists.{at}
use Rattle.rt_author.specs.Present.{value_now}
use Rattle.rt_author.specs.State.{CellRow}
use Rattle.rt_author.specs.Words.{tree_of}
use Rattle.examples_list.proofs.More.{row_of}
use Rattle.examples_list.specs.Meaning.{ListTypes, items_in, keeping, page, present}
use Rattle.examples_list.specs.Sentences.{app}
use Rattle.examples_list.specs.declared.parts.Component.TheVariants as components
use Rattle.examples_list.specs.declared.parts.Value.{Value}
use Rattle.examples_list.specs.declared.parts.Value.TheVariants as values
use Rattle.examples_list.proofs.laws.lists_show.Goals as goal

pub returns : goal.returns
returns k =
    λ w s draft cell list items current held.
    let row = row_of w.cells cell (values.Items items) held in
    let now : value_now w list.last cell ≡ Some (values.Items items) =
    ap (λ (b : Bool). if b then (elim (at w.cells cell) as (λ z. Option Value) [ None ↦ None | Some r ↦ Some r.value ]) else None) list.drawn
    ∙ ap (λ (o : Option (CellRow ListTypes)). elim o as (λ z. Option Value) [ None ↦ None | Some r ↦ Some r.value ]) row.1
    ∙ ap Some row.2 in
    k.one_page_shows.ensures app keeping (page components.Whole list.props) components.Whole list.props (λ v. refl) w current s list.scope list.last (draft ∷ cell ∷ []) list.there list.called list.is_whole list.keeps refl
    ∙ ap (λ (o : Option Value). Some (tree_of (present list.last.given.given.scope (Some draft) (Some cell) (items_in (Some o))))) now
