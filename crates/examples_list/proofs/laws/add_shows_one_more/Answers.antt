-- The listener makes the items one more, the cell keeps them, and they show.
use Rattle.std.proofs.Common.{ℕ, List, ◌∷◌, [], ◌++◌, ◌≡◌, ap, ◌∙◌}
use Rattle.std.specs.Prelude.{Option, Some}
use Rattle.rt_author.specs.Lists.{at}
use Rattle.rt_author.specs.Replay.{Heard, Machine, step}
use Rattle.rt_author.specs.Updates.{Updated, model_of, read_in, update}
use Rattle.examples_list.proofs.More.{one_more, row_of, stands, value_at}
use Rattle.examples_list.specs.Meaning.{ListTypes, answers, keeping}
use Rattle.examples_list.specs.Sentences.{app}
use Rattle.examples_list.specs.declared.parts.Change.{Change}
use Rattle.examples_list.specs.declared.parts.Value.{Value}
use Rattle.examples_list.specs.declared.parts.Value.TheVariants as values
use Rattle.examples_list.proofs.laws.add_shows_one_more.Goals as goal

pub returns : goal.returns
returns k =
    λ limits m v l e draft cell c cs items moves s t heard leads stays quiet current again before after.
    let model = model_of m.state in
    let drawn = m.state.next.cells in
    let u : Machine ListTypes = step app m (Heard l.origin) in
    let grown : Value = values.Items (items ++ (c ∷ cs) ∷ []) in
    let found : at model cell ≡ Some (values.Items items) = stands model drawn cell (values.Items items) heard.found in
    let updated : Updated answers m l heard.others e u = k.heard_entries_update.ensures keeping answers m l heard.others e heard.alive heard.idle heard.between heard.event heard.waits in
    let made : at (model_of u.state) cell ≡ Some grown =
    ap (λ es. at es cell) updated.model
    ∙ ap (λ (h : Change). at (update answers h e drawn model) cell) heard.is_add
    ∙ one_more model draft cell c cs items (read_in model drawn draft) (read_in model drawn cell) heard.typed heard.found found in
    let row = row_of u.state.cells cell grown made in
    let kept : at v.state.cells cell ≡ Some row.0 =
    k.pages_keep_cells.ensures keeping answers limits u v moves cell row.0 leads (stays row.0 row.1) quiet row.1 in (
      k.lists_show.ensures m.state s draft cell before items current found,
      k.lists_show.ensures v.state t draft cell after (items ++ (c ∷ cs) ∷ []) again (value_at v.state.cells cell row.0 kept ∙ ap Some row.2),
    )
