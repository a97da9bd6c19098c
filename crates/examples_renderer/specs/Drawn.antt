-- What a renderer draws.
use Rattle.std.specs.Prelude.{◌≡◌, ℕ, List, [], Option, Some}
use Rattle.rt_app.specs.Edit.{Edit}
use Rattle.rt_app.specs.Documents.{forest_of}
use Rattle.tree_documents.specs.Cuts.{LeadsTo}
use Rattle.rt_text.specs.Layout.{layout}
use Rattle.rt_text.specs.Screens.{nodes_of, rows_of}
use Rattle.rt_text.specs.declared.screen.Screen.{Screen}

-- the edits that were taken lead from an empty document to the screen's, and its rows are the layout of that
pub record IsDrawn (taken : Option (List Edit)) (width height : ℕ) (screen : Screen) : Type 0 where
  pub edits : List Edit
  pub told : taken ≡ Some edits
  pub leads : LeadsTo edits [] (nodes_of screen)
  pub rows : rows_of screen ≡ layout width height (forest_of (nodes_of screen))
