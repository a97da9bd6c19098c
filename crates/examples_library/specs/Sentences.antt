-- What shows of a field, whatever else its application is.
use Rattle.std.specs.Prelude.{ℕ, Some, ◌≡◌}
use Rattle.rt_author.specs.Words.{Carrying, Keeping, tree_of, types}
use Rattle.rt_author.specs.Current.{AllCurrent}
use Rattle.rt_author.specs.Lists.{at}
use Rattle.rt_author.specs.Pages.{page_body}
use Rattle.rt_author.specs.Present.{value_now}
use Rattle.rt_author.specs.Program.{body_means}
use Rattle.rt_author.specs.State.{LastCall, Scope, State}
use Rattle.rt_author.specs.Tree.{Own}
use Rattle.rt_author.specs.World.{Application, World}
use Rattle.examples_library.specs.Meaning.{Library, field_page, field_shows}
use Rattle.examples_library.specs.declared.parts.FieldProps.{FieldProps}

-- in an application that carries the library and takes a field to be its page: where every output is current, a field shows what its
-- cell holds now
abbrev pub FieldsShow : (P C Q V H T E L : Type 0) → Type 0
FieldsShow P C Q V H T E L =
    (carrying : Carrying Library (types C Q V H T E L)) (keeping : Keeping V) (app : Application (types C Q V H T E L)) (props : FieldProps)
    → ((v : World (types C Q V H T E L))
    → app.body (carrying.component (record {})) (carrying.props props) v ≡ body_means (page_body keeping (field_page P carrying props)) v)
    → (w : State (types C Q V H T E L))
    → AllCurrent app w
    → (s : ℕ) (x : Scope (types C Q V H T E L)) (last : LastCall (types C Q V H T E L))
    → at w.scopes s ≡ Some x
    → at w.last_calls s ≡ Some last
    → x.component ≡ Own (carrying.component (record {})) (carrying.props props)
    → x.main_side.output ≡ Some (tree_of (field_shows {P = P} carrying last.given.given.scope props (Some (value_now w last props.cell))))
