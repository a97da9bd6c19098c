-- How an application carries what a library is made of, and what the library's calls come to in it.
use Rattle.std.specs.Prelude.{ℕ, Option, Some, option_and_then, ◌≡◌}
use Rattle.author_bodies.specs.declared.no_data.NoData.{NoData}
use Rattle.author_pieces.specs.Markup.{child}
use Rattle.author_pieces.specs.declared.pieces.Piece.{Piece}
use Rattle.rt_model.specs.OneLog.{types}
use Rattle.rt_model.specs.Program.{Program, done, read, write}
use Rattle.rt_model.specs.Tree.{Types}
use Rattle.rt_model.specs.World.{Nothing, nothing}

-- the parts of a library among those of an application
pub record Carrying (Library Application : Types) : Type 0 where
  -- its components, what they are given, and what its listeners do
  pub component : Library.Component → Application.Component
  pub props : Library.Props → Application.Props
  pub handler : Library.Handler → Application.Handler
  -- the value that holds one of the library's, and the one that a value holds
  pub value : Library.Value → Application.Value
  pub held : Application.Value → Option Library.Value
  pub gives_back : (v : Library.Value) → held (value v) ≡ Some v
  -- what a payload carries for the library
  pub payload : Application.Payload → Option Library.Payload

-- those of the pages of an application, which have no tasks and no effects
abbrev pub in_pages : {C Q V H T E L : Type 0} {Library : Types} → Carrying Library (types C Q V H T E L) → Carrying Library (types C Q V H NoData NoData L)
in_pages k =
    record {
      component = k.component;
      props = k.props;
      handler = k.handler;
      value = k.value;
      held = k.held;
      gives_back = k.gives_back;
      payload = k.payload;
    }

module _ {P C Q V H T E L : Type 0} {Library : Types} where
  -- a component of the library, as a piece of a tree
  abbrev pub carried : Carrying Library (types C Q V H T E L) → Library.Component → Library.Props → Piece P C Q V H T E L
  carried k component props = child (k.component component) (k.props props)

module _ {Library Application : Types} where
  -- what a cell holds of the library; nothing where it is gone, or holds something else
  abbrev pub read_held : Carrying Library Application → ℕ → Program Application (Option Library.Value)
  read_held k n = read n (λ value. done (option_and_then k.held value))

  -- a cell is given a value of the library
  abbrev pub write_held : Carrying Library Application → ℕ → Library.Value → Program Application Nothing
  write_held k n value = write n (k.value value) (done nothing)
