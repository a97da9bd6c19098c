-- What the board shows, what its calls are, and that its tests decide.
use Rattle.std.proofs.Common.{refl, zero, suc}
use Rattle.std.specs.Prelude.{ℕ, ◌+◌, Bool, true, false, ◌&&◌, List, [], ◌∷◌, ◌++◌, codes, decimal, min, nat_eq, ◌≡◌}
use Rattle.std.specs.Prelude.{Option, Some, None, Ok, if◌then◌else◌}
use Rattle.rt_author.specs.Words.{Bodied, Element, Event, Keeping, NoData, Pair, Program, Programs, ProgramsDecide, TaskStep, Types, VNode}
use Rattle.rt_author.specs.Words.{captured, child, clean_up_kind, clear_errors, coded_tests, current_scope, done, element, empty_attrs}
use Rattle.rt_author.specs.Words.{error, error_boundary, failed, given_tests, go_on, last_number, listens, nothing, own_cell, pair_tests}
use Rattle.rt_author.specs.Words.{pending, placeholder_tree, plain_tests, queue_effect, ready, rendered, row, same_given, shown, spawn}
use Rattle.rt_author.specs.Words.{suspended, suspense_boundary, text, tree_of, types, use_effect, view, write}
use Rattle.rt_author.specs.CapturedError.{CapturedError}
use Rattle.rt_author.specs.ErrorHandler.TheVariants as handlers
use Rattle.rt_author.specs.Fallback.TheVariants as fallbacks
use Rattle.rt_author.specs.Given.{Given}
use Rattle.rt_author.specs.Given.TheViews.{out-Given, roll-Given}
use Rattle.rt_author.specs.Piece.{Piece}
use Rattle.rt_author.specs.Signals.{get, own_pair, set}
use Rattle.rt_author.specs.Tree as model
use Rattle.rt_author.specs.World as world
use Rattle.examples_library.specs.Meaning.{card}
use Rattle.examples_board.specs.declared.board.Board.{Board}
use Rattle.examples_board.specs.declared.parts.Cells.{Cells}
use Rattle.examples_board.specs.declared.parts.Component.{Component}
use Rattle.examples_board.specs.declared.parts.Component.TheVariants as components
use Rattle.examples_board.specs.declared.parts.Loading.{Loading}
use Rattle.examples_board.specs.declared.parts.Loading.TheVariants as loadings

-- what a component is given
abbrev pub Props : Type 0
Props = Given Component Cells

abbrev pub BoardTypes : Types
BoardTypes = types Component Props ℕ Cells Loading ℕ NoData

-- hooks keep the numbers of cells as they are
abbrev pub keeping : Keeping ℕ
keeping = record { kind = 0; keeps = λ n. n; kept = λ n. Some n }

-- the application
abbrev pub App : Type 0
App = Bodied Board Component Props ℕ Cells Loading ℕ NoData

-- a tree of it, and a piece of one
abbrev pub BoardTree : Type 0
BoardTree = VNode App Component Props ℕ Cells Loading ℕ NoData

abbrev pub BoardPiece : Type 0
BoardPiece = Piece App Component Props ℕ Cells Loading ℕ NoData

-- the cells of who has none
abbrev pub none : Cells
none = record { tries = 0; log = 0 }

-- what a component without children is given
abbrev pub given : Cells → Props
given cells = roll-Given Component Cells (record { own = cells; inside = [] })

-- a component without children, as a tree
abbrev pub alone : Component → Cells → BoardTree
alone component cells = view (child component (given cells))

-- the news within an error boundary, whose handler is the refusal
abbrev pub guarded : Cells → BoardPiece
guarded cells = error_boundary (Ok (alone components.News cells)) (handlers.Component components.Refusal (given cells))

-- the letter within a suspense boundary
abbrev pub awaited : Cells → BoardPiece
awaited cells = suspense_boundary (Ok (alone components.Letter cells)) (fallbacks.Component components.Waiting (given cells))

-- how many entries the log has
abbrev pub log_at : ℕ → BoardPiece
log_at entries = element (codes "p") empty_attrs (shown (decimal entries ++ codes " entries"))

-- the desk: the news, the letter, and the log
abbrev pub desk_at : Cells → ℕ → BoardTree
desk_at cells entries = view (row (guarded cells ∷ awaited cells ∷ log_at entries ∷ []))

-- the desk, where the cell of the log is there
abbrev pub desk_face : Cells → Option ℕ → BoardTree
desk_face cells None = placeholder_tree
desk_face cells (Some entries) = desk_at cells entries

-- a line of these words
abbrev pub line : List ℕ → BoardTree
line words = view (element (codes "p") empty_attrs (text words))

-- a button that tries again
abbrev pub retries : ℕ → Cells → BoardPiece
retries scope cells = element (codes "button") (listens (codes "onclick") scope cells) (text (codes "try again"))

-- the words of a refusal, and the button
abbrev pub refusal_at : ℕ → Cells → List ℕ → BoardTree
refusal_at scope cells words = view (row (shown words ∷ retries scope cells ∷ []))

-- they show where there is an error
abbrev pub refusal_face : ℕ → Cells → Option (List ℕ) → BoardTree
refusal_face scope cells None = placeholder_tree
refusal_face scope cells (Some words) = refusal_at scope cells words

-- the card at the top
abbrev pub top : Props → BoardTree
top props = card (λ given. given) (codes "Board") (out-Given Component Cells props).inside

-- a body, and one that answers a tree
abbrev pub Body : Type 0
Body = Program BoardTypes (Element BoardTypes)

abbrev pub tree : BoardTree → Body
tree t = done (rendered (tree_of t))

-- the desk, of its cells
abbrev pub desk_of : Cells → Body
desk_of cells = go_on (get cells.log) (λ entries. tree (desk_face cells entries))

abbrev pub desk_in : Option Pair → Body
desk_in None = tree placeholder_tree
desk_in (Some pair) = desk_of (record { tries = pair.source.0; log = pair.derived.0 })

abbrev pub desk : Body
desk = go_on (own_pair keeping 0 0) (λ pair. desk_in pair)

-- an error in the place of a tree
abbrev pub with_error : Option model.CapturedError → Body
with_error None = tree placeholder_tree
with_error (Some e) = done (failed e)

abbrev pub refused : Body
refused = captured (codes "no news yet") (λ e. with_error e)

-- the news; once they show, an effect logs that they came
abbrev pub arrived : ℕ → Body
arrived log = queue_effect log (tree (line (codes "news")))

-- the news after so many tries
abbrev pub told_after : ℕ → ℕ → Body
told_after log tries = if nat_eq tries 0 then refused else arrived log

abbrev pub told : ℕ → Option ℕ → Body
told log None = tree placeholder_tree
told log (Some tries) = told_after log tries

abbrev pub news_at : Cells → Body
news_at cells = go_on (get cells.tries) (λ tries. told cells.log tries)

-- a clean-up is kept, unless another hook stands there
abbrev pub stood : Bool → Option (Unit {0})
stood true = Some tt
stood false = None

abbrev pub cleaned : ℕ → Program BoardTypes (Option (Unit {0}))
cleaned log = use_effect clean_up_kind log (λ stands. done (stood stands))

-- the news, once they keep their clean-up, which logs that they went
abbrev pub news_in : Cells → Option (Unit {0}) → Body
news_in cells None = tree placeholder_tree
news_in cells (Some _) = news_at cells

abbrev pub news : Cells → Body
news cells = go_on (cleaned cells.log) (λ kept. news_in cells kept)

-- the words of an error, as code has it and as the model does
abbrev pub words_of : Option CapturedError → Option (List ℕ)
words_of None = None
words_of (Some e) = Some e.text

abbrev pub words_in : Option model.CapturedError → Option (List ℕ)
words_in None = None
words_in (Some e) = Some e.text

-- the handler of the error boundary
abbrev pub refusal_of : Cells → Option model.CapturedError → Body
refusal_of cells e = current_scope (λ scope. tree (refusal_face scope cells (words_in e)))

abbrev pub refusal : Cells → Body
refusal cells = error (λ e. refusal_of cells e)

-- a suspension on the task that fetches the letter
abbrev pub waits : Option ℕ → Body
waits None = tree placeholder_tree
waits (Some task) = current_scope (λ scope. done (suspended scope task))

abbrev pub awaits : ℕ → Body
awaits cell = spawn (loadings.Asks cell) false false (λ task. waits task)

-- the letter, where its cell has one
abbrev pub opened_of : ℕ → ℕ → Body
opened_of cell letters = if nat_eq letters 0 then awaits cell else tree (line (codes "a letter"))

abbrev pub opened : ℕ → Option ℕ → Body
opened cell None = tree placeholder_tree
opened cell (Some letters) = opened_of cell letters

abbrev pub letter_at : ℕ → Body
letter_at cell = go_on (get cell) (λ letters. opened cell letters)

abbrev pub letter_in : Option ℕ → Body
letter_in None = tree placeholder_tree
letter_in (Some cell) = letter_at cell

abbrev pub letter : Body
letter = go_on (own_cell keeping 0) (λ cell. letter_in cell)

-- the body of a component
abbrev pub body : Component → Props → Body
body components.Card props = tree (top props)
body components.Desk props = desk
body components.News props = news (out-Given Component Cells props).own
body components.Refusal props = refusal (out-Given Component Cells props).own
body components.Letter props = letter
body components.Waiting props = tree (line (codes "waiting"))

-- a step of the task: it asks, and at the next wake the letter is there
abbrev pub fetch : Loading → Program BoardTypes (TaskStep BoardTypes)
fetch (loadings.Asks cell) = done (pending (loadings.Waits cell))
fetch (loadings.Waits cell) = write cell 1 (done ready)

-- a cell is raised by one, where it is there
abbrev pub raised : ℕ → Option ℕ → Program BoardTypes world.Nothing
raised cell None = done nothing
raised cell (Some number) = set cell (min (number + 1) last_number)

abbrev pub raise : ℕ → Program BoardTypes world.Nothing
raise cell = go_on (get cell) (λ number. raised cell number)

-- the button: a try is counted, and the error boundary shows the news again
abbrev pub retry : Cells → Event BoardTypes → Program BoardTypes (Event BoardTypes)
retry cells event = go_on (raise cells.tries) (λ _. clear_errors (done event))

-- components by number, and back
abbrev pub number : Component → ℕ
number components.Card = 0
number components.Desk = 1
number components.News = 2
number components.Refusal = 3
number components.Letter = 4
number components.Waiting = 5

abbrev pub component : ℕ → Component
component zero = components.Card
component (suc zero) = components.Desk
component (suc (suc zero)) = components.News
component (suc (suc (suc zero))) = components.Refusal
component (suc (suc (suc (suc zero)))) = components.Letter
component (suc (suc (suc (suc (suc n))))) = components.Waiting

back : (c : Component) → component (number c) ≡ c
back components.Card = refl
back components.Desk = refl
back components.News = refl
back components.Refusal = refl
back components.Letter = refl
back components.Waiting = refl

-- cells as a pair, and back
abbrev pub code : Cells → ℕ × ℕ
code cells = (cells.tries, cells.log)

abbrev pub cells_of : ℕ × ℕ → Cells
cells_of pair = record { tries = pair.0; log = pair.1 }

abbrev pub same_pair : ℕ × ℕ → ℕ × ℕ → Bool
same_pair a b = nat_eq a.0 b.0 && nat_eq a.1 b.1

abbrev pub same_component : Component → Component → Bool
same_component a b = nat_eq (number a) (number b)

abbrev pub same_cells : Cells → Cells → Bool
same_cells a b = same_pair (code a) (code b)

-- its calls
abbrev pub programs : Programs BoardTypes
programs =
    record {
      root = components.Card;
      same_component = same_component;
      same_props = same_given same_component same_cells;
      same_value = nat_eq;
      same_handler = same_cells;
      memoize = λ c p q. same_given same_component same_cells p q;
      body = body;
      poll = fetch;
      effect = λ cell. raise cell;
      handle = retry;
    }

pub decides : ProgramsDecide BoardTypes programs
decides =
    let parts = coded_tests number component nat_eq back plain_tests.numbers in
    let cells = coded_tests code cells_of same_pair (λ c. refl) (pair_tests nat_eq nat_eq plain_tests.numbers plain_tests.numbers) in
    record {
      memoized = λ c p q. refl;
      components = parts;
      props = given_tests same_component same_cells parts cells;
      values = plain_tests.numbers;
      handlers = cells;
    }
