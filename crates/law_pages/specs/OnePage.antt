-- What shows of one component that is a page, in an application whose other components may be anything.
use Rattle.std.specs.Prelude.{ℕ, List, map, length, Option, Some, ◌≡◌}
use Rattle.rt_model.specs.Current.{AllCurrent}
use Rattle.rt_model.specs.Lists.{at}
use Rattle.rt_model.specs.Program.{Program, done, read, current_scope, body_means}
use Rattle.rt_model.specs.State.{State, Scope, LastCall}
use Rattle.rt_model.specs.Tree.{Types, Own, Tree, Element, rendered}
use Rattle.rt_model.specs.World.{World, Application}
use Rattle.author_programs.specs.Cells.{Keeping}
use Rattle.author_programs.specs.Pages.{Page, page_body}
use Rattle.author_programs.specs.Present.{value_now}
use Rattle.author_programs.specs.Sequence.{go_on}
use Rattle.author_programs.specs.Shows.{KeepAll}

-- where every output is current, a scope of such a component whose hooks keep the page's cells shows its function of the present values
abbrev pub OnePageShows : Types → Type 0
OnePageShows K =
    (app : Application K) (k : Keeping K.Value) (page : Page K) (c : K.Component) (p : K.Props)
    → ((v : World K) → app.body c p v ≡ body_means (page_body k page) v)
    → (w : State K)
    → AllCurrent app w
    → (s : ℕ) (x : Scope K) (last : LastCall K) (own : List ℕ)
    → at w.scopes s ≡ Some x
    → at w.last_calls s ≡ Some last
    → x.component ≡ Own c p
    → KeepAll k last.given.given.hooks 0 own
    → length page.cells ≡ length own
    → x.main_side.output ≡ Some (page.shows last.given.given.scope own (map (value_now w last) (page.reads own)))

-- a body that reads a cell and shows, of its scope, a function of what it read
abbrev pub one_read : {K : Types} → ℕ → (ℕ → Option K.Value → Tree K) → Program K (Element K)
one_read n shows = go_on (read n (λ value. done value)) (λ value. current_scope (λ scope. done (rendered (shows scope value))))

-- where every output is current, a scope whose component has such a body shows the function of the cell's present value
abbrev pub OneReadShows : Types → Type 0
OneReadShows K =
    (app : Application K) (k : Keeping K.Value) (n : ℕ) (shows : ℕ → Option K.Value → Tree K) (c : K.Component) (p : K.Props)
    → ((v : World K) → app.body c p v ≡ body_means (one_read n shows) v)
    → (w : State K)
    → AllCurrent app w
    → (s : ℕ) (x : Scope K) (last : LastCall K)
    → at w.scopes s ≡ Some x
    → at w.last_calls s ≡ Some last
    → x.component ≡ Own c p
    → x.main_side.output ≡ Some (shows last.given.given.scope (value_now w last n))
