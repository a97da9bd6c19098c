-- What the router shows, what its calls are, and that its tests decide.
use Rattle.std.proofs.Common.{zero, suc, refl}
use Rattle.std.specs.Prelude.{ℕ, false, List, [], ◌∷◌, codes, nat_eq, ◌≡◌, Option, Some, None, if◌then◌else◌}
use Rattle.rt_author.specs.Words.{Bodied, Element, Event, Keeping, NoData, Program, Programs, ProgramsDecide, Types, VNode}
use Rattle.rt_author.specs.Words.{child, coded_tests, consume_context, current_scope, done, element, empty_attrs, go_on, listens}
use Rattle.rt_author.specs.Words.{nothing, own_cell, placeholder_tree, plain_tests, provide, read, ready, rendered, row, shown}
use Rattle.rt_author.specs.Words.{tree_of, types, view, write}
use Rattle.examples_router.specs.declared.router.Component.{Component}
use Rattle.examples_router.specs.declared.router.Component.TheVariants.{Top, Link, Page}
use Rattle.examples_router.specs.declared.router.Router.{Router}

abbrev pub RouterTypes : Types
RouterTypes = types Component ℕ ℕ ℕ NoData NoData NoData

-- hooks keep the numbers of cells as they are
abbrev pub keeping : Keeping ℕ
keeping = record { kind = 0; keeps = λ n. n; kept = λ n. Some n }

-- a tree of the application
abbrev pub RouterTree : Type 0
RouterTree = VNode (Bodied Router Component ℕ ℕ ℕ NoData NoData NoData) Component ℕ ℕ ℕ NoData NoData NoData

-- the name of a route
abbrev pub name_of : ℕ → List ℕ → List ℕ
name_of route other = if nat_eq route 0 then codes "Home" else if nat_eq route 1 then codes "Plants" else other

-- three links, and the page below them
abbrev pub all : RouterTree
all = view (row (child Link 0 ∷ child Link 1 ∷ child Link 2 ∷ child Page 0 ∷ []))

-- a link of a scope to a route
abbrev pub link : ℕ → ℕ → RouterTree
link scope to = view (element (codes "a") (listens (codes "onclick") scope to) (shown (name_of to (codes "Nowhere"))))

-- the page of a route
abbrev pub heading : ℕ → RouterTree
heading route = view (element (codes "h1") empty_attrs (shown (name_of route (codes "Not found"))))

-- a body's answer
abbrev pub tree : RouterTree → Program RouterTypes (Element RouterTypes)
tree t = done (rendered (tree_of t))

-- the cell is provided, and all is shown
abbrev pub with_cell : Option ℕ → Program RouterTypes (Element RouterTypes)
with_cell None = tree placeholder_tree
with_cell (Some cell) = provide false 0 cell (tree all)

-- the page of the route that was read
abbrev pub of_route : Option ℕ → Program RouterTypes (Element RouterTypes)
of_route None = tree placeholder_tree
of_route (Some route) = tree (heading route)

-- the page of the cell
abbrev pub of_cell : Option ℕ → Program RouterTypes (Element RouterTypes)
of_cell None = tree placeholder_tree
of_cell (Some cell) = read cell (λ route. of_route route)

-- the body of a component
abbrev pub body : Component → ℕ → Program RouterTypes (Element RouterTypes)
body Top props = go_on (own_cell keeping 0) (λ cell. with_cell cell)
body Link props = current_scope (λ scope. tree (link scope props))
body Page props = consume_context None 0 (λ cell. of_cell cell)

-- a route is written to the cell
abbrev pub gone : ℕ → Event RouterTypes → Option ℕ → Program RouterTypes (Event RouterTypes)
gone to event None = done event
gone to event (Some cell) = write cell to (done event)

-- components by number, and back
abbrev pub number : Component → ℕ
number Top = 0
number Link = 1
number Page = 2

abbrev component : ℕ → Component
component zero = Top
component (suc zero) = Link
component (suc (suc n)) = Page

back : (c : Component) → component (number c) ≡ c
back Top = refl
back Link = refl
back Page = refl

-- its calls
abbrev pub programs : Programs RouterTypes
programs =
    record {
      root = Top;
      same_component = λ a b. nat_eq (number a) (number b);
      same_props = nat_eq;
      same_value = nat_eq;
      same_handler = nat_eq;
      memoize = λ c p q. nat_eq p q;
      body = body;
      poll = λ s. done ready;
      effect = λ e. done nothing;
      handle = λ to event. consume_context None 0 (λ cell. gone to event cell);
    }

pub decides : ProgramsDecide RouterTypes programs
decides =
    record {
      memoized = λ c p q. refl;
      components = coded_tests number component nat_eq back plain_tests.numbers;
      props = plain_tests.numbers;
      values = plain_tests.numbers;
      handlers = plain_tests.numbers;
    }
