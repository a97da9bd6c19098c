-- What the component and its listener are, and that the tests decide.
use Rattle.std.proofs.Common.{refl}
use Rattle.std.specs.Prelude.{ℕ, ◌+◌, true, codes, decimal, min, nat_eq, List, [], ◌∷◌, Option, Some, None}
use Rattle.std.specs.List.{slice_get}
use Rattle.rt_author.specs.Words.{AllDecide, Event, Keeping, NoData, Page, Paged, Pages, Reply, Types, VNode}
use Rattle.rt_author.specs.Words.{element, listens, last_number, placeholder_tree, plain_tests, shown, tree_of, types, view}
use Rattle.examples_template.specs.declared.application.Application.{Application}

abbrev pub OwnTypes : Types
OwnTypes = types NoData NoData ℕ ℕ NoData NoData NoData

-- the one component, and its props
abbrev pub nothing : NoData
nothing = record {}

-- hooks keep the numbers of cells as they are
abbrev pub keeping : Keeping ℕ
keeping = record { kind = 0; keeps = λ n. n; kept = λ n. Some n }

-- a tree of the application
abbrev pub OwnTree : Type 0
OwnTree = VNode (Paged Application NoData NoData ℕ ℕ NoData NoData NoData) NoData NoData ℕ ℕ NoData NoData NoData

-- a button of a scope that shows a number and raises its cell
abbrev pub button : ℕ → ℕ → ℕ → OwnTree
button scope cell number = view (element (codes "button") (listens (codes "onclick") scope cell) (shown (decimal number)))

-- the button, where its cell has a value
abbrev pub present : ℕ → Option ℕ → Option (Option ℕ) → OwnTree
present scope (Some cell) (Some (Some number)) = button scope cell number
present scope _ _ = placeholder_tree

-- the component
abbrev pub page : Page OwnTypes
page =
    record {
      cells = 0 ∷ [];
      reads = λ own. own;
      shows = λ scope own values. tree_of (present scope (slice_get own 0) (slice_get values 0));
    }

-- one more, up to the greatest number
abbrev pub raised : ℕ → Option (Option ℕ) → List (ℕ × ℕ)
raised cell (Some (Some number)) = (cell, min (number + 1) last_number) ∷ []
raised cell _ = []

-- the listener
abbrev pub reply : ℕ → Event OwnTypes → Reply OwnTypes
reply cell event = record { reads = cell ∷ []; writes = λ values. raised cell (slice_get values 0); leaves = event }

-- the whole application
abbrev pub answers : Pages OwnTypes
answers =
    record {
      root = nothing;
      same_component = λ a b. true;
      same_props = λ a b. true;
      same_value = nat_eq;
      same_handler = nat_eq;
      page = λ c p. page;
      reply = reply;
    }

pub decides : AllDecide OwnTypes answers
decides =
    record {
      components = (λ a b h. refl, λ a. refl);
      props = (λ a b h. refl, λ a. refl);
      values = plain_tests.numbers;
      handlers = plain_tests.numbers;
    }
