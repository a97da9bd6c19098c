-- What the component, its derived cell and its listener are, and that the tests decide.
use Rattle.std.proofs.Common.{refl}
use Rattle.std.specs.Prelude.{ℕ, true, List, [], ◌∷◌, codes, nat_eq, nat_lt, Option, Some, None, if◌then◌else◌}
use Rattle.std.specs.List.{slice_get}
use Rattle.rt_author.specs.Words.{AllDecide, Derivations, DerivedTree, Event, NoData, Page, Pages, Reply, Types}
use Rattle.rt_author.specs.Words.{derived_types, element, listens, placeholder_tree, plain_tests, shown, tree_of, view}
use Rattle.examples_template.specs.Meaning.{raised}
use Rattle.examples_template.specs.declared.tally.Tally.{Tally}

-- its values, handlers and formulas are numbers
abbrev pub TallyTypes : Types
TallyTypes = derived_types NoData NoData ℕ ℕ ℕ NoData

abbrev pub TallyTree : Type 0
TallyTree = DerivedTree Tally NoData NoData ℕ ℕ ℕ NoData NoData

-- a cell, where it is had
abbrev pub listed : Option ℕ → List ℕ
listed None = []
listed (Some cell) = cell ∷ []

-- whether a count is many
abbrev pub is_many : ℕ → ℕ
is_many count = if nat_lt 1 count then 1 else 0

-- so of what was read
abbrev pub many : Option (Option ℕ) → ℕ
many (Some (Some count)) = is_many count
many _ = 0

-- what the button says
abbrev pub word : ℕ → List ℕ
word said = if nat_eq said 0 then codes "few" else codes "many"

-- the button of a scope
abbrev pub button : ℕ → ℕ → ℕ → TallyTree
button scope count said = view (element (codes "button") (listens (codes "onclick") scope count) (shown (word said)))

-- where its cells have values
abbrev pub face : ℕ → Option ℕ → Option (Option ℕ) → TallyTree
face scope (Some count) (Some (Some said)) = button scope count said
face scope _ _ = placeholder_tree

-- the component: it has the count, and reads the derived cell behind it
abbrev pub page : Page TallyTypes
page =
    record {
      cells = 0 ∷ [];
      reads = λ all. listed (slice_get all 1);
      shows = λ scope all values. tree_of (face scope (slice_get all 0) (slice_get values 0));
    }

-- the listener
abbrev pub reply : ℕ → Event TallyTypes → Reply TallyTypes
reply cell event = record { reads = cell ∷ []; writes = λ values. raised cell (slice_get values 0); leaves = event }

-- the one component, and its props
abbrev pub none : NoData
none = record {}

abbrev pub pages : Pages TallyTypes
pages =
    record {
      root = none;
      same_component = λ a b. true;
      same_props = λ a b. true;
      same_value = nat_eq;
      same_handler = nat_eq;
      page = λ c p. page;
      reply = reply;
    }

-- the whole application: it derives of the count whether it is many
abbrev pub answers : Derivations TallyTypes ℕ
answers =
    record {
      pages = pages;
      derived = λ c p own. listed (slice_get own 0);
      sources = λ count. count ∷ [];
      value = λ count values. many (slice_get values 0);
      empty = 0;
    }

pub decides : AllDecide TallyTypes pages
decides =
    record {
      components = (λ a b h. refl, λ a. refl);
      props = (λ a b h. refl, λ a. refl);
      values = plain_tests.numbers;
      handlers = plain_tests.numbers;
    }
