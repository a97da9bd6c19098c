-- What the list is: its trees, what its listeners write, its pages, and that its tests decide.
use Rattle.std.proofs.Common.{refl, inl, inr, zero, suc}
use Rattle.std.specs.Prelude.{ℕ, ◌+◌, Bool, ◌&&◌, ◌⊎◌, ◌≡◌, nat_eq, nat_le, List, [], ◌∷◌, ◌++◌, length, remove, codes}
use Rattle.std.specs.Prelude.{Option, Some, None, if◌then◌else◌}
use Rattle.std.specs.List.{slice_get}
use Rattle.rt_author.specs.Words.{AllDecide, Carrying, Event, Keeping, NoData, Page, Paged, Pages, Reply, Types, VNode}
use Rattle.rt_author.specs.Words.{coded_tests, either_tests, element, empty_attrs, listens, pair_tests, placeholder_tree, plain_tests}
use Rattle.rt_author.specs.Words.{row, same_either, several, text, tree_of, types, view}
use Rattle.rt_author.specs.Lists.{same_list, same_numbers}
use Rattle.rt_author.specs.Piece.{Piece}
use Rattle.examples_library.specs.Meaning.{Library, field_at, field_page, field_props, field_tests, line, same_field, typed_reply}
use Rattle.examples_library.specs.declared.parts.FieldProps.{FieldProps}
use Rattle.examples_library.specs.declared.parts.Typed.{Typed}
use Rattle.examples_list.specs.Tests.{list_tests}
use Rattle.examples_list.specs.declared.parts.Component.{Component}
use Rattle.examples_list.specs.declared.parts.Component.TheVariants as components
use Rattle.examples_list.specs.declared.parts.Value.{Value}
use Rattle.examples_list.specs.declared.parts.Value.TheVariants as values
use Rattle.examples_list.specs.declared.parts.Change.{Change}
use Rattle.examples_list.specs.declared.parts.Change.TheVariants as changes
use Rattle.examples_list.specs.declared.listed.Shopping.{Shopping}

abbrev pub ListTypes : Types
ListTypes = types Component FieldProps Value Change NoData NoData (List ℕ)

-- the application
abbrev pub App : Type 0
App = Paged Shopping Component FieldProps Value Change NoData NoData (List ℕ)

-- a tree of it, and a piece of one
abbrev pub ListTree : Type 0
ListTree = VNode App Component FieldProps Value Change NoData NoData (List ℕ)

abbrev pub ListPiece : Type 0
ListPiece = Piece App Component FieldProps Value Change NoData NoData (List ℕ)

-- what was typed, where a value is that
abbrev pub words_of : Value → Option (List ℕ)
words_of (values.Words words) = Some words
words_of _ = None

-- of a value that was read
abbrev pub words_in : Option (Option Value) → Option (List ℕ)
words_in (Some (Some (values.Words words))) = Some words
words_in _ = None

-- the items, of a value that was read
abbrev pub items_in : Option (Option Value) → Option (List (List ℕ))
items_in (Some (Some (values.Items items))) = Some items
items_in _ = None

-- the number of a cell, where a value keeps that
abbrev pub cell_in : Value → Option ℕ
cell_in (values.Cell cell) = Some cell
cell_in _ = None

-- hooks keep the numbers of cells as values of their own
abbrev pub keeping : Keeping Value
keeping = record { kind = 0; keeps = λ n. values.Cell n; kept = cell_in }

-- the library's parts among the application's
abbrev pub carrying : Carrying Library ListTypes
carrying =
    record {
      component = λ c. components.Field;
      props = λ p. p;
      handler = λ typed. changes.Field typed;
      value = λ words. values.Words words;
      held = words_of;
      gives_back = λ words. refl;
      payload = λ words. Some words;
    }

-- the items from a position on: each with a button that takes it out
abbrev pub lines : ℕ → ℕ → ℕ → List (List ℕ) → List ListTree
lines scope cell at [] = []
lines scope cell at (words ∷ items) = line scope words (changes.Remove cell at) ∷ lines scope cell (at + 1) items

-- the field for what is wanted
abbrev pub draft_field : ℕ → ListPiece
draft_field cell = field_at carrying (field_props cell (codes "Wanted") (codes "Say what"))

-- the button that adds what was typed
abbrev pub add_button : ℕ → ℕ → ℕ → ListPiece
add_button scope draft cell =
    element (codes "button") (listens (codes "onclick") scope (changes.Add draft cell)) (text (codes "Add"))

-- the field, a button, and the items
abbrev pub whole : ℕ → ℕ → ℕ → List (List ℕ) → ListTree
whole scope draft cell items =
    view (row
    (draft_field draft
    ∷ add_button scope draft cell
    ∷ element (codes "ul") empty_attrs (several (lines scope cell 0 items))
    ∷ []))

-- what is shown of the two cells and of the items that were read
abbrev pub present : ℕ → Option ℕ → Option ℕ → Option (List (List ℕ)) → ListTree
present scope (Some draft) (Some cell) (Some items) = whole scope draft cell items
present scope _ _ _ = placeholder_tree

-- the cell, where there is one
abbrev pub only : Option ℕ → List ℕ
only (Some cell) = cell ∷ []
only None = []

-- what the whole keeps: what was typed, and the items; it runs again for the items alone
abbrev pub page : Component → FieldProps → Page ListTypes
page components.Whole p =
    record {
      cells = values.Words [] ∷ values.Items [] ∷ [];
      reads = λ own. only (slice_get own 1);
      shows = λ scope own read. tree_of (present scope (slice_get own 0) (slice_get own 1) (items_in (slice_get read 0)));
    }
page components.Field p = field_page App carrying p

-- words become an item, and the field is emptied
abbrev pub with_words : ℕ → ℕ → List ℕ → List (List ℕ) → List (ℕ × Value)
with_words draft cell [] items = []
with_words draft cell (c ∷ cs) items =
    (draft, values.Words []) ∷ (cell, values.Items (items ++ (c ∷ cs) ∷ [])) ∷ []

-- the writes of the button
abbrev pub added : ℕ → ℕ → Option (List ℕ) → Option (List (List ℕ)) → List (ℕ × Value)
added draft cell (Some words) (Some items) = with_words draft cell words items
added draft cell _ _ = []

-- the writes of the button of an item
abbrev pub removed : ℕ → ℕ → Option (List (List ℕ)) → List (ℕ × Value)
removed cell at None = []
removed cell at (Some items) = if nat_le (length items) at then [] else (cell, values.Items (remove items at)) ∷ []

-- the listeners
abbrev pub reply : Change → Event ListTypes → Reply ListTypes
reply (changes.Add draft cell) event =
    record {
      reads = draft ∷ cell ∷ [];
      writes = λ read. added draft cell (words_in (slice_get read 0)) (items_in (slice_get read 1));
      leaves = event;
    }
reply (changes.Remove cell at) event =
    record { reads = cell ∷ []; writes = λ read. removed cell at (items_in (slice_get read 0)); leaves = event }
reply (changes.Field typed) event = typed_reply carrying typed event

-- components by number, and back
abbrev pub number : Component → ℕ
number components.Whole = 0
number components.Field = 1

abbrev pub component : ℕ → Component
component zero = components.Whole
component (suc n) = components.Field

component_back : (c : Component) → component (number c) ≡ c
component_back components.Whole = refl
component_back components.Field = refl

-- values as one of three types, and back
abbrev pub value_code : Value → ℕ ⊎ (List ℕ ⊎ List (List ℕ))
value_code (values.Cell cell) = inl cell
value_code (values.Words words) = inr (inl words)
value_code (values.Items items) = inr (inr items)

abbrev pub value_of : ℕ ⊎ (List ℕ ⊎ List (List ℕ)) → Value
value_of (inl cell) = values.Cell cell
value_of (inr (inl words)) = values.Words words
value_of (inr (inr items)) = values.Items items

value_back : (v : Value) → value_of (value_code v) ≡ v
value_back (values.Cell cell) = refl
value_back (values.Words words) = refl
value_back (values.Items items) = refl

-- the test of these types
abbrev pub same_value : ℕ ⊎ (List ℕ ⊎ List (List ℕ)) → ℕ ⊎ (List ℕ ⊎ List (List ℕ)) → Bool
same_value = same_either nat_eq (same_either same_numbers (same_list same_numbers))

-- listeners as one of three types, and back
abbrev pub change_code : Change → (ℕ × ℕ) ⊎ ((ℕ × ℕ) ⊎ ℕ)
change_code (changes.Add draft cell) = inl (draft, cell)
change_code (changes.Remove cell at) = inr (inl (cell, at))
change_code (changes.Field typed) = inr (inr typed.cell)

abbrev pub change_of : (ℕ × ℕ) ⊎ ((ℕ × ℕ) ⊎ ℕ) → Change
change_of (inl x) = changes.Add x.0 x.1
change_of (inr (inl x)) = changes.Remove x.0 x.1
change_of (inr (inr cell)) = changes.Field (record { cell = cell })

change_back : (c : Change) → change_of (change_code c) ≡ c
change_back (changes.Add draft cell) = refl
change_back (changes.Remove cell at) = refl
change_back (changes.Field typed) = refl

-- pairs of numbers
abbrev pub same_pair : ℕ × ℕ → ℕ × ℕ → Bool
same_pair a b = nat_eq a.0 b.0 && nat_eq a.1 b.1

abbrev pub same_change : (ℕ × ℕ) ⊎ ((ℕ × ℕ) ⊎ ℕ) → (ℕ × ℕ) ⊎ ((ℕ × ℕ) ⊎ ℕ) → Bool
same_change = same_either same_pair (same_either same_pair nat_eq)

-- what the whole is given
abbrev pub no_props : FieldProps
no_props = field_props 0 [] []

-- the whole application
abbrev pub answers : Pages ListTypes
answers =
    record {
      root = components.Whole;
      same_component = λ a b. nat_eq (number a) (number b);
      same_props = same_field;
      same_value = λ a b. same_value (value_code a) (value_code b);
      same_handler = λ a b. same_change (change_code a) (change_code b);
      page = page;
      reply = reply;
    }

pub decides : AllDecide ListTypes answers
decides =
    let pairs = pair_tests nat_eq nat_eq plain_tests.numbers plain_tests.numbers in
    record {
      components = coded_tests number component nat_eq component_back plain_tests.numbers;
      props = field_tests;
      values =
          coded_tests value_code value_of same_value value_back
          (either_tests nat_eq (same_either same_numbers (same_list same_numbers)) plain_tests.numbers
          (either_tests same_numbers (same_list same_numbers) plain_tests.texts (list_tests same_numbers plain_tests.texts)));
      handlers =
          coded_tests change_code change_of same_change change_back
          (either_tests same_pair (same_either same_pair nat_eq) pairs (either_tests same_pair nat_eq pairs plain_tests.numbers));
    }
