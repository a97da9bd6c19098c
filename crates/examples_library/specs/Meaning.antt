-- What a field, a card, tabs and a line are, for every application.
use Rattle.std.proofs.Common.{refl}
use Rattle.std.specs.Prelude.{ℕ, nat_eq, Bool, true, false, ◌&&◌, List, [], ◌∷◌, codes, map, Option, Some, None}
use Rattle.std.specs.List.{slice_get}
use Rattle.rt_author.specs.Words.{Carrying, Element, Event, NoData, Page, Program, Reply, Types, VNode}
use Rattle.rt_author.specs.Words.{attrs, child, current_scope, done, element, empty_attrs, empty_piece, go_on, listens}
use Rattle.rt_author.specs.Words.{coded_tests, pair_tests, placeholder_tree, plain_tests, rendered, row, says, several, shown, text}
use Rattle.rt_author.specs.Words.{tree_of, types, view, when}
use Rattle.rt_author.specs.Carrying.{carried, read_held, write_held}
use Rattle.rt_author.specs.Piece.{Piece}
use Rattle.rt_author.specs.Laws.{Tests}
use Rattle.rt_author.specs.Lists.{same_numbers}
use Rattle.rt_author.specs.Given.{Given}
use Rattle.rt_author.specs.Given.TheViews.{out-Inside}
use Rattle.rt_author.specs.Inside.{Inside}
use Rattle.examples_library.specs.declared.parts.FieldProps.{FieldProps}
use Rattle.examples_library.specs.declared.parts.Typed.{Typed}

-- the library, by its types
abbrev pub Library : Types
Library = types NoData FieldProps (List ℕ) Typed NoData NoData (List ℕ)

-- what a field is given, of its cell and its words
abbrev pub field_props : ℕ → List ℕ → List ℕ → FieldProps
field_props cell label refusal = record { cell = cell; label = label; refusal = refusal }

-- what a field is given, as a pair, and back
abbrev pub field_code : FieldProps → ℕ × (List ℕ × List ℕ)
field_code p = (p.cell, (p.label, p.refusal))

abbrev pub field_of : ℕ × (List ℕ × List ℕ) → FieldProps
field_of x = record { cell = x.0; label = x.1.0; refusal = x.1.1 }

-- the test of texts in pairs
abbrev pub same_texts : List ℕ × List ℕ → List ℕ × List ℕ → Bool
same_texts a b = same_numbers a.0 b.0 && same_numbers a.1 b.1

-- fields are given the same
abbrev pub same_field : FieldProps → FieldProps → Bool
same_field p q = nat_eq p.cell q.cell && same_texts (field_code p).1 (field_code q).1

pub field_tests : Tests FieldProps same_field
field_tests =
    coded_tests field_code field_of (λ a b. nat_eq a.0 b.0 && same_texts a.1 b.1) (λ p. refl)
    (pair_tests nat_eq same_texts plain_tests.numbers (pair_tests same_numbers same_numbers plain_tests.texts plain_tests.texts))

module _ {P C Q V H T E L : Type 0} where
  -- a field, as a piece of a tree
  abbrev pub field_at : Carrying Library (types C Q V H T E L) → FieldProps → Piece P C Q V H T E L
  field_at k props = carried k (record {}) props

  -- a refusal while there is no text
  abbrev pub said : List ℕ → List ℕ → Piece P C Q V H T E L
  said [] refusal = shown refusal
  said (c ∷ cs) refusal = when None

  -- the tree of a field
  abbrev pub face : Carrying Library (types C Q V H T E L) → ℕ → FieldProps → List ℕ → VNode P C Q V H T E L
  face k scope props text =
      view (row
      (element (codes "label") empty_attrs (shown props.label)
      ∷ element (codes "input")
      (attrs (listens (codes "oninput") scope (k.handler (record { cell = props.cell })) ∷ says (codes "value") text ∷ []))
      empty_piece
      ∷ said text props.refusal
      ∷ []))

  -- what it shows of what its cell holds
  abbrev pub present : Carrying Library (types C Q V H T E L) → ℕ → FieldProps → Option (List ℕ) → VNode P C Q V H T E L
  present k scope props None = placeholder_tree
  present k scope props (Some text) = face k scope props text

  -- of the value that it read
  abbrev pub field_shows : Carrying Library (types C Q V H T E L) → ℕ → FieldProps → Option (Option V) → VNode P C Q V H T E L
  field_shows k scope props (Some (Some value)) = present k scope props (k.held value)
  field_shows k scope props _ = placeholder_tree

-- the cells that a field reads
abbrev pub field_reads : FieldProps → List ℕ
field_reads props = props.cell ∷ []

module _ {C Q V H T E L : Type 0} where
  -- a field as a page
  abbrev pub field_page : (P : Type 0) → Carrying Library (types C Q V H T E L) → FieldProps → Page (types C Q V H T E L)
  field_page P k props =
      record {
        cells = [];
        reads = λ own. field_reads props;
        shows = λ scope own values. tree_of (field_shows {P = P} k scope props (slice_get values 0));
      }

  -- what its listener writes, of what was typed
  abbrev pub typed_writes : Carrying Library (types C Q V H T E L) → Typed → Option (List ℕ) → List (ℕ × V)
  typed_writes k typed None = []
  typed_writes k typed (Some text) = (typed.cell, k.value text) ∷ []

  -- its listener, of pages
  abbrev pub typed_reply : Carrying Library (types C Q V H T E L) → Typed → Event (types C Q V H T E L) → Reply (types C Q V H T E L)
  typed_reply k typed event =
      record { reads = []; writes = λ values. typed_writes k typed (k.payload event.payload); leaves = event }

  -- what a body shows of what it read
  abbrev pub faced :
      (P : Type 0) → Carrying Library (types C Q V H T E L) → FieldProps → Option (List ℕ)
      → Program (types C Q V H T E L) (Element (types C Q V H T E L))
  faced P k props held = current_scope (λ scope. done (rendered (tree_of (present {P = P} k scope props held))))

  -- a field as a body
  abbrev pub field :
      (P : Type 0) → Carrying Library (types C Q V H T E L) → FieldProps → Program (types C Q V H T E L) (Element (types C Q V H T E L))
  field P k props = go_on (read_held k props.cell) (λ held. faced P k props held)

  -- what was typed is written
  abbrev pub written :
      Carrying Library (types C Q V H T E L) → ℕ → Event (types C Q V H T E L) → Option (List ℕ)
      → Program (types C Q V H T E L) (Event (types C Q V H T E L))
  written k cell event None = done event
  written k cell event (Some text) = go_on (write_held k cell text) (λ _. done event)

  -- its listener, of bodies
  abbrev pub typed_in :
      Carrying Library (types C Q V H T E L) → Typed → Event (types C Q V H T E L)
      → Program (types C Q V H T E L) (Event (types C Q V H T E L))
  typed_in k typed event = written k typed.cell event (k.payload event.payload)

module _ {P C Q V H T E L Own : Type 0} where
  -- a component that stands in a card, as a tree
  abbrev pub inner : (Given C Own → Q) → Inside C Own → VNode P C Q V H T E L
  inner giving item =
      view (child (out-Inside C Own item).component (giving (out-Inside C Own item).given))

  -- all that stand in it
  abbrev pub all_inner : (Given C Own → Q) → List (Inside C Own) → List (VNode P C Q V H T E L)
  all_inner giving inside = map (inner giving) inside

  -- a card
  abbrev pub card : (Given C Own → Q) → List ℕ → List (Inside C Own) → VNode P C Q V H T E L
  card giving title inside =
      view (element (codes "section") empty_attrs (row
      (element (codes "h2") empty_attrs (shown title) ∷ several (all_inner giving inside) ∷ [])))

module _ {P C Q V H T E L : Type 0} where
  -- a line of these words, with a button that takes it out
  abbrev pub line : ℕ → List ℕ → H → VNode P C Q V H T E L
  line scope words removes =
      view (element (codes "li") empty_attrs (row
      (shown words ∷ element (codes "button") (listens (codes "onclick") scope removes) (text (codes "remove")) ∷ [])))

  -- a tab
  abbrev pub tab : List ℕ → Bool → ℕ → H → VNode P C Q V H T E L
  tab name true scope choose = view (element (codes "b") empty_attrs (shown name))
  tab name false scope choose = view (element (codes "button") (listens (codes "onclick") scope choose) (shown name))

  -- tabs in a bar, and what the chosen one shows
  abbrev pub tabs : List (VNode P C Q V H T E L) → Piece P C Q V H T E L → VNode P C Q V H T E L
  tabs bar below = view (row (element (codes "nav") empty_attrs (several bar) ∷ below ∷ []))
