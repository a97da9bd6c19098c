-- Trees and sources with names: tags, namespaces, and names of attributes and listeners are names, and so they are printed plainly.
use Rattle.std.specs.Prelude.{true, Option, Some, None, List, ◌≡◌}
use Rattle.std.specs.List.{AllByRecursion}
use Rattle.rt_model.specs.Lists.{Text, joined}
use Rattle.rt_model.specs.Tree.{Types, TemplateAttribute, fixed, from_slot, TemplateNodes, no_nodes, element_node, text_node, slot_node, Attribute, Tree, block, Slots, no_slots, more_slots, Slot, text_slot, placeholder_slot, component_slot, fragment_slot, Trees, no_trees, more_trees, VComponent, Own, Root, Fragment, ErrorBoundary, SuspenseBoundary, Element, rendered, failed, suspended}
use Rattle.rt_model.specs.World.{World, Application}
use Rattle.rt_model.specs.Replay.{Entry, Input, start}
use Rattle.rt_model.specs.Document.{Edit}
use Rattle.rt_model.specs.Causes.{Limits, edits_at_refusal}
use Rattle.rt_model.specs.Told.{Told, Telling, telling, tell_log, tell_reports, edits_of}
use Rattle.rt_model.specs.Headline.{last_machine}
use Rattle.rt_language.specs.Syntax.{ViewAttribute, StaticAttribute, SlotAttribute, ListenerAttribute, View, NoViews, TextView, ElementView, SlotView, ViewSlot, TextOf, UseOf, ListOf, PickOf, FragmentOf, ErrorBoundaryOf, SuspenseBoundaryOf, Hole, ComponentSource, Source}
use Rattle.rt_language.specs.Expressions.{SourceTypes}
use Rattle.rt_language.specs.Meaning.{meaning_of, props_of}
use Rattle.rt_values.specs.Naming.{is_name}
use Rattle.lang_lines.specs.Plain.{IsPlainEdit}

-- what a name is, as everywhere
abbrev pub IsName : Text → Type 0
IsName text = is_name text ≡ true

-- a namespace, where there is one, is a name
abbrev pub IsNamespace : Option Text → Type 0
IsNamespace None = Unit {0}
IsNamespace (Some namespace) = IsName namespace

-- an attribute that stands in a template
abbrev pub NamedFixed : TemplateAttribute → Type 0
NamedFixed (fixed name namespace value) = IsNamespace namespace × IsName name
NamedFixed (from_slot k) = Unit {0}

-- a row of a template's nodes
abbrev pub NamedNodes : TemplateNodes → Type 0
NamedNodes no_nodes = Unit {0}
NamedNodes (element_node tag namespace attributes children rest) =
    IsNamespace namespace × IsName tag × AllByRecursion NamedFixed attributes × NamedNodes children × NamedNodes rest
NamedNodes (text_node text rest) = NamedNodes rest
NamedNodes (slot_node k rest) = NamedNodes rest

module _ {K : Types} where
  -- an attribute that a slot gives
  abbrev pub NamedGiven : Attribute K → Type 0
  NamedGiven a = IsNamespace a.namespace × IsName a.name

  -- what an attribute slot gives
  abbrev pub AllGiven : List (Attribute K) → Type 0
  AllGiven given = AllByRecursion (λ (a : Attribute K). NamedGiven a) given

  -- what all attribute slots give
  abbrev pub AllSlotsGiven : List (List (Attribute K)) → Type 0
  AllSlotsGiven slots = AllByRecursion (λ (given : List (Attribute K)). AllGiven given) slots

  abbrev mutual
    -- a tree with names, in the components of its slots too
    pub NamedTree : Tree K → Type 0
    NamedTree (block template given slots) = NamedNodes template.roots × AllSlotsGiven given × NamedSlots slots

    -- its node slots
    pub NamedSlots : Slots K → Type 0
    NamedSlots no_slots = Unit {0}
    NamedSlots (more_slots v rest) = NamedSlot v × NamedSlots rest

    -- what stands in one
    pub NamedSlot : Slot K → Type 0
    NamedSlot (text_slot text) = Unit {0}
    NamedSlot placeholder_slot = Unit {0}
    NamedSlot (component_slot c) = NamedComponent c
    NamedSlot (fragment_slot items) = NamedTrees items

    -- the items of a fragment
    pub NamedTrees : Trees K → Type 0
    NamedTrees no_trees = Unit {0}
    NamedTrees (more_trees t ts) = NamedTree t × NamedTrees ts

    -- the children of a built-in component
    pub NamedComponent : VComponent K → Type 0
    NamedComponent (Own component props) = Unit {0}
    NamedComponent (Root component props) = Unit {0}
    NamedComponent (Fragment children) = NamedElement children
    NamedComponent (ErrorBoundary children handler) = NamedElement children
    NamedComponent (SuspenseBoundary children fallback) = NamedElement children

    -- an answer that is a tree
    pub NamedElement : Element K → Type 0
    NamedElement (rendered tree) = NamedTree tree
    NamedElement (failed error) = Unit {0}
    NamedElement (suspended origin task) = Unit {0}

  -- an application whose bodies answer such trees in every world
  abbrev pub AnswersNamed : Application K → Type 0
  AnswersNamed app = (c : K.Component) (p : K.Props) (w : World K) → NamedElement (app.body c p w).answer

-- an attribute of a view
abbrev pub NamedAttribute : ViewAttribute → Type 0
NamedAttribute (StaticAttribute name value) = IsName name
NamedAttribute (SlotAttribute name value) = IsName name
NamedAttribute (ListenerAttribute name action arguments) = IsName name

abbrev mutual
  -- a view with names
  pub NamedView : View → Type 0
  NamedView NoViews = Unit {0}
  NamedView (TextView text rest) = NamedView rest
  NamedView (ElementView tag namespace attributes kids rest) =
      IsNamespace namespace × IsName tag × AllByRecursion NamedAttribute attributes × NamedView kids × NamedView rest
  NamedView (SlotView slot rest) = NamedViewSlot slot × NamedView rest

  -- what a view puts in a slot
  pub NamedViewSlot : ViewSlot → Type 0
  NamedViewSlot (TextOf text) = Unit {0}
  NamedViewSlot (UseOf handed) = Unit {0}
  NamedViewSlot (ListOf count item) = NamedView item
  NamedViewSlot (PickOf test chosen other) = NamedView chosen × NamedView other
  NamedViewSlot (FragmentOf children) = NamedView children
  NamedViewSlot (ErrorBoundaryOf kids handler) = NamedView kids
  NamedViewSlot (SuspenseBoundaryOf kids fallback) = NamedView kids
  NamedViewSlot Hole = Unit {0}

-- a source whose views have names
abbrev pub NamedSource : Source → Type 0
NamedSource s = AllByRecursion (λ (c : ComponentSource). NamedView c.view) s.components

-- the edits of each session of such a source are printed plainly: those of its reports, and those after them, also up to a refusal
abbrev pub SourcesWritePlainly : Type 0
SourcesWritePlainly =
    (s : Source) (inputs : List (Input SourceTypes)) (logs : List (List Entry)) (told : List (Told SourceTypes))
    → NamedSource s
    → tell_reports (meaning_of s) (start (meaning_of s) (props_of s) inputs) logs ≡ Some told
    → AllByRecursion (λ (e : Edit). IsPlainEdit e) (joined (edits_of told))
    × ((limits : Limits) (log : List Entry) (last : Telling SourceTypes)
    → tell_log (meaning_of s) (Some (telling (last_machine (start (meaning_of s) (props_of s) inputs) told))) log ≡ Some last
    → AllByRecursion (λ (e : Edit). IsPlainEdit e) (edits_at_refusal (meaning_of s) limits last))
