-- Which rule of the node test a tree breaks, and where.
use Rattle.std.specs.Prelude.{ℕ, ◌+◌, Bool, true, not, nat_lt, ◌==◌, ◌||◌, if◌then◌else◌, List, [], ◌∷◌, length, map, Option, Some, None}
use Rattle.std.specs.List.{list_all, slice_index_or}
use Rattle.author_pieces.specs.Numbering.{below}
use Rattle.author_pieces.specs.declared.breaches.BadMarkup.{BadMarkup}
use Rattle.author_pieces.specs.declared.breaches.Breach.{Breach}
use Rattle.author_pieces.specs.declared.breaches.Breach.TheVariants.{Roots, Children, Levels, Names, Namespace, Slots}
use Rattle.tree_nodes.specs.BlockTest.{attribute_fits}
use Rattle.tree_nodes.specs.Names.{distinct, names_in, slot_names}
use Rattle.tree_nodes.specs.declared.attribute.Attribute.{Attribute}
use Rattle.tree_nodes.specs.declared.template.TemplateAttribute.{TemplateAttribute}
use Rattle.tree_nodes.specs.declared.template.TemplateAttribute.TheVariants.{Static, Dynamic}
use Rattle.tree_nodes.specs.declared.template.TemplateNode.{TemplateNode}
use Rattle.tree_nodes.specs.declared.template.TemplateNode.TheOpen.{TemplateNode-F}
use Rattle.tree_nodes.specs.declared.template.TemplateNode.TheFolds.{fold-TemplateNode}
use Rattle.tree_nodes.specs.declared.vnode.VNode.{VNode}

-- a rule that the node at a path breaks
abbrev pub at : List ℕ → Breach → BadMarkup
at path breach = record { breach = breach; path = path }

-- a breach, if there is one, with its path
abbrev pub found : List ℕ → Option Breach → Option BadMarkup
found path None = None
found path (Some breach) = Some (at path breach)

-- the first of two, if there is one
abbrev pub first : Option BadMarkup → Option BadMarkup → Option BadMarkup
first None later = later
first (Some bad) later = Some bad

-- a level is one too many past the 128th
abbrev pub deep : ℕ → Option Breach
deep level = if nat_lt 128 level then Some Levels else None

-- no tree has so many roots
abbrev pub are_no_roots : ℕ → Bool
are_no_roots count = count == 0 || nat_lt 256 count

-- what a node at a path breaks
abbrev pub Look : Type 0
Look = List ℕ → Option BadMarkup

-- the first that is broken among nodes below a path, of which the first has the index k
abbrev pub bad_among : List Look → List ℕ → ℕ → Option BadMarkup
bad_among [] above k = None
bad_among (look ∷ rest) above k = first (look (below above k)) (bad_among rest above (k + 1))

-- the first that is broken, or the breach of the tree as a whole where no node breaks a rule
abbrev pub else_at_all : Breach → Option BadMarkup → BadMarkup
else_at_all breach None = at [] breach
else_at_all breach (Some bad) = bad

module _ {P C Q V H T E L : Type 0} where
  -- whether no listener in the slot of an attribute has a namespace
  abbrev pub attr_fits : List (List (Attribute P C Q V H T E L)) → TemplateAttribute → Bool
  attr_fits slots (Static name namespace value) = true
  attr_fits slots (Dynamic id) = list_all attribute_fits (slice_index_or slots id [])

  -- the rule that an element at a level breaks by itself
  abbrev pub broken : List (List (Attribute P C Q V H T E L)) → ℕ → List TemplateAttribute → ℕ → Option Breach
  broken slots level attrs children =
      if nat_lt 128 level then Some Levels
      else (if nat_lt 256 children then Some Children
      else (if not (distinct (names_in (slot_names slots) attrs)) then Some Names
      else (if not (list_all (attr_fits slots) attrs) then Some Namespace else None)))

  -- one level of a node: an element by itself, and then its children
  abbrev pub bad_step : List (List (Attribute P C Q V H T E L)) → TemplateNode-F Look → Look
  bad_step slots (TemplateNode-F.Element tag namespace attrs children) path =
      first (found path (broken slots (length path) attrs (length children))) (bad_among children path 0)
  bad_step slots (TemplateNode-F.Text text) path = found path (deep (length path))
  bad_step slots (TemplateNode-F.Dynamic id) path = found path (deep (length path))

  -- the first rule that the node at a path breaks, or one below it
  abbrev pub bad_in : List (List (Attribute P C Q V H T E L)) → TemplateNode → Look
  bad_in slots = fold-TemplateNode Look (bad_step slots)

  -- the first rule that a tree breaks which doesn't pass the node test; that of the slots if no node
  -- breaks one
  abbrev pub bad_markup : VNode P C Q V H T E L → BadMarkup
  bad_markup tree =
      if are_no_roots (length tree.template.roots) then at [] Roots
      else else_at_all Slots (bad_among (map (bad_in tree.dynamic_attrs) tree.template.roots) [] 0)
