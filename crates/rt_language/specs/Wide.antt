-- Rows of more than 256 nodes: a tree with one passes no node test, so it is of no account which paths its template has.
use Rattle.std.specs.Prelude.{ℕ, ◌≡◌, Bool, true, false, ◌&&◌, nat_le}
use Rattle.rt_model.specs.Tree.{TemplateNodes, no_nodes, element_node, text_node, slot_node, template_with}
use Rattle.rt_model.specs.Fits.{row_length, fits_at}
use Rattle.rt_language.specs.Syntax.{View}
use Rattle.rt_language.specs.Views.{Filling, template_nodes, template_in_bytes, tree_with}

-- no element of these rows has more than 256 children
abbrev pub is_narrow_below : TemplateNodes → Bool
is_narrow_below no_nodes = true
is_narrow_below (element_node tag namespace attributes children rest) =
    nat_le (row_length children) 256 && (is_narrow_below children && is_narrow_below rest)
is_narrow_below (text_node text rest) = is_narrow_below rest
is_narrow_below (slot_node k rest) = is_narrow_below rest

-- nor are there more than 256 roots
abbrev pub is_narrow : TemplateNodes → Bool
is_narrow roots = nat_le (row_length roots) 256 && is_narrow_below roots

-- without a longer row the template of a view has just the paths of its slots
abbrev pub NarrowHaveTheirPaths : Type 0
NarrowHaveTheirPaths =
    (view : View) → is_narrow (template_nodes 0 0 view) ≡ true
    → template_in_bytes (template_nodes 0 0 view) ≡ template_with (template_nodes 0 0 view)

-- a tree with a longer row passes the node test at no level, whatever stands in its slots
abbrev pub WideNeverFit : Type 0
WideNeverFit =
    (view : View) (filling : Filling) (level : ℕ) → is_narrow (template_nodes 0 0 view) ≡ false
    → fits_at (tree_with view filling) level ≡ false
