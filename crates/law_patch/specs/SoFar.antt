-- A mark can be written as soon as it is met, by what is known so far of the new tree.
use Rattle.std.specs.Prelude.{ℕ, List, [], ◌∷◌, ◌++◌, Contains, ◌≡◌}
use Rattle.rt_model.specs.Tree.{Types, Tree, Place, Spot, node_at, component_at}
use Rattle.rt_model.specs.World.{Application}
use Rattle.rt_model.specs.State.{Side}
use Rattle.rt_model.specs.Run.{child_at}
use Rattle.rt_model.specs.Heard.{number_at}
use Rattle.rt_model.specs.Document.{Forest, Edit}
use Rattle.rt_model.specs.View.{child_view}
use Rattle.rt_model.specs.Caused.{Both, tree_written}
use Rattle.tree_marks.specs.Marks.{Mark, tree_marks}
use Rattle.tree_marks.specs.Spots.{all_brought, reads}
use Rattle.tree_marks.specs.Writing.{mark_writes}
use Rattle.law_patch.specs.Behind.{AllKnown}
use Rattle.law_patch.specs.Written.{GoesOn}

-- a new side so far, and the nodes of its child scopes, by the marks that were served
abbrev pub SoFar : Types → Type 0
SoFar K = List (Mark K) → Side K × (ℕ → Forest)

module _ {K : Types} where
  -- two sides, each with the nodes of child scopes, have the same number at a spot, or the same nodes
  abbrev pub AgreeAt : Side K → (ℕ → Forest) → Side K → (ℕ → Forest) → Spot K → Type 0
  AgreeAt s f t g (node_at p k) = number_at s.numbers p k ≡ number_at t.numbers p k
  AgreeAt s f t g (component_at p c) = child_view f (child_at s.children p) ≡ child_view g (child_at t.children p)

  -- what a new side so far makes of the two sides
  abbrev pub with_new : Both K → Side K → (ℕ → Forest) → Both K
  with_new b side inner = record b { new = side; new_child = inner }

  -- marks that are written one after another, each by what the marks in front of it have led to
  abbrev pub on_the_way : Application K → Both K → SoFar K → List (Mark K) → List (Mark K) → List Edit
  on_the_way app b so_far front [] = []
  on_the_way app b so_far front (m ∷ marks) =
      mark_writes app (with_new b (so_far front).0 (so_far front).1) m ++ on_the_way app b so_far (front ++ m ∷ []) marks

-- what is written at a mark by what is known so far is what is written by what stands in the end
abbrev pub WrittenSoFar : {K : Types} → Application K → Type 0
WrittenSoFar {K = K} app =
    (b : Both K) (side : Side K) (inner : ℕ → Forest) (known : List (Spot K)) (m : Mark K)
    → ((s : Spot K) → Contains known s → AgreeAt side inner b.new b.new_child s)
    → AllKnown known (reads m)
    → mark_writes app (with_new b side inner) m ≡ mark_writes app b m

-- a patch that is served mark by mark writes what the definitions write of the two trees, where what was met so far stays so
-- to the end; what a fed child scope writes stands where it is fed
abbrev pub ServedIsWritten : {K : Types} → Application K → Type 0
ServedIsWritten {K = K} app =
    (b : Both K) (so_far : SoFar K) (above : Place) (new old : Tree K)
    → GoesOn b
    → ((front : List (Mark K)) (s : Spot K)
    → Contains (all_brought front) s → AgreeAt (so_far front).0 (so_far front).1 b.new b.new_child s)
    → on_the_way app b so_far [] (tree_marks app above new old) ≡ (tree_written app b above new old).edits
