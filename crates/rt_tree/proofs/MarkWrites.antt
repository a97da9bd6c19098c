-- What is written at a mark, by what stands at the top and what shows.
use Rattle.std.proofs.Common.{ℕ, suc, ◌+◌, ◌<◌, ◌≤◌, Bool, true, false, List, [], ◌∷◌, ◌++◌, ◌≡◌, ◌≢◌, length, take, drop, drop-cons, map, refl, sym, ap, ◌∙◌, arith, slice_index_or}
use Rattle.std.specs.Prelude.{if◌then◌else◌}
use Rattle.std.proofs.Math.ListN.{drop_of_length-le}
use Rattle.tree_nodes.specs.declared.vnode.DynamicNode.{DynamicNode}
use Rattle.tree_nodes.specs.declared.vnode.VNode.{VNode}
use Rattle.rt_edits.specs.declared.doc_node.DocNode.{DocNode}
use Rattle.rt_edits.specs.declared.edit.Edit.{Edit}
use Rattle.rt_model.specs.Caused as caused
use Rattle.rt_model.specs.Caused.{Both, last_of}
use Rattle.rt_model.specs.Document as doc
use Rattle.rt_model.specs.Document.{Forest, Empty, Node}
use Rattle.rt_model.specs.Heard.{number_at}
use Rattle.rt_model.specs.Lists.{same_numbers}
use Rattle.rt_model.specs.OneLog.{types}
use Rattle.rt_model.specs.Tree.{Types, Tree, Place, item, a_text}
use Rattle.rt_model.specs.View.{items_view, slot_view, tree_view}
use Rattle.rt_model.specs.World.{Application}
use Rattle.rt_model.proofs.Among.{numbers_same}
use Rattle.rt_model.proofs.SamePlaces.{numbers-true}
use Rattle.tree_edits.specs.Documents.{edit_of, forest_of}
use Rattle.tree_mirror.specs.Mirror.{attribute_of, trees_from}
use Rattle.tree_mirror.specs.Sealed.{slot_of, template_of, tree_of}
use Rattle.tree_marks.specs.Marks.{worded}
use Rattle.tree_marks.specs.Writing.{last_among, mark_writes}
use Rattle.run_places.specs.declared.place.Step.{Step}
use Rattle.run_places.specs.declared.side.Side.{Side}
use Rattle.run_places.specs.Places.{place_of, side_of}
use Rattle.run_attributes.specs.Given.{block_written}
use Rattle.run_attributes.proofs.Passes.{block_out}
use Rattle.run_met.specs.declared.met.Met.{Met}
use Rattle.run_met.specs.declared.met.Met.TheVariants as mets
use Rattle.run_met.specs.Mets.{mark_of}
use Rattle.run_shown.specs.declared.pieces.Top.{Top}
use Rattle.run_shown.specs.Given.{given_to}
use Rattle.run_shown.specs.Pieces.{items_pieces, tops_by, tree_pieces, value_pieces}
use Rattle.run_shown.specs.Tops.{removed, replaced, tops_of}
use Rattle.run_shown.proofs.PieceRows as piece
use Rattle.run_shown.proofs.TopsSeen.{items_is, removed-is, replaced-is, slot_is, tops-join, tree_is}
use Rattle.rt_tree.specs.declared.patch.Patch.{Patch}
use Rattle.rt_tree.specs.Owns.{last_or, own_writes}
use Rattle.rt_tree.specs.Served.{both_now}

-- the last number of a row, by the numbers at its top

last_tops : (n : ℕ) (f : Forest) → last_of n f ≡ last_or n (tops_of f)
last_tops n Empty = refl
last_tops n (Node id content children rest) = last_tops id rest

pub last_both : (n : ℕ) (xs ys : List ℕ) → last_or n (xs ++ ys) ≡ last_or (last_or n xs) ys
last_both n [] ys = refl
last_both n (x ∷ xs) ys = last_both x xs ys

-- one number more, and at the end all
module _ (numbers : List ℕ) (i : ℕ) (last whole : ℕ) where
  pub last_more : (next : ℕ) → i < length numbers → next ≡ slice_index_or numbers i 0 → last_or last (drop i numbers) ≡ whole → last_or next (drop (i + 1) numbers) ≡ whole
  last_more next low is so_far =
      let one : suc i ≡ i + 1 = omega arith in
      ap (λ (n : ℕ). last_or n (drop (i + 1) numbers)) is
      ∙ ap (λ (ns : List ℕ). last_or last ns) (sym (drop-cons numbers i 0 low ∙ ap (λ (k : ℕ). slice_index_or numbers i 0 ∷ drop k numbers) one))
      ∙ so_far

  pub last_done : length numbers ≤ i → last_or last (drop i numbers) ≡ whole → last ≡ whole
  last_done end so_far = ap (λ (ns : List ℕ). last_or last ns) (sym (drop_of_length-le numbers end)) ∙ so_far

module _ {K : Types} (app : Application K) (b : Both K) where
  -- the number behind which items come is the last at the top of those in front
  pub last_items : (place : Place) (i last : ℕ) (ys : List (Tree K)) → last_among app b place i last ys ≡ last_or last (tops_of (items_view b.new b.new_child i place (trees_from ys)))
  last_items place i last [] = refl
  last_items place i last (y ∷ ys) =
      let row : Forest = tree_view b.new b.new_child (place ++ item i ∷ []) y in
      let later : Forest = items_view b.new b.new_child (i + 1) place (trees_from ys) in
      last_items place (i + 1) (last_of last row) ys
      ∙ ap (λ (n : ℕ). last_or n (tops_of later)) (last_tops last row)
      ∙ sym (last_both last (tops_of row) (tops_of later))
      ∙ ap (λ (ns : List ℕ). last_or last ns) (sym (tops-join row later))

module _ {P C Q V H T E L : Type 0} (app : Application (types C Q V H T E L)) (p : Patch P C Q V H T E L) where
  abbrev inner : ℕ → Forest
  inner t = given_to p.given t

  -- a mark as it was matched
  pub matched : (met x : Met P C Q V H T E L) → met ≡ x → own_writes app (both_now p) (mark_of x) ≡ own_writes app (both_now p) (mark_of met)
  matched met x is = sym (ap (λ (y : Met P C Q V H T E L). own_writes app (both_now p) (mark_of y)) is)

  -- a template that stays
  pub given_writes : (met : Met P C Q V H T E L) (above : List Step) (next was : VNode P C Q V H T E L) (place : Place) (edits : List Edit) → met ≡ mets.Given above next was → place ≡ place_of above
      → map edit_of edits ≡ block_written (side_of p.old).numbers place next was → map edit_of edits ≡ own_writes app (both_now p) (mark_of met)
  given_writes met above next was place edits is at_place h =
      h
      ∙ block_out (side_of p.old).numbers place next was
      ∙ ap (λ q. caused.attributes_written (side_of p.old).numbers q (template_of next.template) (map (map attribute_of) next.dynamic_attrs) (map (map attribute_of) was.dynamic_attrs)) at_place
      ∙ matched met (mets.Given above next was) is

  -- one text, or another one
  pub same_text : (place : Place) (next was : List ℕ) → next ≡ was → [] ≡ mark_writes app (both_now p) (worded place next was)
  same_text place next was same =
      sym
      (ap (λ (c : Bool). if c then [] else doc.SetNodeText (number_at (side_of p.old).numbers place a_text) next ∷ [])
      (ap (λ (xs : List ℕ). same_numbers was xs) same ∙ numbers_same was))

  pub other_text : (place : Place) (next was text : List ℕ) (number : ℕ) → (next ≡ was → ⊥) → number ≡ number_at (side_of p.old).numbers place a_text → text ≡ next
      → ◌≡◌ {A = List doc.Edit} (doc.SetNodeText number text ∷ []) (mark_writes app (both_now p) (worded place next was))
  other_text place next was text number other here copied =
      (λ t. doc.SetNodeText (here t) (copied t) ∷ [])
      ∙ sym (ap (λ (c : Bool). if c then [] else doc.SetNodeText (number_at (side_of p.old).numbers place a_text) next ∷ []) (by (same_numbers was next) refl))
    where
      by : (c : Bool) → c ≡ same_numbers was next → same_numbers was next ≡ false
      by false same = sym same
      by true same = absurd (other (sym (numbers-true was next (sym same))))

  -- what gives way: the numbers at the top of the old, and the new row

  pub slot_writes : (place q : Place) (next was : DynamicNode P C Q V H T E L) (tops : List Top) (numbers : List ℕ) (row : List DocNode) (edits : List Edit) → q ≡ place
      → tops ≡ value_pieces p.old was q → numbers ≡ tops_by inner tops → forest_of row ≡ slot_view (side_of p.new.side) inner (slot_of next) q
      → map edit_of edits ≡ replaced numbers (forest_of row)
      → map edit_of edits ≡ caused.replaced_by (slot_view (side_of p.old) inner (slot_of was) place) (slot_view (side_of p.new.side) inner (slot_of next) place)
  unfolding value_pieces
  slot_writes place q next was tops numbers row edits at_place top found shows h =
      h
      ∙ (λ t. replaced ((found ∙ ap (λ ts. tops_by inner ts) top ∙ sym (slot_is inner (side_of p.old) (slot_of was) q)) t) (shows t))
      ∙ replaced-is (slot_view (side_of p.old) inner (slot_of was) q) (slot_view (side_of p.new.side) inner (slot_of next) q)
      ∙ (λ t. caused.replaced_by (slot_view (side_of p.old) inner (slot_of was) (at_place t)) (slot_view (side_of p.new.side) inner (slot_of next) (at_place t)))

  pub tree_writes : (above q : Place) (next was : VNode P C Q V H T E L) (tops : List Top) (numbers : List ℕ) (row : List DocNode) (edits : List Edit) → q ≡ above
      → tops ≡ tree_pieces p.old was q → numbers ≡ tops_by inner tops → forest_of row ≡ tree_view (side_of p.new.side) inner q (tree_of next)
      → map edit_of edits ≡ replaced numbers (forest_of row)
      → map edit_of edits ≡ caused.replaced_by (tree_view (side_of p.old) inner above (tree_of was)) (tree_view (side_of p.new.side) inner above (tree_of next))
  unfolding tree_pieces
  tree_writes above q next was tops numbers row edits at_place top found shows h =
      h
      ∙ (λ t. replaced ((found ∙ ap (λ ts. tops_by inner ts) top ∙ sym (tree_is inner (side_of p.old) q (tree_of was))) t) (shows t))
      ∙ replaced-is (tree_view (side_of p.old) inner q (tree_of was)) (tree_view (side_of p.new.side) inner q (tree_of next))
      ∙ (λ t. caused.replaced_by (tree_view (side_of p.old) inner (at_place t) (tree_of was)) (tree_view (side_of p.new.side) inner (at_place t) (tree_of next)))

  -- the numbers at the top of items of a side
  tops_are : (side : Side P C Q V H T E L) (first : ℕ) (place : Place) (trees : List (VNode P C Q V H T E L)) → tops_by inner (items_pieces side first 0 place trees)
      ≡ tops_of (items_view (side_of side) inner first place (trees_from (map tree_of trees)))
  tops_are side first place trees =
      let from : first + 0 ≡ first = omega arith in
      ap (λ ts. tops_by inner ts) (piece.items_are side first 0 place trees)
      ∙ sym (items_is inner (side_of side) (first + 0) place (trees_from (map tree_of trees)))
      ∙ ap (λ (n : ℕ). tops_of (items_view (side_of side) inner n place (trees_from (map tree_of trees)))) from

  -- items go
  pub out_writes : (place : Place) (first : ℕ) (trees : List (VNode P C Q V H T E L)) (tops : List Top) (numbers : List ℕ) (edits : List Edit) → tops ≡ items_pieces p.old first 0 place (drop first trees)
      → numbers ≡ tops_by inner tops → map edit_of edits ≡ removed numbers
      → map edit_of edits ≡ caused.removals (items_view (side_of p.old) inner first place (trees_from (map tree_of (drop first trees))))
  out_writes place first trees tops numbers edits top found h =
      h
      ∙ ap removed (found ∙ ap (λ ts. tops_by inner ts) top ∙ tops_are p.old first place (drop first trees))
      ∙ removed-is (items_view (side_of p.old) inner first place (trees_from (map tree_of (drop first trees))))

  -- items come behind the last number in front of them
  pub in_writes : (place q : Place) (first : ℕ) (trees rest : List (VNode P C Q V H T E L)) (tops : List Top) (numbers : List ℕ) (row : List DocNode) (number : ℕ) → q ≡ place
      → tops ≡ items_pieces p.new.side 0 0 place (take first trees) → numbers ≡ tops_by inner tops → number ≡ last_or 0 numbers
      → rest ≡ drop first trees → forest_of row ≡ items_view (side_of p.new.side) inner first q (trees_from (map tree_of rest))
      → ◌≡◌ {A = List doc.Edit} (doc.InsertNodesAfter number (forest_of row) ∷ [])
      (doc.InsertNodesAfter (last_among app (both_now p) place 0 0 (map tree_of (take first trees))) (items_view (side_of p.new.side) inner first place (trees_from (map tree_of (drop first trees)))) ∷ [])
  in_writes place q first trees rest tops numbers row number at_place top found last later shows =
      let behind : number ≡ last_among app (both_now p) place 0 0 (map tree_of (take first trees)) =
      last
      ∙ ap (λ (ns : List ℕ). last_or 0 ns) (found ∙ ap (λ ts. tops_by inner ts) top ∙ tops_are p.new.side 0 place (take first trees))
      ∙ sym (last_items app (both_now p) place 0 0 (map tree_of (take first trees))) in
      let seen : forest_of row ≡ items_view (side_of p.new.side) inner first place (trees_from (map tree_of (drop first trees))) =
      shows ∙ (λ t. items_view (side_of p.new.side) inner first (at_place t) (trees_from (map tree_of (later t)))) in
      λ t. doc.InsertNodesAfter (behind t) (seen t) ∷ []
