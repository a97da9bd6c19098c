-- A tree that writes in its slots alone, part by part: its nodes are counted, and what it writes joins the edits.
use Rattle.std.proofs.Common.{true, ℕ, zero, suc, ◌+◌, ◌<◌, ◌≤◌, List, [], ◌∷◌, ◌++◌, ◌≡◌, length, get_or, take, drop, map, refl, sym, ap, subst, ◌∙◌, append_assoc, arith}
use Rattle.std.specs.Prelude.{Err, IfOk, IfSome, None, Ok, Option, Result, Some, slice_get}
use Rattle.std.proofs.Math.ListN.{drop_of_length-le}
use Rattle.tree_nodes.specs.declared.template.TemplateAttribute.{TemplateAttribute}
use Rattle.tree_nodes.specs.declared.template.TemplateNode.{TemplateNode}
use Rattle.tree_nodes.specs.declared.template.TemplateNode.TheVariants as nodes
use Rattle.tree_nodes.specs.declared.vnode.VNode.{VNode}
use Rattle.tree_nodes.specs.declared.vnode.DynamicNode.TheVariants as values
use Rattle.rt_edits.specs.declared.edit.Edit.{Edit}
use Rattle.rt_model.specs.OneLog.{types}
use Rattle.rt_model.specs.Lists.{at, or_else}
use Rattle.rt_model.specs.World.{Application}
use Rattle.rt_model.specs.Laws.{Tests}
use Rattle.rt_model.specs.Document as doc
use Rattle.rt_model.specs.Document.{SetNodeText}
use Rattle.rt_model.specs.Tree.{Kind, Place, Spot, Types, a_text, an_element, item, node_at, spots}
use Rattle.rt_model.specs.Caused.{Written, writes, then_on}
use Rattle.tree_edits.specs.Documents.{edit_of}
use Rattle.tree_mirror.specs.Sealed.{template_of, tree_of}
use Rattle.run_places.specs.declared.nodes.NodeAt.{NodeAt}
use Rattle.run_places.specs.Apart.{Apart}
use Rattle.run_places.specs.Indexed.{node_index}
use Rattle.run_places.specs.Drawn.{seats_in}
use Rattle.run_places.specs.Known.{knows, spots_kept}
use Rattle.run_places.specs.Places.{at_path, node_of, place_of, side_of}
use Rattle.run_places.specs.declared.side.Side.{Side}
use Rattle.run_places.specs.Sides.{number_in}
use Rattle.run_places.specs.Spots.{items_spots, tree_spots}
use Rattle.run_places.proofs.Hits.{node_whole}
use Rattle.run_places.proofs.Knowing.{known_nodes, known_seats, spots_standing}
use Rattle.run_places.proofs.Sided.{number_found}
use Rattle.run_attributes.specs.Given.{block_written}
use Rattle.run_shown.specs.declared.calm.Sides.{Sides}
use Rattle.run_shown.specs.Still.{IsStill, node_stands, nodes_from, nodes_left, row_stands}
use Rattle.run_shown.specs.Units.{Passes, items_writes, last_among, node_writes, row_writes, slot_writes, tree_writes}
use Rattle.run_shown.proofs.ItemsWrite.{items_end, items_more}
use Rattle.run_shown.proofs.OneByOne.{next_drop, nil-right}
use Rattle.run_shown.proofs.Parted.{edits-append, then_nothing, then_then}
use Rattle.run_shown.proofs.RowsStand.{node_Element, row_over, row_parts, tree_row}
use Rattle.run_shown.proofs.RowsWrite.{element_here, row_end, row_more}
use Rattle.run_shown.proofs.ScopesWrite.{tree_matched}
use Rattle.run_shown.proofs.SlotsWrite.{text_other}

-- what follows of what is found, where something is
pub some_weaker : {A : Type 0} (o : Option A) (P Q : A → Type 0) → ((x : A) → P x → Q x) → IfSome o P → IfSome o Q
some_weaker None P Q more h = tt
some_weaker (Some x) P Q more h = more x h

-- the same of an answer
pub still_weaker : {A E : Type 0} (r : Result (Option A) E) (P Q : A → Type 0) → ((x : A) → P x → Q x) → IfOk r (λ o. IfSome o P) → IfOk r (λ o. IfSome o Q)
still_weaker (Ok o) P Q more h = some_weaker o P Q more h
still_weaker (Err e) P Q more h = tt

-- where it was found, it follows of what was found
pub some_of : {A : Type 0} (o : Option A) (x : A) (P : A → Type 0) → IfSome o P → o ≡ Some x → P x
some_of None x P h is = cc is
some_of (Some y) x P h is = subst P (let e : y ≡ x = cc is in e) h

pub nothing_then : (a : Written) → then_on (writes []) a ≡ a
nothing_then a = refl

module _ {K : Types} where
  -- a node, as a spot
  abbrev pub spot_at : Place × Kind → Spot K
  spot_at q = node_at q.0 q.1

  nodes_whole : (nodes : List NodeAt) → map spot_at (map node_of nodes) ≡ map (λ (x : NodeAt). node_at (node_of x).0 (node_of x).1) nodes
  nodes_whole [] = refl
  nodes_whole (x ∷ nodes) = ap (λ (ns : List (Spot K)). node_at (node_of x).0 (node_of x).1 ∷ ns) (nodes_whole nodes)

  -- behind the first node
  pub next_left : (nodes : List NodeAt) (i : ℕ) (m : Spot K) (rest : List (Spot K)) → nodes_from {K = K} nodes i ≡ m ∷ rest → nodes_from {K = K} nodes (suc i) ≡ rest
  next_left [] zero m rest h = cc h
  next_left [] (suc i) m rest h = cc h
  next_left (x ∷ nodes) zero m rest h = cc h
  next_left (x ∷ nodes) (suc i) m rest h = next_left nodes i m rest h

  -- the first node is under its index
  pub first_left : (nodes : List NodeAt) (i : ℕ) (p : Place) (k : Kind) (rest : List (Spot K)) → nodes_from {K = K} nodes i ≡ node_at p k ∷ rest
      → slice_get (map node_of nodes) i ≡ Some (p, k)
  first_left [] zero p k rest h = cc h
  first_left [] (suc i) p k rest h = cc h
  first_left (x ∷ nodes) zero p k rest h =
      let place : (node_of x).0 ≡ p = cc h in
      let kind : (node_of x).1 ≡ k = cc h in
      (λ t. Some (place t, kind t))
  first_left (x ∷ nodes) (suc i) p k rest h = first_left nodes i p k rest h

module _ {P C Q V H T E L : Type 0} where
  -- the nodes of a side that knows no component are those of its tree
  pub old_left : (side : Side P C Q V H T E L) (old : VNode P C Q V H T E L) → side.output ≡ Some old → side.seats ≡ [] → knows side.output side.nodes side.seats ≡ true
      → nodes_from {K = types C Q V H T E L} side.nodes 0 ≡ tree_spots [] old ++ []
  unfolding tree_spots
  old_left side old is none known =
      let kept : List (Spot (types C Q V H T E L)) = spots_kept side.output in
      let bare : seats_in kept ≡ [] = sym (known_seats side.output side.nodes side.seats known) ∙ ap (λ ps. map place_of ps) none in
      let spots_are : spots [] (tree_of old) ≡ map (spot_at {K = types C Q V H T E L}) (map node_of side.nodes) =
      sym (ap (λ (o : Option (VNode P C Q V H T E L)). spots_kept o) is)
      ∙ spots_standing kept bare
      ∙ ap (λ (ns : List (Place × Kind)). map (spot_at {K = types C Q V H T E L}) ns) (sym (known_nodes side.output side.nodes side.seats known)) in
      sym (nil-right (spots [] (tree_of old)) ∙ spots_are ∙ nodes_whole side.nodes)

module _ {P C Q V H T E L : Type 0} (b : Sides P C Q V H T E L) where
  -- the number under the index of the first node is the one at its place
  pub number_left : (i : ℕ) (p : Place) (k : Kind) (rest : List (Spot (types C Q V H T E L))) → Apart ((b.old.now).side.now).nodes → nodes_left b i ≡ node_at p k ∷ rest
      → or_else 0 (at ((b.old.now).side.now).numbers i) ≡ number_in (b.old.now).side.now p k
  number_left i p k rest apart h =
      let nodes : List NodeAt = ((b.old.now).side.now).nodes in
      let found : node_index nodes p k ≡ Some (0 + i) = node_whole 0 nodes p k i apart (first_left nodes i p k rest h) in
      sym (number_found nodes p k apart i (sym (found ∙ ap (λ n. Some n) (let e : 0 + i ≡ i = omega arith in e))) ((b.old.now).side.now).numbers)

  -- one node, which writes nothing
  pub one_still : (i j : ℕ) (p : Place) (k : Kind) (part : List (Spot (types C Q V H T E L))) (edits : List Edit) (what : Application (types C Q V H T E L) → Written)
      → j ≡ i + 1 → part ≡ node_at p k ∷ [] → ((app : Application (types C Q V H T E L)) → what app ≡ writes []) → IsStill b i j part edits edits what
  one_still i j p k part edits what next is nothing = λ rest h. (
    ap (λ n. nodes_left b n) (next ∙ (let e : i + 1 ≡ suc i = omega arith in e))
        ∙ next_left ((b.old.now).side.now).nodes i (node_at p k) rest (h ∙ ap (λ ms. ms ++ rest) is),
    λ app tests passes. ap (λ w. then_on (writes (map edit_of edits)) w) (nothing app) ∙ then_nothing (writes (map edit_of edits)),
  )

  -- a text that another one takes the place of
  pub text_still_other : (i j : ℕ) (p : Place) (text was : List ℕ) (number : ℕ) (edit : Edit) (before after : List Edit)
      → j ≡ i + 1 → Apart ((b.old.now).side.now).nodes → (was ≡ text → ⊥) → number ≡ or_else 0 (at ((b.old.now).side.now).numbers i) → after ≡ before ++ edit ∷ [] → edit_of edit ≡ SetNodeText number text
      → IsStill b i j (node_at p a_text ∷ []) before after (λ app. slot_writes app b p (values.Text text) (values.Text was))
  text_still_other i j p text was number edit before after next apart other under joined is = λ rest h. (
    ap (λ n. nodes_left b n) (next ∙ (let e : i + 1 ≡ suc i = omega arith in e))
        ∙ next_left ((b.old.now).side.now).nodes i (node_at p a_text) rest h,
    λ app tests passes.
        ap (λ w. then_on (writes (map edit_of before)) w) (text_other app b p text was other)
        ∙ ap (λ (es : List doc.Edit). writes (map edit_of before ++ es))
        (ap (λ n. SetNodeText n text ∷ []) (sym (number_left i p a_text rest apart h) ∙ sym under) ∙ ap (λ e. e ∷ []) (sym is))
        ∙ ap (λ es. writes es) (sym (ap (λ es. map edit_of es) joined ∙ edits-append before (edit ∷ []))),
  )

  -- the same of what is the same
  pub told_still : (i j : ℕ) (part other : List (Spot (types C Q V H T E L))) (before after : List Edit) (what same : Application (types C Q V H T E L) → Written)
      → other ≡ part → ((app : Application (types C Q V H T E L)) → same app ≡ what app) → IsStill b i j part before after what → IsStill b i j other before after same
  told_still i j part other before after what same is alike still = λ rest h.
      let s = still rest (h ∙ ap (λ ms. ms ++ rest) is) in
      (s.0, λ app tests passes. ap (λ w. then_on (writes (map edit_of before)) w) (alike app) ∙ s.1 app tests passes)

  -- one node, and then those of a part
  pub then_still : (i m j : ℕ) (p : Place) (k : Kind) (part more : List (Spot (types C Q V H T E L))) (before after : List Edit) (what : Application (types C Q V H T E L) → Written)
      → m ≡ i + 1 → part ≡ node_at p k ∷ more → IsStill b m j more before after what → IsStill b i j part before after what
  then_still i m j p k part more before after what next is still = λ rest h.
      still rest
      (
      ap (λ n. nodes_left b n) (next ∙ (let e : i + 1 ≡ suc i = omega arith in e))
      ∙ next_left ((b.old.now).side.now).nodes i (node_at p k) (more ++ rest) (h ∙ ap (λ ms. ms ++ rest) is)
      )

  module _ (above : Place) (new old : VNode P C Q V H T E L) where
    -- a matched tree: its attributes, then its nodes
    pub tree_still_by : (i j : ℕ) (row : List TemplateNode) (attributes before joined after : List Edit)
        → new.template ≡ old.template → row ≡ new.template.roots → joined ≡ before ++ attributes
        → map edit_of attributes ≡ block_written (side_of (b.old.now).side.now).numbers above new old
        → IsStill b i j (row_stands old above [] 0 row) joined after (λ app. row_writes app b above new old [] 0 row)
        → IsStill b i j (tree_spots above old) before after (λ app. tree_writes app b above new old)
    tree_still_by i j row attributes before joined after same own join given still = λ rest h.
        let s = still rest (h ∙ ap (λ ms. ms ++ rest) (tree_row old above ∙ ap (λ ns. row_stands old above [] 0 ns) (ap (λ t. t.roots) (sym same) ∙ sym own))) in (
          s.0,
          λ app tests passes.
              ap (λ w. then_on (writes (map edit_of before)) w) (sym (tree_matched app b above new old attributes same given))
              ∙ sym (then_then (writes (map edit_of before)) (writes (map edit_of attributes)) (row_writes app b above new old [] 0 new.template.roots))
              ∙ ap (λ es. then_on (writes es) (row_writes app b above new old [] 0 new.template.roots)) (sym (ap (λ es. map edit_of es) join ∙ edits-append before attributes))
              ∙ ap (λ ns. then_on (writes (map edit_of joined)) (row_writes app b above new old [] 0 ns)) (sym own)
              ∙ s.1 app tests passes,
        )

    -- an element comes before its children, and writes what they do
    pub element_still : (i m j : ℕ) (up : List ℕ) (index : ℕ) (node : TemplateNode) (tag : List ℕ) (namespace : Option (List ℕ)) (attrs : List TemplateAttribute)
        (children row : List TemplateNode) (path : List ℕ) (before after : List Edit)
        → m ≡ i + 1 → node ≡ nodes.Element tag namespace attrs children → row ≡ children
        → IsStill b m j (row_stands old above path 0 row) before after (λ app. row_writes app b above new old path 0 row)
        → path ≡ up ++ index ∷ []
        → IsStill b i j (node_stands old above up index node) before after (λ app. node_writes app b above new old up index node)
    element_still i m j up index node tag namespace attrs children row path before after next is own still below =
        then_still i m j (at_path (template_of old.template) above (up ++ index ∷ [])) an_element (node_stands old above up index node)
        (row_stands old above (up ++ index ∷ []) 0 children) before after (λ app. node_writes app b above new old up index node) next
        (ap (λ x. node_stands old above up index x) is ∙ node_Element old above up index tag namespace attrs children)
        (told_still m j (row_stands old above path 0 row) (row_stands old above (up ++ index ∷ []) 0 children) before after
        (λ app. row_writes app b above new old path 0 row) (λ app. node_writes app b above new old up index node)
        (λ k. row_stands old above (sym below k) 0 (sym own k))
        (λ app. sym (element_here app b above new old up index node (row_writes app b above new old path 0 row) tag namespace attrs children row path is own refl below))
        still)

    module _ (up : List ℕ) (row : List TemplateNode) (start : ℕ) (first : List Edit) where
      -- the nodes so far
      abbrev pub RowSoFar : ℕ → ℕ → List Edit → Type 0
      RowSoFar index next edits =
          (rest : List (Spot (types C Q V H T E L))) → nodes_left b start ≡ row_stands old above up 0 row ++ rest
          → (nodes_left b next ≡ row_stands old above up index (drop index row) ++ rest)
          × ((app : Application (types C Q V H T E L)) → Tests C app.same_component → Passes app b.unit.now
          → then_on (writes (map edit_of edits)) (row_writes app b above new old up index (drop index row)) ≡ then_on (writes (map edit_of first)) (row_writes app b above new old up 0 row))

      pub row_so_far : (index next end : ℕ) (node : TemplateNode) (edits after : List Edit) → index < length row → node ≡ get_or row index node → RowSoFar index next edits
          → IsStill b next end (node_stands old above up index node) edits after (λ app. node_writes app b above new old up index node) → RowSoFar (index + 1) end after
      row_so_far index next end node edits after low is so_far one = λ rest h.
          let a = so_far rest h in
          let more : List (Spot (types C Q V H T E L)) = row_stands old above up (index + 1) (drop (index + 1) row) in
          let s =
          one (more ++ rest)
          (a.0 ∙ ap (λ ms. ms ++ rest) (row_parts old above up row index node low is) ∙ append_assoc (node_stands old above up index node) more rest) in (
            s.0,
            λ app tests passes.
                row_more app b above new old up row index node (writes (map edit_of edits)) (node_writes app b above new old up index node) (writes (map edit_of after))
                (then_on (writes (map edit_of first)) (row_writes app b above new old up 0 row))
                low is (a.1 app tests passes) refl (sym (s.1 app tests passes)),
          )

      pub row_whole : (index next : ℕ) (edits : List Edit) → length row ≤ index → RowSoFar index next edits
          → IsStill b start next (row_stands old above up 0 row) first edits (λ app. row_writes app b above new old up 0 row)
      row_whole index next edits end so_far = λ rest h.
          let a = so_far rest h in (
            a.0 ∙ ap (λ ms. ms ++ rest) (row_over old above up row index end),
            λ app tests passes.
                sym (row_end app b above new old up row index (writes (map edit_of edits)) (then_on (writes (map edit_of first)) (row_writes app b above new old up 0 row)) end (a.1 app tests passes)),
          )

  module _ (place : Place) (new old : List (VNode P C Q V H T E L)) (start : ℕ) (first : List Edit) where
    -- the items so far
    abbrev pub ItemsSoFar : ℕ → ℕ → List Edit → Type 0
    ItemsSoFar position next edits =
        (rest : List (Spot (types C Q V H T E L))) → nodes_left b start ≡ items_spots 0 place old ++ rest
        → (nodes_left b next ≡ items_spots position place (drop position old) ++ rest)
        × ((app : Application (types C Q V H T E L)) → Tests C app.same_component → Passes app b.unit.now
        → then_on (writes (map edit_of edits)) (items_writes app b place position (last_among b.new.now place 0 0 (take position new)) (drop position new) (drop position old))
        ≡ then_on (writes (map edit_of first)) (items_writes app b place 0 0 new old))

    pub items_so_far : (position next end : ℕ) (at_item : Place) (y x : VNode P C Q V H T E L) (edits after : List Edit)
        → position < length new → position < length old → y ≡ get_or new position y → x ≡ get_or old position x → at_item ≡ place ++ item position ∷ []
        → ItemsSoFar position next edits
        → IsStill b next end (tree_spots at_item x) edits after (λ app. tree_writes app b at_item y x) → ItemsSoFar (position + 1) end after
    items_so_far position next end at_item y x edits after low under is was at_place so_far one = λ rest h.
        let a = so_far rest h in
        let more : List (Spot (types C Q V H T E L)) = items_spots (position + 1) place (drop (position + 1) old) in
        let s =
        one (more ++ rest)
        (
        a.0
        ∙ ap (λ ts. items_spots position place ts ++ rest) (next_drop old position x under was)
        ∙ append_assoc (tree_spots (place ++ item position ∷ []) x) more rest
        ∙ ap (λ q. tree_spots q x ++ (more ++ rest)) (sym at_place)
        ) in (
          s.0,
          λ app tests passes.
              items_more app b place at_item new old position y x (writes (map edit_of edits)) (tree_writes app b at_item y x) (writes (map edit_of after))
              (then_on (writes (map edit_of first)) (items_writes app b place 0 0 new old))
              low under is was (a.1 app tests passes) refl at_place (sym (s.1 app tests passes)),
        )

    pub items_whole : (position next : ℕ) (edits : List Edit) → length new ≤ position → length old ≤ position → ItemsSoFar position next edits
        → IsStill b start next (items_spots 0 place old) first edits (λ app. items_writes app b place 0 0 new old)
    items_whole position next edits end also so_far = λ rest h.
        let a = so_far rest h in
        let last : ℕ = last_among b.new.now place 0 0 (take position new) in (
          a.0 ∙ ap (λ ts. items_spots position place ts ++ rest) (drop_of_length-le old also),
          λ app tests passes.
              sym (a.1 app tests passes)
              ∙ (λ k. then_on (writes (map edit_of edits)) (items_writes app b place position last (drop_of_length-le new end k) (drop_of_length-le old also k)))
              ∙ ap (λ w. then_on (writes (map edit_of edits)) w) (items_end app b place position last [])
              ∙ then_nothing (writes (map edit_of edits)),
        )
