-- What the items of a fragment write, one after another.
use Rattle.std.proofs.Common.{ℕ, zero, suc, Bool, true, false, ◌+◌, ◌-◌, ◌<◌, ◌≤◌, ◌||◌, List, [], ◌∷◌, ◌++◌, ◌≡◌, ◌≢◌, refl, sym, ap, ◌∙◌, map, length, get_or, take, drop, arith}
use Rattle.std.specs.Prelude.{Option, None, Some, is_some, if◌then◌else◌}
use Rattle.std.specs.Borrow.{Bor}
use Rattle.std.proofs.lemmas.Bool.{true≢false}
use Rattle.run_places.specs.declared.place.Step.{Step}
use Rattle.std.proofs.Math.ListN.{drop_of_length-le}
use Rattle.tree_nodes.specs.declared.vnode.VNode.{VNode}
use Rattle.rt_model.specs.OneLog.{types}
use Rattle.rt_model.specs.World.{Application}
use Rattle.rt_model.specs.Tree.{Place, item}
use Rattle.rt_model.specs.View as views
use Rattle.rt_model.specs.Document.{Forest}
use Rattle.rt_model.specs.Document as doc
use Rattle.rt_model.specs.Caused as caused
use Rattle.rt_model.specs.Caused.{Written, writes, halts, then_on}
use Rattle.rt_edits.specs.declared.doc_node.DocNode.{DocNode}
use Rattle.tree_mirror.specs.Mirror.{trees_from}
use Rattle.tree_edits.specs.Documents.{forest_of}
use Rattle.tree_mirror.specs.Sealed.{tree_of}
use Rattle.run_places.specs.Places.{side_of}
use Rattle.run_shown.specs.declared.calm.Sides.{Sides}
use Rattle.run_shown.specs.declared.showing.Shown.{Shown}
use Rattle.run_shown.specs.Seen.{seen_by, tree_in, tree_seen, items_seen}
use Rattle.run_shown.proofs.Views.{items_are}
use Rattle.run_shown.specs.Ways.{place_found}
use Rattle.run_shown.specs.Units.{tree_writes, items_writes, last_among, items_inserts, around_from}
use Rattle.run_shown.proofs.OneByOne.{next_drop, take-more, length-taken}
use Rattle.run_shown.proofs.Parted.{then_then}

-- one more item isn't the refused place, nor does it hold it
pub around_more : (place at_item : Place) (i end : ℕ) (stop : Option Place) (answer whole : Bool)
    → i < end → around_from place i stop (end - i) ≡ whole → answer ≡ caused.is_around at_item stop → at_item ≡ place ++ item i ∷ [] → answer ≡ false
    → around_from place (i + 1) stop (end - (i + 1)) ≡ whole
around_more place at_item i end stop answer whole low so_far one at_place apart =
    let e : end - i ≡ suc (end - (i + 1)) = omega arith in
    let here : caused.is_around (place ++ item i ∷ []) stop ≡ false = sym (one ∙ ap (λ p. caused.is_around p stop) at_place) ∙ apart in
    sym (ap (λ b. b || around_from place (i + 1) stop (end - (i + 1))) here) ∙
    sym (ap (λ n. around_from place i stop n) e) ∙ so_far

-- an item that is the place or holds it is among them
pub around_here : (place at_item : Place) (i end : ℕ) (stop : Option Place) (answer whole : Bool)
    → i < end → around_from place i stop (end - i) ≡ whole → answer ≡ caused.is_around at_item stop → at_item ≡ place ++ item i ∷ [] → answer ≡ true
    → true ≡ whole
around_here place at_item i end stop answer whole low so_far one at_place around =
    let e : end - i ≡ suc (end - (i + 1)) = omega arith in
    let here : caused.is_around (place ++ item i ∷ []) stop ≡ true = sym (one ∙ ap (λ p. caused.is_around p stop) at_place) ∙ around in
    sym (ap (λ b. b || around_from place (i + 1) stop (end - (i + 1))) here) ∙
    sym (ap (λ n. around_from place i stop n) e) ∙ so_far

-- nothing is around no place
pub around_none : (place : Place) (i n : ℕ) → around_from place i None n ≡ false
around_none place i zero = refl
around_none place i (suc n) = around_none place (i + 1) n

pub around_unless : (stop : Option (Bor (List Step))) (place : Place) (i n : ℕ) → is_some stop ≡ false → false ≡ around_from place i (place_found stop) n
around_unless None place i n none = sym (around_none place i n)
around_unless (Some step) place i n none = absurd (true≢false none)

module _ {P C Q V H T E L : Type 0} where
  -- the last node of items, one item after another

  last_more : (shown : Shown P C Q V H T E L) (place : Place) (j last : ℕ) (xs : List (VNode P C Q V H T E L)) (y : VNode P C Q V H T E L)
      → last_among shown place j last (xs ++ y ∷ []) ≡ caused.last_of (last_among shown place j last xs) (tree_in shown y (place ++ item (j + length xs) ∷ []))
  last_more shown place j last [] y = ap (λ m. caused.last_of last (tree_in shown y (place ++ item m ∷ []))) (let e : j ≡ j + 0 = omega arith in e)
  last_more shown place j last (x ∷ xs) y =
      let before : ℕ = caused.last_of last (tree_in shown x (place ++ item j ∷ [])) in
      last_more shown place (j + 1) before xs y ∙
      ap (λ m. caused.last_of (last_among shown place (j + 1) before xs) (tree_in shown y (place ++ item m ∷ []))) (let e : j + 1 + length xs ≡ j + suc (length xs) = omega arith in e)

  last_next : (shown : Shown P C Q V H T E L) (place : Place) (new : List (VNode P C Q V H T E L)) (i : ℕ) (y : VNode P C Q V H T E L) → i < length new → y ≡ get_or new i y
      → caused.last_of (last_among shown place 0 0 (take i new)) (tree_in shown y (place ++ item i ∷ [])) ≡ last_among shown place 0 0 (take (i + 1) new)
  last_next shown place new i y low is =
      ap (λ m. caused.last_of (last_among shown place 0 0 (take i new)) (tree_in shown y (place ++ item m ∷ []))) (sym (length-taken new i (omega arith)) ∙ (let e : length (take i new) ≡ 0 + length (take i new) = omega arith in e)) ∙
      sym (last_more shown place 0 0 (take i new) y) ∙ ap (λ xs. last_among shown place 0 0 xs) (sym (take-more new i y low is)) ∙
      ap (λ n. last_among shown place 0 0 (take n new)) (let e : suc i ≡ i + 1 = omega arith in e)

  -- from behind: an item that shows a node has the last one
  pub last_here : (shown : Shown P C Q V H T E L) (place at_item : Place) (new : List (VNode P C Q V H T E L)) (i : ℕ) (y : VNode P C Q V H T E L) (row : List DocNode)
      → i < length new → y ≡ get_or new i y → forest_of row ≡ tree_in shown y at_item → at_item ≡ place ++ item i ∷ [] → row ≢ []
      → caused.last_of 0 (forest_of row) ≡ last_among shown place 0 0 (take (i + 1) new)
  last_here shown place at_item new i y [] low is seen at_place some = absurd (some refl)
  last_here shown place at_item new i y (x ∷ xs) low is seen at_place some =
      ap (λ f. caused.last_of (last_among shown place 0 0 (take i new)) f) (seen ∙ ap (λ p. tree_in shown y p) at_place) ∙ last_next shown place new i y low is

  -- an item that shows none leaves it to those before it
  pub last_passed : (shown : Shown P C Q V H T E L) (place at_item : Place) (new : List (VNode P C Q V H T E L)) (i : ℕ) (y : VNode P C Q V H T E L) (row : List DocNode)
      → i < length new → y ≡ get_or new i y → forest_of row ≡ tree_in shown y at_item → at_item ≡ place ++ item i ∷ [] → row ≡ []
      → last_among shown place 0 0 (take (i + 1) new) ≡ last_among shown place 0 0 (take i new)
  last_passed shown place at_item new i y row low is seen at_place none =
      let there : forest_of row ≡ tree_in shown y (place ++ item i ∷ []) = seen ∙ ap (λ p. tree_in shown y p) at_place in
      sym (last_next shown place new i y low is) ∙ ap (λ f. caused.last_of (last_among shown place 0 0 (take i new)) f) (sym there ∙ ap forest_of none)

module _ {P C Q V H T E L : Type 0} (app : Application (types C Q V H T E L)) where
  -- items

  pub items_end : (b : Sides P C Q V H T E L) (place : Place) (i last : ℕ) (old : List (VNode P C Q V H T E L)) → items_writes app b place i last [] old ≡ writes (caused.removals (items_seen (b.old.now).asked (b.old.now).side.now i 0 place old))
  unfolding items_writes
  items_end b place i last old =
      ap (λ f. writes (caused.removals f))
      (ap (λ m. views.items_view (side_of (b.old.now).side.now) (λ t. seen_by (b.old.now).asked t) m place (trees_from (map tree_of old))) (let e : i ≡ i + 0 = omega arith in e) ∙
      sym (items_are (b.old.now).asked (b.old.now).side.now i 0 place old))

  around_is : (place : Place) (i : ℕ) (stop : Option Place) (trees : List (VNode P C Q V H T E L)) → caused.any_around app place i stop (trees_from (map tree_of trees)) ≡ around_from place i stop (length trees)
  around_is place i stop [] = refl
  around_is place i stop (t ∷ ts) = ap (λ c. caused.is_around (place ++ item i ∷ []) stop || c) (around_is place (i + 1) stop ts)

  pub items_insert : (b : Sides P C Q V H T E L) (place : Place) (i last : ℕ) (new : List (VNode P C Q V H T E L)) → new ≢ [] → items_writes app b place i last new [] ≡ items_inserts b place i last new
  unfolding items_writes
  items_insert b place i last [] some = absurd (some refl)
  items_insert b place i last (t ∷ ts) some =
      (λ k. if around_is place i (place_found b.stop) (t ∷ ts) k then halts else writes (doc.InsertNodesAfter last (shown k) ∷ []))
    where
      shown : views.items_view (side_of (b.new.now).side.now) (λ u. seen_by (b.new.now).asked u) i place (trees_from (map tree_of (t ∷ ts)))
          ≡ items_seen (b.new.now).asked (b.new.now).side.now i 0 place (t ∷ ts)
      shown =
          ap (λ m. views.items_view (side_of (b.new.now).side.now) (λ u. seen_by (b.new.now).asked u) m place (trees_from (map tree_of (t ∷ ts)))) (let e : i ≡ i + 0 = omega arith in e) ∙
          sym (items_are (b.new.now).asked (b.new.now).side.now i 0 place (t ∷ ts))

  pub items_step : (b : Sides P C Q V H T E L) (place : Place) (i last : ℕ) (y x : VNode P C Q V H T E L) (ys xs : List (VNode P C Q V H T E L))
      → items_writes app b place i last (y ∷ ys) (x ∷ xs)
      ≡ then_on (tree_writes app b (place ++ item i ∷ []) y x)
      (items_writes app b place (i + 1) (caused.last_of last (tree_seen (b.new.now).asked (b.new.now).side.now y (place ++ item i ∷ []))) ys xs)
  unfolding items_writes tree_writes tree_seen
  items_step b place i last y x ys xs = refl

  -- one after another

  -- one more pair is written
  pub items_more : (b : Sides P C Q V H T E L) (place at_item : Place) (new old : List (VNode P C Q V H T E L)) (i : ℕ) (y x : VNode P C Q V H T E L) (before this after whole : Written)
      → i < length new → i < length old → y ≡ get_or new i y → x ≡ get_or old i x
      → then_on before (items_writes app b place i (last_among b.new.now place 0 0 (take i new)) (drop i new) (drop i old)) ≡ whole
      → this ≡ tree_writes app b at_item y x
      → at_item ≡ place ++ item i ∷ []
      → after ≡ then_on before this
      → then_on after (items_writes app b place (i + 1) (last_among b.new.now place 0 0 (take (i + 1) new)) (drop (i + 1) new) (drop (i + 1) old)) ≡ whole
  items_more b place at_item new old i y x before this after whole low under is was so_far one at_place more =
      let rest : Written = items_writes app b place (i + 1) (last_among b.new.now place 0 0 (take (i + 1) new)) (drop (i + 1) new) (drop (i + 1) old) in
      ap (λ w. then_on w rest) (more ∙ ap (λ w. then_on before w) (one ∙ ap (λ p. tree_writes app b p y x) at_place)) ∙
      then_then before (tree_writes app b (place ++ item i ∷ []) y x) rest ∙
      ap (λ n. then_on before (then_on (tree_writes app b (place ++ item i ∷ []) y x) (items_writes app b place (i + 1) n (drop (i + 1) new) (drop (i + 1) old)))) (sym (last_next b.new.now place new i y low is)) ∙
      ap (λ w. then_on before w) (sym (items_step b place i (last_among b.new.now place 0 0 (take i new)) y x (drop (i + 1) new) (drop (i + 1) old))) ∙
      (λ k. then_on before (items_writes app b place i (last_among b.new.now place 0 0 (take i new)) (sym (next_drop new i y low is) k) (sym (next_drop old i x under was) k))) ∙
      so_far

  -- the rest is new
  pub items_rest : (b : Sides P C Q V H T E L) (place : Place) (new old : List (VNode P C Q V H T E L)) (i : ℕ) (before this whole : Written)
      → i < length new → i ≡ length old
      → then_on before (items_writes app b place i (last_among b.new.now place 0 0 (take i new)) (drop i new) (drop i old)) ≡ whole
      → this ≡ items_inserts b place i (last_among b.new.now place 0 0 (take i new)) (drop i new)
      → then_on before this ≡ whole
  items_rest b place new old i before this whole low end so_far one =
      ap (λ w. then_on before w) (one ∙ sym (items_insert b place i (last_among b.new.now place 0 0 (take i new)) (drop i new) (some_left new i low))) ∙
      ap (λ xs. then_on before (items_writes app b place i (last_among b.new.now place 0 0 (take i new)) (drop i new) xs)) (sym (drop_of_length-le old (let e : length old ≤ i = omega arith in e))) ∙
      so_far
    where
      some_left : (xs : List (VNode P C Q V H T E L)) (j : ℕ) → j < length xs → drop j xs ≢ []
      some_left [] j low = absurd (let e : ⊥ = omega arith in e)
      some_left (x ∷ xs) zero low = λ none. cc none
      some_left (x ∷ xs) (suc j) low = some_left xs j (omega arith)

  -- what is over is removed
  pub items_over : (b : Sides P C Q V H T E L) (place : Place) (new old : List (VNode P C Q V H T E L)) (i : ℕ) (before whole : Written) (edits : List doc.Edit) (over : Forest)
      → i ≡ length new
      → then_on before (items_writes app b place i (last_among b.new.now place 0 0 (take i new)) (drop i new) (drop i old)) ≡ whole
      → over ≡ items_seen (b.old.now).asked (b.old.now).side.now (length new) 0 place (drop (length new) old)
      → edits ≡ caused.removals over
      → then_on before (writes edits) ≡ whole
  items_over b place new old i before whole edits over end so_far seen are =
      ap (λ es. then_on before (writes es))
      (are ∙ ap caused.removals (seen ∙ ap (λ n. items_seen (b.old.now).asked (b.old.now).side.now n 0 place (drop n old)) (sym end))) ∙
      ap (λ w. then_on before w) (sym (items_end b place i (last_among b.new.now place 0 0 (take i new)) (drop i old))) ∙
      ap (λ xs. then_on before (items_writes app b place i (last_among b.new.now place 0 0 (take i new)) xs (drop i old))) (sym (drop_of_length-le new (let e : length new ≤ i = omega arith in e))) ∙
      so_far
