-- What is drawn for a side that was patched was drawn for it before, each number at a node that it knows, and its children stood on it.
use Rattle.std.proofs.Common.{◌≡◌, ◌<◌, ℕ, zero, suc, true, false, List, [], ◌∷◌, map, length, nat_eq, get_or, refl, sym, ap, subst, ◌∙◌, arith}
use Rattle.std.specs.Prelude.{Option, Some, None, slice_get}
use Rattle.rt_model.specs.OneLog.{types}
use Rattle.rt_model.specs.State as state
use Rattle.rt_model.specs.Lists.{has}
use Rattle.rt_model.specs.Tree.{Place, Kind}
use Rattle.rt_model.proofs.Members.{by_either, clash, or_left, or_right}
use Rattle.run_records.specs.Kept.{scope_of}
use Rattle.run_records.specs.declared.rest.Scope.{Scope}
use Rattle.run_named.specs.Standings.{IsPicked, picked}
use Rattle.run_named.proofs.Around.{numbers_drawn}
use Rattle.run_places.specs.declared.nodes.NodeAt.{NodeAt}
use Rattle.run_places.specs.declared.place.Step.{Step}
use Rattle.run_places.specs.declared.side.Side.{Side}
use Rattle.run_places.specs.declared.side.SideName.{SideName}
use Rattle.run_places.specs.Drawn.{moved}
use Rattle.run_places.specs.Places.{node_of, place_of, placed, seated, side_name_of, side_of}
use Rattle.run_places.proofs.Placed.{by_option, placed_none, placed_one, seated_none, seated_one}
use Rattle.run_work.specs.Goes.{NodesGo}
use Rattle.run_state.specs.Drawn.{numbers_at, numbers_in}
use Rattle.run_state.specs.Sides.{FewerSeats}
use Rattle.run_state.proofs.Placed.{numbers_are}

-- a number whose index goes to another one, or nowhere
moves_to : (to : List (Option ℕ)) (e : ℕ × ℕ) (es : List (ℕ × ℕ)) (o : Option ℕ) → get_or to e.0 None ≡ o
    → moved to (e ∷ es) ≡ (elim o as (λ _. List (ℕ × ℕ)) [ None ↦ moved to es | Some j ↦ (j, e.1) ∷ moved to es ])
moves_to to e es o h = ap (λ (p : Option ℕ). elim p as (λ _. List (ℕ × ℕ)) [ None ↦ moved to es | Some j ↦ (j, e.1) ∷ moved to es ]) h

module _ (olds news : List (Place × Kind)) (to : List (Option ℕ)) (go : NodesGo olds news to) where
  -- what moves was there
  pub moved_picked : (es : List (ℕ × ℕ)) → IsPicked (placed news (moved to es)) (placed olds es)
  moved_picked [] = record { marks = []; same = refl }
  moved_picked (e ∷ es) =
      let rest = moved_picked es in
      by_option (get_or to e.0 None)
      (
      λ none.
      let left : placed news (moved to (e ∷ es)) ≡ picked rest.marks (placed olds es) = ap (λ (xs : List (ℕ × ℕ)). placed news xs) (moves_to to e es None none) ∙ rest.same in
      by_option (slice_get olds e.0)
      (λ gone. record { marks = rest.marks; same = left ∙ ap (λ (ys : List (Place × Kind × ℕ)). picked rest.marks ys) (sym (placed_none olds e.0 e.1 es gone)) })
      (λ q is. record { marks = false ∷ rest.marks; same = left ∙ ap (λ (ys : List (Place × Kind × ℕ)). picked (false ∷ rest.marks) ys) (sym (placed_one olds e.0 e.1 es q is)) })
      )
      (
      λ j some.
      let there = go.stands e.0 j some in
      record {
        marks = true ∷ rest.marks;
        same =
            ap (λ (xs : List (ℕ × ℕ)). placed news xs) (moves_to to e es (Some j) some)
            ∙ placed_one news j e.1 (moved to es) there.0 there.2
            ∙ ap (λ (ys : List (Place × Kind × ℕ)). (there.0.0, there.0.1, e.1) ∷ ys) rest.same
            ∙ ap (λ (ys : List (Place × Kind × ℕ)). picked (true ∷ rest.marks) ys) (sym (placed_one olds e.0 e.1 es there.0 there.1));
      }
      )

  -- each number that moves stands at a node
  pub moved_known : (es : List (ℕ × ℕ)) → numbers_drawn (placed news (moved to es)) ≡ numbers_in (moved to es)
  moved_known [] = refl
  moved_known (e ∷ es) =
      by_option (get_or to e.0 None)
      (
      λ none.
      ap (λ (xs : List (ℕ × ℕ)). numbers_drawn (placed news xs)) (moves_to to e es None none)
      ∙ moved_known es
      ∙ sym (ap (λ (xs : List (ℕ × ℕ)). numbers_in xs) (moves_to to e es None none))
      )
      (
      λ j some.
      let there = go.stands e.0 j some in
      ap (λ (xs : List (ℕ × ℕ)). numbers_drawn (placed news xs)) (moves_to to e es (Some j) some)
      ∙ ap (λ (ns : List (Place × Kind × ℕ)). numbers_drawn ns) (placed_one news j e.1 (moved to es) there.0 there.2)
      ∙ ap (λ (ns : List ℕ). e.1 ∷ ns) (moved_known es)
      ∙ sym (ap (λ (xs : List (ℕ × ℕ)). numbers_in xs) (moves_to to e es (Some j) some))
      )

-- the numbers of children, in order
abbrev seats_at : List (Place × ℕ) → List ℕ
seats_at es = map (λ (e : Place × ℕ). e.1) es

-- an index that leads on is one of those that are there
leads_low : (to : List (Option ℕ)) (i j : ℕ) → get_or to i None ≡ Some j → i < length to
leads_low [] i j h = absurd (cc h)
leads_low (o ∷ to) zero j h = omega arith
leads_low (o ∷ to) (suc i) j h = let low : i < length to = leads_low to i j h in omega (arith, low)

-- and something stands under each of these
stands_low : {A : Type 0} (xs : List A) (i : ℕ) → i < length xs → slice_get xs i ≡ None → ⊥
stands_low [] i low none = omega (arith, low)
stands_low (x ∷ xs) zero low none = cc none
stands_low (x ∷ xs) (suc i) low none = stands_low xs i (omega (arith, low)) none

module _ (olds news : List Place) (to : List (Option ℕ)) (long : length to ≡ length olds) where
  -- a child that moves stood there
  seat_moved : (es : List (ℕ × ℕ)) (t : ℕ) → has (seats_at (seated news (moved to es))) t ≡ true → has (seats_at (seated olds es)) t ≡ true
  seat_moved [] t h = h
  seat_moved (e ∷ es) t h =
      by_option (get_or to e.0 None)
      (
      λ none.
      more e es t (seat_moved es t (sym (ap (λ (xs : List (ℕ × ℕ)). has (seats_at (seated news xs)) t) (moves_to to e es None none)) ∙ h))
      )
      (
      λ j some.
      by_option (slice_get olds e.0)
      (λ gone. absurd (stands_low olds e.0 (let low : e.0 < length to = leads_low to e.0 j some in omega (arith, low, long)) gone))
      (
      λ p is.
      ap (λ (xs : List (Place × ℕ)). has (seats_at xs) t) (seated_one olds e.0 e.1 es p is)
      ∙ by_option (slice_get news j)
      (
      λ away.
      or_right (nat_eq e.1 t) (has (seats_at (seated olds es)) t)
      (
      seat_moved es t
      (
      sym
      (
      ap (λ (xs : List (ℕ × ℕ)). has (seats_at (seated news xs)) t) (moves_to to e es (Some j) some)
      ∙ ap (λ (xs : List (Place × ℕ)). has (seats_at xs) t) (seated_none news j e.1 (moved to es) away)
      )
      ∙ h
      )
      )
      )
      (
      λ q there.
      by_either (nat_eq e.1 t) (has (seats_at (seated news (moved to es))) t)
      (
      sym
      (
      ap (λ (xs : List (ℕ × ℕ)). has (seats_at (seated news xs)) t) (moves_to to e es (Some j) some)
      ∙ ap (λ (xs : List (Place × ℕ)). has (seats_at xs) t) (seated_one news j e.1 (moved to es) q there)
      )
      ∙ h
      )
      (λ own. or_left (nat_eq e.1 t) (has (seats_at (seated olds es)) t) own)
      (λ rest. or_right (nat_eq e.1 t) (has (seats_at (seated olds es)) t) (seat_moved es t rest))
      )
      )
      )
    where
      more : (e : ℕ × ℕ) (es : List (ℕ × ℕ)) (t : ℕ) → has (seats_at (seated olds es)) t ≡ true → has (seats_at (seated olds (e ∷ es))) t ≡ true
      more e es t h =
          by_option (slice_get olds e.0)
          (λ none. ap (λ (xs : List (Place × ℕ)). has (seats_at xs) t) (seated_none olds e.0 e.1 es none) ∙ h)
          (
          λ p is.
          ap (λ (xs : List (Place × ℕ)). has (seats_at xs) t) (seated_one olds e.0 e.1 es p is)
          ∙ or_right (nat_eq e.1 t) (has (seats_at (seated olds es)) t) h
          )

module _ {P C Q V H T E L : Type 0} where
  -- the numbers of a side that moved to other nodes
  pub side_picked : (was : Side P C Q V H T E L) (nodes found : List NodeAt) (numbers : List (ℕ × ℕ)) (to : List (Option ℕ)) → NodesGo (map node_of was.nodes) (map node_of found) to
      → nodes ≡ found → numbers ≡ moved to was.numbers → IsPicked (placed (map node_of nodes) numbers) (side_of was).numbers
  side_picked was nodes found numbers to go nodes_are numbers_is =
      let all = moved_picked (map node_of was.nodes) (map node_of found) to go was.numbers in
      record { marks = all.marks; same = (λ i. placed (map node_of (nodes_are i)) (numbers_is i)) ∙ all.same }

  pub side_known : (was : Side P C Q V H T E L) (nodes found : List NodeAt) (numbers : List (ℕ × ℕ)) (to : List (Option ℕ)) → NodesGo (map node_of was.nodes) (map node_of found) to
      → nodes ≡ found → numbers ≡ moved to was.numbers → numbers_at nodes numbers ≡ numbers_in numbers
  side_known was nodes found numbers to go nodes_are numbers_is =
      sym (numbers_are nodes numbers)
      ∙ (λ i. numbers_drawn (placed (map node_of (nodes_are i)) (numbers_is i)))
      ∙ moved_known (map node_of was.nodes) (map node_of found) to go was.numbers
      ∙ sym (ap (λ (xs : List (ℕ × ℕ)). numbers_in xs) numbers_is)

  -- the side that was found is that of the scope in the table
  pub fewer_on : (name : SideName) (found x : Scope P C Q V H T E L) (was : Side P C Q V H T E L) {few : List (Place × Kind × ℕ)} → Some found ≡ Some x
      → side_of was ≡ state.side_of (scope_of found) (side_name_of name) → IsPicked few (side_of was).numbers → IsPicked few (state.side_of (scope_of x) (side_name_of name)).numbers
  fewer_on name found x was {few} same is h =
      let one : found ≡ x = ap (λ (o : Option (Scope P C Q V H T E L)). elim o as (λ _. Scope P C Q V H T E L) [ None ↦ found | Some y ↦ y ]) same in
      subst (λ (y : Scope P C Q V H T E L). IsPicked few (state.side_of (scope_of y) (side_name_of name)).numbers) one (subst (λ (a : state.Side (types C Q V H T E L)). IsPicked few a.numbers) is h)

  -- a side for which the same is drawn
  pub drawn_on : (name : SideName) (found x : Scope P C Q V H T E L) (was side : Side P C Q V H T E L) → Some found ≡ Some x
      → side_of was ≡ state.side_of (scope_of found) (side_name_of name) → (side_of side).numbers ≡ (side_of was).numbers
      → (side_of side).numbers ≡ (state.side_of (scope_of x) (side_name_of name)).numbers
  drawn_on name found x was side same is h =
      let one : found ≡ x = ap (λ (o : Option (Scope P C Q V H T E L)). elim o as (λ _. Scope P C Q V H T E L) [ None ↦ found | Some y ↦ y ]) same in
      h
      ∙ ap (λ (a : state.Side (types C Q V H T E L)). a.numbers) is
      ∙ ap (λ (y : Scope P C Q V H T E L). (state.side_of (scope_of y) (side_name_of name)).numbers) one

  -- the children of a side that moved to other places
  pub side_seats : (was : Side P C Q V H T E L) (seats : List (List Step)) (children : List (ℕ × ℕ)) (to : List (Option ℕ)) → length to ≡ length was.seats → children ≡ moved to was.children
      → (t : ℕ) → has (seats_at (seated (map place_of seats) children)) t ≡ true → has (seats_at (side_of was).children) t ≡ true
  side_seats was seats children to long moves t h =
      seat_moved (map place_of was.seats) (map place_of seats) to (long ∙ sym (length_mapped was.seats)) was.children t
      (sym (ap (λ (es : List (ℕ × ℕ)). has (seats_at (seated (map place_of seats) es)) t) moves) ∙ h)
    where
      length_mapped : (ps : List (List Step)) → length (map place_of ps) ≡ length ps
      length_mapped [] = refl
      length_mapped (p ∷ ps) = ap suc (length_mapped ps)

  -- the same of the scope in the table
  pub seats_found : (name : SideName) (found x : Scope P C Q V H T E L) (was : Side P C Q V H T E L) {few : state.Side (types C Q V H T E L)} → Some found ≡ Some x
      → side_of was ≡ state.side_of (scope_of found) (side_name_of name) → FewerSeats few (side_of was) → FewerSeats few (state.side_of (scope_of x) (side_name_of name))
  seats_found name found x was {few} same is fewer =
      let one : found ≡ x = ap (λ (o : Option (Scope P C Q V H T E L)). elim o as (λ _. Scope P C Q V H T E L) [ None ↦ found | Some y ↦ y ]) same in
      subst (λ (y : Scope P C Q V H T E L). FewerSeats few (state.side_of (scope_of y) (side_name_of name))) one
      (subst (λ (a : state.Side (types C Q V H T E L)). FewerSeats few a) is fewer)

  -- a side with the same children
  pub seats_same : (was side : Side P C Q V H T E L) → (side_of side).children ≡ (side_of was).children → FewerSeats (side_of side) (side_of was)
  seats_same was side same = record { stood = λ t h. sym (ap (λ (es : List (Place × ℕ)). has (seats_at es) t) same) ∙ h }
