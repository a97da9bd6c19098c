-- The scopes above the one that has a number lead to it, and the place that was tried is the only one of its side.
use Rattle.std.proofs.Common.{ℕ, zero, suc, Bool, true, false, ◌&&◌, List, [], ◌∷◌, ◌++◌, ◌≡◌, ◌≢◌, refl, sym, ap, ◌∙◌, map, nat_eq}
use Rattle.std.specs.Prelude.{IfSome, Option, Some, None, is_some, option_map, slice_get, if◌then◌else◌}
use Rattle.std.specs.Borrow.{Bor}
use Rattle.std.specs.Option.{option_copied}
use Rattle.std.proofs.lemmas.Bool.{eqb-true}
use Rattle.std.proofs.lemmas.Option.{slice_get-map}
use Rattle.rt_lemmas.proofs.Options.{some_is as one_some, none_is as none_some}
use Rattle.rt_lemmas.proofs.Bools.{clash_back as false_true}
use Rattle.rt_model.specs.Lists.{at, has}
use Rattle.rt_model.specs.OneLog.{types}
use Rattle.rt_model.specs.Tree as model
use Rattle.rt_model.specs.Tree.{Place, Kind, same_kind, same_place}
use Rattle.rt_model.specs.Run.{child_at}
use Rattle.rt_model.specs.Heard.{Climb, find_child, find_tree, number_at}
use Rattle.rt_model.proofs.Conjunctions.{and-right}
use Rattle.rt_model.proofs.Maps.{by_test, pick_false, pick_true}
use Rattle.rt_model.proofs.SamePlaces.{same_place-true}
use Rattle.tree_nodes.specs.declared.vnode.VNode.{VNode}
use Rattle.tree_mirror.specs.Sealed.{tree_of}
use Rattle.run_places.specs.declared.nodes.NodeAt.{NodeAt}
use Rattle.run_places.specs.declared.place.Step.{Step}
use Rattle.run_places.specs.declared.side.Side.{Side}
use Rattle.run_places.specs.declared.side.SideName.{SideName}
use Rattle.run_places.specs.Indexed.{place_in}
use Rattle.run_places.specs.Places.{node_of, output_of, place_of, placed, seated, side_of}
use Rattle.run_places.specs.Sides.{child_in, number_in}
use Rattle.run_places.proofs.Placed.{by_option, placed_none, placed_one, seated_none, seated_one}
use Rattle.run_shown.specs.declared.look.Look.{Look}
use Rattle.run_shown.specs.declared.look.Stood.{Stood}
use Rattle.run_shown.specs.declared.sought.Sought.{Sought}
use Rattle.run_shown.specs.Climbs.{climb_on, climb_within, scope_climb}
use Rattle.run_shown.specs.Leading.{IsHolder, IsOnlyAt, IsWay, KnowSeats, Leads, lone_after, lone_where, same_spot}
use Rattle.run_shown.specs.Look.{look_at, look_live, look_shown, look_side}
use Rattle.run_shown.specs.Touched.{Climbs}
use Rattle.run_shown.specs.Ways.{place_found}
use Rattle.run_shown.proofs.Children.{number_other}
use Rattle.run_shown.proofs.Elsewhere.{Lacks, tree_none}

-- a fact of each pair
abbrev Each : (ℕ → ℕ → Type 0) → List (ℕ × ℕ) → Type 0
Each fact [] = Unit {0}
Each fact (e ∷ es) = fact e.0 e.1 × Each fact es

-- one that was found is the only one
lone_stays : (test : ℕ → Bool) (j : ℕ) (got : Option ℕ) (es : List (ℕ × ℕ)) → lone_after (Some j) test es ≡ Some got → got ≡ Some j
lone_stays test j got [] is = sym (one_some is)
lone_stays test j got (e ∷ es) is =
    let on : Option (Option ℕ) = lone_after (Some e.0) test es in
    let past : Option (Option ℕ) = lone_after (Some j) test es in
    let both : Option (Option ℕ) = if nat_eq j e.0 then on else None in
    by_test (test e.1)
    (
    λ q.
    let there : both ≡ Some got = sym (pick_true both past q) ∙ is in
    by_test (nat_eq j e.0)
    (λ same. lone_stays test e.0 got es (sym (pick_true on None same) ∙ there) ∙ ap (λ (n : ℕ). Some n) (sym (eqb-true j e.0 same)))
    (λ apart. none_some got (sym (pick_false on None apart) ∙ there))
    )
    (λ q. lone_stays test j got es (sym (pick_false both past q) ∙ is))

-- where those of which a test holds stand under one index, or there are none
lone_each : (test : ℕ → Bool) (found got : Option ℕ) (fact : ℕ → ℕ → Type 0) (es : List (ℕ × ℕ)) → lone_after found test es ≡ Some got
    → ((i m : ℕ) → got ≡ Some i → fact i m) → ((i m : ℕ) → test m ≡ false → fact i m) → Each fact es
lone_each test found got fact [] is here other = tt
lone_each test found got fact (e ∷ es) is here other =
    let on : Option (Option ℕ) = lone_after (Some e.0) test es in
    let past : Option (Option ℕ) = lone_after found test es in
    let both : Option (Option ℕ) = if same_spot found e.0 then on else None in
    by_test (test e.1)
    (
    λ q.
    let there : both ≡ Some got = sym (pick_true both past q) ∙ is in
    by_test (same_spot found e.0)
    (
    λ same.
    let rest : on ≡ Some got = sym (pick_true on None same) ∙ there in
    (here e.0 e.1 (lone_stays test e.0 got es rest), lone_each test (Some e.0) got fact es rest here other)
    )
    (λ apart. none_some got (sym (pick_false on None apart) ∙ there))
    )
    (λ q. (other e.0 e.1 q, lone_each test found got fact es (sym (pick_false both past q) ∙ is) here other))

-- a number that stands under no index of a place isn't found there

abbrev NotNode : List (Place × Kind) → ℕ → Place → ℕ → ℕ → Type 0
NotNode nodes number q i m = nat_eq m number ≡ true → (x : Place × Kind) → slice_get nodes i ≡ Some x → x.0 ≢ q

number_elsewhere : (nodes : List (Place × Kind)) (number : ℕ) (q : Place) (k : Kind) (es : List (ℕ × ℕ)) → number ≢ 0 → Each (NotNode nodes number q) es
    → nat_eq (number_at (placed nodes es) q k) number ≡ false
number_elsewhere nodes number q k [] some each = number_other 0 number (λ e. some (sym e))
number_elsewhere nodes number q k (e ∷ es) some each =
    by_option (slice_get nodes e.0)
    (λ none. ap (λ (ps : List (Place × Kind × ℕ)). nat_eq (number_at ps q k) number) (placed_none nodes e.0 e.1 es none) ∙ number_elsewhere nodes number q k es some each.1)
    (
    λ x is.
    let rest : ℕ = number_at (placed nodes es) q k in
    ap (λ (ps : List (Place × Kind × ℕ)). nat_eq (number_at ps q k) number) (placed_one nodes e.0 e.1 es x is)
    ∙ by_test (same_kind x.1 k && same_place x.0 q)
    (
    λ t.
    ap (λ (n : ℕ). nat_eq n number) (pick_true e.1 rest t)
    ∙ by_test (nat_eq e.1 number)
    (λ s. absurd (each.0 s x is (same_place-true x.0 q (and-right (same_kind x.1 k) (same_place x.0 q) t))))
    (λ s. s)
    )
    (λ t. ap (λ (n : ℕ). nat_eq n number) (pick_false e.1 rest t) ∙ number_elsewhere nodes number q k es some each.1)
    )

-- nor a child that leads to it

abbrev NotSeat : List Place → List ℕ → Place → ℕ → ℕ → Type 0
NotSeat seats way q i m = has way m ≡ true → (p : Place) → slice_get seats i ≡ Some p → p ≢ q

child_elsewhere : (seats : List Place) (way : List ℕ) (q : Place) (es : List (ℕ × ℕ)) → Each (NotSeat seats way q) es
    → (t : ℕ) → child_at (seated seats es) q ≡ Some t → has way t ≡ false
child_elsewhere seats way q [] each t there = none_some t there
child_elsewhere seats way q (e ∷ es) each t there =
    by_option (slice_get seats e.0)
    (λ none. child_elsewhere seats way q es each.1 t (sym (ap (λ (ps : List (Place × ℕ)). child_at ps q) (seated_none seats e.0 e.1 es none)) ∙ there))
    (
    λ p is.
    let rest : Option ℕ = child_at (seated seats es) q in
    let found : child_at ((p, e.1) ∷ seated seats es) q ≡ Some t = sym (ap (λ (ps : List (Place × ℕ)). child_at ps q) (seated_one seats e.0 e.1 es p is)) ∙ there in
    by_test (same_place p q)
    (
    λ s.
    let same : e.1 ≡ t = one_some (sym (pick_true (Some e.1) rest s) ∙ found) in
    by_test (has way e.1)
    (λ h. absurd (each.0 h p is (same_place-true p q s)))
    (λ h. ap (λ (n : ℕ). has way n) (sym same) ∙ h)
    )
    (λ s. child_elsewhere seats way q es each.1 t (sym (pick_false (Some e.1) rest s) ∙ found))
    )

-- what stands under an index has one place

node_there : (nodes : List NodeAt) (i : ℕ) (place : List Step) (x : Place × Kind) → Some place ≡ place_in nodes i → slice_get (map node_of nodes) i ≡ Some x → x.0 ≡ place_of place
node_there nodes i place x is there =
    by_option (slice_get nodes i)
    (λ none. none_some x (sym (ap (λ (o : Option NodeAt). option_map node_of o) none) ∙ sym (slice_get-map node_of nodes i) ∙ there))
    (
    λ y same.
    let node : node_of y ≡ x = one_some (sym (ap (λ (o : Option NodeAt). option_map node_of o) same) ∙ sym (slice_get-map node_of nodes i) ∙ there) in
    let own : place ≡ y.place = one_some (is ∙ ap (λ (o : Option NodeAt). option_map (λ (z : NodeAt). z.place) o) same) in
    ap (λ (z : Place × Kind). z.0) (sym node) ∙ ap place_of (sym own)
    )

seat_there : (seats : List (List Step)) (i : ℕ) (place : List Step) (p : Place) → Some place ≡ slice_get seats i → slice_get (map place_of seats) i ≡ Some p → p ≡ place_of place
seat_there seats i place p is there =
    sym (one_some (ap (λ (o : Option (List Step)). option_map place_of o) is ∙ sym (slice_get-map place_of seats i) ∙ there))

module _ {P C Q V H T E L : Type 0} where
  -- the place of the only node with the number
  pub only_node : (side : Side P C Q V H T E L) (sought : Sought) (i : ℕ) (found : Option (Bor (List Step))) → sought.number ≢ 0
      → lone_where (λ m. nat_eq m sought.number) side.numbers ≡ Some (Some i) → lone_where (λ t. has sought.way.now t) side.children ≡ Some None
      → option_copied found ≡ place_in side.nodes i → IsOnlyAt side sought (place_found found)
  only_node side sought i None some nodes children is = tt
  only_node side sought i (Some place) some nodes children is = λ q apart. record {
    number = λ k.
        number_elsewhere (map node_of side.nodes) sought.number q k side.numbers some
        (lone_each (λ m. nat_eq m sought.number) None (Some i) (NotNode (map node_of side.nodes) sought.number q) side.numbers nodes
        (λ j m same own x there e. apart (sym e ∙ node_there side.nodes i place.now x is (ap (λ (n : ℕ). slice_get (map node_of side.nodes) n) (one_some same) ∙ there)))
        (λ j m other own. false_true (nat_eq m sought.number) other own));
    child =
        child_elsewhere (map place_of side.seats) sought.way.now q side.children
        (lone_each (λ t. has sought.way.now t) None None (NotSeat (map place_of side.seats) sought.way.now q) side.children children
        (λ j m same. none_some j same)
        (λ j m other own. false_true (has sought.way.now m) other own));
  }

  -- the place of the only child that leads to it
  pub only_child : (side : Side P C Q V H T E L) (sought : Sought) (i : ℕ) (found : Option (Bor (List Step))) → sought.number ≢ 0
      → lone_where (λ m. nat_eq m sought.number) side.numbers ≡ Some None → lone_where (λ t. has sought.way.now t) side.children ≡ Some (Some i)
      → option_copied found ≡ slice_get side.seats i → IsOnlyAt side sought (place_found found)
  only_child side sought i None some nodes children is = tt
  only_child side sought i (Some place) some nodes children is = λ q apart. record {
    number = λ k.
        number_elsewhere (map node_of side.nodes) sought.number q k side.numbers some
        (lone_each (λ m. nat_eq m sought.number) None None (NotNode (map node_of side.nodes) sought.number q) side.numbers nodes
        (λ j m same. none_some j same)
        (λ j m other own. false_true (nat_eq m sought.number) other own));
    child =
        child_elsewhere (map place_of side.seats) sought.way.now q side.children
        (lone_each (λ t. has sought.way.now t) None (Some i) (NotSeat (map place_of side.seats) sought.way.now q) side.children children
        (λ j m same own p there e. apart (sym e ∙ seat_there side.seats i place.now p is (ap (λ (n : ℕ). slice_get (map place_of side.seats) n) (one_some same) ∙ there)))
        (λ j m other own. false_true (has sought.way.now m) other own));
  }

  -- where a scope isn't live it shows nothing

  dead_shown : (look : Look P C Q V H T E L) (t : ℕ) → look_live look t ≡ false → look_shown look t ≡ None
  unfolding look_shown
  dead_shown look t dead =
      by_option (look_at look t)
      (
      λ none.
      ap (λ (o : Option (Stood P C Q V H T E L)).
      elim (elim o as (λ p. Option SideName) [ None ↦ None | Some x ↦ x.shows ]) as (λ p. Option (Side P C Q V H T E L)) [ None ↦ None | Some name ↦ look_side look t name ]) none
      )
      (λ x is. false_true (is_some (look_at look t)) dead (ap (λ (o : Option (Stood P C Q V H T E L)). is_some o) is))

  -- a side at none of whose places it is found

  side_lacks : (number : ℕ) (inner : ℕ → Option (Climb (types C Q V H T E L))) (side : Side P C Q V H T E L) → ((q : Place) → Lacks (side_of side) number inner q) → climb_on number inner (Some side) ≡ None
  side_lacks number inner side lacks = by side.output
    where
      by : (o : Option (VNode P C Q V H T E L))
          → elim (output_of o) as (λ x. Option (Climb (types C Q V H T E L))) [ None ↦ None | Some t ↦ find_tree (side_of side) number inner [] t ] ≡ None
      by None = refl
      by (Some tree) = tree_none (side_of side) number inner [] (tree_of tree) (λ x r. lacks (([] ++ x ∷ []) ++ r))

  module _ (look : Look P C Q V H T E L) (number : ℕ) (holder : Option ℕ) (way : List ℕ) (holds : IsHolder look number holder) (seated : KnowSeats look)
      (own : (s : ℕ) → holder ≡ Some s → has way s ≡ true) (above : Climbs look way way) (some : number ≢ 0) where
    -- a child below which it isn't found, by the scopes that are fewer steps away
    child_lacks : (n s : ℕ) (side : Side P C Q V H T E L) → look_shown look s ≡ Some side → has way s ≡ false → ((t : ℕ) → has way t ≡ false → climb_within look number n t ≡ None)
        → ((t : ℕ) → look_live look t ≡ false → climb_within look number n t ≡ None)
        → (q : Place) (o : Option ℕ) → child_in side q ≡ o → find_child (λ t. climb_within look number n t) o ≡ None
    child_lacks n s side shown out others gone q None is = refl
    child_lacks n s side shown out others gone q (Some t) is =
        by_test (has way t)
        (
        λ led.
        by_test (look_live look t)
        (λ live. false_true (has way s) out (above t s led (seated.parents s t side q shown is live)))
        (λ dead. gone t dead)
        )
        (λ off. others t off)

    -- a scope that isn't live
    gone_lacks : (n t : ℕ) → look_live look t ≡ false → climb_within look number n t ≡ None
    gone_lacks zero t dead = refl
    gone_lacks (suc n) t dead = ap (λ (o : Option (Side P C Q V H T E L)). climb_on number (λ u. climb_within look number n u) o) (dead_shown look t dead)

    -- below a scope that isn't on the way nothing is found
    none_out : (n s : ℕ) → has way s ≡ false → climb_within look number n s ≡ None
    none_out zero s out = refl
    none_out (suc n) s out =
        by_option (look_shown look s)
        (λ none. ap (λ (o : Option (Side P C Q V H T E L)). climb_on number (λ t. climb_within look number n t) o) none)
        (
        λ side is.
        ap (λ (o : Option (Side P C Q V H T E L)). climb_on number (λ t. climb_within look number n t) o) is
        ∙ side_lacks number (λ t. climb_within look number n t) side
        (
        λ q.
        record {
          leaf = λ k.
              by_test (nat_eq (number_in side q k) number)
              (λ here. false_true (has way s) out (own s (holds.alone s side q k is (eqb-true (number_in side q k) number here) some)))
              (λ r. r);
          child = child_lacks n s side is out (λ t off. none_out n t off) (λ t dead. gone_lacks n t dead) q (child_in side q) refl;
        }
        )
        )

    -- so these scopes lead to it
    pub leads_held : Leads look number way
    unfolding scope_climb
    leads_held = record { some = some; others = λ n s out. none_out n s out }

  -- nothing is above no scope
  pub none_climbs : (look : Look P C Q V H T E L) (way : List ℕ) → way ≡ [] → Climbs look way way
  none_climbs look way empty = λ t p led up. false_true (has way t) (ap (λ (ks : List ℕ). has ks t) empty) led

  -- no scope leads to a number that none has
  pub leads_none : (look : Look P C Q V H T E L) (number : ℕ) (holder : Option ℕ) (way : List ℕ) → IsHolder look number holder → KnowSeats look → number ≢ 0 → holder ≡ None → way ≡ [] → Leads look number way
  leads_none look number holder way holds seated some none empty =
      leads_held look number holder way holds seated (λ s is. none_some s (sym none ∙ is)) (none_climbs look way empty) some

  -- the scope that has it, with those above it, does
  pub leads_up : (look : Look P C Q V H T E L) (number : ℕ) (holder : Option ℕ) (s : ℕ) (found : Option (List ℕ)) → IsHolder look number holder → KnowSeats look → number ≢ 0 → holder ≡ Some s
      → IfSome found (λ way. IsWay look s way) → IfSome found (λ way. Leads look number way)
  leads_up look number holder s None holds seated some there way = tt
  leads_up look number holder s (Some way) holds seated some there is =
      leads_held look number holder way holds seated (λ t same. ap (λ (k : ℕ). has way k) (one_some (sym same ∙ there)) ∙ is.own) is.above some
