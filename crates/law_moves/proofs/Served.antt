-- Where the first item of the open work wants an entry, one is due.
use Rattle.std.proofs.Common.{ℕ, Bool, true, false, List, [], ◌∷◌, ◌≡◌, refl, ap, ◌∙◌, subst}
use Rattle.std.specs.Prelude.{Option, Some, None, if◌then◌else◌}
use Rattle.rt_model.specs.Tree.{Types}
use Rattle.rt_model.specs.World.{Application}
use Rattle.rt_model.specs.State.{State, Item, Draw, Row, Feed, Make, Drop, is_live}
use Rattle.rt_model.specs.Removal.{next_removed}
use Rattle.rt_model.specs.Replay.{Entry, Made, Fed, Kept, Removed, Machine, if_live, keeps, due_feed, due}
use Rattle.rt_model.proofs.Maps.{pick_true}
use Rattle.rt_model.proofs.Stands.{Stands}
use Rattle.law_moves.specs.Moves.{serves_item, is_silent, AtWork}
use Rattle.law_moves.proofs.Always.{at_work_where}
use Rattle.law_moves.proofs.Items.{due_at_work}
use Rattle.law_moves.specs.Named.{Named}
use Rattle.law_moves.specs.Ready.{DueIsServed}
use Rattle.law_moves.proofs.Woven.{Woven, Climb}
use Rattle.law_moves.proofs.Taken.{LeafOf, leaf_found, live_up}
use Rattle.law_moves.proofs.Everywhere.{Anything, ReadyAt, reached_ready, named}

module _ {K : Types} where
  -- whence a way up leads to a live scope, there is one
  live_below : (w : State K) (path : List ℕ) (s t : ℕ) → Climb w path s t → is_live w t ≡ true → is_live w s ≡ true
  live_below w [] s t climb live = ap (λ (n : ℕ). is_live w n) climb ∙ live
  live_below w (p ∷ path) s t climb live = live_up w s p climb.0

module _ {K : Types} (app : Application K) where
  -- an entry is due that serves open work
  abbrev Served : Machine K → Type 0
  Served m = (e : Entry) × (due app m ≡ Some e) × (serves_item e ≡ true)

  fed_served : (w : State K) (t : ℕ) (b : Bool) → is_live w t ≡ true → (if_live w (Some (if b then Kept t else Fed t)) ≡ Some (if b then Kept t else Fed t)) × (serves_item (if b then Kept t else Fed t) ≡ true)
  fed_served w t true live = (pick_true (Some (Kept t)) None live, refl)
  fed_served w t false live = (pick_true (Some (Fed t)) None live, refl)

  item_served : (m : Machine K) (item : Item K) (rest : List (Item K)) → AtWork m → m.work ≡ item ∷ rest → is_silent item ≡ false → Named m.state item
      → ((top parent : ℕ) → is_live m.state top ≡ true → is_live m.state (next_removed m.state top) ≡ true)
      → Served m
  item_served m (Draw s a p k) rest h first loud there leaf = cc
  item_served m (Row b step) rest h first loud there leaf = cc
  item_served m (Make s a p c) rest h first loud there leaf = (
    Made m.state.next_scope,
    due_at_work app m (Make s a p c ∷ rest) h first ∙ ap (λ (b : Bool). if_live m.state (if b then Some (Made m.state.next_scope) else None)) there,
    refl,
  )
  item_served m (Feed s a p c) rest h first loud there leaf =
      let t : ℕ = there.1.0 in
      let b : Bool = keeps app m.state t c in
      let said = fed_served m.state t b there.1.2 in (
        (if b then Kept t else Fed t),
        due_at_work app m (Feed s a p c ∷ rest) h first ∙ ap (λ (o : Option ℕ). if_live m.state (due_feed app m.state c o)) there.1.1 ∙ said.0,
        said.1,
      )
  item_served m (Drop t s a) rest h first loud there leaf =
      let l : ℕ = next_removed m.state t in
      (Removed l, due_at_work app m (Drop t s a ∷ rest) h first ∙ pick_true (Some (Removed l)) None (leaf t s there.1), refl)

pub due_is_served : {K : Types} (app : Application K) → DueIsServed app
due_is_served app lawful limits props inputs m item rest reached alive first loud =
    let ready : ReadyAt app lawful m = reached_ready app lawful limits props inputs m reached in
    let stands : Stands m.state m.work = ready.sound.stands alive in
    item_served app m item rest (at_work_where (Anything app lawful) m item rest (ready.idle alive) alive first) first loud
    (named m.state item rest (subst (λ items. Woven m.state items) first (ready.woven alive)))
    (
    λ top parent live.
    let leaf : LeafOf m.state top (next_removed m.state top) = leaf_found m.state m.work ready.sound.rooted stands top in
    live_below m.state leaf.path (next_removed m.state top) top leaf.climb live
    )
