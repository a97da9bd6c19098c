-- What a unit writes between two looks is what the definitions say of the states whose scopes they show.
use Rattle.std.proofs.Common.{ℕ, zero, suc, Bool, true, false, ◌&&◌, List, [], ◌∷◌, ◌≡◌, refl, ap, ◌∙◌, length}
use Rattle.std.specs.Prelude.{Option, Some, None, option_map, is_some, if◌then◌else◌}
use Rattle.rt_model.specs.OneLog.{types}
use Rattle.rt_model.specs.Lists.{at}
use Rattle.rt_model.specs.World.{Application}
use Rattle.rt_model.specs.Tree as model
use Rattle.rt_model.specs.Tree.{Place}
use Rattle.rt_model.specs.State as state
use Rattle.rt_model.specs.Document.{Forest}
use Rattle.rt_model.specs.View as views
use Rattle.rt_model.specs.Caused as caused
use Rattle.rt_model.specs.Caused.{Way, Written, writes, halts, then_on, replaced_by}
use Rattle.run_places.specs.declared.side.SideName.{SideName}
use Rattle.run_places.specs.declared.side.SideName.TheVariants as names
use Rattle.run_places.specs.Places.{place_of, side_name_of}
use Rattle.run_work.specs.declared.item.Item.{Item}
use Rattle.run_work.specs.declared.item.Item.TheVariants as items
use Rattle.run_work.specs.Items.{item_of}
use Rattle.run_shown.specs.declared.look.Look.{Look}
use Rattle.run_shown.specs.declared.look.Stood.{Stood}
use Rattle.run_shown.specs.Look.{Sight, sight_of, sight_in, ShowsScopes, look_at, look_live, look_height, side_stood, shown_above, shown_within, shown_steps, look_is_shown}
use Rattle.run_shown.specs.Seen.{seen_within, scope_seen}
use Rattle.run_shown.specs.Ways.{place_on_side, place_over, above_within, way_above, look_way_up, look_way}
use Rattle.run_shown.specs.Units.{shown_writes, unit_within}
use Rattle.run_shown.proofs.Agrees.{sight_side, scope_agrees}

module _ {K : model.Types} where
  abbrev sight_live : Option (Sight K) → Bool
  sight_live o = is_some o

  abbrev sight_height : Option (Sight K) → ℕ
  sight_height None = 0
  sight_height (Some x) = x.height

  -- whether a scope is shown

  abbrev sights_above : (ℕ → Option (Sight K)) → (ℕ → Bool) → state.SideName → Option ℕ → Bool
  sights_above of go below None = true
  sights_above of go below (Some p) = state.is_side (elim (of p) as (λ o. Option state.SideName) [ None ↦ None | Some x ↦ x.shows ]) below && go p

  abbrev sights_from : (ℕ → Option (Sight K)) → (ℕ → Bool) → Option (Sight K) → Bool
  sights_from of go None = false
  sights_from of go (Some x) = sights_above of go x.below x.parent

  parent_shown : (go : ℕ → Bool) (below : state.SideName) (p : ℕ) (o : Option (state.Scope K))
      → (state.is_side (elim (option_map sight_of o) as (λ o. Option state.SideName) [ None ↦ None | Some x ↦ x.shows ]) below && go p)
      ≡ elim o as (λ y. Bool) [ None ↦ false | Some y ↦ state.is_side y.shows below && go p ]
  parent_shown go below p None = refl
  parent_shown go below p (Some y) = refl

  above_shown : (scopes : List (ℕ × state.Scope K)) (go : ℕ → Bool) (below : state.SideName) (parent : Option ℕ)
      → sights_above (λ p. option_map sight_of (at scopes p)) go below parent ≡ state.shown_at scopes go below parent
  above_shown scopes go below None = refl
  above_shown scopes go below (Some p) = parent_shown go below p (at scopes p)

  scope_shown : (scopes : List (ℕ × state.Scope K)) (go : ℕ → Bool) (o : Option (state.Scope K))
      → sights_from (λ p. option_map sight_of (at scopes p)) go (option_map sight_of o) ≡ elim o as (λ y. Bool) [ None ↦ false | Some x ↦ state.shown_at scopes go x.below x.parent ]
  scope_shown scopes go None = refl
  scope_shown scopes go (Some x) = above_shown scopes go x.below x.parent

  live_is : (o : Option (state.Scope K)) → sight_live (option_map sight_of o) ≡ is_some o
  live_is None = refl
  live_is (Some x) = refl

  height_is : (o : Option (state.Scope K)) → sight_height (option_map sight_of o) ≡ elim o as (λ y. ℕ) [ None ↦ 0 | Some x ↦ x.height ]
  height_is None = refl
  height_is (Some x) = refl

module _ {P C Q V H T E L : Type 0} where
  stood_live : (o : Option (Stood P C Q V H T E L)) → is_some o ≡ sight_live (option_map sight_in o)
  stood_live None = refl
  stood_live (Some x) = refl

  stood_height : (o : Option (Stood P C Q V H T E L)) → elim o as (λ y. ℕ) [ None ↦ 0 | Some x ↦ x.height ] ≡ sight_height (option_map sight_in o)
  stood_height None = refl
  stood_height (Some x) = refl

  stood_shows : (o : Option (Stood P C Q V H T E L))
      → option_map side_name_of (elim o as (λ y. Option SideName) [ None ↦ None | Some x ↦ x.shows ]) ≡ elim (option_map sight_in o) as (λ o. Option state.SideName) [ None ↦ None | Some x ↦ x.shows ]
  stood_shows None = refl
  stood_shows (Some x) = refl

  stood_above : (look : Look P C Q V H T E L) (go : ℕ → Bool) (below : SideName) (parent : Option ℕ)
      → shown_above look go below parent ≡ sights_above (λ p. option_map sight_in (look_at look p)) go (side_name_of below) parent
  stood_above look go below None = refl
  stood_above look go below (Some p) = ap (λ o. state.is_side o (side_name_of below) && go p) (stood_shows (look_at look p))

  stood_from : (look : Look P C Q V H T E L) (go : ℕ → Bool) (o : Option (Stood P C Q V H T E L))
      → elim (elim o as (λ y. Option SideName) [ None ↦ None | Some x ↦ Some x.below ]) as (λ y. Bool)
      [ None ↦ false | Some below ↦ shown_above look go below (elim o as (λ y. Option ℕ) [ None ↦ None | Some x ↦ x.parent ]) ]
      ≡ sights_from (λ p. option_map sight_in (look_at look p)) go (option_map sight_in o)
  stood_from look go None = refl
  stood_from look go (Some x) = stood_above look go x.below x.parent

  steps_agree : (look : Look P C Q V H T E L) (w : state.State (types C Q V H T E L)) → ShowsScopes look w → (n s : ℕ) → shown_within look n s ≡ state.shown_from w.scopes n s
  steps_agree look w h zero s = refl
  steps_agree look w h (suc n) s =
      stood_from look (λ p. shown_within look n p) (look_at look s) ∙
      (λ k. sights_from (λ p. h.each p k) (λ p. steps_agree look w h n p k) (h.each s k)) ∙
      scope_shown w.scopes (λ p. state.shown_from w.scopes n p) (at w.scopes s)

  shown_agrees : (look : Look P C Q V H T E L) (w : state.State (types C Q V H T E L)) → ShowsScopes look w → (s : ℕ) → look_is_shown look s ≡ state.is_shown w s
  unfolding shown_steps
  shown_agrees look w h s =
      let live : look_live look s ≡ state.is_live w s = stood_live (look_at look s) ∙ ap sight_live (h.each s) ∙ live_is (at w.scopes s) in
      let height : look_height look s ≡ state.height_of w.scopes s = stood_height (look_at look s) ∙ ap sight_height (h.each s) ∙ height_is (at w.scopes s) in
      (λ k. live k && shown_within look (height k) s) ∙ ap (λ b. state.is_live w s && b) (steps_agree look w h (state.height_of w.scopes s) s)

-- the way up

module _ {K : model.Types} where
  -- where a scope stands on a side of another one
  abbrev place_on_sight : Option (Sight K) → state.SideName → ℕ → Option Place
  place_on_sight None side s = None
  place_on_sight (Some x) side s = caused.place_of_child (sight_side x side).children s

  abbrev way_on : (ℕ → state.SideName → Way) → Option (Sight K) → Way
  way_on go None = []
  way_on go (Some x) = elim x.parent as (λ o. Way) [ None ↦ [] | Some p ↦ go p x.below ]

  place_is : (o : Option (state.Scope K)) (side : state.SideName) (s : ℕ)
      → place_on_sight (option_map sight_of o) side s ≡ elim o as (λ y. Option Place) [ None ↦ None | Some x ↦ caused.place_of_child (state.side_of x side).children s ]
  place_is None side s = refl
  place_is (Some x) state.MainSide s = refl
  place_is (Some x) state.ChildrenSide s = refl
  place_is (Some x) state.FallbackSide s = refl

  way_is : (v : state.State K) (go : ℕ → ℕ → state.SideName → Way) (s : ℕ) (o : Option (state.Scope K)) → way_on (λ p below. go p s below) (option_map sight_of o) ≡ caused.way_from v go s o
  way_is v go s None = refl
  way_is v go s (Some x) = by x.parent
    where
      by : (parent : Option ℕ) → elim parent as (λ o. Way) [ None ↦ [] | Some p ↦ go p s x.below ] ≡ elim parent as (λ o. Way) [ None ↦ [] | Some p ↦ go p s x.below ]
      by parent = refl

module _ {P C Q V H T E L : Type 0} where
  stood_place : (o : Option (Stood P C Q V H T E L)) (name : SideName) (s : ℕ)
      → place_on_side (elim o [ None ↦ None | Some x ↦ Some (side_stood x name) ]) s ≡ place_on_sight (option_map sight_in o) (side_name_of name) s
  stood_place None name s = refl
  stood_place (Some x) names.Main s = refl
  stood_place (Some x) names.Children s = refl
  stood_place (Some x) names.Fallback s = refl

  -- the scopes above a live one
  stood_way : (look : Look P C Q V H T E L) (s : ℕ) (go : ℕ → Way) (o : Option (Stood P C Q V H T E L))
      → elim (elim o as (λ y. Option ℕ) [ None ↦ None | Some x ↦ x.parent ]) as (λ y. Way) [
        | None ↦ []
        | Some p ↦ (p, (option_map side_name_of (elim o as (λ y. Option SideName) [ None ↦ None | Some x ↦ Some x.below ]), place_over look p (elim o as (λ y. Option SideName) [ None ↦ None | Some x ↦ Some x.below ]) s)) ∷ go p
      ]
      ≡ way_on (λ p below. (p, (Some below, place_on_sight (option_map sight_in (look_at look p)) below s)) ∷ go p) (option_map sight_in o)
  stood_way look s go None = refl
  stood_way look s go (Some x) = by x.parent
    where
      by : (parent : Option ℕ)
          → elim parent as (λ y. Way) [ None ↦ [] | Some p ↦ (p, (Some (side_name_of x.below), place_over look p (Some x.below) s)) ∷ go p ]
          ≡ elim parent as (λ o. Way) [ None ↦ [] | Some p ↦ (p, (Some (side_name_of x.below), place_on_sight (option_map sight_in (look_at look p)) (side_name_of x.below) s)) ∷ go p ]
      by None = refl
      by (Some p) = ap (λ (o : Option Place). (p, (Some (side_name_of x.below), o)) ∷ go p) (stood_place (look_at look p) x.below s)

  ways_agree : (look : Look P C Q V H T E L) (v : state.State (types C Q V H T E L)) → ShowsScopes look v → (n s : ℕ) (side : Option state.SideName) (place : Option Place)
      → (s, (side, place)) ∷ above_within look n s ≡ caused.way_up v n s side place
  ways_agree look v h zero s side place = refl
  ways_agree look v h (suc n) s side place =
      ap (λ way. (s, (side, place)) ∷ way)
      (stood_way look s (λ p. above_within look n p) (look_at look s) ∙
      (λ k. way_on (λ p below. (p, (Some below, place_on_sight (h.each p k) below s)) ∷ above_within look n p) (h.each s k)) ∙
      (λ k. way_on (λ p below. (p, (Some below, place_is (at v.scopes p) below s k)) ∷ above_within look n p) (option_map sight_of (at v.scopes s))) ∙
      (λ k. way_on (λ p below. ways_agree look v h n p (Some below) (caused.place_in_parent v p below s) k) (option_map sight_of (at v.scopes s))) ∙
      way_is v (λ p child below. caused.way_up v n p (Some below) (caused.place_in_parent v p below child)) s (at v.scopes s))

  -- the whole way
  up_agrees : (look : Look P C Q V H T E L) (v : state.State (types C Q V H T E L)) → ShowsScopes look v → (s : ℕ) (side : Option state.SideName) (place : Option Place)
      → look_way_up look s side place ≡ caused.way_up v (length v.scopes) s side place
  unfolding way_above
  up_agrees look v h s side place = ap (λ n. (s, (side, place)) ∷ above_within look n s) h.count ∙ ways_agree look v h (length v.scopes) s side place

  pub way_agrees : (look : Look P C Q V H T E L) (v : state.State (types C Q V H T E L)) → ShowsScopes look v → (item : Item P C Q V H T E L)
      → look_way look item ≡ caused.way_to v (Some (item_of item))
  way_agrees look v h (items.Draw s side place kind) = up_agrees look v h s (Some (side_name_of side)) (Some (place_of place))
  way_agrees look v h (items.Make s side place component) = up_agrees look v h s (Some (side_name_of side)) (Some (place_of place))
  way_agrees look v h (items.Feed s side place component) = up_agrees look v h s (Some (side_name_of side)) (Some (place_of place))
  way_agrees look v h (items.Row b step) = up_agrees look v h b None None
  way_agrees look v h (items.Drop t s side) = up_agrees look v h s (Some (side_name_of side)) None

-- what a scope writes

module _ {K : model.Types} (app : Application K) where
  abbrev side_sights : (ℕ → Forest) → (ℕ → Forest) → Way → (ℕ → Written) → ℕ → state.SideName → state.Side K → state.Side K → Written
  side_sights old_child new_child way under s side old new =
      caused.outputs_written app
      (record { old = old; new = new; old_child = old_child; new_child = new_child; under = under; stop = caused.stop_on side (at way s); on_way = λ t. is_some (at way t) })
      new.output old.output

  abbrev shows_sights : (ℕ → Forest) → (ℕ → Forest) → Way → (ℕ → Written) → ℕ → Sight K → Sight K → Option state.SideName → Option state.SideName → Written
  shows_sights old_child new_child way under s a b (Some x) (Some y) =
      if state.same_side x y then side_sights old_child new_child way under s x (sight_side a x) (sight_side b x) else writes (replaced_by (old_child s) (new_child s))
  shows_sights old_child new_child way under s a b _ _ = writes []

  abbrev sights_write : (ℕ → Forest) → (ℕ → Forest) → Way → (ℕ → Written) → ℕ → Option (Sight K) → Option (Sight K) → Written
  sights_write old_child new_child way under s (Some a) (Some b) = shows_sights old_child new_child way under s a b a.shows b.shows
  sights_write old_child new_child way under s _ _ = writes []

  sides_are : (w v : state.State K) (way : Way) (under : ℕ → Written) (s : ℕ) (a b : state.Scope K) (x y : Option state.SideName)
      → shows_sights (λ t. views.nodes_of w t) (λ t. views.nodes_of v t) way under s (sight_of a) (sight_of b) x y ≡ caused.sides_written app w v way under s a b x y
  sides_are w v way under s a b None y = refl
  sides_are w v way under s a b (Some x) None = refl
  sides_are w v way under s a b (Some state.MainSide) (Some y) = refl
  sides_are w v way under s a b (Some state.ChildrenSide) (Some y) = refl
  sides_are w v way under s a b (Some state.FallbackSide) (Some y) = refl

  scopes_are : (w v : state.State K) (way : Way) (under : ℕ → Written) (s : ℕ) (a b : Option (state.Scope K))
      → sights_write (λ t. views.nodes_of w t) (λ t. views.nodes_of v t) way under s (option_map sight_of a) (option_map sight_of b) ≡ caused.scope_written app w v way under s a b
  scopes_are w v way under s None b = refl
  scopes_are w v way under s (Some a) None = refl
  scopes_are w v way under s (Some a) (Some b) = sides_are w v way under s a b a.shows b.shows

module _ {P C Q V H T E L : Type 0} (app : Application (types C Q V H T E L)) where
  abbrev shown_by : Look P C Q V H T E L → Look P C Q V H T E L → Way → (ℕ → Written) → ℕ → Option (Stood P C Q V H T E L) → Option (Stood P C Q V H T E L) → Option SideName → Option SideName → Written
  shown_by before after way under s o p a b =
      shown_writes app before after way under s (λ name. elim o [ None ↦ None | Some x ↦ Some (side_stood x name) ]) (λ name. elim p [ None ↦ None | Some x ↦ Some (side_stood x name) ]) a b

  stood_sides : (before after : Look P C Q V H T E L) (way : Way) (under : ℕ → Written) (s : ℕ) (x y : Stood P C Q V H T E L) (a b : Option SideName)
      → shown_by before after way under s (Some x) (Some y) a b
      ≡ shows_sights app (λ t. seen_within before before.scopes t) (λ t. seen_within after after.scopes t) way under s (sight_in x) (sight_in y) (option_map side_name_of a) (option_map side_name_of b)
  unfolding scope_seen
  stood_sides before after way under s x y None b = refl
  stood_sides before after way under s x y (Some a) None = refl
  stood_sides before after way under s x y (Some names.Main) (Some b) = refl
  stood_sides before after way under s x y (Some names.Children) (Some b) = refl
  stood_sides before after way under s x y (Some names.Fallback) (Some b) = refl

  no_old : (before after : Look P C Q V H T E L) (way : Way) (under : ℕ → Written) (s : ℕ) (p : Option (Stood P C Q V H T E L)) (b : Option SideName) → shown_by before after way under s None p None b ≡ writes []
  no_old before after way under s p b = refl

  no_new : (before after : Look P C Q V H T E L) (way : Way) (under : ℕ → Written) (s : ℕ) (o : Option (Stood P C Q V H T E L)) (a : Option SideName) → shown_by before after way under s o None a None ≡ writes []
  no_new before after way under s o None = refl
  no_new before after way under s o (Some a) = refl

  stood_writes : (before after : Look P C Q V H T E L) (way : Way) (under : ℕ → Written) (s : ℕ) (o p : Option (Stood P C Q V H T E L))
      → shown_by before after way under s o p (elim o as (λ y. Option SideName) [ None ↦ None | Some x ↦ x.shows ]) (elim p as (λ y. Option SideName) [ None ↦ None | Some x ↦ x.shows ])
      ≡ sights_write app (λ t. seen_within before before.scopes t) (λ t. seen_within after after.scopes t) way under s (option_map sight_in o) (option_map sight_in p)
  stood_writes before after way under s None p = no_old before after way under s p (elim p as (λ y. Option SideName) [ None ↦ None | Some x ↦ x.shows ])
  stood_writes before after way under s (Some x) None = no_new before after way under s (Some x) x.shows
  stood_writes before after way under s (Some x) (Some y) = stood_sides before after way under s x y x.shows y.shows

  -- what a scope writes between two looks is what it writes between the states
  pub units_agree : (before after : Look P C Q V H T E L) (w v : state.State (types C Q V H T E L)) → ShowsScopes before w → ShowsScopes after v → (way : Way) (n s : ℕ)
      → unit_within app before after way n s ≡ caused.written_within app way w v n s
  units_agree before after w v h g way zero s = refl
  units_agree before after w v h g way (suc n) s =
      ap (λ x. then_on x (if is_some (at way s) then halts else writes []))
      ((λ k. if shown_agrees before w h s k && shown_agrees after v g s k
      then stood_writes before after way (λ t. unit_within app before after way n t) s (look_at before s) (look_at after s) k
      else writes []) ∙
      (λ k. if state.is_shown w s && state.is_shown v s
      then sights_write app (λ t. scope_agrees before w h t k) (λ t. scope_agrees after v g t k) way (λ t. units_agree before after w v h g way n t k) s (h.each s k) (g.each s k)
      else writes []) ∙
      ap (λ x. if state.is_shown w s && state.is_shown v s then x else writes []) (scopes_are app w v way (λ t. caused.written_within app way w v n t) s (at w.scopes s) (at v.scopes s)))
