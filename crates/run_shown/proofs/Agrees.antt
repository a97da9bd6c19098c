-- What a look shows is what the definitions show of the state whose scopes it shows.
use Rattle.std.proofs.Common.{ℕ, zero, suc, ◌≡◌, refl, ap, ◌∙◌, length}
use Rattle.std.specs.Prelude.{Option, Some, None, option_map}
use Rattle.rt_model.specs.OneLog.{types}
use Rattle.rt_model.specs.Lists.{at}
use Rattle.rt_model.specs.Tree as model
use Rattle.rt_model.specs.State as state
use Rattle.rt_model.specs.Document.{Forest, Empty}
use Rattle.rt_model.specs.View as views
use Rattle.rt_model.specs.View.{side_view}
use Rattle.rt_model.specs.Heard as hears
use Rattle.rt_model.specs.Heard.{Climb, find_side}
use Rattle.run_places.specs.declared.side.Side.{Side}
use Rattle.run_places.specs.declared.side.SideName.{SideName}
use Rattle.run_places.specs.declared.side.SideName.TheVariants as names
use Rattle.run_places.specs.Places.{side_name_of, side_of}
use Rattle.run_shown.specs.declared.look.Look.{Look}
use Rattle.run_shown.specs.declared.look.Stood.{Stood}
use Rattle.run_shown.specs.Look.{Sight, sight_of, sight_in, ShowsScopes, look_at, look_shown, side_stood}
use Rattle.run_shown.specs.Seen.{seen_side, seen_within, scope_seen}
use Rattle.run_shown.specs.Climbs.{climb_on, climb_within, scope_climb}

module _ {K : model.Types} where
  -- a side of what is shown of a scope
  abbrev pub sight_side : Sight K → state.SideName → state.Side K
  sight_side x state.MainSide = x.main_side
  sight_side x state.ChildrenSide = x.children_side
  sight_side x state.FallbackSide = x.fallback_side

  -- the side that shows of it
  abbrev pub sight_shown : Option (Sight K) → Option (state.Side K)
  sight_shown None = None
  sight_shown (Some x) = elim x.shows as (λ p. Option (state.Side K)) [ None ↦ None | Some name ↦ Some (sight_side x name) ]

  abbrev forest_from : (ℕ → Forest) → Option (state.Side K) → Forest
  forest_from inner None = Empty
  forest_from inner (Some side) = side_view inner side

  abbrev climb_from : ℕ → (ℕ → Option (Climb K)) → Option (state.Side K) → Option (Climb K)
  climb_from number inner None = None
  climb_from number inner (Some side) = find_side number inner side

  named_forest : (inner : ℕ → Forest) (x : state.Scope K) (shows : Option state.SideName)
      → forest_from inner (elim shows as (λ p. Option (state.Side K)) [ None ↦ None | Some name ↦ Some (sight_side (sight_of x) name) ])
      ≡ elim shows as (λ p. Forest) [ None ↦ Empty | Some name ↦ side_view inner (state.side_of x name) ]
  named_forest inner x None = refl
  named_forest inner x (Some state.MainSide) = refl
  named_forest inner x (Some state.ChildrenSide) = refl
  named_forest inner x (Some state.FallbackSide) = refl

  scope_forest : (inner : ℕ → Forest) (o : Option (state.Scope K)) → forest_from inner (sight_shown (option_map sight_of o)) ≡ views.scope_view inner o
  scope_forest inner None = refl
  scope_forest inner (Some x) = named_forest inner x x.shows

  named_climb : (number : ℕ) (inner : ℕ → Option (Climb K)) (x : state.Scope K) (shows : Option state.SideName)
      → climb_from number inner (elim shows as (λ p. Option (state.Side K)) [ None ↦ None | Some name ↦ Some (sight_side (sight_of x) name) ])
      ≡ elim shows as (λ p. Option (Climb K)) [ None ↦ None | Some name ↦ find_side number inner (state.side_of x name) ]
  named_climb number inner x None = refl
  named_climb number inner x (Some state.MainSide) = refl
  named_climb number inner x (Some state.ChildrenSide) = refl
  named_climb number inner x (Some state.FallbackSide) = refl

  scope_found : (number : ℕ) (inner : ℕ → Option (Climb K)) (o : Option (state.Scope K)) → climb_from number inner (sight_shown (option_map sight_of o)) ≡ hears.find_output number inner o
  scope_found number inner None = refl
  scope_found number inner (Some x) = named_climb number inner x x.shows

module _ {P C Q V H T E L : Type 0} where
  named_side : (x : Stood P C Q V H T E L) (shows : Option SideName)
      → option_map side_of (elim shows as (λ p. Option (Side P C Q V H T E L)) [ None ↦ None | Some name ↦ Some (side_stood x name) ])
      ≡ elim (option_map side_name_of shows) as (λ p. Option (state.Side (types C Q V H T E L))) [ None ↦ None | Some name ↦ Some (sight_side (sight_in x) name) ]
  named_side x None = refl
  named_side x (Some names.Main) = refl
  named_side x (Some names.Children) = refl
  named_side x (Some names.Fallback) = refl

  stood_side : (o : Option (Stood P C Q V H T E L))
      → option_map side_of (elim (elim o as (λ p. Option SideName) [ None ↦ None | Some x ↦ x.shows ]) as (λ p. Option (Side P C Q V H T E L))
      [ None ↦ None | Some name ↦ elim o as (λ p. Option (Side P C Q V H T E L)) [ None ↦ None | Some x ↦ Some (side_stood x name) ] ])
      ≡ sight_shown (option_map sight_in o)
  stood_side None = refl
  stood_side (Some x) = named_side x x.shows

  -- the side that shows
  pub shown_agrees : (look : Look P C Q V H T E L) (w : state.State (types C Q V H T E L)) → ShowsScopes look w → (s : ℕ) → option_map side_of (look_shown look s) ≡ sight_shown (option_map sight_of (at w.scopes s))
  unfolding look_shown
  shown_agrees look w h s = stood_side (look_at look s) ∙ ap sight_shown (h.each s)

  -- the document

  seen_from : (inner : ℕ → Forest) (o : Option (Side P C Q V H T E L)) → seen_side inner o ≡ forest_from inner (option_map side_of o)
  seen_from inner None = refl
  seen_from inner (Some side) = refl

  seen_agrees : (look : Look P C Q V H T E L) (w : state.State (types C Q V H T E L)) → ShowsScopes look w → (n s : ℕ) → seen_within look n s ≡ views.view_within w n s
  seen_agrees look w h zero s = refl
  seen_agrees look w h (suc n) s =
      seen_from (λ t. seen_within look n t) (look_shown look s) ∙
      ap (λ o. forest_from (λ t. seen_within look n t) o) (shown_agrees look w h s) ∙
      scope_forest (λ t. seen_within look n t) (at w.scopes s) ∙
      (λ k. views.scope_view (λ t. seen_agrees look w h n t k) (at w.scopes s))

  -- at most as many scopes deep as are live
  pub scope_agrees : (look : Look P C Q V H T E L) (w : state.State (types C Q V H T E L)) → ShowsScopes look w → (s : ℕ) → seen_within look look.scopes s ≡ views.nodes_of w s
  scope_agrees look w h s = ap (λ n. seen_within look n s) h.count ∙ seen_agrees look w h (length w.scopes) s

  pub nodes_are : (look : Look P C Q V H T E L) (w : state.State (types C Q V H T E L)) → ShowsScopes look w → (s : ℕ) → scope_seen look look.scopes s ≡ views.nodes_of w s
  unfolding scope_seen
  nodes_are look w h s = scope_agrees look w h s

  -- the climb from a number

  climb_out : (number : ℕ) (inner : ℕ → Option (Climb (types C Q V H T E L))) (o : Option (Side P C Q V H T E L)) → climb_on number inner o ≡ climb_from number inner (option_map side_of o)
  climb_out number inner None = refl
  climb_out number inner (Some side) = refl

  climb_agrees : (look : Look P C Q V H T E L) (w : state.State (types C Q V H T E L)) → ShowsScopes look w → (number n s : ℕ) → climb_within look number n s ≡ hears.find_within w number n s
  climb_agrees look w h number zero s = refl
  climb_agrees look w h number (suc n) s =
      climb_out number (λ t. climb_within look number n t) (look_shown look s) ∙
      ap (λ o. climb_from number (λ t. climb_within look number n t) o) (shown_agrees look w h s) ∙
      scope_found number (λ t. climb_within look number n t) (at w.scopes s) ∙
      (λ k. hears.find_output number (λ t. climb_agrees look w h number n t k) (at w.scopes s))

  pub climbs_are : (look : Look P C Q V H T E L) (w : state.State (types C Q V H T E L)) → ShowsScopes look w → (number s : ℕ) → scope_climb look number look.scopes s ≡ hears.find_within w number (length w.scopes) s
  unfolding scope_climb
  climbs_are look w h number s = ap (λ n. climb_within look number n s) h.count ∙ climb_agrees look w h number (length w.scopes) s
