-- What a look at the scopes shows of each of them.
use Rattle.std.specs.Prelude.{ℕ, zero, suc, Bool, true, false, ◌&&◌, List, [], Option, Some, None, option_map, is_some, length, ◌≡◌}
use Rattle.std.specs.Borrow.{Bor}
use Rattle.rt_model.specs.OneLog.{types}
use Rattle.rt_model.specs.Tree.{Types}
use Rattle.rt_model.specs.Lists.{at}
use Rattle.rt_model.specs.State as state
use Rattle.run_places.specs.declared.side.Side.{Side}
use Rattle.run_places.specs.declared.side.SideName.{SideName}
use Rattle.run_places.specs.declared.side.SideName.TheVariants as names
use Rattle.run_places.specs.Places.{side_name_of, side_of}
use Rattle.run_records.specs.Records.{number_of}
use Rattle.run_records.specs.declared.rest.Scope.{Scope}
use Rattle.run_shown.specs.declared.look.Look.{Look}
use Rattle.run_shown.specs.declared.look.Stood.{Stood}
use Rattle.run_shown.specs.declared.look.OtherSides.{OtherSides}
use Rattle.run_shown.specs.declared.look.OtherSides.TheVariants as others
use Rattle.run_shown.specs.declared.found.Rung.{Rung}
use Rattle.run_shown.specs.declared.found.Found.{Found}
use Rattle.run_shown.specs.declared.found.Found.TheVariants as founds

-- whether this side shows
abbrev pub is_showing : Option SideName → SideName → Bool
is_showing shows below = state.is_side (option_map side_name_of shows) (side_name_of below)

module _ {P C Q V H T E L : Type 0} where
  -- a side of a scope as it stands
  abbrev pub side_standing : Scope P C Q V H T E L → SideName → Side P C Q V H T E L
  side_standing x names.Main = (x.rest).main_side
  side_standing x names.Children = (x.rest).children_side
  side_standing x names.Fallback = (x.rest).fallback_side

  -- the side of the children
  abbrev pub children_in : OtherSides P C Q V H T E L → Side P C Q V H T E L
  children_in (others.Bare side) = side
  children_in (others.Two two) = two.0

  -- the side of the fallback
  abbrev pub fallback_in : OtherSides P C Q V H T E L → Side P C Q V H T E L
  fallback_in (others.Bare side) = side
  fallback_in (others.Two two) = two.1

  -- a side of a scope as it stood
  abbrev pub side_stood : Stood P C Q V H T E L → SideName → Side P C Q V H T E L
  side_stood x names.Main = x.main_side
  side_stood x names.Children = children_in x.other_sides
  side_stood x names.Fallback = fallback_in x.other_sides

  -- the side that showed of it
  abbrev pub shown_of : Stood P C Q V H T E L → Option (Side P C Q V H T E L)
  shown_of x = elim x.shows [ None ↦ None | Some name ↦ Some (side_stood x name) ]

  -- what is shown of a scope as it stands
  abbrev pub standing : Scope P C Q V H T E L → Stood P C Q V H T E L
  standing x =
      record {
        parent = number_of (x.row).parent;
        height = (x.rest).height;
        below = (x.rest).below;
        shows = (x.rest).shows;
        main_side = (x.rest).main_side;
        other_sides = others.Two ((x.rest).children_side, (x.rest).fallback_side);
      }

  -- what is shown of a scope that was found
  abbrev pub found_of : Found P C Q V H T E L → Stood P C Q V H T E L
  found_of (founds.Former stood) = stood.now
  found_of (founds.Present scope) = standing scope.now

  -- what is shown of a scope: as it stood where that is kept, else as it stands
  abbrev pub seen_in : Option (Option (Stood P C Q V H T E L)) → Option (Scope P C Q V H T E L) → Option (Stood P C Q V H T E L)
  seen_in (Some (Some x)) present = Some x
  seen_in (Some None) present = None
  seen_in None (Some x) = Some (standing x)
  seen_in None None = None

  -- what is kept where something is
  abbrev pub kept_in : Option (Bor (List (ℕ × Option (Stood P C Q V H T E L)))) → List (ℕ × Option (Stood P C Q V H T E L))
  kept_in None = []
  kept_in (Some stood) = stood.now

  -- what a look keeps of scopes as they stood
  abbrev pub stood_in : Look P C Q V H T E L → List (ℕ × Option (Stood P C Q V H T E L))
  stood_in look = kept_in look.stood

  -- what a look shows of a scope
  abbrev pub look_at : Look P C Q V H T E L → ℕ → Option (Stood P C Q V H T E L)
  look_at look s = seen_in (at (stood_in look) s) (at (look.rows.now).table s)

  -- where a scope stands, and which side it shows
  abbrev pub rung_of : Stood P C Q V H T E L → Rung
  rung_of x = record { parent = x.parent; height = x.height; below = x.below; shows = x.shows }

  -- the same of one that is shown
  abbrev pub rung_in : Option (Stood P C Q V H T E L) → Option Rung
  rung_in None = None
  rung_in (Some x) = Some (rung_of x)

  -- whether a scope is live
  abbrev pub look_live : Look P C Q V H T E L → ℕ → Bool
  look_live look s = is_some (look_at look s)

  -- the parent of a live scope
  abbrev pub look_parent : Look P C Q V H T E L → ℕ → Option ℕ
  look_parent look s = elim (look_at look s) [ None ↦ None | Some x ↦ x.parent ]

  -- the height of a live scope
  abbrev pub look_height : Look P C Q V H T E L → ℕ → ℕ
  look_height look s = elim (look_at look s) [ None ↦ 0 | Some x ↦ x.height ]

  -- the side of its parent that a live scope was made on
  abbrev pub look_below : Look P C Q V H T E L → ℕ → Option SideName
  look_below look s = elim (look_at look s) [ None ↦ None | Some x ↦ Some x.below ]

  -- which side a scope shows
  abbrev pub look_shows : Look P C Q V H T E L → ℕ → Option SideName
  look_shows look s = elim (look_at look s) [ None ↦ None | Some x ↦ x.shows ]

  -- a side of a scope
  abbrev pub look_side : Look P C Q V H T E L → ℕ → SideName → Option (Side P C Q V H T E L)
  look_side look s name = elim (look_at look s) [ None ↦ None | Some x ↦ Some (side_stood x name) ]

  -- the side that a scope shows, with what is kept of it
  unfoldable pub look_shown : Look P C Q V H T E L → ℕ → Option (Side P C Q V H T E L)
  look_shown look s = elim (look_shows look s) [ None ↦ None | Some name ↦ look_side look s name ]

  -- the side shows that the way to a scope is below, and so do those further up
  abbrev pub shown_above : Look P C Q V H T E L → (ℕ → Bool) → SideName → Option ℕ → Bool
  shown_above look go below None = true
  shown_above look go below (Some p) = is_showing (look_shows look p) below && go p

  -- each scope above shows the side that the way is below, at most n steps up
  abbrev pub shown_within : Look P C Q V H T E L → ℕ → ℕ → Bool
  shown_within look zero s = true
  shown_within look (suc n) s =
      elim (look_below look s) [ None ↦ false | Some below ↦ shown_above look (λ p. shown_within look n p) below (look_parent look s) ]

  -- the same as one word
  unfoldable pub shown_steps : Look P C Q V H T E L → ℕ → ℕ → Bool
  shown_steps look n s = shown_within look n s

  -- the same from the parent on
  unfoldable pub shown_on : Look P C Q V H T E L → ℕ → SideName → Option ℕ → Bool
  shown_on look n below parent = shown_above look (λ p. shown_within look n p) below parent

  -- each scope above shows the side that the way to the scope is below
  abbrev pub look_is_shown : Look P C Q V H T E L → ℕ → Bool
  look_is_shown look s = look_live look s && shown_steps look (look_height look s) s

  -- of each scope of which the one keeps nothing the other shows what it does
  abbrev pub IsAlike : Look P C Q V H T E L → Look P C Q V H T E L → Type 0
  IsAlike look other = (s : ℕ) → at (stood_in look) s ≡ None → look_at other s ≡ look_at look s

module _ (K : Types) where
  -- what a look shows of a scope, as the definitions have it
  pub record Sight : Type 0 where
    pub parent : Option ℕ
    pub height : ℕ
    -- the side of the parent that it was made on
    pub below : state.SideName
    pub shows : Option state.SideName
    pub main_side : state.Side K
    pub children_side : state.Side K
    pub fallback_side : state.Side K

module _ {K : Types} where
  -- what is shown of a scope of a state
  abbrev pub sight_of : state.Scope K → Sight K
  sight_of x =
      record {
        parent = x.parent;
        height = x.height;
        below = x.below;
        shows = x.shows;
        main_side = x.main_side;
        children_side = x.children_side;
        fallback_side = x.fallback_side;
      }

module _ {P C Q V H T E L : Type 0} where
  -- what is shown of a scope of a look
  abbrev pub sight_in : Stood P C Q V H T E L → Sight (types C Q V H T E L)
  sight_in x =
      record {
        parent = x.parent;
        height = x.height;
        below = side_name_of x.below;
        shows = option_map side_name_of x.shows;
        main_side = side_of x.main_side;
        children_side = side_of (children_in x.other_sides);
        fallback_side = side_of (fallback_in x.other_sides);
      }

  -- a look shows the scopes of a state
  pub record ShowsScopes (look : Look P C Q V H T E L) (w : state.State (types C Q V H T E L)) : Type 0 where
    -- of each scope the same
    pub each : (s : ℕ) → option_map sight_in (look_at look s) ≡ option_map sight_of (at w.scopes s)
    -- as many are live
    pub count : look.scopes ≡ length w.scopes
