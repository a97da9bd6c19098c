-- The scope in which a node stands is the only one that shows it, and children on what shows know their parents.
use Rattle.std.proofs.Common.{◌≡◌, ◌≢◌, ℕ, List, true, refl, sym, ap, ◌∙◌}
use Rattle.std.specs.Prelude.{Option, Some, None, is_some, option_map}
use Rattle.rt_lemmas.proofs.Options.{some_is as the_same, none_is as none_there}
use Rattle.rt_model.specs.Heard.{number_at}
use Rattle.rt_model.specs.Lists.{at}
use Rattle.rt_model.specs.OneLog.{types}
use Rattle.rt_model.specs.Queries.{Standing, node_place}
use Rattle.rt_model.specs.Run.{child_at}
use Rattle.rt_model.specs.State as model
use Rattle.rt_model.specs.Tree.{Place, Kind}
use Rattle.run_named.specs.Named.{Named, named_of}
use Rattle.run_places.specs.declared.side.Side.{Side}
use Rattle.run_places.specs.declared.side.SideName.{SideName}
use Rattle.run_places.specs.declared.side.SideName.TheVariants as names
use Rattle.run_places.specs.Places.{side_name_of, side_of}
use Rattle.run_records.specs.Kept.{scope_of}
use Rattle.run_records.specs.Records.{number_of}
use Rattle.run_records.specs.declared.rest.Scope.{Scope}
use Rattle.run_shown.specs.declared.look.Look.{Look}
use Rattle.run_shown.specs.declared.look.Stood.{Stood}
use Rattle.run_shown.specs.Leading.{IsHolder, KnowSeats}
use Rattle.run_shown.specs.Look.{look_at, look_live, look_parent, look_shown, seen_in, side_stood, standing}
use Rattle.run_state.specs.Drawn.{standing_scope}
use Rattle.run_state.specs.Mirror.{Unkept, at_first, state_of}
use Rattle.run_state.specs.declared.state.State.{State}
use Rattle.run_state.proofs.NumberStands.{child_knows, number_stands}

-- the scope that a place tells
abbrev pub told_scope : Option Named → Option ℕ
told_scope o = option_map (λ (n : Named). n.scope) o

pub scope_named : (o : Option Standing) → told_scope (option_map named_of o) ≡ standing_scope o
scope_named None = refl
scope_named (Some st) = refl

module _ {P C Q V H T E L : Type 0} where
  -- a scope that shows a side, and which of its sides that is
  record Shows (rows : List (ℕ × Scope P C Q V H T E L)) (s : ℕ) (side : Side P C Q V H T E L) : Type 0 where
    row : Scope P C Q V H T E L
    live : at rows s ≡ Some row
    name : SideName
    is : model.side_of (scope_of row) (side_name_of name) ≡ side_of side

  stood_side : (x : Scope P C Q V H T E L) (name : SideName) → model.side_of (scope_of x) (side_name_of name) ≡ side_of (side_stood (standing x) name)
  stood_side x names.Main = refl
  stood_side x names.Children = refl
  stood_side x names.Fallback = refl

  abbrev shown_of : Option (Stood P C Q V H T E L) → Option (Side P C Q V H T E L)
  shown_of o =
      elim (elim o as (λ p. Option SideName) [ None ↦ None | Some x ↦ x.shows ]) as (λ p. Option (Side P C Q V H T E L))
      [ None ↦ None | Some name ↦ elim o as (λ p. Option (Side P C Q V H T E L)) [ None ↦ None | Some x ↦ Some (side_stood x name) ] ]

  shows_row : (rows : List (ℕ × Scope P C Q V H T E L)) (s : ℕ) (side : Side P C Q V H T E L) (x : Scope P C Q V H T E L) → at rows s ≡ Some x
      → (shows : Option SideName) → elim shows as (λ p. Option (Side P C Q V H T E L)) [ None ↦ None | Some name ↦ Some (side_stood (standing x) name) ] ≡ Some side → Shows rows s side
  shows_row rows s side x live None h = none_there side h
  shows_row rows s side x live (Some name) h = record {
    row = x;
    live = live;
    name = name;
    is = stood_side x name ∙ ap (λ (a : Side P C Q V H T E L). side_of a) (the_same h);
  }

  module _ (look : Look P C Q V H T E L) (rows : List (ℕ × Scope P C Q V H T E L)) (each : (s : ℕ) → look_at look s ≡ seen_in None (at rows s)) where
    shown_row : (s : ℕ) (side : Side P C Q V H T E L) → look_shown look s ≡ Some side → Shows rows s side
    unfolding look_shown
    shown_row s side h = by (at rows s) refl (ap (λ (o : Option (Stood P C Q V H T E L)). shown_of o) (sym (each s)) ∙ h)
      where
        by : (o : Option (Scope P C Q V H T E L)) → at rows s ≡ o → shown_of (seen_in None (at rows s)) ≡ Some side → Shows rows s side
        by None live k = none_there side (sym (ap (λ (o : Option (Scope P C Q V H T E L)). shown_of (seen_in None o)) live) ∙ k)
        by (Some x) live k = shows_row rows s side x live (x.rest).shows (sym (ap (λ (o : Option (Scope P C Q V H T E L)). shown_of (seen_in None o)) live) ∙ k)

    -- a live scope has a row, and the parent that the look tells
    live_row : (t : ℕ) → look_live look t ≡ true → (y : Scope P C Q V H T E L) × (at rows t ≡ Some y) × (look_parent look t ≡ number_of (y.row).parent)
    live_row t h = by (at rows t) refl (ap (λ (o : Option (Stood P C Q V H T E L)). is_some o) (sym (each t)) ∙ h)
      where
        by : (o : Option (Scope P C Q V H T E L)) → at rows t ≡ o → is_some (seen_in None (at rows t)) ≡ true
            → (y : Scope P C Q V H T E L) × (at rows t ≡ Some y) × (look_parent look t ≡ number_of (y.row).parent)
        by None there k = absurd (cc (sym (ap (λ (o : Option (Scope P C Q V H T E L)). is_some (seen_in None o)) there) ∙ k))
        by (Some y) there k = (
          y,
          there,
          ap (λ (o : Option (Stood P C Q V H T E L)). elim o as (λ p. Option ℕ) [ None ↦ None | Some x ↦ x.parent ])
              (each t ∙ ap (λ (o : Option (Scope P C Q V H T E L)). seen_in None o) there),
        )

  -- the scope in which a node stands has it alone
  pub holds_alone : (d : State P C Q V H T E L) (look : Look P C Q V H T E L) (n : ℕ) (holder : Option ℕ) → ((s : ℕ) → look_at look s ≡ seen_in None (at (d.rows).table s))
      → ((g : Unkept (types C Q V H T E L)) → holder ≡ standing_scope (node_place (state_of g d) n)) → IsHolder look n holder
  holds_alone d look n holder each told = record {
    alone = λ s side q k shown here some.
        let row = shown_row look (d.rows).table each s side shown in
        told at_first
        ∙ number_stands d s n row.row row.name q k row.live some (ap (λ (a : model.Side (types C Q V H T E L)). number_at a.numbers q k) row.is ∙ here) at_first;
  }

  -- children on what shows know their parents
  pub seats_known : (d : State P C Q V H T E L) (look : Look P C Q V H T E L) → ((s : ℕ) → look_at look s ≡ seen_in None (at (d.rows).table s)) → KnowSeats look
  seats_known d look each = record {
    parents = λ s t side q shown child live.
        let row = shown_row look (d.rows).table each s side shown in
        let own = live_row look (d.rows).table each t live in
        own.2
        ∙ child_knows d s t row.row own.0 row.name q row.live own.1 (ap (λ (a : model.Side (types C Q V H T E L)). child_at a.children q) row.is ∙ child);
  }
