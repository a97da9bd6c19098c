-- A scope that is handed a component: it is run, or keeps its output.
use Rattle.std.proofs.Common.{ℕ, ◌+◌, ◌≤◌, Bool, true, false, List, [], ◌∷◌, ◌≡◌, ◌⊎◌, inl, inr, refl, sym, ap, ◌∙◌, subst, arith}
use Rattle.std.specs.Prelude.{Option, Some, None, is_some, if◌then◌else◌}
use Rattle.rt_model.specs.Lists.{at, put}
use Rattle.rt_model.specs.Tree.{Types, Place, VComponent, is_suspense_boundary}
use Rattle.rt_model.specs.World.{Firsts, Application}
use Rattle.rt_model.specs.Laws.{IsLawful}
use Rattle.rt_model.specs.Values.{keeps_output}
use Rattle.rt_model.specs.State.{SideName, RowStep, Scope, LastCall, State, Item, Feed, Outcome, Done, changed_scope, height_of}
use Rattle.rt_model.specs.Next.{next}
use Rattle.rt_model.specs.Run.{run}
use Rattle.rt_model.specs.Boundary.{children_of}
use Rattle.rt_model.specs.Replay.{Machine, ended_by, keeps, with_props, handed, outcome_of}
use Rattle.rt_model.specs.Lasting.{IsRooted}
use Rattle.rt_model.proofs.Maps.{eq_same, at_put_here}
use Rattle.rt_model.proofs.Stands.{Stands}
use Rattle.law_moves.proofs.Twigs.{found_live, up_height}
use Rattle.law_moves.proofs.Woven.{Woven}
use Rattle.law_moves.proofs.Patched.{Idle}
use Rattle.law_moves.proofs.Weaves.{knows_of, idle_same, props_twigs}
use Rattle.law_moves.proofs.Everywhere.{feeds_idle, fed_kid}
use Rattle.law_moves.proofs.Calm.{Pending, Calm}
use Rattle.law_moves.proofs.RunStages.{Stage}
use Rattle.law_moves.proofs.Owed.{still_at, rows_of, Alike, Called, called_again, BodyCurrent, StageHolds, OwesAs}
use Rattle.law_moves.proofs.Alone.{Alone, alone_calm, change_alone}
use Rattle.law_moves.proofs.Runs.{Starts, OthersOwe, others_stay, all_owe}
use Rattle.law_moves.specs.Sorts.{ComponentSort, sort_of}
use Rattle.law_moves.proofs.ChildKinds.{kind_of, Kinds, kinds_alike, kinds_same, boundary_sorts}
use Rattle.law_moves.proofs.FedKinds.{keeps_all}
use Rattle.law_moves.proofs.Children.{no_rows, fed_others}
use Rattle.law_moves.proofs.Moving.{Scheduled, but_scheduled, Holding, HoldingOn, HoldingO, ended, later_holding, kinds_stay, run_holding, starts_here}

-- Q is known wherever a scope was passed over by a render
module _ {K : Types} (app : Application K) (lawful : IsLawful K app) (Q : Type 0) where
  -- a scope is handed a component

  module _ (w : State K) (rest : List (Item K)) (t : ℕ) (c : VComponent K) (y : Scope K) (live : at w.scopes t ≡ Some y) (none : rows_of t rest ≡ []) (idle : Idle w t rest) (kind : sort_of c ≡ sort_of y.component) (h : Holding app lawful Q w rest) where
    boundary : is_suspense_boundary c ≡ is_suspense_boundary y.component
    boundary = boundary_sorts c y.component kind

    abbrev given : State K
    given = with_props app w t c

    abbrev y2 : Scope K
    y2 = record y { component = c }

    given_alone : Alone t w given
    given_alone = change_alone w t (λ x. record x { component = c }) (λ x. refl) (λ x. refl) (λ x. refl)

    given_calm : Calm (Some t) w.next.cells w given
    given_calm = alone_calm w.next.cells t w given given_alone

    given_is : given ≡ record w { scopes = put w.scopes t y2 }
    given_is = ap (λ (o : Option (Scope K)). changed_scope w t (λ x. record x { component = c }) o) live

    given_there : at given.scopes t ≡ Some y2
    given_there = ap (λ (z : State K). at z.scopes t) given_is ∙ at_put_here w.scopes t y2 t (eq_same t)

    given_others : OthersOwe app lawful t given rest
    given_others = others_stay app lawful t w given rest rest given_calm (λ u q. refl) (λ u x q e. h.owes u x e)

    same_kinds : (u : ℕ) → kind_of (at given.scopes u) ≡ kind_of (at w.scopes u)
    same_kinds = kinds_stay app lawful Q t w given given_calm (ap (λ (o : Option (Scope K)). kind_of o) given_there ∙ ap (λ (b : ComponentSort K). Some b) kind ∙ sym (ap (λ (o : Option (Scope K)). kind_of o) live))

    given_kinds : Kinds given rest
    given_kinds =
        kinds_alike (λ u. kind_of (at w.scopes u)) (λ u. kind_of (at given.scopes u)) given rest same_kinds
        (kinds_same w given (props_twigs app w t c) (λ u. kind_of (at w.scopes u)) rest h.kinds)

    given_starts : is_suspense_boundary c ≡ true → Starts app y2
    given_starts true_is = starts_here app lawful Q w (rows_of t rest) t y none (h.owes t y live) (sym boundary ∙ true_is)

    given_scheduled : Scheduled app lawful Q given
    given_scheduled = but_scheduled app lawful Q w.next.cells t w given given_calm (λ q. ap (λ (o : Option (Scope K)). is_some o) given_there) h.scheduled

    -- it is run
    run_handed : HoldingO app lawful Q rest (run app given t)
    run_handed =
        run_holding app lawful Q given rest t y2 given_there none given_others given_starts (idle_same w given t rest (props_twigs app w t c) idle) given_kinds (given_calm.orderly h.orderly) given_scheduled

    -- or it keeps its output
    module _ (keeps_it : keeps_output app y.component c ≡ true) where
      means : Alike app y.component c × (is_suspense_boundary c ≡ is_suspense_boundary y.component) × (children_of y.component ≡ children_of c)
      means = keeps_all app lawful y.component c keeps_it

      alike_on : (d : VComponent K) → Alike app d y.component → Alike app d c
      alike_on d f u = ((f u).0 ∙ (means.0 u).0, (f u).1 ∙ (means.0 u).1)

      level_cells : given.next.cells ≡ w.next.cells
      level_cells = ap (λ (f : Firsts). f.cells) given_alone.next

      called_on : (last : LastCall K) → Called app w y last → Called app given y2 last
      called_on last d =
          let first = d.low in
          let same = level_cells in
          let low : last.given.given.next.cells ≤ given.next.cells = omega (arith, first, same) in
          called_again app w given y y2 last d (alike_on d.caller d.alike) refl low
          (λ i q. still_at w given last i (d.fresh i q) (given_alone.alike i))

      call_there : at given.last_calls t ≡ at w.last_calls t
      call_there = ap (λ (z : State K). at z.last_calls t) given_is

      marks_on : Pending w t → Pending given t
      marks_on m = subst (λ (z : State K). Pending z t) (sym given_is) m

      body_on : BodyCurrent app w t y ⊎ Pending w t → BodyCurrent app given t y2 ⊎ Pending given t
      body_on (inl d) = inl (d.0, call_there ∙ d.1, called_on d.0 d.2, d.3)
      body_on (inr m) = inr (marks_on m)

      stage_on : (g : Stage) → StageHolds app w t y g ⊎ Pending w t → StageHolds app given t y2 g ⊎ Pending given t
      stage_on g (inr m) = inr (marks_on m)
      stage_on g (inl d) =
          inl
          (record {
            patched = λ q. d.patched q ∙ ap Some means.2;
            held = d.held;
            called = λ q. let f = d.called q in (f.0, call_there ∙ f.1, called_on f.0 f.2, f.3);
          })

      owes_on : (b : Bool) (rows : List RowStep) → OwesAs app b w rows t y → OwesAs app b given rows t y2
      owes_on true rows d = record { stage = d.stage; shows = d.shows; steps = d.steps; unread = d.unread; owed = stage_on d.stage d.owed }
      owes_on false rows d = record { steps = d.steps; owed = body_on d.owed }

      keep_handed : Holding app lawful Q given rest
      keep_handed =
          record {
            owes =
                all_owe app lawful t given rest y2 given_there given_others
                (subst (λ (b : Bool). OwesAs app b given (rows_of t rest) t y2) (sym boundary) (owes_on (is_suspense_boundary y.component) (rows_of t rest) (h.owes t y live)));
            kinds = given_kinds;
            orderly = given_calm.orderly h.orderly;
            scheduled = given_scheduled;
          }

    keeps_found : keeps app w t c ≡ keeps_output app y.component c
    keeps_found = ap (λ (o : Option (Scope K)). elim o as (λ z. Bool) [ None ↦ false | Some x ↦ keeps_output app x.component c ]) live

    handed_holding : (b : Bool) → keeps app w t c ≡ b → HoldingO app lawful Q rest (if b then Done given [] else run app given t)
    handed_holding true q = keep_handed (sym keeps_found ∙ q)
    handed_holding false q = run_handed

  pub feed_holds : (m : Machine K) (rest : List (Item K)) (s : ℕ) (a : SideName) (p : Place) (c : VComponent K) → IsRooted m.state → Stands m.state (Feed s a p c ∷ rest) → Woven m.state (Feed s a p c ∷ rest) → Holding app lawful Q m.state (Feed s a p c ∷ rest)
      → HoldingOn app lawful Q (ended_by m (Some (Feed s a p c)) rest (outcome_of app m.state (Feed s a p c)))
  feed_holds m rest s a p c r st woven h =
      let w : State K = m.state in
      let o : Outcome K = outcome_of app w (Feed s a p c) in
      let kid = woven.stack.1 in
      let t : ℕ = kid.0 in
      let knows = knows_of w (Feed s a p c ∷ rest) st in
      let step : height_of w.scopes t ≡ height_of w.scopes s + 1 = up_height w (Feed s a p c ∷ rest) r st t s (knows.parents s t a p kid.1 kid.2).0 woven.stack.0 in
      let child = found_live (at w.scopes t) kid.2 in
      let y : Scope K = child.0 in
      let none : rows_of t rest ≡ [] = no_rows t rest (fed_others w s t a p c rest step woven.stack.2) in
      let idle : Idle w t rest = feeds_idle w s t a p c rest step woven.stack.2 in
      let kind : sort_of y.component ≡ sort_of c =
      h.kinds.kids_fit s t a p c (sort_of y.component) kid.1 h.kinds.placed.0 (ap (λ (i : Option (Scope K)). kind_of i) child.1) in
      let later : Holding app lawful Q w rest = later_holding app lawful Q w (Feed s a p c) rest (λ u. refl) h in
      ended app lawful Q m (Some (Feed s a p c)) rest o
      (subst (λ (z : Option ℕ). HoldingO app lawful Q rest (elim z as (λ i. Outcome K) [ None ↦ Done w [] | Some u ↦ handed app w u c ])) (sym (fed_kid w s a p ∙ kid.1))
      (handed_holding w rest t c y child.1 none idle (sym kind) later (keeps app w t c) refl))
