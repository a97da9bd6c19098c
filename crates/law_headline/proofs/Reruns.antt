-- A rerun from its entry to its end.
use Rattle.std.proofs.Common.{ℕ, Bool, true, false, List, [], ◌∷◌, ◌++◌, ◌≡◌, refl, sym, ap, ◌∙◌, subst, arith, length}
use Rattle.std.specs.Prelude.{Option, Some, None, if◌then◌else◌}
use Rattle.std.proofs.lemmas.List.{append-nil}
use Rattle.rt_model.specs.Lists.{at}
use Rattle.rt_model.specs.Tree.{Types}
use Rattle.rt_model.specs.World.{Application}
use Rattle.rt_model.specs.Laws.{IsLawful}
use Rattle.rt_model.specs.State.{State, Fault, Item, Draw, Row, Feed, Make, Drop, Outcome, Done, Cut, Scope, side_of, is_live, parent_of}
use Rattle.rt_model.specs.Next.{at_rest}
use Rattle.rt_model.specs.Run.{run}
use Rattle.rt_model.specs.Replay.{Entry, Build, Made, Fed, Kept, Rerun, Input, Machine, ended_by, mounted_state, one_more_unit, rested, keeps, fed_child, due_feed, due_item, due, change_by, names_live, if_live}
use Rattle.rt_model.specs.Causes.{Limits}
use Rattle.rt_model.proofs.Among.{among_contained}
use Rattle.law_moves.proofs.Twigs.{twig, twig_up, up, found_live}
use Rattle.law_moves.specs.Moves.{Move, Closed, Logged, Inside, IsLogged, IsClosed, AtWork, Leads}
use Rattle.law_moves.specs.Reached.{Reached}
use Rattle.law_moves.proofs.Ways.{reached_moved}
use Rattle.law_moves.proofs.Insides.{alive_before, live_due}
use Rattle.law_moves.proofs.Joins.{Leads-append}
use Rattle.law_moves.proofs.Everywhere.{ReadyAt, move_ready, reached_ready}
use Rattle.law_moves.proofs.Called.{rest_level, mounted_level}
use Rattle.law_headline.specs.Fitting.{FittingBring}
use Rattle.law_headline.proofs.Elements.{fitting_bring}
use Rattle.law_moves.specs.Trees.{Outside}
use Rattle.law_moves.specs.Reruns.{Reruns}
use Rattle.law_headline.specs.Rerun.{RerunsBring, RerunsClaimOnce, RerunsKeepNumbers, RerunsLeaveOthers, RerunsKeepSetting, RerunsHidden, RerunsMeet}
use Rattle.law_headline.proofs.Steps.{Ready, ready_of, rested_ready, served_keep}
use Rattle.law_headline.proofs.Clothed.{Clothed, clothed_lasts}
use Rattle.law_headline.proofs.Nodes.{Settled}
use Rattle.law_headline.proofs.Since.{Out, Since, like_since}
use Rattle.law_headline.proofs.Making.{InUnit, unit_lasts}
use Rattle.law_headline.proofs.Settled.{contained, settled_of}
use Rattle.law_headline.proofs.Units.{level_like, begun_since, unit_brings}
use Rattle.law_headline.proofs.Settings.{InSetting}
use Rattle.law_headline.proofs.Ends.{meets_down}
use Rattle.law_headline.proofs.Above.{root_set, root_seen, hidden_stays}
use Rattle.law_headline.proofs.Single.{single}
use Rattle.rt_model.specs.View.{nodes_of, view}

module _ {K : Types} where
  -- what is written of attribute slots
  fitting : FittingBring K
  fitting numbers above new old level other same fits was = fitting_bring numbers above new old level other same fits was

  up_is : (w : State K) (s : ℕ) → up w s ≡ parent_of w.scopes s
  up_is w s = by_scope (at w.scopes s)
    where
      by_scope : (o : Option (Scope K)) → twig_up (twig o) ≡ elim o as (λ z. Option ℕ) [ None ↦ None | Some x ↦ x.parent ]
      by_scope None = refl
      by_scope (Some x) = refl

  out_of : (w : State K) (root : ℕ) (path : List ℕ) (t : ℕ) → Outside w root path t → Out w root path t
  out_of w root [] t h = (h.0, up_is w t ∙ h.1)
  out_of w root (p ∷ path) t h = (h.0, up_is w t ∙ h.1, out_of w root path p h.2)

module _ {K : Types} (app : Application K) where
  -- an entry of a rerun is due only where no work is open, once the build has begun
  rerun_item : (m : Machine K) (work : List (Item K)) (s : ℕ) → due_item app m work ≡ Some (Rerun s) → work ≡ []
  rerun_item m [] s h = refl
  rerun_item m (Draw t a p k ∷ rest) s h = cc
  rerun_item m (Row b step ∷ rest) s h = cc
  rerun_item m (Make t a p c ∷ rest) s h = made (is_live m.state t) h
    where
      made : (b : Bool) → (if b then Some (Made m.state.next_scope) else None) ≡ Some (Rerun s) → Make t a p c ∷ rest ≡ []
      made true e = cc
      made false e = cc
  rerun_item m (Feed t a p c ∷ rest) s h = fed (fed_child m.state t a p) h
    where
      which : (u : ℕ) (b : Bool) → Some (if b then Kept u else Fed u) ≡ Some (Rerun s) → Feed t a p c ∷ rest ≡ []
      which u true e = cc
      which u false e = cc

      fed : (o : Option ℕ) → due_feed app m.state c o ≡ Some (Rerun s) → Feed t a p c ∷ rest ≡ []
      fed None e = cc
      fed (Some u) e = which u (keeps app m.state u c) e
  rerun_item m (Drop t u a ∷ rest) s h = cc

  rerun_due : (m : Machine K) (s : ℕ) → due app m ≡ Some (Rerun s) → (m.dead ≡ None) × (m.built ≡ true) × (m.work ≡ []) × (is_live m.state s ≡ true)
  rerun_due m s h = by_dead m.dead refl h
    where
      by_built : (b : Bool) → m.built ≡ b → m.dead ≡ None → if_live m.state (if b then due_item app m m.work else Some Build) ≡ Some (Rerun s) → (m.dead ≡ None) × (m.built ≡ true) × (m.work ≡ []) × (is_live m.state s ≡ true)
      by_built false is alive e = cc
      by_built true is alive e = by_item (due_item app m m.work) refl e
        where
          by_item : (o : Option Entry) → due_item app m m.work ≡ o → if_live m.state o ≡ Some (Rerun s) → (m.dead ≡ None) × (m.built ≡ true) × (m.work ≡ []) × (is_live m.state s ≡ true)
          by_item None q e = cc
          by_item (Some d) q e =
              let found = live_due app m.state d (Rerun s) e in
              let same : d ≡ Rerun s = sym found.0 in
              (alive, is, rerun_item m m.work s (q ∙ ap (λ (i : Entry). Some i) same), ap (λ (i : Entry). names_live m.state i) (sym same) ∙ found.1)

      by_dead : (o : Option Fault) → m.dead ≡ o → if_live m.state (elim o as (λ z. Option Entry) [ None ↦ (if m.built then due_item app m m.work else Some Build) | Some f ↦ None ]) ≡ Some (Rerun s)
          → (m.dead ≡ None) × (m.built ≡ true) × (m.work ≡ []) × (is_live m.state s ≡ true)
      by_dead None is e = by_built m.built refl is e
      by_dead (Some f) is e = cc

  -- what is known of the states before and after a rerun
  pub record Ended (lawful : IsLawful K app) (first v : State K) (root : ℕ) : Type 0 where
    pub before : Settled first
    pub after : Settled v
    pub since : Since app lawful first root v []
    pub live : is_live first root ≡ true

  module _ (lawful : IsLawful K app) where
    done_of : (m : Machine K) (o : Outcome K) → (ended_by m None [] o).dead ≡ None → (v : State K) × (work : List (Item K)) × (o ≡ Done v work)
    done_of m (Done v work) e = (v, work, refl)
    done_of m (Cut v f) e = cc

    ended_by_moves : (limits : Limits) (props : K.Props) (inputs : List (Input K)) (m begun served v : Machine K) (s : ℕ) (moves : List Move)
        → Reached app limits props inputs m → IsLogged app limits m (Rerun s) begun → Leads app limits begun moves served → Inside moves → IsClosed served v → Ended lawful m.state v.state s
    ended_by_moves limits props inputs m begun served v s moves reached logged leads inside closed = record { before = before; after = after; since = final; live = was.3 }
      where
        was : (m.dead ≡ None) × (m.built ≡ true) × (m.work ≡ []) × (is_live m.state s ≡ true)
        was = rerun_due m s logged.due_is

        before : Settled m.state
        before = settled_of app lawful limits props inputs m reached was.0 was.1 was.2

        -- the machine after the entry
        gives : begun ≡ ended_by (one_more_unit (rested app m)) None [] (run app (at_rest m.state) s)
        gives = logged.gives ∙ ap (λ (xs : List (Item K)). change_by app m xs (Rerun s)) was.2

        alive : begun.dead ≡ None
        alive = alive_before app limits begun served moves begun.dead refl leads closed.alive

        ran : (u : State K) × (work : List (Item K)) × (run app (at_rest m.state) s ≡ Done u work)
        ran = done_of (one_more_unit (rested app m)) (run app (at_rest m.state) s) (ap (λ (x : Machine K). x.dead) (sym gives) ∙ alive)

        is : begun ≡ record (one_more_unit (rested app m)) { state = ran.0; work = ran.1 }
        is = gives ∙ ap (λ (o : Outcome K). ended_by (one_more_unit (rested app m)) None [] o) ran.2 ∙ ap (λ (xs : List (Item K)). record (one_more_unit (rested app m)) { state = ran.0; work = xs }) (append-nil ran.1)

        state_is : begun.state ≡ ran.0
        state_is = ap (λ (x : Machine K). x.state) is

        work_is : begun.work ≡ ran.1
        work_is = ap (λ (x : Machine K). x.work) is

        ready_begun : ReadyAt app lawful begun
        ready_begun = move_ready app lawful limits m begun (Logged (Rerun s)) logged (reached_ready app lawful limits props inputs m reached)

        now : Ready ran.0 ran.1
        now = subst (λ (xs : List (Item K)). Ready ran.0 xs) work_is (subst (λ (x : State K). Ready x begun.work) state_is (ready_of app lawful begun ready_begun alive))

        clothed : Clothed ran.0 ran.1
        clothed =
            (clothed_lasts app lawful).runs (at_rest m.state) ran.0 s ran.1 (rested_ready m.state before.ready) now
            ((clothed_lasts app lawful).calms m.state (at_rest m.state) (rest_level m.state) before.clothed) ran.2

        in_unit : InUnit app lawful m.state s before begun.state begun.work
        in_unit =
            subst (λ (x : State K). InUnit app lawful m.state s before x begun.work) (sym state_is)
            (subst (λ (xs : List (Item K)). InUnit app lawful m.state s before ran.0 xs) (sym work_is) (clothed, begun_since app lawful m.state s ran.0 ran.1 now was.3 ran.2))

        at_work : AtWork begun
        at_work = record { alive = alive; built = ap (λ (x : Machine K). x.built) is ∙ was.1; unit = ap (λ (x : Machine K). x.unit) is }

        kept : InUnit app lawful m.state s before served.state served.work × AtWork served
        kept = served_keep app lawful (λ w work. InUnit app lawful m.state s before w work) (unit_lasts app lawful m.state s before) limits begun served moves at_work leads inside closed.alive ready_begun in_unit

        state_v : v.state ≡ mounted_state served.state
        state_v = ap (λ (x : Machine K). x.state) closed.gives

        final : Since app lawful m.state s v.state []
        final =
            subst (λ (x : State K). Since app lawful m.state s x []) (sym state_v)
            (like_since app lawful m.state s served.state (mounted_state served.state) [] (level_like app lawful m.state s served.state (mounted_state served.state) (mounted_level served.state) refl)
            (subst (λ (xs : List (Item K)). Since app lawful m.state s served.state xs) closed.idle kept.0.1))

        -- the machine at the end is reached, and at rest
        reached_v : Reached app limits props inputs v
        reached_v =
            reached_moved app limits props inputs m v (Logged (Rerun s) ∷ (moves ++ Closed ∷ [])) reached
            (begun, logged, Leads-append app limits moves (Closed ∷ []) begun served v leads (v, closed, refl))

        after : Settled v.state
        after =
            settled_of app lawful limits props inputs v reached_v (ap (λ (x : Machine K). x.dead) closed.gives ∙ closed.alive)
            (ap (λ (x : Machine K). x.built) closed.gives ∙ (kept.1).built) (ap (λ (x : Machine K). x.work) closed.gives ∙ closed.idle)

    pub rerun_ended : (limits : Limits) (props : K.Props) (inputs : List (Input K)) (m v : Machine K) (s : ℕ) → Reruns app limits props inputs m s v → Ended lawful m.state v.state s
    rerun_ended limits props inputs m v s r = ended_by_moves limits props inputs m r.begun r.served v s r.moves r.reached r.logged r.leads r.inside r.closed

  pub reruns_bring : RerunsBring app
  reruns_bring lawful limits props inputs m v s r =
      let e : Ended lawful m.state v.state s = rerun_ended lawful limits props inputs m v s r in
      let z = found_live (at m.state.scopes s) e.live in
      let x = found_live (at v.state.scopes s) e.since.top in
      unit_brings app lawful m.state s fitting v.state e.before e.after e.since e.live
      (λ seen sees n. single app lawful m.state v.state s e.before e.after e.since n (length m.state.scopes) s z.0 x.0 z.1 x.1)

  pub reruns_claim_once : RerunsClaimOnce app
  reruns_claim_once lawful limits props inputs m v s r n =
      let e : Ended lawful m.state v.state s = rerun_ended lawful limits props inputs m v s r in
      let z = found_live (at m.state.scopes s) e.live in
      let x = found_live (at v.state.scopes s) e.since.top in
      single app lawful m.state v.state s e.before e.after e.since n (length m.state.scopes) s z.0 x.0 z.1 x.1

  pub reruns_keep_numbers : RerunsKeepNumbers app
  reruns_keep_numbers lawful limits props inputs m v s r t n x a p k found g low =
      let e : Ended lawful m.state v.state s = rerun_ended lawful limits props inputs m v s r in
      let z = e.since.numbers t x a p k n found (among_contained (side_of x a).numbers (p, k, n) g) low in
      (z.0, z.1, contained (side_of (z.0) a).numbers (p, k, n) z.2)

  pub reruns_leave_others : RerunsLeaveOthers app
  reruns_leave_others lawful limits props inputs m v s r t path =
      let e : Ended lawful m.state v.state s = rerun_ended lawful limits props inputs m v s r in
      (λ x found out. e.since.outer t path x found (out_of v.state s path t out), λ live out. e.since.lives t path live (out_of m.state s path t out))

  pub reruns_keep_setting : RerunsKeepSetting app
  reruns_keep_setting lawful limits props inputs m v s r seen =
      let e : Ended lawful m.state v.state s = rerun_ended lawful limits props inputs m v s r in
      let z = found_live (at m.state.scopes s) e.live in
      let x = found_live (at v.state.scopes s) e.since.top in
      let set : InSetting (view m.state) (view v.state) (nodes_of m.state s) (nodes_of v.state s) = root_set app lawful m.state v.state s e.before e.after e.since z.0 z.1 seen in
      (root_seen app lawful m.state v.state s e.before e.after e.since z.0 x.0 z.1 x.1 seen, (set.setting, set.one, set.two))

  pub reruns_hidden : RerunsHidden app
  reruns_hidden lawful limits props inputs m v s r hidden =
      let e : Ended lawful m.state v.state s = rerun_ended lawful limits props inputs m v s r in
      let z = found_live (at m.state.scopes s) e.live in
      hidden_stays app lawful m.state v.state s e.before e.after e.since z.0 z.1 hidden

  pub reruns_meet : RerunsMeet app
  reruns_meet lawful limits props inputs m v s r seen =
      let e : Ended lawful m.state v.state s = rerun_ended lawful limits props inputs m v s r in
      let z = found_live (at m.state.scopes s) e.live in
      let x = found_live (at v.state.scopes s) e.since.top in
      meets_down app lawful fitting m.state v.state s e.before e.after e.since (length m.state.scopes) s z.0 x.0 z.1 x.1 seen
      (root_seen app lawful m.state v.state s e.before e.after e.since z.0 x.0 z.1 x.1 seen) (omega arith)
