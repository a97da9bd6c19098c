-- The edits of a call carry what may come: entry by entry, as along the reports of a session.
use Rattle.std.proofs.Common.{ℕ, inl, inr, Bool, true, false, List, [], ◌∷◌, ◌++◌, ◌≡◌, refl, sym, ap, ◌∙◌, subst}
use Rattle.std.proofs.lemmas.List.{append-nil, append_cancel_left}
use Rattle.std.specs.Prelude.{Option, Some, None}
use Rattle.rt_model.specs.Tree.{Types}
use Rattle.rt_model.specs.World.{Application}
use Rattle.rt_model.specs.Laws.{IsLawful}
use Rattle.rt_model.specs.State.{State}
use Rattle.rt_model.specs.Next.{at_rest}
use Rattle.rt_model.specs.Rendering.{rendering_rest}
use Rattle.rt_model.specs.Replay.{Entry, Machine, start_with}
use Rattle.rt_model.specs.Document.{Edit}
use Rattle.rt_model.specs.Causes.{Limits, replay_within}
use Rattle.rt_model.specs.Told.{Telling, telling, told_entry, tell_log}
use Rattle.rt_model.specs.Sentences.{all_carried, AllMayCome}
use Rattle.rt_model.specs.Asides.{Looked, Thinned, Rested, Passed, aside_state, resting}
use Rattle.rt_model.proofs.LastsAlways.{rises_lasts}
use Rattle.rt_model.proofs.ToldReplayed.{log-replays}
use Rattle.law_moves.specs.Reached.{start_at, Reached}
use Rattle.law_moves.specs.Reports.{ToldSo}
use Rattle.law_moves.proofs.Asides.{aside_stay}
use Rattle.law_moves.proofs.Joins.{logs_join}
use Rattle.law_moves.proofs.Limited.{alive_at}
use Rattle.law_headline.proofs.Drawn.{Below, still_below}
use Rattle.law_headline.proofs.EntriesCarry.{Between, Stepped, entry_so}
use Rattle.law_headline.proofs.FromTheStart.{log_so, came_alive}
use Rattle.law_behavior.specs.Doms.{Until, Events, Renders, Settles, left_by, LedTo, CallSpent}
use Rattle.law_behavior.specs.Carries.{AllDrawn, LogCarries, Carries, CallsCarryAnew, RendersCarryAnew, SpentCarryAnew, SuspendedCarryAnew, BuildsCarryAnew, AsidesDrawNone, LogsKeepDrawn}
use Rattle.law_behavior.proofs.Given.{provided_by, starts_provide}
use Rattle.law_behavior.proofs.Leading.{quiet_alive, asides_lead}
use Rattle.law_behavior.proofs.Doms.{ran_told}

module _ {K : Types} where
  -- where no number was drawn
  pub still_drawn : (w v : State K) (edits : List Edit) → v.next.elements ≡ w.next.elements → AllDrawn w edits → AllDrawn v edits
  still_drawn w v edits same drawn = subst (λ (bound : ℕ). Below bound (all_carried edits)) (sym same) drawn

module _ {K : Types} (app : Application K) (lawful : IsLawful K app) (limits : Limits) (props : K.Props) where
  abbrev So : List Edit → Telling K → Type 0
  So before t = Between app lawful props [] limits before t

  -- along a log that is accepted, up to a machine at which no fault has ended the run
  module _ (before : List Edit) (from : Machine K) (begins : So before (telling from)) (whole : List Entry) (last : Telling K)
      (so : ToldSo app limits from whole last) (alive : last.machine.dead ≡ None) where
    -- one entry of it
    module _ (log rest : List Entry) (e : Entry) (t u : Telling K) (is : whole ≡ log ++ e ∷ rest)
        (tells : tell_log app (Some (telling from)) log ≡ Some t) (one : told_entry app t e ≡ Some u) where
      -- what is told from there
      goes_on : tell_log app (Some u) rest ≡ Some last
      goes_on =
          ap (λ (o : Option (Telling K)). tell_log app o rest) (sym one)
          ∙ sym ((logs_join app limits log (e ∷ rest)).2 (telling from) t tells)
          ∙ ap (λ (es : List Entry). tell_log app (Some (telling from)) es) (sym is)
          ∙ so.told

      after_alive : u.machine.dead ≡ None
      after_alive = alive_at app rest u.machine last.machine (log-replays app rest u last goes_on) alive

      before_alive : t.machine.dead ≡ None
      before_alive =
          came_alive app t.machine u.machine e (log-replays app (e ∷ []) t u (ap (λ (o : Option (Telling K)). tell_log app o []) one))

      accepted : replay_within app limits (Some from) (log ++ e ∷ rest) ≡ Some last.machine
      accepted = ap (λ (es : List Entry). replay_within app limits (Some from) es) (sym is) ∙ so.accepted

      stepped : Stepped app lawful props [] limits before t u
      stepped =
          let here = log_so app lawful props [] limits before log (e ∷ rest) (telling from) t last.machine begins tells accepted before_alive in
          (entry_so app lawful props [] limits before rest t u e last.machine here.0 here.1 one after_alive).0

      entry_carries : (edits : List Edit) → u.edits ≡ t.edits ++ edits → AllMayCome (all_carried (before ++ t.edits)) u.before edits
      entry_carries edits grown =
          subst (λ (es : List Edit). AllMayCome (all_carried (before ++ t.edits)) u.before es)
          (append_cancel_left t.edits (stepped.edits) edits (sym stepped.grown ∙ grown)) stepped.come

    log_carries : LogCarries app before from whole
    log_carries log rest e t u edits is tells one grown = entry_carries log rest e t u is tells one edits grown

    -- at its end
    ends_so : So before last
    ends_so =
        let all : replay_within app limits (Some from) (whole ++ []) ≡ Some last.machine =
        ap (λ (es : List Entry). replay_within app limits (Some from) es) (append-nil whole) ∙ so.accepted in
        (log_so app lawful props [] limits before whole [] (telling from) last last.machine begins so.told all alive).0

    call_carries : (edits : List Edit) (v : Machine K) (left : State K) → last.edits ≡ edits → last.machine ≡ v
        → left.next.elements ≡ v.state.next.elements → Carries app before from whole edits left
    call_carries edits v left edits_are machine same =
        let numbers : last.machine.state.next.elements ≡ left.next.elements =
        ap (λ (x : Machine K). x.state.next.elements) machine ∙ sym same in
        record {
          come = log_carries;
          drawn =
              subst (λ (bound : ℕ). Below bound (all_carried (before ++ edits))) numbers
              (subst (λ (es : List Edit). Below last.machine.state.next.elements (all_carried (before ++ es))) edits_are ends_so.low);
        }

  -- from a state at rest
  at_resting : (w x : State K) (before : List Edit) → Reached app limits props [] (resting x) → x.next.elements ≡ w.next.elements
      → AllDrawn w before → So before (telling (resting x))
  at_resting w x before reached same drawn =
      record {
        reached = reached;
        none_before = λ q. built_first q;
        settled = refl;
        alive = refl;
        low =
            still_drawn w x (before ++ []) same
            (subst (λ (es : List Edit). AllDrawn w es) (sym (append-nil before)) drawn);
        phase = inl refl;
      }
    where
      built_first : {P : Type 0} → true ≡ false → P
      built_first q = cc

  spent_carries : (whole : Bool) (w : State K) (log : List Entry) (edits : List Edit) (v : Machine K) (left : State K)
      → LedTo app limits props whole w → CallSpent app limits w log edits v → left.next.elements ≡ v.state.next.elements
      → (before : List Edit) → AllDrawn w before → Carries app before (resting (aside_state app w Looked)) log edits left
  spent_carries whole w log edits v left led r same before drawn =
      let looked : LedTo app limits props whole (aside_state app w Looked) = asides_lead app limits props whole lawful w Looked led tt (inl tt) in
      let numbers = (aside_stay app lawful w Looked tt).elements in
      call_carries before (resting (aside_state app w Looked)) (at_resting w (aside_state app w Looked) before looked.reached numbers drawn) log r.last r.so
      (ap (λ (x : Machine K). x.dead) r.machine ∙ quiet_alive v r.quiet) edits v left r.edits_are r.machine same

module _ {K : Types} (app : Application K) where
  -- the test for a call's end draws nothing
  left_draws : (lawful : IsLawful K app) (until : Until) (w : State K) → (left_by until w).next.elements ≡ w.next.elements
  left_draws lawful Renders w = (aside_stay app lawful w Thinned tt).elements
  left_draws lawful Settles w = (aside_stay app lawful w Rested tt).elements
  left_draws lawful Events w = by w.seen
    where
      by : (seen : List ℕ) → (elim seen as (λ z. State K) [ [] ↦ at_rest w | s ∷ ss ↦ w ]).next.elements ≡ w.next.elements
      by [] = (aside_stay app lawful w Rested tt).elements
      by (s ∷ ss) = refl

  pub calls_carry_anew : CallsCarryAnew app
  calls_carry_anew lawful limits props whole until w log edits v led r before drawn =
      spent_carries app lawful limits props whole w log edits v (left_by until v.state) led (ran_told app limits until w log edits v r)
      (left_draws lawful until v.state) before drawn

  pub renders_carry_anew : RendersCarryAnew app
  renders_carry_anew lawful limits props whole w log edits v led r before drawn =
      let told : CallSpent app limits w log edits v =
      record { last = r.last; so = r.so; edits_are = r.edits_are; machine = r.machine; quiet = r.quiet } in
      spent_carries app lawful limits props whole w log edits v (left_by Renders v.state) led told (left_draws lawful Renders v.state) before drawn

  pub spent_carry_anew : SpentCarryAnew app
  spent_carry_anew lawful limits props whole w log edits v led r before drawn =
      spent_carries app lawful limits props whole w log edits v (at_rest v.state) led r (aside_stay app lawful v.state Rested tt).elements before drawn

  pub suspended_carry_anew : SuspendedCarryAnew app
  suspended_carry_anew lawful limits props w log edits v led r before drawn =
      let x : State K = rendering_rest w in
      let passed : LedTo app limits props false x = asides_lead app limits props false lawful w Passed led tt (inr refl) in
      call_carries app lawful limits props before (resting x)
      (at_resting app lawful limits props w x before passed.reached (aside_stay app lawful w Passed tt).elements drawn) log r.last r.so
      (ap (λ (y : Machine K). y.dead) r.machine ∙ quiet_alive v r.quiet) edits v v.state r.edits_are r.machine refl

  pub builds_carry_anew : BuildsCarryAnew app
  builds_carry_anew lawful limits props firsts provided log edits v above r =
      let contexts : List (ℕ × K.Value) = provided_by [] provided in
      let m : Machine K = start_at app props firsts contexts [] in
      let same : start_with app props firsts provided [] ≡ m = starts_provide app props firsts provided [] in
      let begins : Between app lawful props [] limits [] (telling m) = record {
        reached = record { firsts = firsts; above = above; contexts = contexts; parts = []; comes = refl };
        none_before = λ q. refl;
        settled = refl;
        alive = refl;
        low = tt;
        phase = inl refl;
      } in
      subst (λ (x : Machine K). Carries app [] x log edits v.state) (sym same)
      (call_carries app lawful limits props [] m begins log r.last
      (subst (λ (x : Machine K). ToldSo app limits x log r.last) same r.so)
      (ap (λ (x : Machine K). x.dead) r.machine ∙ quiet_alive v r.quiet) edits v v.state r.edits_are r.machine refl)

  pub logs_keep_drawn : LogsKeepDrawn app
  logs_keep_drawn lawful m v log edits accepted drawn =
      still_below (all_carried edits) m.state.next.elements v.state.next.elements (rises_lasts app lawful m log v accepted).elements drawn

  pub asides_draw_none : AsidesDrawNone app
  asides_draw_none lawful w a allowed = (aside_stay app lawful w a allowed).elements
