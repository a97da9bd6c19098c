-- A listener, by what its call means.
use Rattle.std.proofs.Common.{◌≡◌, ℕ, ◌+◌, ◌-◌, ◌^◌, List, map, Some, None, refl, ap, sym, subst, ◌∙◌}
use Rattle.std.specs.Prelude.{false, min}
use Rattle.tree_nodes.specs.declared.event.Event.{Event as CodeEvent}
use Rattle.rt_model.specs.OneLog.{types}
use Rattle.rt_model.specs.World.{Application, Event, Meaning, CallFault}
use Rattle.rt_model.specs.State.{world_of}
use Rattle.rt_model.specs.Commands.{commands}
use Rattle.rt_model.specs.Run as run
use Rattle.rt_model.specs.Run.{called_once, with_next}
use Rattle.author_calls.specs.Answers.{event_of}
use Rattle.run_records.specs.Records as calls
use Rattle.run_records.specs.Records.{command_of}
use Rattle.author_calls.specs.Calls.{meaning_of, refusal_of}
use Rattle.author_calls.specs.Turn as left
use Rattle.author_calls.specs.Turn.{Call, HadMemory, begun}
use Rattle.run_records.specs.World.{CallWorld}
use Rattle.run_records.specs.declared.command.Command.{Command}
use Rattle.run_records.specs.declared.faults.CxFault.{CxFault}
use Rattle.run_records.specs.declared.faults.CxFault.TheVariants as refusals
use Rattle.run_records.specs.declared.world.Firsts.{Firsts}
use Rattle.run_state.specs.declared.names.Stop.{Stop}
use Rattle.run_state.specs.declared.state.State as code
use Rattle.run_state.specs.Mirror.{Unkept, counts, state_of}
use Rattle.rt_scopes.specs.Counts.{Counts, CountsCut}
use Rattle.rt_scopes.specs.Hearings.{Heard, HeardInPart, HearsAs, hearing}
use Rattle.rt_scopes.specs.Outcomes.{stop_of}
use Rattle.rt_scopes.proofs.Counted.{counted_once, counts_cut}
use Rattle.std.specs.Prelude.{Err}

module _ {P C Q V H T E L : Type 0} where
  -- its call met no refusal
  pub heard_ok : (app : Application (types C Q V H T E L)) (d mid v : code.State P C Q V H T E L) (cx : Call P C Q V H T E L) (seen : CallWorld P C Q V H T E L)
      (m : left.Meaning P C Q V H T E L (Unit {0})) (s : ℕ) (handler : H) (before after : CodeEvent L) (given : List (Command P C Q V H T E L)) (next : Firsts) (old new : ℕ) (kept : Unkept (types C Q V H T E L))
      → new ≡ min (old + 1) (2 ^ 64 - 1)
      → cx ≡ begun false seen
      → calls.world_of seen ≡ world_of (state_of kept d) s None false
      → (HadMemory m → meaning_of (λ u. event_of after) m ≡ app.handle handler (event_of before) (calls.world_of cx.world))
      → m.fault ≡ None
      → given ≡ m.commands
      → mid ≡ record d { next = next }
      → next ≡ m.next
      → ((g : Unkept (types C Q V H T E L)) → state_of g v ≡ commands app (state_of g mid) s None (map command_of given))
      → (h : Unkept (types C Q V H T E L)) × Heard app (state_of kept d) s (hearing app (state_of kept d) s handler (event_of before)) (state_of h v) (event_of after) × (Counts old kept.calls → Counts new h.calls)
  heard_ok app d mid v cx seen m s handler before after given next old new kept raised begins world means none commands_are moved numbers done =
      let had : HadMemory m = λ (wanting : m.fault ≡ Some refusals.OutOfMemory). cc in
      let meant : meaning_of (λ (u : Unit {0}). event_of after) m ≡ hearing app (state_of kept d) s handler (event_of before) =
      means had ∙ ap (λ (c : Call P C Q V H T E L). app.handle handler (event_of before) (calls.world_of c.world)) begins ∙ ap (λ w. app.handle handler (event_of before) w) world in (
        counts kept,
        record {
          met = ap (λ (x : Meaning (types C Q V H T E L) (Event (types C Q V H T E L))). x.fault) (sym meant) ∙ ap refusal_of none;
          state =
              done (counts kept)
              ∙ ap (λ (x : code.State P C Q V H T E L). commands app (state_of (counts kept) x) s None (map command_of given)) (moved ∙ ap (λ (n : Firsts). record d { next = n }) numbers)
              ∙ ap (λ (cs : List (Command P C Q V H T E L)). commands app (state_of (counts kept) (record d { next = m.next })) s None (map command_of cs)) commands_are
              ∙ ap (λ (x : Meaning (types C Q V H T E L) (Event (types C Q V H T E L))). commands app (with_next (called_once (state_of kept d)) x.next) s None x.commands) meant;
          event = ap (λ (x : Meaning (types C Q V H T E L) (Event (types C Q V H T E L))). x.answer) meant;
        },
        counted_once old new kept.calls raised,
      )

  -- its call met a refusal
  pub heard_no : (app : Application (types C Q V H T E L)) (d mid : code.State P C Q V H T E L) (cx : Call P C Q V H T E L) (seen : CallWorld P C Q V H T E L)
      (m : left.Meaning P C Q V H T E L (Unit {0})) (s : ℕ) (handler : H) (before after : CodeEvent L) (refusal : CxFault) (stop : Stop) (next : Firsts) (old new : ℕ) (kept : Unkept (types C Q V H T E L))
      → new ≡ min (old + 1) (2 ^ 64 - 1)
      → cx ≡ begun false seen
      → calls.world_of seen ≡ world_of (state_of kept d) s None false
      → (HadMemory m → meaning_of (λ u. event_of after) m ≡ app.handle handler (event_of before) (calls.world_of cx.world))
      → m.fault ≡ Some refusal
      → mid ≡ record d { next = next }
      → next ≡ m.next
      → stop ≡ stop_of refusal
      → (h : Unkept (types C Q V H T E L)) × HearsAs app (state_of kept d) s (hearing app (state_of kept d) s handler (event_of before)) (state_of h mid) (event_of after) (Err stop) × CountsCut old kept.calls new h.calls stop
  heard_no app d mid cx seen m s handler before after refusal stop next old new kept raised begins world means some moved numbers is =
      (counts kept, by_refusal refusal some is, counts_cut old kept.calls new (kept.calls + 1) stop (counted_once old new kept.calls raised))
    where
      in_part : (f : CallFault) → HadMemory m → refusal_of m.fault ≡ Some f → HeardInPart app (state_of kept d) (hearing app (state_of kept d) s handler (event_of before)) (state_of (counts kept) mid) (run.fault_of f)
      in_part f had fault =
          let meant : meaning_of (λ (u : Unit {0}). event_of after) m ≡ hearing app (state_of kept d) s handler (event_of before) =
          means had ∙ ap (λ (c : Call P C Q V H T E L). app.handle handler (event_of before) (calls.world_of c.world)) begins ∙ ap (λ w. app.handle handler (event_of before) w) world in
          record {
            refusal = f;
            met = ap (λ (x : Meaning (types C Q V H T E L) (Event (types C Q V H T E L))). x.fault) (sym meant) ∙ fault;
            state =
                ap (λ (x : code.State P C Q V H T E L). state_of (counts kept) x) (moved ∙ ap (λ (n : Firsts). record d { next = n }) numbers)
                ∙ ap (λ (x : Meaning (types C Q V H T E L) (Event (types C Q V H T E L))). with_next (called_once (state_of kept d)) x.next) meant;
            cause = refl;
          }

      by_refusal : (r : CxFault) → m.fault ≡ Some r → stop ≡ stop_of r
          → HearsAs app (state_of kept d) s (hearing app (state_of kept d) s handler (event_of before)) (state_of (counts kept) mid) (event_of after) (Err stop)
      by_refusal refusals.OutOfMemory e i = subst (λ (z : Stop). HearsAs app (state_of kept d) s (hearing app (state_of kept d) s handler (event_of before)) (state_of (counts kept) mid) (event_of after) (Err z)) (sym i) tt
      by_refusal (refusals.IdsExhausted what) e i = subst (λ (z : Stop). HearsAs app (state_of kept d) s (hearing app (state_of kept d) s handler (event_of before)) (state_of (counts kept) mid) (event_of after) (Err z)) (sym i) (in_part _ (λ wanting. cc) (ap refusal_of e))
      by_refusal (refusals.HookChanged scope index k asked) e i = subst (λ (z : Stop). HearsAs app (state_of kept d) s (hearing app (state_of kept d) s handler (event_of before)) (state_of (counts kept) mid) (event_of after) (Err z)) (sym i) (in_part _ (λ wanting. cc) (ap refusal_of e))
