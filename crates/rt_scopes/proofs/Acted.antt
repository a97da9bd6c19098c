-- An effect, by what its call means.
use Rattle.std.proofs.Common.{◌≡◌, ℕ, ◌+◌, ◌-◌, ◌^◌, Bool, List, [], ◌∷◌, ◌++◌, map, Some, None, true, false, refl, ap, sym, ◌∙◌}
use Rattle.std.specs.Prelude.{nat_eq, min, if◌then◌else◌}
use Rattle.run_records.specs.declared.rows.Hook.{Hook}
use Rattle.run_records.specs.declared.rows.Hook.TheVariants as kinds
use Rattle.rt_model.specs.OneLog.{types}
use Rattle.rt_model.specs.Tree.{Types}
use Rattle.rt_model.specs.World.{Application, Meaning, Nothing, CallFault}
use Rattle.rt_model.specs.State.{State, Outcome, Done, Cut, onward, world_of, is_live, hooks_of, change, effects_of}
use Rattle.rt_model.specs.Replay.{batch_then, effects_run}
use Rattle.rt_model.specs.Next.{look}
use Rattle.rt_model.specs.Boundary.{called_back}
use Rattle.rt_model.specs.Commands.{commands}
use Rattle.rt_model.specs.Run.{acted, acted_by, called_once, with_next, fault_of, hooks_called}
use Rattle.run_records.specs.Records.{hook_of}
use Rattle.author_calls.specs.Answers.{no_answer}
use Rattle.run_records.specs.Records as calls
use Rattle.author_calls.specs.Calls.{meaning_of, refusal_of}
use Rattle.run_records.specs.Records.{command_of}
use Rattle.author_calls.specs.Turn as left
use Rattle.author_calls.specs.Turn.{Call, HadMemory, begun}
use Rattle.run_records.specs.World.{CallWorld}
use Rattle.run_records.specs.declared.command.Command.{Command}
use Rattle.run_records.specs.declared.world.Firsts.{Firsts}
use Rattle.run_records.specs.declared.faults.CxFault.{CxFault}
use Rattle.run_records.specs.declared.faults.CxFault.TheVariants as refusals
use Rattle.run_state.specs.declared.names.Stop.{Stop}
use Rattle.run_state.specs.declared.state.State as code
use Rattle.run_state.specs.Mirror.{Unkept, counts, state_of}
use Rattle.rt_scopes.specs.Counts.{Counts, CountsCut}
use Rattle.rt_scopes.specs.Outcomes.{CutBy, stop_of}
use Rattle.rt_scopes.proofs.Counted.{counted_once, counts_cut}
use Rattle.rt_scopes.proofs.Onward.{refused}
use Rattle.rt_scopes.specs.Hooks.{effects_in, in_turn, one_called}

module _ {K : Types} (app : Application K) where
  -- its call had memory and met no refusal
  pub acted_done : (w v : State K) (s : ℕ) (e : K.Effect) (rendering : Bool) (m : Meaning K Nothing)
      → m ≡ app.effect e (world_of w s None rendering)
      → m.fault ≡ None
      → v ≡ commands app (with_next (called_once w) m.next) s None m.commands
      → acted app w s e rendering ≡ Done v []
  acted_done w v s e rendering m means none done =
      ap (λ x. acted_by app (called_once w) s x) (sym means) ∙ rw (none, done) refl

  -- its call met a refusal
  pub acted_cut : (w v : State K) (s : ℕ) (e : K.Effect) (rendering : Bool) (m : Meaning K Nothing) (f : CallFault)
      → m ≡ app.effect e (world_of w s None rendering)
      → m.fault ≡ Some f
      → v ≡ with_next (called_once w) m.next
      → acted app w s e rendering ≡ Cut v (fault_of f)
  acted_cut w v s e rendering m f means some left =
      ap (λ x. acted_by app (called_once w) s x) (sym means) ∙ rw (some, left) refl

  -- a hook's effect, and those of the others
  hook_step : (b : Bool) (w : State K) (s : ℕ) (e : K.Effect) (rest : List K.Effect) (go : State K → Outcome K)
      → ((v : State K) → go v ≡ in_turn (λ u x. acted app u s x true) v rest)
      → (if b then onward (acted app w s e true) (λ v. go v) else go w) ≡ in_turn (λ u x. acted app u s x true) w ((if b then e ∷ [] else []) ++ rest)
  hook_step true w s e rest go same = λ i. onward (acted app w s e true) (λ v. same v i)
  hook_step false w s e rest go same = same w

  -- a batch, by what its effects come to
  last_on : (last : State K → State K) (o : Outcome K) (f g : State K → Outcome K)
      → ((v : State K) → f v ≡ onward (g v) (λ u. Done (last u) []))
      → onward o f ≡ onward (onward o g) (λ u. Done (last u) [])
  last_on last (Done v work) f g same = same v
  last_on last (Cut v fault) f g same = refl

  -- a batch is its effects in turn, and then what follows the last one
  pub batch_in_turn : (last : State K → State K) (w : State K) (s : ℕ) (es : List K.Effect)
      → batch_then app last w s es ≡ onward (in_turn (λ u x. acted app u s x false) w es) (λ u. Done (last u) [])
  batch_in_turn last w s [] = refl
  batch_in_turn last w s (e ∷ es) =
      last_on last (acted app w s e false) (λ v. batch_then app last v s es) (λ v. in_turn (λ u x. acted app u s x false) v es) (λ v. batch_in_turn last v s es)

  -- the effects that a scope has queued, in turn, and then a look
  pub batch_looked : (w v : State K) (s : ℕ) (es : List K.Effect)
      → v ≡ change w s (λ x. record x { effects = [] })
      → es ≡ effects_of w s
      → effects_run app w s ≡ onward (in_turn (λ u x. acted app u s x false) v es) (λ u. Done (look u) [])
  batch_looked w v s es taken are =
      ap (λ x. batch_then app look x s (effects_of w s)) (sym taken) ∙ ap (λ xs. batch_then app look v s xs) (sym are) ∙ batch_in_turn look v s es

  -- a callback whose scope is live
  pub called_live : (w : State K) (e : ℕ × K.Effect) → is_live w e.0 ≡ true → one_called app w e ≡ acted app w e.0 e.1 false
  called_live w e live = ap (λ b. if b then acted app w e.0 e.1 false else Done w []) live

  -- a callback whose scope is gone
  pub called_gone : (w : State K) (e : ℕ × K.Effect) → is_live w e.0 ≡ false → one_called app w e ≡ Done w []
  called_gone w e gone = ap (λ b. if b then acted app w e.0 e.1 false else Done w []) gone

  -- a callback where its scope is live, and the others
  call_step : (b : Bool) (w : State K) (e : ℕ × K.Effect) (go other : State K → Outcome K)
      → ((v : State K) → go v ≡ other v)
      → (if b then onward (acted app w e.0 e.1 false) (λ v. go v) else go w) ≡ onward (if b then acted app w e.0 e.1 false else Done w []) (λ v. other v)
  call_step true w e go other same = λ i. onward (acted app w e.0 e.1 false) (λ v. same v i)
  call_step false w e go other same = same w

  -- the callbacks are called in turn
  pub called_in_turn : (w : State K) (es : List (ℕ × K.Effect)) → called_back app w es ≡ in_turn (one_called app) w es
  called_in_turn w [] = refl
  called_in_turn w (e ∷ es) = call_step (is_live w e.0) w e (λ v. called_back app v es) (λ v. in_turn (one_called app) v es) (λ v. called_in_turn v es)

module _ {P C Q V H T E L : Type 0} (app : Application (types C Q V H T E L)) where
  -- the hooks of a kind are the effects of that kind
  pub hooks_acted : (kind : ℕ) (w : State (types C Q V H T E L)) (s : ℕ) (hooks : List (Hook P C Q V H T E L))
      → hooks_called app kind w s (map hook_of hooks) ≡ in_turn (λ u x. acted app u s x true) w (effects_in kind hooks)
  hooks_acted kind w s [] = refl
  hooks_acted kind w s (kinds.Value k v ∷ hs) = hooks_acted kind w s hs
  hooks_acted kind w s (kinds.Effect k e ∷ hs) =
      hook_step app (nat_eq k kind) w s e (effects_in kind hs) (λ v. hooks_called app kind v s (map hook_of hs)) (λ v. hooks_acted kind v s hs)

  -- the hooks of a kind that a scope keeps are these effects in turn
  pub hooks_in_turn : (kind : ℕ) (w : State (types C Q V H T E L)) (s : ℕ) (hooks : List (Hook P C Q V H T E L)) (es : List E)
      → map hook_of hooks ≡ hooks_of w s
      → es ≡ effects_in kind hooks
      → hooks_called app kind w s (hooks_of w s) ≡ in_turn (λ u x. acted app u s x true) w es
  hooks_in_turn kind w s hooks es kept are =
      ap (λ hs. hooks_called app kind w s hs) (sym kept) ∙ hooks_acted kind w s hooks ∙ ap (λ xs. in_turn (λ u x. acted app u s x true) w xs) (sym are)

module _ {P C Q V H T E L : Type 0} where
  -- an effect whose call met no refusal, by what the code kept of it
  pub acted_ok : (app : Application (types C Q V H T E L)) (d mid v : code.State P C Q V H T E L) (cx : Call P C Q V H T E L) (seen : CallWorld P C Q V H T E L)
      (m : left.Meaning P C Q V H T E L (Unit {0})) (s : ℕ) (e : E) (rendering : Bool) (given : List (Command P C Q V H T E L)) (next : Firsts) (old new : ℕ) (kept : Unkept (types C Q V H T E L))
      → new ≡ min (old + 1) (2 ^ 64 - 1)
      → cx ≡ begun false seen
      → calls.world_of seen ≡ world_of (state_of kept d) s None rendering
      → (HadMemory m → meaning_of no_answer m ≡ app.effect e (calls.world_of cx.world))
      → m.fault ≡ None
      → given ≡ m.commands
      → mid ≡ record d { next = next }
      → next ≡ m.next
      → ((g : Unkept (types C Q V H T E L)) → state_of g v ≡ commands app (state_of g mid) s None (map command_of given))
      → (after : Unkept (types C Q V H T E L)) × (acted app (state_of kept d) s e rendering ≡ Done (state_of after v) []) × (Counts old kept.calls → Counts new after.calls)
  acted_ok app d mid v cx seen m s e rendering given next old new kept raised begins world means none commands_are moved numbers done =
      let after : Unkept (types C Q V H T E L) = counts kept in
      let had : HadMemory m = λ (wanting : m.fault ≡ Some refusals.OutOfMemory). cc in
      let meant : meaning_of no_answer m ≡ app.effect e (world_of (state_of kept d) s None rendering) =
      means had ∙ ap (λ (c : Call P C Q V H T E L). app.effect e (calls.world_of c.world)) begins ∙ ap (λ w. app.effect e w) world in
      let fault : refusal_of m.fault ≡ None = ap refusal_of none in (
        after,
        acted_done app (state_of kept d) (state_of after v) s e rendering (meaning_of no_answer m) meant fault
            (done after
            ∙ ap (λ (x : code.State P C Q V H T E L). commands app (state_of after x) s None (map command_of given)) (moved ∙ ap (λ (n : Firsts). record d { next = n }) numbers)
            ∙ ap (λ (cs : List (Command P C Q V H T E L)). commands app (state_of after (record d { next = m.next })) s None (map command_of cs)) commands_are),
        counted_once old new kept.calls raised,
      )

  -- an effect whose call met a refusal
  pub acted_no : (app : Application (types C Q V H T E L)) (d mid : code.State P C Q V H T E L) (cx : Call P C Q V H T E L) (seen : CallWorld P C Q V H T E L)
      (m : left.Meaning P C Q V H T E L (Unit {0})) (s : ℕ) (e : E) (rendering : Bool) (refusal : CxFault) (stop : Stop) (next : Firsts) (old new : ℕ) (kept : Unkept (types C Q V H T E L))
      → new ≡ min (old + 1) (2 ^ 64 - 1)
      → cx ≡ begun false seen
      → calls.world_of seen ≡ world_of (state_of kept d) s None rendering
      → (HadMemory m → meaning_of no_answer m ≡ app.effect e (calls.world_of cx.world))
      → m.fault ≡ Some refusal
      → mid ≡ record d { next = next }
      → next ≡ m.next
      → stop ≡ stop_of refusal
      → (after : Unkept (types C Q V H T E L)) × CutBy (acted app (state_of kept d) s e rendering) (state_of after mid) stop × CountsCut old kept.calls new after.calls stop
  acted_no app d mid cx seen m s e rendering refusal stop next old new kept raised begins world means some moved numbers is =
      let after : Unkept (types C Q V H T E L) = counts kept in (
        after,
        refused _ _ refusal stop is
            (λ f not_memory fault.
            let had : HadMemory m = λ (wanting : m.fault ≡ Some refusals.OutOfMemory). not_memory cc in
            let meant : meaning_of no_answer m ≡ app.effect e (world_of (state_of kept d) s None rendering) =
            means had ∙ ap (λ (c : Call P C Q V H T E L). app.effect e (calls.world_of c.world)) begins ∙ ap (λ w. app.effect e w) world in
            acted_cut app (state_of kept d) (state_of after mid) s e rendering (meaning_of no_answer m) f meant (ap refusal_of some ∙ fault)
            (ap (λ (x : code.State P C Q V H T E L). state_of after x) (moved ∙ ap (λ (n : Firsts). record d { next = n }) numbers))),
        counts_cut old kept.calls new after.calls stop (counted_once old new kept.calls raised),
      )
