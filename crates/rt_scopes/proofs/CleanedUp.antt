-- A clean-up, by what its call means.
use Rattle.std.proofs.Math.ListN.{drop_of_length-le}
use Rattle.std.proofs.Common.{◌≡◌, ◌<◌, ◌≤◌, ◌+◌, ◌-◌, ◌^◌, ℕ, Bool, length, get_or, drop, ◌++◌, List, [], map, Some, None, ap, sym, ◌∙◌}
use Rattle.std.specs.Prelude.{false, min}
use Rattle.rt_lemmas.proofs.Lists.{map_append as mapped_on}
use Rattle.rt_model.specs.Tree.{Types}
use Rattle.rt_model.specs.OneLog.{types}
use Rattle.rt_model.specs.World.{Application, CallFault, Command, Meaning, Nothing}
use Rattle.rt_model.specs.State as model
use Rattle.rt_model.specs.State.{Outcome, Done, Cut, hooks_of, world_of}
use Rattle.rt_model.specs.Commands.{commands}
use Rattle.rt_model.specs.Run as run
use Rattle.rt_model.specs.Run.{called_once, with_next}
use Rattle.rt_model.specs.Removal.{clean_ups, cleaned_by, cleaned_in, gone, stopped}
use Rattle.author_calls.specs.Answers.{no_answer}
use Rattle.run_records.specs.Records as calls
use Rattle.run_records.specs.Records.{command_of, hook_of}
use Rattle.author_calls.specs.Calls.{meaning_of, refusal_of}
use Rattle.author_calls.specs.Turn as left
use Rattle.author_calls.specs.Turn.{Call, HadMemory, begun}
use Rattle.run_records.specs.World.{CallWorld}
use Rattle.run_records.specs.declared.command.Command as code_command
use Rattle.run_records.specs.declared.faults.CxFault.{CxFault}
use Rattle.run_records.specs.declared.faults.CxFault.TheVariants as refusals
use Rattle.run_records.specs.declared.world.Firsts.{Firsts}
use Rattle.run_state.specs.declared.names.Stop.{Stop}
use Rattle.run_state.specs.declared.state.State as code
use Rattle.run_state.specs.Mirror.{Unkept, counts, state_of}
use Rattle.rt_scopes.specs.Counts.{Counts, CountsCut}
use Rattle.rt_scopes.specs.CleanUps.{one_cleaned, removed_where}
use Rattle.rt_scopes.specs.Outcomes.{CutBy, stop_of}
use Rattle.rt_scopes.proofs.Counted.{counted_once, counts_cut}
use Rattle.rt_scopes.proofs.Onward.{refused}
use Rattle.rt_scopes.proofs.Turns.{next_drop}

module _ {K : Types} (app : Application K) where
  -- its call met no refusal
  cleaned_done : (w v : model.State K) (before after : List (Command K)) (m : Meaning K Nothing) (go : model.State K → List (Command K) → Outcome K)
      → m.fault ≡ None → v ≡ with_next w m.next → after ≡ before ++ m.commands → cleaned_by app go w before m ≡ go v after
  cleaned_done w v before after m go none moved more = rw none (ap (λ (u : model.State K). go u (before ++ m.commands)) (sym moved) ∙ ap (λ (cs : List (Command K)). go v cs) (sym more))

  -- its call met a refusal
  cleaned_cut : (w v : model.State K) (before : List (Command K)) (m : Meaning K Nothing) (f : CallFault) (go : model.State K → List (Command K) → Outcome K)
      → m.fault ≡ Some f → v ≡ with_next w m.next → cleaned_by app go w before m ≡ Cut v (run.fault_of f)
  cleaned_cut w v before m f go some moved = rw some (ap (λ (u : model.State K). Cut u (run.fault_of f)) (sym moved))

  -- a removal, by what its scope's clean-ups are
  pub removed_as : (patching : Bool) (w v : model.State K) (s : ℕ) (es : List K.Effect) → v ≡ stopped w s → es ≡ clean_ups (hooks_of v s) []
      → removed_where app patching w s ≡ cleaned_in app patching s es v []
  removed_as patching w v s es stops are =
      ap (λ (u : model.State K). cleaned_in app patching s (clean_ups (hooks_of u s) []) u []) (sym stops) ∙ ap (λ (xs : List K.Effect). cleaned_in app patching s xs v []) (sym are)

  -- the clean-ups from one on
  pub next_cleaned : (patching : Bool) (w : model.State K) (s : ℕ) (es : List K.Effect) (i : ℕ) (e : K.Effect) (waiting : List (Command K)) → i < length es → e ≡ get_or es i e
      → cleaned_in app patching s (drop i es) w waiting ≡ one_cleaned app patching s e (λ v cs. cleaned_in app patching s (drop (i + 1) es) v cs) w waiting
  next_cleaned patching w s es i e waiting low is = ap (λ (xs : List K.Effect). cleaned_in app patching s xs w waiting) (next_drop es i e low is)

  -- all of them were called
  pub last_cleaned : (patching : Bool) (w : model.State K) (s : ℕ) (es : List K.Effect) (i : ℕ) (waiting : List (Command K)) → length es ≤ i → cleaned_in app patching s (drop i es) w waiting ≡ Done (commands app (gone w s) s None waiting) []
  last_cleaned patching w s es i waiting end = ap (λ (xs : List K.Effect). cleaned_in app patching s xs w waiting) (drop_of_length-le es end)

module _ {P C Q V H T E L : Type 0} where
  -- a clean-up whose call met no refusal, by what the code kept of it
  pub cleaned_ok : (app : Application (types C Q V H T E L)) (d mid : code.State P C Q V H T E L) (cx : Call P C Q V H T E L) (seen : CallWorld P C Q V H T E L)
      (m : left.Meaning P C Q V H T E L (Unit {0})) (patching : Bool) (s : ℕ) (e : E) (before given after : List (code_command.Command P C Q V H T E L)) (next : Firsts) (old new : ℕ) (kept : Unkept (types C Q V H T E L))
      → new ≡ min (old + 1) (2 ^ 64 - 1)
      → cx ≡ begun false seen
      → calls.world_of seen ≡ world_of (state_of kept d) s None patching
      → (HadMemory m → meaning_of no_answer m ≡ app.effect e (calls.world_of cx.world))
      → m.fault ≡ None
      → given ≡ m.commands
      → mid ≡ record d { next = next }
      → next ≡ m.next
      → after ≡ before ++ given
      → (h : Unkept (types C Q V H T E L))
      × ((go : model.State (types C Q V H T E L) → List (Command (types C Q V H T E L)) → Outcome (types C Q V H T E L)) → one_cleaned app patching s e go (state_of kept d) (map command_of before) ≡ go (state_of h mid) (map command_of after))
      × (Counts old kept.calls → Counts new h.calls)
  cleaned_ok app d mid cx seen m patching s e before given after next old new kept raised begins world means none commands_are moved numbers more =
      let had : HadMemory m = λ (wanting : m.fault ≡ Some refusals.OutOfMemory). cc in
      let meant : meaning_of no_answer m ≡ app.effect e (world_of (state_of kept d) s None patching) =
      means had ∙ ap (λ (c : Call P C Q V H T E L). app.effect e (calls.world_of c.world)) begins ∙ ap (λ w. app.effect e w) world in (
        counts kept,
        λ go.
            ap (λ (x : Meaning (types C Q V H T E L) _). cleaned_by app go (called_once (state_of kept d)) (map command_of before) x) (sym meant)
            ∙ cleaned_done app (called_once (state_of kept d)) (state_of (counts kept) mid) (map command_of before) (map command_of after) (meaning_of no_answer m) go
            (ap refusal_of none)
            (ap (λ (x : code.State P C Q V H T E L). state_of (counts kept) x) (moved ∙ ap (λ (n : Firsts). record d { next = n }) numbers))
            (ap (λ (cs : List (code_command.Command P C Q V H T E L)). map command_of cs) more ∙ mapped_on command_of before given ∙ ap (λ (cs : List (code_command.Command P C Q V H T E L)). map command_of before ++ map command_of cs) commands_are),
        counted_once old new kept.calls raised,
      )

  -- a clean-up whose call met a refusal
  pub cleaned_no : (app : Application (types C Q V H T E L)) (d mid : code.State P C Q V H T E L) (cx : Call P C Q V H T E L) (seen : CallWorld P C Q V H T E L)
      (m : left.Meaning P C Q V H T E L (Unit {0})) (patching : Bool) (s : ℕ) (e : E) (before : List (code_command.Command P C Q V H T E L)) (refusal : CxFault) (stop : Stop) (next : Firsts) (old new : ℕ) (kept : Unkept (types C Q V H T E L))
      → new ≡ min (old + 1) (2 ^ 64 - 1)
      → cx ≡ begun false seen
      → calls.world_of seen ≡ world_of (state_of kept d) s None patching
      → (HadMemory m → meaning_of no_answer m ≡ app.effect e (calls.world_of cx.world))
      → m.fault ≡ Some refusal
      → mid ≡ record d { next = next }
      → next ≡ m.next
      → stop ≡ stop_of refusal
      → (h : Unkept (types C Q V H T E L))
      × ((go : model.State (types C Q V H T E L) → List (Command (types C Q V H T E L)) → Outcome (types C Q V H T E L)) → CutBy (one_cleaned app patching s e go (state_of kept d) (map command_of before)) (state_of h mid) stop)
      × CountsCut old kept.calls new h.calls stop
  cleaned_no app d mid cx seen m patching s e before refusal stop next old new kept raised begins world means some moved numbers is = (
    counts kept,
    λ go.
        refused _ _ refusal stop is
        (λ f not_memory fault.
        let had : HadMemory m = λ (wanting : m.fault ≡ Some refusals.OutOfMemory). not_memory cc in
        let meant : meaning_of no_answer m ≡ app.effect e (world_of (state_of kept d) s None patching) =
        means had ∙ ap (λ (c : Call P C Q V H T E L). app.effect e (calls.world_of c.world)) begins ∙ ap (λ w. app.effect e w) world in
        ap (λ (x : Meaning (types C Q V H T E L) _). cleaned_by app go (called_once (state_of kept d)) (map command_of before) x) (sym meant)
        ∙ cleaned_cut app (called_once (state_of kept d)) (state_of (counts kept) mid) (map command_of before) (meaning_of no_answer m) f go (ap refusal_of some ∙ fault)
        (ap (λ (x : code.State P C Q V H T E L). state_of (counts kept) x) (moved ∙ ap (λ (n : Firsts). record d { next = n }) numbers))),
    counts_cut old kept.calls new (kept.calls + 1) stop (counted_once old new kept.calls raised),
  )
