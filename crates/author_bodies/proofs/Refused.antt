-- Calls that were refused, and what bodies come to then.
use Rattle.std.proofs.Common.{ℕ, Bool, true, false, ◌≡◌, refl, sym, ap, ◌∙◌, not, nat_eq}
use Rattle.std.specs.Prelude.{◌≢◌, ◌↔◌, ◌⊎◌, IsTrue, if◌then◌else◌, Option, Some, None, option_map, option_and_then, Result, Ok, Err, IfErr}
use Rattle.rt_lemmas.proofs.Options.{some_same as some-is}
use Rattle.rt_model.specs.OneLog.{types}
use Rattle.rt_model.specs.Tree.{Types}
use Rattle.rt_model.specs.Program as program
use Rattle.rt_model.specs.Program.{Call, kind_of, hooked, hook_value, hook_stands, faults, past_hook, held_in}
use Rattle.rt_model.specs.World as model
use Rattle.rt_model.specs.World.{World, OtherHook}
use Rattle.run_records.specs.Records.{world_of}
use Rattle.author_calls.specs.Calls.{call_of}
use Rattle.author_calls.specs.Hooks.{is_changed, standing, HookRefused}
use Rattle.author_calls.specs.Steps.{first_refusal}
use Rattle.author_calls.specs.Turn as turns
use Rattle.run_records.specs.declared.faults.CxFault.{CxFault}
use Rattle.run_records.specs.declared.faults.CxFault.TheVariants as refusals
use Rattle.author_calls.proofs.ProgramsGoOn.{stand-for}
use Rattle.author_programs.specs.Came.{came, reached}
use Rattle.author_programs.specs.Cells.{Keeping, kept_cell}
use Rattle.author_programs.proofs.Steps.{on, at_done, at_read, at_write, at_new_cell, at_hook_is_new, at_use_hook}
use Rattle.author_bodies.specs.Comes.{RefusedOther}

-- a number was drawn
pub drawn : {A : Type 0} (result : Result A CxFault) (fault : CxFault) (a : A) (b : Bool) → ((result ≡ Err fault) ↔ IsTrue b) → result ≡ Ok a → b ≡ false
drawn result fault a true h is = cc (h.1 refl, is)
drawn result fault a false h is = refl

-- a refusal leaves another one than want of memory only where none was there
not-wanted : (before : Option CxFault) (fault : CxFault) → first_refusal before fault ≢ Some refusals.OutOfMemory → before ≢ Some refusals.OutOfMemory
not-wanted None fault h = λ is. cc
not-wanted (Some old) fault h = h

module _ {K : Types} where
  -- another hook stands there
  met : (w : World K) (c d : Call K) (k kept : ℕ) (new : model.Hook K) (o : Option (model.Hook K))
      → true ≡ not (hook_stands k o)
      → option_map kind_of o ≡ Some kept
      → d ≡ past_hook (faults c (OtherHook w.given.scope c.index kept k))
      → hooked w c k new o ≡ d
  met w c d k kept new None other is after = cc
  met w c d k kept new (Some h) other is after = met-kind (nat_eq (kind_of h) k) other
    where
      met-kind : (b : Bool) → true ≡ not b → (if b then past_hook c else past_hook (faults c (OtherHook w.given.scope c.index (kind_of h) k))) ≡ d
      met-kind true kind = cc
      met-kind false kind = ap (λ (n : ℕ). past_hook (faults c (OtherHook w.given.scope c.index n k))) (some-is (kind_of h) kept is) ∙ sym after

  -- a hook of another kind keeps no value of this one
  pub no-value : (k : ℕ) (v : K.Value) (o : Option (model.Hook K)) → true ≡ not (hook_stands k o) → hook_value k v o ≡ None
  no-value k v None other = cc
  no-value k v (Some h) other = no-kind (nat_eq (kind_of h) k) other
    where
      no-kind : (b : Bool) → true ≡ not b → (if b then held_in h else None) ≡ None
      no-kind true kind = cc
      no-kind false kind = refl

module _ {P C Q V H T E L : Type 0} where
  -- the call after a refused hook
  pub refused-hook : {A : Type 0} (result : Result A CxFault) (before after : turns.Call P C Q V H T E L) (k : ℕ) (new : model.Hook (types C Q V H T E L))
      → RefusedOther result
      → IfErr result (HookRefused k before after)
      → is_changed result ≡ not (hook_stands k (standing before))
      → after.fault ≢ Some refusals.OutOfMemory
      → (true ≡ not (hook_stands k (standing before))) × (hooked (world_of before.world) (call_of before) k new (standing before) ≡ call_of after)
  refused-hook (Ok a) before after k new other err changed had = absurd other
  refused-hook (Err refusals.OutOfMemory) before after k new other err changed had = absurd (other refl)
  refused-hook (Err (refusals.IdsExhausted what)) before after k new other err changed had = absurd err
  refused-hook (Err (refusals.HookChanged scope index kept named)) before after k new other err changed had =
      let fault : CxFault = refusals.HookChanged scope index kept named in
      let told : model.CallFault = OtherHook scope.0 index kept named in
      let free : before.fault ≢ Some refusals.OutOfMemory = not-wanted before.fault fault (λ is. had (ap (λ (c : turns.Call P C Q V H T E L). c.fault) err.after_is ∙ is)) in
      let after_call : call_of after ≡ past_hook (faults (call_of before) told) =
      ap call_of err.after_is ∙ ap past_hook ((stand-for {A = Unit {0}} {B = Unit {0}}).refused before fault told free refl) in
      let named_so : told ≡ OtherHook (before.world.scope).0 before.index kept k =
      λ i. OtherHook (err.scope_is i).0 (err.index_is i) kept (err.asked_is i) in
      (changed, met (world_of before.world) (call_of before) (call_of after) k kept new (standing before) changed err.kept_is (after_call ∙ ap (λ t. past_hook (faults (call_of before) t)) named_so))

  -- no cell is kept where another hook stands
  pub unkept : {A : Type 0} (result : Result A CxFault) (before after : turns.Call P C Q V H T E L) (keeping : Keeping V) (number : ℕ)
      → RefusedOther result
      → IfErr result (HookRefused keeping.kind before after)
      → is_changed result ≡ not (hook_stands keeping.kind (standing before))
      → after.fault ≢ Some refusals.OutOfMemory
      → came (world_of before.world) (kept_cell {K = types C Q V H T E L} keeping number) (call_of before) ≡ reached None (call_of after)
  unkept result before after keeping number other err changed had =
      let w : World (types C Q V H T E L) = world_of before.world in
      let r = refused-hook result before after keeping.kind (model.HookValue keeping.kind (keeping.keeps number)) other err changed had in
      at_use_hook w keeping.kind (keeping.keeps number) _ (call_of before) ∙
      ap (λ (o : Option V). came w (program.done (option_and_then keeping.kept o)) (hooked w (call_of before) keeping.kind (model.HookValue keeping.kind (keeping.keeps number)) (standing before))) (no-value {K = types C Q V H T E L} keeping.kind (keeping.keeps number) (standing before) r.0) ∙
      at_done w None (hooked w (call_of before) keeping.kind (model.HookValue keeping.kind (keeping.keeps number)) (standing before)) ∙
      ap (λ (c : Call (types C Q V H T E L)). reached None c) r.1

pub ruleset hooking = (on, at_done, at_read, at_write, at_new_cell, at_hook_is_new, at_use_hook, drawn, unkept)
