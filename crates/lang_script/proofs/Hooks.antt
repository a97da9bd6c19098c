-- Hooks that are refused, and what the statements of bodies come to.
use Rattle.std.proofs.Common.{ℕ, Bool, true, false, ◌≡◌, refl, ap, ◌∙◌, not, arith, ◌<◌, ◌-◌}
use Rattle.std.specs.Prelude.{◌≢◌, Option, Some, Result, Ok, IfErr}
use Rattle.rt_lemmas.proofs.Bools.{not_back as stands-not}
use Rattle.rt_model.specs.Program as program
use Rattle.rt_model.specs.Program.{Call, hooked, hook_stands}
use Rattle.rt_model.specs.World as model
use Rattle.rt_model.specs.World.{World}
use Rattle.run_records.specs.Records.{world_of}
use Rattle.author_calls.specs.Calls.{call_of}
use Rattle.author_calls.specs.Hooks.{is_changed, standing, HookRefused}
use Rattle.run_records.specs.declared.faults.CxFault.{CxFault}
use Rattle.run_records.specs.declared.faults.CxFault.TheVariants as refusals
use Rattle.rt_language.specs.Expressions.{Doing, SourceTypes}
use Rattle.rt_language.specs.Statements as statements
use Rattle.rt_language.specs.Statements.{Running, WasRefused, hook_with, bound_hook, if_stands}
use Rattle.rt_language.specs.Values.{Value, NoValue, NumberValue, TextValue, CellValue, TaskValue, hook_kind}
use Rattle.author_programs.specs.Came.{came, reached}
use Rattle.author_bodies.specs.Comes.{RefusedOther}
use Rattle.author_bodies.proofs.Refused.{refused-hook, no-value}
use Rattle.lang_script.specs.Seen.{ScriptCall}
use Rattle.lang_script.proofs.Statements.{performing, s-UseCell, s-UseHook, s-CallAt, s-FailWith, s-SuspendOn, p-UseCell, p-UseHook, p-CallAt, p-FailWith, p-SuspendOn, p-kept, body-sees, unsuspended}
use Rattle.author_programs.proofs.Steps.{at_done, at_scope, at_new_cell, at_hook_is_new, at_use_hook, at_use_effect}

-- a hook was refused, and nothing is bound
pub hook-refused : {A : Type 0} (result : Result A CxFault) (before after : ScriptCall) (k : ℕ) (v : Value) (f : statements.Frame)
    → RefusedOther result
    → IfErr result (HookRefused k before after)
    → is_changed result ≡ not (hook_stands k (standing before))
    → after.fault ≢ Some refusals.OutOfMemory
    → came (world_of before.world) (hook_with f k v) (call_of before) ≡ reached WasRefused (call_of after)
hook-refused result before after k v f other err changed had =
    let w : World SourceTypes = world_of before.world in
    let r = refused-hook result before after k (model.HookValue k v) other err changed had in
    at_use_hook w k v (λ kept. bound_hook f kept) (call_of before) ∙
    ap (λ (o : Option Value). came w (bound_hook f o) (hooked w (call_of before) k (model.HookValue k v) (standing before))) (no-value k v (standing before) r.0) ∙
    at_done w WasRefused (hooked w (call_of before) k (model.HookValue k v) (standing before)) ∙
    ap (λ (c : Call SourceTypes). reached WasRefused c) r.1

-- an effect's hook was refused
pub effect-refused : {A : Type 0} (result : Result A CxFault) (before after : ScriptCall) (k : ℕ) (e : Doing) (f : statements.Frame)
    → RefusedOther result
    → IfErr result (HookRefused k before after)
    → is_changed result ≡ not (hook_stands k (standing before))
    → after.fault ≢ Some refusals.OutOfMemory
    → came (world_of before.world) (program.use_effect k e (λ stands. if_stands f stands)) (call_of before) ≡ reached WasRefused (call_of after)
effect-refused result before after k e f other err changed had =
    let w : World SourceTypes = world_of before.world in
    let r = refused-hook result before after k (model.HookEffect k e) other err changed had in
    at_use_effect w k e (λ stands. if_stands f stands) (call_of before) ∙
    ap (λ (b : Bool). came w (if_stands f b) (hooked w (call_of before) k (model.HookEffect k e) (standing before))) (stands-not (hook_stands k (standing before)) r.0) ∙
    at_done w WasRefused (hooked w (call_of before) k (model.HookEffect k e) (standing before)) ∙
    ap (λ (c : Call SourceTypes). reached WasRefused c) r.1

-- an effect's hook that was not refused stands
pub hook-stood : {A : Type 0} (result : Result A CxFault) (a : A) (b : Bool) → result ≡ Ok a → is_changed result ≡ not b → b ≡ true
hook-stood result a true is h = refl
hook-stood result a false is h = cc

-- the kinds of values are below those of effects
pub kinds-low : (v : Value) → hook_kind v < 4294967295 - 2
kinds-low NoValue = omega arith
kinds-low (NumberValue n) = omega arith
kinds-low (TextValue t) = omega arith
kinds-low (CellValue c) = omega arith
kinds-low (TaskValue t) = omega arith

pub ruleset bodies = (performing, at_scope, at_new_cell, at_hook_is_new, at_use_hook, at_use_effect, s-UseCell, s-UseHook, s-CallAt, s-FailWith, s-SuspendOn, p-UseCell, p-UseHook, p-CallAt, p-FailWith, p-SuspendOn, p-kept, body-sees, unsuspended, hook-refused, effect-refused, hook-stood, kinds-low)

pub ruleset first_uses = (at_hook_is_new, p-kept)
