-- The call after a refusal for another cause than want of memory, as the model has it.
use Rattle.std.proofs.Common.{ℕ, Bool, true, false, ◌≡◌, refl, sym, ap, ◌∙◌, not, nat_eq}
use Rattle.std.specs.Prelude.{◌≢◌, if◌then◌else◌, Option, Some, None, option_map}
use Rattle.rt_lemmas.proofs.Options.{some_same as some-is}
use Rattle.rt_model.specs.OneLog.{types}
use Rattle.rt_model.specs.Tree.{Types}
use Rattle.rt_model.specs.Program as program
use Rattle.rt_model.specs.Program.{kind_of, hooked, hook_stands, faults, past_hook}
use Rattle.rt_model.specs.World as model
use Rattle.rt_model.specs.World.{World, OtherHook, CounterAtEnd}
use Rattle.run_records.specs.Records.{world_of}
use Rattle.author_calls.specs.Calls.{call_of}
use Rattle.run_records.specs.Records.{counter_of}
use Rattle.author_calls.specs.Hooks.{standing, past}
use Rattle.author_calls.specs.Steps.{refused}
use Rattle.author_calls.specs.Turn.{Call}
use Rattle.run_records.specs.declared.faults.Counter.{Counter}
use Rattle.run_records.specs.declared.faults.CxFault.{CxFault}
use Rattle.run_records.specs.declared.faults.CxFault.TheVariants as refusals
use Rattle.author_calls.proofs.ProgramsGoOn.{stand-for}

module _ {K : Types} where
  -- another hook stands there
  met : (w : World K) (c d : program.Call K) (k kept : ℕ) (new : model.Hook K) (o : Option (model.Hook K))
      → hook_stands k o ≡ false
      → option_map kind_of o ≡ Some kept
      → d ≡ past_hook (faults c (OtherHook w.given.scope c.index kept k))
      → d ≡ hooked w c k new o
  met w c d k kept new None other is after = cc
  met w c d k kept new (Some h) other is after = met-kind (nat_eq (kind_of h) k) other
    where
      met-kind : (b : Bool) → b ≡ false → d ≡ (if b then past_hook c else past_hook (faults c (OtherHook w.given.scope c.index (kind_of h) k)))
      met-kind true kind = cc
      met-kind false kind = after ∙ ap (λ (n : ℕ). past_hook (faults c (OtherHook w.given.scope c.index n k))) (sym (some-is (kind_of h) kept is))

module _ {P C Q V H T E L : Type 0} where
  -- no number was left
  pub drew-told : (before : Call P C Q V H T E L) (counter : Counter)
      → before.fault ≢ Some refusals.OutOfMemory
      → call_of (refused before (refusals.IdsExhausted counter)) ≡ faults (call_of before) (CounterAtEnd (counter_of counter))
  drew-told before counter free =
      (stand-for {P = P} {C = C} {Q = Q} {V = V} {H = H} {T = T} {E = E} {L = L} {A = Unit {0}} {B = Unit {0}}).refused before (refusals.IdsExhausted counter) (CounterAtEnd (counter_of counter)) free refl

  -- a hook of another kind stands there
  pub hook-told : (before : Call P C Q V H T E L) (k kept : ℕ) (new : model.Hook (types C Q V H T E L))
      → before.fault ≢ Some refusals.OutOfMemory
      → hook_stands k (standing before) ≡ false
      → option_map kind_of (standing before) ≡ Some kept
      → call_of (past (refused before (refusals.HookChanged before.world.scope before.index kept k))) ≡ hooked (world_of before.world) (call_of before) k new (standing before)
  hook-told before k kept new free other is =
      met (world_of before.world) (call_of before) (call_of (past (refused before (refusals.HookChanged before.world.scope before.index kept k)))) k kept new (standing before) other is
      (ap past_hook ((stand-for {P = P} {C = C} {Q = Q} {V = V} {H = H} {T = T} {E = E} {L = L} {A = Unit {0}} {B = Unit {0}}).refused before (refusals.HookChanged before.world.scope before.index kept k) (OtherHook (before.world.scope).0 before.index kept k) free refl))

pub ruleset telling = (drew-told, hook-told)
