-- Hooks of a body: what stands at the index of the next one, and what a refused one leaves.
use Rattle.std.specs.Prelude.{◌≡◌, ◌⊎◌, ℕ, ◌+◌, Bool, true, false, ◌&&◌, Option, Some, None, option_map, Result, Ok, Err}
use Rattle.rt_model.specs.Lists.{nth}
use Rattle.rt_model.specs.OneLog.{types}
use Rattle.rt_model.specs.Program as program
use Rattle.rt_model.specs.Program.{says, past_hook, kind_of, held_in, hook_stands}
use Rattle.rt_model.specs.Tree.{Types}
use Rattle.rt_model.specs.World as model
use Rattle.rt_model.specs.World.{clean_up_kind}
use Rattle.rt_values.specs.declared.names.ScopeId.{ScopeId}
use Rattle.run_records.specs.Records.{given_of}
use Rattle.author_calls.specs.Steps.{refused}
use Rattle.author_calls.specs.Turn.{Call}
use Rattle.run_records.specs.declared.faults.CxFault.{CxFault}
use Rattle.run_records.specs.declared.faults.CxFault.TheVariants.{OutOfMemory, IdsExhausted, HookChanged}

-- whether a call was refused since a hook of another kind stands there
abbrev pub is_changed : {A : Type 0} → Result A CxFault → Bool
is_changed (Ok a) = false
is_changed (Err OutOfMemory) = false
is_changed (Err (IdsExhausted what)) = false
is_changed (Err (HookChanged scope index kept asked)) = true

module _ {K : Types} where
  -- the call after a hook, which is kept where none stands at its index
  abbrev pub kept : program.Call K → model.Hook K → Option (model.Hook K) → program.Call K
  kept c new None = past_hook (says c (model.KeepHook new))
  kept c new (Some h) = past_hook c

  -- the first value, or that of the hook which stands there
  abbrev pub held_or : K.Value → Option (model.Hook K) → Option K.Value
  held_or v None = Some v
  held_or v (Some h) = held_in h

module _ {P C Q V H T E L : Type 0} where
  -- the hook that stands at the index of the next one
  abbrev pub standing : Call P C Q V H T E L → Option (model.Hook (types C Q V H T E L))
  standing c = nth (given_of c.world).hooks c.index

  -- the hook that stands after that
  abbrev pub standing_after : Call P C Q V H T E L → Option (model.Hook (types C Q V H T E L))
  standing_after c = nth (given_of c.world).hooks (c.index + 1)

  -- whether a value of the kind, and a clean-up after it, may stand at the next two indices
  abbrev pub both_stand : ℕ → Call P C Q V H T E L → Bool
  both_stand kind c = hook_stands kind (standing c) && hook_stands clean_up_kind (standing_after c)

  -- a hook is used
  abbrev pub past : Call P C Q V H T E L → Call P C Q V H T E L
  past c = record c { index = c.index + 1 }

  -- a hook of another kind stands at the index, which counts as used
  pub record MetOther (asked : ℕ) (before after : Call P C Q V H T E L) (scope : ScopeId) (index kept named : ℕ) : Type 0 where
    pub scope_is : scope ≡ before.world.scope
    pub index_is : index ≡ before.index
    pub kept_is : option_map kind_of (standing before) ≡ Some kept
    pub asked_is : named ≡ asked
    pub after_is : after ≡ past (refused before (HookChanged scope index kept named))

  -- why a hook of a kind was refused
  abbrev pub HookRefused : ℕ → Call P C Q V H T E L → Call P C Q V H T E L → CxFault → Type 0
  HookRefused asked before after OutOfMemory = after ≡ refused before OutOfMemory
  HookRefused asked before after (IdsExhausted what) = ⊥
  HookRefused asked before after (HookChanged scope index kept named) = MetOther asked before after scope index kept named

  -- a hook of another kind stands at an index
  pub record OtherStands (asked at : ℕ) (c : Call P C Q V H T E L) (scope : ScopeId) (index kept named : ℕ) : Type 0 where
    pub scope_is : scope ≡ c.world.scope
    pub index_is : index ≡ at
    pub kept_is : option_map kind_of (nth (given_of c.world).hooks at) ≡ Some kept
    pub asked_is : named ≡ asked

  -- why a value, or the clean-up after it, was refused
  abbrev pub PairRefused : ℕ → Call P C Q V H T E L → CxFault → Type 0
  PairRefused asked c OutOfMemory = Unit {0}
  PairRefused asked c (IdsExhausted what) = ⊥
  PairRefused asked c (HookChanged scope index kept named) =
      OtherStands asked c.index c scope index kept named ⊎ OtherStands clean_up_kind (c.index + 1) c scope index kept named
