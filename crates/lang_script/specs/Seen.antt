-- What contracts see of the code's calls, callers, frames and outcomes.
use Rattle.std.specs.Prelude.{◌≡◌, ◌≢◌, ◌++◌, ℕ, List, Some}
use Rattle.author_calls.specs.Turn.{Call}
use Rattle.run_records.specs.World.{CallWorld}
use Rattle.run_records.specs.declared.faults.CxFault.TheVariants.{OutOfMemory}
use Rattle.tree_mirror.specs.Sealed.{element_of}
use Rattle.rt_model.specs.World as model
use Rattle.rt_language.specs.Expressions as language
use Rattle.rt_language.specs.Expressions.{Doing, TaskState, SourceTypes}
use Rattle.rt_language.specs.Statements as statements
use Rattle.rt_language.specs.Statements.{WentOn, EndedWith, WasRefused}
use Rattle.rt_language.specs.Values.{Value}
use Rattle.lang_script.specs.declared.caller.Caller.{Caller}
use Rattle.lang_script.specs.declared.caller.Caller.TheVariants as callers
use Rattle.lang_script.specs.declared.caller.Frame.{Frame}
use Rattle.lang_script.specs.declared.caller.Outcome.{Outcome}
use Rattle.lang_script.specs.declared.caller.Outcome.TheVariants as outcomes
use Rattle.lang_script.specs.declared.script.Script.{Script}

-- who evaluates
abbrev pub caller_of : Caller → language.Caller
caller_of (callers.Body generation) = language.ABody
caller_of (callers.Listener payload) = language.AListener payload.now
caller_of callers.Other = language.AnotherCall

-- a body's caller says how often the body has answered a tree
abbrev pub SeesRenders : model.World SourceTypes → Caller → Type 0
SeesRenders w (callers.Body generation) = generation ≡ w.given.renders
SeesRenders w (callers.Listener payload) = Unit {0}
SeesRenders w callers.Other = Unit {0}

-- the caller is no body
abbrev pub IsOutside : Caller → Type 0
IsOutside (callers.Body generation) = ⊥
IsOutside (callers.Listener payload) = Unit {0}
IsOutside callers.Other = Unit {0}

-- a call at work
abbrev pub frame_of : Frame → statements.Frame
frame_of f = record { held = f.held; stopped = f.stopped; prevented = f.prevented; stays = f.stays }

-- how statements ended, in this frame
abbrev pub outcome_of : Outcome → statements.Frame → statements.Outcome
outcome_of outcomes.WentOn f = WentOn f
outcome_of (outcomes.Ended answer) f = EndedWith (element_of answer)
outcome_of outcomes.Refused f = WasRefused

-- what a call of a script can look at
abbrev pub ScriptWorld : Type 0
ScriptWorld = CallWorld Script ℕ (List Value) Value Doing TaskState Doing Value

-- a call of a script
abbrev pub ScriptCall : Type 0
ScriptCall = Call Script ℕ (List Value) Value Doing TaskState Doing Value

-- where statements ended at a refused call, what follows holds unless memory was wanted
abbrev pub Knows : Outcome → ScriptCall → Type 0 → Type 0
Knows outcomes.WentOn c T = T
Knows (outcomes.Ended answer) c T = T
Knows outcomes.Refused c T = c.fault ≢ Some OutOfMemory → T

-- the values before are the first ones of those after
pub record Extends (before after : List Value) : Type 0 where
  pub more : List Value
  pub is : after ≡ before ++ more

-- a frame after another one of the same call: names were bound, and none was unbound
pub record Follows (before after : Frame) : Type 0 where
  pub by : after.by ≡ before.by
  pub held : Extends before.held after.held

-- the caller is a body, which says how often it has answered a tree
abbrev pub IsBody : model.World SourceTypes → Caller → Type 0
IsBody w (callers.Body generation) = generation ≡ w.given.renders
IsBody w (callers.Listener payload) = ⊥
IsBody w callers.Other = ⊥
