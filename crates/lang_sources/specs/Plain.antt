-- Statements that bind no name and have no statements in them.
use Rattle.std.specs.Prelude.{ℕ, List, [], ◌∷◌, ◌&&◌, Option, Some, None, option_map, option_and_then, if◌then◌else◌, bytes_eq, codes}
use Rattle.serde_json.specs.Data.{Data}
use Rattle.lang_expressions.specs.Keys.{is_object_of}
use Rattle.lang_expressions.specs.Fields.{text_at, is_zero_at}
use Rattle.lang_expressions.specs.declared.signatures.Names.{Names}
use Rattle.lang_expressions.specs.Calls.{expression_at, variable_at, call_at}
use Rattle.lang_syntax.specs.declared.expression.Expression.{Expression}
use Rattle.lang_syntax.specs.declared.statement.HookTime.TheVariants as times
use Rattle.lang_syntax.specs.declared.statement.TaskAct.{TaskAct}
use Rattle.lang_syntax.specs.declared.statement.TaskAct.TheVariants.{WakeUp, Cancel, Pause, Resume}
use Rattle.lang_syntax.specs.declared.statement.Simple.TheVariants as simple
use Rattle.lang_syntax.specs.declared.statement.Statement.{Statement}
use Rattle.lang_syntax.specs.declared.statement.Statement.TheVariants as s
use Rattle.lang_sources.specs.declared.forms.Calling.{Calling}
use Rattle.lang_sources.specs.declared.forms.Calling.TheVariants.{AtRemoval, BeforeRender, AfterRender, AsEffect, OnceResolved}
use Rattle.lang_sources.specs.declared.forms.Word.{Word}
use Rattle.lang_sources.specs.declared.forms.Word.TheVariants.{Freeze, Clear, Stop, Prevent, Stay}
use Rattle.lang_sources.specs.declared.forms.Plain.{Plain}
use Rattle.lang_sources.specs.declared.forms.Plain.TheVariants.{Calls, Says, Mark, Throw, Fail, Forget, Suspend, Provide, Write, Act}

-- an action with what it is handed, called in time
abbrev pub call_of : Calling → (ℕ × List Expression) → Statement
call_of AtRemoval call = s.CallAt times.AtRemoval call.0 call.1
call_of BeforeRender call = s.CallAt times.BeforeRender call.0 call.1
call_of AfterRender call = s.CallAt times.AfterRender call.0 call.1
call_of AsEffect call = s.Does (simple.EffectOf call.0 call.1)
call_of OnceResolved call = s.Does (simple.OnResolved call.0 call.1)

-- an object of a key, which names an action, and `args`
abbrev pub calling_of : Names → List (List ℕ) → List ℕ → Calling → Data → Option Statement
calling_of names variables key calling d =
    if is_object_of (key ∷ codes "args" ∷ []) d then option_map (call_of calling) (call_at names variables names.actions key d) else None

-- what a word says
abbrev pub word_said : Word → Statement
word_said Freeze = s.Does simple.FreezeBoundary
word_said Clear = s.Does simple.ClearError
word_said Stop = s.Does simple.Stop
word_said Prevent = s.Does simple.Prevent
word_said Stay = s.Does simple.Stay

-- an object of one key with 0
abbrev pub word_at : List ℕ → Word → Data → Option Statement
word_at key word d = if is_object_of (key ∷ []) d && is_zero_at key d then Some (word_said word) else None

-- the expression at an object's only key
abbrev pub given : Names → List (List ℕ) → List ℕ → Data → Option Expression
given names variables key d = if is_object_of (key ∷ []) d then expression_at names variables key d else None

-- the variable that is named at an object's only key
abbrev pub named : List (List ℕ) → List ℕ → Data → Option ℕ
named variables key d = if is_object_of (key ∷ []) d then variable_at variables key d else None

-- an object of `provide`, a key of contexts, and `be`
abbrev pub provided : Names → List (List ℕ) → Data → Option Statement
provided names variables d =
    if is_object_of (codes "provide" ∷ codes "be" ∷ []) d
    then option_and_then (λ kind. option_map (λ e. s.Does (simple.ProvideAs kind e)) (expression_at names variables (codes "be") d))
    (variable_at names.kinds (codes "provide") d) else None

-- an object of `write`, a variable, and `be`
abbrev pub written : Names → List (List ℕ) → Data → Option Statement
written names variables d =
    if is_object_of (codes "write" ∷ codes "be" ∷ []) d
    then option_and_then (λ variable. option_map (λ e. s.Does (simple.WriteTo variable e)) (expression_at names variables (codes "be") d))
    (variable_at variables (codes "write") d) else None

-- what a word does to a task
unfoldable pub act_of : List ℕ → Option TaskAct
act_of word =
    if bytes_eq word (codes "wake") then Some WakeUp else
    if bytes_eq word (codes "cancel") then Some Cancel else
    if bytes_eq word (codes "pause") then Some Pause else
    if bytes_eq word (codes "resume") then Some Resume else None

-- an object of `act`, what is done, and `task`, a variable
abbrev pub acted : List (List ℕ) → Data → Option Statement
acted variables d =
    if is_object_of (codes "act" ∷ codes "task" ∷ []) d
    then option_and_then (λ act. option_map (λ variable. s.Does (simple.ActOn act variable)) (variable_at variables (codes "task") d))
    (option_and_then act_of (text_at (codes "act") d)) else None

-- the statement of a form that is plain
abbrev pub plain_of : Names → List (List ℕ) → List ℕ → Plain → Data → Option Statement
plain_of names variables key (Calls calling) d = calling_of names variables key calling d
plain_of names variables key (Says word) d = word_at key word d
plain_of names variables key Mark d = option_map (λ e. s.Does (simple.MarkScopeOf e)) (given names variables key d)
plain_of names variables key Throw d = option_map s.ThrowText (given names variables key d)
plain_of names variables key Fail d = option_map s.FailWith (given names variables key d)
plain_of names variables key Forget d = option_map (λ variable. s.Does (simple.Forget variable)) (named variables key d)
plain_of names variables key Suspend d = option_map s.SuspendOn (named variables key d)
plain_of names variables key Provide d = provided names variables d
plain_of names variables key Write d = written names variables d
plain_of names variables key Act d = acted variables d
