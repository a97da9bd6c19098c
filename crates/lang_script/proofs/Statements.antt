-- What each form of statement means, and statements, one after another.
use Rattle.std.proofs.Common.{inl, inr, ℕ, Bool, true, false, List, [], ◌∷◌, ◌++◌, ◌≡◌, refl, sym, ap, subst, ◌∙◌, rules, ◌+◌, ◌<◌, ◌≤◌, length, get_or, take, drop}
use Rattle.std.proofs.Math.ListN.{drop_of_length-le}
use Rattle.std.proofs.lemmas.List.{append_assoc}
use Rattle.std.specs.Prelude.{◌≢◌, ◌↔◌, IsTrue, ◌⊎◌, Result, Err, if◌then◌else◌, pos, negsuc}
use Rattle.rt_lemmas.proofs.Lists.{next_drop, append_nil}
pub use Rattle.rt_lemmas.proofs.Lists.{take_front}
use Rattle.rt_model.specs.Program.{done, spawn, queue_effect, after_suspense_resolved, freeze, provide, captured, clear_errors, hook_is_new, use_effect, Call}
use Rattle.rt_model.specs.World.{World}
use Rattle.run_records.specs.Records.{world_of}
use Rattle.author_calls.specs.Calls.{call_of}
use Rattle.run_records.specs.declared.faults.CxFault.{CxFault}
use Rattle.run_records.specs.declared.faults.CxFault.TheVariants.{OutOfMemory}
use Rattle.rt_language.specs.Sequence.{go_on}
use Rattle.rt_language.specs.Syntax as language
use Rattle.rt_language.specs.Values.{Value, NoValue, NumberValue, TextValue, CellValue, TaskValue, is_true, hook_kind, text_of}
use Rattle.rt_language.specs.Expressions.{Stepping, SourceTypes, Caller, held_by, evaluate, evaluate_all}
use Rattle.rt_language.specs.Statements as statements
use Rattle.rt_language.specs.Statements.{Running, goes_on, binding, WentOn, hook_with, cell_hook, task_hook, bound_task, is_forever, is_isomorphic, standing, time_kind, doing, if_stands, kept_names, written, forgotten, acted, acted_on, marked, thrown, failed_with, suspends_on, then_run, perform, run_statements}
use Rattle.lang_syntax.specs.Mirror.{expression_of, derived_of, arguments_of, time_of, spawned_of, simple_of, statement_of, statements_of}
use Rattle.lang_syntax.specs.declared.derived.Derived.{Derived}
use Rattle.lang_syntax.specs.declared.expression.Expression.{Expression}
use Rattle.lang_syntax.specs.declared.statement.HookTime.{HookTime}
use Rattle.lang_syntax.specs.declared.statement.SpawnKind.{SpawnKind}
use Rattle.lang_syntax.specs.declared.statement.Simple.{Simple}
use Rattle.lang_syntax.specs.declared.statement.Statement.{Statement, the_lemmas}
use Rattle.lang_syntax.specs.declared.statement.Statement.TheVariants as forms
use Rattle.lang_syntax.specs.Outside.{stands_outside, stand_outside}
use Rattle.lang_syntax.proofs.Stands.{outside-at, o-When, o-UseCell, o-UseHook, o-UseDerived, o-CallAt, o-FailWith, o-SuspendOn}
use Rattle.lang_script.specs.declared.caller.Caller as code
use Rattle.lang_script.specs.declared.caller.Caller.TheVariants as callers
use Rattle.lang_script.specs.declared.caller.Frame as frames
use Rattle.lang_script.specs.declared.caller.Outcome.{Outcome}
use Rattle.lang_script.specs.declared.caller.Outcome.TheVariants as outcomes
use Rattle.author_programs.specs.Came.{Came, came, reached}
use Rattle.lang_script.specs.Held.{IsNoCell, IsNoTask, IsNoScope}
use Rattle.author_bodies.specs.Comes.{Comes}
use Rattle.author_bodies.proofs.Refused.{drawn}
use Rattle.lang_script.specs.Seen.{caller_of, SeesRenders, IsOutside, IsBody, outcome_of, ScriptCall, ScriptWorld, Knows, Extends, Follows}
use Rattle.lang_script.proofs.Expressions.{chosen_by}
use Rattle.author_programs.proofs.Steps.{on, at_done, at_scope, at_write, at_drop_cell, at_spawn, at_wake, at_remove_future, at_set_active, at_queue_effect, at_resolved, at_freeze, at_provide, at_needs_update, at_captured, at_throw, at_clear_errors}

-- which statement of the language each form is
pub s-Does : (d : Simple) → statement_of (forms.Does d) ≡ simple_of d
s-Does d = search (rules, the_lemmas)

pub s-UseCell : (e : Expression) → statement_of (forms.UseCell e) ≡ language.UseCell (expression_of e)
s-UseCell e = search (rules, the_lemmas)

pub s-UseHook : (e : Expression) → statement_of (forms.UseHook e) ≡ language.UseHook (expression_of e)
s-UseHook e = search (rules, the_lemmas)

pub s-UseDerived : (formula : Derived) → statement_of (forms.UseDerived formula) ≡ language.UseDerived (derived_of formula)
s-UseDerived formula = search (rules, the_lemmas)

pub s-SpawnTask : (task : ℕ) (arguments : List Expression) (kind : SpawnKind) → statement_of (forms.SpawnTask task arguments kind) ≡ language.SpawnTask task (arguments_of arguments) (spawned_of kind)
s-SpawnTask task arguments kind = search (rules, the_lemmas)

pub s-CallAt : (time : HookTime) (action : ℕ) (arguments : List Expression) → statement_of (forms.CallAt time action arguments) ≡ language.CallAt (time_of time) action (arguments_of arguments)
s-CallAt time action arguments = search (rules, the_lemmas)

pub s-When : (test : Expression) (inner : List Statement) → statement_of (forms.When test inner) ≡ language.When (expression_of test) (statements_of inner)
s-When test inner = search (rules, the_lemmas)

pub s-ThrowText : (e : Expression) → statement_of (forms.ThrowText e) ≡ language.ThrowText (expression_of e)
s-ThrowText e = search (rules, the_lemmas)

pub s-FailWith : (e : Expression) → statement_of (forms.FailWith e) ≡ language.FailWith (expression_of e)
s-FailWith e = search (rules, the_lemmas)

pub s-SuspendOn : (variable : ℕ) → statement_of (forms.SuspendOn variable) ≡ language.SuspendOn variable
s-SuspendOn variable = search (rules, the_lemmas)

-- what each statement does
module _ (by : Caller) (f : statements.Frame) where
  pub p-Let : (e : language.Expression) → perform by f (language.Let e) ≡ go_on (evaluate by f.held e) (λ v. goes_on (binding f v))
  unfolding perform
  p-Let e = refl

  pub p-UseCell : (e : language.Expression) → perform by f (language.UseCell e) ≡ hook_is_new (λ new. cell_hook f (evaluate by f.held e) new)
  unfolding perform
  p-UseCell e = refl

  pub p-UseHook : (e : language.Expression) → perform by f (language.UseHook e) ≡ go_on (evaluate by f.held e) (λ v. hook_with f (hook_kind v) v)
  unfolding perform
  p-UseHook e = refl

  pub p-CallAt : (time : language.HookTime) (action : ℕ) (es : language.Expressions)
      → perform by f (language.CallAt time action es) ≡ go_on (evaluate_all by f.held es) (λ vs. use_effect (time_kind time) (doing action vs) (λ stands. if_stands f stands))
  unfolding perform
  p-CallAt time action es = refl

  pub p-EffectOf : (action : ℕ) (es : language.Expressions) → perform by f (language.EffectOf action es) ≡ go_on (evaluate_all by f.held es) (λ vs. queue_effect (doing action vs) (goes_on f))
  unfolding perform
  p-EffectOf action es = refl

  pub p-OnResolved : (action : ℕ) (es : language.Expressions) → perform by f (language.OnResolved action es) ≡ go_on (evaluate_all by f.held es) (λ vs. after_suspense_resolved (doing action vs) (goes_on f))
  unfolding perform
  p-OnResolved action es = refl

  pub p-FreezeBoundary : perform by f language.FreezeBoundary ≡ freeze (goes_on f)
  unfolding perform
  p-FreezeBoundary = refl

  pub p-When : (test : language.Expression) (inner : language.Statements)
      → perform by f (language.When test inner)
      ≡ go_on (evaluate by f.held test) (λ v. if is_true v then go_on (run_statements by f inner) (λ o. done (kept_names f o)) else goes_on f)
  unfolding perform
  p-When test inner = λ i. go_on (evaluate by f.held test) (λ v. chosen_by (is_true v) (go_on (run_statements by f inner) (λ o. done (kept_names f o))) (goes_on f) i)

  pub p-ProvideAs : (kind : ℕ) (e : language.Expression) → perform by f (language.ProvideAs kind e) ≡ go_on (evaluate by f.held e) (λ v. provide false kind v (goes_on f))
  unfolding perform
  p-ProvideAs kind e = refl

  pub p-WriteTo : (n : ℕ) (e : language.Expression) → perform by f (language.WriteTo n e) ≡ go_on (evaluate by f.held e) (λ v. written (held_by f.held n) v (goes_on f))
  unfolding perform
  p-WriteTo n e = refl

  pub p-Forget : (n : ℕ) → perform by f (language.Forget n) ≡ forgotten (held_by f.held n) (goes_on f)
  unfolding perform
  p-Forget n = refl

  pub p-ActOn : (act : language.TaskAct) (n : ℕ) → perform by f (language.ActOn act n) ≡ acted act (held_by f.held n) (goes_on f)
  unfolding perform
  p-ActOn act n = refl

  pub p-MarkScopeOf : (e : language.Expression) → perform by f (language.MarkScopeOf e) ≡ go_on (evaluate by f.held e) (λ v. marked v (goes_on f))
  unfolding perform
  p-MarkScopeOf e = refl

  pub p-ThrowText : (e : language.Expression) → perform by f (language.ThrowText e) ≡ go_on (evaluate by f.held e) (λ v. captured (text_of v) (λ made. thrown f made))
  unfolding perform
  p-ThrowText e = refl

  pub p-ClearError : perform by f language.ClearError ≡ clear_errors (goes_on f)
  unfolding perform
  p-ClearError = refl

  pub p-FailWith : (e : language.Expression) → perform by f (language.FailWith e) ≡ go_on (evaluate by f.held e) (λ v. captured (text_of v) (λ made. failed_with made))
  unfolding perform
  p-FailWith e = refl

  pub p-SuspendOn : (n : ℕ) → perform by f (language.SuspendOn n) ≡ suspends_on f (held_by f.held n)
  unfolding perform
  p-SuspendOn n = refl

  pub p-Stop : perform by f language.Stop ≡ goes_on (record f { stopped = true })
  unfolding perform
  p-Stop = refl

  pub p-Prevent : perform by f language.Prevent ≡ goes_on (record f { prevented = true })
  unfolding perform
  p-Prevent = refl

  pub p-Stay : perform by f language.Stay ≡ goes_on (record f { stays = true })
  unfolding perform
  p-Stay = refl

-- a task that another call than a body spawns
pub p-spawned : (by : code.Caller) → IsOutside by → (f : statements.Frame) (task : ℕ) (es : language.Expressions) (kind : language.SpawnKind)
    → perform (caller_of by) f (language.SpawnTask task es kind)
    ≡ go_on (evaluate_all (caller_of by) f.held es) (λ vs. spawn (Stepping (standing task vs)) (is_forever kind) (is_isomorphic kind) (λ t. bound_task f t))
unfolding perform
p-spawned (callers.Body generation) h f task es kind = absurd h
p-spawned (callers.Listener payload) h f task es kind = refl
p-spawned callers.Other h f task es kind = refl

-- a task that a body spawns
pub p-kept : (w : World SourceTypes) (by : code.Caller) → IsBody w by → (f : statements.Frame) (task : ℕ) (es : language.Expressions) (kind : language.SpawnKind)
    → perform (caller_of by) f (language.SpawnTask task es kind)
    ≡ hook_is_new (λ new. task_hook f task kind (evaluate_all (caller_of by) f.held es) new)
unfolding perform
p-kept w (callers.Body generation) h f task es kind = refl
p-kept w (callers.Listener payload) h f task es kind = absurd h
p-kept w callers.Other h f task es kind = absurd h

pub outside-sees : (w : World SourceTypes) (by : code.Caller) → IsOutside by → SeesRenders w by
outside-sees w (callers.Body generation) h = absurd h
outside-sees w (callers.Listener payload) h = tt
outside-sees w callers.Other h = tt

pub body-sees : (w : World SourceTypes) (by : code.Caller) → IsBody w by → SeesRenders w by
body-sees w (callers.Body generation) h = h
body-sees w (callers.Listener payload) h = absurd h
body-sees w callers.Other h = absurd h

-- what is done to what a variable doesn't hold
pub unwritten : (v x : Value) (rest : Running) → IsNoCell v → written v x rest ≡ rest
unwritten NoValue x rest h = refl
unwritten (NumberValue n) x rest h = refl
unwritten (TextValue t) x rest h = refl
unwritten (CellValue n) x rest h = absurd h
unwritten (TaskValue t) x rest h = refl

pub unforgotten : (v : Value) (rest : Running) → IsNoCell v → forgotten v rest ≡ rest
unforgotten NoValue rest h = refl
unforgotten (NumberValue n) rest h = refl
unforgotten (TextValue t) rest h = refl
unforgotten (CellValue n) rest h = absurd h
unforgotten (TaskValue t) rest h = refl

pub unacted : (act : language.TaskAct) (v : Value) (rest : Running) → IsNoTask v → acted act v rest ≡ rest
unacted act NoValue rest h = refl
unacted act (NumberValue n) rest h = refl
unacted act (TextValue t) rest h = refl
unacted act (CellValue n) rest h = refl
unacted act (TaskValue t) rest h = absurd h

pub unmarked : (v : Value) (rest : Running) → IsNoScope v → marked v rest ≡ rest
unmarked NoValue rest h = refl
unmarked (NumberValue (pos n)) rest h = absurd h
unmarked (NumberValue (negsuc n)) rest h = refl
unmarked (TextValue t) rest h = refl
unmarked (CellValue n) rest h = refl
unmarked (TaskValue t) rest h = refl

pub unsuspended : (f : statements.Frame) (v : Value) → IsNoTask v → suspends_on f v ≡ goes_on f
unsuspended f NoValue h = refl
unsuspended f (NumberValue n) h = refl
unsuspended f (TextValue t) h = refl
unsuspended f (CellValue n) h = refl
unsuspended f (TaskValue t) h = absurd h

-- no number was drawn, and memory wasn't wanted
pub undrawn : {A : Type 0} (result : Result A CxFault) (fault told : CxFault) (b : Bool) → ((result ≡ Err told) ↔ IsTrue b) → result ≡ Err fault
    → fault ≢ OutOfMemory → (fault ≡ OutOfMemory) ⊎ (fault ≡ told) → b ≡ true
undrawn result fault told b h is had (inl wanted) = absurd (had wanted)
undrawn result fault told b h is had (inr end) = h.0 (is ∙ ap Err end)

pub extends-same : (a : List Value) → Extends a a
extends-same a = record { more = []; is = sym (append_nil a) }

extends-on : (a b c : List Value) → Extends a b → Extends b c → Extends a c
extends-on a b c h k = record { more = h.more ++ k.more; is = k.is ∙ ap (λ xs. xs ++ k.more) h.is ∙ append_assoc a h.more k.more }

pub follows-same : (f : frames.Frame) → Follows f f
follows-same f = record { by = refl; held = extends-same f.held }

pub follows-on : (f g h : frames.Frame) → Follows f g → Follows g h → Follows f h
follows-on f g h a b = record { by = b.by ∙ a.by; held = extends-on f.held g.held h.held a.held b.held }

pub follows-bound : (f g : frames.Frame) (v : Value) → g.by ≡ f.by → g.held ≡ f.held ++ v ∷ [] → Follows f g
follows-bound f g v by held = record { by = by; held = record { more = v ∷ []; is = held } }

-- the first values of those after are those before
pub kept-held : (before after : List Value) → Extends before after → take (length before) after ≡ before
kept-held before after h = ap (take (length before)) h.is ∙ take_front before h.more

pub ruleset performing = (
  on,
  at_done,
  at_write,
  at_drop_cell,
  at_spawn,
  at_wake,
  at_remove_future,
  at_set_active,
  at_queue_effect,
  at_resolved,
  at_freeze,
  at_provide,
  at_needs_update,
  at_captured,
  at_throw,
  at_clear_errors,
  s-SpawnTask,
  s-When,
  s-ThrowText,
  p-Let,
  p-EffectOf,
  p-OnResolved,
  p-FreezeBoundary,
  p-When,
  p-ProvideAs,
  p-WriteTo,
  p-Forget,
  p-ActOn,
  p-MarkScopeOf,
  p-ThrowText,
  p-ClearError,
  p-Stop,
  p-Prevent,
  p-Stay,
  p-spawned,
  outside-sees,
  unwritten,
  unforgotten,
  unacted,
  unmarked,
  drawn,
  undrawn,
  follows-same,
  follows-on,
  follows-bound,
)

-- each statement of an action may stand there
pub one-outside : (s : Statement) (ss : List Statement) (i : ℕ) → s ≡ get_or ss i s → i < length ss → stand_outside ss ≡ true → stands_outside s ≡ true
one-outside s ss i is low h = outside-at ss i s low is h

-- and so may those under a test in it
pub inner-outside : (s : Statement) (test : Expression) (inner : List Statement) → s ≡ forms.When test inner → stands_outside s ≡ true → stand_outside inner ≡ true
inner-outside s test inner is h = sym (o-When test inner) ∙ sym (ap stands_outside is) ∙ h

pub ruleset dispatching = (s-Does, s-SpawnTask, s-When, s-ThrowText, s-UseCell, s-UseHook, s-UseDerived, s-CallAt, s-FailWith, s-SuspendOn, o-When, o-UseCell, o-UseHook, o-UseDerived, o-CallAt, o-FailWith, o-SuspendOn, outside-sees, body-sees, follows-same)

pub ruleset allowing = (one-outside, inner-outside, dispatching)

pub ruleset whens = (on, at_done, p-When, outside-sees, body-sees, follows-same)

-- a call that knows how it ended knows what follows from that
pub knows : {T U : Type 0} (o : Outcome) (d : ScriptCall) → (T → U) → Knows o d T → Knows o d U
knows outcomes.WentOn d h k = h k
knows (outcomes.Ended answer) d h k = h k
knows outcomes.Refused d h k = λ had. h (k had)

-- statements that ended early are the last
pub stops : (o : Outcome) (g : statements.Frame) (rest : statements.Frame → Running) → o ≢ outcomes.WentOn → then_run rest (outcome_of o g) ≡ done (outcome_of o g)
stops outcomes.WentOn g rest h = absurd (h refl)
stops (outcomes.Ended answer) g rest h = refl
stops outcomes.Refused g rest h = refl

-- a call and its caller by other names
pub moved : (before after : ScriptCall) (v : ScriptWorld) (by like : code.Caller) (p : Caller → Running) (x : statements.Outcome)
    → before.world ≡ v → by ≡ like
    → Comes before after (p (caller_of by)) x
    → came (world_of v) (p (caller_of like)) (call_of before) ≡ reached x (call_of after)
moved before after v by like p x world caller h =
    subst (λ (b : code.Caller). came (world_of v) (p (caller_of b)) (call_of before) ≡ reached x (call_of after)) caller
    (subst (λ (u : ScriptWorld). came (world_of u) (p (caller_of by)) (call_of before) ≡ reached x (call_of after)) world h)

-- statements that went on
pub went : (before after : ScriptCall) (v : ScriptWorld) (by like : code.Caller) (p : Caller → Running) (o : Outcome) (g : statements.Frame)
    → before.world ≡ v → by ≡ like → o ≡ outcomes.WentOn
    → Knows o after (Comes before after (p (caller_of by)) (outcome_of o g))
    → came (world_of v) (p (caller_of like)) (call_of before) ≡ reached (WentOn g) (call_of after)
went before after v by like p o g world caller is h =
    moved before after v by like p (WentOn g) world caller (subst (λ (x : Outcome). Knows x after (Comes before after (p (caller_of by)) (outcome_of x g))) is h)

first_then : (w : World SourceTypes) (by : Caller) (f : statements.Frame) (s : Statement) (ss : List Statement) (o : statements.Outcome) (c d : Call SourceTypes)
    → came w (perform by f (statement_of s)) c ≡ reached o d
    → came w (run_statements by f (statements_of (s ∷ ss))) c ≡ came w (then_run (λ g. run_statements by g (statements_of ss)) o) d
unfolding run_statements
first_then w by f s ss o c d h =
    let rest : statements.Outcome → Running = λ x. then_run (λ g. run_statements by g (statements_of ss)) x in
    on w (perform by f (statement_of s)) rest c ∙ ap (λ (x : Came SourceTypes statements.Outcome). came w (rest x.answer) x.call) h

-- one more statement
pub one_statement : (w : World SourceTypes) (by : Caller) (f : statements.Frame) (ss : List Statement) (i : ℕ) (s : Statement) (o : statements.Outcome) (c d : Call SourceTypes)
    → i < length ss → s ≡ get_or ss i s
    → came w (perform by f (statement_of s)) c ≡ reached o d
    → came w (run_statements by f (statements_of (drop i ss))) c ≡ came w (then_run (λ g. run_statements by g (statements_of (drop (i + 1) ss))) o) d
one_statement w by f ss i s o c d low is h =
    ap (λ (xs : List Statement). came w (run_statements by f (statements_of xs)) c) (next_drop ss i s low is) ∙ first_then w by f s (drop (i + 1) ss) o c d h

-- no statement is left
pub no_statement : (w : World SourceTypes) (by : Caller) (f : statements.Frame) (ss : List Statement) (i : ℕ) (c : Call SourceTypes)
    → length ss ≤ i → came w (run_statements by f (statements_of (drop i ss))) c ≡ reached (WentOn f) c
unfolding run_statements came
no_statement w by f ss i c end = ap (λ (xs : List Statement). came w (run_statements by f (statements_of xs)) c) (drop_of_length-le ss end)

kept : (o : Outcome) (f g : statements.Frame) → kept_names f (outcome_of o g) ≡ outcome_of o (record g { held = f.held })
kept outcomes.WentOn f g = refl
kept (outcomes.Ended answer) f g = refl
kept outcomes.Refused f g = refl

-- statements under a test that was true
pub when_true : (w : World SourceTypes) (by : Caller) (f g : statements.Frame) (test : language.Expression) (inner : language.Statements) (v : Value) (o : Outcome) (c d e : Call SourceTypes)
    → is_true v ≡ true
    → came w (evaluate by f.held test) c ≡ reached v d
    → came w (run_statements by f inner) d ≡ reached (outcome_of o g) e
    → came w (perform by f (language.When test inner)) c ≡ reached (outcome_of o (record g { held = f.held })) e
when_true w by f g test inner v o c d e chosen h k =
    let p : Running = go_on (run_statements by f inner) (λ x. done (kept_names f x)) in
    ap (λ q. came w q c) (p-When by f test inner) ∙
    on w (evaluate by f.held test) (λ x. if is_true x then p else goes_on f) c ∙
    ap (λ (x : Came SourceTypes Value). came w (if is_true x.answer then p else goes_on f) x.call) h ∙
    ap (λ (b : Bool). came w (if b then p else goes_on f) d) chosen ∙
    on w (run_statements by f inner) (λ x. done (kept_names f x)) d ∙
    ap (λ (x : Came SourceTypes statements.Outcome). came w (done (kept_names f x.answer)) x.call) k ∙
    at_done w (kept_names f (outcome_of o g)) e ∙
    ap (λ x. reached x e) (kept o f g)
