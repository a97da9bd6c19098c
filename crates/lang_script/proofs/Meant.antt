-- What the calls of a script mean.
use Rattle.std.proofs.Common.{ℕ, suc, length, map, slice_get, Bool, true, false, List, [], ◌∷◌, ◌≡◌, refl, sym, ap, subst, ◌∙◌}
use Rattle.std.specs.Prelude.{◌≢◌, ◌↔◌, IsTrue, Option, Some, option_map, Result, Ok, Err}
use Rattle.rt_model.specs.Program as program
use Rattle.rt_model.specs.Program.{Program, done, exec, ended}
use Rattle.rt_model.specs.World as model
use Rattle.tree_mirror.specs.Mirror as plain
use Rattle.tree_mirror.specs.Sealed as mirror
use Rattle.tree_nodes.specs.declared.error.RenderError.{RenderError}
use Rattle.tree_nodes.specs.declared.error.RenderError.TheVariants as errors
use Rattle.tree_nodes.specs.declared.vnode.VNode.{VNode}
use Rattle.run_records.specs.Records.{world_of}
use Rattle.author_calls.specs.Calls.{call_of, meaning_of}
use Rattle.author_calls.specs.Turn as turns
use Rattle.author_calls.specs.Turn.{Left, HadMemory}
use Rattle.run_records.specs.declared.faults.CxFault.TheVariants.{OutOfMemory}
use Rattle.author_calls.proofs.ProgramsGoOn.{stand-for}
use Rattle.rt_language.specs.Expressions.{Doing, Standing, TaskState, SourceTypes}
use Rattle.rt_language.specs.Meaning.{left_event, poll_step}
use Rattle.rt_language.specs.Sequence.{go_on}
use Rattle.rt_language.specs.Statements as statements
use Rattle.rt_language.specs.Statements.{Outcome, WentOn, EndedWith, WasRefused, Running, run_statements}
use Rattle.rt_language.specs.Syntax.{Statements}
use Rattle.lang_syntax.specs.Mirror.{statements_of}
use Rattle.lang_syntax.specs.declared.statement.Statement.{Statement}
use Rattle.rt_model.specs.Lists.{nth}
use Rattle.rt_language.specs.Values.{Value, same_values}
use Rattle.rt_language.proofs.Lawful.{values}
use Rattle.lang_script.specs.Applications.{asked_by, heard}
use Rattle.author_programs.specs.Came.{Came, came, reached}
use Rattle.author_bodies.specs.Comes.{Comes, ComesIfRemembered}
use Rattle.lang_script.specs.Seen.{ScriptCall, Knows, caller_of, frame_of, outcome_of}
use Rattle.lang_script.specs.declared.script.Asked.{Asked}
use Rattle.lang_script.specs.declared.script.Script.{Script}
use Rattle.author_programs.proofs.Goes.{exec-came, told_by}
use Rattle.lang_script.proofs.Heard.{still, still-not}
use Rattle.lang_script.specs.declared.caller.Caller as callers
use Rattle.lang_script.specs.declared.caller.Frame as frames
use Rattle.lang_script.specs.declared.caller.Outcome as code
use Rattle.lang_script.specs.declared.caller.Outcome.TheVariants as outcomes
use Rattle.lang_script.proofs.Fills.{placeholder-is}
use Rattle.lang_script.proofs.Places.{nth-get, nth-map}
use Rattle.author_programs.proofs.Steps.{on, at_done}

-- an answer at the mirror
pub elements-are : (answer : Result (VNode Script ℕ (List Value) Value Doing TaskState Doing Value) RenderError) → mirror.element_of answer ≡ plain.element_of answer
unfolding mirror.tree_of
elements-are (Ok tree) = refl
elements-are (Err (errors.Error e)) = refl
elements-are (Err (errors.Suspended f)) = refl

pub left-heard : (event : model.Event SourceTypes) (o : Outcome) → left_event event o ≡ heard event (asked_by o)
left-heard event (WentOn f) = refl
left-heard event (EndedWith answer) = λ i. record { payload = event.payload; propagates = sym (still event.propagates) i; prevented = sym (still-not event.prevented) i }
left-heard event WasRefused = λ i. record { payload = event.payload; propagates = sym (still event.propagates) i; prevented = sym (still-not event.prevented) i }

-- a listener that asks for something leaves the event so
pub hears : (before after : ScriptCall) (run : Running) (event : model.Event SourceTypes) (asked : Asked)
    → ComesIfRemembered before after (go_on run (λ o. done (asked_by o))) asked
    → ComesIfRemembered before after (go_on run (λ o. done (left_event event o))) (heard event asked)
hears before after run event asked h had =
    let w : model.World SourceTypes = world_of before.world in
    let x : Came SourceTypes Outcome = came w run (call_of before) in
    let came_to : reached (asked_by x.answer) x.call ≡ reached asked (call_of after) =
    sym (on w run (λ o. done (asked_by o)) (call_of before) ∙ at_done w (asked_by x.answer) x.call) ∙ h had in
    on w run (λ o. done (left_event event o)) (call_of before) ∙ at_done w (left_event event x.answer) x.call ∙
    ap (λ e. reached e x.call) (left-heard event x.answer) ∙
    ap (λ (y : Came SourceTypes Asked). reached (heard event y.answer) y.call) came_to

-- equal props are those that the test finds equal
pub same-props : (is_same : Bool) (p q : List Value) → (IsTrue is_same ↔ (p ≡ q)) → is_same ≡ same_values p q
same-props is_same p q h =
    alike is_same (same_values p q) (λ same. subst (λ (x : List Value). same_values p x ≡ true) (h.0 same) (values.1 p)) (λ same. h.1 (values.0 p q same))
  where
    alike : (a b : Bool) → (a ≡ true → b ≡ true) → (b ≡ true → a ≡ true) → a ≡ b
    alike true true f g = refl
    alike true false f g = sym (f refl)
    alike false true f g = g refl
    alike false false f g = refl

-- a call that had memory knows how its statements ended
pub known : {T : Type 0} (o : code.Outcome) (d : ScriptCall) → Knows o d T → d.fault ≢ Some OutOfMemory → T
known outcomes.WentOn d h had = h
known (outcomes.Ended answer) d h had = h
known outcomes.Refused d h had = h had

-- statements, and then what their end comes to
pub then-done : {A : Type 0} (before after : ScriptCall) (p : Running) (k : Outcome → A) (o : code.Outcome) (g : statements.Frame) (answer : A)
    → Knows o after (Comes before after p (outcome_of o g))
    → k (outcome_of o g) ≡ answer
    → ComesIfRemembered before after (go_on p (λ x. done (k x))) answer
then-done before after p k o g answer h is had =
    let w : model.World SourceTypes = world_of before.world in
    on w p (λ x. done (k x)) (call_of before) ∙
    ap (λ (x : Came SourceTypes Outcome). came w (done (k x.answer)) x.call) (known o after h had) ∙
    at_done w (k (outcome_of o g)) (call_of after) ∙
    ap (λ a. reached a (call_of after)) is

-- statements in a frame at its start
pub run-begun : (f : frames.Frame) (by : callers.Caller) (arguments : List Value) (ss all : Statements)
    → f.by ≡ by → f.held ≡ arguments → f.stopped ≡ false → f.prevented ≡ false → f.stays ≡ false → ss ≡ all
    → run_statements (caller_of f.by) (frame_of f) ss ≡ run_statements (caller_of by) (statements.frame_of arguments) all
run-begun f by arguments ss all caller held stopped prevented stays is =
    λ i. run_statements (caller_of (caller i)) (record { held = held i; stopped = stopped i; prevented = prevented i; stays = stays i }) (is i)

-- such statements, and then what their end comes to
pub begun-done : {A : Type 0} (before after : ScriptCall) (f : frames.Frame) (by : callers.Caller) (arguments : List Value) (ss all : Statements) (k : Outcome → A) (o : code.Outcome) (g : statements.Frame) (answer : A)
    → f.by ≡ by → f.held ≡ arguments → f.stopped ≡ false → f.prevented ≡ false → f.stays ≡ false → ss ≡ all
    → Knows o after (Comes before after (run_statements (caller_of f.by) (frame_of f) ss) (outcome_of o g))
    → k (outcome_of o g) ≡ answer
    → ComesIfRemembered before after (go_on (run_statements (caller_of by) (statements.frame_of arguments) all) (λ x. done (k x))) answer
begun-done before after f by arguments ss all k o g answer caller held stopped prevented stays is h ends =
    then-done before after (run_statements (caller_of by) (statements.frame_of arguments) all) k o g answer
    (subst (λ (q : Running). Knows o after (Comes before after q (outcome_of o g))) (run-begun f by arguments ss all caller held stopped prevented stays is) h)
    ends

length-map : {A B : Type 0} (f : A → B) (xs : List A) → length (map f xs) ≡ length xs
length-map f [] = refl
length-map f (x ∷ xs) = ap (λ (n : ℕ). suc n) (length-map f xs)

-- the poll of a step, where one is there
pub step-at : (at : Standing) (all : List Statements) (steps : List (List Statement)) (o : Option (List Statement)) → map statements_of steps ≡ all → slice_get steps at.step ≡ o
    → poll_step at (length all) (nth all at.step) ≡ poll_step at (length steps) (option_map statements_of o)
step-at at all steps o is there =
    ap (λ (xs : List Statements). poll_step at (length xs) (nth xs at.step)) (sym is) ∙
    ap (λ (n : ℕ). poll_step at n (nth (map statements_of steps) at.step)) (length-map statements_of steps) ∙
    ap (poll_step at (length steps)) (nth-map statements_of steps at.step ∙ ap (option_map statements_of) (nth-get steps at.step ∙ there))

pub ruleset answering = (on, at_done, nth-get, nth-map, placeholder-is)
