-- What is computed of a memo or of a resource, what is loaded, and what the statement means.
use Rattle.std.proofs.Common.{ℕ, Bool, true, false, List, [], ◌∷◌, ◌++◌, ◌≡◌, refl, sym, ap, subst, ◌∙◌, not, nat_lt}
use Rattle.std.specs.Prelude.{◌≢◌, Option, Some, None, Result, IfErr}
use Rattle.author_bodies.specs.Comes.{Comes, Knows, RefusedOther}
use Rattle.author_bodies.proofs.Refused.{unkept}
use Rattle.author_calls.specs.Calls.{call_of}
use Rattle.author_calls.specs.Hooks.{is_changed, standing, HookRefused}
use Rattle.author_formulas.specs.Formulas.{Load, wait, loaded}
use Rattle.author_formulas.specs.Memos.{own_memo, first_or_kept_memo}
use Rattle.author_programs.specs.Came.{Came, came, reached}
use Rattle.author_programs.specs.Cells.{kept_cell}
use Rattle.author_programs.proofs.Steps.{on, at_done, at_hook_is_new, at_use_hook}
use Rattle.run_records.specs.Records.{world_of}
use Rattle.run_records.specs.declared.faults.CxFault.{CxFault}
use Rattle.run_records.specs.declared.faults.CxFault.TheVariants.{OutOfMemory}
use Rattle.rt_model.specs.Program.{Program, Call, hook_is_new, hook_stands}
use Rattle.rt_model.specs.World.{World}
use Rattle.rt_language.specs.Expressions.{Deriving, Minding, SourceTypes, Caller, AnotherCall, Evaluation, evaluate}
use Rattle.rt_language.specs.Formulas as meanings
use Rattle.rt_language.specs.Sequence.{go_on}
use Rattle.rt_language.specs.Statements as statements
use Rattle.rt_language.specs.Statements.{WentOn, WasRefused, binding, bound_cell, perform}
use Rattle.rt_language.specs.Syntax as language
use Rattle.rt_language.specs.Values.{Value, NoValue, CellValue}
use Rattle.lang_syntax.specs.Mirror.{expression_of, derived_of}
use Rattle.lang_syntax.specs.declared.derived.Derived.{Derived}
use Rattle.lang_syntax.specs.declared.derived.Derived.TheVariants as deriveds
use Rattle.lang_syntax.specs.declared.expression.Expression.{Expression}
use Rattle.lang_script.specs.Seen.{caller_of, ScriptCall}
use Rattle.lang_script.specs.declared.caller.Caller.TheVariants as callers
use Rattle.lang_script.specs.declared.caller.Frame as frames
use Rattle.lang_script.proofs.Statements.{follows-same, follows-bound}

-- what is derived, with these values of the variables
abbrev pub made_of : List Value → language.Derived → Deriving
made_of held d = record { held = held; derived = d }

only_is : (b : Bool) (p : Evaluation) → b ≡ true → meanings.only b p ≡ p
only_is true p h = refl
only_is false p h = cc

-- what is computed, in the frame of such a call
pub computed_is : (f : frames.Frame) (d : Deriving) (e : Expression)
    → f.by ≡ callers.Other → f.held ≡ d.held
    → expression_of e ≡ meanings.computed_of d.derived
    → meanings.looks true (expression_of e) ≡ true
    → meanings.computed_by d ≡ evaluate (caller_of f.by) f.held (expression_of e)
computed_is f d e by held is looks =
    only_is (meanings.looks true (meanings.computed_of d.derived)) (evaluate AnotherCall d.held (meanings.computed_of d.derived)) (ap (meanings.looks true) (sym is) ∙ looks)
    ∙ (λ i. evaluate AnotherCall (sym held i) (sym is i))
    ∙ ap (λ b. evaluate (caller_of b) f.held (expression_of e)) (sym by)

-- nothing is loaded for a memo
pub memo_loads : (held : List Value) (d : language.Derived) (x : Derived) (e : Expression) (key : Value) (step : ℕ)
    → derived_of x ≡ d → x ≡ deriveds.Value e → meanings.load_of held d key step ≡ wait
memo_loads held d x e key step of is = ap (λ y. meanings.load_of held y key step) (sym of ∙ ap derived_of is)

-- what is loaded for a resource
pub resource_loads : (held : List Value) (d : language.Derived) (x : Derived) (k : Expression) (n : ℕ) (e : Expression) (key : Value) (step : ℕ)
    → derived_of x ≡ d → x ≡ deriveds.Load k n e
    → meanings.load_of held d key step ≡ meanings.value_at (nat_lt step n) (meanings.plain_value (held ++ key ∷ []) (expression_of e))
resource_loads held d x k n e key step of is = ap (λ y. meanings.load_of held y key step) (sym of ∙ ap derived_of is)

pub ruleset loading = (memo_loads, resource_loads)

module _ (by : Caller) (f : statements.Frame) where
  -- the statement comes to its cell, which is bound
  pub p-UseDerived : (d : language.Derived) → perform by f (language.UseDerived d) ≡ go_on (meanings.derived_cell f.held d) (λ c. bound_cell f c)
  unfolding perform
  p-UseDerived d = refl

  -- by whether its hook is new
  pub p-derived : (d : language.Derived)
      → perform by f (language.UseDerived d)
      ≡ hook_is_new (λ new. go_on
      (first_or_kept_memo {K = SourceTypes} {F = Deriving} meanings.keeping (λ task. Minding task) NoValue (made_of f.held d) (meanings.is_loaded d) new)
      (λ c. bound_cell f c))
  unfolding perform go_on
  p-derived d = refl

-- the cell of a memo or of a resource, by which of both it is
pub cell_by : (before after : ScriptCall) (of : Deriving) (held : List Value) (d : language.Derived) (b : Bool) (cell : Option ℕ)
    → of ≡ made_of held d
    → meanings.is_loaded d ≡ b
    → Knows cell after (Comes before after (own_memo {K = SourceTypes} {F = Deriving} meanings.keeping (λ task. Minding task) NoValue of b) cell)
    → Knows cell after (Comes before after (meanings.derived_cell held d) cell)
cell_by before after of held d b cell made is h =
    subst (λ (x : Deriving). Knows cell after (Comes before after (own_memo {K = SourceTypes} {F = Deriving} meanings.keeping (λ task. Minding task) NoValue x (meanings.is_loaded d)) cell)) made
    (subst (λ (x : Bool). Knows cell after (Comes before after (own_memo {K = SourceTypes} {F = Deriving} meanings.keeping (λ task. Minding task) NoValue of x) cell)) (sym is) h)

module _ (w : World SourceTypes) (f : statements.Frame) (p : Program SourceTypes (Option ℕ)) (c d : Call SourceTypes) where
  -- a cell that is had is bound
  pub bound_some : (n : ℕ) (g : statements.Frame) → came w p c ≡ reached (Some n) d → g ≡ binding f (CellValue n)
      → came w (go_on p (λ x. bound_cell f x)) c ≡ reached (WentOn g) d
  bound_some n g h is =
      on w p (λ x. bound_cell f x) c
      ∙ ap (λ (x : Came SourceTypes (Option ℕ)). came w (bound_cell f x.answer) x.call) h
      ∙ at_done w (WentOn (binding f (CellValue n))) d
      ∙ ap (λ (x : statements.Frame). reached (WentOn x) d) (sym is)

  -- where none is had the body ends
  pub bound_none : came w p c ≡ reached None d → came w (go_on p (λ x. bound_cell f x)) c ≡ reached WasRefused d
  bound_none h =
      on w p (λ x. bound_cell f x) c
      ∙ ap (λ (x : Came SourceTypes (Option ℕ)). came w (bound_cell f x.answer) x.call) h
      ∙ at_done w WasRefused d

-- no cell is kept where another hook stands
pub kept-refused : {A : Type 0} (result : Result A CxFault) (before after : ScriptCall)
    → RefusedOther result
    → IfErr result (HookRefused 3 before after)
    → is_changed result ≡ not (hook_stands 3 (standing before))
    → after.fault ≢ Some OutOfMemory
    → came (world_of before.world) (kept_cell {K = SourceTypes} meanings.keeping 0) (call_of before) ≡ reached None (call_of after)
kept-refused result before after other err changed had = unkept result before after meanings.keeping 0 other err changed had

pub ruleset keeping_cells = (at_done, at_use_hook, kept-refused)

pub ruleset binding_cells = (on, at_done, bound_some, bound_none, p-UseDerived, follows-same, follows-bound)

pub ruleset first_derived = (at_hook_is_new, p-derived)
