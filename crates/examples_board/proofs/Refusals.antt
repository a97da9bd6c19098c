-- A clean-up that is kept, and one that is refused; an error that none is made of.
use Rattle.std.proofs.Common.{ℕ, Bool, true, false, ◌≡◌, ◌⊎◌, inl, inr, refl, sym, ◌∙◌, ap, not}
use Rattle.std.specs.Prelude.{◌≢◌, ◌↔◌, IsTrue, Option, Some, None, Result, Ok, Err, IfErr, MatchOption, OnOk, codes, if◌then◌else◌}
use Rattle.rt_author.proofs.Refused.{refused-hook}
use Rattle.rt_author.proofs.Rules.{at_captured, at_done, at_use_effect}
use Rattle.rt_author.specs.CapturedError.{CapturedError}
use Rattle.rt_author.specs.Comes.{RefusedOther}
use Rattle.rt_author.specs.Counter.TheVariants as counters
use Rattle.rt_author.specs.CxFault.{CxFault}
use Rattle.rt_author.specs.CxFault.TheVariants.{IdsExhausted, OutOfMemory}
use Rattle.rt_author.specs.Hooks.{HookRefused, is_changed, standing}
use Rattle.rt_author.specs.Program as program
use Rattle.rt_author.specs.Program.{drew_error, faults, hook_stands, hooked}
use Rattle.rt_author.specs.Steps.{DrawsNone, IsTold, first_refusal}
use Rattle.rt_author.specs.Tree as model
use Rattle.rt_author.specs.Turn.{Call}
use Rattle.rt_author.specs.Words.{Element, NoData, call_of, came, clean_up_kind, done, placeholder_tree, reached, rendered, tree_of, world_of}
use Rattle.rt_author.specs.World.{CounterAtEnd, Errors, Hook, HookEffect, World, at_end}
use Rattle.examples_board.specs.Meaning.{BoardTree, BoardTypes, Props, cleaned, refused, stood, with_error}
use Rattle.examples_board.specs.declared.parts.Cells.{Cells}
use Rattle.examples_board.specs.declared.parts.Component.{Component}
use Rattle.examples_board.specs.declared.parts.Loading.{Loading}

-- a call at work
abbrev pub AtWork : Type 0 → Type 0
AtWork P = Call P Component Props ℕ Cells Loading ℕ NoData

-- what keeping a clean-up comes to, where a hook of its kind stands or none does
kept_as : (w : World BoardTypes) (call : program.Call BoardTypes) (log : ℕ) (o : Option (Hook BoardTypes)) (b : Bool) (after : program.Call BoardTypes)
    → hook_stands clean_up_kind o ≡ b
    → came w (cleaned log) call ≡ came w (done (stood (hook_stands clean_up_kind o))) (hooked w call clean_up_kind (HookEffect clean_up_kind log) o)
    → hooked w call clean_up_kind (HookEffect clean_up_kind log) o ≡ after
    → came w (cleaned log) call ≡ reached (stood b) after
kept_as w call log o b after is meant ended =
    meant
    ∙ at_done w (stood (hook_stands clean_up_kind o)) (hooked w call clean_up_kind (HookEffect clean_up_kind log) o)
    ∙ ap (λ (x : Bool). reached (stood x) (hooked w call clean_up_kind (HookEffect clean_up_kind log) o)) is
    ∙ ap (λ (d : program.Call BoardTypes). reached (stood b) d) ended

-- one that isn't changed stands, and one that is changed doesn't
stands : (b : Bool) → false ≡ not b → b ≡ true
stands true h = refl
stands false h = cc

stands_not : (b : Bool) → true ≡ not b → b ≡ false
stands_not true h = cc
stands_not false h = refl

-- it is kept
pub cleaned_kept : {P : Type 0} (result : Result (Unit {0}) CxFault) (before after : AtWork P) (log : ℕ)
    → OnOk result (call_of after ≡ hooked (world_of before.world) (call_of before) clean_up_kind (HookEffect clean_up_kind log) (standing before))
    → is_changed result ≡ not (hook_stands clean_up_kind (standing before))
    → result ≡ Ok tt
    → came (world_of before.world) (cleaned log) (call_of before) ≡ reached (Some tt) (call_of after)
cleaned_kept (Ok u) before after log call changed is =
    kept_as (world_of before.world) (call_of before) log (standing before) true (call_of after)
    (stands (hook_stands clean_up_kind (standing before)) changed)
    (at_use_effect (world_of before.world) clean_up_kind log (λ b. done (stood b)) (call_of before))
    (sym call)
cleaned_kept (Err fault) before after log call changed is = cc

-- it is refused
pub cleaned_refused : {P : Type 0} (result : Result (Unit {0}) CxFault) (before after : AtWork P) (log : ℕ)
    → RefusedOther result
    → IfErr result (HookRefused clean_up_kind before after)
    → is_changed result ≡ not (hook_stands clean_up_kind (standing before))
    → after.fault ≢ Some OutOfMemory
    → came (world_of before.world) (cleaned log) (call_of before) ≡ reached None (call_of after)
cleaned_refused result before after log other err changed had =
    let hook : Hook BoardTypes = HookEffect clean_up_kind log in
    let r = refused-hook result before after clean_up_kind hook other err changed had in
    kept_as (world_of before.world) (call_of before) log (standing before) false (call_of after)
    (stands_not (hook_stands clean_up_kind (standing before)) r.0)
    (at_use_effect (world_of before.world) clean_up_kind log (λ b. done (stood b)) (call_of before))
    r.1

pub ruleset cleaning = (cleaned_kept, cleaned_refused)

-- where nothing is answered, the call was refused for another cause than want of memory
pub unanswered : {A : Type 0} (result : Result A CxFault) (o : Option A)
    → MatchOption o (RefusedOther result) (λ a. result ≡ Ok a)
    → o ≡ None
    → RefusedOther result
unanswered result None known is = known
unanswered result (Some a) known is = cc

-- of two causes it is the other one
other_cause : (fault : CxFault) → fault ≢ OutOfMemory → (fault ≡ OutOfMemory) ⊎ (fault ≡ IdsExhausted counters.Errors) → fault ≡ IdsExhausted counters.Errors
other_cause fault other (inl is) = absurd (other is)
other_cause fault other (inr is) = is

-- a placeholder is answered
abbrev pub no_words : BoardTree
no_words = placeholder_tree

abbrev pub shown_nothing : Element BoardTypes
shown_nothing = rendered (tree_of no_words)

-- the words of an error, with its number
abbrev caught : ℕ → model.CapturedError
caught serial = record { serial = serial; text = codes "no news yet" }

-- where errors have no number left, none is made
none_caught : (w : World BoardTypes) (call after : program.Call BoardTypes)
    → at_end call.next.errors ≡ true
    → after ≡ faults call (CounterAtEnd Errors)
    → came w refused call ≡ reached shown_nothing after
none_caught w call after full told =
    at_captured w (codes "no news yet") (λ e. with_error e) call
    ∙ ap (λ (b : Bool). if b
    then came w (with_error None) (faults call (CounterAtEnd Errors))
    else came w (with_error (Some (caught call.next.errors))) (drew_error call)) full
    ∙ at_done w shown_nothing (faults call (CounterAtEnd Errors))
    ∙ ap (λ (d : program.Call BoardTypes). reached shown_nothing d) (sym told)

module _ {P : Type 0} where
  -- so it is where a number was wanted and the call was refused
  pub uncaught : (result : Result CapturedError CxFault) (before after : AtWork P)
      → RefusedOther result
      → ((result ≡ Err (IdsExhausted counters.Errors)) ↔ IsTrue (at_end before.next.errors))
      → IfErr result (DrawsNone counters.Errors before after)
      → IfErr result (IsTold (faults (call_of before) (CounterAtEnd Errors)) before after)
      → after.fault ≢ Some OutOfMemory
      → came (world_of before.world) refused (call_of before) ≡ reached shown_nothing (call_of after)
  uncaught (Ok e) before after other end err told had = absurd other
  uncaught (Err fault) before after other end err told had =
      let is : fault ≡ IdsExhausted counters.Errors = other_cause fault other err.0 in
      let full : at_end before.next.errors ≡ true = end.0 (ap Err is) in
      let free : before.fault ≢ Some OutOfMemory =
      λ lost. had (ap (λ (c : AtWork P). c.fault) err.1 ∙ ap (λ (o : Option CxFault). first_refusal o fault) lost) in
      none_caught (world_of before.world) (call_of before) (call_of after) full (told other free)
