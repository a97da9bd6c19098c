-- What one mark writes, and what it leads to.
use Rattle.std.proofs.Common.{List, [], ◌≡◌, Bool, true, false, map, refl, sym, ap, ◌∙◌}
use Rattle.std.specs.Prelude.{None, if◌then◌else◌}
use Rattle.std.proofs.lemmas.Bool.{true≢false}
use Rattle.rt_model.specs.OneLog.{types}
use Rattle.rt_model.specs.World.{Application}
use Rattle.rt_values.specs.declared.names.ScopeId.{ScopeId}
use Rattle.rt_edits.specs.declared.edit.Edit.{Edit}
use Rattle.tree_edits.specs.Documents.{edit_of}
use Rattle.tree_marks.specs.Marks.{Mark}
use Rattle.run_met.specs.declared.met.Met.{Met}
use Rattle.run_met.specs.Mets.{mark_of, marks_of}
use Rattle.rt_tree.specs.declared.patch.Patch.{Patch}
use Rattle.rt_tree.specs.declared.turning.Wrote.{Wrote}
use Rattle.rt_tree.specs.declared.turning.Wrote.TheVariants as w
use Rattle.rt_tree.specs.Asks.{asked_at}
use Rattle.rt_tree.specs.Awaits.{no_answer}
use Rattle.rt_tree.specs.Owns.{own_writes}
use Rattle.rt_tree.specs.Served.{Keeps, Silent, Written, both_now, writes_now}
use Rattle.rt_tree.specs.Wrote.{FirstOf, IfAsks, IfAsksFor, IfNothing, UnlessAsks, wrote_awaits}

-- by what a mark led to
pub unless_asks : {A : Type 0} (wrote : Wrote) → A → UnlessAsks wrote A
unless_asks (w.Asks scope) a = tt
unless_asks (w.First edit) a = a
unless_asks w.Nothing a = a

pub if_nothing : {A : Type 0} (wrote : Wrote) → A → IfNothing wrote A
if_nothing (w.Asks scope) a = tt
if_nothing (w.First edit) a = tt
if_nothing w.Nothing a = a

-- where edits were kept, but for the first, no scope is asked
pub kept_awaits : (edits rest : List Edit) (wrote : Wrote) → FirstOf edits wrote rest → no_answer ≡ wrote_awaits wrote
kept_awaits edits rest (w.Asks scope) h = absurd h
kept_awaits edits rest (w.First edit) h = refl
kept_awaits edits rest w.Nothing h = refl

-- so the mark goes
pub kept_front : (A : Type 0) (edits rest : List Edit) (wrote : Wrote) → FirstOf edits wrote rest → IfAsks wrote A
kept_front A edits rest (w.Asks scope) h = absurd h
kept_front A edits rest (w.First edit) h = tt
kept_front A edits rest w.Nothing h = tt

-- and none is asked
pub kept_asks : (fact : ScopeId → Type 0) (edits rest : List Edit) (wrote : Wrote) → FirstOf edits wrote rest → IfAsksFor wrote fact
kept_asks fact edits rest (w.Asks scope) h = absurd h
kept_asks fact edits rest (w.First edit) h = tt
kept_asks fact edits rest w.Nothing h = tt

-- and none is left where there was none
pub kept_spent : (edits rest : List Edit) (wrote : Wrote) → FirstOf edits wrote rest → IfNothing wrote (rest ≡ [])
kept_spent edits rest (w.Asks scope) h = tt
kept_spent edits rest (w.First edit) h = tt
kept_spent edits rest w.Nothing h = h.1

module _ {P C Q V H T E L : Type 0} where
  -- where the block isn't shown nothing is written
  pub hidden : (app : Application (types C Q V H T E L)) (p : Patch P C Q V H T E L) (m : Mark (types C Q V H T E L)) → p.shown ≡ false → writes_now app p m ≡ []
  hidden app p m is_hidden = ap (λ (b : Bool). if b then own_writes app (both_now p) m else []) is_hidden

  -- where it is shown each mark writes its own
  pub shown_writes : (app : Application (types C Q V H T E L)) (p : Patch P C Q V H T E L) (m : Mark (types C Q V H T E L)) → p.shown ≡ true
      → writes_now app p m ≡ own_writes app (both_now p) m
  shown_writes app p m is_shown = ap (λ (b : Bool). if b then own_writes app (both_now p) m else []) is_shown

  pub nothing_written : (app : Application (types C Q V H T E L)) (p : Patch P C Q V H T E L) (m : Mark (types C Q V H T E L)) → own_writes app (both_now p) m ≡ []
      → writes_now app p m ≡ []
  nothing_written app p m none = by p.shown refl
    where
      by : (b : Bool) → p.shown ≡ b → writes_now app p m ≡ []
      by true is = shown_writes app p m is ∙ none
      by false is = hidden app p m is

  -- a mark that writes nothing by itself
  pub quiet : (met x : Met P C Q V H T E L) (before after : Patch P C Q V H T E L) → met ≡ x
      → ((app : Application (types C Q V H T E L)) → own_writes app (both_now before) (mark_of x) ≡ [])
      → asked_at before (mark_of x) ≡ None
      → after.plan.items ≡ before.plan.items → after.edits.items ≡ []
      → (app : Application (types C Q V H T E L)) → Silent app (mark_of met) before after
  quiet met x before after is none unasked plan spent app =
      record {
        marks = ap (λ (xs : List (Met P C Q V H T E L)). marks_of xs) plan;
        quiet = nothing_written app before (mark_of met) (ap (λ (y : Met P C Q V H T E L). own_writes app (both_now before) (mark_of y)) is ∙ none app);
        spent = ap (λ (es : List Edit). map edit_of es) spent;
        known = λ is_shown. ap (λ (y : Met P C Q V H T E L). asked_at before (mark_of y)) is ∙ unasked;
      }

  -- a mark at which nothing is written since the block isn't shown
  pub unseen : (met : Met P C Q V H T E L) (before after : Patch P C Q V H T E L) → before.shown ≡ false → after.plan.items ≡ before.plan.items → after.edits.items ≡ []
      → (app : Application (types C Q V H T E L)) → Silent app (mark_of met) before after
  unseen met before after is_hidden plan spent app =
      record {
        marks = ap (λ (xs : List (Met P C Q V H T E L)). marks_of xs) plan;
        quiet = hidden app before (mark_of met) is_hidden;
        spent = ap (λ (es : List Edit). map edit_of es) spent;
        known = λ is_shown. absurd (true≢false (sym is_shown ∙ is_hidden));
      }

  -- a mark whose edits were kept, but for the first
  pub kept : (met : Met P C Q V H T E L) (before after : Patch P C Q V H T E L) (edits : List Edit) (wrote : Wrote) → before.shown ≡ true
      → ((app : Application (types C Q V H T E L)) → map edit_of edits ≡ own_writes app (both_now before) (mark_of met))
      → asked_at before (mark_of met) ≡ None
      → FirstOf edits wrote after.edits.items → after.plan.items ≡ before.plan.items
      → (app : Application (types C Q V H T E L)) → Written app (mark_of met) before wrote after
  kept met before after edits (w.Asks scope) is_shown writes unasked first plan app = absurd first
  kept met before after edits (w.First edit) is_shown writes unasked first plan app =
      record {
        marks = ap (λ (xs : List (Met P C Q V H T E L)). marks_of xs) plan;
        first = shown_writes app before (mark_of met) is_shown ∙ sym (writes app) ∙ ap (λ (es : List Edit). map edit_of es) first;
        known = λ shown. unasked;
      }
  kept met before after edits w.Nothing is_shown writes unasked first plan app =
      record {
        marks = ap (λ (xs : List (Met P C Q V H T E L)). marks_of xs) plan;
        quiet = shown_writes app before (mark_of met) is_shown ∙ sym (writes app) ∙ ap (λ (es : List Edit). map edit_of es) first.0;
        spent = ap (λ (es : List Edit). map edit_of es) first.1;
        known = λ shown. unasked;
      }

  -- all that a patch has of both blocks stays where its other fields change alone
  pub stays_as : (before after : Patch P C Q V H T E L) → after.old ≡ before.old → after.new.side ≡ before.new.side → after.given ≡ before.given → after.shown ≡ before.shown → Keeps before after
  stays_as before after old new given shown = record { old = old; new = new; given = given; shown = shown }
