-- What is said of an answer, once it is known which it is.
use Rattle.std.proofs.Common.{List, ◌∷◌, ◌≡◌, ◌≢◌, ap, subst, sym, ◌∙◌}
use Rattle.std.specs.Prelude.{Err, IfNone, IfOk, IfSome, None, Ok, OnErr, OnOk, Option, Result, Some}
use Rattle.rt_values.specs.declared.names.ScopeId.{ScopeId}
use Rattle.rt_model.specs.OneLog.{types}
use Rattle.rt_model.specs.World.{Application}
use Rattle.tree_marks.specs.Marks.{Mark}
use Rattle.run_places.specs.declared.side.Side.{Side}
use Rattle.run_met.specs.declared.met.Met.{Met}
use Rattle.run_met.specs.Mets.{mark_of}
use Rattle.rt_tree.specs.declared.patch.Patch.{Patch}
use Rattle.rt_tree.specs.declared.turning.Wrote.{Wrote}
use Rattle.rt_tree.specs.declared.turning.Wrote.TheVariants as w
use Rattle.rt_tree.specs.Served.{Written, marks_left}
use Rattle.rt_tree.specs.Wrote.{IfAsks}

-- where there is one
pub some_holds : {A : Type 0} (fact : A → Type 0) (o : Option A) (x : A) → o ≡ Some x → IfSome o fact → fact x
some_holds fact o x is h = subst (λ p. IfSome p fact) is h

-- where there is none
pub none_holds : {A : Type 0} (fact : Type 0) (o : Option A) → o ≡ None → IfNone o fact → fact
none_holds fact o is h = subst (λ p. IfNone p fact) is h

-- two things of one answer
pub both_ok : {T E : Type 0} (r : Result T E) (A B F : T → Type 0) → ((x : T) → A x → B x → F x) → IfOk r A → IfOk r B → IfOk r F
both_ok (Ok x) A B F f a b = f x a b
both_ok (Err e) A B F f a b = tt

module _ {P C Q V H T E L : Type 0} where
  -- a side that keeps its tree
  pub still_there : (before after : Side P C Q V H T E L) → before.output ≢ None → after.output ≡ before.output → after.output ≢ None
  still_there before after there same none = there (sym same ∙ none)

  -- a side that was given one thing more, or was left as it was, keeps its tree
  pub output_stays : {A F : Type 0} (r : Result A F) (before made after : Side P C Q V H T E L) → made.output ≡ before.output → OnOk r (after ≡ made) → OnErr r (after ≡ before)
      → after.output ≡ before.output
  output_stays (Ok x) before made after same ok err = ap (λ (s : Side P C Q V H T E L). s.output) ok ∙ same
  output_stays (Err e) before made after same ok err = ap (λ (s : Side P C Q V H T E L). s.output) err

module _ {P C Q V H T E L : Type 0} (met written : Met P C Q V H T E L) (before after : Patch P C Q V H T E L) (wrote : Wrote) (same : met ≡ written) where
  -- what a mark led to that is only written
  pub written_as : (one : Wrote) → wrote ≡ one → ((app : Application (types C Q V H T E L)) → Written app (mark_of written) before wrote after)
      → (app : Application (types C Q V H T E L)) → Written app (mark_of met) before one after
  written_as one is h app =
      subst (λ (m : Met P C Q V H T E L). Written app (mark_of m) before one after) (sym same)
      (subst (λ x. Written app (mark_of written) before x after) is (h app))

  -- where a scope is asked it stays in front
  pub asks_first : (scope : ScopeId) → wrote ≡ w.Asks scope → IfAsks wrote (marks_left after ≡ mark_of written ∷ marks_left before)
      → marks_left after ≡ mark_of met ∷ marks_left before
  asks_first scope is h =
      subst (λ x. IfAsks x (marks_left after ≡ mark_of written ∷ marks_left before)) is h
      ∙ ap (λ (m : Met P C Q V H T E L). mark_of m ∷ marks_left before) (sym same)
