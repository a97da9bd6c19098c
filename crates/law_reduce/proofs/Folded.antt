-- Report by report, where cells neither come nor go, the values are those of the fold.
use Rattle.std.proofs.Common.{ℕ, List, [], ◌∷◌, ◌≡◌, refl, sym, ap, ◌∙◌}
use Rattle.std.specs.Prelude.{Option, Some, None}
use Rattle.rt_model.specs.Lists.{at}
use Rattle.rt_model.specs.Tree.{Types}
use Rattle.rt_model.specs.State.{CellRow, State}
use Rattle.rt_model.specs.Replay.{Entry, Input}
use Rattle.rt_model.specs.Told.{Told}
use Rattle.rt_model.specs.Reports.{Report}
use Rattle.author_programs.specs.Pages.{Pages}
use Rattle.law_pages.specs.Updates.{Model, model_of}
use Rattle.law_pages.proofs.Listening.{at_values}
use Rattle.law_reduce.specs.Reduces.{reduce, reduced, Reduces, AllReduce, EachReduces}
use Rattle.law_reduce.specs.Folds.{folded, last_state, KeepsCells, AllKeepCells, FoldsTo, PagesReduce}
use Rattle.law_reduce.proofs.Alike.{Alike, reduce_alike, reduce_none}
use Rattle.law_reduce.proofs.Reports.{reports_reduce}

module _ {K : Types} (a : Pages K) where
  -- no value where no cell is
  none_there : (w : State K) (n : ℕ) → at w.cells n ≡ None → at (model_of w) n ≡ None
  none_there w n h = at_values w.cells n ∙ ap (λ (o : Option (CellRow K)). elim o as (λ z. Option K.Value) [ None ↦ None | Some d ↦ Some d.value ]) h

  -- after one report
  one_report : (w v : State K) (input : Input K) (log : List Entry) → Reduces a w input log v → KeepsCells w log v → Alike (model_of v) (reduced a w input)
  one_report w v input log reduces keeps n = on (at w.cells n) refl
    where
      on : (o : Option (CellRow K)) → at w.cells n ≡ o → at (model_of v) n ≡ at (reduced a w input) n
      on None e = none_there v n (keeps.none_comes n e) ∙ sym (reduce_none a w input (model_of w) n (none_there w n e))
      on (Some row) e = reduces n row e (keeps.none_goes n row e)

  reports_fold : (w : State K) (inputs : List (Input K)) (reports : List Report) (told : List (Told K)) (m : Model K) → Alike (model_of w) m
      → AllReduce a w inputs reports told
      → AllKeepCells w reports told
      → Alike (model_of (last_state w told)) (folded a w inputs told m)
  reports_fold w [] [] [] m alike each keeps = alike
  reports_fold w [] [] (t ∷ ts) m alike each keeps = absurd each
  reports_fold w [] (r ∷ rs) told m alike each keeps = absurd each
  reports_fold w (input ∷ inputs) [] told m alike each keeps = absurd each
  reports_fold w (input ∷ inputs) (r ∷ rs) [] m alike each keeps = absurd each
  reports_fold w (input ∷ inputs) (r ∷ rs) (t ∷ ts) m alike each keeps =
      let v : State K = (t.machine).state in
      let now : Alike (model_of v) (reduce a w input m) = λ n. one_report w v input r.log each.0 keeps.0 n ∙ reduce_alike a w input (model_of w) m alike n in
      reports_fold v inputs rs ts (reduce a w input m) now each.1 keeps.1

  folds_to : (inputs : List (Input K)) (reports : List Report) (told : List (Told K)) → EachReduces a inputs reports told → FoldsTo a inputs reports told
  folds_to inputs [] told each = absurd each
  folds_to inputs (r ∷ rs) [] each = absurd each
  folds_to inputs (r ∷ rs) (t ∷ ts) each = λ keeps n. reports_fold (t.machine).state inputs rs ts (model_of (t.machine).state) (λ c. refl) each keeps n

pub pages_reduce : (K : Types) → PagesReduce K
pages_reduce K k a props inputs limits taken reports ran = folds_to a inputs reports ran.told (reports_reduce K k a props inputs limits taken reports ran)
