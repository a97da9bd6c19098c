-- What a call made of the values stands after one that takes unit after unit, and shows where that one settles.
use Rattle.std.proofs.Common.{ℕ, true, List, [], ◌∷◌, ◌≡◌, refl, sym, ap, ◌∙◌, subst}
use Rattle.std.specs.Prelude.{Option, Some, None}
use Rattle.std.specs.List.{AllByRecursion}
use Rattle.rt_model.specs.Current.{AllCurrent}
use Rattle.rt_model.specs.Lists.{at}
use Rattle.rt_model.specs.Replay.{Entry, Machine}
use Rattle.rt_model.specs.State.{CellRow, LastCall, Scope, State}
use Rattle.rt_model.specs.Tree.{Types}
use Rattle.law_behavior.specs.Along.{NoneRemoves}
use Rattle.law_behavior.specs.Doms.{Renders, Settles, left_by}
use Rattle.law_behavior.proofs.Doms.{settled_hold}
use Rattle.author_programs.specs.Cells.{Keeping}
use Rattle.author_programs.specs.Pages.{Pages, meaning_of_pages}
use Rattle.author_programs.specs.Present.{PagesShow}
use Rattle.author_programs.proofs.Present.{current-pages-show}
use Rattle.law_pages.specs.Updates.{Model, model_of}
use Rattle.law_pages.proofs.Listening.{at_values}
use Rattle.law_reduce.specs.Shows.{Stays}
use Rattle.law_reduce.proofs.Shown.{reads_now}
use Rattle.law_kept.specs.Calls.{CellsStay, Makes}
use Rattle.law_kept.specs.Settles.{CallsReduce, Leaves, SettledShow}
use Rattle.law_kept.proofs.Rests.{Rests, left_rests}
use Rattle.law_kept.proofs.Units.{call_stays, calls_keep_cells}

module _ {K : Types} where
  -- the value in a row that was found
  abbrev value_in : Option (CellRow K) → Option K.Value
  value_in found = elim found as (λ z. Option K.Value) [ None ↦ None | Some d ↦ Some d.value ]

  -- cells that stay have the values that were made
  leaves : (w u v : State K) (m : Model K) (log : List Entry) → Makes w m u → CellsStay u log v → Leaves w log m v
  leaves w u v m log made stay n row there stays =
      let o = made.owners n row there in
      let kept : at v.cells n ≡ Some o.0 = stay n o.0 o.1 (subst (λ (s : ℕ). NoneRemoves s log) (sym o.2) stays) in
      at_values v.cells n
      ∙ ap (λ (found : Option (CellRow K)). value_in found) (kept ∙ sym o.1)
      ∙ sym (at_values u.cells n)
      ∙ ap (λ (x : Model K). at x n) made.values

  all_read : (w v : State K) (m : Model K) (log : List Entry) → Leaves w log m v → (ns : List ℕ) → AllByRecursion (λ (n : ℕ). Stays w log n) ns
      → AllByRecursion (λ (n : ℕ). at (model_of v) n ≡ at m n) ns
  all_read w v m log h [] stay = tt
  all_read w v m log h (n ∷ ns) stay = (h n (stay.0).row (stay.0).there (stay.0).stays, all_read w v m log h ns stay.1)

pub calls_reduce : (K : Types) → CallsReduce K
calls_reduce K k a limits w u m log edits v made =
    let keeps = calls_keep_cells K k a limits u log edits v in (
      λ until r. leaves w u (left_by until v.state) m log made (keeps.0 until r),
      λ r. leaves w u (left_by Renders v.state) m log made (keeps.1 r),
    )

pub settled_show : (K : Types) → SettledShow K
settled_show K k a lawful limits props w u m log edits v led made r =
    let current : AllCurrent (meaning_of_pages k a) v.state = (settled_hold (meaning_of_pages k a) lawful limits props u log edits v led r).0 in
    let shows : PagesShow k a v.state = current-pages-show K k a v.state current in
    let rests : Rests v.state (left_by Settles v.state) = left_rests Settles v.state in
    let here : Leaves w log m v.state = leaves w u v.state m log made (call_stays k a limits u log r.last v r.so r.machine) in
    λ s x last c p own there called component kept same fine.
    shows s x last c p own
    (ap (λ (es : List (ℕ × Scope K)). at es s) (sym rests.scopes) ∙ there)
    (ap (λ (es : List (ℕ × LastCall K)). at es s) (sym rests.calls) ∙ called)
    component kept same
    ∙ ap (λ (vs : List (Option K.Value)). Some ((a.page c p).shows last.given.given.scope own vs))
    (reads_now k a v.state last m ((a.page c p).reads own) (all_read w v.state m log here ((a.page c p).reads own) fine))
