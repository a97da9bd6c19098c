-- From what the looks see to what the definitions say of the states.
use Rattle.std.proofs.Common.{ℕ, List, [], ◌∷◌, ◌++◌, ◌≡◌, ap, sym, subst, ◌∙◌, map}
use Rattle.std.specs.Prelude.{Option, Some, None}
use Rattle.std.specs.Borrow.{Bor}
use mathlib.Core.Bool.{true≢false}
use Rattle.rt_edits.specs.declared.edit.Edit.{Edit}
use Rattle.rt_model.specs.Document.{Forest}
use Rattle.rt_model.specs.Document as doc
use Rattle.rt_model.specs.Caused as caused
use Rattle.rt_model.specs.Lists.{has}
use Rattle.rt_model.specs.OneLog.{types}
use Rattle.rt_model.specs.State as state
use Rattle.tree_edits.specs.Documents.{edit_of}
use Rattle.run_records.specs.declared.rest.Scope.{Scope}
use Rattle.run_work.specs.declared.item.Item.{Item}
use Rattle.run_shown.specs.declared.look.Look.{Look}
use Rattle.run_shown.specs.declared.look.Stood.{Stood}
use Rattle.run_shown.specs.Look.{ShowsScopes}
use Rattle.run_shown.specs.Stands.{ShowsRows, ShowsStood, Stands}
use Rattle.run_shown.specs.Touched.{Covers}
use Rattle.run_shown.specs.declared.way.Stop.{Stop}
use Rattle.run_shown.specs.declared.edited.Edited.{Edited}
use Rattle.run_shown.specs.declared.sides.Unit.{Unit as CodeUnit}
use Rattle.run_shown.specs.Reruns.{AreCaused, AreCausedUntil}
use Rattle.run_shown.specs.Units.{AreOnWay, Passes, Writes, unit_writes}
use Rattle.run_shown.specs.Ways.{way_of, look_way}
use Rattle.run_shown.proofs.UnitsAgree.{units_agree, way_agrees}
use Rattle.run_shown.proofs.Touches.{stays_by}
use Rattle.run_shown.proofs.Untouched.{untouched_nothing}

-- one edit that joins none
pub built_is : (edits before : List Edit) (one : Edit) (f : Forest) → before ≡ [] → edits ≡ before ++ one ∷ [] → edit_of one ≡ doc.AppendChildren 0 f
    → map edit_of edits ≡ doc.AppendChildren 0 f ∷ []
built_is edits before one f none joined is = ap (λ xs. map edit_of xs) (joined ∙ ap (λ xs. xs ++ one ∷ []) none) ∙ ap (λ e. e ∷ []) is

module _ {P C Q V H T E L : Type 0} where
  -- what a unit writes on a way
  pub on_way : (unit : CodeUnit P C Q V H T E L) (written : Edited) (n s : ℕ) → n ≡ (unit.before.now).scopes → Writes unit written (λ app. unit_writes app unit n s)
      → AreOnWay written.edits unit.before.now unit.after.now (way_of unit.way.now) unit.touched s
  unfolding unit_writes Passes
  on_way unit written n s is h app w v tests shows also out =
      ap (λ x. x.edits)
      (h app tests (λ m t apart. units_agree app unit.before.now unit.after.now w v shows also (way_of unit.way.now) m t ∙ out m t apart)
      ∙ ap (λ m. unit_writes app unit m s) is ∙ units_agree app unit.before.now unit.after.now w v shows also (way_of unit.way.now) (unit.before.now).scopes s)

  -- without a way it is what a rerun causes, where all scopes may have changed
  pub caused_is : (edits : List Edit) (rows : List (ℕ × Scope P C Q V H T E L)) (stood : List (ℕ × Option (Stood P C Q V H T E L))) (count : ℕ) (before after : Look P C Q V H T E L) (s : ℕ)
      → ShowsStood before rows stood count → ShowsRows after rows → AreOnWay edits before after [] None s → AreCaused edits rows stood count s
  caused_is edits rows stood count before after s was is h app w v tests stands many all single know =
      let shows : ShowsScopes before w = was w stands many in
      h app w v tests shows (is v all) (λ n t apart. absurd (true≢false apart)) ∙ ap (λ n. (caused.written_within app [] w v n s).edits) shows.count

  -- or where these may
  pub touched_is : (edits : List Edit) (rows : List (ℕ × Scope P C Q V H T E L)) (stood : List (ℕ × Option (Stood P C Q V H T E L))) (count : ℕ) (before after : Look P C Q V H T E L) (scopes : Bor (List ℕ)) (s : ℕ)
      → ShowsStood before rows stood count → ShowsRows after rows → Covers scopes.now stood after → AreOnWay edits before after [] (Some scopes) s → AreCaused edits rows stood count s
  touched_is edits rows stood count before after scopes s was is covers h app w v tests stands many all single know =
      let shows : ShowsScopes before w = was w stands many in
      let also : ShowsScopes after v = is v all in
      h app w v tests shows also (λ n t apart. untouched_nothing app tests w v single (λ u. has scopes.now u) (stays_by scopes.now stood after w v covers (subst (λ (xs : List (ℕ × state.Scope (types C Q V H T E L))). Stands stood w.scopes xs) (sym all) stands) also) know n t apart)
      ∙ ap (λ n. (caused.written_within app [] w v n s).edits) shows.count

  -- on the way to an item it is what was caused until then
  pub until_is : (edits : List Edit) (before after : Look P C Q V H T E L) (refused : Item P C Q V H T E L) (way : List Stop) (s : ℕ)
      → way_of way ≡ look_way after refused → AreOnWay edits before after (way_of way) None s → AreCausedUntil edits before after refused s
  until_is edits before after refused way s is h app w v tests shows also =
      h app w v tests shows also (λ n t apart. absurd (true≢false apart))
      ∙ (λ k. (caused.written_within app ((is ∙ way_agrees after v also refused) k) w v (shows.count k) s).edits)
