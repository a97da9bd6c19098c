-- Each turn of the loop reads one more word, or refuses it.
use Rattle.std.proofs.Common.{rules, ◌≡◌, ◌∙◌, ◌+◌, List, [], ◌∷◌, ◌++◌, map, sym, ap, subst}
use Rattle.std.proofs.lemmas.List.{map-append}
use Rattle.serde_json.specs.View.{view, items_view}
use Rattle.rt_model.specs.Replay.{Entry}
use Rattle.run_reports.specs.Seen.{entry_of}
use Rattle.show_logs.specs.Written.{WritesEntry, AreWritten}
use Rattle.show_logs.proofs.Items.{SoFar, none_read, one_read, one_refused, all_read}
use Rattle.show_logs.proofs.words.entries.Goals as goal

pub loop-value-init : goal.loop-value-init
loop-value-init c = search (rules, none_read WritesEntry c.args.values.now)

pub returns-in_default : goal.returns-in_default
returns-in_default c =
    let refused : (e : Entry) → WritesEntry (view c.value-item.result) e → ⊥ = search rules in
    record {
      entries =
          one_refused WritesEntry _ c.loop-value.value-index c.value-item.result _ (search rules) (search rules) c.loop-value.invariant refused;
    }

pub loop-value-preserved : goal.loop-value-preserved
loop-value-preserved c =
    let read : WritesEntry (view c.value-item.result) (entry_of c.in-Some.one) = search rules in
    let more =
    one_read WritesEntry _ c.loop-value.value-index c.value-item.result _ (entry_of c.in-Some.one) (search rules) (search rules) c.loop-value.invariant
    read in
    let pushed : c.push.new.self.items ≡ c.loop-value.read.items ++ c.in-Some.one ∷ [] = search rules in
    let log : map entry_of c.push.new.self.items ≡ map entry_of c.loop-value.read.items ++ entry_of c.in-Some.one ∷ [] =
    ap (λ es. map entry_of es) pushed ∙ map-append entry_of c.loop-value.read.items (c.in-Some.one ∷ []) in
    subst (λ (l : List Entry). SoFar WritesEntry c.args.values.now (c.loop-value.value-index + 1) l) (sym log) more

pub returns : goal.returns
returns c = record {
  entries = subst (λ es. AreWritten WritesEntry (items_view c.args.values.now) (map entry_of es)) (sym c.from_vec.ensures.items)
      (all_read WritesEntry _ c.loop-value.value-index _ (search rules) c.loop-value.invariant);
}
