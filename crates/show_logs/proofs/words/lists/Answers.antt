-- Each turn of the loop reads one more list, or refuses it.
use Rattle.std.proofs.Common.{rules, ◌≡◌, ◌∙◌, ◌+◌, List, [], ◌∷◌, ◌++◌, map, sym, ap, subst}
use Rattle.std.proofs.lemmas.List.{map-append}
use Rattle.serde_json.specs.View.{view, items_view}
use Rattle.rt_model.specs.Replay.{Entry}
use Rattle.run_reports.specs.Seen.{entry_of}
use Rattle.show_logs.specs.Written.{WritesList, AreWritten}
use Rattle.show_logs.proofs.Items.{SoFar, none_read, one_read, one_refused, all_read}
use Rattle.show_logs.proofs.words.lists.Goals as goal

pub loop-value-init : goal.loop-value-init
loop-value-init c = search (rules, none_read WritesList c.args.values.now)

pub returns-in_default : goal.returns-in_default
returns-in_default c =
    let refused : (es : List Entry) → WritesList (view c.value-item.result) es → ⊥ = search rules in
    record {
      lists =
          one_refused WritesList _ c.loop-value.value-index c.value-item.result _ (search rules) (search rules) c.loop-value.invariant refused;
    }

pub loop-value-preserved : goal.loop-value-preserved
loop-value-preserved c =
    let read : WritesList (view c.value-item.result) (map entry_of c.in-Some.one) = search rules in
    let more =
    one_read WritesList _ c.loop-value.value-index c.value-item.result _ (map entry_of c.in-Some.one) (search rules) (search rules) c.loop-value.invariant
    read in
    let pushed : c.push.new.self.items ≡ c.loop-value.read.items ++ c.in-Some.one ∷ [] = search rules in
    let log : map (map entry_of) c.push.new.self.items ≡ map (map entry_of) c.loop-value.read.items ++ map entry_of c.in-Some.one ∷ [] =
    ap (λ es. map (map entry_of) es) pushed ∙ map-append (map entry_of) c.loop-value.read.items (c.in-Some.one ∷ []) in
    subst (λ (l : List (List Entry)). SoFar WritesList c.args.values.now (c.loop-value.value-index + 1) l) (sym log) more

pub returns : goal.returns
returns c = record {
  lists = subst (λ es. AreWritten WritesList (items_view c.args.values.now) (map (map entry_of) es)) (sym c.from_vec.ensures.items)
      (all_read WritesList _ c.loop-value.value-index _ (search rules) c.loop-value.invariant);
}
