-- One more task, none, and the end.
use Rattle.std.proofs.Common.{rules, arith, ◌≡◌, ◌∙◌, List, ◌++◌, ◌∷◌, [], ap, map, sym}
use Rattle.std.specs.Prelude.{option_map}
use Rattle.run_reports.specs.Seen.{input_of}
use Rattle.lang_script.proofs.Fills.{map-append}
use Rattle.rt_values.specs.declared.names.Task.{Task}
use Rattle.show_html.specs.Paging.{wakes_in}
use Rattle.show_html.proofs.Wakes.{none_before, wake_all, wake_more, wake_none, with_front}
use Rattle.show_html.proofs.paged.wakes_of.Goals as goal

pub loop-input-init : goal.loop-input-init
loop-input-init c =
    let none : c.new-wakes.result ≡ [] = search rules in
    ap (λ (ts : List Task). with_front (map (λ task. task.0) ts) (wakes_in (map input_of c.args.inputs.now))) none
    ∙ none_before (wakes_in (map input_of c.args.inputs.now))

pub loop-input-preserved : goal.loop-input-preserved
loop-input-preserved c =
    let pushed : c.push.new.self ≡ c.loop-input.wakes ++ c.in-Some.task ∷ [] = search rules in
    wake_more (λ input. input_of input) c.args.inputs.now c.loop-input.input-index c.input-item.result (map (λ task. task.0) c.loop-input.wakes)
    (map (λ task. task.0) c.push.new.self) c.in-Some.task.0 _ (omega arith) c.input-item.is
    (ap (λ o. option_map (λ task. task.0) o) (sym c.in-Some.is) ∙ c.wake_of.ensures)
    (ap (λ ts. map (λ task. task.0) ts) pushed ∙ map-append (λ task. task.0) c.loop-input.wakes (c.in-Some.task ∷ []))
    c.loop-input.invariant

pub returns-in-None : goal.returns-in-None
returns-in-None c = record {
  wakes =
      wake_none (λ input. input_of input) c.args.inputs.now c.loop-input.input-index c.input-item.result _ _ (omega arith) c.input-item.is
      (ap (λ o. option_map (λ task. task.0) o) (sym c.in-None.is) ∙ c.wake_of.ensures) c.loop-input.invariant;
}

pub returns : goal.returns
returns c = record {
  wakes = wake_all (λ input. input_of input) c.args.inputs.now c.loop-input.input-index _ _ (omega arith) c.loop-input.invariant;
}
