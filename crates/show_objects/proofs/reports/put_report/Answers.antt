-- Its number, its counts, whether the default goes on, and its log.
use Rattle.std.proofs.Common.{List, [], ◌∷◌, ◌++◌, map, codes, ap, ◌∙◌}
use Rattle.json.specs.Json.{array}
use Rattle.json.specs.Token.{Token, begin_object, key}
use Rattle.json.specs.Tree.{json_tokens}
use Rattle.run_reports.specs.Seen.{entry_of}
use Rattle.run_reports.specs.declared.entry.Entry.{Entry}
use Rattle.show_objects.proofs.Onward.{counted_tokens, ended, flag_tokens, onward}
use Rattle.show_objects.specs.Objects.{entry_items}
use Rattle.show_objects.proofs.reports.put_report.Goals as goal

pub returns : goal.returns
returns c =
    let begun : List Token = begin_object ∷ [] in
    let number = counted_tokens (codes "report") c.args.number in
    let units = counted_tokens (codes "units") c.args.report.now.units in
    let bodies = counted_tokens (codes "bodies") c.args.report.now.bodies in
    let edits = counted_tokens (codes "edits") c.args.report.now.edits in
    let goes_on = flag_tokens (codes "default") c.args.report.now.default_enabled in
    let name = key (codes "log") ∷ [] in
    let log = json_tokens (array (entry_items (map entry_of c.args.report.now.log))) in
    let from_log = log ++ ended in
    let from_name = name ++ from_log in
    let from_goes_on = goes_on ++ from_name in
    let from_edits = edits ++ from_goes_on in
    let from_bodies = bodies ++ from_edits in
    let from_units = units ++ from_bodies in
    let from_number = number ++ from_units in
    record {
      report =
          onward c.close.result c.close.new.self c.begin.new.self c.args.object.now begun from_number
          c.in_ok-begin.ensures.begins
          (onward c.close.result c.close.new.self c.counted.new.self c.begin.new.self number from_units
          c.in_ok-counted.ensures.counted
          (onward c.close.result c.close.new.self c.counted-2.new.self c.counted.new.self units from_bodies
          c.in_ok-counted-2.ensures.counted
          (onward c.close.result c.close.new.self c.counted-3.new.self c.counted-2.new.self bodies from_edits
          c.in_ok-counted-3.ensures.counted
          (onward c.close.result c.close.new.self c.counted-4.new.self c.counted-3.new.self edits from_goes_on
          c.in_ok-counted-4.ensures.counted
          (onward c.close.result c.close.new.self c.flag.new.self c.counted-4.new.self goes_on from_name
          c.in_ok-flag.ensures.flag
          (onward c.close.result c.close.new.self c.key.new.self c.flag.new.self name from_log
          c.in_ok-key.ensures.key
          (onward c.close.result c.close.new.self c.put_log.new.object c.key.new.self log ended
          (c.in_ok-put_log.ensures.log
          ∙ ap (λ (own : List Entry). c.key.new.self ++ json_tokens (array (entry_items (map entry_of own)))) c.as_slice.ensures.items)
          c.close.ensures.ends)))))));
    }
