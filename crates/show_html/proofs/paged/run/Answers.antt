-- What is put is the text of a page, or a front of it.
use Rattle.std.proofs.Common.{rules, ◌≡◌, Some, None, inr, map, refl}
use Rattle.std.proofs.lemmas.Result.{err_from_is_err_and}
use Rattle.lang_syntax.specs.Mirror.{source_of}
use Rattle.run_reports.specs.Seen.{input_of}
use Rattle.rt_served.specs.declared.refusal.ServeFault.TheVariants as faults
use Rattle.show_html.specs.Paging.{AreWakes}
use Rattle.show_html.proofs.Pagings.{cause_as, ended_page, front_part, line_cut, line_put, page_done, part_as, part_front, told_line, whole_part}
use Rattle.show_html.proofs.Wakes.{wakes_said}
use Rattle.show_html.proofs.paged.run.Goals as goal

-- other inputs: nothing is put
pub returns-in_default : goal.returns-in_default
returns-in_default g c =
    let same : map input_of c.as_slice.result.now ≡ map input_of c.in_ok-script.field-0.inputs = search rules in
    record {
      pages = (
        wakes_said (source_of c.args.described) c.in_ok-script.field-0.script c.in_ok-script.field-0.props (map input_of c.in_ok-script.field-0.inputs)
            (map input_of c.as_slice.result.now) (λ task. task.0) _ None c.in_ok-script.ensures.made same c.in_ok-wakes.ensures.wakes
            c.in_default.is,
        refl,
      );
    }

-- all is served
pub returns-in-Ok : goal.returns-in-Ok
returns-in-Ok g c =
    let same : map input_of c.as_slice.result.now ≡ map input_of c.in_ok-script.field-0.inputs = search rules in
    let wakes : AreWakes (source_of c.args.described) (map (λ task. task.0) c.in-Some.wakes) =
    wakes_said (source_of c.args.described) c.in_ok-script.field-0.script c.in_ok-script.field-0.props (map input_of c.in_ok-script.field-0.inputs)
    (map input_of c.as_slice.result.now) (λ task. task.0) _ (Some c.in-Some.wakes) c.in_ok-script.ensures.made same c.in_ok-wakes.ensures.wakes
    c.in-Some.is in
    record {
      pages =
          page_done (source_of c.args.described) (map (λ task. task.0) c.in-Some.wakes) _ _ _ wakes
          (c.in-Ok.ensures.served (source_of c.args.described) _ c.in_ok-script.ensures.made);
    }

-- the out failed
pub returns-in-Err-OutFault : goal.returns-in-Err-OutFault
returns-in-Err-OutFault g c =
    let same : map input_of c.as_slice.result.now ≡ map input_of c.in_ok-script.field-0.inputs = search rules in
    let wakes : AreWakes (source_of c.args.described) (map (λ task. task.0) c.in-Some.wakes) =
    wakes_said (source_of c.args.described) c.in_ok-script.field-0.script c.in_ok-script.field-0.props (map input_of c.in_ok-script.field-0.inputs)
    (map input_of c.as_slice.result.now) (λ task. task.0) _ (Some c.in-Some.wakes) c.in_ok-script.ensures.made same c.in_ok-wakes.ensures.wakes
    c.in-Some.is in
    record {
      pages = (
        cause_as (source_of c.args.described) (map (λ task. task.0) c.in-Some.wakes) _ _ _ faults.OutFault c.in-Err-OutFault.field-0-is
            (c.in-Err-OutFault.ensures.cause (source_of c.args.described) _ c.in_ok-script.ensures.made),
        front_part (source_of c.args.described) (map (λ task. task.0) c.in-Some.wakes)
            (g.O.Out.puts c.args.out.now) (g.O.Out.puts c.serve_script.new.out) wakes
            (part_as (source_of c.args.described) (map (λ task. task.0) c.in-Some.wakes)
            (g.O.Out.puts c.args.out.now) (g.O.Out.puts c.serve_script.new.out) _ faults.OutFault c.in-Err-OutFault.field-0-is
            (c.in-Err-OutFault.ensures.part (source_of c.args.described) _ c.in_ok-script.ensures.made)),
      );
    }

-- a name couldn't be spelt, or memory was wanting
pub returns-in-Err-BadName : goal.returns-in-Err-BadName
returns-in-Err-BadName g c =
    let same : map input_of c.as_slice.result.now ≡ map input_of c.in_ok-script.field-0.inputs = search rules in
    let wakes : AreWakes (source_of c.args.described) (map (λ task. task.0) c.in-Some.wakes) =
    wakes_said (source_of c.args.described) c.in_ok-script.field-0.script c.in_ok-script.field-0.props (map input_of c.in_ok-script.field-0.inputs)
    (map input_of c.as_slice.result.now) (λ task. task.0) _ (Some c.in-Some.wakes) c.in_ok-script.ensures.made same c.in_ok-wakes.ensures.wakes
    c.in-Some.is in
    record {
      pages =
          inr (front_part (source_of c.args.described) (map (λ task. task.0) c.in-Some.wakes)
          (g.O.Out.puts c.args.out.now) (g.O.Out.puts c.serve_script.new.out) wakes
          (part_as (source_of c.args.described) (map (λ task. task.0) c.in-Some.wakes)
          (g.O.Out.puts c.args.out.now) (g.O.Out.puts c.serve_script.new.out) _ faults.BadName c.in-Err-BadName.field-0-is
          (c.in-Err-BadName.ensures.part (source_of c.args.described) _ c.in_ok-script.ensures.made)));
    }

pub returns : goal.returns
returns g c =
    let same : map input_of c.as_slice.result.now ≡ map input_of c.in_ok-script.field-0.inputs = search rules in
    let wakes : AreWakes (source_of c.args.described) (map (λ task. task.0) c.in-Some.wakes) =
    wakes_said (source_of c.args.described) c.in_ok-script.field-0.script c.in_ok-script.field-0.props (map input_of c.in_ok-script.field-0.inputs)
    (map input_of c.as_slice.result.now) (λ task. task.0) _ (Some c.in-Some.wakes) c.in_ok-script.ensures.made same c.in_ok-wakes.ensures.wakes
    c.in-Some.is in
    record {
      pages =
          inr (front_part (source_of c.args.described) (map (λ task. task.0) c.in-Some.wakes)
          (g.O.Out.puts c.args.out.now) (g.O.Out.puts c.serve_script.new.out) wakes
          (part_as (source_of c.args.described) (map (λ task. task.0) c.in-Some.wakes)
          (g.O.Out.puts c.args.out.now) (g.O.Out.puts c.serve_script.new.out) _ faults.OutOfMemory c.in-Err-OutOfMemory.field-0-is
          (c.in-Err-OutOfMemory.ensures.part (source_of c.args.described) _ c.in_ok-script.ensures.made)));
    }

-- the run came to a fault, whose line was put behind the pieces
pub returns-in-Err-Run : goal.returns-in-Err-Run
returns-in-Err-Run g c =
    let same : map input_of c.as_slice.result.now ≡ map input_of c.in_ok-script.field-0.inputs = search rules in
    let wakes : AreWakes (source_of c.args.described) (map (λ task. task.0) c.in-Some.wakes) =
    wakes_said (source_of c.args.described) c.in_ok-script.field-0.script c.in_ok-script.field-0.props (map input_of c.in_ok-script.field-0.inputs)
    (map input_of c.as_slice.result.now) (λ task. task.0) _ (Some c.in-Some.wakes) c.in_ok-script.ensures.made same c.in_ok-wakes.ensures.wakes
    c.in-Some.is in
    let part =
    whole_part (source_of c.args.described) (map (λ task. task.0) c.in-Some.wakes) (g.O.Out.puts c.args.out.now) (g.O.Out.puts c.serve_script.new.out)
    (part_as (source_of c.args.described) (map (λ task. task.0) c.in-Some.wakes)
    (g.O.Out.puts c.args.out.now) (g.O.Out.puts c.serve_script.new.out) _ (faults.Run _) c.in-Err-Run.field-0-is
    (c.in-Err-Run.ensures.part (source_of c.args.described) _ c.in_ok-script.ensures.made)) in
    let cause =
    cause_as (source_of c.args.described) (map (λ task. task.0) c.in-Some.wakes) _ _ _ (faults.Run _) c.in-Err-Run.field-0-is
    (c.in-Err-Run.ensures.cause (source_of c.args.described) _ c.in_ok-script.ensures.made) in
    let bytes : c.as_slice-in-Err-Run.result.now ≡ c.in-Some-2.last = search rules in
    record {
      pages =
          line_put (source_of c.args.described) (map (λ task. task.0) c.in-Some.wakes) _ _ _ _ _ c.as_slice-in-Err-Run.result.now part
          (ended_page (source_of c.args.described) (map (λ task. task.0) c.in-Some.wakes) _ _ cause.fault c.as_slice-in-Err-Run.result.now wakes
          part cause.comes
          (told_line cause.fault _ c.in-Some-2.last c.as_slice-in-Err-Run.result.now bytes cause.known c.in-Some-2.is
          c.in_ok-last-in-Err-Run.ensures.line))
          c.in_ok-put-in-Err-Run.ensures.writes;
    }

pub returns-in_err-put-in-Err-Run : goal.returns-in_err-put-in-Err-Run
returns-in_err-put-in-Err-Run g c =
    let stopped = err_from_is_err_and c.from_residual-in_err-put-in-Err-Run.result c.from_residual-in_err-put-in-Err-Run.ensures.1 in
    let same : map input_of c.as_slice.result.now ≡ map input_of c.in_ok-script.field-0.inputs = search rules in
    let wakes : AreWakes (source_of c.args.described) (map (λ task. task.0) c.in-Some.wakes) =
    wakes_said (source_of c.args.described) c.in_ok-script.field-0.script c.in_ok-script.field-0.props (map input_of c.in_ok-script.field-0.inputs)
    (map input_of c.as_slice.result.now) (λ task. task.0) _ (Some c.in-Some.wakes) c.in_ok-script.ensures.made same c.in_ok-wakes.ensures.wakes
    c.in-Some.is in
    let part =
    whole_part (source_of c.args.described) (map (λ task. task.0) c.in-Some.wakes) (g.O.Out.puts c.args.out.now) (g.O.Out.puts c.serve_script.new.out)
    (part_as (source_of c.args.described) (map (λ task. task.0) c.in-Some.wakes)
    (g.O.Out.puts c.args.out.now) (g.O.Out.puts c.serve_script.new.out) _ (faults.Run _) c.in-Err-Run.field-0-is
    (c.in-Err-Run.ensures.part (source_of c.args.described) _ c.in_ok-script.ensures.made)) in
    let cause =
    cause_as (source_of c.args.described) (map (λ task. task.0) c.in-Some.wakes) _ _ _ (faults.Run _) c.in-Err-Run.field-0-is
    (c.in-Err-Run.ensures.cause (source_of c.args.described) _ c.in_ok-script.ensures.made) in
    let bytes : c.as_slice-in-Err-Run.result.now ≡ c.in-Some-2.last = search rules in
    record {
      pages =
          rw (stopped.1, stopped.2)
          (line_cut (source_of c.args.described) (map (λ task. task.0) c.in-Some.wakes) _ _ _ _ _ _ c.as_slice-in-Err-Run.result.now
          c.in_err-put-in-Err-Run.field-0.0 c.in-Err-Run.ensures.counted part
          (ended_page (source_of c.args.described) (map (λ task. task.0) c.in-Some.wakes) _ _ cause.fault c.as_slice-in-Err-Run.result.now wakes
          part cause.comes
          (told_line cause.fault _ c.in-Some-2.last c.as_slice-in-Err-Run.result.now bytes cause.known c.in-Some-2.is
          c.in_ok-last-in-Err-Run.ensures.line))
          c.in_err-put-in-Err-Run.ensures.writes);
    }

-- no line could be made
pub returns-in_err-last-in-Err-Run : goal.returns-in_err-last-in-Err-Run
returns-in_err-last-in-Err-Run g c =
    let stopped = err_from_is_err_and c.from_residual-in_err-last-in-Err-Run.result c.from_residual-in_err-last-in-Err-Run.ensures.1 in
    let same : map input_of c.as_slice.result.now ≡ map input_of c.in_ok-script.field-0.inputs = search rules in
    let wakes : AreWakes (source_of c.args.described) (map (λ task. task.0) c.in-Some.wakes) =
    wakes_said (source_of c.args.described) c.in_ok-script.field-0.script c.in_ok-script.field-0.props (map input_of c.in_ok-script.field-0.inputs)
    (map input_of c.as_slice.result.now) (λ task. task.0) _ (Some c.in-Some.wakes) c.in_ok-script.ensures.made same c.in_ok-wakes.ensures.wakes
    c.in-Some.is in
    record {
      pages =
          rw (stopped.1, stopped.2)
          (inr (part_front (source_of c.args.described) (map (λ task. task.0) c.in-Some.wakes) _ _ wakes
          (whole_part (source_of c.args.described) (map (λ task. task.0) c.in-Some.wakes) (g.O.Out.puts c.args.out.now) (g.O.Out.puts c.serve_script.new.out)
          (part_as (source_of c.args.described) (map (λ task. task.0) c.in-Some.wakes)
          (g.O.Out.puts c.args.out.now) (g.O.Out.puts c.serve_script.new.out) _ (faults.Run _) c.in-Err-Run.field-0-is
          (c.in-Err-Run.ensures.part (source_of c.args.described) _ c.in_ok-script.ensures.made)))));
    }

pub returns-in_default-2 : goal.returns-in_default-2
returns-in_default-2 g c =
    let same : map input_of c.as_slice.result.now ≡ map input_of c.in_ok-script.field-0.inputs = search rules in
    let wakes : AreWakes (source_of c.args.described) (map (λ task. task.0) c.in-Some.wakes) =
    wakes_said (source_of c.args.described) c.in_ok-script.field-0.script c.in_ok-script.field-0.props (map input_of c.in_ok-script.field-0.inputs)
    (map input_of c.as_slice.result.now) (λ task. task.0) _ (Some c.in-Some.wakes) c.in_ok-script.ensures.made same c.in_ok-wakes.ensures.wakes
    c.in-Some.is in
    record {
      pages =
          inr (part_front (source_of c.args.described) (map (λ task. task.0) c.in-Some.wakes) _ _ wakes
          (whole_part (source_of c.args.described) (map (λ task. task.0) c.in-Some.wakes) (g.O.Out.puts c.args.out.now) (g.O.Out.puts c.serve_script.new.out)
          (part_as (source_of c.args.described) (map (λ task. task.0) c.in-Some.wakes)
          (g.O.Out.puts c.args.out.now) (g.O.Out.puts c.serve_script.new.out) _ (faults.Run _) c.in-Err-Run.field-0-is
          (c.in-Err-Run.ensures.part (source_of c.args.described) _ c.in_ok-script.ensures.made))));
    }
