use Rattle.std.proofs.Common.{rules, ◌≡◌, length, map, sym, subst}
use Rattle.std.proofs.lemmas.List.{length-map}
use Rattle.run_reports.specs.Seen.{entry_of}
use Rattle.rt_audit.specs.Finding.{Says}
use Rattle.rt_audit.specs.declared.following.Turn.TheVariants as turns
use Rattle.rt_audit.proofs.Found.{rested_says, faulted_says}
use Rattle.rt_audit.proofs.following.found_at_end.Goals as goal

pub returns-in-Moved : goal.returns-in-Moved
returns-in-Moved c =
    let moved : c.args.turn ≡ turns.Moved = search rules in
    record { says = λ front. (moved, sym (length-map c.args.noted.now entry_of), front) }

pub returns-in-Rested : goal.returns-in-Rested
returns-in-Rested c =
    let rested : c.args.turn ≡ turns.Rested = search rules in
    record {
      says =
          λ front.
          subst (λ f. Says c.args.turn (map entry_of c.args.noted.now) (map entry_of c.args.list.now) f) (sym c.found_at_rest.ensures)
          (rested_says c.args.turn (map entry_of c.args.noted.now) (map entry_of c.args.list.now) (length c.args.noted.now) (length c.args.list.now)
          c.in_ok-number.number rested (sym (length-map c.args.noted.now entry_of)) (sym (length-map c.args.list.now entry_of)) c.in_ok-number.ensures.number front);
    }

pub returns-in-Faulted : goal.returns-in-Faulted
returns-in-Faulted c =
    let faulted : c.args.turn ≡ turns.Faulted = search rules in
    record {
      says =
          λ front.
          faulted_says c.args.turn (map entry_of c.args.noted.now) (map entry_of c.args.list.now) (length c.args.noted.now) c.in_ok-number.number faulted
          (sym (length-map c.args.noted.now entry_of)) c.in_ok-number.ensures.number front;
    }
