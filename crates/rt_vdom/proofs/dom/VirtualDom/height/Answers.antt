-- By the row that was found.
use Rattle.std.proofs.Common.{Some, None}
use Rattle.run_records.specs.Kept.{scope_of}
use Rattle.run_state.proofs.Each.{found-each}
use Rattle.rt_vdom.specs.Doms.{StateIn}
use Rattle.run_answers.proofs.Looked.{height_there, height_gone}
use Rattle.rt_vdom.proofs.dom.VirtualDom.height.Goals as goal

pub returns-in-Some : goal.returns-in-Some
returns-in-Some g c =
    record {
      height =
          λ kept.
          height_there (StateIn kept c.args.self.now) c.args.id.0 (scope_of c.in-Some.found.now)
          (found-each scope_of (((c.args.self.now.machine).scopes).state.rows).table c.args.id.0 (Some c.in-Some.found.now) c.in-Some.ensures);
    }

pub returns-in-None : goal.returns-in-None
returns-in-None g c =
    record {
      height =
          λ kept.
          height_gone (StateIn kept c.args.self.now) c.args.id.0
          (found-each scope_of (((c.args.self.now.machine).scopes).state.rows).table c.args.id.0 None c.in-None.ensures);
    }
