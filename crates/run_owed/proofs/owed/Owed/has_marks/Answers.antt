-- As the queues have it.
use Rattle.std.proofs.Common.{◌≡◌, ap, sym, ◌∙◌}
use Rattle.run_owed.specs.Changes.{owing_by}
use Rattle.run_owed.specs.Lists.{marks_in}
use Rattle.run_owed.specs.Owing.{Owing, living}
use Rattle.run_owed.proofs.Firsts.{no_marks, none_marked}
use Rattle.run_owed.proofs.owed.Owed.has_marks.Goals as goal

pub returns : goal.returns
returns c =
    let o = owing_by c.self.inside.told in
    let same : living o.scopes (marks_in o.posted) ≡ living c.args.self.now.scopes (marks_in c.args.self.now.posted) = ap (λ (p : Owing). living p.scopes (marks_in p.posted)) c.self.view_is in
    record {
      marks = (
        λ h e. c.has_marks.ensures.posted.0 h (no_marks o c.self.inside.queues c.self.inside.next c.self.invariant (same ∙ e)),
        λ h. c.has_marks.ensures.posted.1 (λ e. h (sym same ∙ none_marked o c.self.inside.queues c.self.inside.next c.self.invariant e)),
      );
    }
