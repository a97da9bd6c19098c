-- What the look sees is what the definitions say.
use Rattle.std.proofs.Common.{◌∙◌}
use Rattle.std.proofs.lemmas.Result.{IfOk-weaker}
use Rattle.run_shown.proofs.Agrees.{nodes_are}
use Rattle.run_shown.proofs.rows.nodes_of.Goals as goal

pub returns : goal.returns
returns g c = record { nodes = IfOk-weaker c.scope_view.result _ _ (λ row seen w shows. seen ∙ nodes_are c.args.look.now w shows c.args.scope) c.scope_view.ensures }
