use Rattle.std.proofs.Common.{refl}
use Rattle.rt_html.proofs.Stands.{adds}
use Rattle.rt_html.proofs.reader.Reader.add.Goals as goal

pub returns : goal.returns
returns c = λ standing h. adds c.args.self.now _ c.args.node c.in_ok-push.ensures.ok refl refl standing h
