-- A key goes into the set as it goes among keys in order.
use Rattle.std.proofs.Common.{◌∙◌, map, ap}
use Rattle.lang_expressions.proofs.Seen.{text_put}
use Rattle.lang_expressions.proofs.kinds.put_among.Goals as goal

pub returns : goal.returns
returns c = record { put = ap (map (λ t. t.now)) c.in_ok-insert.ensures.keys ∙ text_put c.args.keys.keys c.args.key }
