-- One more character, and at the end all of them.
use Rattle.std.proofs.Common.{◌∙◌, sym, map-id}
use Rattle.std.proofs.lemmas.Iterator.{YieldsList-from_chars}
use Rattle.std.proofs.lemmas.Iterator.Consumers.{YieldsList-end}
use Rattle.rt_html.proofs.Escapes.{all_of_them, one_more}
use Rattle.rt_html.proofs.writer.Writer.escaped.Goals as goal

pub loop-character-preserved : goal.loop-character-preserved
loop-character-preserved c = one_more _ _ _ _ _ c.loop-character.invariant c.in_ok-put.ensures

pub returns : goal.returns
returns c =
    let done = YieldsList-end (YieldsList-from_chars c.args.text.now c.utf8.text cc) c.loop-character.yielded _ c.loop-character.yielded_by _ _
    c.in-None.is c.next.ensures.steps in
    all_of_them _ _ _ _ c.loop-character.invariant (sym (map-id c.loop-character.yielded) ∙ done.0) c.utf8.text
