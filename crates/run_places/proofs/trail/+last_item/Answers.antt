-- The last step is an item, or the steps before it say in which item the place is.
use Rattle.std.proofs.Common.{◌∙◌}
use Rattle.run_places.proofs.Lasts.{inside_front, item_front}
use Rattle.run_places.proofs.trail.+last_item.Goals as goal

pub returns-in-Inside : goal.returns-in-Inside
returns-in-Inside t c =
    c.last_item.ensures ∙ inside_front c.args.place.now c.last-item.result _ _ _ c.in-len1-up.len_at_least c.last-item.is c.in-Inside.is

pub returns-in-Item : goal.returns-in-Item
returns-in-Item t c = item_front c.args.place.now c.last-item.result _ c.in-Item.position c.in-len1-up.len_at_least c.last-item.is c.in-Item.is
