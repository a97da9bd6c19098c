use Rattle.law_elm.proofs.Ending.{elm_shows}
use Rattle.law_elm.proofs.rooting.elm_shows.Goals as goal

pub returns : goal.returns
returns g c = λ k a back calm lawful props inputs limits taken reports h.
    elm_shows _ c.roots_last.ensures c.own_pages_show.ensures k a back calm lawful props inputs limits taken reports h
