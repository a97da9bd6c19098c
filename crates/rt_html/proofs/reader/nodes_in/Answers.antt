-- All parts behind the first `<` are read from the start.
use Rattle.std.proofs.Common.{◌≡◌, ℕ, List, Option, Some, map, option_map, refl, sym, ap, ◌∙◌}
use Rattle.std.specs.Borrow.{Bor}
use Rattle.rt_html.specs.Parts.{past}
use Rattle.rt_html.proofs.Stands.{at_start, to_end}
use Rattle.rt_html.proofs.reader.nodes_in.Goals as goal

pub returns : goal.returns
returns c =
    let cut : Some c.in-Some.rest.now ≡ past 60 c.args.text.now =
    sym (ap (λ (o : Option (Bor (List ℕ))). option_map (λ (rest : Bor (List ℕ)). rest.now) o) c.in-Some.is) ∙ c.cut.ensures.after in
    c.finished.ensures
    ∙ to_end c.args.text.now c.in-Some.rest.now c.as_slice.result.now _ _ c.in_ok-take_all.ensures
    (at_start _ c.new-2.ensures.empty c.new-3.ensures.empty refl)
    (ap (λ (all : List (Bor (List ℕ))). map (λ (part : Bor (List ℕ)). part.now) all) c.as_slice.ensures.value ∙ c.in_ok-parts.ensures)
    cut
