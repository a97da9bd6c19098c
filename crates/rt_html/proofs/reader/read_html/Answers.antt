-- A spelling of nodes that are fit is read as these nodes.
use Rattle.std.proofs.Common.{◌≡◌, false, true, List, Option, None, Some, option_map, arith, rules, sym, ap, ◌∙◌}
use Rattle.std.proofs.lemmas.Bool.{both_ways}
use Rattle.rt_model.specs.Document.{Forest}
use Rattle.rt_html.specs.declared.plain.Plain.{Plain}
use Rattle.rt_html.specs.Parts.{nodes_in}
use Rattle.rt_html.specs.Reading.{are_fit, plain_row}
use Rattle.rt_html.specs.Spelling.{html}
use Rattle.rt_html.proofs.Found.{refused_by_reader, refused_by_fit, refused_by_text, found_nodes}
use Rattle.rt_html.proofs.reader.read_html.Goals as goal

pub returns-in_default-clause-found : goal.returns-in_default-clause-found
returns-in_default-clause-found c =
    refused_by_reader c.args.text.now (sym (ap (λ (o : Option (List Plain)). option_map plain_row o) c.in_default.is) ∙ c.in_ok-nodes.ensures)

pub returns-then-not-are_fit-clause-found : goal.returns-then-not-are_fit-clause-found
returns-then-not-are_fit-clause-found c =
    let refused : c.are_fit.result ≡ false = grind arith in
    let same : c.as_slice.result.now ≡ c.in-Some.nodes = search rules in
    refused_by_fit c.args.text.now (plain_row c.in-Some.nodes)
    (sym (ap (λ (o : Option (List Plain)). option_map plain_row o) c.in-Some.is) ∙ c.in_ok-nodes.ensures)
    (ap (λ (all : List Plain). are_fit 1024 (plain_row all)) (sym same) ∙ sym c.are_fit.ensures ∙ refused)

pub returns-then-not-is_same-clause-found : goal.returns-then-not-is_same-clause-found
returns-then-not-is_same-clause-found c =
    let refused : c.in_ok-is_same.is_same ≡ false = grind arith in
    let same : c.as_slice-2.result.now ≡ c.in-Some.nodes = search rules in
    refused_by_text c.args.text.now (plain_row c.in-Some.nodes)
    (sym (ap (λ (o : Option (List Plain)). option_map plain_row o) c.in-Some.is) ∙ c.in_ok-nodes.ensures)
    (λ spelt. both_ways c.in_ok-is_same.is_same refused
    (c.in_ok-is_same.ensures.1 (ap (λ (all : List Plain). html (plain_row all)) same ∙ spelt)))

pub returns-clause-found : goal.returns-clause-found
returns-clause-found c =
    found_nodes c.args.text.now (plain_row c.in-Some.nodes)
    (sym (ap (λ (o : Option (List Plain)). option_map plain_row o) c.in-Some.is) ∙ c.in_ok-nodes.ensures)
