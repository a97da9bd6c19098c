-- The element that began last ends, or none is open.
use Rattle.std.proofs.Common.{◌≡◌, [], ◌∷◌, ◌++◌, refl, rules, ◌∙◌}
use Rattle.rt_html.specs.declared.plain.Plain.TheVariants.{Element}
use Rattle.rt_html.proofs.Stands.{ends, ends_none}
use Rattle.rt_html.proofs.reader.Reader.end.Goals as goal

pub returns-in_default : goal.returns-in_default
returns-in_default c = λ standing h. ends_none c.args.self.now _ (search rules) refl standing h

pub returns : goal.returns
returns c = λ standing h.
    let element = c.in-Some.open in
    let row : c.replace-children.result ≡ c.args.self.now.row = search rules in
    let before : c.replace-children.new.dest ≡ element.before = search rules in
    ends c.args.self.now _ element c.in-Some.ensures.last
    (c.in_ok-push.ensures.ok
    ∙ (λ i. before i ++ Element element.begin.tag element.begin.namespace element.begin.attrs (row i) ∷ []))
    refl standing h
