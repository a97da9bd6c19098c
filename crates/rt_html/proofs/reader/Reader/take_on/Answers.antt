-- Nothing more is read where something was refused.
use Rattle.std.proofs.Common.{◌≡◌, Option, Some, sym, ap, ◌∙◌}
use Rattle.rt_html.specs.Parts.{Standing, standing_of, take_on, take_token}
use Rattle.rt_html.proofs.Stands.{on_ok, stands, stands-open, stands-refused}
use Rattle.rt_html.proofs.reader.Reader.take_on.Goals as goal

pub returns-then-self : goal.returns-then-self
returns-then-self c =
    let none = stands-refused c.args.self.now c.if-self.true in
    none ∙ sym (ap (λ (s : Option Standing). take_on s c.args.part.now) none)

pub returns : goal.returns
returns c =
    let some = stands-open c.args.self.now c.if-self.false in
    on_ok c.take.result c.take.ensures
    (λ (told : (standing : Standing) → standing_of c.args.self.now ≡ Some standing → standing_of c.take.new.self ≡ take_token c.args.part.now standing).
    told (stands c.args.self.now) some ∙ sym (ap (λ (s : Option Standing). take_on s c.args.part.now) some))
