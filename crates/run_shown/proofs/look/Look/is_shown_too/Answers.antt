-- A scope that stands where it did is climbed from once.
use Rattle.std.proofs.Common.{◌∙◌, ap}
use Rattle.std.specs.Prelude.{Some}
use Rattle.run_shown.proofs.BothLooks.{root_both, start_both}
use Rattle.run_shown.proofs.look.Look.is_shown_too.Goals as goal

pub returns-then-former-eq0 : goal.returns-then-former-eq0
returns-then-former-eq0 g c =
    root_both c.args.self.now c.args.other.now c.args.scope c.args.former c.requires.stood
    (ap Some (c.is_same_rung.ensures c.if-not-is_same_rung.false) ∙ c.requires.stands) c.if-former-eq0.true

pub returns : goal.returns
returns g c =
    c.is_shown_both.ensures
    ∙ start_both c.args.self.now c.args.other.now c.args.scope c.args.former c.requires.stood
    (ap Some (c.is_same_rung.ensures c.if-not-is_same_rung.false) ∙ c.requires.stands) c.if-former-eq0.false
