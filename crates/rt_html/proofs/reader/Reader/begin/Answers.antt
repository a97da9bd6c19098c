-- An element begins, or too many are open.
use Rattle.std.proofs.Common.{◌≡◌, [], refl, arith, rules}
use Rattle.std.proofs.lemmas.Bool.Decides.{nat_tests}
use Rattle.rt_html.proofs.Stands.{begins, begins_none}
use Rattle.rt_html.proofs.reader.Reader.begin.Goals as goal

pub returns-then-len : goal.returns-then-len
returns-then-len c = λ standing h. begins_none c.args.self.now _ c.args.spelt.now refl (grind (arith, nat_tests)) standing h

pub returns : goal.returns
returns c = λ standing h.
    let row : c.replace-before.new.dest ≡ [] = search rules in
    let before : c.replace-before.result ≡ c.args.self.now.row = search rules in
    begins c.args.self.now _ _ c.args.spelt.now row c.in_ok-push.ensures.ok refl before c.in_ok-begin.ensures.name c.in_ok-begin.ensures.attributes
    (grind (arith, nat_tests)) standing h
