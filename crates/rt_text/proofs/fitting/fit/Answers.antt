-- An empty row more changes nothing, and in the end there are enough.
use Rattle.std.proofs.Common.{◌≡◌, ◌+◌, ◌<◌, [], ◌∷◌, ◌++◌, length, rules, sym, ap, ◌∙◌, arith}
use Rattle.std.proofs.lemmas.List.{length-append}
use Rattle.rt_text.specs.Layout.{fitted}
use Rattle.rt_text.proofs.Fitted.{fitted-more, fitted-full}
use Rattle.rt_text.proofs.fitting.fit.Goals as goal

pub loop-row-preserved : goal.loop-row-preserved
loop-row-preserved c =
    let rows = c.loop-row.rows.items in
    let low : c.loop-row._row < c.args.height = search rules in
    let long : length c.loop-row.rows.items ≡ c.loop-row._row = c.loop-row.invariant.long in
    let pushed : c.push.new.self.items ≡ c.loop-row.rows.items ++ [] ∷ [] = search rules in
    record {
      fitted = ap (λ more. fitted c.args.height more) pushed ∙ fitted-more c.args.height rows (omega (arith, long, low)) ∙ c.loop-row.invariant.fitted;
      long = omega (arith, long, ap length pushed, length-append rows ([] ∷ []));
    }

pub returns : goal.returns
returns c =
    let rows = c.loop-row.rows.items in
    let end : length c.loop-row.rows.items ≡ c.args.height = search rules in
    record { fitted = sym (fitted-full c.args.height rows end) ∙ c.loop-row.invariant.fitted }
