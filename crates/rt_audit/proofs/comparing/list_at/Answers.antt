use Rattle.std.proofs.Common.{rules, ◌≡◌, ◌<◌, ◌∙◌, ◌∷◌, suc, length, map, drop, ap, sym}
use Rattle.run_reports.specs.Seen.{entry_of}
use Rattle.rt_audit.proofs.Lists.{item_at}
use Rattle.rt_audit.proofs.comparing.list_at.Goals as goal

pub returns-then-at-log : goal.returns-then-at-log
returns-then-at-log c =
    let log = c.args.log.now in
    let at = c.args.at in
    let low : at < length log = search rules in
    let same : c.as_slice.result.now ≡ c.index-log-at.result = search rules in
    let there = item_at (map entry_of) at log c.index-log-at.result low c.index-log-at.is in
    record { list = (low, there ∙ ap (λ es. map entry_of es ∷ drop (suc at) (map (map entry_of) log)) (sym same)) }
