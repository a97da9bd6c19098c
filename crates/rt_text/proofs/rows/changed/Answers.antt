-- One row on, and both ends.
use Rattle.std.proofs.Common.{◌≡◌, ◌+◌, ◌<◌, ◌≤◌, bytes_eq, [], ◌++◌, length, drop, rules, ap, ◌∙◌}
use Rattle.rt_text.specs.Screens.{changed_rows, unless_same}
use Rattle.rt_text.proofs.Changes.{changed_more, ended_old, ended_new}
use Rattle.rt_text.proofs.rows.changed.Goals as goal

pub loop-at-preserved : goal.loop-at-preserved
loop-at-preserved c =
    let at = c.loop-at.at in
    let old = c.args.old.now in
    let new = c.args.new.now in
    let low : c.loop-at.at < length c.args.old.now = search rules in
    let also : c.loop-at.at < length c.args.new.now = search rules in
    let put : c.put_changed.new.rows
    ≡ c.loop-at.rows ++ unless_same (bytes_eq c.index-old-at.result c.index-new-at.result) c.loop-at.at c.index-new-at.result [] =
    search rules in
    ap (λ rows. rows ++ changed_rows (at + 1) (drop (at + 1) old) (drop (at + 1) new)) put
    ∙ changed_more c.loop-at.rows at old new c.index-old-at.result c.index-new-at.result low also c.index-old-at.is c.index-new-at.is
    ∙ c.loop-at.invariant

pub returns : goal.returns
returns c =
    let end : length c.args.old.now ≤ c.loop-at.at = search rules in
    record { changed = ended_old c.loop-at.rows (changed_rows 0 c.args.old.now c.args.new.now) c.loop-at.at c.args.old.now (drop c.loop-at.at c.args.new.now) end c.loop-at.invariant }

pub returns-then-at-new : goal.returns-then-at-new
returns-then-at-new c =
    let end : length c.args.new.now ≤ c.loop-at.at = search rules in
    record { changed = ended_new c.loop-at.rows (changed_rows 0 c.args.old.now c.args.new.now) c.loop-at.at (drop c.loop-at.at c.args.old.now) c.args.new.now end c.loop-at.invariant }
