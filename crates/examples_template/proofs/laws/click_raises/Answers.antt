-- The one listener writes one more than it reads.
use Rattle.std.proofs.Common.{ℕ, Bool, ◌+◌, ap, ◌∙◌}
use Rattle.std.specs.Prelude.{Option, Some, None, codes, min, true, if◌then◌else◌}
use Rattle.rt_author.proofs.Maps.{at_put_here, eq_same}
use Rattle.rt_author.specs.Lists.{at}
use Rattle.rt_author.specs.Reduces.{sent}
use Rattle.rt_author.specs.Updates.{Model, model_of, put_where, update, written}
use Rattle.rt_author.specs.Words.{last_number}
use Rattle.examples_template.proofs.Numbers.{value_at}
use Rattle.examples_template.specs.Meaning.{OwnTypes, answers, nothing, raised}
use Rattle.examples_template.proofs.laws.click_raises.Goals as goal

pub returns : goal.returns
returns k =
    λ w element cell row one found.
    let there = value_at w.cells cell row found in
    let m : Model OwnTypes = model_of w in
    let more : ℕ = min (row.value + 1) last_number in
    let read_here = λ (o : Option ℕ). at (written m (raised cell (Some o))) cell in
    ap (λ (es : Model OwnTypes). at es cell) ((k.one_hears.ensures answers w (codes "click") nothing element true).0 one.listener one.alone)
    ∙ ap (λ (h : ℕ). at (update answers h (sent nothing true) w.next.cells m) cell) one.raises
    ∙ ap (λ (b : Bool). read_here (if b then at m cell else None)) one.drawn
    ∙ ap read_here there
    ∙ ap (λ (o : Option ℕ). at (put_where m cell more o) cell) there
    ∙ at_put_here m cell more cell (eq_same cell)
