use Rattle.std.proofs.Common.{Bool, false, not, ◌≡◌, ap, sym}
use Rattle.std.specs.Prelude.{ℕ, Option, Some, None}
use Rattle.run_records.specs.Kept.{scope_of}
use Rattle.rt_model.specs.Lists.{at}
use Rattle.rt_model.specs.Tree.{Types}
use Rattle.rt_model.specs.State.{Scope, State}
use Rattle.rt_model.specs.Rendering.{is_thawed}
use Rattle.run_state.specs.Mirror.{state_of}
use Rattle.run_state.proofs.Each.{found-each}
use Rattle.run_answers.proofs.passing.is_thawed.Goals as goal

-- by what is found
thawed_found : {K : Types} (w : State K) (b : ℕ) (o : Option (Scope K)) → at w.scopes b ≡ o
    → (elim o as (λ z. Bool) [ None ↦ false | Some x ↦ not x.frozen ]) ≡ is_thawed w (Some b)
thawed_found w b o is = ap (λ p. elim p as (λ z. Bool) [ None ↦ false | Some x ↦ not x.frozen ]) (sym is)

pub returns-in-Some : goal.returns-in-Some
returns-in-Some g c =
    λ kept.
    let table = c.args.state.now.rows.table in
    thawed_found (state_of kept c.args.state.now) c.args.boundary (Some (scope_of c.in-Some.found.now))
    (found-each scope_of table c.args.boundary (Some c.in-Some.found.now) c.in-Some.ensures)

pub returns-in-None : goal.returns-in-None
returns-in-None g c =
    λ kept.
    thawed_found (state_of kept c.args.state.now) c.args.boundary None (found-each scope_of c.args.state.now.rows.table c.args.boundary None c.in-None.ensures)
