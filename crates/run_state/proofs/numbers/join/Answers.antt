-- A scope that is in the list, and one that isn't.
use Rattle.std.proofs.Common.{◌≡◌, ◌++◌, ◌∷◌, [], true, false, ap, sym, ◌∙◌}
use Rattle.std.proofs.lemmas.List.{map-append}
use Rattle.std.specs.Prelude.{nat_eq, if◌then◌else◌}
use Rattle.std.specs.List.{list_any}
use Rattle.rt_model.specs.Lists.{has}
use Rattle.rt_values.specs.declared.names.ScopeId.{ScopeId}
use Rattle.run_state.specs.Names.{scope_numbers}
use Rattle.run_state.proofs.Changed.{on_ok}
use Rattle.run_state.proofs.Drops.{scope_gone, scope_there}
use Rattle.run_state.proofs.numbers.join.Goals as goal

pub returns-in-Some-clause-joined : goal.returns-in-Some-clause-joined
returns-in-Some-clause-joined c =
    let xs = c.args.scopes.now in
    let there : has (scope_numbers xs) c.args.scope ≡ true =
    ap (λ ys. has (scope_numbers ys) c.args.scope) (sym c.as_slice.ensures.items)
    ∙ scope_there c.as_slice.result.now c.args.scope c.in-Some._index (record { 0 = c.args.scope }) c.in-Some.ensures.within (c.in-Some.ensures.own (record { 0 = c.args.scope })) in
    sym (ap (λ b. if b then scope_numbers xs else scope_numbers xs ++ c.args.scope ∷ []) there)

pub returns-in-None-clause-joined : goal.returns-in-None-clause-joined
returns-in-None-clause-joined c =
    let xs = c.args.scopes.now in
    let gone : has (scope_numbers xs) c.args.scope ≡ false =
    ap (λ ys. has (scope_numbers ys) c.args.scope) (sym c.as_slice.ensures.items)
    ∙ scope_gone c.as_slice.result.now c.args.scope c.in-None.ensures.none in
    on_ok c.push.result c.push.ensures.ok (λ pushed.
    ap scope_numbers pushed ∙ map-append (λ (scope : ScopeId). scope.0) xs (record { 0 = c.args.scope } ∷ [])
    ∙ sym (ap (λ b. if b then scope_numbers xs else scope_numbers xs ++ c.args.scope ∷ []) gone))
