-- One step down, or none.
use Rattle.std.proofs.Common.{◌≡◌, ◌<◌, ◌≤◌, ap, length, refl, subst, sym, ◌∙◌}
use Rattle.run_records.specs.Kept.{scope_of}
use Rattle.run_state.specs.Mirror.{scopes_of, state_of}
use Rattle.rt_scopes.specs.Knowing.{IsKnown, Leads, below_at}
use Rattle.rt_scopes.proofs.KnownLeft.{first_known, goes_none, goes_to, leads_on, way_counted}
use Rattle.rt_scopes.proofs.Spots.{length-each, leaf_on, leaf_here, leaf_end}
use Rattle.rt_scopes.proofs.going.next_removed.Goals as goal

pub loop-step-init : goal.loop-step-init
loop-step-init g c =
    let table = (c.args.state.now.rows).table in
    let counts : length c.as_slice-count.result.now ≡ length (scopes_of table) =
    ap (λ rows. length rows) c.as_slice-count.ensures.rows ∙ sym (length-each scope_of table) in
    let steps : length c.start.new.self.rows.items ≡ length c.as_slice-from.result.now = ap (λ rows. length rows) (sym c.as_slice-from.ensures.value) in
    record {
      leads = λ kept. c.in_ok-leaf.ensures.leads kept;
      own = λ kept. c.in_ok-leaf.ensures.own kept;
      way =
          λ kept.
          way_counted (state_of kept c.args.state.now) c.in_ok-leaf.leaf c.args.scope (length c.as_slice-count.result.now) (length (scopes_of table))
          (length c.start.new.self.rows.items) (length c.as_slice-from.result.now) counts steps (c.in_ok-leaf.ensures.way kept);
    }

pub loop-step-preserved : goal.loop-step-preserved
loop-step-preserved g c =
    let is = c.as_slice-count.ensures.rows in
    let test = c.loop-step-test.true in
    let within : c.loop-step._step < length (scopes_of (c.args.state.now.rows).table) = rw (length-each scope_of (c.args.state.now.rows).table, ← is) test in
    record {
      leads =
          λ kept.
          let w = state_of kept c.args.state.now in
          let known = c.loop-step.invariant.own kept ∙ sym (c.in_ok-child.ensures.same kept) in
          subst (λ rows. Leads w rows c.in-Some.child) (sym c.in_ok-push.ensures.items)
          (leads_on w c.loop-step.known.rows.items (c.loop-step.leaf, c.replace-above.result) c.in-Some.child (c.loop-step.invariant.leads kept)
          (subst (λ left. IsKnown w (c.loop-step.leaf, left)) (sym c.replace-above.ensures.value) known)
          (first_known w c.loop-step.leaf c.loop-step.left (c.loop-step.invariant.own kept) ∙ sym (c.in_ok-child.ensures.first kept) ∙ c.in-Some.is));
      own =
          λ kept.
          subst (λ left. IsKnown (state_of kept c.args.state.now) (c.in-Some.child, left)) (sym c.replace-above.ensures.after) (c.in_ok-below.ensures kept);
      way =
          λ kept.
          let w = state_of kept c.args.state.now in
          leaf_on w (length (scopes_of (c.args.state.now.rows).table)) c.loop-step._step c.loop-step.leaf c.in-Some.child (below_at w c.loop-step.leaf)
          within refl
          (first_known w c.loop-step.leaf c.loop-step.left (c.loop-step.invariant.own kept) ∙ sym (c.in_ok-child.ensures.first kept) ∙ c.in-Some.is)
          ∙ c.loop-step.invariant.way kept;
    }

pub returns-in_default-clause-leaf : goal.returns-in_default-clause-leaf
returns-in_default-clause-leaf g c =
    let is = c.as_slice-count.ensures.rows in
    let test = c.loop-step-test.true in
    let within : c.loop-step._step < length (scopes_of (c.args.state.now.rows).table) = rw (length-each scope_of (c.args.state.now.rows).table, ← is) test in
    λ kept.
    let w = state_of kept c.args.state.now in
    leaf_here w (length (scopes_of (c.args.state.now.rows).table)) c.loop-step._step c.loop-step.leaf (below_at w c.loop-step.leaf)
    within refl
    (first_known w c.loop-step.leaf c.loop-step.left (c.loop-step.invariant.own kept) ∙ sym (c.in_ok-child.ensures.first kept) ∙ c.in_default.is)
    ∙ c.loop-step.invariant.way kept

pub returns-in_default-clause-goes : goal.returns-in_default-clause-goes
returns-in_default-clause-goes g c =
    λ kept.
    let w = state_of kept c.args.state.now in
    goes_to w c.loop-step.leaf
    (first_known w c.loop-step.leaf c.loop-step.left (c.loop-step.invariant.own kept) ∙ sym (c.in_ok-child.ensures.first kept) ∙ c.in_default.is)
    c.loop-step.known.rows.items (c.loop-step.invariant.leads kept)

pub returns-clause-leaf : goal.returns-clause-leaf
returns-clause-leaf g c =
    let is = c.as_slice-count.ensures.rows in
    let test = c.loop-step-test.false in
    let end : length (scopes_of (c.args.state.now.rows).table) ≤ c.loop-step._step = rw (length-each scope_of (c.args.state.now.rows).table, ← is) test in
    λ kept.
    leaf_end (state_of kept c.args.state.now) (length (scopes_of (c.args.state.now.rows).table)) c.loop-step._step c.loop-step.leaf end
    ∙ c.loop-step.invariant.way kept

pub returns-clause-goes : goal.returns-clause-goes
returns-clause-goes g c =
    λ kept. goes_none (state_of kept c.args.state.now) c.clear.new.self.rows.items c.loop-step.leaf c.clear.ensures.empty
