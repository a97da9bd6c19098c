-- The way goes on at the last row, or begins at the scope.
use Rattle.run_state.specs.Mirror.{state_of}
use Rattle.rt_scopes.proofs.KnownLeft.{last_known, leads_none, leads_to_last, way_begins, way_none}
use Rattle.rt_scopes.proofs.going.Known.start.Goals as goal

pub returns-in-Some-clause-leads : goal.returns-in-Some-clause-leads
returns-in-Some-clause-leads g c =
    λ kept. leads_to_last (state_of kept c.args.state.now) c.args.self.now.rows.items c.resumed.new.self.rows.items c.in-Some.row c.in-Some.ensures.own (c.requires.knows kept)

pub returns-in-Some-clause-own : goal.returns-in-Some-clause-own
returns-in-Some-clause-own g c =
    λ kept. last_known (state_of kept c.args.state.now) c.args.self.now.rows.items c.resumed.new.self.rows.items c.in-Some.row c.in-Some.ensures.own (c.requires.knows kept)

pub returns-in-Some-clause-way : goal.returns-in-Some-clause-way
returns-in-Some-clause-way g c =
    λ kept.
    let w = state_of kept c.args.state.now in
    way_begins w c.args.count c.in-Some.row.0 c.args.scope c.resumed.new.self.rows.items
    (leads_to_last w c.args.self.now.rows.items c.resumed.new.self.rows.items c.in-Some.row c.in-Some.ensures.own (c.requires.knows kept))
    c.in-Some.ensures.within c.in-Some.ensures.begins

pub returns-clause-leads : goal.returns-clause-leads
returns-clause-leads g c = λ kept. leads_none (state_of kept c.args.state.now) c.clear.new.self.items c.args.scope c.clear.ensures.items

pub returns-clause-own : goal.returns-clause-own
returns-clause-own g c = λ kept. c.in_ok-left.ensures kept

pub returns-clause-way : goal.returns-clause-way
returns-clause-way g c = λ kept. way_none (state_of kept c.args.state.now) c.args.count c.args.scope c.clear.new.self.items c.clear.ensures.items
