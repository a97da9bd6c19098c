-- A mark of a place writes nothing by itself; what is only written leads to what was told of it.
use Rattle.std.proofs.Common.{[], ◌≡◌, map, refl, sym, ap, subst, ◌∙◌, arith}
use Rattle.std.specs.Prelude.{Some}
use Rattle.std.proofs.lemmas.Result.{err_from_is_err_and}
use Rattle.run_named.specs.Named.{step_in}
use Rattle.run_places.specs.Places.{kind_of, place_of, side_of}
use Rattle.run_places.specs.Sides.{and_number, child_in}
use Rattle.rt_tree.specs.Counts.{one_if}
use Rattle.rt_tree.specs.declared.turning.Wrote.TheVariants as w
use Rattle.rt_tree.specs.Asks.{asked_at}
use Rattle.rt_tree.specs.Awaits.{awaited}
use Rattle.rt_tree.specs.Served.{Keeps, marks_left}
use Rattle.rt_tree.specs.Wrote.{IfAsksFor, IfNothing, UnlessAsks, wrote_awaits}
use Rattle.rt_tree.proofs.Coming.{comes_here}
use Rattle.rt_tree.proofs.Counted.{counted, counted_again, only_written}
use Rattle.run_met.specs.Mets.{mark_of}
use Rattle.tree_mirror.specs.Sealed.{component_of}
use Rattle.rt_tree.specs.declared.patch.Phase.TheVariants as phase
use Rattle.rt_tree.proofs.Ending.{goes_at, leaves_as, leaves_nothing, left_at, only_leaves}
use Rattle.rt_tree.proofs.Quiet.{quiet, stays_as}
use Rattle.rt_tree.proofs.Told.{asks_first, written_as}
use Rattle.rt_tree.proofs.Stilled.{only_quiet, quiet_of}
use Rattle.rt_tree.proofs.patch.Patch.turn.Goals as goal

-- a node stays: nothing changes
pub returns-in-Stays-clause-none : goal.returns-in-Stays-clause-none
returns-in-Stays-clause-none g c = quiet c.args.met _ c.args.self.now c.args.self.now c.in-Stays.is (λ app. refl) refl refl c.requires.spent

pub returns-in-Stays-clause-keeps : goal.returns-in-Stays-clause-keeps
returns-in-Stays-clause-keeps g c = stays_as c.args.self.now c.args.self.now refl refl refl refl

pub returns-in-Stays-clause-fewer : goal.returns-in-Stays-clause-fewer
returns-in-Stays-clause-fewer g c = counted c.args.met _ c.args.self.now c.args.self.now 0 0 c.in-Stays.is refl refl refl (omega arith)

-- one goes
pub returns-in-Goes-clause-none : goal.returns-in-Goes-clause-none
returns-in-Goes-clause-none g c =
    quiet c.args.met _ c.args.self.now c.go.new.self c.in-Goes.is (λ app. refl) refl c.in_ok-go-in-Goes.ensures.plan (c.in_ok-go-in-Goes.ensures.edits ∙ c.requires.spent)

pub returns-in-Goes-clause-keeps : goal.returns-in-Goes-clause-keeps
returns-in-Goes-clause-keeps g c = c.in_ok-go-in-Goes.ensures.keeps

pub returns-in-Goes-clause-fewer : goal.returns-in-Goes-clause-fewer
returns-in-Goes-clause-fewer g c =
    counted c.args.met _ c.args.self.now c.go.new.self 0 1 c.in-Goes.is refl c.in_ok-go-in-Goes.ensures.plan c.in_ok-go-in-Goes.ensures.keeps.old c.in_ok-go-in-Goes.ensures.behind

-- one comes
pub returns-in-Comes-clause-some : goal.returns-in-Comes-clause-some
returns-in-Comes-clause-some g c =
    quiet c.args.met _ c.args.self.now c.draw.new.self c.in-Comes.is (λ app. refl) refl c.in_ok-id-in-Comes.ensures.plan (c.in_ok-id-in-Comes.ensures.edits ∙ c.requires.spent)

pub returns-in-Comes-clause-fewer : goal.returns-in-Comes-clause-fewer
returns-in-Comes-clause-fewer g c =
    counted c.args.met _ c.args.self.now c.draw.new.self 1 0 c.in-Comes.is refl c.in_ok-id-in-Comes.ensures.plan c.in_ok-id-in-Comes.ensures.was (omega (arith, c.in_ok-id-in-Comes.ensures.behind))

-- the number is the one that comes next
pub returns-in-Comes-clause-drawn : goal.returns-in-Comes-clause-drawn
returns-in-Comes-clause-drawn g c = c.in_ok-id-in-Comes.ensures.number

pub returns-in-Comes-clause-does : goal.returns-in-Comes-clause-does
returns-in-Comes-clause-does g c =
    let n = c.in-Comes in
    let drawn = c.in_ok-id-in-Comes in
    record {
      place = place_of n.place;
      kind = kind_of n.kind;
      mark = ap mark_of n.is;
      side = drawn.ensures.drawn ∙ ap (λ i. and_number (side_of c.args.self.now.new.side) (place_of n.place, kind_of n.kind, i)) (sym drawn.ensures.number);
      steps_are = drawn.ensures.steps;
      path_is = drawn.ensures.path;
    }

pub returns-in-Comes-clause-leaves : goal.returns-in-Comes-clause-leaves
returns-in-Comes-clause-leaves g c =
    let drawn = c.in_ok-id-in-Comes.ensures in
    record { old = drawn.was; given = drawn.rows; shown = drawn.shows }

-- a child is fed
pub returns-in-Some-clause-some : goal.returns-in-Some-clause-some
returns-in-Some-clause-some g c = quiet c.args.met _ c.args.self.now c.args.self.now c.in-Fed.is (λ app. refl) refl refl c.requires.spent

pub returns-in-Some-clause-fewer : goal.returns-in-Some-clause-fewer
returns-in-Some-clause-fewer g c = counted c.args.met _ c.args.self.now c.args.self.now 1 0 c.in-Fed.is (sym (ap one_if c.in-Some.ensures)) refl refl (omega arith)

pub returns-in-Some-clause-does : goal.returns-in-Some-clause-does
returns-in-Some-clause-does g c =
    let n = c.in-Fed in
    record { place = place_of n.place; was = component_of n.was; mark = ap mark_of n.is; child = sym c.in-Some.ensures; side = refl; spent = c.requires.spent }

pub returns-in-Some-clause-leaves : goal.returns-in-Some-clause-leaves
returns-in-Some-clause-leaves g c = record { old = refl; given = refl; shown = refl }

pub returns-in-Fed-clause-none : goal.returns-in-Fed-clause-none
returns-in-Fed-clause-none g c = quiet c.args.met _ c.args.self.now c.args.self.now c.in-Fed.is (λ app. refl) refl refl c.requires.spent

pub returns-in-Fed-clause-keeps : goal.returns-in-Fed-clause-keeps
returns-in-Fed-clause-keeps g c = stays_as c.args.self.now c.args.self.now refl refl refl refl

pub returns-in-Fed-clause-fewer : goal.returns-in-Fed-clause-fewer
returns-in-Fed-clause-fewer g c = counted c.args.met _ c.args.self.now c.args.self.now 0 0 c.in-Fed.is (sym (ap one_if c.in-None.ensures)) refl refl (omega arith)

-- one is left
pub returns-in-Left-clause-none : goal.returns-in-Left-clause-none
returns-in-Left-clause-none g c =
    quiet c.args.met _ c.args.self.now c.leave.new.self c.in-Left.is (λ app. refl) refl c.in_ok-leave-in-Left.ensures.plan (c.in_ok-leave-in-Left.ensures.edits ∙ c.requires.spent)

pub returns-in-Left-clause-keeps : goal.returns-in-Left-clause-keeps
returns-in-Left-clause-keeps g c = c.in_ok-leave-in-Left.ensures.keeps

pub returns-in-Left-clause-fewer : goal.returns-in-Left-clause-fewer
returns-in-Left-clause-fewer g c =
    counted c.args.met _ c.args.self.now c.leave.new.self 0 (one_if (child_in c.args.self.now.old (place_of c.in-Left.place))) c.in-Left.is (omega arith) c.in_ok-leave-in-Left.ensures.plan c.in_ok-leave-in-Left.ensures.keeps.old
    c.in_ok-leave-in-Left.ensures.behind

-- one is made
pub returns-in-Made-clause-some : goal.returns-in-Made-clause-some
returns-in-Made-clause-some g c =
    quiet c.args.met _ c.args.self.now (record c.args.self.now { phase = phase.Make c.in-Made.place }) c.in-Made.is (λ app. refl) refl refl c.requires.spent

pub returns-in-Made-clause-fewer : goal.returns-in-Made-clause-fewer
returns-in-Made-clause-fewer g c =
    counted c.args.met _ c.args.self.now (record c.args.self.now { phase = phase.Make c.in-Made.place }) 1 0 c.in-Made.is refl refl refl (omega arith)

pub returns-in-Made-clause-does : goal.returns-in-Made-clause-does
returns-in-Made-clause-does g c =
    let n = c.in-Made in
    record { steps = n.place; mark = ap mark_of n.is; phase = refl; side = refl }

pub returns-in-Made-clause-leaves : goal.returns-in-Made-clause-leaves
returns-in-Made-clause-leaves g c = record { old = refl; given = refl; shown = refl }

-- what is only written
pub returns-in-Asks-clause-some : goal.returns-in-Asks-clause-some
returns-in-Asks-clause-some g c =
    let wrote = c.in_ok-scope-in_default in
    written_as c.args.met c.args.met c.args.self.now c.write.new.self wrote.field-0 refl (w.Asks c.in-Asks.scope) c.in-Asks.is wrote.ensures.written

pub returns-in-First-clause-some : goal.returns-in-First-clause-some
returns-in-First-clause-some g c =
    let wrote = c.in_ok-scope-in_default in
    written_as c.args.met c.args.met c.args.self.now c.write.new.self wrote.field-0 refl (w.First c.in-First.edit) c.in-First.is wrote.ensures.written

pub returns-clause-none : goal.returns-clause-none
returns-clause-none g c =
    let wrote = c.in_ok-scope-in_default in
    written_as c.args.met c.args.met c.args.self.now c.write.new.self wrote.field-0 refl w.Nothing c.in-Nothing.is wrote.ensures.written

pub returns-clause-keeps : goal.returns-clause-keeps
returns-clause-keeps g c = subst (λ x. IfNothing x (Keeps c.args.self.now c.write.new.self)) c.in-Nothing.is c.in_ok-scope-in_default.ensures.keeps

pub returns-in-Asks-clause-awaits : goal.returns-in-Asks-clause-awaits
returns-in-Asks-clause-awaits g c = subst (λ x. awaited c.write.new.self.phase ≡ wrote_awaits x) c.in-Asks.is c.in_ok-scope-in_default.ensures.awaits

pub returns-in-First-clause-awaits : goal.returns-in-First-clause-awaits
returns-in-First-clause-awaits g c = subst (λ x. awaited c.write.new.self.phase ≡ wrote_awaits x) c.in-First.is c.in_ok-scope-in_default.ensures.awaits

pub returns-clause-free : goal.returns-clause-free
returns-clause-free g c = subst (λ x. awaited c.write.new.self.phase ≡ wrote_awaits x) c.in-Nothing.is c.in_ok-scope-in_default.ensures.awaits

pub returns-clause-spent : goal.returns-clause-spent
returns-clause-spent g c = subst (λ x. IfNothing x (c.write.new.self.edits.items ≡ [])) c.in-Nothing.is c.in_ok-scope-in_default.ensures.spent

pub returns-clause-plan : goal.returns-clause-plan
returns-clause-plan g c = subst (λ x. UnlessAsks x (c.write.new.self.plan.items ≡ c.args.self.now.plan.items)) c.in-Nothing.is c.in_ok-scope-in_default.ensures.plan

pub returns-in-Asks-clause-fewer : goal.returns-in-Asks-clause-fewer
returns-in-Asks-clause-fewer g c =
    let wrote = c.in_ok-scope-in_default.ensures in
    counted_again c.args.met c.args.self.now c.write.new.self
    (asks_first c.args.met c.args.met c.args.self.now c.write.new.self c.in_ok-scope-in_default.field-0 refl c.in-Asks.scope c.in-Asks.is wrote.front) wrote.was wrote.behind

pub returns-in-First-clause-fewer : goal.returns-in-First-clause-fewer
returns-in-First-clause-fewer g c =
    let other = c.in_default in
    let wrote = c.in_ok-scope-in_default.ensures in
    counted c.args.met c.args.met c.args.self.now c.write.new.self 0 0 refl
    (only_written (side_of c.args.self.now.old).children c.args.met other.not-Goes other.not-Comes other.not-Fed other.not-Left other.not-Made)
    (subst (λ x. UnlessAsks x (c.write.new.self.plan.items ≡ c.args.self.now.plan.items)) c.in-First.is wrote.plan) wrote.was (omega (arith, wrote.behind))

pub returns-clause-fewer : goal.returns-clause-fewer
returns-clause-fewer g c =
    let other = c.in_default in
    let wrote = c.in_ok-scope-in_default.ensures in
    counted c.args.met c.args.met c.args.self.now c.write.new.self 0 0 refl
    (only_written (side_of c.args.self.now.old).children c.args.met other.not-Goes other.not-Comes other.not-Fed other.not-Left other.not-Made)
    (subst (λ x. UnlessAsks x (c.write.new.self.plan.items ≡ c.args.self.now.plan.items)) c.in-Nothing.is wrote.plan) wrote.was (omega (arith, wrote.behind))

pub returns-in-Asks-clause-asks : goal.returns-in-Asks-clause-asks
returns-in-Asks-clause-asks g c =
    let wrote = c.in_ok-scope-in_default.ensures in
    let asks = subst (λ x. IfAsksFor x (λ scope. asked_at c.write.new.self (mark_of c.args.met) ≡ Some scope.0)) c.in-Asks.is wrote.asks in record {
      mark = mark_of c.args.met;
      rest = marks_left c.args.self.now;
      front = asks_first c.args.met c.args.met c.args.self.now c.write.new.self c.in_ok-scope-in_default.field-0 refl c.in-Asks.scope c.in-Asks.is wrote.front;
      asked = asks;
    }

pub returns-in-Asks-clause-does : goal.returns-in-Asks-clause-does
returns-in-Asks-clause-does g c = c.in_ok-scope-in_default.ensures.new

pub returns-in-Asks-clause-leaves : goal.returns-in-Asks-clause-leaves
returns-in-Asks-clause-leaves g c =
    let wrote = c.in_ok-scope-in_default.ensures in
    record { old = wrote.was; given = wrote.rows; shown = wrote.shows }

pub returns-in-First-clause-does : goal.returns-in-First-clause-does
returns-in-First-clause-does g c = c.in_ok-scope-in_default.ensures.new

pub returns-in-First-clause-leaves : goal.returns-in-First-clause-leaves
returns-in-First-clause-leaves g c =
    let wrote = c.in_ok-scope-in_default.ensures in
    record { old = wrote.was; given = wrote.rows; shown = wrote.shows }

-- at which marks nothing new comes
pub returns-in-Stays-clause-still : goal.returns-in-Stays-clause-still
returns-in-Stays-clause-still g c = quiet_of (side_of c.args.self.now.old).children c.args.met _ c.in-Stays.is tt

pub returns-in-Goes-clause-still : goal.returns-in-Goes-clause-still
returns-in-Goes-clause-still g c = quiet_of (side_of c.args.self.now.old).children c.args.met _ c.in-Goes.is tt

pub returns-in-Fed-clause-still : goal.returns-in-Fed-clause-still
returns-in-Fed-clause-still g c = quiet_of (side_of c.args.self.now.old).children c.args.met _ c.in-Fed.is (sym c.in-None.ensures)

pub returns-in-Left-clause-still : goal.returns-in-Left-clause-still
returns-in-Left-clause-still g c = quiet_of (side_of c.args.self.now.old).children c.args.met _ c.in-Left.is tt

pub returns-in-First-clause-still : goal.returns-in-First-clause-still
returns-in-First-clause-still g c = only_quiet (side_of c.args.self.now.old).children c.args.met c.in_default.not-Comes c.in_default.not-Fed c.in_default.not-Made

pub returns-clause-still : goal.returns-clause-still
returns-clause-still g c = only_quiet (side_of c.args.self.now.old).children c.args.met c.in_default.not-Comes c.in_default.not-Fed c.in_default.not-Made

-- what a mark leaves for the end
pub returns-in-Stays-clause-ends : goal.returns-in-Stays-clause-ends
returns-in-Stays-clause-ends g c = leaves_nothing c.args.met _ c.args.self.now c.args.self.now c.in-Stays.is (λ scope side. refl) refl refl refl

pub returns-in-Goes-clause-ends : goal.returns-in-Goes-clause-ends
returns-in-Goes-clause-ends g c =
    let n = c.in-Goes in
    let went = c.in_ok-go-in-Goes.ensures in
    leaves_as c.args.met _ c.args.self.now c.go.new.self n.is (goes_at (place_of n.place) (kind_of n.kind) c.args.self.now c.go.new.self (ap (λ d. d.items) went.drops) went.told)

pub returns-in-Comes-clause-ends : goal.returns-in-Comes-clause-ends
returns-in-Comes-clause-ends g c =
    let drawn = c.in_ok-id-in-Comes.ensures in
    leaves_nothing c.args.met _ c.args.self.now c.draw.new.self c.in-Comes.is (λ scope side. refl) refl (ap (λ d. d.items) drawn.drops) (ap (λ d. d.items) drawn.gone)

pub returns-in-Some-clause-ends : goal.returns-in-Some-clause-ends
returns-in-Some-clause-ends g c = leaves_nothing c.args.met _ c.args.self.now c.args.self.now c.in-Fed.is (λ scope side. refl) refl refl refl

pub returns-in-Fed-clause-ends : goal.returns-in-Fed-clause-ends
returns-in-Fed-clause-ends g c = leaves_nothing c.args.met _ c.args.self.now c.args.self.now c.in-Fed.is (λ scope side. refl) refl refl refl

pub returns-in-Left-clause-ends : goal.returns-in-Left-clause-ends
returns-in-Left-clause-ends g c =
    let n = c.in-Left in
    let left = c.in_ok-leave-in-Left.ensures in
    leaves_as c.args.met _ c.args.self.now c.leave.new.self n.is
    (left_at (place_of n.place) (component_of n.was) c.args.self.now c.leave.new.self left.dropped (ap (λ d. d.items) left.gone))

pub returns-in-Made-clause-ends : goal.returns-in-Made-clause-ends
returns-in-Made-clause-ends g c =
    leaves_nothing c.args.met _ c.args.self.now (record c.args.self.now { phase = phase.Make c.in-Made.place }) c.in-Made.is (λ scope side. refl) refl refl refl

pub returns-in-Asks-clause-ends : goal.returns-in-Asks-clause-ends
returns-in-Asks-clause-ends g c =
    let wrote = c.in_ok-scope-in_default.ensures in
    record { drops = ap (λ d. d.items) wrote.drops; gone = ap (λ d. d.items) wrote.gone }

pub returns-in-First-clause-ends : goal.returns-in-First-clause-ends
returns-in-First-clause-ends g c =
    let wrote = c.in_ok-scope-in_default.ensures in
    only_leaves c.args.met c.args.self.now c.write.new.self c.in_default.not-Goes c.in_default.not-Left (ap (λ d. d.items) wrote.drops) (ap (λ d. d.items) wrote.gone)

pub returns-clause-ends : goal.returns-clause-ends
returns-clause-ends g c =
    let wrote = c.in_ok-scope-in_default.ensures in
    only_leaves c.args.met c.args.self.now c.write.new.self c.in_default.not-Goes c.in_default.not-Left (ap (λ d. d.items) wrote.drops) (ap (λ d. d.items) wrote.gone)

-- a number is drawn before their end, and a fault comes at a node that comes
pub returns-in-Comes-clause-before_end : goal.returns-in-Comes-clause-before_end
returns-in-Comes-clause-before_end g c = c.in_ok-id-in-Comes.ensures.before_end

pub returns-in_err-id-in-Comes-clause-coming : goal.returns-in_err-id-in-Comes-clause-coming
returns-in_err-id-in-Comes-clause-coming g c =
    let stopped = err_from_is_err_and c.from_residual-in_err-id-in-Comes.result c.from_residual-in_err-id-in-Comes.ensures.1 in
    rw (stopped.1, stopped.2) (λ fault. comes_here c.args.met _ c.in-Comes.is tt)
