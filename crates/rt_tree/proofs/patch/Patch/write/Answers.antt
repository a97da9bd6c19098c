-- A hidden block writes nothing; a scope that is asked puts the mark back; else the edits of the mark are kept.
use Rattle.std.proofs.Common.{◌≡◌, ◌∷◌, ◌∙◌, refl, sym, ap, map}
use Rattle.std.specs.Prelude.{Some}
use Rattle.tree_edits.specs.Documents.{edit_of}
use Rattle.run_met.specs.Mets.{mark_of, marks_of}
use Rattle.rt_tree.specs.Asks.{asked_at}
use Rattle.rt_tree.specs.Awaits.{awaited}
use Rattle.rt_tree.specs.Counts.{at_end}
use Rattle.rt_tree.specs.Served.{marks_left}
use Rattle.rt_tree.proofs.Quiet.{if_nothing, kept, kept_asks, kept_awaits, kept_front, kept_spent, stays_as, unless_asks, unseen}
use Rattle.rt_tree.proofs.patch.Patch.write.Goals as goal

pub returns-then-not-self-clause-written : goal.returns-then-not-self-clause-written
returns-then-not-self-clause-written g c = unseen c.args.met c.args.self.now c.args.self.now c.if-not-self.true refl c.requires.spent

pub returns-then-not-self-clause-keeps : goal.returns-then-not-self-clause-keeps
returns-then-not-self-clause-keeps g c = stays_as c.args.self.now c.args.self.now refl refl refl refl

pub returns-in_ok-push_front-in-Some-clause-written : goal.returns-in_ok-push_front-in-Some-clause-written
returns-in_ok-push_front-in-Some-clause-written g c = λ app. record {
  marks = ap marks_of c.in_ok-push_front-in-Some.ensures.items;
  spent = ap (λ es. map edit_of es) c.requires.spent;
  asked = sym c.in_ok-scope.ensures ∙ c.in-Some.is;
  shown = c.if-not-self.false;
}

pub returns-in_ok-edits-in-None-clause-awaits : goal.returns-in_ok-edits-in-None-clause-awaits
returns-in_ok-edits-in-None-clause-awaits g c =
    ap (λ p. awaited p.phase) c.keep.ensures.others ∙ c.requires.free ∙ kept_awaits c.in_ok-edits-in-None.edits c.keep.new.self.edits.items c.keep.result c.keep.ensures.first

pub returns-in_ok-edits-in-None-clause-spent : goal.returns-in_ok-edits-in-None-clause-spent
returns-in_ok-edits-in-None-clause-spent g c = kept_spent c.in_ok-edits-in-None.edits c.keep.new.self.edits.items c.keep.result c.keep.ensures.first

pub returns-in_ok-edits-in-None-clause-plan : goal.returns-in_ok-edits-in-None-clause-plan
returns-in_ok-edits-in-None-clause-plan g c = unless_asks c.keep.result (ap (λ p. p.plan.items) c.keep.ensures.others)

pub returns-in_ok-edits-in-None-clause-written : goal.returns-in_ok-edits-in-None-clause-written
returns-in_ok-edits-in-None-clause-written g c =
    kept c.args.met c.args.self.now c.keep.new.self c.in_ok-edits-in-None.edits c.keep.result c.if-not-self.false c.in_ok-edits-in-None.ensures (sym c.in_ok-scope.ensures ∙ c.in-None.is) c.keep.ensures.first
    (ap (λ p. p.plan.items) c.keep.ensures.others)

pub returns-in_ok-edits-in-None-clause-keeps : goal.returns-in_ok-edits-in-None-clause-keeps
returns-in_ok-edits-in-None-clause-keeps g c =
    let same = c.keep.ensures.others in
    if_nothing c.keep.result
    (stays_as c.args.self.now c.keep.new.self (ap (λ p. p.old) same) (ap (λ p. p.new.side) same) (ap (λ p. p.given) same) (ap (λ p. p.shown) same))

pub returns-in_ok-push_front-in-Some-clause-front : goal.returns-in_ok-push_front-in-Some-clause-front
returns-in_ok-push_front-in-Some-clause-front g c = ap marks_of c.in_ok-push_front-in-Some.ensures.items

pub returns-in_ok-edits-in-None-clause-front : goal.returns-in_ok-edits-in-None-clause-front
returns-in_ok-edits-in-None-clause-front g c =
    kept_front (marks_left c.keep.new.self ≡ mark_of c.args.met ∷ marks_left c.args.self.now) c.in_ok-edits-in-None.edits c.keep.new.self.edits.items c.keep.result c.keep.ensures.first

pub returns-in_ok-push_front-in-Some-clause-asks : goal.returns-in_ok-push_front-in-Some-clause-asks
returns-in_ok-push_front-in-Some-clause-asks g c = sym c.in_ok-scope.ensures ∙ c.in-Some.is

pub returns-in_ok-edits-in-None-clause-asks : goal.returns-in_ok-edits-in-None-clause-asks
returns-in_ok-edits-in-None-clause-asks g c =
    kept_asks (λ scope. asked_at c.keep.new.self (mark_of c.args.met) ≡ Some scope.0) c.in_ok-edits-in-None.edits c.keep.new.self.edits.items c.keep.result c.keep.ensures.first

pub returns-in_ok-edits-in-None-clause-was : goal.returns-in_ok-edits-in-None-clause-was
returns-in_ok-edits-in-None-clause-was g c = ap (λ p. p.old) c.keep.ensures.others

pub returns-in_ok-edits-in-None-clause-new : goal.returns-in_ok-edits-in-None-clause-new
returns-in_ok-edits-in-None-clause-new g c = ap (λ p. p.new.side) c.keep.ensures.others

pub returns-in_ok-edits-in-None-clause-rows : goal.returns-in_ok-edits-in-None-clause-rows
returns-in_ok-edits-in-None-clause-rows g c = ap (λ p. p.given) c.keep.ensures.others

pub returns-in_ok-edits-in-None-clause-shows : goal.returns-in_ok-edits-in-None-clause-shows
returns-in_ok-edits-in-None-clause-shows g c = ap (λ p. p.shown) c.keep.ensures.others

pub returns-in_ok-edits-in-None-clause-tree : goal.returns-in_ok-edits-in-None-clause-tree
returns-in_ok-edits-in-None-clause-tree g c = ap (λ p. p.new.side.output) c.keep.ensures.others

pub returns-in_ok-edits-in-None-clause-behind : goal.returns-in_ok-edits-in-None-clause-behind
returns-in_ok-edits-in-None-clause-behind g c = ap (λ p. at_end p) c.keep.ensures.others

pub returns-in_ok-edits-in-None-clause-drops : goal.returns-in_ok-edits-in-None-clause-drops
returns-in_ok-edits-in-None-clause-drops g c = ap (λ p. p.drops) c.keep.ensures.others

pub returns-in_ok-edits-in-None-clause-gone : goal.returns-in_ok-edits-in-None-clause-gone
returns-in_ok-edits-in-None-clause-gone g c = ap (λ p. p.gone) c.keep.ensures.others
