-- Each turn takes the scope's first thing, and at the end none is left.
use Rattle.std.proofs.Common.{◌≡◌, ◌∙◌, sym, ap}
use Rattle.rt_cells.specs.Held.{without_scope}
use Rattle.rt_cells.proofs.DroppedContexts.{first_taken, fewer_left, none_left, all_left}
use Rattle.rt_cells.proofs.numbered.Numbered.remove_owned.Goals as goal

pub loop-number-smaller-in-Some : goal.loop-number-smaller-in-Some
loop-number-smaller-in-Some g c =
    fewer_left c.args.owner c.loop-number.self.held c.remove.new.self.held c.in-Some.number c.first_of.ensures.ascending
    (sym c.in-Some.is ∙ c.first_of.ensures.first) (ap (λ numbers. numbers.held) c.remove.ensures.others)

pub loop-number-preserved-in-Some : goal.loop-number-preserved-in-Some
loop-number-preserved-in-Some g c =
    let taken = first_taken c.args.owner c.loop-number.self.held c.in-Some.number c.first_of.ensures.ascending (sym c.in-Some.is ∙ c.first_of.ensures.first) in
    record {
      next = ap (λ numbers. numbers.next) c.remove.ensures.others ∙ c.loop-number.invariant.next;
      others = ap (λ numbers. without_scope c.args.owner numbers.held) c.remove.ensures.others ∙ taken.1 ∙ c.loop-number.invariant.others;
    }

pub loop-number-smaller : goal.loop-number-smaller
loop-number-smaller g c =
    fewer_left c.args.owner c.loop-number.self.held c.remove.new.self.held c.in-Some.number c.first_of.ensures.ascending
    (sym c.in-Some.is ∙ c.first_of.ensures.first) (ap (λ numbers. numbers.held) c.remove.ensures.others)

pub loop-number-preserved : goal.loop-number-preserved
loop-number-preserved g c =
    let taken = first_taken c.args.owner c.loop-number.self.held c.in-Some.number c.first_of.ensures.ascending (sym c.in-Some.is ∙ c.first_of.ensures.first) in
    record {
      next = ap (λ numbers. numbers.next) c.remove.ensures.others ∙ c.loop-number.invariant.next;
      others = ap (λ numbers. without_scope c.args.owner numbers.held) c.remove.ensures.others ∙ taken.1 ∙ c.loop-number.invariant.others;
    }

pub returns : goal.returns
returns g c =
    let none = none_left c.args.owner c.loop-number.self.held (sym c.in_default.is ∙ c.first_of.ensures.first) in
    record {
      others = λ i. record {
        held = (sym (all_left c.args.owner c.loop-number.self.held none) ∙ c.loop-number.invariant.others) i;
        next = c.loop-number.invariant.next i;
      };
    }
