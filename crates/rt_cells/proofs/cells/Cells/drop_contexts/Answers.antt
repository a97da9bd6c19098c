-- Each turn takes the scope's first context, and at the end none is left.
use Rattle.std.proofs.Common.{[], cond, nat_eq, None, refl, ◌∙◌, sym, ap}
use Rattle.std.specs.List.{list_any}
use Rattle.rt_cells.specs.declared.sources.Reader.TheVariants as reader
use Rattle.rt_cells.specs.Held.{held_at, numbers_of, without, without_scope}
use Rattle.rt_cells.specs.Reads.{reads_of, without_contexts}
use Rattle.rt_cells.proofs.DroppedContexts.{first_taken, fewer_left, none_left, all_left}
use Rattle.rt_cells.proofs.HeldOnce.{held_without, one_or_rest, ties_back}
use Rattle.rt_cells.proofs.cells.Cells.drop_contexts.Goals as goal

pub loop-number-init : goal.loop-number-init
loop-number-init g c = record {
  cells = refl;
  next = refl;
  others = refl;
  reads = refl;
  scopes = λ scope. refl;
  each = λ number. refl;
  left = λ number. refl;
}

pub loop-number-smaller : goal.loop-number-smaller
loop-number-smaller g c =
    fewer_left c.args.owner c.loop-number.self-inside.contexts.held c.remove-target.new.self.held c.in-Some.number c.first_of.ensures.ascending
    (sym c.in-Some.is ∙ c.first_of.ensures.first) (ap (λ numbers. numbers.held) c.remove-target.ensures.others)

pub loop-number-preserved : goal.loop-number-preserved
loop-number-preserved g c =
    let taken = first_taken c.args.owner c.loop-number.self-inside.contexts.held c.in-Some.number c.first_of.ensures.ascending (sym c.in-Some.is ∙ c.first_of.ensures.first) in
    let left = ap (λ numbers. numbers.held) c.remove-target.ensures.others in
    record {
      cells = c.loop-number.invariant.cells;
      next = ap (λ numbers. numbers.next) c.remove-target.ensures.others ∙ c.loop-number.invariant.next;
      others = ap (without_scope c.args.owner) left ∙ taken.1 ∙ c.loop-number.invariant.others;
      reads = (λ i. without_contexts (numbers_of c.args.owner (left i)) (c.drop_reader.ensures.dropped i))
          ∙ ap (λ numbers. without_contexts numbers c.loop-number.self-inside.reads) (sym taken.0)
          ∙ c.loop-number.invariant.reads;
      scopes = λ scope. c.drop_reader.ensures.each (reader.Scope scope) ∙ c.loop-number.invariant.scopes scope;
      each = λ number.
          (λ i. cond (list_any (nat_eq number) (numbers_of c.args.owner (left i))) []
          ((c.drop_reader.ensures.each (reader.Context number) ∙ ap (λ b. cond b [] (reads_of (reader.Context number) c.loop-number.self-inside.reads)) (ties_back c.in-Some.number number)) i))
          ∙ one_or_rest number c.in-Some.number (numbers_of c.args.owner (without c.in-Some.number c.loop-number.self-inside.contexts.held)) [] (reads_of (reader.Context number) c.loop-number.self-inside.reads)
          ∙ ap (λ numbers. cond (list_any (nat_eq number) numbers) [] (reads_of (reader.Context number) c.loop-number.self-inside.reads)) (sym taken.0)
          ∙ c.loop-number.invariant.each number;
      left = λ number.
          (λ i. cond (list_any (nat_eq number) (numbers_of c.args.owner (left i))) None
          ((ap (held_at number) left ∙ held_without c.loop-number.self-inside.contexts.held c.in-Some.number number c.first_of.ensures.ascending) i))
          ∙ one_or_rest number c.in-Some.number (numbers_of c.args.owner (without c.in-Some.number c.loop-number.self-inside.contexts.held)) None (held_at number c.loop-number.self-inside.contexts.held)
          ∙ ap (λ numbers. cond (list_any (nat_eq number) numbers) None (held_at number c.loop-number.self-inside.contexts.held)) (sym taken.0)
          ∙ c.loop-number.invariant.left number;
    }

pub returns : goal.returns
returns g c =
    let none = none_left c.args.owner c.loop-number.self-inside.contexts.held (sym c.in_default.is ∙ c.first_of.ensures.first) in
    record {
      dropped = rw (← c.self.view_is)
          (λ i. record {
            cells = (c.loop-number.invariant.cells i).held;
            next_cell = (c.loop-number.invariant.cells i).next;
            reads = (ap (λ numbers. without_contexts numbers c.loop-number.self-inside.reads) (sym none) ∙ c.loop-number.invariant.reads) i;
            contexts = (sym (all_left c.args.owner c.loop-number.self-inside.contexts.held none) ∙ c.loop-number.invariant.others) i;
            next_context = c.loop-number.invariant.next i;
          });
      scopes = rw (← c.self.view_is) c.loop-number.invariant.scopes;
      each = rw (← c.self.view_is)
          (λ number. sym (ap (λ numbers. cond (list_any (nat_eq number) numbers) [] (reads_of (reader.Context number) c.loop-number.self-inside.reads)) none)
          ∙ c.loop-number.invariant.each number);
      left = rw (← c.self.view_is)
          (λ number. sym (ap (λ numbers. cond (list_any (nat_eq number) numbers) None (held_at number c.loop-number.self-inside.contexts.held)) none)
          ∙ c.loop-number.invariant.left number);
    }
