use Rattle.std.proofs.Common.{◌≡◌, ◌++◌, ◌∙◌, false, append_assoc, sym, ap}
use Rattle.rt_cells.specs.Reads.{readers_of}
use Rattle.rt_model.specs.Commands.{readers}
use Rattle.run_records.specs.Records.{source_of}
use Rattle.run_owed.specs.Lists.{numbers_of}
use Rattle.run_owed.specs.Owing.{Owing}
use Rattle.run_state.specs.Mirror.{scopes_of}
use Rattle.run_state.specs.Posts.{posts_of_all, stands_in, targets_in, told_targets}
use Rattle.run_state.proofs.Posts.{owed_twice, with_owed}
use Rattle.run_state.proofs.Told.{all_posted, contexts_posted}
use Rattle.run_state.proofs.posting.post_readers.Goals as goal

pub add_readers-requires : goal.add_readers-requires
add_readers-requires g c = let is = c.as_slice.ensures.rows in record { entered = rw is c.requires.entered }

pub post_each-requires : goal.post_each-requires
post_each-requires g c =
    record {
      entered = c.requires.entered ∙ sym (ap (λ o. numbers_of o.scopes) c.add_readers.ensures.posted);
      woken = c.requires.woken ∙ sym (ap (λ o. numbers_of o.tasks) c.add_readers.ensures.posted);
    }

pub returns-then-not-rises : goal.returns-then-not-rises
returns-then-not-rises g c =
    let a : Owing = c.args.owed.now in
    let b : Owing = c.add_readers.new.owed in
    let marks = readers (source_of c.args.source) (scopes_of c.args.rows.now) in
    let rest = told_targets (stands_in c.args.rows.now) (stands_in c.args.tasks.now) (source_of c.args.source) c.args.order.now c.args.cells.now.contexts in
    let first : b ≡ with_owed a (a.posted ++ marks) =
    c.add_readers.ensures.posted ∙ ap (λ es. with_owed a (a.posted ++ readers (source_of c.args.source) (scopes_of es))) c.as_slice.ensures.rows in
    let told = contexts_posted c.args.rows.now c.args.tasks.now c.args.cells.now.contexts c.args.order.now c.args.cells.now.reads c.args.source (readers_of c.args.source c.args.cells.now.reads)
    c.requires.known c.requires.heard c.post_each.ensures.ascending c.post_each.ensures.members c.post_each.ensures.contexts in
    record {
      posted = owed_twice a b c.post_each.new.owed (a.posted ++ marks)
          (b.posted ++ posts_of_all false (stands_in c.args.rows.now) (stands_in c.args.tasks.now) (targets_in c.args.cells.now.contexts) (readers_of c.args.source c.args.cells.now.reads)) first c.post_each.ensures.posted
          ∙ ap (λ ps. with_owed a ps) ((λ i. (ap (λ (o : Owing). o.posted) first) i ++ told i) ∙ append_assoc a.posted marks rest);
    }

pub returns : goal.returns
returns g c =
    let a : Owing = c.args.owed.now in
    record {
      posted = c.post_each-2.ensures.posted
          ∙ ap (λ ps. with_owed a (a.posted ++ ps))
          (all_posted c.args.rows.now c.args.tasks.now c.args.cells.now.contexts c.args.order.now c.args.cells.now.reads c.args.source (readers_of c.args.source c.args.cells.now.reads)
          c.requires.known c.requires.heard c.post_each-2.ensures.ascending c.post_each-2.ensures.members c.post_each-2.ensures.contexts (c.rises.ensures.rises c.if-not-rises.false));
    }
