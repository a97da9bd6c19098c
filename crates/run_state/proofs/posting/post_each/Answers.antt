use Rattle.std.proofs.Common.{◌++◌, ◌∙◌, append_assoc, refl, subst, sym, ap}
use Rattle.std.specs.BTreeMap.{is_at}
use Rattle.std.specs.List.{list_any}
use Rattle.std.specs.List.Sorted.{IsStrictlySortedBy}
use Rattle.rt_cells.specs.Orders.{reader_cmp}
use Rattle.run_owed.specs.Lists.{numbers_of}
use Rattle.run_state.specs.Posts.{posts_of, posts_of_all, stands_in, targets_in}
use Rattle.run_state.proofs.Posts.{append_none, owed_twice, with_owed}
use Rattle.run_state.proofs.Told.{fewer_readers}
use Rattle.run_state.proofs.posting.post_each.Goals as goal

pub loop-reader-init : goal.loop-reader-init
loop-reader-init g c =
    record {
      same = refl;
      done = ap (λ rs. c.args.owed.now.posted ++ posts_of_all c.args.rises (stands_in c.args.rows.now) (stands_in c.args.tasks.now) (targets_in c.args.cells.now.contexts) rs) c.readers-left.ensures.readers;
    }

pub post_reader-requires : goal.post_reader-requires
post_reader-requires g c =
    record {
      entered = c.requires.entered ∙ sym (ap (λ o. numbers_of o.scopes) c.loop-reader.invariant.same);
      woken = c.requires.woken ∙ sym (ap (λ o. numbers_of o.tasks) c.loop-reader.invariant.same);
    }

pub loop-reader-smaller : goal.loop-reader-smaller
loop-reader-smaller g c = fewer_readers c.loop-reader.left c.next.new.self c.in-Some.reader c.in-Some.ensures.next

pub loop-reader-preserved : goal.loop-reader-preserved
loop-reader-preserved g c =
    let posts = posts_of_all c.args.rises (stands_in c.args.rows.now) (stands_in c.args.tasks.now) (targets_in c.args.cells.now.contexts) in
    let own = posts_of c.args.rises (stands_in c.args.rows.now) (stands_in c.args.tasks.now) (targets_in c.args.cells.now.contexts) c.in-Some.reader in
    record {
      same = owed_twice c.args.owed.now c.loop-reader.owed c.post_reader.new.owed c.loop-reader.owed.posted c.post_reader.new.owed.posted c.loop-reader.invariant.same
          (c.post_reader.ensures.posted ∙ ap (λ ps. with_owed c.loop-reader.owed ps) (sym (ap (λ o. o.posted) c.post_reader.ensures.posted)));
      done = ap (λ ps. ps ++ posts c.next.new.self) (ap (λ o. o.posted) c.post_reader.ensures.posted)
          ∙ append_assoc c.loop-reader.owed.posted own (posts c.next.new.self)
          ∙ ap (λ rs. c.loop-reader.owed.posted ++ posts rs) (sym c.in-Some.ensures.next)
          ∙ c.loop-reader.invariant.done;
    }

pub returns : goal.returns
returns g c =
    let posts = posts_of_all c.args.rises (stands_in c.args.rows.now) (stands_in c.args.tasks.now) (targets_in c.args.cells.now.contexts) in
    record {
      posted = c.loop-reader.invariant.same
          ∙ ap (λ ps. with_owed c.args.owed.now ps)
          (sym (append_none c.loop-reader.owed.posted) ∙ ap (λ rs. c.loop-reader.owed.posted ++ posts rs) (sym c.in_default.ensures.next) ∙ c.loop-reader.invariant.done);
      ascending = subst (λ rs. IsStrictlySortedBy reader_cmp rs) c.readers-left.ensures.readers c.readers-left.ensures.ascending;
      members = λ reader. ap (λ rs. list_any (is_at (reader_cmp reader)) rs) (sym c.readers-left.ensures.readers) ∙ c.readers-left.ensures.members reader;
      contexts = c.readers-left.ensures.contexts;
    }
