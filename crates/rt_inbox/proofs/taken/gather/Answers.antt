use Rattle.std.proofs.Common.{◌≡◌, ◌++◌, [], sym, ap, ◌∙◌, subst}
use Rattle.rt_inbox.specs.declared.view.View.TheVariants.{Owning}
use Rattle.rt_inbox.specs.Rule.{entries, made_in, taken_in}
use Rattle.rt_inbox.specs.Ends.{posters_of, taken_of}
use Rattle.rt_inbox.specs.Gathered.{each_entry}
use Rattle.rt_inbox.proofs.Gathered.{Covers, all_cover, merged, kept}
use Rattle.rt_inbox.proofs.taken.gather.Goals as goal

pub take_left-left-requires-clause-all : goal.take_left-left-requires-clause-all
take_left-left-requires-clause-all g c =
    let es = each_entry c.args.notifiers.items in
    let mine : c.into_pass-pass.result.me.view.client ≡ Owning (taken_of c.args.owner) (posters_of c.args.inbox.now) [] =
    rw c.into_pass-pass.ensures.pass c.requires.owner.1 in
    let joined = c.join_all-accepted.ensures.owner ∙ ap (λ v. Owning (taken_in v) (made_in v) es) mine in
    subst (λ v. Covers (made_in v) (entries v)) (sym joined) (all_cover (posters_of c.args.inbox.now) c.args.notifiers.items c.requires.all)

pub returns-clause-merged : goal.returns-clause-merged
returns-clause-merged g c =
    let es = each_entry c.args.notifiers.items in
    let left = c.take_left-left.result.items in
    let mine : c.into_pass-pass.result.me.view.client ≡ Owning (taken_of c.args.owner) (posters_of c.args.inbox.now) [] =
    rw c.into_pass-pass.ensures.pass c.requires.owner.1 in
    let joined = c.join_all-accepted.ensures.owner ∙ ap (λ v. Owning (taken_in v) (made_in v) es) mine in
    let ended = c.take_left-left.ensures.owner ∙ ap (λ v. Owning (taken_in v ++ left) (made_in v) (entries v)) joined in
    merged c.take_left-left.new.owner.me.view.client (taken_of c.args.owner ++ left) (posters_of c.args.inbox.now) es c.join_all-accepted.result.items ended
    c.take_left-left.ensures.none (all_cover (posters_of c.args.inbox.now) c.args.notifiers.items c.requires.all) c.join_all-accepted.ensures.filed c.join_all-accepted.ensures.posters

pub returns-clause-accepted : goal.returns-clause-accepted
returns-clause-accepted g c =
    let es = each_entry c.args.notifiers.items in
    let left = c.take_left-left.result.items in
    let mine : c.into_pass-pass.result.me.view.client ≡ Owning (taken_of c.args.owner) (posters_of c.args.inbox.now) [] =
    rw c.into_pass-pass.ensures.pass c.requires.owner.1 in
    let joined = c.join_all-accepted.ensures.owner ∙ ap (λ v. Owning (taken_in v) (made_in v) es) mine in
    let ended = c.take_left-left.ensures.owner ∙ ap (λ v. Owning (taken_in v ++ left) (made_in v) (entries v)) joined in
    kept c.take_left-left.new.owner.me.view.client (taken_of c.args.owner ++ left) (posters_of c.args.inbox.now) c.args.notifiers.items c.join_all-accepted.result.items ended
    c.take_left-left.ensures.none c.join_all-accepted.ensures.filed
