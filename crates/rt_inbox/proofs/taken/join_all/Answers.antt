use Rattle.std.proofs.Common.{◌≡◌, ◌++◌, ◌∷◌, ◌<◌, [], length, set, sym, ap, ◌∙◌, subst, append_assoc, arith}
use Rattle.std.proofs.Math.ListN.{length-set}
use Rattle.std.proofs.lemmas.List.{map-append}
use Rattle.std.proofs.lemmas.List.Elements.{All-pop}
use Rattle.rt_inbox.specs.declared.view.View.TheVariants.{Owning}
use Rattle.rt_inbox.specs.Rule.{entries, made_in, taken_in, with_joined}
use Rattle.rt_inbox.specs.Ends.{IsNotifierOf, number_of}
use Rattle.rt_inbox.specs.Gathered.{each_entry, entry, IsFiled}
use Rattle.rt_inbox.proofs.Gathered.{filed_more}
use Rattle.rt_inbox.proofs.taken.join_all.Goals as goal

pub loop-notifier-preserved : goal.loop-notifier-preserved
loop-notifier-preserved c =
    let first = c.args.owner.now.me.view.client in
    let v = c.loop-notifier.owner.me.view.client in
    let n = c.in-Some.notifier in
    let kept = c.loop-notifier.invariant in
    let popped = All-pop (IsNotifierOf c.args.inbox.now) c.loop-notifier.notifiers.items c.pop.new.self.items c.pop.result c.pop.ensures.items kept.rest in
    let mine : IsNotifierOf c.args.inbox.now n = rw c.in-Some.is at popped.1 in
    let is : c.join.new.owner.me.view.client ≡ Owning (taken_in first) (made_in first) (entry n ∷ entries v) =
    c.join.ensures.owner ∙ ap (λ w. with_joined w n.pass.me.view.client) kept.owner ∙ ap (λ u. with_joined (Owning (taken_in first) (made_in first) (entries v)) u) mine.1 in
    let last : c.loop-notifier.notifiers.items ≡ c.pop.new.self.items ++ n ∷ [] = rw c.in-Some.is at c.pop.ensures.items in
    let rest = each_entry c.pop.new.self.items in
    let moved : each_entry c.loop-notifier.notifiers.items ++ entries v ≡ rest ++ (entry n ∷ entries v) =
    ap (λ ns. each_entry ns ++ entries v) last ∙ ap (λ es. es ++ entries v) (map-append entry c.pop.new.self.items (n ∷ [])) ∙ append_assoc rest (entry n ∷ []) (entries v) in
    let accepted = c.loop-notifier.accepted.items in
    let below : number_of n < length accepted = omega (arith, mine.2, kept.posters) in
    let filed : IsFiled (set accepted n.number c.from_vec.result) (entry n ∷ entries v) =
    subst (λ posts. IsFiled (set accepted n.number posts) (entry n ∷ entries v)) (sym c.from_vec.ensures.items) (filed_more accepted (entries v) (entry n) below kept.filed) in
    record {
      own = c.join.ensures.own;
      owner = is ∙ ap (λ es. Owning (taken_in first) (made_in first) es) (sym (ap entries is));
      joined = kept.joined ∙ moved ∙ ap (λ es. rest ++ es) (sym (ap entries is));
      rest = popped.0;
      filed = subst (λ es. IsFiled (set accepted n.number c.from_vec.result) es) (sym (ap entries is)) filed;
      posters = simp length-set kept.posters;
    }
