use Rattle.std.proofs.Common.{◌≡◌, true, false, [], ◌∷◌, ◌++◌, Some, refl, ap, sym, ◌∙◌}
use Rattle.std.specs.Option.{is_some}
use Rattle.std.specs.Ordering.{nat_cmp}
use Rattle.std.specs.BTreeMap.{get}
use Rattle.rt_values.specs.declared.names.ScopeId.{ScopeId}
use Rattle.rt_sched.specs.Lines.{Row, waits, with_last, with_waiting}
use Rattle.rt_sched.specs.Batches.{has_batch, with_batch}
use Rattle.rt_sched.proofs.BatchLemmas.{by, has_batch_by, by_later, by_begun}
use Rattle.rt_sched.proofs.PendingLemmas.{now_at, on_ok, pending_begun}
use Rattle.rt_sched.proofs.effects.Effects.push.Goals as goal

pub returns-then-contains_key-clause-ok : goal.returns-then-contains_key-clause-ok
returns-then-contains_key-clause-ok g c =
    let number : c.id-number.result.0 ≡ c.args.order.id.0 = ap (λ (i : ScopeId). i.0) c.id-number.ensures.id in
    let n = c.args.order.id.0 in
    let f = get nat_cmp c.self.inside.batches in
    let h = get nat_cmp c.push_later.new.batches in
    let ws = c.self.inside.line.waiting in
    let some : is_some (f n) ≡ true = ap (λ m. is_some (f m)) (sym number) ∙ sym c.contains_key.ensures ∙ c.if-contains_key.true in
    let has : has_batch n (by f ws) ≡ true = has_batch_by n f ws c.self.invariant.tagged ∙ c.self.invariant.kept n ∙ some in
    let ok = rw number at c.push_later.ensures.ok in
    on_ok c.push_later.result _ _ ok (λ e. by_later n c.args.effect f h ws c.self.invariant.tagged e ∙ rw (← c.self.view_is) (rw has refl))

pub invariant_of-self-2 : goal.invariant_of-self-2
invariant_of-self-2 g c =
    let n = c.id-number.result.0 in
    let number : n ≡ c.args.order.id.0 = ap (λ (i : ScopeId). i.0) c.id-number.ensures.id in
    let ws = c.self.inside.line.waiting in
    let none : is_some (get nat_cmp c.self.inside.batches n) ≡ false = sym c.contains_key.ensures ∙ c.if-contains_key.false in
    let absent : waits n ws ≡ false = c.self.invariant.kept n ∙ none in
    let line : c.push-2.new.self.waiting ≡ with_last c.args.order n ws = ap (λ (r : Row). r.waiting) c.push-2.ensures.waits ∙ ap (with_waiting c.args.order n) c.in_default.ensures.waiting ∙ rw absent refl in
    let begun = now_at c.self.inside.batches c.insert.new.self n (Some c.push.new.self) c.in_ok-insert.ensures.updates.0 in
    pending_begun c.self.inside.line c.push-2.new.self c.self.inside.batches c.insert.new.self n c.args.order c.push.new.self c.self.invariant number line begun

pub returns-clause-ok : goal.returns-clause-ok
returns-clause-ok g c =
    let n = c.id-number.result.0 in
    let number : n ≡ c.args.order.id.0 = ap (λ (i : ScopeId). i.0) c.id-number.ensures.id in
    let f = get nat_cmp c.self.inside.batches in
    let h = get nat_cmp c.insert.new.self in
    let ws = c.self.inside.line.waiting in
    let none : is_some (f n) ≡ false = sym c.contains_key.ensures ∙ c.if-contains_key.false in
    let absent : waits n ws ≡ false = c.self.invariant.kept n ∙ none in
    let line : c.push-2.new.self.waiting ≡ with_last c.args.order n ws = ap (λ (r : Row). r.waiting) c.push-2.ensures.waits ∙ ap (with_waiting c.args.order n) c.in_default.ensures.waiting ∙ rw absent refl in
    let begun = now_at c.self.inside.batches c.insert.new.self n (Some c.push.new.self) c.in_ok-insert.ensures.updates.0 in
    let one : c.push.new.self ≡ c.args.effect ∷ [] = c.in_ok-push.ensures.ok ∙ ap (λ es. es ++ c.args.effect ∷ []) c.new-batch.ensures.empty in
    let has : has_batch c.args.order.id.0 (by f ws) ≡ false = has_batch_by c.args.order.id.0 f ws c.self.invariant.tagged ∙ ap (λ m. waits m ws) (sym number) ∙ absent in
    ap (by h) line ∙ by_begun n c.args.order c.push.new.self f h ws absent begun ∙ ap (λ es. with_batch c.args.order es (by f ws)) one ∙ rw (← c.self.view_is) (rw has refl)
