-- The queues hold what is entered and owed, after each change.
use Rattle.std.proofs.Common.{◌≡◌, ℕ, ◌+◌, ◌<◌, ◌≤◌, true, false, List, [], ◌∷◌, ◌++◌, nat_eq, eqb, refl, ap, ◌∙◌, sym, subst, arith}
use Rattle.std.specs.Prelude.{None}
use Rattle.rt_lemmas.proofs.Numbers.{other_way as other_round}
use Rattle.rt_model.specs.Lists.{drop_number, has, join, without}
use Rattle.rt_model.specs.State.{Mark, Woken}
use Rattle.rt_model.specs.Commands.{drop_posted}
use Rattle.rt_model.proofs.Members.{number_left}
use Rattle.run_owed.specs.Lists.{EachOnce, first_with, held, marks_in, numbers_of, wakes_in}
use Rattle.run_owed.specs.Owing.{Owing, living, looked}
use Rattle.run_owed.specs.Stands.{AllBelow, AllIn, StandsFor, entered_order, line, owner_order, owners_of}
use Rattle.run_owed.proofs.Held.{apart}
use Rattle.run_owed.proofs.Line.{drop_line, look_line, others_stay, push_line, same_line}
use Rattle.run_owed.proofs.Once.{marks_mark, marks_unmark, marks_unwake, marks_wake, once_joined, once_less, once_more, wakes_mark, wakes_unmark, wakes_unwake, wakes_wake}
use Rattle.run_owed.proofs.Tables.{numbers_more, numbers_without}
use Rattle.run_owed.proofs.Within.{below_by, below_dropped, below_pushed, below_wider, gone_from, in_both_dropped, in_by, in_dropped, in_joined, in_joins, in_less, in_living, in_more, in_pushed, living_drop, living_entered, living_left, living_push, not_below}
use Rattle.rt_sched.specs.Lines.{orders_of, with_waiting, without_waiting}
use Rattle.rt_sched.specs.Queues.{Waiting, all_seen, looked as looked_queues, with_scope, without_scope, without_tasks_of}
use Rattle.rt_sched.specs.Rosters.{all_waiting}
use Rattle.rt_sched.specs.declared.order.ScopeOrder.{ScopeOrder}
use Rattle.run_owed.proofs.Entered.{drop_absent, entered_less, entered_more, entered_new, no_owner, not_owner, not_waiting, once_joins, order_with, other_test, owner_in, owner_less, owner_more, owner_new, owners_less, owners_more, scopes_drop, scopes_join, scopes_look, scopes_push}

module _ (o : Owing) (q : Waiting (Unit {0})) (next : ℕ) (k : StandsFor o q next) where
  abbrev all_scopes : List ℕ
  all_scopes = numbers_of o.scopes

  abbrev all_tasks : List ℕ
  all_tasks = numbers_of o.tasks

  abbrev marks : List ℕ
  marks = marks_in o.posted

  abbrev wakes : List ℕ
  wakes = wakes_in o.posted

  -- the scopes under which tasks stand have one order by two lists
  tasks_by : (new : List (ℕ × ℕ)) → ((s : ℕ) → has all_scopes s ≡ true → entered_order o.scopes s ≡ entered_order new s)
      → (t : ℕ) → has all_tasks t ≡ true → owner_order o.scopes o.tasks t ≡ owner_order new o.tasks t
  tasks_by new same t there = same (held o.tasks t) (owner_in all_scopes o.tasks k.owed.owners t there)

  pub stood_scope : (s h : ℕ) → next ≤ s → StandsFor (record o { scopes = o.scopes ++ (s, h) ∷ [] }) (record q { scopes = with_scope (order_with h s) q.scopes }) (s + 1)
  stood_scope s h high =
      let new : List (ℕ × ℕ) = o.scopes ++ (s, h) ∷ [] in
      let fresh : has all_scopes s ≡ false = not_below next s all_scopes k.owed.scopes_below high in
      let unmarked : has marks s ≡ false = not_below next s marks k.owed.marks_below high in
      let same : (m : ℕ) → has all_scopes m ≡ true → entered_order o.scopes m ≡ entered_order new m = entered_more o.scopes s h fresh in
      let by_task : (t : ℕ) → has all_tasks t ≡ true → owner_order o.scopes o.tasks t ≡ owner_order new o.tasks t = tasks_by new same in
      let wide : next ≤ s + 1 = omega (arith, high) in
      let last : s < s + 1 = omega arith in
      record {
        queues = record {
          scopes = ap (λ (os : List ScopeOrder). with_scope (order_with h s) os) (k.queues.scopes ∙ ap orders_of (same_line (entered_order o.scopes) (entered_order new) all_scopes same))
              ∙ ap (λ (p : ScopeOrder). with_scope p (orders_of (line (entered_order new) all_scopes))) (sym (entered_new o.scopes s h fresh))
              ∙ scopes_push new all_scopes s
              ∙ ap (λ (ns : List ℕ). orders_of (line (entered_order new) ns)) (sym (numbers_more o.scopes s h));
          tasks = k.queues.tasks ∙ same_line (owner_order o.scopes o.tasks) (owner_order new o.tasks) all_tasks by_task;
          seen = k.queues.seen
              ∙ ap orders_of (same_line (entered_order o.scopes) (entered_order new) o.seen (λ m there. same m (in_by all_scopes o.seen k.owed.seen m there)));
          queued = k.queues.queued
              ∙ same_line (owner_order o.scopes o.tasks) (owner_order new o.tasks) o.queued (λ t there. by_task t (in_by all_tasks o.queued k.owed.queued t there));
          marks = k.queues.marks
              ∙ ap orders_of (same_line (entered_order o.scopes) (entered_order new) (living o.scopes marks) (λ m there. same m (in_by all_scopes (living o.scopes marks) (in_living o.scopes marks) m there)))
              ∙ ap (λ (ns : List ℕ). orders_of (line (entered_order new) ns)) (sym (living_entered o.scopes s h marks unmarked));
          wakes = k.queues.wakes
              ∙ same_line (owner_order o.scopes o.tasks) (owner_order new o.tasks) (living o.tasks wakes) (λ t there. by_task t (in_by all_tasks (living o.tasks wakes) (in_living o.tasks wakes) t there));
        };
        owed = record {
          seen = subst (λ (ns : List ℕ). AllIn ns o.seen) (sym (numbers_more o.scopes s h)) (in_more all_scopes s o.seen k.owed.seen);
          queued = k.owed.queued;
          wakes = k.owed.wakes;
          owners = subst (λ (ns : List ℕ). AllIn ns (owners_of o.tasks)) (sym (numbers_more o.scopes s h)) (in_more all_scopes s (owners_of o.tasks) k.owed.owners);
          tasks_once = k.owed.tasks_once;
          seen_once = k.owed.seen_once;
          queued_once = k.owed.queued_once;
          scopes_below = subst (λ (ns : List ℕ). AllBelow (s + 1) ns) (sym (numbers_more o.scopes s h)) (below_pushed (s + 1) s all_scopes last (below_wider next (s + 1) all_scopes wide k.owed.scopes_below));
          marks_below = below_wider next (s + 1) marks wide k.owed.marks_below;
        };
      }

  pub stood_left : (s : ℕ) (fx : List (ScopeOrder × List (Unit {0}))) → has o.seen s ≡ false → first_with s o.tasks ≡ None
      → StandsFor (record o { scopes = without o.scopes s })
      (record {
        scopes = without_scope s q.scopes;
        tasks = without_tasks_of s q.tasks;
        seen = without_scope s q.seen;
        queued = without_tasks_of s q.queued;
        posted_scopes = without_scope s q.posted_scopes;
        posted_tasks = without_tasks_of s q.posted_tasks;
        effects = fx;
      }) next
  stood_left s fx unseen no_task =
      let new : List (ℕ × ℕ) = without o.scopes s in
      let gone : numbers_of new ≡ drop_number all_scopes s = numbers_without o.scopes s in
      let other : (t : ℕ) → has all_tasks t ≡ true → nat_eq s (held o.tasks t) ≡ false = λ t there. other_round (held o.tasks t) s (not_owner s o.tasks no_task t there) in
      let of_none : (t : ℕ) → has all_tasks t ≡ true → eqb s (held o.tasks t) ≡ false = λ t there. other_test (held o.tasks t) s (not_owner s o.tasks no_task t there) in
      let by_task : (t : ℕ) → has all_tasks t ≡ true → owner_order o.scopes o.tasks t ≡ owner_order new o.tasks t = λ t there. entered_less o.scopes s (held o.tasks t) (other t there) in
      record {
        queues = record {
          scopes = ap (without_scope s) k.queues.scopes
              ∙ scopes_drop o.scopes all_scopes s
              ∙ ap orders_of (same_line (entered_order o.scopes) (entered_order new) (drop_number all_scopes s) (λ m there. entered_less o.scopes s m (number_left all_scopes s m there).1))
              ∙ ap (λ (ns : List ℕ). orders_of (line (entered_order new) ns)) (sym gone);
          tasks = ap (without_tasks_of s) k.queues.tasks
              ∙ others_stay (owner_order o.scopes o.tasks) s all_tasks of_none
              ∙ same_line (owner_order o.scopes o.tasks) (owner_order new o.tasks) all_tasks by_task;
          seen = ap (without_scope s) k.queues.seen
              ∙ scopes_drop o.scopes o.seen s
              ∙ ap (λ (ns : List ℕ). orders_of (line (entered_order o.scopes) ns)) (drop_absent o.seen s unseen)
              ∙ ap orders_of (same_line (entered_order o.scopes) (entered_order new) o.seen (λ m there. entered_less o.scopes s m (apart o.seen s m unseen there)));
          queued = ap (without_tasks_of s) k.queues.queued
              ∙ others_stay (owner_order o.scopes o.tasks) s o.queued (λ t there. of_none t (in_by all_tasks o.queued k.owed.queued t there))
              ∙ same_line (owner_order o.scopes o.tasks) (owner_order new o.tasks) o.queued (λ t there. by_task t (in_by all_tasks o.queued k.owed.queued t there));
          marks = ap (without_scope s) k.queues.marks
              ∙ scopes_drop o.scopes (living o.scopes marks) s
              ∙ ap orders_of (same_line (entered_order o.scopes) (entered_order new) (drop_number (living o.scopes marks) s) (λ m there. entered_less o.scopes s m (number_left (living o.scopes marks) s m there).1))
              ∙ ap (λ (ns : List ℕ). orders_of (line (entered_order new) ns)) (sym (living_left o.scopes s marks));
          wakes = ap (without_tasks_of s) k.queues.wakes
              ∙ others_stay (owner_order o.scopes o.tasks) s (living o.tasks wakes) (λ t there. of_none t (in_by all_tasks (living o.tasks wakes) (in_living o.tasks wakes) t there))
              ∙ same_line (owner_order o.scopes o.tasks) (owner_order new o.tasks) (living o.tasks wakes) (λ t there. by_task t (in_by all_tasks (living o.tasks wakes) (in_living o.tasks wakes) t there));
        };
        owed = record {
          seen = subst (λ (ns : List ℕ). AllIn ns o.seen) (sym gone) (in_less all_scopes s o.seen unseen k.owed.seen);
          queued = k.owed.queued;
          wakes = k.owed.wakes;
          owners = subst (λ (ns : List ℕ). AllIn ns (owners_of o.tasks)) (sym gone) (in_less all_scopes s (owners_of o.tasks) (no_owner s o.tasks no_task) k.owed.owners);
          tasks_once = k.owed.tasks_once;
          seen_once = k.owed.seen_once;
          queued_once = k.owed.queued_once;
          scopes_below = subst (λ (ns : List ℕ). AllBelow next ns) (sym gone) (below_dropped next s all_scopes k.owed.scopes_below);
          marks_below = k.owed.marks_below;
        };
      }

  pub stood_task : (t s : ℕ) → has all_scopes s ≡ true → has all_tasks t ≡ false
      → StandsFor (record o { tasks = o.tasks ++ (t, s) ∷ [] }) (record q { tasks = with_waiting (entered_order o.scopes s) t q.tasks }) next
  stood_task t s live fresh =
      let new : List (ℕ × ℕ) = o.tasks ++ (t, s) ∷ [] in
      let same : (m : ℕ) → has all_tasks m ≡ true → owner_order o.scopes o.tasks m ≡ owner_order o.scopes new m = λ m there. owner_more o.scopes o.tasks t s m (apart all_tasks t m fresh there) in
      record {
        queues = record {
          scopes = k.queues.scopes;
          tasks = ap (λ (es : List (ScopeOrder × ℕ)). with_waiting (entered_order o.scopes s) t es) (k.queues.tasks ∙ same_line (owner_order o.scopes o.tasks) (owner_order o.scopes new) all_tasks same)
              ∙ ap (λ (p : ScopeOrder). with_waiting p t (line (owner_order o.scopes new) all_tasks)) (sym (owner_new o.scopes o.tasks t s fresh))
              ∙ sym (push_line (owner_order o.scopes new) all_tasks t)
              ∙ ap (λ (ns : List ℕ). line (owner_order o.scopes new) ns) (sym (numbers_more o.tasks t s));
          seen = k.queues.seen;
          queued = k.queues.queued ∙ same_line (owner_order o.scopes o.tasks) (owner_order o.scopes new) o.queued (λ m there. same m (in_by all_tasks o.queued k.owed.queued m there));
          marks = k.queues.marks;
          wakes = k.queues.wakes
              ∙ same_line (owner_order o.scopes o.tasks) (owner_order o.scopes new) (living o.tasks wakes) (λ m there. same m (in_by all_tasks (living o.tasks wakes) (in_living o.tasks wakes) m there))
              ∙ ap (λ (ns : List ℕ). line (owner_order o.scopes new) ns) (sym (living_entered o.tasks t s wakes (not_waiting o.tasks wakes t k.owed.wakes fresh)));
        };
        owed = record {
          seen = k.owed.seen;
          queued = subst (λ (ns : List ℕ). AllIn ns o.queued) (sym (numbers_more o.tasks t s)) (in_more all_tasks t o.queued k.owed.queued);
          wakes = subst (λ (ns : List ℕ). AllIn ns wakes) (sym (numbers_more o.tasks t s)) (in_more all_tasks t wakes k.owed.wakes);
          owners = subst (λ (ns : List ℕ). AllIn all_scopes ns) (sym (owners_more o.tasks t s)) (in_pushed all_scopes s (owners_of o.tasks) live k.owed.owners);
          tasks_once = subst (λ (ns : List ℕ). EachOnce ns) (sym (numbers_more o.tasks t s)) (once_more all_tasks t k.owed.tasks_once fresh);
          seen_once = k.owed.seen_once;
          queued_once = k.owed.queued_once;
          scopes_below = k.owed.scopes_below;
          marks_below = k.owed.marks_below;
        };
      }

  pub stood_ended : (t : ℕ) → StandsFor (record o { posted = drop_posted o.posted (Woken t); queued = drop_number o.queued t; tasks = without o.tasks t })
      (record q { tasks = without_waiting t q.tasks; queued = without_waiting t q.queued; posted_tasks = without_waiting t q.posted_tasks }) next
  stood_ended t =
      let new : List (ℕ × ℕ) = without o.tasks t in
      let gone : numbers_of new ≡ drop_number all_tasks t = numbers_without o.tasks t in
      let left : (ns : List ℕ) → line (owner_order o.scopes o.tasks) (drop_number ns t) ≡ line (owner_order o.scopes new) (drop_number ns t) =
      λ ns. same_line (owner_order o.scopes o.tasks) (owner_order o.scopes new) (drop_number ns t) (λ m there. owner_less o.scopes o.tasks t m (number_left ns t m there).1) in
      let waiting : living new (wakes_in (drop_posted o.posted (Woken t))) ≡ drop_number (living o.tasks wakes) t =
      ap (λ (ns : List ℕ). living new ns) (wakes_unwake o.posted t)
      ∙ living_left o.tasks t (drop_number wakes t)
      ∙ ap (λ (ns : List ℕ). drop_number ns t) (living_drop o.tasks wakes t)
      ∙ drop_absent (drop_number (living o.tasks wakes) t) t (gone_from (living o.tasks wakes) t) in
      record {
        queues = record {
          scopes = k.queues.scopes;
          tasks = ap (without_waiting t) k.queues.tasks ∙ sym (drop_line (owner_order o.scopes o.tasks) all_tasks t) ∙ left all_tasks ∙ ap (λ (ns : List ℕ). line (owner_order o.scopes new) ns) (sym gone);
          seen = k.queues.seen;
          queued = ap (without_waiting t) k.queues.queued ∙ sym (drop_line (owner_order o.scopes o.tasks) o.queued t) ∙ left o.queued;
          marks = k.queues.marks ∙ ap (λ (ns : List ℕ). orders_of (line (entered_order o.scopes) (living o.scopes ns))) (sym (marks_unwake o.posted t));
          wakes = ap (without_waiting t) k.queues.wakes ∙ sym (drop_line (owner_order o.scopes o.tasks) (living o.tasks wakes) t) ∙ left (living o.tasks wakes) ∙ ap (λ (ns : List ℕ). line (owner_order o.scopes new) ns) (sym waiting);
        };
        owed = record {
          seen = k.owed.seen;
          queued = subst (λ (ns : List ℕ). AllIn ns (drop_number o.queued t)) (sym gone) (in_both_dropped all_tasks t o.queued k.owed.queued);
          wakes = subst (λ (ns : List ℕ). AllIn (numbers_of new) ns) (sym (wakes_unwake o.posted t)) (subst (λ (ns : List ℕ). AllIn ns (drop_number wakes t)) (sym gone) (in_both_dropped all_tasks t wakes k.owed.wakes));
          owners = owners_less all_scopes o.tasks t k.owed.owners;
          tasks_once = subst (λ (ns : List ℕ). EachOnce ns) (sym gone) (once_less all_tasks t k.owed.tasks_once);
          seen_once = k.owed.seen_once;
          queued_once = once_less o.queued t k.owed.queued_once;
          scopes_below = k.owed.scopes_below;
          marks_below = subst (λ (ns : List ℕ). AllBelow next ns) (sym (marks_unwake o.posted t)) k.owed.marks_below;
        };
      }

  pub stood_marked : (s : ℕ) → has all_scopes s ≡ true → StandsFor (record o { posted = o.posted ++ Mark s ∷ [] }) (record q { posted_scopes = with_scope (entered_order o.scopes s) q.posted_scopes }) next
  stood_marked s live =
      record {
        queues = record {
          scopes = k.queues.scopes;
          tasks = k.queues.tasks;
          seen = k.queues.seen;
          queued = k.queues.queued;
          marks = ap (λ (os : List ScopeOrder). with_scope (entered_order o.scopes s) os) k.queues.marks
              ∙ scopes_push o.scopes (living o.scopes marks) s
              ∙ ap (λ (ns : List ℕ). orders_of (line (entered_order o.scopes) ns)) (sym (ap (λ (ns : List ℕ). living o.scopes ns) (marks_mark o.posted s) ∙ living_push o.scopes marks s live));
          wakes = k.queues.wakes ∙ ap (λ (ns : List ℕ). line (owner_order o.scopes o.tasks) (living o.tasks ns)) (sym (wakes_mark o.posted s));
        };
        owed = record {
          seen = k.owed.seen;
          queued = k.owed.queued;
          wakes = subst (λ (ns : List ℕ). AllIn all_tasks ns) (sym (wakes_mark o.posted s)) k.owed.wakes;
          owners = k.owed.owners;
          tasks_once = k.owed.tasks_once;
          seen_once = k.owed.seen_once;
          queued_once = k.owed.queued_once;
          scopes_below = k.owed.scopes_below;
          marks_below = subst (λ (ns : List ℕ). AllBelow next ns) (sym (marks_mark o.posted s)) (below_pushed next s marks (below_by next all_scopes k.owed.scopes_below s live) k.owed.marks_below);
        };
      }

  pub stood_woken : (t : ℕ) → has all_tasks t ≡ true → StandsFor (record o { posted = o.posted ++ Woken t ∷ [] }) (record q { posted_tasks = with_waiting (owner_order o.scopes o.tasks t) t q.posted_tasks }) next
  stood_woken t live =
      record {
        queues = record {
          scopes = k.queues.scopes;
          tasks = k.queues.tasks;
          seen = k.queues.seen;
          queued = k.queues.queued;
          marks = k.queues.marks ∙ ap (λ (ns : List ℕ). orders_of (line (entered_order o.scopes) (living o.scopes ns))) (sym (marks_wake o.posted t));
          wakes = ap (λ (es : List (ScopeOrder × ℕ)). with_waiting (owner_order o.scopes o.tasks t) t es) k.queues.wakes
              ∙ sym (push_line (owner_order o.scopes o.tasks) (living o.tasks wakes) t)
              ∙ ap (λ (ns : List ℕ). line (owner_order o.scopes o.tasks) ns) (sym (ap (λ (ns : List ℕ). living o.tasks ns) (wakes_wake o.posted t) ∙ living_push o.tasks wakes t live));
        };
        owed = record {
          seen = k.owed.seen;
          queued = k.owed.queued;
          wakes = subst (λ (ns : List ℕ). AllIn all_tasks ns) (sym (wakes_wake o.posted t)) (in_pushed all_tasks t wakes live k.owed.wakes);
          owners = k.owed.owners;
          tasks_once = k.owed.tasks_once;
          seen_once = k.owed.seen_once;
          queued_once = k.owed.queued_once;
          scopes_below = k.owed.scopes_below;
          marks_below = subst (λ (ns : List ℕ). AllBelow next ns) (sym (marks_wake o.posted t)) k.owed.marks_below;
        };
      }

  pub stood_unmarked : (s : ℕ) → StandsFor (record o { posted = drop_posted o.posted (Mark s); seen = drop_number o.seen s })
      (record q { seen = without_scope s q.seen; posted_scopes = without_scope s q.posted_scopes }) next
  stood_unmarked s =
      record {
        queues = record {
          scopes = k.queues.scopes;
          tasks = k.queues.tasks;
          seen = ap (without_scope s) k.queues.seen ∙ scopes_drop o.scopes o.seen s;
          queued = k.queues.queued;
          marks = ap (without_scope s) k.queues.marks
              ∙ scopes_drop o.scopes (living o.scopes marks) s
              ∙ ap (λ (ns : List ℕ). orders_of (line (entered_order o.scopes) ns)) (sym (ap (λ (ns : List ℕ). living o.scopes ns) (marks_unmark o.posted s) ∙ living_drop o.scopes marks s));
          wakes = k.queues.wakes ∙ ap (λ (ns : List ℕ). line (owner_order o.scopes o.tasks) (living o.tasks ns)) (sym (wakes_unmark o.posted s));
        };
        owed = record {
          seen = in_dropped all_scopes s o.seen k.owed.seen;
          queued = k.owed.queued;
          wakes = subst (λ (ns : List ℕ). AllIn all_tasks ns) (sym (wakes_unmark o.posted s)) k.owed.wakes;
          owners = k.owed.owners;
          tasks_once = k.owed.tasks_once;
          seen_once = once_less o.seen s k.owed.seen_once;
          queued_once = k.owed.queued_once;
          scopes_below = k.owed.scopes_below;
          marks_below = subst (λ (ns : List ℕ). AllBelow next ns) (sym (marks_unmark o.posted s)) (below_dropped next s marks k.owed.marks_below);
        };
      }

  pub stood_unwoken : (t : ℕ) → StandsFor (record o { posted = drop_posted o.posted (Woken t); queued = drop_number o.queued t })
      (record q { queued = without_waiting t q.queued; posted_tasks = without_waiting t q.posted_tasks }) next
  stood_unwoken t =
      record {
        queues = record {
          scopes = k.queues.scopes;
          tasks = k.queues.tasks;
          seen = k.queues.seen;
          queued = ap (without_waiting t) k.queues.queued ∙ sym (drop_line (owner_order o.scopes o.tasks) o.queued t);
          marks = k.queues.marks ∙ ap (λ (ns : List ℕ). orders_of (line (entered_order o.scopes) (living o.scopes ns))) (sym (marks_unwake o.posted t));
          wakes = ap (without_waiting t) k.queues.wakes
              ∙ sym (drop_line (owner_order o.scopes o.tasks) (living o.tasks wakes) t)
              ∙ ap (λ (ns : List ℕ). line (owner_order o.scopes o.tasks) ns) (sym (ap (λ (ns : List ℕ). living o.tasks ns) (wakes_unwake o.posted t) ∙ living_drop o.tasks wakes t));
        };
        owed = record {
          seen = k.owed.seen;
          queued = in_dropped all_tasks t o.queued k.owed.queued;
          wakes = subst (λ (ns : List ℕ). AllIn all_tasks ns) (sym (wakes_unwake o.posted t)) (in_dropped all_tasks t wakes k.owed.wakes);
          owners = k.owed.owners;
          tasks_once = k.owed.tasks_once;
          seen_once = k.owed.seen_once;
          queued_once = once_less o.queued t k.owed.queued_once;
          scopes_below = k.owed.scopes_below;
          marks_below = subst (λ (ns : List ℕ). AllBelow next ns) (sym (marks_unwake o.posted t)) k.owed.marks_below;
        };
      }

  pub stood_seen : (s : ℕ) → has all_scopes s ≡ true → StandsFor (record o { seen = join o.seen s }) (record q { seen = with_scope (entered_order o.scopes s) q.seen }) next
  stood_seen s live =
      record {
        queues = record {
          scopes = k.queues.scopes;
          tasks = k.queues.tasks;
          seen = ap (λ (os : List ScopeOrder). with_scope (entered_order o.scopes s) os) k.queues.seen ∙ scopes_join o.scopes o.seen s;
          queued = k.queues.queued;
          marks = k.queues.marks;
          wakes = k.queues.wakes;
        };
        owed = record {
          seen = in_joined all_scopes s o.seen live k.owed.seen;
          queued = k.owed.queued;
          wakes = k.owed.wakes;
          owners = k.owed.owners;
          tasks_once = k.owed.tasks_once;
          seen_once = once_joined o.seen s k.owed.seen_once;
          queued_once = k.owed.queued_once;
          scopes_below = k.owed.scopes_below;
          marks_below = k.owed.marks_below;
        };
      }

  pub stood_unseen : (s : ℕ) → StandsFor (record o { seen = drop_number o.seen s }) (record q { seen = without_scope s q.seen }) next
  stood_unseen s =
      record {
        queues = record {
          scopes = k.queues.scopes;
          tasks = k.queues.tasks;
          seen = ap (without_scope s) k.queues.seen ∙ scopes_drop o.scopes o.seen s;
          queued = k.queues.queued;
          marks = k.queues.marks;
          wakes = k.queues.wakes;
        };
        owed = record {
          seen = in_dropped all_scopes s o.seen k.owed.seen;
          queued = k.owed.queued;
          wakes = k.owed.wakes;
          owners = k.owed.owners;
          tasks_once = k.owed.tasks_once;
          seen_once = once_less o.seen s k.owed.seen_once;
          queued_once = k.owed.queued_once;
          scopes_below = k.owed.scopes_below;
          marks_below = k.owed.marks_below;
        };
      }

  pub stood_unqueued : (t : ℕ) → StandsFor (record o { queued = drop_number o.queued t }) (record q { queued = without_waiting t q.queued }) next
  stood_unqueued t =
      record {
        queues = record {
          scopes = k.queues.scopes;
          tasks = k.queues.tasks;
          seen = k.queues.seen;
          queued = ap (without_waiting t) k.queues.queued ∙ sym (drop_line (owner_order o.scopes o.tasks) o.queued t);
          marks = k.queues.marks;
          wakes = k.queues.wakes;
        };
        owed = record {
          seen = k.owed.seen;
          queued = in_dropped all_tasks t o.queued k.owed.queued;
          wakes = k.owed.wakes;
          owners = k.owed.owners;
          tasks_once = k.owed.tasks_once;
          seen_once = k.owed.seen_once;
          queued_once = once_less o.queued t k.owed.queued_once;
          scopes_below = k.owed.scopes_below;
          marks_below = k.owed.marks_below;
        };
      }

  pub stood_looked : StandsFor (looked o) (looked_queues q) next
  stood_looked =
      record {
        queues = record {
          scopes = k.queues.scopes;
          tasks = k.queues.tasks;
          seen = (λ i. all_seen (k.queues.marks i) (k.queues.seen i)) ∙ scopes_look o.scopes (living o.scopes marks) o.seen;
          queued = (λ i. all_waiting (k.queues.wakes i) (k.queues.queued i)) ∙ look_line (owner_order o.scopes o.tasks) (living o.tasks wakes) o.queued;
          marks = refl;
          wakes = refl;
        };
        owed = record {
          seen = in_joins all_scopes o.seen (living o.scopes marks) k.owed.seen (in_living o.scopes marks);
          queued = in_joins all_tasks o.queued (living o.tasks wakes) k.owed.queued (in_living o.tasks wakes);
          wakes = tt;
          owners = k.owed.owners;
          tasks_once = k.owed.tasks_once;
          seen_once = once_joins o.seen (living o.scopes marks) k.owed.seen_once;
          queued_once = once_joins o.queued (living o.tasks wakes) k.owed.queued_once;
          scopes_below = k.owed.scopes_below;
          marks_below = tt;
        };
      }
