-- New numbers of a program are its world's next ones.
use Rattle.std.proofs.Common.{ℕ, zero, suc, Bool, true, false, List, [], ◌∷◌, ◌++◌, ◌+◌, ◌≤◌, ◌≡◌, refl, subst, sym, arith, nat_lt, nat_eq}
use Rattle.std.specs.Prelude.{Option, Some, None, if◌then◌else◌, length, flat_map}
use Rattle.rt_model.specs.Lists.{at, nth}
use Rattle.rt_model.specs.Tree.{Types}
use Rattle.rt_model.specs.World.{Source, Cell, Error, Context, Firsts, at_end, Contexts, Cells, Tasks, Errors, CounterAtEnd, OtherHook, Hook, HookValue, HookEffect, Command, KeepHook, NewCell, Write, DropCell, NewContext, Reset, ReadInto, Spawn, RemoveFuture, Wake, SetActive, QueueEffect, Provide, Update, Throw, ClearErrors, Resolved, Freeze, World, Meaning}
use Rattle.rt_model.specs.Program.{Program, done, current_scope, parent_scope, current_task, rendering, generation, read, error, consume_context, has_context, new_context, run_in, reset_and_run_in, leave, new_cell, write, drop_cell, spawn, remove_future, wake, set_active, queue_effect, after_suspense_resolved, freeze, provide, needs_update, captured, throw, clear_errors, hook_is_new, use_hook, use_effect, Call, noted_at, noted, value_in, parent_in, nearest_boundary, error_in, noted_error, own_context, Found, found_at, no_further, further_up, looked_up, look_up, look_here, own_scope_or, faults, past_hook, kind_of, hook_value, hook_stands, hooked, drew_cell, drew_context, drew_task, drew_error, exec, begun, body_means, call_means}
use Rattle.rt_model.specs.Laws as laws
use Rattle.rt_model.specs.Laws.{CountUp, IsNumbered, Numbered}

-- what may follow a list of numbers may follow it where it goes on
over : (xs ys zs : List ℕ) (n k l : ℕ) → ((j : ℕ) → CountUp j ys k → CountUp j zs l) → CountUp n (xs ++ ys) k → CountUp n (xs ++ zs) l
over [] ys zs n k l f h = f n h
over (x ∷ xs) ys zs n k l f h = (h.0, over xs ys zs (n + 1) k l f h.1)

module _ {K : Types} where
  -- one more command
  after : (of : Command K → List ℕ) (cs : List (Command K)) (m : Command K) (n k l : ℕ) → CountUp n (flat_map of cs) k → CountUp k (of m ++ []) l → CountUp n (flat_map of (cs ++ m ∷ [])) l
  after of [] m n k l h e = subst (λ (j : ℕ). CountUp j (of m ++ []) l) (sym h) e
  after of (c ∷ cs) m n k l h e = over (of c) (flat_map of cs) (flat_map of (cs ++ m ∷ [])) n k l (λ j q. after of cs m j k l q e) h

  abbrev Fine : Firsts → Call K → Type 0
  Fine first c = IsNumbered first c.commands c.next

  -- a command that makes nothing
  more : (first : Firsts) (c : Call K) (m : Command K) → laws.new_cell m ≡ [] → laws.new_context m ≡ [] → laws.new_task m ≡ [] → Fine first c → IsNumbered first (c.commands ++ m ∷ []) c.next
  more first c m p q r h =
      record {
        cells = after laws.new_cell c.commands m first.cells c.next.cells c.next.cells h.cells (subst (λ (xs : List ℕ). CountUp c.next.cells (xs ++ []) c.next.cells) (sym p) refl);
        contexts = after laws.new_context c.commands m first.contexts c.next.contexts c.next.contexts h.contexts (subst (λ (xs : List ℕ). CountUp c.next.contexts (xs ++ []) c.next.contexts) (sym q) refl);
        tasks = after laws.new_task c.commands m first.tasks c.next.tasks c.next.tasks h.tasks (subst (λ (xs : List ℕ). CountUp c.next.tasks (xs ++ []) c.next.tasks) (sym r) refl);
        elements = h.elements;
        errors = h.errors;
      }

  more_cell : (first : Firsts) (c : Call K) (v : K.Value) → Fine first c → Fine first (drew_cell c v)
  more_cell first c v h =
      record {
        cells = after laws.new_cell c.commands (NewCell c.next.cells v) first.cells c.next.cells (c.next.cells + 1) h.cells (refl, refl);
        contexts = after laws.new_context c.commands (NewCell c.next.cells v) first.contexts c.next.contexts c.next.contexts h.contexts refl;
        tasks = after laws.new_task c.commands (NewCell c.next.cells v) first.tasks c.next.tasks c.next.tasks h.tasks refl;
        elements = h.elements;
        errors = h.errors;
      }

  more_context : (first : Firsts) (c : Call K) (t : _) → Fine first c → Fine first (drew_context c t)
  more_context first c t h =
      record {
        cells = after laws.new_cell c.commands (NewContext c.next.contexts t) first.cells c.next.cells c.next.cells h.cells refl;
        contexts = after laws.new_context c.commands (NewContext c.next.contexts t) first.contexts c.next.contexts (c.next.contexts + 1) h.contexts (refl, refl);
        tasks = after laws.new_task c.commands (NewContext c.next.contexts t) first.tasks c.next.tasks c.next.tasks h.tasks refl;
        elements = h.elements;
        errors = h.errors;
      }

  more_task : (first : Firsts) (c : Call K) (s : K.TaskState) (x y : Bool) → Fine first c → Fine first (drew_task c s x y)
  more_task first c s x y h =
      record {
        cells = after laws.new_cell c.commands (Spawn c.next.tasks s x y) first.cells c.next.cells c.next.cells h.cells refl;
        contexts = after laws.new_context c.commands (Spawn c.next.tasks s x y) first.contexts c.next.contexts c.next.contexts h.contexts refl;
        tasks = after laws.new_task c.commands (Spawn c.next.tasks s x y) first.tasks c.next.tasks (c.next.tasks + 1) h.tasks (refl, refl);
        elements = h.elements;
        errors = h.errors;
      }

  more_error : (first : Firsts) (c : Call K) → Fine first c → Fine first (drew_error c)
  more_error first c h =
      let rises : first.errors ≤ c.next.errors + 1 = omega (arith, h.errors) in
      record { cells = h.cells; contexts = h.contexts; tasks = h.tasks; elements = h.elements; errors = rises }

  noted-fine : (first : Firsts) (c : Call K) (x : Source) (into : List ℕ) (body : Bool) → Fine first c → Fine first (noted_at c x into body)
  noted-fine first c x [] true h = h
  noted-fine first c x [] false h = h
  noted-fine first c x (n ∷ ns) body h = more first c (ReadInto n x) refl refl refl h

  error-fine : (first : Firsts) (c : Call K) (o : Option ℕ) → Fine first c → Fine first (noted_error c o)
  error-fine first c None h = h
  error-fine first c (Some s) h = noted-fine first c (Error s) c.into c.in_body h

  found-fine : (first : Firsts) (w : World K) (k s : ℕ) (c : Call K) (f : Call K → Found K) (o p : Option K.Value) → ((d : Call K) → Fine first d → Fine first (f d).call) → Fine first c → Fine first (found_at w k s c f o p).call
  found-fine first w k s c f (Some x) p go h = h
  found-fine first w k s c f None (Some x) go h = noted-fine first c (Context k s) c.into c.in_body h
  found-fine first w k s c f None None go h = go (noted c (Context k s)) (noted-fine first c (Context k s) c.into c.in_body h)

  further-fine : (first : Firsts) (go : ℕ → Call K → Found K) (o : Option ℕ) → ((p : ℕ) (d : Call K) → Fine first d → Fine first (go p d).call) → (d : Call K) → Fine first d → Fine first (further_up go o d).call
  further-fine first go None fine d h = h
  further-fine first go (Some p) fine d h = fine p d h

  looked-fine : (first : Firsts) (w : World K) (k n s : ℕ) (c : Call K) → Fine first c → Fine first (looked_up w k n s c).call
  looked-fine first w k zero s c h = h
  looked-fine first w k (suc n) s c h =
      found-fine first w k s c (λ d. further_up (λ p e. looked_up w k n p e) (parent_in w.given.parents s) d) (own_context c.provided k s) (w.values.context k s)
      (further-fine first (λ p e. looked_up w k n p e) (parent_in w.given.parents s) (λ p d q. looked-fine first w k n p d q))
      h

  here-fine : (first : Firsts) (w : World K) (k : ℕ) (c : Call K) → Fine first c → Fine first (look_here w k c).call
  here-fine first w k c h =
      found-fine first w k w.given.scope c no_further (own_context c.provided k w.given.scope) (w.values.context k w.given.scope) (λ d q. q) h

  hook-fine : (first : Firsts) (w : World K) (c : Call K) (k : ℕ) (new : Hook K) (o : Option (Hook K)) → Fine first c → Fine first (hooked w c k new o)
  hook-fine first w c k new None h = more first c (KeepHook new) refl refl refl h
  hook-fine first w c k new (Some x) h = either (nat_eq (kind_of x) k) h
    where
      either : (t : Bool) → Fine first c → Fine first (if t then past_hook c else past_hook (faults c (OtherHook w.given.scope c.index (kind_of x) k)))
      either true q = q
      either false q = q

module _ {K : Types} {A : Type 0} (first : Firsts) (w : World K) where
  abbrev FineEnd : Meaning K A → Type 0
  FineEnd m = IsNumbered first m.commands m.next

  either-fine : (t : Bool) (x y : Meaning K A) → FineEnd x → FineEnd y → FineEnd (if t then x else y)
  either-fine true x y h e = h
  either-fine false x y h e = e

  numbered : (p : Program K A) (c : Call K) → Fine first c → FineEnd (exec w p c)
  numbered (done x) c h = h
  numbered (current_scope f) c h = numbered (f w.given.scope) c h
  numbered (parent_scope f) c h = numbered (f (parent_in w.given.parents w.given.scope)) c h
  numbered (current_task f) c h = numbered (f w.given.task) c h
  numbered (rendering f) c h = numbered (f w.given.rendering) c h
  numbered (generation f) c h = numbered (f w.given.renders) c h
  numbered (read n f) c h =
      either-fine (nat_lt n c.next.cells) _ _
      (numbered (f (value_in w (at c.cells n) n)) (noted c (Cell n)) (noted-fine first c (Cell n) c.into c.in_body h))
      (numbered (f None) c h)
  numbered (error f) c h = numbered (f (error_in w (nearest_boundary w.given))) (noted_error c (nearest_boundary w.given)) (error-fine first c (nearest_boundary w.given) h)
  numbered (consume_context from k f) c h =
      numbered (f (look_up w from k c).value) (look_up w from k c).call (looked-fine first w k (length w.given.parents + 1) (own_scope_or w from) c h)
  numbered (has_context k f) c h = numbered (f (look_here w k c).value) (look_here w k c).call (here-fine first w k c h)
  numbered (new_context t f) c h =
      either-fine (at_end c.next.contexts) _ _
      (numbered (f None) (faults c (CounterAtEnd Contexts)) h)
      (numbered (f (Some c.next.contexts)) (drew_context c t) (more_context first c t h))
  numbered (run_in n p) c h = numbered p (record c { into = n ∷ c.into }) h
  numbered (reset_and_run_in n p) c h = numbered p (record c { into = n ∷ c.into; commands = c.commands ++ Reset n ∷ [] }) (more first c (Reset n) refl refl refl h)
  numbered (leave p) c h = numbered p _ h
  numbered (new_cell v f) c h =
      either-fine (at_end c.next.cells) _ _
      (numbered (f None) (faults c (CounterAtEnd Cells)) h)
      (numbered (f (Some c.next.cells)) (drew_cell c v) (more_cell first c v h))
  numbered (write n v p) c h = numbered p _ (more first c (Write n v) refl refl refl h)
  numbered (drop_cell n p) c h = numbered p _ (more first c (DropCell n) refl refl refl h)
  numbered (spawn s x y f) c h =
      either-fine (at_end c.next.tasks) _ _
      (numbered (f None) (faults c (CounterAtEnd Tasks)) h)
      (numbered (f (Some c.next.tasks)) (drew_task c s x y) (more_task first c s x y h))
  numbered (remove_future t p) c h = numbered p _ (more first c (RemoveFuture t) refl refl refl h)
  numbered (wake t p) c h = numbered p _ (more first c (Wake t) refl refl refl h)
  numbered (set_active t x p) c h = numbered p _ (more first c (SetActive t x) refl refl refl h)
  numbered (queue_effect e p) c h = numbered p _ (more first c (QueueEffect e) refl refl refl h)
  numbered (after_suspense_resolved e p) c h = numbered p _ (more first c (Resolved e) refl refl refl h)
  numbered (freeze p) c h = numbered p _ (more first c Freeze refl refl refl h)
  numbered (provide root k v p) c h = numbered p _ (more first c (Provide root k v) refl refl refl h)
  numbered (needs_update s p) c h = numbered p _ (more first c (Update s) refl refl refl h)
  numbered (captured text f) c h =
      either-fine (at_end c.next.errors) _ _
      (numbered (f None) (faults c (CounterAtEnd Errors)) h)
      (numbered (f (Some (record { serial = c.next.errors; text = text }))) (drew_error c) (more_error first c h))
  numbered (throw e p) c h = numbered p _ (more first c (Throw e) refl refl refl h)
  numbered (clear_errors p) c h = numbered p _ (more first c ClearErrors refl refl refl h)
  numbered (hook_is_new f) c h = numbered (f _) c h
  numbered (use_hook k v f) c h =
      numbered (f (hook_value k v (nth w.given.hooks c.index))) (hooked w c k (HookValue k v) (nth w.given.hooks c.index)) (hook-fine first w c k (HookValue k v) (nth w.given.hooks c.index) h)
  numbered (use_effect k e f) c h =
      numbered (f (hook_stands k (nth w.given.hooks c.index))) (hooked w c k (HookEffect k e) (nth w.given.hooks c.index)) (hook-fine first w c k (HookEffect k e) (nth w.given.hooks c.index) h)

module _ {K : Types} where
  at_first : (first : Firsts) (in_body : Bool) → Fine first (begun {K = K} in_body first)
  at_first first in_body =
      let none : first.errors ≤ first.errors = omega arith in
      record { cells = refl; contexts = refl; tasks = refl; elements = refl; errors = none }

module _ {K : Types} {A : Type 0} where
  pub body_numbers : (p : Program K A) → Numbered (λ w. body_means p w)
  body_numbers p w = numbered w.given.next w p (begun true w.given.next) (at_first {K = K} w.given.next true)

  pub call_numbers : (p : Program K A) → Numbered (λ w. call_means p w)
  call_numbers p w = numbered w.given.next w p (begun false w.given.next) (at_first {K = K} w.given.next false)
