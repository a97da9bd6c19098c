-- Ranges of kinds that are apart, and what programs do that keep to a range.
use Rattle.std.proofs.Common.{ℕ, zero, suc, ◌+◌, ◌<◌, ◌≤◌, Bool, true, false, ◌&&◌, ◌||◌, List, [], ◌∷◌, ◌++◌, ◌≡◌, refl, sym, ap, subst, ◌∙◌, length, nat_eq, nat_le, nat_lt, arith}
use Rattle.std.specs.Prelude.{Option, Some, None, if◌then◌else◌}
use Rattle.std.specs.List.{AllByRecursion}
use Rattle.std.proofs.lemmas.Bool.{eqb-true, leb-true, ltb-true}
use Rattle.rt_lemmas.proofs.Options.{some_same as some-is}
use Rattle.rt_model.specs.Lists.{nth}
use Rattle.rt_model.specs.Program.{Program, done, current_scope, parent_scope, current_task, rendering, generation, read, error, consume_context, has_context, new_context, run_in, reset_and_run_in, leave, new_cell, write, drop_cell, spawn, remove_future, wake, set_active, queue_effect, after_suspense_resolved, freeze, provide, needs_update, captured, throw, clear_errors, hook_is_new, use_hook, use_effect, Call, Found, says, faults, noted, noted_at, noted_error, exec, nearest_boundary, error_in, own_context, found_at, further_up, no_further, looked_up, look_up, look_here, own_scope_or, parent_in, provides, hooked, hook_value, hook_stands, past_hook, kind_of, drew_cell, drew_context, drew_task, drew_error, begun}
use Rattle.rt_model.specs.Tree.{Types}
use Rattle.rt_model.specs.World.{Command, World, Source, Cell, Error, Context, Contexts, Cells, Tasks, Errors, CounterAtEnd, OtherHook, Hook, HookValue, HookEffect, KeepHook, ReadInto, Reset, Provide, Write, DropCell, NewCell, NewContext, Spawn, RemoveFuture, Wake, SetActive, QueueEffect, Resolved, Freeze, Update, Throw, ClearErrors, Meaning, at_end}
use Rattle.rt_model.proofs.Conjunctions.{and-left, and-right}
use Rattle.author_programs.specs.Came.{Came, came}
use Rattle.author_programs.specs.Contexts.{entered, left}
use Rattle.author_programs.specs.Kinds.{Kinds, is_among, apart, apart_from, all_apart, KindsApart, ProvidesOnly, IsWithin, KindsGoOn, CommandsWithin, OtherKindsStay}
use Rattle.author_programs.specs.Reads.{read_value, read_call}
use Rattle.author_programs.specs.Sequence.{go_on}
use Rattle.author_programs.proofs.Goes.{exec-came}

-- where one range ends before another one begins, no kind is in both
not-both : (n m kind : ℕ) → n ≤ m → kind < n → m ≤ kind → ⊥
not-both n m kind ends below above = omega (arith, ends, below, above)

by-end : (a b : Bool) → (a || b) ≡ true → (a ≡ true → ⊥) → (b ≡ true → ⊥) → ⊥
by-end true b h f g = f refl
by-end false b h f g = g h

at-least : (r : Kinds) (kind : ℕ) → is_among r kind ≡ true → r.first ≤ kind
at-least r kind h = leb-true r.first kind (and-left (nat_le r.first kind) (nat_lt kind (r.first + r.count)) h)

below-end : (r : Kinds) (kind : ℕ) → is_among r kind ≡ true → kind < r.first + r.count
below-end r kind h = ltb-true kind (r.first + r.count) (and-right (nat_le r.first kind) (nat_lt kind (r.first + r.count)) h)

never : (r s : Kinds) (kind : ℕ) → apart r s ≡ true → is_among r kind ≡ true → is_among s kind ≡ true → ⊥
never r s kind h here there =
    by-end
    (nat_le (r.first + r.count) s.first)
    (nat_le (s.first + s.count) r.first)
    h
    (λ ends. not-both (r.first + r.count) s.first kind (leb-true (r.first + r.count) s.first ends) (below-end r kind here) (at-least s kind there))
    (λ ends. not-both (s.first + s.count) r.first kind (leb-true (s.first + s.count) r.first ends) (below-end s kind there) (at-least r kind here))

never-in : (r : Kinds) (ss : List Kinds) (j : ℕ) (s : Kinds) (kind : ℕ) → apart_from r ss ≡ true → nth ss j ≡ Some s
    → is_among r kind ≡ true → is_among s kind ≡ true → ⊥
never-in r [] j s kind h is here there = cc
never-in r (t ∷ ts) zero s kind h is here there =
    never r s kind (subst (λ (x : Kinds). apart r x ≡ true) (some-is t s is) (and-left (apart r t) (apart_from r ts) h)) here there
never-in r (t ∷ ts) (suc j) s kind h is here there = never-in r ts j s kind (and-right (apart r t) (apart_from r ts) h) is here there

-- of ranges that are all apart a kind is in one at most
pub kinds-apart : KindsApart
kinds-apart [] i j r s kind h ri sj here there = cc
kinds-apart (t ∷ ts) zero zero r s kind h ri sj here there = refl
kinds-apart (t ∷ ts) zero (suc j) r s kind h ri sj here there =
    absurd (never-in r ts j s kind (subst (λ (x : Kinds). apart_from x ts ≡ true) (some-is t r ri) (and-left (apart_from t ts) (all_apart ts) h)) sj here there)
kinds-apart (t ∷ ts) (suc i) zero r s kind h ri sj here there =
    absurd (never-in s ts i r kind (subst (λ (x : Kinds). apart_from x ts ≡ true) (some-is t s sj) (and-left (apart_from t ts) (all_apart ts) h)) ri there here)
kinds-apart (t ∷ ts) (suc i) (suc j) r s kind h ri sj here there =
    ap suc (kinds-apart ts i j r s kind (and-right (apart_from t ts) (all_apart ts) h) ri sj here there)

-- a kind that is among them isn't one that is not
pub other-kind : (r : Kinds) (k kind : ℕ) → is_among r k ≡ true → is_among r kind ≡ false → nat_eq k kind ≡ false
other-kind r k kind here out = decided (nat_eq k kind) refl
  where
    decided : (b : Bool) → nat_eq k kind ≡ b → nat_eq k kind ≡ false
    decided false is = is
    decided true is = let same : k ≡ kind = eqb-true k kind is in let both : is_among r kind ≡ true = subst (λ (n : ℕ). is_among r n ≡ true) same here in let absurdity : true ≡ false = sym both ∙ out in cc

all-and : {A : Type 0} (P : A → Type 0) (xs ys : List A) → AllByRecursion P xs → AllByRecursion P ys → AllByRecursion P (xs ++ ys)
all-and P [] ys h k = k
all-and P (x ∷ xs) ys h k = (h.0, all-and P xs ys h.1 k)

module _ {K : Types} (r : Kinds) where
  -- from one call to another nothing was provided but of these kinds
  record Keeps (c d : Call K) : Type 0 where
    commands : AllByRecursion (λ (m : Command K). IsWithin r m) c.commands → AllByRecursion (λ (m : Command K). IsWithin r m) d.commands
    others : (kind s : ℕ) → is_among r kind ≡ false → own_context d.provided kind s ≡ own_context c.provided kind s

  stays : (c : Call K) → Keeps c c
  stays c = record { commands = λ all. all; others = λ kind s out. refl }

  two-steps : (c d e : Call K) → Keeps c d → Keeps d e → Keeps c e
  two-steps c d e h k = record { commands = λ all. k.commands (h.commands all); others = λ kind s out. k.others kind s out ∙ h.others kind s out }

  says-more : (c : Call K) (m : Command K) → IsWithin r m → Keeps c (says c m)
  says-more c m h = record { commands = λ all. all-and (λ (n : Command K). IsWithin r n) c.commands (m ∷ []) all (h, tt); others = λ kind s out. refl }

  gives : (c d : Call K) (m : Command K) → IsWithin r m → d.commands ≡ c.commands ++ m ∷ [] → d.provided ≡ c.provided → Keeps c d
  gives c d m h commands provided =
      record {
        commands =
            λ all.
            subst (λ (ms : List (Command K)). AllByRecursion (λ (n : Command K). IsWithin r n) ms) (sym commands)
            (all-and (λ (n : Command K). IsWithin r n) c.commands (m ∷ []) all (h, tt));
        others = λ kind s out. ap (λ (es : List (ℕ × ℕ × K.Value)). own_context es kind s) provided;
      }

  notes-at : (c : Call K) (x : Source) (ns : List ℕ) (b : Bool) → Keeps c (noted_at c x ns b)
  notes-at c x [] true = record { commands = λ all. all; others = λ kind s out. refl }
  notes-at c x [] false = record { commands = λ all. all; others = λ kind s out. refl }
  notes-at c x (n ∷ ns) b = record { commands = λ all. all-and (λ (m : Command K). IsWithin r m) c.commands (ReadInto n x ∷ []) all (tt, tt); others = λ kind s out. refl }

  notes : (c : Call K) (x : Source) → Keeps c (noted c x)
  notes c x = notes-at c x c.into c.in_body

  notes-error : (c : Call K) (o : Option ℕ) → Keeps c (noted_error c o)
  notes-error c None = stays c
  notes-error c (Some b) = notes c (Error b)

  faulted : (c d : Call K) → d.commands ≡ c.commands → d.provided ≡ c.provided → Keeps c d
  faulted c d commands provided =
      record {
        commands = λ all. subst (λ (ms : List (Command K)). AllByRecursion (λ (m : Command K). IsWithin r m) ms) (sym commands) all;
        others = λ kind s out. ap (λ (es : List (ℕ × ℕ × K.Value)). own_context es kind s) provided;
      }

  one-of : (c : Call K) (b : Bool) (d e : Call K) → Keeps c d → Keeps c e → Keeps c (if b then d else e)
  one-of c true d e h k = h
  one-of c false d e h k = k

  reads-on : (c : Call K) (n : ℕ) → Keeps c (read_call c n)
  reads-on c n = one-of c (nat_lt n c.next.cells) (noted c (Cell n)) c (notes c (Cell n)) (stays c)

  found-keeps : (w : World K) (k s : ℕ) (c : Call K) (f : Call K → Found K) (o p : Option K.Value) → ((d : Call K) → Keeps d (f d).call)
      → Keeps c (found_at w k s c f o p).call
  found-keeps w k s c f (Some v) p h = stays c
  found-keeps w k s c f None (Some v) h = notes c (Context k s)
  found-keeps w k s c f None None h = two-steps c (noted c (Context k s)) (f (noted c (Context k s))).call (notes c (Context k s)) (h (noted c (Context k s)))

  further-keeps : (go : ℕ → Call K → Found K) (o : Option ℕ) → ((p : ℕ) (d : Call K) → Keeps d (go p d).call) → (d : Call K) → Keeps d (further_up go o d).call
  further-keeps go None h d = stays d
  further-keeps go (Some p) h d = h p d

  looked-keeps : (w : World K) (k n s : ℕ) (c : Call K) → Keeps c (looked_up w k n s c).call
  looked-keeps w k zero s c = stays c
  looked-keeps w k (suc n) s c =
      found-keeps w k s c (λ d. further_up (λ p e. looked_up w k n p e) (parent_in w.given.parents s) d) (own_context c.provided k s) (w.values.context k s)
      (λ d. further-keeps (λ p e. looked_up w k n p e) (parent_in w.given.parents s) (λ p e. looked-keeps w k n p e) d)

  up-keeps : (w : World K) (from : Option ℕ) (k : ℕ) (c : Call K) → Keeps c (look_up w from k c).call
  up-keeps w from k c = looked-keeps w k (length w.given.parents + 1) (own_scope_or w from) c

  here-keeps : (w : World K) (k : ℕ) (c : Call K) → Keeps c (look_here w k c).call
  here-keeps w k c =
      found-keeps w k w.given.scope c no_further (own_context c.provided k w.given.scope) (w.values.context k w.given.scope) (λ d. stays d)

  hooks-on : (w : World K) (c : Call K) (k : ℕ) (new : Hook K) (o : Option (Hook K)) → Keeps c (hooked w c k new o)
  hooks-on w c k new None =
      record { commands = λ all. all-and (λ (m : Command K). IsWithin r m) c.commands (KeepHook new ∷ []) all (tt, tt); others = λ kind s out. refl }
  hooks-on w c k new (Some h) =
      one-of c (nat_eq (kind_of h) k) (past_hook c) (past_hook (faults c (OtherHook w.given.scope c.index (kind_of h) k)))
      (faulted c (past_hook c) refl refl)
      (faulted c (past_hook (faults c (OtherHook w.given.scope c.index (kind_of h) k))) refl refl)

  provides-more : (w : World K) (c : Call K) (root : Bool) (k : ℕ) (v : K.Value) → is_among r k ≡ true → Keeps c (provides w c root k v)
  provides-more w c root k v h =
      record {
        commands = λ all. all-and (λ (m : Command K). IsWithin r m) c.commands (Provide root k v ∷ []) all (h, tt);
        others = λ kind s out. ap (λ (b : Bool). if b && nat_eq (if root then 0 else w.given.scope) s then Some v else own_context c.provided kind s) (other-kind r k kind h out);
      }

  module _ {A : Type 0} where
    either-came : (c : Call K) (b : Bool) (x y : Came K A) → Keeps c x.call → Keeps c y.call → Keeps c (if b then x else y).call
    either-came c true x y h k = h
    either-came c false x y h k = k

    -- a program that keeps to these kinds
    keeps-to : (w : World K) (p : Program K A) (c : Call K) → ProvidesOnly r p → Keeps c (came w p c).call
    unfolding came ProvidesOnly
    keeps-to w (done a) c h = stays c
    keeps-to w (current_scope f) c h = keeps-to w (f w.given.scope) c (h w.given.scope)
    keeps-to w (parent_scope f) c h =
        keeps-to w (f (parent_in w.given.parents w.given.scope)) c (h (parent_in w.given.parents w.given.scope))
    keeps-to w (current_task f) c h = keeps-to w (f w.given.task) c (h w.given.task)
    keeps-to w (rendering f) c h = keeps-to w (f w.given.rendering) c (h w.given.rendering)
    keeps-to w (generation f) c h = keeps-to w (f w.given.renders) c (h w.given.renders)
    keeps-to w (read n f) c h =
        two-steps c (read_call c n) _ (reads-on c n) (keeps-to w (f (read_value w c n)) (read_call c n) (h (read_value w c n)))
    keeps-to w (error f) c h =
        two-steps c (noted_error c (nearest_boundary w.given)) _ (notes-error c (nearest_boundary w.given))
        (keeps-to w (f (error_in w (nearest_boundary w.given))) (noted_error c (nearest_boundary w.given)) (h (error_in w (nearest_boundary w.given))))
    keeps-to w (consume_context from k f) c h =
        two-steps c (look_up w from k c).call _ (up-keeps w from k c)
        (keeps-to w (f (look_up w from k c).value) (look_up w from k c).call (h (look_up w from k c).value))
    keeps-to w (has_context k f) c h =
        two-steps c (look_here w k c).call _ (here-keeps w k c) (keeps-to w (f (look_here w k c).value) (look_here w k c).call (h (look_here w k c).value))
    keeps-to w (new_context t f) c h =
        either-came c (at_end c.next.contexts) (came w (f None) (faults c (CounterAtEnd Contexts))) (came w (f (Some c.next.contexts)) (drew_context c t))
        (two-steps c (faults c (CounterAtEnd Contexts)) _ (faulted c (faults c (CounterAtEnd Contexts)) refl refl) (keeps-to w (f None) (faults c (CounterAtEnd Contexts)) (h None)))
        (two-steps c (drew_context c t) _ (gives c (drew_context c t) (NewContext c.next.contexts t) tt refl refl) (keeps-to w (f (Some c.next.contexts)) (drew_context c t) (h (Some c.next.contexts))))
    keeps-to w (run_in n p) c h = two-steps c (entered c n) _ (faulted c (entered c n) refl refl) (keeps-to w p (entered c n) h)
    keeps-to w (reset_and_run_in n p) c h =
        two-steps c (says (entered c n) (Reset n)) _ (gives c (says (entered c n) (Reset n)) (Reset n) tt refl refl) (keeps-to w p (says (entered c n) (Reset n)) h)
    keeps-to w (leave p) c h = two-steps c (left c) _ (faulted c (left c) refl refl) (keeps-to w p (left c) h)
    keeps-to w (new_cell v f) c h =
        either-came c (at_end c.next.cells) (came w (f None) (faults c (CounterAtEnd Cells))) (came w (f (Some c.next.cells)) (drew_cell c v))
        (two-steps c (faults c (CounterAtEnd Cells)) _ (faulted c (faults c (CounterAtEnd Cells)) refl refl) (keeps-to w (f None) (faults c (CounterAtEnd Cells)) (h None)))
        (two-steps c (drew_cell c v) _ (gives c (drew_cell c v) (NewCell c.next.cells v) tt refl refl) (keeps-to w (f (Some c.next.cells)) (drew_cell c v) (h (Some c.next.cells))))
    keeps-to w (write n v p) c h = two-steps c (says c (Write n v)) _ (says-more c (Write n v) tt) (keeps-to w p (says c (Write n v)) h)
    keeps-to w (drop_cell n p) c h = two-steps c (says c (DropCell n)) _ (says-more c (DropCell n) tt) (keeps-to w p (says c (DropCell n)) h)
    keeps-to w (spawn a forever isomorphic f) c h =
        either-came c (at_end c.next.tasks) (came w (f None) (faults c (CounterAtEnd Tasks)))
        (came w (f (Some c.next.tasks)) (drew_task c a forever isomorphic))
        (two-steps c (faults c (CounterAtEnd Tasks)) _ (faulted c (faults c (CounterAtEnd Tasks)) refl refl) (keeps-to w (f None) (faults c (CounterAtEnd Tasks)) (h None)))
        (two-steps c (drew_task c a forever isomorphic) _ (gives c (drew_task c a forever isomorphic) (Spawn c.next.tasks a forever isomorphic) tt refl refl)
        (keeps-to w (f (Some c.next.tasks)) (drew_task c a forever isomorphic) (h (Some c.next.tasks))))
    keeps-to w (remove_future t p) c h =
        two-steps c (says c (RemoveFuture t)) _ (says-more c (RemoveFuture t) tt) (keeps-to w p (says c (RemoveFuture t)) h)
    keeps-to w (wake t p) c h = two-steps c (says c (Wake t)) _ (says-more c (Wake t) tt) (keeps-to w p (says c (Wake t)) h)
    keeps-to w (set_active t b p) c h = two-steps c (says c (SetActive t b)) _ (says-more c (SetActive t b) tt) (keeps-to w p (says c (SetActive t b)) h)
    keeps-to w (queue_effect e p) c h = two-steps c (says c (QueueEffect e)) _ (says-more c (QueueEffect e) tt) (keeps-to w p (says c (QueueEffect e)) h)
    keeps-to w (after_suspense_resolved e p) c h = two-steps c (says c (Resolved e)) _ (says-more c (Resolved e) tt) (keeps-to w p (says c (Resolved e)) h)
    keeps-to w (freeze p) c h = two-steps c (says c Freeze) _ (says-more c Freeze tt) (keeps-to w p (says c Freeze) h)
    keeps-to w (provide root k v p) c h =
        two-steps c (provides w c root k v) _ (provides-more w c root k v h.0) (keeps-to w p (provides w c root k v) h.1)
    keeps-to w (needs_update s p) c h = two-steps c (says c (Update s)) _ (says-more c (Update s) tt) (keeps-to w p (says c (Update s)) h)
    keeps-to w (captured text f) c h =
        either-came c (at_end c.next.errors) (came w (f None) (faults c (CounterAtEnd Errors)))
        (came w (f (Some (record { serial = c.next.errors; text = text }))) (drew_error c))
        (two-steps c (faults c (CounterAtEnd Errors)) _ (faulted c (faults c (CounterAtEnd Errors)) refl refl) (keeps-to w (f None) (faults c (CounterAtEnd Errors)) (h None)))
        (two-steps c (drew_error c) _ (faulted c (drew_error c) refl refl)
        (keeps-to w (f (Some (record { serial = c.next.errors; text = text }))) (drew_error c) (h (Some (record { serial = c.next.errors; text = text })))))
    keeps-to w (throw e p) c h = two-steps c (says c (Throw e)) _ (says-more c (Throw e) tt) (keeps-to w p (says c (Throw e)) h)
    keeps-to w (clear_errors p) c h = two-steps c (says c ClearErrors) _ (says-more c ClearErrors tt) (keeps-to w p (says c ClearErrors) h)
    keeps-to w (hook_is_new f) c h = keeps-to w (f (nat_le (length w.given.hooks) c.index)) c (h (nat_le (length w.given.hooks) c.index))
    keeps-to w (use_hook k v f) c h =
        let o = nth w.given.hooks c.index in
        two-steps c (hooked w c k (HookValue k v) o) _ (hooks-on w c k (HookValue k v) o)
        (keeps-to w (f (hook_value k v o)) (hooked w c k (HookValue k v) o) (h (hook_value k v o)))
    keeps-to w (use_effect k e f) c h =
        let o = nth w.given.hooks c.index in
        two-steps c (hooked w c k (HookEffect k e) o) _ (hooks-on w c k (HookEffect k e) o)
        (keeps-to w (f (hook_stands k o)) (hooked w c k (HookEffect k e) o) (h (hook_stands k o)))

-- its commands provide nothing of another kind
pub commands-within : (K : Types) (A : Type 0) → CommandsWithin K A
commands-within K A r p w h = (as_call true, as_call false)
  where
    as_call : (b : Bool) → AllByRecursion (λ (m : Command K). IsWithin r m) (exec w p (begun b w.given.next)).commands
    as_call b =
        subst (λ (m : Meaning K A). AllByRecursion (λ (c : Command K). IsWithin r c) m.commands) (sym (exec-came w p (begun b w.given.next)))
        ((keeps-to r w p (begun b w.given.next) h).commands tt)

-- what the call provided of another kind stays
pub other-kinds-stay : (K : Types) (A : Type 0) → OtherKindsStay K A
other-kinds-stay K A r p w c kind s h out = (keeps-to r w p c h).others kind s out

module _ {K : Types} {A B : Type 0} where
  -- programs that keep to these kinds, one after another
  pub goes-on : (r : Kinds) (p : Program K A) (f : A → Program K B) → ProvidesOnly r p → ((a : A) → ProvidesOnly r (f a)) → ProvidesOnly r (go_on p f)
  unfolding ProvidesOnly go_on
  goes-on r (done a) f h k = k a
  goes-on r (current_scope g) f h k = λ x. goes-on r (g x) f (h x) k
  goes-on r (parent_scope g) f h k = λ x. goes-on r (g x) f (h x) k
  goes-on r (current_task g) f h k = λ x. goes-on r (g x) f (h x) k
  goes-on r (rendering g) f h k = λ x. goes-on r (g x) f (h x) k
  goes-on r (generation g) f h k = λ x. goes-on r (g x) f (h x) k
  goes-on r (read n g) f h k = λ x. goes-on r (g x) f (h x) k
  goes-on r (error g) f h k = λ x. goes-on r (g x) f (h x) k
  goes-on r (consume_context from kind g) f h k = λ x. goes-on r (g x) f (h x) k
  goes-on r (has_context kind g) f h k = λ x. goes-on r (g x) f (h x) k
  goes-on r (new_context t g) f h k = λ x. goes-on r (g x) f (h x) k
  goes-on r (run_in n p) f h k = goes-on r p f h k
  goes-on r (reset_and_run_in n p) f h k = goes-on r p f h k
  goes-on r (leave p) f h k = goes-on r p f h k
  goes-on r (new_cell v g) f h k = λ x. goes-on r (g x) f (h x) k
  goes-on r (write n v p) f h k = goes-on r p f h k
  goes-on r (drop_cell n p) f h k = goes-on r p f h k
  goes-on r (spawn a forever isomorphic g) f h k = λ x. goes-on r (g x) f (h x) k
  goes-on r (remove_future t p) f h k = goes-on r p f h k
  goes-on r (wake t p) f h k = goes-on r p f h k
  goes-on r (set_active t b p) f h k = goes-on r p f h k
  goes-on r (queue_effect e p) f h k = goes-on r p f h k
  goes-on r (after_suspense_resolved e p) f h k = goes-on r p f h k
  goes-on r (freeze p) f h k = goes-on r p f h k
  goes-on r (provide root kind v p) f h k = (h.0, goes-on r p f h.1 k)
  goes-on r (needs_update s p) f h k = goes-on r p f h k
  goes-on r (captured text g) f h k = λ x. goes-on r (g x) f (h x) k
  goes-on r (throw e p) f h k = goes-on r p f h k
  goes-on r (clear_errors p) f h k = goes-on r p f h k
  goes-on r (hook_is_new g) f h k = λ x. goes-on r (g x) f (h x) k
  goes-on r (use_hook kind v g) f h k = λ x. goes-on r (g x) f (h x) k
  goes-on r (use_effect kind e g) f h k = λ x. goes-on r (g x) f (h x) k

pub kinds-go-on : (K : Types) (A B : Type 0) → KindsGoOn K A B
kinds-go-on K A B r p f h k = goes-on r p f h k
