-- Equal givens and equal reads give a program the same meaning.
use Rattle.std.proofs.Common.{ℕ, zero, suc, Bool, true, false, List, [], ◌∷◌, ◌+◌, ◌≡◌, ◌<◌, ◌≤◌, refl, ap, ◌∙◌, nat_lt, nat_eq, arith}
use Rattle.std.specs.Prelude.{Option, Some, None, if◌then◌else◌, is_some, length}
use Rattle.rt_lemmas.proofs.Numbers.{lt_true as tested_low, lt_false as tested_high}
use Rattle.rt_model.specs.Lists.{at, nth}
use Rattle.rt_model.specs.Tree.{Types, CapturedError}
use Rattle.rt_model.specs.World.{Source, Cell, Error, Context, at_end, Contexts, Cells, Tasks, Errors, CounterAtEnd, OtherHook, Hook, HookValue, HookEffect, Given, Values, World, Meaning}
use Rattle.rt_model.specs.Program.{Program, done, current_scope, parent_scope, current_task, rendering, generation, read, error, consume_context, has_context, new_context, run_in, reset_and_run_in, leave, new_cell, write, drop_cell, spawn, remove_future, wake, set_active, queue_effect, after_suspense_resolved, freeze, provide, needs_update, captured, throw, clear_errors, hook_is_new, use_hook, use_effect, Call, noted_at, noted, value_in, parent_in, nearest_boundary, error_in, noted_error, own_context, Found, found_at, no_further, further_up, looked_up, look_up, look_here, own_scope_or, faults, past_hook, kind_of, hook_value, hook_stands, hooked, drew_cell, drew_context, drew_task, drew_error, exec, begun, body_means, call_means}
use Rattle.rt_model.specs.Laws.{SameAt, Agree, ReadsDecide}
use Rattle.rt_model.proofs.Maps.{by_test, at_here, at_there}

-- a number below the next one that isn't the last drawn was drawn before it
below_last : (n m : ℕ) → n < m + 1 → nat_eq m n ≡ false → n < m
below_last n m low other = grind (arith, low, other)

nothing_between : {P : Type 0} (n m : ℕ) → m ≤ n → n < m → P
nothing_between n m high low = absurd (apart high low)
  where
    apart : m ≤ n → n < m → ⊥
    apart h l = omega (arith, h, l)

-- a list holds a value under each number from the first one up to the next one
abbrev pub FullFrom : {A : Type 0} → List (ℕ × A) → ℕ → ℕ → Type 0
FullFrom made first next = (n : ℕ) → first ≤ n → n < next → is_some (at made n) ≡ true

full-none : {A : Type 0} (made : List (ℕ × A)) (first : ℕ) → FullFrom made first first
full-none made first n high low = nothing_between n first high low

full-more : {A : Type 0} (made : List (ℕ × A)) (first next : ℕ) (a : A) → FullFrom made first next → FullFrom ((next, a) ∷ made) first (next + 1)
full-more {A = A} made first next a full n high low =
    by_test (nat_eq next n)
    (λ q. ap (λ (o : Option A). is_some o) (at_here next a made n q))
    (λ q. ap (λ (o : Option A). is_some o) (at_there next a made n q) ∙ full n high (below_last n next low q))

module _ {K : Types} (g : Given K) (a b : Values K) where
  abbrev V : World K
  V = record { given = g; values = a }

  abbrev W : World K
  W = record { given = g; values = b }

  -- the two worlds agree on what a call read so far
  abbrev pub Good : Call K → Type 0
  Good c = Agree V W c.aside × Agree V W c.reads

  noted-good : (c : Call K) (x : Source) (into : List ℕ) (body : Bool) → Good (noted_at c x into body) → Good c × SameAt V W x
  noted-good c x [] true h = ((h.0, (h.1).1), (h.1).0)
  noted-good c x [] false h = (((h.0).1, h.1), (h.0).0)
  noted-good c x (n ∷ ns) body h = (((h.0).1, h.1), (h.0).0)

  -- a look-up only adds reads
  found-older : (k s : ℕ) (c : Call K) (f : Call K → Found K) (o p : Option K.Value) → ((d : Call K) → Good (f d).call → Good d) → Good (found_at V k s c f o p).call → Good c
  found-older k s c f (Some x) p older h = h
  found-older k s c f None (Some x) older h = (noted-good c (Context k s) c.into c.in_body h).0
  found-older k s c f None None older h = (noted-good c (Context k s) c.into c.in_body (older (noted c (Context k s)) h)).0

  further-older : (k n : ℕ) (o : Option ℕ) → ((p : ℕ) (d : Call K) → Good (looked_up V k n p d).call → Good d) → (d : Call K) → Good (further_up (λ p e. looked_up V k n p e) o d).call → Good d
  further-older k n None older d h = h
  further-older k n (Some p) older d h = older p d h

  looked-older : (k n s : ℕ) (c : Call K) → Good (looked_up V k n s c).call → Good c
  looked-older k zero s c h = h
  looked-older k (suc n) s c h =
      found-older k s c (λ d. further_up (λ p e. looked_up V k n p e) (parent_in g.parents s) d) (own_context c.provided k s) (a.context k s) (further-older k n (parent_in g.parents s) (λ p d q. looked-older k n p d q)) h

  -- and where the two worlds agree on them it finds the same
  found-same : (k s : ℕ) (c : Call K) (f e : Call K → Found K) (o p q : Option K.Value)
      → ((d : Call K) → Good (f d).call → Good d)
      → ((d : Call K) → Good (f d).call → f d ≡ e d)
      → (SameAt V W (Context k s) → p ≡ q)
      → Good (found_at V k s c f o p).call
      → found_at V k s c f o p ≡ found_at W k s c e o q
  found-same k s c f e (Some x) p q older same values h = refl
  found-same k s c f e None (Some x) q older same values h =
      ap (λ (z : Option K.Value). found_at W k s c e None z) (values (noted-good c (Context k s) c.into c.in_body h).1)
  found-same k s c f e None None q older same values h =
      same (noted c (Context k s)) h
      ∙ ap (λ (z : Option K.Value). found_at W k s c e None z) (values (noted-good c (Context k s) c.into c.in_body (older (noted c (Context k s)) h)).1)

  further-same : (k n : ℕ) (o : Option ℕ) → ((p : ℕ) (d : Call K) → Good (looked_up V k n p d).call → looked_up V k n p d ≡ looked_up W k n p d) → (d : Call K)
      → Good (further_up (λ p e. looked_up V k n p e) o d).call
      → (further_up (λ p e. looked_up V k n p e) o d) ≡ (further_up (λ p e. looked_up W k n p e) o d)
  further-same k n None same d h = refl
  further-same k n (Some p) same d h = same p d h

  looked-same : (k n s : ℕ) (c : Call K) → Good (looked_up V k n s c).call → looked_up V k n s c ≡ looked_up W k n s c
  looked-same k zero s c h = refl
  looked-same k (suc n) s c h =
      found-same k s c (λ d. further_up (λ p e. looked_up V k n p e) (parent_in g.parents s) d) (λ d. further_up (λ p e. looked_up W k n p e) (parent_in g.parents s) d) (own_context c.provided k s) (a.context k s) (b.context k s)
      (further-older k n (parent_in g.parents s) (λ p d q. looked-older k n p d q))
      (further-same k n (parent_in g.parents s) (λ p d q. looked-same k n p d q))
      (λ e. e)
      h

  here-older : (k : ℕ) (c : Call K) → Good (look_here V k c).call → Good c
  here-older k c h = found-older k g.scope c no_further (own_context c.provided k g.scope) (a.context k g.scope) (λ d q. q) h

  here-same : (k : ℕ) (c : Call K) → Good (look_here V k c).call → look_here V k c ≡ look_here W k c
  here-same k c h =
      found-same k g.scope c no_further no_further (own_context c.provided k g.scope) (a.context k g.scope) (b.context k g.scope) (λ d q. q) (λ d q. refl) (λ e. e) h

  error-older : (c : Call K) (o : Option ℕ) → Good (noted_error c o) → Good c
  error-older c None h = h
  error-older c (Some s) h = (noted-good c (Error s) c.into c.in_body h).0

  error-same : (c : Call K) (o : Option ℕ) → Good (noted_error c o) → error_in V o ≡ error_in W o
  error-same c None h = refl
  error-same c (Some s) h = (noted-good c (Error s) c.into c.in_body h).1

  hook-older : (c : Call K) (k : ℕ) (new : Hook K) (o : Option (Hook K)) → Good (hooked V c k new o) → Good c
  hook-older c k new None h = h
  hook-older c k new (Some x) h = either (nat_eq (kind_of x) k) h
    where
      either : (t : Bool) → Good (if t then past_hook c else past_hook (faults c (OtherHook g.scope c.index (kind_of x) k))) → Good c
      either true q = q
      either false q = q

  -- the call knows each cell that it has made
  abbrev pub Knows : Call K → Type 0
  Knows c = FullFrom c.cells g.next.cells c.next.cells

  noted-knows : (c : Call K) (x : Source) (into : List ℕ) (body : Bool) → Knows c → Knows (noted_at c x into body)
  noted-knows c x [] true h = h
  noted-knows c x [] false h = h
  noted-knows c x (n ∷ ns) body h = h

  found-knows : (k s : ℕ) (c : Call K) (f : Call K → Found K) (o p : Option K.Value) → ((d : Call K) → Knows d → Knows (f d).call) → Knows c → Knows (found_at V k s c f o p).call
  found-knows k s c f (Some x) p later h = h
  found-knows k s c f None (Some x) later h = noted-knows c (Context k s) c.into c.in_body h
  found-knows k s c f None None later h = later (noted c (Context k s)) (noted-knows c (Context k s) c.into c.in_body h)

  further-knows : (k n : ℕ) (o : Option ℕ) → ((p : ℕ) (d : Call K) → Knows d → Knows (looked_up V k n p d).call) → (d : Call K) → Knows d → Knows (further_up (λ p e. looked_up V k n p e) o d).call
  further-knows k n None later d h = h
  further-knows k n (Some p) later d h = later p d h

  looked-knows : (k n s : ℕ) (c : Call K) → Knows c → Knows (looked_up V k n s c).call
  looked-knows k zero s c h = h
  looked-knows k (suc n) s c h =
      found-knows k s c (λ d. further_up (λ p e. looked_up V k n p e) (parent_in g.parents s) d) (own_context c.provided k s) (a.context k s)
      (further-knows k n (parent_in g.parents s) (λ p d q. looked-knows k n p d q))
      h

  here-knows : (k : ℕ) (c : Call K) → Knows c → Knows (look_here V k c).call
  here-knows k c h = found-knows k g.scope c no_further (own_context c.provided k g.scope) (a.context k g.scope) (λ d q. q) h

  error-knows : (c : Call K) (o : Option ℕ) → Knows c → Knows (noted_error c o)
  error-knows c None h = h
  error-knows c (Some s) h = noted-knows c (Error s) c.into c.in_body h

  hook-knows : (c : Call K) (k : ℕ) (new : Hook K) (o : Option (Hook K)) → Knows c → Knows (hooked V c k new o)
  hook-knows c k new None h = h
  hook-knows c k new (Some x) h = either (nat_eq (kind_of x) k)
    where
      either : (t : Bool) → Knows (if t then past_hook c else past_hook (faults c (OtherHook g.scope c.index (kind_of x) k)))
      either true = h
      either false = h

  drawn-knows : (c : Call K) (v : K.Value) → Knows c → Knows (drew_cell c v)
  drawn-knows c v h = full-more c.cells g.next.cells c.next.cells v h

  -- a cell that the call has made gives its first value, any other one is among those numbered before
  value-same : (c : Call K) (n : ℕ) (o : Option K.Value) → o ≡ at c.cells n → Knows c → n < c.next.cells → SameAt V W (Cell n) → value_in V o n ≡ value_in W o n
  value-same c n (Some x) q h low e = refl
  value-same c n None q h low e =
      by_test (nat_lt n g.next.cells)
      (λ t. e (tested_low n g.next.cells t))
      (λ t. let some : is_some (at c.cells n) ≡ true = h n (tested_high n g.next.cells t) low in cc)

module _ {K : Types} {A : Type 0} (g : Given K) (a b : Values K) where
  abbrev GoodEnd : Meaning K A → Type 0
  GoodEnd m = Agree (V g a b) (W g a b) m.aside × Agree (V g a b) (W g a b) m.reads

  either-older : (t : Bool) (x y : Meaning K A) (c : Call K) → (GoodEnd x → Good g a b c) → (GoodEnd y → Good g a b c) → GoodEnd (if t then x else y) → Good g a b c
  either-older true x y c f e h = f h
  either-older false x y c f e h = e h

  -- what a program read before it went on
  older : (p : Program K A) (c : Call K) → GoodEnd (exec (V g a b) p c) → Good g a b c
  older (done x) c h = h
  older (current_scope f) c h = older (f g.scope) c h
  older (parent_scope f) c h = older (f (parent_in g.parents g.scope)) c h
  older (current_task f) c h = older (f g.task) c h
  older (rendering f) c h = older (f g.rendering) c h
  older (generation f) c h = older (f g.renders) c h
  older (read n f) c h =
      either-older (nat_lt n c.next.cells) (exec (V g a b) (f (value_in (V g a b) (at c.cells n) n)) (noted c (Cell n))) (exec (V g a b) (f None) c) c
      (λ q. (noted-good g a b c (Cell n) c.into c.in_body (older (f (value_in (V g a b) (at c.cells n) n)) (noted c (Cell n)) q)).0)
      (λ q. older (f None) c q)
      h
  older (error f) c h =
      error-older g a b c (nearest_boundary g) (older (f (error_in (V g a b) (nearest_boundary g))) (noted_error c (nearest_boundary g)) h)
  older (consume_context from k f) c h =
      looked-older g a b k (length g.parents + 1) (own_scope_or (V g a b) from) c (older (f (look_up (V g a b) from k c).value) (look_up (V g a b) from k c).call h)
  older (has_context k f) c h = here-older g a b k c (older (f (look_here (V g a b) k c).value) (look_here (V g a b) k c).call h)
  older (new_context t f) c h =
      either-older (at_end c.next.contexts) (exec (V g a b) (f None) (faults c (CounterAtEnd Contexts))) (exec (V g a b) (f (Some c.next.contexts)) (drew_context c t)) c
      (λ q. older (f None) (faults c (CounterAtEnd Contexts)) q)
      (λ q. older (f (Some c.next.contexts)) (drew_context c t) q)
      h
  older (run_in n p) c h = older p _ h
  older (reset_and_run_in n p) c h = older p _ h
  older (leave p) c h = older p _ h
  older (new_cell v f) c h =
      either-older (at_end c.next.cells) (exec (V g a b) (f None) (faults c (CounterAtEnd Cells))) (exec (V g a b) (f (Some c.next.cells)) (drew_cell c v)) c
      (λ q. older (f None) (faults c (CounterAtEnd Cells)) q)
      (λ q. older (f (Some c.next.cells)) (drew_cell c v) q)
      h
  older (write n v p) c h = older p _ h
  older (drop_cell n p) c h = older p _ h
  older (spawn s x y f) c h =
      either-older (at_end c.next.tasks) (exec (V g a b) (f None) (faults c (CounterAtEnd Tasks))) (exec (V g a b) (f (Some c.next.tasks)) (drew_task c s x y)) c
      (λ q. older (f None) (faults c (CounterAtEnd Tasks)) q)
      (λ q. older (f (Some c.next.tasks)) (drew_task c s x y) q)
      h
  older (remove_future t p) c h = older p _ h
  older (wake t p) c h = older p _ h
  older (set_active t x p) c h = older p _ h
  older (queue_effect e p) c h = older p _ h
  older (after_suspense_resolved e p) c h = older p _ h
  older (freeze p) c h = older p _ h
  older (provide root k v p) c h = older p _ h
  older (needs_update s p) c h = older p _ h
  older (captured text f) c h =
      either-older (at_end c.next.errors) (exec (V g a b) (f None) (faults c (CounterAtEnd Errors))) (exec (V g a b) (f (Some (record { serial = c.next.errors; text = text }))) (drew_error c)) c
      (λ q. older (f None) (faults c (CounterAtEnd Errors)) q)
      (λ q. older (f (Some (record { serial = c.next.errors; text = text }))) (drew_error c) q)
      h
  older (throw e p) c h = older p _ h
  older (clear_errors p) c h = older p _ h
  older (hook_is_new f) c h = older (f _) c h
  older (use_hook k v f) c h =
      hook-older g a b c k (HookValue k v) (nth g.hooks c.index)
      (older (f (hook_value k v (nth g.hooks c.index))) (hooked (V g a b) c k (HookValue k v) (nth g.hooks c.index)) h)
  older (use_effect k e f) c h =
      hook-older g a b c k (HookEffect k e) (nth g.hooks c.index)
      (older (f (hook_stands k (nth g.hooks c.index))) (hooked (V g a b) c k (HookEffect k e) (nth g.hooks c.index)) h)

  either-same : (t : Bool) (x y u v : Meaning K A) → (GoodEnd x → x ≡ u) → (GoodEnd y → y ≡ v) → GoodEnd (if t then x else y) → (if t then x else y) ≡ (if t then u else v)
  either-same true x y u v f e h = f h
  either-same false x y u v f e h = e h

  either-tested : (t : Bool) (x y u v : Meaning K A) → (t ≡ true → GoodEnd x → x ≡ u) → (GoodEnd y → y ≡ v) → GoodEnd (if t then x else y) → (if t then x else y) ≡ (if t then u else v)
  either-tested true x y u v f e h = f refl h
  either-tested false x y u v f e h = e h

  -- the meaning of a program is decided by what it read
  same : (p : Program K A) (c : Call K) → Knows g a b c → GoodEnd (exec (V g a b) p c) → exec (V g a b) p c ≡ exec (W g a b) p c
  same (done x) c o h = refl
  same (current_scope f) c o h = same (f g.scope) c o h
  same (parent_scope f) c o h = same (f (parent_in g.parents g.scope)) c o h
  same (current_task f) c o h = same (f g.task) c o h
  same (rendering f) c o h = same (f g.rendering) c o h
  same (generation f) c o h = same (f g.renders) c o h
  same (read n f) c o h =
      either-tested (nat_lt n c.next.cells)
      (exec (V g a b) (f (value_in (V g a b) (at c.cells n) n)) (noted c (Cell n)))
      (exec (V g a b) (f None) c)
      (exec (W g a b) (f (value_in (W g a b) (at c.cells n) n)) (noted c (Cell n)))
      (exec (W g a b) (f None) c)
      (
      λ t q. same (f (value_in (V g a b) (at c.cells n) n)) (noted c (Cell n)) (noted-knows g a b c (Cell n) c.into c.in_body o) q
      ∙ ap (λ (x : Option K.Value). exec (W g a b) (f x) (noted c (Cell n)))
      (value-same g a b c n (at c.cells n) refl o (tested_low n c.next.cells t) (noted-good g a b c (Cell n) c.into c.in_body (older (f (value_in (V g a b) (at c.cells n) n)) (noted c (Cell n)) q)).1)
      )
      (λ q. same (f None) c o q)
      h
  same (error f) c o h =
      same (f (error_in (V g a b) (nearest_boundary g))) (noted_error c (nearest_boundary g)) (error-knows g a b c (nearest_boundary g) o) h
      ∙ ap (λ (x : Option CapturedError). exec (W g a b) (f x) (noted_error c (nearest_boundary g)))
      (error-same g a b c (nearest_boundary g) (older (f (error_in (V g a b) (nearest_boundary g))) (noted_error c (nearest_boundary g)) h))
  same (consume_context from k f) c o h =
      same (f (look_up (V g a b) from k c).value) (look_up (V g a b) from k c).call (looked-knows g a b k (length g.parents + 1) (own_scope_or (V g a b) from) c o) h
      ∙ ap (λ (x : Found K). exec (W g a b) (f x.value) x.call)
      (looked-same g a b k (length g.parents + 1) (own_scope_or (V g a b) from) c (older (f (look_up (V g a b) from k c).value) (look_up (V g a b) from k c).call h))
  same (has_context k f) c o h =
      same (f (look_here (V g a b) k c).value) (look_here (V g a b) k c).call (here-knows g a b k c o) h
      ∙ ap (λ (x : Found K). exec (W g a b) (f x.value) x.call)
      (here-same g a b k c (older (f (look_here (V g a b) k c).value) (look_here (V g a b) k c).call h))
  same (new_context t f) c o h =
      either-same (at_end c.next.contexts) _ _ _ _
      (λ q. same (f None) (faults c (CounterAtEnd Contexts)) o q)
      (λ q. same (f (Some c.next.contexts)) (drew_context c t) o q)
      h
  same (run_in n p) c o h = same p _ o h
  same (reset_and_run_in n p) c o h = same p _ o h
  same (leave p) c o h = same p _ o h
  same (new_cell v f) c o h =
      either-same (at_end c.next.cells) _ _ _ _
      (λ q. same (f None) (faults c (CounterAtEnd Cells)) o q)
      (λ q. same (f (Some c.next.cells)) (drew_cell c v) (drawn-knows g a b c v o) q)
      h
  same (write n v p) c o h = same p _ o h
  same (drop_cell n p) c o h = same p _ o h
  same (spawn s x y f) c o h =
      either-same (at_end c.next.tasks) _ _ _ _
      (λ q. same (f None) (faults c (CounterAtEnd Tasks)) o q)
      (λ q. same (f (Some c.next.tasks)) (drew_task c s x y) o q)
      h
  same (remove_future t p) c o h = same p _ o h
  same (wake t p) c o h = same p _ o h
  same (set_active t x p) c o h = same p _ o h
  same (queue_effect e p) c o h = same p _ o h
  same (after_suspense_resolved e p) c o h = same p _ o h
  same (freeze p) c o h = same p _ o h
  same (provide root k v p) c o h = same p _ o h
  same (needs_update s p) c o h = same p _ o h
  same (captured text f) c o h =
      either-same (at_end c.next.errors) _ _ _ _
      (λ q. same (f None) (faults c (CounterAtEnd Errors)) o q)
      (λ q. same (f (Some (record { serial = c.next.errors; text = text }))) (drew_error c) o q)
      h
  same (throw e p) c o h = same p _ o h
  same (clear_errors p) c o h = same p _ o h
  same (hook_is_new f) c o h = same (f _) c o h
  same (use_hook k v f) c o h = same (f (hook_value k v (nth g.hooks c.index))) (hooked (V g a b) c k (HookValue k v) (nth g.hooks c.index)) (hook-knows g a b c k (HookValue k v) (nth g.hooks c.index) o) h
  same (use_effect k e f) c o h = same (f (hook_stands k (nth g.hooks c.index))) (hooked (V g a b) c k (HookEffect k e) (nth g.hooks c.index)) (hook-knows g a b c k (HookEffect k e) (nth g.hooks c.index) o) h

module _ {K : Types} {A : Type 0} where
  -- programs obey the law of reads, as bodies and as other calls
  pub body_decides : (p : Program K A) → ReadsDecide (λ w. body_means p w)
  body_decides p v w e aside reads =
      same v.given v.values w.values p (begun true v.given.next) (full-none (begun {K = K} true v.given.next).cells v.given.next.cells) (aside, reads)
      ∙ ap (λ (g : Given K). body_means p (record { given = g; values = w.values })) e

  pub call_decides : (p : Program K A) → ReadsDecide (λ w. call_means p w)
  call_decides p v w e aside reads =
      same v.given v.values w.values p (begun false v.given.next) (full-none (begun {K = K} false v.given.next).cells v.given.next.cells) (aside, reads)
      ∙ ap (λ (g : Given K). call_means p (record { given = g; values = w.values })) e
