-- Kinds of contexts in ranges, one for each library that provides some: whose ranges are apart never meet.
use Rattle.std.specs.Prelude.{ℕ, ◌+◌, Bool, true, false, ◌&&◌, ◌||◌, nat_le, nat_lt, List, [], ◌∷◌, Option, Some, ◌≡◌}
use Rattle.std.specs.List.{AllByRecursion}
use Rattle.rt_model.specs.Lists.{nth}
use Rattle.rt_model.specs.Program.{Program, done, current_scope, parent_scope, current_task, rendering, generation, read, error, consume_context, has_context, new_context, run_in, reset_and_run_in, leave, new_cell, write, drop_cell, spawn, remove_future, wake, set_active, queue_effect, after_suspense_resolved, freeze, provide, needs_update, captured, throw, clear_errors, hook_is_new, use_hook, use_effect, Call, own_context, body_means, call_means}
use Rattle.rt_model.specs.Tree.{Types, CapturedError}
use Rattle.rt_model.specs.World.{Command, Provide, World}
use Rattle.author_programs.specs.Came.{came}
use Rattle.author_programs.specs.Sequence.{go_on}

-- so many kinds, from a first one on
pub record Kinds : Type 0 where
  pub first : ℕ
  pub count : ℕ

-- whether a kind is one of them
abbrev pub is_among : Kinds → ℕ → Bool
is_among r kind = nat_le r.first kind && nat_lt kind (r.first + r.count)

-- whether one range ends before the other begins
abbrev pub apart : Kinds → Kinds → Bool
apart r s = nat_le (r.first + r.count) s.first || nat_le (s.first + s.count) r.first

-- whether a range is apart from each of these
abbrev pub apart_from : Kinds → List Kinds → Bool
apart_from r [] = true
apart_from r (s ∷ ss) = apart r s && apart_from r ss

-- whether each two of them are apart
abbrev pub all_apart : List Kinds → Bool
all_apart [] = true
all_apart (r ∷ rs) = apart_from r rs && all_apart rs

-- of ranges that are all apart a kind is in one at most
abbrev pub KindsApart : Type 0
KindsApart =
    (ranges : List Kinds) (i j : ℕ) (r s : Kinds) (kind : ℕ)
    → all_apart ranges ≡ true
    → nth ranges i ≡ Some r
    → nth ranges j ≡ Some s
    → is_among r kind ≡ true
    → is_among s kind ≡ true
    → i ≡ j

module _ {K : Types} {A : Type 0} where
  -- the program provides contexts of these kinds alone, whatever its calls are answered
  unfoldable pub ProvidesOnly : Kinds → Program K A → Type 0
  ProvidesOnly r (done a) = Unit {0}
  ProvidesOnly r (current_scope f) = (s : ℕ) → ProvidesOnly r (f s)
  ProvidesOnly r (parent_scope f) = (s : Option ℕ) → ProvidesOnly r (f s)
  ProvidesOnly r (current_task f) = (t : Option ℕ) → ProvidesOnly r (f t)
  ProvidesOnly r (rendering f) = (b : Bool) → ProvidesOnly r (f b)
  ProvidesOnly r (generation f) = (n : ℕ) → ProvidesOnly r (f n)
  ProvidesOnly r (read n f) = (v : Option K.Value) → ProvidesOnly r (f v)
  ProvidesOnly r (error f) = (e : Option CapturedError) → ProvidesOnly r (f e)
  ProvidesOnly r (consume_context from kind f) = (v : Option K.Value) → ProvidesOnly r (f v)
  ProvidesOnly r (has_context kind f) = (v : Option K.Value) → ProvidesOnly r (f v)
  ProvidesOnly r (new_context t f) = (n : Option ℕ) → ProvidesOnly r (f n)
  ProvidesOnly r (run_in n p) = ProvidesOnly r p
  ProvidesOnly r (reset_and_run_in n p) = ProvidesOnly r p
  ProvidesOnly r (leave p) = ProvidesOnly r p
  ProvidesOnly r (new_cell v f) = (n : Option ℕ) → ProvidesOnly r (f n)
  ProvidesOnly r (write n v p) = ProvidesOnly r p
  ProvidesOnly r (drop_cell n p) = ProvidesOnly r p
  ProvidesOnly r (spawn a forever isomorphic f) = (t : Option ℕ) → ProvidesOnly r (f t)
  ProvidesOnly r (remove_future t p) = ProvidesOnly r p
  ProvidesOnly r (wake t p) = ProvidesOnly r p
  ProvidesOnly r (set_active t b p) = ProvidesOnly r p
  ProvidesOnly r (queue_effect e p) = ProvidesOnly r p
  ProvidesOnly r (after_suspense_resolved e p) = ProvidesOnly r p
  ProvidesOnly r (freeze p) = ProvidesOnly r p
  ProvidesOnly r (provide root kind v p) = (is_among r kind ≡ true) × ProvidesOnly r p
  ProvidesOnly r (needs_update s p) = ProvidesOnly r p
  ProvidesOnly r (captured text f) = (e : Option CapturedError) → ProvidesOnly r (f e)
  ProvidesOnly r (throw e p) = ProvidesOnly r p
  ProvidesOnly r (clear_errors p) = ProvidesOnly r p
  ProvidesOnly r (hook_is_new f) = (b : Bool) → ProvidesOnly r (f b)
  ProvidesOnly r (use_hook kind v f) = (o : Option K.Value) → ProvidesOnly r (f o)
  ProvidesOnly r (use_effect kind e f) = (b : Bool) → ProvidesOnly r (f b)

module _ {K : Types} where
  -- a command that provides a context provides one of these kinds
  abbrev pub IsWithin : Kinds → Command K → Type 0
  IsWithin r (Provide root kind v) = is_among r kind ≡ true
  IsWithin r _ = Unit {0}

-- so do such programs one after another
abbrev pub KindsGoOn : (K : Types) → Type 0 → Type 0 → Type 0
KindsGoOn K A B =
    (r : Kinds) (p : Program K A) (f : A → Program K B)
    → ProvidesOnly r p
    → ((a : A) → ProvidesOnly r (f a))
    → ProvidesOnly r (go_on p f)

-- as a body and as another call it gives no command that provides a context of another kind
abbrev pub CommandsWithin : (K : Types) → Type 0 → Type 0
CommandsWithin K A =
    (r : Kinds) (p : Program K A) (w : World K)
    → ProvidesOnly r p
    → AllByRecursion (λ c. IsWithin r c) (body_means p w).commands
    × AllByRecursion (λ c. IsWithin r c) (call_means p w).commands

-- what the call provided of any other kind is as it was
abbrev pub OtherKindsStay : (K : Types) → Type 0 → Type 0
OtherKindsStay K A =
    (r : Kinds) (p : Program K A) (w : World K) (c : Call K) (kind s : ℕ)
    → ProvidesOnly r p
    → is_among r kind ≡ false
    → own_context (came w p c).call.provided kind s ≡ own_context c.provided kind s
