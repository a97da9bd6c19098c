-- The count of calls, from one step to the next.
use Rattle.std.proofs.Common.{arith, ◌≡◌, ℕ, ◌+◌, ◌-◌, ◌^◌, Bool, true, false, Result, Ok, Err, ap, sym, ◌∙◌}
use Rattle.std.specs.Prelude.{OnOk, min}
use Rattle.rt_model.specs.Tree.{Types}
use Rattle.run_state.specs.declared.names.Stop.{Stop}
use Rattle.run_state.specs.declared.names.Stop.TheVariants as stops
use Rattle.run_state.specs.Mirror.{Unkept}
use Rattle.rt_scopes.specs.Counts.{Counts, CountsCut, CountsOn, counts_where, raised_where}

-- a fact of every successful outcome that holds anyhow
pub on_any : {U X : Type 0} {A : Type 0} (r : Result U X) → A → OnOk r A
on_any (Ok u) a = a
on_any (Err e) a = tt

-- a count at its last value stays there
min_raised : (calls last : ℕ) → min (min calls last + 1) last ≡ min (calls + 1) last
min_raised calls last = omega arith

-- one more call
pub counted_once : (old new calls : ℕ) → new ≡ min (old + 1) (2 ^ 64 - 1) → Counts old calls → Counts new (calls + 1)
counted_once old new calls raised was =
    raised ∙ ap (λ n. min (n + 1) (2 ^ 64 - 1)) was ∙ min_raised calls (2 ^ 64 - 1)

-- whatever came of it
pub counts_on : {A : Type 0} (n c m d : ℕ) (result : Result A Stop) → (Counts n c → Counts m d) → CountsOn n c m d result
counts_on n c m d (Ok a) on = on
counts_on n c m d (Err stops.OutOfMemory) on = tt
counts_on n c m d (Err (stops.Fault what)) on = on

pub counts_cut : (n c m d : ℕ) (stop : Stop) → (Counts n c → Counts m d) → CountsCut n c m d stop
counts_cut n c m d stops.OutOfMemory on = tt
counts_cut n c m d (stops.Fault what) on = on

-- one step was done, and then another one came to this
pub counts_then : {A : Type 0} (n c m d k e : ℕ) (result : Result A Stop)
    → (Counts n c → Counts m d) → CountsOn m d k e result → CountsOn n c k e result
counts_then n c m d k e (Ok a) first second = λ was. second (first was)
counts_then n c m d k e (Err stops.OutOfMemory) first second = tt
counts_then n c m d k e (Err (stops.Fault what)) first second = λ was. second (first was)

-- or was cut
pub cut_then : (n c m d k e : ℕ) (stop : Stop) → (Counts n c → Counts m d) → CountsCut m d k e stop → CountsCut n c k e stop
cut_then n c m d k e stops.OutOfMemory first second = tt
cut_then n c m d k e (stops.Fault what) first second = λ was. second (first was)

module _ {K : Types} where
  -- a call, where there was one
  counted_where : (own : Bool) (old new : ℕ) (g : Unkept K) → new ≡ raised_where own old → Counts old g.calls → Counts new (counts_where own g).calls
  counted_where true old new g raised was = counted_once old new g.calls raised was
  counted_where false old new g raised was = raised ∙ was

  -- a call, where there was one, and then steps that call nothing
  pub counted_after : {A : Type 0} (own : Bool) (old mid new calls : ℕ) (g : Unkept K) (result : Result A Stop)
      → mid ≡ raised_where own old
      → new ≡ mid
      → calls ≡ (counts_where own g).calls
      → CountsOn old g.calls new calls result
  counted_after own old mid new calls g result raised stays same =
      counts_on old g.calls new calls result
      (λ was. stays ∙ counted_where own old mid g raised was ∙ ap (λ n. min n (2 ^ 64 - 1)) (sym same))
