-- How often an application was called: code's count, and that of the definitions.
use Rattle.std.specs.Prelude.{◌≡◌, ℕ, ◌+◌, ◌-◌, ◌^◌, min, Bool, true, false, None, Result, Ok, Err}
use Rattle.rt_model.specs.Tree.{Types}
use Rattle.rt_model.specs.OneLog.{types}
use Rattle.rt_model.specs.World.{World}
use Rattle.rt_model.specs.State.{world_of}
use Rattle.run_state.specs.declared.names.Stop.{Stop}
use Rattle.run_state.specs.declared.names.Stop.TheVariants as stops
use Rattle.run_state.specs.declared.state.State.{State}
use Rattle.run_state.specs.Mirror.{Unkept, counts, state_of}

-- a count stands for so many calls, up to its last value
abbrev pub Counts : ℕ → ℕ → Type 0
Counts count calls = count ≡ min calls (2 ^ 64 - 1)

-- where a change was cut
abbrev pub CountsCut : ℕ → ℕ → ℕ → ℕ → Stop → Type 0
CountsCut old_count old_calls new_count new_calls stops.OutOfMemory = Unit {0}
CountsCut old_count old_calls new_count new_calls (stops.Fault what) = Counts old_count old_calls → Counts new_count new_calls

-- a count goes on standing for the calls; where memory was wanting nothing is said
abbrev pub CountsOn : {A : Type 0} → ℕ → ℕ → ℕ → ℕ → Result A Stop → Type 0
CountsOn old_count old_calls new_count new_calls (Ok answer) = Counts old_count old_calls → Counts new_count new_calls
CountsOn old_count old_calls new_count new_calls (Err stop) = CountsCut old_count old_calls new_count new_calls stop

-- a count after a call, where there was one
abbrev pub raised_where : Bool → ℕ → ℕ
raised_where true count = min (count + 1) (2 ^ 64 - 1)
raised_where false count = count

module _ {K : Types} where
  -- the application is called once more, where this says so
  abbrev pub counts_where : Bool → Unkept K → Unkept K
  counts_where true g = counts g
  counts_where false g = g

module _ {P C Q V H T E L : Type 0} where
  -- a count is raised where this says, of the present world of a scope, that the application's own body is called
  abbrev pub RaisesWhere : (World (types C Q V H T E L) → Bool) → State P C Q V H T E L → ℕ → ℕ → ℕ → Type 0
  RaisesWhere own d scope old_count new_count =
      (g : Unkept (types C Q V H T E L)) → new_count ≡ raised_where (own (world_of (state_of g d) scope None true)) old_count
