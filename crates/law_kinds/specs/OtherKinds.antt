-- What scopes provide of the kinds that a program keeps away from.
use Rattle.std.specs.Prelude.{ℕ, false, List, Option, ◌≡◌}
use Rattle.std.specs.List.{AllByRecursion}
use Rattle.rt_model.specs.Commands.{commands}
use Rattle.rt_model.specs.Program.{Program, body_means, call_means}
use Rattle.rt_model.specs.State.{State, values_of}
use Rattle.rt_model.specs.Tree.{Types}
use Rattle.rt_model.specs.World.{Command, World, Application}
use Rattle.author_programs.specs.Kinds.{Kinds, is_among, ProvidesOnly, IsWithin}

module _ {K : Types} (app : Application K) (s : ℕ) (polled : Option ℕ) (kind t : ℕ) where
  -- the commands of a call in scope s leave what scope t provides of the kind
  abbrev pub LeaveProvided : State K → List (Command K) → Type 0
  LeaveProvided w cs = (values_of (commands app w s polled cs)).context kind t ≡ (values_of w).context kind t

-- commands that provide contexts of some kinds alone leave what each scope provides of another one
abbrev pub CommandsKeepOthers : Types → Type 0
CommandsKeepOthers K =
    (app : Application K) (r : Kinds) (w : State K) (s : ℕ) (polled : Option ℕ) (cs : List (Command K)) (kind t : ℕ)
    → AllByRecursion (λ c. IsWithin r c) cs
    → is_among r kind ≡ false
    → LeaveProvided app s polled kind t w cs

-- so do those of a program that provides contexts of these kinds alone, whatever world it is called in
abbrev pub ProgramsKeepOthers : (K : Types) → Type 0 → Type 0
ProgramsKeepOthers K A =
    (app : Application K) (r : Kinds) (p : Program K A) (v : World K) (w : State K) (s : ℕ) (polled : Option ℕ) (kind t : ℕ)
    → ProvidesOnly r p
    → is_among r kind ≡ false
    → LeaveProvided app s polled kind t w (body_means p v).commands × LeaveProvided app s polled kind t w (call_means p v).commands
