-- What a poll of a resource means: its key is computed as the value of a memo is; a new key empties its cell and begins to load,
-- and a resource that wasn't loaded yet takes one step.
use Rattle.std.specs.Prelude.{ℕ, ◌+◌, min, Bool, true, false, List, [], ◌∷◌, ◌++◌, reverse, Some, None, ◌≡◌}
use Rattle.rt_model.specs.Program.{begun}
use Rattle.rt_model.specs.Tree.{Types}
use Rattle.rt_model.specs.World.{Source, at_end, last_number, Command, Reset, Write, World}
use Rattle.author_programs.specs.Came.{Came, came}
use Rattle.author_formulas.specs.Formulas.{Formulas, FormulasLook, Load, wait, loaded}
use Rattle.author_formulas.specs.Memos.{MemoTask, fresh, resource, memo_polled}
use Rattle.author_formulas.specs.Polls.{reads_into, write_commands, computing_call, first_computing_call, makes_context, computed, has_then}

module _ {V F : Type 0} where
  -- where a resource stands after one step of loading for its key
  abbrev pub stepped_to : ℕ → ℕ → F → V → ℕ → Load V → MemoTask V F
  stepped_to cell context f key step wait = resource cell context f key (min (step + 1) last_number) false
  stepped_to cell context f key step (loaded v) = resource cell context f key step true

module _ {K : Types} where
  -- what that step asks for: a write of its cell, once it was loaded
  abbrev pub step_commands : ℕ → Load K.Value → List (Command K)
  step_commands cell wait = []
  step_commands cell (loaded v) = Write cell v ∷ []

module _ {K : Types} {F : Type 0} (a : Formulas K F) where
  -- where a resource stands once it has loaded on for its key: as it stood where it was loaded, else one step further
  abbrev pub loaded_to : ℕ → ℕ → F → K.Value → ℕ → Bool → MemoTask K.Value F
  loaded_to cell context f key step true = resource cell context f key step true
  loaded_to cell context f key step false = stepped_to cell context f key step (a.loads f key step)

  abbrev pub load_commands : ℕ → F → K.Value → ℕ → Bool → List (Command K)
  load_commands cell f key step true = []
  load_commands cell f key step false = step_commands cell (a.loads f key step)

  -- where it stands for a key that is the one that it had, or that is new
  abbrev pub keyed_to : Bool → ℕ → ℕ → F → K.Value → ℕ → Bool → MemoTask K.Value F
  keyed_to true cell context f key step is_done = loaded_to cell context f key step is_done
  keyed_to false cell context f key step is_done = loaded_to cell context f key 0 false

  -- a new key empties the cell, unless it is empty
  abbrev pub key_commands : Bool → Bool → ℕ → F → K.Value → ℕ → Bool → List (Command K)
  key_commands true is_empty cell f key step is_done = load_commands cell f key step is_done
  key_commands false is_empty cell f key step is_done = write_commands is_empty cell a.empty ++ load_commands cell f key 0 false

  -- a poll of a resource whose key came to this, after what was asked for before
  pub record PollsResource
      (w : World K) (before : List (Command K)) (cell context : ℕ) (f : F) (x : Came K K.Value)
      (is_same : Bool) (step : ℕ) (is_done : Bool) (poll : Came K (MemoTask K.Value F)) : Type 0 where
    pub answer : poll.answer ≡ keyed_to is_same cell context f x.answer step is_done
    pub sources : List Source
    pub looked : x.call.aside ≡ reverse sources
    pub commands :
        poll.call.commands
        ≡
        before ++ Reset context
        ∷ (reads_into context sources ++ key_commands is_same (has_then a w cell x a.empty) cell f x.answer step is_done)
    -- no call of it was refused
    pub allowed : poll.call.fault ≡ None

  -- each poll of a resource, whose formulas only look, is such a one
  abbrev pub ResourcesPoll : Type 0
  ResourcesPoll =
      FormulasLook a
      → (w : World K) (t cell context : ℕ) (f : F) (key : K.Value) (step : ℕ) (is_done : Bool)
      → w.given.task ≡ Some t
      → PollsResource w [] cell context f (computed a w (computing_call w context) f)
      (a.same key (computed a w (computing_call w context) f).answer)
      step
      is_done
      (came w (memo_polled a (resource cell context f key step is_done)) (begun false w.given.next))

  -- and each first poll, whose key is always new, where a number is left for its context
  abbrev pub ResourcesFirstPoll : Type 0
  ResourcesFirstPoll =
      FormulasLook a
      → (w : World K) (t cell : ℕ) (f : F)
      → w.given.task ≡ Some t
      → at_end w.given.next.contexts ≡ false
      → PollsResource w (makes_context w t) cell w.given.next.contexts f (computed a w (first_computing_call w t) f) false 0 false
      (came w (memo_polled a (fresh cell f true)) (begun false w.given.next))
