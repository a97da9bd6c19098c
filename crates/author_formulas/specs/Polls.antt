-- What a poll of a memo means: its context is emptied, the sources of its formula are read into it, and its cell is written
-- unless it has the value. At its first poll the context is made before that.
use Rattle.std.specs.Prelude.{ℕ, Bool, true, false, List, [], ◌∷◌, ◌++◌, reverse, Some, None, ◌≡◌}
use Rattle.rt_model.specs.Program.{Call, begun, says, drew_context}
use Rattle.rt_model.specs.Tree.{Types}
use Rattle.rt_model.specs.World.{Source, TaskTarget, Contexts, CounterAtEnd, at_end, Command, NewContext, Reset, ReadInto, Write, World}
use Rattle.author_programs.specs.Came.{Came, came}
use Rattle.author_programs.specs.Contexts.{entered, left}
use Rattle.author_programs.specs.Reads.{read_value}
use Rattle.author_formulas.specs.Formulas.{Formulas, FormulasLook}
use Rattle.author_formulas.specs.Memos.{MemoTask, fresh, memo, memo_polled, is_present}

module _ {K : Types} where
  -- sources are read into a context, in order
  abbrev pub reads_into : ℕ → List Source → List (Command K)
  reads_into n [] = []
  reads_into n (x ∷ xs) = ReadInto n x ∷ reads_into n xs

  -- a write of a cell, and none where it has the value
  abbrev pub write_commands : Bool → ℕ → K.Value → List (Command K)
  write_commands true cell v = []
  write_commands false cell v = Write cell v ∷ []

  -- a call goes on in a context, which was emptied
  abbrev pub computing_in : Call K → ℕ → Call K
  computing_in c context = says (entered c context) (Reset context)

  -- the call in which a poll computes a formula: in its context
  abbrev pub computing_call : World K → ℕ → Call K
  computing_call w context = computing_in (begun false w.given.next) context

  -- at its first poll: in the context that the poll has made, whose number is the next one
  abbrev pub first_computing_call : World K → ℕ → Call K
  first_computing_call w t = computing_in (drew_context (begun false w.given.next) (TaskTarget t)) w.given.next.contexts

  -- a first poll makes a context that wakes its task
  abbrev pub makes_context : World K → ℕ → List (Command K)
  makes_context w t = NewContext w.given.next.contexts (TaskTarget t) ∷ []

module _ {K : Types} {F : Type 0} (a : Formulas K F) where
  -- what a formula comes to in a call
  abbrev pub computed : World K → Call K → F → Came K K.Value
  computed w call f = came w (a.computes f) call

  -- whether a cell has a value, once the context in which a formula was computed is left
  abbrev pub has_then : World K → ℕ → Came K K.Value → K.Value → Bool
  has_then w cell x v = is_present a.same (read_value w (left x.call) cell) v

  -- whether it has what was computed
  abbrev pub has_computed : World K → ℕ → Came K K.Value → Bool
  has_computed w cell x = has_then w cell x x.answer

  -- a poll of a memo whose formula came to this: after what was asked for before, the sources are read into the emptied context
  pub record PollsMemo
      (w : World K) (before : List (Command K)) (cell context : ℕ) (f : F) (x : Came K K.Value)
      (poll : Came K (MemoTask K.Value F)) : Type 0 where
    pub answer : poll.answer ≡ memo cell context f
    pub sources : List Source
    pub looked : x.call.aside ≡ reverse sources
    pub commands :
        poll.call.commands
        ≡
        before ++ Reset context ∷ (reads_into context sources ++ write_commands (has_computed w cell x) cell x.answer)
    -- no call of it was refused
    pub allowed : poll.call.fault ≡ None

  -- each poll of a memo, whose formulas only look, is such a one
  abbrev pub MemosPoll : Type 0
  MemosPoll =
      FormulasLook a
      → (w : World K) (t cell context : ℕ) (f : F)
      → w.given.task ≡ Some t
      → PollsMemo w [] cell context f (computed w (computing_call w context) f)
      (came w (memo_polled a (memo cell context f)) (begun false w.given.next))

  -- and each first poll, which makes the context, where a number is left for it
  abbrev pub MemosFirstPoll : Type 0
  MemosFirstPoll =
      FormulasLook a
      → (w : World K) (t cell : ℕ) (f : F)
      → w.given.task ≡ Some t
      → at_end w.given.next.contexts ≡ false
      → PollsMemo w (makes_context w t) cell w.given.next.contexts f (computed w (first_computing_call w t) f)
      (came w (memo_polled a (fresh cell f false)) (begun false w.given.next))

  -- where none is left the task stands as it stood, and asks for nothing
  abbrev pub FirstPollsRefused : Type 0
  FirstPollsRefused =
      (w : World K) (t cell : ℕ) (f : F) (loads : Bool)
      → w.given.task ≡ Some t
      → at_end w.given.next.contexts ≡ true
      → let poll = came w (memo_polled a (fresh cell f loads)) (begun false w.given.next) in
      (poll.answer ≡ fresh cell f loads) × (poll.call.commands ≡ []) × (poll.call.fault ≡ Some (CounterAtEnd Contexts))
