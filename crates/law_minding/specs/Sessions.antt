-- What a session that finished says of its memos and resources.
use Rattle.std.specs.Prelude.{ℕ, Bool, true, List, [], ◌∷◌, ◌++◌, Option, Some, None, ◌≡◌}
use Rattle.rt_model.specs.Lists.{at, joined}
use Rattle.rt_model.specs.Laws.{IsLawful}
use Rattle.rt_model.specs.Tree.{Types}
use Rattle.rt_model.specs.World.{Application}
use Rattle.rt_model.specs.State.{CellRow, TaskRow}
use Rattle.rt_model.specs.Replay.{Entry, Poll, Input, Machine, start}
use Rattle.rt_model.specs.Document.{Edit}
use Rattle.rt_model.specs.Causes.{Limits, replay_within}
use Rattle.rt_model.specs.Reports.{Report, logs_of}
use Rattle.rt_model.specs.Headline.{Headline}
use Rattle.law_moves.specs.Moves.{Move, Logged, entries, Moves, Leads}
use Rattle.author_formulas.specs.Formulas.{Formulas, FormulasLook}
use Rattle.author_formulas.specs.Memos.{MemoTask, fresh, PollsMemos}
use Rattle.law_minding.specs.Held.{state_after_poll}
use Rattle.law_minding.specs.Unpolled.{StandsFresh, KeptFrom, PausedFrom}
use Rattle.law_minding.specs.Coming.{FreshFrom}
use Rattle.law_minding.specs.Waking.{some_wakes}

module _ {K : Types} {F : Type 0} (a : Formulas K F) (app : Application K) (state : MemoTask K.Value F → K.TaskState) where
  -- of the reports of a session, with machines that replay comes to: m after some entries, v after some reports
  pub record MemosKept (props : K.Props) (inputs : List (Input K)) (limits : Limits) (reports : List Report) : Type 0 where
    -- each poll does what the definitions' poll asks for, leaves the task where that answers, and then looks
    pub polls :
        (before log : List Entry) (m : Machine K) (t : ℕ) (task : TaskRow K) (x : MemoTask K.Value F)
        → joined (logs_of reports) ≡ before ++ Poll t ∷ log
        → replay_within app limits (Some (start app props inputs)) before ≡ Some m
        → at m.state.tasks t ≡ Some task
        → task.state ≡ state x
        → (u : Machine K) × Moves app limits m (Logged (Poll t)) u × (u.state ≡ state_after_poll a app state m t task x)
    -- who is spawned fresh by an entry, or by what follows on it without one, and isn't touched until the next entry, stands fresh then
    pub spawned :
        (before rest : List Entry) (e : Entry) (m n : Machine K) (t cell scope : ℕ) (held : CellRow K) (f : F) (loads : Bool)
        → joined (logs_of reports) ≡ before ++ e ∷ rest
        → replay_within app limits (Some (start app props inputs)) before ≡ Some m
        → replay_within app limits (Some m) (e ∷ []) ≡ Some n
        → at m.state.tasks t ≡ None
        → FreshFrom a app state limits m n e t cell scope held f loads
    -- who stands fresh at m, isn't touched before its first poll, and left to its polls from there on, is kept at v, where it is active
    pub kept :
        (done later : List Report) (before between log : List Entry) (m u v : Machine K)
        → (t cell scope : ℕ) (held : CellRow K) (f : F) (loads : Bool)
        → reports ≡ done ++ later
        → joined (logs_of done) ≡ before ++ (between ++ Poll t ∷ log)
        → replay_within app limits (Some (start app props inputs)) before ≡ Some m
        → replay_within app limits (Some m) between ≡ Some u
        → replay_within app limits (Some u) (Poll t ∷ log) ≡ Some v
        → StandsFresh state m.state t cell scope held f loads
        → KeptFrom a app limits m u v between log t scope held.owner (fresh cell f loads)
    -- from the start of a poll of a task to that of its next one something woke it: a wake, a resume, or a mark of a source that one of its
    -- reactive contexts read
    pub caused :
        (before between log : List Entry) (m v : Machine K) (t : ℕ)
        → joined (logs_of reports) ≡ before ++ (Poll t ∷ (between ++ Poll t ∷ log))
        → replay_within app limits (Some (start app props inputs)) before ≡ Some m
        → replay_within app limits (Some m) (Poll t ∷ between) ≡ Some v
        → (moves : List Move)
        × (leads : Leads app limits m (Logged (Poll t) ∷ moves) v)
        × (entries moves ≡ between)
        × (some_wakes app limits t m v (Logged (Poll t) ∷ moves) leads ≡ true)
    -- and who wasn't polled since it stood fresh isn't active at v
    pub paused :
        (done later : List Report) (before between : List Entry) (m v : Machine K)
        → (t cell scope : ℕ) (held : CellRow K) (f : F) (loads : Bool)
        → reports ≡ done ++ later
        → joined (logs_of done) ≡ before ++ between
        → replay_within app limits (Some (start app props inputs)) before ≡ Some m
        → replay_within app limits (Some m) between ≡ Some v
        → StandsFresh state m.state t cell scope held f loads
        → PausedFrom a app limits m v between t held.owner (fresh cell f loads)

  -- so it is of the headline of each session
  abbrev pub SessionsKeepMemos : Type 0
  SessionsKeepMemos =
      IsLawful K app
      → FormulasLook a
      → PollsMemos a app state
      → (props : K.Props) (inputs : List (Input K)) (limits : Limits) (taken : Option (List Edit)) (reports : List Report)
      → Headline app props inputs limits taken reports
      → MemosKept props inputs limits reports
