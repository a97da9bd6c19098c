-- The memos and resources of a session's reports.
use Rattle.std.proofs.Common.{ℕ, ◌<◌, Bool, true, not, List, [], ◌∷◌, ◌++◌, ◌≡◌, refl, sym, ap, ◌∙◌, subst}
use Rattle.std.proofs.lemmas.List.{append-nil}
use Rattle.std.specs.Prelude.{Some, None}
use Rattle.std.specs.List.{AllByRecursion}
use Rattle.rt_model.specs.Lists.{at, joined}
use Rattle.rt_model.specs.Laws.{IsLawful}
use Rattle.rt_model.specs.Tree.{Types}
use Rattle.rt_model.specs.World.{Application}
use Rattle.rt_model.specs.State.{CellRow, TaskRow}
use Rattle.rt_model.specs.Next.{owes, next}
use Rattle.rt_model.specs.Replay.{Entry, Poll, Input, Machine, is_quiet, start, replay_on}
use Rattle.rt_model.specs.Causes.{Limits, replay_within}
use Rattle.rt_model.specs.Told.{Told, telling, told_by, tell_reports, is_settled}
use Rattle.rt_model.specs.Reports.{Report, logs_of}
use Rattle.rt_model.proofs.Conjunctions.{and-left, and-right}
use Rattle.rt_model.proofs.ToldReplayed.{First, first-of, log-replays, replay-append, within-replays}
use Rattle.law_moves.specs.Moves.{Move, Logged, entries, Moves, IsSettled, Leads}
use Rattle.law_moves.proofs.Logs.{logs_are_moves}
use Rattle.law_headline.proofs.Reports.{one_machine, settled_after}
use Rattle.law_headline.proofs.Fronts.{logs_joined as both_logs}
use Rattle.law_behavior.specs.Owed.{WakesArePolled}
use Rattle.law_behavior.proofs.Leading.{within_split, quiet_alive}
use Rattle.author_formulas.specs.Formulas.{Formulas, FormulasLook}
use Rattle.author_formulas.specs.Memos.{MemoTask, fresh, PollsMemos}
use Rattle.law_minding.specs.Held.{state_after_poll}
use Rattle.law_minding.specs.Unpolled.{StandsFresh, KeptFrom, PausedFrom}
use Rattle.law_minding.specs.Sessions.{MemosKept, SessionsKeepMemos}
use Rattle.law_minding.proofs.Logged.{begins_with, none_next}
use Rattle.law_minding.proofs.Rested.{alive_before}
use Rattle.law_minding.proofs.PollsDone.{polls_are_done}
use Rattle.law_minding.specs.Waking.{some_wakes}
use Rattle.law_minding.proofs.Drawn.{tasks_are_drawn, polled_there}
use Rattle.law_minding.proofs.Caused.{polls_are_caused}
use Rattle.law_minding.specs.Coming.{FreshFrom}
use Rattle.law_minding.proofs.Comers.{comers_stand}
use Rattle.law_minding.proofs.Spawned.{fresh_are_kept}
use Rattle.law_minding.proofs.Unpolled.{fresh_stay, fresh_is_owed}

module _ {K : Types} where
  quiet_of : (m : Machine K) → is_settled m ≡ true → is_quiet m ≡ true
  quiet_of m h = and-left (is_quiet m) (not (owes m.state)) h

  living : (m : Machine K) → is_settled m ≡ true → m.dead ≡ None
  living m h = quiet_alive m (quiet_of m h)

  nothing_next : (m : Machine K) → is_settled m ≡ true → next m.state ≡ None
  nothing_next m h = none_next (next m.state) (and-right (is_quiet m) (not (owes m.state)) h)

module _ {K : Types} (app : Application K) where
  -- after each report nothing is owed
  abbrev AllSettled : List (Told K) → Type 0
  AllSettled told = AllByRecursion (λ (r : Told K). is_settled r.machine ≡ true) told

  -- where reports are settled, so is the machine at the end of a front of them
  settled_from : (logs more : List (List Entry)) (m v : Machine K) (told : List (Told K)) → is_settled m ≡ true
      → tell_reports app m (logs ++ more) ≡ Some told
      → AllSettled told
      → replay_on app (Some m) (joined logs) ≡ Some v
      → is_settled v ≡ true
  settled_from [] more m v told rests tells settled replays = subst (λ (z : Machine K). is_settled z ≡ true) (one_machine m v replays) rests
  settled_from (log ∷ logs) more m v told rests tells settled replays =
      let f : First app m log (logs ++ more) told = first-of app m log (logs ++ more) told tells in
      let each : AllSettled (told_by f.0 ∷ f.1) = subst (λ (rs : List (Told K)). AllSettled rs) (sym f.4) settled in
      let on : replay_on app (Some (f.0).machine) (joined logs) ≡ Some v =
      ap (λ o. replay_on app o (joined logs)) (sym (log-replays app log (telling m) f.0 f.2))
      ∙ sym (replay-append app log (joined logs) (Some m))
      ∙ replays in
      settled_from logs more (f.0).machine v f.1 each.0 f.3 each.1 on

  -- a log goes on from where another one ends
  then_replays : (xs ys : List Entry) (m u v : Machine K) → replay_on app (Some m) xs ≡ Some u → replay_on app (Some u) ys ≡ Some v → replay_on app (Some m) (xs ++ ys) ≡ Some v
  then_replays xs ys m u v first later = replay-append app xs ys (Some m) ∙ ap (λ o. replay_on app o ys) first ∙ later

module _ {K : Types} {F : Type 0} (a : Formulas K F) (app : Application K) (state : MemoTask K.Value F → K.TaskState) (woken : WakesArePolled app)
    (lawful : IsLawful K app) (looks : FormulasLook a) (polls : PollsMemos a app state)
    (props : K.Props) (inputs : List (Input K)) (limits : Limits) (reports : List Report) (told : List (Told K))
    (tells : tell_reports app (start app props inputs) (logs_of reports) ≡ Some told)
    (settled : AllSettled app told)
    (last : Machine K) (within : replay_within app limits (Some (start app props inputs)) (joined (logs_of reports)) ≡ Some last) where
  abbrev from : Machine K
  from = start app props inputs

  -- after some reports nothing is at work and nothing is owed
  settled_at : (done later : List Report) (v : Machine K) → reports ≡ done ++ later → replay_on app (Some from) (joined (logs_of done)) ≡ Some v → is_settled v ≡ true
  settled_at done later v parts replays =
      settled_from app (logs_of done) (logs_of later) from v told refl
      (subst (λ (logs : List (List Entry)). tell_reports app from logs ≡ Some told) (ap (λ (rs : List Report). logs_of rs) parts ∙ both_logs done later) tells)
      settled
      replays

  last_settled : is_settled last ≡ true
  last_settled =
      settled_from app (logs_of reports) [] from last told refl
      (subst (λ (logs : List (List Entry)). tell_reports app from logs ≡ Some told) (sym (append-nil (logs_of reports))) tells)
      settled
      (within-replays app limits (joined (logs_of reports)) from last within)

  each_poll : (before log : List Entry) (m : Machine K) (t : ℕ) (task : TaskRow K) (x : MemoTask K.Value F)
      → joined (logs_of reports) ≡ before ++ Poll t ∷ log
      → replay_within app limits (Some from) before ≡ Some m
      → at m.state.tasks t ≡ Some task
      → task.state ≡ state x
      → (u : Machine K) × Moves app limits m (Logged (Poll t)) u × (u.state ≡ state_after_poll a app state m t task x)
  each_poll before log m t task x parts first there stands =
      let whole : replay_within app limits (Some from) (before ++ Poll t ∷ log) ≡ Some last =
      ap (λ (es : List Entry). replay_within app limits (Some from) es) (sym parts) ∙ within in
      let split = within_split app limits before (Poll t ∷ log) from last whole in
      let same : split.0 ≡ m = one_machine split.0 m (sym split.1 ∙ first) in
      let later : replay_within app limits (Some m) (Poll t ∷ log) ≡ Some last =
      ap (λ (z : Machine K). replay_within app limits (Some z) (Poll t ∷ log)) (sym same) ∙ split.2 in
      let waits : IsSettled m = settled_after app limits before from m refl first in
      let found = logs_are_moves app limits m last (Poll t ∷ log) waits later in
      let poll = begins_with app limits m last found.0 (Poll t) log waits found.1 found.2 in
      let u : Machine K = (poll.1).0 in
      let alive : u.dead ≡ None = alive_before app limits u last poll.0 (poll.1).2 (living last last_settled) in
      (u, (poll.1).1, polls_are_done a app state polls limits m u t task x (poll.1).1 there stands alive)

  who_is_woken : (before between log : List Entry) (m v : Machine K) (t : ℕ)
      → joined (logs_of reports) ≡ before ++ (Poll t ∷ (between ++ Poll t ∷ log))
      → replay_within app limits (Some from) before ≡ Some m
      → replay_within app limits (Some m) (Poll t ∷ between) ≡ Some v
      → (moves : List Move)
      × (leads : Leads app limits m (Logged (Poll t) ∷ moves) v)
      × (entries moves ≡ between)
      × (some_wakes app limits t m v (Logged (Poll t) ∷ moves) leads ≡ true)
  who_is_woken before between log m v t parts first second =
      let whole : replay_within app limits (Some from) (before ++ (Poll t ∷ (between ++ Poll t ∷ log))) ≡ Some last =
      ap (λ (es : List Entry). replay_within app limits (Some from) es) (sym parts) ∙ within in
      let split = within_split app limits before (Poll t ∷ (between ++ Poll t ∷ log)) from last whole in
      let same : split.0 ≡ m = one_machine split.0 m (sym split.1 ∙ first) in
      let later : replay_within app limits (Some m) ((Poll t ∷ between) ++ Poll t ∷ log) ≡ Some last =
      ap (λ (z : Machine K). replay_within app limits (Some z) (Poll t ∷ (between ++ Poll t ∷ log))) (sym same) ∙ split.2 in
      let halves = within_split app limits (Poll t ∷ between) (Poll t ∷ log) m last later in
      let here : halves.0 ≡ v = one_machine halves.0 v (sym halves.1 ∙ second) in
      let again : replay_within app limits (Some v) (Poll t ∷ log) ≡ Some last =
      ap (λ (z : Machine K). replay_within app limits (Some z) (Poll t ∷ log)) (sym here) ∙ halves.2 in
      let waits : IsSettled m = settled_after app limits before from m refl first in
      let waits_there : IsSettled v = settled_after app limits (Poll t ∷ between) m v waits second in
      let found = logs_are_moves app limits m v (Poll t ∷ between) waits second in
      let poll = begins_with app limits m v found.0 (Poll t) between waits found.1 found.2 in
      let found_next = logs_are_moves app limits v last (Poll t ∷ log) waits_there again in
      let poll_again = begins_with app limits v last found_next.0 (Poll t) log waits_there found_next.1 found_next.2 in
      let begun = logs_are_moves app limits from m before refl first in
      let drawn : t < m.state.next.tasks = tasks_are_drawn app lawful limits props inputs m begun.0 t begun.1 (polled_there app m t ((poll.1).1).due_is) in
      (poll.0, poll.1, poll.2, polls_are_caused app lawful limits m v (poll_again.1).0 poll.0 t poll.1 drawn (poll_again.1).1)

  who_is_spawned : (before : List Entry) (e : Entry) (m n : Machine K) (t cell scope : ℕ) (held : CellRow K) (f : F) (loads : Bool)
      → replay_within app limits (Some from) before ≡ Some m
      → replay_within app limits (Some m) (e ∷ []) ≡ Some n
      → at m.state.tasks t ≡ None
      → FreshFrom a app state limits m n e t cell scope held f loads
  who_is_spawned before e m n t cell scope held f loads first second none =
      let waits : IsSettled m = settled_after app limits before from m refl first in
      let found = logs_are_moves app limits m n (e ∷ []) waits second in
      let opened = begins_with app limits m n found.0 e [] waits found.1 found.2 in (
        opened.0,
        opened.1,
        opened.2,
        λ comes there.
            comers_stand a app state lawful limits m n (Logged e ∷ opened.0) t cell scope held f loads opened.1 none comes there,
      )

  who_is_kept : (done later : List Report) (before between log : List Entry) (m u v : Machine K)
      → (t cell scope : ℕ) (held : CellRow K) (f : F) (loads : Bool)
      → reports ≡ done ++ later
      → joined (logs_of done) ≡ before ++ (between ++ Poll t ∷ log)
      → replay_within app limits (Some from) before ≡ Some m
      → replay_within app limits (Some m) between ≡ Some u
      → replay_within app limits (Some u) (Poll t ∷ log) ≡ Some v
      → StandsFresh state m.state t cell scope held f loads
      → KeptFrom a app limits m u v between log t scope held.owner (fresh cell f loads)
  who_is_kept done later before between log m u v t cell scope held f loads parts logs first second third stands =
      fresh_are_kept a app state woken lawful looks polls limits props inputs m u v before between log t cell scope held f loads first second third
      (settled_at done later v parts
      (
      ap (λ (es : List Entry). replay_on app (Some from) es) logs
      ∙ then_replays app before (between ++ Poll t ∷ log) from m v (within-replays app limits before from m first)
      (
      then_replays app between (Poll t ∷ log) m u v (within-replays app limits between m u second)
      (within-replays app limits (Poll t ∷ log) u v third)
      )
      ))
      stands

  who_is_paused : (done later : List Report) (before between : List Entry) (m v : Machine K)
      → (t cell scope : ℕ) (held : CellRow K) (f : F) (loads : Bool)
      → reports ≡ done ++ later
      → joined (logs_of done) ≡ before ++ between
      → replay_within app limits (Some from) before ≡ Some m
      → replay_within app limits (Some m) between ≡ Some v
      → StandsFresh state m.state t cell scope held f loads
      → PausedFrom a app limits m v between t held.owner (fresh cell f loads)
  who_is_paused done later before between m v t cell scope held f loads parts logs first second stands =
      let waits : IsSettled m = settled_after app limits before from m refl first in
      let found = logs_are_moves app limits m v between waits second in
      let rests : is_settled v ≡ true =
      settled_at done later v parts
      (
      ap (λ (es : List Entry). replay_on app (Some from) es) logs
      ∙ then_replays app before between from m v (within-replays app limits before from m first) (within-replays app limits between m v second)
      ) in (
        found.0,
        found.1,
        found.2,
        λ calm there.
            fresh_is_owed app state woken v t cell scope held f loads
            (fresh_stay a app state lawful limits m v found.0 t cell scope held f loads found.1 stands calm there)
            (living v rests)
            (nothing_next v rests),
      )

  memos_kept : MemosKept a app state props inputs limits reports
  memos_kept =
      record {
        polls = λ before log m t task x parts first there stands. each_poll before log m t task x parts first there stands;
        spawned = λ before rest e m n t cell scope held f loads parts first second none. who_is_spawned before e m n t cell scope held f loads first second none;
        kept =
            λ done later before between log m u v t cell scope held f loads parts logs first second third stands.
            who_is_kept done later before between log m u v t cell scope held f loads parts logs first second third stands;
        caused = λ before between log m v t parts first second. who_is_woken before between log m v t parts first second;
        paused =
            λ done later before between m v t cell scope held f loads parts logs first second stands.
            who_is_paused done later before between m v t cell scope held f loads parts logs first second stands;
      }

pub sessions_keep_memos : {K : Types} {F : Type 0} (a : Formulas K F) (app : Application K) (state : MemoTask K.Value F → K.TaskState)
    → WakesArePolled app
    → SessionsKeepMemos a app state
sessions_keep_memos a app state woken lawful looks polls props inputs limits taken reports headline =
    let recorded = (headline.holds).recorded in
    memos_kept a app state woken lawful looks polls props inputs limits reports headline.told recorded.accepted recorded.settled _ (headline.done).within
