-- The button's call counts a try, the cell keeps it, and the news show.
use Rattle.std.proofs.Common.{ℕ, suc, Bool, [], ◌∷◌, ◌+◌, ◌-◌, ◌≡◌, ◌∙◌, false, ap, arith}
use Rattle.std.specs.Prelude.{Option, Some, None, min, if◌then◌else◌}
use Rattle.rt_author.specs.ListenersWrite.{call_heard}
use Rattle.rt_author.specs.Lists.{at}
use Rattle.rt_author.specs.Program.{begun, call_means, exec, noted}
use Rattle.rt_author.specs.Replay.{Heard, Machine, step}
use Rattle.rt_author.specs.Sequence.{go_on}
use Rattle.rt_author.specs.State.{CellRow, world_of}
use Rattle.rt_author.specs.Words.{Event, Program, clear_errors, done, last_number}
use Rattle.rt_author.specs.World.{Cell, ClearErrors, Meaning, World}
use Rattle.examples_board.specs.Meaning.{BoardTypes, raise, raised}
use Rattle.examples_board.specs.Sentences.{app}
use Rattle.examples_board.proofs.laws.retry_shows_news.Goals as goal

-- what the cell has
abbrev held : Option (CellRow BoardTypes) → Option ℕ
held o = elim o as (λ z. Option ℕ) [ None ↦ None | Some d ↦ Some d.value ]

-- and what the call does then
abbrev goes_on : ℕ → Event BoardTypes → Option ℕ → Program BoardTypes (Event BoardTypes)
goes_on tries e o = go_on (raised tries o) (λ _. clear_errors (done e))

-- one more try is at least one
some_try : (n last : ℕ) → min (n + 1) (last + 1) ≡ suc (min n last)
some_try n last = omega arith

pub returns : goal.returns
unfolding go_on
returns k =
    λ limits m v l e tries moves s heard leads stays quiet current news.
    let w : World BoardTypes = world_of m.state l.origin None false in
    let start = begun {K = BoardTypes} false w.given.next in
    let next = noted start (Cell tries) in
    let more : ℕ = min (heard.row.value + 1) last_number in
    let row : CellRow BoardTypes = record (heard.row) { value = more } in
    let means : call_heard app m l e ≡ exec w (goes_on tries e (Some heard.row.value)) next =
    ap (λ (t : ℕ). call_means (go_on (raise t) (λ _. clear_errors (done e))) w) heard.tried
    ∙ ap (λ (b : Bool). if b then exec w (goes_on tries e (held (at m.state.cells tries))) next else exec w (goes_on tries e None) start) heard.drawn
    ∙ ap (λ (o : Option (CellRow BoardTypes)). exec w (goes_on tries e (held o)) next) heard.there in
    let u : Machine BoardTypes = step app m (Heard l.origin) in
    let wrote : at u.state.cells tries ≡ Some row =
    k.heard_entries_write.ensures app m l heard.others e tries more [] (ClearErrors ∷ []) heard.row heard.alive heard.idle heard.between
    heard.event heard.waits (ap (λ (x : Meaning BoardTypes (Event BoardTypes)). x.fault) means)
    (ap (λ (x : Meaning BoardTypes (Event BoardTypes)). x.commands) means) tt (tt, tt) heard.there in
    let kept : at v.state.cells tries ≡ Some row = k.cells_last.ensures app limits u v moves tries row leads stays quiet wrote in
    k.news_show.ensures v.state s tries (min heard.row.value (last_number - 1)) news current
    (ap held kept ∙ ap Some (some_try heard.row.value (last_number - 1)))
