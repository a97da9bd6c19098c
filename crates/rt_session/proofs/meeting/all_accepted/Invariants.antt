-- All posts of the posters so far were accepted.
use Rattle.std.proofs.Common.{◌≡◌, ℕ, ◌<◌, true, get_or}
use Rattle.rt_inbox.specs.declared.posters.Poster.{Poster}
use Rattle.rt_session.proofs.meeting.all_accepted.Given as goal

abbrev pub invariant-loop-poster : goal.invariant-loop-poster
invariant-loop-poster l = (k : ℕ) (d : Poster) → k < l.poster-index → (get_or l.posters k d).accepted ≡ true
