-- What a call writes that processes events, and what shows after it.
use Rattle.std.proofs.Common.{Bool, List, ◌≡◌, subst, map}
use Rattle.std.specs.Prelude.{Ok}
use Rattle.rt_lemmas.proofs.Lists.{none_mapped}
use Rattle.rt_edits.specs.declared.edit.Edit.{Edit}
use Rattle.tree_edits.specs.Documents.{edit_of}
use Rattle.rt_model.specs.Causes as causes
use Rattle.rt_model.specs.Document.{document_after}
use Rattle.rt_model.specs.OneLog.{types}
use Rattle.rt_model.specs.Replay as replay
use Rattle.rt_model.specs.State as model
use Rattle.rt_model.specs.View.{view}
use Rattle.rt_model.specs.World.{Application}
use Rattle.law_behavior.specs.Doms.{Until, Events, Renders, Settles, left_by}
use Rattle.law_behavior.proofs.Muted.{events_write_nothing, stopped_write_nothing}
use Rattle.run_reports.specs.declared.limits.Limits.{Limits}
use Rattle.run_rounds.specs.Rounds.{RanBy, StoppedBy}
use Rattle.rt_vdom.specs.Runs.{HoldsBy, SilentBy, StillBy}
use Rattle.rt_vdom.proofs.Ran.{one_document}

module _ {C Q V H T E L : Type 0} (app : Application (types C Q V H T E L)) (limits : causes.Limits)
    (w : model.State (types C Q V H T E L)) where
  -- of one that ended
  pub silent_by : (until : Until) (log : List replay.Entry) (wrote : List Edit) (v : replay.Machine (types C Q V H T E L))
      → RanBy app limits w until log (map edit_of wrote) v
      → SilentBy until wrote
  silent_by Events log wrote v r = none_mapped edit_of wrote (events_write_nothing app limits w log (map edit_of wrote) v r)
  silent_by Renders log wrote v r = tt
  silent_by Settles log wrote v r = tt

  -- of one that came to a fault
  pub stopped_silent_by : (until : Until) (log : List replay.Entry) (wrote : List Edit) (fault : model.Fault)
      → StoppedBy app limits w until log (map edit_of wrote) fault
      → SilentBy until wrote
  stopped_silent_by Events log wrote fault r = none_mapped edit_of wrote (stopped_write_nothing app limits w log (map edit_of wrote) fault r)
  stopped_silent_by Renders log wrote fault r = tt
  stopped_silent_by Settles log wrote fault r = tt

module _ {P C Q V H T E L : Type 0} (meaning : P → Application (types C Q V H T E L)) where
  -- where nothing was written nothing new shows
  pub still_by : (app : P) (limits : Limits) (props : Q) (whole : Bool) (w : model.State (types C Q V H T E L)) (until : Until)
      (log : List replay.Entry) (wrote : List Edit) (v : replay.Machine (types C Q V H T E L))
      → SilentBy until wrote
      → HoldsBy meaning app limits props whole w until log (map edit_of wrote) v
      → StillBy until w (left_by until v.state)
  still_by app limits props whole w Events log wrote v none h =
      one_document (view w) (view (left_by Events v.state))
      (subst (λ (es : List Edit). document_after (map edit_of es) (view w) ≡ Ok (view (left_by Events v.state))) none h.shows)
  still_by app limits props whole w Renders log wrote v none h = tt
  still_by app limits props whole w Settles log wrote v none h = tt
