-- What a page that is served in pieces is: first the page, and then with each wake a piece for each boundary that turned to its children.
use Rattle.std.specs.Prelude.{◌≡◌, ◌⊎◌, ◌&&◌, ◌+◌, ℕ, Bool, true, false, List, [], ◌∷◌, ◌++◌, length, Some, None, if◌then◌else◌}
use Rattle.law_behavior.specs.Doms.{BuildRan}
use Rattle.law_moves.specs.Reports.{ToldSo}
use Rattle.rt_html.specs.Spelling.{are_namable, page_html, piece_html}
use Rattle.rt_model.specs.Asides.{resting}
use Rattle.rt_model.specs.Causes.{Limits, refusal}
use Rattle.rt_model.specs.Commands.{post}
use Rattle.rt_model.specs.Document.{Edit}
use Rattle.rt_model.specs.Lists.{Text}
use Rattle.rt_model.specs.Rendering.{nothing_resolved, rendering_due, rendering_refusal, rendering_rest, renders_within, resolved_by_height}
use Rattle.rt_model.specs.Replay.{Entry, Machine, ones, start_with}
use Rattle.rt_model.specs.State.{Fault, State, Woken, is_live}
use Rattle.rt_model.specs.Told.{Telling}
use Rattle.rt_model.specs.Tree.{Types}
use Rattle.rt_model.specs.View.{nodes_of}
use Rattle.rt_model.specs.World.{Application}
use Rattle.run_rounds.specs.Steps.{Stepped}
use Rattle.show_streams.specs.Writes.{AddsFront, Puts, grown}
use Rattle.rt_served.specs.Faults.{PartBy}
use Rattle.rt_served.specs.declared.refusal.ServeFault.{ServeFault}

module _ {K : Types} where
  -- the page of a state: all that shows, and a newline
  abbrev pub page : State K → Text
  page w = page_html (nodes_of w 0)

  -- the piece of a scope: its nodes in a template of its number, and a newline; none where it isn't live
  abbrev pub piece : State K → ℕ → List Text
  piece w s = if is_live w s then piece_html s (nodes_of w s) ∷ [] else []

  -- those of scopes, one after another
  abbrev pub pieces : State K → List ℕ → List Text
  pieces w [] = []
  pieces w (s ∷ scopes) = piece w s ++ pieces w scopes

  -- the names in a scope's piece can be spelt
  abbrev pub is_spelt : State K → ℕ → Bool
  is_spelt w s = if is_live w s then are_namable (nodes_of w s) else true

  -- so can those in the pieces of scopes
  abbrev pub are_spelt : State K → List ℕ → Bool
  are_spelt w [] = true
  are_spelt w (s ∷ scopes) = is_spelt w s && are_spelt w scopes

module _ {K : Types} (app : Application K) (limits : Limits) where
  -- a render while suspended goes from a state to another one, and tells the boundaries that turned to their children, by height
  pub record Renders (w v : State K) (turned : List ℕ) : Type 0 where
    pub log : List Entry
    pub last : Machine K
    pub goes : renders_within app limits (Some (resting w)) log ≡ Some last
    -- unit by unit, with their edits: no fault cut it
    pub edits : List Edit
    pub stepped : Stepped app limits w log edits last.state
    -- it may take nothing more, and what is left is passed over
    pub done : rendering_due app last ≡ None
    pub told : turned ≡ resolved_by_height (rendering_rest last.state)
    pub left : v ≡ nothing_resolved (rendering_rest last.state)

  -- one comes to this fault
  pub record RenderStops (w : State K) (fault : Fault) : Type 0 where
    pub log : List Entry
    pub last : Machine K
    pub goes : renders_within app limits (Some (resting w)) log ≡ Some last
    pub cause : rendering_refusal app limits last ≡ Some fault

  -- the build ends at this state
  pub record BuildsTo (props : K.Props) (w : State K) : Type 0 where
    pub log : List Entry
    pub edits : List Edit
    pub last : Machine K
    pub ran : BuildRan app limits props log edits last
    pub at : last.state ≡ w

  -- it comes to this fault
  pub record BuildStops (props : K.Props) (fault : Fault) : Type 0 where
    pub log : List Entry
    pub last : Telling K
    pub so : ToldSo app limits (start_with app props ones [] []) log last
    pub cause : refusal limits last.machine ≡ Some fault

  -- the build, and a render after it: what shows then is the page
  pub record Opened (props : K.Props) (v : State K) : Type 0 where
    pub built : State K
    pub builds : BuildsTo props built
    pub turned : List ℕ
    pub renders : Renders built v turned

  -- wakes lead from a state to another one: with each a render, and the pieces of what turned
  abbrev pub Answered : State K → List ℕ → List Text → State K → Type 0
  Answered w [] text v = (text ≡ []) × (v ≡ w)
  Answered w (task ∷ tasks) text v =
      (u : State K) × (turned : List ℕ) × (rest : List Text) × Renders (post w (Woken task)) u turned
      × (text ≡ pieces u turned ++ rest) × Answered u tasks rest v

  -- what is served with these wakes, and the state after them
  pub record Served (props : K.Props) (tasks : List ℕ) (text : List Text) (v : State K) : Type 0 where
    pub first : State K
    pub opened : Opened props first
    pub later : List Text
    pub answered : Answered first tasks later v
    pub printed : text ≡ page first ∷ later

  -- after a front of these wakes the render of the next one comes to this fault
  pub record WakeStops (w : State K) (tasks : List ℕ) (fault : Fault) : Type 0 where
    pub done : List ℕ
    pub task : ℕ
    pub later : List ℕ
    pub wakes : tasks ≡ done ++ task ∷ later
    pub text : List Text
    pub last : State K
    pub answered : Answered w done text last
    pub stops : RenderStops (post last (Woken task)) fault

  -- after a front of these wakes a name in the pieces of the next one can't be spelt
  pub record WakeUnspelt (w : State K) (tasks : List ℕ) : Type 0 where
    pub done : List ℕ
    pub task : ℕ
    pub later : List ℕ
    pub wakes : tasks ≡ done ++ task ∷ later
    pub text : List Text
    pub last : State K
    pub answered : Answered w done text last
    pub next : State K
    pub turned : List ℕ
    pub renders : Renders (post last (Woken task)) next turned
    pub unspelt : are_spelt next turned ≡ false

  -- the build comes to this fault, or the render after it, or that of a wake
  abbrev pub ComesTo : K.Props → List ℕ → Fault → Type 0
  ComesTo props tasks fault =
      BuildStops props fault
      ⊎ (((built : State K) × BuildsTo props built × RenderStops built fault)
      ⊎ ((first : State K) × Opened props first × WakeStops first tasks fault))

  -- a name in the page can't be spelt, or one in the pieces of a wake
  abbrev pub IsUnspelt : K.Props → List ℕ → Type 0
  IsUnspelt props tasks =
      ((first : State K) × Opened props first × (are_namable (nodes_of first 0) ≡ false))
      ⊎ ((first : State K) × Opened props first × WakeUnspelt first tasks)

  -- all that is served with these wakes was put, and so many pieces behind the page
  pub record ServesAll (props : K.Props) (tasks : List ℕ) (old new : Puts) (count : ℕ) : Type 0 where
    pub text : List Text
    pub last : State K
    pub served : Served props tasks text last
    pub put : new ≡ grown old text
    pub counted : length text ≡ count + 1

  -- what is served with a front of these wakes was put
  pub record ServesWhole (props : K.Props) (tasks : List ℕ) (old new : Puts) : Type 0 where
    pub done : List ℕ
    pub later : List ℕ
    pub wakes : tasks ≡ done ++ later
    pub text : List Text
    pub last : State K
    pub served : Served props done text last
    pub put : new ≡ grown old text

  -- a front of that was put
  pub record ServesFront (props : K.Props) (tasks : List ℕ) (old new : Puts) : Type 0 where
    pub done : List ℕ
    pub later : List ℕ
    pub wakes : tasks ≡ done ++ later
    pub text : List Text
    pub last : State K
    pub served : Served props done text last
    pub front : AddsFront old new text

  -- the run comes to no fault with these wakes, and each name can be spelt
  pub record IsServable (props : K.Props) (tasks : List ℕ) : Type 0 where
    pub safe : (fault : Fault) → ComesTo props tasks fault → ⊥
    pub spelt : IsUnspelt props tasks → ⊥

  -- what was put before a fault: nothing, or what is served with a front of these wakes, and maybe not to its end
  abbrev pub ServesPart : K.Props → List ℕ → Puts → Puts → ServeFault → Type 0
  ServesPart props tasks old new fault =
      PartBy fault ((new ≡ old) ⊎ ServesWhole props tasks old new) ((new ≡ old) ⊎ ServesFront props tasks old new)
