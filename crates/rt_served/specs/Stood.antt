-- What the calls of a served page come to, by what is put.
use Rattle.std.specs.Prelude.{◌≡◌, ◌⊎◌, ◌<◌, ◌≤◌, ℕ, Bool, false, List, [], ◌∷◌, ◌++◌, length, Result, Ok, Err, OnOk, IfErr}
use Rattle.rt_html.specs.Spelling.{are_namable}
use Rattle.rt_model.specs.Commands.{post}
use Rattle.rt_model.specs.Lists.{Text}
use Rattle.rt_model.specs.OneLog.{types}
use Rattle.rt_model.specs.State as model
use Rattle.rt_model.specs.State.{Woken}
use Rattle.rt_model.specs.View.{nodes_of}
use Rattle.rt_model.specs.World.{Application}
use Rattle.run_reports.specs.Seen.{limits_of}
use Rattle.run_reports.specs.declared.limits.Limits.{Limits}
use Rattle.show_streams.specs.Writes.{AddsFront, Puts, grown}
use Rattle.rt_vdom.specs.Doms.{Stands}
use Rattle.rt_vdom.specs.declared.dom.VirtualDom.{VirtualDom}
use Rattle.rt_served.specs.Faults.{CausedBy, PartBy}
use Rattle.rt_served.specs.Serving.{Answered, BuildStops, BuildsTo, Opened, RenderStops, Renders, WakeStops, WakeUnspelt, are_spelt, page, pieces}
use Rattle.rt_served.specs.declared.refusal.ServeFault.{ServeFault}
use Rattle.rt_served.specs.declared.refusal.ServeFault.TheVariants as faults

-- a fault where texts are put: no call of a dom comes to it
abbrev pub PutBy : Bool → ℕ → ℕ → ServeFault → Type 0
PutBy spelt before after (faults.Run what) = ⊥
PutBy spelt before after faults.BadName = spelt ≡ false
PutBy spelt before after faults.OutFault = before < after
PutBy spelt before after faults.OutOfMemory = Unit {0}

-- texts were put, each by one put: all of them, or else a front of them for the cause of the fault
pub record PutsTexts {A : Type 0} (texts : List Text) (spelt : Bool) (old new : Puts) (before after : ℕ) (result : Result A ServeFault) :
    Type 0 where
  pub ok : OnOk result (new ≡ grown old texts)
  pub front : AddsFront old new texts
  pub later : before ≤ after
  pub cause : IfErr result (λ fault. PutBy spelt before after fault)

module _ {P C Q V H T E L : Type 0} (meaning : P → Application (types C Q V H T E L)) (app : P) (limits : Limits) (props : Q) where
  -- a dom of this application, within these limits, stands for a state
  pub record Keeping (whole : Bool) (w : model.State (types C Q V H T E L)) (d : VirtualDom P C Q V H T E L) : Type 0 where
    pub owned : d.app ≡ app
    pub limited : d.limits ≡ limits
    pub stands : Stands meaning props whole w d

  -- a wake was answered: the pieces of what turned were put
  pub record AnswersDone
      (w : model.State (types C Q V H T E L)) (task : ℕ) (new : VirtualDom P C Q V H T E L) (written now : Puts) (count : ℕ) :
      Type 0 where
    pub next : model.State (types C Q V H T E L)
    pub turned : List ℕ
    pub renders : Renders (meaning app) (limits_of limits) (post w (Woken task)) next turned
    pub put : now ≡ grown written (pieces next turned)
    pub counted : count ≡ length (pieces next turned)
    pub keeps : Keeping false next new

  -- a front of them was put
  pub record AnswersFront (w : model.State (types C Q V H T E L)) (task : ℕ) (written now : Puts) : Type 0 where
    pub next : model.State (types C Q V H T E L)
    pub turned : List ℕ
    pub renders : Renders (meaning app) (limits_of limits) (post w (Woken task)) next turned
    pub front : AddsFront written now (pieces next turned)

  -- a name in them can't be spelt
  pub record AnswersUnspelt (w : model.State (types C Q V H T E L)) (task : ℕ) : Type 0 where
    pub next : model.State (types C Q V H T E L)
    pub turned : List ℕ
    pub renders : Renders (meaning app) (limits_of limits) (post w (Woken task)) next turned
    pub unspelt : are_spelt next turned ≡ false

  -- a wake is answered, or comes to a fault for its cause, after a front of the pieces or nothing
  abbrev pub AnswersAs :
      model.State (types C Q V H T E L) → ℕ → VirtualDom P C Q V H T E L → Puts → Puts → ℕ → ℕ → Result ℕ ServeFault → Type 0
  AnswersAs w task new written now before after (Ok count) = AnswersDone w task new written now count
  AnswersAs w task new written now before after (Err fault) =
      PartBy fault (now ≡ written) ((now ≡ written) ⊎ AnswersFront w task written now)
      × CausedBy limits (λ f. RenderStops (meaning app) (limits_of limits) (post w (Woken task)) f) (AnswersUnspelt w task) before after
      fault

  -- all these wakes were answered
  pub record AnsweredDone
      (w : model.State (types C Q V H T E L)) (tasks : List ℕ) (new : VirtualDom P C Q V H T E L) (written now : Puts) (count : ℕ) :
      Type 0 where
    pub text : List Text
    pub last : model.State (types C Q V H T E L)
    pub answered : Answered (meaning app) (limits_of limits) w tasks text last
    pub put : now ≡ grown written text
    pub counted : count ≡ length text
    pub keeps : Keeping false last new

  -- what a front of these wakes is answered with was put
  pub record AnsweredWhole (w : model.State (types C Q V H T E L)) (tasks : List ℕ) (written now : Puts) : Type 0 where
    pub done : List ℕ
    pub later : List ℕ
    pub wakes : tasks ≡ done ++ later
    pub text : List Text
    pub last : model.State (types C Q V H T E L)
    pub answered : Answered (meaning app) (limits_of limits) w done text last
    pub put : now ≡ grown written text

  -- a front of that was put
  pub record AnsweredFront (w : model.State (types C Q V H T E L)) (tasks : List ℕ) (written now : Puts) : Type 0 where
    pub done : List ℕ
    pub later : List ℕ
    pub wakes : tasks ≡ done ++ later
    pub text : List Text
    pub last : model.State (types C Q V H T E L)
    pub answered : Answered (meaning app) (limits_of limits) w done text last
    pub front : AddsFront written now text

  -- wakes are answered one after another, or one comes to a fault
  abbrev pub AnsweredAs :
      model.State (types C Q V H T E L) → List ℕ → VirtualDom P C Q V H T E L → Puts → Puts → ℕ → ℕ → Result ℕ ServeFault → Type 0
  AnsweredAs w tasks new written now before after (Ok count) = AnsweredDone w tasks new written now count
  AnsweredAs w tasks new written now before after (Err fault) =
      PartBy fault (AnsweredWhole w tasks written now) (AnsweredFront w tasks written now)
      × CausedBy limits (λ f. WakeStops (meaning app) (limits_of limits) w tasks f)
      (WakeUnspelt (meaning app) (limits_of limits) w tasks) before after fault

  -- the application was built and rendered, and its page was put
  pub record OpensDone (new : VirtualDom P C Q V H T E L) (written now : Puts) : Type 0 where
    pub first : model.State (types C Q V H T E L)
    pub opened : Opened (meaning app) (limits_of limits) props first
    pub put : now ≡ grown written (page first ∷ [])
    pub keeps : Keeping false first new

  -- a front of the page was put
  pub record OpensFront (written now : Puts) : Type 0 where
    pub first : model.State (types C Q V H T E L)
    pub opened : Opened (meaning app) (limits_of limits) props first
    pub front : AddsFront written now (page first ∷ [])

  -- the build comes to this fault, or the render after it
  abbrev pub OpenStops : model.Fault → Type 0
  OpenStops fault =
      BuildStops (meaning app) (limits_of limits) props fault
      ⊎ ((built : model.State (types C Q V H T E L)) × BuildsTo (meaning app) (limits_of limits) props built
      × RenderStops (meaning app) (limits_of limits) built fault)

  -- a name in the page can't be spelt
  abbrev pub PageUnspelt : Type 0
  PageUnspelt =
      (first : model.State (types C Q V H T E L)) × Opened (meaning app) (limits_of limits) props first
      × (are_namable (nodes_of first 0) ≡ false)

  -- the page is put, or it comes to a fault for its cause
  abbrev pub OpensAs : VirtualDom P C Q V H T E L → Puts → Puts → ℕ → ℕ → Result (Unit {0}) ServeFault → Type 0
  OpensAs new written now before after (Ok u) = OpensDone new written now
  OpensAs new written now before after (Err fault) =
      PartBy fault (now ≡ written) ((now ≡ written) ⊎ OpensFront written now)
      × CausedBy limits (λ f. OpenStops f) PageUnspelt before after fault
