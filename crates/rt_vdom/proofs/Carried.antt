-- The edits of a dom's call carry what may come, by the laws of a program's calls.
use Rattle.std.proofs.Common.{Bool, false, List, [], ◌∷◌, ◌++◌, sym, subst, append_assoc, map}
use Rattle.std.proofs.lemmas.List.{append-nil}
use Rattle.rt_model.specs.Asides.{Looked, Passed, Answered, aside_state, resting}
use Rattle.rt_model.specs.Causes.{Limits}
use Rattle.rt_model.specs.Document as document
use Rattle.rt_model.specs.Laws.{IsLawful}
use Rattle.rt_model.specs.Lists.{joined}
use Rattle.rt_model.specs.Rendering.{rendering_rest, nothing_resolved}
use Rattle.rt_model.specs.Replay as replay
use Rattle.rt_model.specs.State as model
use Rattle.rt_model.specs.Tree.{Types}
use Rattle.rt_model.specs.World.{Application}
use Rattle.law_behavior.specs.Doms.{Until, Events, Renders, Settles, LedTo, UnitRan, left_by}
use Rattle.law_behavior.specs.Carries.{AllDrawn, CarriesOn}
use Rattle.law_behavior.proofs.Carried.{asides_draw_none, calls_carry_anew, renders_carry_anew, suspended_carry_anew, still_drawn}
use Rattle.law_behavior.proofs.Doms.{units_lead}
use Rattle.run_rounds.specs.Rounds.{RanBy}
use Rattle.run_rounds.specs.Steps.{Step, Stepped, StepsTold, UnitFrom}
use Rattle.run_rounds.specs.Suspended.{RendersTo}
use Rattle.rt_vdom.specs.Carried.{StepsCarry, StepsCarryOn}

module _ {K : Types} (app : Application K) (lawful : IsLawful K app) (limits : Limits) (props : K.Props) where
  -- a call that ended, by what it goes up to
  pub carries_by : (whole : Bool) (w : model.State K) → LedTo app limits props whole w
      → (until : Until) (log : List replay.Entry) (edits : List document.Edit) (v : replay.Machine K)
      → RanBy app limits w until log edits v
      → CarriesOn app w (resting (aside_state app w Looked)) log edits (left_by until v.state)
  carries_by whole w led Events log edits v r = calls_carry_anew app lawful limits props whole Events w log edits v led r
  carries_by whole w led Renders log edits v r = renders_carry_anew app lawful limits props whole w log edits v led r
  carries_by whole w led Settles log edits v r = calls_carry_anew app lawful limits props whole Settles w log edits v led r

  -- one unit after another of a render while suspended
  steps_carry : (w v : model.State K) (steps : List (Step K)) → LedTo app limits props false w → StepsTold app limits w steps v
      → (before : List document.Edit) → AllDrawn w before
      → StepsCarry app before w steps × AllDrawn v (before ++ joined (map (λ (s : Step K). s.edits) steps))
  steps_carry w v [] led told before drawn = (
    tt,
    subst (λ (x : model.State K). AllDrawn x (before ++ [])) told
        (subst (λ (es : List document.Edit). AllDrawn w es) (sym (append-nil before)) drawn),
  )
  steps_carry w v (s ∷ steps) led told before drawn =
      let units = told.0 in
      let one : UnitFrom app limits (rendering_rest w) s.log s.edits (record (resting s.left) { units = units }) = told.1 in
      let end : replay.Machine K = record (resting s.left) { units = units } in
      let ran : UnitRan app limits w s.log s.edits end =
      record { last = one.last; so = one.so; edits_are = one.edits_are; machine = one.machine; quiet = one.quiet } in
      let here = suspended_carry_anew app lawful limits props w s.log s.edits end led ran before drawn in
      let on : LedTo app limits props false s.left = (units_lead app lawful limits props w s.log s.edits end led ran).0 in
      let rest = steps_carry s.left v steps on told.3 (before ++ s.edits) here.drawn in (
        (here.come, rest.0),
        subst (λ (es : List document.Edit). AllDrawn v es) (append_assoc before s.edits (joined (map (λ (x : Step K). x.edits) steps))) rest.1,
      )

  -- units of a render while suspended that were finished, and what is passed over after them
  pub stepped_carry : (w v : model.State K) (log : List replay.Entry) (edits : List document.Edit) → LedTo app limits props false w
      → (stepped : Stepped app limits w log edits v)
      → StepsCarryOn app w stepped.steps edits (rendering_rest v)
  stepped_carry w v log edits led stepped before drawn =
      let far = steps_carry w v stepped.steps led stepped.told before drawn in
      let all : AllDrawn v (before ++ edits) =
      subst (λ (es : List document.Edit). AllDrawn v (before ++ es)) (sym stepped.edits_are) far.1 in
      (far.0, still_drawn v (rendering_rest v) (before ++ edits) (asides_draw_none app lawful v Passed tt) all)

  -- a render while suspended that ended
  pub rendered_carries : (w left : model.State K) (log : List replay.Entry) (edits : List document.Edit) → LedTo app limits props false w
      → (went : RendersTo app limits w log edits left)
      → StepsCarryOn app w ((went.stepped).steps) edits (nothing_resolved left)
  rendered_carries w left log edits led went before drawn =
      let far = stepped_carry w (went.last).state log edits led went.stepped before drawn in
      let there : AllDrawn left (before ++ edits) = subst (λ (x : model.State K). AllDrawn x (before ++ edits)) went.rest far.1 in
      (far.0, still_drawn left (nothing_resolved left) (before ++ edits) (asides_draw_none app lawful left Answered tt) there)
