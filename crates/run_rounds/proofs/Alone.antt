-- What broke off of the build or of a unit by itself: no unit besides was begun.
use Rattle.std.proofs.Common.{◌+◌, Bool, true, false, List, [], ◌∷◌, ◌++◌, ◌≡◌, refl, sym, ap, ◌∙◌, subst, append_assoc, arith}
use Rattle.std.specs.Prelude.{Option, if◌then◌else◌}
use Rattle.rt_lemmas.proofs.Lists.{tails}
use Rattle.rt_edits.specs.declared.edit.Edit.{Edit}
use Rattle.rt_model.specs.Document as doc
use Rattle.rt_model.specs.OneLog.{types}
use Rattle.rt_model.specs.Tree.{Types}
use Rattle.rt_model.specs.World.{Application}
use Rattle.rt_model.specs.Replay as replay
use Rattle.rt_model.specs.Causes as causes
use Rattle.rt_model.specs.Told.{opens, count_entries}
use Rattle.law_behavior.specs.Doms.{NoneOpens}
use Rattle.run_machine.specs.Machines.{noted}
use Rattle.run_outside.specs.Short.{PartBy}
use Rattle.run_machine.specs.Stands.{Going, BrokeIn, BrokeAt}
use Rattle.run_outside.specs.declared.ended.Ended.{Ended}
use Rattle.run_machine.specs.declared.machine.Machine.{Machine}
use Rattle.run_rounds.specs.Going.{Inside}
use Rattle.run_rounds.specs.Rounds.{OpensFirst, BrokeAlone}

-- entries of which none begins a unit, by the count of those that do
pub none_opens : (log : List replay.Entry) → count_entries opens log ≡ 0 → NoneOpens log
none_opens [] h = tt
none_opens (e ∷ log) h =
    let rest : count_entries opens log ≡ 0 = omega (arith, h) in
    (shut (opens e) h, none_opens log rest)
  where
    shut : (b : Bool) → (if b then 1 else 0) + count_entries opens log ≡ 0 → b ≡ false
    shut true k = let one : 1 + count_entries opens log ≡ 0 = k in absurd (omega (arith, one))
    shut false k = refl

-- and others after them
none_joins : (log more : List replay.Entry) → NoneOpens log → count_entries opens more ≡ 0 → count_entries opens (log ++ more) ≡ 0
none_joins [] more h k = k
none_joins (e ∷ log) more h k =
    let rest : count_entries opens (log ++ more) ≡ 0 = none_joins log more h.1 k in
    rw h.0 (omega (arith, rest))

none_both : (log more : List replay.Entry) → NoneOpens log → NoneOpens more → NoneOpens (log ++ more)
none_both [] more h k = k
none_both (e ∷ log) more h k = (h.0, none_both log more h.1 k)

-- a front of them
none_front : (log rest : List replay.Entry) → NoneOpens (log ++ rest) → NoneOpens log
none_front [] rest h = tt
none_front (e ∷ log) rest h = (h.0, none_front log rest h.1)

-- a front of entries of which but for the first none begins a unit
first_front : (log rest entries later : List replay.Entry) → log ++ rest ≡ entries ++ later → OpensFirst entries → count_entries opens later ≡ 0
    → OpensFirst log
first_front [] rest entries later is opened none = tt
first_front (e ∷ log) rest [] later is opened none =
    let all : NoneOpens (e ∷ (log ++ rest)) = subst (λ (l : List replay.Entry). NoneOpens l) (sym is) (none_opens later none) in
    none_front log rest all.1
first_front (e ∷ log) rest (d ∷ entries) later is opened none =
    let same : e ∷ (log ++ rest) ≡ d ∷ (entries ++ later) = is in
    let both : NoneOpens (entries ++ later) = none_both entries later opened (none_opens later none) in
    none_front log rest (subst (λ (l : List replay.Entry). NoneOpens l) (sym (tails same)) both)

module _ {K : Types} (app : Application K) (limits : causes.Limits) (r : Going K) where
  -- it broke off where no entry but the first has begun a unit
  pub alone_of : (entries : List replay.Entry) (before after : Option (List Edit)) (ended : Ended)
      → BrokeIn app limits r entries [] before after ended
      → OpensFirst entries
      → BrokeAlone app limits r.from before after (PartBy ended)
  alone_of entries before after ended broke opened =
      let s = broke.short in
      record {
        broke = record { wrote = broke.wrote; told = broke.told; short = s.short };
        alone = first_front ((s.short).log ++ (s.short).unit) s.rest entries s.later s.front opened s.none;
      }

module _ {P C Q V H T E L : Type 0} (app : Application (types C Q V H T E L)) (limits : causes.Limits) (r : Going (types C Q V H T E L)) where
  -- turns were done of which none began a unit, and then it broke off
  pub inside_broke : (edits : List doc.Edit) (before after : Option (List Edit)) (ended : Ended) (old mid : Machine P C Q V H T E L)
      → Inside old mid
      → BrokeAt app limits r edits before after ended mid
      → BrokeAt app limits r edits before after ended old
  inside_broke edits before after ended old mid h broke =
      let s = broke.short in
      record {
        wrote = broke.wrote;
        told = broke.told;
        short =
            record {
              short = s.short;
              later = h.more ++ s.later;
              none = none_joins h.more s.later h.shut s.none;
              rest = s.rest;
              front =
                  s.front
                  ∙ ap (λ (l : List replay.Entry). (r.opened ++ l) ++ s.later) h.logged
                  ∙ ap (λ (l : List replay.Entry). l ++ s.later) (sym (append_assoc r.opened (noted old) h.more))
                  ∙ append_assoc (r.opened ++ noted old) h.more s.later;
            };
      }
