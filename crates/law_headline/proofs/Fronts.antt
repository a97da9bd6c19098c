-- What a front of a session's reports tells, and that the reports of the headline carry anew.
use Rattle.std.proofs.Common.{true, not, List, [], ◌∷◌, ◌++◌, ◌≡◌, refl, sym, ap, ◌∙◌, subst}
use Rattle.std.specs.Prelude.{Some}
use Rattle.std.specs.List.{AllByRecursion}
use Rattle.rt_model.specs.Tree.{Types}
use Rattle.rt_model.specs.World.{Application}
use Rattle.rt_model.specs.Next.{owes}
use Rattle.rt_model.specs.Replay.{Entry, Machine, is_quiet, start}
use Rattle.rt_model.specs.Told.{Told, Telling, told_by, tell_reports, is_settled}
use Rattle.rt_model.specs.Reports.{Report, logs_of}
use Rattle.rt_model.proofs.Conjunctions.{and-left}
use Rattle.rt_model.proofs.ToldReplayed.{First, first-of}
use Rattle.law_headline.specs.Carried.{HeadlinesCarryAnew}
use Rattle.law_headline.proofs.FromTheStart.{units_carry_anew}

-- the logs of reports and of further ones
pub logs_joined : (done later : List Report) → logs_of (done ++ later) ≡ logs_of done ++ logs_of later
logs_joined [] later = refl
logs_joined (r ∷ done) later = ap (λ (logs : List (List Entry)). r.log ∷ logs) (logs_joined done later)

module _ {K : Types} where
  none_told : (told : List (Told K)) → Some [] ≡ Some told → [] ≡ told
  none_told told h = cc

  one_telling : (t u : Telling K) → Some t ≡ Some u → t ≡ u
  one_telling t u h = cc

  settled_is_quiet : (m : Machine K) → is_settled m ≡ true → is_quiet m ≡ true
  settled_is_quiet m h = and-left (is_quiet m) (not (owes m.state)) h

module _ {K : Types} (app : Application K) where
  -- where the reports are settled, so are those of a front
  front_quiet : (logs more : List (List Entry)) (m : Machine K) (all front : List (Told K)) → tell_reports app m (logs ++ more) ≡ Some all → AllByRecursion (λ (r : Told K). is_settled r.machine ≡ true) all
      → tell_reports app m logs ≡ Some front
      → AllByRecursion (λ (r : Told K). is_quiet r.machine ≡ true) front
  front_quiet [] more m all front tells settled h = subst (λ (rs : List (Told K)). AllByRecursion (λ (r : Told K). is_quiet r.machine ≡ true) rs) (none_told front h) tt
  front_quiet (log ∷ logs) more m all front tells settled h =
      let f : First app m log (logs ++ more) all = first-of app m log (logs ++ more) all tells in
      let g : First app m log logs front = first-of app m log logs front h in
      let same : f.0 ≡ g.0 = one_telling f.0 g.0 (sym f.2 ∙ g.2) in
      let each : AllByRecursion (λ (r : Told K). is_settled r.machine ≡ true) (told_by f.0 ∷ f.1) = subst (λ (rs : List (Told K)). AllByRecursion (λ (r : Told K). is_settled r.machine ≡ true) rs) (sym f.4) settled in
      let first : is_quiet (g.0).machine ≡ true = subst (λ (t : Telling K). is_quiet t.machine ≡ true) same (settled_is_quiet (f.0).machine each.0) in
      let on : tell_reports app (g.0).machine (logs ++ more) ≡ Some f.1 = subst (λ (t : Telling K). tell_reports app t.machine (logs ++ more) ≡ Some f.1) same f.3 in
      subst (λ (rs : List (Told K)). AllByRecursion (λ (r : Told K). is_quiet r.machine ≡ true) rs) g.4 (first, front_quiet logs more (g.0).machine f.1 g.1 on each.1 g.3)

  pub headlines_carry_anew : HeadlinesCarryAnew app
  headlines_carry_anew lawful props inputs limits taken reports headline done later report log rest e told t u edits cut opened tells goes one grown =
      let all : List (Told K) = headline.told in
      let recorded = (headline.holds).recorded in
      let logs : logs_of reports ≡ logs_of done ++ logs_of (report ∷ later) = ap (λ (rs : List Report). logs_of rs) cut ∙ logs_joined done (report ∷ later) in
      let whole : tell_reports app (start app props inputs) (logs_of done ++ logs_of (report ∷ later)) ≡ Some all = subst (λ (ls : List (List Entry)). tell_reports app (start app props inputs) ls ≡ Some all) logs recorded.accepted in
      units_carry_anew app lawful props inputs (logs_of done) told log e t u edits tells (front_quiet (logs_of done) (logs_of (report ∷ later)) (start app props inputs) all told whole recorded.settled tells) goes one grown
