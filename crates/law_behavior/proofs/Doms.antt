-- From what code proves of a call that ended to what stands after it.
use Rattle.std.proofs.Common.{ℕ, ◌<◌, ◌⊎◌, inl, inr, Bool, true, false, ◌&&◌, not, List, [], ◌∷◌, ◌++◌, ◌≡◌, refl, sym, ap, ◌∙◌, subst}
use Rattle.std.specs.Prelude.{Some, None, Ok}
use Rattle.rt_model.specs.Tree.{Types}
use Rattle.rt_model.specs.World.{Firsts, Application}
use Rattle.rt_model.specs.Laws.{IsLawful}
use Rattle.rt_model.specs.State.{State}
use Rattle.rt_model.specs.Next.{look, found, at_rest, owes}
use Rattle.rt_model.specs.Replay.{Entry, Machine, is_quiet, replay_on, ones}
use Rattle.rt_model.specs.Document.{Empty, Edit, document_after}
use Rattle.rt_model.specs.View.{view}
use Rattle.rt_model.specs.Rendering.{rendering_rest}
use Rattle.rt_model.specs.Causes.{Limits, replay_within}
use Rattle.rt_model.specs.Told.{Telling, telling, tell_log, is_settled}
use Rattle.rt_model.specs.Sentences.{events_end, render_ends}
use Rattle.rt_model.proofs.ToldReplayed.{log-replays}
use Rattle.law_moves.specs.Moves.{IsSettled, entries}
use Rattle.law_moves.specs.Reached.{Part, ByMoves, ByAside, NonePassed, start_at, Comes, Reached}
use Rattle.rt_model.specs.Asides.{Aside, Raised, Passed, PassesNone, Allowed, set_aside, resting}
use Rattle.law_moves.specs.Reports.{ToldSo}
use Rattle.law_moves.specs.Asides.{IsAside}
use Rattle.law_moves.proofs.Joins.{logs_join}
use Rattle.law_moves.proofs.Logs.{logs_are_moves}
use Rattle.law_moves.proofs.Ways.{comes-append}
use Rattle.law_moves.proofs.Begun.{ones_above}
use Rattle.law_behavior.proofs.Given.{provided_by, starts_provide}
use Rattle.law_moves.proofs.Settled.{all_are_current_or_owed, settled_are_current, settled_show_held}
use Rattle.law_headline.proofs.Settled.{reached_unfold}
use Rattle.law_headline.proofs.Calm.{aside_level}
use Rattle.law_headline.proofs.Reruns.{reruns_bring}
use Rattle.law_moves.proofs.Woods.{reached_sound}
use Rattle.law_headline.proofs.Begins.{built_on}
use Rattle.law_headline.proofs.UnitsShow.{Rest, Ends, rest_ends}
use Rattle.law_headline.proofs.Reports.{settled_after, unit_over, one_telling}
use Rattle.law_behavior.specs.Doms.{Until, Renders, Settles, ends_by, left_by, LedTo, CallRan, CallSpent, RendersHold, SpentHold, BuildHolds, GivenBuildsHold, BuildsHold, HandlesLead, PassedLeads, UnitsLead, CallsHold, SettledHold}
use Rattle.law_behavior.proofs.Leading.{asides_lead, quiet_alive, quiet_idle, rest_at, known_on, known_more, ends_on, Came, came, same_view, Left, left, led_there}

module _ {K : Types} (app : Application K) where
  -- what a call that ended tells of its log
  pub ran_told : (limits : Limits) (until : Until) (w : State K) (log : List Entry) (edits : List Edit) (v : Machine K)
      → CallRan app limits until w log edits v → CallSpent app limits w log edits v
  ran_told limits until w log edits v r = record { last = r.last; so = r.so; edits_are = r.edits_are; machine = r.machine; quiet = r.quiet }

  pub calls_hold : CallsHold app
  calls_hold lawful limits props whole until w log edits v led r =
      let test : State K → Bool = λ x. ends_by until x in
      let c : Came app lawful limits props whole w log edits v = came app lawful limits props whole w log edits v led (ran_told limits until w log edits v r) in
      let x : State K = left_by until v.state in
      let l : Left app lawful limits props whole v x = left app lawful limits props whole until v c.reached c.known c.rest c.built in
      let there : LedTo app limits props whole v.state = led_there app lawful limits props whole v c.reached c.known c.rest c.built in
      record {
        ends_at =
            ends_on app test log (resting (look w)) v
            (log-replays app log (telling (resting (look w))) r.last r.so.told ∙ ap (λ (y : Machine K). Some y) r.machine)
            r.unended r.quiet r.ended;
        leads = l.leads;
        shows = c.shows ∙ ap (λ d. Ok d) (sym (same_view app lawful limits props whole v.state x there l.leads l.level));
        current = all_are_current_or_owed app lawful limits props [] (resting x) (l.leads).reached refl refl refl;
      }

  pub spent_hold : SpentHold app
  spent_hold lawful limits props whole w log edits v led r =
      let c : Came app lawful limits props whole w log edits v = came app lawful limits props whole w log edits v led r in
      let x : State K = at_rest v.state in
      let l : Left app lawful limits props whole v x = left app lawful limits props whole Settles v c.reached c.known c.rest c.built in
      let there : LedTo app limits props whole v.state = led_there app lawful limits props whole v c.reached c.known c.rest c.built in
      record {
        leads = l.leads;
        shows = c.shows ∙ ap (λ d. Ok d) (sym (same_view app lawful limits props whole v.state x there l.leads l.level));
        current = all_are_current_or_owed app lawful limits props [] (resting x) (l.leads).reached refl refl refl;
      }

  pub renders_hold : RendersHold app
  renders_hold lawful limits props whole w log edits v led r =
      let told : CallSpent app limits w log edits v = record { last = r.last; so = r.so; edits_are = r.edits_are; machine = r.machine; quiet = r.quiet } in
      let c : Came app lawful limits props whole w log edits v = came app lawful limits props whole w log edits v led told in
      let x : State K = left_by Renders v.state in
      let l : Left app lawful limits props whole v x = left app lawful limits props whole Renders v c.reached c.known c.rest c.built in
      let there : LedTo app limits props whole v.state = led_there app lawful limits props whole v c.reached c.known c.rest c.built in
      let m : Machine K = resting (look w) in
      let all : replay_on app (Some m) log ≡ Some v =
      log-replays app log (telling m) r.last r.so.told ∙ ap (λ (y : Machine K). Some y) r.machine in
      let on : replay_on app (Some r.between) r.more ≡ Some v =
      sym ((logs_join app limits r.first r.more).1 m r.between r.goes) ∙ ap (λ (es : List Entry). replay_on app (Some m) es) r.whole ∙ all in
      record {
        ends = record {
          first = r.first;
          between = r.between;
          more = r.more;
          whole = r.whole;
          events = ends_on app (λ (y : State K). events_end y) r.first m r.between r.goes r.events r.calm r.processed;
          goes_on = ends_on app (λ (y : State K). render_ends y) r.more r.between v on r.renders r.quiet r.ended;
        };
        leads = l.leads;
        shows = c.shows ∙ ap (λ d. Ok d) (sym (same_view app lawful limits props whole v.state x there l.leads l.level));
        current = all_are_current_or_owed app lawful limits props [] (resting x) (l.leads).reached refl refl refl;
      }

  -- from where a program's root provides its values
  built_at : (lawful : IsLawful K app) (limits : Limits) (props : K.Props) (firsts : Firsts) (contexts : List (ℕ × K.Value)) → 0 < firsts.elements
      → (log : List Entry) (edits : List Edit) (v : Machine K) (t : Telling K)
      → ToldSo app limits (start_at app props firsts contexts []) log t → t.edits ≡ edits → t.machine ≡ v → v.built ≡ true → is_quiet v ≡ true
      → BuildHolds app limits props edits v
  built_at lawful limits props firsts contexts above log edits v t so edits_are machine built quiet =
      let m : Machine K = start_at app props firsts contexts [] in
      let there : Reached app limits props [] m = record { firsts = firsts; above = above; contexts = contexts; parts = []; comes = refl } in
      let here : replay_within app limits (Some m) log ≡ Some v = so.accepted ∙ ap (λ (x : Machine K). Some x) machine in
      let settled : IsSettled m = refl in
      let over : IsSettled v = settled_after app limits log m v settled here in
      let alive : v.dead ≡ None = quiet_alive v quiet in
      let none : v.work ≡ [] = quiet_idle v quiet in
      let unit : v.unit ≡ false = unit_over v alive none over in
      let found = logs_are_moves app limits m v log settled here in
      let unfolded = reached_unfold app lawful limits props [] in
      let brings = reruns_bring app lawful limits props [] in
      let begin : Rest app lawful limits props [] unfolded brings (view m.state) (telling m) m = record
      { reached = there; alive = refl; unit = refl; tells = refl; shows = refl } in
      let ends : Ends app lawful limits props [] unfolded brings (view m.state) (telling m) (entries found.0) v =
      rest_ends app lawful limits props [] unfolded brings (view m.state) found.0 (telling m) m v begin found.1 alive unit in
      let told_same : ends.last ≡ t = one_telling ends.last t (sym ends.told ∙ ap (λ (es : List Entry). tell_log app (Some (telling m)) es)
      found.2 ∙ so.told) in
      let reached : Reached app limits props [] v =
      record { firsts = firsts; above = above; contexts = contexts; parts = ByMoves found.0 ∷ []; comes = (v, found.1, refl) } in
      let led : LedTo app limits props true v.state = led_there app lawful limits props true v reached (inl tt)
      (record { alive = alive; idle = none; unit = unit }) built in
      record {
        leads = led;
        shows =
            ap (λ (es : List Edit). document_after es Empty) (sym edits_are)
            ∙ ap (λ (x : Telling K). document_after x.edits Empty) (sym told_same)
            ∙ ends.shows;
        current = all_are_current_or_owed app lawful limits props [] (resting v.state) led.reached refl refl refl;
      }

  pub given_builds_hold : GivenBuildsHold app
  given_builds_hold lawful limits props firsts provided log edits v above r =
      built_at lawful limits props firsts (provided_by [] provided) above log edits v r.last
      (subst (λ (m : Machine K). ToldSo app limits m log r.last) (starts_provide app props firsts provided []) r.so) r.edits_are r.machine r.built r.quiet

  pub builds_hold : BuildsHold app
  builds_hold lawful limits props log edits v r = given_builds_hold lawful limits props ones [] log edits v ones_above r

  -- what entries after an aside lead to, from a machine at which no move comes alone
  after_aside : (lawful : IsLawful K app) (limits : Limits) (props : K.Props) (whole : Bool) (w : State K) (a : Aside K)
      → (led : LedTo app limits props whole w) → Allowed w a → PassesNone a ⊎ (whole ≡ false)
      → (m : Machine K) → m ≡ set_aside app (resting w) a → IsSettled m → m.dead ≡ None → m.unit ≡ false → m.built ≡ true
      → (log : List Entry) (v : Machine K) (t : Telling K) → ToldSo app limits m log t → t.machine ≡ v → is_quiet v ≡ true
      → LedTo app limits props whole v.state × (document_after t.edits (view m.state) ≡ Ok (view v.state))
  after_aside lawful limits props whole w a led allowed passes m gives settled lives single there log v t so machine quiet =
      let way : List (Part K) = led.reached.parts ++ ByAside a ∷ [] in
      let begun : IsAside app (resting w) a m = record { rest = rest_at w; built = refl; allowed = allowed; gives = gives } in
      let from : Machine K = start_at app props led.reached.firsts led.reached.contexts [] in
      let comes : Comes app limits from way m =
      comes-append app limits led.reached.parts (ByAside a ∷ []) from (resting w) m led.reached.comes (m, begun, refl) in
      let before : Reached app limits props [] m =
      record { firsts = led.reached.firsts; above = led.reached.above; contexts = led.reached.contexts; parts = way; comes = comes } in
      let here : replay_within app limits (Some m) log ≡ Some v = so.accepted ∙ ap (λ (x : Machine K). Some x) machine in
      let over : IsSettled v = settled_after app limits log m v settled here in
      let alive : v.dead ≡ None = quiet_alive v quiet in
      let none : v.work ≡ [] = quiet_idle v quiet in
      let unit : v.unit ≡ false = unit_over v alive none over in
      let found = logs_are_moves app limits m v log settled here in
      let unfolded = reached_unfold app lawful limits props [] in
      let brings = reruns_bring app lawful limits props [] in
      let begin : Rest app lawful limits props [] unfolded brings (view m.state) (telling m) m = record
      { reached = before; alive = lives; unit = single; tells = refl; shows = refl } in
      let ends : Ends app lawful limits props [] unfolded brings (view m.state) (telling m) (entries found.0) v =
      rest_ends app lawful limits props [] unfolded brings (view m.state) found.0 (telling m) m v begin found.1 alive unit in
      let told_same : ends.last ≡ t = one_telling ends.last t (sym ends.told ∙ ap (λ (es : List Entry). tell_log app (Some (telling m)) es)
      found.2 ∙ so.told) in
      let after : Reached app limits props [] v =
      record {
        firsts = led.reached.firsts;
        above = led.reached.above;
        contexts = led.reached.contexts;
        parts = way ++ ByMoves found.0 ∷ [];
        comes = comes-append app limits way (ByMoves found.0 ∷ []) from m v comes (v, found.1, refl);
      } in
      let known : NonePassed after.parts ⊎ (whole ≡ false) =
      known_more app lawful limits props whole way found.0 (known_on app lawful limits props whole led.reached.parts a led.known passes) in
      let built : v.built ≡ true = built_on app lawful limits props [] m v found.0 (reached_sound app lawful limits props [] m before) there
      found.1 alive in (
        led_there app lawful limits props whole v after known (record { alive = alive; idle = none; unit = unit }) built,
        ap (λ (x : Telling K). document_after x.edits (view m.state)) (sym told_same) ∙ ends.shows,
      )

  pub handles_lead : HandlesLead app
  handles_lead lawful limits props whole w name payload element bubbles prevented log edits v led r =
      let a : Aside K = Raised name payload element bubbles prevented in
      let on =
      after_aside lawful limits props whole w a led tt (inl tt) (set_aside app (resting w) a) refl refl refl refl refl log v r.last r.so r.machine r.quiet
      in
      (on.0, ap (λ (es : List Edit). document_after es (view w)) (sym r.edits_are) ∙ on.1)

  pub passed_leads : PassedLeads app
  passed_leads lawful limits props w led =
      let there : LedTo app limits props false (rendering_rest w) = asides_lead app limits props false lawful w Passed led tt (inr refl) in
      (there, same_view app lawful limits props false w (rendering_rest w) led there (aside_level app w Passed))

  pub units_lead : UnitsLead app
  units_lead lawful limits props w log edits v led r =
      let x : State K = rendering_rest w in
      let passed = passed_leads lawful limits props w led in
      let on = after_aside lawful limits props false w Passed led tt (inr refl) (resting x) refl refl refl refl refl log v r.last r.so r.machine r.quiet in (
        on.0,
        ap (λ (es : List Edit). document_after es (view w)) (sym r.edits_are)
            ∙ ap (λ d. document_after (r.last).edits d) (sym passed.1)
            ∙ on.1,
      )

  pub settled_hold : SettledHold app
  settled_hold lawful limits props w log edits v led r =
      let c : Came app lawful limits props true w log edits v = came app lawful limits props true w log edits v led (ran_told limits Settles w log edits v r) in
      let over : is_settled v ≡ true = ap (λ (b : Bool). b && not (owes v.state)) r.quiet ∙ r.ended in
      let none : NonePassed c.reached.parts = elim c.known [ inl n ↦ n | inr q ↦ let absurdity : true ≡ false = q in cc ] in (
        settled_are_current app lawful limits props [] v c.reached none c.built over,
        settled_show_held app lawful limits props [] v c.reached none c.built over,
      )
