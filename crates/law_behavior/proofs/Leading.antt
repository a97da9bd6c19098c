-- Where the log of a call leads.
use Rattle.std.proofs.Common.{◌⊎◌, inl, inr, ℕ, arith, Bool, true, false, ◌&&◌, not, List, [], ◌∷◌, ◌++◌, ◌≡◌, refl, sym, ap, ◌∙◌}
use Rattle.std.specs.Prelude.{Option, Some, None, Ok, is_some}
use Rattle.rt_lemmas.proofs.Options.{not_some as alive_of}
use Rattle.rt_model.specs.Tree.{Types}
use Rattle.rt_model.specs.World.{Application}
use Rattle.rt_model.specs.Laws.{IsLawful}
use Rattle.rt_model.specs.State.{Fault, State, Item}
use Rattle.rt_model.specs.Next.{Work, look, found, looked, or_effects, drops, at_rest, owes}
use Rattle.rt_model.specs.Replay.{Entry, Machine, accepts, is_quiet, no_listener, no_work, waiting, replay_on}
use Rattle.rt_model.specs.Document.{Edit, document_after}
use Rattle.rt_model.specs.View.{view}
use Rattle.rt_model.specs.Causes.{Limits, refusal, replay_within}
use Rattle.rt_model.specs.Told.{Telling, telling, tell_log}
use Rattle.rt_model.specs.Sentences.{EndsAt}
use Rattle.rt_model.proofs.Conjunctions.{and-left, and-right}
use Rattle.law_moves.specs.Moves.{Move, IsSettled, AtRest, entries}
use Rattle.law_moves.specs.Reached.{Part, ByMoves, ByAside, NonePassed, start_at, Comes, Reached}
use Rattle.rt_model.specs.Asides.{Aside, Asked, Marked, AllMarked, Looked, Thinned, Rested, Raised, Passed, Polling, Answered, Advanced, PassesNone, Allowed, aside_state, set_aside, resting}
use Rattle.law_moves.specs.Asides.{IsAside}
use Rattle.law_moves.proofs.Logs.{logs_are_moves}
use Rattle.law_moves.proofs.Ways.{comes-append, none_more, none_aside}
use Rattle.law_moves.proofs.Commanded.{Level, level_refl}
use Rattle.law_headline.proofs.Settled.{reached_unfold}
use Rattle.law_headline.proofs.Calm.{aside_level}
use Rattle.law_headline.proofs.Reruns.{reruns_bring}
use Rattle.law_moves.proofs.Woods.{reached_sound}
use Rattle.law_headline.proofs.Begins.{built_on}
use Rattle.law_headline.proofs.Views.{level_views}
use Rattle.law_headline.proofs.UnitsShow.{Rest, Ends, rest_ends}
use Rattle.law_headline.proofs.Reports.{settled_after, unit_over, one_machine, one_telling}
use Rattle.law_behavior.specs.Doms.{Until, Events, Renders, Settles, ends_by, left_by, LedTo, AsidesLead, Unended, CallSpent}

module _ {K : Types} where
  idle_of : (work : List (Item K)) → no_work work ≡ true → work ≡ []
  idle_of [] h = refl
  idle_of (i ∷ rest) h = cc

  pub quiet_alive : (m : Machine K) → is_quiet m ≡ true → m.dead ≡ None
  quiet_alive m quiet =
      alive_of m.dead (and-left (not (is_some m.dead)) (no_work m.work) (and-left (not (is_some m.dead) && no_work m.work)
      (no_listener (waiting m)) quiet))

  pub quiet_idle : (m : Machine K) → is_quiet m ≡ true → m.work ≡ []
  quiet_idle m quiet =
      idle_of m.work (and-right (not (is_some m.dead)) (no_work m.work) (and-left (not (is_some m.dead) && no_work m.work)
      (no_listener (waiting m)) quiet))

  pub rest_at : (w : State K) → AtRest (resting w)
  rest_at w = record { alive = refl; idle = refl; unit = refl }

  -- where the test of a call fails something is owed
  pub owing : (until : Until) (w : State K) → ends_by until w ≡ false → owes w ≡ true
  owing Settles w h = by (owes w) h
    where
      by : (b : Bool) → not b ≡ false → b ≡ true
      by true h = refl
      by false h = cc
  owing Events w h = by w.seen (owes w) h
    where
      by : (seen : List ℕ) (b : Bool) → (elim seen as (λ z. Bool) [ [] ↦ not b | s ∷ ss ↦ true ]) ≡ false → b ≡ true
      by [] true h = refl
      by [] false h = cc
      by (s ∷ ss) b h = cc
  owing Renders w h = by (found v) refl h
    where
      v : State K
      v = drops w.queued w

      by : (o : Option Work) → found (drops w.queued w) ≡ o → not (is_some o) ≡ false
          → is_some (or_effects (looked (drops w.queued w) o) (found (looked (drops w.queued w) o))) ≡ true
      by None e h = cc
      by (Some x) e h = ap (λ (o : Option Work). is_some (or_effects (drops w.queued w) o)) e

module _ {K : Types} (app : Application K) where
  set_is : (m : Machine K) (a : Aside K) → ((v : Machine K) → set_aside app v a ≡ resting (aside_state app v.state a))
      → resting (aside_state app m.state a) ≡ set_aside app m a
  set_is m a h = sym (h m)

  module _ (lawful : IsLawful K app) (limits : Limits) (props : K.Props) (whole : Bool) where
    pub known_on : (parts : List (Part K)) (a : Aside K) → NonePassed parts ⊎ (whole ≡ false) → PassesNone a ⊎ (whole ≡ false)
        → NonePassed (parts ++ ByAside a ∷ []) ⊎ (whole ≡ false)
    known_on parts a (inl none) (inl p) = inl (none_aside parts a p none)
    known_on parts a (inl none) (inr q) = inr q
    known_on parts a (inr q) p = inr q

    pub known_more : (parts : List (Part K)) (moves : List Move) → NonePassed parts ⊎ (whole ≡ false)
        → NonePassed (parts ++ ByMoves moves ∷ []) ⊎ (whole ≡ false)
    known_more parts moves (inl none) = inl (none_more parts moves none)
    known_more parts moves (inr q) = inr q

    -- from a machine at rest
    rest_leads : (m : Machine K) (a : Aside K) → ((v : Machine K) → set_aside app v a ≡ resting (aside_state app v.state a))
        → (reached : Reached app limits props [] m) → NonePassed reached.parts ⊎ (whole ≡ false)
        → AtRest m → m.built ≡ true → Allowed m.state a → PassesNone a ⊎ (whole ≡ false)
        → LedTo app limits props whole (aside_state app m.state a)
    rest_leads m a is reached known rest built allowed passes =
        let v : Machine K = resting (aside_state app m.state a) in
        let h : IsAside app m a v = record { rest = rest; built = built; allowed = allowed; gives = set_is m a is } in
        record {
          reached =
              record {
                firsts = reached.firsts;
                above = reached.above;
                contexts = reached.contexts;
                parts = reached.parts ++ ByAside a ∷ [];
                comes =
                    comes-append app limits reached.parts (ByAside a ∷ []) (start_at app props reached.firsts reached.contexts []) m v reached.comes
                    (v, h, refl);
              };
          known = known_on reached.parts a known passes;
        }

  pub asides_lead : (limits : Limits) (props : K.Props) (whole : Bool) → AsidesLead app limits props whole
  asides_lead limits props whole lawful w (Asked s next cs) h allowed p =
      rest_leads lawful limits props whole (resting w) (Asked s next cs) (λ v. refl) h.reached h.known (rest_at w) refl allowed p
  asides_lead limits props whole lawful w (Marked s) h allowed p =
      rest_leads lawful limits props whole (resting w) (Marked s) (λ v. refl) h.reached h.known (rest_at w) refl allowed p
  asides_lead limits props whole lawful w AllMarked h allowed p =
      rest_leads lawful limits props whole (resting w) AllMarked (λ v. refl) h.reached h.known (rest_at w) refl allowed p
  asides_lead limits props whole lawful w Looked h allowed p =
      rest_leads lawful limits props whole (resting w) Looked (λ v. refl) h.reached h.known (rest_at w) refl allowed p
  asides_lead limits props whole lawful w Thinned h allowed p =
      rest_leads lawful limits props whole (resting w) Thinned (λ v. refl) h.reached h.known (rest_at w) refl allowed p
  asides_lead limits props whole lawful w Rested h allowed p =
      rest_leads lawful limits props whole (resting w) Rested (λ v. refl) h.reached h.known (rest_at w) refl allowed p
  asides_lead limits props whole lawful w Passed h allowed p =
      rest_leads lawful limits props whole (resting w) Passed (λ v. refl) h.reached h.known (rest_at w) refl allowed p
  asides_lead limits props whole lawful w Polling h allowed p =
      rest_leads lawful limits props whole (resting w) Polling (λ v. refl) h.reached h.known (rest_at w) refl allowed p
  asides_lead limits props whole lawful w Answered h allowed p =
      rest_leads lawful limits props whole (resting w) Answered (λ v. refl) h.reached h.known (rest_at w) refl allowed p
  asides_lead limits props whole lawful w (Advanced t) h allowed p =
      rest_leads lawful limits props whole (resting w) (Advanced t) (λ v. refl) h.reached h.known (rest_at w) refl allowed p
  asides_lead limits props whole lawful w (Raised name payload element bubbles prevented) h allowed p = h

  -- entry by entry: where the log leads, and where no unit began too late, it ends at its machine
  pub accepted_on : (m v : Machine K) (e : Entry) (log : List Entry) → replay_on app (Some m) (e ∷ log) ≡ Some v
      → (u : Machine K) × (accepts app m e ≡ Some u) × (replay_on app (Some u) log ≡ Some v)
  accepted_on m v e log h = by (accepts app m e) refl h
    where
      by : (o : Option (Machine K)) → accepts app m e ≡ o → replay_on app o log ≡ Some v
          → (u : Machine K) × (accepts app m e ≡ Some u) × (replay_on app (Some u) log ≡ Some v)
      by None is go = cc
      by (Some u) is go = (u, is, go)

  pub ends_on : (test : State K → Bool) (log : List Entry) (m v : Machine K) → replay_on app (Some m) log ≡ Some v → Unended app test m log
      → is_quiet v ≡ true → test v.state ≡ true → EndsAt app test m log v
  ends_on test [] m v h unended quiet ended =
      let same : m ≡ v = one_machine m v h in
      (same, ap (λ (x : Machine K). is_quiet x) same ∙ quiet, ap (λ (x : Machine K). test x.state) same ∙ ended)
  ends_on test (e ∷ log) m v h unended quiet ended =
      let on = accepted_on m v e log h in
      (unended.0, (on.0, on.1, ends_on test log on.0 v on.2 (unended.1 on.0 on.1) quiet ended))

  -- a log that is accepted within the limits meets no refusal of the call
  pub within_on : (limits : Limits) (m v : Machine K) (e : Entry) (log : List Entry) → replay_within app limits (Some m) (e ∷ log) ≡ Some v
      → (refusal limits m ≡ None) × ((u : Machine K) × (accepts app m e ≡ Some u) × (replay_within app limits (Some u) log ≡ Some v))
  within_on limits m v e log h = by (refusal limits m) refl h
    where
      by_accepted : (o : Option (Machine K)) → accepts app m e ≡ o → replay_within app limits o log ≡ Some v
          → (u : Machine K) × (accepts app m e ≡ Some u) × (replay_within app limits (Some u) log ≡ Some v)
      by_accepted None is go = cc
      by_accepted (Some u) is go = (u, is, go)

      by : (o : Option Fault) → refusal limits m ≡ o
          → replay_within app limits (elim o as (λ z. Option (Machine K)) [ None ↦ accepts app m e | Some fault ↦ None ]) log ≡ Some v
          → (refusal limits m ≡ None) × ((u : Machine K) × (accepts app m e ≡ Some u) × (replay_within app limits (Some u) log ≡ Some v))
      by None is go = (is, by_accepted (accepts app m e) refl go)
      by (Some fault) is go = cc

  -- and it parts where two logs do
  pub within_split : (limits : Limits) (first more : List Entry) (m v : Machine K) → replay_within app limits (Some m) (first ++ more) ≡ Some v
      → (u : Machine K) × (replay_within app limits (Some m) first ≡ Some u) × (replay_within app limits (Some u) more ≡ Some v)
  within_split limits [] more m v go = (m, refl, go)
  within_split limits (e ∷ first) more m v go =
      let on = within_on limits m v e (first ++ more) go in
      let rest = within_split limits first more on.1.0 v on.1.2 in
      let one : replay_within app limits (Some m) (e ∷ first) ≡ replay_within app limits (Some on.1.0) first =
      ap (λ (o : Option Fault). replay_within app limits (elim o as (λ z. Option (Machine K))
      [ None ↦ accepts app m e | Some fault ↦ None ]) first) on.0
      ∙ ap (λ (o : Option (Machine K)). replay_within app limits o first) on.1.1 in
      (rest.0, one ∙ rest.1, rest.2)

  module _ (lawful : IsLawful K app) (limits : Limits) (props : K.Props) (whole : Bool) where
    -- where a call's log led
    pub record Came (w : State K) (log : List Entry) (edits : List Edit) (v : Machine K) : Type 0 where
      pub reached : Reached app limits props [] v
      pub known : NonePassed reached.parts ⊎ (whole ≡ false)
      pub rest : AtRest v
      pub built : v.built ≡ true
      pub shows : document_after edits (view w) ≡ Ok (view v.state)

    pub same_view : (w v : State K) → LedTo app limits props whole w → LedTo app limits props whole v → Level w v → view v ≡ view w
    same_view w v h k level =
        level_views w v (reached_unfold app lawful limits props [] (resting w) h.reached refl)
        (reached_unfold app lawful limits props [] (resting v) k.reached refl) level

    pub came : (w : State K) (log : List Entry) (edits : List Edit) (v : Machine K) → (led : LedTo app limits props whole w)
        → CallSpent app limits w log edits v → Came w log edits v
    came w log edits v led r =
        let start_w : State K = look w in
        let m : Machine K = resting start_w in
        let t : Telling K = r.last in
        let way : List (Part K) = led.reached.parts ++ ByAside Looked ∷ [] in
        let begun : IsAside app (resting w) Looked m = record { rest = rest_at w; built = refl; allowed = tt; gives = refl } in
        let from : Machine K = start_at app props led.reached.firsts led.reached.contexts [] in
        let comes : Comes app limits from way m =
        comes-append app limits led.reached.parts (ByAside Looked ∷ []) from (resting w) m led.reached.comes (m, begun, refl) in
        let before : Reached app limits props [] m =
        record { firsts = led.reached.firsts; above = led.reached.above; contexts = led.reached.contexts; parts = way; comes = comes } in
        let looked : LedTo app limits props whole start_w = asides_lead limits props whole lawful w Looked led tt (inl tt) in
        let here : replay_within app limits (Some m) log ≡ Some v = r.so.accepted ∙ ap (λ (x : Machine K). Some x) r.machine in
        let settled : IsSettled m = refl in
        let over : IsSettled v = settled_after app limits log m v settled here in
        let alive : v.dead ≡ None = quiet_alive v r.quiet in
        let none : v.work ≡ [] = quiet_idle v r.quiet in
        let unit : v.unit ≡ false = unit_over v alive none over in
        let found = logs_are_moves app limits m v log settled here in
        let unfolded = reached_unfold app lawful limits props [] in
        let brings = reruns_bring app lawful limits props [] in
        let begin : Rest app lawful limits props [] unfolded brings (view m.state) (telling m) m = record
        { reached = before; alive = refl; unit = refl; tells = refl; shows = refl } in
        let ends : Ends app lawful limits props [] unfolded brings (view m.state) (telling m) (entries found.0) v =
        rest_ends app lawful limits props [] unfolded brings (view m.state) found.0 (telling m) m v begin found.1 alive unit in
        let told_same : ends.last ≡ t = one_telling ends.last t (sym ends.told ∙ ap
        (λ (es : List Entry). tell_log app (Some (telling m)) es) found.2 ∙ r.so.told) in
        let shows : document_after t.edits (view m.state) ≡ Ok (view v.state) = ap
        (λ (x : Telling K). document_after x.edits (view m.state)) (sym told_same) ∙ ends.shows in
        record {
          reached =
              record {
                firsts = led.reached.firsts;
                above = led.reached.above;
                contexts = led.reached.contexts;
                parts = way ++ ByMoves found.0 ∷ [];
                comes = comes-append app limits way (ByMoves found.0 ∷ []) from m v comes (v, found.1, refl);
              };
          known =
              known_more lawful limits props whole way found.0 (known_on lawful limits props whole led.reached.parts Looked led.known
              (inl tt));
          rest = record { alive = alive; idle = none; unit = unit };
          built = built_on app lawful limits props [] m v found.0 (reached_sound app lawful limits props [] m before) refl found.1 alive;
          shows =
              ap (λ (es : List Edit). document_after es (view w)) (sym r.edits_are)
              ∙ ap (λ d. document_after t.edits d) (sym (same_view w start_w led looked (aside_level app w Looked)))
              ∙ shows;
        }

    -- the state that is left
    pub record Left (v : Machine K) (x : State K) : Type 0 where
      pub leads : LedTo app limits props whole x
      pub level : Level v.state x

    left_at : (until : Until) (v : Machine K) → (reached : Reached app limits props [] v) → NonePassed reached.parts ⊎ (whole ≡ false)
        → AtRest v → v.built ≡ true → LedTo app limits props whole v.state → Left v (left_by until v.state)
    left_at Renders v reached known rest built led =
        record {
          leads = rest_leads lawful limits props whole v Thinned (λ u. refl) reached known rest built tt (inl tt);
          level =
              aside_level app v.state Thinned;
        }
    left_at Settles v reached known rest built led =
        record {
          leads = rest_leads lawful limits props whole v Rested (λ u. refl) reached known rest built tt (inl tt);
          level = aside_level
              app v.state Rested;
        }
    left_at Events v reached known rest built led = by v.state.seen
      where
        by : (seen : List ℕ) → Left v (elim seen as (λ z. State K) [ [] ↦ at_rest v.state | s ∷ ss ↦ v.state ])
        by [] =
            record {
              leads = rest_leads lawful limits props whole v Rested (λ u. refl) reached known rest built tt (inl tt);
              level =
                  aside_level app v.state Rested;
            }
        by (s ∷ ss) = record { leads = led; level = level_refl v.state }

    -- nothing was asked for
    none_asked : (w : State K) → Allowed w (Asked 0 w.next [])
    none_asked w = record { cells = refl; contexts = refl; tasks = refl; elements = refl; errors = omega arith }

    pub led_there : (v : Machine K) → (reached : Reached app limits props [] v) → NonePassed reached.parts ⊎ (whole ≡ false) → AtRest v
        → v.built ≡ true → LedTo app limits props whole v.state
    led_there v reached known rest built =
        rest_leads lawful limits props whole v (Asked 0 v.state.next []) (λ u. refl) reached known rest built (none_asked v.state) (inl tt)

    pub left : (until : Until) (v : Machine K) → (reached : Reached app limits props [] v) → NonePassed reached.parts ⊎ (whole ≡ false)
        → AtRest v → v.built ≡ true → Left v (left_by until v.state)
    left until v reached known rest built = left_at until v reached known rest built (led_there v reached known rest built)
