-- What a unit wrote that has ended: its edits carry what may come, and what was drawn by its end.
use Rattle.std.proofs.Common.{ℕ, ◌<◌, true, List, [], ◌∷◌, ◌≡◌, inl, refl, sym, ap, ◌∙◌, subst, arith}
use Rattle.rt_model.specs.Tree.{Types}
use Rattle.rt_model.specs.World.{Application}
use Rattle.rt_model.specs.Laws.{IsLawful}
use Rattle.rt_model.specs.State.{State}
use Rattle.rt_model.specs.Replay.{Entry, Build, Taken, Heard, Rerun, Poll, Effects, Made, Fed, Kept, Removed, Input, Machine}
use Rattle.rt_model.specs.Document.{Edit, AppendChildren, count_of}
use Rattle.rt_model.specs.View.{view}
use Rattle.rt_model.specs.Caused.{written, caused}
use Rattle.rt_model.specs.Causes.{Limits}
use Rattle.rt_model.specs.Told.{opens}
use Rattle.rt_model.specs.Sentences.{all_carried, MayCome, AllMayCome}
use Rattle.law_moves.specs.Moves.{Closed, AtWork, IsClosed, IsLogged}
use Rattle.law_moves.specs.Reached.{Reached}
use Rattle.law_headline.proofs.Nodes.{Settled}
use Rattle.law_headline.proofs.Settled.{settled_of}
use Rattle.law_moves.specs.Reruns.{Reruns}
use Rattle.law_headline.proofs.Homes.{Under}
use Rattle.law_headline.proofs.Begins.{reached_on}
use Rattle.law_headline.proofs.Carries.{carries, appended_carries}
use Rattle.law_headline.proofs.Drawn.{Below, less_than, all_listed}
use Rattle.law_headline.proofs.Shown.{shown_stands, in_range, carried_comes, may_come, comes_low}
use Rattle.law_headline.proofs.Open.{OpenUnit, in_work, unit_reached}

module _ {K : Types} (app : Application K) (lawful : IsLawful K app) (props : K.Props) (inputs : List (Input K)) (limits : Limits) where
  abbrev From : Machine K → Type 0
  From m = Reached app limits props inputs m

  abbrev InUnit : List ℕ → State K → Entry → Machine K → Type 0
  InUnit xs w first m = OpenUnit app lawful props inputs limits xs w first m

  -- what a unit wrote that has ended
  pub record Wrote (xs : List ℕ) (w : State K) (v : Machine K) (edits : List Edit) : Type 0 where
    pub come : AllMayCome xs w edits
    pub low : Below v.state.next.elements (all_carried edits)

  nothing_wrote : (xs : List ℕ) (w : State K) (v : Machine K) → Wrote xs w v []
  nothing_wrote xs w v = record { come = tt; low = tt }

  build_wrote : (xs : List ℕ) (w : State K) (v : Machine K) → xs ≡ [] → Settled v.state → Wrote xs w v (AppendChildren 0 (view v.state) ∷ [])
  build_wrote xs w v none done =
      record {
        come =
            subst (λ (earlier : List ℕ). AllMayCome earlier w edits) (sym none)
            (all_listed (λ n. MayCome [] w n) (all_carried edits) (λ n more. inl refl));
        low = all_listed (λ n. (0 < n) × (n < v.state.next.elements)) (all_carried edits) (λ n more. range n more);
      }
    where
      edits : List Edit
      edits = AppendChildren 0 (view v.state) ∷ []

      range : (n : ℕ) → 0 < carries n edits → (0 < n) × (n < v.state.next.elements)
      range n more =
          let shows : carries n edits ≡ count_of n (view v.state) = appended_carries n 0 (view v.state) in
          let u : Under v.state done n 0 = shown_stands v.state done n (omega (arith, more, shows)) in
          in_range v.state done n 0 u

  rerun_wrote : (xs : List ℕ) (from v : Machine K) (s : ℕ) → Reruns app limits props inputs from s v → Below from.state.next.elements xs → Wrote xs from.state v (written app from.state v.state s)
  rerun_wrote xs from v s r low =
      record {
        come =
            all_listed (λ n. MayCome xs from.state n) (all_carried (written app from.state v.state s))
            (λ n more. may_come app lawful limits props inputs from v s r xs (less_than xs from.state.next.elements low) n (carried_comes app lawful limits props inputs from v s r n more));
        low =
            all_listed (λ n. (0 < n) × (n < v.state.next.elements)) (all_carried (written app from.state v.state s))
            (λ n more. comes_low app lawful limits props inputs from v s r n (carried_comes app lawful limits props inputs from v s r n more));
      }

  -- a unit ends
  pub unit_wrote : (xs : List ℕ) (w : State K) (first : Entry) (m v : Machine K) → InUnit xs w first m → IsClosed m v → Wrote xs w v (caused app w v.state first)
  unit_wrote xs w first m v o closed =
      subst (λ (x : State K). Wrote xs x v (caused app x v.state first)) (sym o.before_is) (by_entry first o.opening o.none_before o.logged)
    where
      work : AtWork m
      work = in_work app lawful props inputs limits xs w first m o closed.alive

      reached_v : From v
      reached_v = reached_on app lawful limits props inputs m v (Closed ∷ []) (unit_reached app lawful props inputs limits xs w first m o) (v, closed, refl)

      done : Settled v.state
      done =
          settled_of app lawful limits props inputs v reached_v (ap (λ (x : Machine K). x.dead) closed.gives ∙ closed.alive)
          (ap (λ (x : Machine K). x.built) closed.gives ∙ work.built) (ap (λ (x : Machine K). x.work) closed.gives ∙ closed.idle)

      by_entry : (e : Entry) → opens e ≡ true → (e ≡ Build → xs ≡ []) → IsLogged app limits o.from e o.begun
          → Wrote xs (o.from).state v (caused app (o.from).state v.state e)
      by_entry Build h none logged = build_wrote xs (o.from).state v (none refl) done
      by_entry (Rerun s) h none logged =
          rerun_wrote xs o.from v s (record { begun = o.begun; served = m; moves = o.done; reached = o.reached; logged = logged; leads = o.leads; inside = o.inside; closed = closed }) o.low
      by_entry (Poll t) h none logged = nothing_wrote xs (o.from).state v
      by_entry (Effects s) h none logged = nothing_wrote xs (o.from).state v
      by_entry (Taken k) h none logged = cc
      by_entry (Heard s) h none logged = cc
      by_entry (Made s) h none logged = cc
      by_entry (Fed s) h none logged = cc
      by_entry (Kept s) h none logged = cc
      by_entry (Removed s) h none logged = cc
