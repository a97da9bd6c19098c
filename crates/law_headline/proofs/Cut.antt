-- The edits of a unit so far carry numbers that may come, at each machine while its work is served.
use Rattle.std.proofs.Common.{ℕ, zero, suc, ◌≤◌, ◌<◌, true, List, ◌≡◌, inl, inr, refl, sym, ap, ◌∙◌, arith, length}
use Rattle.std.specs.Prelude.{Option, Some, None, nat_lt}
use Rattle.rt_model.specs.Lists.{at}
use Rattle.rt_model.specs.Tree.{Types}
use Rattle.rt_model.specs.World.{Application}
use Rattle.rt_model.specs.Laws.{IsLawful}
use Rattle.rt_model.specs.State.{SideName, Scope, State, Item, side_of, is_live}
use Rattle.rt_model.specs.Replay.{Entry, Build, Taken, Heard, Rerun, Poll, Effects, Made, Fed, Kept, Removed}
use Rattle.rt_model.specs.Document.{Edit}
use Rattle.rt_model.specs.View.{view}
use Rattle.rt_model.specs.Caused.{Way, way_to, written_within, caused_until}
use Rattle.rt_model.specs.Sentences.{all_carried, MayCome, AllMayCome}
use Rattle.rt_model.proofs.Maps.{by_test}
use Rattle.law_moves.proofs.Twigs.{up_found, below_found, found_live}
use Rattle.law_moves.specs.Frames.{stand}
use Rattle.law_headline.proofs.InRows.{absent}
use Rattle.law_headline.proofs.Steps.{Ready}
use Rattle.law_headline.proofs.Nodes.{Settled}
use Rattle.law_headline.proofs.Settled.{contained}
use Rattle.law_headline.proofs.Climbs.{up_by, below_by}
use Rattle.law_headline.proofs.Since.{Since}
use Rattle.law_headline.proofs.Homes.{Under}
use Rattle.law_headline.proofs.Carries.{carries}
use Rattle.law_headline.proofs.Unshown.{hidden}
use Rattle.law_headline.proofs.Midway.{Midway, carried_home}
use Rattle.law_headline.proofs.Drawn.{Below, never_among, all_listed}

module _ {K : Types} (app : Application K) (lawful : IsLawful K app) where
  -- while the work of a unit is served
  pub since_midway : (first v : State K) (root : ℕ) (work : List (Item K)) → Ready v work → Since app lawful first root v work → Midway app first v
  since_midway first v root work ready h =
      record {
        fits = λ t x a tree found output. (ready.stands).fit t x a tree found output;
        numbers = h.numbers;
        children =
            λ t x a p u found g live low.
            let z = h.children t x a p u found g low in
            let y = found_live (at v.scopes u) live in
            let told = (ready.stands).child t u x y.0 a p found g y.1 in
            let same : stand (at v.scopes u) ≡ stand (at first.scopes u) = h.old u live low in (
              z.0,
              z.1,
              z.2,
              sym (up_by first v u same) ∙ up_found v u y.0 y.1 ∙ told.0,
              sym (below_by first v u same) ∙ below_found v u y.0 y.1 ∙ ap (λ (s : SideName). Some s) told.1,
            );
        feeds = λ t x z a p u c d found there g low i j. (h.links t x z a found there).feeds p u c d g low i j;
      }

module _ {K : Types} (app : Application K) (first v : State K) (f : Settled first) (h : Midway app first v) (earlier : List ℕ) (drawn : Below first.next.elements earlier) where
  way_may_come : (way : Way) (s : ℕ) (z : Scope K) → at first.scopes s ≡ Some z → AllMayCome earlier first (written_within app way first v (length first.scopes) s).edits
  way_may_come way s z lived = all_listed (λ n. MayCome earlier first n) (all_carried edits) (λ n more. by_number n more)
    where
      edits : List Edit
      edits = (written_within app way first v (length first.scopes) s).edits

      by_number : (n : ℕ) → 0 < carries n edits → MayCome earlier first n
      by_number zero more = inl (never_among (λ k. (0 < k) × (k < first.next.elements)) zero (λ p. let low = p.0 in omega (arith, low)) earlier drawn)
      by_number (suc n) more =
          by_test (nat_lt (suc n) first.next.elements)
          (
          λ e.
          let low : suc n < first.next.elements = grind (arith, e) in
          let home = carried_home app first v f h (suc n) (omega arith) low way (length first.scopes) s z lived more in
          let u : Under first f (suc n) s = home.1 in
          inr (
            absent (suc n) (view first) (hidden first f (suc n) s z lived u home.0),
            record {
              scope = u.scope;
              row = u.entry.row;
              side = u.side;
              place = u.place;
              kind = u.kind;
              live = u.entry.found;
              kept = contained (side_of u.entry.row u.side).numbers (u.place, u.kind, suc n) u.entry.number;
            },
          )
          )
          (
          λ e.
          let high : first.next.elements ≤ suc n = grind (arith, e) in
          inl (never_among (λ k. (0 < k) × (k < first.next.elements)) (suc n) (λ p. let low = p.1 in omega (arith, low, high)) earlier drawn)
          )

  -- so it is with what is written up to a refused item
  pub until_may_come : (s : ℕ) → is_live first s ≡ true → (refused : Option (Item K)) → AllMayCome earlier first (caused_until app first v refused (Rerun s))
  until_may_come s live None = tt
  until_may_come s live (Some item) = let z = found_live (at first.scopes s) live in way_may_come (way_to v (Some item)) s z.0 z.1

module _ {K : Types} (app : Application K) (xs : List ℕ) (w v : State K) where
  -- of the units that a fault cuts only reruns wrote something
  pub by_rerun : (e : Entry) (refused : Option (Item K)) → ((s : ℕ) → e ≡ Rerun s → AllMayCome xs w (caused_until app w v refused (Rerun s))) → AllMayCome xs w (caused_until app w v refused e)
  by_rerun e None h = tt
  by_rerun (Rerun s) (Some item) h = h s refl
  by_rerun Build (Some item) h = tt
  by_rerun (Taken k) (Some item) h = tt
  by_rerun (Heard s) (Some item) h = tt
  by_rerun (Poll t) (Some item) h = tt
  by_rerun (Effects s) (Some item) h = tt
  by_rerun (Made s) (Some item) h = tt
  by_rerun (Fed s) (Some item) h = tt
  by_rerun (Kept s) (Some item) h = tt
  by_rerun (Removed s) (Some item) h = tt
