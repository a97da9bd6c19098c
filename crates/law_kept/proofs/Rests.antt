-- The tests for a call's end leave cells, scopes and last calls as they were.
use Rattle.std.proofs.Common.{ℕ, List, [], ◌∷◌, ◌≡◌, refl, ◌∙◌}
use Rattle.std.specs.Prelude.{Option, Some, None}
use Rattle.rt_model.specs.Lists.{drop_number}
use Rattle.rt_model.specs.Next.{Work, at_rest, drop_then, drops, found, look, looked, paused}
use Rattle.rt_model.specs.State.{State}
use Rattle.rt_model.specs.Tree.{Types}
use Rattle.law_behavior.specs.Doms.{Until, Events, Renders, Settles, left_by}
use Rattle.law_lasting.proofs.Told.{look_same}
use Rattle.law_reduce.proofs.Hooked.{looks_calls}

module _ {K : Types} where
  -- cells, scopes and last calls are as they were
  pub record Rests (w v : State K) : Type 0 where
    pub cells : v.cells ≡ w.cells
    pub scopes : v.scopes ≡ w.scopes
    pub calls : v.last_calls ≡ w.last_calls

  rests_same : (w : State K) → Rests w w
  rests_same w = record { cells = refl; scopes = refl; calls = refl }

  rests_then : (u v w : State K) → Rests u v → Rests v w → Rests u w
  rests_then u v w f g = record { cells = g.cells ∙ f.cells; scopes = g.scopes ∙ f.scopes; calls = g.calls ∙ f.calls }

  drop_rests : (go : State K → State K) → ((u : State K) → Rests u (go u)) → (w : State K) (o : Option ℕ) → Rests w (drop_then go w o)
  drop_rests go later w None = rests_same w
  drop_rests go later w (Some t) =
      let u : State K = record w { queued = drop_number w.queued t } in
      rests_then w u (go u) (record { cells = refl; scopes = refl; calls = refl }) (later u)

  drops_rest : (qs : List ℕ) (w : State K) → Rests w (drops qs w)
  drops_rest [] w = rests_same w
  drops_rest (q ∷ qs) w = drop_rests (λ v. drops qs v) (λ u. drops_rest qs u) w (paused w (found w))

  -- a look
  pub look_rests : (w : State K) → Rests w (look w)
  look_rests w =
      record {
        cells = (look_same w).cells;
        scopes = (look_same w).scopes;
        calls = looks_calls w.posted (record w { posted = [] });
      }

  looked_rests : (w : State K) (o : Option Work) → Rests w (looked w o)
  looked_rests w (Some x) = rests_same w
  looked_rests w None = rests_then w (look w) (drops (look w).queued (look w)) (look_rests w) (drops_rest (look w).queued (look w))

  at_rest_rests : (w : State K) → Rests w (at_rest w)
  at_rest_rests w =
      let v : State K = drops w.queued w in
      rests_then w v (looked v (found v)) (drops_rest w.queued w) (looked_rests v (found v))

  -- the state that a call leaves
  pub left_rests : (until : Until) (w : State K) → Rests w (left_by until w)
  left_rests Settles w = at_rest_rests w
  left_rests Renders w = drops_rest w.queued w
  left_rests Events w = on w.seen
    where
      on : (seen : List ℕ) → Rests w (elim seen as (λ z. State K) [ [] ↦ at_rest w | s ∷ ss ↦ w ])
      on [] = at_rest_rests w
      on (s ∷ ss) = rests_same w
