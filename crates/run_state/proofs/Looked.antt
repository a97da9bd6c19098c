-- Looks, one posted thing after another; paused tasks that come up.
use Rattle.std.proofs.Common.{◌≡◌, ℕ, Bool, true, false, List, [], ◌∷◌, refl, ap, sym, ◌∙◌, map, drop, get_or, length, ◌<◌, ◌≤◌, ◌+◌}
use Rattle.std.specs.Prelude.{Option, Some, None}
use Rattle.std.proofs.lemmas.List.{drop_more}
use Rattle.rt_model.specs.Lists.{at, join, drop_number}
use Rattle.rt_model.specs.OneLog.{types}
use Rattle.rt_model.specs.Tree.{Types}
use Rattle.rt_model.specs.World as world
use Rattle.rt_model.specs.State as model
use Rattle.rt_model.specs.Next.{Work, look_on, look, found, paused, drop_then, drops, looked, at_rest}
use Rattle.rt_model.specs.Removal.{end_all, tell_all}
use Rattle.rt_model.specs.Commands.{post, end, tell}
use Rattle.rt_model.specs.Replay.{post_all}
use Rattle.run_records.specs.declared.rest.Scope.{Scope}
use Rattle.run_records.specs.declared.rows.Rows.{Rows}
use Rattle.run_state.specs.Mirror.{scopes_of}
use Rattle.rt_cells.specs.declared.sources.Source.{Source}
use Rattle.run_records.specs.Records.{source_of}
use Rattle.run_state.specs.Names.{posted_of}
use Rattle.run_state.specs.Looks.{looked_at}
use Rattle.run_state.specs.declared.names.Posted.{Posted}
use Rattle.run_state.proofs.Each.{drop-all}

module _ {K : Types} where
  -- the state with other marks and wakes
  abbrev pub with_posted : model.State K → List model.Posted → model.State K
  with_posted w ps = record w { posted = ps }

  -- a scope is posted by its number
  pub post_number : (w : model.State K) (a b : ℕ) → a ≡ b → post w (model.Mark a) ≡ post w (model.Mark b)
  post_number w a b is = ap (λ (n : ℕ). post w (model.Mark n)) is

  look_one : (p : model.Posted) (ps : List model.Posted) (w : model.State K) → look_on ps (looked_at w p) ≡ look_on (p ∷ ps) w
  look_one (model.Mark s) ps w = refl
  look_one (model.Woken t) ps w = refl

  pub look_step : (ps : List Posted) (i : ℕ) (d : Posted) (w v : model.State K) → i < length ps → v ≡ looked_at w (posted_of (get_or ps i d))
      → look_on (map posted_of (drop (i + 1) ps)) v ≡ look_on (map posted_of (drop i ps)) w
  look_step ps i d w v within is =
      ap (λ u. look_on (map posted_of (drop (i + 1) ps)) u) is
      ∙ look_one (posted_of (get_or ps i d)) (map posted_of (drop (i + 1) ps)) w
      ∙ ap (λ qs. look_on (map posted_of qs) w) (sym (drop_more ps i d within))

  pub look_end : (ps : List Posted) (i : ℕ) (w v : model.State K) → length ps ≤ i → look_on (map posted_of (drop i ps)) w ≡ v → w ≡ v
  look_end ps i w v end is = ap (λ qs. look_on (map posted_of qs) w) (sym (drop-all ps i end)) ∙ is

  -- one after another, tasks end and sources are told
  pub end_step : (ts : List ℕ) (i d : ℕ) (w v : model.State K) → i < length ts → v ≡ end w (get_or ts i d) → end_all v (drop (i + 1) ts) ≡ end_all w (drop i ts)
  end_step ts i d w v within is = ap (λ u. end_all u (drop (i + 1) ts)) is ∙ ap (end_all w) (sym (drop_more ts i d within))

  pub end_end : (ts : List ℕ) (i : ℕ) (w v : model.State K) → length ts ≤ i → end_all w (drop i ts) ≡ v → w ≡ v
  end_end ts i w v end is = ap (end_all w) (sym (drop-all ts i end)) ∙ is

  pub tell_step : (xs : List Source) (i : ℕ) (d : Source) (w v : model.State K) → i < length xs → v ≡ tell w (source_of (get_or xs i d))
      → tell_all v (map source_of (drop (i + 1) xs)) ≡ tell_all w (map source_of (drop i xs))
  tell_step xs i d w v within is = ap (λ u. tell_all u (map source_of (drop (i + 1) xs))) is ∙ ap (λ ys. tell_all w (map source_of ys)) (sym (drop_more xs i d within))

  pub tell_end : (xs : List Source) (i : ℕ) (w v : model.State K) → length xs ≤ i → tell_all w (map source_of (drop i xs)) ≡ v → w ≡ v
  tell_end xs i w v end is = ap (λ ys. tell_all w (map source_of ys)) (sym (drop-all xs i end)) ∙ is

  -- a paused task is dropped
  pub drops_step : (qs : List ℕ) (i d t : ℕ) (w v : model.State K) → i < length qs → Some t ≡ paused w (found w) → v ≡ record w { queued = drop_number w.queued t }
      → drops (drop (i + 1) qs) v ≡ drops (drop i qs) w
  drops_step qs i d t w v within up is =
      ap (λ u. drops (drop (i + 1) qs) u) is
      ∙ ap (λ o. drop_then (λ u. drops (drop (i + 1) qs) u) w o) up
      ∙ ap (λ ps. drops ps w) (sym (drop_more qs i d within))

  -- no paused task comes up any more
  pub drops_none : (qs : List ℕ) (w : model.State K) → None ≡ paused w (found w) → w ≡ drops qs w
  drops_none [] w none = refl
  drops_none (q ∷ qs) w none = ap (λ o. drop_then (λ u. drops qs u) w o) none

  pub drops_end : (qs : List ℕ) (i : ℕ) (w v : model.State K) → length qs ≤ i → drops (drop i qs) w ≡ v → w ≡ v
  drops_end qs i w v end is = ap (λ ps. drops ps w) (sym (drop-all qs i end)) ∙ is

  -- something comes up after the drops
  pub rests : (w v : model.State K) (x : Work) → v ≡ drops w.queued w → Some x ≡ found v → v ≡ at_rest w
  rests w v x is up = ap (λ o. looked v o) up ∙ ap (λ u. looked u (found u)) is

  -- a look, where nothing came up
  pub looks_again : (w u x : model.State K) → u ≡ look w → x ≡ drops u.queued u → x ≡ looked w None
  looks_again w u x seen end = end ∙ ap (λ (y : model.State K). drops y.queued y) seen

  -- nothing does, and a look follows
  pub rests_looked : (w v x : model.State K) → v ≡ drops w.queued w → None ≡ found v → x ≡ looked v None → x ≡ at_rest w
  rests_looked w v x is none again = again ∙ ap (λ o. looked v o) none ∙ ap (λ y. looked y (found y)) is

module _ {P C Q V H T E L : Type 0} where
  -- the same scope is posted
  pub post_same : (w : model.State (types C Q V H T E L)) (i : ℕ) (d : ℕ × Scope P C Q V H T E L) (a b : Rows P C Q V H T E L) → a ≡ b → post w (model.Mark (get_or a.table i d).0) ≡ post w (model.Mark (get_or b.table i d).0)
  post_same w i d a b is = ap (λ (r : Rows P C Q V H T E L). post w (model.Mark (get_or r.table i d).0)) is

  -- one more live scope is posted
  pub post_step : (es : List (ℕ × Scope P C Q V H T E L)) (i : ℕ) (d : ℕ × Scope P C Q V H T E L) (w v : model.State (types C Q V H T E L)) → i < length es → v ≡ post w (model.Mark (get_or es i d).0)
      → post_all (scopes_of (drop (i + 1) es)) v ≡ post_all (scopes_of (drop i es)) w
  post_step es i d w v within is = ap (post_all (scopes_of (drop (i + 1) es))) is ∙ ap (λ ys. post_all (scopes_of ys) w) (sym (drop_more es i d within))

  pub post_end : (es : List (ℕ × Scope P C Q V H T E L)) (i : ℕ) (w v : model.State (types C Q V H T E L)) → length es ≤ i → post_all (scopes_of (drop i es)) w ≡ v → w ≡ v
  post_end es i w v end is = ap (λ ys. post_all (scopes_of ys) w) (sym (drop-all es i end)) ∙ is
