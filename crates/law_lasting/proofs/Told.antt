-- What is told and looked at leaves cells, scopes, reactive contexts and the next numbers as they were.
use Rattle.std.proofs.Common.{Bool, true, false, ℕ, List, [], ◌∷◌, ◌≡◌, ◌&&◌, not, refl, ap, ◌∙◌}
use Rattle.std.specs.Prelude.{Some, if◌then◌else◌, is_some}
use Rattle.rt_model.specs.Lists.{at, put, join}
use Rattle.rt_model.specs.Tree.{Types}
use Rattle.rt_model.specs.World.{Source, Error}
use Rattle.rt_model.specs.State.{Posted, Mark, Woken, TaskRow, State, is_live}
use Rattle.rt_model.specs.Commands.{post, tell, activated}
use Rattle.rt_model.specs.Next.{look, look_on}
use Rattle.rt_model.specs.Run.{called_where}
use Rattle.rt_model.specs.Removal.{without_scope, gone, tell_all, cell_sources, cells_in, read_contexts}
use Rattle.law_behavior.proofs.Readers.{Posts, post_posts, tell_posts}

module _ {K : Types} where
  -- cells, scopes, reactive contexts and next numbers are as they were
  pub record Same (w v : State K) : Type 0 where
    pub cells : v.cells ≡ w.cells
    pub scopes : v.scopes ≡ w.scopes
    pub next : v.next ≡ w.next
    pub contexts : v.contexts ≡ w.contexts

  same_state : (w : State K) → Same w w
  same_state w = record { cells = refl; scopes = refl; next = refl; contexts = refl }

  same_on : (w v u : State K) → Same w v → Same v u → Same w u
  same_on w v u f g = record { cells = g.cells ∙ f.cells; scopes = g.scopes ∙ f.scopes; next = g.next ∙ f.next; contexts = g.contexts ∙ f.contexts }

  pub same_either : (w x y : State K) (b : Bool) → Same w x → Same w y → Same w (if b then x else y)
  same_either w x y true f g = f
  same_either w x y false f g = g

  -- a post
  pub posts_same : (w v : State K) → Posts w v → Same w v
  posts_same w v f =
      record { cells = ap (λ (x : State K). x.cells) f.alike; scopes = ap (λ (x : State K). x.scopes) f.alike; next = ap (λ (x : State K). x.next) f.alike; contexts = ap (λ (x : State K). x.contexts) f.alike }

  -- the readers of a source told
  pub tell_same : (w : State K) (i : Source) → Same w (tell w i)
  tell_same w i = posts_same w (tell w i) (tell_posts w i)

  tells_same : (xs : List Source) (w : State K) → Same w (tell_all w xs)
  tells_same [] w = same_state w
  tells_same (x ∷ xs) w = same_on w (tell w x) (tell_all (tell w x) xs) (tell_same w x) (tells_same xs (tell w x))

  looks_same : (ps : List Posted) (w : State K) → Same w (look_on ps w)
  looks_same [] w = same_state w
  looks_same (Mark s ∷ ps) w =
      let v : State K = record w { seen = join w.seen s } in
      let u : State K = if is_live w s then v else w in
      same_on w u (look_on ps u) (same_either w v w (is_live w s) (record { cells = refl; scopes = refl; next = refl; contexts = refl }) (same_state w)) (looks_same ps u)
  looks_same (Woken t ∷ ps) w =
      let v : State K = record w { queued = join w.queued t } in
      let u : State K = if is_some (at w.tasks t) then v else w in
      same_on w u (look_on ps u) (same_either w v w (is_some (at w.tasks t)) (record { cells = refl; scopes = refl; next = refl; contexts = refl }) (same_state w)) (looks_same ps u)

  -- a look
  pub look_same : (w : State K) → Same w (look w)
  look_same w =
      let v : State K = record w { posted = [] } in same_on w v (look w) (record { cells = refl; scopes = refl; next = refl; contexts = refl }) (looks_same w.posted v)

  -- a call that is counted
  pub calls_same : (b : Bool) (w : State K) → Same w (called_where b w)
  calls_same true w = record { cells = refl; scopes = refl; next = refl; contexts = refl }
  calls_same false w = same_state w

  -- a task that is paused or resumed
  pub activated_same : (w : State K) (t : ℕ) (active : Bool) (x : TaskRow K) → Same w (activated w t active (Some x))
  activated_same w t active x =
      let v : State K = record w { tasks = put w.tasks t (record x { active = active }) } in
      let now : Same w v = record { cells = refl; scopes = refl; next = refl; contexts = refl } in
      same_either w (post v (Woken t)) v (active && not x.active) (same_on w v (post v (Woken t)) now (posts_same v (post v (Woken t)) (post_posts v (Woken t)))) now

  -- a scope that goes, beyond its own rows
  pub gone_same : (w : State K) (s : ℕ) → Same (without_scope w s) (gone w s)
  gone_same w s =
      let v : State K = without_scope w s in
      let u : State K = tell_all v (cell_sources (cells_in s w.cells)) in
      same_on v u (gone w s) (tells_same (cell_sources (cells_in s w.cells)) v) (tells_same (Error s ∷ read_contexts u s) u)
