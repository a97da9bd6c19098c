-- What comes to rest, what takes in an input and what a listener's call leaves have the scopes and the owners of cells that were there.
use Rattle.std.proofs.Common.{ℕ, ◌+◌, Bool, true, false, List, [], ◌∷◌, ◌++◌, ◌≡◌, refl, ap, ◌∙◌}
use Rattle.std.specs.Prelude.{Option, Some, None, if◌then◌else◌, is_some}
use Rattle.rt_model.specs.Lists.{at, put, drop_number, join}
use Rattle.rt_model.specs.Tree.{Types}
use Rattle.rt_model.specs.World.{Source, Cell, Error, Event, Command, Write, World, Application}
use Rattle.rt_model.specs.State.{Posted, Mark, Woken, CellRow, Scope, State, is_live, world_of}
use Rattle.rt_model.specs.Commands.{post, tell, written_at, write_cell, commands}
use Rattle.rt_model.specs.Next.{Work, look, look_on, found, paused, drop_then, drops, looked, at_rest}
use Rattle.rt_model.specs.Run.{with_next, called_once}
use Rattle.rt_model.specs.Removal.{without_scope, gone, tell_all, cell_sources, cells_in, read_contexts}
use Rattle.rt_model.specs.Heard.{Listener}
use Rattle.rt_model.specs.Replay.{Input, EventAt, WakeOf, WriteOf, MarkOf, Drain, Post, MarkScope, WakeTask, AllDirty, Message, Machine, waiting, post_all, post_message, post_messages, looked_where_quiet, taken_in, take_next, heard_event}
use Rattle.law_behavior.proofs.Readers.{Posts, post_posts, tell_posts}
use Rattle.law_pages.proofs.Listening.{commands_with, one_later, listeners_update, reply_reads}
use Rattle.law_reduce.proofs.Owners.{owners_of, write_owners, called_on, heard_is, heard_owners}
use Rattle.author_programs.specs.Cells.{Keeping}
use Rattle.author_programs.specs.Pages.{Pages, meaning_of_pages}

module _ {K : Types} where
  -- the scopes are as they were, the owners of cells, and the next number of a scope
  pub record Rests (w v : State K) : Type 0 where
    pub scopes : v.scopes ≡ w.scopes
    pub owners : owners_of v ≡ owners_of w
    pub next : v.next_scope ≡ w.next_scope

  rests_refl : (w : State K) → Rests w w
  rests_refl w = record { scopes = refl; owners = refl; next = refl }

  pub rests_then : (w v u : State K) → Rests w v → Rests v u → Rests w u
  rests_then w v u f g = record { scopes = g.scopes ∙ f.scopes; owners = g.owners ∙ f.owners; next = g.next ∙ f.next }

  rests_either : (w x y : State K) (b : Bool) → Rests w x → Rests w y → Rests w (if b then x else y)
  rests_either w x y true f g = f
  rests_either w x y false f g = g

  posts_rest : (w v : State K) → Posts w v → Rests w v
  posts_rest w v f =
      record {
        scopes = ap (λ (x : State K). x.scopes) f.alike;
        owners = ap (λ (x : State K). owners_of x) f.alike;
        next = ap (λ (x : State K). x.next_scope) f.alike;
      }

  post_rests : (w : State K) (p : Posted) → Rests w (post w p)
  post_rests w p = posts_rest w (post w p) (post_posts w p)

  tell_rests : (w : State K) (i : Source) → Rests w (tell w i)
  tell_rests w i = posts_rest w (tell w i) (tell_posts w i)

  -- a look

  looks_rest : (ps : List Posted) (w : State K) → Rests w (look_on ps w)
  looks_rest [] w = rests_refl w
  looks_rest (Mark s ∷ ps) w =
      let v : State K = record w { seen = join w.seen s } in
      let u : State K = if is_live w s then v else w in
      rests_then w u (look_on ps u) (rests_either w v w (is_live w s) (record { scopes = refl; owners = refl; next = refl }) (rests_refl w)) (looks_rest ps u)
  looks_rest (Woken t ∷ ps) w =
      let v : State K = record w { queued = join w.queued t } in
      let u : State K = if is_some (at w.tasks t) then v else w in
      rests_then w u (look_on ps u) (rests_either w v w (is_some (at w.tasks t)) (record { scopes = refl; owners = refl; next = refl }) (rests_refl w)) (looks_rest ps u)

  pub look_rests : (w : State K) → Rests w (look w)
  look_rests w = let v : State K = record w { posted = [] } in rests_then w v (look w) (record { scopes = refl; owners = refl; next = refl }) (looks_rest w.posted v)

  -- the test for what is next

  drop_rests : (go : State K → State K) (w : State K) (o : Option ℕ) → ((v : State K) → Rests v (go v)) → Rests w (drop_then go w o)
  drop_rests go w None g = rests_refl w
  drop_rests go w (Some t) g =
      let v : State K = record w { queued = drop_number w.queued t } in rests_then w v (go v) (record { scopes = refl; owners = refl; next = refl }) (g v)

  drops_rest : (qs : List ℕ) (w : State K) → Rests w (drops qs w)
  drops_rest [] w = rests_refl w
  drops_rest (q ∷ qs) w = drop_rests (λ v. drops qs v) w (paused w (found w)) (λ v. drops_rest qs v)

  looked_rests : (w : State K) (o : Option Work) → Rests w (looked w o)
  looked_rests w (Some x) = rests_refl w
  looked_rests w None = rests_then w (look w) (drops (look w).queued (look w)) (look_rests w) (drops_rest (look w).queued (look w))

  pub rest_rests : (w : State K) → Rests w (at_rest w)
  rest_rests w = let v : State K = drops w.queued w in rests_then w v (looked v (found v)) (drops_rest w.queued w) (looked_rests v (found v))

  -- inputs

  all_rest : (es : List (ℕ × Scope K)) (w : State K) → Rests w (post_all es w)
  all_rest [] w = rests_refl w
  all_rest (e ∷ es) w = rests_then w (post w (Mark e.0)) (post_all es (post w (Mark e.0))) (post_rests w (Mark e.0)) (all_rest es (post w (Mark e.0)))

  message_rests : (w : State K) (p : Post) → Rests w (post_message w p)
  message_rests w (MarkScope s) = post_rests w (Mark s)
  message_rests w (WakeTask t) = post_rests w (Woken t)
  message_rests w AllDirty = all_rest w.scopes w

  messages_rest : (ms : List Message) (w : State K) → Rests w (post_messages w ms)
  messages_rest [] w = rests_refl w
  messages_rest (m ∷ ms) w = rests_then w (post_message w m.what) (post_messages (post_message w m.what) ms) (message_rests w m.what) (messages_rest ms (post_message w m.what))

  written_scopes : (w : State K) (n : ℕ) (v : K.Value) (o : Option (CellRow K)) → (written_at w n v o).scopes ≡ w.scopes
  written_scopes w n v None = refl
  written_scopes w n v (Some old) = (tell_rests (record w { cells = put w.cells n (record old { value = v }) }) (Cell n)).scopes

  written_next : (w : State K) (n : ℕ) (v : K.Value) (o : Option (CellRow K)) → (written_at w n v o).next_scope ≡ w.next_scope
  written_next w n v None = refl
  written_next w n v (Some old) = (tell_rests (record w { cells = put w.cells n (record old { value = v }) }) (Cell n)).next

  write_rests : (w : State K) (n : ℕ) (v : K.Value) → Rests w (write_cell w n v)
  write_rests w n v = record { scopes = written_scopes w n v (at w.cells n); owners = write_owners w n v; next = written_next w n v (at w.cells n) }

  taken_rests : (m : Machine K) (i : Input K) → Rests m.state (taken_in m i).state
  taken_rests m (EventAt name payload element bubbles) = record { scopes = refl; owners = refl; next = refl }
  taken_rests m (WakeOf t) = post_rests m.state (Woken t)
  taken_rests m (WriteOf n v) = write_rests m.state n v
  taken_rests m (MarkOf s) = post_rests m.state (Mark s)
  taken_rests m (Drain messages) = messages_rest messages m.state

  quiet_rests : (m : Machine K) (ls : List (Listener K)) → Rests m.state (looked_where_quiet m ls).state
  quiet_rests m [] = look_rests m.state
  quiet_rests m (l ∷ ls) = rests_refl m.state

  pub take_rests : (m : Machine K) (i : Input K) (more : List (Input K)) → Rests m.state (take_next m (i ∷ more)).state
  take_rests m i more =
      let u : Machine K = record m { inputs = more; taken = m.taken + 1; units = 0; default_enabled = true; listeners = [] } in
      let v : Machine K = taken_in u i in
      rests_then m.state v.state (looked_where_quiet v (waiting v)).state (taken_rests u i) (quiet_rests v (waiting v))

  -- a scope that goes
  tells_next : (xs : List Source) (w : State K) → (tell_all w xs).next_scope ≡ w.next_scope
  tells_next [] w = refl
  tells_next (x ∷ xs) w = tells_next xs (tell w x) ∙ (tell_rests w x).next

  pub gone_next : (w : State K) (s : ℕ) → (gone w s).next_scope ≡ w.next_scope
  gone_next w s =
      let v : State K = without_scope w s in
      let u : State K = tell_all v (cell_sources (cells_in s w.cells)) in
      tells_next (Error s ∷ read_contexts u s) u ∙ tells_next (cell_sources (cells_in s w.cells)) v

-- a listener's call
module _ {K : Types} (k : Keeping K.Value) (a : Pages K) where
  abbrev app : Application K
  app = meaning_of_pages k a

  writes_next : (s : ℕ) (w : State K) (cs : List (Command K)) (es : List (ℕ × K.Value)) → (commands app w s None (commands_with cs es)).next_scope ≡ (commands app w s None cs).next_scope
  writes_next s w cs [] = refl
  writes_next s w cs (e ∷ es) =
      writes_next s w (cs ++ Write e.0 e.1 ∷ []) es
      ∙ ap (λ (x : State K). x.next_scope) (one_later app s w cs (Write e.0 e.1))
      ∙ (write_rests (commands app w s None cs) e.0 e.1).next

  pub heard_rests : (m : Machine K) (l : Listener K) (ls : List (Listener K)) (o : Option (Event K)) → Rests m.state (heard_event app m l ls o).state
  heard_rests m l ls None = rests_refl m.state
  heard_rests m l ls (Some e) =
      let world : World K = world_of m.state l.origin None false in
      let u : Machine K = called_on k a m l ls e in
      record {
        scopes = (listeners_update K k a m l ls e).scopes;
        owners = heard_owners k a m l ls e;
        next =
            ap (λ (x : Machine K). x.state.next_scope) (heard_is k a m l ls e)
            ∙ (quiet_rests u (waiting u)).next
            ∙ writes_next l.origin (with_next (called_once m.state) m.state.next) [] ((a.reply l.handler e).writes (reply_reads world (a.reply l.handler e)));
      }
