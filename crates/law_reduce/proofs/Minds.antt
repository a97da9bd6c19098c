-- What writes leave of what scopes have read: a cell keeps its row, or who read it is marked.
use Rattle.std.proofs.Common.{ℕ, true, false, List, [], ◌∷◌, ◌++◌, ◌≡◌, ◌⊎◌, inl, inr, refl, sym, ap, ◌∙◌, subst, nat_eq}
use Rattle.std.proofs.lemmas.Bool.{eqb-true}
use Rattle.std.specs.Prelude.{Option, Some, None}
use Rattle.rt_model.specs.Lists.{at, put}
use Rattle.rt_model.specs.Tree.{Types}
use Rattle.rt_model.specs.World.{Cell, Event, Command, Write, World, Application}
use Rattle.rt_model.specs.State.{Posted, Mark, Woken, Scope, CellRow, State, world_of}
use Rattle.rt_model.specs.Commands.{post, names_source, written_at, write_cell, commands}
use Rattle.rt_model.specs.Next.{look}
use Rattle.rt_model.specs.Run.{with_next, called_once}
use Rattle.rt_model.specs.Heard.{Listener}
use Rattle.rt_model.specs.Replay.{Post, MarkScope, WakeTask, AllDirty, Message, Machine, post_all, post_message, post_messages, waiting, looked_where_quiet, heard_event}
use Rattle.rt_model.proofs.Maps.{by_test, at_put_other}
use Rattle.law_behavior.specs.Marking.{IsPosted}
use Rattle.law_behavior.specs.Owed.{OwesRun}
use Rattle.law_behavior.proofs.Readers.{post_posts, writes_post_readers}
use Rattle.law_behavior.proofs.Stays.{post_stays, written_stays}
use Rattle.law_behavior.proofs.Looking.{look_stays}
use Rattle.author_programs.specs.Cells.{Keeping}
use Rattle.author_programs.specs.Pages.{Pages, meaning_of_pages}
use Rattle.law_lasting.proofs.Told.{posts_same, tell_same, look_same}
use Rattle.law_pages.proofs.Listening.{commands_with, one_later, reply_reads}
use Rattle.law_reduce.proofs.Owners.{called_on, heard_is}
use Rattle.law_reduce.proofs.Hooked.{posts_calls, tell_calls, looks_calls}

module _ {K : Types} where
  -- no scope comes or goes, marks stay, and a cell that a scope has read keeps its row, or the scope is marked
  pub record Minds (w v : State K) : Type 0 where
    pub scopes : v.scopes ≡ w.scopes
    pub calls : v.last_calls ≡ w.last_calls
    pub marks : (s : ℕ) → OwesRun w s → OwesRun v s
    pub told : (s : ℕ) (x : Scope K) (n : ℕ) (row : CellRow K) → at w.scopes s ≡ Some x → names_source x.reads (Cell n) ≡ true → at w.cells n ≡ Some row
        → (at v.cells n ≡ Some row) ⊎ OwesRun v s

  pub minds_refl : (w : State K) → Minds w w
  minds_refl w = record { scopes = refl; calls = refl; marks = λ s h. h; told = λ s x n row there reads cell. inl cell }

  pub minds_then : (u v w : State K) → Minds u v → Minds v w → Minds u w
  minds_then u v w f g =
      record {
        scopes = g.scopes ∙ f.scopes;
        calls = g.calls ∙ f.calls;
        marks = λ s h. g.marks s (f.marks s h);
        told =
            λ s x n row there reads cell.
            elim (f.told s x n row there reads cell) [
              | inl c ↦ g.told s x n row (ap (λ (es : List (ℕ × Scope K)). at es s) f.scopes ∙ there) reads c
              | inr m ↦ inr (g.marks s m)
            ];
      }

  -- where cells are as they were
  pub minds_by : (w v : State K) → v.scopes ≡ w.scopes → v.last_calls ≡ w.last_calls → v.cells ≡ w.cells → ((s : ℕ) → OwesRun w s → OwesRun v s) → Minds w v
  minds_by w v scopes calls cells marks =
      record { scopes = scopes; calls = calls; marks = marks; told = λ s x n row there reads cell. inl (ap (λ (es : List (ℕ × CellRow K)). at es n) cells ∙ cell) }

  -- a write
  pub minds_write : (w : State K) (n : ℕ) (v : K.Value) → Minds w (write_cell w n v)
  minds_write w n v = on (at w.cells n) refl
    where
      on : (o : Option (CellRow K)) → at w.cells n ≡ o → Minds w (written_at w n v o)
      on None e = minds_refl w
      on (Some old) e =
          let u : State K = record w { cells = put w.cells n (record old { value = v }) } in
          record {
            scopes = (tell_same u (Cell n)).scopes;
            calls = tell_calls u (Cell n);
            marks = λ s h. (written_stays w n v (Some old)).runs s refl h;
            told =
                λ s x m row there reads cell.
                by_test (nat_eq n m)
                (
                λ q.
                let named : names_source x.reads (Cell n) ≡ true = ap (λ (c : ℕ). names_source x.reads (Cell c)) (eqb-true n m q) ∙ reads in
                inr
                (
                λ live.
                inl
                (subst (λ (z : State K). IsPosted z.posted (Mark s)) (ap (λ (o : Option (CellRow K)). written_at w n v o) e)
                (((writes_post_readers K w n old e).0 v).scopes s x there named))
                )
                )
                (λ q. inl (ap (λ (es : List (ℕ × CellRow K)). at es m) (tell_same u (Cell n)).cells ∙ at_put_other w.cells n (record old { value = v }) m q ∙ cell));
          }

  -- a look
  pub minds_look : (w : State K) → Minds w (look w)
  minds_look w = minds_by w (look w) (look_same w).scopes (looks_calls w.posted (record w { posted = [] })) (look_same w).cells (λ s h. (look_stays w).runs s refl h)

  pub looked_minds : (m : Machine K) (ls : List (Listener K)) → Minds m.state (looked_where_quiet m ls).state
  looked_minds m [] = minds_look m.state
  looked_minds m (l ∷ ls) = minds_refl m.state

  -- posts
  pub minds_post : (w : State K) (p : Posted) → Minds w (post w p)
  minds_post w p =
      let same = posts_same w (post w p) (post_posts w p) in
      minds_by w (post w p) same.scopes (posts_calls w (post w p) (post_posts w p)) same.cells (λ s h. (post_stays w p).runs s refl h)

  minds_all : (es : List (ℕ × Scope K)) (w : State K) → Minds w (post_all es w)
  minds_all [] w = minds_refl w
  minds_all (e ∷ es) w = minds_then w (post w (Mark e.0)) (post_all es (post w (Mark e.0))) (minds_post w (Mark e.0)) (minds_all es (post w (Mark e.0)))

  minds_message : (w : State K) (what : Post) → Minds w (post_message w what)
  minds_message w (MarkScope s) = minds_post w (Mark s)
  minds_message w (WakeTask t) = minds_post w (Woken t)
  minds_message w AllDirty = minds_all w.scopes w

  pub minds_messages : (w : State K) (ms : List Message) → Minds w (post_messages w ms)
  minds_messages w [] = minds_refl w
  minds_messages w (m ∷ ms) = minds_then w (post_message w m.what) (post_messages (post_message w m.what) ms) (minds_message w m.what) (minds_messages (post_message w m.what) ms)

  -- writes in turn
  minds_writes : (app : Application K) (s : ℕ) (w : State K) (cs : List (Command K)) (es : List (ℕ × K.Value)) → Minds (commands app w s None cs) (commands app w s None (commands_with cs es))
  minds_writes app s w cs [] = minds_refl (commands app w s None cs)
  minds_writes app s w cs (e ∷ es) =
      let u : State K = commands app w s None cs in
      let more : List (Command K) = cs ++ Write e.0 e.1 ∷ [] in
      minds_then u (commands app w s None more) (commands app w s None (commands_with more es))
      (subst (λ (x : State K). Minds u x) (sym (one_later app s w cs (Write e.0 e.1))) (minds_write u e.0 e.1))
      (minds_writes app s w more es)

  -- a listener's call
  pub heard_minds : (k : Keeping K.Value) (a : Pages K) (m : Machine K) (l : Listener K) (ls : List (Listener K)) (e : Event K) → Minds m.state (heard_event (meaning_of_pages k a) m l ls (Some e)).state
  heard_minds k a m l ls e =
      let app : Application K = meaning_of_pages k a in
      let world : World K = world_of m.state l.origin None false in
      let ws : List (ℕ × K.Value) = (a.reply l.handler e).writes (reply_reads world (a.reply l.handler e)) in
      let n : State K = with_next (called_once m.state) m.state.next in
      let x : Machine K = called_on k a m l ls e in
      subst (λ (y : Machine K). Minds m.state y.state) (sym (heard_is k a m l ls e))
      (
      minds_then m.state x.state (looked_where_quiet x (waiting x)).state
      (minds_then m.state n x.state (minds_by m.state n refl refl refl (λ s h. h)) (minds_writes app l.origin n [] ws))
      (looked_minds x (waiting x))
      )
