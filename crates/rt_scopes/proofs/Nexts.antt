-- A state with other numbers to come: what it says of what is entered, of places and of readers has one proof.
use Rattle.std.proofs.Common.{◌≡◌, sym, subst}
use Rattle.std.proofs.Math.Logic.{∥∥₁_prop}
use Rattle.rt_lemmas.proofs.Lists.{one_proof}
use Rattle.run_records.specs.Kept.{each, scope_of}
use Rattle.run_records.specs.declared.world.Firsts.{Firsts}
use Rattle.run_named.specs.Standings.{IsPlaced}
use Rattle.run_state.specs.Effects.{AreListed}
use Rattle.run_state.specs.Heights.{heights_of, task_scopes}
use Rattle.run_state.specs.Mounts.{IsWaiting, ways_of}
use Rattle.run_state.specs.Readers.{AreHeard, AreKnown}
use Rattle.run_state.specs.declared.state.State.{State}
use Rattle.run_state.proofs.Unchanged.{one_heard, one_known, one_listed}

module _ {P C Q V H T E L : Type 0} where
  -- the numbers to come are all that changes
  pub next_put : (d : State P C Q V H T E L) (next : Firsts) (h : heights_of (d.rows).table ≡ (d.owed).scopes) (k : task_scopes d.tasks ≡ (d.owed).tasks) (w : ∥ IsWaiting (ways_of (d.rows).table) d.fresh d.hidden d.next_scope ∥₁) (p : ∥ IsPlaced (each scope_of (d.rows).table) d.places ∥₁)
      (r : AreKnown (each scope_of (d.rows).table) (d.cells).reads) (e : AreHeard (d.cells).contexts d.read_order (d.cells).reads) (a : AreListed (each scope_of (d.rows).table) d.effects d.held)
      → record d { next = next; entered = h; known = k; waiting = w; placed = p; readers = r; heard = e; listed = a } ≡ record d { next = next }
  next_put d next h k w p r e a =
      λ i.
      record d {
        next = next;
        entered = one_proof (heights_of (d.rows).table) (d.owed).scopes h d.entered i;
        known = one_proof (task_scopes d.tasks) (d.owed).tasks k d.known i;
        waiting = ∥∥₁_prop w d.waiting i;
        placed = ∥∥₁_prop p d.placed i;
        readers = one_known (each scope_of (d.rows).table) (d.cells).reads r d.readers i;
        heard = one_heard (d.cells).contexts d.read_order (d.cells).reads e d.heard i;
        listed = one_listed (each scope_of (d.rows).table) d.effects d.held a d.listed i;
      }

  -- where a refusal left a state as it was given, with other numbers to come, those that it had come back
  pub next_back : (d m : State P C Q V H T E L) (next : Firsts) (back : Firsts → Firsts)
      (h : heights_of (d.rows).table ≡ (d.owed).scopes) (k : task_scopes d.tasks ≡ (d.owed).tasks) (w : ∥ IsWaiting (ways_of (d.rows).table) d.fresh d.hidden d.next_scope ∥₁) (p : ∥ IsPlaced (each scope_of (d.rows).table) d.places ∥₁) (r : AreKnown (each scope_of (d.rows).table) (d.cells).reads) (e : AreHeard (d.cells).contexts d.read_order (d.cells).reads) (a : AreListed (each scope_of (d.rows).table) d.effects d.held)
      (i : heights_of (m.rows).table ≡ (m.owed).scopes) (j : task_scopes m.tasks ≡ (m.owed).tasks) (v : ∥ IsWaiting (ways_of (m.rows).table) m.fresh m.hidden m.next_scope ∥₁) (q : ∥ IsPlaced (each scope_of (m.rows).table) m.places ∥₁) (s : AreKnown (each scope_of (m.rows).table) (m.cells).reads) (f : AreHeard (m.cells).contexts m.read_order (m.cells).reads) (b : AreListed (each scope_of (m.rows).table) m.effects m.held)
      → m ≡ record d { next = next; entered = h; known = k; waiting = w; placed = p; readers = r; heard = e; listed = a } → back next ≡ d.next → record m { next = back m.next; entered = i; known = j; waiting = v; placed = q; readers = s; heard = f; listed = b } ≡ d
  next_back d m next back h k w p r e a i j v q s f b left same =
      subst
      (
      λ (x : State P C Q V H T E L).
      (i : heights_of (x.rows).table ≡ (x.owed).scopes) (j : task_scopes x.tasks ≡ (x.owed).tasks) (v : ∥ IsWaiting (ways_of (x.rows).table) x.fresh x.hidden x.next_scope ∥₁) (q : ∥ IsPlaced (each scope_of (x.rows).table) x.places ∥₁) (s : AreKnown (each scope_of (x.rows).table) (x.cells).reads) (f : AreHeard (x.cells).contexts x.read_order (x.cells).reads) (b : AreListed (each scope_of (x.rows).table) x.effects x.held)
      → record x { next = back x.next; entered = i; known = j; waiting = v; placed = q; readers = s; heard = f; listed = b } ≡ d
      )
      (sym left)
      (
      λ i j v q s f b n.
      record d {
        next = same n;
        entered = one_proof (heights_of (d.rows).table) (d.owed).scopes i d.entered n;
        known = one_proof (task_scopes d.tasks) (d.owed).tasks j d.known n;
        waiting = ∥∥₁_prop v d.waiting n;
        placed = ∥∥₁_prop q d.placed n;
        readers = one_known (each scope_of (d.rows).table) (d.cells).reads s d.readers n;
        heard = one_heard (d.cells).contexts d.read_order (d.cells).reads f d.heard n;
        listed = one_listed (each scope_of (d.rows).table) d.effects d.held b d.listed n;
      }
      )
      i j v q s f b
