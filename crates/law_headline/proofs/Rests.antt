-- The moves of one entry: its own, those that need no entry, and where a unit ends in them.
use Rattle.std.proofs.Common.{Bool, true, false, List, [], ◌∷◌, ◌≡◌, ◌⊎◌, inl, inr, refl, sym, ap, ◌∙◌, subst}
use Rattle.std.specs.Prelude.{Option, None}
use Rattle.rt_model.specs.Tree.{Types}
use Rattle.rt_model.specs.World.{Application}
use Rattle.rt_model.specs.State.{Fault, Item}
use Rattle.rt_model.specs.Replay.{Entry, Machine}
use Rattle.rt_model.specs.Causes.{Limits}
use Rattle.law_moves.specs.Moves.{Move, Silent, Closed, Logged, entries, Inside, moves_alone, IsSettled, IsSilent, IsClosed, IsLogged, Leads}

module _ {K : Types} (app : Application K) (limits : Limits) where
  same_entry_first : (d e : Entry) (ds es : List Entry) → d ∷ ds ≡ e ∷ es → d ≡ e
  same_entry_first d e ds es h = cc

  same_entries_rest : (d e : Entry) (ds es : List Entry) → d ∷ ds ≡ e ∷ es → ds ≡ es
  same_entries_rest d e ds es h = cc

  no_entry : (e : Entry) (es : List Entry) → e ∷ es ≡ [] → ⊥
  no_entry e es h = cc

  no_item : (item : Item K) (later : List (Item K)) → [] ≡ item ∷ later → ⊥
  no_item item later h = cc

  -- a machine that needs an entry doesn't move without one
  not_silent : (m u : Machine K) → IsSettled m → IsSilent app m u → ⊥
  not_silent m u s h =
      let absurdity : true ≡ false =
      sym (ap (λ (o : Option Fault). moves_alone o m.work m.unit) h.alive ∙ ap (λ (xs : List (Item K)). moves_alone None xs m.unit) h.next ∙ h.silent) ∙ s in
      cc

  not_closed : (m u : Machine K) → IsSettled m → IsClosed m u → ⊥
  not_closed m u s h =
      let absurdity : true ≡ false =
      sym (ap (λ (o : Option Fault). moves_alone o m.work m.unit) h.alive ∙ ap (λ (xs : List (Item K)). moves_alone None xs m.unit) h.idle ∙ ap (λ (b : Bool). moves_alone {K = K} None [] b) h.at_work) ∙ s in
      cc

  -- the machine after an entry, and the moves from there
  pub record Begins (m v : Machine K) (e : Entry) : Type 0 where
    pub middle : Machine K
    pub logged : IsLogged app limits m e middle
    pub rest : List Move
    pub leads : Leads app limits middle rest v
    pub none : entries rest ≡ []

  pub begins : (m v : Machine K) (moves : List Move) (e : Entry) → IsSettled m → Leads app limits m moves v → entries moves ≡ e ∷ [] → Begins m v e
  begins m v [] e s leads h = absurd (no_entry e [] (sym h))
  begins m v (Silent ∷ moves) e s leads h = absurd (not_silent m leads.0 s leads.1)
  begins m v (Closed ∷ moves) e s leads h = absurd (not_closed m leads.0 s leads.1)
  begins m v (Logged d ∷ moves) e s leads h =
      record {
        middle = leads.0;
        logged = subst (λ (x : Entry). IsLogged app limits m x leads.0) (same_entry_first d e (entries moves) [] h) leads.1;
        rest = moves;
        leads = leads.2;
        none = same_entries_rest d e (entries moves) [] h;
      }

  -- a unit is served, and ends
  pub record Finishes (m v : Machine K) : Type 0 where
    pub served : Machine K
    pub moves : List Move
    pub leads : Leads app limits m moves served
    pub inside : Inside moves
    pub closed : IsClosed served v

  -- moves without an entry only serve open work, or end the unit after that
  pub rests : (m v : Machine K) (moves : List Move) → Leads app limits m moves v → entries moves ≡ [] → Inside moves ⊎ Finishes m v
  rests m v [] leads h = inl tt
  rests m v (Silent ∷ moves) leads h =
      elim (rests leads.0 v moves leads.2 h) [
        | inl inside ↦ inl inside
        | inr f ↦ inr (record { served = f.served; moves = Silent ∷ f.moves; leads = (leads.0, leads.1, f.leads); inside = f.inside; closed = f.closed })
      ]
  rests m v (Closed ∷ []) leads h =
      let same : v ≡ leads.0 = leads.2 in
      inr (record { served = m; moves = []; leads = refl; inside = tt; closed = subst (λ (x : Machine K). IsClosed m x) (sym same) leads.1 })
  rests m v (Closed ∷ Silent ∷ moves) leads h =
      let c : IsClosed m leads.0 = leads.1 in
      let n : IsSilent app leads.0 (leads.2).0 = (leads.2).1 in
      absurd (no_item n.item n.later (sym (ap (λ (x : Machine K). x.work) c.gives ∙ c.idle) ∙ n.next))
  rests m v (Closed ∷ Closed ∷ moves) leads h =
      let c : IsClosed m leads.0 = leads.1 in
      let n : IsClosed leads.0 (leads.2).0 = (leads.2).1 in
      let absurdity : false ≡ true = sym (ap (λ (x : Machine K). x.unit) c.gives) ∙ n.at_work in
      cc
  rests m v (Closed ∷ Logged e ∷ moves) leads h = absurd (no_entry e (entries moves) h)
  rests m v (Logged e ∷ moves) leads h = absurd (no_entry e (entries moves) h)

  -- where an entry is needed there is none of them
  pub no_moves : (m v : Machine K) (moves : List Move) → IsSettled m → Leads app limits m moves v → entries moves ≡ [] → v ≡ m
  no_moves m v [] s leads h = leads
  no_moves m v (Silent ∷ moves) s leads h = absurd (not_silent m leads.0 s leads.1)
  no_moves m v (Closed ∷ moves) s leads h = absurd (not_closed m leads.0 s leads.1)
  no_moves m v (Logged e ∷ moves) s leads h = absurd (no_entry e (entries moves) h)
