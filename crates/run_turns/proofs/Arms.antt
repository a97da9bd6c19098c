-- What a change of the state came to, by other names.
use Rattle.std.proofs.Common.{ℕ, Bool, true, false, List, [], ◌∷◌, ◌++◌, ◌≡◌, refl, sym, ap, ◌∙◌, subst, map, nat_eq, Result, Ok, Err}
use Rattle.std.proofs.lemmas.List.{map-append, append-nil}
use Rattle.std.specs.Prelude.{Option, Some, None, is_some, IfOk}
use Rattle.rt_model.proofs.Maps.{pick_true, pick_false}
use Rattle.rt_model.specs.Lists.{at}
use Rattle.rt_model.specs.Tree.{Types, Place, VComponent}
use Rattle.rt_model.specs.World.{Application, Scopes, at_end}
use Rattle.rt_model.specs.State.{SideName, State, Scope, Item, Drop, Outcome, Done, Cut, IdsExhausted, is_live}
use Rattle.rt_model.specs.Run.{run}
use Rattle.rt_model.specs.Removal.{next_removed, removed}
use Rattle.rt_model.specs.Replay.{Entry, Kept, Fed, Removed, keeps, with_props, with_new_scope, made, made_in}
use Rattle.run_reports.specs.Seen.{entry_of as seen}
use Rattle.run_reports.specs.declared.entry.Entry.{Entry as CodeEntry}
use Rattle.rt_scopes.specs.Outcomes.{CutBy, Came}
use Rattle.run_state.specs.Names.{fault_of}
use Rattle.run_state.specs.declared.names.Stop.{Stop}
use Rattle.run_state.specs.declared.names.Stop.TheVariants as stops
use Rattle.run_state.specs.Made.{IsMade}
use Rattle.run_state.specs.declared.names.Cause.TheVariants.{the_data as CodeCause}
use Rattle.law_moves.specs.Turn.{again, and_then, turn_of}
use Rattle.run_turns.specs.Fed.{fed_entries, fed_outcome}
use Rattle.run_turns.specs.Notes.{NotedBy}

-- a copy that was made is the value itself
pub copied : {A E : Type 0} (result : Result A E) (x y : A) → IfOk result (λ copy. copy ≡ x) → result ≡ Ok y → y ≡ x
copied result x y means is = subst (λ r. IfOk r (λ copy. copy ≡ x)) is means

module _ {K : Types} where
  -- the same change by another name
  pub came_as : {A : Type 0} (o p : Outcome K) (v : State K) (items : A → List (Item K)) (result : Result A Stop) → p ≡ o → Came o v items result → Came p v items result
  came_as o p v items result same came = subst (λ (x : Outcome K). Came x v items result) (sym same) came

  pub cut_as : (o p : Outcome K) (v : State K) (stop : Stop) → p ≡ o → CutBy o v stop → CutBy p v stop
  cut_as o p v stop same cut = subst (λ (x : Outcome K). CutBy x v stop) (sym same) cut

  -- by each fault that it may be
  pub cut_by : (o : Outcome K) (v : State K) (stop : Stop) → ((what : CodeCause) → stop ≡ stops.Fault what → o ≡ Cut v (fault_of what)) → CutBy o v stop
  cut_by o v stops.OutOfMemory h = tt
  cut_by o v (stops.Fault what) h = h what refl

  -- work after a change's own
  pub then_cut : (o : Outcome K) (more : List (Item K)) (v : State K) (stop : Stop) → CutBy o v stop → CutBy (and_then o more) v stop
  then_cut o more v stops.OutOfMemory cut = tt
  then_cut o more v (stops.Fault what) cut = ap (λ x. and_then x more) cut

  pub then_done : (o : Outcome K) (v : State K) (more : List (Item K)) → o ≡ Done v [] → and_then o more ≡ Done v more
  then_done o v more done = ap (λ x. and_then x more) done

module _ {K : Types} (app : Application K) where
  -- a child that keeps its output, and one that doesn't
  pub handed_kept : (w : State K) (t : ℕ) (c : VComponent K) (kept : Bool) → kept ≡ true → fed_outcome app w c (Some (t, kept)) ≡ Done (with_props app w t c) []
  handed_kept w t c kept h = pick_true (Done (with_props app w t c) []) (run app (with_props app w t c) t) h

  pub handed_fed : (w : State K) (t : ℕ) (c : VComponent K) (kept : Bool) → kept ≡ false → fed_outcome app w c (Some (t, kept)) ≡ run app (with_props app w t c) t
  handed_fed w t c kept h = pick_false (Done (with_props app w t c) []) (run app (with_props app w t c) t) h

  abbrev made_by : State K → ℕ → SideName → Place → VComponent K → Option (Scope K) → Outcome K
  made_by w s side p c o = elim o as (λ z. Outcome K) [ None ↦ Done w [] | Some x ↦ made_in app w s side p c x ]

  pub made_gone : (w : State K) (s : ℕ) (side : SideName) (p : Place) (c : VComponent K) → at w.scopes s ≡ None → made app w s side p c ≡ Done w []
  made_gone w s side p c h = ap (λ o. made_by w s side p c o) h

  none_of : (o : Option (Scope K)) → is_some o ≡ false → o ≡ None
  none_of None h = refl
  none_of (Some x) h = cc

  pub made_dead : (w : State K) (s : ℕ) (side : SideName) (p : Place) (c : VComponent K) → is_live w s ≡ false → made app w s side p c ≡ Done w []
  made_dead w s side p c h = made_gone w s side p c (none_of (at w.scopes s) h)

  pub made_run : (w : State K) (s : ℕ) (side : SideName) (p : Place) (c : VComponent K) (child : ℕ) (v : State K) → IsMade w s side p c child v → made app w s side p c ≡ run app v child
  made_run w s side p c child v h =
      ap (λ o. made_by w s side p c o) h.live
      ∙ pick_false (Cut w (IdsExhausted Scopes)) (run app (with_new_scope w s side p c h.parent) w.next_scope) h.left
      ∙ ap (λ x. run app x w.next_scope) (sym h.made)
      ∙ ap (λ n. run app v n) (sym h.number)

  cut_by_end : (w : State K) (s : ℕ) (side : SideName) (p : Place) (c : VComponent K) (o : Option (Scope K)) → is_some o ≡ true → at_end w.next_scope ≡ true → made_by w s side p c o ≡ Cut w (IdsExhausted Scopes)
  cut_by_end w s side p c None live full = cc
  cut_by_end w s side p c (Some x) live full = pick_true (Cut w (IdsExhausted Scopes)) (run app (with_new_scope w s side p c x) w.next_scope) full

  pub made_cut : (w v : State K) (s : ℕ) (side : SideName) (p : Place) (c : VComponent K) (what : CodeCause) → is_live w s ≡ true → (fault_of what ≡ IdsExhausted Scopes) × (at_end w.next_scope ≡ true) × (v ≡ w)
      → made app w s side p c ≡ Cut v (fault_of what)
  made_cut w v s side p c what live h =
      cut_by_end w s side p c (at w.scopes s) live h.1 ∙ ap (λ x. Cut x (IdsExhausted Scopes)) (sym h.2) ∙ ap (λ f. Cut v f) (sym h.0)

module _ {K : Types} (app : Application K) where
  abbrev take_at : State K → ℕ → ℕ → SideName → ℕ → Outcome K
  take_at w t s side leaf = and_then (removed app w leaf) (again (nat_eq leaf t) (Drop t s side))

  pub take_cut : (w : State K) (t s : ℕ) (side : SideName) (leaf : ℕ) (v : State K) (stop : Stop) → leaf ≡ next_removed w t → CutBy (removed app w leaf) v stop → CutBy (turn_of app w (Drop t s side)) v stop
  take_cut w t s side leaf v stop is cut =
      cut_as (take_at w t s side leaf) (turn_of app w (Drop t s side)) v stop (ap (λ n. take_at w t s side n) (sym is)) (then_cut (removed app w leaf) (again (nat_eq leaf t) (Drop t s side)) v stop cut)

  pub take_done : (w : State K) (t s : ℕ) (side : SideName) (leaf : ℕ) (v : State K) (items : List (Item K)) → leaf ≡ next_removed w t → removed app w leaf ≡ Done v [] → items ≡ again (nat_eq leaf t) (Drop t s side) → turn_of app w (Drop t s side) ≡ Done v items
  take_done w t s side leaf v items is done same =
      ap (λ n. take_at w t s side n) (sym is) ∙ then_done (removed app w leaf) v (again (nat_eq leaf t) (Drop t s side)) done ∙ ap (λ xs. Done v xs) (sym same)

pub gone_entry : {K : Types} (w : State K) (t leaf : ℕ) → leaf ≡ next_removed w t → Removed (next_removed w t) ∷ [] ≡ Removed leaf ∷ []
gone_entry w t leaf is = ap (λ n. Removed n ∷ []) (sym is)

pub entry_kept : (t : ℕ) (kept : Bool) → kept ≡ true → fed_entries (Some (t, kept)) ≡ Kept t ∷ []
entry_kept t kept h = ap (λ e. e ∷ []) (pick_true (Kept t) (Fed t) h)

pub entry_fed : (t : ℕ) (kept : Bool) → kept ≡ false → fed_entries (Some (t, kept)) ≡ Fed t ∷ []
entry_fed t kept h = ap (λ e. e ∷ []) (pick_false (Kept t) (Fed t) h)

-- what was noted, by other names
pub noted_as : {A : Type 0} (before after : List CodeEntry) (es fs : List Entry) (result : Result A Stop) → es ≡ fs → NotedBy before after fs result → NotedBy before after es result
noted_as before after es fs result same h = subst (λ xs. NotedBy before after xs result) (sym same) h

-- an entry more
pub noted_one : (before after : List CodeEntry) (e : CodeEntry) → after ≡ before ++ e ∷ [] → map seen after ≡ map seen before ++ seen e ∷ []
noted_one before after e h = ap (λ xs. map seen xs) h ∙ map-append seen before (e ∷ [])

-- an entry more, by another name
pub noted_one_as : (before after : List CodeEntry) (e : CodeEntry) (es : List Entry) → after ≡ before ++ e ∷ [] → es ≡ seen e ∷ [] → map seen after ≡ map seen before ++ es
noted_one_as before after e es h same = noted_one before after e h ∙ ap (λ xs. map seen before ++ xs) (sym same)

-- whatever a change came to after it
pub noted_any : {A : Type 0} (before after : List CodeEntry) (es : List Entry) (result : Result A Stop) → map seen after ≡ map seen before ++ es → NotedBy before after es result
noted_any before after es (Ok answer) h = h
noted_any before after es (Err stops.OutOfMemory) h = tt
noted_any before after es (Err (stops.Fault what)) h = h

-- nothing
pub noted_none : (before : List CodeEntry) → map seen before ≡ map seen before ++ []
noted_none before = sym (append-nil (map seen before))
