-- What a scope has read is put where it stood already, and after another change of the scope.
use Rattle.std.proofs.Common.{◌≡◌, ℕ, Bool, true, false, List, [], ◌∷◌, map, nat_eq, refl, sym, ap, ◌∙◌}
use Rattle.std.specs.Prelude.{Option, Some, None, if◌then◌else◌}
use Rattle.rt_cells.specs.declared.sources.Source.{Source}
use Rattle.rt_model.specs.Lists.{at, put}
use Rattle.rt_model.specs.OneLog.{types}
use Rattle.rt_model.specs.Tree.{Types}
use Rattle.rt_model.specs.State as model
use Rattle.rt_model.specs.State.{change, changed_scope}
use Rattle.rt_model.proofs.Maps.{at_put_here, eq_same, pick_true}
use Rattle.run_records.specs.Records.{source_of}
use Rattle.run_records.specs.Kept.{scope_of}
use Rattle.run_records.specs.declared.rest.Scope.{Scope}
use Rattle.run_state.specs.Mirror.{Unkept, state_of}
use Rattle.run_state.specs.declared.state.State.{State}
use Rattle.run_state.proofs.Each.{found-each}
use Rattle.run_state.proofs.Unchanged.{put-same}

-- a value is put in the place of one that was put there
pub put_over : {A : Type 0} (es : List (ℕ × A)) (n : ℕ) (a b : A) → put (put es n a) n b ≡ put es n b
put_over [] n a b = pick_true ((n, b) ∷ []) ((n, a) ∷ put [] n b) (eq_same n)
put_over {A = A} (e ∷ es) n a b = by (nat_eq e.0 n) refl (put_over es n a b)
  where
    by : (c : Bool) → nat_eq e.0 n ≡ c → put (put es n a) n b ≡ put es n b → put (if c then (n, a) ∷ es else e ∷ put es n a) n b ≡ (if c then (n, b) ∷ es else e ∷ put es n b)
    by true own rest = pick_true ((n, b) ∷ es) ((n, a) ∷ put es n b) (eq_same n)
    by false own rest = ap (λ c. if c then (n, b) ∷ put es n a else e ∷ put (put es n a) n b) own ∙ ap (λ (fs : List (ℕ × A)). e ∷ fs) rest

module _ {K : Types} where
  abbrev with_scopes : model.State K → List (ℕ × model.Scope K) → model.State K
  with_scopes w es = record w { scopes = es }

  -- two changes of one scope are one
  pub changed_twice : (w : model.State K) (s : ℕ) (f h k : model.Scope K → model.Scope K) → ((x : model.Scope K) → h (f x) ≡ k x) → change (change w s f) s h ≡ change w s k
  changed_twice w s f h k same = by (at w.scopes s) refl
    where
      by : (o : Option (model.Scope K)) → at w.scopes s ≡ o → change (changed_scope w s f o) s h ≡ changed_scope w s k o
      by None e = ap (λ o. changed_scope w s h o) e
      by (Some x) e =
          ap (λ o. changed_scope (with_scopes w (put w.scopes s (f x))) s h o) (at_put_here w.scopes s (f x) s (eq_same s))
          ∙ ap (λ es. with_scopes w es) (put_over w.scopes s (f x) (h (f x)))
          ∙ ap (λ (y : model.Scope K). with_scopes w (put w.scopes s y)) (same x)

module _ {P C Q V H T E L : Type 0} where
  -- what had been read is read again
  pub read_again : (g : Unkept (types C Q V H T E L)) (d : State P C Q V H T E L) (s : ℕ) (x : Scope P C Q V H T E L) (reads : List Source) → Some x ≡ at (d.rows).table s → (x.rest).reads ≡ reads
      → state_of g d ≡ change (state_of g d) s (λ y. record y { reads = map source_of reads })
  read_again g d s x reads there same =
      let w : model.State (types C Q V H T E L) = state_of g d in
      let live : at w.scopes s ≡ Some (scope_of x) = found-each scope_of (d.rows).table s (Some x) there in
      sym
      (
      ap (λ o. changed_scope w s (λ y. record y { reads = map source_of reads }) o) live
      ∙ ap (λ (rs : List Source). with_scopes w (put w.scopes s (record (scope_of x) { reads = map source_of rs }))) (sym same)
      ∙ ap (λ es. with_scopes w es) (put-same w.scopes s (scope_of x) live)
      )
