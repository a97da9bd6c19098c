-- What the edits of a rerun make of the document that showed.
use Rattle.std.proofs.Common.{ℕ, zero, suc, ◌≤◌, Bool, true, false, List, [], ◌≡◌, inl, inr, refl, sym, ap, ◌∙◌, subst, arith, length}
use Rattle.std.specs.Prelude.{Option, Some, Ok}
use Rattle.std.proofs.lemmas.List.{append-nil}
use Rattle.rt_model.specs.Lists.{at}
use Rattle.rt_model.specs.Tree.{Types}
use Rattle.rt_model.specs.World.{Application}
use Rattle.rt_model.specs.Laws.{IsLawful}
use Rattle.rt_model.specs.State.{Scope, State, Item, Done, side_of, is_live, is_shown}
use Rattle.rt_model.specs.Next.{at_rest}
use Rattle.rt_model.specs.Run.{run}
use Rattle.rt_model.specs.Document.{Forest, Edit, document_after}
use Rattle.rt_model.specs.View.{nodes_of, view}
use Rattle.rt_model.specs.Caused.{written_within, written}
use Rattle.rt_model.proofs.SideRuns.{rest_stay}
use Rattle.law_moves.proofs.Twigs.{found_live}
use Rattle.law_moves.specs.Frames.{shown}
use Rattle.law_moves.proofs.Commanded.{Level}
use Rattle.law_moves.proofs.Called.{rest_level}
use Rattle.law_moves.proofs.Untouched.{stand_by}
use Rattle.law_moves.specs.Sweeps.{scope_claims}
use Rattle.law_headline.proofs.Unfolding.{tree_unfolds}
use Rattle.law_headline.proofs.Descent.{written_brings}
use Rattle.law_headline.specs.Fitting.{FittingBring}
use Rattle.law_headline.proofs.Steps.{Ready}
use Rattle.law_headline.proofs.Did.{Alike, alike, same_scope}
use Rattle.law_headline.proofs.Nodes.{Settled}
use Rattle.law_headline.proofs.Settled.{settled_once}
use Rattle.law_headline.proofs.Sides.{link_same}
use Rattle.law_headline.proofs.Climbs.{kids_by}
use Rattle.law_headline.proofs.Since.{Awaits, Since, Like, like_since}
use Rattle.law_headline.proofs.Serving.{run_since}
use Rattle.law_headline.proofs.Settings.{InSetting}
use Rattle.law_headline.proofs.Ends.{meets_down}
use Rattle.law_headline.proofs.Above.{root_set, root_seen, hidden_stays}

module _ {K : Types} (app : Application K) (lawful : IsLawful K app) where
  module _ (first : State K) (root : ℕ) where
    pub level_like : (w u : State K) → Level w u → u.next.elements ≡ w.next.elements → Like app lawful first root w u
    level_like w u level elements =
        record {
          stands = λ t. stand_by (at u.scopes t) (at w.scopes t) (level.shows t);
          finds =
              λ t y e.
              let x : Alike (at w.scopes t) y = alike (at w.scopes t) y (sym (level.shows t) ∙ ap (λ (o : Option (Scope K)). shown o) e) in
              (x.old, x.found, sym x.shows, λ a. sym (x.sides a));
          kept = λ t a. kids_by w u t a (level.shows t);
          elements = elements;
          scopes = level.next_scope;
        }

    -- when the unit begins everything is as it is
    start_since : is_live first root ≡ true → Since app lawful first root first []
    start_since live =
        record {
          numbers = λ t x a p k n e g low. (x, e, g);
          children = λ t x a p u e g low. (x, e, g);
          old = λ t alive low. refl;
          links = λ t x z a e there. link_same app lawful first.next_scope (side_of z a) (side_of x a) (ap (λ (i : Scope K). side_of i a) (same_scope x z (sym e ∙ there)));
          waits = λ b step a x z e. absurd e;
          quiet = λ t u path e. absurd (nothing t e);
          apart = λ t j path e. absurd (nothing t e);
          clear = λ j b step a e. absurd e;
          elements = omega arith;
          scopes = omega arith;
          inside = λ j e. absurd e;
          outer = λ t path x e out. (x, e, refl, λ a. refl);
          lives = λ t path alive out. alive;
          top = live;
        }
      where
        nothing : (t : ℕ) → Awaits first [] t → ⊥
        nothing t (inl e) = e.4
        nothing t (inr e) = e.3

    -- the root runs
    pub begun_since : (v : State K) (work : List (Item K)) → Ready v work → is_live first root ≡ true → run app (at_rest first) root ≡ Done v work → Since app lawful first root v work
    begun_since v work ready live e =
        let w : State K = at_rest first in
        let like : Like app lawful first root first w = level_like first w (rest_level first) (rest_stay first).elements in
        let here : Since app lawful first root w [] = like_since app lawful first root first w [] like (start_since live) in
        let x = found_live (at w.scopes root) here.top in
        subst (λ (xs : List (Item K)). Since app lawful first root v xs) (append-nil work)
        (run_since app lawful first root w v root [] work x.0 (subst (λ (xs : List (Item K)). Ready v xs) (sym (append-nil work)) ready) here x.1 e (λ j g same. absurd g) ([], refl)
        (
        λ z a there.
        let y = like.finds root x.0 x.1 in
        y.3 a ∙ ap (λ (i : Scope K). side_of i a) (same_scope y.0 z (sym y.1 ∙ there))
        )
        (λ t u path above c alive. λ y there. let z = like.finds u y there in (z.0, z.1, z.3))
        (λ t j path above g c. absurd g)
        (λ t path g c. nothing_waits t g))
      where
        nothing_waits : (t : ℕ) → Awaits (at_rest first) [] t → ⊥
        nothing_waits t (inl e) = e.4
        nothing_waits t (inr e) = e.3

    -- where the claims are known, what is written makes the new document of the old one
    pub unit_brings : FittingBring K → (v : State K) → Settled first → Settled v → Since app lawful first root v [] → is_live first root ≡ true
        → (is_shown first root ≡ true → is_shown v root ≡ true → (n : ℕ) → scope_claims app first v (length first.scopes) root n ≤ 1)
        → document_after (written app first v root) (view first) ≡ Ok (view v)
    unit_brings bring v f g h live single = by_shown (is_shown first root) refl
      where
        z : (x : Scope K) × (at first.scopes root ≡ Some x)
        z = found_live (at first.scopes root) live

        x : (y : Scope K) × (at v.scopes root ≡ Some y)
        x = found_live (at v.scopes root) h.top

        hidden_writes : (n : ℕ) → is_shown first root ≡ false → (written_within app [] first v n root).edits ≡ []
        hidden_writes zero hidden = refl
        hidden_writes (suc n) hidden = rw hidden refl

        by_shown : (b : Bool) → is_shown first root ≡ b → document_after (written app first v root) (view first) ≡ Ok (view v)
        by_shown true seen =
            let sees : is_shown v root ≡ true = root_seen app lawful first v root f g h z.0 x.0 z.1 x.1 seen in
            let set : InSetting (view first) (view v) (nodes_of first root) (nodes_of v root) = root_set app lawful first v root f g h z.0 z.1 seen in
            written_brings app first v (tree_unfolds first f.tree) (tree_unfolds v g.tree) root set.setting
            (meets_down app lawful bring first v root f g h (length first.scopes) root z.0 x.0 z.1 x.1 seen sees (omega arith)) (single seen sees) set.one set.two (settled_once app lawful first f) (settled_once app lawful v g)
        by_shown false hidden =
            let none : written app first v root ≡ [] = hidden_writes (length first.scopes) hidden in
            ap (λ (es : List Edit). document_after es (view first)) none ∙ ap (λ (d : Forest). Ok d) (hidden_stays app lawful first v root f g h z.0 z.1 hidden)
