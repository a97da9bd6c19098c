-- Each entry of a render keeps what holds of the scopes that ran since the last look, and runs none of them again.
use Rattle.std.proofs.Common.{ℕ, ◌+◌, ◌≤◌, ◌<◌, true, false, List, [], ◌∷◌, ◌++◌, ◌≡◌, ◌⊎◌, inl, inr, refl, sym, ap, ◌∙◌, subst, arith, nat_eq}
use Rattle.std.specs.Prelude.{Option, Some, None, is_some, nat_lt}
use Rattle.std.proofs.lemmas.Bool.{eqb-true}
use Rattle.rt_lemmas.proofs.Numbers.{eq_over as apart}
use Rattle.rt_lemmas.proofs.Options.{some_same as some_side}
use Rattle.rt_model.specs.Lists.{at, has, drop_number}
use Rattle.rt_model.specs.Tree.{Types, Place, VComponent}
use Rattle.rt_model.specs.World.{Application}
use Rattle.rt_model.specs.Laws.{IsLawful}
use Rattle.rt_model.specs.State.{SideName, RowStep, Side, Scope, State, Item, Row, Feed, Make, Outcome, Done, side_of, new_scope, is_live, height_of}
use Rattle.rt_model.specs.Next.{RerunScope, at_rest, next}
use Rattle.rt_model.specs.Run.{child_at, run}
use Rattle.rt_model.specs.Removal.{removed}
use Rattle.rt_model.specs.Replay.{Machine, ended_by, with_new_scope, with_props, dropped}
use Rattle.rt_model.specs.Framed.{TookOne}
use Rattle.rt_model.specs.Lasting.{IsRooted}
use Rattle.rt_model.specs.Sentences.{render_ends}
use Rattle.rt_model.proofs.Maps.{by_test, pick_true, pick_false, eq_same}
use Rattle.rt_model.proofs.Among.{Among}
use Rattle.rt_model.proofs.MachineFrames.{rest_later, with_props_later}
use Rattle.rt_model.proofs.StepFrames.{removed_follows}
use Rattle.rt_model.proofs.TourCalls.{state_of}
use Rattle.rt_model.proofs.SideRuns.{rest_stay}
use Rattle.rt_model.proofs.Stands.{Stands}
use Rattle.rt_model.proofs.NumbersStand.{child_among}
use Rattle.rt_model.proofs.TakesOne.{removal_takes_one}
use Rattle.law_moves.proofs.Twigs.{twig, twig_up, twig_below, up, below, kids, SameTwigs, found_live, live_found, up_height, up_found, below_found, height_found, up_by, below_by, height_by, side_by, live_by, same_framed}
use Rattle.law_moves.proofs.Woven.{owner, Stack, Woven}
use Rattle.law_moves.proofs.Lists.{some_number, every_among}
use Rattle.law_moves.proofs.Patched.{by_side}
use Rattle.law_moves.proofs.Made.{kid_was, kid_stays, at_child, is_new, part, heights, side_else, kids_here, same_rest}
use Rattle.law_moves.proofs.Taken.{live_up}
use Rattle.law_moves.proofs.Opens.{calm_twigs}
use Rattle.law_moves.proofs.Weaves.{Knows, knows_of, props_twigs}
use Rattle.law_moves.proofs.Everywhere.{ReadyAt}
use Rattle.law_behavior.proofs.Unlooked.{Sees, changes, removed_sees}
use Rattle.law_behavior.proofs.Lines.{turns, Ahead}
use Rattle.law_behavior.proofs.Since.{Early, Since, since_rest, fades_unseen, calm_since, feed_fits}
use Rattle.rt_model.proofs.Members.{number_left, number_gone}
use Rattle.law_behavior.proofs.Orders.{next_seen, unlooked}
use Rattle.law_behavior.proofs.NoneAgain.{OneMore, fades_same, fades_left, not_both, behind_feed, others_of, SinceOn, ended_since, run_since}

module _ {K : Types} where
  pub live_low : (w : State K) (t : ℕ) → IsRooted w → is_live w t ≡ true → t < w.next_scope
  live_low w t r live =
      by_test (nat_lt t w.next_scope) (λ l. grind (arith, l))
      (λ l. let high : w.next_scope ≤ t = grind (arith, l) in not_both (is_live w t) live (ap (λ (o : Option (Scope K)). is_some o) (r.drawn t high)))

  own_height : (w : State K) (t : ℕ) → (height_of w.scopes t ≡ height_of w.scopes t + 1) → ⊥
  own_height w t e = omega (arith, e)

  -- a scope is made: of all others the same holds
  module _ (ran : ℕ → Type 0) (w : State K) (s : ℕ) (a : SideName) (p : Place) (c : VComponent K) (x : Scope K) (found : at w.scopes s ≡ Some x) (fresh : at w.scopes w.next_scope ≡ None) (work : List (Item K))
      (h : Since ran w work) where
    abbrev n : ℕ
    n = w.next_scope

    abbrev u : State K
    u = with_new_scope w s a p c x

    abbrev z : Side K
    z = record (side_of x a) { children = (side_of x a).children ++ (p, n) ∷ [] }

    old : (t : ℕ) → ran t → nat_eq n t ≡ false
    old t r = apart n t (h.drawn t r)

    new_up : (t : ℕ) → ran t → up u t ≡ up w t
    new_up t r = part w s a p c x found fresh (λ (o : Option (Scope K)). twig_up (twig o)) t (old t r) (same_rest x a z).0

    new_below : (t : ℕ) → ran t → below u t ≡ below w t
    new_below t r = part w s a p c x found fresh (λ (o : Option (Scope K)). twig_below (twig o)) t (old t r) (ap Some (same_rest x a z).2)

    new_height : (t : ℕ) → ran t → height_of u.scopes t ≡ height_of w.scopes t
    new_height t r = heights w s a p c x found fresh t (old t r)

    new_fed : (v t : ℕ) (b : SideName) (q : Place) (d : VComponent K) → ran v → Among work (Feed t b q d) → child_at (kids u t b) q ≡ Some v → ⊥
    new_fed v t b q d r i kid =
        by_side t s b a
        (
        λ here.
        let at_s : child_at (kids u s a) q ≡ Some v =
        sym (ap (λ (m : ℕ). child_at (kids u m a) q) here.0) ∙ sym (ap (λ (m : SideName). child_at (kids u t m) q) here.1) ∙ kid in
        elim (kid_was (kids w s a) (p, n) q v (sym (ap (λ (xs : List (Place × ℕ)). child_at xs q) (kids_here w s a p c x found fresh)) ∙ at_s)) [
          | inl was ↦
              h.unfed v t b q d r i (ap (λ (m : ℕ). child_at (kids w m b) q) here.0 ∙ ap (λ (m : SideName). child_at (kids w s m) q) here.1 ∙ was)
          | inr same ↦ let low = h.drawn v r in omega (arith, same, low)
        ]
        )
        (λ other. h.unfed v t b q d r i (sym (ap (λ (i : Side K). child_at i.children q) (side_else w s a p c x found fresh t b (old t (h.owners (Feed t b q d) i)) other)) ∙ kid))

    new_early : (v : ℕ) → ran v → Early w work v → Early u work v
    new_early v r e = (
      λ y q.
          let here = new_height v r in
          let low = e.0 y q in
          by_test (nat_eq n y)
          (
          λ same.
          let none : height_of w.scopes y ≡ 0 =
          sym (ap (λ (m : ℕ). height_of w.scopes m) (eqb-true n y same)) ∙ ap (λ (o : Option (Scope K)). elim o as (λ i. ℕ) [ None ↦ 0 | Some i ↦ i.height ]) fresh in
          omega (arith, here, low, none)
          )
          (λ other. let there = heights w s a p c x found fresh y other in omega (arith, here, there, low)),
      λ j i. let here = new_height v r in let there = new_height (owner j) (h.owners j i) in let low = e.1 j i in omega (arith, here, there, low),
    )

    pub new_since : Since ran u work
    new_since =
        record {
          unseen = h.unseen;
          unfed = new_fed;
          unturned = λ v b step side r i g j turn. h.unturned v b step side r (sym (new_up v r) ∙ i) (sym (new_below v r) ∙ g) j turn;
          above = λ v q r i. elim (h.above v q r (sym (new_up v r) ∙ i)) [ inl k ↦ inl k | inr k ↦ inr (new_early v r k) ];
          owners = h.owners;
          drawn = λ v r. let low = h.drawn v r in omega (arith, low);
          line = h.line;
        }

  -- a scope went
  module _ (ran : ℕ → Type 0) (w v : State K) (l : ℕ) (work : List (Item K)) (h : Since ran w work) (took : TookOne w l v) (seen : v.seen ≡ drop_number w.seen l) (rises : w.next_scope ≤ v.next_scope) (stack : Stack v work) where
    same_else : (t : ℕ) → nat_eq l t ≡ false → twig (at v.scopes t) ≡ twig (at w.scopes t)
    same_else t q = same_framed (at v.scopes t) (at w.scopes t) (took.others t q)

    lives_else : (t : ℕ) → is_live v t ≡ true → nat_eq l t ≡ false
    lives_else t live =
        by_test (nat_eq l t)
        (λ q. not_both (is_live v t) live (sym (ap (λ (m : ℕ). is_live v m) (eqb-true l t q)) ∙ ap (λ (o : Option (Scope K)). is_some o) took.gone))
        (λ q. q)

    seen_else : (t : ℕ) → has v.seen t ≡ true → nat_eq l t ≡ false
    seen_else t q =
        by_test (nat_eq l t)
        (
        λ e.
        let out : has v.seen t ≡ false = sym (ap (λ (m : ℕ). has v.seen m) (eqb-true l t e)) ∙ ap (λ (xs : List ℕ). has xs l) seen ∙ number_gone w.seen l in
        not_both (has v.seen t) q out
        )
        (λ e. e)

    owner_lives : (items : List (Item K)) (j : Item K) → Stack v items → Among items j → is_live v (owner j) ≡ true
    owner_lives [] j st e = absurd e
    owner_lives (i ∷ items) j st (inl e) = ap (λ (k : Item K). is_live v (owner k)) (sym e) ∙ st.0
    owner_lives (i ∷ items) j st (inr e) = owner_lives items j st.3 e

    gone_early : (t : ℕ) → is_live v t ≡ true → Early w work t → Early v work t
    gone_early t live e =
        let here = height_by w v t (same_else t (lives_else t live)) in (
          λ y q. let there = height_by w v y (same_else y (seen_else y q)) in let low = e.0 y ((number_left w.seen l y (sym (ap (λ (xs : List ℕ). has xs y) seen) ∙ q)).0) in omega (arith, here, there, low),
          λ j i. let there = height_by w v (owner j) (same_else (owner j) (lives_else (owner j) (owner_lives work j stack i))) in let low = e.1 j i in omega (arith, here, there, low),
        )

    pub gone_since : Since ran v work
    gone_since =
        record {
          unseen = fades_unseen ran w v (fades_left w v l seen) h.unseen;
          unfed =
              λ t s a p c r i kid.
              let same = same_else s (lives_else s (owner_lives work (Feed s a p c) stack i)) in
              h.unfed t s a p c r i (sym (ap (λ (z : Side K). child_at z.children p) (side_by w v s a same)) ∙ kid);
          unturned =
              λ t b step a r i g j turn.
              let same = same_else t (lives_else t (live_up v t b i)) in
              h.unturned t b step a r (sym (up_by w v t same) ∙ i) (sym (below_by w v t same) ∙ g) j turn;
          above =
              λ t p r i.
              let live = live_up v t p i in
              elim (h.above t p r (sym (up_by w v t (same_else t (lives_else t live))) ∙ i)) [ inl k ↦ inl k | inr k ↦ inr (gone_early t live k) ];
          owners = h.owners;
          drawn = λ t r. let low = h.drawn t r in omega (arith, low, rises);
          line = h.line;
        }

  module _ (app : Application K) (lawful : IsLawful K app) (ran : ℕ → Type 0) where
    -- a scope is rerun
    module _ (w : State K) (s : ℕ) (is : next w ≡ Some (RerunScope s)) (live : is_live w s ≡ true) (goes_on : render_ends w ≡ false) (h : Since ran w []) (rooted : IsRooted w) (stands : Stands w []) where
      abbrev r : State K
      r = at_rest w

      rest_same : SameTwigs w r
      rest_same = calm_twigs w r (rest_stay w) (rest_later w)

      rest_since : Since ran r []
      rest_since = let same : r.next_scope ≡ w.next_scope = (rest_later w).next_scope in calm_since ran w r [] rest_same (fades_same w r (unlooked w goes_on)) (omega (arith, same)) h

      pub rerun_new : ran s → ⊥
      rerun_new k = not_both (has r.seen s) (next_seen w s is).0 (rest_since.unseen s k)

      child_height : (u : ℕ) → up r u ≡ Some s → height_of r.scopes u ≡ height_of r.scopes s + 1
      child_height u i =
          let a = height_by w r u (rest_same u) in
          let b = height_by w r s (rest_same s) in
          let c = up_height w [] rooted stands u s (sym (up_by w r u (rest_same u)) ∙ i) live in
          omega (arith, a, b, c)

      childless : (u : ℕ) → OneMore ran s u → up r u ≡ Some s → ⊥
      childless u (inr own) i = own_height r s (child_height s (sym (ap (λ (m : ℕ). up r m) own) ∙ i))
      childless u (inl k) i =
          elim (rest_since.above u s k i) [
            | inl q ↦ rerun_new q
            | inr q ↦ let level = child_height u i in let low = q.0 s (next_seen w s is).0 in omega (arith, level, low)
          ]

      low : (u p : ℕ) → OneMore ran s u → up r u ≡ Some p → OneMore ran s p ⊎ (Early r [] u × (height_of r.scopes u ≤ height_of r.scopes s))
      low u p (inl k) i = elim (rest_since.above u p k i) [ inl q ↦ inl (inl q) | inr q ↦ inr (q, q.0 s (next_seen w s is).0) ]
      low u p (inr own) i =
          let same : height_of r.scopes u ≡ height_of r.scopes s = ap (λ (m : ℕ). height_of r.scopes m) own in
          inr ((λ y q. let here = (next_seen w s is).1 y q in omega (arith, same, here), λ j e. absurd e), omega (arith, same))

      pub rerun_since : (v : State K) (work : List (Item K)) → run app r s ≡ Done v work → Woven v (work ++ []) → Knows v → Since (OneMore ran s) v (work ++ [])
      rerun_since v work e woven knows =
          let here : is_live r s ≡ true = live_by w r s (rest_same s) ∙ live in
          let number = live_low w s rooted live in
          let same : r.next_scope ≡ w.next_scope = (rest_later w).next_scope in
          run_since app lawful ran r v [] work s here e rest_since (omega (arith, number, same)) tt childless low (λ t a p c i kid. absurd i) (λ b step a i g j turn. absurd j) woven knows

    -- a child is fed
    module _ (w : State K) (s t : ℕ) (a : SideName) (p : Place) (c : VComponent K) (rest : List (Item K)) (h : Since ran w (Feed s a p c ∷ rest)) (now : Woven w (Feed s a p c ∷ rest)) (rooted : IsRooted w) (stands : Stands w (Feed s a p c ∷ rest))
        (kid : child_at (kids w s a) p ≡ Some t) (live : is_live w t ≡ true) where
      abbrev fed : State K
      fed = with_props app w t c

      fed_same : SameTwigs w fed
      fed_same = props_twigs app w t c

      pub kept_since : Since ran fed rest
      kept_since =
          let same : fed.next_scope ≡ w.next_scope = (with_props_later app lawful w t c).next_scope in
          calm_since ran w fed rest fed_same (fades_same w fed (changes w t (λ x. record x { component = c }))) (omega (arith, same)) (since_rest ran w (Feed s a p c) rest h)

      pub fed_new : ran t → ⊥
      fed_new k = h.unfed t s a p c k (inl refl) kid

      knows : Knows w
      knows = knows_of w (Feed s a p c ∷ rest) stands

      level : height_of w.scopes t ≡ height_of w.scopes s + 1
      level = up_height w (Feed s a p c ∷ rest) rooted stands t s (knows.parents s t a p kid live).0 now.stack.0

      below_fed : (u : ℕ) → up fed u ≡ Some t → height_of w.scopes u ≡ height_of w.scopes t + 1
      below_fed u i = up_height w (Feed s a p c ∷ rest) rooted stands u t (sym (up_by w fed u (fed_same u)) ∙ i) live

      fed_childless : (u : ℕ) → OneMore ran t u → up fed u ≡ Some t → ⊥
      fed_childless u (inr own) i = own_height w t (below_fed t (sym (ap (λ (m : ℕ). up fed m) own) ∙ i))
      fed_childless u (inl k) i =
          elim (h.above u t k (sym (up_by w fed u (fed_same u)) ∙ i)) [
            | inl q ↦ fed_new q
            | inr q ↦ let high = below_fed u i in let low = q.1 (Feed s a p c) (inl refl) in let step = level in omega (arith, high, low, step)
          ]

      fed_low : (u q : ℕ) → OneMore ran t u → up fed u ≡ Some q → OneMore ran t q ⊎ (Early fed rest u × (height_of fed.scopes u ≤ height_of fed.scopes t))
      fed_low u q (inl k) i =
          let first = height_by w fed u (fed_same u) in
          let second = height_by w fed t (fed_same t) in
          let step = level in
          elim (kept_since.above u q k i) [
            | inl r ↦ inl (inl r)
            | inr r ↦
                elim (h.above u q k (sym (up_by w fed u (fed_same u)) ∙ i)) [
                  | inl z ↦ inl (inl z)
                  | inr z ↦ let low = z.1 (Feed s a p c) (inl refl) in inr (r, omega (arith, first, second, step, low))
                ]
          ]
      fed_low u q (inr own) i =
          let parent : up w t ≡ Some q = sym (ap (λ (m : ℕ). up w m) own) ∙ sym (up_by w fed u (fed_same u)) ∙ i in
          let same : s ≡ q = some_number s q (sym (knows.parents s t a p kid live).0 ∙ parent) in
          inl (inl (subst (λ (m : ℕ). ran m) same (h.owners (Feed s a p c) (inl refl))))

      fed_else : (t2 : ℕ) (b : SideName) (q : Place) (d : VComponent K) → Among rest (Feed t2 b q d) → child_at (kids fed t2 b) q ≡ Some t → ⊥
      fed_else t2 b q d i e =
          let there : child_at (kids w t2 b) q ≡ Some t = sym (ap (λ (z : Side K). child_at z.children q) (side_by w fed t2 b (fed_same t2))) ∙ e in
          let first = knows.parents s t a p kid live in
          let second = knows.parents t2 t b q there live in
          let parent : s ≡ t2 = some_number s t2 (sym first.0 ∙ second.0) in
          let side : a ≡ b = some_side a b (sym first.1 ∙ second.1) in
          let here : child_at (kids w s a) q ≡ Some t = ap (λ (m : ℕ). child_at (kids w m a) q) parent ∙ ap (λ (m : SideName). child_at (kids w t2 m) q) side ∙ there in
          let place : p ≡ q = knows.places s t a p q (child_among (kids w s a) p t kid) (child_among (kids w s a) q t here) in
          (every_among (λ (j : Item K). Ahead (Feed s a p c) j) rest (Feed t2 b q d) h.line.0 i) parent side place

      fed_unturned : (b : ℕ) (step : RowStep) (side : SideName) → up fed t ≡ Some b → below fed t ≡ Some side → Among rest (Row b step) → turns step ≡ Some side → ⊥
      fed_unturned b step side i g j turn =
          let first = knows.parents s t a p kid live in
          let parent : s ≡ b = some_number s b (sym first.0 ∙ sym (up_by w fed t (fed_same t)) ∙ i) in
          let same : a ≡ side = some_side a side (sym first.1 ∙ sym (below_by w fed t (fed_same t)) ∙ g) in
          (every_among (λ (k : Item K). Ahead (Feed s a p c) k) rest (Row b step) h.line.0 j) parent (turn ∙ ap (λ (m : SideName). Some m) (sym same))

      pub fed_since : (v : State K) (work : List (Item K)) → run app fed t ≡ Done v work → Woven v (work ++ rest) → Knows v → Since (OneMore ran t) v (work ++ rest)
      fed_since v work e woven after =
          let same : fed.next_scope ≡ w.next_scope = (with_props_later app lawful w t c).next_scope in
          let number = live_low w t rooted live in
          run_since app lawful ran fed v rest work t (live_by w fed t (fed_same t) ∙ live) e kept_since (omega (arith, same, number)) (behind_feed w s t a p c rest level now.stack.2) fed_childless fed_low fed_else fed_unturned
          woven after

    -- a scope is made and run
    module _ (w : State K) (s : ℕ) (a : SideName) (p : Place) (c : VComponent K) (rest : List (Item K)) (x : Scope K) (found : at w.scopes s ≡ Some x) (h : Since ran w (Make s a p c ∷ rest)) (now : Woven w (Make s a p c ∷ rest))
        (rooted : IsRooted w) where
      abbrev fresh : at w.scopes w.next_scope ≡ None
      fresh = rooted.drawn w.next_scope (omega arith)

      abbrev born : State K
      born = with_new_scope w s a p c x

      abbrev number : ℕ
      number = w.next_scope

      abbrev one : Scope K
      one = new_scope c (Some s) (x.height + 1) a

      born_at : at born.scopes number ≡ Some one
      born_at = at_child w s a p c x found fresh

      born_since : Since ran born (Make s a p c ∷ rest)
      born_since = new_since ran w s a p c x found fresh (Make s a p c ∷ rest) h

      pub made_new : ran number → ⊥
      made_new k = let low = h.drawn number k in omega (arith, low)

      born_up : up born number ≡ Some s
      born_up = up_found born number one born_at

      born_height : height_of born.scopes number ≡ height_of born.scopes s + 1
      born_height =
          let here = height_found born number one born_at in
          let there = heights w s a p c x found fresh s (apart number s (live_low w s rooted (live_found w s x found))) in
          let old = height_found w s x found in
          omega (arith, here, there, old)

      born_childless : (u : ℕ) → OneMore ran number u → up born u ≡ Some number → ⊥
      born_childless u (inr own) i =
          let same : s ≡ number = some_number s number (sym born_up ∙ sym (ap (λ (m : ℕ). up born m) own) ∙ i) in
          let low = live_low w s rooted (live_found w s x found) in
          omega (arith, same, low)
      born_childless u (inl k) i = elim (born_since.above u number k i) [ inl q ↦ made_new q | inr q ↦ old_child ]
        where
          old_child : ⊥
          old_child =
              let before : up w u ≡ Some number = sym (part w s a p c x found fresh (λ (o : Option (Scope K)). twig_up (twig o)) u (apart number u (h.drawn u k)) (same_rest x a (record (side_of x a) { children = (side_of x a).children ++ (p, number) ∷ [] })).0) ∙ i in
              let there = found_live (at w.scopes u) (live_up w u number before) in
              let low = rooted.parents u number there.0 there.1 (sym (up_found w u there.0 there.1) ∙ before) in
              omega (arith, low)

      born_low : (u q : ℕ) → OneMore ran number u → up born u ≡ Some q → OneMore ran number q ⊎ (Early born rest u × (height_of born.scopes u ≤ height_of born.scopes number))
      born_low u q (inl k) i =
          elim (born_since.above u q k i) [
            | inl z ↦ inl (inl z)
            | inr z ↦ let low = z.1 (Make s a p c) (inl refl) in let step = born_height in inr ((z.0, λ j e. z.1 j (inr e)), omega (arith, low, step))
          ]
      born_low u q (inr own) i =
          let same : s ≡ q = some_number s q (sym born_up ∙ sym (ap (λ (m : ℕ). up born m) own) ∙ i) in
          inl (inl (subst (λ (m : ℕ). ran m) same (h.owners (Make s a p c) (inl refl))))

      born_fed : (t : ℕ) (b : SideName) (q : Place) (d : VComponent K) → Among rest (Feed t b q d) → child_at (kids born t b) q ≡ Some number → ⊥
      born_fed t b q d i e =
          let fits = feed_fits w rest t b q d now.stack.3 i in
          let other : nat_eq number fits.0 ≡ false = is_new w s a p c x found fresh fits.0 fits.2 in
          let there : child_at (kids born t b) q ≡ Some fits.0 =
          by_side t s b a
          (
          λ here.
          let before : child_at (kids w s a) q ≡ Some fits.0 = sym (ap (λ (m : ℕ). child_at (kids w m a) q) here.0) ∙ sym (ap (λ (m : SideName). child_at (kids w t m) q) here.1) ∙ fits.1 in
          let after : child_at (kids born s a) q ≡ Some fits.0 =
          ap (λ (xs : List (Place × ℕ)). child_at xs q) (kids_here w s a p c x found fresh) ∙ kid_stays (kids w s a) (p, number) q fits.0 before in
          ap (λ (m : ℕ). child_at (kids born m b) q) here.0 ∙ ap (λ (m : SideName). child_at (kids born s m) q) here.1 ∙ after
          )
          (λ else_side. ap (λ (z : Side K). child_at z.children q) (side_else w s a p c x found fresh t b (apart number t (h.drawn t (h.owners (Feed t b q d) (inr i)))) else_side) ∙ fits.1) in
          let same : fits.0 ≡ number = some_number fits.0 number (sym there ∙ e) in
          not_both (nat_eq number number) (eq_same number) (sym (ap (λ (m : ℕ). nat_eq number m) same) ∙ other)

      born_unturned : (b : ℕ) (step : RowStep) (side : SideName) → up born number ≡ Some b → below born number ≡ Some side → Among rest (Row b step) → turns step ≡ Some side → ⊥
      born_unturned b step side i g j turn =
          let parent : s ≡ b = some_number s b (sym born_up ∙ i) in
          let same : a ≡ side = some_side a side (sym (below_found born number one born_at) ∙ g) in
          (every_among (λ (k : Item K). Ahead (Make s a p c) k) rest (Row b step) h.line.0 j) parent (turn ∙ ap (λ (m : SideName). Some m) (sym same))

      pub born_run : (v : State K) (work : List (Item K)) → run app born number ≡ Done v work → Woven v (work ++ rest) → Knows v → Since (OneMore ran number) v (work ++ rest)
      born_run v work e woven after =
          run_since app lawful ran born v rest work number (live_found born number one born_at) e (since_rest ran born (Make s a p c) rest born_since) (omega arith)
          (others_of number rest (λ j i same. let low = h.drawn (owner j) (h.owners j (inr i)) in omega (arith, same, low)))
          born_childless born_low born_fed born_unturned woven after

    -- a scope of a removal goes
    module _ (m : Machine K) (l : ℕ) (item : Item K) where
      took_since : (items : List (Item K)) → Since ran m.state items → ReadyAt app lawful (ended_by m (Some item) items (removed app m.state l)) → SinceOn app lawful ran ran (ended_by m (Some item) items (removed app m.state l))
      took_since items h ready =
          let w : State K = m.state in
          ended_since app lawful ran ran m (Some item) items (removed app w l) ready
          (
          λ v work e woven knows.
          let took = removal_takes_one app lawful w v l work e in
          let seen : v.seen ≡ drop_number w.seen l = subst (λ (o : Outcome K). Sees (drop_number w.seen l) o) e (removed_sees app w l) in
          let rises : w.next_scope ≤ v.next_scope = subst (λ (o : Outcome K). w.next_scope ≤ (state_of o).next_scope) e (removed_follows app lawful w l).next_scope in
          let stack : Stack v items = subst (λ (xs : List (Item K)). Stack v (xs ++ items)) took.0 woven.stack in
          subst (λ (xs : List (Item K)). Since ran v (xs ++ items)) (sym took.0) (gone_since ran w v l items h took.1 seen rises stack)
          )

      pub drop_since : (top : ℕ) (rest : List (Item K)) → Since ran m.state (item ∷ rest) → ReadyAt app lawful (dropped app m l top item rest) → SinceOn app lawful ran ran (dropped app m l top item rest)
      drop_since top rest h ready =
          let o : Outcome K = removed app m.state l in
          let own : Machine K = ended_by m (Some item) rest o in
          let under : Machine K = ended_by m (Some item) (item ∷ rest) o in
          by_test (nat_eq l top)
          (
          λ q.
          let is = pick_true own under q in
          subst (λ (z : Machine K). SinceOn app lawful ran ran z) (sym is) (took_since rest (since_rest ran m.state item rest h) (subst (λ (z : Machine K). ReadyAt app lawful z) is ready))
          )
          (
          λ q.
          let is = pick_false own under q in
          subst (λ (z : Machine K). SinceOn app lawful ran ran z) (sym is) (took_since (item ∷ rest) h (subst (λ (z : Machine K). ReadyAt app lawful z) is ready))
          )
