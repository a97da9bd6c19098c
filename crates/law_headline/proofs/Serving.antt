-- Runs, the steps of a boundary's run, and numbers that are drawn keep what holds since the unit began.
use Rattle.std.proofs.Common.{ℕ, ◌+◌, ◌≤◌, ◌<◌, true, false, List, [], ◌∷◌, ◌++◌, ◌≡◌, ◌⊎◌, inl, inr, refl, sym, ap, ◌∙◌, subst, arith}
use Rattle.std.specs.Prelude.{Option, Some, None, is_some}
use Rattle.rt_model.specs.Lists.{at}
use Rattle.rt_model.specs.Tree.{Types, Tree, Place, Kind, VComponent, node_at}
use Rattle.rt_model.specs.World.{Elements, at_end, Application}
use Rattle.rt_model.specs.Laws.{IsLawful}
use Rattle.rt_model.specs.State.{SideName, FallbackSide, RowStep, PatchChildren, MadeChildren, RunFallback, ShowFallback, ShowChildren, DropFallback, Resolve, IdsExhausted, Side, Scope, State, Item, Draw, Row, Feed, Outcome, Done, side_of, with_side, is_live}
use Rattle.rt_model.specs.Run.{child_at, spots_of, with_next, run}
use Rattle.rt_model.specs.Boundary.{boundary_step}
use Rattle.rt_model.specs.Heard.{number_at}
use Rattle.rt_model.specs.Replay.{numbered, draw_number}
use Rattle.rt_model.proofs.Among.{Among, among_push}
use Rattle.rt_model.proofs.RunFrames.{Later, LaterO, run_later, step_later}
use Rattle.rt_model.proofs.MachineFrames.{numbered_later}
use Rattle.law_moves.proofs.Twigs.{up, kids, side_found, found_live}
use Rattle.law_moves.proofs.Woven.{owner, Climb}
use Rattle.law_moves.proofs.Lists.{every_among}
use Rattle.law_moves.specs.Frames.{Keeps}
use Rattle.law_moves.proofs.Untouched.{run_leaves, item_leaves}
use Rattle.law_headline.proofs.Steps.{Ready}
use Rattle.law_headline.proofs.Did.{change_there, same_scope, that_side, other_side, RunDid, run_did, StepDid, step_did}
use Rattle.law_headline.proofs.Lines.{clash, among_either, Ahead, Line, behind_step}
use Rattle.law_headline.proofs.Trees.{keeps_of}
use Rattle.law_headline.proofs.Dressed.{NoneOf}
use Rattle.law_headline.proofs.Clothed.{run_all, step_all, drawn_is}
use Rattle.law_headline.proofs.Nodes.{Settled}
use Rattle.law_headline.proofs.Sides.{Link, link_number}
use Rattle.law_headline.proofs.Climbs.{live_by, off_itself}
use Rattle.law_headline.proofs.Since.{turns, item_side, Awaits, Untouched, Since, since_rest, opened_since}
use Rattle.law_headline.proofs.Patches.{one_side, turns_clash, SideDid, did_numbers, did_children, did_link, link_empty, run_sides, StepSides, step_sides}

module _ {K : Types} (app : Application K) (lawful : IsLawful K app) (first : State K) (root : ℕ) where
  live_at : (w : State K) (s : ℕ) (x : Scope K) → at w.scopes s ≡ Some x → is_live w s ≡ true
  live_at w s x e = ap (λ (o : Option (Scope K)). is_some o) e

  -- a scope runs that is as it was when the unit began, with all below it
  pub run_since : (w v : State K) (s : ℕ) (rest work : List (Item K)) (x : Scope K) → Ready v (work ++ rest) → Since app lawful first root w rest → at w.scopes s ≡ Some x → run app w s ≡ Done v work → NoneOf s rest
      → ((path : List ℕ) × Climb w path s root)
      → ((z : Scope K) (a : SideName) → at first.scopes s ≡ Some z → side_of x a ≡ side_of z a)
      → ((t u : ℕ) (path : List ℕ) → up w t ≡ Some s → Climb w path u t → is_live w u ≡ true → Untouched app lawful first root w u)
      → ((t : ℕ) (j : Item K) (path : List ℕ) → up w t ≡ Some s → Among rest j → Climb w path (owner j) t → ⊥)
      → ((t : ℕ) (path : List ℕ) → Awaits w rest t → Climb w path s t → ⊥)
      → Since app lawful first root v (work ++ rest)
  run_since w v s rest work x ready h found e none way as_was fresh clean not_awaited =
      let did : RunDid app w s x v work = run_did app w v s x work found e in
      let all = run_all app w v s x work did in
      let later : Later w v = subst (λ (o : Outcome K). LaterO w o) e (run_later app lawful w s) in
      let scopes : v.next_scope ≡ w.next_scope = later.next_scope in
      let numbers : w.next.elements ≤ v.next.elements = later.rises.elements in
      opened_since app lawful first root w v s (λ a. Unit {0}) work rest ready (keeps_of (s ∷ []) [] w v work (run app w s) (run_leaves app w s) e) h all.0 (live_at w s x found) numbers (omega (arith, scopes)) way
      (λ t a p c g kid. absurd (none (Feed s a p c) g refl))
      not_awaited
      (λ t u a path above side ok c alive. fresh t u path above c alive)
      (λ t j a path above side ok g c. clean t j path above g c)
      (λ a p c g. tt)
      (λ step a g turn. tt)
      (
      λ y z a there begun.
      did_link app lawful first.next_scope (side_of z a) (side_of x a) (side_of y a) ((run_sides app w v s x y work found there did).sides a) (h.links s x z a found begun) (inl (as_was z a begun))
      )
      (
      λ step a y z g turn there begun.
      ((run_sides app w v s x y work found there did).rows step (own_row (Row s step) g refl)).0 a ∙ as_was z a begun
      )
      (
      λ j step a g o i f turn.
      let y = found_after in
      let absurdity : None ≡ Some a = sym (((run_sides app w v s x y.0 work found y.1 did).rows step (own_row (Row s step) f refl)).1 j (own_row j g o)) ∙ i in
      cc
      )
      (
      λ z y a p kind n here there g low.
      let same : x ≡ z = same_scope x z (sym found ∙ here) in
      subst (λ (i : Scope K). Among (side_of i a).numbers (p, kind, n)) same (did_numbers app (side_of x a) (side_of y a) (p, kind, n) ((run_sides app w v s x y work found there did).sides a) g)
      )
      (
      λ z y a p u here there g low.
      let same : x ≡ z = same_scope x z (sym found ∙ here) in
      subst (λ (i : Scope K). Among (side_of i a).children (p, u)) same (did_children app (side_of x a) (side_of y a) (p, u) ((run_sides app w v s x y work found there did).sides a) g)
      )
    where
      own_row : (j : Item K) → Among (work ++ rest) j → owner j ≡ s → Among work j
      own_row j g o = elim (among_either work rest j g) [ inl d ↦ d | inr d ↦ absurd (none j d o) ]

      found_after : (y : Scope K) × (at v.scopes s ≡ Some y)
      found_after =
          let k : Keeps (s ∷ []) [] w v = keeps_of (s ∷ []) [] w v work (run app w s) (run_leaves app w s) e in
          found_live (at v.scopes s) (live_by w v s (k.stands s refl) ∙ live_at w s x found)

  -- a step of a boundary's run
  pub row_since : (w v : State K) (b : ℕ) (step : RowStep) (rest work : List (Item K)) → Ready w (Row b step ∷ rest) → Ready v (work ++ rest) → Line (Row b step ∷ rest) → Since app lawful first root w (Row b step ∷ rest)
      → boundary_step app w b step ≡ Done v work → Since app lawful first root v (work ++ rest)
  row_since w v b step rest work now ready line h e =
      opened_since app lawful first root w v b (λ a. turns step ≡ Some a) work rest ready keeps left (step_all app w v b x step work did).0 now.woven.stack.0 numbers (omega (arith, scopes)) (h.inside (Row b step) (inl refl))
      (λ t a p c g kid. absurd (not_feed a p c (behind_step w b step rest (Feed b a p c) now.woven.stack.2 g refl)))
      (λ t path aw c. h.apart t (Row b step) path (more t aw) (inl refl) c)
      (λ t u a path above side ok c alive. h.quiet t u path (inr (b, step, a, inl refl, ok, above, side)) c alive)
      (λ t j a path above side ok g c. h.apart t j path (inr (b, step, a, inl refl, ok, above, side)) (inr g) c)
      (λ a p c g. did_after.items (Feed b a p c) a g refl)
      (λ other a g turn. (did_after.rows other g).2 a turn)
      (
      λ y z a there begun.
      row_link y z a there begun ((sides_of y there).sides a) (which step a) (drops step)
      )
      (λ other a y z g turn there begun. row_waits other a y z there begun turn (among_either work rest (Row b other) g))
      (λ j other a g o i f turn. row_clear j other a o i turn (among_either work rest j g) (among_either work rest (Row b other) f))
      (
      λ z y a p kind n here there g low.
      let same : x ≡ z = same_scope x z (sym found ∙ here) in
      subst (λ (i : Scope K). Among (side_of i a).numbers (p, kind, n)) same (did_numbers app (side_of x a) (side_of y a) (p, kind, n) ((sides_of y there).sides a) g)
      )
      (
      λ z y a p u here there g low.
      let same : x ≡ z = same_scope x z (sym found ∙ here) in
      subst (λ (i : Scope K). Among (side_of i a).children (p, u)) same (did_children app (side_of x a) (side_of y a) (p, u) ((sides_of y there).sides a) g)
      )
    where
      lives : (x : Scope K) × (at w.scopes b ≡ Some x)
      lives = found_live (at w.scopes b) now.woven.stack.0

      x : Scope K
      x = lives.0

      found : at w.scopes b ≡ Some x
      found = lives.1

      did : StepDid app w b x step v work
      did = step_did app lawful w v b x step work found e

      keeps : Keeps (b ∷ []) [] w v
      keeps = keeps_of (b ∷ []) [] w v work (boundary_step app w b step) (item_leaves app w (Row b step)) e

      left : Since app lawful first root w rest
      left = since_rest app lawful first root w (Row b step) rest h

      later : Later w v
      later = subst (λ (o : Outcome K). LaterO w o) e (step_later app lawful w b step)

      scopes : v.next_scope ≡ w.next_scope
      scopes = later.next_scope

      numbers : w.next.elements ≤ v.next.elements
      numbers = later.rises.elements

      sides_of : (y : Scope K) → at v.scopes b ≡ Some y → StepSides app b step x y work
      sides_of y there = step_sides app w v b step x y work there did

      found_after : (y : Scope K) × (at v.scopes b ≡ Some y)
      found_after = found_live (at v.scopes b) (live_by w v b (keeps.stands b refl) ∙ now.woven.stack.0)

      did_after : StepSides app b step x found_after.0 work
      did_after = sides_of found_after.0 found_after.1

      more : (t : ℕ) → Awaits w rest t → Awaits w (Row b step ∷ rest) t
      more t (inl g) = inl (g.0, g.1, g.2, g.3, inr g.4, g.5)
      more t (inr g) = inr (g.0, g.1, g.2, inr g.3, g.4, g.5, g.6)

      not_feed : (a : SideName) (p : Place) (c : VComponent K) → (other : RowStep) × (Feed b a p c ≡ Row b other) → ⊥
      not_feed a p c is = let absurdity : Feed b a p c ≡ Row b is.0 = is.1 in cc

      which : (i : RowStep) (a : SideName) → (turns i ≡ Some a) ⊎ (turns i ≡ Some a → ⊥)
      which i a = one (turns i)
        where
          one : (o : Option SideName) → (o ≡ Some a) ⊎ (o ≡ Some a → ⊥)
          one None = inr (λ q. cc)
          one (Some d) = elim (one_side d a) [ inl q ↦ inl (ap (λ (k : SideName). Some k) q) | inr n ↦ inr (λ q. n (let same : Some d ≡ Some a = q in cc)) ]

      drops : (i : RowStep) → (i ≡ DropFallback) ⊎ (i ≡ DropFallback → ⊥)
      drops PatchChildren = inr (λ q. cc)
      drops MadeChildren = inr (λ q. cc)
      drops RunFallback = inr (λ q. cc)
      drops ShowFallback = inr (λ q. cc)
      drops ShowChildren = inr (λ q. cc)
      drops DropFallback = inl refl
      drops Resolve = inr (λ q. cc)

      row_link : (y z : Scope K) (a : SideName) → at v.scopes b ≡ Some y → at first.scopes b ≡ Some z → SideDid app (side_of x a) (side_of y a) → (turns step ≡ Some a) ⊎ (turns step ≡ Some a → ⊥) → (step ≡ DropFallback) ⊎ (step ≡ DropFallback → ⊥)
          → Link app lawful first.next_scope (side_of z a) (side_of y a)
      row_link y z a there begun d (inl turn) o = did_link app lawful first.next_scope (side_of z a) (side_of x a) (side_of y a) d (h.links b x z a found begun) (inl (h.waits b step a x z (inl refl) turn found begun))
      row_link y z a there begun d (inr n) (inr m) =
          did_link app lawful first.next_scope (side_of z a) (side_of x a) (side_of y a) d (h.links b x z a found begun) (inr ((sides_of y there).stays a n (λ q. m q.0)))
      row_link y z a there begun d (inr n) (inl q) =
          elim (one_side a FallbackSide) [
            | inl f ↦
                subst (λ (i : Side K). Link app lawful first.next_scope (side_of z a) i) (sym (ap (λ (i : SideName). side_of y i) f ∙ (sides_of y there).cleared q))
                (link_empty app lawful first.next_scope (side_of z a))
            | inr m ↦ did_link app lawful first.next_scope (side_of z a) (side_of x a) (side_of y a) d (h.links b x z a found begun) (inr ((sides_of y there).stays a n (λ r. m r.1)))
          ]

      row_waits : (other : RowStep) (a : SideName) (y z : Scope K) → at v.scopes b ≡ Some y → at first.scopes b ≡ Some z → turns other ≡ Some a → Among work (Row b other) ⊎ Among rest (Row b other) → side_of y a ≡ side_of z a
      row_waits other a y z there begun turn (inl g) =
          let rows = (sides_of y there).rows other g in rows.0 a ∙ h.waits b step a x z (inl refl) (rows.2 a turn) found begun
      row_waits other a y z there begun turn (inr g) =
          let ahead : clash step other ≡ false = every_among (λ (k : Item K). Ahead (Row b step) k) rest (Row b other) line.0 g refl in
          (sides_of y there).stays a (λ q. off_itself (clash step other) (turns_clash step other a q turn) ahead) (λ q. no_drop other ahead q.0 (turn ∙ ap (λ (k : SideName). Some k) q.1)) ∙ h.waits b other a x z (inr g) turn found begun
        where
          no_drop : (other : RowStep) → clash step other ≡ false → step ≡ DropFallback → turns other ≡ Some FallbackSide → ⊥
          no_drop other ahead q turn = fallback_behind other (sym (ap (λ (k : RowStep). clash k other) q) ∙ ahead) turn
            where
              fallback_behind : (i : RowStep) → clash DropFallback i ≡ false → turns i ≡ Some FallbackSide → ⊥
              fallback_behind PatchChildren f g = cc
              fallback_behind MadeChildren f g = cc
              fallback_behind RunFallback f g = cc
              fallback_behind ShowFallback f g = cc
              fallback_behind ShowChildren f g = cc
              fallback_behind DropFallback f g = cc
              fallback_behind Resolve f g = cc

      row_clear : (j : Item K) (other : RowStep) (a : SideName) → owner j ≡ b → item_side j ≡ Some a → turns other ≡ Some a → Among work j ⊎ Among rest j → Among work (Row b other) ⊎ Among rest (Row b other) → ⊥
      row_clear j other a o i turn (inr g) f =
          let is = behind_step w b step rest j now.woven.stack.2 g o in
          let absurdity : None ≡ Some a = sym (ap (λ (k : Item K). item_side k) is.1) ∙ i in
          cc
      row_clear j other a o i turn (inl g) (inl f) = let absurdity : None ≡ Some a = sym ((did_after.rows other f).1 j g) ∙ i in cc
      row_clear j other a o i turn (inl g) (inr f) =
          off_itself (clash step other) (turns_clash step other a (did_after.items j a g i) turn) (every_among (λ (k : Item K). Ahead (Row b step) k) rest (Row b other) line.0 f refl)

  module _ (settled : Settled first) where
    -- each node of an output had a number when the unit began
    had_number : (s : ℕ) (z : Scope K) (a : SideName) → at first.scopes s ≡ Some z → (p : Place) (k : Kind) → Among (spots_of (side_of z a).output) (node_at p k) → 0 < number_at (side_of z a).numbers p k
    had_number s z a there p k g = by_output (side_of z a).output refl g
      where
        by_output : (o : Option (Tree K)) → (side_of z a).output ≡ o → Among (spots_of o) (node_at p k) → 0 < number_at (side_of z a).numbers p k
        by_output None is g = absurd g
        by_output (Some tree) is g = elim ((settled.ready.stands).whole s z a tree p k there is g) [ inl d ↦ d | inr d ↦ absurd d ]

    -- a number is drawn
    pub draw_since : (w v : State K) (s : ℕ) (a : SideName) (p : Place) (kind : Kind) (rest work : List (Item K)) → Ready w (Draw s a p kind ∷ rest) → Ready v (work ++ rest) → Since app lawful first root w (Draw s a p kind ∷ rest)
        → draw_number w s a p kind ≡ Done v work → Since app lawful first root v (work ++ rest)
    draw_since w v s a p kind rest work now ready h e =
        subst (λ (xs : List (Item K)). Since app lawful first root v (xs ++ rest)) is.1
        (opened_since app lawful first root w v s (λ d. ⊥) [] rest (subst (λ (xs : List (Item K)). Ready v (xs ++ rest)) (sym is.1) ready) keeps left tt now.woven.stack.0 numbers scopes (h.inside (Draw s a p kind) (inl refl))
        (λ t b q c g kid. kid_before t b q kid)
        (λ t path aw c. h.apart t (Draw s a p kind) path (more t aw) (inl refl) c)
        (λ t u b path above side ok c alive. absurd ok)
        (λ t j b path above side ok g c. ok)
        (λ b q c g. absurd g)
        (λ step b g turn. absurd g)
        (λ y z b there begun. link_after y z b there begun (one_side b a))
        (
        λ step b y z g turn there begun.
        other_after y b there (λ same. h.clear (Draw s a p kind) s step a (inl refl) refl refl (inr g) (turn ∙ ap (λ (k : SideName). Some k) same)) ∙ left.waits s step b x z g turn found begun
        )
        (λ j step b g o i f turn. left.clear j s step b g o i f turn)
        (λ z y b q l n here there g low. number_before z y b q l n here there g low (one_side b a))
        (λ z y b q u here there g low. child_before z y b q u here there g (one_side b a)))
      where
        lives : (x : Scope K) × (at w.scopes s ≡ Some x)
        lives = found_live (at w.scopes s) now.woven.stack.0

        x : Scope K
        x = lives.0

        found : at w.scopes s ≡ Some x
        found = lives.1

        side : Side K
        side = record (side_of x a) { numbers = (side_of x a).numbers ++ (p, kind, w.next.elements) ∷ [] }

        is : (numbered w s a p kind ≡ v) × ([] ≡ work)
        is = drawn_is w (numbered w s a p kind) v work (IdsExhausted Elements) (at_end w.next.elements) e

        there_is : at v.scopes s ≡ Some (with_side x a side)
        there_is =
            subst (λ (u : State K). at u.scopes s ≡ Some (with_side x a side)) is.0
            (change_there (with_next w (record (w.next) { elements = w.next.elements + 1 })) s
            (λ z. with_side z a (record (side_of z a) { numbers = (side_of z a).numbers ++ (p, kind, w.next.elements) ∷ [] })) x found)

        keeps : Keeps (s ∷ []) [] w v
        keeps = keeps_of (s ∷ []) [] w v work (draw_number w s a p kind) (item_leaves app w (Draw s a p kind)) e

        left : Since app lawful first root w rest
        left = since_rest app lawful first root w (Draw s a p kind) rest h

        later : Later w v
        later = subst (λ (u : State K). Later w u) is.0 (numbered_later w s a p kind)

        numbers : w.next.elements ≤ v.next.elements
        numbers = later.rises.elements

        scopes : w.next_scope ≤ v.next_scope
        scopes = let same : v.next_scope ≡ w.next_scope = later.next_scope in omega (arith, same)

        more : (t : ℕ) → Awaits w rest t → Awaits w (Draw s a p kind ∷ rest) t
        more t (inl g) = inl (g.0, g.1, g.2, g.3, inr g.4, g.5)
        more t (inr g) = inr (g.0, g.1, g.2, inr g.3, g.4, g.5, g.6)

        is_new : (y : Scope K) → at v.scopes s ≡ Some y → with_side x a side ≡ y
        is_new y there = same_scope (with_side x a side) y (sym there_is ∙ there)

        here_after : (y : Scope K) → at v.scopes s ≡ Some y → side_of y a ≡ side
        here_after y there = ap (λ (i : Scope K). side_of i a) (sym (is_new y there)) ∙ that_side x a side

        other_after : (y : Scope K) (b : SideName) → at v.scopes s ≡ Some y → (b ≡ a → ⊥) → side_of y b ≡ side_of x b
        other_after y b there n = ap (λ (i : Scope K). side_of i b) (sym (is_new y there)) ∙ other_side x a b side n

        kid_before : (t : ℕ) (b : SideName) (q : Place) → child_at (kids v s b) q ≡ Some t → child_at (kids w s b) q ≡ Some t
        kid_before t b q kid =
            ap (λ (i : Side K). child_at i.children q) (side_found w s b x found)
            ∙ same_kids (one_side b a)
            ∙ sym (ap (λ (i : Side K). child_at i.children q) (side_found v s b (with_side x a side) there_is))
            ∙ kid
          where
            same_kids : (b ≡ a) ⊎ (b ≡ a → ⊥) → child_at (side_of x b).children q ≡ child_at (side_of (with_side x a side) b).children q
            same_kids (inl same) =
                ap (λ (i : SideName). child_at (side_of x i).children q) same
                ∙ sym (ap (λ (i : Side K). child_at i.children q) (that_side x a side))
                ∙ sym (ap (λ (i : SideName). child_at (side_of (with_side x a side) i).children q) same)
            same_kids (inr n) = sym (ap (λ (i : Side K). child_at i.children q) (other_side x a b side n))

        link_after : (y z : Scope K) (b : SideName) → at v.scopes s ≡ Some y → at first.scopes s ≡ Some z → (b ≡ a) ⊎ (b ≡ a → ⊥) → Link app lawful first.next_scope (side_of z b) (side_of y b)
        link_after y z b there begun (inl same) =
            subst (λ (i : SideName). Link app lawful first.next_scope (side_of z i) (side_of y i)) (sym same)
            (subst (λ (i : Side K). Link app lawful first.next_scope (side_of z a) i) (sym (here_after y there))
            (link_number app lawful first.next_scope (side_of z a) (side_of x a) (p, kind, w.next.elements) (λ q l g. had_number s z a begun q l g) (h.links s x z a found begun)))
        link_after y z b there begun (inr n) = subst (λ (i : Side K). Link app lawful first.next_scope (side_of z b) i) (sym (other_after y b there n)) (h.links s x z b found begun)

        number_before : (z y : Scope K) (b : SideName) (q : Place) (l : Kind) (n : ℕ) → at w.scopes s ≡ Some z → at v.scopes s ≡ Some y → Among (side_of y b).numbers (q, l, n) → n < first.next.elements → (b ≡ a) ⊎ (b ≡ a → ⊥)
            → Among (side_of z b).numbers (q, l, n)
        number_before z y b q l n here there g low (inl same) =
            let one : x ≡ z = same_scope x z (sym found ∙ here) in
            let now_there : Among side.numbers (q, l, n) = subst (λ (i : Side K). Among i.numbers (q, l, n)) (here_after y there) (subst (λ (i : SideName). Among (side_of y i).numbers (q, l, n)) same g) in
            elim (among_push (side_of x a).numbers (p, kind, w.next.elements) (q, l, n) now_there) [
              | inl d ↦ subst (λ (i : SideName). Among (side_of z i).numbers (q, l, n)) (sym same) (subst (λ (i : Scope K). Among (side_of i a).numbers (q, l, n)) one d)
              | inr d ↦ (let is_it : n ≡ w.next.elements = ap (λ (i : Place × Kind × ℕ). i.2) d in let high = h.elements in absurd (omega (arith, is_it, low, high)))
            ]
        number_before z y b q l n here there g low (inr m) =
            let one : x ≡ z = same_scope x z (sym found ∙ here) in
            subst (λ (i : Scope K). Among (side_of i b).numbers (q, l, n)) one (subst (λ (i : Side K). Among i.numbers (q, l, n)) (other_after y b there m) g)

        child_before : (z y : Scope K) (b : SideName) (q : Place) (u : ℕ) → at w.scopes s ≡ Some z → at v.scopes s ≡ Some y → Among (side_of y b).children (q, u) → (b ≡ a) ⊎ (b ≡ a → ⊥) → Among (side_of z b).children (q, u)
        child_before z y b q u here there g (inl same) =
            let one : x ≡ z = same_scope x z (sym found ∙ here) in
            let now_there : Among (side_of x a).children (q, u) = subst (λ (i : Side K). Among i.children (q, u)) (here_after y there) (subst (λ (i : SideName). Among (side_of y i).children (q, u)) same g) in
            subst (λ (i : SideName). Among (side_of z i).children (q, u)) (sym same) (subst (λ (i : Scope K). Among (side_of i a).children (q, u)) one now_there)
        child_before z y b q u here there g (inr m) =
            let one : x ≡ z = same_scope x z (sym found ∙ here) in
            subst (λ (i : Scope K). Among (side_of i b).children (q, u)) one (subst (λ (i : Side K). Among i.children (q, u)) (other_after y b there m) g)
