-- What inputs make of two models that answer alike answers alike, and no number comes.
use Rattle.std.proofs.Common.{ℕ, Bool, true, false, ◌&&◌, not, List, [], ◌∷◌, ◌≡◌, refl, sym, ap, ◌∙◌, map, nat_eq, nat_lt}
use Rattle.std.proofs.lemmas.Bool.{eqb-true}
use Rattle.std.specs.Prelude.{Option, Some, None, if◌then◌else◌}
use Rattle.rt_model.specs.Lists.{at}
use Rattle.rt_model.specs.Tree.{Types}
use Rattle.rt_model.specs.World.{Event}
use Rattle.rt_model.specs.State.{State}
use Rattle.rt_model.specs.Heard.{Listener}
use Rattle.rt_model.specs.Replay.{Input, EventAt, WakeOf, WriteOf, MarkOf, Drain}
use Rattle.rt_model.proofs.Maps.{by_test, pick_true, pick_false, at_put_here, at_put_other}
use Rattle.author_programs.specs.Pages.{Pages}
use Rattle.law_pages.specs.Updates.{Model, put_where, written, read_in, update, updates}
use Rattle.law_reduce.specs.Reduces.{hearers, reduce}

module _ {V : Type 0} where
  -- each number has the same value in both
  abbrev pub Alike : List (ℕ × V) → List (ℕ × V) → Type 0
  Alike m x = (n : ℕ) → at m n ≡ at x n

  -- what stands under a number after a write: by what stood under its number, and under this one
  abbrev pub after_put : V → Option V → Option V → Bool → Option V
  after_put v None there same = there
  after_put v (Some old) there same = if same then Some v else there

  pub put_at : (m : List (ℕ × V)) (n : ℕ) (v : V) (o : Option V) (c : ℕ) → at (put_where m n v o) c ≡ after_put v o (at m c) (nat_eq n c)
  put_at m n v None c = refl
  put_at m n v (Some old) c =
      by_test (nat_eq n c)
      (λ q. at_put_here m n v c q ∙ sym (pick_true (Some v) (at m c) q))
      (λ q. at_put_other m n v c q ∙ sym (pick_false (Some v) (at m c) q))

  put_alike : (m x : List (ℕ × V)) (n : ℕ) (v : V) → Alike m x → Alike (put_where m n v (at m n)) (put_where x n v (at x n))
  put_alike m x n v h = λ c.
      put_at m n v (at m n) c
      ∙ ap (λ (o : Option V). after_put v o (at m c) (nat_eq n c)) (h n)
      ∙ ap (λ (o : Option V). after_put v (at x n) o (nat_eq n c)) (h c)
      ∙ sym (put_at x n v (at x n) c)

  written_alike : (es : List (ℕ × V)) (m x : List (ℕ × V)) → Alike m x → Alike (written m es) (written x es)
  written_alike [] m x h = h
  written_alike (e ∷ es) m x h =
      written_alike es (put_where m e.0 e.1 (at m e.0)) (put_where x e.0 e.1 (at x e.0)) (put_alike m x e.0 e.1 h)

  reads_alike : (m x : List (ℕ × V)) (drawn : ℕ) (ns : List ℕ) → Alike m x → map (read_in m drawn) ns ≡ map (read_in x drawn) ns
  reads_alike m x drawn [] h = refl
  reads_alike m x drawn (n ∷ ns) h = λ i. (if nat_lt n drawn then h n i else None) ∷ reads_alike m x drawn ns h i

  -- a number that isn't there doesn't come
  put_none : (m : List (ℕ × V)) (n : ℕ) (v : V) (c : ℕ) → at m c ≡ None → at (put_where m n v (at m n)) c ≡ None
  put_none m n v c none = put_at m n v (at m n) c ∙ on (at m n) refl
    where
      on : (o : Option V) → at m n ≡ o → after_put v o (at m c) (nat_eq n c) ≡ None
      on None e = none
      on (Some old) e =
          by_test (nat_eq n c)
          (
          λ q.
          let there : Some old ≡ None = sym e ∙ ap (λ (k : ℕ). at m k) (eqb-true n c q) ∙ none in
          cc
          )
          (λ q. pick_false (Some v) (at m c) q ∙ none)

  written_none : (es : List (ℕ × V)) (m : List (ℕ × V)) (c : ℕ) → at m c ≡ None → at (written m es) c ≡ None
  written_none [] m c h = h
  written_none (e ∷ es) m c h = written_none es (put_where m e.0 e.1 (at m e.0)) c (put_none m e.0 e.1 c h)

module _ {K : Types} (a : Pages K) where
  update_alike : (h : K.Handler) (e : Event K) (drawn : ℕ) (m x : Model K) → Alike m x → Alike (update a h e drawn m) (update a h e drawn x)
  update_alike h e drawn m x alike = λ c.
      ap (λ (vs : List (Option K.Value)). at (written m ((a.reply h e).writes vs)) c) (reads_alike m x drawn (a.reply h e).reads alike)
      ∙ written_alike ((a.reply h e).writes (map (read_in x drawn) (a.reply h e).reads)) m x alike c

  either_alike : (b : Bool) (m x n y : Model K) → Alike m x → Alike n y → Alike (if b then m else n) (if b then x else y)
  either_alike true m x n y f g = f
  either_alike false m x n y f g = g

  updates_alike : (bubbles : Bool) (drawn : ℕ) (ls : List (Listener K)) (e : Event K) (m x : Model K) → Alike m x → Alike (updates a bubbles drawn ls e m) (updates a bubbles drawn ls e x)
  updates_alike bubbles drawn [] e m x alike = alike
  updates_alike bubbles drawn (l ∷ ls) e m x alike =
      let left : Event K = (a.reply l.handler e).leaves in
      let once = update_alike l.handler e drawn m x alike in
      either_alike (bubbles && not left.propagates)
      (update a l.handler e drawn m) (update a l.handler e drawn x)
      (updates a bubbles drawn ls left (update a l.handler e drawn m)) (updates a bubbles drawn ls left (update a l.handler e drawn x))
      once
      (updates_alike bubbles drawn ls left (update a l.handler e drawn m) (update a l.handler e drawn x) once)

  pub reduce_alike : (w : State K) (input : Input K) (m x : Model K) → Alike m x → Alike (reduce a w input m) (reduce a w input x)
  reduce_alike w (EventAt name payload element bubbles) m x alike =
      updates_alike bubbles w.next.cells (hearers w name element bubbles) (record { payload = payload; propagates = bubbles; prevented = false }) m x alike
  reduce_alike w (WriteOf n v) m x alike = put_alike m x n v alike
  reduce_alike w (WakeOf t) m x alike = alike
  reduce_alike w (MarkOf s) m x alike = alike
  reduce_alike w (Drain messages) m x alike = alike

  either_none : (b : Bool) (m n : Model K) (c : ℕ) → at m c ≡ None → at n c ≡ None → at (if b then m else n) c ≡ None
  either_none true m n c f g = f
  either_none false m n c f g = g

  updates_none : (bubbles : Bool) (drawn : ℕ) (ls : List (Listener K)) (e : Event K) (m : Model K) (c : ℕ) → at m c ≡ None → at (updates a bubbles drawn ls e m) c ≡ None
  updates_none bubbles drawn [] e m c h = h
  updates_none bubbles drawn (l ∷ ls) e m c h =
      let left : Event K = (a.reply l.handler e).leaves in
      let once = written_none ((a.reply l.handler e).writes (map (read_in m drawn) (a.reply l.handler e).reads)) m c h in
      either_none (bubbles && not left.propagates) (update a l.handler e drawn m) (updates a bubbles drawn ls left (update a l.handler e drawn m)) c
      once
      (updates_none bubbles drawn ls left (update a l.handler e drawn m) c once)

  pub reduce_none : (w : State K) (input : Input K) (m : Model K) (c : ℕ) → at m c ≡ None → at (reduce a w input m) c ≡ None
  reduce_none w (EventAt name payload element bubbles) m c h =
      updates_none bubbles w.next.cells (hearers w name element bubbles) (record { payload = payload; propagates = bubbles; prevented = false }) m c h
  reduce_none w (WriteOf n v) m c h = put_none m n v c h
  reduce_none w (WakeOf t) m c h = h
  reduce_none w (MarkOf s) m c h = h
  reduce_none w (Drain messages) m c h = h
