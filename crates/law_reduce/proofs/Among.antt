-- Two models that answer alike for some numbers: what inputs make of them does so too, where listeners read no others.
use Rattle.std.proofs.Common.{ℕ, Bool, true, false, ◌&&◌, not, List, [], ◌∷◌, ◌≡◌, refl, sym, ap, ◌∙◌, map, nat_eq, nat_lt}
use Rattle.std.proofs.lemmas.Bool.{eqb-true}
use Rattle.std.specs.Prelude.{Option, Some, None, if◌then◌else◌}
use Rattle.std.specs.List.{AllByRecursion}
use Rattle.rt_model.specs.Lists.{at, has}
use Rattle.rt_model.specs.Tree.{Types}
use Rattle.rt_model.specs.World.{Event}
use Rattle.rt_model.specs.State.{State}
use Rattle.rt_model.specs.Heard.{Listener}
use Rattle.rt_model.specs.Replay.{Input, EventAt, WakeOf, WriteOf, MarkOf, Drain}
use Rattle.rt_model.proofs.Maps.{by_test}
use Rattle.author_programs.specs.Pages.{Pages}
use Rattle.law_pages.specs.Updates.{Model, put_where, written, read_in, update, updates}
use Rattle.law_reduce.specs.Elm.{ReadsAmong, HearersRead}
use Rattle.law_reduce.specs.Reduces.{hearers, reduce}
use Rattle.law_reduce.proofs.Alike.{after_put, put_at}

module _ {V : Type 0} (own : List ℕ) where
  -- each of these numbers has the same value in both
  abbrev pub AlikeOn : List (ℕ × V) → List (ℕ × V) → Type 0
  AlikeOn m x = (n : ℕ) → has own n ≡ true → at m n ≡ at x n

  after_other : (v : V) (o there : Option V) → after_put v o there false ≡ there
  after_other v None there = refl
  after_other v (Some old) there = refl

  -- another number keeps its value, and the number itself is there in both or in none
  put_among : (m x : List (ℕ × V)) (n : ℕ) (v : V) → AlikeOn m x → AlikeOn (put_where m n v (at m n)) (put_where x n v (at x n))
  put_among m x n v h = λ c q.
      let here : at m c ≡ at x c = h c q in
      put_at m n v (at m n) c
      ∙ by_test (nat_eq n c)
      (
      λ same.
      let is : n ≡ c = eqb-true n c same in
      let there : at m n ≡ at x n = ap (λ (i : ℕ). at m i) is ∙ here ∙ sym (ap (λ (i : ℕ). at x i) is) in
      ap (λ (o : Option V). after_put v o (at m c) (nat_eq n c)) there ∙ ap (λ (o : Option V). after_put v (at x n) o (nat_eq n c)) here
      )
      (
      λ other.
      ap (λ (b : Bool). after_put v (at m n) (at m c) b) other
      ∙ after_other v (at m n) (at m c)
      ∙ here
      ∙ sym (after_other v (at x n) (at x c))
      ∙ sym (ap (λ (b : Bool). after_put v (at x n) (at x c) b) other)
      )
      ∙ sym (put_at x n v (at x n) c)

  written_among : (es : List (ℕ × V)) (m x : List (ℕ × V)) → AlikeOn m x → AlikeOn (written m es) (written x es)
  written_among [] m x h = h
  written_among (e ∷ es) m x h =
      written_among es (put_where m e.0 e.1 (at m e.0)) (put_where x e.0 e.1 (at x e.0)) (put_among m x e.0 e.1 h)

  pub reads_among : (m x : List (ℕ × V)) (drawn : ℕ) (ns : List ℕ) → AllByRecursion (λ (n : ℕ). has own n ≡ true) ns → AlikeOn m x → map (read_in m drawn) ns ≡ map (read_in x drawn) ns
  reads_among m x drawn [] among h = refl
  reads_among m x drawn (n ∷ ns) among h = λ i. (if nat_lt n drawn then h n among.0 i else None) ∷ reads_among m x drawn ns among.1 h i

module _ {K : Types} (a : Pages K) (own : List ℕ) where
  update_among : (l : Listener K) → ReadsAmong a own l → (e : Event K) (drawn : ℕ) (m x : Model K) → AlikeOn own m x → AlikeOn own (update a l.handler e drawn m) (update a l.handler e drawn x)
  update_among l reads e drawn m x alike = λ c q.
      ap (λ (vs : List (Option K.Value)). at (written m ((a.reply l.handler e).writes vs)) c) (reads_among own m x drawn (a.reply l.handler e).reads (reads e) alike)
      ∙ written_among own ((a.reply l.handler e).writes (map (read_in x drawn) (a.reply l.handler e).reads)) m x alike c q

  either_among : (b : Bool) (m x n y : Model K) → AlikeOn own m x → AlikeOn own n y → AlikeOn own (if b then m else n) (if b then x else y)
  either_among true m x n y f g = f
  either_among false m x n y f g = g

  updates_among : (bubbles : Bool) (drawn : ℕ) (ls : List (Listener K)) → AllByRecursion (λ (l : Listener K). ReadsAmong a own l) ls → (e : Event K) (m x : Model K) → AlikeOn own m x → AlikeOn own (updates a bubbles drawn ls e m) (updates a bubbles drawn ls e x)
  updates_among bubbles drawn [] reads e m x alike = alike
  updates_among bubbles drawn (l ∷ ls) reads e m x alike =
      let left : Event K = (a.reply l.handler e).leaves in
      let once = update_among l reads.0 e drawn m x alike in
      either_among (bubbles && not left.propagates)
      (update a l.handler e drawn m) (update a l.handler e drawn x)
      (updates a bubbles drawn ls left (update a l.handler e drawn m)) (updates a bubbles drawn ls left (update a l.handler e drawn x))
      once
      (updates_among bubbles drawn ls reads.1 left (update a l.handler e drawn m) (update a l.handler e drawn x) once)

  pub reduce_among : (w : State K) (input : Input K) → HearersRead a own w input → (m x : Model K) → AlikeOn own m x → AlikeOn own (reduce a w input m) (reduce a w input x)
  reduce_among w (EventAt name payload element bubbles) reads m x alike =
      updates_among bubbles w.next.cells (hearers w name element bubbles) reads (record { payload = payload; propagates = bubbles; prevented = false }) m x alike
  reduce_among w (WriteOf n v) reads m x alike = put_among own m x n v alike
  reduce_among w (WakeOf t) reads m x alike = alike
  reduce_among w (MarkOf s) reads m x alike = alike
  reduce_among w (Drain messages) reads m x alike = alike
