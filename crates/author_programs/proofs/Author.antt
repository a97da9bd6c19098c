-- What an author may conclude of a write and of an event.
use Rattle.std.proofs.Common.{ℕ, Bool, true, false, ◌&&◌, List, [], ◌∷◌, ◌++◌, ◌≡◌, inl, inr, refl, sym, ap, subst, ◌∙◌, length, nat_eq, append-nil}
use Rattle.std.specs.Prelude.{◌⊎◌, Option, Some, None, if◌then◌else◌}
use Rattle.std.specs.List.{AllByRecursion}
use Rattle.rt_lemmas.proofs.Bools.{and_left as and-first}
use Rattle.rt_model.specs.Commands.{names_source, readers, post_target, tell_contexts, tell, written_at, write_cell}
use Rattle.rt_model.specs.Current.{AllCurrent}
use Rattle.rt_model.specs.Heard.{Listener, Climb, matches, find_within, heard, heard_on, listener_of, is_listener, all_matching, first_matching, first_listener, climbing, bubbling, in_order, at_target}
use Rattle.rt_model.specs.Lists.{Text, at, put, backwards}
use Rattle.rt_model.specs.State.{State, Scope, CellRow, ContextRow, Mark}
use Rattle.rt_model.specs.Told.{Told}
use Rattle.rt_model.specs.Tree.{Types, Attribute, AttributeValue, listener, text_value, no_value}
use Rattle.rt_model.specs.World.{Source, Cell}
use Rattle.author_programs.specs.Author.{Among, IsUnread, InSlot, InSlots, StandsOn, StandsAbove, UnreadRunsNothing, HeardFromBelow, ReportsShowPages}
use Rattle.author_programs.specs.Cells.{Keeping}
use Rattle.author_programs.specs.Pages.{Pages, meaning_of_pages}
use Rattle.author_programs.specs.Present.{PagesShow}
use Rattle.author_programs.proofs.Present.{current-pages-show}

either : {A B C : Type 0} → (A → C) → (B → C) → A ⊎ B → C
either f g (inl a) = f a
either f g (inr b) = g b

-- what is among two lists is among the first or among the second
parted : {A : Type 0} (a : A) (xs ys : List A) → Among a (xs ++ ys) → Among a xs ⊎ Among a ys
parted a [] ys h = inr h
parted a (x ∷ xs) ys h = either (λ is. inl (inl is)) (λ rest. either (λ first. inl (inr first)) (λ second. inr second) (parted a xs ys rest)) h

-- nothing is put in front where the test fails
by-test : {P : Type 0} (m : P) (b : Bool) (rest : List P) → b ≡ false → rest ≡ [] → (if b then m ∷ rest else rest) ≡ []
by-test m true rest bad none = cc
by-test m false rest bad none = none

module _ {K : Types} where
  no-readers : (x : Source) (es : List (ℕ × Scope K)) → AllByRecursion (λ (e : ℕ × Scope K). names_source (e.1).reads x ≡ false) es → readers x es ≡ []
  no-readers x [] h = refl
  no-readers x (e ∷ es) h = by-test (Mark e.0) (names_source (e.1).reads x) (readers x es) h.0 (no-readers x es h.1)

  no-contexts : (x : Source) (es : List (ℕ × ContextRow K)) (w : State K) → AllByRecursion (λ (e : ℕ × ContextRow K). names_source (e.1).sources x ≡ false) es → tell_contexts x es w ≡ w
  no-contexts x [] w h = refl
  no-contexts x (e ∷ es) w h =
      ap (λ (b : Bool). tell_contexts x es (if b then post_target w (e.1).target else w)) h.0 ∙ no-contexts x es w h.1

  untold : (w : State K) (x : Source) → IsUnread w x → tell w x ≡ w
  untold w x h =
      no-contexts x w.contexts (record w { posted = w.posted ++ readers x w.scopes }) h.contexts
      ∙ ap (λ ps. record w { posted = ps }) (ap (λ ms. w.posted ++ ms) (no-readers x w.scopes h.scopes) ∙ append-nil w.posted)

  written : (w : State K) (n : ℕ) (v : K.Value) (o : Option (CellRow K)) → IsUnread w (Cell n)
      → written_at w n v o ≡ record w { cells = (written_at w n v o).cells }
  written w n v None h = refl
  written w n v (Some old) h =
      let after : State K = record w { cells = put w.cells n (record old { value = v }) } in
      let same : tell after (Cell n) ≡ after = untold after (Cell n) (record { scopes = h.scopes; contexts = h.contexts }) in
      same ∙ ap (λ cells. record w { cells = cells }) (sym (ap (λ (u : State K). u.cells) same))

  on-value : (l : Listener K) (value : AttributeValue K) → Among l (listener_of value) → value ≡ listener l.origin l.handler
  on-value l (listener origin handler) h = either (λ (is : _). ap (λ (m : Listener K). listener m.origin m.handler) (sym is)) (λ none. absurd none) h
  on-value l (text_value text) h = absurd h
  on-value l no_value h = absurd h

  if-heard : (b : Bool) (l : Listener K) (value : AttributeValue K) (rest : List (Listener K)) → Among l (if b then listener_of value else rest)
      → ((b ≡ true) × (value ≡ listener l.origin l.handler)) ⊎ Among l rest
  if-heard true l value rest h = inl (refl, on-value l value h)
  if-heard false l value rest h = inr h

  in-all : (l : Listener K) (event : Text) (slot : List (Attribute K)) → Among l (all_matching event slot) → InSlot l event slot
  in-all l event [] h = absurd h
  in-all l event (a ∷ rest) h =
      either (λ later. inr (in-all l event rest later))
      (λ here. either (λ is. inl is) (λ none. absurd none) (if-heard (matches a.name event) l a.value [] here))
      (parted l (all_matching event rest) (if matches a.name event then listener_of a.value else []) h)

  in-first : (l : Listener K) (event : Text) (slot : List (Attribute K)) → Among l (first_matching event slot) → InSlot l event slot
  in-first l event [] h = absurd h
  in-first l event (a ∷ rest) h =
      either (λ is. inl is) (λ later. inr (in-first l event rest later)) (if-heard (matches a.name event) l a.value (first_matching event rest) h)

  in-listener : (l : Listener K) (event : Text) (slot : List (Attribute K)) → Among l (first_listener event slot) → InSlot l event slot
  in-listener l event [] h = absurd h
  in-listener l event (a ∷ rest) h =
      either (λ is. inl (and-first (matches a.name event) (is_listener a.value) is.0, is.1)) (λ later. inr (in-listener l event rest later))
      (if-heard (matches a.name event && is_listener a.value) l a.value (first_listener event rest) h)

  in-backwards : (l : Listener K) (event : Text) (of : List (Attribute K) → List (Listener K)) → ((slot : List (Attribute K)) → Among l (of slot) → InSlot l event slot)
      → (slots : List (List (Attribute K))) → Among l (backwards of slots) → InSlots l event slots
  in-backwards l event of one [] h = absurd h
  in-backwards l event of one (a ∷ slots) h =
      either (λ later. inr (in-backwards l event of one slots later)) (λ here. inl (one a here)) (parted l (backwards of slots) (of a) h)

  in-order : (l : Listener K) (event : Text) (slots : List (List (Attribute K))) → Among l (in_order event slots) → InSlots l event slots
  in-order l event [] h = absurd h
  in-order l event (a ∷ slots) h =
      either (λ here. inl (in-listener l event a here)) (λ later. inr (in-order l event slots later)) (parted l (first_listener event a) (in_order event slots) h)

  on-climb : (l : Listener K) (event : Text) (found : Climb K) → Among l (climbing event found) → StandsOn l event found
  on-climb l event [] h = absurd h
  on-climb l event (slots ∷ above) h =
      either (λ here. inl (in-backwards l event (λ a. all_matching event a) (λ a. in-all l event a) slots here)) (λ later. inr (on-climb l event above later))
      (parted l (backwards (λ a. all_matching event a) slots) (climbing event above) h)

  on-bubble : (l : Listener K) (event : Text) (found : Climb K) → Among l (bubbling event found) → StandsOn l event found
  on-bubble l event [] h = absurd h
  on-bubble l event (slots ∷ above) h =
      either (λ here. inl (in-backwards l event (λ a. first_matching event a) (λ a. in-first l event a) slots here)) (λ later. inr (on-climb l event above later))
      (parted l (backwards (λ a. first_matching event a) slots) (climbing event above) h)

  on-target : (l : Listener K) (event : Text) (found : Climb K) → Among l (at_target event found) → StandsOn l event found
  on-target l event [] h = absurd h
  on-target l event (slots ∷ above) h = inl (in-order l event slots h)

  on-found : (w : State K) (l : Listener K) (event : Text) (element : ℕ) (bubbles : Bool) (o : Option (Climb K))
      → find_within w element (length w.scopes) 0 ≡ o → Among l (heard_on event bubbles o) → StandsAbove w l event element
  on-found w l event element true None is h = absurd h
  on-found w l event element false None is h = absurd h
  on-found w l event element true (Some found) is h = record { climb = found; found = is; stands = on-bubble l event found h }
  on-found w l event element false (Some found) is h = record { climb = found; found = is; stands = on-target l event found h }

  nowhere : (l : Listener K) (event : Text) (bubbles : Bool) → Among l (heard_on event bubbles None) → ⊥
  nowhere l event true h = h
  nowhere l event false h = h

  by-element : (w : State K) (l : Listener K) (event : Text) (element : ℕ) (bubbles zero : Bool)
      → Among l (heard_on event bubbles (if zero then None else find_within w element (length w.scopes) 0)) → StandsAbove w l event element
  by-element w l event element bubbles true h = absurd (nowhere l event bubbles h)
  by-element w l event element bubbles false h = on-found w l event element bubbles (find_within w element (length w.scopes) 0) refl h

  all-show : (k : Keeping K.Value) (a : Pages K) (rs : List (Told K))
      → AllByRecursion (λ (r : Told K). AllCurrent (meaning_of_pages k a) (r.machine).state) rs
      → AllByRecursion (λ (r : Told K). PagesShow k a (r.machine).state) rs
  all-show k a [] h = tt
  all-show k a (r ∷ rs) h = (current-pages-show K k a (r.machine).state h.0, all-show k a rs h.1)

pub unread-runs-nothing : (K : Types) → UnreadRunsNothing K
unread-runs-nothing K w n v h = written w n v (at w.cells n) h

pub heard-from-below : (K : Types) → HeardFromBelow K
heard-from-below K w event element bubbles l h = by-element w l event element bubbles (nat_eq element 0) h

pub reports-show-pages : (K : Types) → ReportsShowPages K
reports-show-pages K k a props inputs limits taken reports h = all-show k a h.told h.holds.current
