-- One more command, read or context of a call.
use Rattle.std.proofs.Common.{ℕ, true, List, [], ◌∷◌, ◌++◌, ◌≡◌, ◌-◌, length, refl, sym, ap, ◌∙◌, arith}
use Rattle.std.proofs.lemmas.List.{map-append}
use Rattle.std.specs.Prelude.{suc, Option, Some, None, MatchOption}
use Rattle.std.specs.List.{slice_get}
use Rattle.rt_model.specs.Tree.{Types}
use Rattle.rt_model.specs.World as model
use Rattle.rt_model.specs.Program as program
use Rattle.rt_model.specs.Program.{left_behind, noted_at, noted}
use Rattle.rt_cells.specs.declared.contexts.ReactiveContext.{ReactiveContext}
use Rattle.rt_cells.specs.declared.sources.Source.{Source}
use Rattle.run_records.specs.Records.{gathered, in_front, source_of, command_of}
use Rattle.author_calls.specs.Calls.{contexts_of, and_cell, and_provided, call_of}
use Rattle.run_records.proofs.Gathered.{gathered-more, gathered-none}
use Rattle.author_calls.specs.Steps.{with_command, asked}
use Rattle.author_calls.specs.Turn.{Call}
use Rattle.run_records.specs.declared.command.Command.{Command}

module _ {P C Q V H T E L : Type 0} where
  -- the call after one more command
  pub said : (c : Call P C Q V H T E L) (m : Command P C Q V H T E L) → call_of (with_command c m) ≡ asked c m
  said c m =
      λ i. record (call_of c) {
        cells = gathered-more and_cell c.commands m [] i;
        provided = gathered-more (and_provided c.world.scope.0) c.commands m [] i;
        commands = map-append command_of c.commands (m ∷ []) i;
      }

  -- the call after one more read
  pub read-more : (c : Call P C Q V H T E L) (x : Source) → call_of (record c { reads = c.reads ++ x ∷ [] }) ≡ record (call_of c) { reads = source_of x ∷ (call_of c).reads }
  read-more c x = λ i. record (call_of c) { reads = gathered-more (in_front source_of) c.reads x [] i }

  -- the call after one more read aside
  pub aside-more : (c : Call P C Q V H T E L) (x : Source) → call_of (record c { aside = c.aside ++ x ∷ [] }) ≡ record (call_of c) { aside = source_of x ∷ (call_of c).aside }
  aside-more c x = λ i. record (call_of c) { aside = gathered-more (in_front source_of) c.aside x [] i }

  -- the call after one more context was entered
  pub into-more : (c : Call P C Q V H T E L) (r : ReactiveContext) → call_of (record c { into = c.into ++ r ∷ [] }) ≡ record (call_of c) { into = r.0 ∷ (call_of c).into }
  into-more c r = λ i. record (call_of c) { into = gathered-more (in_front (λ (k : ReactiveContext). k.0)) c.into r [] i }

-- the last item stands in front
newest-last : {X Y : Type 0} (f : X → Y) (xs : List X) (r : X) (a : List Y) → slice_get xs (length xs - 1) ≡ Some r → (rest : List Y) × (gathered (in_front f) xs a ≡ f r ∷ rest)
unfolding gathered
newest-last f [] r a h = absurd (cc)
newest-last f (x ∷ []) r a h = let same : x ≡ r = cc in (a, ap (λ y. f y ∷ a) same)
newest-last f (x ∷ y ∷ ys) r a h =
    let e : length (x ∷ y ∷ ys) - 1 ≡ suc (length (y ∷ ys) - 1) = omega arith in
    newest-last f (y ∷ ys) r (f x ∷ a) (sym (ap (slice_get (x ∷ y ∷ ys)) e) ∙ h)

-- there is none
none-last : {X : Type 0} (xs : List X) → slice_get xs (length xs - 1) ≡ None → xs ≡ []
none-last [] h = refl
none-last (x ∷ []) h = absurd (cc)
none-last (x ∷ y ∷ ys) h =
    let e : length (x ∷ y ∷ ys) - 1 ≡ suc (length (y ∷ ys) - 1) = omega arith in
    let no : y ∷ ys ≡ [] = none-last (y ∷ ys) (sym (ap (slice_get (x ∷ y ∷ ys)) e) ∙ h) in
    absurd (cc)

-- the context that was entered last
pub last-is : (xs : List ReactiveContext) (found : Option ReactiveContext) → found ≡ slice_get xs (length xs - 1)
    → MatchOption found (contexts_of xs ≡ []) (λ r. contexts_of xs ≡ r.0 ∷ left_behind (contexts_of xs))
last-is xs None h = ap contexts_of (none-last xs (sym h)) ∙ gathered-none (in_front (λ (k : ReactiveContext). k.0)) []
last-is xs (Some r) h =
    let front = newest-last (λ (k : ReactiveContext). k.0) xs r [] (sym h) in
    front.1 ∙ ap (λ ns. r.0 ∷ left_behind ns) (sym front.1)

-- the last context is left
pub left-is : (before after : List ReactiveContext) (popped : Option ReactiveContext) → MatchOption popped ((before ≡ []) × (after ≡ [])) (λ r. before ≡ after ++ r ∷ [])
    → contexts_of after ≡ left_behind (contexts_of before)
left-is before after None h =
    let none : contexts_of [] ≡ [] = gathered-none (in_front (λ (k : ReactiveContext). k.0)) [] in
    ap contexts_of h.1 ∙ none ∙ ap left_behind (sym (ap contexts_of h.0 ∙ none))
left-is before after (Some r) h =
    ap left_behind (sym (ap contexts_of h ∙ gathered-more (in_front (λ (k : ReactiveContext). k.0)) after r []))

module _ {K : Types} where
  -- reads go to the context that was entered last
  pub noted-into : (c : program.Call K) (x : model.Source) (n : ℕ) (ns : List ℕ) → c.into ≡ n ∷ ns → noted_at c x (n ∷ []) true ≡ noted c x
  noted-into c x n ns h = ap (λ k. noted_at c x k c.in_body) (sym h)

  -- where none is entered they are the call's own
  pub noted-here : (c : program.Call K) (x : model.Source) → c.into ≡ [] → noted_at c x [] c.in_body ≡ noted c x
  noted-here c x h = ap (λ k. noted_at c x k c.in_body) (sym h)

-- one more of each
pub ruleset more = (said, read-more, aside-more, into-more)

-- what is entered and left
pub ruleset entering = (last-is, left-is)

-- where a read is noted
pub ruleset noting = (noted-into, noted-here)
