-- A scope of a page that is current shows what its page's function gives of the present values.
use Rattle.std.proofs.Common.{ℕ, Bool, true, false, ◌||◌, ◌&&◌, not, List, [], ◌∷◌, ◌≡◌, refl, sym, ap, subst, ◌∙◌, map, length, nat_eq, nat_lt}
use Rattle.std.specs.Prelude.{Option, Some, None, if◌then◌else◌}
use Rattle.std.specs.List.{AllByRecursion}
use Rattle.std.proofs.lemmas.Bool.{eqb-true}
use Rattle.rt_lemmas.proofs.Options.{some_same as some-is}
use Rattle.rt_lemmas.proofs.Bools.{or_right as or-right}
use Rattle.rt_model.specs.Commands.{names_source}
use Rattle.rt_model.specs.Current.{AllCurrent, IsCurrent, CurrentAs, BodyIsCurrent, KeepsAnswer, Repeats, is_aside, world_again, again}
use Rattle.rt_model.specs.Lists.{at}
use Rattle.rt_model.specs.Program.{Call, begun, noted, noted_at, past_hook, body_means}
use Rattle.rt_model.specs.Run.{body_of}
use Rattle.rt_model.specs.State.{State, Scope, LastCall, values_of}
use Rattle.rt_model.specs.Tree.{Types, VComponent, Own, Tree, Element, rendered}
use Rattle.rt_model.specs.World.{World, Source, Cell, Meaning, Application}
use Rattle.rt_model.proofs.Maps.{eq_same}
use Rattle.author_programs.specs.Came.{Came, came}
use Rattle.author_programs.specs.Cells.{Keeping}
use Rattle.author_programs.specs.Pages.{Page, Pages, page_body, meaning_of_pages}
use Rattle.author_programs.specs.Present.{value_now, CurrentPagesShow}
use Rattle.author_programs.specs.Reads.{read_call}
use Rattle.author_programs.specs.Shows.{KeepAll, present}
use Rattle.author_programs.proofs.Goes.{exec-came}
use Rattle.author_programs.proofs.Shows.{after_hooks, after_reads, page-comes}

here : {A : Type 0} (b : Bool) (P : ℕ × A → Type 0) (e : ℕ × A) (n : ℕ) (a : A) (rest : Option A) → nat_eq e.0 n ≡ b → P e
    → (if b then Some e.1 else rest) ≡ Some a → (rest ≡ Some a → P (n, a)) → P (n, a)
here {A} true P e n a rest same holds is go = subst (λ (m : ℕ). P (m, a)) (eqb-true e.0 n same) (subst (λ (v : A). P (e.0, v)) (some-is e.1 a is) holds)
here false P e n a rest same holds is go = go is

one-value : {V : Type 0} (low named aside : Bool) (u v : Option V) → (low ≡ true → named ≡ true)
    → (if low then (if aside && not named then u else v) else None) ≡ (if low then v else None)
one-value false named aside u v h = refl
one-value true true true u v h = refl
one-value true true false u v h = refl
one-value true false aside u v h = cc (h refl)

-- what holds of all holds of what stands under a number
pub found : {A : Type 0} (P : ℕ × A → Type 0) (es : List (ℕ × A)) (n : ℕ) (a : A) → AllByRecursion P es → at es n ≡ Some a → P (n, a)
found P [] n a h is = cc
found P (e ∷ es) n a h is = here (nat_eq e.0 n) P e n a (at es n) refl h.0 is (λ there. found P es n a h.1 there)

module _ {K : Types} where
  -- a body that has entered no reactive context
  abbrev Plain : Call K → Type 0
  Plain c = (c.into ≡ []) × (c.in_body ≡ true)

  noted-plain : (c : Call K) (x : Source) → Plain c → noted c x ≡ record c { reads = x ∷ c.reads }
  noted-plain c x h = λ i. noted_at c x (h.0 i) (h.1 i)

  either : (P : Call K → Type 0) (b : Bool) (c d : Call K) → (b ≡ true → P d) → P c → P (if b then d else c)
  either P true c d h k = h refl
  either P false c d h k = k

  plain-read : (c : Call K) (n : ℕ) → Plain c → Plain (read_call c n)
  plain-read c n h = either Plain (nat_lt n c.next.cells) c (noted c (Cell n)) (λ _. subst Plain (sym (noted-plain c (Cell n) h)) (h.0, h.1)) h

  next-read : (c : Call K) (n : ℕ) → Plain c → (read_call c n).next.cells ≡ c.next.cells
  next-read c n h =
      either (λ (d : Call K). d.next.cells ≡ c.next.cells) (nat_lt n c.next.cells) c (noted c (Cell n))
      (λ _. ap (λ (d : Call K). d.next.cells) (noted-plain c (Cell n) h))
      refl

  -- a cell is among the reads
  abbrev Names : ℕ → Call K → Type 0
  Names n c = names_source c.reads (Cell n) ≡ true

  names-kept : (c : Call K) (m n : ℕ) → Plain c → Names n c → Names n (read_call c m)
  names-kept c m n h is =
      either (Names n) (nat_lt m c.next.cells) c (noted c (Cell m))
      (λ _. subst (Names n) (sym (noted-plain c (Cell m) h)) (or-right (nat_eq m n) (names_source c.reads (Cell n)) is))
      is

  names-new : (c : Call K) (n : ℕ) → Plain c → nat_lt n c.next.cells ≡ true → Names n (read_call c n)
  names-new c n h low =
      subst (λ (b : Bool). Names n (if b then noted c (Cell n) else c)) (sym low)
      (subst (Names n) (sym (noted-plain c (Cell n) h)) (ap (λ (b : Bool). b || names_source c.reads (Cell n)) (eq_same n)))

  names-stay : (c : Call K) (ns : List ℕ) (n : ℕ) → Plain c → Names n c → Names n (after_reads c ns)
  names-stay c [] n h is = is
  names-stay c (m ∷ ns) n h is = names-stay (read_call c m) ns n (plain-read c m h) (names-kept c m n h is)

  -- each cell that is read is among the reads then, where it was drawn
  all-named : (c : Call K) (ns : List ℕ) → Plain c → AllByRecursion (λ (n : ℕ). nat_lt n c.next.cells ≡ true → Names n (after_reads c ns)) ns
  all-named c [] h = tt
  all-named c (n ∷ ns) h =
      let d : Call K = read_call c n in (
        λ low. names-stay d ns n (plain-read c n h) (names-new c n h low),
        subst (λ (k : ℕ). AllByRecursion (λ (m : ℕ). nat_lt m k ≡ true → Names m (after_reads d ns)) ns) (next-read c n h) (all-named d ns (plain-read c n h)),
      )

  plain-hooks : (c : Call K) (own : List ℕ) → Plain c → Plain (after_hooks c own)
  plain-hooks c [] h = h
  plain-hooks c (n ∷ own) h = plain-hooks (past_hook c) own h

  next-hooks : (c : Call K) (own : List ℕ) → (after_hooks c own).next.cells ≡ c.next.cells
  next-hooks c [] = refl
  next-hooks c (n ∷ own) = next-hooks (past_hook c) own

  -- what was recorded as read has its present value
  each-value : (w : State K) (x : Scope K) (last : LastCall K) (ns : List ℕ)
      → AllByRecursion (λ (n : ℕ). nat_lt n last.given.given.next.cells ≡ true → names_source x.reads (Cell n) ≡ true) ns
      → map (present (world_again w x last)) ns ≡ map (value_now w last) ns
  each-value w x last [] h = refl
  each-value w x last (n ∷ ns) h =
      λ i. one-value (nat_lt n last.given.given.next.cells) (names_source x.reads (Cell n)) (names_source last.aside (Cell n)) (last.given.values.cell n) ((values_of w).cell n) h.0 i
      ∷ each-value w x last ns h.1 i

  module _ (k : Keeping K.Value) (page : Page K) (w : State K) (x : Scope K) (last : LastCall K) (own : List ℕ)
      (kept : KeepAll k last.given.given.hooks 0 own) (same : length page.cells ≡ length own) where
    abbrev pub world : World K
    world = world_again w x last

    abbrev start : Call K
    start = begun true last.given.given.next

    abbrev end : Call K
    end = after_reads (after_hooks start own) (page.reads own)

    abbrev tree : Tree K
    tree = page.shows last.given.given.scope own (map (present world) (page.reads own))

    page-means : body_means (page_body k page) world ≡ record { answer = rendered tree; reads = end.reads; aside = end.aside; commands = end.commands; next = end.next; fault = end.fault }
    page-means =
        exec-came world (page_body k page) start
        ∙ ap (λ (y : Came K (Element K)). record { answer = y.answer; reads = (y.call).reads; aside = (y.call).aside; commands = (y.call).commands; next = (y.call).next; fault = (y.call).fault })
        (page-comes k page world start own kept same)

    named : x.reads ≡ end.reads → AllByRecursion (λ (n : ℕ). nat_lt n last.given.given.next.cells ≡ true → names_source x.reads (Cell n) ≡ true) (page.reads own)
    named reads =
        subst (λ (xs : List Source). AllByRecursion (λ (n : ℕ). nat_lt n last.given.given.next.cells ≡ true → names_source xs (Cell n) ≡ true) (page.reads own)) (sym reads)
        (subst (λ (m : ℕ). AllByRecursion (λ (n : ℕ). nat_lt n m ≡ true → names_source end.reads (Cell n) ≡ true) (page.reads own)) (next-hooks start own)
        (all-named (after_hooks start own) (page.reads own) (plain-hooks start own (refl, refl))))

    -- what a scope shows whose last call means the page
    pub page-shown : (m : Meaning K (Element K)) → m ≡ body_means (page_body k page) world → Repeats x last m → KeepsAnswer last m.answer x.main_side.output
        → x.main_side.output ≡ Some (page.shows last.given.given.scope own (map (value_now w last) (page.reads own)))
    page-shown m is repeats keeps =
        let means = is ∙ page-means in
        let reads : x.reads ≡ end.reads = repeats.1 ∙ ap (λ (y : Meaning K (Element K)). y.reads) means in
        let output : x.main_side.output ≡ Some tree = subst (λ (e : Element K). KeepsAnswer last e x.main_side.output) (ap (λ (y : Meaning K (Element K)). y.answer) means) keeps in
        output ∙ ap (λ (vs : List (Option K.Value)). Some (page.shows last.given.given.scope own vs)) (each-value w x last (page.reads own) (named reads))

pub current-pages-show : (K : Types) → CurrentPagesShow K
current-pages-show K k a w current s x last c p own there called component kept same =
    let app : Application K = meaning_of_pages k a in
    let scope : CurrentAs app w x (at w.last_calls s) x.component = found (λ (e : ℕ × Scope K). IsCurrent app w e.0 e.1) w.scopes s x current there in
    let body : BodyIsCurrent app w x (Some last) =
    subst (λ (o : Option (LastCall K)). BodyIsCurrent app w x o) called
    (subst (λ (v : VComponent K). CurrentAs app w x (at w.last_calls s) v) component scope) in
    page-shown k (a.page c p) w x last own kept same (again app w x last)
    (ap (λ (v : VComponent K). body_of app v (world_again w x last)) component)
    body.0
    body.1
