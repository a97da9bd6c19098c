-- A page's scope shows its page's function of present values, run again or not.
use Rattle.std.proofs.Common.{ℕ, suc, ◌+◌, true, false, List, [], ◌∷◌, ◌≡◌, ◌⊎◌, inl, inr, refl, sym, ap, ◌∙◌, ◌≤◌, ◌<◌, subst, map, length, nat_lt, nat_eq, arith}
use Rattle.std.proofs.lemmas.Bool.{eqb-true}
use Rattle.std.specs.Prelude.{Option, Some, None, if◌then◌else◌}
use Rattle.std.specs.List.{AllByRecursion}
use Rattle.rt_model.specs.Lists.{at, first_of, has}
use Rattle.rt_model.specs.Tree.{Types, VComponent, Own}
use Rattle.rt_model.specs.World.{Source, Cell, Hook, Application, last_number}
use Rattle.rt_model.specs.State.{Scope, LastCall, State, CellRow, values_of}
use Rattle.rt_model.specs.Commands.{names_source}
use Rattle.rt_model.specs.Current.{AllCurrent, IsCurrent, CurrentAs, BodyIsCurrent}
use Rattle.rt_model.specs.Told.{Told}
use Rattle.rt_model.specs.Reports.{Report}
use Rattle.rt_model.proofs.Maps.{by_test}
use Rattle.law_moves.specs.Sorts.{FedFit}
use Rattle.law_behavior.specs.Owed.{MarksAreRun}
use Rattle.law_lasting.specs.ComponentsLast.{ComponentsLast}
use Rattle.author_programs.specs.Cells.{Keeping}
use Rattle.author_programs.specs.First.{GivesBack, made_from, numbers_from, first_value}
use Rattle.author_programs.specs.Pages.{Pages, meaning_of_pages}
use Rattle.author_programs.specs.Shows.{KeepAll}
use Rattle.author_programs.proofs.First.{first-pages-show}
use Rattle.author_programs.proofs.Present.{found, current-pages-show}
use Rattle.law_pages.specs.Updates.{model_of, read_in}
use Rattle.law_pages.proofs.Listening.{at_values}
use Rattle.law_reduce.specs.Elm.{NeverRemoved}
use Rattle.law_reduce.specs.Folds.{last_state}
use Rattle.law_reduce.specs.Later.{ComesLater}
use Rattle.law_reduce.specs.Values.{own_of, HasFirst, HasRun, ShowsNow, AllShowNow, EachShowsNow, PagesShowValues}
use Rattle.law_reduce.proofs.Runs.{neither_first}
use Rattle.law_reduce.proofs.GoesOn.{PageAfter}
use Rattle.law_reduce.proofs.Reports.{AllGoOn, EachGoesOn, each_goes_on}
use Rattle.law_reduce.proofs.Shown.{reads_now}

same_number : {V : Type 0} (vs : List V) (n : ℕ) → length vs ≡ length (numbers_from n vs)
same_number [] n = refl
same_number (v ∷ vs) n = ap (λ (m : ℕ). suc m) (same_number vs (n + 1))

-- the numbers of cells that are made one after another
numbers_below : {V : Type 0} (vs : List V) (m n : ℕ) → has (numbers_from m vs) n ≡ true → n < m + length vs
numbers_below [] m n h = let absurdity : false ≡ true = h in cc
numbers_below (v ∷ vs) m n h =
    let rest : ℕ = length vs in
    by_test (nat_eq m n)
    (λ q. let e : m ≡ n = eqb-true m n q in let here : n < m + suc rest = omega (arith, e) in here)
    (
    λ q.
    let more : n < (m + 1) + rest = numbers_below vs (m + 1) n (neither_first (nat_eq m n) (has (numbers_from (m + 1) vs) n) h q) in
    let here : n < m + suc rest = omega (arith, more) in
    here
    )

-- no hooks keep none
none_keep : (K : Types) (k : Keeping K.Value) (ms : List ℕ) → KeepAll {K = K} k [] 0 ms → (n : ℕ) → has ms n ≡ true → ⊥
none_keep K k [] h n q = let absurdity : false ≡ true = q in cc
none_keep K k (m ∷ ms) h n q = let is = (h.0).is in cc

module _ {K : Types} (k : Keeping K.Value) (a : Pages K) (back : GivesBack k) (s : ℕ) (c : K.Component) (p : K.Props) (first : LastCall K) (bare : first.given.given.hooks ≡ [])
    (fits : first.given.given.next.cells + length (a.page c p).cells ≤ last_number) (many : (q : K.Props) → length (a.page c q).cells ≡ length (a.page c p).cells) (built : State K) where
  abbrev app : Application K
  app = meaning_of_pages k a

  abbrev own : List ℕ
  own = own_of k a s c p first

  same : (q : K.Props) → length (a.page c q).cells ≡ length own
  same q = many q ∙ same_number (a.page c p).cells first.given.given.next.cells

  -- own numbers that were drawn before the call
  abbrev Below : LastCall K → Type 0
  Below last = (n : ℕ) → has own n ≡ true → n < built.next.cells → n < last.given.given.next.cells

  -- the last call is the first one, with the props that it had, and its cells are as they were, or it was given hooks that keep them
  abbrev Phase : State K → Scope K → LastCall K → Type 0
  Phase w x last =
      (KeepAll k last.given.given.hooks 0 own × Below last)
      ⊎ ((last ≡ first) × (x.component ≡ Own c p) × AllByRecursion (λ (n : ℕ). HasFirst k a s c p w x first n) ((a.page c p).reads own))

  record Stands (w : State K) : Type 0 where
    row : Scope K
    there : at w.scopes s ≡ Some row
    props : K.Props
    page : row.component ≡ Own c props
    keeps : KeepAll k row.hooks 0 own
    later : built.next.cells ≤ w.next.cells
    phase : (last : LastCall K) → at w.last_calls s ≡ Some last → Phase w row last

  -- from report to report
  stays_first : (w v : State K) (x y : Scope K) (ns : List ℕ) → y.reads ≡ x.reads
      → ((n : ℕ) (r : CellRow K) → names_source x.reads (Cell n) ≡ true → at w.cells n ≡ Some r → r.owner ≡ s → at v.cells n ≡ Some r)
      → AllByRecursion (λ (n : ℕ). HasFirst k a s c p w x first n) ns
      → AllByRecursion (λ (n : ℕ). HasFirst k a s c p v y first n) ns
  stays_first w v x y [] reads stay h = tt
  stays_first w v x y (n ∷ ns) reads stay h = (
    λ value made.
        let was = h.0 value made in
        (ap (λ (xs : List Source). names_source xs (Cell n)) reads ∙ was.0, stay n (record { owner = s; value = value }) was.0 was.1 refl),
    stays_first w v x y ns reads stay h.1,
  )

  below_after : (w v : State K) (h : Stands w) → ComesLater w v → (last : LastCall K) → at v.last_calls s ≡ Some last → KeepAll k last.given.given.hooks 0 own → Below last
  below_after w v h rises last e kept =
      elim (rises.1 s last e) [
        | inl old ↦
            elim (h.phase last old) [
              | inl g ↦ g.1
              | inr z ↦
                  λ n q low.
                  let none : KeepAll {K = K} k [] 0 own = subst (λ (hs : List (Hook K)). KeepAll k hs 0 own) (ap (λ (l : LastCall K). l.given.given.hooks) z.0 ∙ bare) kept in
                  absurd (none_keep K k own none n q)
            ]
        | inr up ↦ λ n q low. let drawn : built.next.cells ≤ w.next.cells = h.later in omega (arith, low, drawn, up)
      ]

  goes_on : (w v : State K) (h : Stands w) → PageAfter k a w v s h.row c own → ComesLater w v → Stands v
  goes_on w v h f rises =
      record {
        row = f.row;
        there = f.there;
        props = f.props;
        page = f.page;
        keeps = f.keeps;
        later = let drawn : built.next.cells ≤ w.next.cells = h.later in let more : w.next.cells ≤ v.next.cells = rises.0 in omega (arith, drawn, more);
        phase =
            λ last e.
            elim (f.calls last e) [
              | inl g ↦ inl (g, below_after w v h rises last e g)
              | inr o ↦
                  elim (h.phase last o.0) [
                    | inl g ↦ inl g
                    | inr z ↦ inr (z.0, o.2 ∙ z.1, stays_first w v h.row f.row ((a.page c p).reads own) o.1 o.3 z.2)
                  ]
            ];
      }

  -- the value of a cell that the first call made, or of another one
  first_now : (v : State K) (n : ℕ) (o : Option K.Value) → at (made_from [] first.given.given.next.cells (a.page c p).cells) n ≡ o
      → ((value : K.Value) → o ≡ Some value → at (model_of v) n ≡ Some value)
      → first_of o ((values_of v).cell n) ≡ at (model_of v) n
  first_now v n None e h = sym (at_values v.cells n)
  first_now v n (Some value) e h = sym (h value refl)

  valued : (v : State K) (n : ℕ) (row : CellRow K) → at v.cells n ≡ Some row → at (model_of v) n ≡ Some row.value
  valued v n row e = at_values v.cells n ∙ ap (λ (o : Option (CellRow K)). elim o as (λ z. Option K.Value) [ None ↦ None | Some d ↦ Some d.value ]) e

  firsts_now : (v : State K) (x : Scope K) (ns : List ℕ) → AllByRecursion (λ (n : ℕ). HasFirst k a s c p v x first n) ns
      → map (first_value v first (a.page c p).cells) ns ≡ map (read_in (model_of v) (first.given.given.next.cells + length (a.page c p).cells)) ns
  firsts_now v x [] h = refl
  firsts_now v x (n ∷ ns) h =
      let made : Option K.Value = at (made_from [] first.given.given.next.cells (a.page c p).cells) n in
      let now : first_of made ((values_of v).cell n) ≡ at (model_of v) n =
      first_now v n made refl (λ value e. valued v n (record { owner = s; value = value }) (h.0 value e).1) in
      λ i. (if nat_lt n (first.given.given.next.cells + length (a.page c p).cells) then now i else None) ∷ firsts_now v x ns h.1 i

  nows_all : (v : State K) (ns : List ℕ) → AllByRecursion (λ (n : ℕ). at (model_of v) n ≡ at (model_of v) n) ns
  nows_all v [] = tt
  nows_all v (n ∷ ns) = (refl, nows_all v ns)

  -- where all is current
  shows_now : (v : State K) → AllCurrent app v → Stands v → ShowsNow k a s c p built own v
  shows_now v current h = by (at v.last_calls s) refl scope
    where
      scope : CurrentAs app v h.row (at v.last_calls s) (Own c h.props)
      scope =
          subst (λ (d : VComponent K). CurrentAs app v h.row (at v.last_calls s) d) h.page
          (found (λ (e : ℕ × Scope K). IsCurrent app v e.0 e.1) v.scopes s h.row current h.there)

      by : (o : Option (LastCall K)) → at v.last_calls s ≡ o → BodyIsCurrent app v h.row o → ShowsNow k a s c p built own v
      by None e body = absurd body
      by (Some last) e body =
          elim (h.phase last e) [
            | inl g ↦
                record {
                  row = h.row;
                  there = h.there;
                  props = h.props;
                  page = h.page;
                  last = last;
                  call = e;
                  drawn = last.given.given.next.cells;
                  below = g.1;
                  output =
                      current-pages-show K k a v current s h.row last c h.props own h.there e h.page g.0 (same h.props)
                      ∙ ap (λ (vs : List (Option K.Value)). Some ((a.page c h.props).shows last.given.given.scope own vs))
                      (reads_now k a v last (model_of v) ((a.page c h.props).reads own) (nows_all v ((a.page c h.props).reads own)));
                }
            | inr z ↦
                let call : at v.last_calls s ≡ Some first = e ∙ ap (λ (l : LastCall K). Some l) z.0 in
                record {
                  row = h.row;
                  there = h.there;
                  props = p;
                  page = z.1;
                  last = first;
                  call = call;
                  drawn = first.given.given.next.cells + length (a.page c p).cells;
                  below = λ n q low. numbers_below (a.page c p).cells first.given.given.next.cells n q;
                  output =
                      first-pages-show K k a v back current s h.row first c p h.there call z.1 bare fits
                      ∙ ap (λ (vs : List (Option K.Value)). Some ((a.page c p).shows first.given.given.scope own vs))
                      (firsts_now v h.row ((a.page c p).reads own) z.2);
                }
          ]

  all_show_now : (w : State K) (reports : List Report) (told : List (Told K)) → Stands w → AllGoOn k a w reports told
      → AllByRecursion (λ (r : Told K). AllCurrent app (r.machine).state) told
      → AllShowNow k a s c p built own reports told
  all_show_now w [] told h go current = tt
  all_show_now w (r ∷ rs) [] h go current = tt
  all_show_now w (r ∷ rs) (t ∷ ts) h go current = λ stays.
      let v : State K = (t.machine).state in
      let now : Stands v = goes_on w v h ((go.0).0 s h.row c h.props own same h.there h.page h.keeps stays) (go.0).1 in
      (shows_now v current.0 now, all_show_now v rs ts now go.1 current.1)

  -- after the last of them
  shows_last : (w : State K) (reports : List Report) (told : List (Told K)) → Stands w → AllGoOn k a w reports told
      → AllCurrent app w
      → AllByRecursion (λ (r : Told K). AllCurrent app (r.machine).state) told
      → NeverRemoved s reports
      → ShowsNow k a s c p built own (last_state w told)
  shows_last w [] [] h go here current stays = shows_now w here h
  shows_last w [] (t ∷ ts) h go here current stays = absurd go
  shows_last w (r ∷ rs) [] h go here current stays = absurd go
  shows_last w (r ∷ rs) (t ∷ ts) h go here current stays =
      let v : State K = (t.machine).state in
      shows_last v rs ts (goes_on w v h ((go.0).0 s h.row c h.props own same h.there h.page h.keeps stays.0) (go.0).1) go.1 current.0 current.1 stays.1

-- of a scope that has run once
module _ {K : Types} (k : Keeping K.Value) (a : Pages K) (back : GivesBack k) (s : ℕ) (c : K.Component) (p : K.Props) (w : State K) (run : HasRun k a s c p w) (many : (q : K.Props) → length (a.page c q).cells ≡ length (a.page c p).cells) where
  level : w.next.cells ≤ w.next.cells
  level = omega arith

  begins : Stands k a back s c p run.first run.bare run.fits many w w
  begins =
      record {
        row = run.row;
        there = run.there;
        props = p;
        page = run.page;
        keeps = run.keeps;
        later = level;
        phase =
            λ last e.
            let same_call : Some last ≡ Some run.first = sym e ∙ run.call in
            let is : last ≡ run.first = cc in
            inr (is, run.page, run.reads);
      }

  pub shows_each : (reports : List Report) (told : List (Told K)) → AllGoOn k a w reports told
      → AllByRecursion (λ (r : Told K). AllCurrent (meaning_of_pages k a) (r.machine).state) told
      → AllShowNow k a s c p w (own_of k a s c p run.first) reports told
  shows_each reports told go current = all_show_now k a back s c p run.first run.bare run.fits many w w reports told begins go current

  pub shows_end : (reports : List Report) (told : List (Told K)) → AllGoOn k a w reports told
      → AllCurrent (meaning_of_pages k a) w
      → AllByRecursion (λ (r : Told K). AllCurrent (meaning_of_pages k a) (r.machine).state) told
      → NeverRemoved s reports
      → ShowsNow k a s c p w (own_of k a s c p run.first) (last_state w told)
  shows_end reports told go here current stays =
      shows_last k a back s c p run.first run.bare run.fits many w w reports told begins go here current stays

pub pages_show_values : (K : Types) → ((k : Keeping K.Value) (a : Pages K) → MarksAreRun (meaning_of_pages k a)) → ((k : Keeping K.Value) (a : Pages K) → FedFit (meaning_of_pages k a)) → ((k : Keeping K.Value) (a : Pages K) → ComponentsLast (meaning_of_pages k a))
    → PagesShowValues K
pages_show_values K marks fed lasts k a back lawful props inputs limits taken reports h =
    by reports h.told
    (each_goes_on k a (marks k a) (record { lawful = lawful; fed = fed k a; lasts = lasts k a }) props inputs reports h.told (h.done).one_each ((h.holds).recorded).accepted ((h.holds).recorded).settled)
    (h.holds).current
  where
    by : (rs : List Report) (ts : List (Told K)) → EachGoesOn k a rs ts → AllByRecursion (λ (r : Told K). AllCurrent (meaning_of_pages k a) (r.machine).state) ts → EachShowsNow k a rs ts
    by [] ts go current = absurd go
    by (r ∷ rs) [] go current = absurd go
    by (r ∷ rs) (t ∷ ts) go current = λ s c p run many.
        shows_each k a back s c p (t.machine).state run many rs ts go current.1
