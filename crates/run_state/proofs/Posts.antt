-- What is posted, in code and in the model.
use Rattle.std.proofs.Common.{◌≡◌, ℕ, Bool, true, false, List, [], ◌∷◌, ◌++◌, refl, ap, sym, ◌∙◌, arith, map, drop, get_or, length, ◌<◌, ◌≤◌, ◌+◌, append_assoc}
use Rattle.std.specs.Prelude.{is_some, if◌then◌else◌}
use Rattle.std.proofs.lemmas.List.{drop_more}
use Rattle.std.proofs.lemmas.Grind.{common_steps}
use Rattle.rt_model.specs.Lists.{at, drop_number}
use Rattle.rt_model.specs.Tree.{Types}
use Rattle.rt_model.specs.World as world
use Rattle.rt_model.specs.State as model
use Rattle.rt_model.specs.Commands.{drop_posted, post, names_source, readers}
use Rattle.rt_model.specs.Run.{unmarked}
use Rattle.run_records.specs.Records.{source_of}
use Rattle.run_records.specs.declared.rest.Scope.{Scope}
use Rattle.rt_cells.specs.declared.sources.Source.{Source}
use Rattle.run_owed.specs.Owing.{Owing}
use Rattle.run_state.specs.Mirror.{scopes_of}
use Rattle.run_state.proofs.Each.{drop-all}

pub append_none : (a : List model.Posted) → a ++ [] ≡ a
append_none a = grind (arith, common_steps)

-- what is owed, with other marks and wakes
abbrev pub with_owed : Owing → List model.Posted → Owing
with_owed o ps = record o { posted = ps }

pub owed_twice : (a b c : Owing) (ps qs : List model.Posted) → b ≡ with_owed a ps → c ≡ with_owed b qs → c ≡ with_owed a qs
owed_twice a b c ps qs first second = second ∙ ap (λ (o : Owing). with_owed o qs) first

-- nothing more is posted
pub none_more : (o : Owing) → o ≡ with_owed o (o.posted ++ [])
none_more o = ap (λ ps. with_owed o ps) (sym (append_none o.posted))

-- what is posted of a live scope or task
module _ {K : Types} where
  pub posted_mark : (w v : model.State K) (s : ℕ) → model.is_live w s ≡ true → v ≡ record w { posted = w.posted ++ model.Mark s ∷ [] } → v ≡ post w (model.Mark s)
  posted_mark w v s live is = is ∙ ap (λ b. if b then record w { posted = w.posted ++ model.Mark s ∷ [] } else w) (sym live)

  pub posted_wake : (w v : model.State K) (t : ℕ) → is_some (at w.tasks t) ≡ true → v ≡ record w { posted = w.posted ++ model.Woken t ∷ [] } → v ≡ post w (model.Woken t)
  posted_wake w v t live is = is ∙ ap (λ b. if b then record w { posted = w.posted ++ model.Woken t ∷ [] } else w) (sym live)

  abbrev pub with_posts : model.State K → List model.Posted → model.State K
  with_posts w ps = record w { posted = ps }

  -- the state, with what is owed
  abbrev pub with_all : model.State K → Owing → model.State K
  with_all w o = record w { posted = o.posted; seen = o.seen; queued = o.queued }

module _ {K : Types} where
  -- a mark of a scope that is gone changes nothing
  pub no_mark : (w : model.State K) (s : ℕ) → model.is_live w s ≡ false → w ≡ post w (model.Mark s)
  no_mark w s gone = ap (λ b. if b then record w { posted = w.posted ++ model.Mark s ∷ [] } else w) (sym gone)

  -- nor does a wake of a task that is gone
  pub no_wake : (w : model.State K) (t : ℕ) → is_some (at w.tasks t) ≡ false → w ≡ post w (model.Woken t)
  no_wake w t gone = ap (λ b. if b then record w { posted = w.posted ++ model.Woken t ∷ [] } else w) (sym gone)

-- one more reader, after those before
reads_on : (a b c marks : List model.Posted) → b ≡ a ++ marks → b ++ c ≡ a ++ (marks ++ c)
reads_on a b c marks is = ap (λ xs. xs ++ c) is ∙ append_assoc a marks c

if_first : (b : Bool) (m : model.Posted) (rest : List model.Posted) → ((if b then m ∷ [] else []) ++ rest) ≡ (if b then m ∷ rest else rest)
if_first true m rest = refl
if_first false m rest = refl

module _ {P C Q V H T E L : Type 0} where
  readers_at : (es : List (ℕ × Scope P C Q V H T E L)) (i : ℕ) (e : ℕ × Scope P C Q V H T E L) (x : world.Source) → i < length es
      → readers x (scopes_of (drop i es)) ≡ (if names_source (map source_of ((get_or es i e).1.rest).reads) x then model.Mark (get_or es i e).0 ∷ readers x (scopes_of (drop (i + 1) es)) else readers x (scopes_of (drop (i + 1) es)))
  readers_at es i e x inside = ap (λ ys. readers x (scopes_of ys)) (drop_more es i e inside)

  pub reader_step : (es : List (ℕ × Scope P C Q V H T E L)) (i : ℕ) (e : ℕ × Scope P C Q V H T E L) (x : world.Source) (reads : List Source) (posted new : List model.Posted)
      → i < length es → e ≡ get_or es i e → reads ≡ ((e.1).rest).reads
      → new ≡ posted ++ (if names_source (map source_of reads) x then model.Mark e.0 ∷ [] else [])
      → new ++ readers x (scopes_of (drop (i + 1) es)) ≡ posted ++ readers x (scopes_of (drop i es))
  reader_step es i e x reads posted new inside is read made =
      let rest = readers x (scopes_of (drop (i + 1) es)) in
      let at_e : (if names_source (map source_of reads) x then model.Mark e.0 ∷ rest else rest) ≡ readers x (scopes_of (drop i es)) =
      ap (λ rs. if names_source (map source_of rs) x then model.Mark e.0 ∷ rest else rest) read
      ∙ ap (λ (d : ℕ × Scope P C Q V H T E L). if names_source (map source_of ((d.1).rest).reads) x then model.Mark d.0 ∷ rest else rest) is
      ∙ sym (readers_at es i e x inside) in
      reads_on posted new rest (if names_source (map source_of reads) x then model.Mark e.0 ∷ [] else []) made
      ∙ ap (λ xs. posted ++ xs) (if_first (names_source (map source_of reads) x) (model.Mark e.0) rest ∙ at_e)

  pub reader_end : (es : List (ℕ × Scope P C Q V H T E L)) (i : ℕ) (x : world.Source) (a b : List model.Posted) → length es ≤ i → a ++ readers x (scopes_of (drop i es)) ≡ b → a ≡ b
  reader_end es i x a b end is = sym (append_none a) ∙ ap (λ ys. a ++ readers x (scopes_of ys)) (sym (drop-all es i end)) ∙ is

module _ {K : Types} where
  -- marks go, in what is owed and in the model
  pub unmarked_by : (w : model.State K) (a b : Owing) (s : ℕ) (skipped : List ℕ) → b ≡ record a { posted = drop_posted a.posted (model.Mark s); seen = drop_number a.seen s } → skipped ≡ drop_number w.skipped s
      → record (with_all w b) { skipped = skipped } ≡ unmarked (with_all w a) s
  unmarked_by w a b s skipped marks skips = λ i. record (with_all w (marks i)) { skipped = skips i }
