-- The scopes of a table are seen, one after another.
use Rattle.std.proofs.Common.{◌≡◌, ℕ, List, ◌∷◌, ap, sym, ◌∙◌, drop, get_or, length, ◌<◌, ◌≤◌, ◌+◌}
use Rattle.std.proofs.lemmas.List.{drop_more}
use Rattle.rt_model.specs.Lists.{join}
use Rattle.run_owed.specs.Lists.{joins, numbers_of}
use Rattle.run_owed.specs.Owing.{Owing}
use Rattle.run_state.proofs.Each.{drop-all}

-- what is owed, with other seen scopes
abbrev pub with_owed_seen : Owing → List ℕ → Owing
with_owed_seen o ns = record o { seen = ns }

pub seen_once_more : (a b c : Owing) (n : ℕ) → b ≡ with_owed_seen a b.seen → c ≡ with_owed_seen b (join b.seen n) → c ≡ with_owed_seen a c.seen
seen_once_more a b c n first second =
    second ∙ ap (λ ns. with_owed_seen b ns) (sym (ap (λ (o : Owing). o.seen) second)) ∙ ap (λ (o : Owing). with_owed_seen o c.seen) first

module _ {A : Type 0} where
  pub joins_step : (es : List (ℕ × A)) (i : ℕ) (e : ℕ × A) (old new : List ℕ) → i < length es → e ≡ get_or es i e → new ≡ join old e.0
      → joins new (numbers_of (drop (i + 1) es)) ≡ joins old (numbers_of (drop i es))
  joins_step es i e old new within is made =
      ap (λ (ns : List ℕ). joins ns (numbers_of (drop (i + 1) es))) made
      ∙ ap (λ (d : ℕ × A). joins old (d.0 ∷ numbers_of (drop (i + 1) es))) is
      ∙ ap (λ (ds : List (ℕ × A)). joins old (numbers_of ds)) (sym (drop_more es i e within))

  pub joins_end : (es : List (ℕ × A)) (i : ℕ) (now all : List ℕ) → length es ≤ i → joins now (numbers_of (drop i es)) ≡ all → now ≡ all
  joins_end es i now all end is = ap (λ (ds : List (ℕ × A)). joins now (numbers_of ds)) (sym (drop-all es i end)) ∙ is
