-- Wherever logs lead from the start of a session of pages in which nothing fails.
use Rattle.std.proofs.Common.{ℕ, Bool, true, false, List, [], ◌∷◌, ◌≡◌, refl, subst, nat_eq, arith}
use Rattle.std.proofs.lemmas.Bool.{eqb-true}
use Rattle.std.specs.Prelude.{Some, None, if◌then◌else◌}
use Rattle.rt_model.specs.Tree.{Types, Root}
use Rattle.rt_model.specs.World.{Command, NewCell, Application}
use Rattle.rt_model.specs.State.{MainSide, Scope, new_scope}
use Rattle.rt_model.specs.Replay.{Entry, Input, Machine, replay_on, start}
use Rattle.law_moves.proofs.Always.{Steady, logs_last}
use Rattle.law_moves.proofs.Limited.{some_limits}
use Rattle.law_headline.proofs.Begins.{idle_settled}
use Rattle.author_programs.specs.Cells.{Keeping}
use Rattle.author_programs.specs.Pages.{Pages, meaning_of_pages}
use Rattle.law_elm.specs.Safe.{NoneFails}
use Rattle.law_elm.specs.NoErrors.{PagesKeepNoError}
use Rattle.law_elm.proofs.Tiers.{WrapperTier}
use Rattle.law_elm.proofs.Each.{one_scope}
use Rattle.law_elm.proofs.Rules.{AllMay, Rules}
use Rattle.law_elm.proofs.Standing.{Good}
use Rattle.law_elm.proofs.Following.{AllSafe, safe_lasts}

-- where nothing is asked of cells
pub any_may : {K : Types} (cs : List (Command K)) → AllMay (λ n. Unit {0}) cs
any_may [] = tt
any_may (NewCell n v ∷ cs) = (tt, any_may cs)
any_may (c ∷ cs) = (tt, any_may cs)

-- any component may stand in what pages show, and nothing is said of hooks and cells
abbrev pub plain_rules : {K : Types} (k : Keeping K.Value) (a : Pages K) (given : K.Props) → NoneFails a → Rules k a given
plain_rules k a given calm =
    record {
      may = λ c. Unit {0};
      safe = λ c p s own values. calm c p s own values;
      hooks = λ n hs. Unit {0};
      longer = λ n hs h g. tt;
      cells = λ t n o. Unit {0};
      asks = λ t s d w is g. any_may _;
    }

module _ {K : Types} (k : Keeping K.Value) (a : Pages K) (given : K.Props) (law : Rules k a given) where
  abbrev app : Application K
  app = meaning_of_pages k a

  abbrev pub Safe : Machine K → Type 0
  Safe m = Steady (λ w work. AllSafe k a given law w work) m

  pub start_safe : ((n : ℕ) → law.hooks n []) → (inputs : List (Input K)) → Safe (start app given inputs)
  start_safe fresh inputs =
      record {
        holds =
            record {
              tiers = λ n. WrapperTier;
              bound = 1;
              well = record { rows = λ n x there. one (nat_eq 0 n) n refl x there; cells = tt; drawn = omega arith };
              works = tt;
              fresh = λ n low. fresh n;
            };
        idle = λ q. refl;
      }
    where
      first : Scope K
      first = new_scope (Root a.root given) None 0 MainSide

      first_good : Good k a given law (λ n. WrapperTier) 1 0 first
      first_good = (record { error = refl; is = refl; low = omega arith; main = tt; held = tt; fallback = tt; hooks = fresh 0 }, tt)

      one : (b : Bool) (n : ℕ) → nat_eq 0 n ≡ b → (x : Scope K) → (if b then Some first else None) ≡ Some x → Good k a given law (λ n. WrapperTier) 1 n x
      one true n q x e = subst (λ (m : ℕ). Good k a given law (λ n. WrapperTier) 1 m x) (eqb-true 0 n q) (subst (λ (y : Scope K). Good k a given law (λ n. WrapperTier) 1 0 y) (one_scope first x e) first_good)
      one false n q x e = cc

  pub logs_safe : (m v : Machine K) (log : List Entry) → m.work ≡ [] → m.unit ≡ false → Safe m → replay_on app (Some m) log ≡ Some v → v.dead ≡ None → Safe v
  logs_safe m v log idle unit steady goes alive =
      let found = some_limits app log m v goes in
      logs_last app (λ w work. AllSafe k a given law w work) (safe_lasts k a given law) found.0 m v log (idle_settled m idle unit) steady found.1 alive

pub pages_keep_no_error : (K : Types) → PagesKeepNoError K
pages_keep_no_error K k a calm props inputs v log goes alive =
    let law : Rules k a props = plain_rules k a props calm in
    let m : Machine K = start (meaning_of_pages k a) props inputs in
    let after : Steady (λ w work. AllSafe k a props law w work) v = logs_safe k a props law m v log refl refl (start_safe k a props law (λ n. tt) inputs) goes alive in
    λ n x there. (((after.holds).well.rows n x there).0).error
