-- In an Elm program no body asks for cells but the root's, and where hooks keep its cells neither does that.
use Rattle.std.proofs.Common.{ℕ, true, false, List, [], ◌∷◌, ◌++◌, ◌≡◌, refl, sym, ap, ◌∙◌, subst, nat_eq}
use Rattle.std.proofs.lemmas.Bool.{eqb-true}
use Rattle.std.specs.Prelude.{Option, Some, None, length}
use Rattle.rt_model.specs.Tree.{Types, CapturedError, VComponent, Own, Root, Fragment, ErrorBoundary, SuspenseBoundary, rendered, component_slot, one_slot}
use Rattle.rt_model.specs.World.{Hook, Command, NewCell, World, Application}
use Rattle.rt_model.specs.Run.{caught, body_of}
use Rattle.rt_model.proofs.Maps.{by_test, eq_same}
use Rattle.author_programs.specs.Cells.{Keeping}
use Rattle.author_programs.specs.Pages.{Pages, meaning_of_pages}
use Rattle.author_programs.specs.Shows.{KeepAll}
use Rattle.law_pages.proofs.Listening.{kept_pages_ask_nothing}
use Rattle.law_reduce.proofs.Hooked.{kept_longer}
use Rattle.law_elm.specs.Safe.{IsElm}
use Rattle.law_elm.proofs.Tiers.{Tier, WrapperTier, SuspenseTier, CatcherTier, RootTier, PlainTier, IsTier}
use Rattle.law_elm.proofs.Rules.{AllMay, Rules}

-- what holds of each number holds of those that are made
all_may : {K : Types} (P : ℕ → Type 0) → ((n : ℕ) → P n) → (cs : List (Command K)) → AllMay P cs
all_may P any [] = tt
all_may P any (NewCell n v ∷ cs) = (any n, all_may P any cs)
all_may P any (c ∷ cs) = (tt, all_may P any cs)

none_may : {K : Types} (P : ℕ → Type 0) (cs : List (Command K)) → cs ≡ [] → AllMay P cs
none_may P [] e = tt
none_may P (c ∷ cs) e = cc

module _ {K : Types} (k : Keeping K.Value) (a : Pages K) (elm : IsElm a) (given : K.Props) where
  abbrev app : Application K
  app = meaning_of_pages k a

  abbrev pub Other : K.Component → Type 0
  Other c = c ≡ a.root → ⊥

  -- a page without cells
  page_asks : (c : K.Component) (p : K.Props) (w : World K) → Other c → (app.body c p w).commands ≡ []
  page_asks c p w other = (kept_pages_ask_nothing K k (a.page c p) w [] tt (ap (λ (vs : List K.Value). length vs) (elm.bare c p other))).commands

  caught_asks : (w : World K) (o : Option CapturedError) → (caught app (rendered (one_slot (component_slot (Own a.root given)))) None w o).commands ≡ []
  caught_asks w None = refl
  caught_asks w (Some e) = refl

  plain_asks : (d : VComponent K) (w : World K) → IsTier (λ c. Other c) a.root given PlainTier d → (body_of app d w).commands ≡ []
  plain_asks (Own c p) w is = page_asks c p w is
  plain_asks (Root c p) w is = absurd is
  plain_asks (Fragment children) w is = refl
  plain_asks (ErrorBoundary children handler) w is = absurd is
  plain_asks (SuspenseBoundary children None) w is = refl
  plain_asks (SuspenseBoundary children (Some f)) w is = page_asks f.0 f.1 w is.1

  -- all but the root ask for nothing
  asks_by : (P : Tier → ℕ → Type 0) (t : Tier) (d : VComponent K) (w : World K) → IsTier (λ c. Other c) a.root given t d
      → ((q : K.Props) → AllMay (λ n. P RootTier n) (app.body a.root q w).commands)
      → AllMay (λ n. P t n) (body_of app d w).commands
  asks_by P WrapperTier d w is root = subst (λ (e : VComponent K). AllMay (λ n. P WrapperTier n) (body_of app e w).commands) (sym is) tt
  asks_by P SuspenseTier d w is root = subst (λ (e : VComponent K). AllMay (λ n. P SuspenseTier n) (body_of app e w).commands) (sym is) tt
  asks_by P CatcherTier d w is root =
      subst (λ (e : VComponent K). AllMay (λ n. P CatcherTier n) (body_of app e w).commands) (sym is)
      (none_may (λ n. P CatcherTier n) (caught app (rendered (one_slot (component_slot (Own a.root given)))) None w (w.values.error w.given.scope)).commands (caught_asks w (w.values.error w.given.scope)))
  asks_by P RootTier d w is root = subst (λ (e : VComponent K). AllMay (λ n. P RootTier n) (body_of app e w).commands) (sym is.1) (root is.0)
  asks_by P PlainTier d w is root = none_may (λ n. P PlainTier n) (body_of app d w).commands (plain_asks d w is)

  pub asks_roots : (t : Tier) (d : VComponent K) (w : World K) → IsTier (λ c. Other c) a.root given t d → AllMay (λ n. t ≡ RootTier) (body_of app d w).commands
  asks_roots t d w is = asks_by (λ u n. u ≡ RootTier) t d w is (λ q. all_may (λ n. RootTier ≡ RootTier) (λ n. refl) (app.body a.root q w).commands)

  -- so from a session's start each cell is owned by a scope of the root's component
  abbrev pub root_rules : Rules k a given
  root_rules =
      record {
        may = λ c. Other c;
        safe = λ c p s own values. elm.safe c p s own values;
        hooks = λ n hs. Unit {0};
        longer = λ n hs h g. tt;
        cells = λ t n o. t ≡ RootTier;
        asks = λ t s d w is g. asks_roots t d w is;
      }

  module _ (root : ℕ) (own : List ℕ) (many : (q : K.Props) → length (a.page a.root q).cells ≡ length own) (old : ℕ → Type 0) where
    -- a scope keeps its cells, where it is the root's, and a cell that this owns was there
    abbrev pub KeepsOwn : ℕ → List (Hook K) → Type 0
    KeepsOwn n hs = n ≡ root → KeepAll k hs 0 own

    abbrev pub OldCell : Tier → ℕ → ℕ → Type 0
    OldCell t n o = (t ≡ RootTier) × (o ≡ root → old n)

    root_asks : (s : ℕ) (q : K.Props) (w : World K) → KeepsOwn s w.given.hooks → AllMay (λ n. OldCell RootTier n s) (app.body a.root q w).commands
    root_asks s q w keeps =
        by_test (nat_eq s root)
        (
        λ e.
        none_may (λ n. OldCell RootTier n s) (app.body a.root q w).commands
        (kept_pages_ask_nothing K k (a.page a.root q) w own (keeps (eqb-true s root e)) (many q)).commands
        )
        (
        λ e.
        all_may (λ n. OldCell RootTier n s)
        (λ n. (refl, λ same. let absurdity : true ≡ false = sym (eq_same s) ∙ ap (λ (m : ℕ). nat_eq s m) same ∙ e in cc))
        (app.body a.root q w).commands
        )

    pub asks_kept : (t : Tier) (s : ℕ) (d : VComponent K) (w : World K) → IsTier (λ c. Other c) a.root given t d → KeepsOwn s w.given.hooks → AllMay (λ n. OldCell t n s) (body_of app d w).commands
    asks_kept t s d w is keeps = asks_by (λ u n. OldCell u n s) t d w is (λ q. root_asks s q w keeps)

    pub keeps_longer : (n : ℕ) (hs : List (Hook K)) (h : Hook K) → KeepsOwn n hs → KeepsOwn n (hs ++ h ∷ [])
    keeps_longer n hs h g = λ same. kept_longer k root own None [] hs h 0 own (g same)

    -- so the root makes none anew
    abbrev pub kept_rules : Rules k a given
    kept_rules =
        record {
          may = λ c. Other c;
          safe = λ c p s own values. elm.safe c p s own values;
          hooks = λ n hs. KeepsOwn n hs;
          longer = λ n hs h g. keeps_longer n hs h g;
          cells = λ t n o. OldCell t n o;
          asks = λ t s d w is g. asks_kept t s d w is g;
        }
