-- The error boundary round the application's root has it in its tree, whatever moves lead to.
use Rattle.std.proofs.Common.{ℕ, true, List, [], ◌∷◌, ◌++◌, ◌≡◌, refl, ap, ◌∙◌, subst}
use Rattle.std.specs.Prelude.{Option, Some, None}
use Rattle.rt_model.specs.Lists.{at}
use Rattle.rt_model.specs.Tree.{Types, Tree, VComponent, Own, Root, Fragment, ErrorBoundary, SuspenseBoundary, Element}
use Rattle.rt_model.specs.World.{Application}
use Rattle.rt_model.specs.Laws.{IsLawful}
use Rattle.rt_model.specs.State.{MainSide, ChildrenSide, Scope, side_of}
use Rattle.rt_model.specs.Run.{spots_of}
use Rattle.rt_model.specs.Replay.{Input, Machine}
use Rattle.rt_model.specs.Causes.{Limits}
use Rattle.law_moves.specs.Moves.{Move, Leads}
use Rattle.law_moves.specs.Reached.{Reached}
use Rattle.law_moves.specs.Sorts.{ComponentSort, own_sort, error_sort, sort_of, ChildrenFitSlots}
use Rattle.law_moves.proofs.Always.{Steady, moves_last}
use Rattle.law_moves.proofs.Insides.{alive_before}
use Rattle.law_moves.proofs.Joins.{Leads-append}
use Rattle.law_moves.proofs.Twigs.{found_live}
use Rattle.law_moves.proofs.Ways.{reached_moved}
use Rattle.law_headline.proofs.Begins.{sound, built_on}
use Rattle.law_lasting.specs.ChildrenLast.{sort_in, sort_on, SortStays}
use Rattle.author_programs.specs.Cells.{Keeping}
use Rattle.author_programs.specs.Pages.{Pages, meaning_of_pages}
use Rattle.law_reduce.specs.RootStays.{only_place, error_boundary, suspense_boundary, boundary_tree, Wrapped}
use Rattle.law_reduce.proofs.RootStays.{wrappers_stay}
use Rattle.law_elm.specs.Roots.{root_place}
use Rattle.law_elm.proofs.Tiers.{Tier, WrapperTier, SuspenseTier, CatcherTier, RootTier, PlainTier, IsTier}
use Rattle.law_elm.proofs.Rules.{Rules}
use Rattle.law_elm.proofs.Standing.{ShowsKids, Good}
use Rattle.law_elm.proofs.Following.{AllSafe, safe_lasts}

module _ {K : Types} (may : K.Component → Type 0) (c : K.Component) (p : K.Props) where
  -- an error boundary is the one round the root
  catches : (t : Tier) (children : Element K) (handler : Option (K.Component × K.Props)) → IsTier may c p t (ErrorBoundary children handler) → ErrorBoundary children handler ≡ error_boundary c p
  catches WrapperTier children handler is = cc
  catches SuspenseTier children handler is = let same : ErrorBoundary children handler ≡ suspense_boundary c p = is in cc
  catches CatcherTier children handler is = is
  catches RootTier children handler is = let same : ErrorBoundary children handler ≡ Own c is.0 = is.1 in cc
  catches PlainTier children handler is = absurd is

  is_catcher : (t : Tier) (d : VComponent K) → sort_of d ≡ error_sort → IsTier may c p t d → d ≡ error_boundary c p
  is_catcher t (ErrorBoundary children handler) same is = catches t children handler is
  is_catcher t (Own component props) same is = cc
  is_catcher t (Root component props) same is = cc
  is_catcher t (Fragment children) same is = cc
  is_catcher t (SuspenseBoundary children fallback) same is = cc

module _
    {K : Types} (k : Keeping K.Value) (a : Pages K) (props : K.Props) (law : Rules k a props) (lawful : IsLawful K (meaning_of_pages k a)) (fits : ChildrenFitSlots (meaning_of_pages k a))
    (inputs : List (Input K)) (limits : Limits) (s t : ℕ)
  where
    abbrev app : Application K
    app = meaning_of_pages k a

    abbrev catcher : VComponent K
    catcher = error_boundary a.root props

    abbrev Safe : Machine K → Type 0
    Safe m = Steady (λ w work. AllSafe k a props law w work) m

    abbrev IsReached : Machine K → Type 0
    IsReached m = Reached app limits props inputs m

    abbrev Around : Machine K → Type 0
    Around m = Wrapped a.root props m.state s t

    -- it shows its children
    pub shows_there : (m : Machine K) → IsReached m → m.built ≡ true → m.dead ≡ None → Safe m → Around m → (y : Scope K) → at m.state.scopes t ≡ Some y → ShowsKids catcher y.main_side.output
    shows_there m reached built alive safe wrapped y there =
        let fine : Good k a props law safe.holds.tiers safe.holds.bound t y = safe.holds.well.rows t y there in
        let sort : sort_of y.component ≡ error_sort =
        fits lawful limits props inputs m reached built alive s t wrapped.around y ChildrenSide (boundary_tree a.root props) only_place catcher wrapped.below wrapped.holds refl wrapped.held there in
        subst (λ (d : VComponent K). ShowsKids d y.main_side.output) (is_catcher law.may a.root props (safe.holds.tiers t) y.component sort (fine.0).is) fine.1

    -- so its main side has the root's own component at its place
    pub sort_there : (m : Machine K) → IsReached m → m.built ≡ true → m.dead ≡ None → Safe m → Around m → sort_on m.state t MainSide root_place ≡ Some (own_sort a.root)
    sort_there m reached built alive safe wrapped =
        let y = found_live (at m.state.scopes t) wrapped.live in
        ap (λ (o : Option (Scope K)). elim o as (λ z. Option (ComponentSort K)) [ None ↦ None | Some x ↦ sort_in (spots_of (side_of x MainSide).output) root_place ]) y.1
        ∙ ap (λ (o : Option (Tree K)). sort_in (spots_of o) root_place) (shows_there m reached built alive safe wrapped y.0 y.1)

    module _ (first : Machine K) (known : IsReached first) (idle : first.work ≡ []) (wrapped : Around first) where
      -- wherever moves lead from there
      pub stays : (before : List Move) (m v : Machine K) (moves : List Move) → Leads app limits first before m → (leads : Leads app limits m moves v) → v.dead ≡ None → m.built ≡ true → Safe m
          → SortStays app limits t MainSide root_place (own_sort a.root) m v moves leads
      stays before m v [] way leads alive built safe = tt
      stays before m v (move ∷ moves) way leads alive built safe =
          let u : Machine K = leads.0 in
          let one : Leads app limits m (move ∷ []) u = (u, leads.1, refl) in
          let lives : u.dead ≡ None = alive_before app limits u v moves u.dead refl leads.2 alive in
          let longer : Leads app limits first (before ++ move ∷ []) u = Leads-append app limits before (move ∷ []) first m u way one in
          let reached : IsReached m = reached_moved app limits props inputs first m before known way in
          let further : IsReached u = reached_moved app limits props inputs first u (before ++ move ∷ []) known longer in
          let there : Around u = wrappers_stay app lawful limits props inputs first u (before ++ move ∷ []) s t known longer lives idle wrapped in
          let safe_there : Safe u = moves_last app (λ w work. AllSafe k a props law w work) (safe_lasts k a props law) limits m u (move ∷ []) one lives safe in
          let built_there : u.built ≡ true = built_on app lawful limits props inputs m u (move ∷ []) (sound app lawful limits props inputs m reached) built one lives in (
            sort_there u further built_there lives safe_there there,
            stays (before ++ move ∷ []) u v moves longer leads.2 alive built_there safe_there,
          )
