-- Where nothing that a body read has changed it would answer the same again.
use Rattle.std.proofs.Common.{ℕ, Bool, true, false, List, [], ◌∷◌, ◌≡◌, ◌&&◌, not, refl, sym, ap, ◌∙◌, subst}
use Rattle.std.specs.Prelude.{Option, Some, None}
use Rattle.rt_model.specs.Tree.{Types, VComponent, Own, Root, Fragment, ErrorBoundary, SuspenseBoundary, CapturedError, Element, rendered, placeholder_tree}
use Rattle.rt_model.specs.World.{Source, Cell, Error, Context, Given, World, Meaning, Application}
use Rattle.rt_model.specs.Laws.{SameAt, Agree, ReadsDecide, IsLawful}
use Rattle.rt_model.specs.State.{Scope, LastCall, State, values_of}
use Rattle.rt_model.specs.Commands.{names_source}
use Rattle.rt_model.specs.Run.{plain, also_read, caught, body_of, children_tree, error_tree, root_tree}
use Rattle.rt_model.specs.Current.{is_aside, world_again, Repeats, again}
use Rattle.rt_model.proofs.Maps.{by_test, pick_true, pick_false}
use Rattle.law_moves.specs.Fresh.{CallStands, Fresh}
use Rattle.law_moves.proofs.Marks.{all_named}

module _ {K : Types} where
  plain_alike : (v w : World K) (reads : List Source) (answer : Element K) → v.given ≡ w.given → plain v reads answer ≡ plain w reads answer
  plain_alike v w reads answer h = ap (λ (g : Given K). plain (record { given = g; values = w.values }) reads answer) h

  -- what was read aside alone has its old value again
  kept_then : (w : State K) (x : Scope K) (last : LastCall K) (i : Source) → is_aside last.aside x.reads i ≡ true → SameAt last.given (world_again w x last) i
  kept_then w x last (Cell n) h = λ low. sym (pick_true (last.given.values.cell n) ((values_of w).cell n) h)
  kept_then w x last (Error s) h = sym (pick_true (last.given.values.error s) ((values_of w).error s) h)
  kept_then w x last (Context k s) h = sym (pick_true (last.given.values.context k s) ((values_of w).context k s) h)

  -- all else has its present value
  present : (w : State K) (x : Scope K) (last : LastCall K) (i : Source) → is_aside last.aside x.reads i ≡ false → SameAt last.given (record { given = last.given.given; values = values_of w }) i
      → SameAt last.given (world_again w x last) i
  present w x last (Cell n) h f = λ low. f low ∙ sym (pick_false (last.given.values.cell n) ((values_of w).cell n) h)
  present w x last (Error s) h f = f ∙ sym (pick_false (last.given.values.error s) ((values_of w).error s) h)
  present w x last (Context k s) h f = f ∙ sym (pick_false (last.given.values.context k s) ((values_of w).context k s) h)

  read_alike : (w : State K) (x : Scope K) (last : LastCall K) → Fresh w x last → (i : Source) → names_source x.reads i ≡ true → SameAt last.given (world_again w x last) i
  read_alike w x last fresh i named = present w x last i (not_aside (names_source last.aside i) (ap (λ (b : Bool). not b) named)) (fresh i named)
    where
      not_aside : (b : Bool) → not (names_source x.reads i) ≡ false → b && not (names_source x.reads i) ≡ false
      not_aside true h = h
      not_aside false h = refl

  aside_alike : (w : State K) (x : Scope K) (last : LastCall K) → Fresh w x last → (i : Source) → names_source last.aside i ≡ true → SameAt last.given (world_again w x last) i
  aside_alike w x last fresh i named =
      by_test (names_source x.reads i)
      (λ q. read_alike w x last fresh i q)
      (λ q. kept_then w x last i (ap (λ (b : Bool). b && not (names_source x.reads i)) named ∙ ap (λ (b : Bool). not b) q))

module _ {K : Types} (app : Application K) (lawful : IsLawful K app) where
  caught_alike : (children : Element K) (handler : Option (K.Component × K.Props)) (v w : World K) (o p : Option CapturedError) → v.given ≡ w.given → (SameAt v w (Error v.given.scope) → o ≡ p)
      → Agree v w (caught app children handler v o).aside → Agree v w (caught app children handler v o).reads → caught app children handler v o ≡ caught app children handler w p
  caught_alike children handler v w None p given slot aside reads =
      ap (λ (s : ℕ). plain v (Error s ∷ []) (rendered (children_tree children))) (ap (λ (h : Given K). h.scope) given)
      ∙ plain_alike v w (Error w.given.scope ∷ []) (rendered (children_tree children)) given
      ∙ ap (λ (q : Option CapturedError). caught app children handler w q) (slot reads.0)
  caught_alike children None v w (Some e) p given slot aside reads =
      ap (λ (s : ℕ). plain v (Error s ∷ []) (rendered (error_tree e.text))) (ap (λ (h : Given K). h.scope) given)
      ∙ plain_alike v w (Error w.given.scope ∷ []) (rendered (error_tree e.text)) given
      ∙ ap (λ (q : Option CapturedError). caught app children None w q) (slot reads.0)
  caught_alike children (Some h) v w (Some e) p given slot aside reads =
      ap (λ (s : ℕ). also_read (Error s) (app.body h.0 h.1 v)) (ap (λ (k : Given K). k.scope) given)
      ∙ ap (λ (m : Meaning K (Element K)). also_read (Error w.given.scope) m) (lawful.bodies_read h.0 h.1 v w given aside reads.1)
      ∙ ap (λ (q : Option CapturedError). caught app children (Some h) w q) (slot reads.0)

  -- reads decide what the body of each component means
  pub reads_decide : (c : VComponent K) → ReadsDecide (λ w. body_of app c w)
  reads_decide (Own c p) v w given aside reads = lawful.bodies_read c p v w given aside reads
  reads_decide (Root c p) v w given aside reads = plain_alike v w [] (rendered (root_tree c p)) given
  reads_decide (Fragment children) v w given aside reads = plain_alike v w [] children given
  reads_decide (ErrorBoundary children handler) v w given aside reads =
      caught_alike children handler v w (v.values.error v.given.scope) (w.values.error w.given.scope) given
      (λ e. e ∙ ap (λ (h : Given K). w.values.error h.scope) given) aside reads
  reads_decide (SuspenseBoundary children None) v w given aside reads = plain_alike v w [] (rendered placeholder_tree) given
  reads_decide (SuspenseBoundary children (Some f)) v w given aside reads = lawful.bodies_read f.0 f.1 v w given aside reads

  -- so a call whose reads have their values still means the same
  pub means_again : (w : State K) (x : Scope K) (last : LastCall K) (c : VComponent K) → CallStands x last (body_of app c last.given) → Fresh w x last
      → body_of app c last.given ≡ body_of app c (world_again w x last)
  means_again w x last c stands fresh =
      reads_decide c last.given (world_again w x last) refl
      (
      subst (λ (is : List Source). Agree last.given (world_again w x last) is) stands.aside
      (all_named (λ i. SameAt last.given (world_again w x last) i) last.aside (λ i q. aside_alike w x last fresh i q))
      )
      (
      subst (λ (is : List Source). Agree last.given (world_again w x last) is) stands.reads
      (all_named (λ i. SameAt last.given (world_again w x last) i) x.reads (λ i q. read_alike w x last fresh i q))
      )

  pub fresh_repeats : (w : State K) (x : Scope K) (last : LastCall K) → CallStands x last (body_of app x.component last.given) → Fresh w x last → Repeats x last (again app w x last)
  fresh_repeats w x last stands fresh =
      let same = means_again w x last x.component stands fresh in
      (stands.answer ∙ ap (λ (m : Meaning K (Element K)). m.answer) same, stands.reads ∙ ap (λ (m : Meaning K (Element K)). m.reads) same)
