-- One climb for two looks that show the same of each scope on the way.
use Rattle.std.proofs.Common.{ℕ, ◌-◌, true, false, ◌&&◌, ◌≡◌, ◌≢◌, sym, ap, ◌∙◌}
use Rattle.std.specs.Prelude.{Option, Some, None}
pub use Rattle.rt_lemmas.proofs.Options.{none_of as not_some}
use Rattle.rt_lemmas.proofs.Bools.{and_second as and_none}
use Rattle.rt_model.specs.Lists.{at}
use Rattle.run_places.specs.declared.side.SideName.{SideName}
use Rattle.run_shown.specs.declared.look.Look.{Look}
use Rattle.run_shown.specs.declared.found.Rung.{Rung}
use Rattle.run_shown.specs.Look.{IsAlike, is_showing, look_at, look_is_shown, rung_in, shown_on, stood_in}
use Rattle.run_shown.proofs.Looks.{on_further, on_gone, on_none, on_other, on_top, shown_gone, shown_root, shown_there}

module _ {P C Q V H T E L : Type 0} (look other : Look P C Q V H T E L) where
  -- the way from a scope on

  pub none_before : (s : ℕ) → None ≡ rung_in (look_at look s) → false ≡ (look_is_shown look s && look_is_shown other s)
  none_before s gone = sym (ap (λ b. b && look_is_shown other s) (shown_gone look s gone))

  pub none_after : (s : ℕ) → None ≡ rung_in (look_at other s) → false ≡ (look_is_shown look s && look_is_shown other s)
  none_after s gone = sym (and_none (look_is_shown look s) (shown_gone other s gone))

  pub root_both : (s : ℕ) (r : Rung) → Some r ≡ rung_in (look_at look s) → Some r ≡ rung_in (look_at other s) → r.height ≡ 0 → true ≡ (look_is_shown look s && look_is_shown other s)
  root_both s r h k none = sym (λ t. shown_root look s r h none t && shown_root other s r k none t)

  pub start_both : (s : ℕ) (r : Rung) → Some r ≡ rung_in (look_at look s) → Some r ≡ rung_in (look_at other s) → r.height ≢ 0
      → (shown_on look (r.height - 1) r.below r.parent && shown_on other (r.height - 1) r.below r.parent) ≡ (look_is_shown look s && look_is_shown other s)
  start_both s r h k some = sym (λ t. shown_there look s r h some t && shown_there other s r k some t)

  -- and from a parent on

  module _ (n : ℕ) (below : SideName) (parent : Option ℕ) where
    pub both_none : parent ≡ None → true ≡ (shown_on look n below parent && shown_on other n below parent)
    both_none none =
        sym
        (
        ap (λ (p : Option ℕ). shown_on look n below p && shown_on other n below p) none
        ∙ (λ t. on_none look n below t && on_none other n below t)
        )

    module _ (p : ℕ) (is : parent ≡ Some p) where
      pub both_gone : None ≡ rung_in (look_at other p) → false ≡ (shown_on look n below parent && shown_on other n below parent)
      both_gone gone =
          sym
          (
          ap (λ (q : Option ℕ). shown_on look n below q && shown_on other n below q) is
          ∙ and_none (shown_on look n below (Some p)) (on_gone other n below p gone)
          )

      module _ (r : Rung) (h : Some r ≡ rung_in (look_at other p)) where
        pub both_other : is_showing r.shows below ≡ false → false ≡ (shown_on look n below parent && shown_on other n below parent)
        both_other away =
            sym
            (
            ap (λ (q : Option ℕ). shown_on look n below q && shown_on other n below q) is
            ∙ and_none (shown_on look n below (Some p)) (on_other other n below p r h away)
            )

        module _ (alike : IsAlike look other) (none : at (stood_in look) p ≡ None) where
          own_rung : Some r ≡ rung_in (look_at look p)
          own_rung = h ∙ ap (λ o. rung_in o) (alike p none)

          pub both_top : is_showing r.shows below ≡ true → n ≡ 0 → true ≡ (shown_on look n below parent && shown_on other n below parent)
          both_top own at_top =
              sym
              (
              ap (λ (q : Option ℕ). shown_on look n below q && shown_on other n below q) is
              ∙ (λ t. on_top look n below p r own_rung own at_top t && on_top other n below p r h own at_top t)
              )

          pub both_further : is_showing r.shows below ≡ true → n ≢ 0
              → (shown_on look (n - 1) r.below r.parent && shown_on other (n - 1) r.below r.parent) ≡ (shown_on look n below parent && shown_on other n below parent)
          both_further own some =
              sym
              (
              ap (λ (q : Option ℕ). shown_on look n below q && shown_on other n below q) is
              ∙ (λ t. on_further look n below p r own_rung own some t && on_further other n below p r h own some t)
              )
