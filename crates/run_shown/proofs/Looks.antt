-- Looks at the scopes, step by step; what a look shows is what the definitions show of the state.
use Rattle.std.proofs.Common.{ℕ, zero, suc, ◌-◌, Bool, true, false, ◌&&◌, ◌≡◌, ◌≢◌, refl, sym, ap, ◌∙◌, arith}
use Rattle.std.specs.Prelude.{Option, Some, None, is_some, option_map}
use Rattle.run_places.specs.declared.side.Side.{Side}
use Rattle.run_places.specs.declared.side.SideName.{SideName}
use Rattle.run_shown.specs.declared.look.Look.{Look}
use Rattle.run_shown.specs.declared.found.Rung.{Rung}
use Rattle.run_shown.specs.declared.look.Stood.{Stood}
use Rattle.run_shown.specs.Look.{is_showing, look_at, look_below, look_is_shown, look_parent, look_shows, look_shown, look_side, rung_in, rung_of, shown_above, shown_within, seen_in, shown_steps, shown_on, side_stood, standing}
use Rattle.run_shown.specs.Remembered.{was_in}
use Rattle.run_records.specs.declared.rest.Scope.{Scope}

module _ {P C Q V H T E L : Type 0} where
  -- the way up

  pub steps_zero : (look : Look P C Q V H T E L) (n s : ℕ) → n ≡ 0 → shown_steps look n s ≡ true
  unfolding shown_steps
  steps_zero look n s none = ap (λ m. shown_within look m s) none

  pub steps_none : (look : Look P C Q V H T E L) (n s : ℕ) → n ≢ 0 → look_below look s ≡ None → shown_steps look n s ≡ false
  unfolding shown_steps
  steps_none look zero s some gone = absurd (some refl)
  steps_none look (suc n) s some gone =
      ap (λ (o : Option SideName). elim o as (λ x. Bool) [ None ↦ false | Some below ↦ shown_above look (λ p. shown_within look n p) below (look_parent look s) ]) gone

  pub steps_some : (look : Look P C Q V H T E L) (n s : ℕ) (below : SideName) → n ≢ 0 → look_below look s ≡ Some below → shown_steps look n s ≡ shown_on look (n - 1) below (look_parent look s)
  unfolding shown_steps shown_on
  steps_some look zero s below some there = absurd (some refl)
  steps_some look (suc n) s below some there =
      ap (λ (o : Option SideName). elim o as (λ x. Bool) [ None ↦ false | Some b ↦ shown_above look (λ p. shown_within look n p) b (look_parent look s) ]) there ∙
      ap (λ m. shown_above look (λ p. shown_within look m p) below (look_parent look s)) (let e : n ≡ suc n - 1 = omega arith in e)

  pub on_none : (look : Look P C Q V H T E L) (n : ℕ) (below : SideName) → shown_on look n below None ≡ true
  unfolding shown_on
  on_none look n below = refl

  pub on_some : (look : Look P C Q V H T E L) (n : ℕ) (below : SideName) (p : ℕ) → shown_on look n below (Some p) ≡ (is_showing (look_shows look p) below && shown_steps look n p)
  unfolding shown_on shown_steps
  on_some look n below p = refl

-- a climb, one look a scope

module _ {P C Q V H T E L : Type 0} where
  rung_there : (o : Option (Stood P C Q V H T E L)) (r : Rung) → Some r ≡ rung_in o → (x : Stood P C Q V H T E L) × (o ≡ Some x) × (r ≡ rung_of x)
  rung_there None r h = absurd (let e : ⊥ = cc h in e)
  rung_there (Some x) r h = (x, refl, cc h)

  rung_gone : (o : Option (Stood P C Q V H T E L)) → None ≡ rung_in o → o ≡ None
  rung_gone None h = refl
  rung_gone (Some x) h = cc h

  abbrev pub parent_in : Option (Stood P C Q V H T E L) → Option ℕ
  parent_in o = elim o as (λ _. Option ℕ) [ None ↦ None | Some x ↦ x.parent ]

  abbrev pub below_in : Option (Stood P C Q V H T E L) → Option SideName
  below_in o = elim o as (λ _. Option SideName) [ None ↦ None | Some x ↦ Some x.below ]

  abbrev pub shows_in : Option (Stood P C Q V H T E L) → Option SideName
  shows_in o = elim o as (λ _. Option SideName) [ None ↦ None | Some x ↦ x.shows ]

  -- what a look shows of a scope that was found
  pub shows_found : (look : Look P C Q V H T E L) (s : ℕ) (x : Stood P C Q V H T E L) → look_at look s ≡ Some x → look_shows look s ≡ x.shows
  shows_found look s x found = ap shows_in found

  pub shows_gone : (look : Look P C Q V H T E L) (s : ℕ) → None ≡ look_at look s → look_shows look s ≡ None
  shows_gone look s gone = ap shows_in (sym gone)

  abbrev pub side_in : SideName → Option (Stood P C Q V H T E L) → Option (Side P C Q V H T E L)
  side_in name o = elim o as (λ _. Option (Side P C Q V H T E L)) [ None ↦ None | Some x ↦ Some (side_stood x name) ]

  pub side_found : (look : Look P C Q V H T E L) (s : ℕ) (name : SideName) (x : Stood P C Q V H T E L) → look_at look s ≡ Some x → look_side look s name ≡ Some (side_stood x name)
  side_found look s name x found = ap (side_in name) found

  pub shown_found : (look : Look P C Q V H T E L) (s : ℕ) (o : Option (Stood P C Q V H T E L)) → o ≡ look_at look s
      → elim (shows_in o) as (λ _. Option (Side P C Q V H T E L)) [ None ↦ None | Some name ↦ side_in name o ] ≡ look_shown look s
  unfolding look_shown
  shown_found look s o found =
      ap (λ (q : Option (Stood P C Q V H T E L)). elim (shows_in q) as (λ _. Option (Side P C Q V H T E L)) [ None ↦ None | Some name ↦ side_in name q ]) found

  pub rung_found : (look : Look P C Q V H T E L) (s : ℕ) (x : Stood P C Q V H T E L) (r : Rung) → Some x ≡ look_at look s → r ≡ rung_of x → Some r ≡ rung_in (look_at look s)
  rung_found look s x r found is = ap Some is ∙ ap rung_in found

  pub rung_none : (look : Look P C Q V H T E L) (s : ℕ) → None ≡ look_at look s → None ≡ rung_in (look_at look s)
  rung_none look s gone = ap rung_in gone

  abbrev height_in : Option (Stood P C Q V H T E L) → ℕ
  height_in o = elim o as (λ _. ℕ) [ None ↦ 0 | Some x ↦ x.height ]

  steps_there : (look : Look P C Q V H T E L) (s n : ℕ) (r : Rung) → Some r ≡ rung_in (look_at look s) → n ≢ 0 → shown_steps look n s ≡ shown_on look (n - 1) r.below r.parent
  steps_there look s n r h some =
      let found = rung_there (look_at look s) r h in
      steps_some look n s (found.0).below some (ap below_in found.1)
      ∙ ap (λ p. shown_on look (n - 1) (found.0).below p) (ap parent_in found.1)
      ∙ sym (ap (λ (q : Rung). shown_on look (n - 1) q.below q.parent) found.2)

  pub shown_gone : (look : Look P C Q V H T E L) (s : ℕ) → None ≡ rung_in (look_at look s) → look_is_shown look s ≡ false
  shown_gone look s h =
      (λ t. is_some (rung_gone (look_at look s) h t) && shown_steps look (height_in (rung_gone (look_at look s) h t)) s)

  live_there : (look : Look P C Q V H T E L) (s : ℕ) (r : Rung) → Some r ≡ rung_in (look_at look s) → look_is_shown look s ≡ shown_steps look r.height s
  live_there look s r h =
      let found = rung_there (look_at look s) r h in
      (λ t. is_some (found.1 t) && shown_steps look (height_in (found.1 t)) s) ∙ sym (ap (λ (q : Rung). shown_steps look q.height s) found.2)

  pub shown_root : (look : Look P C Q V H T E L) (s : ℕ) (r : Rung) → Some r ≡ rung_in (look_at look s) → r.height ≡ 0 → look_is_shown look s ≡ true
  shown_root look s r h none = live_there look s r h ∙ steps_zero look r.height s none

  pub shown_there : (look : Look P C Q V H T E L) (s : ℕ) (r : Rung) → Some r ≡ rung_in (look_at look s) → r.height ≢ 0 → look_is_shown look s ≡ shown_on look (r.height - 1) r.below r.parent
  shown_there look s r h some = live_there look s r h ∙ steps_there look s r.height r h some

  shows_there : (look : Look P C Q V H T E L) (s : ℕ) (r : Rung) → Some r ≡ rung_in (look_at look s) → look_shows look s ≡ r.shows
  shows_there look s r h =
      let found = rung_there (look_at look s) r h in
      ap shows_in found.1 ∙ sym (ap (λ (q : Rung). q.shows) found.2)

  -- the parent isn't live, or shows another side
  pub on_gone : (look : Look P C Q V H T E L) (n : ℕ) (below : SideName) (p : ℕ) → None ≡ rung_in (look_at look p) → shown_on look n below (Some p) ≡ false
  on_gone look n below p h =
      on_some look n below p ∙ (λ t. is_showing (shows_in (rung_gone (look_at look p) h t)) below && shown_steps look n p)

  pub on_other : (look : Look P C Q V H T E L) (n : ℕ) (below : SideName) (p : ℕ) (r : Rung) → Some r ≡ rung_in (look_at look p) → is_showing r.shows below ≡ false → shown_on look n below (Some p) ≡ false
  on_other look n below p r h other =
      on_some look n below p ∙ ap (λ o. is_showing o below && shown_steps look n p) (shows_there look p r h) ∙ ap (λ b. b && shown_steps look n p) other

  -- it shows the side
  on_side : (look : Look P C Q V H T E L) (n : ℕ) (below : SideName) (p : ℕ) (r : Rung) → Some r ≡ rung_in (look_at look p) → is_showing r.shows below ≡ true → shown_on look n below (Some p) ≡ shown_steps look n p
  on_side look n below p r h own =
      on_some look n below p ∙ ap (λ o. is_showing o below && shown_steps look n p) (shows_there look p r h) ∙ ap (λ b. b && shown_steps look n p) own

  pub on_top : (look : Look P C Q V H T E L) (n : ℕ) (below : SideName) (p : ℕ) (r : Rung) → Some r ≡ rung_in (look_at look p) → is_showing r.shows below ≡ true → n ≡ 0 → shown_on look n below (Some p) ≡ true
  on_top look n below p r h own none = on_side look n below p r h own ∙ steps_zero look n p none

  pub on_further : (look : Look P C Q V H T E L) (n : ℕ) (below : SideName) (p : ℕ) (r : Rung) → Some r ≡ rung_in (look_at look p) → is_showing r.shows below ≡ true → n ≢ 0
      → shown_on look n below (Some p) ≡ shown_on look (n - 1) r.below r.parent
  on_further look n below p r h own some = on_side look n below p r h own ∙ steps_there look p n r h some

-- what a look sees, by what is kept and what stands

module _ {P C Q V H T E L : Type 0} where
  pub seen_kept : (o : Option (Option (Stood P C Q V H T E L))) (p : Option (Scope P C Q V H T E L)) (x : Stood P C Q V H T E L) → Some x ≡ was_in o → Some x ≡ seen_in o p
  seen_kept None p x h = cc h
  seen_kept (Some None) p x h = cc h
  seen_kept (Some (Some y)) p x h = h

  pub seen_gone : (o : Option (Option (Stood P C Q V H T E L))) (p : Option (Scope P C Q V H T E L)) → was_in o ≡ None → is_some o ≡ true → None ≡ seen_in o p
  seen_gone None p none kept = cc kept
  seen_gone (Some None) p none kept = refl
  seen_gone (Some (Some y)) p none kept = cc none

  pub seen_now : (o : Option (Option (Stood P C Q V H T E L))) (p : Option (Scope P C Q V H T E L)) → is_some o ≡ false → option_map standing p ≡ seen_in o p
  seen_now None None apart = refl
  seen_now None (Some x) apart = refl
  seen_now (Some o) p apart = cc apart
