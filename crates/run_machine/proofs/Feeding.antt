-- What a feed comes to, and its entry, by what is known of the child.
use Rattle.std.proofs.Common.{ℕ, Bool, List, [], ◌∷◌, ◌≡◌, refl, sym, ap, ◌∙◌}
use Rattle.std.specs.Prelude.{Option, Some, None, if◌then◌else◌}
use Rattle.rt_model.specs.Tree.{Types, Place, VComponent}
use Rattle.rt_model.specs.World.{Application}
use Rattle.rt_model.specs.State.{SideName, State, Feed, Outcome, Done}
use Rattle.rt_model.specs.Replay.{Entry, Kept, Fed, fed_child, keeps, handed, outcome_of, entry_of}
use Rattle.run_standing.specs.Feeds.{child_fed, feeds}
use Rattle.run_turns.specs.Fed.{fed_entries, fed_outcome}

module _ {K : Types} (app : Application K) where
  abbrev fed_by : State K → VComponent K → Option ℕ → Outcome K
  fed_by w c o = elim o as (λ z. Outcome K) [ None ↦ Done w [] | Some t ↦ handed app w t c ]

  abbrev entries_by : State K → VComponent K → Option ℕ → List Entry
  entries_by w c o = elim o as (λ z. List Entry) [ None ↦ [] | Some t ↦ (if keeps app w t c then Kept t else Fed t) ∷ [] ]

  -- what is known of the child that is fed tells what comes of it
  outcome_by : (w : State K) (c : VComponent K) (child : Option ℕ) → fed_by w c child ≡ fed_outcome app w c (child_fed app w c child)
  outcome_by w c None = refl
  outcome_by w c (Some t) = refl

  entry_by : (w : State K) (c : VComponent K) (child : Option ℕ) → entries_by w c child ≡ fed_entries (child_fed app w c child)
  entry_by w c None = refl
  entry_by w c (Some t) = refl

  pub feed_found : (w : State K) (s : ℕ) (side : SideName) (p : Place) (c : VComponent K) (fed : Option (ℕ × Bool)) → fed ≡ feeds app w (Feed s side p c)
      → outcome_of app w (Feed s side p c) ≡ fed_outcome app w c fed
  feed_found w s side p c fed is = outcome_by w c (fed_child w s side p) ∙ ap (λ z. fed_outcome app w c z) (sym is)

  pub feed_entries : (w : State K) (s : ℕ) (side : SideName) (p : Place) (c : VComponent K) (fed : Option (ℕ × Bool)) → fed ≡ feeds app w (Feed s side p c)
      → entry_of app w (Feed s side p c) ≡ fed_entries fed
  feed_entries w s side p c fed is = entry_by w c (fed_child w s side p) ∙ ap (λ z. fed_entries z) (sym is)
