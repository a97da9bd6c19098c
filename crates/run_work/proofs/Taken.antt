-- What the runtime takes of marks is what their events lead to.
use Rattle.std.proofs.Common.{List, [], ◌∷◌, ◌≡◌, sym, ap, ◌∙◌}
use Rattle.rt_model.specs.OneLog.{types}
use Rattle.tree_marks.specs.Marks.{Mark}
use Rattle.run_work.specs.declared.taking.Taking.{Taking}
use Rattle.run_work.specs.After.{after}
use Rattle.run_work.specs.Grounds.{ground_of, out_of}
use Rattle.run_work.specs.Marked.{event_at, events_in}
use Rattle.run_work.specs.Met.{Follows}
use Rattle.run_work.proofs.Afters.{after-append}

module _ {P C Q V H T E L : Type 0} where
  -- what is taken of one mark
  abbrev takes : Mark (types C Q V H T E L) → Taking P C Q V H T E L → Taking P C Q V H T E L → Type 0
  takes m a b = (b.ground ≡ a.ground) × (out_of b.out ≡ after (ground_of a.ground) (event_at m) (out_of a.out))

  -- and of all
  pub all_taken : (ms : List (Mark (types C Q V H T E L))) (a b : Taking P C Q V H T E L) → Follows takes ms a b
      → out_of b.out ≡ after (ground_of a.ground) (events_in ms) (out_of a.out)
  all_taken [] a b h = ap (λ (x : Taking P C Q V H T E L). out_of x.out) h
  all_taken (m ∷ ms) a b h =
      all_taken ms h.0 b h.2
      ∙ (λ t. after (ground_of (h.1.0 t)) (events_in ms) (h.1.1 t))
      ∙ sym (after-append (ground_of a.ground) (event_at m) (events_in ms) (out_of a.out))
