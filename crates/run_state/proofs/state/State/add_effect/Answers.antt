use Rattle.std.proofs.Common.{◌≡◌, rules, ◌++◌, ◌∷◌, [], refl, sym, ap, ◌∙◌, nat_eq}
use Rattle.std.specs.List.{list_any}
use Rattle.run_state.specs.Drawn.{beside_lists}
use Rattle.run_state.proofs.Listing.{queued_rank}
use Rattle.run_state.proofs.state.State.add_effect.Goals as goal

pub returns : goal.returns
returns g c =
    c.change_listed.ensures.changed
    (record {
      code = λ x. record x { rest = record (x.rest) { effects = (x.rest).effects ++ c.args.effect ∷ [] } };
      model = λ x. record x { effects = x.effects ++ c.args.effect ∷ [] };
      same = λ x. refl;
    })
    (λ x y ret. search rules)

pub change_listed-requires-clause-stay : goal.change_listed-requires-clause-stay
change_listed-requires-clause-stay g c = λ x y done ret. search rules

pub change_listed-requires-clause-listed : goal.change_listed-requires-clause-listed
change_listed-requires-clause-listed g c =
    λ x y done there ret h.
    let same : (y.rest).holders ≡ (x.rest).holders = search rules in
    let stays : beside_lists y ≡ beside_lists x = search rules in
    record { queues = λ k q. queued_rank (c.args.self.now.rows).table c.args.self.now.effects c.args.scope x y k there (ap (λ t. t.1) stays) c.requires.listed q; holders = λ t q. h.holders t (sym (ap (λ hs. list_any (λ e. nat_eq e.0 t) hs) same) ∙ q) }
