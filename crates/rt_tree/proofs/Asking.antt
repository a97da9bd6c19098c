-- Which scope is asked at a mark, by what stands at the top.
use Rattle.std.proofs.Common.{ℕ, ◌+◌, List, ◌≡◌, take, drop, map, sym, ap, ◌∙◌, arith}
use Rattle.tree_nodes.specs.declared.vnode.VNode.{VNode}
use Rattle.tree_mirror.specs.Mirror.{trees_from}
use Rattle.tree_mirror.specs.Sealed.{tree_of}
use Rattle.run_places.specs.declared.place.Step.{Step}
use Rattle.run_places.specs.Places.{place_of, side_of}
use Rattle.run_met.specs.declared.met.Met.{Met}
use Rattle.run_met.specs.declared.met.Met.TheVariants as mets
use Rattle.run_met.specs.Mets.{mark_of}
use Rattle.run_shown.specs.declared.pieces.Top.{Top}
use Rattle.run_shown.specs.Pieces.{items_pieces, items_tops}
use Rattle.run_shown.specs.Unknowns.{first_in, last_in}
use Rattle.run_shown.proofs.PieceRows as piece
use Rattle.rt_tree.specs.declared.patch.Patch.{Patch}
use Rattle.rt_tree.specs.Asks.{asked_at}

module _ {P C Q V H T E L : Type 0} where
  -- where items go
  pub out_asks : (p : Patch P C Q V H T E L) (met : Met P C Q V H T E L) (place : List Step) (trees : List (VNode P C Q V H T E L)) (first : ℕ) (tops : List Top)
      → met ≡ mets.GoOut place trees first → tops ≡ items_pieces p.old first 0 (place_of place) (drop first trees)
      → first_in p.given tops ≡ asked_at p (mark_of met)
  out_asks p met place trees first tops is are =
      let from : first + 0 ≡ first = omega arith in
      ap (λ ts. first_in p.given ts)
      (are ∙ piece.items_are p.old first 0 (place_of place) (drop first trees)
      ∙ ap (λ n. items_tops (side_of p.old) n (place_of place) (trees_from (map tree_of (drop first trees)))) from)
      ∙ ap (λ m. asked_at p (mark_of m)) (sym is)

  -- where items come in behind others
  pub in_asks : (p : Patch P C Q V H T E L) (met : Met P C Q V H T E L) (place : List Step) (trees : List (VNode P C Q V H T E L)) (first : ℕ) (tops : List Top)
      → met ≡ mets.ComeIn place trees first → tops ≡ items_pieces p.new.side 0 0 (place_of place) (take first trees)
      → last_in p.given tops ≡ asked_at p (mark_of met)
  in_asks p met place trees first tops is are =
      ap (λ ts. last_in p.given ts) (are ∙ piece.items_are p.new.side 0 0 (place_of place) (take first trees)) ∙ ap (λ m. asked_at p (mark_of m)) (sym is)
