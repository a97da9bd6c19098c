-- The parts of a program's way with a runtime, one after another.
use Rattle.std.proofs.Common.{ℕ, ◌<◌, List, [], ◌∷◌, ◌++◌, refl, sym, subst}
use Rattle.rt_model.specs.Tree.{Types}
use Rattle.rt_model.specs.World.{Firsts, Application}
use Rattle.rt_model.specs.Replay.{Input, Machine, ones, start}
use Rattle.rt_model.specs.Causes.{Limits}
use Rattle.law_moves.specs.Moves.{Move, Leads}
use Rattle.rt_model.specs.Asides.{Aside, PassesNone}
use Rattle.law_moves.specs.Asides.{IsAside}
use Rattle.law_moves.proofs.Begun.{ones_above}
use Rattle.law_moves.specs.Reached.{Part, ByMoves, ByAside, NonePassed, start_at, Comes, Reached}

module _ {K : Types} (app : Application K) (limits : Limits) where
  pub comes-append : (xs ys : List (Part K)) (m u v : Machine K) → Comes app limits m xs u → Comes app limits u ys v → Comes app limits m (xs ++ ys) v
  comes-append [] ys m u v first then_on = subst (λ (x : Machine K). Comes app limits x ys v) first then_on
  comes-append (ByMoves moves ∷ xs) ys m u v first then_on = (first.0, first.1, comes-append xs ys first.0 u v first.2 then_on)
  comes-append (ByAside a ∷ xs) ys m u v first then_on = (first.0, first.1, comes-append xs ys first.0 u v first.2 then_on)

  -- what moves keep, and calls that log no entry, holds all the way
  pub comes_keep : (P : Machine K → Type 0)
      → ((m v : Machine K) (moves : List Move) → Leads app limits m moves v → P m → P v)
      → ((m v : Machine K) (a : Aside K) → IsAside app m a v → P m → P v)
      → (parts : List (Part K)) (m v : Machine K)
      → Comes app limits m parts v
      → P m
      → P v
  comes_keep P by_moves by_aside [] m v comes p = subst P (sym comes) p
  comes_keep P by_moves by_aside (ByMoves moves ∷ parts) m v comes p =
      comes_keep P by_moves by_aside parts comes.0 v comes.2 (by_moves m comes.0 moves comes.1 p)
  comes_keep P by_moves by_aside (ByAside a ∷ parts) m v comes p =
      comes_keep P by_moves by_aside parts comes.0 v comes.2 (by_aside m comes.0 a comes.1 p)

  module _ (props : K.Props) (inputs : List (Input K)) where
    pub start_reached : Reached app limits props inputs (start app props inputs)
    start_reached = record { firsts = ones; above = ones_above; contexts = []; parts = []; comes = refl }

    -- where the way of a program began
    abbrev pub begin_of : (m : Machine K) → Reached app limits props inputs m → Machine K
    begin_of m r = start_at app props r.firsts r.contexts inputs

    -- moves lead on
    pub reached_moved : (m v : Machine K) (moves : List Move) → Reached app limits props inputs m → Leads app limits m moves v → Reached app limits props inputs v
    reached_moved m v moves r leads =
        record {
          firsts = r.firsts;
          above = r.above;
          contexts = r.contexts;
          parts = r.parts ++ ByMoves moves ∷ [];
          comes = comes-append r.parts (ByMoves moves ∷ []) (begin_of m r) m v r.comes (v, leads, refl);
        }

    -- so does a call that logs no entry
    pub reached_aside : (m v : Machine K) (a : Aside K) → Reached app limits props inputs m → IsAside app m a v → Reached app limits props inputs v
    reached_aside m v a r h =
        record {
          firsts = r.firsts;
          above = r.above;
          contexts = r.contexts;
          parts = r.parts ++ ByAside a ∷ [];
          comes = comes-append r.parts (ByAside a ∷ []) (begin_of m r) m v r.comes (v, h, refl);
        }

    -- what holds at the start and all the way holds of what is reached
    pub reached_keep : (P : Machine K → Type 0)
        → ((m v : Machine K) (moves : List Move) → Leads app limits m moves v → P m → P v)
        → ((m v : Machine K) (a : Aside K) → IsAside app m a v → P m → P v)
        → ((firsts : Firsts) (contexts : List (ℕ × K.Value)) → 0 < firsts.elements → P (start_at app props firsts contexts inputs))
        → (m : Machine K)
        → Reached app limits props inputs m
        → P m
    reached_keep P by_moves by_aside first m r = comes_keep P by_moves by_aside r.parts (begin_of m r) m r.comes (first r.firsts r.contexts r.above)

module _ {K : Types} where
  -- moves, and calls that pass over nothing, pass over nothing
  pub none_more : (parts : List (Part K)) (moves : List Move) → NonePassed parts → NonePassed (parts ++ ByMoves moves ∷ [])
  none_more [] moves h = tt
  none_more (ByMoves ms ∷ parts) moves h = none_more parts moves h
  none_more (ByAside a ∷ parts) moves h = (h.0, none_more parts moves h.1)

  pub none_aside : (parts : List (Part K)) (a : Aside K) → PassesNone a → NonePassed parts → NonePassed (parts ++ ByAside a ∷ [])
  none_aside [] a p h = (p, tt)
  none_aside (ByMoves ms ∷ parts) a p h = none_aside parts a p h
  none_aside (ByAside b ∷ parts) a p h = (h.0, none_aside parts a p h.1)
