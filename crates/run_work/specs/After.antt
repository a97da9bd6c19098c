-- What a walk over an old tree and a new one has found, event by event.
use Rattle.std.specs.Prelude.{ℕ, List, [], ◌∷◌, ◌++◌, length, replicate, slice_set, Option, Some, None}
use Rattle.rt_model.specs.Tree.{Types, Place, Kind}
use Rattle.rt_model.specs.State.{SideName, Item, Draw, Feed, Make}
use Rattle.rt_model.specs.Run.{child_at, drop_at}
use Rattle.run_work.specs.Events.{Event, stays, goes, comes, fed, left, made}

-- the thing at an index, if there is one, goes to another index
abbrev pub goes_to : List (Option ℕ) → Option ℕ → ℕ → List (Option ℕ)
goes_to to None n = to
goes_to to (Some i) n = slice_set to i (Some n)

module _ (K : Types) where
  -- where a new tree comes, and what a side knows there: its nodes, its components and their child scopes
  pub record Ground : Type 0 where
    pub scope : ℕ
    pub side : SideName
    pub node_known : Place → Kind → Option ℕ
    pub seat_known : Place → Option ℕ
    pub children : List (Place × ℕ)

  -- the work that a new tree leads to, its nodes and components, and where those that a side knows go
  pub record Out : Type 0 where
    pub work : List (Item K)
    pub drops : List (Item K)
    pub nodes : List (Place × Kind)
    pub seats : List Place
    pub nodes_to : List (Option ℕ)
    pub seats_to : List (Option ℕ)

module _ {K : Types} where
  -- nothing was found yet, where a side knows so many nodes and components
  abbrev pub nothing_yet : ℕ → ℕ → Out K
  nothing_yet nodes seats =
      record { work = []; drops = []; nodes = []; seats = []; nodes_to = replicate nodes None; seats_to = replicate seats None }

  -- the new tree has one more node
  abbrev pub with_node : Ground K → Place → Kind → Out K → Out K
  with_node g p k o = record o { nodes = o.nodes ++ (p, k) ∷ []; nodes_to = goes_to o.nodes_to (g.node_known p k) (length o.nodes) }

  -- after one event
  abbrev pub one : Ground K → Event K → Out K → Out K
  one g (stays p k) o = with_node g p k o
  one g (goes p k) o = o
  one g (comes p k) o = record (with_node g p k o) { work = o.work ++ Draw g.scope g.side p k ∷ [] }
  one g (fed p c d) o =
      record o {
        work = o.work ++ Feed g.scope g.side p d ∷ [];
        seats = o.seats ++ p ∷ [];
        seats_to = goes_to o.seats_to (g.seat_known p) (length o.seats);
      }
  one g (left p c) o = record o { drops = o.drops ++ drop_at g.scope g.side (child_at g.children p) }
  one g (made p d) o = record o { work = o.work ++ Make g.scope g.side p d ∷ []; seats = o.seats ++ p ∷ [] }

  -- after these events
  abbrev pub after : Ground K → List (Event K) → Out K → Out K
  after g [] o = o
  after g (e ∷ es) o = after g es (one g e o)
