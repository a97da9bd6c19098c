-- The orders that say what ascends: of scopes, readers, sources and the places of sources.
use Rattle.std.specs.Prelude.{Bool}
use Rattle.std.specs.declared.cmp.Ordering.{Ordering}
use Rattle.rt_values.specs.declared.names.ScopeId.{ScopeId}
use Rattle.rt_cells.specs.declared.contexts.ReactiveContext.{ReactiveContext}
use Rattle.rt_cells.specs.declared.sources.Source.{Source}
use Rattle.rt_cells.specs.declared.sources.Reader.{Reader}
use Rattle.rt_cells.specs.declared.places.Place.{Place}
use Rattle.rt_values.specs.contracts.names.ScopeIdOrd.TheImpl as scope_ord
use Rattle.rt_cells.specs.contracts.contexts.ReactiveContextOrd.TheImpl as context_ord
use Rattle.rt_cells.specs.contracts.contexts.ReactiveContextPartialEq.TheImpl as context_eq
use Rattle.rt_cells.specs.contracts.sources.SourceOrd.TheImpl as source_ord
use Rattle.rt_cells.specs.contracts.sources.ReaderOrd.TheImpl as reader_ord
use Rattle.rt_cells.specs.contracts.places.PlaceOrd.TheImpl as place_ord
use Rattle.rt_values.specs.contracts.names.ScopeIdPartialEq.TheImpl as scope_eq
use Rattle.rt_cells.specs.contracts.places.PlacePartialEq.TheImpl as place_eq

-- Scopes by number.
abbrev pub scope_cmp : ScopeId → ScopeId → Ordering
scope_cmp = scope_ord.ghosts.cmp

-- Reactive contexts by number.
abbrev pub context_cmp : ReactiveContext → ReactiveContext → Ordering
context_cmp = context_ord.ghosts.cmp

-- Sources by kind, and then by what they hold.
abbrev pub source_cmp : Source → Source → Ordering
source_cmp = source_ord.ghosts.cmp

-- Readers: scopes first, each by number.
abbrev pub reader_cmp : Reader → Reader → Ordering
reader_cmp = reader_ord.ghosts.cmp

-- Places by kind, and then by what they hold.
abbrev pub place_cmp : Place → Place → Ordering
place_cmp = place_ord.ghosts.cmp

-- Whether two scopes are the same.
abbrev pub same_scope : ScopeId → ScopeId → Bool
same_scope = scope_eq.ghosts.eq

-- Whether two places are the same.
abbrev pub same_place : Place → Place → Bool
same_place = place_eq.ghosts.eq

-- Whether two reactive contexts are the same.
abbrev pub same_context : ReactiveContext → ReactiveContext → Bool
same_context = context_eq.ghosts.eq
