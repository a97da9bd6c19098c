-- Only equal names tie in the orders, and the orders are total.
use Rattle.std.proofs.Common.{◌≡◌, ℕ, ap}
use Rattle.std.specs.declared.cmp.Ordering.TheVariants.{Equal}
use Rattle.std.specs.Ordering.{nat_cmp}
use Rattle.std.specs.Cmp.{IsTotalOrder, then_total, on_total, nat_cmp_total}
use Rattle.std.specs.FinMap.{nat_cmp-IsAntisymmetric}
use Rattle.rt_lemmas.proofs.Orders.{both_tie as then_parts}
use Rattle.rt_values.specs.declared.names.ScopeId.{ScopeId}
use Rattle.rt_cells.specs.declared.sources.Reader.{Reader}
use Rattle.rt_cells.specs.declared.sources.Reader.TheVariants as reader
use Rattle.rt_cells.specs.declared.sources.Source.{Source}
use Rattle.rt_cells.specs.declared.sources.Source.TheVariants as source
use Rattle.rt_cells.specs.declared.places.Place.{Place}
use Rattle.rt_cells.specs.declared.places.Place.TheVariants as place
use Rattle.rt_cells.specs.Orders.{scope_cmp, context_cmp, source_cmp, reader_cmp, place_cmp}
use Rattle.rt_cells.specs.Held.{owner_cmp}
use Rattle.rt_cells.specs.Links.{link_cmp}
use Rattle.rt_values.specs.contracts.names.ScopeIdOrd.TheImpl.Laws as scope_laws
use Rattle.rt_cells.specs.contracts.contexts.ReactiveContextOrd.TheImpl.Laws as context_laws
use Rattle.rt_cells.specs.contracts.sources.ReaderOrd.TheImpl.Laws as reader_laws
use Rattle.rt_cells.specs.contracts.sources.SourceOrd.TheImpl.Laws as source_laws
use Rattle.rt_cells.specs.contracts.places.PlaceOrd.TheImpl.Laws as place_laws

pub scope_total : IsTotalOrder scope_cmp
scope_total = scope_laws.total-law

pub context_total : IsTotalOrder context_cmp
context_total = context_laws.total-law

pub reader_total : IsTotalOrder reader_cmp
reader_total = reader_laws.total-law

pub source_total : IsTotalOrder source_cmp
source_total = source_laws.total-law

pub place_total : IsTotalOrder place_cmp
place_total = place_laws.total-law

pub scope_exact : (x y : ScopeId) → scope_cmp x y ≡ Equal → x ≡ y
scope_exact x y e = ap (λ (n : ℕ). record { 0 = n }) (nat_cmp-IsAntisymmetric x.0 y.0 e)

pub reader_exact : (x y : Reader) → reader_cmp x y ≡ Equal → x ≡ y
reader_exact (reader.Scope x) (reader.Scope y) e = ap reader.Scope (scope_exact x y e)
reader_exact (reader.Scope x) (reader.Context y) e = absurd (cc e)
reader_exact (reader.Context x) (reader.Scope y) e = absurd (cc e)
reader_exact (reader.Context x) (reader.Context y) e = ap reader.Context (nat_cmp-IsAntisymmetric x y e)

pub source_exact : (x y : Source) → source_cmp x y ≡ Equal → x ≡ y
source_exact (source.Cell x) (source.Cell y) e = ap source.Cell (nat_cmp-IsAntisymmetric x y e)
source_exact (source.Cell x) (source.Error y) e = absurd (cc e)
source_exact (source.Cell x) (source.Context k y) e = absurd (cc e)
source_exact (source.Error x) (source.Cell y) e = absurd (cc e)
source_exact (source.Error x) (source.Error y) e = ap source.Error (scope_exact x y e)
source_exact (source.Error x) (source.Context k y) e = absurd (cc e)
source_exact (source.Context j x) (source.Cell y) e = absurd (cc e)
source_exact (source.Context j x) (source.Error y) e = absurd (cc e)
source_exact (source.Context j x) (source.Context k y) e =
    let parts = then_parts (nat_cmp j k) (scope_cmp x y) e in
    λ i. source.Context (nat_cmp-IsAntisymmetric j k parts.0 i) (scope_exact x y parts.1 i)

pub place_exact : (x y : Place) → place_cmp x y ≡ Equal → x ≡ y
place_exact (place.Cell x) (place.Cell y) e = ap place.Cell (nat_cmp-IsAntisymmetric x y e)
place_exact (place.Cell x) (place.Error y) e = absurd (cc e)
place_exact (place.Cell x) (place.Context y k) e = absurd (cc e)
place_exact (place.Error x) (place.Cell y) e = absurd (cc e)
place_exact (place.Error x) (place.Error y) e = ap place.Error (scope_exact x y e)
place_exact (place.Error x) (place.Context y k) e = absurd (cc e)
place_exact (place.Context x j) (place.Cell y) e = absurd (cc e)
place_exact (place.Context x j) (place.Error y) e = absurd (cc e)
place_exact (place.Context x j) (place.Context y k) e =
    let parts = then_parts (scope_cmp x y) (nat_cmp j k) e in
    λ i. place.Context (scope_exact x y parts.0 i) (nat_cmp-IsAntisymmetric j k parts.1 i)

pub link_total : IsTotalOrder link_cmp
link_total = then_total (on_total (λ link. link.0) place_total) (on_total (λ link. link.1) reader_total)

pub link_exact : (x y : Place × Reader) → link_cmp x y ≡ Equal → x ≡ y
link_exact x y e =
    let parts = then_parts (place_cmp x.0 y.0) (reader_cmp x.1 y.1) e in
    λ i. (place_exact x.0 y.0 parts.0 i, reader_exact x.1 y.1 parts.1 i)

pub owner_total : IsTotalOrder owner_cmp
owner_total = then_total (on_total (λ owned. owned.0) scope_total) (on_total (λ owned. owned.1) nat_cmp_total)

pub owner_exact : (x y : ScopeId × ℕ) → owner_cmp x y ≡ Equal → x ≡ y
owner_exact x y e =
    let parts = then_parts (scope_cmp x.0 y.0) (nat_cmp x.1 y.1) e in
    λ i. (scope_exact x.0 y.0 parts.0 i, nat_cmp-IsAntisymmetric x.1 y.1 parts.1 i)
