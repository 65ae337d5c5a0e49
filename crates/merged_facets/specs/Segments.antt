-- The sides that are not inner in their facet.
use Rattle.std.specs.Prelude.{ℕ, Bool, not}
use Rattle.geo_laws.specs.declared.complex.Piece.{Piece}
use Rattle.merged_facets.specs.Merging.{Groups, is_inner}

abbrev pub is_outer : Groups → ℕ → Piece → Bool
is_outer m f s = not (is_inner m f s)
