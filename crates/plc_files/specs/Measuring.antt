-- Complexes whose points are measured from an origin.
use Rattle.std.specs.Prelude.{ℕ, map}
use Rattle.grid_coords.specs.declared.origin.WholePoint.{WholePoint}
use Rattle.node_files.specs.Settling.{measured_from}
use Rattle.plc_files.specs.declared.parts.RegionText.{RegionText}
use Rattle.plc_files.specs.Text.{ReadFacet, Plc}

abbrev pub measured_region : WholePoint → ℕ → RegionText → RegionText
measured_region w decimals r = record r { at = measured_from w decimals r.at }

abbrev pub measured_facet : WholePoint → ℕ → ReadFacet → ReadFacet
measured_facet w decimals f = record f { holes = map (measured_from w decimals) f.holes }

-- the complex with its hole points and region points rounded to this number of decimals, less the origin
abbrev pub measured_plc : WholePoint → ℕ → Plc → Plc
measured_plc w decimals t = record t {
  facets = map (measured_facet w decimals) t.facets;
  holes = map (measured_from w decimals) t.holes;
  regions = map (measured_region w decimals) t.regions;
}
