-- The numbers in the input of a run.
use Rattle.std.proofs.Common.{◌≡◌, inl, inr, ℕ, zero, suc, ◌+◌, ◌*◌, ◌≤◌, Bool, true, false, cond, List, [], ◌∷◌, ◌++◌, length, map, take, drop, unsigned_abs, Option, None, Some, Ok, refl, ap, sym, subst, ◌∙◌, arith, length-append}
use Rattle.std.specs.Prelude.{All, IfSome, nat_le, ◌==◌, unwrap_or, if◌then◌else◌}
use Rattle.std.specs.Option.{option_or}
use Rattle.std.proofs.lemmas.Bool.{leb-true}
use Rattle.std.proofs.lemmas.List.{length-drop}
use Rattle.tet_text.specs.Numbers.{number_of}
use Rattle.geo_laws.specs.Complex.{Complex}
use Rattle.geo_laws.specs.Segment.{pieces}
use Rattle.grid_coords.specs.declared.grid.Grid.{Grid}
use Rattle.node_files.specs.Limits.{tetgen_limits}
use Rattle.node_files.specs.Settling.{rounded_points, with_text}
use Rattle.node_files.specs.Writing.{mark_count}
use Rattle.node_files.specs.declared.node_text.NodeText.{NodeText}
use Rattle.node_files.specs.declared.table.NodeTable.{NodeTable}
use Rattle.plc_files.specs.Binding.{bound_facets, bound_region}
use Rattle.plc_files.specs.declared.parts.RegionText.{RegionText}
use Rattle.plc_files.specs.Sample.{sample_of, box_facets}
use Rattle.plc_files.specs.Text.{ReadFacet, Plc}
use Rattle.complex_mesh.specs.Meshing.{IsComplexMesh}
use Rattle.complex_mesh.specs.declared.mesh.ComplexMesh.{ComplexMesh}
use Rattle.complex_mesh.proofs.Added.{added}
use Rattle.run_laws.specs.Reread.{IsShortNumber, IsPlainField}
use Rattle.run_laws.specs.NodeRead.{IsPlainTable}
use Rattle.run_laws.specs.Numbers.{AreMarkedShort}
use Rattle.run_laws.proofs.Numbers.{IsShortWhole}
use Rattle.run_laws.proofs.ReadTexts.{IsReadText, IsReadPlc, ArePlainRegions, node_short, form_plc, surface_plc}
use Rattle.command_words.specs.Words.{is_cluster, budget_at_front, digit_count, within, last_from}
use Rattle.command_words.specs.Meaning.{options_of, budget_from, budget_in, last_budget}
use Rattle.command_words.specs.declared.options.Extension.{Extension}
use Rattle.command_words.specs.declared.options.Extension.TheVariants.{Node, Poly, Smesh, Off, Stl}
use Rattle.command_words.specs.declared.options.Options.{Options}
use Rattle.run_steps.specs.Meshing.{BoundAnswer, MeshAnswer, MeshOf, PointsMeshOf, grid_options, mesh_options, mesh_of_points, mesh_of_complex, without_decimals}
use Rattle.run_steps.specs.Reading.{InputAnswer, InputOf, PointsAnswer, NodesAnswer, SourceAnswer, ComplexFileAnswer, FormAnswer, plc_text_of}
use Rattle.tet_ports.specs.Seen.{FolderSeen}
use Rattle.run_steps.specs.Steps.{IfMissing}
use Rattle.run_steps.specs.declared.input.ComplexFile.{ComplexFile}
use Rattle.run_steps.specs.declared.input.Input.{Input}
use Rattle.run_steps.specs.declared.mesh.Bound.{Bound}
use Rattle.run_steps.specs.declared.meshed.Meshed.{Meshed}
use Rattle.run_steps.proofs.Meshables.{as_many}

-- ---- what is read

-- points from 0 or 1 on, and facets with markers of at most 18 digits; attributes that are fields
record IsReadShort (input : Input) : Type 0 where
  nodes : IsReadText input.nodes
  markers : AreMarkedShort input.complex.facets
  regions : ArePlainRegions input.complex.regions

points_short : (seen : FolderSeen) (base : List ℕ) (text : NodeText) → PointsAnswer tetgen_limits seen base (Ok text) → IsReadText text
points_short seen base text (bytes, fetched, read) = node_short bytes text fetched.1 read

plc_short : (extension : Extension) (bytes : List ℕ) (text : Plc) → length bytes ≤ tetgen_limits.bytes → plc_text_of extension bytes ≡ Ok text → IsReadPlc text
plc_short Node bytes text few e = form_plc _ bytes text few e
plc_short Poly bytes text few e = form_plc _ bytes text few e
plc_short Smesh bytes text few e = form_plc _ bytes text few e
plc_short Off bytes text few e = surface_plc bytes text (inl e)
plc_short Stl bytes text few e = surface_plc bytes text (inr e)

form_short : (seen : FolderSeen) (base : List ℕ) (extension : Extension) (file : ComplexFile) → FormAnswer tetgen_limits seen base extension (Ok file) → IsReadPlc file.text
form_short seen base extension file (bytes, fetched, (text, read, is)) = subst (λ (f : ComplexFile). IsReadPlc f.text) (sym is) (plc_short extension bytes text fetched.1 read)

either : (seen : FolderSeen) (base : List ℕ) (file : ComplexFile) → IfMissing (FormAnswer tetgen_limits seen base Poly) (FormAnswer tetgen_limits seen base Smesh) (Ok file) → IsReadPlc file.text
either seen base file (inl (answer, found)) = form_short seen base Poly file answer
either seen base file (inr (name, missing, answer)) = form_short seen base Smesh file answer

file_short : (seen : FolderSeen) (base : List ℕ) (extension : Option Extension) (file : ComplexFile) → ComplexFileAnswer tetgen_limits seen base extension (Ok file) → IsReadPlc file.text
file_short seen base (Some Smesh) file answer = form_short seen base Smesh file answer
file_short seen base (Some Poly) file answer = form_short seen base Poly file answer
file_short seen base (Some Off) file answer = form_short seen base Off file answer
file_short seen base (Some Stl) file answer = form_short seen base Stl file answer
file_short seen base (Some Node) file answer = either seen base file answer
file_short seen base None file answer = either seen base file answer

of_sample : (n : ℕ) → IsReadPlc (sample_of n)
of_sample n = record {
  nodes = record {
    short = record { first = omega arith; markers = λ k d lt. absurd (omega arith) };
    plain = record { few = omega arith; attributes = omega arith; plain = λ k d lt. absurd (omega arith); markers = omega arith };
  };
  markers = box;
  regions = λ k d lt. absurd (omega arith);
}
  where
    box : AreMarkedShort box_facets
    box zero d lt = tt
    box (suc zero) d lt = tt
    box (suc (suc zero)) d lt = tt
    box (suc (suc (suc zero))) d lt = tt
    box (suc (suc (suc (suc zero)))) d lt = tt
    box (suc (suc (suc (suc (suc zero))))) d lt = tt
    box (suc (suc (suc (suc (suc (suc k)))))) d lt = absurd (omega arith)

source_short : (seen : FolderSeen) (base : List ℕ) (extension : Option Extension) (sample : Option ℕ) (file : ComplexFile) → SourceAnswer tetgen_limits seen base extension sample (Ok file) → IsReadPlc file.text
source_short seen base extension (Some n) file is = subst (λ (f : ComplexFile). IsReadPlc f.text) (sym is) (of_sample n)
source_short seen base extension None file answer = file_short seen base extension file answer

own_or_read : (seen : FolderSeen) (base : List ℕ) (own : Option NodeText) (nodes : NodeText) → IfSome own IsReadText → NodesAnswer tetgen_limits seen base own (Ok nodes) → IsReadText nodes
own_or_read seen base (Some text) nodes short is = subst IsReadText (sym is) short
own_or_read seen base None nodes short answer = points_short seen base nodes answer

input_short : (piecewise : Bool) (seen : FolderSeen) (options : Options) (input : Input) → InputOf tetgen_limits piecewise seen options (Ok input) → IsReadShort input
input_short false seen options input (nodes, read, is) =
    subst IsReadShort (sym is) (record { nodes = points_short seen options.base nodes read; markers = λ k d lt. absurd (omega arith); regions = λ k d lt. absurd (omega arith) })
input_short true seen options input (file, source, (nodes, points, (checked, at, is))) =
    let text = source_short seen options.base options.extension options.sample file source in
    subst IsReadShort (sym is) (record { nodes = own_or_read seen options.base file.text.nodes nodes text.nodes points; markers = text.markers; regions = text.regions })

-- ---- how many points are added

abbrev IsSmall : Option ℕ → Type 0
IsSmall o = IfSome o (λ n. n ≤ 100000)

within_small : (o : Option ℕ) → IsSmall (within 100000 o)
within_small None = tt
within_small (Some n) = go (nat_le n 100000) refl
  where
    go : (b : Bool) → nat_le n 100000 ≡ b → IsSmall (cond b (Some n) None)
    go true e = leb-true n 100000 e
    go false e = tt

either_small : (o last : Option ℕ) → IsSmall o → IsSmall last → IsSmall (option_or o last)
either_small None last h k = k
either_small (Some n) last h k = h

from_small : (last : Option ℕ) (word : List ℕ) → IsSmall last → IsSmall (budget_from last word)
from_small last [] h = h
from_small last (byte ∷ more) h = from_small (if byte == 83 then option_or (budget_at_front more) last else last) more (go (byte == 83))
  where
    go : (b : Bool) → IsSmall (cond b (option_or (budget_at_front more) last) last)
    go true = either_small (budget_at_front more) last (within_small (number_of 9 (take (digit_count more) more))) h
    go false = h

in_small : (word : List ℕ) → IsSmall (budget_in word)
in_small word = go (is_cluster word)
  where
    go : (b : Bool) → IsSmall (cond b (budget_from None word) None)
    go true = from_small None word tt
    go false = tt

last_small : (last : Option ℕ) (words : List (List ℕ)) → IsSmall last → IsSmall (last_from budget_in last words)
last_small last [] h = h
last_small last (word ∷ more) h = last_small (option_or (budget_in word) last) more (either_small (budget_in word) last (in_small word) h)

pub budget_small : (words : List (List ℕ)) → (options_of words).budget ≤ 100000
budget_small words = go (last_budget words) (last_small None words tt)
  where
    go : (o : Option ℕ) → IsSmall o → unwrap_or o 100000 ≤ 100000
    go None h = omega arith
    go (Some n) h = h

-- ---- the mesh

-- the attributes and markers of the listed points
pub record HasPlainPoints (table : NodeTable) : Type 0 where
  pub few : table.attribute_count ≤ 100
  pub attributes : length table.attributes ≡ table.attribute_count * length table.listed
  pub plain : All IsPlainField table.attributes
  pub markers : length table.markers ≡ mark_count table.flag * length table.listed
  pub short : All (λ m. IsShortNumber (unsigned_abs m)) table.markers

pub plain_table : (table : NodeTable) → HasPlainPoints table → table.grid.halvings ≤ 18 → IsPlainTable table
plain_table table is halvings = record { few = is.few; attributes = is.attributes; plain = is.plain; markers = is.markers; short = is.short; halvings = halvings }

-- the number of the first point, how many points are written, the attributes and markers of points, the markers of facets, and the
-- attributes of regions
pub record HasInputNumbers (mesh : Meshed) : Type 0 where
  pub first : mesh.table.first ≤ 1
  pub few : length (mesh.table.listed ++ mesh.added) ≤ 120000
  pub points : HasPlainPoints mesh.table
  pub markers : All (λ f. IfSome f.marker (λ m. IsShortNumber (unsigned_abs m))) mesh.complex.facets
  pub regions : All (λ r. IsPlainField r.attribute) mesh.complex.regions

bound_short : (grid : Grid) (from : ℕ) (fs : List ReadFacet) → AreMarkedShort fs → All (λ f. IfSome f.marker IsShortWhole) (bound_facets grid from fs)
bound_short grid from [] h k d lt = absurd (omega arith)
bound_short grid from (f ∷ fs) h zero d lt = h 0 f (omega arith)
bound_short grid from (f ∷ fs) h (suc k) d lt = bound_short grid (from + length f.polygons) fs (λ i e l. h (suc i) e (omega arith)) k d (omega arith)

bound_plain : (grid : Grid) (rs : List RegionText) → ArePlainRegions rs → All (λ r. IsPlainField r.attribute) (map (bound_region grid) rs)
bound_plain grid [] h k d lt = absurd (omega arith)
bound_plain grid (r ∷ rs) h zero d lt = h 0 r (omega arith)
bound_plain grid (r ∷ rs) h (suc k) d lt = bound_plain grid rs (λ i e l. h (suc i) e (omega arith)) k d (omega arith)

module _ (options : Options) (budget : options.budget ≤ 100000) (input : Input) (short : IsReadShort input) (bound : Bound) (on_grid : BoundAnswer tetgen_limits options input (Ok bound)) where
  first_is : bound.table.first ≡ input.nodes.first
  first_is = ap (λ (t : NodeTable). t.first) on_grid.0.is

  first_small : bound.table.first ≤ 1
  first_small = subst (λ (n : ℕ). n ≤ 1) (sym first_is) short.nodes.short.first

  listed_few : length bound.table.listed ≤ 20000
  listed_few =
      let count = as_many tetgen_limits input.nodes (grid_options options) bound.table on_grid.0 in
      let few = on_grid.0.on.few in
      omega arith

  marked : All (λ f. IfSome f.marker IsShortWhole) bound.complex.facets
  marked = subst (λ (c : Complex). All (λ f. IfSome f.marker IsShortWhole) c.facets) (sym on_grid.1.is) (bound_short bound.table.grid 0 input.complex.facets short.markers)

  attributed : All (λ r. IsPlainField r.attribute) bound.complex.regions
  attributed = subst (λ (c : Complex). All (λ r. IsPlainField r.attribute) c.regions) (sym on_grid.1.is) (bound_plain bound.table.grid input.complex.regions short.regions)

  points : HasPlainPoints bound.table
  points =
      let table = with_text input.nodes (rounded_points options.decimals input.nodes.decimals) bound.table in
      let long : length table.listed ≡ length input.nodes.decimals = sym (ap (λ (t : NodeTable). length t.listed) on_grid.0.is) ∙ as_many tetgen_limits input.nodes (grid_options options) bound.table on_grid.0 in
      let text = short.nodes.plain in
      subst HasPlainPoints (sym on_grid.0.is) (record {
        few = text.few;
        attributes = text.attributes ∙ ap (λ (n : ℕ). input.nodes.attribute_count * n) (sym long);
        plain = text.plain;
        markers = text.markers ∙ ap (λ (n : ℕ). mark_count input.nodes.flag * n) (sym long);
        short = short.nodes.short.markers;
      })

  -- the points as the mesh has them
  kept_points : HasPlainPoints (without_decimals bound.table)
  kept_points = let p = points in record { few = p.few; attributes = p.attributes; plain = p.plain; markers = p.markers; short = p.short }

  of_points : HasInputNumbers (mesh_of_points bound.table)
  of_points = let few = listed_few in record {
    first = first_small;
    few = omega (arith, length-append bound.table.listed []);
    points = kept_points;
    markers = λ k d lt. absurd (omega arith);
    regions = λ k d lt. absurd (omega arith);
  }

  of_complex : (made : ComplexMesh) → IsComplexMesh (mesh_options options bound.table) bound.table.points bound.complex made → HasInputNumbers (mesh_of_complex bound made)
  of_complex made m =
      let most = (added bound.table.grid.halvings made.points m.rest options.budget bound.table.points (pieces bound.table.points m.segs) m.protected.ends).1 in
      let few = listed_few in
      record {
        first = first_small;
        few = omega (arith, length-append bound.table.listed (drop (length bound.table.points) made.points), length-drop (length bound.table.points) made.points);
        points = kept_points;
        markers = marked;
        regions = attributed;
      }

  by_mesh : (piecewise : Bool) (mesh : Meshed) → options.weighted ≡ false → MeshOf piecewise options bound (Ok mesh) → HasInputNumbers mesh
  by_mesh false mesh plain answer =
      let points = subst (λ weighted. PointsMeshOf weighted options bound (Ok mesh)) plain answer in
      subst HasInputNumbers (sym points.1) of_points
  by_mesh true mesh plain (made, m, is) = subst HasInputNumbers (sym is) (of_complex made m)

pub input_numbers : (words : List (List ℕ)) (folder : FolderSeen) (input : Input) (bound : Bound) (mesh : Meshed) → (options_of words).weighted ≡ false
    → InputAnswer tetgen_limits folder (options_of words) (Ok input) → BoundAnswer tetgen_limits (options_of words) input (Ok bound) → MeshAnswer (options_of words) bound (Ok mesh) → HasInputNumbers mesh
input_numbers words folder input bound mesh plain read on_grid answer =
    let options = options_of words in
    by_mesh options (budget_small words) input (input_short options.piecewise folder options input read) bound on_grid options.piecewise mesh plain answer
