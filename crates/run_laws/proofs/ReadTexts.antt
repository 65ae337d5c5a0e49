-- What the texts of points and complexes give: short numbers, and attributes that are fields.
use Rattle.std.proofs.Common.{◌≡◌, ◌⊎◌, ℕ, ◌*◌, ◌-◌, ◌^◌, ◌<◌, ◌≤◌, Bool, true, false, ltb, List, length, map, Option, None, Some, Ok, subst, ◌∙◌, arith}
use Rattle.std.specs.Prelude.{All, IfSome, if◌then◌else◌}
use Rattle.std.specs.List.{enumerate_from}
use Rattle.std.proofs.lemmas.List.{length-map}
use Rattle.std.proofs.lemmas.List.FromFn.{length-enumerate_from}
use Rattle.std.proofs.lemmas.List.Sums.{length-filter, count_by-le-length}
use Rattle.tet_text.specs.Lines.{ContentLine, content_line, content_lines, content_lines_from, line_count_of, lines_of}
use Rattle.tet_text.specs.Reading.{◌>>=◌, text_end_at}
use Rattle.tet_text.proofs.Cutting.{length-lines_of}
use Rattle.grid_coords.specs.declared.points.DecimalPoint.{DecimalPoint}
use Rattle.node_files.specs.Limits.{tetgen_limits}
use Rattle.node_files.specs.Node.{node_of, node_list_of}
use Rattle.node_files.specs.Writing.{mark_count}
use Rattle.node_files.specs.declared.node_text.NodeText.{NodeText}
use Rattle.node_files.proofs.Points.{bind_ok, ok_is}
use Rattle.node_files.proofs.Tables.{node_list_is}
use Rattle.plc_files.specs.Plc.{plc_of}
use Rattle.plc_files.specs.Text.{Plc}
use Rattle.plc_files.specs.declared.form.Form.{Form}
use Rattle.plc_files.specs.declared.parts.RegionText.{RegionText}
use Rattle.soup_files.specs.Off.{off_of}
use Rattle.soup_files.specs.Stl.{stl_of}
use Rattle.soup_files.specs.Surface.{nodes_at}
use Rattle.run_laws.specs.Reread.{IsPlainField}
use Rattle.run_laws.specs.Numbers.{HasShortNumbers, AreMarkedShort}
use Rattle.run_laws.proofs.Nodes.{nodes_read}
use Rattle.run_laws.proofs.Complexes.{plc_read, surface_is, surface_read}
use Rattle.run_laws.proofs.PlainFields.{plain_lines}
use Rattle.run_laws.proofs.PlainReads.{nodes_plain, plc_plain}

-- as many attributes and markers as stated, and attributes that are fields
pub record IsPlainText (text : NodeText) : Type 0 where
  pub few : text.attribute_count ≤ 100
  pub attributes : length text.attributes ≡ text.attribute_count * length text.decimals
  pub plain : All IsPlainField text.attributes
  pub markers : length text.markers ≡ mark_count text.flag * length text.decimals

-- a point list that was read
pub record IsReadText (text : NodeText) : Type 0 where
  pub short : HasShortNumbers text
  pub plain : IsPlainText text

abbrev pub ArePlainRegions : List RegionText → Type 0
ArePlainRegions regions = All (λ r. IsPlainField r.attribute) regions

-- a complex that was read
pub record IsReadPlc (text : Plc) : Type 0 where
  pub nodes : IfSome text.nodes IsReadText
  pub markers : AreMarkedShort text.facets
  pub regions : ArePlainRegions text.regions

few_lines : (bytes : List ℕ) → length bytes ≤ tetgen_limits.bytes → length (content_lines bytes) < 2 ^ 32 - 1
unfolding content_lines_from
few_lines bytes few =
    let lines = lines_of bytes in
    let all = map content_line (enumerate_from 1 lines) in
    let kept = length-filter (λ line. ltb 0 (length line.fields)) all in
    let most = count_by-le-length (λ line. ltb 0 (length line.fields)) all in
    let each = length-map {B = ContentLine} (enumerate_from 1 lines) content_line in
    let long = length-enumerate_from 1 lines in
    let cut = length-lines_of bytes in
    omega arith

list_read : (total : ℕ) (bytes : List ℕ) → length bytes ≤ tetgen_limits.bytes → (x : NodeText × List ContentLine) → node_list_of total (content_lines bytes) ≡ Ok x → IsReadText x.0
list_read total bytes few x e =
    let table = node_list_is total (content_lines bytes) x e (few_lines bytes few) in
    record {
      short = nodes_read total (content_lines bytes) x.1 x.0 e;
      plain = record {
        few = table.few_attributes;
        attributes = table.attributes;
        plain = (nodes_plain total (content_lines bytes) x e (plain_lines bytes)).0;
        markers = table.markers ∙ marked x.0.flag (length x.0.decimals);
      };
    }
  where
    marked : (b : Bool) (n : ℕ) → (if b then n else 0) ≡ mark_count b * n
    marked true n = omega arith
    marked false n = omega arith

pub node_short : (bytes : List ℕ) (text : NodeText) → length bytes ≤ tetgen_limits.bytes → node_of (line_count_of bytes) (content_lines bytes) ≡ Ok text → IsReadText text
unfolding node_of
node_short bytes text few e =
    let a = bind_ok (node_list_of (line_count_of bytes) (content_lines bytes)) (λ list. text_end_at list.1 >>= λ u. Ok list.0) text e in
    let b = bind_ok (text_end_at a.0.1) (λ u. Ok a.0.0) text a.2 in
    subst IsReadText (ok_is a.0.0 text b.2) (list_read (line_count_of bytes) bytes few a.0 a.1)

pub form_plc : (form : Form) (bytes : List ℕ) (text : Plc) → length bytes ≤ tetgen_limits.bytes → plc_of form (line_count_of bytes) (content_lines bytes) ≡ Ok text → IsReadPlc text
form_plc form bytes text few e =
    let both = plc_plain IsReadText form (line_count_of bytes) (content_lines bytes) text (λ x is. list_read (line_count_of bytes) bytes few x is) e (plain_lines bytes) in
    record { nodes = both.0; markers = (plc_read form (line_count_of bytes) (content_lines bytes) text e).1; regions = both.1 }

pub surface_plc : (bytes : List ℕ) (text : Plc) → (off_of (line_count_of bytes) (content_lines bytes) ≡ Ok text) ⊎ (stl_of (line_count_of bytes) (content_lines bytes) ≡ Ok text) → IsReadPlc text
surface_plc bytes text e =
    let surface = surface_is (line_count_of bytes) (content_lines bytes) text e in
    let short = surface_read (line_count_of bytes) (content_lines bytes) text e in
    let plain = subst (λ (t : Plc). IfSome t.nodes IsPlainText × ArePlainRegions t.regions) surface.2 (bare surface.0, λ k d lt. absurd (omega arith)) in
    record { nodes = both text.nodes short.0 plain.0; markers = short.1; regions = plain.1 }
  where
    bare : (points : List DecimalPoint) → IsPlainText (nodes_at points)
    bare points = record { few = omega arith; attributes = omega arith; plain = λ k d lt. absurd (omega arith); markers = omega arith }

    both : (o : Option NodeText) → IfSome o HasShortNumbers → IfSome o IsPlainText → IfSome o IsReadText
    both None h k = tt
    both (Some nodes) h k = record { short = h; plain = k }
