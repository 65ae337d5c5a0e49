-- The numbers in what is read.
use Rattle.std.specs.Prelude.{◌≡◌, ◌⊎◌, ℕ, ◌≤◌, unsigned_abs, List, All, IfSome, Ok}
use Rattle.tet_text.specs.Lines.{ContentLine}
use Rattle.node_files.specs.Node.{node_list_of}
use Rattle.node_files.specs.declared.node_text.NodeText.{NodeText}
use Rattle.plc_files.specs.Plc.{plc_of}
use Rattle.plc_files.specs.Text.{ReadFacet, Plc}
use Rattle.plc_files.specs.declared.form.Form.{Form}
use Rattle.soup_files.specs.Off.{off_of}
use Rattle.soup_files.specs.Stl.{stl_of}
use Rattle.run_laws.specs.Reread.{IsShortNumber}

-- points are numbered from 0 or 1, and their markers have at most 18 digits
pub record HasShortNumbers (text : NodeText) : Type 0 where
  pub first : text.first ≤ 1
  pub markers : All (λ m. IsShortNumber (unsigned_abs m)) text.markers

-- the marker of each facet that has one has at most 18 digits
abbrev pub AreMarkedShort : List ReadFacet → Type 0
AreMarkedShort facets = All (λ f. IfSome f.marker (λ m. IsShortNumber (unsigned_abs m))) facets

-- the numbers of a complex are short: those of its point list, and the markers of its facets
abbrev pub IsNumberedShort : Plc → Type 0
IsNumberedShort text = IfSome text.nodes HasShortNumbers × AreMarkedShort text.facets

-- A point list that is read
abbrev pub NodesReadLaw : Type 0
NodesReadLaw = (total : ℕ) (lines rest : List ContentLine) (text : NodeText) → node_list_of total lines ≡ Ok (text, rest)
    → HasShortNumbers text

-- A complex
abbrev pub PlcReadLaw : Type 0
PlcReadLaw = (form : Form) (total : ℕ) (lines : List ContentLine) (text : Plc) → plc_of form total lines ≡ Ok text → IsNumberedShort text

-- A surface of polygons, or of triangles
abbrev pub SurfaceReadLaw : Type 0
SurfaceReadLaw = (total : ℕ) (lines : List ContentLine) (text : Plc) → (off_of total lines ≡ Ok text) ⊎ (stl_of total lines ≡ Ok text)
    → IsNumberedShort text
