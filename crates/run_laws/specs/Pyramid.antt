-- Runs on the five points of a pyramid, byte for byte: what they read, and what they write.
use Rattle.std.specs.Prelude.{◌≡◌, ℕ, List, [], ◌∷◌, Some, None, codes}
use Rattle.run_steps.specs.declared.outputs.Outputs.{Outputs}
use Rattle.run_steps.specs.Reports.{text_in}
use Rattle.run_steps.specs.declared.report.Report.{Report}
use Rattle.run_steps.specs.declared.report.Report.TheVariants.{Mesh}
use Rattle.run_steps.specs.declared.store.NamedText.{NamedText}
use Rattle.run_laws.specs.Runs.{Start}

-- ---- what is read

-- The five points. They lie on one sphere, so that their numbers decide which diagonal the square has
abbrev pub pyramid_bytes : List ℕ
pyramid_bytes = codes "5 3 0 0\n0 0 0 0\n1 2 0 0\n2 2 2 0\n3 0 2 0\n4 1 1 2\n"

-- without a switch
abbrev pub plain_start : Start
plain_start = record { words = codes "pyramid.node" ∷ []; name = codes "pyramid.node"; bytes = pyramid_bytes }

-- with neighbors, all faces and edges
abbrev pub full_start : Start
full_start = record { words = codes "-nfe" ∷ codes "pyramid.node" ∷ []; name = codes "pyramid.node"; bytes = pyramid_bytes }

-- the points of the pyramid as a complex without facets and hole points
abbrev pub complex_bytes : List ℕ
complex_bytes = codes "5 3 0 0\n0 0 0 0\n1 2 0 0\n2 2 2 0\n3 0 2 0\n4 1 1 2\n0 0\n0\n"

-- with its convex hull kept
abbrev pub complex_start : Start
complex_start = record { words = codes "-c" ∷ codes "pyramid.poly" ∷ []; name = codes "pyramid.poly"; bytes = complex_bytes }

-- ---- what is written

-- the points as they were read
abbrev pub pyramid_node_text : NamedText
pyramid_node_text = record {
  name = codes "pyramid.1.node";
  content = codes "5 3 0 0\n0 0 0 0\n1 2 0 0\n2 2 2 0\n3 0 2 0\n4 1 1 2\n";
}

-- two tetrahedra: the diagonal of the square goes from 1 to 3
abbrev pub pyramid_ele_text : NamedText
pyramid_ele_text = record {
  name = codes "pyramid.1.ele";
  content = codes "2 4 0\n0 0 1 3 4\n1 1 2 3 4\n";
}

-- a face file with these bytes
abbrev pub pyramid_face_text : List ℕ → NamedText
pyramid_face_text content = record {
  name = codes "pyramid.1.face";
  content = content;
}

-- the six faces on the hull
abbrev pub hull_bytes : List ℕ
hull_bytes = codes "6 1\n0 0 1 3 1\n1 0 1 4 1\n2 0 3 4 1\n3 1 2 3 1\n4 1 2 4 1\n5 2 3 4 1\n"

-- all seven: the one that both tetrahedra have is not on the hull
abbrev pub face_bytes : List ℕ
face_bytes = codes "7 1\n0 0 1 3 1\n1 0 1 4 1\n2 0 3 4 1\n3 1 2 3 1\n4 1 2 4 1\n5 1 3 4 0\n6 2 3 4 1\n"

abbrev pub pyramid_edge_text : NamedText
pyramid_edge_text = record {
  name = codes "pyramid.1.edge";
  content = codes "9 0\n0 0 1\n1 0 3\n2 0 4\n3 1 2\n4 1 3\n5 1 4\n6 2 3\n7 2 4\n8 3 4\n";
}

-- each tetrahedron has the other across the face opposite its first or its second corner
abbrev pub pyramid_neigh_text : NamedText
pyramid_neigh_text = record {
  name = codes "pyramid.1.neigh";
  content = codes "2 4\n0 1 -1 -1 -1\n1 -1 0 -1 -1\n";
}

-- what is written to the standard output: the counts, and no lines behind them
abbrev pub pyramid_report : Report
pyramid_report =
    Mesh
    (record {
      points = 5;
      added = 0;
      tetrahedra = 2;
      faces = 7;
      edges = 9;
      hidden = None;
      decimals = None;
      over = None;
      slim = None;
      flat = None;
    }) []

-- and its text
abbrev pub summary_line : List ℕ
summary_line = codes "points 5 added 0 tetrahedra 2 faces 7 edges 9\n"

abbrev pub WritesSummary : Outputs → Type 0
WritesSummary outputs = text_in outputs ≡ Some summary_line

-- the outputs without a switch, and those of the complex
abbrev pub plain_outputs : Outputs
plain_outputs = record {
  texts = record {
    node = Some pyramid_node_text;
    ele = Some pyramid_ele_text;
    face = Some
        (pyramid_face_text hull_bytes);
    edge = None;
    neigh = None;
    whole = [];
  };
  report = Some pyramid_report;
  tetrahedra = 2;
}

-- and with the three
abbrev pub full_outputs : Outputs
full_outputs = record {
  texts = record {
    node = Some pyramid_node_text;
    ele = Some pyramid_ele_text;
    face = Some (pyramid_face_text face_bytes);
    edge = Some pyramid_edge_text;
    neigh = Some pyramid_neigh_text;
    whole = [];
  };
  report = Some pyramid_report;
  tetrahedra = 2;
}
