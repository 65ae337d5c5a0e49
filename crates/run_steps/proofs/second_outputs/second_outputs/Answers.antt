use Rattle.std.proofs.Common.{◌≡◌, ◌∙◌, ℕ, Bool, List, Option, length, ap, sym, subst}
use Rattle.command_words.specs.declared.options.Options.{Options}
use Rattle.geo_laws.specs.Complex.{Complex}
use Rattle.geo_laws.specs.declared.complex.FacetTriangle.{FacetTriangle}
use Rattle.geo_laws.specs.declared.tetrahedra.Tet.{Tet}
use Rattle.mesh_files.specs.FaceRows.{AreFaceRowsOf}
use Rattle.mesh_files.specs.declared.markers.FaceRow.{FaceRow}
use Rattle.sign_predicates.specs.Point.{Point}
use Rattle.solver_files.specs.Second.{Second, IsSecond}
use Rattle.run_steps.proofs.Named.{sides_named}
use Rattle.run_steps.proofs.Whole.{second_of_written}
use Rattle.run_steps.specs.Outputs.{report_of, second_texts}
use Rattle.run_steps.specs.declared.meshed.Meshed.{Meshed}
use Rattle.run_steps.specs.declared.store.NamedText.{NamedText}
use Rattle.run_steps.specs.declared.store.Texts.{Texts}
use Rattle.run_steps.proofs.second_outputs.second_outputs.Goals as goal

-- the faces of a list that is that of the mesh
listed : (mesh : Meshed) (all : Bool) (rows : List FaceRow) (ps : List Point) (list : List Tet) (complex : Complex) (ts : List FacetTriangle) → ps ≡ mesh.points → list ≡ mesh.tetrahedra → complex ≡ mesh.complex
    → ts ≡ mesh.triangles → AreFaceRowsOf ps list complex ts all rows → AreFaceRowsOf mesh.points mesh.tetrahedra mesh.complex mesh.triangles all rows
listed mesh all rows ps list complex ts p l c t are =
    subst (λ (x : List Point). AreFaceRowsOf x mesh.tetrahedra mesh.complex mesh.triangles all rows) p
    (subst (λ (x : List Tet). AreFaceRowsOf ps x mesh.complex mesh.triangles all rows) l
    (subst (λ (x : Complex). AreFaceRowsOf ps list x mesh.triangles all rows) c
    (subst (λ (x : List FacetTriangle). AreFaceRowsOf ps list complex x all rows) t are)))

-- texts of equal parts
texts_same : (options : Options) (f g : ℕ) (e d n m : Option NamedText) (s t : Second) (texts : Texts) → texts ≡ second_texts options f e n s → f ≡ g → e ≡ d → n ≡ m → s ≡ t
    → texts ≡ second_texts options g d m t
texts_same options f g e d n m s t texts is fg ed nm st =
    is ∙ ap (λ (x : ℕ). second_texts options x e n s) fg ∙ ap (λ (x : Option NamedText). second_texts options g x n s) ed
    ∙ ap (λ (x : Option NamedText). second_texts options g d x s) nm ∙ ap (λ (x : Second). second_texts options g d m x) st

pub edge_file-requires : goal.edge_file-requires
edge_file-requires c =
    let mesh = c.args.mesh.now in
    sides_named mesh.names mesh.tetrahedra c.in_ok-sides.sides c.requires.mesh.named c.in_ok-sides.ensures

pub texts_of-requires : goal.texts_of-requires
texts_of-requires c =
    let options = c.args.options.now in
    let l = c.marked_list.ensures in
    let faces = listed c.args.mesh.now options.all_faces c.in_ok-faces.faces _ _ _ _ l.points l.list l.complex l.triangles c.in_ok-faces.ensures in
    subst IsSecond (sym c.second-second.ensures)
    (second_of_written options.origin c.args.mesh.now options.all_faces c.in_ok-faces.faces c.in_ok-sides.sides c.requires.mesh c.requires.near c.requires.halving faces c.in_ok-sides.ensures)

pub returns : goal.returns
returns c =
    let options = c.args.options.now in
    let mesh = c.args.mesh.now in
    let l = c.marked_list.ensures in
    let count = c.face_count-count.ensures in
    record {
      marked = c.in_ok-faces.faces;
      marked_are = listed mesh options.all_faces c.in_ok-faces.faces _ _ _ _ l.points l.list l.complex l.triangles c.in_ok-faces.ensures;
      faces = count.0;
      faces_are = count.1;
      sides = c.in_ok-sides.sides;
      sides_are = c.in_ok-sides.ensures;
      texts_are = texts_same options _ _ _ _ _ _ _ _ _ c.in_ok-texts.ensures c.first_of.ensures c.in_ok-edge.ensures c.in_ok-neigh.ensures c.second-second.ensures;
      report_is = c.report_of-report.ensures ∙ ap (λ (n : ℕ). report_of options mesh n c.len.result) count.2
          ∙ ap (λ (n : ℕ). report_of options mesh (length count.0) n) c.len.ensures.count;
      count_is = c.len-tetrahedra.ensures.count;
    }
