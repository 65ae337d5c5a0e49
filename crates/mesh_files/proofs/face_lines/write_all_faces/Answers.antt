use Rattle.std.proofs.Common.{◌≡◌, ℕ, ◌<◌, ◌≤◌, true, List, [], ◌∷◌, ◌++◌, length, take, refl, sym, ap, ◌∙◌, append-nil, arith}
use Rattle.std.specs.Prelude.{◌↔◌, pos, count_by}
use Rattle.std.proofs.lemmas.Bool.{true≢false}
use Rattle.std.proofs.lemmas.Result.{IfOk-weaker}
use Rattle.std.proofs.lemmas.List.{length-append, length-take-le, take_all}
use Rattle.std.proofs.lemmas.List.Sums.{count_by-le-length, count_by_more_no, count_by_more_yes}
use Rattle.geo_laws.specs.declared.faces.Face.{Face}
use Rattle.incidence.specs.HalfFaces.{used}
use Rattle.incidence.specs.declared.half_faces.Corner.TheVariants.{A}
use Rattle.incidence.specs.declared.half_faces.HalfFace.{HalfFace}
use Rattle.incidence.proofs.Halves.{used_length}
use Rattle.mesh_files.specs.FaceRows.{IsFaceRowOf, corners_of}
use Rattle.mesh_files.specs.FacetFaces.{IsTriangleIn}
use Rattle.mesh_files.specs.Texts.{text_line, face_line, face_lines}
use Rattle.mesh_files.specs.declared.markers.FaceRow.{FaceRow}
use Rattle.mesh_files.proofs.FacetFaces.{facets_there}
use Rattle.mesh_files.proofs.Found.{found_first, found_again, found_pushed, no_use}
use Rattle.mesh_files.proofs.Lines.{line_pushed}
use Rattle.mesh_files.proofs.Marked.{IsListedRow, IsTriangleOf, listed_row, row_items, rows_found}
use Rattle.mesh_files.proofs.Named.{row_named, use_named}
use Rattle.mesh_files.proofs.face_lines.write_all_faces.Goals.{then-is_first+in-Some+in_ok-append_face, then-is_first+in_default, else-is_first}
use Rattle.mesh_files.proofs.face_lines.write_all_faces.Goals as goal

no_half : HalfFace
no_half = record { row = 0; opposite = A; first = true }

-- there are no more first uses among the uses so far than uses
few : (halves : List HalfFace) (at : ℕ) → at ≤ length halves → count_by (λ (h : HalfFace). h.first) (take at halves) ≤ at
few halves at h = omega (arith, count_by-le-length (λ (x : HalfFace). x.first) (take at halves), length-take-le at halves h)

pub loop-at-init : goal.loop-at-init
loop-at-init c =
    let mesh = c.args.mesh.now in
    record {
      counted = refl;
      written = (
        [],
        found_first corners_of (IsListedRow mesh.triangles.now mesh.complex.now mesh.list.now true) (used mesh.list.now c.args.uses.now),
        refl,
        c.in_ok-append_line.ensures ∙ ap (λ s. s ++ text_line c.first_count-count.result (pos 1 ∷ [])) c.in_ok-out.ensures ∙ sym (append-nil (text_line c.first_count-count.result (pos 1 ∷ []))),
      );
    }

pub row_at-requires-clause-facets : goal.row_at-requires-clause-facets
row_at-requires-clause-facets c = facets_there c.args.mesh.now.triangles.now c.in_ok-facets.facets c.args.mesh.now.complex.now c.in_ok-facets.ensures c.requires.facets

pub append_face-requires-clause-place : goal.append_face-requires-clause-place
append_face-requires-clause-place c = omega (arith, few c.args.uses.now c.loop-at.at (omega arith), c.loop-at.invariant.counted)

pub append_face-requires-clause-named : goal.append_face-requires-clause-named
append_face-requires-clause-named c =
    let rows = c.args.mesh.now.list.now in
    let halves = c.args.uses.now in
    let d = no_use in
    let is = c.in-Some.ensures.row d in
    row_named c.args.names.now _ c.in-Some.row is.corners_are (use_named c.args.names.now rows halves c.loop-at.at d c.requires.named c.requires.uses (omega (arith, used_length rows halves)))

pub overflow_add-place : goal.overflow_add-place
overflow_add-place c = omega (arith, few c.args.uses.now c.loop-at.at (omega arith), c.loop-at.invariant.counted)

pub loop-at-preserved : goal.loop-at-preserved
loop-at-preserved c =
    let mesh = c.args.mesh.now in
    let triangles = mesh.triangles.now in
    let complex = mesh.complex.now in
    let rows = mesh.list.now in
    let halves = c.args.uses.now in
    let uses = used rows halves in
    let at = c.loop-at.at in
    let first = c.args.first in
    let counted = c.loop-at.invariant.counted in
    let o = c.loop-at.invariant.written in
    let found = o.0 in
    let is = IsListedRow triangles complex rows true in
    let here : at < length halves = omega arith in
    let there : at < length uses = omega (arith, used_length rows halves) in
    let listed : (f : Face) (r : FaceRow) → IsFaceRowOf (IsTriangleIn c.in_ok-facets.facets) complex.facets rows true f r ↔ is f r = listed_row triangles c.in_ok-facets.facets c.in_ok-facets.ensures complex rows true in
    elim c.if-is_first.branch [
      | then-is_first+in-Some+in_ok-append_face w ↦
          let row = w.in-Some.row in
          record {
            counted = omega (arith, w.place-is, counted, count_by_more_yes (λ (h : HalfFace). h.first) halves at no_half here (sym (c.is_first.ensures.marked no_half) ∙ w.if-is_first.true));
            written = (
              found ++ row ∷ [],
              found_pushed corners_of is (row_items (IsTriangleOf triangles) complex.facets rows true) uses at found row c.requires.uses.uses.ascending there (c.is_first.ensures.first w.if-is_first.true)
                  (λ d. (listed _ row).0 (w.in-Some.ensures.row d)) o.1,
              omega (arith, w.place-is, o.2, length-append found (row ∷ [])),
              w.out-is ∙ w.in_ok-append_face.ensures ∙ line_pushed (face_line c.args.names.now first) c.loop-at.place found row c.loop-at.out (text_line c.first_count-count.result (pos 1 ∷ [])) o.2 o.3,
            );
          }
      | then-is_first+in_default w ↦ absurd (true≢false (sym (w.in_default.ensures.asked refl)))
      | else-is_first w ↦ record {
        counted = omega (arith, w.place-is, counted, count_by_more_no (λ (h : HalfFace). h.first) halves at no_half here (sym (c.is_first.ensures.marked no_half) ∙ w.if-is_first.false));
        written = (found, found_again corners_of is uses at found (c.is_first.ensures.later w.if-is_first.false) o.1, w.place-is ∙ o.2, w.out-is ∙ o.3);
      }
    ]

pub returns : goal.returns
returns c =
    let mesh = c.args.mesh.now in
    let rows = mesh.list.now in
    let halves = c.args.uses.now in
    let o = c.loop-at.invariant.written in
    let whole : take c.loop-at.at halves ≡ halves = take_all c.loop-at.at halves (omega arith) in
    let all : c.first_count-count.result ≡ length o.0 =
    c.first_count-count.ensures ∙ ap (count_by (λ (h : HalfFace). h.first)) (sym whole) ∙ sym c.loop-at.invariant.counted ∙ o.2 in
    IfOk-weaker c.finish.result (λ text. text ≡ c.loop-at.out) _
    (λ text is. (
      o.0,
      rows_found mesh.points.now mesh.triangles.now rows mesh.complex.now true (used rows halves) c.loop-at.at o.0 c.requires.met c.requires.uses.uses (omega (arith, used_length rows halves)) o.1,
      is ∙ o.3 ∙ ap (λ n. text_line n (pos 1 ∷ []) ++ face_lines c.args.names.now c.args.first 0 o.0) all,
    ))
    c.finish.ensures
