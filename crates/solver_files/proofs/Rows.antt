-- Tetrahedra and faces by the numbers of their corners.
use Rattle.std.proofs.Common.{◌≡◌, ℕ, ℤ, List, [], ◌∷◌, length, map, refl, ap, arith}
use Rattle.geo_laws.specs.Delaunay.{numbers}
use Rattle.geo_laws.specs.declared.tetrahedra.Tet.{Tet}
use Rattle.mesh_files.specs.Texts.{marked_corners}
use Rattle.mesh_files.specs.declared.markers.FaceRow.{FaceRow}

row_of : List ℕ → Tet
row_of (a ∷ b ∷ c ∷ d ∷ ns) = record { a = a; b = b; c = c; d = d }
row_of _ = record { a = 0; b = 0; c = 0; d = 0 }

pub row_same : (t u : Tet) → numbers t ≡ numbers u → t ≡ u
unfolding row_of
row_same t u e = ap row_of e

face_of : List ℕ → ℤ → FaceRow
face_of (a ∷ b ∷ c ∷ ns) z = record { a = a; b = b; c = c; marker = z }
face_of _ z = record { a = 0; b = 0; c = 0; marker = z }

pub face_same : (f g : FaceRow) → marked_corners f ≡ marked_corners g → f.marker ≡ g.marker → f ≡ g
unfolding face_of
face_same f g e d = λ j. face_of (e j) (d j)

pub rows_same : (ts us : List Tet) → map numbers ts ≡ map numbers us → ts ≡ us
rows_same [] [] e = refl
rows_same [] (u ∷ us) e = let lengths = ap length e in absurd (omega (arith, lengths))
rows_same (t ∷ ts) [] e = let lengths = ap length e in absurd (omega (arith, lengths))
rows_same (t ∷ ts) (u ∷ us) e =
    let heads : numbers t ≡ numbers u = cc in
    let tails : map numbers ts ≡ map numbers us = cc in
    let first : t ≡ u = row_same t u heads in
    let others : ts ≡ us = rows_same ts us tails in
    cc

pub faces_same : (fs gs : List FaceRow) → map marked_corners fs ≡ map marked_corners gs → map (λ f. f.marker) fs ≡ map (λ f. f.marker) gs → fs ≡ gs
faces_same [] [] e d = refl
faces_same [] (g ∷ gs) e d = let lengths = ap length e in absurd (omega (arith, lengths))
faces_same (f ∷ fs) [] e d = let lengths = ap length e in absurd (omega (arith, lengths))
faces_same (f ∷ fs) (g ∷ gs) e d =
    let heads : marked_corners f ≡ marked_corners g = cc in
    let tails : map marked_corners fs ≡ map marked_corners gs = cc in
    let marks : f.marker ≡ g.marker = cc in
    let others-marks : map (λ (x : FaceRow). x.marker) fs ≡ map (λ (x : FaceRow). x.marker) gs = cc in
    let first : f ≡ g = face_same f g heads marks in
    let others : fs ≡ gs = faces_same fs gs tails others-marks in
    cc
