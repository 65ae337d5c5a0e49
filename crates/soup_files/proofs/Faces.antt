-- Faces that are appended to a complex, corner by corner.
use Rattle.std.proofs.Common.{◌≡◌, ℕ, ◌<◌, List, [], ◌∷◌, ◌++◌, length, Option, None, refl, sym, ap, ◌∙◌, append_assoc, arith}
use Rattle.std.specs.Prelude.{ℤ, map}
use Rattle.std.proofs.lemmas.List.{append-nil, map-append}
use Rattle.std.proofs.lemmas.List.Sums.{fold-append}
use Rattle.geo_laws.specs.Complex.{change_last}
use Rattle.plc_files.specs.declared.parts.CornerText.{CornerText}
use Rattle.plc_files.specs.declared.parts.PolygonText.{PolygonText}
use Rattle.plc_files.specs.Text.{ReadFacet, Plc, LastHasPolygon, empty_polygon, empty_facet, plus_corner, plus_polygon, last_plus_corner, with_facet_text, with_polygon_text, with_corner}
use Rattle.soup_files.specs.Surface.{facet_of_one, marked_face, plus_facet, plus_face, plus_faces, plus_corners}

change_last-append : {X : Type 0} (f : X → X) (xs : List X) (x : X) → change_last f (xs ++ x ∷ []) ≡ xs ++ f x ∷ []
change_last-append f [] x = refl
change_last-append f (y ∷ []) x = refl
change_last-append f (y ∷ z ∷ zs) x = ap (λ ws. y ∷ ws) (change_last-append f (z ∷ zs) x)

length-change_last : {X : Type 0} (f : X → X) (xs : List X) → length (change_last f xs) ≡ length xs
length-change_last f [] = refl
length-change_last f (x ∷ []) = refl
length-change_last f (x ∷ y ∷ ys) = let h = length-change_last f (y ∷ ys) in omega arith

-- with these facets
abbrev with_facets : Plc → List ReadFacet → Plc
with_facets t fs = record t { facets = fs }

-- a facet with a polygon that has no corner yet
pub started : (marker : Option ℤ) (line : ℕ) (t : Plc) → with_polygon_text line (with_facet_text marker t) ≡ plus_facet (marked_face marker (empty_polygon line)) t
started marker line t = ap (with_facets t) (change_last-append (plus_polygon line) t.facets (empty_facet marker))

-- a corner of the face that was appended last
pub corner_added : (marker : Option ℤ) (number line : ℕ) (face : PolygonText) (t : Plc) → with_corner number line (plus_facet (marked_face marker face) t) ≡ plus_facet (marked_face marker (plus_corner number line face)) t
corner_added marker number line face t = ap (with_facets t) (change_last-append (last_plus_corner number line) t.facets (marked_face marker face))

last_has : (fs : List ReadFacet) (f : ReadFacet) → 0 < length f.polygons → LastHasPolygon (fs ++ f ∷ [])
last_has [] f some = some
last_has (g ∷ []) f some = some
last_has (g ∷ h ∷ hs) f some = last_has (h ∷ hs) f some

pub face_has : (marker : Option ℤ) (face : PolygonText) (t : Plc) → LastHasPolygon (plus_facet (marked_face marker face) t).facets
face_has marker face t = last_has t.facets (marked_face marker face) (omega arith)

has_kept : (number line : ℕ) (fs : List ReadFacet) → LastHasPolygon fs → LastHasPolygon (change_last (last_plus_corner number line) fs)
has_kept number line [] has = elim has [ ]
has_kept number line (f ∷ []) has = omega (arith, has, length-change_last (plus_corner number line) f.polygons)
has_kept number line (f ∷ g ∷ []) has = has_kept number line (g ∷ []) has
has_kept number line (f ∷ g ∷ h ∷ hs) has = has_kept number line (g ∷ h ∷ hs) has

-- ---- many corners

pub corners_keep : (cs : List CornerText) (t : Plc) → LastHasPolygon t.facets → LastHasPolygon (plus_corners cs t).facets
corners_keep [] t has = has
corners_keep (c ∷ cs) t has = corners_keep cs (with_corner c.number c.line t) (has_kept c.number c.line t.facets has)

pub corners_more : (cs : List CornerText) (c : CornerText) (t : Plc) → plus_corners (cs ++ c ∷ []) t ≡ with_corner c.number c.line (plus_corners cs t)
corners_more cs c t = fold-append (λ (u : Plc) (c : CornerText). with_corner c.number c.line u) t cs (c ∷ [])

abbrev face_with : ℕ → List CornerText → PolygonText
face_with line corners = record { line = line; corners = corners }

corners_behind : (line : ℕ) (front cs : List CornerText) (t : Plc) → plus_corners cs (plus_face (face_with line front) t) ≡ plus_face (face_with line (front ++ cs)) t
corners_behind line front [] t = ap (λ (ds : List CornerText). plus_face (face_with line ds) t) (sym (append-nil front))
corners_behind line front (c ∷ cs) t =
    ap (plus_corners cs) (corner_added None c.number c.line (face_with line front) t)
    ∙ corners_behind line (front ++ c ∷ []) cs t
    ∙ ap (λ (ds : List CornerText). plus_face (face_with line ds) t) (append_assoc front (c ∷ []) cs)

-- all corners of a face
pub corners_added : (line : ℕ) (cs : List CornerText) (t : Plc) → plus_corners cs (plus_face (empty_polygon line) t) ≡ plus_face (face_with line cs) t
corners_added line cs t = corners_behind line [] cs t

-- ---- many faces

pub faces_none : (t : Plc) → t ≡ plus_faces [] t
faces_none t = ap (with_facets t) (sym (append-nil t.facets))

pub faces_more : (fs : List PolygonText) (f : PolygonText) (t : Plc) → plus_face f (plus_faces fs t) ≡ plus_faces (fs ++ f ∷ []) t
faces_more fs f t = ap (with_facets t) (append_assoc t.facets (map facet_of_one fs) (facet_of_one f ∷ []) ∙ ap (λ (gs : List ReadFacet). t.facets ++ gs) (sym (map-append facet_of_one fs (f ∷ []))))
