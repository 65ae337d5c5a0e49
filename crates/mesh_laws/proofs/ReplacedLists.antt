-- A Delaunay mesh of points is one by whatever list has the same numbers and the same points there.
use Rattle.std.proofs.Common.{◌≡◌, inl, inr, ℕ, ◌<◌, pos, ◌<ℤ◌, List, [], ◌∷◌, ◌++◌, length, refl, sym, subst, arith}
use Rattle.std.proofs.lemmas.List.{get_or_append_left, length-append}
use Rattle.std.specs.Prelude.{Contains, IsTrue}
use Rattle.sign_predicates.specs.Point.{Point, origin}
use Rattle.sign_predicates.specs.Orientation.{IsPositive, orient}
use Rattle.sign_predicates.specs.Sphere.{is_outside}
use Rattle.geo_laws.specs.Delaunay.{point, corners, as_numbers, AreNumbersOf, IsAmong, IsDelaunayAmong}
use Rattle.geo_laws.specs.Height.{lifted}
use Rattle.geo_laws.specs.declared.tetrahedra.Tet.{Tet as Row}
use Rattle.sign_predicates.proofs.Places.{Place, A, B, C, D}
use Rattle.geo_laws.proofs.Places.{number}
use Rattle.geo_laws.proofs.Corners.{corner_among}
use Rattle.geo_laws.proofs.Lift.{lowest_of, delaunay_of}
use Rattle.geo_laws.specs.OrientedFace.{Face, reversed}
use Rattle.insert_laws.specs.Insertion.{IsHullFace}
use Rattle.insert_laws.proofs.Bridge.{hull_of, hull_from}
use Rattle.insert_laws.proofs.FacePencil.{side_of}
use Rattle.mesh_laws.proofs.LowestJoined.{opposite_in}
use Rattle.mesh_laws.proofs.LowestCutOut.{hull_corner}
use Rattle.mesh_laws.proofs.LowestReplacedLists as lowest
use Rattle.mesh_laws.specs.Replaced.{SameMeshLaw, LongerListLaw}
use Rattle.mesh_laws.proofs.Bridge.{mesh_of, mesh_from}

pub law_same_mesh : SameMeshLaw
law_same_mesh slots ps ms ks now same = mesh_from slots ps ks (lowest.law_same_mesh (lifted ps) slots ps ms ks (mesh_of slots ps ms now) same)

-- ---- the same points at the numbers

module _ (ps qs : List Point) (ms : List ℕ) (same : (i : ℕ) → Contains ms i → point ps i ≡ point qs i) where
  corners_same : (t : Row) → IsAmong ms t → corners ps t ≡ corners qs t
  corners_same t on =
      let at : (u : Place) → Contains ms (number t u) = corner_among ms t on in
      λ j. record { a = same t.a (at A) j; b = same t.b (at B) j; c = same t.c (at C) j; d = same t.d (at D) j }

  side_same : (f : Face) (o : ℕ) → Contains ms f.a → Contains ms f.b → Contains ms f.c → Contains ms o → side_of ps f o ≡ side_of qs f o
  side_same f o a b c d = λ j. orient (same f.a a j) (same f.b b j) (same f.c c j) (same o d j)

  row_same : (t : Row) → IsDelaunayAmong ps ms t → IsDelaunayAmong qs ms t
  row_same t d = record {
    is_on = d.is_on;
    is_positive = subst (λ c. IsPositive c) (corners_same t d.is_on) d.is_positive;
    is_arranged = d.is_arranged;
    others = λ i l n. subst IsTrue (λ j. is_outside (corners_same t d.is_on j) (as_numbers t) (same i l j) i) (d.others i l n);
  }

  hull_same : AreNumbersOf ps ms → (f : Face) → IsHullFace ps ms f → IsHullFace qs ms f
  hull_same within f h =
      let low = hull_of ps ms within f h in
      let a = hull_corner (lifted ps) ps ms f f.a low (inl refl) in
      let b = hull_corner (lifted ps) ps ms f f.b low (inr (inl refl)) in
      let c = hull_corner (lifted ps) ps ms f f.c low (inr (inr refl)) in
      let face = h.is_face in
      let over = subst (λ z. pos 0 <ℤ z) (side_same (reversed f) face.opposite a c b (opposite_in (lifted ps) ps ms (reversed f) h.behind low.is_row face)) face.over in
      record {
        behind = h.behind;
        is_row = row_same h.behind h.is_row;
        is_face = record { opposite = face.opposite; same_corners = face.same_corners; over = over };
        none_beyond = λ i l beyond. h.none_beyond i l (subst (λ z. pos 0 <ℤ z) (sym (side_same f i a b c l)) beyond);
      }

  same_points : AreNumbersOf ps ms → AreNumbersOf qs ms → lowest.Carries (lifted ps) ps ms (lifted qs) qs ms
  same_points within after = record {
    row = λ t l. lowest_of qs ms after t (row_same t (delaunay_of ps ms within t l));
    hull = λ f h. hull_of qs ms after f (hull_same within f (hull_from ps ms within f h));
    positive = λ t on p. subst (λ c. IsPositive c) (corners_same t on) p;
  }

pub law_longer_list : LongerListLaw
law_longer_list slots ps ms q now =
    mesh_from slots qs ms (lowest.carried slots (lifted ps) ps ms (lifted (ps ++ q ∷ [])) qs ms (same_points ps qs ms (λ i c. same i (now.within i c)) now.within after)
    (same_points qs ps ms (λ i c. sym (same i (now.within i c))) after now.within) after (mesh_of slots ps ms now))
  where
    qs : List Point
    qs = ps ++ q ∷ []

    same : (i : ℕ) → i < length ps → point ps i ≡ point (ps ++ q ∷ []) i
    same i h = sym (get_or_append_left ps (q ∷ []) origin i h)

    after : AreNumbersOf (ps ++ q ∷ []) ms
    after i c =
        let h = now.within i c in
        let e = length-append ps (q ∷ []) in
        omega arith
