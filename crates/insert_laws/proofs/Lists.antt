-- The Delaunay tetrahedra of a list are those among its numbers, in whatever order, and a hull face is a face of one of them only.
use Rattle.geo_laws.proofs.Corners.{contains_corner}
use Rattle.geo_laws.specs.Delaunay.{as_numbers}
use Rattle.std.proofs.Common.{◌≡◌, ℕ, zero, suc, ◌<◌, List, [], ◌∷◌, ◌++◌, length, refl, sym, subst, arith}
use Rattle.std.specs.Prelude.{IsTrue, ◌↔◌}
use Rattle.std.specs.List.{slice_index_or}
use Rattle.sign_predicates.specs.Point.{Point, origin}
use Rattle.sign_predicates.specs.Orientation.{IsPositive}
use Rattle.sign_predicates.specs.Sphere.{is_outside}
use Rattle.geo_laws.specs.Delaunay.{point, corners, all_numbers, IsAmong, IsDelaunay, IsDelaunayAmong}
use Rattle.geo_laws.specs.declared.tetrahedra.Tet.{Tet}
use Rattle.geo_laws.proofs.Corners.{IsCorner}
use Rattle.sign_predicates.proofs.Places.{A, B, C, D}
use Rattle.geo_laws.proofs.Corners.{all_within}
use Rattle.geo_laws.specs.Height.{lifted}
use Rattle.geo_laws.proofs.Lift.{lowest_of, delaunay_of}
use Rattle.insert_laws.proofs.LowestLists as lists
use Rattle.insert_laws.specs.Insertion.{StartOfListLaw, SameNumbersLaw, HullFaceLaw}
use Rattle.insert_laws.proofs.Bridge.{hull_of, hull_from}

-- ---- a list that begins with the points

record IsStart (ps qs : List Point) : Type 0 where
  same : (i : ℕ) → i < length ps → point qs i ≡ point ps i

corners_same : (ps qs : List Point) → IsStart ps qs → (t : Tet) → ((i : ℕ) → IsCorner t i → i < length ps) → corners qs t ≡ corners ps t
corners_same ps qs h t on = λ j. record { a = h.same t.a (on t.a (A, refl)) j; b = h.same t.b (on t.b (B, refl)) j; c = h.same t.c (on t.c (C, refl)) j; d = h.same t.d (on t.d (D, refl)) j }

same_rows : (ps qs : List Point) → IsStart ps qs → (t : Tet) → IsDelaunay ps t ↔ IsDelaunayAmong qs (all_numbers ps) t
same_rows ps qs h t = (to, from)
  where
    same : IsAmong (all_numbers ps) t → corners qs t ≡ corners ps t
    same on = corners_same ps qs h t (λ i c. all_within ps i (on i (contains_corner t i c)))

    to : IsDelaunay ps t → IsDelaunayAmong qs (all_numbers ps) t
    to d = record {
      is_on = d.is_on;
      is_positive = subst (λ c. IsPositive c) (sym (same d.is_on)) d.is_positive;
      is_arranged = d.is_arranged;
      others = λ i l n. subst IsTrue (λ j. is_outside (sym (same d.is_on) j) (as_numbers t) (sym (h.same i (all_within ps i l)) j) i) (d.others i l n);
    }

    from : IsDelaunayAmong qs (all_numbers ps) t → IsDelaunay ps t
    from d = record {
      is_on = d.is_on;
      is_positive = subst (λ c. IsPositive c) (same d.is_on) d.is_positive;
      is_arranged = d.is_arranged;
      others = λ i l n. subst IsTrue (λ j. is_outside (same d.is_on j) (as_numbers t) (h.same i (all_within ps i l) j) i) (d.others i l n);
    }

point_old : (ps : List Point) (p : Point) (i : ℕ) → i < length ps → slice_index_or (ps ++ p ∷ []) i origin ≡ slice_index_or ps i origin
point_old [] p i h = absurd (omega arith)
point_old (q ∷ ps) p zero h = refl
point_old (q ∷ ps) p (suc i) h = point_old ps p i (omega arith)

pub law_start_of_list : StartOfListLaw
law_start_of_list ps p t = same_rows ps (ps ++ p ∷ []) (record { same = point_old ps p }) t

pub law_same_numbers : SameNumbersLaw
law_same_numbers ps ms ks same t d = record { is_on = λ i c. (same i).0 (d.is_on i c); is_positive = d.is_positive; is_arranged = d.is_arranged; others = λ i l n. d.others i ((same i).1 l) n }

-- ---- hull faces

pub law_hull_face : HullFaceLaw
law_hull_face ps ms within f t d face =
    let law = lists.law_hull_face (lifted ps) ps ms within f t (lowest_of ps ms within t d) face in
    (λ h s e. law.0 (hull_of ps ms within f h) s (lowest_of ps ms within s e), λ none. hull_from ps ms within f (law.1 (λ s l. none s (delaunay_of ps ms within s l))))
