-- Each point of the grid has a place in a Delaunay mesh that has a slot.
use Rattle.std.proofs.Common.{◌≡◌, ℕ, ◌<◌, List, [], ◌∷◌, ◌++◌, length, Option, refl, subst, arith}
use Rattle.std.proofs.Math.Seq.{get_or-append_seam}
use Rattle.std.proofs.lemmas.List.{get_or_append_left, length-append}
use Rattle.std.specs.Prelude.{Contains}
use Rattle.sign_predicates.specs.Point.{Point, as_rational, origin}
use Rattle.sign_predicates.specs.Orientation.{IsPositive, InClosed}
use Rattle.sign_predicates.specs.declared.tetrahedron.Corners.{Corners}
use Rattle.geo_laws.specs.Delaunay.{point, corners}
use Rattle.geo_laws.specs.declared.tetrahedra.Tet.{Tet as Row}
use Rattle.insert_laws.specs.Insertion.{IsNew}
use Rattle.mesh_arena.specs.Mesh.{SlotValue, corner_list}
use Rattle.mesh_arena.specs.declared.slot.Corner.{Corner}
use Rattle.mesh_arena.specs.declared.slot.Corner.TheVariants.{Point as Numbered, Ghost}
use Rattle.mesh_arena.specs.declared.slot.SlotCorners.{SlotCorners}
use Rattle.point_locate.specs.Place.{IsCornerOn, AreOn, AreCornersOn, corner_point, placed, row_corners, IsInside, IsBeyond, IsPlace, IsSomePlace}
use Rattle.point_locate.specs.declared.walk.Place.{Place}
use Rattle.point_locate.specs.declared.walk.Place.TheVariants.{Inside, Beyond}
use Rattle.mesh_laws.specs.Living.{IsDelaunayMesh}
use Rattle.mesh_laws.specs.RimLaws.{SomewhereLaw}
use Rattle.mesh_laws.proofs.Placed.{law_placed}
use Rattle.mesh_laws.proofs.ReplacedLists.{law_longer_list}

-- ---- the list with the point at its end has the same corners

module _ (ps : List Point) (q : Point) where
  abbrev longer : List Point
  longer = ps ++ q ∷ []

  same_point : (i : ℕ) → i < length ps → point longer i ≡ point ps i
  same_point i h = get_or_append_left ps (q ∷ []) origin i h

  same_corners : (row : Row) → AreOn ps (row_corners row) → corners longer row ≡ corners ps row
  same_corners row on =
      let a = same_point row.a (on 0 (omega arith)) in
      let b = same_point row.b (on 1 (omega arith)) in
      let c = same_point row.c (on 2 (omega arith)) in
      let d = same_point row.d (on 3 (omega arith)) in
      λ j. record { a = a j; b = b j; c = c j; d = d j }

  same_corner : (c : Corner) → IsCornerOn ps c → corner_point longer q c ≡ corner_point ps q c
  same_corner (Numbered i) on = same_point i on
  same_corner Ghost on = refl

  same_placed : (t : SlotCorners) → AreOn ps (corner_list t) → placed longer q t ≡ placed ps q t
  same_placed t on =
      let a = same_corner t.a (on 0 (omega arith)) in
      let b = same_corner t.b (on 1 (omega arith)) in
      let c = same_corner t.c (on 2 (omega arith)) in
      let d = same_corner t.d (on 3 (omega arith)) in
      λ j. record { a = a j; b = b j; c = c j; d = d j }

  inside_back : (cs : List Corner) → AreOn ps cs → IsInside longer q cs → IsInside ps q cs
  inside_back cs on x = record {
    row = x.row;
    is = x.is;
    holds = subst (λ (t : Corners). InClosed t (as_rational q)) (same_corners x.row (subst (AreOn ps) x.is on)) x.holds;
  }

  beyond_back : (cs : List Corner) → AreOn ps cs → IsBeyond longer q cs → IsBeyond ps q cs
  beyond_back cs on x = record {
    ghost = x.ghost;
    is = x.is;
    place = x.place;
    within = x.within;
    infinite = x.infinite;
    sees = subst (λ (t : Corners). IsPositive t) (same_placed x.ghost (subst (AreOn ps) x.is on)) x.sees;
  }

  place_back : (slots : List (Option SlotValue)) → AreCornersOn slots ps → (at : Place) → IsPlace slots longer q at → IsPlace slots ps q at
  place_back slots on (Inside s) x = record { corners = x.corners; is = x.is; here = inside_back x.corners (on s.index x.corners x.is) x.here }
  place_back slots on (Beyond s) x = record { corners = x.corners; is = x.is; here = beyond_back x.corners (on s.index x.corners x.is) x.here }

-- ---- the law

pub law_somewhere : SomewhereLaw
law_somewhere slots ps ms q start mesh now live = (on, (found.0, place_back ps q slots on found.0 found.1))
  where
    on : AreCornersOn slots ps
    on = law_placed.corners slots ps ms mesh now

    longer_mesh : IsDelaunayMesh slots (ps ++ q ∷ []) ms
    longer_mesh = law_longer_list slots ps ms q now

    past : Contains ms (length ps) → ⊥
    past has = let h : length ps < length ps = now.within (length ps) has in omega arith

    new : IsNew (ps ++ q ∷ []) ms (length ps)
    new = record { within = longer_mesh.within; on = omega (arith, length-append ps (q ∷ [])); is_new = past }

    found : IsSomePlace slots (ps ++ q ∷ []) q
    found =
        subst (IsSomePlace slots (ps ++ q ∷ [])) (get_or-append_seam ps q [] origin)
        (law_placed.somewhere slots (ps ++ q ∷ []) ms (length ps) start mesh longer_mesh new live)
