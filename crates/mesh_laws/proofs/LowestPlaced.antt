-- What point location asks of a lowest mesh.
use Rattle.std.proofs.Common.{◌≡◌, ◌≢◌, ◌⊎◌, inl, inr, ℕ, suc, pos, ◌<ℤ◌, List, get_or, set, Option, refl, sym, ap, subst, ◌∙◌, arith, ℤ}
use Rattle.std.proofs.lemmas.List.{get_or-set_same}
use Rattle.sign_predicates.specs.Point.{Point, as_rational}
use Rattle.sign_predicates.specs.Orientation.{InClosed, side as side_at}
use Rattle.geo_laws.specs.Delaunay.{point, corners}
use Rattle.geo_laws.specs.Height.{IsLowestAmong}
use Rattle.geo_laws.specs.declared.tetrahedra.Tet.{Tet as Row}
use Rattle.geo_laws.proofs.Arrangement.{even_back}
use Rattle.geo_laws.specs.OrientedFace.{Face, triangle}
use Rattle.insert_laws.specs.LowestInsertion.{IsNew, IsLowestHullFace}
use Rattle.insert_laws.proofs.LowestBridge.{even_of_same}
use Rattle.insert_laws.proofs.LowestStart.{law_locate}
use Rattle.mesh_arena.specs.Mesh.{SlotValue, corner_in, IsLive, IsArenaMesh}
use Rattle.mesh_arena.specs.declared.slot.Corner.{Corner}
use Rattle.mesh_arena.specs.declared.slot.Corner.TheVariants.{Point as Numbered, Ghost}
use Rattle.point_locate.specs.Place.{IsCornerOn, AreCornersOn, IsSomePlace, row_corners}
use Rattle.point_locate.specs.declared.walk.Place.TheVariants.{Inside, Beyond}
use Rattle.mesh_laws.specs.LowestLiving.{face_off, IsLowestMesh}
use Rattle.mesh_laws.specs.LowestRimLaws.{LowestPlacedLaw}
use Rattle.mesh_laws.proofs.LowestJoined.{same_back}
use Rattle.mesh_laws.proofs.Seen.{ghost_of, ghost_list, ghost_volume}
use Rattle.mesh_laws.proofs.Reached.{hull_sides}
use Rattle.mesh_laws.proofs.LowestWhole.{closed_even}
use Rattle.mesh_laws.proofs.LowestCutOut.{number_in}
use Rattle.mesh_laws.proofs.LowestSomeRim.{row_of_slot}

corners_on : (lifts : ℕ → ℤ) (slots : List (Option SlotValue)) (ps : List Point) (ms : List ℕ) → IsArenaMesh slots → IsLowestMesh lifts slots ps ms → AreCornersOn slots ps
corners_on lifts slots ps ms mesh now s cs is k k4 = by (get_or cs k Ghost) refl
  where
    live : IsLive slots s
    live = rw is refl

    next : k ≢ suc k
    next e = omega arith

    by : (c : Corner) → get_or cs k Ghost ≡ c → IsCornerOn ps c
    by (Numbered i) e = now.within i (number_in lifts slots ps ms s (suc k) i mesh now live (record { place = k; within = k4; off = next; is = ap (λ o. corner_in o k) is ∙ e }))
    by Ghost e = tt

-- the row that holds the point has a slot, and so has the hull face that it is strictly beyond
somewhere : (lifts : ℕ → ℤ) (slots : List (Option SlotValue)) (ps : List Point) (ms : List ℕ) (p start : ℕ) → IsArenaMesh slots → IsLowestMesh lifts slots ps ms → IsNew ps ms p → IsLive slots start → IsSomePlace slots ps (point ps p)
somewhere lifts slots ps ms p start mesh now new live = by (let some = row_of_slot lifts slots ps ms start now live in law_locate lifts ps ms p new some.0 some.1)
  where
    by : ((t : Row) × IsLowestAmong ps ms lifts t × InClosed (corners ps t) (as_rational (point ps p))) ⊎ ((f : Face) × IsLowestHullFace lifts ps ms f × (pos 0 <ℤ side_at (triangle ps f) (point ps p))) → IsSomePlace slots ps (point ps p)
    by (inl row) =
        let s = now.rows row.0 row.1 in
        let even = even_of_same ps s.1 s.2.row s.2.is_positive s.2.is_row.is_positive s.2.is_row.is_arranged s.2.same_corners in
        let holds = closed_even ps s.2.row s.1 (as_rational (point ps p)) (even_back ps s.1 s.2.row even) (subst (λ (t : Row). InClosed (corners ps t) (as_rational (point ps p))) (sym s.3) row.2) in
        (Inside (record { index = s.0 }), record { corners = row_corners s.1; is = s.2.is; here = record { row = s.1; is = refl; holds = holds } })
    by (inr face) =
        let s = now.ghosts face.0 face.1 in
        let list = ghost_list s.1 s.2 s.3.within in
        let sides = hull_sides lifts ps ms face.0 (face_off s.1 s.2) (same_back (face_off s.1 s.2) face.0 s.4) face.1 s.3.is_hull p in
        let volume_is = ghost_volume ps p s.1 s.2 (ghost_of s.1 s.2) s.3.within list in (
          Beyond (record { index = s.0 }),
          record {
            corners = set (row_corners s.1) s.2 Ghost;
            is = s.3.is;
            here = record {
              ghost = ghost_of s.1 s.2;
              is = list;
              place = s.2;
              within = s.3.within;
              infinite = get_or-set_same (row_corners s.1) s.2 Ghost Ghost (omega (arith, s.3.within));
              sees = subst (λ z. pos 0 <ℤ z) (sides ∙ sym volume_is) face.2;
            };
          },
        )

pub law_placed : LowestPlacedLaw
law_placed = record { corners = corners_on; somewhere = somewhere }
