-- A cavity that was grown, and its rim, as surgery takes them.
use Rattle.std.proofs.Common.{◌≡◌, ◌⊎◌, inl, inr, ℕ, List, Option, Some, sym, ap, subst, ◌∙◌, ℤ}
use Rattle.std.specs.Prelude.{Contains}
use Rattle.sign_predicates.specs.Point.{Point}
use Rattle.geo_laws.specs.Delaunay.{numbers}
use Rattle.geo_laws.specs.declared.tetrahedra.Tet.{Tet as Row}
use Rattle.sign_predicates.proofs.Places.{A, B, C}
use Rattle.geo_laws.proofs.Places.{number}
use Rattle.geo_laws.proofs.Corners.{contains_corner}
use Rattle.geo_laws.specs.OrientedFace.{Face, reversed, beside}
use Rattle.insert_laws.specs.LowestInsertion.{IsLowestHullFace}
use Rattle.mesh_arena.specs.Mesh.{SlotValue, corner_in, IsLive, OnFace, IsArenaMesh}
use Rattle.mesh_arena.specs.Star.{rim_at, behind}
use Rattle.mesh_arena.specs.Cavity.{IsInCavitySlots}
use Rattle.mesh_arena.specs.declared.arena.SlotFace.{SlotFace}
use Rattle.mesh_arena.specs.declared.slot.Corner.TheVariants.{Point as Numbered}
use Rattle.mesh_arena.proofs.AddStar.{live_by_side}
use Rattle.mesh_laws.specs.LowestLiving.{face_off, IsFaceCorner, IsLowestRowSlot, IsLowestGhostSlot, IsLowestMesh}
use Rattle.mesh_laws.specs.LowestLaws.{LowestCutOutLaw}
use Rattle.mesh_laws.proofs.LowestFaces.{place_of}
use Rattle.mesh_laws.proofs.LowestAcross.{row_corner, same_number}
use Rattle.mesh_laws.proofs.NextHull.{on_ghost}

-- the corners of a hull face are among the numbers
pub hull_corner : (lifts : ℕ → ℤ) (ps : List Point) (ms : List ℕ) (f : Face) (i : ℕ) → IsLowestHullFace lifts ps ms f → IsFaceCorner f i → Contains ms i
hull_corner lifts ps ms f i hull c = hull.is_row.is_on i ((hull.is_face.same_corners i).0 (at c))
  where
    at : IsFaceCorner f i → Contains (numbers (beside (reversed f) hull.is_face.opposite)) i
    at (inl e) = contains_corner (beside (reversed f) hull.is_face.opposite) i (A, e)
    at (inr (inl e)) = contains_corner (beside (reversed f) hull.is_face.opposite) i (C, e)
    at (inr (inr e)) = contains_corner (beside (reversed f) hull.is_face.opposite) i (B, e)

-- the numbers on a live slot are those of the mesh
pub number_in : (lifts : ℕ → ℤ) (slots : List (Option SlotValue)) (ps : List Point) (ms : List ℕ) (s k i : ℕ) → IsArenaMesh slots → IsLowestMesh lifts slots ps ms → IsLive slots s → OnFace slots s k (Numbered i) → Contains ms i
number_in lifts slots ps ms s k i mesh now live on = by (now.each s live)
  where
    by : ((t : Row) × IsLowestRowSlot lifts slots ps ms s t) ⊎ ((t : Row) × (j : ℕ) × IsLowestGhostSlot lifts slots ps ms s t j) → Contains ms i
    by (inl row) =
        let e : number row.0 (place_of on.place) ≡ i = same_number _ i (sym (ap (λ o. corner_in o on.place) row.1.is ∙ row_corner row.0 on.place on.within) ∙ on.is) in
        row.1.is_row.is_on i ((row.1.same_corners i).0 (contains_corner row.0 i (place_of on.place, sym e)))
    by (inr ghost) = hull_corner lifts ps ms (face_off ghost.0 ghost.1) i ghost.2.is_hull (on_ghost lifts slots ps ms mesh now s ghost.1 k ghost.0 i ghost.2 on)

pub law_cut_out : LowestCutOutLaw
law_cut_out lifts slots ps ms p start cavity rim mesh now new grown some =
    record {
      is_cavity = record { live = grown.live; once = grown.once };
      is_rim = record {
        some = some;
        outer = grown.outer;
        has = λ r h. let inner = grown.inner r h in inner.1 ∙ ap Some (sym (ap behind inner.1));
        inner = λ r h. let inner = grown.inner r h in subst (IsInCavitySlots cavity) (sym (ap (λ (o : Option SlotFace). (behind o).slot) inner.1)) inner.2;
        once = grown.rim_once;
        all = grown.rim_all;
      };
      is_off_rim = λ r h on.
          let f = rim_at rim r in
          let inner = grown.inner r h in
          new.is_new (number_in lifts slots ps ms f.slot.index f.face p mesh now (live_by_side slots f.slot.index f.face inner.0 inner.1) on);
    }
