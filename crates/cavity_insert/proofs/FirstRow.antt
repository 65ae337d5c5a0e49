-- The mesh of one positive tetrahedron is that of its own four corners, however they are lifted: among these it is the Delaunay list and the list of
-- lowest tetrahedra alike.
use Rattle.std.proofs.Common.{◌≡◌, ◌⊎◌, inl, inr, ℕ, ℤ, List, Option, subst}
use Rattle.sign_predicates.specs.Point.{Point}
use Rattle.sign_predicates.specs.Orientation.{IsPositive}
use Rattle.geo_laws.specs.Delaunay.{corners, numbers, IsArranged, IsDelaunayAmong}
use Rattle.geo_laws.specs.Height.{IsLowestAmong}
use Rattle.geo_laws.specs.declared.tetrahedra.Tet.{Tet as Row}
use Rattle.geo_laws.specs.OrientedFace.{Face}
use Rattle.insert_laws.specs.Insertion as delaunay_laws
use Rattle.insert_laws.proofs.First as delaunay_first
use Rattle.insert_laws.specs.LowestInsertion.{IsLowestHullFace}
use Rattle.insert_laws.proofs.LowestFirst.{law_first}
use Rattle.mesh_arena.specs.Mesh.{SlotValue, IsLive}
use Rattle.mesh_laws.specs.Living as delaunay
use Rattle.mesh_laws.specs.LowestLiving.{face_off, IsLowestRowSlot, IsLowestGhostSlot, IsLowestMesh}

module _ (heights : ℕ → ℤ) (slots : List (Option SlotValue)) (ps : List Point) (t : Row) (p : IsPositive (corners ps t)) (a : IsArranged t) where
  abbrev row_to : (s : Row) → IsDelaunayAmong ps (numbers t) s → IsLowestAmong ps (numbers t) heights s
  row_to s d = ((law_first heights ps t p a).only s).1 (((delaunay_first.law_first ps t p a).only s).0 d)

  abbrev row_from : (s : Row) → IsLowestAmong ps (numbers t) heights s → IsDelaunayAmong ps (numbers t) s
  row_from s d = ((delaunay_first.law_first ps t p a).only s).1 (((law_first heights ps t p a).only s).0 d)

  hull_to : (f : Face) → delaunay_laws.IsHullFace ps (numbers t) f → IsLowestHullFace heights ps (numbers t) f
  hull_to f h = record { behind = h.behind; is_row = row_to h.behind h.is_row; is_face = h.is_face; none_beyond = h.none_beyond }

  hull_from : (f : Face) → IsLowestHullFace heights ps (numbers t) f → delaunay_laws.IsHullFace ps (numbers t) f
  hull_from f h = record { behind = h.behind; is_row = row_from h.behind h.is_row; is_face = h.is_face; none_beyond = h.none_beyond }

  abbrev slot_to : (s : ℕ) (u : Row) → delaunay.IsRowSlot slots ps (numbers t) s u → IsLowestRowSlot heights slots ps (numbers t) s u
  slot_to s u x = record { is = x.is; row = x.row; is_row = row_to x.row x.is_row; same_corners = x.same_corners; is_positive = x.is_positive }

  abbrev slot_from : (s : ℕ) (u : Row) → IsLowestRowSlot heights slots ps (numbers t) s u → delaunay.IsRowSlot slots ps (numbers t) s u
  slot_from s u x = record { is = x.is; row = x.row; is_row = row_from x.row x.is_row; same_corners = x.same_corners; is_positive = x.is_positive }

  abbrev ghost_to : (s k : ℕ) (u : Row) → delaunay.IsGhostSlot slots ps (numbers t) s u k → IsLowestGhostSlot heights slots ps (numbers t) s u k
  ghost_to s k u x = record { within = x.within; is = x.is; is_hull = hull_to (face_off u k) x.is_hull }

  abbrev ghost_from : (s k : ℕ) (u : Row) → IsLowestGhostSlot heights slots ps (numbers t) s u k → delaunay.IsGhostSlot slots ps (numbers t) s u k
  ghost_from s k u x = record { within = x.within; is = x.is; is_hull = hull_from (face_off u k) x.is_hull }

  begun : delaunay.IsDelaunayMesh slots ps (numbers t) → IsLowestMesh heights slots ps (numbers t)
  begun now = record {
    within = now.within;
    each = each;
    rows = λ r is. let x = now.rows r (row_from r is) in (x.0, x.1, slot_to x.0 x.1 x.2, x.3);
    one_row = λ s u v r x y same. now.one_row s u v r (slot_from s v x) (slot_from u r y) same;
    ghosts = λ f is. let x = now.ghosts f (hull_from f is) in (x.0, x.1, x.2, ghost_to x.0 x.2 x.1 x.3, x.4);
    one_ghost = λ s u v r k j x y same. now.one_ghost s u v r k j (ghost_from s k v x) (ghost_from u j r y) same;
    linked = now.linked;
  }
    where
      each : (s : ℕ) → IsLive slots s → ((u : Row) × IsLowestRowSlot heights slots ps (numbers t) s u) ⊎ ((u : Row) × (k : ℕ) × IsLowestGhostSlot heights slots ps (numbers t) s u k)
      each s live = elim (now.each s live) [
        | inl x ↦ inl (x.0, slot_to s x.0 x.1)
        | inr x ↦ inr (x.0, x.1, ghost_to s x.1 x.0 x.2)
      ]

pub begun_for : (heights : ℕ → ℤ) (slots : List (Option SlotValue)) (ps qs : List Point) (t : Row) → qs ≡ ps → IsPositive (corners qs t) → IsArranged t → delaunay.IsDelaunayMesh slots qs (numbers t) → IsLowestMesh heights slots ps (numbers t)
begun_for heights slots ps qs t same p a mesh = subst (λ (xs : List Point). IsLowestMesh heights slots xs (numbers t)) same (begun heights slots qs t p a mesh)
