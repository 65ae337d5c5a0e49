-- How the slots of a star are linked with one another.
use Rattle.std.specs.Prelude.{◌≡◌, ◌≢◌, ℕ, ◌+◌, ◌<◌, List, length, sum_by, Option, Some, None, IsSome, slice_index_or}
use Rattle.mesh_arena.specs.declared.slot.Corner.{Corner}
use Rattle.mesh_arena.specs.declared.slot.Corner.TheVariants.{Ghost}
use Rattle.mesh_arena.specs.declared.arena.SlotFace.{SlotFace}
use Rattle.mesh_arena.specs.declared.slot.RimFace.{RimFace}
use Rattle.mesh_arena.specs.Mesh.{SlotValue, corners_at, corner, link_behind, OnFace, SameFace}
use Rattle.mesh_arena.specs.Star.{behind, rim_at, face_side, behind_rim}
use Rattle.mesh_arena.specs.declared.edge.Edge.{Edge}
use Rattle.mesh_arena.specs.Edges.{edge_between, Table, IsEdgeMet}

abbrev pub CornerValue : Type 0
CornerValue = Corner

-- x is one of the corners off this place
pub record Has (cs : List Corner) (off : ℕ) (x : Corner) : Type 0 where
  pub place : ℕ
  pub within : place < 4
  pub differs : place ≢ off
  pub is : slice_index_or cs place Ghost ≡ x

-- the four places of a slot
pub record AreFourPlaces (k f a b : ℕ) : Type 0 where
  pub k4 : k < 4
  pub f4 : f < 4
  pub a4 : a < 4
  pub b4 : b < 4
  pub fk : f ≢ k
  pub ak : a ≢ k
  pub bk : b ≢ k
  pub fa : f ≢ a
  pub fb : f ≢ b
  pub ab : a ≢ b

-- x is a corner of the face r of the rim
abbrev pub OnRim : List (Option SlotValue) → List RimFace → ℕ → Corner → Type 0
OnRim slots rim r x = OnFace slots (rim_at rim r).slot.index (rim_at rim r).face x

-- one other face of the rim has both corners, and no third
pub record Other (slots : List (Option SlotValue)) (rim : List RimFace) (r : ℕ) (x y : Corner) : Type 0 where
  pub face : ℕ
  pub inside : face < length rim
  pub differs : face ≢ r
  pub first : OnRim slots rim face x
  pub second : OnRim slots rim face y
  pub only : (t : ℕ) → t < length rim → t ≢ r → OnRim slots rim t x → OnRim slots rim t y → t ≡ face

-- each two corners of a face of the rim are corners of exactly one other
abbrev pub ArePaired : List (Option SlotValue) → List RimFace → Type 0
ArePaired slots rim = (r : ℕ) (x y : Corner) → r < length rim → OnRim slots rim r x → OnRim slots rim r y → x ≢ y → Other slots rim r x y

-- the slots behind the rim are different, each has the point, and they have neighbors on the rim and among one another alone
pub record IsStar (slots : List (Option SlotValue)) (rim : List RimFace) (p : Corner) : Type 0 where
  pub has : (r : ℕ) → r < length rim → face_side slots (rim_at rim r) ≡ Some (behind_rim slots rim r)
  pub apart : (r q : ℕ) → r < length rim → q < length rim → (behind_rim slots rim r).slot ≡ (behind_rim slots rim q).slot → r ≡ q
  pub outside : (r q : ℕ) → r < length rim → q < length rim → (behind_rim slots rim r).slot ≢ (rim_at rim q).slot.index
  pub apex : (r : ℕ) → r < length rim → corner slots (behind_rim slots rim r).slot (behind_rim slots rim r).face ≡ p
  pub closed : (r k : ℕ) (b : SlotFace) → r < length rim → k ≢ (behind_rim slots rim r).face
      → link_behind slots (behind_rim slots rim r).slot k ≡ Some b → (q : ℕ) × (q < length rim) × (b.slot ≡ (behind_rim slots rim q).slot)

-- a face of another slot of the star with no neighbor and the same corners as the face k of the slot over r
pub record Mate (slots : List (Option SlotValue)) (rim : List RimFace) (r k : ℕ) (t : SlotFace) : Type 0 where
  pub face : ℕ
  pub inside : face < length rim
  pub differs : face ≢ r
  pub slot : t.slot ≡ (behind_rim slots rim face).slot
  pub below : t.face < 4
  pub free : link_behind slots t.slot t.face ≡ None
  pub same : SameFace slots (behind_rim slots rim r).slot k t.slot t.face

-- the face k of the slot over r has a neighbor now, no side goes away, and the slots outside of the star stay
pub record LinksFace (old new : List (Option SlotValue)) (rim : List RimFace) (p : Corner) (r k : ℕ) : Type 0 where
  pub len : length new ≡ length old
  pub corners : (u : ℕ) → corners_at new u ≡ corners_at old u
  pub star : IsStar new rim p
  pub sides : (u m : ℕ) → ((q : ℕ) → q < length rim → (behind_rim old rim q).slot ≢ u) → link_behind new u m ≡ link_behind old u m
  pub keeps : (u m : ℕ) → IsSome (link_behind old u m) → IsSome (link_behind new u m)
  pub here : IsSome (link_behind new (behind_rim old rim r).slot k)

-- each face of the slots over the first n faces has a neighbor, and the slots outside of the star stay
pub record LinksStar (old new : List (Option SlotValue)) (rim : List RimFace) (p : Corner) (n : ℕ) : Type 0 where
  pub len : length new ≡ length old
  pub corners : (u : ℕ) → corners_at new u ≡ corners_at old u
  pub star : IsStar new rim p
  pub sides : (u m : ℕ) → ((q : ℕ) → q < length rim → (behind_rim old rim q).slot ≢ u) → link_behind new u m ≡ link_behind old u m
  pub linked : (q m : ℕ) → q < n → m < 4 → IsSome (link_behind new (behind_rim old rim q).slot m)

-- 1 where nothing stands behind a face
abbrev pub open_side : Option SlotFace → ℕ
open_side None = 1
open_side (Some b) = 0

-- how many faces of a slot have no neighbor
abbrev pub open_at : List (Option SlotValue) → ℕ → ℕ
open_at slots u = open_side (link_behind slots u 0) + open_side (link_behind slots u 1) + open_side (link_behind slots u 2) + open_side
    (link_behind slots u 3)

abbrev pub open_behind : List (Option SlotValue) → RimFace → ℕ
open_behind slots f = open_at slots (behind (face_side slots f)).slot

-- how many faces of the slots behind a rim have no neighbor
abbrev pub open_faces : List (Option SlotValue) → List RimFace → ℕ
open_faces slots rim = sum_by (open_behind slots) rim

-- the face is of a slot of the star, and has the point and the ends of the edge
pub record IsOverEdge (slots : List (Option SlotValue)) (rim : List RimFace) (p : Corner) (edge : Edge) (face : SlotFace) : Type 0 where
  pub over : ℕ
  pub inside : over < length rim
  pub slot : face.slot ≡ (behind_rim slots rim over).slot
  pub apex : ℕ
  pub first : ℕ
  pub second : ℕ
  pub places : AreFourPlaces face.face apex first second
  pub point : corner slots face.slot apex ≡ p
  pub ends : edge_between (corner slots face.slot first) (corner slots face.slot second) ≡ edge

-- each edge was met at such a face
abbrev pub AreOverEdges : List (Option SlotValue) → List RimFace → Corner → Table → Type 0
AreOverEdges slots rim p table = (e : Edge) (s : SlotFace) → IsEdgeMet table e s → IsOverEdge slots rim p e s
