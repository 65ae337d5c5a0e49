-- Boxes along the axes, and blocks of a list: each has a box round the items of a run.
use Rattle.std.specs.Prelude.{◌≡◌, ℕ, ◌<◌, ◌≤◌, ◌≤ℤ◌, List, length, slice_index_or}
use Rattle.sign_predicates.specs.Point.{Point}
use Rattle.facet_plane.specs.declared.blocks.Extent.{Extent}
use Rattle.facet_plane.specs.declared.blocks.Block.{Block}

-- no coordinate of a is above that of b
pub record IsBelow (a b : Point) : Type 0 where
  pub x : a.x ≤ℤ b.x
  pub y : a.y ≤ℤ b.y
  pub z : a.z ≤ℤ b.z

-- the box holds the point
pub record IsHeld (e : Extent) (p : Point) : Type 0 where
  pub low : IsBelow e.low p
  pub high : IsBelow p e.high

-- the first box lies in the second
pub record IsSubbox (e f : Extent) : Type 0 where
  pub low : IsBelow f.low e.low
  pub high : IsBelow e.high f.high

-- the box holds that at the place j
abbrev pub HoldsBox : List Extent → ℕ → Extent → Type 0
HoldsBox boxes j e = (d : Extent) → IsSubbox (slice_index_or boxes j d) e

-- the box holds what is at the places from first to before past
abbrev pub HoldsBetween : (ℕ → Extent → Type 0) → ℕ → ℕ → Extent → Type 0
HoldsBetween holds first past e = (j : ℕ) → first ≤ j → j < past → holds j e

-- a block at the place i of a list
pub record IsBlock (holds : ℕ → Extent → Type 0) (count i : ℕ) (b : Block) : Type 0 where
  pub onward : i < b.past
  pub there : b.past ≤ count
  pub round : HoldsBetween holds i b.past b.extent

-- the blocks at the first `done` places of a list
pub record AreBlocksTo (holds : ℕ → Extent → Type 0) (count done : ℕ) (blocks : List Block) : Type 0 where
  pub counted : length blocks ≡ done
  pub each : (i : ℕ) (d : Block) → i < done → IsBlock holds count i (slice_index_or blocks i d)

-- the blocks of a list
abbrev pub AreBlocks : (ℕ → Extent → Type 0) → ℕ → List Block → Type 0
AreBlocks holds count blocks = AreBlocksTo holds count count blocks
