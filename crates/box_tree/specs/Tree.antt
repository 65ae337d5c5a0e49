-- Trees of boxes.
use Rattle.std.specs.Prelude.{◌≡◌, ℕ, ◌<◌, ◌≤◌, List, length, Any, Contains, All, slice_index_or}
use Rattle.box_tree.specs.declared.bounds.Bounds.{Bounds}
use Rattle.box_tree.specs.declared.tree.Boxed.{Boxed}
use Rattle.box_tree.specs.declared.tree.Keyed.{Keyed}
use Rattle.box_tree.specs.declared.tree.Node.{Node}
use Rattle.box_tree.specs.Bounds.{IsBoxWithin, AreBoundsApart}

-- these are the first boxes, with their places along the curve
pub record AreKeyed (boxes : List Boxed) (count : ℕ) (keyed : List Keyed) : Type 0 where
  pub counted : length keyed ≡ count
  pub each : (i : ℕ) (d : Keyed) (e : Boxed) → i < count → (slice_index_or keyed i d).own ≡ slice_index_or boxes i e

-- the box holds those at the places from first to before past
abbrev pub HoldsFrom : List Keyed → ℕ → ℕ → Bounds → Type 0
HoldsFrom boxes first past wide = (j : ℕ) (d : Keyed) → first ≤ j → j < past → IsBoxWithin (slice_index_or boxes j d).own.bounds wide

-- the node is that of the box at this place, and its wide box holds those of the places before its end
pub record IsNode (boxes : List Keyed) (i : ℕ) (n : Node) : Type 0 where
  pub own : (d : Keyed) → (slice_index_or boxes i d).own ≡ n.own
  pub onward : i < n.past
  pub there : n.past ≤ length boxes
  pub holds : HoldsFrom boxes i n.past n.wide

-- these are the nodes of the first boxes
pub record AreNodes (boxes : List Keyed) (count : ℕ) (nodes : List Node) : Type 0 where
  pub counted : length nodes ≡ count
  pub each : (i : ℕ) (d : Node) → i < count → IsNode boxes i (slice_index_or nodes i d)

-- the wide box of each node holds the boxes of the node and of those after it before its end
pub record IsTree (nodes : List Node) : Type 0 where
  pub onward : (i : ℕ) (d : Node) → i < length nodes → i < (slice_index_or nodes i d).past
  pub there : (i : ℕ) (d : Node) → i < length nodes → (slice_index_or nodes i d).past ≤ length nodes
  pub holds : (i j : ℕ) (d : Node) → i ≤ j → i < length nodes → j < (slice_index_or nodes i d).past
      → IsBoxWithin (slice_index_or nodes j d).own.bounds (slice_index_or nodes i d).wide

-- a tree with the boxes of the list
pub record IsTreeOf (boxes : List Boxed) (nodes : List Node) : Type 0 where
  pub tree : IsTree nodes
  pub listed : All (λ n. Contains boxes n.own) nodes
  pub each : (b : Boxed) → Contains boxes b → Any (λ n. n.own ≡ b) nodes

-- the boxes at the places from first to before past are apart from this one
abbrev pub AreApartBetween : List Node → Bounds → ℕ → ℕ → Type 0
AreApartBetween nodes b first past = (j : ℕ) (d : Node) → first ≤ j → j < past → AreBoundsApart (slice_index_or nodes j d).own.bounds b

-- a tree with a box for each place of a list, which holds what stands there
pub record IsTreeOver (count : ℕ) (holds : ℕ → Bounds → Type 0) (nodes : List Node) : Type 0 where
  pub tree : IsTree nodes
  pub listed : All (λ n. (n.own.place < count) × holds n.own.place n.own.bounds) nodes
  pub each : (i : ℕ) → i < count → Any (λ n. n.own.place ≡ i) nodes
