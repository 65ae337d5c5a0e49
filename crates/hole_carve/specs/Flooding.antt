-- A flood fill over tetrahedra by their places in a list; the place past the last one is the outside of the hull.
use Rattle.std.specs.Prelude.{◌≡◌, ◌≢◌, ℕ, ◌+◌, ◌<◌, ◌≤◌, ◌==◌, Bool, true, if◌then◌else◌, Option, Some, List, length, slice_index_or, Contains}
use Rattle.incidence.specs.declared.pairs.Across.{Across}
use Rattle.incidence.specs.Pairs.{across_at}
use Rattle.geo_laws.specs.Marks.{is_marked}

-- the neighbor across the face opposite a corner
abbrev pub way : Across → ℕ → Option ℕ
way x k = if k == 0 then x.n0 else (if k == 1 then x.n1 else (if k == 2 then x.n2 else x.n3))

-- j is the neighbor of the tetrahedron at i across some face that is no subface
abbrev pub IsWay : List Across → ℕ → ℕ → Type 0
IsWay ways i j = (k : ℕ) × (k < 4) × (way (across_at ways i) k ≡ Some j)

-- the flood fill from the seeds reaches the place: also from the outside of the hull each tetrahedron with a hull face
-- that is no subface
pub data IsFloodedFrom (ways : List Across) (seed : ℕ → Type 0) : ℕ → Type 0 where
  begins : (i : ℕ) → seed i → IsFloodedFrom ways seed i
  goes_on : (i j : ℕ) → IsFloodedFrom ways seed i → IsWay ways i j → IsFloodedFrom ways seed j
  comes_in : (j : ℕ) → IsFloodedFrom ways seed (length ways) → IsWay ways j (length ways) → IsFloodedFrom ways seed j

-- the flood fill from the marked seeds reaches the place
abbrev pub IsFlooded : List Across → List Bool → ℕ → Type 0
IsFlooded ways seeds = IsFloodedFrom ways (λ i. is_marked seeds i ≡ true)

abbrev pub queue_at : List ℕ → ℕ → ℕ
queue_at queue i = slice_index_or queue i 0

-- the queue has the marked places, each once, and the flood fill reaches them
pub record IsQueued (ways : List Across) (seeds marks : List Bool) (queue : List ℕ) : Type 0 where
  pub within : (i : ℕ) → i < length queue → queue_at queue i < length marks
  pub marked : (i : ℕ) → i < length queue → is_marked marks (queue_at queue i) ≡ true
  pub once : (i j : ℕ) → i < j → j < length queue → queue_at queue i ≢ queue_at queue j
  pub listed : (v : ℕ) → is_marked marks v ≡ true → Contains queue v
  pub comes : (i : ℕ) → i < length queue → IsFlooded ways seeds (queue_at queue i)

-- marks and a queue that only grow
pub record Extends (marks : List Bool) (queue : List ℕ) (marks' : List Bool) (queue' : List ℕ) : Type 0 where
  pub long : length marks' ≡ length marks
  pub marked : (v : ℕ) → is_marked marks v ≡ true → is_marked marks' v ≡ true
  pub longer : length queue ≤ length queue'
  pub same : (i : ℕ) → i < length queue → queue_at queue' i ≡ queue_at queue i

-- each neighbor of the tetrahedron at i is marked
abbrev pub IsClosedAt : List Across → List Bool → ℕ → Type 0
IsClosedAt ways marks i = (j : ℕ) → IsWay ways i j → is_marked marks j ≡ true

-- each tetrahedron that is next to the outside of the hull is marked
abbrev pub IsClosedBeyond : List Across → List Bool → Type 0
IsClosedBeyond ways marks = (j : ℕ) → IsWay ways j (length ways) → is_marked marks j ≡ true

-- each neighbor of the place is marked
pub record IsClosedFrom (ways : List Across) (marks : List Bool) (i : ℕ) : Type 0 where
  pub row : i < length ways → IsClosedAt ways marks i
  pub beyond : length ways ≤ i → IsClosedBeyond ways marks

-- each neighbor is a tetrahedron or the outside of the hull
abbrev pub LeadsWithin : List Across → Type 0
LeadsWithin ways = (i j : ℕ) → IsWay ways i j → j < length ways + 1
