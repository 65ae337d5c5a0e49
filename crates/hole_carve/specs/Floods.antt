-- The state of a flood fill.
use Rattle.std.specs.Prelude.{◌≡◌, ◌↔◌, ℕ, ◌+◌, ◌<◌, Bool, true, List, length}
use Rattle.incidence.specs.declared.pairs.Across.{Across}
use Rattle.geo_laws.specs.Marks.{is_marked}
use Rattle.hole_carve.specs.declared.flood.Flood.{Flood}
use Rattle.hole_carve.specs.Flooding.{queue_at, IsQueued, Extends, IsClosedFrom}

-- a flood fill from the seeds over the tetrahedra and the outside of the hull
pub record IsFlood (ways : List Across) (seeds : List Bool) (f : Flood) : Type 0 where
  pub long : length f.marks.items ≡ length ways + 1
  pub filled : IsQueued ways seeds f.marks.items f.queue.items

-- the marks and the queue of the flood fill only grow
abbrev pub HasGrown : Flood → Flood → Type 0
HasGrown old new = Extends old.marks.items old.queue.items new.marks.items new.queue.items

-- the new state is one of the same flood fill, with the marks and the queue of the old one
pub record GoesOn (ways : List Across) (seeds : List Bool) (old new : Flood) : Type 0 where
  pub flood : IsFlood ways seeds new
  pub grown : HasGrown old new

-- each neighbor of a place in the queue is marked
abbrev pub IsFloodDone : List Across → Flood → Type 0
IsFloodDone ways f = (q : ℕ) → q < length f.queue.items → IsClosedFrom ways f.marks.items (queue_at f.queue.items q)

-- exactly these places are marked
abbrev pub HasReached : Flood → (ℕ → Type 0) → Type 0
HasReached f P = (i : ℕ) → (is_marked f.marks.items i ≡ true) ↔ P i
