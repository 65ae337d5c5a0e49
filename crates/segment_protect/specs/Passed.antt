-- Subsegments that are found again by their first ends.
use Rattle.std.specs.Prelude.{◌≡◌, ◌≢◌, ◌⊎◌, ℕ, ◌-◌, ◌<◌, ◌≤◌, List, length, All, Contains, slice_index, slice_index_or}
use Rattle.sign_predicates.specs.Point.{Point}
use Rattle.geo_laws.specs.declared.complex.Piece.{Piece}
use Rattle.cavity_insert.specs.Living.{IsDelaunaySide}
use Rattle.segment_protect.specs.Watch.{pieces_of, IsWatched}
use Rattle.segment_protect.specs.declared.watch.Watched.{Watched}
use Rattle.segment_protect.specs.declared.passed.Passed.{Passed}

-- how many of the first k pieces there are up to the last one that begins at the point v; 0 where none does
pub record IsLast (pieces : List Piece) (k v count : ℕ) : Type 0 where
  pub within : count ≤ k
  pub begins : (d : Piece) → 0 < count → (slice_index_or pieces (count - 1) d).a ≡ v
  pub no_later : (j : ℕ) (d : Piece) → count ≤ j → j < k → (slice_index_or pieces j d).a ≢ v

-- each of n points is linked to the last subsegment that begins there, and each subsegment to the last one before it
-- from the same point
pub record AreLinked (n : ℕ) (pieces : List Piece) (earlier latest : List ℕ) : Type 0 where
  pub points : length latest ≡ n
  pub links : length earlier ≡ length pieces
  pub ends : All (λ p. p.a < n) pieces
  pub begins : (v : ℕ) → v < n → IsLast pieces (length pieces) v (slice_index latest v)
  pub follows : (k : ℕ) (d : Piece) → k < length pieces → IsLast pieces k (slice_index_or pieces k d).a (slice_index earlier k)

-- the pieces that were passed are linked
abbrev pub IsLinked : ℕ → Passed → Type 0
IsLinked n passed = AreLinked n (pieces_of passed.watched.items) passed.earlier.items passed.latest.items

-- the subsegments that were passed are linked and watched
pub record IsPassed (ps : List Point) (touched : List ℕ) (passed : Passed) : Type 0 where
  pub linked : IsLinked (length ps) passed
  pub watched : All (IsWatched ps touched) passed.watched.items

-- the subsegment is an edge of a Delaunay tetrahedron
abbrev pub IsSide : List Point → Watched → Type 0
IsSide ps w = IsDelaunaySide ps w.piece.a w.piece.b

-- the subsegment is an edge of a Delaunay tetrahedron, or both its ends are among the lost numbers
abbrev pub IsSideOrLost : List Point → List ℕ → Watched → Type 0
IsSideOrLost ps lost w = IsSide ps w ⊎ (Contains lost w.piece.a × Contains lost w.piece.b)

-- the subsegment at a place is an edge of a Delaunay tetrahedron
abbrev pub IsSideAt : List Point → List Piece → ℕ → Type 0
IsSideAt ps pieces k = (d : Piece) → IsDelaunaySide ps (slice_index_or pieces k d).a (slice_index_or pieces k d).b

-- the subsegments before a place are edges of Delaunay tetrahedra
abbrev pub AreSidesBefore : List Point → ℕ → List Watched → Type 0
AreSidesBefore ps place watched = (j : ℕ) (d : Watched) → j < place → j < length watched → IsSide ps (slice_index_or watched j d)

-- the subsegments before a place that begin at the point v are edges of Delaunay tetrahedra
abbrev pub AreSidesFrom : List Point → ℕ → ℕ → List Piece → Type 0
AreSidesFrom ps v place pieces = (j : ℕ) (d : Piece) → j < place → j < length pieces → (slice_index_or pieces j d).a ≡ v
    → IsDelaunaySide ps (slice_index_or pieces j d).a (slice_index_or pieces j d).b
