-- Segments between points, and the pieces that the points on them cut them into.
use Rattle.std.specs.Prelude.{ℕ, zero, suc, ◌+◌, ℤ, pos, ◌+ℤ◌, int_lt, int_le, int_div, Bool, true, false, not, ◌&&◌, ◌||◌, ◌==◌, if◌then◌else◌, Option, Some, None, List, [], ◌∷◌, ◌++◌, map, filter, flat_map, length, take, drop, zip, find}
use Rattle.std.specs.List.{list_any}
use Rattle.sign_predicates.specs.Point.{Point, from_to}
use Rattle.sign_predicates.specs.Orientation.{dot, cross}
use Rattle.geo_laws.specs.Delaunay.{point, numbers_below, has_corner, delaunay_rows}
use Rattle.geo_laws.specs.declared.tetrahedra.Tet.{Tet}
use Rattle.geo_laws.specs.declared.complex.Piece.{Piece}

abbrev pub piece : ℕ → ℕ → ℕ → Piece
piece a b halvings = record { a = a; b = b; halvings = halvings }

-- two pieces have the same ends, in either direction
abbrev pub same_ends : Piece → Piece → Bool
same_ends p q = (p.a == q.a && p.b == q.b) || (p.a == q.b && p.b == q.a)

-- the pieces without those that stand earlier in the list, in either direction
abbrev pub first_places : List Piece → List Piece
first_places [] = []
first_places (p ∷ ps) = p ∷ filter (λ q. not (same_ends p q)) (first_places ps)

-- the sides of a polygon: from each corner to the next, and from the last to the first
abbrev pub sides : List ℕ → List Piece
sides polygon = filter (λ s. not (s.a == s.b)) (map (λ s. piece s.0 s.1 0) (zip polygon (drop 1 polygon ++ take 1 polygon)))

-- the distinct sides of the polygons, in their order
abbrev pub segments : List (List ℕ) → List Piece
segments polygons = first_places (flat_map sides polygons)

-- ---- the points on a segment

abbrev pub is_zero : ℤ → Bool
is_zero n = int_le n (pos 0) && int_le (pos 0) n

abbrev pub is_zero_vector : Point → Bool
is_zero_vector v = is_zero v.x && is_zero v.y && is_zero v.z

-- how far along the segment from a to b a point lies, times the square of its length
abbrev pub along : Point → Point → Point → ℤ
along a b p = dot (from_to a b) (from_to a p)

-- whether p lies on the segment from a to b
abbrev pub is_on_segment : Point → Point → Point → Bool
is_on_segment a b p = is_zero_vector (cross (from_to a b) (from_to a p)) && int_le (pos 0) (along a b p)
    && int_le (along a b p) (along a b b)

-- i among the others by rising key
abbrev pub place_by : (ℕ → ℤ) → ℕ → List ℕ → List ℕ
place_by key i [] = i ∷ []
place_by key i (j ∷ js) = if int_lt (key j) (key i) then j ∷ place_by key i js else i ∷ j ∷ js

abbrev pub sort_by : (ℕ → ℤ) → List ℕ → List ℕ
sort_by key [] = []
sort_by key (i ∷ is) = place_by key i (sort_by key is)

-- the points on the segment from a to b, in order from a to b
abbrev pub stops : List Point → Piece → List ℕ
stops ps s =
    sort_by (λ i. along (point ps s.a) (point ps s.b) (point ps i))
    (filter (λ i. is_on_segment (point ps s.a) (point ps s.b) (point ps i)) (numbers_below (length ps)))

-- the pieces of a segment, which join each stop to the next
abbrev pub cut : List Point → Piece → List Piece
cut ps s = map (λ e. piece e.0 e.1 0) (zip (stops ps s) (drop 1 (stops ps s)))

-- the pieces of the segments, each at its first place
abbrev pub pieces : List Point → List Piece → List Piece
pieces ps segments = first_places (flat_map (cut ps) segments)

-- ---- protection

-- whether the piece is a side of a row
abbrev pub is_side : List Tet → Piece → Bool
is_side rows p = list_any (λ t. has_corner t p.a && has_corner t p.b) rows

abbrev pub midpoint : Point → Point → Point
midpoint a b = record { x = int_div (a.x +ℤ b.x) (pos 2); y = int_div (a.y +ℤ b.y) (pos 2); z = int_div (a.z +ℤ b.z) (pos 2) }

-- how a protection ends: with the points and pieces, at a piece that may not be halved again, or for want of splits
pub data ProtectionEnd : Type 0 where
  Protected : List Point → List Piece → ProtectionEnd
  GridEnd : Piece → ProtectionEnd
  BudgetEnd : Piece → ProtectionEnd

-- the first piece that is no side of a Delaunay row
abbrev pub first_missing : List Point → List Piece → Option Piece
first_missing ps pieces = find (λ p. not (is_side (delaunay_rows ps) p)) pieces

-- the points with the midpoint of a piece
abbrev pub with_midpoint : List Point → Piece → List Point
with_midpoint ps p = ps ++ midpoint (point ps p.a) (point ps p.b) ∷ []

-- the pieces with the two halves of p in its place, where the midpoint has the number m
abbrev pub with_halves : Piece → ℕ → List Piece → List Piece
with_halves p m pieces =
    flat_map (λ q. if same_ends p q then piece p.a m (p.halvings + 1) ∷ piece m p.b (p.halvings + 1) ∷ [] else q ∷ []) pieces

-- the end, where it comes before the next split
abbrev pub end_or : ℕ → Option Piece → ProtectionEnd → (Piece → ProtectionEnd) → ProtectionEnd
end_or depth None done split = done
end_or depth (Some p) done split = elim (p.halvings == depth) [ true ↦ GridEnd p | false ↦ split p ]

-- Each time the first missing piece is halved at its midpoint, which is appended to the points, until no piece is missing.
-- A piece may be halved `depth` times, and there may be `splits` splits.
abbrev pub protect : ℕ → ℕ → List Point → List Piece → ProtectionEnd
protect depth zero ps pieces = end_or depth (first_missing ps pieces) (Protected ps pieces) BudgetEnd
protect depth (suc splits) ps pieces =
    end_or depth (first_missing ps pieces) (Protected ps pieces)
    (λ p. protect depth splits (with_midpoint ps p) (with_halves p (length ps) pieces))
