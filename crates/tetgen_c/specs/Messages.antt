-- The words for the statuses of calls on arrays.
use Rattle.std.specs.Prelude.{ℕ, ℤ, pos, negsuc, List, [], codes, ◌==◌, if◌then◌else◌}

abbrev pub words_of_code : ℕ → List ℕ
words_of_code n =
    if n == 0 then codes "done" else
    if n == 4 then codes "a facet, a polygon or a corner names what is not there" else
    if n == 5 then codes "too many points, decimals or added points, or a coordinate too large or no number" else
    if n == 6 then codes "all points lie in one plane, a facet is not flat, or facets or segments cross" else
    if n == 7 then codes "a segment needs a finer grid" else
    if n == 8 then codes "as many points were added as allowed, and a segment is missing" else
    if n == 9 then codes "two facets cross one Delaunay tetrahedron, and no filling was found" else
    if n == 10 then codes "out of memory" else
    if n == 20 then codes "an array is too short" else []

-- no number below 0 is a status
abbrev pub status_words : ℤ → List ℕ
status_words (pos n) = words_of_code n
status_words (negsuc n) = []
