-- Points that are equal as decimals are one, which keeps its first place.
use Rattle.std.specs.Prelude.{ℕ, Bool, ◌&&◌, List, [], ◌∷◌, ◌++◌, fold, nat_eq, if◌then◌else◌}
use Rattle.std.specs.List.{list_any, position_or_len}
use Rattle.std.specs.Ordering.{int_eq}
use Rattle.std.specs.Cmp.{IsEquivalence, and_equiv, on_equiv, int_eq_equiv, nat_eq_equiv}
use Rattle.tet_text.specs.Decimals.{Scaled}
use Rattle.grid_coords.specs.declared.points.DecimalPoint.{DecimalPoint}

-- decimals have no trailing zero in their fraction, so equal ones are written alike
abbrev pub same_decimal : Scaled → Scaled → Bool
same_decimal d e = int_eq d.value e.value && nat_eq d.scale e.scale

-- equal coordinates, whatever the lines
abbrev pub same_vertex : DecimalPoint → DecimalPoint → Bool
same_vertex p q = (same_decimal p.x q.x && same_decimal p.y q.y) && same_decimal p.z q.z

-- the list with p at its end, unless an equal point is there
abbrev pub with_vertex : List DecimalPoint → DecimalPoint → List DecimalPoint
with_vertex found p = if list_any (same_vertex p) found then found else found ++ p ∷ []

-- the distinct points, in the order in which they are first found
abbrev pub distinct_vertices : List DecimalPoint → List DecimalPoint
distinct_vertices ps = fold with_vertex [] ps

-- the place of the point that is equal to p; behind the last where there is none
abbrev pub vertex_place : List DecimalPoint → DecimalPoint → ℕ
vertex_place found p = position_or_len (same_vertex p) found

-- ---- to be equal is an equivalence

decimals_equiv : IsEquivalence same_decimal
decimals_equiv = and_equiv (on_equiv (λ (d : Scaled). d.value) int_eq_equiv) (on_equiv (λ (d : Scaled). d.scale) nat_eq_equiv)

pub vertices_equiv : IsEquivalence same_vertex
vertices_equiv =
    and_equiv (and_equiv (on_equiv (λ (p : DecimalPoint). p.x) decimals_equiv) (on_equiv (λ (p : DecimalPoint). p.y) decimals_equiv))
    (on_equiv (λ (p : DecimalPoint). p.z) decimals_equiv)
