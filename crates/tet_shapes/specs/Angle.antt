-- How small the dihedral angles of a tetrahedron are.
use Rattle.std.specs.Prelude.{ℕ, Bool, ◌&&◌, ◌||◌, List, [], ◌∷◌, pos, ◌*ℤ◌, int_lt, count_by, slice_index_or}
use Rattle.sign_predicates.specs.Point.{Point, from_to}
use Rattle.sign_predicates.specs.Orientation.{cross, dot}
use Rattle.sign_predicates.specs.Sphere.{square_length}
use Rattle.sign_predicates.specs.declared.tetrahedron.Corners.{Corners}
use Rattle.geo_laws.specs.Delaunay.{corners}
use Rattle.geo_laws.specs.declared.tetrahedra.Tet.{Tet}
use Rattle.tet_shapes.specs.declared.shape.Ratio.{Ratio}

-- The angle of two vectors is below the one whose squared cosine is r: their scalar product is above 0, and its square is over
-- r times the product of their squared lengths
abbrev pub is_below : Ratio → Point → Point → Bool
is_below r m n =
    int_lt (pos 0) (dot m n)
    && int_lt (pos r.over *ℤ (square_length m *ℤ square_length n)) (pos r.under *ℤ (dot m n *ℤ dot m n))

-- The dihedral angle at the edge from a to b, between the faces that c and d span with it, is below that angle: it is the angle
-- of the normals of the faces
unfoldable pub is_sharp : Ratio → Point → Point → Point → Point → Bool
is_sharp r a b c d = is_below r (cross (from_to a b) (from_to a c)) (cross (from_to a b) (from_to a d))

-- the dihedral angle at an edge is below that angle
unfoldable pub is_flat : Ratio → Corners → Bool
is_flat r t =
    is_sharp r t.a t.b t.c t.d || is_sharp r t.a t.c t.b t.d || is_sharp r t.a t.d t.b t.c || is_sharp r t.b t.c t.a t.d
    || is_sharp r t.b t.d t.a t.c || is_sharp r t.c t.d t.a t.b

-- how many of the tetrahedra are flat
abbrev pub flat_count : Ratio → List Point → List Tet → ℕ
flat_count r ps rows = count_by (λ row. is_flat r (corners ps row)) rows

-- the squared cosines of the angles of 0 to 30 whole degrees, as multiples of 10^-9
abbrev pub squared_cosines : List ℕ
squared_cosines =
    1000000000 ∷ 999695414 ∷ 998782025 ∷ 997260948 ∷ 995134034 ∷ 992403877 ∷ 989073800 ∷ 985147863 ∷ 980630848 ∷ 975528258 ∷
    969846310 ∷ 963591927 ∷ 956772729 ∷ 949397023 ∷ 941473796 ∷ 933012702 ∷ 924024048 ∷ 914518786 ∷ 904508497 ∷ 894005377 ∷
    883022222 ∷ 871572413 ∷ 859669900 ∷ 847329185 ∷ 834565303 ∷ 821393805 ∷ 807830738 ∷ 793892626 ∷ 779596452 ∷ 764959632 ∷
    750000000 ∷ []

-- the squared cosine of an angle of so many degrees, rounded to nine decimals
abbrev pub squared_cosine : ℕ → Ratio
squared_cosine degrees = record { over = slice_index_or squared_cosines degrees 0; under = 1000000000 }
