-- Marks at the corners of tetrahedra, and at no other points.
use Rattle.std.proofs.Common.{◌≡◌, ◌⊎◌, inl, inr, ℕ, ◌<◌, Bool, List, [], length, ◌+◌, refl, sym, subst, ◌∙◌, arith}
use Rattle.std.specs.Prelude.{IsTrue, Contains}
use Rattle.std.specs.List.{slice_index_or, AllWithin}
use Rattle.sign_predicates.specs.Point.{Point}
use Rattle.geo_laws.specs.Delaunay.{numbers}
use Rattle.geo_laws.specs.Marks.{is_marked}
use Rattle.geo_laws.specs.declared.tetrahedra.Tet.{Tet}
use Rattle.sign_predicates.proofs.Places.{A, B, C, D}
use Rattle.geo_laws.proofs.Corners.{contains_corner, same_or_not}
use Rattle.constrained_laws.specs.Constrained.{IsCornerOfSome, HasEachPoint}
use Rattle.tangle_laws.proofs.Apart.{fails_true}
use Rattle.tangle_fill.specs.Change.{KeepsMarks, MarksOnly, IsMarkedRow}

-- marks at four corners, one after the other
pub marks_row : (row : Tet) (m0 m1 m2 m3 m4 : List Bool) → MarksOnly (λ i. i ≡ row.a) m0 m1 → MarksOnly (λ i. i ≡ row.b) m1 m2 → MarksOnly (λ i. i ≡ row.c) m2 m3 → MarksOnly (λ i. i ≡ row.d) m3 m4
    → MarksOnly (Contains (numbers row)) m0 m4
marks_row row m0 m1 m2 m3 m4 a b c d i e = fourth (d i e)
  where
    first : IsTrue (is_marked m0 i) ⊎ (i ≡ row.a) → IsTrue (is_marked m0 i) ⊎ Contains (numbers row) i
    first (inl h) = inl h
    first (inr s) = inr (contains_corner row i (A, s))

    second : IsTrue (is_marked m1 i) ⊎ (i ≡ row.b) → IsTrue (is_marked m0 i) ⊎ Contains (numbers row) i
    second (inl h) = first (a i h)
    second (inr s) = inr (contains_corner row i (B, s))

    third : IsTrue (is_marked m2 i) ⊎ (i ≡ row.c) → IsTrue (is_marked m0 i) ⊎ Contains (numbers row) i
    third (inl h) = second (b i h)
    third (inr s) = inr (contains_corner row i (C, s))

    fourth : IsTrue (is_marked m3 i) ⊎ (i ≡ row.d) → IsTrue (is_marked m0 i) ⊎ Contains (numbers row) i
    fourth (inl h) = third (c i h)
    fourth (inr s) = inr (contains_corner row i (D, s))

-- the corners of one tetrahedron more are marked
pub rows_marked : (rows : List Tet) (row : Tet) (k : ℕ) (before after : List Bool) → ((d : Tet) → slice_index_or rows k d ≡ row) → KeepsMarks before after → IsMarkedRow after row
    → AllWithin (IsMarkedRow before) rows 0 k → AllWithin (IsMarkedRow after) rows 0 (k + 1)
rows_marked rows row k before after at keep marked all n d low high = go (same_or_not n k)
  where
    go : (n ≡ k) ⊎ (n ≡ k → ⊥) → IsMarkedRow after (slice_index_or rows n d)
    go (inl e) = subst (IsMarkedRow after) (sym (at d) ∙ (λ j. slice_index_or rows (sym e j) d)) marked
    go (inr apart) = let m = all n d low (omega arith) in record { a = keep _ m.a; b = keep _ m.b; c = keep _ m.c; d = keep _ m.d }

-- marks at the corners of one tetrahedron more
pub marks_more : (rows : List Tet) (row : Tet) (m0 m1 m2 : List Bool) → Contains rows row → MarksOnly (IsCornerOfSome rows) m0 m1 → MarksOnly (Contains (numbers row)) m1 m2 → MarksOnly (IsCornerOfSome rows) m0 m2
marks_more rows row m0 m1 m2 c before more i e = go (more i e)
  where
    go : IsTrue (is_marked m1 i) ⊎ Contains (numbers row) i → IsTrue (is_marked m0 i) ⊎ IsCornerOfSome rows i
    go (inl h) = before i h
    go (inr own) = inr (c.0, row, c.1, c.2, own)

-- where all points are marked that were not before, each is a corner
pub each_marked : (ps : List Point) (rows : List Tet) (marks : List Bool) → MarksOnly (IsCornerOfSome rows) [] marks → ((i : ℕ) → i < length ps → IsTrue (is_marked marks i)) → HasEachPoint ps rows
each_marked ps rows marks only all i l = go (only i (all i l))
  where
    go : IsTrue (is_marked [] i) ⊎ IsCornerOfSome rows i → IsCornerOfSome rows i
    go (inl h) = absurd (fails_true (is_marked [] i) refl h)
    go (inr c) = c
