-- The lowest tetrahedra are the same in whatever order the numbers stand, and a hull face is a face of one of them only.
use Rattle.std.proofs.Common.{◌⊎◌, inl, inr, refl, arith}
use Rattle.geo_laws.specs.Height.{IsLowestAmong}
use Rattle.geo_laws.specs.declared.tetrahedra.Tet.{Tet}
use Rattle.insert_laws.specs.LowestInsertion.{IsFaceOf, IsLowestHullFace, HasNoneAmongBeyond, LowestSameNumbersLaw, LowestHullFaceLaw}
use Rattle.insert_laws.proofs.LowestInsert as insert

pub law_same_numbers : LowestSameNumbersLaw
law_same_numbers lifts ps ms ks same t d = record { is_on = λ i c. (same i).0 (d.is_on i c); is_positive = d.is_positive; is_arranged = d.is_arranged; others = λ i l n. d.others i ((same i).1 l) n }

-- ---- hull faces

-- by the law of face pairing
pub law_hull_face : LowestHullFaceLaw
law_hull_face lifts ps ms within f t d face = (to, from)
  where
    to : IsLowestHullFace lifts ps ms f → (s : Tet) → IsLowestAmong ps ms lifts s → ¬ IsFaceOf ps f s
    to h s ds fs = h.none_beyond fs.opposite (ds.is_on fs.opposite ((fs.same_corners fs.opposite).0 (3, omega arith, refl))) fs.over

    from : ((s : Tet) → IsLowestAmong ps ms lifts s → ¬ IsFaceOf ps f s) → IsLowestHullFace lifts ps ms f
    from none = record { behind = t; is_row = d; is_face = face; none_beyond = by (insert.law_face_pairing lifts ps ms within f t d face) }
      where
        by : HasNoneAmongBeyond ps ms f ⊎ ((s : Tet) × IsLowestAmong ps ms lifts s × IsFaceOf ps f s) → HasNoneAmongBeyond ps ms f
        by (inl h) = h
        by (inr r) = absurd (none r.0 r.1 r.2)
