use Rattle.std.proofs.Common.{◌≡◌, ◌<◌, ℕ, cond, Option, List, length, get_or, set, refl, sym, ap, ◌∙◌, arith, rules}
use Rattle.std.proofs.lemmas.Grind.{get_or-set_at}
use Rattle.std.proofs.lemmas.List.{get_or-set_other}
use Rattle.geo_laws.specs.declared.tetrahedra.Tet.{Tet}
use Rattle.incidence.specs.declared.half_faces.Corner.{Corner}
use Rattle.incidence.specs.declared.half_faces.Corner.TheVariants.{A, B, C, D}
use Rattle.incidence.specs.declared.pairs.Across.{Across}
use Rattle.incidence.specs.HalfFaces.{opposite_row_face, corner_number, IsAscendingRow}
use Rattle.incidence.specs.Pairs.{is_face, with_partner, place_in, across_in}
use Rattle.incidence.proofs.Opposite.{opposite_only}
use Rattle.incidence.proofs.Partners.{face_itself}
use Rattle.incidence.proofs.Settled.{by_corners}
use Rattle.incidence.proofs.pairs.put_partner.Goals as goal
use Rattle.geo_laws.specs.Delaunay.{row_at}

-- with what is across the face opposite a corner
abbrev put_at : Corner → Option ℕ → Across → Across
put_at A o x = record { n0 = o; n1 = x.n1; n2 = x.n2; n3 = x.n3 }
put_at B o x = record { n0 = x.n0; n1 = o; n2 = x.n2; n3 = x.n3 }
put_at C o x = record { n0 = x.n0; n1 = x.n1; n2 = o; n3 = x.n3 }
put_at D o x = record { n0 = x.n0; n1 = x.n1; n2 = x.n2; n3 = o }

here : (t : Tet) (k : Corner) (o p : Option ℕ) → cond (is_face (opposite_row_face t k) (opposite_row_face t k)) o p ≡ o
here t k o p = ap (λ b. cond b o p) (face_itself (opposite_row_face t k) (opposite_row_face t k) refl)

there : (t : Tet) (k j : Corner) (o p : Option ℕ) → IsAscendingRow t → ¬ (k ≡ j)
    → cond (is_face (opposite_row_face t k) (opposite_row_face t j)) o p ≡ p
there t k j o p arranged apart = ap (λ b. cond b o p) (opposite_only t k j arranged apart)

placed_only : (t : Tet) (k : Corner) (o : Option ℕ) (x : Across) → IsAscendingRow t → with_partner t (opposite_row_face t k) o x ≡ put_at k o x
placed_only t A o x arranged = by_corners _ _ (here t A o x.n0) (there t B A o x.n1 arranged (λ e. cc))
    (there t C A o x.n2 arranged (λ e. cc)) (there t D A o x.n3 arranged (λ e. cc))
placed_only t B o x arranged = by_corners _ _ (there t A B o x.n0 arranged (λ e. cc)) (here t B o x.n1)
    (there t C B o x.n2 arranged (λ e. cc)) (there t D B o x.n3 arranged (λ e. cc))
placed_only t C o x arranged = by_corners _ _ (there t A C o x.n0 arranged (λ e. cc)) (there t B C o x.n1 arranged (λ e. cc))
    (here t C o x.n2) (there t D C o x.n3 arranged (λ e. cc))
placed_only t D o x arranged = by_corners _ _ (there t A D o x.n0 arranged (λ e. cc)) (there t B D o x.n1 arranged (λ e. cc))
    (there t C D o x.n2 arranged (λ e. cc)) (here t D o x.n3)

set_here : (xs : List ℕ) (k : ℕ) (v : ℕ) → k < length xs → place_in (get_or (set xs k v) k 0) ≡ place_in v
set_here xs k v l = ap place_in (get_or-set_at xs k k v 0 refl l)

set_there : (xs : List ℕ) (k i : ℕ) (v : ℕ) → ¬ (i ≡ k) → place_in (get_or (set xs k v) i 0) ≡ place_in (get_or xs i 0)
set_there xs k i v n = ap place_in (get_or-set_other xs k i v 0 n)

put_across : (xs : List ℕ) (k : Corner) (v : ℕ) → length xs ≡ 4
    → across_in (record { rows = set xs (corner_number k) v }) ≡ put_at k (place_in v) (across_in (record { rows = xs }))
put_across xs A v l = by_corners _ _ (set_here xs 0 v (omega (arith, l))) (set_there xs 0 1 v (λ e. omega (arith, e)))
    (set_there xs 0 2 v (λ e. omega (arith, e))) (set_there xs 0 3 v (λ e. omega (arith, e)))
put_across xs B v l = by_corners _ _ (set_there xs 1 0 v (λ e. omega (arith, e))) (set_here xs 1 v (omega (arith, l)))
    (set_there xs 1 2 v (λ e. omega (arith, e))) (set_there xs 1 3 v (λ e. omega (arith, e)))
put_across xs C v l = by_corners _ _ (set_there xs 2 0 v (λ e. omega (arith, e))) (set_there xs 2 1 v (λ e. omega (arith, e)))
    (set_here xs 2 v (omega (arith, l))) (set_there xs 2 3 v (λ e. omega (arith, e)))
put_across xs D v l = by_corners _ _ (set_there xs 3 0 v (λ e. omega (arith, e))) (set_there xs 3 1 v (λ e. omega (arith, e)))
    (set_there xs 3 2 v (λ e. omega (arith, e))) (set_here xs 3 v (omega (arith, l)))

pub returns : goal.returns
returns c =
    let xs = c.args.places.now.rows in
    let long : length xs ≡ 4 = search rules in
    let k = c.args.half.opposite in
    ap (λ i. across_in (record { rows = set xs i c.args.place })) c.number_of.ensures.number ∙ put_across xs k c.args.place long
    ∙ sym (placed_only (row_at c.args.list.now c.args.half.row) k (place_in c.args.place) (across_in c.args.places.now)
    (c.requires.arranged (search rules)))
