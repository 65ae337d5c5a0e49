-- What is kept of rows that cover the hull once is apart.
use Rattle.std.proofs.Common.{◌≡◌, ◌⊎◌, inl, inr, ℕ, ◌<◌, List, length, sym, subst, ◌∙◌, arith}
use Rattle.std.specs.Prelude.{AllPairs, Contains, slice_index_or}
use Rattle.std.proofs.lemmas.Bool.{cases_order}
use Rattle.std.proofs.lemmas.List.{get_or_default}
use Rattle.sign_predicates.specs.Point.{Point}
use Rattle.sign_predicates.specs.Orientation.{IsPositive}
use Rattle.geo_laws.specs.Delaunay.{corners, all_numbers, RowBefore}
use Rattle.geo_laws.specs.declared.tetrahedra.Tet.{Tet}
use Rattle.geo_laws.proofs.Ascending.{before_itself}
use Rattle.crossing_laws.specs.Crossing.{AreApart, LieApart}
use Rattle.crossing_laws.proofs.Corners.{among_of_on}
use Rattle.crossing_laws.proofs.DelaunayApart.{cover_apart}
use Rattle.run_laws.specs.WrittenMesh.{KeptApartLaw}

not_back : (s t : Tet) → RowBefore s t → RowBefore t s → ⊥
not_back s t h k = grind (arith, h, k)

-- rows of an ascending part stand in the list in the same order
pub part_apart : (ps : List Point) (whole part : List Tet) → AreApart ps whole → AllPairs RowBefore whole → ((t : Tet) → Contains part t → Contains whole t) → AllPairs RowBefore part → AreApart ps part
part_apart ps whole part apart up of_whole rises = record { positive = λ k d lt. positive k d lt; apart = λ i j d lt mt. pair i j d lt mt }
  where
    place : (k : ℕ) (d : Tet) → k < length part → Contains whole (slice_index_or part k d)
    place k d lt = of_whole (slice_index_or part k d) (k, lt, get_or_default part k _ d lt)

    positive : (k : ℕ) (d : Tet) → k < length part → IsPositive (corners ps (slice_index_or part k d))
    positive k d lt = let c = place k d lt in subst (λ (t : Tet). IsPositive (corners ps t)) c.2 (apart.positive c.0 (slice_index_or part k d) c.1)

    pair : (i j : ℕ) (d : Tet) → i < j → j < length part → LieApart ps (slice_index_or part i d) (slice_index_or part j d)
    pair i j d lt mt =
        let s = slice_index_or part i d in
        let t = slice_index_or part j d in
        let a = place i d (omega arith) in
        let b = place j d mt in
        go s t a.0 b.0 a.1 b.1 a.2 (get_or_default whole b.0 s t b.1 ∙ b.2) (rises i j d lt mt) (cases_order a.0 b.0)
      where
        go : (s t : Tet) (m n : ℕ) → m < length whole → n < length whole → slice_index_or whole m s ≡ s → slice_index_or whole n s ≡ t → RowBefore s t → (m ≡ n) ⊎ ((m < n) ⊎ (n < m)) → LieApart ps s t
        go s t m n lm ln es et before (inl e) =
            let same : s ≡ t = sym es ∙ (λ k. slice_index_or whole (e k) s) ∙ et in
            absurd (before_itself t (subst (λ (u : Tet). RowBefore u t) same before))
        go s t m n lm ln es et before (inr (inl less)) = subst (λ (u : Tet). LieApart ps u t) es (subst (λ (u : Tet). LieApart ps (slice_index_or whole m s) u) et (apart.apart m n s less ln))
        go s t m n lm ln es et before (inr (inr more)) =
            absurd (not_back s t before (subst (λ (u : Tet). RowBefore t u) es (subst (λ (u : Tet). RowBefore u (slice_index_or whole m s)) et (up n m s more lm))))

pub kept_apart : KeptApartLaw
kept_apart ps whole part on positive up covers of_whole rises =
    part_apart ps whole part (cover_apart ps (all_numbers ps) whole (λ k d lt. among_of_on ps _ (on k d lt)) positive covers) up of_whole rises
