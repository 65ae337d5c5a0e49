-- The sides of facets, one after another, and the last earlier one with the same ends.
use Rattle.std.proofs.Common.{◌≡◌, ◌≢◌, ◌⊎◌, inl, inr, ℕ, ◌+◌, ◌<◌, cond, List, [], ◌∷◌, ◌++◌, map, length, get_or, refl, ap, sym, ◌∙◌, subst, append_assoc, arith, eq-eqb, ne_eqb}
use Rattle.std.specs.Prelude.{not, Contains}
use Rattle.std.proofs.lemmas.List.{map-append}
use Rattle.geo_laws.specs.Complex.{Complex}
use Rattle.geo_laws.specs.Segment.{piece, sides}
use Rattle.geo_laws.specs.declared.complex.Piece.{Piece}
use Rattle.geo_laws.proofs.Members.{IsMember, member_of, contains_of, in_append_left, in_append_right, append_cases, in_map, map_cases}
use Rattle.merged_facets.specs.Merged.{only_polygon, facet_at}
use Rattle.incidence.proofs.Polygons.{sides_before, IsNext, before_more}
use Rattle.merged_facets.specs.FacetSides.{facet_side, IsFacetSideOf, AreSidesBelow}
use Rattle.merged_facets.specs.declared.sides.FacetSide.{FacetSide}

append_nil : {X : Type 0} (xs : List X) → xs ++ [] ≡ xs
append_nil [] = refl
append_nil (x ∷ xs) = ap (λ zs. x ∷ zs) (append_nil xs)

-- a corner whose next one is another point
pub side_added : (f : ℕ) (start old new : List FacetSide) (polygon : List ℕ) (k next a b : ℕ) → k < length polygon → IsNext polygon k next → get_or polygon k 0 ≡ a → get_or polygon next 0 ≡ b → a ≢ b
    → old ≡ start ++ map (facet_side f) (sides_before k polygon) → new ≡ old ++ facet_side f (piece a b 0) ∷ [] → new ≡ start ++ map (facet_side f) (sides_before (k + 1) polygon)
side_added f start old new polygon k next a b h is first second differs before put =
    put ∙ ap (λ xs. xs ++ facet_side f (piece a b 0) ∷ []) before ∙ append_assoc start (map (facet_side f) (sides_before k polygon)) (facet_side f (piece a b 0) ∷ [])
    ∙ ap (λ xs. start ++ xs) (sym (ap (map (facet_side f)) (before_more polygon k next a b h is first second ∙ ap (λ t. sides_before k polygon ++ cond (not t) (piece a b 0 ∷ []) []) (ne_eqb a b differs))
    ∙ map-append (facet_side f) (sides_before k polygon) (piece a b 0 ∷ [])))

-- and one whose next one is the same point
pub side_passed : (f : ℕ) (start old : List FacetSide) (polygon : List ℕ) (k next a b : ℕ) → k < length polygon → IsNext polygon k next → get_or polygon k 0 ≡ a → get_or polygon next 0 ≡ b → a ≡ b
    → old ≡ start ++ map (facet_side f) (sides_before k polygon) → old ≡ start ++ map (facet_side f) (sides_before (k + 1) polygon)
side_passed f start old polygon k next a b h is first second same before =
    before
    ∙ ap (λ ps. start ++ map (facet_side f) ps) (sym (before_more polygon k next a b h is first second ∙ ap (λ t. sides_before k polygon ++ cond (not t) (piece a b 0 ∷ []) []) (eq-eqb a b same) ∙ append_nil (sides_before k polygon)))

-- those of one facet more
pub sides_more : (c : Complex) (f : ℕ) (list new : List FacetSide) → f < length c.facets → AreSidesBelow c f list → new ≡ list ++ map (facet_side f) (sides (only_polygon (facet_at c f)))
    → AreSidesBelow c (f + 1) new
sides_more c f list new there h is = record { each = each; all = all }
  where
    own : List FacetSide
    own = map (facet_side f) (sides (only_polygon (facet_at c f)))

    moved : (e : FacetSide) → Contains new e → IsMember e (list ++ map (facet_side f) (sides (only_polygon (facet_at c f))))
    moved e k = subst (λ (xs : List FacetSide). IsMember e xs) is (member_of new e k)

    each : (e : FacetSide) → Contains new e → IsFacetSideOf c e
    each e k = go (append_cases e list (map (facet_side f) (sides (only_polygon (facet_at c f)))) (moved e k))
      where
        go : IsMember e list ⊎ IsMember e (map (facet_side f) (sides (only_polygon (facet_at c f)))) → IsFacetSideOf c e
        go (inl m) = h.each e (contains_of list e m)
        go (inr m) =
            let r = map_cases (facet_side f) e (sides (only_polygon (facet_at c f))) m in
            subst (λ (x : FacetSide). IsFacetSideOf c x) (sym r.2) (record { there = there; side_of = contains_of (sides (only_polygon (facet_at c f))) r.0 r.1 })

    all : (g : ℕ) (s : Piece) → g < f + 1 → Contains (sides (only_polygon (facet_at c g))) s → Contains new (facet_side g s)
    all g s l k = contains_of new (facet_side g s) (subst (λ (xs : List FacetSide). IsMember (facet_side g s) xs) (sym is) (go (before g f l)))
      where
        before : (a b : ℕ) → a < b + 1 → (a < b) ⊎ (a ≡ b)
        before a b h = grind arith

        go : (g < f) ⊎ (g ≡ f) → IsMember (facet_side g s) (list ++ map (facet_side f) (sides (only_polygon (facet_at c f))))
        go (inl less) = in_append_left (facet_side g s) list (map (facet_side f) (sides (only_polygon (facet_at c f)))) (member_of list (facet_side g s) (h.all g s less k))
        go (inr e) =
            in_append_right (facet_side g s) list (map (facet_side f) (sides (only_polygon (facet_at c f))))
            (subst (λ (i : ℕ). IsMember (facet_side g s) (map (facet_side i) (sides (only_polygon (facet_at c i))))) e
            (in_map (facet_side g) s (sides (only_polygon (facet_at c g))) (member_of (sides (only_polygon (facet_at c g))) s k)))
