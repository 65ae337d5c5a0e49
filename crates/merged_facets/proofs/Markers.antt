-- Facets that are joined in a chain have one marker and one least number.
use Rattle.std.proofs.Common.{◌≡◌, ℕ, ◌<◌, List, [], ◌∷◌, length, refl, sym, ◌∙◌, subst}
use Rattle.std.specs.Prelude.{flat_map}
use Rattle.sign_predicates.specs.Point.{Point}
use Rattle.geo_laws.specs.Facet.{Facet}
use Rattle.geo_laws.specs.Complex.{Complex}
use Rattle.geo_laws.proofs.Members.{IsMember, here}
use Rattle.merged_facets.specs.Merged.{AreChained, alone, onward, marker_at, members}
use Rattle.merged_facets.proofs.FacetGroups.{law_group}
use Rattle.merged_facets.proofs.Members.{member_is}
use Rattle.merged_facets.specs.Markers.{OneMarkerLaw, LeastNumberLaw}

along : (ps : List Point) (c : Complex) (f g : ℕ) → AreChained ps c f g → marker_at c f ≡ marker_at c g
along ps c _ _ (alone f) = refl
along ps c _ _ (onward f m g s j r) = j.over.marked_alike ∙ along ps c m g r

pub one_marker : OneMarkerLaw
one_marker ps c group inner m f l = along ps c f (group f) (m.groups f l).chained

empty : {X : Type 0} (xs : List X) → ((x : X) → IsMember x xs → ⊥) → xs ≡ []
empty [] h = refl
empty (x ∷ xs) h = absurd (h x here)

pub least_number : LeastNumberLaw
least_number ps c group inner m k l other = λ j. record {
  polygons = flat_map (λ (g : ℕ × Facet). g.1.polygons) (none j);
  holes = flat_map (λ (g : ℕ × Facet). g.1.holes) (none j);
}
  where
    -- the number of a facet's group is the least of its own group
    least : (f : ℕ) → f < length c.facets → group f ≡ k → group k ≡ k
    least f h e = sym (law_group ps c f k (group f) (group k) (subst (λ n. AreChained ps c f n) e (m.groups f h).chained) (m.groups f h) (m.groups k l)) ∙ e

    none : members group c k ≡ []
    none = empty (members group c k) (λ e i. let r = member_is group c k e i in other (least e.0 r.below r.grouped))
