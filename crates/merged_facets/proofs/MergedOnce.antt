-- What merging finds is one.
use Rattle.std.proofs.Common.{◌≡◌, ℕ, ◌<◌, ◌≤◌, Bool, true, false, cond, List, [], ◌∷◌, ◌++◌, length, refl, ap, sym, ◌∙◌, arith}
use Rattle.std.specs.Prelude.{◌↔◌, IsTrue, ◌==◌, not, filter, flat_map}
use Rattle.sign_predicates.specs.Point.{Point}
use Rattle.geo_laws.specs.Segment.{sides, first_places}
use Rattle.geo_laws.specs.Facet.{Facet}
use Rattle.geo_laws.specs.Complex.{Complex}
use Rattle.geo_laws.specs.declared.complex.Piece.{Piece}
use Rattle.geo_laws.proofs.Members.{IsMember, here, there}
use Rattle.merged_facets.specs.Merged.{IsMerging, IsInner, outer_sides, members, merged_facet, merged_segments}
use Rattle.merged_facets.specs.Facets.{OneMergingLaw}
use Rattle.merged_facets.proofs.Members.{all_numbered, facet_of}

-- ---- lists

same_kept : {X : Type 0} (keep also : X → Bool) (xs : List X) → ((x : X) → IsMember x xs → keep x ≡ also x) → filter keep xs ≡ filter also xs
same_kept keep also [] h = refl
same_kept {X} keep also (x ∷ xs) h = both (same_kept keep also xs (λ y m. h y (there m)))
  where
    both : filter keep xs ≡ filter also xs → filter keep (x ∷ xs) ≡ filter also (x ∷ xs)
    both rest = λ j. cond (h x here j) (x ∷ rest j) (rest j)

same_joined : {X Y : Type 0} (f g : X → List Y) (xs : List X) → ((x : X) → IsMember x xs → f x ≡ g x) → flat_map f xs ≡ flat_map g xs
same_joined f g [] h = refl
same_joined f g (x ∷ xs) h = λ j. h x here j ++ same_joined f g xs (λ y m. h y (there m)) j

same_test : (a b : Bool) → (IsTrue a → IsTrue b) → (IsTrue b → IsTrue a) → a ≡ b
same_test true b to from = sym (to refl)
same_test false true to from = from refl
same_test false false to from = refl

-- ---- two findings

same_group : (ps : List Point) (c : Complex) (group : ℕ → ℕ) (inner : ℕ → Piece → Bool) (other : ℕ → ℕ) (outer : ℕ → Piece → Bool) → IsMerging ps c group inner → IsMerging ps c other outer
    → (f : ℕ) → f < length c.facets → group f ≡ other f
same_group ps c group inner other outer m n f l =
    let one : group f ≤ other f = (m.groups f l).below_all (other f) (n.groups f l).chained in
    let two : other f ≤ group f = (n.groups f l).below_all (group f) (m.groups f l).chained in
    omega arith

same_inner : (ps : List Point) (c : Complex) (group : ℕ → ℕ) (inner : ℕ → Piece → Bool) (other : ℕ → ℕ) (outer : ℕ → Piece → Bool) → IsMerging ps c group inner → IsMerging ps c other outer
    → (f : ℕ) (s : Piece) → f < length c.facets → inner f s ≡ outer f s
same_inner ps c group inner other outer m n f s l =
    same_test (inner f s) (outer f s) (λ t. (n.sides_of f s l).1 ((m.sides_of f s l).0 t)) (λ t. (m.sides_of f s l).1 ((n.sides_of f s l).0 t))

pub law_one_merging : OneMergingLaw
law_one_merging ps c group inner other outer m n = (
  ap first_places (same_joined (outer_sides inner) (outer_sides outer) (all_numbered c) sides_same),
  λ k. λ j. record {
    polygons = flat_map (λ (g : ℕ × Facet). g.1.polygons) (members_same k j);
    holes = flat_map (λ (g : ℕ × Facet). g.1.holes) (members_same k j);
  },
)
  where
    sides_same : (e : ℕ × Facet) → IsMember e (all_numbered c) → outer_sides inner e ≡ outer_sides outer e
    sides_same e i = same_kept (λ s. not (inner e.0 s)) (λ s. not (outer e.0 s)) (flat_map sides e.1.polygons) (λ s x. ap not (same_inner ps c group inner other outer m n e.0 s (facet_of c e i).0))

    members_same : (k : ℕ) → members group c k ≡ members other c k
    members_same k =
        same_kept (λ (g : ℕ × Facet). group g.0 == k) (λ (g : ℕ × Facet). other g.0 == k) (all_numbered c) (λ e i. ap (λ n. n == k) (same_group ps c group inner other outer m n e.0 (facet_of c e i).0))
