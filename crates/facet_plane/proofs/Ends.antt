-- The sides of a polygon by their ends, one side after the other.
use Rattle.std.proofs.Common.{◌≡◌, ◌≢◌, ℕ, ◌+◌, ◌<◌, ◌≤◌, Bool, true, false, cond, List, [], ◌∷◌, ◌++◌, map, drop, length, get_or, refl, ap, sym, ◌∙◌, arith, eq-eqb, ne_eqb, append_assoc}
use Rattle.std.specs.Prelude.{not, ◌==◌, filter}
use Rattle.std.proofs.lemmas.List.{drop_more}
use Rattle.sign_predicates.specs.Point.{Point}
use Rattle.geo_laws.specs.Segment.{sides, piece}
use Rattle.geo_laws.specs.declared.complex.Piece.{Piece}
use Rattle.facet_plane.proofs.Skips.{drop_past}
use Rattle.facet_plane.proofs.Walks.{sides_walk}
use Rattle.facet_plane.specs.Outline.{side_between, sides_between}
use Rattle.facet_plane.specs.Walk.{walk}
use Rattle.facet_plane.specs.declared.outline.Side.{Side}

pub ends_two : (ps : List Point) (a b : ℕ) → a ≢ b → sides_between ps (piece a b 0 ∷ []) ≡ side_between ps (piece a b 0) ∷ []
ends_two ps a b n = ap (λ t. map (side_between ps) (cond (not t) (piece a b 0 ∷ []) [])) (ne_eqb a b n)

pub ends_same : (ps : List Point) (a b : ℕ) → a ≡ b → sides_between ps (piece a b 0 ∷ []) ≡ []
ends_same ps a b e = ap (λ t. map (side_between ps) (cond (not t) (piece a b 0 ∷ []) [])) (eq-eqb a b e)

ends_cons : (ps : List Point) (s : Piece) (ss : List Piece) → sides_between ps (s ∷ ss) ≡ sides_between ps (s ∷ []) ++ sides_between ps ss
ends_cons ps s ss = go (not (s.a == s.b))
  where
    go : (b : Bool) → map (side_between ps) (cond b (s ∷ filter (λ s. not (s.a == s.b)) ss) (filter (λ s. not (s.a == s.b)) ss)) ≡ map (side_between ps) (cond b (s ∷ []) []) ++ sides_between ps ss
    go true = refl
    go false = refl

pub ends_whole : (ps : List Point) (xs : List ℕ) → 0 < length xs → sides_between ps (walk (get_or xs 0 0) (get_or xs 0 0) (drop 1 xs)) ≡ map (side_between ps) (sides xs)
ends_whole ps [] h = absurd (omega arith)
ends_whole ps (p ∷ qs) h = sym (ap (map (side_between ps)) (sides_walk p qs))

pub ends_next : (ps : List Point) (first a : ℕ) (xs : List ℕ) (i : ℕ) (found more : List Side) → i < length xs → more ≡ found ++ sides_between ps (piece a (get_or xs i 0) 0 ∷ [])
    → more ++ sides_between ps (walk first (get_or xs i 0) (drop (i + 1) xs)) ≡ found ++ sides_between ps (walk first a (drop i xs))
ends_next ps first a xs i found more l e =
    ap (λ ss. ss ++ sides_between ps (walk first (get_or xs i 0) (drop (i + 1) xs))) e
    ∙ append_assoc found (sides_between ps (piece a (get_or xs i 0) 0 ∷ [])) (sides_between ps (walk first (get_or xs i 0) (drop (i + 1) xs)))
    ∙ ap (λ ss. found ++ ss) (sym (ends_cons ps (piece a (get_or xs i 0) 0) (walk first (get_or xs i 0) (drop (i + 1) xs)))
    ∙ ap (λ ds. sides_between ps (walk first a ds)) (sym (drop_more xs i 0 l)))

pub ends_last : (ps : List Point) (first a : ℕ) (xs : List ℕ) (i : ℕ) (found more : List Side) → length xs ≤ i → more ≡ found ++ sides_between ps (piece a first 0 ∷ [])
    → more ≡ found ++ sides_between ps (walk first a (drop i xs))
ends_last ps first a xs i found more l e = e ∙ ap (λ ds. found ++ sides_between ps (walk first a ds)) (sym (drop_past xs i l))

pub some_of : (xs : List ℕ) (b : Bool) → b ≡ (length xs == 0) → b ≡ false → 0 < length xs
some_of [] b e f = absurd (never (sym e ∙ f))
  where
    never : true ≡ false → ⊥
    never e = cc
some_of (x ∷ xs) b e f = omega arith
