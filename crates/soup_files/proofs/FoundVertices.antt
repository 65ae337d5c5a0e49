-- Points that are put in one after another: what is known of their places.
use Rattle.tet_text.specs.declared.fault.TextFault.{TextFault}
use Rattle.std.proofs.Common.{Result, Ok, ◌≡◌, ℕ, ◌+◌, ◌≤◌, Bool, true, false, cond, ◌||◌, List, [], ◌∷◌, ◌++◌, length, refl, sym, ap, ◌∙◌, arith, length-append}
use Rattle.std.specs.Prelude.{map, not, fold, if◌then◌else◌}
use Rattle.std.specs.List.{list_any, position_or_len}
use Rattle.std.proofs.lemmas.Bool.{false≢true}
use Rattle.std.proofs.lemmas.List.{map-append}
use Rattle.std.proofs.lemmas.List.Folds.{list_any-append}
use Rattle.std.proofs.lemmas.List.Sums.{fold-append}
use Rattle.indexmap.specs.IndexSet.{insert_key}
use Rattle.grid_coords.specs.declared.points.DecimalPoint.{DecimalPoint}
use Rattle.plc_files.specs.declared.parts.PolygonText.{PolygonText}
use Rattle.soup_files.specs.declared.vertex_set.Vertex.{Vertex}
use Rattle.soup_files.specs.declared.stl.Triangle.{Triangle}
use Rattle.soup_files.specs.declared.stl_facet.StlFacet.{StlFacet}
use Rattle.soup_files.specs.Vertices.{same_vertex, with_vertex, distinct_vertices, vertex_place, vertices_equiv}
use Rattle.soup_files.specs.Stl.{vertices_of, triangle_in, stl_corner}
use Rattle.soup_files.specs.Triangles.{triangle_polygon, with_corners, IsPlacedBy, placed_facets}

-- ---- one list

rest_any : (b c : Bool) → b || c ≡ true → b ≡ false → c ≡ true
rest_any true c any e = absurd cc
rest_any false c any e = any

rest_none : (b c : Bool) → b || c ≡ false → c ≡ false
rest_none true c any = absurd cc
rest_none false c any = any

step : (b : Bool) (r s : ℕ) → (b ≡ false → r ≡ s) → cond (not b) (1 + r) 0 ≡ cond (not b) (1 + s) 0
step true r s h = refl
step false r s h = ap (λ (n : ℕ). 1 + n) (h refl)

-- an item that passes keeps its place
kept_place : {X : Type 0} (p : X → Bool) (xs : List X) (y : X) → list_any p xs ≡ true → position_or_len p (xs ++ y ∷ []) ≡ position_or_len p xs
kept_place p [] y any = absurd (false≢true any)
kept_place p (x ∷ xs) y any = step (p x) _ _ (λ e. kept_place p xs y (rest_any (p x) (list_any p xs) any e))

-- and where none passed the new one has the place behind the last
new_place : {X : Type 0} (p : X → Bool) (xs : List X) (y : X) → list_any p xs ≡ false → p y ≡ true → position_or_len p (xs ++ y ∷ []) ≡ position_or_len p xs
new_place p [] y none passes = ap (λ (b : Bool). cond (not b) 1 0) passes
new_place p (x ∷ xs) y none passes = step (p x) _ _ (λ e. new_place p xs y (rest_none (p x) (list_any p xs) none) passes)

true_or : (b c : Bool) → b ≡ true → b || c ≡ true
true_or b c e = ap (λ d. d || c) e

or_true : (b c : Bool) → c ≡ true → b || c ≡ true
or_true true c e = refl
or_true false c e = e

-- ---- points

abbrev pub Knows : List DecimalPoint → DecimalPoint → Type 0
Knows points p = list_any (same_vertex p) points ≡ true

pub same_itself : (p : DecimalPoint) → same_vertex p p ≡ true
same_itself p = vertices_equiv.refl p

-- a point that is put in is known, at the place that it was said to get
put_known : (points : List DecimalPoint) (p : DecimalPoint) → Knows (with_vertex points p) p
put_known points p = go (list_any (same_vertex p) points) refl
  where
    go : (b : Bool) → list_any (same_vertex p) points ≡ b → list_any (same_vertex p) (if b then points else points ++ p ∷ []) ≡ true
    go true e = e
    go false e = list_any-append (same_vertex p) points (p ∷ []) ∙ or_true (list_any (same_vertex p) points) _ (true_or (same_vertex p p) false (same_itself p))

put_place : (points : List DecimalPoint) (p : DecimalPoint) → vertex_place (with_vertex points p) p ≡ vertex_place points p
put_place points p = go (list_any (same_vertex p) points) refl
  where
    go : (b : Bool) → list_any (same_vertex p) points ≡ b → position_or_len (same_vertex p) (if b then points else points ++ p ∷ []) ≡ position_or_len (same_vertex p) points
    go true e = refl
    go false e = new_place (same_vertex p) points p e (same_itself p)

-- a known point stays, at its place
known_kept : (points : List DecimalPoint) (p q : DecimalPoint) → Knows points q → Knows (with_vertex points p) q
known_kept points p q known = go (list_any (same_vertex p) points)
  where
    go : (b : Bool) → list_any (same_vertex q) (if b then points else points ++ p ∷ []) ≡ true
    go true = known
    go false = list_any-append (same_vertex q) points (p ∷ []) ∙ true_or (list_any (same_vertex q) points) _ known

place_kept : (points : List DecimalPoint) (p q : DecimalPoint) → Knows points q → vertex_place (with_vertex points p) q ≡ vertex_place points q
place_kept points p q known = go (list_any (same_vertex p) points)
  where
    go : (b : Bool) → position_or_len (same_vertex q) (if b then points else points ++ p ∷ []) ≡ position_or_len (same_vertex q) points
    go true = refl
    go false = kept_place (same_vertex q) points p known

-- there are at most as many as are put in
put_few : (points : List DecimalPoint) (p : DecimalPoint) → length (with_vertex points p) ≤ length points + 1
put_few points p = go (list_any (same_vertex p) points)
  where
    go : (b : Bool) → length (if b then points else points ++ p ∷ []) ≤ length points + 1
    go true = omega arith
    go false = omega (arith, length-append points (p ∷ []))

few_more : (points ps : List DecimalPoint) → length (fold with_vertex points ps) ≤ length points + length ps
few_more points [] = omega arith
few_more points (p ∷ ps) = omega (arith, few_more (with_vertex points p) ps, put_few points p)

pub distinct_few : (ps : List DecimalPoint) → length (distinct_vertices ps) ≤ length ps
distinct_few ps = omega (arith, few_more [] ps)

-- ---- the set's keys

abbrev pub points_of : List Vertex → List DecimalPoint
points_of keys = map (λ v. v.point) keys

abbrev same : Vertex → Vertex → Bool
same p q = same_vertex p.point q.point

any_alike : (keys : List Vertex) (v : Vertex) → list_any (same v) keys ≡ list_any (same_vertex v.point) (points_of keys)
any_alike [] v = refl
any_alike (k ∷ keys) v = ap (λ b. same_vertex v.point k.point || b) (any_alike keys v)

pub put_key : (keys : List Vertex) (v : Vertex) → points_of (insert_key same keys v) ≡ with_vertex (points_of keys) v.point
put_key keys v = ap (λ b. points_of (if b then keys else keys ++ v ∷ [])) (any_alike keys v) ∙ go (list_any (same_vertex v.point) (points_of keys))
  where
    go : (b : Bool) → points_of (if b then keys else keys ++ v ∷ []) ≡ (if b then points_of keys else points_of keys ++ v.point ∷ [])
    go true = refl
    go false = map-append (λ (k : Vertex). k.point) keys (v ∷ [])

pub place_alike : (keys : List Vertex) (v : Vertex) → position_or_len (same v) keys ≡ vertex_place (points_of keys) v.point
place_alike [] v = refl
place_alike (k ∷ keys) v = ap (λ (n : ℕ). cond (not (same_vertex v.point k.point)) (1 + n) 0) (place_alike keys v)

-- ---- facets by the places of their corners

pub record KnowsCorners (points : List DecimalPoint) (f : StlFacet) : Type 0 where
  pub a : Knows points f.a
  pub b : Knows points f.b
  pub c : Knows points f.c

abbrev pub KnowsAll : List DecimalPoint → List StlFacet → Type 0
KnowsAll points [] = Unit {0}
KnowsAll points (f ∷ fs) = KnowsCorners points f × KnowsAll points fs

corner_kept : (points : List DecimalPoint) (p q : DecimalPoint) → Knows points q → stl_corner (with_vertex points p) q ≡ stl_corner points q
corner_kept points p q known = ap (λ (n : ℕ). record { number = n; line = q.line }) (place_kept points p q known)

triangle_kept : (points : List DecimalPoint) (p : DecimalPoint) (f : StlFacet) → KnowsCorners points f → triangle_in (with_vertex points p) f ≡ triangle_in points f
triangle_kept points p f known =
    let a = corner_kept points p f.a known.a in
    let b = corner_kept points p f.b known.b in
    let c = corner_kept points p f.c known.c in
    λ i. record { line = f.line; corners = a i ∷ b i ∷ c i ∷ [] }

triangles_kept : (points : List DecimalPoint) (p : DecimalPoint) (fs : List StlFacet) → KnowsAll points fs → map (triangle_in (with_vertex points p)) fs ≡ map (triangle_in points) fs
triangles_kept points p [] known = refl
triangles_kept points p (f ∷ fs) known = let one = triangle_kept points p f known.0 in let others = triangles_kept points p fs known.1 in λ i. one i ∷ others i

corners_kept : (points : List DecimalPoint) (p : DecimalPoint) (f : StlFacet) → KnowsCorners points f → KnowsCorners (with_vertex points p) f
corners_kept points p f known = record { a = known_kept points p f.a known.a; b = known_kept points p f.b known.b; c = known_kept points p f.c known.c }

all_kept : (points : List DecimalPoint) (p : DecimalPoint) (fs : List StlFacet) → KnowsAll points fs → KnowsAll (with_vertex points p) fs
all_kept points p [] known = tt
all_kept points p (f ∷ fs) known = (corners_kept points p f known.0, all_kept points p fs known.1)

all_more : (points : List DecimalPoint) (fs : List StlFacet) (f : StlFacet) → KnowsAll points fs → KnowsCorners points f → KnowsAll points (fs ++ f ∷ [])
all_more points [] f known one = (one, tt)
all_more points (g ∷ fs) f known one = (known.0, all_more points fs f known.1 one)

-- the distinct corners of these facets, and the facets by them
pub record Seen (fs : List StlFacet) (points : List DecimalPoint) (faces : List PolygonText) : Type 0 where
  pub points_are : points ≡ distinct_vertices (vertices_of fs)
  pub known : KnowsAll points fs
  pub faces_are : faces ≡ map (triangle_in points) fs

pub seen_none : Seen [] [] []
seen_none = record { points_are = refl; known = tt; faces_are = refl }

vertices_more : (fs : List StlFacet) (f : StlFacet) → vertices_of (fs ++ f ∷ []) ≡ vertices_of fs ++ f.a ∷ f.b ∷ f.c ∷ []
vertices_more [] f = refl
vertices_more (g ∷ fs) f = ap (λ (ps : List DecimalPoint). g.a ∷ g.b ∷ g.c ∷ ps) (vertices_more fs f)

new_points : (fs : List StlFacet) (f : StlFacet) (points : List DecimalPoint) → points ≡ distinct_vertices (vertices_of fs) → with_corners f points ≡ distinct_vertices (vertices_of (fs ++ f ∷ []))
new_points fs f points are =
    ap (with_corners f) are ∙ sym (fold-append with_vertex [] (vertices_of fs) (f.a ∷ f.b ∷ f.c ∷ [])) ∙ sym (ap distinct_vertices (vertices_more fs f))

-- the corners of a facet, after all three are put in
corners_known : (points : List DecimalPoint) (f : StlFacet) → KnowsCorners (with_corners f points) f
corners_known points f =
    let p = with_vertex points f.a in
    let q = with_vertex p f.b in
    record {
      a = known_kept q f.c f.a (known_kept p f.b f.a (put_known points f.a));
      b = known_kept q f.c f.b (put_known p f.b);
      c = put_known q f.c;
    }

corner_is : (points : List DecimalPoint) (place : ℕ) (q : DecimalPoint) → place ≡ vertex_place points q → stl_corner points q ≡ record { number = place; line = q.line }
corner_is points place q e = ap (λ (n : ℕ). record { number = n; line = q.line }) (sym e)

facet_is : (points new : List DecimalPoint) (f : StlFacet) (t : Triangle) → IsPlacedBy f points t new → triangle_in (with_corners f points) f ≡ triangle_polygon t
facet_is points new f t places =
    let p = with_vertex points f.a in
    let q = with_vertex p f.b in
    let known-a = put_known points f.a in
    let a = corner_kept q f.c f.a (known_kept p f.b f.a known-a) ∙ corner_kept p f.b f.a known-a ∙ ap (λ (n : ℕ). record { number = n; line = f.a.line }) (put_place points f.a) ∙ sym places.a in
    let b = corner_kept q f.c f.b (put_known p f.b) ∙ ap (λ (n : ℕ). record { number = n; line = f.b.line }) (put_place p f.b) ∙ sym places.b in
    let c = ap (λ (n : ℕ). record { number = n; line = f.c.line }) (put_place q f.c) ∙ sym places.c in
    λ i. record { line = sym places.line i; corners = a i ∷ b i ∷ c i ∷ [] }

pub seen_more : (fs : List StlFacet) (points new : List DecimalPoint) (faces : List PolygonText) (f : StlFacet) (t : Triangle) → Seen fs points faces → IsPlacedBy f points t new → Seen (fs ++ f ∷ []) new (faces ++ triangle_polygon t ∷ [])
seen_more fs points new faces f t seen places =
    let p = with_vertex points f.a in
    let q = with_vertex p f.b in
    let known-p = all_kept points f.a fs seen.known in
    let known-q = all_kept p f.b fs known-p in
    let old-faces = triangles_kept q f.c fs known-q ∙ triangles_kept p f.b fs known-p ∙ triangles_kept points f.a fs seen.known in
    let one = facet_is points new f t places in
    let made : Seen (fs ++ f ∷ []) (with_corners f points) (faces ++ triangle_polygon t ∷ []) = record {
      points_are = new_points fs f points seen.points_are;
      known = all_more (with_corners f points) fs f (all_kept q f.c fs known-q) (corners_known points f);
      faces_are = ap (λ (ps : List PolygonText). ps ++ triangle_polygon t ∷ []) (seen.faces_are ∙ sym old-faces)
          ∙ sym (map-append (triangle_in (with_corners f points)) fs (f ∷ []) ∙ ap (λ (x : PolygonText). map (triangle_in (with_corners f points)) fs ++ x ∷ []) one);
    } in
    rw places.new_is made

pub seen_placed : {R : Type 0} (fs : List StlFacet) (points : List DecimalPoint) (faces : List PolygonText) (behind : R) (read : Result (List StlFacet × R) TextFault) → Seen fs points faces → read ≡ Ok (fs, behind)
    → placed_facets read ≡ Ok ((points, faces), behind)
seen_placed {R} fs points faces behind read seen is =
    let are = seen.points_are in
    let triangles = seen.faces_are in
    let pair : (distinct_vertices (vertices_of fs), map (triangle_in (distinct_vertices (vertices_of fs))) fs) ≡ (points, faces) = λ i. (sym are i, (ap (λ (ps : List DecimalPoint). map (triangle_in ps) fs) (sym are) ∙ sym triangles) i) in
    ap placed_facets is ∙ ap (λ (p : List DecimalPoint × List PolygonText). let made : Result ((List DecimalPoint × List PolygonText) × R) TextFault = Ok (p, behind) in made) pair
