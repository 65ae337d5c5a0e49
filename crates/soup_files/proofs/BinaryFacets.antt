-- Facets of a binary file that are read one after another.
use Rattle.std.proofs.Common.{◌≡◌, ℕ, zero, suc, ◌+◌, ◌*◌, ◌≤◌, Bool, true, false, ◌==◌, nat_lt, List, [], ◌∷◌, ◌++◌, length, map, drop, Result, Ok, Err, refl, sym, ap, ◌∙◌, append_assoc, arith, if◌then◌else◌, length-drop}
use Rattle.std.proofs.lemmas.List.{append-nil}
use Rattle.tet_text.specs.declared.fault.TextFault.{TextFault}
use Rattle.tet_text.specs.Faults.{ended, extra}
use Rattle.tet_text.specs.Reading.{◌>>=◌}
use Rattle.grid_coords.specs.declared.points.DecimalPoint.{DecimalPoint}
use Rattle.plc_files.specs.declared.parts.PolygonText.{PolygonText}
use Rattle.plc_files.proofs.Counts.{step_ok, ok_is}
use Rattle.soup_files.specs.declared.stl_facet.StlFacet.{StlFacet}
use Rattle.std.proofs.lemmas.Bool.Decides.{nat_tests}
use Rattle.soup_files.specs.BinaryStl.{vertex_at, binary_facet_at, facets_to_end, settled, facets_behind}
use Rattle.soup_files.specs.Stl.{vertices_of, triangle_in}
use Rattle.soup_files.specs.Vertices.{distinct_vertices}
use Rattle.soup_files.proofs.FoundVertices.{Seen}

abbrev pub Read : Type 0
Read = Result (List StlFacet) TextFault

pub none_behind : (read : Read) → facets_behind [] read ≡ read
none_behind (Ok fs) = refl
none_behind (Err fault) = refl

regroup : (fs : List StlFacet) (f : StlFacet) (read : Read) → facets_behind fs (read >>= λ others. Ok (f ∷ others)) ≡ facets_behind (fs ++ f ∷ []) read
regroup fs f (Ok gs) = ap (λ (hs : List StlFacet). let made : Read = Ok hs in made) (sym (append_assoc fs (f ∷ []) gs))
regroup fs f (Err fault) = refl

facet_stop : (more place : ℕ) (left : List ℕ) (fault : TextFault) → binary_facet_at place left ≡ Err fault → facets_to_end (suc more) place left ≡ Err fault
unfolding facets_to_end
facet_stop more place left fault stops = rw stops refl

pub stop_facet : (fs : List StlFacet) (more place : ℕ) (left : List ℕ) (fault : TextFault) (whole : Read) → binary_facet_at place left ≡ Err fault → facets_behind fs (facets_to_end (suc more) place left) ≡ whole → whole ≡ Err fault
stop_facet fs more place left fault whole stops so_far = sym so_far ∙ ap (facets_behind fs) (facet_stop more place left fault stops)

one_more : (more place : ℕ) (left : List ℕ) (f : StlFacet) → binary_facet_at place left ≡ Ok f → facets_to_end (suc more) place left ≡ (facets_to_end more (place + 1) (drop 50 left) >>= λ others. Ok (f ∷ others))
unfolding facets_to_end
one_more more place left f made = rw made refl

pub facets_more : (fs : List StlFacet) (more place : ℕ) (left : List ℕ) (f : StlFacet) (whole : Read) → binary_facet_at place left ≡ Ok f → facets_behind fs (facets_to_end (suc more) place left) ≡ whole
    → facets_behind (fs ++ f ∷ []) (facets_to_end more (place + 1) (drop 50 left)) ≡ whole
facets_more fs more place left f whole made so_far =
    sym (ap (facets_behind fs) (one_more more place left f made) ∙ regroup fs f (facets_to_end more (place + 1) (drop 50 left))) ∙ so_far

-- behind the last facet
pub last : (place : ℕ) (left : List ℕ) → facets_to_end 0 place left ≡ (if length left == 0 then Ok [] else Err (extra place))
unfolding facets_to_end
last place left = refl

pub all_facets : (fs : List StlFacet) (place : ℕ) (left : List ℕ) (whole : Read) → (if length left == 0 then (let made : Result (Unit {0}) TextFault = Ok tt in made) else Err (extra place)) ≡ Ok tt
    → facets_behind fs (facets_to_end 0 place left) ≡ whole → whole ≡ Ok fs
all_facets fs place left whole ends so_far = sym so_far ∙ ap (facets_behind fs) (last place left) ∙ go (length left == 0) ends
  where
    go : (b : Bool) → (if b then (let made : Result (Unit {0}) TextFault = Ok tt in made) else Err (extra place)) ≡ Ok tt → facets_behind fs (if b then Ok [] else Err (extra place)) ≡ Ok fs
    go true is = ap (λ (gs : List StlFacet). let made : Read = Ok gs in made) (append-nil fs)
    go false is = absurd cc

pub bytes_behind : (fs : List StlFacet) (place : ℕ) (left : List ℕ) (fault : TextFault) (whole : Read) → (if length left == 0 then (let made : Result (Unit {0}) TextFault = Ok tt in made) else Err (extra place)) ≡ Err fault
    → facets_behind fs (facets_to_end 0 place left) ≡ whole → whole ≡ Err fault
bytes_behind fs place left fault whole stops so_far = sym so_far ∙ ap (facets_behind fs) (last place left) ∙ go (length left == 0) stops
  where
    err_is : (f g : TextFault) → (let made : Result (Unit {0}) TextFault = Err f in made) ≡ Err g → f ≡ g
    err_is f g is = cc

    go : (b : Bool) → (if b then (let made : Result (Unit {0}) TextFault = Ok tt in made) else Err (extra place)) ≡ Err fault → facets_behind fs (if b then Ok [] else Err (extra place)) ≡ Err fault
    go true is = absurd cc
    go false is = ap (λ (f : TextFault). let made : Read = Err f in made) (err_is (extra place) fault is)

-- the points and the faces of all facets
pub seen_settled : (fs : List StlFacet) (points : List DecimalPoint) (faces : List PolygonText) (read : Read) → Seen fs points faces → read ≡ Ok fs → settled read ≡ Ok (points, faces)
seen_settled fs points faces read seen is =
    let are = seen.points_are in
    let triangles = seen.faces_are in
    let pair : (distinct_vertices (vertices_of fs), map (triangle_in (distinct_vertices (vertices_of fs))) fs) ≡ (points, faces) = λ i. (sym are i, (ap (λ (ps : List DecimalPoint). map (triangle_in ps) fs) (sym are) ∙ sym triangles) i) in
    ap settled is ∙ ap (λ (p : List DecimalPoint × List PolygonText). let made : Result (List DecimalPoint × List PolygonText) TextFault = Ok p in made) pair

-- ---- there are no more facets than bytes

facet_spends : (place : ℕ) (left : List ℕ) (f : StlFacet) → binary_facet_at place left ≡ Ok f → 50 ≤ length left
unfolding binary_facet_at
facet_spends place left f is = go (nat_lt (length left) 50) refl is
  where
    go : (b : Bool) → nat_lt (length left) 50 ≡ b → (if b then Err (ended place) else (vertex_at place left 12 >>= λ a. vertex_at place left 24 >>= λ b. vertex_at place left 36 >>= λ c. Ok (record { line = place; a = a; b = b; c = c }))) ≡ Ok f → 50 ≤ length left
    go true e h = absurd cc
    go false e h = grind (arith, nat_tests)

pub facets_spend : (count place : ℕ) (left : List ℕ) (fs : List StlFacet) → facets_to_end count place left ≡ Ok fs → 50 * length fs ≤ length left
unfolding facets_to_end
facets_spend zero place left fs is = go (length left == 0) fs is
  where
    go : (b : Bool) (gs : List StlFacet) → (if b then Ok [] else Err (extra place)) ≡ Ok gs → 50 * length gs ≤ length left
    go true gs h = rw (sym (ok_is [] gs h)) (omega arith)
    go false gs h = absurd cc
facets_spend (suc more) place left fs is =
    let first = step_ok (binary_facet_at place left) (λ first. facets_to_end more (place + 1) (drop 50 left) >>= λ others. Ok (first ∷ others)) fs is in
    let others = step_ok (facets_to_end more (place + 1) (drop 50 left)) (λ others. Ok (first.0 ∷ others)) fs first.2 in
    let room = facet_spends place left first.0 first.1 in
    let rest = facets_spend more (place + 1) (drop 50 left) others.0 others.1 in
    let e : length (first.0 ∷ others.0) ≡ length fs = ap length (ok_is (first.0 ∷ others.0) fs others.2) in
    omega (arith, room, rest, e, length-drop 50 left)
