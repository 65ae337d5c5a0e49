-- Facets of several solids that are read one after another, up to the end of the text.
use Rattle.std.proofs.Common.{◌≡◌, ℕ, zero, suc, ◌+◌, ◌-◌, ◌*◌, ◌^◌, ◌<◌, ◌≤◌, Bool, true, false, List, [], ◌∷◌, ◌++◌, length, Result, Ok, Err, refl, sym, ap, ◌∙◌, subst, arith}
use Rattle.std.specs.Prelude.{map, codes, IfOk, if◌then◌else◌}
use Rattle.std.proofs.lemmas.List.{append-nil, length-map, map-append}
use Rattle.std.proofs.lemmas.List.Elements.{All-nil}
use Rattle.tet_text.specs.declared.fault.TextFault.{TextFault}
use Rattle.tet_text.specs.Lines.{ContentLine}
use Rattle.tet_text.specs.Reading.{◌>>=◌, line_at}
use Rattle.tet_text.specs.Repeated.{onto}
use Rattle.grid_coords.specs.declared.points.DecimalPoint.{DecimalPoint}
use Rattle.plc_files.specs.declared.fault.PlcFault.{PlcFault}
use Rattle.plc_files.specs.declared.parts.PolygonText.{PolygonText}
use Rattle.plc_files.specs.Checks.{all_polygons}
use Rattle.plc_files.specs.Facet.{Lines}
use Rattle.plc_files.specs.Outcome.{PlcGives}
use Rattle.plc_files.specs.Text.{Plc}
use Rattle.plc_files.proofs.Counts.{step_ok, ok_is}
use Rattle.soup_files.specs.declared.fields.Grammar.TheVariants.{Wide}
use Rattle.soup_files.specs.declared.stl.Triangle.{Triangle}
use Rattle.soup_files.specs.declared.stl_facet.StlFacet.{StlFacet}
use Rattle.soup_files.specs.Keyword.{keyword_at}
use Rattle.soup_files.specs.Solids.{SolidFacet, next_solid, solids_of, solid_points, solid_face_in, solid_marker, solids_surface, wide_stl_of, placed_solids}
use Rattle.soup_files.specs.Stl.{solid_line, more_facets, ascii_facet_of, triangle_in, vertices_of}
use Rattle.soup_files.specs.Surface.{marked_face}
use Rattle.soup_files.specs.Triangles.{triangle_polygon, IsPlacedBy}
use Rattle.soup_files.proofs.Facets.{onto_err, regroup}
use Rattle.soup_files.proofs.FoundVertices.{Seen, distinct_few, seen_more}
use Rattle.soup_files.proofs.Spent.{facet_takes, leaves, solid_takes}
use Rattle.soup_files.proofs.Whole.{IsSmall, vertices_length}

abbrev pub Read : Type 0
Read = Result (List SolidFacet × ℕ) TextFault

abbrev pub facet_in : ℕ → StlFacet → SolidFacet
facet_in solid f = record { solid = solid; facet = f }

-- ---- a line, and what it says

no_line : (most solid total : ℕ) (left : Lines) (fault : TextFault) → line_at total left ≡ Err fault → solids_of most solid total left ≡ Err fault
unfolding solids_of
no_line zero solid total [] fault is = cc
no_line (suc most) solid total [] fault is = cc
no_line most solid total (line ∷ left) fault is = absurd cc

-- the text ends where a line is wanted
pub stop_line : (fs : List SolidFacet) (most solid total : ℕ) (left : Lines) (fault : TextFault) (whole : Read) → line_at total left ≡ Err fault → onto fs (solids_of most solid total left) ≡ whole → whole ≡ Err fault
stop_line fs most solid total left fault whole is so_far = onto_err fs (solids_of most solid total left) whole fault (no_line most solid total left fault is) so_far

module _ (fs : List SolidFacet) (most solid total : ℕ) (left behind : Lines) (line : ContentLine) (whole : Read) (is : line_at total left ≡ Ok (line, behind)) (so_far : onto fs (solids_of (suc most) solid total left) ≡ whole) where
  first_stops : (fault : TextFault) → more_facets Wide line ≡ Err fault → solids_of (suc most) solid total left ≡ Err fault
  unfolding solids_of
  first_stops fault stops = rw (is, stops) refl

  -- a line that neither begins a facet nor ends a solid
  pub stop_first : (fault : TextFault) → more_facets Wide line ≡ Err fault → whole ≡ Err fault
  stop_first fault stops = onto_err fs (solids_of (suc most) solid total left) whole fault (first_stops fault stops) so_far

  facet_stops : (fault : TextFault) → more_facets Wide line ≡ Ok true → ascii_facet_of Wide total line.line behind ≡ Err fault → solids_of (suc most) solid total left ≡ Err fault
  unfolding solids_of
  facet_stops fault more stops = rw (is, more, stops) refl

  pub stop_facet : (fault : TextFault) → more_facets Wide line ≡ Ok true → ascii_facet_of Wide total line.line behind ≡ Err fault → whole ≡ Err fault
  stop_facet fault more stops = onto_err fs (solids_of (suc most) solid total left) whole fault (facet_stops fault more stops) so_far

  facet_read : (f : StlFacet) (rest : Lines) → more_facets Wide line ≡ Ok true → ascii_facet_of Wide total line.line behind ≡ Ok (f, rest)
      → solids_of (suc most) solid total left ≡ (solids_of most solid total rest >>= λ others. Ok (facet_in solid f ∷ others.0, others.1))
  unfolding solids_of
  facet_read f rest more made = rw (is, more, made) refl

  pub facets_more : (f : StlFacet) (rest : Lines) → more_facets Wide line ≡ Ok true → ascii_facet_of Wide total line.line behind ≡ Ok (f, rest) → onto (fs ++ facet_in solid f ∷ []) (solids_of most solid total rest) ≡ whole
  facets_more f rest more made = sym (ap (onto fs) (facet_read f rest more made) ∙ regroup fs (facet_in solid f) (solids_of most solid total rest)) ∙ so_far

  next_stops : (fault : TextFault) → more_facets Wide line ≡ Ok false → next_solid behind ≡ Err fault → solids_of (suc most) solid total left ≡ Err fault
  unfolding solids_of
  next_stops fault end stops = rw (is, end, stops) refl

  -- behind a solid, a line that begins no other
  pub stop_next : (fault : TextFault) → more_facets Wide line ≡ Ok false → next_solid behind ≡ Err fault → whole ≡ Err fault
  stop_next fault end stops = onto_err fs (solids_of (suc most) solid total left) whole fault (next_stops fault end stops) so_far

  next_read : (rest : Lines) → more_facets Wide line ≡ Ok false → next_solid behind ≡ Ok (true, rest) → solids_of (suc most) solid total left ≡ solids_of most (solid + 1) total rest
  unfolding solids_of
  next_read rest end more = rw (is, end, more) refl

  pub solids_more : (rest : Lines) → more_facets Wide line ≡ Ok false → next_solid behind ≡ Ok (true, rest) → onto fs (solids_of most (solid + 1) total rest) ≡ whole
  solids_more rest end more = sym (ap (onto fs) (next_read rest end more)) ∙ so_far

  last_read : (rest : Lines) → more_facets Wide line ≡ Ok false → next_solid behind ≡ Ok (false, rest) → solids_of (suc most) solid total left ≡ Ok ([], solid)
  unfolding solids_of
  last_read rest end last = rw (is, end, last) refl

  -- the end of the last solid
  pub all_solids : (rest : Lines) → more_facets Wide line ≡ Ok false → next_solid behind ≡ Ok (false, rest) → whole ≡ Ok (fs, solid)
  all_solids rest end last = sym so_far ∙ ap (onto fs) (last_read rest end last) ∙ ap (λ (gs : List SolidFacet). let made : Read = Ok (gs, solid) in made) (append-nil fs)

-- a line is left, of which there are at most so many
pub going_on : (fs : List SolidFacet) (most solid total : ℕ) (left : Lines) (whole : Read) → 0 < most → onto fs (solids_of most solid total left) ≡ whole → onto fs (solids_of (suc (most - 1)) solid total left) ≡ whole
going_on fs most solid total left whole some so_far =
    let e : most ≡ suc (most - 1) = omega arith in
    subst (λ (n : ℕ). onto fs (solids_of n solid total left) ≡ whole) e so_far

-- ---- facets by the places of their corners, with the numbers of their solids

pub record SolidsSeen (fs : List SolidFacet) (points : List DecimalPoint) (faces : List (ℕ × PolygonText)) : Type 0 where
  pub seen : Seen (map (λ f. f.facet) fs) points (map (λ x. x.1) faces)
  pub solids : map (λ x. x.0) faces ≡ map (λ f. f.solid) fs

pub solids_seen_more : (fs : List SolidFacet) (points new : List DecimalPoint) (faces : List (ℕ × PolygonText)) (solid : ℕ) (f : StlFacet) (t : Triangle) → SolidsSeen fs points faces → IsPlacedBy f points t new
    → SolidsSeen (fs ++ facet_in solid f ∷ []) new (faces ++ (solid, triangle_polygon t) ∷ [])
solids_seen_more fs points new faces solid f t s places =
    let more = seen_more (map (λ (g : SolidFacet). g.facet) fs) points new (map (λ (x : ℕ × PolygonText). x.1) faces) f t s.seen places in
    let facets = map-append (λ (g : SolidFacet). g.facet) fs (facet_in solid f ∷ []) in
    let polygons = map-append (λ (x : ℕ × PolygonText). x.1) faces ((solid, triangle_polygon t) ∷ []) in
    record {
      seen = rw (facets, polygons) more;
      solids = map-append (λ (x : ℕ × PolygonText). x.0) faces ((solid, triangle_polygon t) ∷ []) ∙ ap (λ (ns : List ℕ). ns ++ solid ∷ []) s.solids
          ∙ sym (map-append (λ (g : SolidFacet). g.solid) fs (facet_in solid f ∷ []));
    }

faces_are : (points : List DecimalPoint) (fs : List SolidFacet) (faces : List (ℕ × PolygonText)) → map (λ x. x.1) faces ≡ map (triangle_in points) (map (λ f. f.facet) fs) → map (λ x. x.0) faces ≡ map (λ f. f.solid) fs
    → faces ≡ map (solid_face_in points) fs
faces_are points [] [] polygons solids = refl
faces_are points [] (x ∷ faces) polygons solids = absurd cc
faces_are points (f ∷ fs) [] polygons solids = absurd cc
faces_are points (f ∷ fs) ((solid, polygon) ∷ faces) polygons solids =
    let one : polygon ≡ triangle_in points f.facet = cc in
    let its : solid ≡ f.solid = cc in
    let its_polygons : map (λ (x : ℕ × PolygonText). x.1) faces ≡ map (triangle_in points) (map (λ (g : SolidFacet). g.facet) fs) = cc in
    let its_solids : map (λ (x : ℕ × PolygonText). x.0) faces ≡ map (λ (g : SolidFacet). g.solid) fs = cc in
    let others = faces_are points fs faces its_polygons its_solids in
    λ i. (its i, one i) ∷ others i

pub solids_placed : (fs : List SolidFacet) (points : List DecimalPoint) (faces : List (ℕ × PolygonText)) (count : ℕ) (read : Read) → SolidsSeen fs points faces → read ≡ Ok (fs, count) → placed_solids read ≡ Ok ((points, faces), count)
solids_placed fs points faces count read s is =
    let are : points ≡ solid_points fs = s.seen.points_are in
    let triangles = faces_are points fs faces s.seen.faces_are s.solids in
    let pair : (solid_points fs, map (solid_face_in (solid_points fs)) fs) ≡ (points, faces) = λ i. (sym are i, (ap (λ (ps : List DecimalPoint). map (solid_face_in ps) fs) (sym are) ∙ sym triangles) i) in
    ap placed_solids is ∙ ap (λ (p : List DecimalPoint × List (ℕ × PolygonText)). let made : Result ((List DecimalPoint × List (ℕ × PolygonText)) × ℕ) TextFault = Ok (p, count) in made) pair

-- ---- there are no more facets than lines

pub next_few : (lines : Lines) (x : Bool × Lines) → next_solid lines ≡ Ok x → length x.1 ≤ length lines
unfolding next_solid
next_few [] x is =
    let made : Bool × Lines = (false, []) in
    subst (λ (p : Bool × Lines). length p.1 ≤ 0) {x = made} (ok_is made x is) (omega arith)
next_few (line ∷ lines) x is =
    let le = leaves (keyword_at Wide (codes "solid") line.line line.fields) (λ _. true) lines x is in
    omega (arith, le)

abbrev solids_if : ℕ → ℕ → ℕ → ContentLine → Lines → Bool → Read
solids_if most solid n line rest more = if more then (ascii_facet_of Wide n line.line rest >>= λ facet. solids_of most solid n facet.1 >>= λ others. Ok (facet_in solid facet.0 ∷ others.0, others.1))
    else (next_solid rest >>= λ next. if next.0 then solids_of most (solid + 1) n next.1 else Ok ([], solid))

pub solids_few : (most solid n : ℕ) (lines : Lines) (x : List SolidFacet × ℕ) → solids_of most solid n lines ≡ Ok x → 7 * length x.0 ≤ length lines
unfolding solids_of
solids_few zero solid n lines x is = absurd cc
solids_few (suc most) solid n [] x is = absurd cc
solids_few (suc most) solid n (line ∷ lines) x is =
    let more = step_ok (more_facets Wide line) (solids_if most solid n line lines) x is in
    go more.0 more.2 (λ solid rest y e. solids_few most solid n rest y e)
  where
    last : (more : Bool) (rest : Lines) → (if more then solids_of most (solid + 1) n rest else Ok ([], solid)) ≡ Ok x → length rest ≤ length lines
        → ((solid : ℕ) (rest : Lines) (y : List SolidFacet × ℕ) → solids_of most solid n rest ≡ Ok y → 7 * length y.0 ≤ length rest) → 7 * length x.0 ≤ suc (length lines)
    last false rest e le others_few =
        let made : List SolidFacet × ℕ = ([], solid) in
        subst (λ (p : List SolidFacet × ℕ). 7 * length p.0 ≤ suc (length lines)) {x = made} (ok_is made x e) (omega arith)
    last true rest e le others_few = let few = others_few (solid + 1) rest x e in omega (arith, few, le)

    go : (more : Bool) → solids_if most solid n line lines more ≡ Ok x → ((solid : ℕ) (rest : Lines) (y : List SolidFacet × ℕ) → solids_of most solid n rest ≡ Ok y → 7 * length y.0 ≤ length rest) → 7 * length x.0 ≤ suc (length lines)
    go false e others_few =
        let next = step_ok (next_solid lines) (λ next. if next.0 then solids_of most (solid + 1) n next.1 else Ok ([], solid)) x e in
        last next.0.0 next.0.1 next.2 (next_few lines next.0 next.1) others_few
    go true e others_few =
        let facet = step_ok (ascii_facet_of Wide n line.line lines) (λ facet. solids_of most solid n facet.1 >>= λ others. Ok (facet_in solid facet.0 ∷ others.0, others.1)) x e in
        let others = step_ok (solids_of most solid n facet.0.1) (λ others. Ok (facet_in solid facet.0.0 ∷ others.0, others.1)) x facet.2 in
        let made : List SolidFacet × ℕ = (facet_in solid facet.0.0 ∷ others.0.0, others.0.1) in
        let taken = facet_takes Wide n line.line lines facet.0 facet.1 in
        let le = others_few solid facet.0.1 others.0 others.1 in
        subst (λ (p : List SolidFacet × ℕ). 7 * length p.0 ≤ suc (length lines)) {x = made} (ok_is made x others.2) (omega (arith, taken, le))

few_corners : (fs : List SolidFacet) → length (solid_points fs) ≤ 3 * length fs
few_corners fs =
    let facets = map (λ (f : SolidFacet). f.facet) fs in
    omega (arith, distinct_few (vertices_of facets), vertices_length facets, length-map fs (λ (f : SolidFacet). f.facet))

abbrev Placed : Type 0
Placed = (List DecimalPoint × List (ℕ × PolygonText)) × ℕ

-- the points of facets that were read
pub few_solid_points : (most solid n : ℕ) (lines : Lines) (x : Placed) → placed_solids (solids_of most solid n lines) ≡ Ok x → length x.0.0 ≤ length lines
few_solid_points most solid n lines x is =
    let read = step_ok (solids_of most solid n lines) (λ r. Ok ((solid_points r.0, map (solid_face_in (solid_points r.0)) r.0), r.1)) x is in
    let fs = read.0.0 in
    let made : Placed = ((solid_points fs, map (solid_face_in (solid_points fs)) fs), read.0.1) in
    let few = solids_few most solid n lines read.0 read.1 in
    subst (λ (p : Placed). length p.0.0 ≤ length lines) {x = made} (ok_is made x read.2) (omega (arith, few, few_corners fs))

-- ---- what a whole text gives

polygon_each : (count : ℕ) (faces : List (ℕ × PolygonText)) → length (all_polygons (map (λ f. marked_face (solid_marker count f.0) f.1) faces)) ≡ length faces
polygon_each count [] = refl
polygon_each count (f ∷ faces) = let h = polygon_each count faces in omega arith

solids_small : (count : ℕ) (points : List DecimalPoint) (faces : List (ℕ × PolygonText)) → length faces < 2 ^ 32 - 1 → IsSmall (solids_surface count points faces)
solids_small count points faces few = record {
  few = record { polygons = omega (arith, few, polygon_each count faces); regions = omega arith };
  attributes = All-nil _;
}

wide_stl_small : (n : ℕ) (lines : Lines) (t : Plc) → wide_stl_of n lines ≡ Ok t → length lines < 2 ^ 32 - 1 → IsSmall t
unfolding wide_stl_of
wide_stl_small n lines t is few =
    let solid = step_ok (solid_line Wide n lines) (λ solid. solids_of (length solid.1) 1 n solid.1 >>= λ read. Ok (solids_surface read.1 (solid_points read.0) (map (solid_face_in (solid_points read.0)) read.0))) t is in
    let read = step_ok (solids_of (length solid.0.1) 1 n solid.0.1) (λ read. Ok (solids_surface read.1 (solid_points read.0) (map (solid_face_in (solid_points read.0)) read.0))) t solid.2 in
    let fs = read.0.0 in
    let points = solid_points fs in
    let faces = map (solid_face_in points) fs in
    let l1 = solid_takes Wide n lines solid.0 solid.1 in
    let l2 = solids_few (length solid.0.1) 1 n solid.0.1 read.0 read.1 in
    let made = solids_surface read.0.1 points faces in
    subst IsSmall {x = made} (ok_is made t read.2) (solids_small read.0.1 points faces (omega (arith, few, l1, l2, length-map fs (solid_face_in points))))

pub wide_stl_read : (n : ℕ) (lines : Lines) (r : Result Plc PlcFault) → PlcGives (λ t. t) r (wide_stl_of n lines) → length lines < 2 ^ 32 - 1 → IfOk r IsSmall
wide_stl_read n lines (Ok t) gives few = wide_stl_small n lines t gives few
wide_stl_read n lines (Err fault) gives few = tt
