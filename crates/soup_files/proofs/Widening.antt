-- What is read in the strict grammar is read alike in the wide one.
use Rattle.std.proofs.Common.{◌≡◌, ℕ, zero, suc, ◌+◌, Bool, true, false, List, [], ◌∷◌, length, Result, Ok, Err, refl, ap, ◌∙◌}
use Rattle.std.specs.Prelude.{map, codes, if◌then◌else◌}
use Rattle.std.specs.Str.{str_to_ascii_lowercase}
use Rattle.std.proofs.lemmas.Slice.Eq.{bytes_eq-Decides}
use Rattle.tet_text.specs.declared.fault.TextFault.{TextFault}
use Rattle.tet_text.specs.Faults.{bad_count}
use Rattle.tet_text.specs.Lines.{ContentLine}
use Rattle.tet_text.specs.Reading.{◌>>=◌, Fields, end_at, field_at, line_at, text_end_at}
use Rattle.tet_text.specs.Repeated.{so_many}
use Rattle.grid_coords.specs.declared.points.DecimalPoint.{DecimalPoint}
use Rattle.node_files.specs.Point.{place_at}
use Rattle.plc_files.specs.Facet.{Lines}
use Rattle.plc_files.specs.Polygon.{field_ahead}
use Rattle.plc_files.specs.Text.{Plc, ReadFacet}
use Rattle.plc_files.proofs.Counts.{step_ok, ok_is}
use Rattle.soup_files.specs.declared.fields.Grammar.TheVariants.{Strict, Wide}
use Rattle.soup_files.specs.declared.stl_facet.StlFacet.{StlFacet}
use Rattle.soup_files.specs.Keyword.{is_word, keyword_at, passing_at}
use Rattle.soup_files.specs.Off.{is_off_word, counts_of, head_of, vertex_line, off_polygon, off_by}
use Rattle.soup_files.specs.OnLine.{on_line, last_word_at, last_place_at, first_place_at, place_of, word_of}
use Rattle.soup_files.specs.Solids.{SolidFacet, next_solid, solids_of, solid_points, solid_face_in, solid_marker, solids_surface, wide_stl_of}
use Rattle.soup_files.specs.Stl.{solid_line, normal_at, more_facets, loop_of, vertex_of, ascii_facet_of, ascii_facets_of, triangle_in, triangles_of, vertices_of, stl_of}
use Rattle.soup_files.specs.Surface.{facet_of_one, marked_face, surface_of}
use Rattle.soup_files.specs.Vertices.{distinct_vertices}
use Rattle.soup_files.proofs.ManySolids.{facet_in}

-- what one reading gives the other gives too
abbrev Wider : {X : Type 0} → Result X TextFault → Result X TextFault → Type 0
Wider {X} r s = (x : X) → r ≡ Ok x → s ≡ Ok x

then_wider : {X Y : Type 0} (r s : Result X TextFault) (f g : X → Result Y TextFault) → Wider r s → ((x : X) → Wider (f x) (g x)) → Wider (r >>= f) (s >>= g)
then_wider r s f g first next y is =
    let x = step_ok r f y is in
    rw (first x.0 x.1) (next x.0 y x.2)

same : {X : Type 0} (r : Result X TextFault) → Wider r r
same r x is = is

-- ---- keywords

word_wider : (word field : List ℕ) → is_word Strict word field ≡ true → is_word Wide word field ≡ true
word_wider word field is =
    let e = (bytes_eq-Decides field word).0 is in
    (bytes_eq-Decides (str_to_ascii_lowercase field) (str_to_ascii_lowercase word)).1 (ap str_to_ascii_lowercase e)

off_word_wider : (field : List ℕ) → is_off_word Strict field ≡ true → is_off_word Wide field ≡ true
off_word_wider field is = let e = word_wider (codes "OFF") field is in rw e refl

passing_wider : (p q : List ℕ → Bool) → ((field : List ℕ) → p field ≡ true → q field ≡ true) → (line : ℕ) (fields : Fields) → Wider (passing_at p line fields) (passing_at q line fields)
unfolding passing_at
passing_wider p q more line [] x is = is
passing_wider p q more line (field ∷ fields) x is = go (p field) refl is
  where
    go : (b : Bool) → p field ≡ b → (if b then Ok (tt, fields) else Err (bad_count line)) ≡ Ok x → (if q field then Ok (tt, fields) else Err (bad_count line)) ≡ Ok x
    go true e h = rw (more field e) h
    go false e h = absurd cc

keyword_wider : (word : List ℕ) (line : ℕ) (fields : Fields) → Wider (keyword_at Strict word line fields) (keyword_at Wide word line fields)
keyword_wider word = passing_wider (is_word Strict word) (is_word Wide word) (word_wider word)

-- ---- `.off` files

on_line_wider : {X : Type 0} (read wide : ContentLine → Result X TextFault) → ((line : ContentLine) → Wider (read line) (wide line)) → (total : ℕ) (lines : Lines) → Wider (on_line read total lines) (on_line wide total lines)
unfolding on_line
on_line_wider read wide more total lines =
    then_wider (line_at total lines) (line_at total lines) (λ line. read line.0 >>= λ x. Ok (x, line.1)) (λ line. wide line.0 >>= λ x. Ok (x, line.1)) (same (line_at total lines))
    (λ line. then_wider (read line.0) (wide line.0) (λ x. Ok (x, line.1)) (λ x. Ok (x, line.1)) (more line.0) (λ x. same (Ok (x, line.1))))

place_wider : (line : ContentLine) → Wider (place_of Strict line) (place_of Wide line)
unfolding last_place_at first_place_at
place_wider line p is =
    let place = step_ok (place_at line.line line.fields) (λ place. end_at line.line place.1 >>= λ _. Ok place.0) p is in
    let end = step_ok (end_at line.line place.0.1) (λ _. Ok place.0.0) p place.2 in
    rw place.1 end.2

vertex_wider : (total : ℕ) (lines : Lines) → Wider (vertex_line Strict total lines) (vertex_line Wide total lines)
unfolding vertex_line
vertex_wider total lines = on_line_wider (place_of Strict) (place_of Wide) place_wider total lines

many_wider : {X R : Type 0} (one wide : R → Result (X × R) TextFault) → ((r : R) → Wider (one r) (wide r)) → (n : ℕ) (r : R) → Wider (so_many one n r) (so_many wide n r)
unfolding so_many
many_wider one wide more zero r x is = is
many_wider one wide more (suc n) r x is =
    let first = step_ok (one r) (λ first. so_many one n first.1 >>= λ others. Ok (first.0 ∷ others.0, others.1)) x is in
    let others = step_ok (so_many one n first.0.1) (λ others. Ok (first.0.0 ∷ others.0, others.1)) x first.2 in
    rw (more r first.0 first.1, many_wider one wide more n first.0.1 others.0 others.1) others.2

head_wider : (total : ℕ) (lines : Lines) → Wider (head_of Strict total lines) (head_of Wide total lines)
unfolding head_of
head_wider total lines =
    then_wider (line_at total lines) (line_at total lines)
    (λ line. passing_at (is_off_word Strict) line.0.line line.0.fields >>= λ rest. field_ahead total line.0.line rest.1 line.1 >>= λ ahead. counts_of ahead.0 >>= λ counts. Ok (counts, ahead.1))
    (λ line. passing_at (is_off_word Wide) line.0.line line.0.fields >>= λ rest. field_ahead total line.0.line rest.1 line.1 >>= λ ahead. counts_of ahead.0 >>= λ counts. Ok (counts, ahead.1))
    (same (line_at total lines))
    (λ line. then_wider (passing_at (is_off_word Strict) line.0.line line.0.fields) (passing_at (is_off_word Wide) line.0.line line.0.fields)
    (λ rest. field_ahead total line.0.line rest.1 line.1 >>= λ ahead. counts_of ahead.0 >>= λ counts. Ok (counts, ahead.1))
    (λ rest. field_ahead total line.0.line rest.1 line.1 >>= λ ahead. counts_of ahead.0 >>= λ counts. Ok (counts, ahead.1))
    (passing_wider (is_off_word Strict) (is_off_word Wide) off_word_wider line.0.line line.0.fields)
    (λ rest. same (field_ahead total line.0.line rest.1 line.1 >>= λ ahead. counts_of ahead.0 >>= λ counts. Ok (counts, ahead.1))))

pub off_wider : (total : ℕ) (lines : Lines) (text : Plc) → off_by Strict total lines ≡ Ok text → off_by Wide total lines ≡ Ok text
unfolding off_by
off_wider total lines =
    then_wider (head_of Strict total lines) (head_of Wide total lines)
    (λ head. so_many (vertex_line Strict total) head.0.0 head.1 >>= λ points. so_many (off_polygon total) head.0.1 points.1 >>= λ faces. text_end_at faces.1 >>= λ _. Ok (surface_of points.0 faces.0))
    (λ head. so_many (vertex_line Wide total) head.0.0 head.1 >>= λ points. so_many (off_polygon total) head.0.1 points.1 >>= λ faces. text_end_at faces.1 >>= λ _. Ok (surface_of points.0 faces.0))
    (head_wider total lines)
    (λ head. then_wider (so_many (vertex_line Strict total) head.0.0 head.1) (so_many (vertex_line Wide total) head.0.0 head.1)
    (λ points. so_many (off_polygon total) head.0.1 points.1 >>= λ faces. text_end_at faces.1 >>= λ _. Ok (surface_of points.0 faces.0))
    (λ points. so_many (off_polygon total) head.0.1 points.1 >>= λ faces. text_end_at faces.1 >>= λ _. Ok (surface_of points.0 faces.0))
    (many_wider (vertex_line Strict total) (vertex_line Wide total) (vertex_wider total) head.0.0 head.1)
    (λ points. same (so_many (off_polygon total) head.0.1 points.1 >>= λ faces. text_end_at faces.1 >>= λ _. Ok (surface_of points.0 faces.0))))

-- ---- a facet of an `.stl` file

solid_wider : (total : ℕ) (lines : Lines) → Wider (solid_line Strict total lines) (solid_line Wide total lines)
unfolding solid_line
solid_wider total lines =
    then_wider (line_at total lines) (line_at total lines) (λ line. keyword_at Strict (codes "solid") line.0.line line.0.fields >>= λ _. Ok (tt, line.1)) (λ line. keyword_at Wide (codes "solid") line.0.line line.0.fields >>= λ _. Ok (tt, line.1))
    (same (line_at total lines))
    (λ line. then_wider (keyword_at Strict (codes "solid") line.0.line line.0.fields) (keyword_at Wide (codes "solid") line.0.line line.0.fields) (λ _. Ok (tt, line.1)) (λ _. Ok (tt, line.1))
    (keyword_wider (codes "solid") line.0.line line.0.fields) (λ rest. same (Ok (tt, line.1))))

normal_wider : (line : ℕ) (fields : Fields) → Wider (normal_at Strict line fields) (normal_at Wide line fields)
unfolding normal_at
normal_wider line fields =
    then_wider (keyword_at Strict (codes "normal") line fields) (keyword_at Wide (codes "normal") line fields)
    (λ rest. field_at line rest.1 >>= λ x. field_at line x.1 >>= λ y. field_at line y.1 >>= λ z. end_at line z.1)
    (λ rest. field_at line rest.1 >>= λ x. field_at line x.1 >>= λ y. field_at line y.1 >>= λ z. end_at line z.1)
    (keyword_wider (codes "normal") line fields) (λ rest. same (field_at line rest.1 >>= λ x. field_at line x.1 >>= λ y. field_at line y.1 >>= λ z. end_at line z.1))

last_word_wider : (word : List ℕ) (line : ℕ) (fields : Fields) → Wider (last_word_at Strict word line fields) (last_word_at Wide word line fields)
unfolding last_word_at
last_word_wider word line fields =
    then_wider (keyword_at Strict word line fields) (keyword_at Wide word line fields) (λ rest. end_at line rest.1) (λ rest. end_at line rest.1) (keyword_wider word line fields) (λ rest. same (end_at line rest.1))

loop_wider : (line : ContentLine) → Wider (loop_of Strict line) (loop_of Wide line)
unfolding loop_of
loop_wider line =
    then_wider (keyword_at Strict (codes "outer") line.line line.fields) (keyword_at Wide (codes "outer") line.line line.fields)
    (λ rest. last_word_at Strict (codes "loop") line.line rest.1) (λ rest. last_word_at Wide (codes "loop") line.line rest.1)
    (keyword_wider (codes "outer") line.line line.fields) (λ rest. last_word_wider (codes "loop") line.line rest.1)

corner_wider : (line : ContentLine) → Wider (vertex_of Strict line) (vertex_of Wide line)
unfolding vertex_of
corner_wider line =
    then_wider (keyword_at Strict (codes "vertex") line.line line.fields) (keyword_at Wide (codes "vertex") line.line line.fields)
    (λ rest. last_place_at line.line rest.1) (λ rest. last_place_at line.line rest.1)
    (keyword_wider (codes "vertex") line.line line.fields) (λ rest. same (last_place_at line.line rest.1))

word_line_wider : (word : List ℕ) (line : ContentLine) → Wider (word_of Strict word line) (word_of Wide word line)
word_line_wider word line = last_word_wider word line.line line.fields

facet_wider : (total first : ℕ) (lines : Lines) → Wider (ascii_facet_of Strict total first lines) (ascii_facet_of Wide total first lines)
unfolding ascii_facet_of
facet_wider total first lines x is =
    let outer = step_ok (on_line (loop_of Strict) total lines) (λ outer. on_line (vertex_of Strict) total outer.1 >>= λ a. on_line (vertex_of Strict) total a.1 >>= λ b. on_line (vertex_of Strict) total b.1 >>= λ c. on_line (word_of Strict (codes "endloop")) total c.1 >>= λ inner. on_line (word_of Strict (codes "endfacet")) total inner.1 >>= λ last. Ok (record { line = first; a = a.0; b = b.0; c = c.0 }, last.1)) x is in
    let a = step_ok (on_line (vertex_of Strict) total outer.0.1) (λ a. on_line (vertex_of Strict) total a.1 >>= λ b. on_line (vertex_of Strict) total b.1 >>= λ c. on_line (word_of Strict (codes "endloop")) total c.1 >>= λ inner. on_line (word_of Strict (codes "endfacet")) total inner.1 >>= λ last. Ok (record { line = first; a = a.0; b = b.0; c = c.0 }, last.1)) x outer.2 in
    let b = step_ok (on_line (vertex_of Strict) total a.0.1) (λ b. on_line (vertex_of Strict) total b.1 >>= λ c. on_line (word_of Strict (codes "endloop")) total c.1 >>= λ inner. on_line (word_of Strict (codes "endfacet")) total inner.1 >>= λ last. Ok (record { line = first; a = a.0.0; b = b.0; c = c.0 }, last.1)) x a.2 in
    let c = step_ok (on_line (vertex_of Strict) total b.0.1) (λ c. on_line (word_of Strict (codes "endloop")) total c.1 >>= λ inner. on_line (word_of Strict (codes "endfacet")) total inner.1 >>= λ last. Ok (record { line = first; a = a.0.0; b = b.0.0; c = c.0 }, last.1)) x b.2 in
    let inner = step_ok (on_line (word_of Strict (codes "endloop")) total c.0.1) (λ inner. on_line (word_of Strict (codes "endfacet")) total inner.1 >>= λ last. Ok (record { line = first; a = a.0.0; b = b.0.0; c = c.0.0 }, last.1)) x c.2 in
    let last = step_ok (on_line (word_of Strict (codes "endfacet")) total inner.0.1) (λ last. Ok (record { line = first; a = a.0.0; b = b.0.0; c = c.0.0 }, last.1)) x inner.2 in
    let e1 = on_line_wider (loop_of Strict) (loop_of Wide) loop_wider total lines outer.0 outer.1 in
    let e2 = on_line_wider (vertex_of Strict) (vertex_of Wide) corner_wider total outer.0.1 a.0 a.1 in
    let e3 = on_line_wider (vertex_of Strict) (vertex_of Wide) corner_wider total a.0.1 b.0 b.1 in
    let e4 = on_line_wider (vertex_of Strict) (vertex_of Wide) corner_wider total b.0.1 c.0 c.1 in
    let e5 = on_line_wider (word_of Strict (codes "endloop")) (word_of Wide (codes "endloop")) (word_line_wider (codes "endloop")) total c.0.1 inner.0 inner.1 in
    let e6 = on_line_wider (word_of Strict (codes "endfacet")) (word_of Wide (codes "endfacet")) (word_line_wider (codes "endfacet")) total inner.0.1 last.0 last.1 in
    rw (e1, e2, e3, e4, e5, e6) last.2

-- ---- the facets of an `.stl` file

-- a field that is one keyword is no other
facet_no_end : (field : List ℕ) → is_word Strict (codes "facet") field ≡ true → is_word Wide (codes "endsolid") field ≡ false
facet_no_end field is = let e = (bytes_eq-Decides field (codes "facet")).0 is in rw e refl

abbrev after_first : Bool → Bool → ContentLine → Result (Unit {0}) TextFault → Result Bool TextFault
after_first ends begins line normal = if ends then Ok false else (if begins then (normal >>= λ _. Ok true) else Err (bad_count line.line))

more_wider : (line : ContentLine) → Wider (more_facets Strict line) (more_facets Wide line)
unfolding more_facets
more_wider line x is =
    let first = step_ok (field_at line.line line.fields) (λ first. after_first (is_word Strict (codes "endsolid") first.0) (is_word Strict (codes "facet") first.0) line (normal_at Strict line.line first.1)) x is in
    rw first.1 (go first.0.0 first.0.1 (is_word Strict (codes "endsolid") first.0.0) (is_word Strict (codes "facet") first.0.0) refl refl first.2)
  where
    go : (field : List ℕ) (rest : Fields) (ends begins : Bool) → is_word Strict (codes "endsolid") field ≡ ends → is_word Strict (codes "facet") field ≡ begins → after_first ends begins line (normal_at Strict line.line rest) ≡ Ok x
        → after_first (is_word Wide (codes "endsolid") field) (is_word Wide (codes "facet") field) line (normal_at Wide line.line rest) ≡ Ok x
    go field rest true begins e f h = rw (word_wider (codes "endsolid") field e) h
    go field rest false true e f h =
        let wide = then_wider (normal_at Strict line.line rest) (normal_at Wide line.line rest) (λ _. Ok true) (λ _. Ok true) (normal_wider line.line rest) (λ u. same (Ok true)) x h in
        rw (facet_no_end field f, word_wider (codes "facet") field f) wide
    go field rest false false e f h = absurd cc

abbrev Facets : Type 0
Facets = List StlFacet × Lines

abbrev facets_if : ℕ → ℕ → ContentLine → Lines → Bool → Result Facets TextFault
facets_if most n line rest more = if more then (ascii_facet_of Strict n line.line rest >>= λ facet. ascii_facets_of most n facet.1 >>= λ others. Ok (facet.0 ∷ others.0, others.1)) else Ok ([], rest)

abbrev Solids : Type 0
Solids = List SolidFacet × ℕ

abbrev solids_if : ℕ → ℕ → ℕ → ContentLine → Lines → Bool → Result Solids TextFault
solids_if most solid n line rest more = if more then (ascii_facet_of Wide n line.line rest >>= λ facet. solids_of most solid n facet.1 >>= λ others. Ok (facet_in solid facet.0 ∷ others.0, others.1))
    else (next_solid rest >>= λ next. if next.0 then solids_of most (solid + 1) n next.1 else Ok ([], solid))

abbrev in_solid : ℕ → List StlFacet → List SolidFacet
in_solid solid fs = map (facet_in solid) fs

none_next : next_solid [] ≡ Ok (false, [])
unfolding next_solid
none_next = refl

-- facets up to the end of the text are those of one solid
facets_wider : (most solid n : ℕ) (lines : Lines) (fs : List StlFacet) → ascii_facets_of most n lines ≡ Ok (fs, []) → solids_of most solid n lines ≡ Ok (in_solid solid fs, solid)
unfolding ascii_facets_of solids_of
facets_wider zero solid n lines fs is = absurd cc
facets_wider (suc most) solid n [] fs is = absurd cc
facets_wider (suc most) solid n (line ∷ lines) fs is =
    let more = step_ok (more_facets Strict line) (facets_if most n line lines) (fs, []) is in
    rw (more_wider line more.0 more.1) (go more.0 more.2 (λ rest gs e. facets_wider most solid n rest gs e))
  where
    go : (more : Bool) → facets_if most n line lines more ≡ Ok (fs, []) → ((rest : Lines) (gs : List StlFacet) → ascii_facets_of most n rest ≡ Ok (gs, []) → solids_of most solid n rest ≡ Ok (in_solid solid gs, solid))
        → solids_if most solid n line lines more ≡ Ok (in_solid solid fs, solid)
    go false e others_wider =
        let made : Facets = ([], lines) in
        let same_pair : made ≡ (fs, []) = ok_is made (fs, []) e in
        let left : lines ≡ [] = ap (λ (p : Facets). p.1) same_pair in
        let none : [] ≡ fs = ap (λ (p : Facets). p.0) same_pair in
        rw (left, none_next) (ap (λ (gs : List StlFacet). let read : Result Solids TextFault = Ok (in_solid solid gs, solid) in read) none)
    go true e others_wider =
        let facet = step_ok (ascii_facet_of Strict n line.line lines) (λ facet. ascii_facets_of most n facet.1 >>= λ others. Ok (facet.0 ∷ others.0, others.1)) (fs, []) e in
        let others = step_ok (ascii_facets_of most n facet.0.1) (λ others. Ok (facet.0.0 ∷ others.0, others.1)) (fs, []) facet.2 in
        let made : Facets = (facet.0.0 ∷ others.0.0, others.0.1) in
        let same_pair : made ≡ (fs, []) = ok_is made (fs, []) others.2 in
        let left : others.0.1 ≡ [] = ap (λ (p : Facets). p.1) same_pair in
        let all : facet.0.0 ∷ others.0.0 ≡ fs = ap (λ (p : Facets). p.0) same_pair in
        let ended : ascii_facets_of most n facet.0.1 ≡ Ok (others.0.0, []) = others.1 ∙ ap (λ (rest : Lines). let read : Result Facets TextFault = Ok (others.0.0, rest) in read) left in
        let rest = others_wider facet.0.1 others.0.0 ended in
        rw (facet_wider n line.line lines facet.0 facet.1, rest) (ap (λ (gs : List StlFacet). let read : Result Solids TextFault = Ok (in_solid solid gs, solid) in read) all)

-- ---- the complex of one solid

facets_alone : (fs : List StlFacet) → map (λ f. f.facet) (in_solid 1 fs) ≡ fs
facets_alone [] = refl
facets_alone (f ∷ fs) = ap (λ gs. f ∷ gs) (facets_alone fs)

faces_alone : (points : List DecimalPoint) (fs : List StlFacet) → map (λ f. marked_face (solid_marker 1 f.0) f.1) (map (solid_face_in points) (in_solid 1 fs)) ≡ map facet_of_one (map (triangle_in points) fs)
faces_alone points [] = refl
faces_alone points (f ∷ fs) = ap (λ (gs : List ReadFacet). facet_of_one (triangle_in points f) ∷ gs) (faces_alone points fs)

abbrev alone : List DecimalPoint → List StlFacet → Plc
alone points fs = solids_surface 1 points (map (solid_face_in points) (in_solid 1 fs))

abbrev triangles_points : List StlFacet → List DecimalPoint
triangles_points fs = distinct_vertices (vertices_of fs)

one_solid : (fs : List StlFacet) → alone (solid_points (in_solid 1 fs)) fs ≡ triangles_of fs
one_solid fs =
    let points = triangles_points fs in
    ap (λ (ps : List DecimalPoint). alone ps fs) (ap triangles_points (facets_alone fs)) ∙ ap (λ (gs : List ReadFacet). record (surface_of points []) { facets = gs }) (faces_alone points fs)

none_left : (lines : Lines) (u : Unit {0}) → text_end_at lines ≡ Ok u → lines ≡ []
none_left [] u is = refl
none_left (line ∷ lines) u is = absurd cc

pub stl_wider : (total : ℕ) (lines : Lines) (text : Plc) → stl_of total lines ≡ Ok text → wide_stl_of total lines ≡ Ok text
unfolding stl_of wide_stl_of
stl_wider total lines text is =
    let solid = step_ok (solid_line Strict total lines) (λ solid. ascii_facets_of (length solid.1) total solid.1 >>= λ facets. text_end_at facets.1 >>= λ _. Ok (triangles_of facets.0)) text is in
    let facets = step_ok (ascii_facets_of (length solid.0.1) total solid.0.1) (λ facets. text_end_at facets.1 >>= λ _. Ok (triangles_of facets.0)) text solid.2 in
    let end = step_ok (text_end_at facets.0.1) (λ _. Ok (triangles_of facets.0.0)) text facets.2 in
    let fs = facets.0.0 in
    let ended : ascii_facets_of (length solid.0.1) total solid.0.1 ≡ Ok (fs, []) = facets.1 ∙ ap (λ (rest : Lines). let read : Result Facets TextFault = Ok (fs, rest) in read) (none_left facets.0.1 end.0 end.1) in
    let read = facets_wider (length solid.0.1) 1 total solid.0.1 fs ended in
    rw (solid_wider total lines solid.0 solid.1, read) (ap (λ (t : Plc). let made : Result Plc TextFault = Ok t in made) (one_solid fs) ∙ end.2)
