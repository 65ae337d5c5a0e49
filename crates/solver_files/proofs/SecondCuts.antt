-- Where the lines of tetrahedra and faces of second order are cut.
use Rattle.std.proofs.Common.{◌≡◌, ◌⊎◌, inl, inr, ◌++◌, ◌+◌, ◌^◌, ◌<◌, ◌≤◌, ℕ, suc, ℤ, pos, List, [], ◌∷◌, Option, Some, None, get_or, length, map, refl, sym, ap, subst, ◌∙◌, append_assoc, arith}
use Rattle.std.specs.Prelude.{codes, flat_map, unsigned_abs, All, slice_index}
use Rattle.std.specs.Fmt.{decimal, signed_decimal}
use Rattle.std.proofs.Math.Nat.{suc_inj}
use Rattle.std.proofs.lemmas.Bool.{cases_eq}
use Rattle.std.proofs.lemmas.List.{append_cancel_left}
use Rattle.std.proofs.lemmas.List.Elements.{All-nil, All-cons, All-head, All-tail}
use Rattle.std.proofs.lemmas.List.Sums.{prefix_len-le-length}
use Rattle.geo_laws.specs.Delaunay.{numbers}
use Rattle.geo_laws.specs.declared.faces.Side.{Side}
use Rattle.geo_laws.specs.declared.tetrahedra.Tet.{Tet}
use Rattle.mesh_files.specs.Texts.{marked_corners, AreNamed}
use Rattle.mesh_files.specs.declared.markers.FaceRow.{FaceRow}
use Rattle.std.proofs.lemmas.List.{length-append}
use Rattle.solver_files.specs.Laws.{IsTold}
use Rattle.solver_files.specs.Mesh.{Mesh, attribute_at, mark_at, marker_tag, tet_tag}
use Rattle.solver_files.specs.Second.{Second, corner_fields, corner_number, is_before, middle_number, number_field}
use Rattle.solver_files.specs.SecondLaws.{AreTold, IsSecondTold}
use Rattle.solver_files.specs.SecondRows.{attribute_end, face_edges, face_end, face_front, face_row, tet_edges, tet_end, tet_front, tet_row, twice}
use Rattle.solver_files.specs.declared.second_rows.Format.{Format}
use Rattle.solver_files.specs.declared.second_rows.Format.TheVariants.{Tetgen, Vtk, Gmsh}
use Rattle.solver_files.proofs.Bytes.{IsInField, IsInLine, attribute_line, decimal_in, signed_line}
use Rattle.solver_files.proofs.Cuts.{Stops, cut, line_cut, names_same, number_cut, signed_same}
use Rattle.solver_files.proofs.MshTexts.{marker_tag_small, tet_tag_small}
use Rattle.solver_files.proofs.Parts.{numbered_texts}

-- ---- numbers behind spaces

fields_stop : {X : Type 0} (f : X → ℕ) (xs : List X) (s : List ℕ) → Stops IsInField s → Stops IsInField (flat_map (λ x. number_field (f x)) xs ++ s)
fields_stop f [] s stop = stop
fields_stop f (x ∷ xs) s stop = λ h. omega (arith, h)

-- as many numbers that print as the same text are the same
fields_cut : {X : Type 0} (f g : X → ℕ) (xs ys : List X) (s t : List ℕ) → All (λ x. f x < 2 ^ 64) xs → All (λ x. g x < 2 ^ 64) ys → length xs ≡ length ys
    → Stops IsInField s → Stops IsInField t → flat_map (λ x. number_field (f x)) xs ++ s ≡ flat_map (λ x. number_field (g x)) ys ++ t → (map f xs ≡ map g ys) × (s ≡ t)
fields_cut f g [] [] s t small small' long stop stop' e = (refl, e)
fields_cut f g [] (y ∷ ys) s t small small' long stop stop' e = absurd (omega (arith, long))
fields_cut f g (x ∷ xs) [] s t small small' long stop stop' e = absurd (omega (arith, long))
fields_cut {X} f g (x ∷ xs) (y ∷ ys) s t small small' long stop stop' e =
    let rest = flat_map (λ (z : X). number_field (f z)) xs in
    let rest' = flat_map (λ (z : X). number_field (g z)) ys in
    let whole = sym (append_assoc (number_field (f x)) rest s) ∙ e ∙ append_assoc (number_field (g y)) rest' t in
    let after = append_cancel_left (32 ∷ []) (decimal (f x) ++ (rest ++ s)) (decimal (g y) ++ (rest' ++ t)) whole in
    let both = number_cut (f x) (g y) (rest ++ s) (rest' ++ t) (All-head (λ (z : X). f z < 2 ^ 64) x xs small) (All-head (λ (z : X). g z < 2 ^ 64) y ys small')
    (fields_stop f xs s stop) (fields_stop g ys t stop') after in
    let left = fields_cut f g xs ys s t (All-tail (λ (z : X). f z < 2 ^ 64) x xs small) (All-tail (λ (z : X). g z < 2 ^ 64) y ys small') (suc_inj long) stop stop' both.1 in
    let first : f x ≡ g y = both.0 in
    let others : map f xs ≡ map g ys = left.0 in
    (cc, left.1)

corners_small : (names : List ℕ) (first : ℕ) → first < 2 ^ 32 → All (λ n. n < 2 ^ 32) names → (ns : List ℕ) → AreNamed names ns → All (λ v. slice_index names v + first < 2 ^ 64) ns
corners_small names first lt small [] named = All-nil (λ (v : ℕ). slice_index names v + first < 2 ^ 64)
corners_small names first lt small (n ∷ ns) named =
    let there = All-head (λ k. k < length names) n ns named in
    let name = small n 0 there in
    All-cons (λ (v : ℕ). slice_index names v + first < 2 ^ 64) n ns (let room : slice_index names n + first < 2 ^ 64 = omega (arith, name, lt) in room)
    (corners_small names first lt small ns (All-tail (λ k. k < length names) n ns named))

middle_small : (m : Second) → IsSecondTold m → (first : ℕ) → first < 2 ^ 32 → (s : Side) → middle_number m first s < 2 ^ 64
middle_small m told first lt s =
    let place = prefix_len-le-length (λ (t : Side). is_before t s) m.sides in
    omega (arith, place, lt, told.few_sides, told.told.written.few, told.told.written.few_added, length-append m.mesh.table.listed m.mesh.added)

lifted : (f : ℕ → ℕ) (ns : List ℕ) → map (λ n. pos (f n)) ns ≡ map pos (map f ns)
lifted f [] = refl
lifted f (n ∷ ns) = ap (λ (r : List ℤ). pos (f n) ∷ r) (lifted f ns)

-- corners and midpoints with the same text have the same corners
corners_cut : (m m' : Second) (first : ℕ) → first < 2 ^ 32 → AreTold m m' → (ns ms : List ℕ) (es fs : List Side) (s t : List ℕ) → AreNamed m.mesh.names ns → AreNamed m'.mesh.names ms
    → length ns ≡ length ms → length es ≡ length fs → Stops IsInField s → Stops IsInField t
    → corner_fields m first ns es ++ s ≡ corner_fields m' first ms fs ++ t → (ns ≡ ms) × (s ≡ t)
corners_cut m m' first lt are ns ms es fs s t named named' long longs stop stop' e =
    let corners = λ (k : Second) (vs : List ℕ). flat_map (λ (v : ℕ). number_field (corner_number k first v)) vs in
    let middles = λ (k : Second) (gs : List Side). flat_map (λ (g : Side). number_field (middle_number k first g)) gs in
    let whole = sym (append_assoc (corners m ns) (middles m es) s) ∙ e ∙ append_assoc (corners m' ms) (middles m' fs) t in
    let one = fields_cut (corner_number m first) (corner_number m' first) ns ms (middles m es ++ s) (middles m' fs ++ t)
    (corners_small m.mesh.names first lt are.one.told.names ns named) (corners_small m'.mesh.names first lt are.other.told.names ms named') long
    (fields_stop (middle_number m first) es s stop) (fields_stop (middle_number m' first) fs t stop') whole in
    let two = fields_cut (middle_number m first) (middle_number m' first) es fs s t
    (λ k d l. middle_small m are.one first lt (get_or es k d)) (λ k d l. middle_small m' are.other first lt (get_or fs k d)) longs stop stop' one.1 in
    let renamed = ap (λ (names : List ℕ). map (λ (v : ℕ). slice_index names v + first) ms) (sym are.names) in
    let same = lifted (corner_number m first) ns ∙ ap (map pos) (one.0 ∙ renamed) ∙ sym (lifted (corner_number m first) ms) in
    (names_same m.mesh.names first are.one.told.apart ns ms named (subst (λ (names : List ℕ). AreNamed names ms) (sym are.names) named') same, two.1)

-- ---- tags

twice_cut : (n m : ℕ) (s t : List ℕ) → n < 2 ^ 32 → m < 2 ^ 32 → Stops IsInField s → Stops IsInField t → twice n ++ s ≡ twice m ++ t → (n ≡ m) × (s ≡ t)
twice_cut n m s t lt lt' stop stop' e =
    let one = number_cut n m (32 ∷ (decimal n ++ s)) (32 ∷ (decimal m ++ t)) (omega (arith, lt)) (omega (arith, lt')) (λ h. omega (arith, h)) (λ h. omega (arith, h))
    (sym (append_assoc (decimal n) (32 ∷ decimal n) s) ∙ e ∙ append_assoc (decimal m) (32 ∷ decimal m) t) in
    let two = number_cut n m s t (omega (arith, lt)) (omega (arith, lt')) stop stop' (append_cancel_left (32 ∷ []) (decimal n ++ s) (decimal m ++ t) one.1) in
    (one.0, two.1)

-- of Gmsh the tags are told
abbrev IsTagTold : Format → ℕ → ℕ → Type 0
IsTagTold Tetgen n m = Unit {0}
IsTagTold Vtk n m = Unit {0}
IsTagTold Gmsh n m = n ≡ m

-- ---- tetrahedra

tet_front_cut : (format : Format) (m m' : Mesh) (first k : ℕ) (s t : List ℕ) → Stops IsInField s → Stops IsInField t
    → tet_front format m first k ++ s ≡ tet_front format m' first k ++ t → IsTagTold format (tet_tag m k) (tet_tag m' k) × (s ≡ t)
tet_front_cut Tetgen m m' first k s t stop stop' e = (tt, append_cancel_left (decimal (k + first)) s t e)
tet_front_cut Vtk m m' first k s t stop stop' e = (tt, append_cancel_left (codes "10") s t e)
tet_front_cut Gmsh m m' first k s t stop stop' e =
    let head = decimal (k + first) ++ codes " 11 2 " in
    let tags = λ (n : Mesh). twice (tet_tag n k) in
    let after = append_cancel_left head (tags m ++ s) (tags m' ++ t) (sym (append_assoc head (tags m) s) ∙ e ∙ append_assoc head (tags m') t) in
    twice_cut (tet_tag m k) (tet_tag m' k) s t (tet_tag_small m k) (tet_tag_small m' k) stop stop' after

ends_cut : (o o' : Option (List (Option ℕ))) (a a' s t : List ℕ) → All IsInLine a → All IsInLine a' → attribute_end o a ++ s ≡ attribute_end o' a' ++ t → s ≡ t
ends_cut None None a a' s t line line' e = append_cancel_left (10 ∷ []) s t e
ends_cut None (Some x) a a' s t line line' e = let heads = ap (λ (r : List ℕ). get_or r 0 0) e in absurd (omega (arith, heads))
ends_cut (Some x) None a a' s t line line' e = let heads = ap (λ (r : List ℕ). get_or r 0 0) e in absurd (omega (arith, heads))
ends_cut (Some x) (Some y) a a' s t line line' e =
    let after = append_cancel_left (32 ∷ []) ((a ++ (10 ∷ [])) ++ s) ((a' ++ (10 ∷ [])) ++ t) e in
    (line_cut a a' s t line line' (sym (append_assoc a (10 ∷ []) s) ∙ after ∙ append_assoc a' (10 ∷ []) t)).1

tet_end_cut : (format : Format) (m m' : Mesh) → IsTold m → IsTold m' → (k : ℕ) (s t : List ℕ) → tet_end format m k ++ s ≡ tet_end format m' k ++ t → s ≡ t
tet_end_cut Tetgen m m' told told' k s t e =
    ends_cut m.marks m'.marks (attribute_at m k) (attribute_at m' k) s t (attribute_line m.regions told.lines (mark_at m.marks k)) (attribute_line m'.regions told'.lines (mark_at m'.marks k)) e
tet_end_cut Vtk m m' told told' k s t e = append_cancel_left (10 ∷ []) s t e
tet_end_cut Gmsh m m' told told' k s t e = append_cancel_left (10 ∷ []) s t e

attribute_stop : (o : Option (List (Option ℕ))) (a s : List ℕ) → Stops IsInField (attribute_end o a ++ s)
attribute_stop None a s = λ h. omega (arith, h)
attribute_stop (Some x) a s = λ h. omega (arith, h)

tet_end_stop : (format : Format) (m : Mesh) (k : ℕ) (s : List ℕ) → Stops IsInField (tet_end format m k ++ s)
tet_end_stop Tetgen m k s = attribute_stop m.marks (attribute_at m k) s
tet_end_stop Vtk m k s = λ h. omega (arith, h)
tet_end_stop Gmsh m k s = λ h. omega (arith, h)

tet_edges_long : (format : Format) (x y : Tet) → length (tet_edges format x) ≡ length (tet_edges format y)
tet_edges_long Tetgen x y = refl
tet_edges_long Vtk x y = refl
tet_edges_long Gmsh x y = refl

abbrev IsTetNamed : Second → Tet → Type 0
IsTetNamed m t = AreNamed m.mesh.names (numbers t)

abbrev AreTagsTold : Format → Mesh → Mesh → ℕ → ℕ → Type 0
AreTagsTold format m m' from past = (place : ℕ) → from ≤ place → place < past → IsTagTold format (tet_tag m place) (tet_tag m' place)

pub record AreOneTets (format : Format) (m m' : Mesh) (k : ℕ) (xs ys : List Tet) : Type 0 where
  pub rows : map numbers xs ≡ map numbers ys
  pub tags : AreTagsTold format m m' k (k + length xs)

more_tags : (format : Format) (m m' : Mesh) (k n : ℕ) → IsTagTold format (tet_tag m k) (tet_tag m' k) → AreTagsTold format m m' (k + 1) (k + 1 + n) → AreTagsTold format m m' k (k + suc n)
more_tags format m m' k n here later place le lt =
    elim (cases_eq place k) [
      | inl is ↦ subst (λ (p : ℕ). IsTagTold format (tet_tag m p) (tet_tag m' p)) (sym is) here
      | inr not ↦ later place (omega (arith, le, not)) (omega (arith, lt))
    ]

-- what follows is no line of a tetrahedron
abbrev pub IsNoTet : Format → List ℕ → Type 0
IsNoTet format s = (m : Second) (first k : ℕ) (z : Tet) (r : List ℕ) → k + first < 2 ^ 64 → s ≡ tet_row format m first k z ++ r → ⊥

-- there are as many tetrahedra, or no line of one follows
abbrev pub AreEnded : Format → List Tet → List Tet → List ℕ → List ℕ → Type 0
AreEnded format xs ys s t = (length xs ≡ length ys) ⊎ (IsNoTet format s × IsNoTet format t)

next_ended : (format : Format) (x y : Tet) (xs ys : List Tet) (s t : List ℕ) → AreEnded format (x ∷ xs) (y ∷ ys) s t → AreEnded format xs ys s t
next_ended format x y xs ys s t (inl long) = inl (suc_inj long)
next_ended format x y xs ys s t (inr none) = inr none

-- tetrahedra with the same text have the same corners
pub tets_cut : (format : Format) (m m' : Second) (first : ℕ) → first < 2 ^ 32 → AreTold m m' → (k : ℕ) (xs ys : List Tet) (s t : List ℕ) → k + length xs < 2 ^ 33 → k + length ys < 2 ^ 33
    → All (IsTetNamed m) xs → All (IsTetNamed m') ys → AreEnded format xs ys s t
    → numbered_texts (tet_row format m first) k xs ++ s ≡ numbered_texts (tet_row format m' first) k ys ++ t → AreOneTets format m.mesh m'.mesh k xs ys × (s ≡ t)
tets_cut format m m' first small are k [] [] s t few few' named named' ended e = (record { rows = refl; tags = λ place le lt. absurd (omega (arith, le, lt)) }, e)
tets_cut format m m' first small are k [] (y ∷ ys) s t few few' named named' (inl long) e = absurd (omega (arith, long))
tets_cut format m m' first small are k [] (y ∷ ys) s t few few' named named' (inr none) e =
    let rest = numbered_texts (tet_row format m' first) (k + 1) ys in
    absurd (none.0 m' first k y (rest ++ t) (omega (arith, few', small)) (e ∙ append_assoc (tet_row format m' first k y) rest t))
tets_cut format m m' first small are k (x ∷ xs) [] s t few few' named named' (inl long) e = absurd (omega (arith, long))
tets_cut format m m' first small are k (x ∷ xs) [] s t few few' named named' (inr none) e =
    let rest = numbered_texts (tet_row format m first) (k + 1) xs in
    absurd (none.1 m first k x (rest ++ s) (omega (arith, few, small)) (sym e ∙ append_assoc (tet_row format m first k x) rest s))
tets_cut format m m' first small are k (x ∷ xs) (y ∷ ys) s t few few' named named' ended e =
    let front = λ (n : Second). tet_front format n.mesh first k in
    let fields = λ (n : Second) (z : Tet). corner_fields n first (numbers z) (tet_edges format z) in
    let end = λ (n : Second). tet_end format n.mesh k in
    let rest = λ (n : Second) (zs : List Tet). numbered_texts (tet_row format n first) (k + 1) zs in
    let apart = λ (n : Second) (z : Tet) (zs : List Tet) (r : List ℕ). append_assoc (front n ++ (fields n z ++ end n)) (rest n zs) r
    ∙ append_assoc (front n) (fields n z ++ end n) (rest n zs ++ r) ∙ ap (λ (q : List ℕ). front n ++ q) (append_assoc (fields n z) (end n) (rest n zs ++ r)) in
    let one = tet_front_cut format m.mesh m'.mesh first k (fields m x ++ (end m ++ (rest m xs ++ s))) (fields m' y ++ (end m' ++ (rest m' ys ++ t)))
    (λ h. omega (arith, h)) (λ h. omega (arith, h)) (sym (apart m x xs s) ∙ e ∙ apart m' y ys t) in
    let two = corners_cut m m' first small are (numbers x) (numbers y) (tet_edges format x) (tet_edges format y) (end m ++ (rest m xs ++ s)) (end m' ++ (rest m' ys ++ t))
    (All-head (IsTetNamed m) x xs named) (All-head (IsTetNamed m') y ys named') refl (tet_edges_long format x y)
    (tet_end_stop format m.mesh k (rest m xs ++ s)) (tet_end_stop format m'.mesh k (rest m' ys ++ t)) one.1 in
    let three = tet_end_cut format m.mesh m'.mesh are.one.told are.other.told k (rest m xs ++ s) (rest m' ys ++ t) two.1 in
    let left = tets_cut format m m' first small are (k + 1) xs ys s t (omega (arith, few)) (omega (arith, few')) (All-tail (IsTetNamed m) x xs named) (All-tail (IsTetNamed m') y ys named')
    (next_ended format x y xs ys s t ended) three in
    let corners : numbers x ≡ numbers y = two.0 in
    let others : map numbers xs ≡ map numbers ys = left.0.rows in
    (record { rows = cc; tags = more_tags format m.mesh m'.mesh k (length xs) one.0 left.0.tags }, left.1)

-- ---- faces

-- of Gmsh faces are numbered behind the tetrahedra
abbrev pub AreNumberedAlike : Format → Mesh → Mesh → Type 0
AreNumberedAlike Tetgen m m' = Unit {0}
AreNumberedAlike Vtk m m' = Unit {0}
AreNumberedAlike Gmsh m m' = length m.rows ≡ length m'.rows

face_front_cut : (format : Format) (m m' : Mesh) → AreNumberedAlike format m m' → (first k : ℕ) (f g : FaceRow) (s t : List ℕ) → Stops IsInField s → Stops IsInField t
    → face_front format m first k f ++ s ≡ face_front format m' first k g ++ t → IsTagTold format (marker_tag f.marker) (marker_tag g.marker) × (s ≡ t)
face_front_cut Tetgen m m' alike first k f g s t stop stop' e = (tt, append_cancel_left (decimal (k + first)) s t e)
face_front_cut Vtk m m' alike first k f g s t stop stop' e = (tt, append_cancel_left (codes "6") s t e)
face_front_cut Gmsh m m' alike first k f g s t stop stop' e =
    let head = λ (n : ℕ). decimal (n + k + first) ++ codes " 9 2 " in
    let tags = λ (h : FaceRow). twice (marker_tag h.marker) in
    let moved = ap (λ (n : ℕ). head n ++ (tags g ++ t)) (sym alike) in
    let after = append_cancel_left (head (length m.rows)) (tags f ++ s) (tags g ++ t)
    (sym (append_assoc (head (length m.rows)) (tags f) s) ∙ e ∙ append_assoc (head (length m'.rows)) (tags g) t ∙ moved) in
    twice_cut (marker_tag f.marker) (marker_tag g.marker) s t (marker_tag_small f.marker) (marker_tag_small g.marker) stop stop' after

-- of TetGen the markers are told
abbrev IsMarkerTold : Format → ℤ → ℤ → Type 0
IsMarkerTold Tetgen z y = z ≡ y
IsMarkerTold Vtk z y = Unit {0}
IsMarkerTold Gmsh z y = Unit {0}

face_end_cut : (format : Format) (f g : FaceRow) (s t : List ℕ) → unsigned_abs f.marker < 2 ^ 63 → unsigned_abs g.marker < 2 ^ 63
    → face_end format f ++ s ≡ face_end format g ++ t → IsMarkerTold format f.marker g.marker × (s ≡ t)
face_end_cut Tetgen f g s t short short' e =
    let z = signed_decimal f.marker in
    let y = signed_decimal g.marker in
    let after = append_cancel_left (32 ∷ []) ((z ++ (10 ∷ [])) ++ s) ((y ++ (10 ∷ [])) ++ t) e in
    let both = line_cut z y s t (signed_line f.marker) (signed_line g.marker) (sym (append_assoc z (10 ∷ []) s) ∙ after ∙ append_assoc y (10 ∷ []) t) in
    (signed_same f.marker g.marker short short' both.0, both.1)
face_end_cut Vtk f g s t short short' e = (tt, append_cancel_left (10 ∷ []) s t e)
face_end_cut Gmsh f g s t short short' e = (tt, append_cancel_left (10 ∷ []) s t e)

face_end_stop : (format : Format) (f : FaceRow) (s : List ℕ) → Stops IsInField (face_end format f ++ s)
face_end_stop Tetgen f s = λ h. omega (arith, h)
face_end_stop Vtk f s = λ h. omega (arith, h)
face_end_stop Gmsh f s = λ h. omega (arith, h)

face_edges_long : (format : Format) (x y : FaceRow) → length (face_edges format x) ≡ length (face_edges format y)
face_edges_long Tetgen x y = refl
face_edges_long Vtk x y = refl
face_edges_long Gmsh x y = refl

-- what a format has of a marker
abbrev pub mark_in : Format → FaceRow → ℤ
mark_in Tetgen f = f.marker
mark_in Vtk f = pos 0
mark_in Gmsh f = pos (marker_tag f.marker)

mark_told : (format : Format) (f g : FaceRow) → IsTagTold format (marker_tag f.marker) (marker_tag g.marker) → IsMarkerTold format f.marker g.marker → mark_in format f ≡ mark_in format g
mark_told Tetgen f g tag marker = marker
mark_told Vtk f g tag marker = refl
mark_told Gmsh f g tag marker = ap pos tag

abbrev IsFaceNamed : Second → FaceRow → Type 0
IsFaceNamed m f = AreNamed m.mesh.names (marked_corners f)

abbrev HasShortMarker : FaceRow → Type 0
HasShortMarker f = unsigned_abs f.marker < 2 ^ 63

pub record AreOneFaces (format : Format) (xs ys : List FaceRow) : Type 0 where
  pub corners : map marked_corners xs ≡ map marked_corners ys
  pub marks : map (mark_in format) xs ≡ map (mark_in format) ys

-- as many faces with the same text have the same corners, and the markers that the format has
pub faces_cut : (format : Format) (m m' : Second) → AreNumberedAlike format m.mesh m'.mesh → (first : ℕ) → first < 2 ^ 32 → AreTold m m' → (k : ℕ) (xs ys : List FaceRow) (s t : List ℕ) → All (IsFaceNamed m) xs → All (IsFaceNamed m') ys
    → All HasShortMarker xs → All HasShortMarker ys → length xs ≡ length ys
    → numbered_texts (face_row format m first) k xs ++ s ≡ numbered_texts (face_row format m' first) k ys ++ t → AreOneFaces format xs ys × (s ≡ t)
faces_cut format m m' alike first small are k [] [] s t named named' short short' long e = (record { corners = refl; marks = refl }, e)
faces_cut format m m' alike first small are k [] (y ∷ ys) s t named named' short short' long e = absurd (omega (arith, long))
faces_cut format m m' alike first small are k (x ∷ xs) [] s t named named' short short' long e = absurd (omega (arith, long))
faces_cut format m m' alike first small are k (x ∷ xs) (y ∷ ys) s t named named' short short' long e =
    let front = λ (n : Second) (z : FaceRow). face_front format n.mesh first k z in
    let fields = λ (n : Second) (z : FaceRow). corner_fields n first (marked_corners z) (face_edges format z) in
    let end = λ (z : FaceRow). face_end format z in
    let rest = λ (n : Second) (zs : List FaceRow). numbered_texts (face_row format n first) (k + 1) zs in
    let apart = λ (n : Second) (z : FaceRow) (zs : List FaceRow) (r : List ℕ). append_assoc (front n z ++ (fields n z ++ end z)) (rest n zs) r
    ∙ append_assoc (front n z) (fields n z ++ end z) (rest n zs ++ r) ∙ ap (λ (q : List ℕ). front n z ++ q) (append_assoc (fields n z) (end z) (rest n zs ++ r)) in
    let one = face_front_cut format m.mesh m'.mesh alike first k x y (fields m x ++ (end x ++ (rest m xs ++ s))) (fields m' y ++ (end y ++ (rest m' ys ++ t)))
    (λ h. omega (arith, h)) (λ h. omega (arith, h)) (sym (apart m x xs s) ∙ e ∙ apart m' y ys t) in
    let two = corners_cut m m' first small are (marked_corners x) (marked_corners y) (face_edges format x) (face_edges format y) (end x ++ (rest m xs ++ s)) (end y ++ (rest m' ys ++ t))
    (All-head (IsFaceNamed m) x xs named) (All-head (IsFaceNamed m') y ys named') refl (face_edges_long format x y)
    (face_end_stop format x (rest m xs ++ s)) (face_end_stop format y (rest m' ys ++ t)) one.1 in
    let three = face_end_cut format x y (rest m xs ++ s) (rest m' ys ++ t) (All-head HasShortMarker x xs short) (All-head HasShortMarker y ys short') two.1 in
    let left = faces_cut format m m' alike first small are (k + 1) xs ys s t (All-tail (IsFaceNamed m) x xs named) (All-tail (IsFaceNamed m') y ys named')
    (All-tail HasShortMarker x xs short) (All-tail HasShortMarker y ys short') (suc_inj long) three.1 in
    let corners : marked_corners x ≡ marked_corners y = two.0 in
    let others : map marked_corners xs ≡ map marked_corners ys = left.0.corners in
    let mark : mark_in format x ≡ mark_in format y = mark_told format x y one.0 three.0 in
    let marks : map (mark_in format) xs ≡ map (mark_in format) ys = left.0.marks in
    (record { corners = cc; marks = cc }, left.1)

-- ---- behind the tetrahedra of a Gmsh file

-- the text behind the tetrahedra
abbrev pub behind_tets : Second → List FaceRow → List ℕ
behind_tets m faces = numbered_texts (face_row Gmsh m 1) 0 faces ++ codes "$EndElements\n"

apart : (n : ℕ) (c tags b r : List ℕ) → (decimal n ++ c ++ tags ++ b) ++ r ≡ decimal n ++ (c ++ (tags ++ (b ++ r)))
apart n c tags b r = append_assoc (decimal n ++ c ++ tags) b r ∙ append_assoc (decimal n ++ c) tags (b ++ r) ∙ append_assoc (decimal n) c (tags ++ (b ++ r))

pub no_tet : (m : Second) → length m.mesh.rows < 2 ^ 32 → (faces : List FaceRow) → IsNoTet Gmsh (behind_tets m faces)
no_tet m few [] n first k z r lt e =
    let c = codes " 11 2 " in
    let tags = twice (tet_tag n.mesh k) in
    let line = corner_fields n first (numbers z) (tet_edges Gmsh z) ++ (10 ∷ []) in
    let both = cut IsInField [] (decimal (k + first)) (codes "$EndElements\n") (c ++ (tags ++ (line ++ r))) (All-nil IsInField) (decimal_in (k + first)) (λ h. omega (arith, h)) (λ h. omega (arith, h))
    (e ∙ apart (k + first) c tags line r) in
    let heads = ap (λ (w : List ℕ). get_or w 0 0) both.1 in
    omega (arith, heads)
no_tet m few (f ∷ fs) n first k z r lt e =
    let c = codes " 11 2 " in
    let d = codes " 9 2 " in
    let tags = twice (tet_tag n.mesh k) in
    let own = twice (marker_tag f.marker) in
    let line = corner_fields n first (numbers z) (tet_edges Gmsh z) ++ (10 ∷ []) in
    let face = corner_fields m 1 (marked_corners f) (face_edges Gmsh f) ++ (10 ∷ []) in
    let rest = numbered_texts (face_row Gmsh m 1) 1 fs ++ codes "$EndElements\n" in
    let number = length m.mesh.rows + 0 + 1 in
    let both = number_cut number (k + first) (d ++ (own ++ (face ++ rest))) (c ++ (tags ++ (line ++ r))) (omega (arith, few)) lt (λ h. omega (arith, h)) (λ h. omega (arith, h))
    (sym (apart number d own face rest) ∙ sym (append_assoc (face_row Gmsh m 1 0 f) (numbered_texts (face_row Gmsh m 1) 1 fs) (codes "$EndElements\n")) ∙ e ∙ apart (k + first) c tags line r) in
    let kinds = ap (λ (w : List ℕ). get_or w 1 0) both.1 in
    omega (arith, kinds)
