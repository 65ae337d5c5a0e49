-- An MSH text determines what it has of a mesh.
use Rattle.std.proofs.Common.{◌≡◌, inl, inr, ◌++◌, ◌+◌, ◌^◌, ◌<◌, ◌≤◌, ℕ, suc, ℤ, pos, negsuc, Bool, true, false, List, [], ◌∷◌, Option, Some, None, drop, get_or, length, map, refl, sym, ap, subst, ◌∙◌, append_assoc, length-append, arith, lit<}
use Rattle.std.specs.Prelude.{codes, unsigned_abs, All, if◌then◌else◌, nat_le}
use Rattle.std.specs.Fmt.{decimal}
use Rattle.std.proofs.Math.Nat.{suc_inj}
use Rattle.std.proofs.lemmas.Bool.{cases_eq, leb-true}
use Rattle.std.proofs.lemmas.List.{append_cancel_left}
use Rattle.std.proofs.lemmas.List.Elements.{All-nil, All-cons, All-head, All-tail}
use Rattle.sign_predicates.specs.Point.{Point}
use Rattle.geo_laws.specs.Delaunay.{numbers}
use Rattle.geo_laws.specs.declared.tetrahedra.Tet.{Tet}
use Rattle.tet_text.specs.Numbers.{count_of}
use Rattle.mesh_files.specs.Texts.{file_number, marked_corners, text_line, AreNamed}
use Rattle.mesh_files.specs.declared.markers.FaceRow.{FaceRow}
use Rattle.solver_files.specs.Laws.{IsTold, MshTextLaw}
use Rattle.solver_files.specs.Mesh.{Mesh, attribute_at, marker_tag, place_text, points_of, tag_if, tag_of, tag_of_count, tag_of_text, tet_tag}
use Rattle.solver_files.specs.Msh.{node_line, tet_line, triangle_line, msh_nodes, msh_elements}
use Rattle.solver_files.proofs.Bytes.{IsInField, place_line, decimal_in}
use Rattle.solver_files.proofs.Cuts.{IsShort, cut, heading_cut, line_cut, names_same, names_short, text_line_cut, text_line_is, behind_stops, behind}
use Rattle.solver_files.proofs.Parts.{numbered_texts}
use Rattle.solver_files.proofs.Rows.{rows_same}

-- ---- nodes

nodes_cut : (m m' : Mesh) (k : ℕ) (xs ys : List Point) (s t : List ℕ) → length xs ≡ length ys
    → numbered_texts (node_line m) k xs ++ s ≡ numbered_texts (node_line m') k ys ++ t → (map (place_text m) xs ≡ map (place_text m') ys) × (s ≡ t)
nodes_cut m m' k [] [] s t long e = (refl, e)
nodes_cut m m' k [] (y ∷ ys) s t long e = absurd (omega (arith, long))
nodes_cut m m' k (x ∷ xs) [] s t long e = absurd (omega (arith, long))
nodes_cut m m' k (x ∷ xs) (y ∷ ys) s t long e =
    let number = decimal k in
    let lines = λ (n : Mesh) (zs : List Point). numbered_texts (node_line n) (k + 1) zs in
    let apart = λ (n : Mesh) (p : Point) (zs : List Point) (r : List ℕ). append_assoc (node_line n k p) (lines n zs) r
    ∙ append_assoc (number ++ (32 ∷ place_text n p)) (10 ∷ []) (lines n zs ++ r) ∙ append_assoc number (32 ∷ place_text n p) (10 ∷ (lines n zs ++ r)) in
    let after = append_cancel_left number _ _ (sym (apart m x xs s) ∙ e ∙ apart m' y ys t) in
    let place = append_cancel_left (32 ∷ []) (place_text m x ++ (10 ∷ (lines m xs ++ s))) (place_text m' y ++ (10 ∷ (lines m' ys ++ t))) after in
    let both = line_cut (place_text m x) (place_text m' y) (lines m xs ++ s) (lines m' ys ++ t) (place_line m.origin m.table.grid x) (place_line m'.origin m'.table.grid y) place in
    let rest = nodes_cut m m' (k + 1) xs ys s t (suc_inj long) both.1 in
    let first : place_text m x ≡ place_text m' y = both.0 in
    let others : map (place_text m) xs ≡ map (place_text m') ys = rest.0 in
    (cc, rest.1)

nodes_part : (m m' : Mesh) → IsTold m → IsTold m' → (s t : List ℕ) → msh_nodes m ++ s ≡ msh_nodes m' ++ t
    → (map (place_text m) (points_of m) ≡ map (place_text m') (points_of m')) × (s ≡ t)
nodes_part m m' told told' s t e =
    let words = codes "$MeshFormat\n2.2 0 8\n$EndMeshFormat\n$Nodes\n" in
    let head = λ (n : Mesh). words ++ decimal (length (points_of n)) ++ codes "\n" in
    let lines = λ (n : Mesh). numbered_texts (node_line n) 1 (points_of n) in
    let end = codes "$EndNodes\n" in
    let apart = λ (n : Mesh) (r : List ℕ). append_assoc (head n ++ lines n) end r ∙ append_assoc (head n) (lines n) (end ++ r) in
    let counts = heading_cut words 10 [] (length (points_of m)) (length (points_of m')) (lines m ++ (end ++ s)) (lines m' ++ (end ++ t)) (λ h. omega (arith, h)) (few m told) (few m' told')
    (sym (apart m s) ∙ e ∙ apart m' t) in
    let both = nodes_cut m m' 1 (points_of m) (points_of m') (end ++ s) (end ++ t) counts.0 counts.1 in
    (both.0, append_cancel_left end s t both.1)
  where
    few : (m : Mesh) → IsTold m → length (points_of m) < 2 ^ 64
    few m told = omega (arith, length-append m.table.listed m.added, told.written.few, told.written.few_added)

-- ---- tags

tag_small : (n : ℕ) → tag_of n < 2 ^ 32
tag_small n = small (nat_le n 2147483647) refl
  where
    small : (b : Bool) → nat_le n 2147483647 ≡ b → (if b then n else 0) < 2 ^ 32
    small true e = let le = leb-true n 2147483647 e in omega (arith, le)
    small false e = omega arith

text_tag_small : (text : List ℕ) → tag_of_text text < 2 ^ 32
text_tag_small text = small (count_of text)
  where
    small : (n : Option ℕ) → tag_of_count n < 2 ^ 32
    small None = omega arith
    small (Some n) = tag_small n

pub marker_tag_small : (z : ℤ) → marker_tag z < 2 ^ 32
marker_tag_small (pos n) = tag_small n
marker_tag_small (negsuc n) = omega arith

-- ---- elements

-- the fields of an element
abbrev fields_of : List ℕ → ℕ → ℕ → List ℕ → List ℤ
fields_of names kind tag corners = pos kind ∷ pos 2 ∷ pos tag ∷ pos tag ∷ map (file_number names 1) corners

fields_short : (names : List ℕ) (kind tag : ℕ) (corners : List ℕ) → kind < 10 → tag < 2 ^ 32 → All (λ n. n < 2 ^ 32) names → AreNamed names corners → All IsShort (fields_of names kind tag corners)
fields_short names kind tag corners lt small told named =
    let last = names_short names 1 corners told (lit< tt) named in
    let one = All-cons IsShort (pos tag) (map (file_number names 1) corners) (let room : tag < 2 ^ 63 = omega (arith, small) in room) last in
    let two = All-cons IsShort (pos tag) (pos tag ∷ map (file_number names 1) corners) (let room : tag < 2 ^ 63 = omega (arith, small) in room) one in
    let three = All-cons IsShort (pos 2) (pos tag ∷ pos tag ∷ map (file_number names 1) corners) (lit< tt) two in
    All-cons IsShort (pos kind) (pos 2 ∷ pos tag ∷ pos tag ∷ map (file_number names 1) corners) (let room : kind < 2 ^ 63 = omega (arith, lt) in room) three

-- elements with the same fields have the same tag and the same corners
element_same : (m m' : Mesh) → IsTold m → m.names ≡ m'.names → (kind tag tag' : ℕ) (ns ms : List ℕ) → AreNamed m.names ns → AreNamed m'.names ms
    → fields_of m.names kind tag ns ≡ fields_of m'.names kind tag' ms → (tag ≡ tag') × (ns ≡ ms)
element_same m m' told same kind tag tag' ns ms named named' e =
    let tags : tag ≡ tag' = ap (λ (zs : List ℤ). unsigned_abs (get_or zs 2 (pos 0))) e in
    let corners : map (file_number m.names 1) ns ≡ map (file_number m'.names 1) ms = ap (λ (zs : List ℤ). drop 4 zs) e in
    let renamed = ap (λ (names : List ℕ). map (file_number names 1) ms) (sym same) in
    (tags, names_same m.names 1 told.apart ns ms named (subst (λ (names : List ℕ). AreNamed names ms) (sym same) named') (corners ∙ renamed))

-- what follows is no tetrahedron
abbrev IsNoTet : List ℕ → Type 0
IsNoTet s = (n : ℕ) (zs : List ℤ) (r : List ℕ) → n < 2 ^ 64 → All IsShort (pos 4 ∷ zs) → s ≡ text_line n (pos 4 ∷ zs) ++ r → ⊥

abbrev HasNames : List ℕ → Tet → Type 0
HasNames names t = AreNamed names (numbers t)

pub tet_tag_small : (m : Mesh) (place : ℕ) → tet_tag m place < 2 ^ 32
tet_tag_small m place = small m.marks
  where
    small : (marks : Option (List (Option ℕ))) → tag_if marks (tag_of_text (attribute_at m place)) < 2 ^ 32
    small None = omega arith
    small (Some marks) = text_tag_small (attribute_at m place)

-- the same places have the same tags
abbrev AreTags : Mesh → Mesh → ℕ → ℕ → Type 0
AreTags m m' from past = (place : ℕ) → from ≤ place → place < past → tet_tag m place ≡ tet_tag m' place

record AreSameTets (m m' : Mesh) (k : ℕ) (xs ys : List Tet) : Type 0 where
  rows : map numbers xs ≡ map numbers ys
  tags : AreTags m m' k (k + length xs)

more_tags : (m m' : Mesh) (k n : ℕ) → tet_tag m k ≡ tet_tag m' k → AreTags m m' (k + 1) (k + 1 + n) → AreTags m m' k (k + suc n)
more_tags m m' k n here later place le lt =
    elim (cases_eq place k) [
      | inl is ↦ ap (tet_tag m) is ∙ here ∙ ap (tet_tag m') (sym is)
      | inr not ↦ later place (omega (arith, le, not)) (omega (arith, lt))
    ]

tets_cut : (m m' : Mesh) → IsTold m → IsTold m' → m.names ≡ m'.names → (k : ℕ) (xs ys : List Tet) (s t : List ℕ) → k + length xs < 2 ^ 33 → k + length ys < 2 ^ 33 → All (HasNames m.names) xs → All (HasNames m'.names) ys
    → IsNoTet s → IsNoTet t → numbered_texts (tet_line m) k xs ++ s ≡ numbered_texts (tet_line m') k ys ++ t → AreSameTets m m' k xs ys × (s ≡ t)
tets_cut m m' told told' same k [] [] s t few few' named named' none none' e =
    (record { rows = refl; tags = λ place le lt. absurd (omega (arith, le, lt)) }, e)
tets_cut m m' told told' same k [] (y ∷ ys) s t few few' named named' none none' e =
    let rest = numbered_texts (tet_line m') (k + 1) ys in
    absurd (none (k + 1) (drop 1 (fields_of m'.names 4 (tet_tag m' k) (numbers y))) (rest ++ t) (omega (arith, few')) (fields_short m'.names 4 (tet_tag m' k) (numbers y) (lit< tt) (tet_tag_small m' k) told'.names (All-head (HasNames m'.names) y ys named'))
    (e ∙ append_assoc (tet_line m' k y) rest t))
tets_cut m m' told told' same k (x ∷ xs) [] s t few few' named named' none none' e =
    let rest = numbered_texts (tet_line m) (k + 1) xs in
    absurd (none' (k + 1) (drop 1 (fields_of m.names 4 (tet_tag m k) (numbers x))) (rest ++ s) (omega (arith, few)) (fields_short m.names 4 (tet_tag m k) (numbers x) (lit< tt) (tet_tag_small m k) told.names (All-head (HasNames m.names) x xs named))
    (sym e ∙ append_assoc (tet_line m k x) rest s))
tets_cut m m' told told' same k (x ∷ xs) (y ∷ ys) s t few few' named named' none none' e =
    let rest = numbered_texts (tet_line m) (k + 1) xs in
    let rest' = numbered_texts (tet_line m') (k + 1) ys in
    let own = All-head (HasNames m.names) x xs named in
    let own' = All-head (HasNames m'.names) y ys named' in
    let whole = sym (append_assoc (tet_line m k x) rest s) ∙ e ∙ append_assoc (tet_line m' k y) rest' t in
    let both = text_line_cut (k + 1) (k + 1) (fields_of m.names 4 (tet_tag m k) (numbers x)) (fields_of m'.names 4 (tet_tag m' k) (numbers y)) (rest ++ s) (rest' ++ t) (omega (arith, few)) (omega (arith, few))
    (fields_short m.names 4 (tet_tag m k) (numbers x) (lit< tt) (tet_tag_small m k) told.names own)
    (fields_short m'.names 4 (tet_tag m' k) (numbers y) (lit< tt) (tet_tag_small m' k) told'.names own') whole in
    let one = element_same m m' told same 4 (tet_tag m k) (tet_tag m' k) (numbers x) (numbers y) own own' both.0 in
    let left = tets_cut m m' told told' same (k + 1) xs ys s t (omega (arith, few)) (omega (arith, few')) (All-tail (HasNames m.names) x xs named) (All-tail (HasNames m'.names) y ys named') none none' both.1 in
    let first : numbers x ≡ numbers y = one.1 in
    let others : map numbers xs ≡ map numbers ys = left.0.rows in
    (record { rows = cc; tags = more_tags m m' k (length xs) one.0 left.0.tags }, left.1)

-- ---- faces

abbrev IsFaceNamed : List ℕ → FaceRow → Type 0
IsFaceNamed names f = AreNamed names (marked_corners f)

abbrev group_of : FaceRow → ℕ
group_of f = marker_tag f.marker

face_fields_short : (m : Mesh) → IsTold m → (f : FaceRow) → IsFaceNamed m.names f → All IsShort (fields_of m.names 2 (group_of f) (marked_corners f))
face_fields_short m told f named = fields_short m.names 2 (group_of f) (marked_corners f) (lit< tt) (marker_tag_small f.marker) told.names named

record AreSameFaces (xs ys : List FaceRow) : Type 0 where
  corners : map marked_corners xs ≡ map marked_corners ys
  groups : map group_of xs ≡ map group_of ys

faces_cut : (m m' : Mesh) → IsTold m → IsTold m' → m.names ≡ m'.names → (k : ℕ) (xs ys : List FaceRow) (s t : List ℕ) → length xs ≡ length ys → k + length xs < 2 ^ 33 → All (IsFaceNamed m.names) xs → All (IsFaceNamed m'.names) ys
    → numbered_texts (triangle_line m) k xs ++ s ≡ numbered_texts (triangle_line m') k ys ++ t → AreSameFaces xs ys × (s ≡ t)
faces_cut m m' told told' same k [] [] s t long few named named' e = (record { corners = refl; groups = refl }, e)
faces_cut m m' told told' same k [] (y ∷ ys) s t long few named named' e = absurd (omega (arith, long))
faces_cut m m' told told' same k (x ∷ xs) [] s t long few named named' e = absurd (omega (arith, long))
faces_cut m m' told told' same k (x ∷ xs) (y ∷ ys) s t long few named named' e =
    let rest = numbered_texts (triangle_line m) (k + 1) xs in
    let rest' = numbered_texts (triangle_line m') (k + 1) ys in
    let own = All-head (IsFaceNamed m.names) x xs named in
    let own' = All-head (IsFaceNamed m'.names) y ys named' in
    let whole = sym (append_assoc (triangle_line m k x) rest s) ∙ e ∙ append_assoc (triangle_line m' k y) rest' t in
    let both = text_line_cut (length m.rows + k + 1) (length m'.rows + k + 1) (fields_of m.names 2 (group_of x) (marked_corners x)) (fields_of m'.names 2 (group_of y) (marked_corners y)) (rest ++ s) (rest' ++ t)
    (omega (arith, few, told.few_rows)) (omega (arith, few, told'.few_rows)) (face_fields_short m told x own) (face_fields_short m' told' y own') whole in
    let one = element_same m m' told same 2 (group_of x) (group_of y) (marked_corners x) (marked_corners y) own own' both.0 in
    let left = faces_cut m m' told told' same (k + 1) xs ys s t (suc_inj long) (omega (arith, few)) (All-tail (IsFaceNamed m.names) x xs named) (All-tail (IsFaceNamed m'.names) y ys named') both.1 in
    let first : marked_corners x ≡ marked_corners y = one.1 in
    let others : map marked_corners xs ≡ map marked_corners ys = left.0.corners in
    let group : group_of x ≡ group_of y = one.0 in
    let groups : map group_of xs ≡ map group_of ys = left.0.groups in
    (record { corners = cc; groups = cc }, left.1)

-- the text behind the tetrahedra
abbrev behind_tets : Mesh → List FaceRow → List ℕ
behind_tets m faces = numbered_texts (triangle_line m) 0 faces ++ codes "$EndElements\n"

no_tet : (m : Mesh) → IsTold m → (faces : List FaceRow) → All (IsFaceNamed m.names) faces → IsNoTet (behind_tets m faces)
no_tet m told [] named n zs r lt short e =
    let both = cut IsInField [] (decimal n) (codes "$EndElements\n") (behind (pos 4 ∷ zs) r) (All-nil IsInField) (decimal_in n) (λ h. omega (arith, h)) (behind_stops (pos 4 ∷ zs) r) (e ∙ text_line_is n (pos 4 ∷ zs) r) in
    let heads = ap (λ (w : List ℕ). get_or w 0 0) both.1 in
    omega (arith, heads)
no_tet m told (f ∷ fs) named n zs r lt short e =
    let rest = numbered_texts (triangle_line m) 1 fs in
    let fields = fields_of m.names 2 (group_of f) (marked_corners f) in
    let own = face_fields_short m told f (All-head (IsFaceNamed m.names) f fs named) in
    let both = text_line_cut (length m.rows + 0 + 1) n fields (pos 4 ∷ zs) (rest ++ codes "$EndElements\n") r (omega (arith, told.few_rows)) lt own short
    (sym (append_assoc (triangle_line m 0 f) rest (codes "$EndElements\n")) ∙ e) in
    let kinds : 2 ≡ 4 = ap (λ (ys : List ℤ). unsigned_abs (get_or ys 0 (pos 0))) both.0 in
    omega (arith, kinds)

pub law_msh_text : MshTextLaw
law_msh_text m m' told told' same e =
    let nodes = nodes_part m m' told told' (msh_elements m) (msh_elements m') e in
    let words = codes "$Elements\n" in
    let count = λ (n : Mesh). length n.rows + length n.faces in
    let head = λ (n : Mesh). words ++ decimal (count n) ++ codes "\n" in
    let tets = λ (n : Mesh). numbered_texts (tet_line n) 0 n.rows in
    let faces = λ (n : Mesh). numbered_texts (triangle_line n) 0 n.faces in
    let end = codes "$EndElements\n" in
    let apart = λ (n : Mesh). append_assoc (head n ++ tets n) (faces n) end ∙ append_assoc (head n) (tets n) (faces n ++ end) in
    let counts = heading_cut words 10 [] (count m) (count m') (tets m ++ (faces m ++ end)) (tets m' ++ (faces m' ++ end)) (λ h. omega (arith, h))
    (omega (arith, told.few_rows, told.few_faces)) (omega (arith, told'.few_rows, told'.few_faces)) (sym (apart m) ∙ nodes.1 ∙ apart m') in
    let row-part = tets_cut m m' told told' same 0 m.rows m'.rows (behind_tets m m.faces) (behind_tets m' m'.faces) (omega (arith, told.few_rows)) (omega (arith, told'.few_rows)) told.written.named told'.written.named
    (no_tet m told m.faces told.written.faces_named) (no_tet m' told' m'.faces told'.written.faces_named) counts.1 in
    let rows = rows_same m.rows m'.rows row-part.0.rows in
    let lengths = ap length rows in
    let long : length m.faces ≡ length m'.faces = omega (arith, counts.0, lengths) in
    let face-part = faces_cut m m' told told' same 0 m.faces m'.faces end end long (omega (arith, told.few_faces)) told.written.faces_named told'.written.faces_named row-part.1 in
    record {
      places = nodes.0;
      rows = rows;
      faces = face-part.0.corners;
      tags = λ place lt. row-part.0.tags place (omega arith) (omega (arith, lt));
      markers = face-part.0.groups;
    }
