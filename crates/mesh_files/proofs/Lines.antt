-- Texts that are made line by line.
use Rattle.std.proofs.Common.{◌≡◌, ◌++◌, ◌+◌, ◌<◌, ℕ, List, length, drop, sym, ap, ◌∙◌, append_assoc, suc, add-one, append-nil, get_or, drop-cons, arith}
use Rattle.std.specs.Prelude.{flat_map, map, [], ◌∷◌, Option, Some}
use Rattle.std.specs.Fmt.{decimal, signed_decimal}
use Rattle.geo_laws.specs.Delaunay.{numbers}
use Rattle.geo_laws.specs.declared.tetrahedra.Tet.{Tet}
use Rattle.std.proofs.lemmas.List.{get_or-map}
use Rattle.geo_laws.specs.declared.complex.Region.{Region}
use Rattle.mesh_files.specs.Texts.{attribute_of, fields_then, marked_line, file_number}
use Rattle.std.specs.List.{enumerate_from}

-- the lines of items, numbered from a place
abbrev pub lines_from : {X : Type 0} → (ℕ → X → List ℕ) → ℕ → List X → List ℕ
lines_from line place xs = flat_map (λ r. line r.0 r.1) (enumerate_from place xs)

-- the lines of the items from a place on are that place's line and those after it
lines_from-drop : {X : Type 0} (line : ℕ → X → List ℕ) (i : ℕ) (xs : List X) (x : X) → i < length xs → get_or xs i x ≡ x
    → lines_from line i (drop i xs) ≡ line i x ++ lines_from line (i + 1) (drop (i + 1) xs)
lines_from-drop line i xs x h e =
    ap (lines_from line i) (drop-cons xs i x h)
    ∙ ap (λ y. line i y ++ lines_from line (i + 1) (drop (suc i) xs)) e
    ∙ ap (λ k. line i x ++ lines_from line (i + 1) (drop k xs)) (sym (add-one i))

-- after a line is appended, the text so far and the lines that are left still make up the whole
pub next_line : {X : Type 0} (line : ℕ → X → List ℕ) (i : ℕ) (xs : List X) (x : X) (out new whole : List ℕ) → i < length xs → get_or xs i x ≡ x → new ≡ out ++ line i x
    → out ++ lines_from line i (drop i xs) ≡ whole → new ++ lines_from line (i + 1) (drop (i + 1) xs) ≡ whole
next_line line i xs x out new whole h e added left =
    ap (λ s. s ++ lines_from line (i + 1) (drop (i + 1) xs)) added
    ∙ append_assoc out _ _
    ∙ ap (λ s. out ++ s) (sym (lines_from-drop line i xs x h e))
    ∙ left

-- the lines of items and of one more are the lines of the items and its own
lines_from-push : {X : Type 0} (line : ℕ → X → List ℕ) (place : ℕ) (xs : List X) (x : X) → lines_from line place (xs ++ x ∷ []) ≡ lines_from line place xs ++ line (place + length xs) x
lines_from-push line place [] x = append-nil (line place x) ∙ ap (λ n. line n x) (omega arith)
lines_from-push line place (y ∷ xs) x =
    ap (λ s. line place y ++ s) (lines_from-push line (place + 1) xs x)
    ∙ sym (append_assoc (line place y) (lines_from line (place + 1) xs) _)
    ∙ ap (λ n. (line place y ++ lines_from line (place + 1) xs) ++ line n x) (omega arith)

-- after a line is appended, the text is that of one item more
pub line_pushed : {X : Type 0} (line : ℕ → X → List ℕ) (place : ℕ) (xs : List X) (x : X) (out head : List ℕ) → place ≡ length xs → out ≡ head ++ lines_from line 0 xs
    → out ++ line place x ≡ head ++ lines_from line 0 (xs ++ x ∷ [])
line_pushed line place xs x out head long e =
    ap (λ s. s ++ line place x) e
    ∙ append_assoc head (lines_from line 0 xs) (line place x)
    ∙ ap (λ n. head ++ (lines_from line 0 xs ++ line n x)) (omega (arith, long))
    ∙ ap (λ s. head ++ s) (sym (lines_from-push line 0 xs x))

-- a line with a last field that is appended on its own
last_field : (out front last : List ℕ) → (out ++ (front ++ (32 ∷ []))) ++ last ≡ out ++ (front ++ (32 ∷ last))
last_field out front last = append_assoc out (front ++ (32 ∷ [])) last ∙ ap (λ s. out ++ s) (append_assoc front (32 ∷ []) last)

-- as the attribute of a row is
pub line_with_mark : (regions : List Region) (names : List ℕ) (first place : ℕ) (row : Tet) (mark : Option ℕ) (out begun whole : List ℕ)
    → begun ≡ out ++ fields_then (place + first) (map (file_number names first) (numbers row)) (32 ∷ []) → whole ≡ begun ++ (attribute_of regions mark ++ (10 ∷ []))
    → whole ≡ out ++ marked_line regions names first place row mark
line_with_mark regions names first place row mark out begun whole e f =
    f ∙ ap (λ s. s ++ (attribute_of regions mark ++ (10 ∷ []))) e
    ∙ last_field out (decimal (place + first) ++ flat_map (λ z. 32 ∷ signed_decimal z) (map (file_number names first) (numbers row))) (attribute_of regions mark ++ (10 ∷ []))

-- the attribute of a region that is there
pub attribute_at : (regions : List Region) (mark : Option ℕ) (k : ℕ) (r : Region) → mark ≡ Some k → k < length regions → ((d : Region) → get_or regions k d ≡ r) → r.attribute ≡ attribute_of regions mark
attribute_at regions mark k r e l at = sym (ap (attribute_of regions) e ∙ get_or-map (λ (x : Region). x.attribute) regions k r [] l ∙ ap (λ x. x.attribute) (at r))
