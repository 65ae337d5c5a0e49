-- Texts that are appended one behind the other.
use Rattle.std.proofs.Common.{◌≡◌, ℕ, ℤ, zero, suc, ◌+◌, ◌-◌, ◌*◌, ◌<◌, ◌≤◌, length, get_or, drop, take, map, List, [], ◌∷◌, ◌++◌, Option, Result, Ok, Err, refl, sym, ap, ◌∙◌, arith, append_assoc}
use Rattle.std.specs.Prelude.{OnOk}
use Rattle.std.proofs.Math.Seq.{drop-cons}
use Rattle.std.proofs.lemmas.List.{append-nil, at_drop_all}
use Rattle.sign_predicates.specs.Point.{Point, origin}
use Rattle.grid_coords.specs.declared.grid.Grid.{Grid}
use Rattle.grid_coords.specs.declared.origin.WholePoint.{WholePoint}
use Rattle.geo_laws.specs.Delaunay.{point}
use Rattle.node_files.specs.Writing.{whole_text, fields_text, line_text, point_line, point_lines, like_lines}

-- what is written behind a text that was written before
pub written_after : (old front mid new t : List ℕ) → mid ≡ old ++ front → new ≡ mid ++ t → new ≡ old ++ (front ++ t)
written_after old front mid new t first then = then ∙ ap (λ m. m ++ t) first ∙ append_assoc old front t

pub ok_after : {X E : Type 0} (r : Result X E) (old front mid new t : List ℕ) → mid ≡ old ++ front → OnOk r (new ≡ mid ++ t) → OnOk r (new ≡ old ++ (front ++ t))
ok_after (Ok x) old front mid new t first then = written_after old front mid new t first then
ok_after (Err e) old front mid new t first then = tt

pub place_text : (x y z : List ℕ) → (32 ∷ x) ++ ((32 ∷ y) ++ (32 ∷ z)) ≡ fields_text (x ∷ y ∷ z ∷ [])
unfolding fields_text
place_text x y z = ap (λ t. (32 ∷ x) ++ ((32 ∷ y) ++ (32 ∷ t))) (sym (append-nil z))

pub fields_joined : (fs gs : List (List ℕ)) → fields_text (fs ++ gs) ≡ fields_text fs ++ fields_text gs
unfolding fields_text
fields_joined [] gs = refl
fields_joined (f ∷ fs) gs = ap (λ t. 32 ∷ f ++ t) (fields_joined fs gs) ∙ ap (λ t. 32 ∷ t) (sym (append_assoc f (fields_text fs) (fields_text gs)))

pub line_joined : (number : ℤ) (place attributes markers : List (List ℕ)) → whole_text number ++ (fields_text place ++ (fields_text attributes ++ (fields_text markers ++ 10 ∷ []))) ≡ line_text number (place ++ (attributes ++ markers))
unfolding line_text
line_joined number place attributes markers =
    let inner : fields_text (attributes ++ markers) ++ 10 ∷ [] ≡ fields_text attributes ++ (fields_text markers ++ 10 ∷ []) =
    ap (λ t. t ++ 10 ∷ []) (fields_joined attributes markers) ∙ append_assoc (fields_text attributes) (fields_text markers) (10 ∷ []) in
    let outer : fields_text (place ++ (attributes ++ markers)) ++ 10 ∷ [] ≡ fields_text place ++ (fields_text (attributes ++ markers) ++ 10 ∷ []) =
    ap (λ t. t ++ 10 ∷ []) (fields_joined place (attributes ++ markers)) ∙ append_assoc (fields_text place) (fields_text (attributes ++ markers)) (10 ∷ []) in
    ap (λ t. whole_text number ++ t) (sym (outer ∙ ap (λ t. fields_text place ++ t) inner))

-- one field more
from_here : {X : Type 0} (xs : List X) (i : ℕ) (x : X) → i < length xs → x ≡ get_or xs i x → drop i xs ≡ x ∷ drop (i + 1) xs
from_here xs i x lt is =
    let e : suc i ≡ i + 1 = omega arith in
    drop-cons xs i x lt ∙ ap (λ y. y ∷ drop (suc i) xs) (sym is) ∙ ap (λ (j : ℕ). x ∷ drop j xs) e

pub field_more : (old mid new whole : List ℕ) (fs : List (List ℕ)) (i : ℕ) (f : List ℕ) → i < length fs → f ≡ get_or fs i f → mid ≡ old ++ 32 ∷ [] → new ≡ mid ++ f → old ++ fields_text (drop i fs) ≡ whole → new ++ fields_text (drop (i + 1) fs) ≡ whole
unfolding fields_text
field_more old mid new whole fs i f lt is first then so_far =
    let rest = fields_text (drop (i + 1) fs) in
    let e : fields_text (drop i fs) ≡ 32 ∷ f ++ rest = ap fields_text (from_here fs i f lt is) in
    ap (λ t. t ++ rest) (written_after old (32 ∷ []) mid new f first then) ∙ append_assoc old (32 ∷ f) rest ∙ ap (λ t. old ++ t) (sym e) ∙ so_far

pub fields_all : (old whole : List ℕ) (fs : List (List ℕ)) (i : ℕ) → length fs ≤ i → old ++ fields_text (drop i fs) ≡ whole → old ≡ whole
unfolding fields_text
fields_all old whole fs i le so_far = sym (append-nil old) ∙ ap (λ t. old ++ t) (sym (at_drop_all fields_text fs i le)) ∙ so_far

pub marker_more : (old new whole : List ℕ) (ms : List ℤ) (i : ℕ) (m : ℤ) → i < length ms → m ≡ get_or ms i m → new ≡ old ++ 32 ∷ whole_text m → old ++ fields_text (map whole_text (drop i ms)) ≡ whole → new ++ fields_text (map whole_text (drop (i + 1) ms)) ≡ whole
unfolding fields_text
marker_more old new whole ms i m lt is then so_far =
    let rest = fields_text (map whole_text (drop (i + 1) ms)) in
    let e : fields_text (map whole_text (drop i ms)) ≡ 32 ∷ whole_text m ++ rest = ap (λ xs. fields_text (map whole_text xs)) (from_here ms i m lt is) in
    ap (λ t. t ++ rest) then ∙ append_assoc old (32 ∷ whole_text m) rest ∙ ap (λ t. old ++ t) (sym e) ∙ so_far

pub markers_all : (old whole : List ℕ) (ms : List ℤ) (i : ℕ) → length ms ≤ i → old ++ fields_text (map whole_text (drop i ms)) ≡ whole → old ≡ whole
unfolding fields_text
markers_all old whole ms i le so_far = sym (append-nil old) ∙ ap (λ t. old ++ t) (sym (at_drop_all (λ xs. fields_text (map whole_text xs)) ms i le)) ∙ so_far

-- one point more
point_here : (ps : List Point) (i : ℕ) (p : Point) → i < length ps → point ps i ≡ p → drop i ps ≡ p ∷ drop (i + 1) ps
point_here ps i p lt is =
    let e : suc i ≡ i + 1 = omega arith in
    drop-cons ps i origin lt ∙ ap (λ q. q ∷ drop (suc i) ps) is ∙ ap (λ (j : ℕ). p ∷ drop j ps) e

pub alike_more : (old new whole : List ℕ) (o : Option WholePoint) (g : Grid) (first i : ℕ) (ps : List Point) (p : Point) (attributes : List (List ℕ)) (markers : List ℤ) → i < length ps → point ps i ≡ p
    → new ≡ old ++ point_line o g (first + i) p attributes markers → old ++ like_lines o g (first + i) (drop i ps) attributes markers ≡ whole → new ++ like_lines o g (first + (i + 1)) (drop (i + 1) ps) attributes markers ≡ whole
unfolding like_lines
alike_more old new whole o g first i ps p attributes markers lt is then so_far =
    let next : first + (i + 1) ≡ first + i + 1 = omega arith in
    let line = point_line o g (first + i) p attributes markers in
    let rest = like_lines o g (first + i + 1) (drop (i + 1) ps) attributes markers in
    let e : like_lines o g (first + i) (drop i ps) attributes markers ≡ line ++ rest = ap (λ qs. like_lines o g (first + i) qs attributes markers) (point_here ps i p lt is) in
    ap (λ (n : ℕ). new ++ like_lines o g n (drop (i + 1) ps) attributes markers) next ∙ ap (λ t. t ++ rest) then ∙ append_assoc old line rest ∙ ap (λ t. old ++ t) (sym e) ∙ so_far

pub alike_all : (old whole : List ℕ) (o : Option WholePoint) (g : Grid) (number i : ℕ) (ps : List Point) (attributes : List (List ℕ)) (markers : List ℤ) → length ps ≤ i → old ++ like_lines o g number (drop i ps) attributes markers ≡ whole → old ≡ whole
unfolding like_lines
alike_all old whole o g number i ps attributes markers le so_far = sym (append-nil old) ∙ ap (λ t. old ++ t) (sym (at_drop_all (λ qs. like_lines o g number qs attributes markers) ps i le)) ∙ so_far

pub points_more : (old new whole : List ℕ) (o : Option WholePoint) (g : Grid) (each marks first i : ℕ) (ps : List Point) (p : Point) (attributes own rest : List (List ℕ)) (markers mark others : List ℤ) → i < length ps → point ps i ≡ p
    → own ≡ take each attributes → rest ≡ drop each attributes → mark ≡ take marks markers → others ≡ drop marks markers
    → new ≡ old ++ point_line o g (first + i) p own mark → old ++ point_lines o g each marks (first + i) (drop i ps) attributes markers ≡ whole → new ++ point_lines o g each marks (first + (i + 1)) (drop (i + 1) ps) rest others ≡ whole
unfolding point_lines
points_more old new whole o g each marks first i ps p attributes own rest markers mark others lt is own-is rest-is mark-is others-is then so_far =
    let next : first + (i + 1) ≡ first + i + 1 = omega arith in
    let line = point_line o g (first + i) p own mark in
    let left = point_lines o g each marks (first + i + 1) (drop (i + 1) ps) rest others in
    let e : point_lines o g each marks (first + i) (drop i ps) attributes markers ≡ line ++ left =
    ap (λ qs. point_lines o g each marks (first + i) qs attributes markers) (point_here ps i p lt is) ∙ rw (own-is, rest-is, mark-is, others-is) refl in
    ap (λ (n : ℕ). new ++ point_lines o g each marks n (drop (i + 1) ps) rest others) next ∙ ap (λ t. t ++ left) then ∙ append_assoc old line left ∙ ap (λ t. old ++ t) (sym e) ∙ so_far

pub points_all : (old whole : List ℕ) (o : Option WholePoint) (g : Grid) (each marks number i : ℕ) (ps : List Point) (attributes : List (List ℕ)) (markers : List ℤ) → length ps ≤ i → old ++ point_lines o g each marks number (drop i ps) attributes markers ≡ whole → old ≡ whole
unfolding point_lines
points_all old whole o g each marks number i ps attributes markers le so_far = sym (append-nil old) ∙ ap (λ t. old ++ t) (sym (at_drop_all (λ qs. point_lines o g each marks number qs attributes markers) ps i le)) ∙ so_far

-- what a list has at a place does not hang on the default
pub item_default : {X : Type 0} (xs : List X) (i : ℕ) (d e : X) → i < length xs → get_or xs i d ≡ get_or xs i e
item_default [] i d e lt = absurd (omega arith)
item_default (x ∷ xs) zero d e lt = refl
item_default (x ∷ xs) (suc i) d e lt = item_default xs i d e (omega arith)

-- each point takes its share
pub share_left : (each n i whole rest : ℕ) → i < n → whole ≡ each * (n - i) → rest + each ≡ whole → rest ≡ each * (n - (i + 1))
share_left each n i whole rest lt is parts =
    let e : n - i ≡ n - (i + 1) + 1 = omega arith in
    let f : each * (n - i) ≡ each * (n - (i + 1)) + each = ap (λ (k : ℕ). each * k) e ∙ omega arith in
    omega arith

pub share_here : (each n i whole : ℕ) → i < n → whole ≡ each * (n - i) → each ≤ whole
share_here each n i whole lt is =
    let e : n - i ≡ n - (i + 1) + 1 = omega arith in
    let f : each * (n - i) ≡ each * (n - (i + 1)) + each = ap (λ (k : ℕ). each * k) e ∙ omega arith in
    omega arith

pub head_joined : (number : ℤ) (a b c : List ℕ) → whole_text number ++ ((32 ∷ a) ++ ((32 ∷ b) ++ ((32 ∷ c) ++ 10 ∷ []))) ≡ line_text number (a ∷ b ∷ c ∷ [])
unfolding line_text
head_joined number a b c =
    let inner : fields_text (a ∷ b ∷ c ∷ []) ++ 10 ∷ [] ≡ (32 ∷ a) ++ ((32 ∷ b) ++ ((32 ∷ c) ++ 10 ∷ [])) =
    ap (λ t. t ++ 10 ∷ []) (sym (place_text a b c)) ∙ append_assoc (32 ∷ a) ((32 ∷ b) ++ (32 ∷ c)) (10 ∷ []) ∙ ap (λ t. (32 ∷ a) ++ t) (append_assoc (32 ∷ b) (32 ∷ c) (10 ∷ [])) in
    ap (λ t. whole_text number ++ t) (sym inner)
