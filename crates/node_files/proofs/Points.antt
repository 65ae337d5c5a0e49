-- Points one after the other, as a loop reads them.
use Rattle.std.proofs.Common.{◌≡◌, ℕ, suc, ◌+◌, ◌-◌, ◌<◌, ◌≤◌, List, [], ◌∷◌, ◌++◌, Option, Some, None, Result, Ok, Err, refl, sym, ap, ◌∙◌, append_assoc, arith}
use Rattle.std.proofs.lemmas.List.{append-nil}
use Rattle.tet_text.specs.declared.fault.TextFault.{TextFault}
use Rattle.tet_text.specs.Lines.{ContentLine}
use Rattle.tet_text.specs.Reading.{◌>>=◌, line_at}
use Rattle.node_files.specs.declared.header.Header.{Header}
use Rattle.node_files.specs.declared.node_text.NodeText.{NodeText}
use Rattle.node_files.specs.declared.fault.NodeFault.{NodeFault}
use Rattle.node_files.specs.declared.fault.NodeFault.TheVariants as faults
use Rattle.node_files.specs.Outcome.{NodeFails}
use Rattle.node_files.specs.Point.{ListedPoint, point_of}
use Rattle.node_files.specs.Node.{points_of, first_with, first_number, with_point, point_onto, points_table, listed_text}
use Rattle.grid_coords.specs.declared.points.DecimalPoint.{DecimalPoint}
use Rattle.std.specs.List.{flat_map}
use Rattle.std.specs.Prelude.{ℤ, map}

-- the table with further points
abbrev pub with_points : Option ℕ → NodeText → List ListedPoint → NodeText
with_points before text [] = text
with_points before text (point ∷ points) = with_points (Some point.number) (with_point before text point) points

abbrev pub Read : Type 0
Read = Result (NodeText × List ContentLine) TextFault

-- the table so far, and the points that are read now
abbrev pub joined : Option ℕ → NodeText → Result (List ListedPoint × List ContentLine) TextFault → Read
joined before text read = read >>= λ x. Ok (with_points before text x.0, x.1)

-- a step that gave a value
pub bind_ok : {A B : Type 0} (r : Result A TextFault) (f : A → Result B TextFault) (y : B) → (r >>= f) ≡ Ok y → (x : A) × (r ≡ Ok x) × (f x ≡ Ok y)
bind_ok (Ok x) f y e = (x, refl, e)
bind_ok (Err fault) f y e = absurd cc

bind_err : {A B : Type 0} (r : Result A TextFault) (f : A → B) (fault : TextFault) → (r >>= λ x. Ok (f x)) ≡ Err fault → r ≡ Err fault
bind_err (Ok x) f fault e = absurd cc
bind_err (Err other) f fault e = cc

abbrev pub done : {A : Type 0} → A → Result A TextFault
done x = Ok x

pub ok_is : {A : Type 0} (x y : A) → done x ≡ done y → x ≡ y
ok_is x y e = cc

regroup : (before : Option ℕ) (text : NodeText) (point : ListedPoint) (read : Result (List ListedPoint × List ContentLine) TextFault) → joined before text (read >>= λ x. Ok (point ∷ x.0, x.1)) ≡ joined (Some point.number) (with_point before text point) read
regroup before text point (Ok x) = refl
regroup before text point (Err fault) = refl

one_more : (header : Header) (before : Option ℕ) (text : NodeText) (i total : ℕ) (lines rest : List ContentLine) (line : ContentLine) (point : ListedPoint) → i < header.count → line_at total lines ≡ Ok (line, rest)
    → point_of header.attribute_count header.flag before line ≡ Ok point
    → joined before text (points_of header.attribute_count header.flag before (header.count - i) total lines) ≡ joined (Some point.number) (with_point before text point) (points_of header.attribute_count header.flag (Some point.number) (header.count - (i + 1)) total rest)
unfolding points_of
one_more header before text i total lines rest line point lt line-is point-is =
    let left : header.count - i ≡ suc (header.count - (i + 1)) = omega arith in
    rw (left, line-is, point-is) (regroup before text point (points_of header.attribute_count header.flag (Some point.number) (header.count - (i + 1)) total rest))

pub points_more : (header : Header) (before : Option ℕ) (text next : NodeText) (number i total : ℕ) (lines rest : List ContentLine) (line : ContentLine) (whole : Read) → i < header.count → line_at total lines ≡ Ok (line, rest)
    → point_onto header before line text ≡ Ok (number, next) → joined before text (points_of header.attribute_count header.flag before (header.count - i) total lines) ≡ whole
    → joined (Some number) next (points_of header.attribute_count header.flag (Some number) (header.count - (i + 1)) total rest) ≡ whole
points_more header before text next number i total lines rest line whole lt line-is point-is so_far =
    let found = bind_ok (point_of header.attribute_count header.flag before line) (λ point. Ok (point.number, with_point before text point)) (number, next) point-is in
    let point = found.0 in
    let made : (point.number, with_point before text point) ≡ (number, next) = ok_is (point.number, with_point before text point) (number, next) found.2 in
    let one = one_more header before text i total lines rest line point lt line-is found.1 in
    let same = ap (λ (p : ℕ × NodeText). joined (Some p.0) p.1 (points_of header.attribute_count header.flag (Some p.0) (header.count - (i + 1)) total rest)) made in
    sym same ∙ sym one ∙ so_far

-- the text ends where a line is wanted
pub points_end : (header : Header) (before : Option ℕ) (text : NodeText) (i total : ℕ) (lines : List ContentLine) (fault : TextFault) (whole : Read) → i < header.count → line_at total lines ≡ Err fault
    → joined before text (points_of header.attribute_count header.flag before (header.count - i) total lines) ≡ whole → whole ≡ Err fault
unfolding points_of
points_end header before text i total lines fault whole lt line-is so_far =
    let left : header.count - i ≡ suc (header.count - (i + 1)) = omega arith in
    let one : joined before text (points_of header.attribute_count header.flag before (header.count - i) total lines) ≡ Err fault = rw (left, line-is) refl in
    sym so_far ∙ one

-- a point's line has a fault
pub points_stop : (header : Header) (before : Option ℕ) (text : NodeText) (i total : ℕ) (lines rest : List ContentLine) (line : ContentLine) (fault : NodeFault) (whole : Read) → i < header.count → line_at total lines ≡ Ok (line, rest)
    → NodeFails fault (point_onto header before line text) → joined before text (points_of header.attribute_count header.flag before (header.count - i) total lines) ≡ whole → NodeFails fault whole
unfolding points_of
points_stop header before text i total lines rest line faults.NoMemory whole lt line-is fails so_far = tt
points_stop header before text i total lines rest line (faults.TooMany count most) whole lt line-is fails so_far = elim fails [ ]
points_stop header before text i total lines rest line (faults.Range at) whole lt line-is fails so_far = elim fails [ ]
points_stop header before text i total lines rest line (faults.Text fault) whole lt line-is fails so_far =
    let left : header.count - i ≡ suc (header.count - (i + 1)) = omega arith in
    let failed = bind_err (point_of header.attribute_count header.flag before line) (λ point. (point.number, with_point before text point)) fault fails in
    let one : joined before text (points_of header.attribute_count header.flag before (header.count - i) total lines) ≡ Err fault = rw (left, line-is, failed) refl in
    sym so_far ∙ one

pub points_all : (header : Header) (before : Option ℕ) (text : NodeText) (i total : ℕ) (lines : List ContentLine) (whole : Read) → header.count ≤ i → joined before text (points_of header.attribute_count header.flag before (header.count - i) total lines) ≡ whole → whole ≡ Ok (text, lines)
unfolding points_of
points_all header before text i total lines whole le so_far =
    let none : header.count - i ≡ 0 = omega arith in
    let one : joined before text (points_of header.attribute_count header.flag before (header.count - i) total lines) ≡ Ok (text, lines) = rw none refl in
    sym so_far ∙ one

-- the first number, where these points come behind `before`
abbrev first_behind : Option ℕ → ℕ → List ListedPoint → ℕ
first_behind None first [] = first
first_behind None first (point ∷ points) = point.number
first_behind (Some before) first points = first

abbrev table : NodeText → ℕ → List DecimalPoint → List (List ℕ) → List ℤ → NodeText
table text first decimals attributes markers = record text { first = first; decimals = decimals; attributes = attributes; markers = markers }

same_table : (text : NodeText) (f g : ℕ) (d e : List DecimalPoint) (a b : List (List ℕ)) (m n : List ℤ) → f ≡ g → d ≡ e → a ≡ b → m ≡ n → table text f d a m ≡ table text g e b n
same_table text f g d e a b m n ff dd aa mm = cc

behind_is : (before : Option ℕ) (first : ℕ) (point : ListedPoint) (points : List ListedPoint) → first_with before first point.number ≡ first_behind before first (point ∷ points)
behind_is None first point points = refl
behind_is (Some b) first point points = refl

behind_none : (before : Option ℕ) (first : ℕ) → first ≡ first_behind before first []
behind_none None first = refl
behind_none (Some b) first = refl

-- the points put onto a table, all at once
with_points_is : (before : Option ℕ) (text : NodeText) (points : List ListedPoint)
    → with_points before text points ≡ table text (first_behind before text.first points) (text.decimals ++ map (λ point. point.place) points) (text.attributes ++ flat_map (λ point. point.attributes) points) (text.markers ++ flat_map (λ point. point.markers) points)
with_points_is before text [] = same_table text _ _ _ _ _ _ _ _ (behind_none before text.first) (sym (append-nil text.decimals)) (sym (append-nil text.attributes)) (sym (append-nil text.markers))
with_points_is before text (point ∷ points) =
    with_points_is (Some point.number) (with_point before text point) points
    ∙ same_table text _ _ _ _ _ _ _ _ (behind_is before text.first point points) (append_assoc text.decimals (point.place ∷ []) (map (λ p. p.place) points)) (append_assoc text.attributes point.attributes (flat_map (λ p. p.attributes) points)) (append_assoc text.markers point.markers (flat_map (λ p. p.markers) points))

abbrev pub empty : Header → NodeText
empty header = record { first = 1; attribute_count = header.attribute_count; flag = header.flag; decimals = []; attributes = []; markers = [] }

first_is : (points : List ListedPoint) → first_behind None 1 points ≡ first_number points
first_is [] = refl
first_is (point ∷ points) = refl

joined_is : (header : Header) (read : Result (List ListedPoint × List ContentLine) TextFault) → joined None (empty header) read ≡ (read >>= λ x. Ok (listed_text header x.0, x.1))
joined_is header (Ok x) =
    let whole : with_points None (empty header) x.0 ≡ listed_text header x.0 = with_points_is None (empty header) x.0 ∙ same_table (empty header) _ _ _ _ _ _ _ _ (first_is x.0) refl refl refl in
    ap (λ (text : NodeText). let made : Read = Ok (text, x.1) in made) whole
joined_is header (Err fault) = refl

pub points_none : (header : Header) (total : ℕ) (lines : List ContentLine) → joined None (empty header) (points_of header.attribute_count header.flag None header.count total lines) ≡ points_table header total lines
unfolding points_table
points_none header total lines = joined_is header (points_of header.attribute_count header.flag None header.count total lines)
