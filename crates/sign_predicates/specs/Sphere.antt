-- Inside and outside of the sphere through the corners of a tetrahedron, where ties are broken by the points' numbers.
use Rattle.std.specs.Prelude.{◌≡◌, ℤ, pos, ◌+◌, ◌≤ℤ◌, ◌+ℤ◌, ◌-ℤ◌, ◌*ℤ◌, ℕ, ◌*◌, ◌^◌, ◌≤◌, unsigned_abs, Bool, ◌&&◌, ◌||◌, if◌then◌else◌, int_lt, int_le, nat_lt, List, [], ◌∷◌, map, filter}
use Rattle.std.specs.List.{list_all, list_any}
use Rattle.sign_predicates.specs.Point.{Point, from_to}
use Rattle.sign_predicates.specs.Orientation.{dot, det, Triangle, side, opposite_a, opposite_b, opposite_c, opposite_d}
use Rattle.sign_predicates.specs.declared.tetrahedron.Corners.{Corners}
use Rattle.sign_predicates.specs.declared.tetrahedron.Numbers.{Numbers}
use Rattle.sign_predicates.specs.declared.sphere.Heights.{Heights}
use Rattle.sign_predicates.specs.declared.volumes.WideVolumes.{WideVolumes}

-- the square of a vector's length
abbrev pub square_length : Point → ℤ
square_length v = dot v v

abbrev pub squares : Point → Point → Point → Point → Heights
squares a b c d = record { a = square_length a; b = square_length b; c = square_length c; d = square_length d }

-- each is the square of the length of a vector between two points of the grid
pub record AreGridSquares (h : Heights) : Type 0 where
  pub a_small : unsigned_abs h.a ≤ 3 * 2 ^ 60
  pub b_small : unsigned_abs h.b ≤ 3 * 2 ^ 60
  pub c_small : unsigned_abs h.c ≤ 3 * 2 ^ 60
  pub d_small : unsigned_abs h.d ≤ 3 * 2 ^ 60
  pub a_above : pos 0 ≤ℤ h.a
  pub b_above : pos 0 ≤ℤ h.b
  pub c_above : pos 0 ≤ℤ h.c
  pub d_above : pos 0 ≤ℤ h.d

-- each is that of a vector between two points of the grid, which may have weights
pub record AreHeights (h : Heights) : Type 0 where
  pub a_small : unsigned_abs h.a ≤ 7 * 2 ^ 59
  pub b_small : unsigned_abs h.b ≤ 7 * 2 ^ 59
  pub c_small : unsigned_abs h.c ≤ 7 * 2 ^ 59
  pub d_small : unsigned_abs h.d ≤ 7 * 2 ^ 59

-- the sizes of the heights together
abbrev pub total_size : Heights → ℕ
total_size h = unsigned_abs h.a + unsigned_abs h.b + unsigned_abs h.c + unsigned_abs h.d

-- each height times the determinant without its corner, with alternating signs
abbrev pub lifted_sum : Heights → WideVolumes → ℤ
lifted_sum h v = h.a *ℤ v.a -ℤ h.b *ℤ v.b +ℤ h.c *ℤ v.c -ℤ h.d *ℤ v.d

-- for a positive tetrahedron: below 0 where e is outside of the sphere through its corners, 0 where it is on it
unfoldable pub in_sphere : Corners → Point → ℤ
in_sphere t e =
    let a = from_to e t.a in
    let b = from_to e t.b in
    let c = from_to e t.c in
    let d = from_to e t.d in
    square_length a *ℤ det b c d -ℤ square_length b *ℤ det a c d +ℤ square_length c *ℤ det a b d -ℤ square_length d *ℤ det a b c

-- the corners' numbers, each with the face opposite that corner
abbrev pub opposite_faces : Corners → Numbers → List (ℕ × Triangle)
opposite_faces t n = (n.a, opposite_a t) ∷ (n.b, opposite_b t) ∷ (n.c, opposite_c t) ∷ (n.d, opposite_d t) ∷ []

-- the numbers of the corners that lie on the other side of their opposite face than e
abbrev pub across : Corners → Numbers → Point → List ℕ
across t n e = map (λ f. f.0) (filter (λ f. int_lt (side f.1 e) (pos 0)) (opposite_faces t n))

-- the numbers of the corners that lie on the same side of their opposite face as e
abbrev pub alongside : Corners → Numbers → Point → List ℕ
alongside t n e = map (λ f. f.0) (filter (λ f. int_lt (pos 0) (side f.1 e)) (opposite_faces t n))

-- the lesser of two numbers, or the second where the first doesn't count
abbrev pub least_of : Bool → ℕ → ℕ → ℕ
least_of counts i least = if counts && nat_lt i least then i else least

-- For a point on the sphere: the least number decides, of e and of the corners whose opposite face's plane doesn't hold e.
-- e and the corners across their face are for outside.
abbrev pub wins_tie : Corners → Numbers → Point → ℕ → Bool
wins_tie t n e m = list_any (λ i. list_all (nat_lt i) (alongside t n e)) (m ∷ across t n e)

-- the number of these two parts
unfoldable pub in_parts : ℤ → ℤ → ℤ
in_parts high low = pos (2 ^ 48) *ℤ high +ℤ low

-- two numbers of one sign
pub record HaveOneSign (x y : ℤ) : Type 0 where
  pub below : int_lt x (pos 0) ≡ int_lt y (pos 0)
  pub above : int_lt (pos 0) x ≡ int_lt (pos 0) y

-- the signs of four numbers say on which side of the face opposite each corner e lies
pub record AreSides (a b c d : ℤ) (t : Corners) (e : Point) : Type 0 where
  pub a_side : HaveOneSign a (side (opposite_a t) e)
  pub b_side : HaveOneSign b (side (opposite_b t) e)
  pub c_side : HaveOneSign c (side (opposite_c t) e)
  pub d_side : HaveOneSign d (side (opposite_d t) e)

-- how a tie ends at any point that lies on these sides of the faces of some tetrahedron
abbrev pub IsTieBySides : Bool → ℤ → ℤ → ℤ → ℤ → Numbers → ℕ → Type 0
IsTieBySides wins a b c d n m = (t : Corners) (e : Point) → AreSides a b c d t e → wins ≡ wins_tie t n e m

-- whether e, with the number m, is outside of the positive tetrahedron t, where ties are decided by the numbers
abbrev pub is_outside : Corners → Numbers → Point → ℕ → Bool
is_outside t n e m = int_lt (in_sphere t e) (pos 0) || int_le (in_sphere t e) (pos 0) && wins_tie t n e m
