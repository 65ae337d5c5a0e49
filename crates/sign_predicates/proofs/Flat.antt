-- Where the points of a segment and a triangle lie in one plane, or all on a line.
use Rattle.std.proofs.Common.{◌≡◌, ◌⊎◌, inl, inr, ℤ, pos, neg_ℤ, ◌+ℤ◌, ◌-ℤ◌, ◌*ℤ◌, ◌<ℤ◌, ◌≤ℤ◌, List, [], ◌∷◌, arith}
use Rattle.std.specs.List.{AllByRecursion}
use Rattle.std.proofs.lemmas.Int.{ints}
use Rattle.exact_algebra.proofs.Ring.{Expr, var, num, neg, ring, ring_given, given, same, ◌⊕◌, ◌⊖◌, ◌⊗◌}
use Rattle.exact_algebra.proofs.Signs.{by_sign, squares_zero, square_nonneg}
use Rattle.sign_predicates.specs.Point.{Point, from_to}
use Rattle.sign_predicates.specs.Orientation.{Triangle, normal, dot, side, orient, det}
use Rattle.sign_predicates.specs.Meeting.{segment}
use Rattle.sign_predicates.specs.Turns.{turn, TurnsAbout, IsZeroVector}
use Rattle.sign_predicates.proofs.Terms.{PointE, triangleE, pointE, of_triangle, of_point, sideE, normalE, dotE, crossE, from_toE}
use Rattle.sign_predicates.proofs.Exit.{Exit, along, SomeOf, Leaves, exit}
use Rattle.sign_predicates.proofs.Shared.{Balance, Common, Shared, sum_of_three}
use Rattle.sign_predicates.proofs.Moves.{zero_least, changes, moved, reweigh, drop_a, drop_b, drop_c, from_ab, from_bc, from_ca}

abbrev pub turnE : PointE → PointE → PointE → PointE → Expr
turnE n a b p = dotE n (crossE (from_toE a b) (from_toE a p))

-- ---- a vector is 0, or its length is above 0

square_sum : (a b c : ℤ) → pos 0 ≤ℤ a → pos 0 ≤ℤ b → pos 0 ≤ℤ c → (a +ℤ b +ℤ c) <ℤ pos 0 → ⊥
square_sum a b c h k l n = omega (arith, ints)

pub zero_or_long : (v : Point) → IsZeroVector v ⊎ (pos 0 <ℤ dot v v)
zero_or_long v = by_sign (dot v v)
    (λ l. absurd (square_sum (v.x *ℤ v.x) (v.y *ℤ v.y) (v.z *ℤ v.z) (square_nonneg v.x) (square_nonneg v.y) (square_nonneg v.z) l))
    (λ z. let s = squares_zero v.x v.y v.z z in inl (record { x_is = s.0; y_is = s.1; z_is = s.2 }))
    (λ g. inr g)

pub long_not_zero : (v : Point) → pos 0 <ℤ dot v v → IsZeroVector v → ⊥
long_not_zero v h z = of_zero (λ j. z.x_is j *ℤ z.x_is j +ℤ z.y_is j *ℤ z.y_is j +ℤ z.z_is j *ℤ z.z_is j) h
  where
    of_zero : {a : ℤ} → a ≡ pos 0 → pos 0 <ℤ a → ⊥
    of_zero {a} e h = omega (arith, ints)

-- ---- a point of a triangle's plane: Cramer's rule in the plane

plane_total : (f : Triangle) (p : Point) → turn (normal f) f.b f.c p +ℤ turn (normal f) f.c f.a p +ℤ turn (normal f) f.a f.b p ≡ dot (normal f) (normal f) +ℤ pos 0 +ℤ pos 0
unfolding same turn
plane_total f p =
    let F = triangleE 0 in
    let P = pointE 9 in
    let N = normalE F in
    ring (turnE N F.b F.c P ⊕ turnE N F.c F.a P ⊕ turnE N F.a F.b P) (dotE N N ⊕ num (pos 0) ⊕ num (pos 0)) tt (of_triangle f (of_point p []))

plane_x : (f : Triangle) (p : Point) (b c : ℤ) → side f p ≡ pos 0
    → sum_of_three (turn (normal f) f.b f.c p) (turn (normal f) f.c f.a p) (turn (normal f) f.a f.b p) f.a.x f.b.x f.c.x ≡ sum_of_three (dot (normal f) (normal f)) (pos 0) (pos 0) p.x b c
unfolding same turn orient det
plane_x f p b c e =
    let F = triangleE 0 in
    let P = pointE 9 in
    let N = normalE F in
    ring_given (turnE N F.b F.c P ⊗ F.a.x ⊕ turnE N F.c F.a P ⊗ F.b.x ⊕ turnE N F.a F.b P ⊗ F.c.x) (dotE N N ⊗ P.x ⊕ num (pos 0) ⊗ var 12 ⊕ num (pos 0) ⊗ var 13)
    (given (neg N.x) (sideE F P) (num (pos 0)) ∷ []) tt (of_triangle f (of_point p (b ∷ c ∷ []))) (e, tt)

plane_y : (f : Triangle) (p : Point) (b c : ℤ) → side f p ≡ pos 0
    → sum_of_three (turn (normal f) f.b f.c p) (turn (normal f) f.c f.a p) (turn (normal f) f.a f.b p) f.a.y f.b.y f.c.y ≡ sum_of_three (dot (normal f) (normal f)) (pos 0) (pos 0) p.y b c
unfolding same turn orient det
plane_y f p b c e =
    let F = triangleE 0 in
    let P = pointE 9 in
    let N = normalE F in
    ring_given (turnE N F.b F.c P ⊗ F.a.y ⊕ turnE N F.c F.a P ⊗ F.b.y ⊕ turnE N F.a F.b P ⊗ F.c.y) (dotE N N ⊗ P.y ⊕ num (pos 0) ⊗ var 12 ⊕ num (pos 0) ⊗ var 13)
    (given (neg N.y) (sideE F P) (num (pos 0)) ∷ []) tt (of_triangle f (of_point p (b ∷ c ∷ []))) (e, tt)

plane_z : (f : Triangle) (p : Point) (b c : ℤ) → side f p ≡ pos 0
    → sum_of_three (turn (normal f) f.b f.c p) (turn (normal f) f.c f.a p) (turn (normal f) f.a f.b p) f.a.z f.b.z f.c.z ≡ sum_of_three (dot (normal f) (normal f)) (pos 0) (pos 0) p.z b c
unfolding same turn orient det
plane_z f p b c e =
    let F = triangleE 0 in
    let P = pointE 9 in
    let N = normalE F in
    ring_given (turnE N F.b F.c P ⊗ F.a.z ⊕ turnE N F.c F.a P ⊗ F.b.z ⊕ turnE N F.a F.b P ⊗ F.c.z) (dotE N N ⊗ P.z ⊕ num (pos 0) ⊗ var 12 ⊕ num (pos 0) ⊗ var 13)
    (given (neg N.z) (sideE F P) (num (pos 0)) ∷ []) tt (of_triangle f (of_point p (b ∷ c ∷ []))) (e, tt)

-- the first corner of g, on the plane of f, as a combination of the corners of f
pub plane_balance : (f g : Triangle) → side f g.a ≡ pos 0
    → Balance f g (turn (normal f) f.b f.c g.a) (turn (normal f) f.c f.a g.a) (turn (normal f) f.a f.b g.a) (dot (normal f) (normal f)) (pos 0) (pos 0)
plane_balance f g e = record {
  total = plane_total f g.a;
  x_is = plane_x f g.a g.b.x g.c.x e;
  y_is = plane_y f g.a g.b.y g.c.y e;
  z_is = plane_z f g.a g.b.z g.c.z e;
}

total_above : (a b : ℤ) → a ≡ b +ℤ pos 0 +ℤ pos 0 → pos 0 <ℤ b → pos 0 <ℤ a
total_above a b e h = omega (arith, ints)

total_least : (a b : ℤ) → a ≡ b +ℤ pos 0 +ℤ pos 0 → pos 0 <ℤ b → pos 0 ≤ℤ a
total_least a b e h = omega (arith, ints)

-- a point that no side has on its other side lies in the triangle
pub about_shared : (f g : Triangle) → side f g.a ≡ pos 0 → pos 0 <ℤ dot (normal f) (normal f) → TurnsAbout f g.a → Shared f g
about_shared f g e h t = record {
  i = turn (normal f) f.b f.c g.a;
  j = turn (normal f) f.c f.a g.a;
  k = turn (normal f) f.a f.b g.a;
  l = dot (normal f) (normal f);
  m = pos 0;
  n = pos 0;
  common = record {
    i_least = t.a_least;
    j_least = t.b_least;
    k_least = t.c_least;
    l_least = omega (arith, ints, h);
    m_least = zero_least;
    n_least = zero_least;
    some = total_above _ _ (plane_total f g.a) h;
    balance = plane_balance f g e;
  };
}

-- ---- a triangle on a line

-- three points on a line: a combination of them that comes to nothing
line_x : (f g : Triangle) → IsZeroVector (normal f)
    → sum_of_three (dot (from_to f.a f.b) (from_to f.a f.c) -ℤ dot (from_to f.a f.b) (from_to f.a f.b)) (neg_ℤ (dot (from_to f.a f.b) (from_to f.a f.c))) (dot (from_to f.a f.b) (from_to f.a f.b)) f.a.x f.b.x f.c.x
    ≡ sum_of_three (pos 0) (pos 0) (pos 0) g.a.x g.b.x g.c.x
unfolding same
line_x f g z =
    let F = triangleE 0 in
    let G = triangleE 9 in
    let U = from_toE F.a F.b in
    let V = from_toE F.a F.c in
    let N = normalE F in
    ring_given ((dotE U V ⊖ dotE U U) ⊗ F.a.x ⊕ neg (dotE U V) ⊗ F.b.x ⊕ dotE U U ⊗ F.c.x) (num (pos 0) ⊗ G.a.x ⊕ num (pos 0) ⊗ G.b.x ⊕ num (pos 0) ⊗ G.c.x)
    (given U.z N.y (num (pos 0)) ∷ given (neg U.y) N.z (num (pos 0)) ∷ []) tt (of_triangle f (of_triangle g [])) (z.y_is, (z.z_is, tt))

line_y : (f g : Triangle) → IsZeroVector (normal f)
    → sum_of_three (dot (from_to f.a f.b) (from_to f.a f.c) -ℤ dot (from_to f.a f.b) (from_to f.a f.b)) (neg_ℤ (dot (from_to f.a f.b) (from_to f.a f.c))) (dot (from_to f.a f.b) (from_to f.a f.b)) f.a.y f.b.y f.c.y
    ≡ sum_of_three (pos 0) (pos 0) (pos 0) g.a.y g.b.y g.c.y
unfolding same
line_y f g z =
    let F = triangleE 0 in
    let G = triangleE 9 in
    let U = from_toE F.a F.b in
    let V = from_toE F.a F.c in
    let N = normalE F in
    ring_given ((dotE U V ⊖ dotE U U) ⊗ F.a.y ⊕ neg (dotE U V) ⊗ F.b.y ⊕ dotE U U ⊗ F.c.y) (num (pos 0) ⊗ G.a.y ⊕ num (pos 0) ⊗ G.b.y ⊕ num (pos 0) ⊗ G.c.y)
    (given U.x N.z (num (pos 0)) ∷ given (neg U.z) N.x (num (pos 0)) ∷ []) tt (of_triangle f (of_triangle g [])) (z.z_is, (z.x_is, tt))

line_z : (f g : Triangle) → IsZeroVector (normal f)
    → sum_of_three (dot (from_to f.a f.b) (from_to f.a f.c) -ℤ dot (from_to f.a f.b) (from_to f.a f.b)) (neg_ℤ (dot (from_to f.a f.b) (from_to f.a f.c))) (dot (from_to f.a f.b) (from_to f.a f.b)) f.a.z f.b.z f.c.z
    ≡ sum_of_three (pos 0) (pos 0) (pos 0) g.a.z g.b.z g.c.z
unfolding same
line_z f g z =
    let F = triangleE 0 in
    let G = triangleE 9 in
    let U = from_toE F.a F.b in
    let V = from_toE F.a F.c in
    let N = normalE F in
    ring_given ((dotE U V ⊖ dotE U U) ⊗ F.a.z ⊕ neg (dotE U V) ⊗ F.b.z ⊕ dotE U U ⊗ F.c.z) (num (pos 0) ⊗ G.a.z ⊕ num (pos 0) ⊗ G.b.z ⊕ num (pos 0) ⊗ G.c.z)
    (given U.y N.x (num (pos 0)) ∷ given (neg U.x) N.y (num (pos 0)) ∷ []) tt (of_triangle f (of_triangle g [])) (z.x_is, (z.y_is, tt))

line_total : (a b : ℤ) → (a -ℤ b) +ℤ neg_ℤ a +ℤ b ≡ pos 0 +ℤ pos 0 +ℤ pos 0
unfolding same
line_total a b = ring ((var 0 ⊖ var 1) ⊕ neg (var 0) ⊕ var 1) (num (pos 0) ⊕ num (pos 0) ⊕ num (pos 0)) tt (a ∷ b ∷ [])

line_balance : (f g : Triangle) → IsZeroVector (normal f)
    → Balance f g (dot (from_to f.a f.b) (from_to f.a f.c) -ℤ dot (from_to f.a f.b) (from_to f.a f.b)) (neg_ℤ (dot (from_to f.a f.b) (from_to f.a f.c))) (dot (from_to f.a f.b) (from_to f.a f.b)) (pos 0) (pos 0) (pos 0)
line_balance f g z = record { total = line_total (dot (from_to f.a f.b) (from_to f.a f.c)) (dot (from_to f.a f.b) (from_to f.a f.b)); x_is = line_x f g z; y_is = line_y f g z; z_is = line_z f g z }

-- a common point of some side of f
pub data OnSides (f g : Triangle) : Type 0 where
  on_ab : Shared (segment f.a f.b) g → OnSides f g
  on_bc : Shared (segment f.b f.c) g → OnSides f g
  on_ca : Shared (segment f.c f.a) g → OnSides f g

pub from_sides : (f g : Triangle) → OnSides f g → Shared f g
from_sides f g (on_ab h) = from_ab f g h
from_sides f g (on_bc h) = from_bc f g h
from_sides f g (on_ca h) = from_ca f g h

merge_ab : (i j k a b c : ℤ) → a ≡ b → sum_of_three (i +ℤ j) k (pos 0) b c c ≡ sum_of_three i j k a b c
unfolding same
merge_ab i j k a b c e =
    ring_given ((var 0 ⊕ var 1) ⊗ var 4 ⊕ var 2 ⊗ var 5 ⊕ num (pos 0) ⊗ var 5) (var 0 ⊗ var 3 ⊕ var 1 ⊗ var 4 ⊕ var 2 ⊗ var 5) (given (neg (var 0)) (var 3) (var 4) ∷ []) tt
    (i ∷ j ∷ k ∷ a ∷ b ∷ c ∷ []) (e, tt)

same_of : (a b : ℤ) → b -ℤ a ≡ pos 0 → a ≡ b
same_of a b e = omega (arith, ints)

-- two corners are one point
merged : (f g : Triangle) → Shared f g → IsZeroVector (from_to f.a f.b) → OnSides f g
merged f g h z = on_bc (reweigh f (segment f.b f.c) g h.i h.j h.k h.l h.m h.n (h.i +ℤ h.j) h.k (pos 0) h.common
    (omega (arith, ints, h.common.i_least, h.common.j_least)) h.common.k_least zero_least (omega (arith, ints))
    (merge_ab h.i h.j h.k f.a.x f.b.x f.c.x (same_of f.a.x f.b.x z.x_is)) (merge_ab h.i h.j h.k f.a.y f.b.y f.c.y (same_of f.a.y f.b.y z.y_is)) (merge_ab h.i h.j h.k f.a.z f.b.z f.c.z (same_of f.a.z f.b.z z.z_is)))

-- no weight of the second triangle leaves along a balance that doesn't lower them
stays : (d : ℤ) → d <ℤ pos 0 → pos 0 ≤ℤ d → ⊥
stays d h k = omega (arith, ints)

-- where the first weight that leaves is one of f, a side of f has a common point
pub left : (f g : Triangle) (i j k l m n di dj dk dl dm dn : ℤ) → Common f g i j k l m n → Balance f g di dj dk dl dm dn → pos 0 ≤ℤ (di +ℤ dj +ℤ dk)
    → pos 0 ≤ℤ dl → pos 0 ≤ℤ dm → pos 0 ≤ℤ dn → (x : Exit (changes i j k l m n di dj dk dl dm dn)) → OnSides f g
left f g i j k l m n di dj dk dl dm dn c d h hl hm hn x = go x.hit
  where
    c' : Common f g (along x.s x.t (i, di)) (along x.s x.t (j, dj)) (along x.s x.t (k, dk)) (along x.s x.t (l, dl)) (along x.s x.t (m, dm)) (along x.s x.t (n, dn))
    c' = moved f g i j k l m n di dj dk dl dm dn c d h x

    go : SomeOf (Leaves x.s x.t) (changes i j k l m n di dj dk dl dm dn) → OnSides f g
    go (inl e) = on_bc (drop_a c' e.1)
    go (inr (inl e)) = on_ca (drop_b c' e.1)
    go (inr (inr (inl e))) = on_ab (drop_c c' e.1)
    go (inr (inr (inr (inl e)))) = absurd (stays dl e.0 hl)
    go (inr (inr (inr (inr (inl e))))) = absurd (stays dm e.0 hm)
    go (inr (inr (inr (inr (inr (inl e)))))) = absurd (stays dn e.0 hn)
    go (inr (inr (inr (inr (inr (inr e)))))) = absurd e

-- ---- a triangle on a line is its sides

all_none : (a b : ℤ) → pos 0 ≤ℤ (a -ℤ b) → pos 0 ≤ℤ neg_ℤ a → pos 0 <ℤ b → ⊥
all_none a b h k l = omega (arith, ints)

abbrev Ended : List (ℤ × ℤ) → Type 0
Ended es = AllByRecursion (λ e. pos 0 ≤ℤ e.1) es ⊎ Exit es

-- the weights, each with its change along the combination that comes to nothing
abbrev line_changes : (f g : Triangle) → Shared f g → List (ℤ × ℤ)
line_changes f g h =
    changes h.i h.j h.k h.l h.m h.n (dot (from_to f.a f.b) (from_to f.a f.c) -ℤ dot (from_to f.a f.b) (from_to f.a f.b)) (neg_ℤ (dot (from_to f.a f.b) (from_to f.a f.c))) (dot (from_to f.a f.b) (from_to f.a f.b)) (pos 0) (pos 0) (pos 0)

starts_line : (f g : Triangle) (h : Shared f g) → AllByRecursion (λ (e : ℤ × ℤ). pos 0 ≤ℤ e.0) (line_changes f g h)
starts_line f g h = (h.common.i_least, (h.common.j_least, (h.common.k_least, (h.common.l_least, (h.common.m_least, (h.common.n_least, tt))))))

line_sides : (f g : Triangle) → IsZeroVector (normal f) → Shared f g → OnSides f g
line_sides f g z h = by (zero_or_long (from_to f.a f.b))
  where
    by : IsZeroVector (from_to f.a f.b) ⊎ (pos 0 <ℤ dot (from_to f.a f.b) (from_to f.a f.b)) → OnSides f g
    by (inl e) = merged f g h e
    by (inr long) = go (exit (line_changes f g h) (starts_line f g h))
      where
        total : (a b : ℤ) → pos 0 ≤ℤ ((a -ℤ b) +ℤ neg_ℤ a +ℤ b)
        total a b = omega (arith, ints)

        go : Ended (line_changes f g h) → OnSides f g
        go (inl all) = absurd (all_none (dot (from_to f.a f.b) (from_to f.a f.c)) (dot (from_to f.a f.b) (from_to f.a f.b)) all.0 all.1.0 long)
        go (inr x) =
            left f g h.i h.j h.k h.l h.m h.n (dot (from_to f.a f.b) (from_to f.a f.c) -ℤ dot (from_to f.a f.b) (from_to f.a f.b)) (neg_ℤ (dot (from_to f.a f.b) (from_to f.a f.c))) (dot (from_to f.a f.b) (from_to f.a f.b)) (pos 0) (pos 0) (pos 0)
            h.common (line_balance f g z) (total (dot (from_to f.a f.b) (from_to f.a f.c)) (dot (from_to f.a f.b) (from_to f.a f.b))) zero_least zero_least zero_least x

-- ---- with the first corner of g in the plane of f: it lies in f, or the common point may be moved to a side

-- the weights, each with its change towards that corner
abbrev plane_changes : (f g : Triangle) → Shared f g → List (ℤ × ℤ)
plane_changes f g h = changes h.i h.j h.k h.l h.m h.n (turn (normal f) f.b f.c g.a) (turn (normal f) f.c f.a g.a) (turn (normal f) f.a f.b g.a) (dot (normal f) (normal f)) (pos 0) (pos 0)

starts_plane : (f g : Triangle) (h : Shared f g) → AllByRecursion (λ (e : ℤ × ℤ). pos 0 ≤ℤ e.0) (plane_changes f g h)
starts_plane f g h = (h.common.i_least, (h.common.j_least, (h.common.k_least, (h.common.l_least, (h.common.m_least, (h.common.n_least, tt))))))

pub flat_cases : (f g : Triangle) → side f g.a ≡ pos 0 → Shared f g → ((pos 0 <ℤ dot (normal f) (normal f)) × TurnsAbout f g.a) ⊎ OnSides f g
flat_cases f g e h = by (zero_or_long (normal f))
  where
    by : IsZeroVector (normal f) ⊎ (pos 0 <ℤ dot (normal f) (normal f)) → ((pos 0 <ℤ dot (normal f) (normal f)) × TurnsAbout f g.a) ⊎ OnSides f g
    by (inl z) = inr (line_sides f g z h)
    by (inr long) = go (exit (plane_changes f g h) (starts_plane f g h))
      where
        go : Ended (plane_changes f g h) → ((pos 0 <ℤ dot (normal f) (normal f)) × TurnsAbout f g.a) ⊎ OnSides f g
        go (inl all) = inl (long, record { a_least = all.0; b_least = all.1.0; c_least = all.1.1.0 })
        go (inr x) =
            inr (left f g h.i h.j h.k h.l h.m h.n (turn (normal f) f.b f.c g.a) (turn (normal f) f.c f.a g.a) (turn (normal f) f.a f.b g.a) (dot (normal f) (normal f)) (pos 0) (pos 0)
            h.common (plane_balance f g e) (total_least _ _ (plane_total f g.a) long) (omega (arith, ints, long)) zero_least zero_least x)
