-- The least number for outside against the least one for inside decides a tie.
use Rattle.std.proofs.Common.{◌≡◌, ℕ, ◌<◌, ℤ, Bool, true, false, cond, ◌&&◌, ◌||◌, nat_lt, List, [], ◌∷◌, map, filter, refl, sym, ap, ◌∙◌, arith, pos}
use Rattle.std.specs.Prelude.{int_lt}
use Rattle.std.specs.List.{list_all, list_any, AllByRecursion}
use Rattle.std.proofs.lemmas.Bool.Decides.{nat_tests}
use Rattle.std.proofs.lemmas.Int.{ints}
use Rattle.sign_predicates.specs.Point.{Point}
use Rattle.sign_predicates.specs.Orientation.{Triangle, side}
use Rattle.sign_predicates.specs.declared.tetrahedron.Corners.{Corners}
use Rattle.sign_predicates.specs.declared.tetrahedron.Numbers.{Numbers}
use Rattle.sign_predicates.specs.Sign.{IsSignOf}
use Rattle.sign_predicates.specs.declared.tetrahedron.Sign.{Sign}
use Rattle.sign_predicates.specs.declared.tetrahedron.Sign.TheVariants.{Below, Zero, Above}
use Rattle.sign_predicates.specs.Sphere.{least_of, wins_tie, opposite_faces, alongside, HaveOneSign}

pub lt_least : (b : Bool) (i x l : ℕ) → nat_lt i (least_of b x l) ≡ cond b (nat_lt i x && nat_lt i l) (nat_lt i l)
lt_least true i x l = grind (arith, nat_tests)
lt_least false i x l = refl

pub least_lt : (b : Bool) (x r l : ℕ) → nat_lt (least_of b x r) l ≡ cond b (nat_lt x l || nat_lt r l) (nat_lt r l)
least_lt true x r l = grind (arith, nat_tests)
least_lt false x r l = refl

-- the least number of the items that pass, or the base
abbrev pub least_in : {X : Type 0} → (X → Bool) → (X → ℕ) → List X → ℕ → ℕ
least_in q f [] base = base
least_in q f (x ∷ xs) base = least_of (q x) (f x) (least_in q f xs base)

all_cond : {X : Type 0} (b : Bool) (f : X → ℕ) (i : ℕ) (x : X) (ys : List X)
    → list_all (nat_lt i) (map f (cond b (x ∷ ys) ys)) ≡ cond b (nat_lt i (f x) && list_all (nat_lt i) (map f ys)) (list_all (nat_lt i) (map f ys))
all_cond true f i x ys = refl
all_cond false f i x ys = refl

all_below : {X : Type 0} (q : X → Bool) (f : X → ℕ) (base i : ℕ) (xs : List X) → nat_lt i base ≡ true
    → list_all (nat_lt i) (map f (filter q xs)) ≡ nat_lt i (least_in q f xs base)
all_below q f base i [] h = sym h
all_below q f base i (x ∷ xs) h =
    all_cond (q x) f i x (filter q xs)
    ∙ ap (λ r. cond (q x) (nat_lt i (f x) && r) r) (all_below q f base i xs h)
    ∙ sym (lt_least (q x) i (f x) (least_in q f xs base))

swap_or : (a b r : Bool) → a || (b || r) ≡ b || (a || r)
swap_or true true r = refl
swap_or true false r = refl
swap_or false true r = refl
swap_or false false r = refl

any_cond : {X : Type 0} (b : Bool) (f : X → ℕ) (g : ℕ → Bool) (m : ℕ) (x : X) (ys : List X)
    → list_any g (m ∷ map f (cond b (x ∷ ys) ys)) ≡ cond b (g (f x) || list_any g (m ∷ map f ys)) (list_any g (m ∷ map f ys))
any_cond true f g m x ys = swap_or (g m) (g (f x)) (list_any g (map f ys))
any_cond false f g m x ys = refl

or_false : (a : Bool) → a || false ≡ a
or_false true = refl
or_false false = refl

any_below : {X : Type 0} (q : X → Bool) (f : X → ℕ) (g : ℕ → Bool) (m l : ℕ) (xs : List X)
    → g m ≡ nat_lt m l → AllByRecursion (λ x. g (f x) ≡ nat_lt (f x) l) xs
    → list_any g (m ∷ map f (filter q xs)) ≡ nat_lt (least_in q f xs m) l
any_below q f g m l [] e h = or_false (g m) ∙ e
any_below q f g m l (x ∷ xs) e h =
    any_cond (q x) f g m x (filter q xs)
    ∙ (λ t. cond (q x) (h.0 t || any_below q f g m l xs e h.1 t) (any_below q f g m l xs e h.1 t))
    ∙ sym (least_lt (q x) (f x) (least_in q f xs m) l)

below_top : (i : ℕ) → i < 4294967296 → nat_lt i 4294967296 ≡ true
below_top i h = grind (arith, nat_tests)

-- the two least numbers decide as `wins_tie` says
pub ties : (t : Corners) (n : Numbers) (p : Point) (m : ℕ) → m < 4294967296 → n.a < 4294967296 → n.b < 4294967296 → n.c < 4294967296 → n.d < 4294967296
    → nat_lt (least_in (λ f. int_lt (side f.1 p) (pos 0)) (λ f. f.0) (opposite_faces t n) m) (least_in (λ f. int_lt (pos 0) (side f.1 p)) (λ f. f.0) (opposite_faces t n) 4294967296)
    ≡ wins_tie t n p m
ties t n p m hm ha hb hc hd =
    let each = λ (i : ℕ) (h : i < 4294967296). all_below (λ (f : ℕ × Triangle). int_lt (pos 0) (side f.1 p)) (λ f. f.0) 4294967296 i (opposite_faces t n) (below_top i h) in
    sym (any_below (λ (f : ℕ × Triangle). int_lt (side f.1 p) (pos 0)) (λ f. f.0) (λ i. list_all (nat_lt i) (alongside t n p)) m
    (least_in (λ (f : ℕ × Triangle). int_lt (pos 0) (side f.1 p)) (λ f. f.0) (opposite_faces t n) 4294967296) (opposite_faces t n)
    (each m hm) (each n.a ha, (each n.b hb, (each n.c hc, (each n.d hd, tt)))))

-- ---- numbers of one sign

pub one_sign_is : {x y : ℤ} → x ≡ y → HaveOneSign x y
one_sign_is e = record { below = ap (λ z. int_lt z (pos 0)) e; above = ap (λ z. int_lt (pos 0) z) e }

pub one_sign : (sign : Sign) (x y : ℤ) → IsSignOf sign x → IsSignOf sign y → HaveOneSign x y
one_sign Below x y h k = record { below = grind (arith, ints); above = grind (arith, ints) }
one_sign Zero x y h k = one_sign_is (h ∙ sym k)
one_sign Above x y h k = record { below = grind (arith, ints); above = grind (arith, ints) }
