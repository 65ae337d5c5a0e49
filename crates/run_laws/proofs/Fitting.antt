-- Numbers of a grid on the least grid of their decimals.
use Rattle.std.proofs.Common.{◌≡◌, ℕ, zero, suc, ◌+◌, ◌-◌, ◌*◌, ◌^◌, ◌<◌, ◌≤◌, Bool, true, false, ℤ, pos, negsuc, neg_ℤ, ◌*ℤ◌, unsigned_abs, List, [], ◌∷◌, map, length, Option, None, Result, Ok, Err, refl, sym, ap, subst, ◌∙◌, arith, inl, inr}
use Rattle.std.specs.Prelude.{int_lt, nat_lt, find, slice_index_or}
use Rattle.std.proofs.lemmas.Int.{ints}
use Rattle.std.proofs.lemmas.Bool.{le-ltb, cond-false, cases_lt}
use Rattle.std.proofs.lemmas.Nat.{pow-add, mul-pow}
use Rattle.std.proofs.lemmas.List.{get_or-map, get_or_past}
use Rattle.std.proofs.lemmas.List.{length-map}
use Rattle.exact_algebra.proofs.Ring.{var, neg, ring, same, ◌⊗◌}
use Rattle.sign_predicates.specs.Point.{origin}
use Rattle.geo_laws.specs.Delaunay.{point}
use Rattle.tet_text.specs.Decimals.{Scaled, signed}
use Rattle.grid_coords.specs.Choice.{unless_over}
use Rattle.grid_coords.specs.Units.{is_negative, IsNumberAt}
use Rattle.grid_coords.specs.declared.grid.Grid.{Grid}
use Rattle.grid_coords.specs.declared.grid.Range.{Range}
use Rattle.grid_coords.specs.declared.points.DecimalPoint.{DecimalPoint}
use Rattle.node_files.specs.Terms.{terms_of}
use Rattle.node_files.specs.LeastGrid.{twos_of, fives_of, greatest, coarsest, units_on, size_on, is_over_units, first_over_units, least_grid_of, coordinate_on, point_on}
use Rattle.node_files.specs.declared.grid_fault.GridFault.TheVariants as faults
use Rattle.node_files.proofs.LowestTerms.{terms_are}
use Rattle.run_laws.specs.LeastGrids.{times, AreMultiples, ratio, FittingLaw, SettlingLaw}
use Rattle.run_laws.proofs.Factors.{cancel, power_some, IsWhole, twos_within, fives_within, units_between}

-- ---- one number

-- a number of the grid in lowest terms
whole_of : (g : Grid) (c : ℤ) (d : Scaled) → IsNumberAt g c d
    → IsWhole (unsigned_abs c) (terms_of d).numerator (terms_of d).twos (terms_of d).fives (g.decimals + g.halvings) g.decimals
whole_of g c d number =
    let t = terms_of d in
    cancel _ _ (10 ^ d.scale) (power_some 10 d.scale (omega arith))
    (regroup (unsigned_abs d.value) (unsigned_abs c) (10 ^ d.scale) (10 ^ g.decimals) (2 ^ g.halvings) (2 ^ t.twos * 5 ^ t.fives) t.numerator (2 ^ g.decimals) (5 ^ g.decimals) (2 ^ (g.decimals + g.halvings))
    number.size (terms_are d).same (mul-pow 2 5 g.decimals) (pow-add 2 g.decimals g.halvings))
  where
    regroup : (v c all ten half below n two five twos : ℕ) → v * ten * half ≡ c * all → v * below ≡ n * all → ten ≡ two * five → twos ≡ two * half → c * below * all ≡ n * (twos * five) * all
    regroup v c all ten half below n two five twos e f h k =
        let a : c * below * all ≡ c * all * below = omega arith in
        let b : v * ten * half * below ≡ v * below * (ten * half) = omega arith in
        let z : n * all * (two * five * half) ≡ n * (two * half * five) * all = omega arith in
        a ∙ ap (λ (m : ℕ). m * below) (sym e) ∙ b ∙ ap (λ (m : ℕ). m * (ten * half)) f ∙ ap (λ (m : ℕ). n * all * (m * half)) h ∙ z ∙ ap (λ (m : ℕ). n * (m * five) * all) (sym k)

pub fives_fit : (g : Grid) (c : ℤ) (d : Scaled) → IsNumberAt g c d → (terms_of d).fives ≤ g.decimals
fives_fit g c d number = fives_within _ _ _ _ _ _ (whole_of g c d number) (terms_are d).no_five

pub twos_fit : (g : Grid) (c : ℤ) (d : Scaled) → IsNumberAt g c d → (terms_of d).twos ≤ g.decimals + g.halvings
twos_fit g c d number = twos_within _ _ _ _ _ _ (whole_of g c d number) (terms_are d).no_two

-- a grid between that of the number and one on which it is whole
pub record HoldsNumber (g least : Grid) (d : Scaled) : Type 0 where
  pub fives : (terms_of d).fives ≤ least.decimals
  pub twos : (terms_of d).twos ≤ least.decimals + least.halvings
  pub fewer : least.decimals ≤ g.decimals
  pub coarser : least.decimals + least.halvings ≤ g.decimals + g.halvings

pub size_is : (g least : Grid) (c : ℤ) (d : Scaled) → IsNumberAt g c d → HoldsNumber g least d → unsigned_abs c ≡ units_on least d * ratio g least
unfolding units_on
size_is g least c d number holds = units_between _ _ _ _ _ _ _ _ (whole_of g c d number) holds.twos holds.coarser holds.fives holds.fewer

none_below : (n : ℕ) → nat_lt n 0 ≡ false
none_below n = le-ltb n 0 (omega arith)

product_is : (m n : ℕ) → pos m *ℤ pos n ≡ pos (n * m)
product_is m n = grind (arith, ints)

product_below : (m n k : ℕ) → suc k ≡ n * m → pos m *ℤ neg_ℤ (pos n) ≡ negsuc k
unfolding same
product_below m n k e =
    ring (var 0 ⊗ neg (var 1)) (neg (var 0 ⊗ var 1)) tt (pos m ∷ pos n ∷ []) ∙ ap neg_ℤ (product_is m n) ∙ ap (λ (j : ℕ). neg_ℤ (pos j)) (sym e)

-- the coordinate is as many times the one on the coarser grid as there are units in its unit
pub coordinate_is : (g least : Grid) (c : ℤ) (d : Scaled) → IsNumberAt g c d → HoldsNumber g least d → c ≡ pos (ratio g least) *ℤ coordinate_on least d
coordinate_is g least (pos m) d number holds =
    let size = size_is g least (pos m) d number holds in
    let same : d.value ≡ pos (unsigned_abs d.value) = number.sign ∙ ap (λ (b : Bool). signed b (unsigned_abs d.value)) (none_below m) in
    let above : is_negative d ≡ false = ap (λ (z : ℤ). int_lt z (pos 0)) same ∙ none_below (unsigned_abs d.value) in
    ap pos size ∙ sym (product_is (ratio g least) (units_on least d)) ∙ ap (λ (b : Bool). pos (ratio g least) *ℤ signed b (units_on least d)) (sym above)
coordinate_is g least (negsuc m) d number holds =
    let size = size_is g least (negsuc m) d number holds in
    let below : is_negative d ≡ true = negative (unsigned_abs d.value) refl in
    sym (product_below (ratio g least) (units_on least d) m size) ∙ ap (λ (b : Bool). pos (ratio g least) *ℤ signed b (units_on least d)) (sym below)
  where
    some : (v ten half all : ℕ) → v * ten * half ≡ suc m * all → 0 < all → v ≡ 0 → ⊥
    some v ten half all e h z = clash all h (ap (λ (n : ℕ). n * ten * half) (sym z) ∙ e)
      where
        clash : (all : ℕ) → 0 < all → 0 * ten * half ≡ suc m * all → ⊥
        clash zero h e = omega arith
        clash (suc all) h e = omega arith

    negative : (v : ℕ) → unsigned_abs d.value ≡ v → is_negative d ≡ true
    negative zero e = absurd (some (unsigned_abs d.value) (10 ^ g.decimals) (2 ^ g.halvings) (10 ^ d.scale) number.size (power_some 10 d.scale (omega arith)) e)
    negative (suc v) e = ap (λ (z : ℤ). int_lt z (pos 0)) (number.sign ∙ ap (λ (n : ℕ). neg_ℤ (pos n)) e)

-- so it is no larger there
units_small : (u r c most : ℕ) → c ≡ u * r → 0 < r → c ≤ most → u ≤ most
units_small u zero c most e h le = absurd (omega arith)
units_small u (suc r) c most e h le = omega arith

ratio_some : (g least : Grid) → 0 < ratio g least
ratio_some g least = both (5 ^ (g.decimals - least.decimals)) _ (power_some 5 _ (omega arith)) (power_some 2 _ (omega arith))
  where
    both : (m n : ℕ) → 0 < m → 0 < n → 0 < m * n
    both zero n h k = absurd (omega arith)
    both (suc m) n h k = omega arith

-- ---- the least grid

greatest_within : (f : DecimalPoint → ℕ) (ds : List DecimalPoint) (most : ℕ) → ((i : ℕ) (d : DecimalPoint) → i < length ds → f (slice_index_or ds i d) ≤ most) → greatest f ds ≤ most
unfolding greatest
greatest_within f [] most h = omega arith
greatest_within f (d ∷ ds) most h =
    let first = h 0 d (omega arith) in
    let rest = greatest_within f ds most (λ i e lt. h (suc i) e (omega arith)) in
    omega arith

within_greatest : (f : DecimalPoint → ℕ) (ds : List DecimalPoint) (i : ℕ) (d : DecimalPoint) → i < length ds → f (slice_index_or ds i d) ≤ greatest f ds
unfolding greatest
within_greatest f [] i d lt = absurd (omega arith)
within_greatest f (e ∷ ds) zero d lt = omega arith
within_greatest f (e ∷ ds) (suc i) d lt = let rest = within_greatest f ds i d (omega arith) in omega arith

none_over : (wide : ℕ) (g : Grid) (ds : List DecimalPoint) → ((i : ℕ) (d : DecimalPoint) → i < length ds → size_on g (slice_index_or ds i d) ≤ wide) → find (is_over_units wide g) ds ≡ None
none_over wide g [] h = refl
none_over wide g (d ∷ ds) h = cond-false _ _ _ (le-ltb wide (size_on g d) (h 0 d (omega arith))) ∙ none_over wide g ds (λ i e lt. h (suc i) e (omega arith))

pub fits : FittingLaw
unfolding least_grid_of first_over_units
fits wide g ps ds at = record {
  fits = ap (λ (o : Option DecimalPoint). unless_over o least) (none_over wide least ds small);
  fewer_decimals = fewer;
  coarser = coarser;
  same = record { some = ratio_some g least; long = length-map ds (point_on least) ∙ at.long; at = same };
}
  where
    least : Grid
    least = coarsest ds

    fives : (i : ℕ) (d : DecimalPoint) → i < length ds → fives_of (slice_index_or ds i d) ≤ g.decimals
    fives i d lt =
        let p = at.at i d lt in
        let x = fives_fit g _ _ p.x_is in
        let y = fives_fit g _ _ p.y_is in
        let z = fives_fit g _ _ p.z_is in
        omega arith

    twos : (i : ℕ) (d : DecimalPoint) → i < length ds → twos_of (slice_index_or ds i d) ≤ g.decimals + g.halvings
    twos i d lt =
        let p = at.at i d lt in
        let x = twos_fit g _ _ p.x_is in
        let y = twos_fit g _ _ p.y_is in
        let z = twos_fit g _ _ p.z_is in
        omega arith

    fewer : least.decimals ≤ g.decimals
    fewer = greatest_within fives_of ds g.decimals fives

    coarser : least.decimals + least.halvings ≤ g.decimals + g.halvings
    coarser = let five = greatest_within fives_of ds g.decimals fives in let two = greatest_within twos_of ds (g.decimals + g.halvings) twos in omega arith

    holds : (d : Scaled) → (terms_of d).fives ≤ greatest fives_of ds → (terms_of d).twos ≤ greatest twos_of ds → HoldsNumber g least d
    holds d five two = record { fives = five; twos = omega arith; fewer = fewer; coarser = coarser }

    x_holds : (i : ℕ) (d : DecimalPoint) → i < length ds → HoldsNumber g least (slice_index_or ds i d).x
    x_holds i d lt = let five = within_greatest fives_of ds i d lt in let two = within_greatest twos_of ds i d lt in holds _ (omega arith) (omega arith)

    y_holds : (i : ℕ) (d : DecimalPoint) → i < length ds → HoldsNumber g least (slice_index_or ds i d).y
    y_holds i d lt = let five = within_greatest fives_of ds i d lt in let two = within_greatest twos_of ds i d lt in holds _ (omega arith) (omega arith)

    z_holds : (i : ℕ) (d : DecimalPoint) → i < length ds → HoldsNumber g least (slice_index_or ds i d).z
    z_holds i d lt = let five = within_greatest fives_of ds i d lt in let two = within_greatest twos_of ds i d lt in holds _ (omega arith) (omega arith)

    one_small : (c : ℤ) (d : Scaled) → IsNumberAt g c d → HoldsNumber g least d → unsigned_abs c ≤ wide → units_on least d ≤ wide
    one_small c d number held le = units_small (units_on least d) (ratio g least) (unsigned_abs c) wide (size_is g least c d number held) (ratio_some g least) le

    small : (i : ℕ) (d : DecimalPoint) → i < length ds → size_on least (slice_index_or ds i d) ≤ wide
    small i d lt =
        let p = at.at i d lt in
        let x = one_small _ _ p.x_is (x_holds i d lt) p.x_small in
        let y = one_small _ _ p.y_is (y_holds i d lt) p.y_small in
        let z = one_small _ _ p.z_is (z_holds i d lt) p.z_small in
        omega arith

    there : (i : ℕ) (d : DecimalPoint) → i < length ds → point ps i ≡ times (ratio g least) (point_on least (slice_index_or ds i d))
    there i d lt =
        let p = at.at i d lt in
        λ j. record {
          x = coordinate_is g least _ _ p.x_is (x_holds i d lt) j;
          y = coordinate_is g least _ _ p.y_is (y_holds i d lt) j;
          z = coordinate_is g least _ _ p.z_is (z_holds i d lt) j;
        }

    nothing : (f : ℕ) → pos f *ℤ pos 0 ≡ pos 0
    nothing f = omega (arith, ints)

    no_point : DecimalPoint
    no_point = record { x = record { value = pos 0; scale = 0 }; y = record { value = pos 0; scale = 0 }; z = record { value = pos 0; scale = 0 }; line = 0 }

    same : (i : ℕ) → point ps i ≡ times (ratio g least) (point (map (point_on least) ds) i)
    same i =
        elim (cases_lt i (length ds)) [
          | inl lt ↦ there i no_point lt ∙ ap (times (ratio g least)) (sym (get_or-map (point_on least) ds i no_point origin lt))
          | inr le ↦
              let l = at.long in
              let m = length-map ds (point_on least) in
              let past = get_or_past ps i origin (omega arith) in
              let gone = get_or_past (map (point_on least) ds) i origin (omega arith) in
              past ∙ sym (ap (times (ratio g least)) gone ∙ (λ j. record { x = nothing (ratio g least) j; y = nothing (ratio g least) j; z = nothing (ratio g least) j }))
        ]

-- ---- settling

ok_is : (a b : Grid) (r : Result Grid Range) → r ≡ Ok a → r ≡ Ok b → a ≡ b
ok_is a b r d e = let both : Ok a ≡ Ok b = sym d ∙ e in cc

pub settles : SettlingLaw
settles wide g ps ds at most few (Ok points) h =
    let f = fits wide g ps ds at in
    let same : h.grid ≡ coarsest ds = ok_is h.grid (coarsest ds) (least_grid_of wide ds) h.on f.fits in
    subst (AreMultiples (ratio g (coarsest ds)) ps) (sym (h.is ∙ ap (λ (least : Grid). map (point_on least) ds) same)) f.same
settles wide g ps ds at most few (Err (faults.TooMany count)) h = let l = at.long in let many = h.many in absurd (omega arith)
settles wide g ps ds at most few (Err (faults.Range line)) h =
    let f = fits wide g ps ds at in
    let clash = sym f.fits ∙ h.off in
    absurd (cc)
settles wide g ps ds at most few (Err faults.NoMemory) h = refl
