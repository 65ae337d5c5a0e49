-- Inputs that are measured from an origin.
use Rattle.std.proofs.Common.{◌≡◌, ℕ, zero, suc, ◌+◌, ◌*◌, ◌-◌, ◌^◌, ◌<◌, ◌≤◌, List, length, Option, Some, None, Ok, refl, sym, ap, ◌∙◌, subst, arith, inl, inr}
use Rattle.std.specs.Prelude.{IfSome, if◌then◌else◌}
use Rattle.std.proofs.lemmas.Bool.{cases_Bool}
use Rattle.std.proofs.lemmas.List.{length-map}
use Rattle.command_words.specs.Meaning.{AreInRange}
use Rattle.command_words.specs.declared.options.Options.{Options}
use Rattle.grid_coords.specs.Choice.{most_decimals}
use Rattle.grid_coords.specs.Origins.{is_near, most_near, CanMeasure, IsNear, IsNearBy}
use Rattle.grid_coords.specs.declared.origin.WholePoint.{WholePoint}
use Rattle.grid_coords.specs.declared.points.DecimalPoint.{DecimalPoint}
use Rattle.grid_coords.proofs.Moved.{near_can, near_fewer}
use Rattle.node_files.specs.Settling.{measured_from}
use Rattle.plc_files.specs.Checks.{corners_check}
use Rattle.run_steps.specs.Reading.{IsSound}
use Rattle.run_steps.specs.declared.input.Input.{Input}
use Rattle.tetfit_run.specs.Measured.{first_from, first_tried, last_from, last_tried, most_from, most_tried, origin_in, points_by, tried, with_origin, IsInPlaceOf, IsTried}
use Rattle.tetfit_run.specs.Trying.{AreTriable}

-- ---- origins that are near

pub can_at : (m : ℕ) (w : WholePoint) → IsNear m w → CanMeasure m w
can_at m w near = subst (λ (n : ℕ). CanMeasure n w) (let e : m + 0 ≡ m = omega arith in e) (near_can m 0 w (omega arith) near)

pub can_by : (o : Option WholePoint) (d : Option ℕ) (w : WholePoint) (m : ℕ) → IfSome o (IsNearBy d) → o ≡ Some w → d ≡ Some m → CanMeasure m w
can_by o d w m near o-is d-is = can_at m w (subst (λ (p : Option ℕ). IsNearBy p w) d-is (subst (λ (p : Option WholePoint). IfSome p (IsNearBy d)) o-is near))

pub near_below : (o : Option WholePoint) (few m : ℕ) → few ≤ m → IfSome o (IsNear m) → IfSome o (IsNear few)
near_below None few m le near = tt
near_below (Some w) few m le near = near_fewer few m w le near

near_of : (o : Option WholePoint) (m : ℕ) → IfSome o (IsNear m) → IfSome o (IsNearBy (Some m))
near_of None m near = tt
near_of (Some w) m near = near

pub of_near : (o : Option WholePoint) (m : ℕ) → IfSome o (IsNearBy (Some m)) → IfSome o (IsNear m)
of_near None m near = tt
of_near (Some w) m near = near

-- ---- the decimals that are tried

near_le : (w : WholePoint) (n : ℕ) → most_near w n ≤ n
unfolding most_near
near_le w zero = omega arith
near_le w (suc n) =
    elim (cases_Bool (is_near (suc n) w)) [
      | inl near ↦ rw near (omega arith)
      | inr far ↦ let le = near_le w n in rw far (omega arith)
    ]

-- none of them is over the most
first_le : (given : Option ℕ) (most : ℕ) → first_from given most ≤ most
first_le None most = omega arith
first_le (Some n) most = omega arith

pub tried_few : (options : Options) (input : Input) (m : ℕ) → IsTried options input m → m ≤ most_tried input
tried_few options input m t = let le = first_le options.decimals (most_tried input) in omega (arith, t.most, le)

-- the first one, as it is found
pub first_is : (options : Options) (input : Input) (points : List DecimalPoint) (first : ℕ) → options.origin ≡ origin_in input → points ≡ input.nodes.decimals
    → first ≡ first_from options.decimals (most_from options.origin (most_decimals points)) → first ≡ first_tried options input
first_is options input points first o p e =
    e ∙ ap (λ (w : Option WholePoint). first_from options.decimals (most_from w (most_decimals points))) o
    ∙ ap (λ (ps : List DecimalPoint). first_from options.decimals (most_from (origin_in input) (most_decimals ps))) p

pub last_is : (options : Options) (input : Input) (first last : ℕ) → first ≡ first_tried options input → last ≡ last_from options.decimals first → last ≡ last_tried options input
last_is options input first last f l = l ∙ ap (last_from options.decimals) f

last_le : (given : Option ℕ) (first : ℕ) → last_from given first ≤ first
last_le None first = omega arith
last_le (Some n) first = omega arith

pub first_among : (options : Options) (input : Input) (first : ℕ) → first ≡ first_tried options input → IsTried options input first
first_among options input first e = let le = last_le options.decimals (first_tried options input) in record { most = omega (arith, e); least = omega (arith, e, le) }

-- below one that is over the last one there are others
lower : (given : Option ℕ) (first m next : ℕ) → m ≤ first → last_from given first < m → last_from given first ≤ next
lower None first m next le over = omega arith
lower (Some n) first m next le over = absurd (omega arith)

pub next_among : (options : Options) (input : Input) (last m next : ℕ) → IsTried options input m → last ≡ last_tried options input → last < m → next < m → IsTried options input next
next_among options input last m next t e over less =
    let le = lower options.decimals (first_tried options input) m next t.most (omega (arith, e, over)) in record { most = omega (arith, less, t.most); least = le }

-- the last one
pub at_last : (options : Options) (input : Input) (last m : ℕ) → IsTried options input m → last ≡ last_tried options input → m ≤ last → m ≡ last_tried options input
at_last options input last m t e le = omega (arith, e, le, t.least)

-- one in place of the first one
placed : (given : Option ℕ) (first n : ℕ) → IsInPlaceOf given first n → (n ≤ first) × (last_from given first ≤ n)
placed None first n h = (h, omega arith)
placed (Some m) first n h = (omega arith, omega arith)

pub in_place_same : (given : Option ℕ) (m : ℕ) → IsInPlaceOf given m m
in_place_same None m = omega arith
in_place_same (Some n) m = refl

pub in_place_among : (options : Options) (input : Input) (first n : ℕ) → first ≡ first_tried options input → IsInPlaceOf options.decimals first n → IsTried options input n
in_place_among options input first n e h =
    let among = placed options.decimals (first_tried options input) n (subst (λ (m : ℕ). IsInPlaceOf options.decimals m n) e h) in record { most = among.0; least = among.1 }

-- options from the origin of an input are in their ranges with each number of decimals that is tried
pub triable : (options : Options) (input : Input) → AreInRange options → IfSome (origin_in input) (IsNear (most_tried input)) → AreTriable (with_origin input options) input
triable options input ranges near = λ m le.
    record {
      budget = ranges.budget;
      halvings = ranges.halvings;
      unit = ranges.unit;
      sample = ranges.sample;
      near = near_of (origin_in input) m (near_below (origin_in input) m (most_tried input) le near);
    }

-- ---- the tried input

-- as many points are tried
pub points_long : (o : Option WholePoint) (d : Option ℕ) (ps : List DecimalPoint) → length (points_by o d ps) ≡ length ps
points_long (Some w) (Some m) ps = length-map ps (measured_from w m)
points_long (Some w) None ps = refl
points_long None d ps = refl

-- with as many other points an input is sound too
pub sound_with : (input : Input) (points : List DecimalPoint) → length points ≡ length input.nodes.decimals → IsSound input → IsSound (record input { nodes = record input.nodes { decimals = points } })
sound_with input points same s =
    let long = sym same in
    let nodes = input.nodes in
    record {
      nodes = record {
        first = s.nodes.first;
        few_attributes = s.nodes.few_attributes;
        attributes = subst (λ (n : ℕ). length nodes.attributes ≡ nodes.attribute_count * n) long s.nodes.attributes;
        markers = subst (λ (n : ℕ). length nodes.markers ≡ (if nodes.flag then n else 0)) long s.nodes.markers;
        few = subst (λ (n : ℕ). n < 2 ^ 32 - 1) long s.nodes.few;
      };
      few = s.few;
      corners = subst (λ (n : ℕ). corners_check nodes.first n input.complex ≡ Ok tt) long s.corners;
    }

pub sound_tried : (options : Options) (input : Input) → IsSound input → IsSound (tried options input)
sound_tried options input s =
    sound_with input (points_by options.origin options.decimals input.nodes.decimals) (points_long options.origin options.decimals input.nodes.decimals) s
