-- Numbers of decimals at which the points of a model are the same: a refusal at one of them is one at the other.
use Rattle.std.proofs.Common.{◌≡◌, ℕ, ◌+◌, ◌<◌, ◌≤◌, List, [], ◌∷◌, length, map, drop, get_or, refl, sym, subst, ap, ◌∙◌, Bool, true, false, Option, Some, None, Result, Ok, Err, inl, inr}
use Rattle.std.proofs.lemmas.List.{at_drop_all}
use Rattle.command_words.specs.declared.options.Options.{Options}
use Rattle.grid_coords.proofs.Sizes.{from_here}
use Rattle.grid_coords.specs.Choice.{grid_of}
use Rattle.grid_coords.specs.declared.origin.WholePoint.{WholePoint}
use Rattle.grid_coords.specs.declared.points.DecimalPoint.{DecimalPoint}
use Rattle.node_files.specs.Settling.{measured_from, rounded_point, rounded_points, with_text}
use Rattle.node_files.specs.declared.limits.Limits.{Limits}
use Rattle.run_steps.specs.Meshing.{IsUnbound, MeshOf, PointsMeshOf}
use Rattle.run_steps.specs.declared.input.Input.{Input}
use Rattle.run_steps.specs.declared.mesh.Bound.{Bound}
use Rattle.run_steps.specs.declared.meshed.Meshed.{Meshed}
use Rattle.run_steps.specs.declared.status.LimitKind.TheVariants.{Points, Facets, Corners, Grid as OnGrid}
use Rattle.run_steps.specs.declared.status.Status.{Status}
use Rattle.run_steps.specs.declared.status.Status.TheVariants.{Limit}
use Rattle.tetfit_run.specs.Grids.{point_at, AreAlike}
use Rattle.tetfit_run.specs.Measured.{points_by, tried, BoundTried}
use Rattle.tetfit_run.specs.Trying.{at_decimals, AnswerAt, MadeAnswer}
use Rattle.tetfit_run.proofs.Measured.{points_long}

pub same_points : (p q : DecimalPoint) → p.x ≡ q.x → p.y ≡ q.y → p.z ≡ q.z → p.line ≡ q.line → p ≡ q
same_points p q x y z line = λ j. record { x = x j; y = y j; z = z j; line = line j }

-- two maps are the same on a list where they are so on one more item and on those behind it
pub alike_more : (f g : DecimalPoint → DecimalPoint) (ps : List DecimalPoint) (i : ℕ) (p : DecimalPoint) → i < length ps → p ≡ get_or ps i p → f p ≡ g p
    → map f (drop (i + 1) ps) ≡ map g (drop (i + 1) ps) → map f (drop i ps) ≡ map g (drop i ps)
alike_more f g ps i p lt is e behind =
    let here = from_here ps i p lt is in
    ap (map f) here ∙ (λ j. e j ∷ behind j) ∙ sym (ap (map g) here)

-- and behind the last one
pub alike_past : (f g : DecimalPoint → DecimalPoint) (ps : List DecimalPoint) (i : ℕ) → length ps ≤ i → map f (drop i ps) ≡ map g (drop i ps)
alike_past f g ps i le = at_drop_all (map f) ps i le ∙ sym (at_drop_all (map g) ps i le)

rounded_twice : (w : WholePoint) (m : ℕ) (ps : List DecimalPoint) → map (rounded_point m) (map (measured_from w m) ps) ≡ map (point_at (Some w) m) ps
rounded_twice w m [] = refl
rounded_twice w m (p ∷ ps) = ap (λ (qs : List DecimalPoint). rounded_point m (measured_from w m p) ∷ qs) (rounded_twice w m ps)

-- the points as they are tried, rounded once more
pub points_rounded : (o : Option WholePoint) (m : ℕ) (ps : List DecimalPoint) → map (rounded_point m) (points_by o (Some m) ps) ≡ map (point_at o m) ps
points_rounded None m ps = refl
points_rounded (Some w) m ps = rounded_twice w m ps

module _ (limits : Limits) (options : Options) (input : Input) (m n : ℕ) (alike : AreAlike options.origin input.nodes.decimals m n) where
  abbrev points_at : ℕ → List DecimalPoint
  points_at k = points_by options.origin (Some k) input.nodes.decimals

  same : rounded_points (Some m) (points_at m) ≡ rounded_points (Some n) (points_at n)
  same = points_rounded options.origin m input.nodes.decimals ∙ sym alike ∙ sym (points_rounded options.origin n input.nodes.decimals)

  long : length (points_at m) ≡ length (points_at n)
  long = points_long options.origin (Some m) input.nodes.decimals ∙ sym (points_long options.origin (Some n) input.nodes.decimals)

  still_few : length (points_at m) ≤ limits.points → length (points_at n) ≤ limits.points
  still_few h = subst (λ k. k ≤ limits.points) long h

  alike_unbound : (s : Status) → IsUnbound limits (at_decimals m options) (tried (at_decimals m options) input) s
      → IsUnbound limits (at_decimals n options) (tried (at_decimals n options) input) s
  alike_unbound (Limit (Points count most)) h = record {
    many = subst (λ k. limits.points < k) long h.many;
    counted = subst (λ k. count ≡ k) long h.counted;
    told = h.told;
  }
  alike_unbound (Limit (Facets count most)) h = (still_few h.0, h.1)
  alike_unbound (Limit (Corners line count most)) h = (still_few h.0, h.1)
  alike_unbound (Limit (OnGrid line)) h = (h.0, record { few = still_few h.1.few; off = ap (grid_of limits.grid options.halvings) (sym same) ∙ h.1.off })
  alike_unbound s h = h

  -- the grid is the same, and the points on it
  alike_bound : (bound : Bound) → BoundTried limits (at_decimals m options) input (Ok bound) → BoundTried limits (at_decimals n options) input (Ok bound)
  alike_bound bound h = (
    record {
      on = record { few = still_few h.0.on.few; on = ap (grid_of limits.grid options.halvings) (sym same) ∙ h.0.on.on };
      is = h.0.is ∙ ap (λ (ps : List DecimalPoint). with_text input.nodes ps bound.table) same;
      folded = h.0.folded;
    },
    h.1,
  )

  -- and so is what is made of them
  points_alike : (weighted : Bool) (bound : Bound) (r : Result Meshed Status) → PointsMeshOf weighted (at_decimals m options) bound r → PointsMeshOf weighted (at_decimals n options) bound r
  points_alike false bound (Ok mesh) h = h
  points_alike false bound (Err s) h = h
  points_alike true bound (Ok mesh) h = h
  points_alike true bound (Err s) h = h

  mesh_alike : (piecewise : Bool) (bound : Bound) (r : Result Meshed Status) → MeshOf piecewise (at_decimals m options) bound r → MeshOf piecewise (at_decimals n options) bound r
  mesh_alike false bound r h = points_alike options.weighted bound r h
  mesh_alike true bound (Ok mesh) h = h
  mesh_alike true bound (Err s) h = h

  made_alike : (bound : Bound) (s : Status) → MadeAnswer (at_decimals m options) bound (Err s) → MadeAnswer (at_decimals n options) bound (Err s)
  made_alike bound s (inl h) = inl (mesh_alike options.piecewise bound (Err s) h)
  made_alike bound s (inr h) = inr (h.0, mesh_alike options.piecewise bound (Ok h.0) h.1, h.2)

  pub alike_refused : (s : Status) → AnswerAt limits options input m (Err s) → AnswerAt limits options input n (Err s)
  alike_refused s (inl h) = inl (alike_unbound s h)
  alike_refused s (inr h) = inr (h.0, alike_bound h.0 h.1, made_alike h.0 s h.2)
