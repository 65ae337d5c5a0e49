-- The subsegment of which a missing one is a half: the run that adds fewer points ends at it, and at no other.
use Rattle.std.proofs.Common.{◌≡◌, ◌≢◌, ℕ, ◌+◌, ◌-◌, ◌<◌, ◌≤◌, max, Bool, true, false, List, length, Option, Some, None, Result, Ok, Err, inl, inr, refl, sym, ap, subst, ◌∙◌, arith}
use Rattle.std.specs.Prelude.{All, IfOk, IsSome}
use Rattle.command_words.specs.Names.{file_name}
use Rattle.command_words.specs.declared.options.Extension.TheVariants.{Node}
use Rattle.command_words.specs.declared.options.Options.{Options}
use Rattle.complex_mesh.specs.Meshing.{IsMeshFault}
use Rattle.complex_mesh.specs.Protection.{AreMeshed}
use Rattle.complex_mesh.specs.declared.fault.MeshFault.{MeshFault}
use Rattle.complex_mesh.specs.declared.fault.MeshFault.TheVariants as faults
use Rattle.complex_mesh.specs.declared.mesh.MeshOptions.{MeshOptions}
use Rattle.geo_laws.specs.Complex.{Complex, facets}
use Rattle.geo_laws.specs.Facet.{Facet, IsFlat}
use Rattle.geo_laws.specs.Segment.{pieces, protect, GridEnd as GridEndOf, BudgetEnd as BudgetEndOf}
use Rattle.geo_laws.specs.declared.complex.Piece.{Piece}
use Rattle.node_files.proofs.Folds.{names_long}
use Rattle.node_files.specs.declared.limits.Limits.{Limits}
use Rattle.run_steps.proofs.Once.{bound_once, meshed_same}
use Rattle.run_steps.proofs.Steps.{status_of, IsDecided}
use Rattle.run_steps.specs.Faults.{status_of_fault, status_of_weights}
use Rattle.run_steps.specs.Meshing.{mesh_options, IsFlatRefusal, MeshOf, PointsMeshOf}
use Rattle.run_steps.specs.Steps.{forced_answer}
use Rattle.run_steps.specs.declared.input.Input.{Input}
use Rattle.run_steps.specs.declared.mesh.Bound.{Bound}
use Rattle.run_steps.specs.declared.numbering.Numbering.{Numbering}
use Rattle.run_steps.specs.declared.outputs.Outputs.{Outputs}
use Rattle.run_steps.specs.declared.status.Status.{Status}
use Rattle.run_steps.specs.declared.status.Status.TheVariants.{Done, Flat, GridEnd, BudgetEnd, NoFill, NoMemory}
use Rattle.segment_protect.specs.Ends.{CanSplit}
use Rattle.sign_predicates.specs.Point.{Point}
use Rattle.tetfit_run.specs.Hints.{missing_in, with_budget, HasPoints, IsHalvedAfter, IsMissing}
use Rattle.tetfit_run.specs.Measured.{BoundTried, MeshedTried, tried}
use Rattle.tetfit_run.specs.Trying.{answer_in, IsNumbered, MadeAnswer}
use Rattle.tetfit_run.specs.declared.trying.Unfitted.{Unfitted}
use Rattle.tetfit_run.proofs.Halvings.{half_at, EndsAt}
use Rattle.weighted_mesh.specs.declared.regular_fault.RegularFault.{RegularFault}
use Rattle.weighted_mesh.specs.declared.regular_fault.RegularFault.TheVariants as weights

-- ---- one missing subsegment

no_piece : (p : Piece) → None ≡ Some p → ⊥
no_piece p e = cc

one_piece : (p q : Piece) → Some p ≡ Some q → p ≡ q
one_piece p q e = cc

-- a refusal for want of a subsegment is forced
record IsForced (s : Status) : Type 0 where
  same : forced_answer s ≡ s
  refused : s ≢ Done
  decided : s ≢ NoMemory

missing_forced : (s : Status) (p : Piece) → missing_in s ≡ Some p → IsForced s
missing_forced (GridEnd q) p e = record { same = refl; refused = λ d. absurd (cc); decided = λ d. absurd (cc) }
missing_forced (BudgetEnd made q) p e = record { same = refl; refused = λ d. absurd (cc); decided = λ d. absurd (cc) }
missing_forced s p e = absurd (no_piece p e)

unforced : (s t : Status) → s ≢ Done → s ≡ forced_answer t → s ≡ t
unforced s (NoFill anomaly) d e = absurd (d e)
unforced s t d e = e

status_same : (s t : Status) (r : Result Outputs Status) → r ≡ Err s → r ≡ Err t → s ≡ t
status_same s t r e f = cc

-- the refusal for want of the subsegment
pub record IsRefusedFor (p : Piece) (r : Result Outputs Status) : Type 0 where
  pub status : Status
  pub is : r ≡ Err status
  pub missing : missing_in status ≡ Some p

module _ (limits : Limits) (options : Options) (input : Input) where
  -- no other answer stands beside it but out of memory
  pub missing_again : (p : Piece) → IsMissing limits options input p → (r : Result Outputs Status) → IsDecided r → MeshedTried limits options input r → IsRefusedFor p r
  missing_again p missing r decided made = go r (meshed_same limits options (tried options input) (Err missing.status) r forced.decided decided missing.answer made)
    where
      forced : IsForced missing.status
      forced = missing_forced missing.status p missing.missing

      go : (r : Result Outputs Status) → forced_answer missing.status ≡ status_of r → IsRefusedFor p r
      go (Ok outputs) e = absurd (forced.refused (sym forced.same ∙ e))
      go (Err t) e =
          let same = unforced missing.status t forced.refused (sym forced.same ∙ e) in
          record { status = t; is = refl; missing = subst (λ u. missing_in u ≡ Some p) same missing.missing }

  pub missing_once : (p q : Piece) → IsMissing limits options input p → IsMissing limits options input q → p ≡ q
  missing_once p q one two =
      let again = missing_again p one (Err two.status) (missing_forced two.status q two.missing).decided two.answer in
      one_piece p q (sym again.missing ∙ ap missing_in (sym (status_same two.status again.status (Err two.status) refl again.is)) ∙ two.missing)

  -- there is no mesh
  pub never_made : (p : Piece) → IsMissing limits options input p → (outputs : Outputs) → MeshedTried limits options input (Ok outputs) → ⊥
  never_made p missing outputs made = no_error outputs (missing_again p missing (Ok outputs) tt made)
    where
      never : (outputs : Outputs) (s : Status) (r : Result Outputs Status) → r ≡ Ok outputs → r ≡ Err s → ⊥
      never outputs s r e f = cc

      no_error : (outputs : Outputs) → IsRefusedFor p (Ok outputs) → ⊥
      no_error outputs again = never outputs again.status (Ok outputs) refl again.is

  pub never_fitted : (p : Piece) → IsMissing limits options input p → (r : Result Outputs Unfitted) (outputs : Outputs) → r ≡ Ok outputs → MeshedTried limits options input (answer_in r) → ⊥
  never_fitted p missing r outputs e made = never_made p missing outputs (subst (λ (r : Result Outputs Unfitted). MeshedTried limits options input (answer_in r)) e made)

  pub refused_with : (r : Result Outputs Unfitted) (end : Unfitted) → r ≡ Err end → MeshedTried limits options input (answer_in r) → MeshedTried limits options input (Err end.status)
  refused_with r end e made = subst (λ (r : Result Outputs Unfitted). MeshedTried limits options input (answer_in r)) e made

  -- a refusal has the subsegment
  pub some_missing : (p : Piece) → IsMissing limits options input p → (s : Status) → MeshedTried limits options input (Err s) → s ≢ NoMemory → IsSome (missing_in s)
  some_missing p missing s made decided =
      let again = missing_again p missing (Err s) decided made in
      is_some (missing_in s) (ap missing_in (status_same s again.status (Err s) refl again.is) ∙ again.missing)
    where
      is_some : (o : Option Piece) → o ≡ Some p → IsSome o
      is_some None e = absurd (no_piece p e)
      is_some (Some q) e = refl

  pub missing_told : {E : Type 0} (s : Status) (r : Result Piece E) → MeshedTried limits options input (Err s) → IfOk r (λ q. missing_in s ≡ Some q) → IfOk r (IsMissing limits options input)
  missing_told s (Ok q) made e = record { status = s; answer = made; missing = e }
  missing_told s (Err f) made e = tt

-- ---- the faults of protection

-- protection ends at the subsegment
record IsEndedAt (o : MeshOptions) (ps : List Point) (c : Complex) (p : Piece) : Type 0 where
  segs : List Piece
  fs : List Facet
  flat : All (IsFlat ps) (facets c)
  meshed : AreMeshed o.keep_facets ps c segs fs
  can : CanSplit ps (pieces ps segs)
  ends : EndsAt (protect o.halvings o.budget ps (pieces ps segs)) p

fault_ends : (o : MeshOptions) (ps : List Point) (c : Complex) (fault : MeshFault) (p : Piece) → missing_in (status_of_fault fault) ≡ Some p → IsMeshFault o ps c fault → IsEndedAt o ps c p
fault_ends o ps c (faults.GridEnd q) p e h = record { segs = h.0; fs = h.1; flat = h.2; meshed = h.3; can = h.4; ends = inl (h.5 ∙ ap GridEndOf (one_piece q p e)) }
fault_ends o ps c (faults.BudgetEnd made q) p e h = record { segs = h.0; fs = h.1; flat = h.2; meshed = h.3; can = h.4; ends = inr (h.6 ∙ ap BudgetEndOf (one_piece q p e)) }
fault_ends o ps c fault p e h = absurd (no_piece p e)

-- where `Ends n q` says that a run that adds at most n points ends at q: the subsegment p of a model with `count` points
-- is a half of one at which a run ends that adds fewer than n
pub record IsHalfOf (Ends : ℕ → Piece → Type 0) (count n : ℕ) (p : Piece) : Type 0 where
  pub before : Piece
  pub fewer : max p.a p.b - count < n
  pub halved : p.halvings ≡ before.halvings + 1
  pub ended : Ends (max p.a p.b - count) before

half_to : (P Q : ℕ → Piece → Type 0) (count n : ℕ) (p : Piece) → ((m : ℕ) (q : Piece) → P m q → Q m q) → IsHalfOf P count n p → IsHalfOf Q count n p
half_to P Q count n p to h = record { before = h.before; fewer = h.fewer; halved = h.halved; ended = to (max p.a p.b - count) h.before h.ended }

half_fault : (o : MeshOptions) (ps : List Point) (c : Complex) (p : Piece) → IsEndedAt o ps c p → p.halvings ≢ 0
    → IsHalfOf (λ m q. IsMeshFault (record o { budget = m }) ps c (faults.BudgetEnd m q)) (length ps) o.budget p
half_fault o ps c p h d =
    let half = half_at o.halvings o.budget ps h.segs p h.ends d in
    record { before = half.before; fewer = half.fewer; halved = half.halved; ended = (h.segs, h.fs, h.flat, h.meshed, h.can, refl, half.ended) }

-- ---- the run

-- points alone lack no subsegment
flat_end : (bound : Bound) (s : Status) (p : Piece) → IsFlatRefusal bound s → missing_in s ≡ Some p → ⊥
flat_end bound Flat p h e = no_piece p e
flat_end bound NoMemory p h e = no_piece p e
flat_end bound s p h e = absurd h

weights_end : (name : List ℕ) (fault : RegularFault) (p : Piece) → missing_in (status_of_weights name fault) ≡ Some p → ⊥
weights_end name (weights.Text fault) p e = no_piece p e
weights_end name (weights.TooHeavy line) p e = no_piece p e
weights_end name weights.Flat p e = no_piece p e
weights_end name weights.NoMemory p e = no_piece p e

points_end : (weighted : Bool) (options : Options) (bound : Bound) (s : Status) (p : Piece) → PointsMeshOf weighted options bound (Err s) → missing_in s ≡ Some p → ⊥
points_end false options bound s p h e = flat_end bound s p h e
points_end true options bound s p h e = weights_end (file_name options.base Node) h.0 p (ap missing_in (sym h.1) ∙ e)

mesh_half : (piecewise : Bool) (options : Options) (bound : Bound) (n : ℕ) (s : Status) (p : Piece) → MeshOf piecewise (with_budget n options) bound (Err s) → missing_in s ≡ Some p → p.halvings ≢ 0
    → IsHalfOf (λ m q. MeshOf piecewise (with_budget m options) bound (Err (BudgetEnd m q))) (length bound.table.points) n p
mesh_half false options bound n s p h e d = absurd (points_end options.weighted (with_budget n options) bound s p h e)
mesh_half true options bound n s p h e d =
    let o = mesh_options (with_budget n options) bound.table in
    let ps = bound.table.points in
    half_to (λ m q. IsMeshFault (record o { budget = m }) ps bound.complex (faults.BudgetEnd m q)) (λ m q. MeshOf true (with_budget m options) bound (Err (BudgetEnd m q)))
    (length ps) n p (λ m q f. (faults.BudgetEnd m q, refl, f)) (half_fault o ps bound.complex p (fault_ends o ps bound.complex h.0 p (ap missing_in (sym h.1) ∙ e) h.2) d)

made_half : (options : Options) (bound : Bound) (n : ℕ) (s : Status) (p : Piece) → MadeAnswer (with_budget n options) bound (Err s) → missing_in s ≡ Some p → p.halvings ≢ 0
    → IsHalfOf (λ m q. MadeAnswer (with_budget m options) bound (Err (BudgetEnd m q))) (length bound.table.points) n p
made_half options bound n s p (inl h) e d =
    half_to (λ m q. MeshOf options.piecewise (with_budget m options) bound (Err (BudgetEnd m q))) (λ m q. MadeAnswer (with_budget m options) bound (Err (BudgetEnd m q)))
    (length bound.table.points) n p (λ m q f. inl f) (mesh_half options.piecewise options bound n s p h e d)
made_half options bound n s p (inr h) e d = absurd (no_piece p (sym (ap missing_in h.2) ∙ e))

bound_same : (a b : Bound) (r : Result Bound Status) → Ok a ≡ r → r ≡ Ok b → a ≡ b
bound_same a b r e f = cc

never_both : (a : Bound) (s : Status) (r : Result Bound Status) → r ≡ Ok a → r ≡ Err s → ⊥
never_both a s r e f = cc

module _ (limits : Limits) (options : Options) (input : Input) where
  -- a missing subsegment that was halved is a half of one that is missing where fewer points are added
  pub half_again : (count n : ℕ) (p : Piece) → HasPoints limits options input count → IsHalvedAfter limits options input n p → p.halvings ≢ 0
      → IsHalfOf (IsHalvedAfter limits options input) count n p
  half_again count n p points missing d = subst (λ k. IsHalfOf (IsHalvedAfter limits options input) k n p) (sym points.counted) (go missing.answer)
    where
      go : MeshedTried limits (with_budget n options) input (Err missing.status) → IsHalfOf (IsHalvedAfter limits options input) (length points.bound.table.points) n p
      go (inl h) =
          absurd (never_both points.bound missing.status (Ok points.bound) refl
          (bound_once limits (with_budget n options) (tried (with_budget n options) input) (Ok points.bound) (Err missing.status) tt (missing_forced missing.status p missing.missing).decided points.on_grid h))
      go (inr h) =
          let same = bound_same points.bound h.0 (Ok points.bound) refl (bound_once limits (with_budget n options) (tried (with_budget n options) input) (Ok points.bound) (Ok h.0) tt tt points.on_grid h.1) in
          half_to (λ m q. MadeAnswer (with_budget m options) points.bound (Err (BudgetEnd m q))) (IsHalvedAfter limits options input) (length points.bound.table.points) n p
          (λ m q f. record { status = BudgetEnd m q; answer = inr (points.bound, points.on_grid, f); missing = refl })
          (made_half options points.bound n missing.status p (subst (λ b. MadeAnswer (with_budget n options) b (Err missing.status)) (sym same) h.2) missing.missing d)

  -- points that are on a grid have no other answer
  pub never_unbound : (count : ℕ) → HasPoints limits options input count → (s : Status) → s ≢ NoMemory → BoundTried limits options input (Err s) → ⊥
  never_unbound count points s decided h = never_both points.bound s (Ok points.bound) refl (bound_once limits options (tried options input) (Ok points.bound) (Err s) tt decided points.on_grid h)

  -- the points of a refused try are on their grid
  pub numbered_points : (s : Status) (by : Numbering) → IsNumbered limits options input s (Some by) → HasPoints limits options input (length by.names)
  numbered_points s by h =
      let table = h.0.table in
      record { bound = h.0; on_grid = h.1; counted = ap (λ (b : Numbering). length b.names) h.3 ∙ names_long table.listed table.points table.names table.folded h.1.0.folded }

  pub numbered_missing : (s : Status) (by : Numbering) (p : Piece) → IsNumbered limits options input s (Some by) → missing_in s ≡ Some p → IsMissing limits options input p
  numbered_missing s by p h e = record { status = s; answer = inr (h.0, h.1, h.2); missing = e }

  -- some subsegment is missing where only the points before p are added
  pub halved_here : (count n added : ℕ) (p : Piece) → HasPoints limits options input count → n ≤ 100000 → IsHalvedAfter limits options input n p → p.halvings ≢ 0 → added ≡ max p.a p.b - count
      → (added ≤ 100000) × ((q : Piece) × IsHalvedAfter limits options input added q)
  halved_here count n added p points few missing d e =
      let half = half_again count n p points missing d in
      let less = half.fewer in
      (omega arith, (half.before, subst (λ k. IsHalvedAfter limits options input k half.before) (sym e) half.ended))

  -- the subsegment q, at which the run ends that adds the points before p, is the one of which p is a half
  pub record IsStep (count : ℕ) (p q : Piece) : Type 0 where
    pub few : max p.a p.b - count ≤ 100000
    pub halved : p.halvings ≡ q.halvings + 1
    pub after : IsHalvedAfter limits options input (max p.a p.b - count) q

  pub step_of : (count n added : ℕ) (p q : Piece) → HasPoints limits options input count → n ≤ 100000 → IsHalvedAfter limits options input n p → p.halvings ≢ 0 → added ≡ max p.a p.b - count
      → IsHalvedAfter limits options input added q → IsStep count p q
  step_of count n added p q points few missing d e after =
      let half = half_again count n p points missing d in
      let less = half.fewer in
      let here = subst (λ k. IsHalvedAfter limits options input k q) e after in
      let same = missing_once limits (with_budget (max p.a p.b - count) options) input half.before q half.ended here in
      record { few = omega arith; halved = subst (λ (r : Piece). p.halvings ≡ r.halvings + 1) same half.halved; after = here }
