-- A complex has one answer. The causes are asked for one after another, each where none before it holds, and a mesh is what is left.
use Rattle.std.proofs.Common.{◌≡◌, ℕ, Bool, true, false, map, length, List, Option, None, Some, refl, ap, sym, subst, ◌∙◌}
use Rattle.std.specs.Prelude.{◌≢◌, All}
use Rattle.sign_predicates.specs.Point.{Point}
use Rattle.geo_laws.specs.Complex.{Complex, facets}
use Rattle.geo_laws.specs.Delaunay.{AreCoplanar, numbers_below}
use Rattle.merged_facets.proofs.MergedOnce.{law_one_merging}
use Rattle.geo_laws.specs.Segment.{pieces, protect, ProtectionEnd, Protected, GridEnd as GridEndOf, BudgetEnd as BudgetEndOf}
use Rattle.geo_laws.specs.Facet.{Facet, IsFlat}
use Rattle.geo_laws.specs.declared.complex.Piece.{Piece}
use Rattle.geo_laws.specs.declared.complex.FacetTriangle.{FacetTriangle}
use Rattle.segment_protect.specs.Ends.{CanSplit}
use Rattle.segment_protect.specs.Crossing.{ArePiecesPairwiseMet, IsFirstPieceCrossing as IsFirstSegments}
use Rattle.facet_plane.specs.Flat.{IsFirstNotFlat}
use Rattle.facet_plane.specs.declared.flat.NotFlat.{NotFlat as Bent}
use Rattle.simplex_meets.specs.declared.complex_parts.Part.{Part}
use Rattle.simplex_meets.specs.Crossing.{AreTrianglesMet, IsFirstCrossing as IsFirstParts}
use Rattle.complex_mesh.specs.Protection.{AreMeshed, IsProtectedComplex, complex_triangles}
use Rattle.complex_mesh.specs.Meshing.{IsComplexMesh, IsMeshFault}
use Rattle.complex_mesh.specs.OneAnswer.{IsForcing, OneFaultLaw, NoFaultLaw}
use Rattle.complex_mesh.specs.declared.mesh.MeshOptions.{MeshOptions}
use Rattle.complex_mesh.specs.declared.mesh.ComplexMesh.{ComplexMesh}
use Rattle.complex_mesh.specs.declared.fault.MeshFault.{MeshFault}
use Rattle.complex_mesh.specs.declared.fault.MeshFault.TheVariants.{Flat, NotFlat, SegmentsCross, GridEnd, BudgetEnd, Crossing, NoFill, NoMemory}
use Rattle.complex_mesh.proofs.OneAnswerParts.{not_flat_once, flat_none, segments_once, segments_none, parts_once, parts_none}

-- ---- one cause after another

-- the fault of a complex that forces its answer, or none where it has a mesh or facets are tangled
abbrev Outcome : Type 0
Outcome = Option MeshFault

abbrev IsOnce : (Outcome → Type 0) → Type 0
IsOnce P = (a b : Outcome) → P a → P b → a ≡ b

-- the cause holds, or it does not and the outcome is one of the next
data Step (Cause : Outcome → Type 0) (Passed : Type 0) (Next : Outcome → Type 0) (a : Outcome) : Type 0 where
  stops : Cause a → Step Cause Passed Next a
  passes : Passed → Next a → Step Cause Passed Next a

step_once : (Cause : Outcome → Type 0) (Passed : Type 0) (Next : Outcome → Type 0) → IsOnce Cause → ((a : Outcome) → Cause a → ¬ Passed) → IsOnce Next → IsOnce (Step Cause Passed Next)
step_once Cause Passed Next once never next a b (stops h) (stops k) = once a b h k
step_once Cause Passed Next once never next a b (stops h) (passes p k) = absurd (never a h p)
step_once Cause Passed Next once never next a b (passes p h) (stops k) = absurd (never b k p)
step_once Cause Passed Next once never next a b (passes p h) (passes q k) = next a b h k

-- ---- the causes in their order

record IsFlatFault (ps : List Point) (a : Outcome) : Type 0 where
  flat : AreCoplanar ps
  is : a ≡ Some Flat

record IsBentFault (ps : List Point) (fs : List Facet) (a : Outcome) : Type 0 where
  bent : Bent
  first : IsFirstNotFlat ps fs bent
  is : a ≡ Some (NotFlat bent.facet bent.four)

record IsSegmentFault (ps : List Point) (pieces : List Piece) (a : Outcome) : Type 0 where
  one : Piece
  two : Piece
  first : IsFirstSegments ps pieces one two
  is : a ≡ Some (SegmentsCross one two)

record IsPartFault (qs : List Point) (ts : List FacetTriangle) (rest : List Piece) (a : Outcome) : Type 0 where
  one : Part
  two : Part
  first : IsFirstParts qs ts rest one two
  is : a ≡ Some (Crossing one two)

-- a triangle is not properly met, or all are
abbrev Meets : List Point → List FacetTriangle → List Piece → Outcome → Type 0
Meets qs ts rest = Step (IsPartFault qs ts rest) (AreTrianglesMet qs ts rest) (λ a. a ≡ None)

-- protection ends at a piece, or it protects
abbrev Ends : ℕ → List Facet → ProtectionEnd → Outcome → Type 0
Ends budget fs (Protected qs rest) a = Meets qs (complex_triangles qs fs) rest a
Ends budget fs (GridEndOf piece) a = a ≡ Some (GridEnd piece)
Ends budget fs (BudgetEndOf piece) a = a ≡ Some (BudgetEnd budget piece)

-- two pieces are not properly met, or all are and protection begins
abbrev Protects : MeshOptions → List Point → List Facet → List Piece → Outcome → Type 0
Protects o ps fs rest = Step (IsSegmentFault ps rest) (ArePiecesPairwiseMet ps rest) (Ends o.budget fs (protect o.halvings o.budget ps rest))

-- the segments and facets that are meshed
record Meshes (o : MeshOptions) (ps : List Point) (c : Complex) (a : Outcome) : Type 0 where
  segs : List Piece
  fs : List Facet
  meshed : AreMeshed o.keep_facets ps c segs fs
  next : Protects o ps fs (pieces ps segs) a

-- a facet is not flat, or all are
abbrev LiesFlat : MeshOptions → List Point → Complex → Outcome → Type 0
LiesFlat o ps c = Step (IsBentFault ps (facets c)) (All (IsFlat ps) (facets c)) (Meshes o ps c)

-- the points are all in one plane, or they are not
abbrev Answers : MeshOptions → List Point → Complex → Outcome → Type 0
Answers o ps c = Step (IsFlatFault ps) (¬ AreCoplanar ps) (LiesFlat o ps c)

-- ---- each comes once

-- two outcomes that are the same fault
some_once : (x y : MeshFault) (a b : Outcome) → x ≡ y → a ≡ Some x → b ≡ Some y → a ≡ b
some_once x y a b e f g = cc

bent_same : (x y : Bent) → (x.facet ≡ y.facet) × (x.four ≡ y.four) → NotFlat x.facet x.four ≡ NotFlat y.facet y.four
bent_same x y e = ap (λ n. NotFlat n x.four) e.0 ∙ ap (λ t. NotFlat y.facet t) e.1

bent_once : (ps : List Point) (fs : List Facet) → IsOnce (IsBentFault ps fs)
bent_once ps fs a b h k =
    some_once (NotFlat h.bent.facet h.bent.four) (NotFlat k.bent.facet k.bent.four) a b (bent_same h.bent k.bent (not_flat_once ps fs h.bent k.bent h.first k.first)) h.is k.is

segment_once : (ps : List Point) (pieces : List Piece) → IsOnce (IsSegmentFault ps pieces)
segment_once ps pieces a b h k =
    let e = segments_once ps pieces h.one h.two k.one k.two h.first k.first in
    some_once (SegmentsCross h.one h.two) (SegmentsCross k.one k.two) a b (ap (λ p. SegmentsCross p h.two) e.0 ∙ ap (λ p. SegmentsCross k.one p) e.1) h.is k.is

part_once : (qs : List Point) (ts : List FacetTriangle) (rest : List Piece) → IsOnce (IsPartFault qs ts rest)
part_once qs ts rest a b h k =
    let e = parts_once qs ts rest h.one h.two k.one k.two h.first k.first in
    some_once (Crossing h.one h.two) (Crossing k.one k.two) a b (ap (λ p. Crossing p h.two) e.0 ∙ ap (λ p. Crossing k.one p) e.1) h.is k.is

meets_once : (qs : List Point) (ts : List FacetTriangle) (rest : List Piece) → IsOnce (Meets qs ts rest)
meets_once qs ts rest =
    step_once (IsPartFault qs ts rest) (AreTrianglesMet qs ts rest) (λ a. a ≡ None) (part_once qs ts rest) (λ a h. parts_none qs ts rest h.one h.two h.first)
    (λ a b e f. e ∙ sym f)

ends_once : (budget : ℕ) (fs : List Facet) (end : ProtectionEnd) → IsOnce (Ends budget fs end)
ends_once budget fs (Protected qs rest) = meets_once qs (complex_triangles qs fs) rest
ends_once budget fs (GridEndOf piece) = λ a b e f. e ∙ sym f
ends_once budget fs (BudgetEndOf piece) = λ a b e f. e ∙ sym f

protects_once : (o : MeshOptions) (ps : List Point) (fs : List Facet) (rest : List Piece) → IsOnce (Protects o ps fs rest)
protects_once o ps fs rest =
    step_once (IsSegmentFault ps rest) (ArePiecesPairwiseMet ps rest) (Ends o.budget fs (protect o.halvings o.budget ps rest)) (segment_once ps rest)
    (λ a h. segments_none ps rest h.one h.two h.first) (ends_once o.budget fs (protect o.halvings o.budget ps rest))

-- what is meshed is one
meshed_once : (keep : Bool) (ps : List Point) (c : Complex) (segs also : List Piece) (fs gs : List Facet) → AreMeshed keep ps c segs fs → AreMeshed keep ps c also gs → (segs ≡ also) × (fs ≡ gs)
meshed_once true ps c segs also fs gs h k = (h.0 ∙ sym k.0, h.1 ∙ sym k.1)
meshed_once false ps c segs also fs gs h k =
    let one = law_one_merging ps c h.group h.inner k.group k.inner h.merging k.merging in
    (h.segments_are ∙ one.0 ∙ sym k.segments_are, h.facets_are ∙ (λ j. map (λ n. one.1 n j) (numbers_below (length c.facets))) ∙ sym k.facets_are)

meshes_once : (o : MeshOptions) (ps : List Point) (c : Complex) → IsOnce (Meshes o ps c)
meshes_once o ps c a b h k =
    let e = meshed_once o.keep_facets ps c h.segs k.segs h.fs k.fs h.meshed k.meshed in
    protects_once o ps k.fs (pieces ps k.segs) a b (subst (λ gs. Protects o ps gs (pieces ps k.segs) a) e.1 (subst (λ ss. Protects o ps h.fs (pieces ps ss) a) e.0 h.next)) k.next

lies_flat_once : (o : MeshOptions) (ps : List Point) (c : Complex) → IsOnce (LiesFlat o ps c)
lies_flat_once o ps c =
    step_once (IsBentFault ps (facets c)) (All (IsFlat ps) (facets c)) (Meshes o ps c) (bent_once ps (facets c)) (λ a h. flat_none ps (facets c) h.bent h.first) (meshes_once o ps c)

answers_once : (o : MeshOptions) (ps : List Point) (c : Complex) → IsOnce (Answers o ps c)
answers_once o ps c = step_once (IsFlatFault ps) (¬ AreCoplanar ps) (LiesFlat o ps c) (λ a b h k. h.is ∙ sym k.is) (λ a h solid. solid h.flat) (lies_flat_once o ps c)

-- ---- faults and meshes are such outcomes

-- protection begins, and ends so
begun : (o : MeshOptions) (ps : List Point) (c : Complex) (segs : List Piece) (fs : List Facet) (end : ProtectionEnd) (a : Outcome) → All (IsFlat ps) (facets c) → AreMeshed o.keep_facets ps c segs fs
    → CanSplit ps (pieces ps segs) → protect o.halvings o.budget ps (pieces ps segs) ≡ end → Ends o.budget fs end a → Answers o ps c a
begun o ps c segs fs end a flat meshed can e h =
    passes can.0 (passes flat (record { segs = segs; fs = fs; meshed = meshed; next = passes can.1 (subst (λ u. Ends o.budget fs u a) (sym e) h) }))

met : (o : MeshOptions) (ps : List Point) (c : Complex) (segs : List Piece) (fs : List Facet) (qs : List Point) (rest : List Piece) (a : Outcome) → IsProtectedComplex o ps c segs fs qs rest
    → Meets qs (complex_triangles qs fs) rest a → Answers o ps c a
met o ps c segs fs qs rest a h k = begun o ps c segs fs (Protected qs rest) a h.flat h.meshed h.can_split h.ends k

-- what a fault leaves to be told apart: an anomaly forces nothing
abbrev outcome_of : MeshFault → Outcome
outcome_of (NoFill anomaly) = None
outcome_of fault = Some fault

fault_answers : (o : MeshOptions) (ps : List Point) (c : Complex) (a : MeshFault) → a ≢ NoMemory → IsMeshFault o ps c a → Answers o ps c (outcome_of a)
fault_answers o ps c Flat n h = stops (record { flat = h; is = refl })
fault_answers o ps c (NotFlat facet four) n h = passes h.0 (stops (record { bent = record { facet = facet; four = four }; first = h.1; is = refl }))
fault_answers o ps c (SegmentsCross one two) n h =
    passes h.2 (passes h.3 (record { segs = h.0; fs = h.1; meshed = h.4; next = stops (record { one = one; two = two; first = h.5; is = refl }) }))
fault_answers o ps c (GridEnd piece) n h = begun o ps c h.0 h.1 (GridEndOf piece) (Some (GridEnd piece)) h.2 h.3 h.4 h.5 refl
fault_answers o ps c (BudgetEnd made piece) n h =
    begun o ps c h.0 h.1 (BudgetEndOf piece) (Some (BudgetEnd made piece)) h.2 h.3 h.4 h.6 (ap (λ m. Some (BudgetEnd m piece)) h.5)
fault_answers o ps c (Crossing one two) n h =
    met o ps c h.0 h.1 h.2 h.3 (Some (Crossing one two)) h.4 (stops (record { one = one; two = two; first = h.5; is = refl }))
fault_answers o ps c (NoFill anomaly) n h = met o ps c h.0 h.1 h.2 h.3 None h.4 (passes h.5 refl)
fault_answers o ps c NoMemory n h = absurd (n refl)

mesh_answers : (o : MeshOptions) (ps : List Point) (c : Complex) (m : ComplexMesh) → IsComplexMesh o ps c m → Answers o ps c None
mesh_answers o ps c m h =
    met o ps c h.segs h.fs m.points h.rest None h.protected
    (subst (λ ts. Meets m.points ts h.rest None) h.triangles (passes h.met refl))

-- ---- the laws

no_want : (a : MeshFault) → IsForcing a → a ≢ NoMemory
no_want a f e = subst IsForcing e f

-- a forcing cause is an outcome
forced : (a : MeshFault) → IsForcing a → outcome_of a ≡ Some a
forced NoMemory f = absurd f
forced (NoFill anomaly) f = absurd f
forced a f = refl

same : (a b : MeshFault) → IsForcing a → outcome_of a ≡ outcome_of b → a ≡ b
same a (NoFill anomaly) f e = absurd (none a (sym e ∙ forced a f))
  where
    none : (a : MeshFault) → None ≡ Some a → ⊥
    none a e = cc
same a b f e = some_same a b (sym (forced a f) ∙ e)
  where
    some_same : (a b : MeshFault) → Some a ≡ Some b → a ≡ b
    some_same a b e = cc

pub law_one_fault : OneFaultLaw
law_one_fault o ps c a b f m h k =
    same a b f (answers_once o ps c (outcome_of a) (outcome_of b) (fault_answers o ps c a (no_want a f) h) (fault_answers o ps c b m k))

pub law_no_fault : NoFaultLaw
law_no_fault o ps c m mesh a f h =
    never a f (answers_once o ps c None (outcome_of a) (mesh_answers o ps c m mesh) (fault_answers o ps c a (no_want a f) h))
  where
    none : (a : MeshFault) → None ≡ Some a → ⊥
    none a e = cc

    never : (a : MeshFault) → IsForcing a → None ≡ outcome_of a → ⊥
    never a f e = none a (e ∙ forced a f)
