-- The facets of a complex that are one facet, and the search for them side by side.
use Rattle.std.specs.Prelude.{◌≡◌, ◌⊎◌, ℕ, ◌<◌, Bool, ◌&&◌, ◌==◌, Option, Some, None, List, length, get_or, All, Contains}
use Rattle.std.specs.List.{list_any}
use Rattle.sign_predicates.specs.Point.{Point}
use Rattle.geo_laws.specs.Complex.{Complex, facets, HasCornersOf}
use Rattle.geo_laws.specs.Delaunay.{HasDistinctPoints}
use Rattle.geo_laws.specs.Facet.{IsFlat}
use Rattle.geo_laws.specs.Segment.{piece}
use Rattle.geo_laws.specs.declared.complex.Piece.{Piece}
use Rattle.merged_facets.specs.Merged.{AreJoined, AreChained, IsInner}
use Rattle.merged_facets.specs.Labels.{IsForest, AreLabels}
use Rattle.merged_facets.specs.FacetSides.{facet_side, ends_of, ends_at}
use Rattle.merged_facets.specs.declared.sides.FacetSide.{FacetSide}
use Rattle.merged_facets.specs.declared.merging.InnerSide.{InnerSide}

-- for each facet the least number of its group, and the sides that are inner in a facet
pub record Groups : Type 0 where
  pub least : List ℕ
  pub inner : List InnerSide

-- the least number of the facet's group
abbrev pub group_of : Groups → ℕ → ℕ
group_of m f = get_or m.least f 0

-- whether the inner side is the side s of the facet, in either direction
abbrev pub is_side_of : ℕ → Piece → InnerSide → Bool
is_side_of f s k = k.facet == f && (k.ends.low == (ends_of s).low && k.ends.high == (ends_of s).high)

-- whether the side is inner in the facet
abbrev pub is_inner : Groups → ℕ → Piece → Bool
is_inner m f s = list_any (is_side_of f s) m.inner

-- ---- while it is looked for

-- flat facets of some points, no two of which are at one place
pub record AreMergeable (ps : List Point) (c : Complex) : Type 0 where
  pub corners : HasCornersOf ps c
  pub flat : All (IsFlat ps) (facets c)
  pub distinct : HasDistinctPoints ps

abbrev pub inner_side : FacetSide → InnerSide
inner_side e = record { facet = e.facet; ends = ends_of e.side }

-- one more inner side
pub record WithInner (old : List InnerSide) (k : InnerSide) (new : List InnerSide) : Type 0 where
  pub kept : (e : InnerSide) → Contains old e → Contains new e
  pub added : Contains new k
  pub only : (e : InnerSide) → Contains new e → Contains old e ⊎ (e ≡ k)

-- each facet is joined in a chain with its label, and each side that is noted is inner
pub record IsSoundForest (ps : List Point) (c : Complex) (down : List ℕ) (inner : List InnerSide) (label : ℕ → ℕ) : Type 0 where
  pub forest : IsForest down
  pub long : length down ≡ length c.facets
  pub labels : AreLabels down label
  pub chained : (f : ℕ) → AreChained ps c f (label f)
  pub inner_is : (k : InnerSide) (s : Piece) → Contains inner k → ends_of s ≡ k.ends → IsInner ps c k.facet s

-- where the two sides' facets are joined, the sides are noted as inner and the groups are one
abbrev pub IsNoted : List Point → Complex → List InnerSide → (ℕ → ℕ) → FacetSide → FacetSide → Type 0
IsNoted ps c inner label x y =
    AreJoined ps c x.side x.facet y.facet → (label x.facet ≡ label y.facet) × Contains inner (inner_side x) × Contains inner (inner_side y)

-- noted sides stay noted, and joined groups stay joined
pub record Grows (old : List InnerSide) (label : ℕ → ℕ) (new : List InnerSide) (label' : ℕ → ℕ) : Type 0 where
  pub same : (f g : ℕ) → label f ≡ label g → label' f ≡ label' g
  pub kept : (k : InnerSide) → Contains old k → Contains new k

-- the two sides are noted, and all is sound as it was
abbrev pub NotesPair : List Point → Complex → FacetSide → FacetSide → List ℕ → List InnerSide → List ℕ → List InnerSide
    → Type 0
NotesPair ps c x y down inner down' inner' =
    (label : ℕ → ℕ) → IsSoundForest ps c down inner label
    → (label' : ℕ → ℕ) × IsSoundForest ps c down' inner' label' × Grows inner label inner' label' × IsNoted ps c inner' label' x y

abbrev pub facet_side_at : List FacetSide → ℕ → FacetSide
facet_side_at list i = get_or list i (facet_side 0 (piece 0 0 0))

-- a place is behind another one, or there is no other
abbrev pub IsBehind : Option ℕ → ℕ → Type 0
IsBehind None j = Unit {0}
IsBehind (Some m) j = m < j

-- the side at i is noted with each earlier one with the same ends that is behind a place
abbrev pub AreNotedBehind : List Point → Complex → List FacetSide → ℕ → Option ℕ → List InnerSide → (ℕ → ℕ) → Type 0
AreNotedBehind ps c list i next inner label =
    (j : ℕ) → j < i → IsBehind next j → ends_at list j ≡ ends_at list i
    → IsNoted ps c inner label (facet_side_at list i) (facet_side_at list j)

-- each side before i is noted with each earlier one with the same ends
abbrev pub AreNotedBelow : List Point → Complex → List FacetSide → ℕ → List InnerSide → (ℕ → ℕ) → Type 0
AreNotedBelow ps c list i inner label = (k : ℕ) → k < i → AreNotedBehind ps c list k None inner label

-- what is found once the sides before i are noted
pub record AreInnerFound (ps : List Point) (c : Complex) (list : List FacetSide) (i : ℕ) (down : List ℕ) (inner : List InnerSide)
    (label : ℕ → ℕ) : Type 0 where
  pub sound : IsSoundForest ps c down inner label
  pub noted : AreNotedBelow ps c list i inner label

abbrev pub HasFound : List Point → Complex → List FacetSide → ℕ → List ℕ → List InnerSide → Type 0
HasFound ps c list i down inner = (label : ℕ → ℕ) × AreInnerFound ps c list i down inner label
