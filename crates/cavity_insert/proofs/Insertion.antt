-- A point is inserted into a mesh of lifted points.
use Rattle.std.proofs.Common.{◌≡◌, ℕ, ℤ, List, ◌∷◌, Option, subst, sym, arith}
use Rattle.std.specs.Prelude.{Result, Ok, Err, IfOk}
use Rattle.sign_predicates.specs.Point.{Point}
use Rattle.geo_laws.specs.Delaunay.{point}
use Rattle.mesh_arena.specs.Mesh.{SlotValue, corners_at, IsLive, IsArenaMesh}
use Rattle.mesh_arena.specs.StarLinks.{ArePaired}
use Rattle.mesh_arena.specs.Replace.{IsCavity, IsRim, IsOffRim, Replaces}
use Rattle.mesh_arena.specs.declared.slot.Corner.TheVariants.{Point as Numbered}
use Rattle.mesh_arena.specs.declared.slot.Slot.{Slot}
use Rattle.mesh_arena.specs.declared.slot.RimFace.{RimFace}
use Rattle.point_locate.specs.Place.{IsPlace, IsSomePlace}
use Rattle.point_locate.specs.declared.walk.Place.{Place}
use Rattle.mesh_laws.specs.Reach.{Grown}
use Rattle.mesh_laws.specs.LowestLiving.{IsLowestMesh}
use Rattle.mesh_laws.specs.LowestRule.{IsLowestTaken}
use Rattle.mesh_laws.specs.LowestLaws.{slot_of, IsLowestWholeFrom}
use Rattle.mesh_laws.proofs.LowestWhole.{law_cavity, law_hidden_point}
use Rattle.mesh_laws.proofs.LowestCutOut.{law_cut_out}
use Rattle.mesh_laws.proofs.LowestPaired.{law_paired}
use Rattle.mesh_laws.proofs.LowestSomeRim.{law_some_rim, row_of_slot}
use Rattle.mesh_laws.proofs.LowestPlaced.{law_placed}
use Rattle.mesh_laws.proofs.LowestReplacedMesh.{law_replaced}
use Rattle.cavity_insert.specs.Insert.{IsReadyFor}
use Rattle.cavity_insert.specs.Growth.{IsCavityOf}
use Rattle.cavity_insert.specs.PointZone.{PointZoneValue, zone_for}
use Rattle.cavity_insert.specs.PointZone as point_zone
use Rattle.mesh_laws.specs.Rule as delaunay
use Rattle.mesh_arena.proofs.AddStar.{live_by_side}
use Rattle.mesh_laws.proofs.LowestAcross.{some_side}

-- what `replace_cavity` asks
pub record CanReplace (slots : List (Option SlotValue)) (cavity : List Slot) (rim : List RimFace) (p : ℕ) : Type 0 where
  pub is_cavity : IsCavity slots cavity
  pub is_rim : IsRim slots cavity rim
  pub paired : ArePaired slots rim
  pub off_rim : IsOffRim slots rim (Numbered p)

module _ (heights : ℕ → ℤ) (slots : List (Option SlotValue)) (ps : List Point) (ms : List ℕ) (p : ℕ) (mesh : IsArenaMesh slots) (ready : IsReadyFor heights slots ps ms p) where
  pub somewhere : (s : ℕ) → IsLive slots s → IsSomePlace slots ps (point ps p)
  somewhere s live = law_placed.somewhere heights slots ps ms p s mesh ready.mesh ready.is_new live

  -- where the slot of the place is not taken, the mesh stays
  pub hidden_at : (q : Point) (place : Place) (s : ℕ) → q ≡ point ps p → s ≡ slot_of place → IsPlace slots ps q place → ¬ IsLowestTaken heights slots ps p s → IsLowestMesh heights slots ps (p ∷ ms)
  hidden_at q place s e f is not = law_hidden_point heights slots ps ms p mesh ready.mesh ready.is_new place (subst (λ x. IsPlace slots ps x place) e is) (subst (λ i. ¬ IsLowestTaken heights slots ps p i) f not)

  -- and where it is, the search finds the whole cavity
  pub whole_at : (q : Point) (place : Place) (s : ℕ) → q ≡ point ps p → s ≡ slot_of place → IsPlace slots ps q place → IsLowestTaken heights slots ps p s → IsLowestWholeFrom heights slots ps p s
  whole_at q place s e f is taken =
      subst (IsLowestWholeFrom heights slots ps p) (sym f)
      (law_cavity heights slots ps ms p mesh ready.mesh ready.is_new place (subst (λ x. IsPlace slots ps x place) e is) (subst (IsLowestTaken heights slots ps p) f taken))

  module _ (start : ℕ) (whole : IsLowestWholeFrom heights slots ps p start) (cavity : List Slot) (rim : List RimFace) (grown : Grown slots (IsLowestTaken heights slots ps p) start cavity rim) where
    pub can_replace : CanReplace slots cavity rim p
    can_replace =
        let some = law_some_rim heights slots ps ms p start cavity rim mesh ready.mesh ready.is_new grown whole in
        let cut = law_cut_out heights slots ps ms p start cavity rim mesh ready.mesh ready.is_new grown some in
        record {
          is_cavity = cut.is_cavity;
          is_rim = cut.is_rim;
          paired = law_paired heights slots ps ms p start cavity rim mesh ready.mesh ready.is_new grown whole;
          off_rim = cut.is_off_rim;
        }

    pub inserted : (new : List (Option SlotValue)) (s near : ℕ) → IsLive slots near → IsArenaMesh new → Replaces slots new cavity rim (Numbered p) s → IsLowestMesh heights new ps (p ∷ ms)
    inserted new s near live made replaces =
        let some = row_of_slot heights slots ps ms near ready.mesh live in
        law_replaced heights slots new ps ms p start cavity rim s mesh made ready.mesh ready.is_new some.0 some.1 grown (λ u t. grown.all u (whole.all u t)) replaces

-- the cavity that a growth found
pub cavity_for : (heights : ℕ → ℤ) (slots : List (Option SlotValue)) (ps : List Point) (p : ℕ) (from start : Slot) (cavity : List Slot) (rim : List RimFace) → from ≡ start
    → IsArenaMesh slots → IsLowestWholeFrom heights slots ps p start.index → Grown slots (IsLowestTaken heights slots ps p) from.index cavity rim → IsCavityOf heights slots ps p cavity rim
cavity_for heights slots ps p from start cavity rim f mesh whole grown = record {
  mesh = mesh;
  start = start.index;
  whole = whole;
  grown = subst (λ (s : Slot). Grown slots (IsLowestTaken heights slots ps p) s.index cavity rim) f grown;
}

-- what a cavity is good for, in a list of slots that is the same
module _ (heights : ℕ → ℤ) (slots now : List (Option SlotValue)) (ps : List Point) (p : ℕ) (cavity : List Slot) (rim : List RimFace) (same : now ≡ slots) (found : IsCavityOf heights slots ps p cavity rim) where
  pub replace_at : (ms : List ℕ) → IsReadyFor heights slots ps ms p → CanReplace now cavity rim p
  replace_at ms ready = subst (λ x. CanReplace x cavity rim p) (sym same) (can_replace heights slots ps ms p found.mesh ready found.start found.whole cavity rim found.grown)

  pub inserted_at : (ms : List ℕ) → IsReadyFor heights slots ps ms p → (new : List (Option SlotValue)) (s near : ℕ) → IsLive slots near → IsArenaMesh new → Replaces now new cavity rim (Numbered p) s → IsLowestMesh heights new ps (p ∷ ms)
  inserted_at ms ready new s near live made replaces =
      inserted heights slots ps ms p found.mesh ready found.start found.whole cavity rim found.grown new s near live made (subst (λ x. Replaces x new cavity rim (Numbered p) s) same replaces)

  -- a slot that the point does not take stays
  pub stays_at : (new : List (Option SlotValue)) (s u : ℕ) → Replaces now new cavity rim (Numbered p) s → IsLive slots u → (IsLowestTaken heights slots ps p u → ⊥) → corners_at new u ≡ corners_at slots u
  stays_at new s u replaces live not =
      let there : Replaces slots new cavity rim (Numbered p) s = subst (λ x. Replaces x new cavity rim (Numbered p) s) same replaces in
      there.kept u live (λ in_cavity. not (subst (IsLowestTaken heights slots ps p) in_cavity.is (found.grown.taken in_cavity.place in_cavity.inside)))

-- what a growth found in the zone of any point, told of the mesh, the points, the point and its number themselves
pub grown_for : (zone : PointZoneValue) (slots : List (Option SlotValue)) (ps : List Point) (q : Point) (p : ℕ) (from start : Slot) (cavity : List Slot) (rim : List RimFace) → zone ≡ zone_for slots ps q p → from ≡ start
    → Grown zone.slots (point_zone.IsInZone zone) from.index cavity rim → Grown slots (delaunay.IsTaken slots ps q p) start.index cavity rim
grown_for zone slots ps q p from start cavity rim e f grown =
    subst (λ (s : Slot). Grown slots (delaunay.IsTaken slots ps q p) s.index cavity rim) f (subst (λ (s : PointZoneValue). Grown s.slots (point_zone.IsInZone s) from.index cavity rim) e grown)

pub if_ok : {T E : Type 0} → (P Q : T → Type 0) → ((x : T) → P x → Q x) → (r : Result T E) → IfOk r P → IfOk r Q
if_ok P Q f (Ok x) h = f x h
if_ok P Q f (Err e) h = tt

-- a slot of the star is live
pub star_live : (old new : List (Option SlotValue)) (p s : ℕ) (cavity : List Slot) (rim : List RimFace) → Replaces old new cavity rim (Numbered p) s → IsLive new s
star_live old new p s cavity rim replaces =
    let a = replaces.answer in
    let b = some_side _ ((replaces.star a.0 a.1).linked 0 (omega arith)) in
    subst (IsLive new) a.2 (live_by_side new _ 0 b.0 b.1)
