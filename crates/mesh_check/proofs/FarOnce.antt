-- Each step of the check answers in one way at most, where the files are told, no fault rose and memory is not wanting.
use Rattle.std.proofs.Common.{◌≡◌, ◌<◌, ◌⊎◌, inl, inr, ℕ, zero, suc, List, Result, Ok, Err, refl, sym, ap, ◌∙◌, arith}
use Rattle.std.proofs.lemmas.Bool.{cases_order}
use Rattle.std.specs.Prelude.{map}
use Rattle.sign_predicates.specs.Point.{Point}
use Rattle.grid_coords.specs.declared.grid.Grid.{Grid}
use Rattle.grid_coords.specs.declared.grid.Range.{Range}
use Rattle.grid_coords.specs.declared.points.DecimalPoint.{DecimalPoint}
use Rattle.mesh_check.proofs.Once.{IsOnce, IsTold, and_then_once, mesh_once}
use Rattle.mesh_check.specs.Checking.{VerdictAnswer, mesh_of}
use Rattle.mesh_check.specs.Defects.{ReadMesh, IsFirstDefect, IsToldBefore, kind_of, numbers_of}
use Rattle.mesh_check.specs.Reading.{MeshAnswer}
use Rattle.mesh_check.specs.declared.defect.Defect.{Defect}
use Rattle.mesh_check.specs.declared.defect.Defect.TheVariants.{NotPositive, SameSide, NeighborCount, WrongNeighbor, Stray, Unlisted, Bent}
use Rattle.mesh_check.specs.declared.fault.CheckFault.TheVariants.{Missing, ReadFault, TooLong, BadText, TooMany, OffGrid, Unsound, NoMemory}
use Rattle.mesh_check.specs.declared.reading.MeshText.{MeshText}
use Rattle.node_files.specs.LeastGrid.{point_on}
use Rattle.tet_ports.specs.Files.{Files}
use Rattle.tet_ports.specs.Seen.{FolderSeen}
use Rattle.mesh_check.specs.Centering.{CenteredAnswer, IsMoving, PlacedAnswer, centered}
use Rattle.mesh_check.specs.FarChecking.{FarCheckAnswer, FarTextAnswer}

-- ---- the points

abbrev range_of : {A : Type 0} → Result A Range → ℕ
range_of (Ok a) = 0
range_of (Err r) = r.line

pub moving_once : (moving : Result (List DecimalPoint) Range) → IsOnce (IsMoving moving)
moving_once moving (Ok p) (Ok q) n m h k = cc
moving_once moving (Ok p) (Err (OffGrid line)) n m h k = absurd (cc)
moving_once moving (Err (OffGrid line)) (Ok q) n m h k = absurd (cc)
moving_once moving (Err (OffGrid line)) (Err (OffGrid other)) n m h k = ap (λ x. Err (OffGrid x)) (ap range_of (sym h ∙ k))
moving_once moving (Err NoMemory) s n m h k = absurd (n refl)
moving_once moving r (Err NoMemory) n m h k = absurd (m refl)
moving_once moving (Err (Missing name)) s n m h k = absurd h
moving_once moving (Err (ReadFault name)) s n m h k = absurd h
moving_once moving (Err (TooLong name)) s n m h k = absurd h
moving_once moving (Err (BadText name fault)) s n m h k = absurd h
moving_once moving (Err (TooMany count)) s n m h k = absurd h
moving_once moving (Err (Unsound defect first)) s n m h k = absurd h
moving_once moving r (Err s) n m h k = absurd k

abbrev on_grid : Grid → Result Grid Range
on_grid g = Ok g

abbrev off_grid : ℕ → Result Grid Range
off_grid line = Err (record { line = line })

grid_same : (g h : Grid) → on_grid g ≡ on_grid h → g ≡ h
grid_same g h e = cc

on_or_off : (g : Grid) (line : ℕ) → on_grid g ≡ off_grid line → ⊥
on_or_off g line e = cc

placed_once : (ps : List DecimalPoint) → IsOnce (PlacedAnswer ps)
placed_once ps (Ok p) (Ok q) n m h k =
    ap (λ x. Ok x) (h.is ∙ ap (λ (g : Grid). map (point_on g) ps) (grid_same h.grid k.grid (sym h.on ∙ k.on)) ∙ sym k.is)
placed_once ps (Ok p) (Err (TooMany count)) n m h k = let few = h.few in let many = k.many in absurd (omega arith)
placed_once ps (Ok p) (Err (OffGrid line)) n m h k = absurd (on_or_off h.grid line (sym h.on ∙ k.off))
placed_once ps (Err (TooMany count)) (Ok q) n m h k = let few = k.few in let many = h.many in absurd (omega arith)
placed_once ps (Err (TooMany count)) (Err (TooMany other)) n m h k = ap (λ x. Err (TooMany x)) (h.counted ∙ sym k.counted)
placed_once ps (Err (TooMany count)) (Err (OffGrid line)) n m h k = let few = k.few in let many = h.many in absurd (omega arith)
placed_once ps (Err (OffGrid line)) (Ok q) n m h k = absurd (on_or_off k.grid line (sym k.on ∙ h.off))
placed_once ps (Err (OffGrid line)) (Err (TooMany count)) n m h k = let few = h.few in let many = k.many in absurd (omega arith)
placed_once ps (Err (OffGrid line)) (Err (OffGrid other)) n m h k = ap (λ x. Err (OffGrid x)) (ap range_of (sym h.off ∙ k.off))
placed_once ps (Err NoMemory) s n m h k = absurd (n refl)
placed_once ps r (Err NoMemory) n m h k = absurd (m refl)
placed_once ps (Err (Missing name)) s n m h k = absurd h
placed_once ps (Err (ReadFault name)) s n m h k = absurd h
placed_once ps (Err (TooLong name)) s n m h k = absurd h
placed_once ps (Err (BadText name fault)) s n m h k = absurd h
placed_once ps (Err (Unsound defect first)) s n m h k = absurd h
placed_once ps r (Err s) n m h k = absurd k

-- ---- the first defect

-- the defect of a kind with these numbers
made : ℕ → ℕ → ℕ → Defect
made zero i j = NotPositive i
made (suc zero) i j = SameSide i j
made (suc (suc zero)) i j = NeighborCount
made (suc (suc (suc zero))) i j = WrongNeighbor i j
made (suc (suc (suc (suc zero)))) i j = Stray i
made (suc (suc (suc (suc (suc zero))))) i j = Unlisted i j
made (suc (suc (suc (suc (suc (suc k)))))) i j = Bent i j

made_is : (d : Defect) → made (kind_of d) (numbers_of d).0 (numbers_of d).1 ≡ d
unfolding made
made_is (NotPositive i) = refl
made_is (SameSide i j) = refl
made_is NeighborCount = refl
made_is (WrongNeighbor i k) = refl
made_is (Stray k) = refl
made_is (Unlisted i k) = refl
made_is (Bent i j) = refl

defect_same : (d e : Defect) → kind_of d ≡ kind_of e → (numbers_of d).0 ≡ (numbers_of e).0 → (numbers_of d).1 ≡ (numbers_of e).1 → d ≡ e
defect_same d e a b c =
    sym (made_is d) ∙ ap (λ k. made k (numbers_of d).0 (numbers_of d).1) a ∙ ap (λ x. made (kind_of e) x (numbers_of d).1) b
    ∙ ap (λ y. made (kind_of e) (numbers_of e).0 y) c ∙ made_is e

abbrev AreOrdered : Defect → Defect → Type 0
AreOrdered d e = (d ≡ e) ⊎ (IsToldBefore d e ⊎ IsToldBefore e d)

by_second : (d e : Defect) → kind_of d ≡ kind_of e → (numbers_of d).0 ≡ (numbers_of e).0
    → ((numbers_of d).1 ≡ (numbers_of e).1) ⊎ (((numbers_of d).1 < (numbers_of e).1) ⊎ ((numbers_of e).1 < (numbers_of d).1)) → AreOrdered d e
by_second d e k f (inl s) = inl (defect_same d e k f s)
by_second d e k f (inr (inl s)) = inr (inl (inr (k, inr (f, s))))
by_second d e k f (inr (inr s)) = inr (inr (inr (sym k, inr (sym f, s))))

by_first : (d e : Defect) → kind_of d ≡ kind_of e
    → ((numbers_of d).0 ≡ (numbers_of e).0) ⊎ (((numbers_of d).0 < (numbers_of e).0) ⊎ ((numbers_of e).0 < (numbers_of d).0)) → AreOrdered d e
by_first d e k (inl f) = by_second d e k f (cases_order (numbers_of d).1 (numbers_of e).1)
by_first d e k (inr (inl f)) = inr (inl (inr (k, inl f)))
by_first d e k (inr (inr f)) = inr (inr (inr (sym k, inl f)))

by_kind : (d e : Defect) → (kind_of d ≡ kind_of e) ⊎ ((kind_of d < kind_of e) ⊎ (kind_of e < kind_of d)) → AreOrdered d e
by_kind d e (inl k) = by_first d e k (cases_order (numbers_of d).0 (numbers_of e).0)
by_kind d e (inr (inl k)) = inr (inl (inl k))
by_kind d e (inr (inr k)) = inr (inr (inl k))

first_same : (m : ReadMesh) (d e : Defect) → IsFirstDefect m d → IsFirstDefect m e → AreOrdered d e → d ≡ e
first_same m d e h k (inl same) = same
first_same m d e h k (inr (inl before)) = absurd (k.first d before h.has)
first_same m d e h k (inr (inr before)) = absurd (h.first e before k.has)

verdict_once : (text : MeshText) (points : List Point) → IsOnce (VerdictAnswer text points)
verdict_once text points (Ok a) (Ok b) n m h k = ap (λ x. Ok x) (h.0 ∙ sym k.0)
verdict_once text points (Ok a) (Err (Unsound d f)) n m h k = absurd (h.1 d k.1.has)
verdict_once text points (Err (Unsound d f)) (Ok b) n m h k = absurd (k.1 d h.1.has)
verdict_once text points (Err (Unsound d f)) (Err (Unsound e g)) n m h k =
    ap (λ x. Err (Unsound x f)) (first_same (mesh_of text points) d e h.1 k.1 (by_kind d e (cases_order (kind_of d) (kind_of e)))) ∙ ap (λ x. Err (Unsound e x)) (h.0 ∙ sym k.0)
verdict_once text points (Err NoMemory) s n m h k = absurd (n refl)
verdict_once text points r (Err NoMemory) n m h k = absurd (m refl)
verdict_once text points (Err (Missing name)) s n m h k = absurd h
verdict_once text points (Err (ReadFault name)) s n m h k = absurd h
verdict_once text points (Err (TooLong name)) s n m h k = absurd h
verdict_once text points (Err (BadText name fault)) s n m h k = absurd h
verdict_once text points (Err (TooMany count)) s n m h k = absurd h
verdict_once text points (Err (OffGrid line)) s n m h k = absurd h
verdict_once text points r (Err s) n m h k = absurd k

-- ---- the whole

-- where the files are told and no fault rose, the check has one answer beside want of memory
pub far_once : (told : Files) (seen : FolderSeen) (base : List ℕ) → IsTold told seen → IsOnce (FarCheckAnswer seen base)
far_once told seen base t =
    and_then_once (MeshAnswer seen base) FarTextAnswer (mesh_once told seen base t)
    (λ text. and_then_once _ (VerdictAnswer text)
    (and_then_once (CenteredAnswer text.nodes.decimals) PlacedAnswer (moving_once (centered text.nodes.decimals)) placed_once) (verdict_once text))
