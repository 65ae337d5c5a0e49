-- Each step of a check answers in one way at most, where the files are told, no fault rose and memory is not wanting.
use Rattle.std.proofs.Common.{◌≡◌, ◌≢◌, ◌≤◌, ◌<◌, ◌⊎◌, inl, inr, ℕ, zero, suc, List, length, Option, Some, None, Result, Ok, Err, refl, sym, ap, subst, ◌∙◌, ◌++◌, arith}
use Rattle.std.proofs.lemmas.Bool.{cases_order}
use Rattle.std.specs.FinMap as map_of
use Rattle.std.specs.Prelude.{map, codes}
use Rattle.sign_predicates.specs.Point.{Point}
use Rattle.grid_coords.specs.declared.grid.Grid.{Grid}
use Rattle.incidence.specs.declared.pairs.Across.{Across}
use Rattle.mesh_check.specs.Defects.{ReadMesh, HasDefect, IsFirstDefect, IsToldBefore, IsVerdict, PairBefore, kind_of, numbers_of}
use Rattle.mesh_check.specs.declared.defect.Defect.{Defect}
use Rattle.mesh_check.specs.declared.defect.Defect.TheVariants.{NotPositive, SameSide, NeighborCount, WrongNeighbor, Stray, Unlisted, Bent}
use Rattle.mesh_check.specs.declared.defect.Verdict.TheVariants.{Sound, Fault}
use Rattle.node_files.specs.LeastGrid.{least_grid_of, point_on}
use Rattle.grid_coords.specs.declared.points.DecimalPoint.{DecimalPoint}
use Rattle.grid_coords.specs.declared.grid.Range.{Range}
use Rattle.node_files.specs.declared.node_text.NodeText.{NodeText}
use Rattle.tet_ports.specs.Counts.{Rose}
use Rattle.tet_ports.specs.Files.{Files}
use Rattle.tet_text.specs.declared.fault.TextFault.{TextFault}
use Rattle.mesh_check.specs.Checking.{CheckAnswer, TextChecked, LeastGridAnswer, VerdictAnswer, mesh_of, most_points}
use Rattle.mesh_check.specs.Reading.{most_bytes, FetchAnswer, IsBadText, TextAnswer, FileAnswer, NeighborsAnswer, MeshAnswer, nodes_in_text, rows_of, faces_in_text, neighbors_in_text}
use Rattle.tet_ports.specs.Seen.{FolderSeen}
use Rattle.mesh_check.specs.Steps.{AndThen, Gives}
use Rattle.mesh_check.specs.declared.fault.CheckFault.{CheckFault}
use Rattle.mesh_check.specs.declared.fault.CheckFault.TheVariants.{Missing, ReadFault, TooLong, BadText, TooMany, OffGrid, Unsound, NoMemory}
use Rattle.mesh_check.specs.declared.reading.MeshText.{MeshText}
use Rattle.node_files.specs.Settling.{rounded_points}

-- the answer is not want of memory, which is free
abbrev pub IsDecided : {A : Type 0} → Result A CheckFault → Type 0
IsDecided (Ok a) = Unit {0}
IsDecided (Err fault) = fault ≢ NoMemory

-- the step answers in one way
abbrev pub IsOnce : {A : Type 0} → (Result A CheckFault → Type 0) → Type 0
IsOnce {A = A} step = (r s : Result A CheckFault) → IsDecided r → IsDecided s → step r → step s → r ≡ s

abbrev given : {A : Type 0} → A → Result A CheckFault
given a = Ok a

abbrev refused : (A : Type 0) → CheckFault → Result A CheckFault
refused A fault = Err fault

ok_same : {A : Type 0} (a b : A) → given a ≡ given b → a ≡ b
ok_same a b e = cc

err_same : (A B : Type 0) (s t : CheckFault) → refused A s ≡ refused A t → refused B s ≡ refused B t
err_same A B s t e = cc

ok_err : {A : Type 0} (a : A) (s : CheckFault) → given a ≡ refused A s → ⊥
ok_err a s e = cc

some_same : {A : Type 0} (a b : A) → Some a ≡ Some b → a ≡ b
some_same a b e = cc

pub and_then_once : {A B : Type 0} (first : Result A CheckFault → Type 0) (next : A → Result B CheckFault → Type 0) → IsOnce first → ((a : A) → IsOnce (next a)) → IsOnce (AndThen first next)
and_then_once first next one two (Ok b) (Ok c) n m f g =
    two g.0 (Ok b) (Ok c) n m (subst (λ a. next a (Ok b)) (ok_same f.0 g.0 (one (Ok f.0) (Ok g.0) tt tt f.1 g.1)) f.2) g.2
and_then_once first next one two (Ok b) (Err t) n m f (inl g) = absurd (ok_err f.0 t (one (Ok f.0) (Err t) tt m f.1 g))
and_then_once first next one two (Ok b) (Err t) n m f (inr g) =
    two g.0 (Ok b) (Err t) n m (subst (λ a. next a (Ok b)) (ok_same f.0 g.0 (one (Ok f.0) (Ok g.0) tt tt f.1 g.1)) f.2) g.2
and_then_once first next one two (Err s) (Ok c) n m (inl f) g = absurd (ok_err g.0 s (sym (one (Err s) (Ok g.0) n tt f g.1)))
and_then_once first next one two (Err s) (Ok c) n m (inr f) g =
    two g.0 (Err s) (Ok c) n m (subst (λ a. next a (Err s)) (ok_same f.0 g.0 (one (Ok f.0) (Ok g.0) tt tt f.1 g.1)) f.2) g.2
and_then_once {A} {B} first next one two (Err s) (Err t) n m (inl f) (inl g) = err_same A B s t (one (Err s) (Err t) n m f g)
and_then_once first next one two (Err s) (Err t) n m (inl f) (inr g) = absurd (ok_err g.0 s (sym (one (Err s) (Ok g.0) n tt f g.1)))
and_then_once first next one two (Err s) (Err t) n m (inr f) (inl g) = absurd (ok_err f.0 t (one (Ok f.0) (Err t) tt m f.1 g))
and_then_once first next one two (Err s) (Err t) n m (inr f) (inr g) =
    two g.0 (Err s) (Err t) n m (subst (λ a. next a (Err s)) (ok_same f.0 g.0 (one (Ok f.0) (Ok g.0) tt tt f.1 g.1)) f.2) g.2

gives_once : {A : Type 0} (a : A) → IsOnce (Gives a)
gives_once a (Ok b) (Ok c) n m h k = ap (λ x. Ok x) (h ∙ sym k)
gives_once a (Ok b) (Err t) n m h k = absurd (m k)
gives_once a (Err s) s' n m h k = absurd (n h)

-- ---- the files

-- what a fetch from told files answers
data FetchCase (told : Files) (name : List ℕ) (r : Result (List ℕ) CheckFault) : Type 0 where
  found : (bytes : List ℕ) → map_of.get told name ≡ Some bytes → length bytes ≤ most_bytes → r ≡ Ok bytes → FetchCase told name r
  absent : map_of.get told name ≡ None → r ≡ Err (Missing name) → FetchCase told name r
  long : (bytes : List ℕ) → map_of.get told name ≡ Some bytes → most_bytes < length bytes → r ≡ Err (TooLong name) → FetchCase told name r

fetch_case : (told : Files) (seen : FolderSeen) (name : List ℕ) (r : Result (List ℕ) CheckFault) → ¬ Rose seen.read_faults_before seen.read_faults_now → IsDecided r
    → FetchAnswer (record seen { files_before = Some told }) name r → FetchCase told name r
fetch_case told seen name (Ok bytes) f n h = found bytes h.0 h.1 refl
fetch_case told seen name (Err (Missing missing)) f n h = absent h.1 (ap (λ x. Err (Missing x)) h.0)
fetch_case told seen name (Err (ReadFault failed)) f n h = absurd (f h.1)
fetch_case told seen name (Err (TooLong large)) f n h = long h.1.0 h.1.1 h.1.2 (ap (λ x. Err (TooLong x)) h.0)
fetch_case told seen name (Err NoMemory) f n h = absurd (n refl)
fetch_case told seen name (Err s) f n h = absurd h

fetch_same : (told : Files) (name : List ℕ) (r s : Result (List ℕ) CheckFault) → FetchCase told name r → FetchCase told name s → r ≡ s
fetch_same told name r s (found b e l h) (found c f m k) = h ∙ ap (λ x. Ok x) (some_same b c (sym e ∙ f)) ∙ sym k
fetch_same told name r s (found b e l h) (absent f k) = absurd (cc)
fetch_same told name r s (found b e l h) (long c f m k) = let same = ap (λ (x : List ℕ). length x) (some_same b c (sym e ∙ f)) in absurd (omega (arith, same))
fetch_same told name r s (absent e h) (found c f m k) = absurd (cc)
fetch_same told name r s (absent e h) (absent f k) = h ∙ sym k
fetch_same told name r s (absent e h) (long c f m k) = absurd (cc)
fetch_same told name r s (long b e l h) (found c f m k) = let same = ap (λ (x : List ℕ). length x) (some_same b c (sym e ∙ f)) in absurd (omega (arith, same))
fetch_same told name r s (long b e l h) (absent f k) = absurd (cc)
fetch_same told name r s (long b e l h) (long c f m k) = h ∙ sym k

-- the files are told, and no fault rose
pub record IsTold (told : Files) (seen : FolderSeen) : Type 0 where
  pub files : seen.files_before ≡ Some told
  pub no_fault : ¬ Rose seen.read_faults_before seen.read_faults_now

fetch_once : (told : Files) (seen : FolderSeen) (name : List ℕ) → IsTold told seen → IsOnce (FetchAnswer seen name)
fetch_once told seen name t = subst (λ files. IsOnce (FetchAnswer (record seen { files_before = files }) name)) (sym t.files)
    (λ r s n m h k. fetch_same told name r s (fetch_case told seen name r t.no_fault n h) (fetch_case told seen name s t.no_fault m k))

bad_text_is : {A : Type 0} (name : List ℕ) (reading : Result A TextFault) (s : CheckFault) → s ≢ NoMemory → IsBadText name reading s
    → (fault : TextFault) × (reading ≡ Err fault) × (s ≡ BadText name fault)
bad_text_is name reading (BadText bad fault) n h = (fault, h.1, ap (λ x. BadText x fault) h.0)
bad_text_is name reading NoMemory n h = absurd (n refl)
bad_text_is name reading s n h = absurd h

abbrev unread : (A : Type 0) → TextFault → Result A TextFault
unread A fault = Err fault

fault_same : (A : Type 0) (f g : TextFault) → unread A f ≡ unread A g → f ≡ g
fault_same A f g e = cc

text_once : {A : Type 0} (name : List ℕ) (reading : Result A TextFault) → IsOnce (TextAnswer name reading)
text_once name reading (Ok a) (Ok b) n m h k = cc
text_once name reading (Ok a) (Err t) n m h k = let v = bad_text_is name reading t m k in let e = v.1 in absurd (cc)
text_once name reading (Err s) (Ok b) n m h k = let u = bad_text_is name reading s n h in let e = u.1 in absurd (cc)
text_once {A = A} name reading (Err s) (Err t) n m h k =
    let u = bad_text_is name reading s n h in
    let v = bad_text_is name reading t m k in
    ap (λ x. Err x) (u.2 ∙ ap (λ f. BadText name f) (fault_same A u.0 v.0 (sym u.1 ∙ v.1)) ∙ sym v.2)

pub file_once : {A : Type 0} (told : Files) (seen : FolderSeen) (name : List ℕ) (reading : List ℕ → Result A TextFault) → IsTold told seen → IsOnce (FileAnswer seen name reading)
file_once told seen name reading t = and_then_once (FetchAnswer seen name) (λ bytes. TextAnswer name (reading bytes)) (fetch_once told seen name t) (λ bytes. text_once name (reading bytes))

-- ---- the neighbors, as the answer of a file that may be absent

-- the answer of the file behind an answer of its neighbors
abbrev listed_of : List ℕ → Result (Option (List Across)) CheckFault → Result (List Across) CheckFault
listed_of name (Ok (Some neighbors)) = Ok neighbors
listed_of name (Ok None) = Err (Missing name)
listed_of name (Err fault) = Err fault

is_listed : (seen : FolderSeen) (base : List ℕ) (nodes : NodeText) (r : Result (Option (List Across)) CheckFault) → NeighborsAnswer seen base nodes r
    → FileAnswer seen (base ++ codes ".neigh") (neighbors_in_text nodes) (listed_of (base ++ codes ".neigh") r)
is_listed seen base nodes (Ok (Some neighbors)) h = h
is_listed seen base nodes (Ok None) h = inl (refl, h)
is_listed seen base nodes (Err (Missing name)) h = absurd h
is_listed seen base nodes (Err (ReadFault name)) h = h
is_listed seen base nodes (Err (TooLong name)) h = h
is_listed seen base nodes (Err (BadText name fault)) h = h
is_listed seen base nodes (Err (TooMany count)) h = h
is_listed seen base nodes (Err (OffGrid line)) h = h
is_listed seen base nodes (Err (Unsound defect first)) h = h
is_listed seen base nodes (Err NoMemory) h = h

not_missing : (seen : FolderSeen) (base : List ℕ) (nodes : NodeText) (name : List ℕ) → NeighborsAnswer seen base nodes (Err (Missing name)) → ⊥
not_missing seen base nodes name h = h

missing_decided : (name : List ℕ) → Missing name ≢ NoMemory
missing_decided name e = cc

listed_decided : (name : List ℕ) (r : Result (Option (List Across)) CheckFault) → IsDecided r → IsDecided (listed_of name r)
listed_decided name (Ok (Some neighbors)) n = tt
listed_decided name (Ok None) n = missing_decided name
listed_decided name (Err fault) n = n

refused_by : (seen : FolderSeen) (base : List ℕ) (nodes : NodeText) (name : List ℕ) (f : CheckFault) → refused (List Across) (Missing name) ≡ refused (List Across) f → NeighborsAnswer seen base nodes (Err f) → ⊥
refused_by seen base nodes name f e h = subst (λ (fault : CheckFault). NeighborsAnswer seen base nodes (Err fault)) (sym (fault_of (Missing name) f e)) h where
  fault_of : (s t : CheckFault) → refused (List Across) s ≡ refused (List Across) t → s ≡ t
  fault_of s t e = cc

unlisted : (seen : FolderSeen) (base : List ℕ) (nodes : NodeText) (name : List ℕ) (r s : Result (Option (List Across)) CheckFault) → NeighborsAnswer seen base nodes r → NeighborsAnswer seen base nodes s → listed_of name r ≡ listed_of name s → r ≡ s
unlisted seen base nodes name (Ok (Some a)) (Ok (Some b)) h k e = ap (λ x. Ok (Some x)) (ok_same a b e)
unlisted seen base nodes name (Ok (Some a)) (Ok None) h k e = absurd (ok_err a (Missing name) e)
unlisted seen base nodes name (Ok (Some a)) (Err t) h k e = absurd (ok_err a t e)
unlisted seen base nodes name (Ok None) (Ok (Some b)) h k e = absurd (ok_err b (Missing name) (sym e))
unlisted seen base nodes name (Ok None) (Ok None) h k e = refl
unlisted seen base nodes name (Ok None) (Err t) h k e = absurd (refused_by seen base nodes name t e k)
unlisted seen base nodes name (Err s) (Ok (Some b)) h k e = absurd (ok_err b s (sym e))
unlisted seen base nodes name (Err s) (Ok None) h k e = absurd (refused_by seen base nodes name s (sym e) h)
unlisted seen base nodes name (Err s) (Err t) h k e = err_same (List Across) (Option (List Across)) s t e

neighbors_once : (told : Files) (seen : FolderSeen) (base : List ℕ) (nodes : NodeText) → IsTold told seen → IsOnce (NeighborsAnswer seen base nodes)
neighbors_once told seen base nodes t r s n m h k =
    let name = base ++ codes ".neigh" in
    unlisted seen base nodes name r s h k
    (file_once told seen name (neighbors_in_text nodes) t (listed_of name r) (listed_of name s) (listed_decided name r n) (listed_decided name s m) (is_listed seen base nodes r h) (is_listed seen base nodes s k))

pub mesh_once : (told : Files) (seen : FolderSeen) (base : List ℕ) → IsTold told seen → IsOnce (MeshAnswer seen base)
mesh_once told seen base t =
    and_then_once (FileAnswer seen (base ++ codes ".node") nodes_in_text) _ (file_once told seen (base ++ codes ".node") nodes_in_text t)
    (λ nodes. and_then_once (FileAnswer seen (base ++ codes ".ele") (rows_of nodes)) _ (file_once told seen (base ++ codes ".ele") (rows_of nodes) t)
    (λ rows. and_then_once (FileAnswer seen (base ++ codes ".face") (faces_in_text nodes)) _ (file_once told seen (base ++ codes ".face") (faces_in_text nodes) t)
    (λ faces. and_then_once (NeighborsAnswer seen base nodes) _ (neighbors_once told seen base nodes t)
    (λ neighbors. gives_once (record { nodes = nodes; rows = rows; faces = faces; neighbors = neighbors })))))

-- ---- the points

abbrev on_grid : Grid → Result Grid Range
on_grid g = Ok g

abbrev off_grid : ℕ → Result Grid Range
off_grid line = Err (record { line = line })

grid_same : (g h : Grid) → on_grid g ≡ on_grid h → g ≡ h
grid_same g h e = cc

abbrev range_of : Result Grid Range → ℕ
range_of (Ok g) = 0
range_of (Err r) = r.line

on_or_off : (g : Grid) (line : ℕ) → on_grid g ≡ off_grid line → ⊥
on_or_off g line e = cc

points_once : (decimals : Option ℕ) (text : MeshText) → IsOnce (LeastGridAnswer decimals text)
points_once decimals text (Ok p) (Ok q) n m h k =
    ap (λ x. Ok x) (h.is ∙ ap (λ (g : Grid). map (point_on g) (rounded_points decimals text.nodes.decimals)) (grid_same h.grid k.grid (sym h.on ∙ k.on)) ∙ sym k.is)
points_once decimals text (Ok p) (Err (TooMany count)) n m h k = let few = h.few in let many = k.many in absurd (omega arith)
points_once decimals text (Ok p) (Err (OffGrid line)) n m h k = absurd (on_or_off h.grid line (sym h.on ∙ k.off))
points_once decimals text (Err (TooMany count)) (Ok q) n m h k = let few = k.few in let many = h.many in absurd (omega arith)
points_once decimals text (Err (TooMany count)) (Err (TooMany other)) n m h k = ap (λ x. Err (TooMany x)) (h.counted ∙ sym k.counted)
points_once decimals text (Err (TooMany count)) (Err (OffGrid line)) n m h k = let few = k.few in let many = h.many in absurd (omega arith)
points_once decimals text (Err (OffGrid line)) (Ok q) n m h k = absurd (on_or_off k.grid line (sym k.on ∙ h.off))
points_once decimals text (Err (OffGrid line)) (Err (TooMany count)) n m h k = let few = h.few in let many = k.many in absurd (omega arith)
points_once decimals text (Err (OffGrid line)) (Err (OffGrid other)) n m h k = ap (λ x. Err (OffGrid x)) (ap range_of (sym h.off ∙ k.off))
points_once decimals text (Err NoMemory) s n m h k = absurd (n refl)
points_once decimals text r (Err NoMemory) n m h k = absurd (m refl)
points_once decimals text (Err (Missing name)) s n m h k = absurd h
points_once decimals text (Err (ReadFault name)) s n m h k = absurd h
points_once decimals text (Err (TooLong name)) s n m h k = absurd h
points_once decimals text (Err (BadText name fault)) s n m h k = absurd h
points_once decimals text (Err (Unsound defect first)) s n m h k = absurd h
points_once decimals text r (Err s) n m h k = absurd k

-- ---- the first defect

-- the defect of a kind with these numbers
made : ℕ → ℕ → ℕ → Defect
made zero i j = NotPositive i
made (suc zero) i j = SameSide i j
made (suc (suc zero)) i j = NeighborCount
made (suc (suc (suc zero))) i j = WrongNeighbor i j
made (suc (suc (suc (suc zero)))) i j = Stray i
made (suc (suc (suc (suc (suc zero))))) i j = Unlisted i j
made (suc (suc (suc (suc (suc (suc k)))))) i j = Bent i j

made_is : (d : Defect) → made (kind_of d) (numbers_of d).0 (numbers_of d).1 ≡ d
unfolding made
made_is (NotPositive i) = refl
made_is (SameSide i j) = refl
made_is NeighborCount = refl
made_is (WrongNeighbor i k) = refl
made_is (Stray k) = refl
made_is (Unlisted i k) = refl
made_is (Bent i j) = refl

defect_same : (d e : Defect) → kind_of d ≡ kind_of e → (numbers_of d).0 ≡ (numbers_of e).0 → (numbers_of d).1 ≡ (numbers_of e).1 → d ≡ e
defect_same d e a b c =
    sym (made_is d) ∙ ap (λ k. made k (numbers_of d).0 (numbers_of d).1) a ∙ ap (λ x. made (kind_of e) x (numbers_of d).1) b
    ∙ ap (λ y. made (kind_of e) (numbers_of e).0 y) c ∙ made_is e

abbrev AreOrdered : Defect → Defect → Type 0
AreOrdered d e = (d ≡ e) ⊎ (IsToldBefore d e ⊎ IsToldBefore e d)

by_second : (d e : Defect) → kind_of d ≡ kind_of e → (numbers_of d).0 ≡ (numbers_of e).0
    → ((numbers_of d).1 ≡ (numbers_of e).1) ⊎ (((numbers_of d).1 < (numbers_of e).1) ⊎ ((numbers_of e).1 < (numbers_of d).1)) → AreOrdered d e
by_second d e k f (inl s) = inl (defect_same d e k f s)
by_second d e k f (inr (inl s)) = inr (inl (inr (k, inr (f, s))))
by_second d e k f (inr (inr s)) = inr (inr (inr (sym k, inr (sym f, s))))

by_first : (d e : Defect) → kind_of d ≡ kind_of e
    → ((numbers_of d).0 ≡ (numbers_of e).0) ⊎ (((numbers_of d).0 < (numbers_of e).0) ⊎ ((numbers_of e).0 < (numbers_of d).0)) → AreOrdered d e
by_first d e k (inl f) = by_second d e k f (cases_order (numbers_of d).1 (numbers_of e).1)
by_first d e k (inr (inl f)) = inr (inl (inr (k, inl f)))
by_first d e k (inr (inr f)) = inr (inr (inr (sym k, inl f)))

by_kind : (d e : Defect) → (kind_of d ≡ kind_of e) ⊎ ((kind_of d < kind_of e) ⊎ (kind_of e < kind_of d)) → AreOrdered d e
by_kind d e (inl k) = by_first d e k (cases_order (numbers_of d).0 (numbers_of e).0)
by_kind d e (inr (inl k)) = inr (inl (inl k))
by_kind d e (inr (inr k)) = inr (inr (inl k))

first_same : (m : ReadMesh) (d e : Defect) → IsFirstDefect m d → IsFirstDefect m e → AreOrdered d e → d ≡ e
first_same m d e h k (inl same) = same
first_same m d e h k (inr (inl before)) = absurd (k.first d before h.has)
first_same m d e h k (inr (inr before)) = absurd (h.first e before k.has)

verdict_once : (text : MeshText) (points : List Point) → IsOnce (VerdictAnswer text points)
verdict_once text points (Ok a) (Ok b) n m h k = ap (λ x. Ok x) (h.0 ∙ sym k.0)
verdict_once text points (Ok a) (Err (Unsound d f)) n m h k = absurd (h.1 d k.1.has)
verdict_once text points (Err (Unsound d f)) (Ok b) n m h k = absurd (k.1 d h.1.has)
verdict_once text points (Err (Unsound d f)) (Err (Unsound e g)) n m h k =
    ap (λ x. Err (Unsound x f)) (first_same (mesh_of text points) d e h.1 k.1 (by_kind d e (cases_order (kind_of d) (kind_of e)))) ∙ ap (λ x. Err (Unsound e x)) (h.0 ∙ sym k.0)
verdict_once text points (Err NoMemory) s n m h k = absurd (n refl)
verdict_once text points r (Err NoMemory) n m h k = absurd (m refl)
verdict_once text points (Err (Missing name)) s n m h k = absurd h
verdict_once text points (Err (ReadFault name)) s n m h k = absurd h
verdict_once text points (Err (TooLong name)) s n m h k = absurd h
verdict_once text points (Err (BadText name fault)) s n m h k = absurd h
verdict_once text points (Err (TooMany count)) s n m h k = absurd h
verdict_once text points (Err (OffGrid line)) s n m h k = absurd h
verdict_once text points r (Err s) n m h k = absurd k

-- ---- the whole

-- where the files are told and no fault rose, a check has one answer beside want of memory
pub check_once : (told : Files) (seen : FolderSeen) (base : List ℕ) (decimals : Option ℕ) → IsTold told seen → IsOnce (CheckAnswer seen base decimals)
check_once told seen base decimals t =
    and_then_once (MeshAnswer seen base) (TextChecked decimals) (mesh_once told seen base t)
    (λ text. and_then_once (LeastGridAnswer decimals text) (VerdictAnswer text) (points_once decimals text) (verdict_once text))
