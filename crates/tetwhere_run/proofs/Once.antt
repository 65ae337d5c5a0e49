-- The queries are answered in one way at most, where the files are told, no fault rose and memory is not wanting.
use Rattle.std.proofs.Common.{◌≡◌, ◌<◌, ◌⊎◌, ◌++◌, ◌∙◌, inl, inr, ℕ, List, Option, Some, None, Result, Ok, Err, refl, sym, ap, arith}
use Rattle.std.specs.Prelude.{map, codes}
use Rattle.std.proofs.lemmas.Bool.{cases_order}
use Rattle.grid_coords.specs.declared.grid.Grid.{Grid}
use Rattle.grid_coords.specs.declared.grid.Range.{Range}
use Rattle.grid_coords.specs.declared.points.DecimalPoint.{DecimalPoint}
use Rattle.mesh_check.specs.Defects.{IsNotPositive}
use Rattle.mesh_check.specs.declared.defect.Defect.TheVariants.{NotPositive}
use Rattle.node_files.specs.LeastGrid.{point_on}
use Rattle.tet_ports.specs.Files.{Files}
use Rattle.mesh_check.specs.Reading.{FileAnswer, nodes_in_text, rows_of}
use Rattle.tet_ports.specs.Seen.{FolderSeen}
use Rattle.mesh_check.specs.Steps.{Gives}
use Rattle.mesh_check.specs.declared.fault.CheckFault.TheVariants.{Missing, ReadFault, TooLong, BadText, TooMany, OffGrid, Unsound, NoMemory}
use Rattle.mesh_check.proofs.Once.{IsOnce, IsTold, and_then_once, file_once}
use Rattle.mesh_check.proofs.FarOnce.{moving_once}
use Rattle.mesh_check.specs.Centering.{MovedAnswer}
use Rattle.mesh_check.specs.Moving.{moved_from}
use Rattle.grid_coords.specs.declared.origin.WholePoint.{WholePoint}
use Rattle.tetwhere_run.specs.Centering.{CenteredTextAnswer, MovedTextAnswer, origin_for, with_places}
use Rattle.tetwhere_run.specs.Locating.{SettledAnswer, PositiveAnswer, IsLocatedOnGrid, TextLocated, LocateAnswer, answer_text}
use Rattle.tetwhere_run.specs.Reading.{WhereTextAnswer}
use Rattle.tetwhere_run.specs.declared.reading.WhereText.{WhereText}
use Rattle.tetwhere_run.specs.declared.settling.Settled.{Settled}

gives_once : {A : Type 0} (a : A) → IsOnce (Gives a)
gives_once a (Ok b) (Ok c) n m h k = ap (λ x. Ok x) (h ∙ sym k)
gives_once a (Ok b) (Err t) n m h k = absurd (m k)
gives_once a (Err s) r n m h k = absurd (n h)

text_once : (told : Files) (seen : FolderSeen) (base queries : List ℕ) → IsTold told seen → IsOnce (WhereTextAnswer seen base queries)
text_once told seen base queries t =
    and_then_once (FileAnswer seen (base ++ codes ".node") nodes_in_text) _ (file_once told seen (base ++ codes ".node") nodes_in_text t)
    (λ nodes. and_then_once (FileAnswer seen (base ++ codes ".ele") (rows_of nodes)) _ (file_once told seen (base ++ codes ".ele") (rows_of nodes) t)
    (λ rows. and_then_once (FileAnswer seen queries nodes_in_text) _ (file_once told seen queries nodes_in_text t)
    (λ list. gives_once (record { nodes = nodes; rows = rows; queries = list }))))

-- ---- the points

abbrev on_grid : Grid → Result Grid Range
on_grid g = Ok g

abbrev off_grid : ℕ → Result Grid Range
off_grid line = Err (record { line = line })

grid_same : (g h : Grid) → on_grid g ≡ on_grid h → g ≡ h
grid_same g h e = cc

on_or_off : (g : Grid) (line : ℕ) → on_grid g ≡ off_grid line → ⊥
on_or_off g line e = cc

abbrev line_of : Result Grid Range → ℕ
line_of (Ok g) = 0
line_of (Err r) = r.line

settled_once : (ps : List DecimalPoint) → IsOnce (SettledAnswer ps)
settled_once ps (Ok s) (Ok t) n m h k =
    let g = grid_same s.grid t.grid (sym h.grid ∙ k.grid) in
    let p = h.points ∙ ap (λ (g : Grid). map (point_on g) ps) g ∙ sym k.points in
    λ i. Ok (record { grid = g i; points = p i })
settled_once ps (Ok s) (Err (TooMany count)) n m h k = let few = h.few in let many = k.many in absurd (omega arith)
settled_once ps (Ok s) (Err (OffGrid line)) n m h k = absurd (on_or_off s.grid line (sym h.grid ∙ k.off))
settled_once ps (Err (TooMany count)) (Ok t) n m h k = let few = k.few in let many = h.many in absurd (omega arith)
settled_once ps (Err (TooMany count)) (Err (TooMany other)) n m h k = ap (λ x. Err (TooMany x)) (h.counted ∙ sym k.counted)
settled_once ps (Err (TooMany count)) (Err (OffGrid line)) n m h k = let few = k.few in let many = h.many in absurd (omega arith)
settled_once ps (Err (OffGrid line)) (Ok t) n m h k = absurd (on_or_off t.grid line (sym k.grid ∙ h.off))
settled_once ps (Err (OffGrid line)) (Err (TooMany count)) n m h k = let few = h.few in let many = k.many in absurd (omega arith)
settled_once ps (Err (OffGrid line)) (Err (OffGrid other)) n m h k = ap (λ x. Err (OffGrid x)) (ap line_of (sym h.off ∙ k.off))
settled_once ps (Err NoMemory) s n m h k = absurd (n refl)
settled_once ps r (Err NoMemory) n m h k = absurd (m refl)
settled_once ps (Err (Missing name)) s n m h k = absurd h
settled_once ps (Err (ReadFault name)) s n m h k = absurd h
settled_once ps (Err (TooLong name)) s n m h k = absurd h
settled_once ps (Err (BadText name fault)) s n m h k = absurd h
settled_once ps (Err (Unsound defect first)) s n m h k = absurd h
settled_once ps r (Err s) n m h k = absurd k

-- ---- the first row that is not positive

abbrev IsFirst : (ℕ → Type 0) → ℕ → Type 0
IsFirst P i = P i × ((k : ℕ) → k < i → ¬ P k)

first_same : (P : ℕ → Type 0) (i j : ℕ) → IsFirst P i → IsFirst P j → (i ≡ j) ⊎ ((i < j) ⊎ (j < i)) → i ≡ j
first_same P i j h k (inl same) = same
first_same P i j h k (inr (inl before)) = absurd (k.1 i before h.0)
first_same P i j h k (inr (inr before)) = absurd (h.1 j before k.0)

positive_once : (text : WhereText) (s : Settled) → IsOnce (PositiveAnswer text s)
positive_once text s (Ok done) (Ok other) n m h k = refl
positive_once text s (Ok done) (Err (Unsound (NotPositive row) first)) n m h k = absurd (h row k.1.0)
positive_once text s (Err (Unsound (NotPositive row) first)) (Ok done) n m h k = absurd (k row h.1.0)
positive_once text s (Err (Unsound (NotPositive i) f)) (Err (Unsound (NotPositive j) g)) n m h k =
    let row = first_same (IsNotPositive s.points text.rows) i j h.1 k.1 (cases_order i j) in
    let first = h.0 ∙ sym k.0 in
    λ x. Err (Unsound (NotPositive (row x)) (first x))
positive_once text s (Ok done) (Err t) n m h k = absurd k
positive_once text s (Err (Unsound (NotPositive i) f)) (Err t) n m h k = absurd k
positive_once text s (Err t) r n m h k = absurd h

-- ---- the origin

moved_text_once : (origin : Option WholePoint) (text : WhereText) → IsOnce (MovedTextAnswer origin text)
moved_text_once None text = gives_once text
moved_text_once (Some w) text =
    and_then_once (MovedAnswer w text.nodes.decimals) _ (moving_once (moved_from w text.nodes.decimals))
    (λ ps. and_then_once (MovedAnswer w text.queries.decimals) _ (moving_once (moved_from w text.queries.decimals))
    (λ qs. gives_once (with_places text ps qs)))

-- ---- the whole

on_grid_once : (text : WhereText) → IsOnce (IsLocatedOnGrid text)
on_grid_once text =
    and_then_once (SettledAnswer text.nodes.decimals) _ (settled_once text.nodes.decimals)
    (λ settled. and_then_once (PositiveAnswer text settled) _ (positive_once text settled)
    (λ done. gives_once (answer_text text settled)))

-- where the files are told and no fault rose, the queries have one answer beside want of memory
pub locate_once : (told : Files) (seen : FolderSeen) (base queries : List ℕ) → IsTold told seen → IsOnce (LocateAnswer seen base queries)
locate_once told seen base queries t =
    and_then_once (WhereTextAnswer seen base queries) TextLocated (text_once told seen base queries t)
    (λ text. and_then_once (CenteredTextAnswer text) IsLocatedOnGrid (moved_text_once (origin_for text.nodes.decimals) text) on_grid_once)
