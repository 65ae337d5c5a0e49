-- Why a word is not understood.
use Rattle.std.specs.Prelude.{ℕ, ◌-◌, ◌==◌, ◌||◌, nat_eq, nat_lt, length, List, [], codes, if◌then◌else◌}
use Rattle.std.specs.List.{slice_index_or, starts_with}
use Rattle.command_words.specs.Words.{is_cluster, is_long, is_name}
use Rattle.tetfit_run.specs.Words.{is_shape, is_unit, is_volume, keeps_boundary}
use Rattle.tetfit_run.specs.declared.reason.Reason.{Reason}
use Rattle.tetfit_run.specs.declared.reason.Reason.TheVariants.{Shapes, Shape, Volumes, Volume, Sizes, Boundary, Order, Insertion, Coarsening, Optimization, Tolerance, Exactness, Crossings, Voronoi, MeditFiles, Weights, Check, BesideCheck, OwnWord, Sample, Unit, Number, NoSwitch, EmptyWord, SecondName, NoName, LongWord, Letter}

-- letters of TetGen that have no meaning here
abbrev pub reason_of : ℕ → Reason
reason_of byte =
    if byte == 113 then Shapes else
    if byte == 97 then Volumes else
    if byte == 109 then Sizes else
    if byte == 89 then OwnWord else
    if byte == 111 then Order else
    if byte == 105 then Insertion else
    if byte == 82 then Coarsening else
    if byte == 79 then Optimization else
    if byte == 68 then Optimization else
    if byte == 84 then Tolerance else
    if byte == 88 then Exactness else
    if byte == 100 then Crossings else
    if byte == 118 then Voronoi else
    if byte == 103 then MeditFiles else
    if byte == 107 then OwnWord else
    if byte == 119 then Weights else
    if byte == 114 then Check else
    if byte == 67 then Check else
    if byte == 86 then OwnWord else
    if byte == 104 then OwnWord else Letter

-- Why the byte at this place of a cluster, from 1, is not understood. Behind -a a volume is required, behind -q a shape,
-- and behind an S, 83, a number. The word -Y is understood beside one of the first two
abbrev pub cluster_reason : List ℕ → ℕ → Reason
cluster_reason word place =
    if is_volume word then Volume else
    if is_shape word then Shape else
    if keeps_boundary word then Boundary else
    if slice_index_or word (place - 2) 0 == 83 then Number else
    if nat_lt (place - 1) (length word) then reason_of (slice_index_or word (place - 1) 0) else NoSwitch

abbrev pub long_reason : List ℕ → Reason
long_reason word =
    if starts_with nat_eq word (codes "--sample=") then Sample else
    if is_unit word then Unit else
    if starts_with nat_eq word (codes "--decimals=") || starts_with nat_eq word (codes "--halvings=") then Number else LongWord

-- why a word is not understood at this place
abbrev pub word_reason : List ℕ → ℕ → Reason
word_reason word place =
    if length word == 0 then EmptyWord else
    if is_long word then long_reason word else
    if is_cluster word then cluster_reason word place else SecondName

-- the reason of the fault at this word and place, both from 1: behind the last word a name is missing
abbrev pub why_not : List (List ℕ) → ℕ → ℕ → Reason
why_not words word place =
    if nat_lt (word - 1) (length words) then word_reason (slice_index_or words (word - 1) []) place else NoName

-- why a word does not go with -rC
abbrev pub beside_reason : List ℕ → Reason
beside_reason word = if length word == 0 then EmptyWord else if is_name word then SecondName else BesideCheck

-- the reason of the fault at this word of a check, from 1: behind the last word a name is missing
abbrev pub why_no_check : List (List ℕ) → ℕ → Reason
why_no_check words word = if nat_lt (word - 1) (length words) then beside_reason (slice_index_or words (word - 1) []) else NoName
