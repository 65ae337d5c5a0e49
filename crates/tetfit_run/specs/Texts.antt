-- The line on a word that is not understood.
use Rattle.std.specs.Prelude.{ℕ, ◌-◌, ◌&&◌, nat_lt, length, List, [], ◌∷◌, ◌++◌, codes, if◌then◌else◌}
use Rattle.std.specs.List.{slice_index_or}
use Rattle.command_words.specs.Words.{is_cluster}
use Rattle.tetfit_run.specs.declared.reason.Reason.{Reason}
use Rattle.tetfit_run.specs.declared.reason.Reason.TheVariants.{Shapes, Shape, Volumes, Volume, Sizes, Boundary, Order, Insertion, Coarsening, Optimization, Tolerance, Exactness, Crossings, Voronoi, MeditFiles, Weights, Check, BesideCheck, OwnWord, Sample, Unit, Number, NoSwitch, EmptyWord, SecondName, NoName, LongWord, Letter}
use Rattle.tetfit_run.specs.Reasons.{why_no_check, why_not}

abbrev pub reason_text : Reason → List ℕ
reason_text Shapes = codes "a ratio is a word of its own, as -q1.4"
reason_text Shape =
    codes "a ratio from 1 to 100 with at most 4 decimals is wanted, or with /n behind it, n degrees from 0 to 30, and a model with facets"
reason_text Volumes = codes "a volume is a word of its own, as -a0.5"
reason_text Volume = codes "a volume above 0 is wanted, and a model with facets"
reason_text Sizes = codes "sizes of tetrahedra are not there"
reason_text Boundary = codes "it goes with -a or -q"
reason_text Order = codes "midpoints of edges are corners by -o2, a word of its own"
reason_text Insertion = codes "points are not added from a list"
reason_text Coarsening = codes "meshes are not made coarser"
reason_text Optimization = codes "tetrahedra are made better by -q"
reason_text Tolerance = codes "signs are exact, and take no tolerance"
reason_text Exactness = codes "signs are always exact"
reason_text Crossings = codes "crossing parts are told without a switch"
reason_text Voronoi = codes "Voronoi cells are not written"
reason_text MeditFiles = codes "Medit files are not written, but -k and --msh write others"
reason_text Weights = codes "points with weights are meshed by tetgen -w"
reason_text Check = codes "a mesh is checked by -rC, a word of its own"
reason_text BesideCheck = codes "only -Q and a name go with -rC"
reason_text OwnWord = codes "this letter is a word of its own, with its hyphen"
reason_text Sample = codes "the sample is meshed by tetgen"
reason_text Unit = codes "a unit above 0 with at most 3 digits and 20 decimals is wanted"
reason_text Number = codes "a number within its limit is wanted"
reason_text NoSwitch = codes "a switch is wanted behind the hyphen"
reason_text EmptyWord = codes "the word is empty"
reason_text SecondName = codes "there is one name already"
reason_text NoName = codes "the name of a file is wanted"
reason_text LongWord = codes "a word that is not known"
reason_text Letter = codes "a letter that is not known"

-- the letter of a cluster at this place, from 1
abbrev pub letter_at : List ℕ → ℕ → List ℕ
letter_at word place = if is_cluster word && nat_lt (place - 1) (length word) then slice_index_or word (place - 1) 0 ∷ codes ": " else []

-- the word and the letter that is not understood; behind the last word there is none
abbrev pub word_told : List (List ℕ) → ℕ → ℕ → List ℕ
word_told words word place =
    if nat_lt (word - 1) (length words) then
    slice_index_or words (word - 1) [] ++ codes ": " ++ letter_at (slice_index_or words (word - 1) []) place else []

-- the line for a reason, which a line feed ends
abbrev pub reason_line : List (List ℕ) → ℕ → ℕ → Reason → List ℕ
reason_line words word place reason = codes "tetfit: " ++ word_told words word place ++ reason_text reason ++ codes "\n"

abbrev pub refused_line : List (List ℕ) → ℕ → ℕ → List ℕ
refused_line words word place = reason_line words word place (why_not words word place)

-- and beside -rC
abbrev pub refused_check_line : List (List ℕ) → ℕ → ℕ → List ℕ
refused_check_line words word place = reason_line words word place (why_no_check words word)
