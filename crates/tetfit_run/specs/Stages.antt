-- The stages of a mesh, said where the words ask for them.
use Rattle.std.specs.Prelude.{◌≡◌, ◌≤◌, ◌⊎◌, ℕ, Bool, true, false, ◌&&◌, List, [], ◌∷◌, ◌++◌, codes, if◌then◌else◌}
use Rattle.std.specs.Fmt.{decimal}
use Rattle.refining.specs.declared.watch.Round.{Round}
use Rattle.run_steps.specs.Reports.{counted_text}
use Rattle.run_steps.specs.declared.status.Status.{Status}
use Rattle.run_steps.specs.declared.status.Status.TheVariants.{Done, NoMemory, WriteFault}
use Rattle.tet_ports.specs.Counts.{Rose}
use Rattle.tet_ports.specs.Seen.{IsMessagePut, SinkSeen, SinkState, sink_seen}
use Rattle.tet_ports.specs.Written.{PartlyPut, with_written}
use Rattle.tetfit_run.specs.Coordinates.{least_text, greatest_text}
use Rattle.tetfit_run.specs.Words.{asks_stages, request_of}
use Rattle.tetfit_run.specs.declared.request.Request.{Request}
use Rattle.tetfit_run.specs.declared.request.Request.TheVariants.{Mesh}
use Rattle.tetfit_run.specs.declared.stages.TheConstants.{READS, STORES}

abbrev pub is_mesh : Request → Bool
is_mesh Mesh = true
is_mesh request = false

-- the words ask for a mesh, and for its stages
abbrev pub says_stages : List (List ℕ) → Bool
says_stages words = asks_stages words && is_mesh (request_of words)

-- a text, where stages are said
abbrev pub stage_text : Bool → List ℕ → List ℕ
stage_text says text = if says then text else []

-- the line of a round of added points: the numbers of points and of tetrahedra of its mesh, and of those that are beyond each bound;
-- then where the mesh is worst
abbrev pub round_text : Round → List ℕ
round_text round =
    codes "tetfit: points " ++ decimal round.points ++ codes " tetrahedra " ++ decimal round.tetrahedra
    ++ counted_text (codes " over ") round.counts.over ++ counted_text (codes " slim ") round.counts.slim
    ++ counted_text (codes " flat ") round.counts.flat ++ least_text round.frame round.worst.angle
    ++ greatest_text round.frame round.worst.ratio ++ (10 ∷ [])

abbrev pub rounds_text : List Round → List ℕ
rounds_text [] = []
rounds_text (round ∷ more) = round_text round ++ rounds_text more

-- the stages of a run: one before the model is read, then the rounds in which points are added, and one once all texts are made
abbrev pub stages_text : Bool → List Round → Bool → List ℕ
stages_text says rounds false = stage_text says READS.now ++ stage_text says (rounds_text rounds)
stages_text says rounds true = (stage_text says READS.now ++ stage_text says (rounds_text rounds)) ++ stage_text says STORES.now

-- a sink from one state to another
abbrev pub between : SinkState → SinkState → SinkSeen
between old now = sink_seen (λ s. s) old now

-- a prefix of the text is written, and the sink failed or was out of memory
abbrev pub IsCut : List ℕ → SinkSeen → Type 0
IsCut text err =
    PartlyPut err.written_before text err.written_now × (Rose err.faults_before err.faults_now ⊎ Rose err.wants_before err.wants_now)

-- whether all texts were made in a run with this status; both are possible out of memory
abbrev pub IsMadeAt : Status → Bool → Type 0
IsMadeAt Done made = made ≡ true
IsMadeAt (WriteFault name) made = made ≡ true
IsMadeAt NoMemory made = Unit {0}
IsMadeAt status made = made ≡ false

-- the stages of a run with this status are written
abbrev pub AreStagesPut : List (List ℕ) → Status → SinkSeen → Type 0
AreStagesPut words status err =
    (rounds : List Round) × (made : Bool) × IsMadeAt status made × IsMessagePut (stages_text (says_stages words) rounds made) err

-- A text is put from one state of a sink to another, whole, or cut; `before` and `after` are whether all before it was put whole, and
-- whether all with it was. Nothing is put where something before it was cut
pub record IsSaid (before after : Bool) (text : List ℕ) (old now : SinkState) : Type 0 where
  pub whole : after ≡ true → (before ≡ true) × (now.written ≡ with_written old.written text)
  pub cut : before ≡ true → after ≡ false → IsCut text (between old now)
  pub kept : before ≡ false → now ≡ old
  pub faults : old.faults ≤ now.faults
  pub wants : old.wants ≤ now.wants

-- some rounds were shown from one state to another
abbrev pub SeesRounds : {S : Type 0} → (List Round → S → S → Type 0) → S → S → Type 0
SeesRounds shown s t = (rounds : List Round) × shown rounds s t

-- what the sink shows up to a state of it, and from that state on
abbrev pub until : SinkState → SinkSeen → SinkSeen
until mid err = record err { written_now = mid.written; faults_now = mid.faults; wants_now = mid.wants }

abbrev pub since : SinkState → SinkSeen → SinkSeen
since mid err = record err { written_before = mid.written; faults_before = mid.faults; wants_before = mid.wants }
