-- What is told of the keyword of a file that is not in its grammar.
use Rattle.std.proofs.Common.{◌≡◌, ℕ, Bool, true, false, List, [], Option, Some, None, Result, Ok, Err, if◌then◌else◌, sym, subst}
use Rattle.std.specs.Prelude.{IfErr}
use Rattle.command_words.specs.declared.options.Extension.{Extension}
use Rattle.command_words.specs.declared.options.Options.{Options}
use Rattle.complex_mesh.specs.declared.fault.MeshFault.{MeshFault}
use Rattle.complex_mesh.specs.declared.fault.MeshFault.TheVariants as fault
use Rattle.node_files.specs.declared.limits.Limits.{Limits}
use Rattle.run_steps.proofs.Steps.{and_then_refuses}
use Rattle.run_steps.specs.Faults.{status_of_fault}
use Rattle.run_steps.specs.Meshing.{MeshAnswer, MeshOf, OutputsAnswer}
use Rattle.run_steps.specs.Reading.{IsRead, IsUnfetched}
use Rattle.run_steps.specs.Steps.{AndThen}
use Rattle.run_steps.specs.declared.mesh.Bound.{Bound}
use Rattle.run_steps.specs.declared.status.Status.{Status}
use Rattle.run_steps.specs.declared.status.Status.TheVariants.{BadText}
use Rattle.tet_ports.specs.Files.{Holds}
use Rattle.tet_ports.specs.Seen.{FolderSeen}
use Rattle.tetfit_run.specs.Keyword.{TellsBadText, keyword_text}
use Rattle.tetfit_run.specs.Models.{named_surface, surface_form}
use Rattle.tetfit_run.specs.declared.model.Model.{Model}

-- ---- what is read

-- no fetch is refused for its text
pub fetch_told : (limits : Limits) (seen : FolderSeen) (asked : List ℕ) (named : Option Extension) (name hint : List ℕ) (s : Status) → IsUnfetched limits seen asked s → TellsBadText named seen name hint s
fetch_told limits seen asked named name hint (BadText file fault) h = absurd h
fetch_told limits seen asked named name hint s h = tt

-- the line is that of the bytes that were fetched
pub keyword_told : (limits : Limits) (seen : FolderSeen) (name : List ℕ) (form : Extension) (asked bytes hint : List ℕ) (s : Status) → asked ≡ name → IsRead limits seen.files_before asked bytes → hint ≡ keyword_text form name bytes
    → TellsBadText (Some form) seen name hint s
keyword_told limits seen name form asked bytes hint (BadText file fault) a read e = (bytes, subst (λ x. Holds seen.files_before x bytes) a read.0, e)
keyword_told limits seen name form asked bytes hint s a read e = tt

-- nothing is told of a file that is no surface
none_told : (seen : FolderSeen) (name hint : List ℕ) (s : Status) → hint ≡ [] → TellsBadText None seen name hint s
none_told seen name hint (BadText file fault) e = e
none_told seen name hint s e = tt

-- for each refusal
pub each_told : (P : Status → Type 0) (r : Result Model Status) → ((s : Status) → P s) → IfErr r P
each_told P (Ok model) h = tt
each_told P (Err s) h = h s

pub other_told : (named : Option Extension) (seen : FolderSeen) (name hint : List ℕ) (r : Result Model Status) → named ≡ None → hint ≡ [] → IfErr r (TellsBadText named seen name hint)
other_told named seen name hint r n e = each_told (TellsBadText named seen name hint) r (λ s. subst (λ o. TellsBadText o seen name hint s) (sym n) (none_told seen name hint s e))

-- ---- what is meshed

-- no complex is refused for a text
fault_told : (named : Option Extension) (seen : FolderSeen) (name hint : List ℕ) (f : MeshFault) → TellsBadText named seen name hint (status_of_fault f)
fault_told named seen name hint fault.Flat = tt
fault_told named seen name hint (fault.NotFlat facet four) = tt
fault_told named seen name hint (fault.SegmentsCross one two) = tt
fault_told named seen name hint (fault.GridEnd piece) = tt
fault_told named seen name hint (fault.BudgetEnd made piece) = tt
fault_told named seen name hint (fault.Crossing one two) = tt
fault_told named seen name hint (fault.NoFill anomaly) = tt
fault_told named seen name hint fault.NoMemory = tt

-- a surface is a complex, and of points alone no line is told
mesh_told : (seen : FolderSeen) (name hint : List ℕ) (options : Options) (bound : Bound) (piecewise : Bool) (extension : Option Extension) (s : Status) → hint ≡ [] → MeshOf piecewise options bound (Err s)
    → TellsBadText (if piecewise then surface_form extension else None) seen name hint s
mesh_told seen name hint options bound false extension s e h = none_told seen name hint s e
mesh_told seen name hint options bound true extension s e h = subst (TellsBadText (surface_form extension) seen name hint) (sym h.1) (fault_told (surface_form extension) seen name hint h.0)

pub made_told : (seen : FolderSeen) (name hint : List ℕ) (options : Options) (bound : Bound) (s : Status) → hint ≡ [] → AndThen (MeshAnswer options bound) (OutputsAnswer options) (Err s)
    → TellsBadText (named_surface options) seen name hint s
made_told seen name hint options bound s e =
    and_then_refuses (TellsBadText (named_surface options) seen name hint) (MeshAnswer options bound) (OutputsAnswer options) (λ t. mesh_told seen name hint options bound options.piecewise options.extension t e)
    (λ mesh t same. subst (TellsBadText (named_surface options) seen name hint) (sym same) tt) s
