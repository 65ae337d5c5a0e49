-- A run over a valid complex is refused by no step.
use Rattle.std.proofs.Common.{◌≡◌, ◌⊎◌, inl, inr, ℕ, Bool, List, None, Some, refl, ap, sym, subst, ◌∙◌}
use Rattle.std.specs.Prelude.{Ok, Err}
use Rattle.command_words.specs.Grammar.{words_fault}
use Rattle.command_words.specs.Meaning.{options_of}
use Rattle.command_words.specs.declared.options.Options.{Options}
use Rattle.complex_mesh.specs.Protection.{complex_triangles}
use Rattle.node_files.specs.declared.limits.Limits.{Limits}
use Rattle.run_steps.specs.Faults.{status_of_fault}
use Rattle.run_steps.specs.Meshing.{BoundAnswer, MeshOf, MeshAnswer, MeshedAnswer, OutputsAnswer, OutputsOfRun, IsUnmeshed, mesh_options}
use Rattle.run_steps.specs.Reading.{IsUsage, InputAnswer}
use Rattle.tet_ports.specs.Seen.{FolderSeen, SinkSeen}
use Rattle.run_steps.specs.Steps.{AndThen}
use Rattle.run_steps.specs.declared.input.Input.{Input}
use Rattle.run_steps.specs.declared.mesh.Bound.{Bound}
use Rattle.run_steps.specs.declared.status.Status.{Status}
use Rattle.run_steps.specs.declared.status.Status.TheVariants.{Done, Usage, NoMemory, WriteFault}
use Rattle.tetgen_run.specs.Ends.{HasNoFault}
use Rattle.tetgen_run.specs.Run.{AnswerBy, IsMeshAnswer}
use Rattle.run_laws.specs.Valid.{IsValid, HasNoAnomaly}
use Rattle.run_laws.specs.ValidRun.{IsValidRun, ValidRunLaw}
use Rattle.run_laws.proofs.Valid.{valid_complex}

understood : (words : List (List ℕ)) (status : Status) → words_fault words ≡ None → IsUsage words status → status ≡ NoMemory
understood words (Usage word place) e h = let at : ℕ × ℕ = (word, place) in absurd (never at (sym h ∙ e))
  where
    never : (at : ℕ × ℕ) → Some at ≡ None → ⊥
    never at e = cc
understood words NoMemory e h = refl
understood words status e h = absurd h

meshed : (options : Options) (bound : Bound) (status : Status) (v : IsValid (mesh_options options bound.table) bound.table.points bound.complex) → HasNoAnomaly v.qs (complex_triangles v.qs v.fs)
    → IsUnmeshed options bound status → status ≡ NoMemory
meshed options bound status v none h = h.1 ∙ ap status_of_fault (valid_complex (mesh_options options bound.table) bound.table.points bound.complex v none h.0 h.2)

refused : (limits : Limits) (words : List (List ℕ)) (folder : FolderSeen) (status : Status) → IsValidRun limits words folder → OutputsOfRun limits words folder (Err status) → status ≡ NoMemory
refused limits words folder status v (inl usage) = understood words status v.understood usage
refused limits words folder status v (inr h) = input (subst (λ (options : Options). AndThen (InputAnswer limits folder options) (MeshedAnswer limits options) (Err status)) h.1.1 h.2)
  where
    made : (i : Input) (bound : Bound) → InputAnswer limits folder (options_of words) (Ok i) → BoundAnswer limits (options_of words) i (Ok bound) → AndThen (MeshAnswer (options_of words) bound) (OutputsAnswer (options_of words)) (Err status)
        → status ≡ NoMemory
    made i bound read on (inl refusal) =
        let valid = v.valid i read bound on in
        meshed (options_of words) bound status valid.0 valid.1 (subst (λ (b : Bool). MeshOf b (options_of words) bound (Err status)) v.piecewise refusal)
    made i bound read on (inr h) = h.2

    bound_on : (i : Input) → InputAnswer limits folder (options_of words) (Ok i) → MeshedAnswer limits (options_of words) i (Err status) → status ≡ NoMemory
    bound_on i read (inl refusal) = v.within i read status refusal
    bound_on i read (inr h) = made i h.0 read h.1 h.2

    input : AndThen (InputAnswer limits folder (options_of words)) (MeshedAnswer limits (options_of words)) (Err status) → status ≡ NoMemory
    input (inl refusal) = v.read status refusal
    input (inr h) = bound_on h.0 h.1 h.2

ended : (limits : Limits) (words : List (List ℕ)) (folder : FolderSeen) (out : SinkSeen) (status : Status) → IsValidRun limits words folder → HasNoFault folder out → IsMeshAnswer limits words folder out status → (status ≡ Done) ⊎ (status ≡ NoMemory)
ended limits words folder out Done v n h = inl refl
ended limits words folder out (WriteFault None) v n h = absurd (n.2 h.2)
ended limits words folder out (WriteFault (Some name)) v n h = absurd (n.1 h.2)
ended limits words folder out NoMemory v n h = inr refl
ended limits words folder out status v n h = inr (refused limits words folder status v h)

pub valid_run : ValidRunLaw
valid_run limits words folder out status v n h = ended limits words folder out status v n (subst (λ (b : Bool). AnswerBy limits b words folder out status) v.meshes h)
