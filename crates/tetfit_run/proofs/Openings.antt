-- What is told of a model whose mesh has no tetrahedron.
use Rattle.std.proofs.Common.{◌≡◌, Bool, true, false, List, [], ℕ, Result, Ok, Err, ap, sym, ◌∙◌, subst, cond}
use Rattle.std.specs.Prelude.{IfOk}
use Rattle.std.proofs.lemmas.List.Elements.{All-nil}
use Rattle.command_words.specs.declared.options.Options.{Options}
use Rattle.geo_laws.specs.Complex.{Complex}
use Rattle.node_files.specs.declared.limits.Limits.{Limits}
use Rattle.run_steps.proofs.Steps.{and_then_ok}
use Rattle.run_steps.specs.Meshing.{IsMeshableBound}
use Rattle.run_steps.specs.declared.input.Input.{Input}
use Rattle.run_steps.specs.declared.mesh.Bound.{Bound}
use Rattle.run_steps.specs.declared.outputs.Outputs.{Outputs}
use Rattle.run_steps.specs.declared.status.Status.{Status}
use Rattle.sign_predicates.specs.Point.{RationalPoint}
use Rattle.std.specs.Prelude.{pos, ◌<ℤ◌}
use Rattle.tet_ports.specs.declared.NoMemory.{NoMemory}
use Rattle.tetfit_run.specs.Holes.{without_holes, without_hole_points}
use Rattle.tetfit_run.specs.Measured.{BoundTried}
use Rattle.tetfit_run.specs.Opening.{carved_line, has_holes, is_empty, surface_line, TellsCarved, TellsCarvedBy, TellsOpening, TellsOpeningBy, TellsOpeningIf}
use Rattle.tetfit_run.specs.Trying.{MadeAnswer}

-- ---- by the mesh without hole points

pub none_told : (surface : List ℕ) (outputs : Outputs) (test : Bool) → test ≡ is_empty outputs → test ≡ true → TellsCarved surface (Ok outputs) surface
none_told surface outputs test e t = ap (λ b. cond b surface carved_line) (sym t ∙ e)

pub some_told : (surface : List ℕ) (outputs : Outputs) (test : Bool) (r : Result (List ℕ) NoMemory) → test ≡ is_empty outputs → test ≡ false → IfOk r (λ line. line ≡ carved_line) → IfOk r (TellsCarved surface (Ok outputs))
some_told surface outputs test (Ok line) e f is = is ∙ ap (λ b. cond b surface carved_line) (sym f ∙ e)
some_told surface outputs test (Err lack) e f is = is

-- ---- what is left without hole points

-- the input without them is on its grid
left_bound : (limits : Limits) (options : Options) (input : Input) (bound : Bound) → BoundTried limits options input (Ok bound) → BoundTried limits options (without_holes input) (Ok (without_hole_points bound))
left_bound limits options input bound h = (
  h.0,
  record {
    small = record { few = h.1.small.few; short = h.1.small.short };
    is = ap (λ (c : Complex). let d : Complex = record c { holes = [] } in d) h.1.is;
  },
)

-- and can be meshed
pub left_meshable : (options : Options) (bound : Bound) → IsMeshableBound options bound → IsMeshableBound options (without_hole_points bound)
left_meshable options bound h =
    let m = h.meshable in record {
      table = h.table;
      decimals = h.decimals;
      few = h.few;
      budget = h.budget;
      near = h.near;
      meshable = record {
        distinct = m.distinct;
        multiples = m.multiples;
        few = m.few;
        corners = m.corners;
        holes = All-nil (λ (p : RationalPoint). pos 0 <ℤ p.w);
        regions = m.regions;
      };
    }

-- ---- by whether there are hole points

pub carved_told : (options : Options) (bound left : Bound) (answer : Result Outputs Status) (surface : List ℕ) (r : Result (List ℕ) NoMemory) → left ≡ without_hole_points bound → MadeAnswer options left answer
    → surface ≡ surface_line bound → IfOk r (TellsCarved surface answer) → IfOk r (TellsCarvedBy options bound)
carved_told options bound left answer surface (Ok line) l made s told = (answer, subst (λ b. MadeAnswer options b answer) l made, subst (λ t. TellsCarved t answer line) s told)
carved_told options bound left answer surface (Err lack) l made s told = told

pub holes_told : (options : Options) (bound : Bound) (test : Bool) (r : Result (List ℕ) NoMemory) → test ≡ has_holes bound → test ≡ true → IfOk r (TellsCarvedBy options bound) → IfOk r (TellsOpeningBy (has_holes bound) options bound)
holes_told options bound test r e t told = subst (λ b. IfOk r (TellsOpeningBy b options bound)) (sym t ∙ e) told

pub no_holes_told : (options : Options) (bound : Bound) (test : Bool) (line : List ℕ) → test ≡ has_holes bound → test ≡ false → line ≡ surface_line bound → TellsOpeningBy (has_holes bound) options bound line
no_holes_told options bound test line e f is = subst (λ b. TellsOpeningBy b options bound line) (sym f ∙ e) is

-- ---- of an input

by_input : (limits : Limits) (options : Options) (input : Input) (bound : Bound) (line : List ℕ) (holes : Bool) → BoundTried limits options input (Ok bound) → TellsOpeningBy holes options bound line
    → TellsOpeningIf holes limits options input bound line
by_input limits options input bound line false h told = told
by_input limits options input bound line true h told =
    (told.0, and_then_ok (BoundTried limits options (without_holes input)) (MadeAnswer options) (without_hole_points bound) told.0 (left_bound limits options input bound h) told.1, told.2)

pub opening_told : (limits : Limits) (options tried : Options) (input : Input) (bound : Bound) (r : Result (List ℕ) NoMemory) → tried ≡ options → BoundTried limits tried input (Ok bound)
    → IfOk r (TellsOpeningBy (has_holes bound) tried bound) → IfOk r (TellsOpening limits options input)
opening_told limits options tried input bound (Ok line) t h told =
    subst (λ q. TellsOpening limits q input line) t (bound, h, by_input limits tried input bound line (has_holes bound) h told)
opening_told limits options tried input bound (Err lack) t h told = told
