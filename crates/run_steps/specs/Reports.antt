-- What a run writes to its standard output.
use Rattle.std.specs.Prelude.{ℕ, List, [], ◌∷◌, ◌++◌, Option, Some, None, codes}
use Rattle.std.specs.Fmt.{decimal}
use Rattle.std.specs.Option.{option_map}
use Rattle.run_steps.specs.declared.outputs.Outputs.{Outputs}
use Rattle.run_steps.specs.declared.report.Report.{Report}
use Rattle.run_steps.specs.declared.report.Report.TheVariants.{Mesh, Text}
use Rattle.run_steps.specs.declared.report.Summary.{Summary}

-- a word and a number behind it, where there is one
abbrev pub counted_text : List ℕ → Option ℕ → List ℕ
counted_text word None = []
counted_text word (Some count) = word ++ decimal count

-- each of the further counts that there is: ` hidden H`, ` decimals D`, ` over N`, ` slim N` and ` flat N`
abbrev pub further_text : Summary → List ℕ
further_text s =
    counted_text (codes " hidden ") s.hidden ++ counted_text (codes " decimals ") s.decimals ++ counted_text (codes " over ") s.over
    ++ counted_text (codes " slim ") s.slim ++ counted_text (codes " flat ") s.flat

-- `points P added A tetrahedra T faces F edges E`, and the further counts
abbrev pub summary_text : Summary → List ℕ
summary_text s =
    codes "points " ++ decimal s.points ++ codes " added " ++ decimal s.added ++ codes " tetrahedra " ++ decimal s.tetrahedra
    ++ codes " faces " ++ decimal s.faces ++ codes " edges " ++ decimal s.edges ++ further_text s ++ (10 ∷ [])

-- the line that sums up a mesh with the lines behind it, or a text
abbrev pub report_text : Report → List ℕ
report_text (Mesh summary notes) = summary_text summary ++ notes
report_text (Text text) = text

-- the text that is written for outputs, where there is one
abbrev pub text_in : Outputs → Option (List ℕ)
text_in outputs = option_map report_text outputs.report
