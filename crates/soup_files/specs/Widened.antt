-- The wide grammars hold the strict ones: a text that is read in the strict grammar is read alike in the wide one.
use Rattle.std.specs.Prelude.{◌≡◌, ℕ, Ok}
use Rattle.plc_files.specs.Facet.{Lines}
use Rattle.plc_files.specs.Text.{Plc}
use Rattle.soup_files.specs.Off.{off_of, wide_off_of}
use Rattle.soup_files.specs.Solids.{wide_stl_of}
use Rattle.soup_files.specs.Stl.{stl_of}

abbrev pub WideOffLaw : Type 0
WideOffLaw = (total : ℕ) (lines : Lines) (text : Plc) → off_of total lines ≡ Ok text → wide_off_of total lines ≡ Ok text

abbrev pub WideStlLaw : Type 0
WideStlLaw = (total : ℕ) (lines : Lines) (text : Plc) → stl_of total lines ≡ Ok text → wide_stl_of total lines ≡ Ok text
