-- What the words of the runs ask for.
use Rattle.std.specs.Prelude.{◌≡◌, refl, Bool, None, Some, [], codes, true, false, if◌then◌else◌}
use Rattle.command_words.specs.Grammar.{words_fault}
use Rattle.command_words.specs.Meaning.{options_of}
use Rattle.command_words.specs.declared.options.Options.{Options}
use Rattle.command_words.specs.declared.options.Extension.TheVariants.{Node, Poly}
use Rattle.run_laws.specs.Pyramid.{complex_start, full_start, plain_start}

-- with or without neighbors, all faces and edges; and points alone, or a complex with its hull kept
abbrev pub asking : Bool → Bool → Options
asking full complex = record (options_of []) {
  piecewise = complex;
  neighbors = full;
  all_faces = full;
  edges = full;
  keep_hull = complex;
  base = codes "pyramid";
  extension = Some (if complex then Poly else Node);
}

pub plain_understood : words_fault plain_start.words ≡ None
plain_understood = refl

pub plain_asked : options_of plain_start.words ≡ asking false false
plain_asked = refl

pub full_understood : words_fault full_start.words ≡ None
full_understood = refl

pub full_asked : options_of full_start.words ≡ asking true false
full_asked = refl

pub complex_understood : words_fault complex_start.words ≡ None
complex_understood = refl

pub complex_asked : options_of complex_start.words ≡ asking false true
complex_asked = refl
