-- Texts that are stored one after the other.
use Rattle.std.specs.Prelude.{◌≡◌, ℕ, List, [], ◌∷◌, ◌++◌, Option, Some, None}
use Rattle.tet_ports.specs.Files.{Files, PartlyStored, with_file}
use Rattle.run_steps.specs.declared.store.NamedText.{NamedText}
use Rattle.run_steps.specs.declared.store.StoreStop.{StoreStop}
use Rattle.run_steps.specs.declared.store.StoreStop.TheVariants.{Failed, NoMemory}
use Rattle.run_steps.specs.declared.store.Texts.{Texts}

-- the texts that are present
abbrev pub given : List (Option NamedText) → List NamedText
given [] = []
given (None ∷ more) = given more
given (Some text ∷ more) = text ∷ given more

-- the texts in the order in which they are stored
abbrev pub in_order : Texts → List NamedText
in_order texts = given (texts.node ∷ texts.ele ∷ texts.face ∷ texts.edge ∷ texts.neigh ∷ []) ++ texts.whole

-- the files with each of these texts under its name, in order, and nothing else changed
abbrev pub with_files : Option Files → List NamedText → Option Files
with_files files [] = files
with_files files (text ∷ more) = with_files (with_file files text.name text.content) more

-- the texts from the first on to some one are stored whole
pub record AreStoredTo (before : Option Files) (texts : List NamedText) (now : Option Files) : Type 0 where
  pub stored : List NamedText
  pub left : List NamedText
  pub texts_are : texts ≡ stored ++ left
  pub now_is : now ≡ with_files before stored

-- the texts before the one with this name are stored whole, and of that one a prefix or nothing
pub record AreStoredInto (before : Option Files) (texts : List NamedText) (name : List ℕ) (now : Option Files) : Type 0 where
  pub stored : List NamedText
  pub text : NamedText
  pub left : List NamedText
  pub texts_are : texts ≡ stored ++ (text ∷ left)
  pub name_is : name ≡ text.name
  pub partly : PartlyStored (with_files before stored) name text.content now

-- the files after a stop
abbrev pub AreLeft : Option Files → List NamedText → Option Files → StoreStop → Type 0
AreLeft before texts now (Failed text) = AreStoredInto before texts text.name now
AreLeft before texts now NoMemory = AreStoredTo before texts now

-- P holds where the folder failed
abbrev pub IfFailed : StoreStop → Type 0 → Type 0
IfFailed (Failed text) P = P
IfFailed NoMemory P = Unit {0}
