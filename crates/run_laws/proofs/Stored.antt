-- Texts in files that were stored one after the other under one base.
use Rattle.std.proofs.Common.{◌≡◌, ℕ, suc, Bool, true, false, cond, List, [], ◌∷◌, ◌++◌, Option, Some, None, refl, ap, subst, ◌∙◌, arith}
use Rattle.std.specs.Prelude.{All, IfSome, codes}
use Rattle.std.specs.FinMap as map
use Rattle.std.specs.Ordering.{nat_cmp, is_eq}
use Rattle.std.specs.Cmp.Lexicographic.{slice_cmp}
use Rattle.std.specs.Str.{bytes_eq}
use Rattle.std.proofs.lemmas.Cmp.{nat_list_cmp_total}
use Rattle.std.proofs.lemmas.Map.Text.{is_eq-slice_cmp}
use Rattle.std.proofs.lemmas.Bool.{eq-eqb}
use Rattle.tet_ports.specs.Files.{Files}
use Rattle.run_steps.specs.Stores.{given, with_files}
use Rattle.run_steps.specs.declared.store.NamedText.{NamedText}

-- ---- names

-- names with one base are equal exactly where their extensions are
same_base : (base x y : List ℕ) → bytes_eq (base ++ x) (base ++ y) ≡ bytes_eq x y
same_base [] x y = refl
same_base (c ∷ base) x y = rw (eq-eqb c c refl) (same_base base x y)

-- whether the name with an extension is that of a text
abbrev pub is_name : List ℕ → NamedText → Bool
is_name name text = is_eq (slice_cmp nat_cmp name text.name)

name_is : (base x y : List ℕ) (text : NamedText) → text.name ≡ base ++ y → is_name (base ++ x) text ≡ bytes_eq x y
name_is base x y text e = ap (λ (n : List ℕ). is_eq (slice_cmp nat_cmp (base ++ x) n)) e ∙ is_eq-slice_cmp (base ++ x) (base ++ y) ∙ same_base base x y

-- ---- files

-- what a name holds after a text was stored, where it held something before
abbrev pub held : List ℕ → Option NamedText → Option (List ℕ) → Option (List ℕ)
held name None before = before
held name (Some text) before = cond (is_name name text) (Some text.content) before

abbrev pub all_held : List ℕ → List (Option NamedText) → Option (List ℕ) → Option (List ℕ)
all_held name [] before = before
all_held name (o ∷ os) before = all_held name os (held name o before)

-- the files after the texts that are there were stored
pub record IsAfter (before : Files) (os : List (Option NamedText)) : Type 0 where
  pub now : Files
  pub is : with_files (Some before) (given os) ≡ Some now
  pub holds : (name : List ℕ) → map.get now name ≡ all_held name os (map.get before name)

pub after : (before : Files) (os : List (Option NamedText)) → IsAfter before os
after before [] = record { now = before; is = refl; holds = λ name. refl }
after before (None ∷ os) = let rest = after before os in record { now = rest.now; is = rest.is; holds = rest.holds }
after before (Some text ∷ os) =
    let rest = after (map.insert before text.name text.content) os in
    record {
      now = rest.now;
      is = rest.is;
      holds = λ name. rest.holds name ∙ ap (λ (o : Option (List ℕ)). all_held name os o) (map.get-insert nat_list_cmp_total before text.name text.content name);
    }

-- a text that is there has this name
abbrev pub IsUnder : List ℕ → List ℕ → Option NamedText → Type 0
IsUnder base extension o = IfSome o (λ text. text.name ≡ base ++ extension)

-- a text under another extension changes nothing
pub other : (base x y : List ℕ) → bytes_eq x y ≡ false → (o : Option NamedText) → IsUnder base y o → (before : Option (List ℕ)) → held (base ++ x) o before ≡ before
other base x y differ None under before = refl
other base x y differ (Some text) under before = ap (λ (b : Bool). cond b (Some text.content) before) (name_is base x y text under ∙ differ)

-- and under this one it is what the name holds
pub own : (base x : List ℕ) → bytes_eq x x ≡ true → (text : NamedText) → text.name ≡ base ++ x → (before : Option (List ℕ)) → held (base ++ x) (Some text) before ≡ Some text.content
own base x same text under before = ap (λ (b : Bool). cond b (Some text.content) before) (name_is base x x text under ∙ same)

-- what holds of all texts that are there holds of the first one, and of all behind it
pub first_given : (P : NamedText → Type 0) (o : Option NamedText) (os : List (Option NamedText)) → All P (given (o ∷ os)) → IfSome o P × All P (given os)
first_given P None os all = (tt, all)
first_given P (Some text) os all = (all 0 text (omega arith), λ k d lt. all (suc k) d (omega arith))

-- the files of a mesh: each text that is there has its extension
pub record AreFiles (base : List ℕ) (node ele face edge neigh : Option NamedText) : Type 0 where
  pub node_under : IsUnder base (codes ".1.node") node
  pub ele_under : IsUnder base (codes ".1.ele") ele
  pub face_under : IsUnder base (codes ".1.face") face
  pub edge_under : IsUnder base (codes ".1.edge") edge
  pub neigh_under : IsUnder base (codes ".1.neigh") neigh

module _ (base : List ℕ) (node ele face edge neigh : Option NamedText) (are : AreFiles base node ele face edge neigh) (before : Option (List ℕ)) where
  abbrev texts : List (Option NamedText)
  texts = node ∷ ele ∷ face ∷ edge ∷ neigh ∷ []

  pub node_held : (text : NamedText) → node ≡ Some text → all_held (base ++ codes ".1.node") texts before ≡ Some text.content
  node_held text e =
      other base (codes ".1.node") (codes ".1.neigh") refl neigh are.neigh_under _ ∙ other base (codes ".1.node") (codes ".1.edge") refl edge are.edge_under _
      ∙ other base (codes ".1.node") (codes ".1.face") refl face are.face_under _ ∙ other base (codes ".1.node") (codes ".1.ele") refl ele are.ele_under _
      ∙ ap (λ (o : Option NamedText). held (base ++ codes ".1.node") o before) e ∙ own base (codes ".1.node") refl text (subst (IsUnder base (codes ".1.node")) e are.node_under) before

  pub ele_held : (text : NamedText) → ele ≡ Some text → all_held (base ++ codes ".1.ele") texts before ≡ Some text.content
  ele_held text e =
      other base (codes ".1.ele") (codes ".1.neigh") refl neigh are.neigh_under _ ∙ other base (codes ".1.ele") (codes ".1.edge") refl edge are.edge_under _
      ∙ other base (codes ".1.ele") (codes ".1.face") refl face are.face_under _
      ∙ ap (λ (o : Option NamedText). held (base ++ codes ".1.ele") o (held (base ++ codes ".1.ele") node before)) e
      ∙ own base (codes ".1.ele") refl text (subst (IsUnder base (codes ".1.ele")) e are.ele_under) _

  pub face_held : (text : NamedText) → face ≡ Some text → all_held (base ++ codes ".1.face") texts before ≡ Some text.content
  face_held text e =
      other base (codes ".1.face") (codes ".1.neigh") refl neigh are.neigh_under _ ∙ other base (codes ".1.face") (codes ".1.edge") refl edge are.edge_under _
      ∙ ap (λ (o : Option NamedText). held (base ++ codes ".1.face") o (held (base ++ codes ".1.face") ele (held (base ++ codes ".1.face") node before))) e
      ∙ own base (codes ".1.face") refl text (subst (IsUnder base (codes ".1.face")) e are.face_under) _

  -- the name of the neighbor file holds what it held before, or the text
  pub neigh_kept : neigh ≡ None → all_held (base ++ codes ".1.neigh") texts before ≡ before
  neigh_kept e =
      ap (λ (o : Option NamedText). held (base ++ codes ".1.neigh") o (held (base ++ codes ".1.neigh") edge (held (base ++ codes ".1.neigh") face (held (base ++ codes ".1.neigh") ele (held (base ++ codes ".1.neigh") node before))))) e
      ∙ other base (codes ".1.neigh") (codes ".1.edge") refl edge are.edge_under _ ∙ other base (codes ".1.neigh") (codes ".1.face") refl face are.face_under _
      ∙ other base (codes ".1.neigh") (codes ".1.ele") refl ele are.ele_under _ ∙ other base (codes ".1.neigh") (codes ".1.node") refl node are.node_under _

  pub neigh_held : (text : NamedText) → neigh ≡ Some text → all_held (base ++ codes ".1.neigh") texts before ≡ Some text.content
  neigh_held text e =
      ap (λ (o : Option NamedText). held (base ++ codes ".1.neigh") o (held (base ++ codes ".1.neigh") edge (held (base ++ codes ".1.neigh") face (held (base ++ codes ".1.neigh") ele (held (base ++ codes ".1.neigh") node before))))) e
      ∙ own base (codes ".1.neigh") refl text (subst (IsUnder base (codes ".1.neigh")) e are.neigh_under) _
