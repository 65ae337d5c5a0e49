-- Faults of readings that are read onto what was read before.
use Rattle.std.proofs.Common.{◌≡◌, ℕ, List, Result, Ok, Err, refl, sym, ap, subst, ◌∙◌}
use Rattle.tet_text.specs.declared.fault.TextFault.{TextFault}
use Rattle.tet_text.specs.Lines.{ContentLine}
use Rattle.tet_text.specs.Reading.{◌>>=◌, Fields, count_at, line_at}
use Rattle.plc_files.specs.declared.fault.PlcFault.{PlcFault}
use Rattle.plc_files.specs.declared.fault.PlcFault.TheVariants as faults
use Rattle.plc_files.specs.declared.parts.CornerText.{CornerText}
use Rattle.plc_files.specs.declared.parts.PolygonText.{PolygonText}
use Rattle.plc_files.specs.Fields.{some_count_at}
use Rattle.plc_files.specs.Outcome.{PlcFails, PlcGives}
use Rattle.plc_files.specs.Text.{Plc, empty_polygon}
use Rattle.plc_files.proofs.Counts.{step_ok, ok_is}
use Rattle.soup_files.specs.Surface.{plus_face, plus_corners, corners_onto, face_onto}
use Rattle.soup_files.specs.Off.{corner_at, off_polygon}
use Rattle.soup_files.proofs.Faces.{corners_added}
use Rattle.tet_text.specs.Repeated.{so_many}
use Rattle.plc_files.specs.Facet.{Lines}

-- a reading that fails makes each that goes on with it fail
pub fails_then : {A B : Type 0} (fault : PlcFault) (read : Result A TextFault) (next : A → Result B TextFault) → PlcFails fault read → PlcFails fault (read >>= next)
fails_then faults.NoMemory read next fails = tt
fails_then (faults.Facets n most) read next fails = elim fails [ ]
fails_then (faults.Corners line n most) read next fails = elim fails [ ]
fails_then (faults.Text fault) read next fails = ap (λ r. r >>= next) fails

-- a face that was read onto a complex
pub face_found : {R : Type 0} (t new : Plc) (left : R) (read : Result (PolygonText × R) TextFault) → face_onto t read ≡ Ok (new, left) → (f : PolygonText) × (read ≡ Ok (f, left)) × (new ≡ plus_face f t)
face_found {R} t new left read is =
    let x = step_ok read (λ x. Ok (plus_face x.0 t, x.1)) (new, left) is in
    let made : Plc × R = (plus_face x.0.0 t, x.0.1) in
    let e = ok_is made (new, left) x.2 in
    (x.0.0, x.1 ∙ ap (λ (p : Plc × R). let found : Result (PolygonText × R) TextFault = Ok (x.0.0, p.1) in found) e, sym (ap (λ (p : Plc × R). p.0) e))

abbrev Corners : Type 0
Corners = Result (List CornerText × Fields) TextFault

abbrev face_behind : ℕ → List ContentLine → Corners → Result (PolygonText × List ContentLine) TextFault
face_behind line rest read = read >>= λ corners. Ok (record { line = line; corners = corners.0 }, rest)

-- the corners that were read onto a face with none are those of the face
pub face_read : (line : ℕ) (start mid new : Plc) (left : Fields) (rest : List ContentLine) (read : Corners) (r : Result (Unit {0}) PlcFault) → mid ≡ plus_face (empty_polygon line) start
    → PlcGives (λ _. (new, left)) r (corners_onto mid read) → PlcGives (λ _. (new, rest)) r (face_onto start (face_behind line rest read))
face_read line start mid new left rest (Ok cs) (Ok x) begun gives =
    let made : Plc × Fields = (plus_corners cs.0 mid, cs.1) in
    let e = ok_is made (new, left) gives in
    let f : PolygonText = record { line = line; corners = cs.0 } in
    ap (λ (t : Plc). let found : Result (Plc × List ContentLine) TextFault = Ok (t, rest) in found) (sym (corners_added line cs.0 start) ∙ sym (ap (plus_corners cs.0) begun) ∙ ap (λ (p : Plc × Fields). p.0) e)
face_read line start mid new left rest (Err fault) (Ok x) begun gives = absurd cc
face_read line start mid new left rest read (Err faults.NoMemory) begun gives = tt
face_read line start mid new left rest read (Err (faults.Facets n most)) begun gives = elim gives [ ]
face_read line start mid new left rest read (Err (faults.Corners l n most)) begun gives = elim gives [ ]
face_read line start mid new left rest (Ok cs) (Err (faults.Text fault)) begun gives = absurd cc
face_read line start mid new left rest (Err other) (Err (faults.Text fault)) begun gives = cc

-- ---- a corner

pub corner_err : (line start : ℕ) (fields : Fields) (fault : TextFault) → line ≡ start → Err fault ≡ count_at line fields → corner_at start fields ≡ Err fault
unfolding corner_at
corner_err line start fields fault here is = rw (← here, ← is) refl

pub corner_ok : (line start n : ℕ) (fields rest : Fields) → line ≡ start → Ok (n, rest) ≡ count_at line fields → corner_at start fields ≡ Ok (record { number = n; line = start }, rest)
unfolding corner_at
corner_ok line start n fields rest here is = rw (← here, ← is) refl

-- a reading whose value is seen otherwise fails only by itself
pub fails_before : {A B : Type 0} (fault : PlcFault) (read : Result A TextFault) (f : A → B) → PlcFails fault (read >>= λ x. Ok (f x)) → PlcFails fault read
fails_before faults.NoMemory read f fails = tt
fails_before (faults.Facets n most) read f fails = elim fails [ ]
fails_before (faults.Corners line n most) read f fails = elim fails [ ]
fails_before (faults.Text fault) (Ok x) f fails = absurd cc
fails_before (faults.Text fault) (Err other) f fails = cc

-- ---- a face

face_is : (total : ℕ) (lines rest : Lines) (line : ContentLine) (n : ℕ) (fields : Fields) → Ok (line, rest) ≡ line_at total lines → Ok (n, fields) ≡ some_count_at line.line line.fields
    → off_polygon total lines ≡ face_behind line.line rest (so_many (corner_at line.line) n fields)
unfolding off_polygon
face_is total lines rest line n fields first count = rw (← first, ← count) refl

-- its first line, its number of corners, and the corners that were read onto a facet that was begun on line `written`
pub face_whole : (total : ℕ) (lines rest : Lines) (line : ContentLine) (n at written : ℕ) (fields left : Fields) (start mid new : Plc) (r : Result (Unit {0}) PlcFault)
    → Ok (line, rest) ≡ line_at total lines → Ok (n, fields) ≡ some_count_at line.line line.fields → at ≡ line.line → written ≡ at → mid ≡ plus_face (empty_polygon written) start
    → PlcGives (λ _. (new, left)) r (corners_onto mid (so_many (corner_at at) n fields)) → PlcGives (λ _. (new, rest)) r (face_onto start (off_polygon total lines))
face_whole total lines rest line n at written fields left start mid new r first count here begun_at begun gives =
    let begun_here = begun ∙ ap (λ (l : ℕ). plus_face (empty_polygon l) start) (begun_at ∙ here) in
    let gives_here = subst (λ (l : ℕ). PlcGives (λ (u : Unit {0}). (new, left)) r (corners_onto mid (so_many (corner_at l) n fields))) here gives in
    let whole = face_read line.line start mid new left rest (so_many (corner_at line.line) n fields) r begun_here gives_here in
    subst (λ (read : Result (PolygonText × Lines) TextFault). PlcGives (λ (u : Unit {0}). (new, rest)) r (face_onto start read)) (sym (face_is total lines rest line n fields first count)) whole
