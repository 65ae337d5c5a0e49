-- Two texts that are put one behind the other.
use Rattle.std.proofs.Common.{◌≡◌, ◌≤◌, inl, inr, ℕ, List, [], ◌∷◌, ◌++◌, ◌+◌, length, Option, Some, None, Result, Err, refl, sym, ap, ◌∙◌, subst, arith}
use Rattle.std.specs.Prelude.{codes, take, drop}
use Rattle.std.proofs.Math.Seq.{take-append_seam, take-append-add}
use Rattle.std.proofs.lemmas.List.{append-nil, append_assoc, take-append-drop}
use Rattle.mesh_check.specs.Messages.{file_message}
use Rattle.tet_ports.specs.Counts.{Rose}
use Rattle.tet_ports.specs.Written.{PartlyPut, with_written}
use Rattle.tet_ports.specs.Seen.{IsMessagePut}
use Rattle.tet_ports.specs.declared.sink.PutFault.{PutFault}
use Rattle.tet_ports.specs.declared.sink.PutFault.TheVariants.{Failed, NoMemory as PutNoMemory}

pub piece_append : (w : Option (List ℕ)) (a b : List ℕ) → with_written (with_written w a) b ≡ with_written w (a ++ b)
piece_append None a b = refl
piece_append (Some w) a b = ap Some (append_assoc w a b)

-- nothing is appended
pub nothing_put : (w : Option (List ℕ)) → with_written w [] ≡ w
nothing_put None = refl
nothing_put (Some w) = ap Some (append-nil w)

prefix_of : (k : ℕ) (a b : List ℕ) → take (length (take k a)) (a ++ b) ≡ take k a
prefix_of k a b =
    let p = take k a in
    ap (λ l. take (length p) (l ++ b)) (sym (take-append-drop k a)) ∙ ap (take (length p)) (append_assoc p (drop k a) b)
    ∙ take-append_seam p (drop k a ++ b)

-- a prefix of the first is one of both
pub partly_first : (w now : Option (List ℕ)) (a b : List ℕ) → PartlyPut w a now → PartlyPut w (a ++ b) now
partly_first w now a b h = (length (take h.0 a), h.1 ∙ ap (with_written w) (sym (prefix_of h.0 a b)))

-- the first whole and a prefix of the second are a prefix of both
pub partly_second : (w now : Option (List ℕ)) (a b : List ℕ) → PartlyPut (with_written w a) b now → PartlyPut w (a ++ b) now
partly_second w now a b h = (length a + h.0, h.1 ∙ piece_append w a (take h.0 b) ∙ ap (with_written w) (sym (take-append-add a b h.0)))

pub rose_later : (a b c : ℕ) → c ≤ a → Rose a b → Rose c b
rose_later a b c h r = omega arith

-- a sink that took the first piece whole, and then the second so
pub put_after : (front back : List ℕ) (before mid now : Option (List ℕ)) (fb fm fn wb wm wn : ℕ) → mid ≡ with_written before front → fb ≤ fm → wb ≤ wm
    → IsMessagePut back (record { written_before = mid; written_now = now; faults_before = fm; faults_now = fn; wants_before = wm; wants_now = wn })
    → IsMessagePut (front ++ back) (record { written_before = before; written_now = now; faults_before = fb; faults_now = fn; wants_before = wb; wants_now = wn })
put_after front back before mid now fb fm fn wb wm wn e f w (inl h) = inl (h ∙ ap (λ s. with_written s back) e ∙ piece_append before front back)
put_after front back before mid now fb fm fn wb wm wn e f w (inr (p, inl r)) = inr (partly_second before now front back (subst (λ s. PartlyPut s back now) e p), inl (rose_later fm fn fb f r))
put_after front back before mid now fb fm fn wb wm wn e f w (inr (p, inr r)) = inr (partly_second before now front back (subst (λ s. PartlyPut s back now) e p), inr (rose_later wm wn wb w r))

-- a sink that refused the first piece
pub put_front : {T : Type 0} (front back : List ℕ) (before now : Option (List ℕ)) (fb fn wb wn : ℕ) (fault : PutFault) (r : Result T PutFault) → r ≡ Err fault
    → (r ≡ Err Failed → Rose fb fn) → (r ≡ Err Failed → PartlyPut before front now) → (r ≡ Err PutNoMemory → Rose wb wn) → (r ≡ Err PutNoMemory → now ≡ before)
    → IsMessagePut (front ++ back) (record { written_before = before; written_now = now; faults_before = fb; faults_now = fn; wants_before = wb; wants_now = wn })
put_front front back before now fb fn wb wn Failed r e failed partly wanting kept = inr (partly_first before now front back (partly e), inl (failed e))
put_front front back before now fb fn wb wn PutNoMemory r e failed partly wanting kept = inr ((0, kept e ∙ sym (nothing_put before)), inr (wanting e))

-- the message that a file could not be written is put in three pieces
pub unwritten_pieces : (program name : List ℕ) → program ++ (name ++ codes ": write failed\n") ≡ file_message program name (codes "write failed")
unwritten_pieces program name =
    let text = name ++ codes ": " ++ codes "write failed" in
    let both = append_assoc (name ++ codes ": ") (codes "write failed") (10 ∷ []) ∙ append_assoc name (codes ": ") (codes "write failed\n") in
    ap (λ line. program ++ line) (sym both) ∙ sym (append_assoc program text (10 ∷ []))
