use Rattle.std.proofs.Common.{inl, refl}
use Rattle.tetwhere_run.proofs.run.tell.Goals.{in-WriteFault, in_default}
use Rattle.tetwhere_run.proofs.run.tell.Goals as goal

pub returns-then-matches : goal.returns-then-matches
returns-then-matches g c = elim c.match-matches.branch [ in-WriteFault w ↦ rw w.in-WriteFault.is (inl (refl, c.put_message.ensures)) | in_default w ↦ absurd (cc) ]
