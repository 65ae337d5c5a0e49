use Rattle.std.proofs.Common.{◌≡◌, ◌++◌, ◌∷◌, [], ◌∙◌, List, Option, refl, ap, sym, append_assoc, arith}
use Rattle.tet_ports.specs.Files.{Files, with_file}
use Rattle.run_steps.specs.Stores.{with_files}
use Rattle.run_steps.specs.declared.store.NamedText.{NamedText}
use Rattle.run_steps.proofs.store.store_all.Goals as goal

-- one more text is stored
with_files-push : (files : Option Files) (texts : List NamedText) (text : NamedText)
    → with_files files (texts ++ (text ∷ [])) ≡ with_file (with_files files texts) text.name text.content
with_files-push files [] text = refl
with_files-push files (first ∷ texts) text = with_files-push (with_file files first.name first.content) texts text

pub loop-text-preserved : goal.loop-text-preserved
loop-text-preserved g c =
    let before = (g.F.Folder.state c.args.folder.now).files in
    record {
      all = c.loop-text.invariant.all ∙ ap (λ rest. c.loop-text.yielded ++ rest) c.in-Some.ensures.steps.0 ∙ sym (append_assoc c.loop-text.yielded (c.in-Some.text ∷ []) _);
      stored = c.in-Ok.ensures.stored
          ∙ ap (λ files. with_file files c.in-Some.text.name c.in-Some.text.content) c.loop-text.invariant.stored
          ∙ sym (with_files-push before c.loop-text.yielded c.in-Some.text);
      faults = omega (arith, c.store.ensures.fault_count, c.loop-text.invariant.faults);
      unread = c.store.ensures.unread ∙ c.loop-text.invariant.unread;
      misses = c.store.ensures.miss_count ∙ c.loop-text.invariant.misses;
    }
