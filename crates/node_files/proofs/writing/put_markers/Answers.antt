use Rattle.std.proofs.Common.{ℤ, ap, ◌∙◌, arith, rules, ◌++◌, ◌∷◌, map, get_or, w64, pos, FitsSigned}
use Rattle.std.proofs.lemmas.Int.{to_z-of_z}
use Rattle.node_files.specs.Writing.{fields_text, whole_text}
use Rattle.node_files.proofs.Written.{marker_more, markers_all, item_default}
use Rattle.node_files.proofs.writing.put_markers.Goals as goal

pub loop-marker-preserved : goal.loop-marker-preserved
loop-marker-preserved c =
    let marker = get_or c.args.markers.now c.loop-marker.marker-index (pos 0) in
    let fits : FitsSigned w64 marker = search rules in
    let e = c.in_ok-put_whole_field.ensures ∙ ap (λ (z : ℤ). c.loop-marker.out ++ 32 ∷ whole_text z) (to_z-of_z w64 marker fits) in
    marker_more c.loop-marker.out c.put_whole_field.new.out (c.args.out.now ++ fields_text (map whole_text c.args.markers.now)) c.args.markers.now c.loop-marker.marker-index marker
    c.loop-marker-test.true (item_default c.args.markers.now c.loop-marker.marker-index (pos 0) marker c.loop-marker-test.true) e c.loop-marker.invariant

pub returns : goal.returns
returns c = markers_all c.loop-marker.out (c.args.out.now ++ fields_text (map whole_text c.args.markers.now)) c.args.markers.now c.loop-marker.marker-index (omega arith) c.loop-marker.invariant
