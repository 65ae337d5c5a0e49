use Rattle.std.proofs.Common.{◌≡◌, ◌∙◌, ◌++◌, ◌+◌, [], ◌∷◌, pos, replicate}
use Rattle.node_files.specs.Writing.{head_line, point_lines, like_lines, mark_count, list_text}
use Rattle.node_files.proofs.Written.{written_after}
use Rattle.node_files.proofs.writing.write_node_from.Goals as goal

pub returns : goal.returns
unfolding list_text
returns c =
    let t = c.args.table.now in
    let o = c.args.origin in
    let last = c.put_alike.new.out in
    let points = point_lines o t.grid t.attribute_count (mark_count t.flag) c.args.first t.listed t.attributes t.markers in
    let attributes = c.as_slice.result.now in
    let markers = c.as_slice-2.result.now in
    let count = c.len-count.ensures.count in
    let others = c.len.ensures.count in
    let from = c.from.ensures in
    let like = like_lines o t.grid (c.from.result + c.len-count.result) c.args.added.now attributes markers in
    let both = written_after c.put_head.new.out points c.put_points.new.out last like c.in_ok-put_points.ensures c.in_ok-put_alike.ensures in
    let all = written_after c.new-out.result (head_line t (c.len-count.result + c.len.result)) c.put_head.new.out last (points ++ like) c.in_ok-put_head.ensures both in
    let zeros : attributes ≡ replicate t.attribute_count (48 ∷ []) = c.as_slice.ensures ∙ c.in_ok-attributes.ensures in
    let blanks : markers ≡ replicate (mark_count t.flag) (pos 0) = c.as_slice-2.ensures ∙ c.in_ok-markers.ensures in
    all ∙ (λ j. c.new-out.ensures j ++ (head_line t (count j + others j)
    ++ (points ++ like_lines o t.grid (from j + count j) c.args.added.now (zeros j) (blanks j))))
