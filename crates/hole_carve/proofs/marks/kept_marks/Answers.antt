use Rattle.std.proofs.Common.{◌≡◌, ◌+◌, ◌<◌, None, length, sym, ap, ◌∙◌, arith}
use Rattle.hole_carve.proofs.KeptMarks.{row_found, still_ahead, one_longer, each_next}
use Rattle.hole_carve.proofs.marks.kept_marks.Goals as goal
use Rattle.geo_laws.specs.Delaunay.{row_at}

pub at-requires-in-loop-at : goal.at-requires-in-loop-at
at-requires-in-loop-at c =
    let there : c.place_from-place.result < length c.args.list.now =
    row_found c.args.list.now c.args.kept.now c.loop-at.at c.loop-at.place c.place_from-place.result c.at.result c.at.ensures (omega (arith, c.loop-at-test.true, c.len-at-end.ensures.count)) c.requires.part c.loop-at.invariant.ahead c.place_from-place.ensures in
    omega (arith, there, c.requires.long)

pub loop-at-preserved : goal.loop-at-preserved
loop-at-preserved c =
    let was = c.loop-at.invariant in
    let rows = c.args.list.now in
    let kept = c.args.kept.now in
    let at = c.loop-at.at in
    let place = c.place_from-place.result in
    let there : place < length rows = row_found rows kept at c.loop-at.place place c.at.result c.at.ensures (omega (arith, c.loop-at-test.true, c.len-at-end.ensures.count)) c.requires.part was.ahead c.place_from-place.ensures in
    let row : row_at rows place ≡ row_at kept at = c.place_from-place.ensures.there there ∙ sym (c.at.ensures (record { a = 0; b = 0; c = 0; d = 0 })) in
    record {
      within = c.place_from-place.ensures.within;
      ahead = λ k j h l n e. still_ahead rows kept c.requires.ascending c.requires.kept_ascending at place there row k j (omega (arith, h)) l n e;
      long = ap length c.in_ok-push.ensures.ok ∙ one_longer c.loop-at.own c.at-in-loop-at.result ∙ ap (λ n. n + 1) was.long;
      each = each_next rows kept c.requires.ascending c.args.marks.now c.loop-at.own c.push.new.self at place c.at-in-loop-at.result there row (c.at-in-loop-at.ensures None) was.long c.in_ok-push.ensures.ok was.each;
    }
