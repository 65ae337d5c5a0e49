use Rattle.std.specs.Prelude.{IsPermutation}
use Rattle.tet_ports.proofs.Sorted.{IsDistinct, sorted_distinct}
use Rattle.tet_ports.proofs.items.Items.keep_distinct.Goals as goal

pub returns : goal.returns
returns g c =
    let moved : IsPermutation c.args.self.now c.sort_unstable.new.self.items = rw (← c.self.view_is) c.sort_unstable.ensures.permutation in
    let d : IsDistinct g.T.Ord.cmp c.args.self.now c.dedup.new.self.items =
    sorted_distinct g.T.Ord.cmp g.T.PartialEq.eq g.met.T.Ord.total g.met.T.Eq.laws g.met.T.Ord.matches_eq c.requires
    c.args.self.now c.sort_unstable.new.self.items c.dedup.new.self.items
    moved c.sort_unstable.ensures.sorted c.dedup.ensures.filtered in
    record { exactly = d.exactly; ascending = d.ascending }
