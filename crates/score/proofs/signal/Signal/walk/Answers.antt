use Rattle.std.proofs.Common.{get_or, pos, w32, SFits, rules}
use Rattle.std.proofs.lemmas.Int.{to_z-of_z}
use Rattle.score.proofs.Walks.{turn}
use Rattle.score.proofs.signal.Signal.walk.Goals as goal

pub loop-reading-preserved : goal.loop-reading-preserved
loop-reading-preserved c =
    let zs = c.args.self.now.readings.now in
    let fits : SFits w32 (get_or zs c.loop-reading.reading-index (pos 0)) = search rules in
    turn _ zs _ _ _ _ _ c.loop-reading-test.true (to_z-of_z w32 _ fits) c.requires.all c.abs_diff-mileage.ensures c.loop-reading.invariant
