use Rattle.std.proofs.Common.{sym, arith}
use Rattle.score.specs.Laws.{scorable_parts, error_sum}
use Rattle.score.proofs.precision.PrecisionScorer.score.Goals as goal

pub total-requires : goal.total-requires
total-requires c =
    let performance = c.args.performance.now in
    let es = performance.errors.now in
    let p = scorable_parts performance.assigned es performance.historic (sym c.if-not-is_scorable.ensures) in
    omega (arith, error_sum es p.3, p.2)
