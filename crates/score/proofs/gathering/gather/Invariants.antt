use Rattle.std.proofs.Common.{◌≡◌, [], take, drop}
use Rattle.score.specs.Windows.{first_refusal}
use Rattle.score.proofs.gathering.gather.Given as goal

abbrev pub invariant-loop-point : goal.invariant-loop-point
invariant-loop-point l =
    (take l.window.sent l.window.points ≡ take l.point-index l.points)
    × (first_refusal [] l.points ≡ first_refusal (take l.point-index l.points) (drop l.point-index l.points))
