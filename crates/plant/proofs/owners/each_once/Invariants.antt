use Rattle.std.proofs.Common.{◌≡◌, length}
use Rattle.plant.specs.Records.{each_once}
use Rattle.plant.proofs.owners.each_once.Given as goal

abbrev pub invariant-loop-rest : goal.invariant-loop-rest
invariant-loop-rest l = each_once l.owners ≡ each_once l.rest

abbrev pub decreases-loop-rest : goal.decreases-loop-rest
decreases-loop-rest l = length l.rest
