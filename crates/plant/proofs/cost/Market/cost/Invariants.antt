use Rattle.plant.proofs.Costs.{Summed}
use Rattle.plant.proofs.cost.Market.cost.Given as goal

abbrev pub invariant-loop-block : goal.invariant-loop-block
invariant-loop-block l = Summed l.self.blocks.now l.level l.block-index l.cost l.start
