use Rattle.std.proofs.Common.{arith}
use Rattle.plant.specs.Plants.{plant_of}
use Rattle.plant.proofs.Lawful.{prices_fit}
use Rattle.plant.proofs.resource.Resource.area.Goals as goal

pub invariant_of-market : goal.invariant_of-market
invariant_of-market c =
    let fit = prices_fit (plant_of c.args.self.now.details) c.args.self.now.checked in
    grind arith
