use Rattle.std.proofs.Common.{arith, w32, to_z, of_z}
use Rattle.plant.specs.Plants.{plant_of}
use Rattle.plant.proofs.Lawful.{desired_within}
use Rattle.plant.proofs.resource.Resource.moved_level.Goals as goal

pub returns-in-Generator-clause-within : goal.returns-in-Generator-clause-within
returns-in-Generator-clause-within c = λ low high.
    let aim = desired_within (plant_of c.args.self.now.details) c.args.self.now.checked c.in-Generator.is (to_z w32 (of_z w32 c.args.lmp)) in
    (omega (arith, aim.0, c.desired-aim.ensures, c.step.ensures.value), omega (arith, aim.1, c.desired-aim.ensures, c.step.ensures.value))
