use Rattle.std.proofs.Common.{◌*◌, ◌≤◌, unsigned_abs, arith, w32, SFits, rules}
use Rattle.std.proofs.lemmas.Int.{to_z-of_z, ints}
use Rattle.std.proofs.lemmas.Grind.{common_steps}
use Rattle.plant.proofs.Costs.{times_small}
use Rattle.plant.proofs.cost.Market.margin.Goals as goal

pub returns-clause-bound : goal.returns-clause-bound
returns-clause-bound c =
    let prices = c.args.self.now.prices in
    let fits : SFits w32 prices.lmp = search rules in
    let earned : unsigned_abs c.cost_at.result ≤ 1000000 * c.args.level = rw (c.cost_at.ensures, to_z-of_z w32 prices.lmp fits) (times_small c.args.level prices.lmp prices.lmp_fits) in
    omega (arith, ints)

pub returns-clause-value : goal.returns-clause-value
returns-clause-value c = grind (arith, common_steps)
