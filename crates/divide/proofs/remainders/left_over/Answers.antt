use Rattle.std.proofs.Common.{◌≡◌, ◌≤◌, sum, ap, arith, rules}
use Rattle.std.proofs.iter.runs.Made.{chains}
use Rattle.divide.specs.Rests.{floors_le}
use Rattle.divide.proofs.remainders.left_over.Goals as goal

pub sum-given-requires-clause-fits : goal.sum-given-requires-clause-fits
sum-given-requires-clause-fits c =
    let s = c.args.sharing.now in
    let h : sum c.args.parts.now ≤ s.total = omega (arith, ap sum c.requires, floors_le s.total s.weights.now) in
    search (rules, chains)

pub overflow_sub-result : goal.overflow_sub-result
overflow_sub-result c =
    let s = c.args.sharing.now in
    let given : c.sum-given.result ≡ sum c.args.parts.now = search (rules, chains) in
    omega (arith, ap sum c.requires, floors_le s.total s.weights.now)
