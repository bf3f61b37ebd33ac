use Rattle.std.proofs.Common.{◌+◌, cond, ltb, length, get_or, arith}
use Rattle.std.proofs.lemmas.List.FromFn.{fill_by_all}
use Rattle.divide.specs.Remainders.{floors, rests, spare, rank}
use Rattle.divide.specs.Rests.{floors_each}
use Rattle.divide.proofs.remainders.fill_remainders.Goals as goal

pub returns : goal.returns
returns c =
    let t = c.args.sharing.now.total in
    let ws = c.args.sharing.now.weights.now in
    fill_by_all (λ k. get_or (floors t ws) k 0 + cond (ltb (rank (rests t ws) k) (spare t ws)) 1 0) c.loop-place.out (length (floors t ws)) 0 (omega (arith, floors_each t ws)) (λ k h. c.loop-place.invariant.0 k (omega (arith, floors_each t ws)))
