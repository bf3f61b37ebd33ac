use Rattle.std.proofs.Common.{length, arith}
use Rattle.std.proofs.lemmas.List.FromFn.{fill_by_all}
use Rattle.divide.specs.Running.{step}
use Rattle.divide.proofs.running.fill_running.Goals as goal

pub returns : goal.returns
returns c =
    let s = c.args.sharing.now in
    fill_by_all (step s.total s.weights.now) c.loop-place.out (length s.weights.now) 0 (omega arith) (λ k h. c.loop-place.invariant.2 k (omega arith))
