use Rattle.std.proofs.Common.{◌≡◌, ℕ, ◌*◌, ◌/◌, ◌%◌, ◌<◌, get_or, sum}
use Rattle.divide.proofs.remainders.round_down.Given as goal

abbrev pub invariant-loop-place : goal.invariant-loop-place
invariant-loop-place l =
    let t = l.sharing.total in
    let ws = l.sharing.weights.now in
    ((k : ℕ) → k < l.place → get_or l.parts k 0 ≡ t * get_or ws k 0 / sum ws)
    × ((k : ℕ) → k < l.place → get_or l.left k 0 ≡ t * get_or ws k 0 % sum ws)
