use Rattle.std.proofs.Common.{◌≡◌, ℕ, ◌+◌, ◌<◌, ◌≤◌, cond, ltb, get_or}
use Rattle.divide.specs.Remainders.{floors, rests, spare, rank}
use Rattle.divide.proofs.remainders.fill_remainders.Given as goal

abbrev pub invariant-loop-place : goal.invariant-loop-place
invariant-loop-place l =
    let t = l.sharing.total in
    let ws = l.sharing.weights.now in
    ((k : ℕ) → k < l.place → get_or l.out k 0 ≡ get_or (floors t ws) k 0 + cond (ltb (rank (rests t ws) k) (spare t ws)) 1 0)
    × ((k : ℕ) → l.place ≤ k → get_or l.out k 0 ≡ get_or (floors t ws) k 0)
