use Rattle.std.proofs.Common.{◌≡◌, ℕ, ◌<◌, get_or, take, sum}
use Rattle.divide.specs.Running.{reached, step}
use Rattle.divide.proofs.running.fill_running.Given as goal

abbrev pub invariant-loop-place : goal.invariant-loop-place
invariant-loop-place l =
    (l.weight_so_far ≡ sum (take l.place l.sharing.weights.now))
    × (l.given ≡ reached l.sharing.total l.sharing.weights.now l.place)
    × ((k : ℕ) → k < l.place → get_or l.out k 0 ≡ step l.sharing.total l.sharing.weights.now k)
