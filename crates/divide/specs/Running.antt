-- The running division.
use Rattle.std.specs.Prelude.{ℕ, ◌+◌, ◌-◌, ◌*◌, ◌/◌, List, map, length, take, sum}
use Rattle.std.specs.List.{range_with_len}

-- what the first k weights together come to, rounded down: t × (w₀ + … + w of place k − 1) / W
abbrev pub reached : ℕ → List ℕ → ℕ → ℕ
reached t ws k = t * sum (take k ws) / sum ws

-- the share at place k (from 0): what the weights up to and with it come to, less the same for the place before
abbrev pub step : ℕ → List ℕ → ℕ → ℕ
step t ws k = reached t ws (k + 1) - reached t ws k

abbrev pub running : ℕ → List ℕ → List ℕ
running t ws = map (step t ws) (range_with_len 0 (length ws))
