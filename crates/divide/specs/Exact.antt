-- What every exact division keeps.
use Rattle.std.specs.Prelude.{◌≡◌, ℕ, ◌*◌, ◌<◌, List, length, sum, slice_index}
use Rattle.std.specs.Int.{abs_diff}

-- the total t is shared among the weights ws, whose sum is W
pub record Exact (t : ℕ) (ws shares : List ℕ) : Type 0 where
  -- one share for each weight
  pub each : length shares ≡ length ws
  -- the shares add up to the total
  pub whole : sum shares ≡ t
  -- where W is above 0, share × W is less than W away from t × w at each place: each share is less than one
  -- unit from its exact proportion t × w / W
  pub near : 0 < sum ws → (k : ℕ) → k < length ws → abs_diff (slice_index shares k * sum ws) (t * slice_index ws k) < sum ws
  -- where W is 0, every share is 0
  pub zeros : sum ws ≡ 0 → (k : ℕ) → k < length ws → slice_index shares k ≡ 0
