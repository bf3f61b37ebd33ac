-- How far a resource's response is from what was asked of it.
use Rattle.std.specs.Prelude.{ℕ, ◌*◌, List, ◌∷◌, map, ℤ, pos, ◌*ℤ◌, slice_index_or}
use Rattle.std.specs.List.{range_with_len}
use Rattle.score.specs.Signals.{distance}

-- reading k of an interval: reading 0 is the reading before it, readings 1 to 150 are its own
abbrev pub reading : ℤ → List ℤ → ℕ → ℤ
reading before readings k = slice_index_or (before ∷ readings) k (pos 0)

-- the error of a point of so many kW, where a kW are assigned and the signal asks for r ten-thousandths of them;
-- in ten-thousandths of a kW
abbrev pub error_of : ℕ → ℤ → ℤ → ℕ
error_of a point r = distance (pos 10000 *ℤ point) (pos a *ℤ r)

-- the error at place k, counted from 0, which is point k + 1: against reading 5 × k, ten seconds earlier than
-- the point
abbrev pub error_at : ℕ → List ℤ → ℤ → List ℤ → ℕ → ℕ
error_at a points before readings k = error_of a (slice_index_or points k (pos 0)) (reading before readings (5 * k))

-- the thirty errors of a window
unfoldable pub errors : ℕ → List ℤ → ℤ → List ℤ → List ℕ
errors a points before readings = map (error_at a points before readings) (range_with_len 0 30)
