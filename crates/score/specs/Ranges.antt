-- The ranges of readings, points, assignments, errors and historic scores.
use Rattle.std.specs.Prelude.{ℕ, Bool, ◌&&◌, ℤ, nat_le, unsigned_abs}

-- a reading of the signal is from -10,000 to 10,000
abbrev pub reading_fits : ℤ → Bool
reading_fits z = nat_le (unsigned_abs z) 10000

-- a point of a window is from -1,000,000 to 1,000,000 kW
abbrev pub point_fits : ℤ → Bool
point_fits z = nat_le (unsigned_abs z) 1000000

-- an assignment is from 100 to 200,000 kW
abbrev pub assigned_fits : ℕ → Bool
assigned_fits a = nat_le 100 a && nat_le a 200000

-- an error is from 0 to 20,000,000,000 ten-thousandths of a kW
abbrev pub error_fits : ℕ → Bool
error_fits e = nat_le e 20000000000

-- a historic score is from 0 to 10,000
abbrev pub historic_fits : ℕ → Bool
historic_fits h = nat_le h 10000
