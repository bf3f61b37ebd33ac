-- The control signal of an interval.
use Rattle.std.specs.Prelude.{ℕ, ◌+◌, cond, not, ◌&&◌, List, [], ◌∷◌, length, ℤ, ◌-ℤ◌, Some, None, Option, ◌==◌, unsigned_abs}
use Rattle.std.specs.List.{list_all}
use Rattle.score.specs.Ranges.{reading_fits}
use Rattle.score.specs.declared.refusal.SignalRefusal.{SignalRefusal}
use Rattle.score.specs.declared.refusal.SignalRefusal.TheVariants.{ReadingCount, ReadingRange}

-- the first refusal that applies to readings, where the reading before them is z
abbrev pub signal_refusal : ℤ → List ℤ → Option SignalRefusal
signal_refusal z readings =
    cond (not (length readings == 150)) (Some ReadingCount)
    (cond (reading_fits z && list_all reading_fits readings) None (Some ReadingRange))

-- how far two readings are from each other
abbrev pub distance : ℤ → ℤ → ℕ
distance x y = unsigned_abs (x -ℤ y)

-- the sum over the readings of the distance from the reading before, which is z for the first of them
abbrev pub mileage_of : ℤ → List ℤ → ℕ
mileage_of z [] = 0
mileage_of z (r ∷ readings) = distance r z + mileage_of r readings

-- the last of the readings, or z where there are none
abbrev pub last_of : ℤ → List ℤ → ℤ
last_of z [] = z
last_of z (r ∷ readings) = last_of r readings
