-- The refusals of a signal and of a point, and the number of each.
use Rattle.std.specs.Prelude.{ℕ}
use Rattle.score.specs.declared.refusal.SignalRefusal.{SignalRefusal}
use Rattle.score.specs.declared.refusal.SignalRefusal.TheVariants.{ReadingCount, ReadingRange}
use Rattle.score.specs.declared.refusal.WindowRefusal.{WindowRefusal}
use Rattle.score.specs.declared.refusal.WindowRefusal.TheVariants.{Full, PointRange}

-- the number of each refusal of a signal
abbrev pub signal_number : SignalRefusal → ℕ
signal_number ReadingCount = 6
signal_number ReadingRange = 6

-- the number of each refusal of a point
abbrev pub window_number : WindowRefusal → ℕ
window_number Full = 4
window_number PointRange = 6
