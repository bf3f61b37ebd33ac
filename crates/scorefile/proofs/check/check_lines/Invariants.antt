use Rattle.std.proofs.Common.{map}
use Rattle.lines.specs.Reads.{worded}
use Rattle.scorefile.specs.Faults.{WellUpTo}
use Rattle.scorefile.proofs.check.check_lines.Given as goal

abbrev pub invariant-loop-place : goal.invariant-loop-place
invariant-loop-place l = WellUpTo (map worded l.lines) l.place
