use Rattle.std.proofs.Common.{map, vec_items}
use Rattle.lines.specs.Reads.{worded}
use Rattle.lines.proofs.Numbers.{SoFar}
use Rattle.lines.proofs.read.read_lines.Given as goal

abbrev pub invariant-loop-place : goal.invariant-loop-place
invariant-loop-place l = SoFar l.text l.yielded (map worded (vec_items l.lines))
