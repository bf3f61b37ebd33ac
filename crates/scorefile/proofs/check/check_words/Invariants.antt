use Rattle.std.proofs.Common.{map, string_bytes}
use Rattle.scorefile.specs.Faults.{Begins}
use Rattle.scorefile.proofs.check.check_words.Given as goal

abbrev pub invariant-loop-place : goal.invariant-loop-place
invariant-loop-place l = Begins l.line (map string_bytes l.words) l.place
