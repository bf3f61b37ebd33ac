use Rattle.score.proofs.Walks.{Walked}
use Rattle.score.proofs.signal.Signal.walk.Given as goal

abbrev pub invariant-loop-reading : goal.invariant-loop-reading
invariant-loop-reading l = Walked l.self.previous l.self.readings.now l.reading-index l.mileage l.before
