-- When there are no scores, and the number of each such case.
use Rattle.std.specs.Prelude.{ℕ, cond, [], Some, vec_items, Option}
use Rattle.std.specs.Option.{option_or, option_map}
use Rattle.score.specs.Ranges.{assigned_fits, historic_fits}
use Rattle.score.specs.Refusals.{signal_number, window_number}
use Rattle.score.specs.Signals.{signal_refusal}
use Rattle.score.specs.Windows.{first_refusal}
use Rattle.scorefile.specs.declared.request.ScoreRequest.{ScoreRequest}
use Rattle.scoresheet.specs.declared.refusal.ScoreRefusal.{ScoreRefusal}
use Rattle.scoresheet.specs.declared.refusal.ScoreRefusal.TheVariants.{Assigned, Historic, Signal, Window}

-- the number of each refusal
abbrev pub score_number : ScoreRefusal → ℕ
score_number Assigned = 6
score_number Historic = 6
score_number (Signal e) = signal_number e
score_number (Window e) = window_number e

-- the first refusal that a request meets: the kW assigned, the historic score, the readings, and the points in the
-- order in which they are sent
abbrev pub sheet_refusal : ScoreRequest → Option ScoreRefusal
sheet_refusal q =
    cond (assigned_fits q.assigned)
    (cond (historic_fits q.historic)
    (option_or (option_map Signal (signal_refusal q.previous (vec_items q.readings)))
    (option_map Window (first_refusal [] (vec_items q.points))))
    (Some Historic))
    (Some Assigned)
