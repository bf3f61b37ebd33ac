-- What a score sheet says.
use Rattle.std.specs.Prelude.{◌≡◌, ℕ, ◌+◌, List, length, vec_items, Option, slice_index}
use Rattle.std.specs.List.{IsFirstMaxByKey}
use Rattle.std.specs.Option.{option_map}
use Rattle.score.specs.Choices.{plain_rating}
use Rattle.score.specs.Errors.{errors}
use Rattle.score.specs.Scores.{precision, band, historic, blended}
use Rattle.score.specs.Signals.{mileage_of, last_of}
use Rattle.score.specs.Windows.{closed}
use Rattle.score.specs.declared.any.PlainScorer.{PlainScorer}
use Rattle.score.specs.declared.blend.Blend.{Blend}
use Rattle.scorefile.specs.declared.request.ScoreRequest.{ScoreRequest}
use Rattle.scoresheet.specs.declared.sheet.LargestError.{LargestError}
use Rattle.scoresheet.specs.declared.sheet.ScoreSheet.{ScoreSheet}

-- the errors of the points of a request against its readings
abbrev pub request_errors : ScoreRequest → List ℕ
request_errors q = errors q.assigned (closed (vec_items q.points)) q.previous (vec_items q.readings)

-- the largest of the errors, and the first point that has it, counted from 1
abbrev pub Largest : List ℕ → LargestError → Type 0
Largest es l = (k : ℕ) × (l.point ≡ k + 1) × IsFirstMaxByKey (λ e. e) es (length es) k × (l.error ≡ slice_index es k)

-- the score by a blend, if one is asked for
abbrev pub blend_score : Option (Blend PlainScorer PlainScorer) → ℕ → List ℕ → ℕ → Option ℕ
blend_score blend a es h =
    option_map (λ b. blended b.weight (plain_rating b.first a es h) (plain_rating b.second a es h)) blend

-- the sheet of a request
pub record Sheet (q : ScoreRequest) (s : ScoreSheet) : Type 0 where
  pub mileage : s.mileage ≡ mileage_of q.previous (vec_items q.readings)
  pub last : s.last ≡ last_of q.previous (vec_items q.readings)
  pub largest : Largest (request_errors q) s.largest
  pub precision : s.precision ≡ precision q.assigned (request_errors q) q.historic
  pub band : s.band ≡ band q.assigned (request_errors q) q.historic
  pub historic : s.historic ≡ historic q.assigned (request_errors q) q.historic
  pub blend : s.blend ≡ blend_score q.blend q.assigned (request_errors q) q.historic
