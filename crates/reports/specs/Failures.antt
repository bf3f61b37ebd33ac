-- When a command fails.
use Rattle.std.specs.Prelude.{ℕ, Ok, Err, List, Result}
use Rattle.worksheet.specs.Request.{Says, Lacks}
use Rattle.worksheet.specs.declared.fault.RequestFault.{RequestFault}
use Rattle.worksheet.specs.declared.request.ShareRequest.{ShareRequest}
use Rattle.scorefile.specs.Request.{TextSays, TextLacks}
use Rattle.scorefile.specs.declared.fault.FileFault.{FileFault}
use Rattle.scorefile.specs.declared.request.ScoreRequest.{ScoreRequest}

-- sharing answers where the words say a total and weights, and otherwise fails by what keeps them from it; want of
-- memory may come at any time
abbrev pub ShareReported : {T : Type 0} → List (List ℕ) → Result T RequestFault → Type 0
ShareReported words (Ok text) = (q : ShareRequest) × Says words q
ShareReported words (Err fault) = Lacks words fault

-- scoring answers where the text says a request, and otherwise fails by its first place that is not of its form
abbrev pub ScoreReported : {T : Type 0} → List ℕ → Result T FileFault → Type 0
ScoreReported text (Ok answer) = (q : ScoreRequest) × TextSays text q
ScoreReported text (Err fault) = TextLacks text fault
