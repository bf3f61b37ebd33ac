-- What a score file says.
use Rattle.std.specs.Prelude.{◌≡◌, ℕ, ◌⊎◌, List, [], map, drop, Some, None, vec_items, Option, slice_index_or}
use Rattle.lines.specs.Reads.{Worded, Reads}
use Rattle.score.specs.declared.any.PlainScorer.{PlainScorer}
use Rattle.score.specs.declared.blend.Blend.{Blend}
use Rattle.scorefile.specs.Form.{WholeNumber, whole_of, signed_of}
use Rattle.score.specs.Names.{Named, NoName}
use Rattle.scorefile.specs.Faults.{line_at, WellFormed, WrongLines}
use Rattle.scorefile.specs.declared.fault.FileFault.{FileFault}
use Rattle.scorefile.specs.declared.fault.FileFault.TheVariants.{Misread, NoMemory}
use Rattle.scorefile.specs.declared.request.ScoreRequest.{ScoreRequest}

-- the words of a line that asks for a blend say its weight and its scorers; no words ask for none
abbrev pub Blends : List (List ℕ) → Option (Blend PlainScorer PlainScorer) → Type 0
Blends words (Some b) =
    (b.weight ≡ whole_of (slice_index_or words 1 [])) × Named (slice_index_or words 2 []) b.first × Named (slice_index_or words 3 []) b.second
Blends words None = words ≡ []

-- the same of words that need not be such a line's: none is asked for where a name is missing
abbrev pub Asked : List (List ℕ) → Option (Blend PlainScorer PlainScorer) → Type 0
Asked words (Some b) =
    (WholeNumber (slice_index_or words 1 []) → b.weight ≡ whole_of (slice_index_or words 1 [])) × Named (slice_index_or words 2 []) b.first × Named (slice_index_or words 3 []) b.second
Asked words None = NoName (slice_index_or words 2 []) ⊎ NoName (slice_index_or words 3 [])

-- the lines are of their form, and say the request
pub record Says (lines : List Worded) (q : ScoreRequest) : Type 0 where
  pub formed : WellFormed lines
  pub assigned : q.assigned ≡ whole_of (slice_index_or (line_at lines 0).words 1 [])
  pub historic : q.historic ≡ whole_of (slice_index_or (line_at lines 1).words 1 [])
  pub previous : q.previous ≡ signed_of (slice_index_or (line_at lines 2).words 1 [])
  pub readings : vec_items q.readings ≡ map signed_of (drop 1 (line_at lines 3).words)
  pub points : vec_items q.points ≡ map signed_of (drop 1 (line_at lines 4).words)
  pub blend : Blends (line_at lines 5).words q.blend

-- the text says the request
abbrev pub TextSays : List ℕ → ScoreRequest → Type 0
TextSays text q = (lines : List Worded) × Reads text lines × Says lines q

-- the fault tells the first place of the text that is not of its form; want of memory may come at any time
abbrev pub TextLacks : List ℕ → FileFault → Type 0
TextLacks text (Misread m) = (lines : List Worded) × Reads text lines × WrongLines lines (Misread m)
TextLacks text NoMemory = Unit {0}
