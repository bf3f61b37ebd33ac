-- Which files are of their form, and the first place of one that is not.
use Rattle.std.specs.Prelude.{◌≡◌, ℕ, ◌-◌, ◌<◌, ◌≤◌, true, false, ◌⊎◌, List, [], length, string_bytes, slice_index_or}
use Rattle.lines.specs.Reads.{Worded}
use Rattle.scorefile.specs.Form.{Fits, may_end, expected_at}
use Rattle.scorefile.specs.declared.fault.Found.{Found}
use Rattle.scorefile.specs.declared.fault.Found.TheVariants as found
use Rattle.scorefile.specs.declared.fault.FileFault.{FileFault}
use Rattle.scorefile.specs.declared.fault.FileFault.TheVariants.{Misread, NoMemory}
use Rattle.scorefile.specs.declared.form.Expected.{Expected}

-- the words of line number l of those that have words, counted from 0, up to place k are what is expected
abbrev pub Begins : ℕ → List (List ℕ) → ℕ → Type 0
Begins l words k = (j : ℕ) → j < k → Fits (expected_at l j) (slice_index_or words j [])

-- all words of the line are what is expected, and it may end where it does
abbrev pub WellWorded : ℕ → List (List ℕ) → Type 0
WellWorded l words = Begins l words (length words) × (may_end (expected_at l (length words)) ≡ true)

-- the line at place l, or one without words where there is none
abbrev pub line_at : List Worded → ℕ → Worded
line_at lines l = slice_index_or lines l (record { number = 0; words = [] })

-- the first n lines are of their form
abbrev pub WellUpTo : List Worded → ℕ → Type 0
WellUpTo lines n = (l : ℕ) → l < n → WellWorded l (line_at lines l).words

-- all lines are of their form, and the first five are there
abbrev pub WellFormed : List Worded → Type 0
WellFormed lines = WellUpTo lines (length lines) × (5 ≤ length lines)

-- what stands at place k of these words
abbrev pub Stands : List (List ℕ) → ℕ → Found → Type 0
Stands words k (found.Word w) = (k < length words) × (string_bytes w ≡ slice_index_or words k [])
Stands words k found.LineEnd = k ≡ length words
Stands words k found.FileEnd = ⊥

-- it is not what is expected
abbrev pub Unfit : Expected → Found → Type 0
Unfit e (found.Word w) = Fits e (string_bytes w) → ⊥
Unfit e found.LineEnd = may_end e ≡ false
Unfit e found.FileEnd = ⊥

-- the fault tells the first place of the line at which something else stands than what is expected; want of memory
-- may come at any time
abbrev pub WrongWords : ℕ → ℕ → List (List ℕ) → FileFault → Type 0
WrongWords l number words (Misread m) =
    (k : ℕ) × Begins l words k × (m.line ≡ number) × (m.expected ≡ expected_at l k) × Stands words k m.found × Unfit m.expected m.found
WrongWords l number words NoMemory = Unit {0}

-- the file ends where a line is needed, after these
abbrev pub Ended : List Worded → FileFault → Type 0
Ended lines (Misread m) =
    (length lines < 5) × WellUpTo lines (length lines) × (m.line ≡ (line_at lines (length lines - 1)).number) × (m.expected ≡ expected_at (length lines) 0) × (m.found ≡ found.FileEnd)
Ended lines NoMemory = Unit {0}

-- the fault tells the first place of the file that is not of its form
abbrev pub WrongLines : List Worded → FileFault → Type 0
WrongLines lines (Misread m) =
    ((l : ℕ) × (l < length lines) × WellUpTo lines l × WrongWords l (line_at lines l).number (line_at lines l).words (Misread m)) ⊎ Ended lines (Misread m)
WrongLines lines NoMemory = Unit {0}
