-- The numbered lines of a text that have words.
use Rattle.std.specs.Prelude.{◌≡◌, ℕ, ◌+◌, List, [], ◌∷◌, ◌++◌, map, vec_items, string_bytes}
use Rattle.std.specs.Str.Lines.{lines}
use Rattle.lines.specs.declared.read.Line.{Line}
use Rattle.lines.specs.Words.{before_hash, Words}

-- the number of a line and its words
pub record Worded : Type 0 where
  pub number : ℕ
  pub words : List (List ℕ)

-- the number of a line as it is read, and the bytes of its words
abbrev pub worded : Line → Worded
worded l = record { number = l.number; words = map string_bytes (vec_items l.words) }

-- what a line with this number and these words gives: nothing where it has no words
abbrev pub kept : ℕ → List (List ℕ) → List Worded
kept number [] = []
kept number (word ∷ words) = record { number = number; words = word ∷ words } ∷ []

-- the lines, the first of which has this number, give ws: each gives its number and the words before its `#`
abbrev pub Numbered : ℕ → List (List ℕ) → List Worded → Type 0
Numbered number [] ws = ws ≡ []
Numbered number (line ∷ lines) ws = (words : List (List ℕ)) × (more : List Worded) × Words (before_hash line) words × Numbered (number + 1) lines more × (ws ≡ kept number words ++ more)

-- the lines of the text, without their line ends and counted from 1, give ws
abbrev pub Reads : List ℕ → List Worded → Type 0
Reads text ws = Numbered 1 (lines text) ws
