-- The names of the scorers that are no blend.
use Rattle.std.specs.Prelude.{◌≡◌, ℕ, List, codes}
use Rattle.score.specs.declared.any.PlainScorer.{PlainScorer}
use Rattle.score.specs.declared.any.PlainScorer.TheVariants as plain

-- the name of each
abbrev pub name_of : PlainScorer → List ℕ
name_of plain.Precision = codes "precision"
name_of plain.Band = codes "band"
name_of plain.Historic = codes "historic"

-- the word is the name of the scorer
abbrev pub Named : List ℕ → PlainScorer → Type 0
Named word s = word ≡ name_of s

-- the word is no scorer's name
abbrev pub NoName : List ℕ → Type 0
NoName word = (s : PlainScorer) → Named word s → ⊥
