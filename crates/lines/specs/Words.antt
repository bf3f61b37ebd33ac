-- The words of a line.
use Rattle.std.specs.Prelude.{◌≡◌, ℕ, ◌<◌, List, [], ◌∷◌, ◌++◌, length, ◌==◌}
use Rattle.std.specs.Char.{is_whitespace, is_not_whitespace}
use Rattle.std.specs.List.{before_first}
use Rattle.std.specs.Str.{NoCharPasses, EmptyOrStartsWithPassing}

-- what stands before the first `#`, whose code is 35
abbrev pub before_hash : List ℕ → List ℕ
before_hash line = before_first (λ c. c == 35) line

-- the text is white space, the word, and the rest, which is empty or begins with white space
pub record First (text word rest : List ℕ) : Type 0 where
  pub gap : List ℕ
  pub cut : text ≡ gap ++ (word ++ rest)
  pub some : 0 < length word
  pub blank : NoCharPasses is_not_whitespace gap
  pub solid : NoCharPasses is_whitespace word
  pub ends : (more : List ℕ) × EmptyOrStartsWithPassing is_whitespace rest more

-- the text is white space
abbrev pub Blank : List ℕ → Type 0
Blank text = NoCharPasses is_not_whitespace text

-- the words of the text, in their order
abbrev pub Words : List ℕ → List (List ℕ) → Type 0
Words text [] = Blank text
Words text (word ∷ words) = (rest : List ℕ) × First text word rest × Words rest words
