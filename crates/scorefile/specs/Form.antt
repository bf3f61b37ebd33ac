-- The form of a score file.
use Rattle.std.specs.Prelude.{◌≡◌, ℕ, ◌^◌, ◌<◌, Bool, true, false, cond, List, ℤ, codes, FitsSigned, ◌==◌}
use Rattle.std.specs.Int.{w32}
use Rattle.std.specs.Str.Parse.{IsNumeral, digits_value, without_leading_plus, without_leading_sign, signed_digits_value}
use Rattle.score.specs.declared.any.PlainScorer.{PlainScorer}
use Rattle.score.specs.Names.{Named}
use Rattle.scorefile.specs.declared.form.Heading.{Heading}
use Rattle.scorefile.specs.declared.form.Heading.TheVariants as heading
use Rattle.scorefile.specs.declared.form.Expected.{Expected}
use Rattle.scorefile.specs.declared.form.Expected.TheVariants as expected

-- the word with which a line begins
abbrev pub heading_word : Heading → List ℕ
heading_word heading.Assigned = codes "assigned"
heading_word heading.Historic = codes "historic"
heading_word heading.Previous = codes "previous"
heading_word heading.Signal = codes "signal"
heading_word heading.Points = codes "points"
heading_word heading.Blend = codes "blend"

-- the word is a decimal numeral, which a plus may precede, of a number below 2 to the power of 32
abbrev pub WholeNumber : List ℕ → Type 0
WholeNumber word = IsNumeral 10 (without_leading_plus word) × (digits_value 10 (without_leading_plus word) < 2 ^ 32)

-- the number that such a word writes
abbrev pub whole_of : List ℕ → ℕ
whole_of word = digits_value 10 (without_leading_plus word)

-- the word is a decimal numeral, which a plus or a minus may precede, of a number of 32 bits with its sign
abbrev pub SignedNumber : List ℕ → Type 0
SignedNumber word = IsNumeral 10 (without_leading_sign word) × FitsSigned w32 (signed_digits_value 10 word)

-- the number that such a word writes
abbrev pub signed_of : List ℕ → ℤ
signed_of word = signed_digits_value 10 word

-- the word is what is expected
abbrev pub Fits : Expected → List ℕ → Type 0
Fits (expected.Heading h) word = word ≡ heading_word h
Fits expected.Whole word = WholeNumber word
Fits expected.Signed word = SignedNumber word
Fits expected.More word = SignedNumber word
Fits expected.Scorer word = (s : PlainScorer) × Named word s
Fits expected.LineEnd word = ⊥
Fits expected.FileEnd word = ⊥

-- a line may end where this is expected
abbrev pub may_end : Expected → Bool
may_end (expected.Heading h) = false
may_end expected.Whole = false
may_end expected.Signed = false
may_end expected.More = true
may_end expected.Scorer = false
may_end expected.LineEnd = true
may_end expected.FileEnd = false

-- a line of one word after its heading
abbrev pub one : Heading → Expected → ℕ → Expected
one h e place = cond (place == 0) (expected.Heading h) (cond (place == 1) e expected.LineEnd)

-- a line of any number of numbers after its heading
abbrev pub many : Heading → ℕ → Expected
many h place = cond (place == 0) (expected.Heading h) expected.More

-- a line of a blend: its heading, its weight and its two scorers
abbrev pub blend_form : ℕ → Expected
blend_form place =
    cond (place == 0) (expected.Heading heading.Blend)
    (cond (place == 1) expected.Whole
    (cond (place == 2) expected.Scorer
    (cond (place == 3) expected.Scorer expected.LineEnd)))

-- what is expected at a place of a line, both counted from 0; lines without words are not counted
abbrev pub expected_at : ℕ → ℕ → Expected
expected_at line place =
    cond (line == 0) (one heading.Assigned expected.Whole place)
    (cond (line == 1) (one heading.Historic expected.Whole place)
    (cond (line == 2) (one heading.Previous expected.Signed place)
    (cond (line == 3) (many heading.Signal place)
    (cond (line == 4) (many heading.Points place)
    (cond (line == 5) (blend_form place) expected.FileEnd)))))
