-- Which total and weights words say.
use Rattle.std.specs.Prelude.{◌≡◌, ℕ, ◌^◌, ◌<◌, List, [], ◌∷◌, length, vec_items, string_bytes, slice_index, slice_index_or}
use Rattle.std.specs.Str.Parse.{IsNumeral, digits_value, without_leading_plus}
use Rattle.worksheet.specs.declared.fault.RequestFault.{RequestFault}
use Rattle.worksheet.specs.declared.fault.RequestFault.TheVariants.{NoTotal, NotATotal, NotAWeight, NoMemory}
use Rattle.worksheet.specs.declared.request.ShareRequest.{ShareRequest}

-- the word is a decimal numeral, which a plus may precede, of a number below 2 to the power of bits
abbrev pub Whole : ℕ → List ℕ → Type 0
Whole bits word = IsNumeral 10 (without_leading_plus word) × (digits_value 10 (without_leading_plus word) < 2 ^ bits)

-- the number that such a word writes
abbrev pub number_of : List ℕ → ℕ
number_of word = digits_value 10 (without_leading_plus word)

-- the words write the weights, one for one
pub record Weights (words : List (List ℕ)) (ws : List ℕ) : Type 0 where
  pub long : length ws ≡ length words
  pub each : (k : ℕ) → k < length words → Whole 32 (slice_index_or words k []) × (slice_index ws k ≡ number_of (slice_index_or words k []))

-- the first word writes the total, and the others the weights
abbrev pub Says : List (List ℕ) → ShareRequest → Type 0
Says [] q = ⊥
Says (word ∷ words) q = Whole 64 word × (q.total ≡ number_of word) × Weights words (vec_items q.weights)

-- the word found is this word, and it is no whole number of so many bits
abbrev pub Unfit : ℕ → List ℕ → List ℕ → Type 0
Unfit bits word found = (found ≡ word) × (Whole bits word → ⊥)

-- what keeps words from writing weights: the first of them that does not; want of memory may come at any time
abbrev pub NoWeightsIn : List (List ℕ) → RequestFault → Type 0
NoWeightsIn words NoTotal = ⊥
NoWeightsIn words (NotATotal found) = ⊥
NoWeightsIn words (NotAWeight k found) = (k < length words) × ((j : ℕ) → j < k → Whole 32 (slice_index_or words j [])) × Unfit 32 (slice_index_or words k []) (string_bytes found)
NoWeightsIn words NoMemory = Unit {0}

-- what keeps words from saying a total and weights: the first of them that does not
abbrev pub Lacks : List (List ℕ) → RequestFault → Type 0
Lacks [] NoTotal = Unit {0}
Lacks [] (NotATotal found) = ⊥
Lacks [] (NotAWeight k found) = ⊥
Lacks [] NoMemory = Unit {0}
Lacks (word ∷ words) NoTotal = ⊥
Lacks (word ∷ words) (NotATotal found) = Unfit 64 word (string_bytes found)
Lacks (word ∷ words) (NotAWeight k found) = Whole 64 word × NoWeightsIn words (NotAWeight k found)
Lacks (word ∷ words) NoMemory = Unit {0}
