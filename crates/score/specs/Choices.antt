-- What a scorer that is chosen at run time gives.
use Rattle.std.specs.Prelude.{ℕ, List}
use Rattle.score.specs.Scores.{precision, band, historic, blended}
use Rattle.score.specs.declared.any.PlainScorer.{PlainScorer}
use Rattle.score.specs.declared.any.PlainScorer.TheVariants as plain
use Rattle.score.specs.declared.any.AnyScorer.{AnyScorer}
use Rattle.score.specs.declared.any.AnyScorer.TheVariants as any

-- by a scorer that is no blend
abbrev pub plain_rating : PlainScorer → ℕ → List ℕ → ℕ → ℕ
plain_rating plain.Precision a es h = precision a es h
plain_rating plain.Band a es h = band a es h
plain_rating plain.Historic a es h = historic a es h

-- by any scorer
abbrev pub any_rating : AnyScorer → ℕ → List ℕ → ℕ → ℕ
any_rating (any.Plain s) a es h = plain_rating s a es h
any_rating (any.Blend b) a es h = blended b.weight (plain_rating b.first a es h) (plain_rating b.second a es h)
