-- What a scorer that is chosen at run time keeps.
use Rattle.std.specs.Prelude.{◌≡◌, ℕ, ◌≤◌, false, List}
use Rattle.score.specs.Choices.{any_rating}
use Rattle.score.specs.Laws.{plain_bounded, plain_outside, plain_monotone, blended_bounded, blended_outside, blended_monotone}
use Rattle.score.specs.Scores.{scorable, NoLarger}
use Rattle.score.specs.declared.any.AnyScorer.{AnyScorer}
use Rattle.score.specs.declared.any.AnyScorer.TheVariants as any

pub any_bounded : (s : AnyScorer) (a : ℕ) (es : List ℕ) (h : ℕ) → any_rating s a es h ≤ 10000
any_bounded (any.Plain s) a es h = plain_bounded s a es h
any_bounded (any.Blend b) a es h =
    blended_bounded b.weight _ _ (plain_bounded b.first a es h) (plain_bounded b.second a es h)

pub any_outside : (s : AnyScorer) (a : ℕ) (es : List ℕ) (h : ℕ) → scorable a es h ≡ false → any_rating s a es h ≡ 0
any_outside (any.Plain s) a es h e = plain_outside s a es h e
any_outside (any.Blend b) a es h e =
    blended_outside b.weight _ _ (plain_outside b.first a es h e) (plain_outside b.second a es h e)

pub any_monotone : (s : AnyScorer) (a : ℕ) (es fs : List ℕ) (h : ℕ) → NoLarger es fs → any_rating s a fs h ≤ any_rating s a es h
any_monotone (any.Plain s) a es fs h p = plain_monotone s a es fs h p
any_monotone (any.Blend b) a es fs h p =
    blended_monotone b.weight _ _ _ _ (plain_monotone b.first a es fs h p) (plain_monotone b.second a es fs h p)
