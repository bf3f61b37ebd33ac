use Rattle.std.proofs.Common.{◌≡◌, ℕ, ◌*◌, ◌<◌, ◌∷◌, get_or, pos, refl, arith, rules}
use Rattle.std.proofs.lemmas.List.FromFn.{fill_by_all}
use Rattle.std.proofs.lemmas.Bool.{and_from}
use Rattle.score.specs.Ranges.{reading_fits, point_fits, error_fits}
use Rattle.score.specs.Errors.{errors, error_at}
use Rattle.score.specs.Tests.{every_at, every_from}
use Rattle.score.proofs.Arrays.{made_at}
use Rattle.score.proofs.Products.{error_small}
use Rattle.score.proofs.errors.tracking_errors.Goals as goal

module _ (c : goal.After-from_fn) where
  abbrev at : ℕ → ℕ
  at = error_at c.args.assigned c.args.window.now.points c.args.signal.now.previous c.args.signal.now.readings.now

  given : (k : ℕ) → k < 30 → get_or c.from_fn.result k 0 ≡ at k
  given k l = made_at _ _ c.from_fn.result at 30 (λ i y q h call. search rules) c.from_fn.ensures.items.each k 0 l

pub returns-clause-value : goal.returns-clause-value
unfolding errors
returns-clause-value c = fill_by_all (at c) c.from_fn.result 30 0 c.from_fn.ensures.items.long (given c)

pub returns-clause-fit : goal.returns-clause-fit
returns-clause-fit c a z all =
    let xs = c.args.window.now.points in
    let zs = c.args.signal.now.previous ∷ c.args.signal.now.readings.now in
    every_from error_fits c.from_fn.result 0
    (λ k h.
    rw (given c k (omega (arith, c.from_fn.ensures.items.long)))
    (error_small c.args.assigned (get_or xs k (pos 0)) (get_or zs (5 * k) (pos 0)) a
    (every_at point_fits xs k (pos 0) refl c.args.window.now.fit)
    (every_at reading_fits zs (5 * k) (pos 0) refl (and_from _ _ z all))))
