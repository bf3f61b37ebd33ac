use Rattle.std.proofs.Common.{length, refl, arith}
use Rattle.std.proofs.lemmas.List.{ext_get_or}
use Rattle.std.proofs.lemmas.List.Sums.{get_or-le-sum_by}
use Rattle.divide.specs.Admitted.{admitted, shareable}
use Rattle.divide.specs.Remainders.{remainders}
use Rattle.divide.specs.Rests.{remainders_exact}
use Rattle.divide.proofs.remainders.RemaindersDivider.divide.Goals as goal

-- shares that add up to 0 are noughts
pub returns-then-total-eq0-clause-after : goal.returns-then-total-eq0-clause-after
returns-then-total-eq0-clause-after c =
    let t = c.args.total in
    let ws = c.args.weights.now in
    let fine = c.in_ok-sharing.ensures.0 in
    let exact = remainders_exact t ws (shareable t ws (length c.args.out.now) fine) in
    let long = (admitted t ws (length c.args.out.now) fine).long in
    ext_get_or 0 c.fill.new.self (remainders t ws) (omega (arith, c.fill.ensures.len, long, exact.each)) (λ k h. omega (arith, c.fill.ensures.clones k 0 (omega (arith, c.fill.ensures.len)) refl, get_or-le-sum_by (λ x. x) (remainders t ws) k 0 (omega (arith, c.fill.ensures.len, long, exact.each)), exact.whole, c.if-total-eq0.true))
