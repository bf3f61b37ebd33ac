use Rattle.std.proofs.Common.{◌≡◌, ◌≤◌, ◌<◌, ◌^◌, length, count_by, nat_le, arith, rules}
use Rattle.std.proofs.iter.runs.Made.{chains}
use Rattle.std.proofs.lemmas.List.Sums.{count_by-le-length}
use Rattle.score.proofs.band.count_within.Goals as goal

pub sum-requires-clause-fits : goal.sum-requires-clause-fits
sum-requires-clause-fits c =
    let h : count_by (λ e. nat_le e c.args.most) c.args.errors.now ≤ length c.args.errors.now = count_by-le-length _ c.args.errors.now in
    let small : count_by (λ e. nat_le e c.args.most) c.args.errors.now < 2 ^ 64 = omega (arith, h, c.iter.ensures.bound, c.iter.ensures.len) in
    search (rules, chains)

pub returns-clause-few : goal.returns-clause-few
returns-clause-few c =
    let h : c.sum.result ≡ count_by (λ e. nat_le e c.args.most) c.args.errors.now = search (rules, chains) in
    omega (arith, h, count_by-le-length (λ e. nat_le e c.args.most) c.args.errors.now)
