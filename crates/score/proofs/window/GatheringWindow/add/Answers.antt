use Rattle.std.proofs.Common.{◌≡◌, ◌+◌, ◌-◌, drop, replicate, pos, sym, ap, ◌∙◌, arith}
use Rattle.score.specs.Ranges.{point_fits}
use Rattle.std.proofs.lemmas.List.{drop-set-lt, drop-drop, drop-replicate}
use Rattle.score.specs.Tests.{every_set}
use Rattle.score.proofs.window.GatheringWindow.add.Goals as goal

pub invariant_of-self : goal.invariant_of-self
invariant_of-self c =
    let w = c.args.self.now in
    let xs = w.points in
    let n = w.sent in
    let fewer : (30 - n) - 1 ≡ 30 - (n + 1) = omega arith in
    record {
      room = omega arith;
      unsent = drop-set-lt (n + 1) xs n _ (omega arith) ∙ sym (drop-drop 1 n xs) ∙ ap (drop 1) w.unsent ∙ drop-replicate 1 (30 - n) (pos 0) ∙ ap (λ k. replicate k (pos 0)) fewer;
      fit = every_set point_fits xs n _ (sym c.if-not-is_within.ensures) w.fit;
    }
