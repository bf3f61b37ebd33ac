use Rattle.std.proofs.Common.{[], string_bytes, arith, below_more}
use Rattle.std.proofs.lemmas.Grind.{common_steps}
use Rattle.std.proofs.lemmas.List.{get_or-map}
use Rattle.worksheet.proofs.request.read_weights.Goals as goal

pub loop-place-preserved : goal.loop-place-preserved
loop-place-preserved c =
    let at = get_or-map string_bytes c.args.words.now c.loop-place.place c.index-words-place.result [] c.loop-place-test.true in
    record {
      long = grind (arith, common_steps);
      each = below_more _ _ (λ k l. grind (arith, common_steps, c.loop-place.invariant.each k l)) (grind (arith, common_steps));
    }
