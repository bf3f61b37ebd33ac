use Rattle.std.proofs.Common.{◌+◌, ◌-◌, max, pos, ◌+ℤ◌, ◌*ℤ◌, ap, ◌∙◌, arith, w32, w64, SFits, rules}
use Rattle.std.proofs.lemmas.Int.{to_z-of_z, ints}
use Rattle.plant.specs.Records.{block_at}
use Rattle.plant.proofs.Costs.{Summed, summed_none, summed_more, summed_all, cost_small}
use Rattle.plant.proofs.cost.Market.cost.Goals as goal

pub loop-block-init : goal.loop-block-init
loop-block-init c = summed_none c.args.self.now.blocks.now c.args.level

module _ (c : goal.After-cost_at-cost) where
  -- the sum with this block in it
  sum : Summed c.args.self.now.blocks.now c.args.level (c.loop-block.block-index + 1) (c.loop-block.cost +ℤ c.cost_at-cost.result) c.max-end.result
  sum =
      let bs = c.args.self.now.blocks.now in
      let i = c.loop-block.block-index in
      let fits : SFits w32 (block_at bs i).price = search rules in
      summed_more bs c.args.level i c.loop-block.cost c.cost_at-cost.result c.loop-block.start c.max-end.result c.loop-block-test.true
      (rw c.loop-block.cost-is at c.loop-block.invariant)
      (c.max-end.ensures ∙ ap (λ m. max m c.loop-block.start) c.min.ensures)
      (c.cost_at-cost.ensures ∙ ap (λ z. pos (c.max-end.result - c.loop-block.start) *ℤ z) (to_z-of_z w32 _ fits))

  fits : SFits w64 (c.loop-block.cost +ℤ c.cost_at-cost.result)
  fits =
      omega (arith, ints, cost_small c.args.self.now.blocks.now c.args.self.now.blocks_fit c.max-end.result, sum.value, sum.far)

pub overflow_add-cost : goal.overflow_add-cost
overflow_add-cost c = omega (arith, ints, fits c)

pub loop-block-preserved : goal.loop-block-preserved
loop-block-preserved c =
    let part : SFits w64 c.cost_at-cost.result = search rules in
    let whole = fits c in
    rw c.loop-block.cost-is (simp to_z-of_z (sum c))

pub returns : goal.returns
returns c =
    let s = rw c.loop-block.cost-is at c.loop-block.invariant in
    rw c.loop-block.cost-is (record {
      value = summed_all c.args.self.now.blocks.now _ _ _ _ c.loop-block-test.false s;
      bound = omega (arith, ints, cost_small c.args.self.now.blocks.now c.args.self.now.blocks_fit c.loop-block.start, s.value, s.far);
    })
