use Rattle.std.proofs.Common.{◌≡◌, pos, ◌*ℤ◌, ◌∙◌, arith, w32, w64, to_z, of_z}
use Rattle.std.proofs.lemmas.Int.{to_z-of_z}
use Rattle.score.proofs.Products.{fits_product}
use Rattle.score.proofs.errors.error_of.Goals as goal

pub returns : goal.returns
returns c =
    let ep : to_z w64 (of_z w64 c.from-given.result) ≡ c.args.point = to_z-of_z w64 _ (record { sfits = c.from-given.type_inv }) ∙ c.from-given.ensures ∙ to_z-of_z w32 _ c.ranges.point in
    let ea : to_z w64 (of_z w64 c.from.result) ≡ pos c.args.assigned = to_z-of_z w64 _ (record { sfits = c.from.type_inv }) ∙ c.from.ensures in
    let er : to_z w64 (of_z w64 c.from-2.result) ≡ c.args.reading = to_z-of_z w64 _ (record { sfits = c.from-2.type_inv }) ∙ c.from-2.ensures ∙ to_z-of_z w32 _ c.ranges.reading in
    let t = to_z-of_z w64 (pos 10000 *ℤ c.args.point) (fits_product 10000 c.args.point (omega arith) c.ranges.point) in
    let u = to_z-of_z w64 (pos c.args.assigned *ℤ c.args.reading) (fits_product c.args.assigned c.args.reading c.ranges.assigned.fits c.ranges.reading) in
    rw (ep, ea, er, t, u) at c.abs_diff.ensures
