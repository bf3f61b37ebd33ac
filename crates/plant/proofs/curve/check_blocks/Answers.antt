use Rattle.std.proofs.Common.{refl}
use native.Mathlib.Nat.{sub-zero}
use Rattle.plant.specs.Records.{blocks_fault}
use Rattle.plant.proofs.curve.check_blocks.Goals as goal

pub loop-place-init : goal.loop-place-init
unfolding blocks_fault
loop-place-init c = record { before = refl; so_far = rw sub-zero }
