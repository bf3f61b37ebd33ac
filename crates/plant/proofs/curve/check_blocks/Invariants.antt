use Rattle.std.proofs.Common.{◌≡◌, ◌-◌, length}
use Rattle.std.specs.List.{range_with_len}
use Rattle.plant.specs.Records.{before, block_fault, blocks_fault, first_fault}
use Rattle.plant.proofs.curve.check_blocks.Given as goal

abbrev pub invariant-loop-place : goal.invariant-loop-place
invariant-loop-place l =
    record {
      before : l.before ≡ before l.blocks l.place;
      so_far : blocks_fault l.eco_max l.blocks ≡ first_fault (block_fault l.eco_max l.blocks) (range_with_len l.place (length l.blocks - l.place));
    }
