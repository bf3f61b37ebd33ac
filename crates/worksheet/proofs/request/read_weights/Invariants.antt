use Rattle.std.proofs.Common.{◌≡◌, ℕ, ◌<◌, [], map, length, slice_index, slice_index_or, vec_items, string_bytes}
use Rattle.worksheet.specs.Request.{Whole, number_of}
use Rattle.worksheet.proofs.request.read_weights.Given as goal

abbrev pub invariant-loop-place : goal.invariant-loop-place
invariant-loop-place l =
    record {
      long : length (vec_items l.weights) ≡ l.place;
      each : (k : ℕ) → k < l.place → Whole 32 (slice_index_or (map string_bytes l.words) k []) × (slice_index (vec_items l.weights) k ≡ number_of (slice_index_or (map string_bytes l.words) k []));
    }
