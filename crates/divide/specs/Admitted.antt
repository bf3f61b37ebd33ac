-- What is known where no refusal applies.
use Rattle.std.specs.Prelude.{◌≡◌, ℕ, ◌*◌, ◌<◌, ◌≤◌, List, length, sum, None, slice_index}
use Rattle.std.proofs.Common.{subst, arith}
use Rattle.std.proofs.lemmas.List.{ext_get_or}
use Rattle.std.proofs.lemmas.Bool.Decides.{nat_tests}
use Rattle.divide.specs.Refusals.{most_weights, largest_product, refusal, Shareable}
use Rattle.divide.specs.Exact.{Exact}

pub record Admitted (t : ℕ) (ws : List ℕ) (places : ℕ) : Type 0 where
  pub few : length ws ≤ most_weights
  pub long : places ≡ length ws
  pub some : sum ws ≡ 0 → t ≡ 0
  pub small : t * sum ws ≤ largest_product

pub admitted : (t : ℕ) (ws : List ℕ) (places : ℕ) → refusal t ws places ≡ None → Admitted t ws places
admitted t ws places h = record {
  few = grind (arith, nat_tests);
  long = grind (arith, nat_tests);
  some = grind (arith, nat_tests);
  small = grind (arith, nat_tests);
}

pub shareable : (t : ℕ) (ws : List ℕ) (places : ℕ) → refusal t ws places ≡ None → Shareable t ws
shareable t ws places h = subst (λ (n : ℕ). refusal t ws n ≡ None) (admitted t ws places h).long h

-- where the weights add up to 0, noughts at every place are any exact division's shares
pub noughts : (t : ℕ) (ws out shares : List ℕ) → length out ≡ length ws → ((k : ℕ) → k < length out → slice_index out k ≡ 0) → sum ws ≡ 0 → Exact t ws shares → out ≡ shares
noughts t ws out shares long zero none exact =
    let each = exact.each in
    ext_get_or 0 out shares (omega arith) (λ k h. omega (arith, zero k h, exact.zeros none k (omega arith)))
