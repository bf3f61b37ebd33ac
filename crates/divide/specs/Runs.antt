-- The running division is exact.
use Rattle.std.specs.Prelude.{◌≡◌, ℕ, ◌+◌, ◌-◌, ◌*◌, ◌/◌, ◌<◌, ◌≤◌, List, length, take, sum, slice_index, slice_index_or}
use Rattle.std.proofs.Common.{sym, ap, subst, ◌∙◌, ⊎_elim, mul-zero, mul-add, mul-le-mul_left, mul-div_cancel, div-mul-le_self, mul_comm, arith}
use Rattle.std.proofs.Math.Nat.{zero-div, div-zero, mul-sub, lt-div-mul-add}
use Rattle.std.proofs.lemmas.List.FromFn.{length-map-range_with_len, get_or-map-range_with_len}
use Rattle.std.proofs.lemmas.List.{take_all}
use Rattle.std.proofs.lemmas.Bool.{cases_lt}
use Rattle.std.specs.Int.{abs_diff}
use Rattle.divide.specs.Refusals.{Shareable}
use Rattle.divide.specs.Exact.{Exact}
use Rattle.divide.specs.Running.{reached, step, running}
use Rattle.divide.specs.Sums.{div_mono, prefix_more, prefix_up, telescopes}
use Rattle.divide.specs.Admitted.{admitted}

module _ (t : ℕ) (ws : List ℕ) where
  pub reached_up : (k : ℕ) → reached t ws k ≤ reached t ws (k + 1)
  reached_up k = div_mono (t * sum (take k ws)) (t * sum (take (k + 1) ws)) (sum ws) (mul-le-mul_left t (prefix_up ws k))

  reached_none : reached t ws 0 ≡ 0
  reached_none = ap (λ n. n / sum ws) (mul-zero t) ∙ zero-div (sum ws)

  reached_all : 0 < sum ws → reached t ws (length ws) ≡ t
  reached_all pos = ap (λ vs. t * sum vs / sum ws) (take_all (length ws) ws (omega arith)) ∙ mul-div_cancel t pos

  -- where there is no weight
  reached_zero : sum ws ≡ 0 → (k : ℕ) → reached t ws k ≡ 0
  reached_zero none k = ap (λ n. t * sum (take k ws) / n) none ∙ div-zero _

  pub running_each : length (running t ws) ≡ length ws
  running_each = length-map-range_with_len (step t ws) 0 (length ws)

  running_at : (k : ℕ) → k < length ws → slice_index (running t ws) k ≡ step t ws k
  running_at k h = get_or-map-range_with_len (step t ws) 0 (length ws) k k 0 h (omega arith)

  running_sum : sum (running t ws) ≡ reached t ws (length ws)
  running_sum = omega (arith, telescopes (reached t ws) reached_up (length ws), reached_none)

  running_whole : Shareable t ws → sum (running t ws) ≡ t
  running_whole fine =
      ⊎_elim (λ (pos : 0 < sum ws). running_sum ∙ reached_all pos)
      (λ (h : sum ws ≤ 0).
      let none : sum ws ≡ 0 = omega arith in
      running_sum ∙ reached_zero none (length ws) ∙ sym ((admitted t ws (length ws) fine).some none))
      (cases_lt 0 (sum ws))

  pub running_zeros : sum ws ≡ 0 → (k : ℕ) → k < length ws → slice_index (running t ws) k ≡ 0
  running_zeros none k h = omega (arith, running_at k h, reached_zero none (k + 1))

-- the difference of the quotients of two products that are w apart
near_from : (a b m w : ℕ) → 0 < m → b ≡ a + w → a / m ≤ b / m → abs_diff ((b / m - a / m) * m) w < m
near_from a b m w pos e up =
    let cut : (b / m - a / m) * m ≡ b / m * m - a / m * m = mul_comm (b / m - a / m) m ∙ mul-sub m (b / m) (a / m) ∙ omega (arith, mul_comm m (b / m), mul_comm m (a / m)) in
    let la = div-mul-le_self a m in
    let lb = div-mul-le_self b m in
    let ua : a < a / m * m + m = lt-div-mul-add pos in
    let ub : b < b / m * m + m = lt-div-mul-add pos in
    omega arith

running_near : (t : ℕ) (ws : List ℕ) → 0 < sum ws → (k : ℕ) → k < length ws → abs_diff (slice_index (running t ws) k * sum ws) (t * slice_index ws k) < sum ws
running_near t ws pos k h =
    let e : t * sum (take (k + 1) ws) ≡ t * sum (take k ws) + t * slice_index_or ws k 0 = ap (λ n. t * n) (prefix_more ws k h) ∙ mul-add t (sum (take k ws)) (slice_index ws k) in
    let P : ℕ → Type 0 = λ n. abs_diff (n * sum ws) (t * slice_index ws k) < sum ws in
    subst P (sym (running_at t ws k h)) (near_from (t * sum (take k ws)) (t * sum (take (k + 1) ws)) (sum ws) (t * slice_index ws k) pos e (reached_up t ws k))

pub running_exact : (t : ℕ) (ws : List ℕ) → Shareable t ws → Exact t ws (running t ws)
running_exact t ws fine = record { each = running_each t ws; whole = running_whole t ws fine; near = running_near t ws; zeros = running_zeros t ws }
