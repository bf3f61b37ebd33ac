-- The division by largest remainders is exact.
use Rattle.std.specs.Prelude.{◌≡◌, ℕ, zero, suc, ◌+◌, ◌*◌, ◌/◌, ◌%◌, ◌<◌, ◌≤◌, Bool, true, false, ltb, List, [], ◌∷◌, map, length, take, sum, nat_lt, slice_index, slice_index_or, refl}
use Rattle.std.proofs.Common.{sym, ap, subst, ◌∙◌, ⊎_elim, zero-mul, one-mul, mul-zero, add-mul, mul-add, mod-lt, le_of_mul-le-mul_right, arith}
use Rattle.std.proofs.Math.Nat.{div-zero}
use Rattle.std.specs.List.{range_with_len}
use Rattle.std.proofs.lemmas.Nat.{div-add-mod'}
use Rattle.std.proofs.lemmas.List.FromFn.{length-map-range_with_len, get_or-map-range_with_len}
use Rattle.std.proofs.lemmas.List.{length-map, get_or-map, get_or_past}
use Rattle.std.proofs.lemmas.List.Sums.{sum_by-cons}
use Rattle.std.proofs.lemmas.Bool.{cases_lt, ltb-true}
use Rattle.std.proofs.lemmas.Bool.Decides.{nat_tests}
use Rattle.std.specs.Int.{abs_diff}
use Rattle.divide.specs.Refusals.{Shareable}
use Rattle.divide.specs.Exact.{Exact}
use Rattle.divide.specs.Remainders.{floors, rests, spare, before, how_many, rank, remainders}
use Rattle.divide.specs.Admitted.{admitted}
use Rattle.divide.specs.Sums.{prefix_suc, prefix_all, sum_more}
use Rattle.divide.specs.Ranks.{one, how_many_le, how_many_up, chosen}

-- parts and units, summed apart
sum_parts : (parts : List ℕ) (p : ℕ → Bool) (n : ℕ) → n ≤ length parts → sum (map (λ k. slice_index parts k + one (p k)) (range_with_len 0 n)) ≡ sum (take n parts) + how_many p n
sum_parts parts p zero h = refl
sum_parts parts p (suc n) h = omega (arith, sum_more (λ k. slice_index parts k + one (p k)) n, sum_parts parts p n (omega arith), prefix_suc parts n h)

-- rounded parts and remainders together are the products
accounts : (t m : ℕ) (ws : List ℕ) → sum (map (λ w. t * w / m) ws) * m + sum (map (λ w. t * w % m) ws) ≡ t * sum ws
accounts t m [] = omega (arith, zero-mul m, mul-zero t)
accounts t m (w ∷ ws) =
    let fs = sum (map (λ v. t * v / m) ws) in
    let head = ap (λ n. n * m) (sum_by-cons (λ y. y) (t * w / m) (map (λ v. t * v / m) ws)) ∙ add-mul (t * w / m) fs m in
    let whole = ap (λ n. t * n) (sum_by-cons (λ y. y) w ws) ∙ mul-add t w (sum ws) in
    omega (arith, head, whole, sum_by-cons (λ y. y) (t * w % m) (map (λ v. t * v % m) ws), accounts t m ws, div-add-mod' (t * w) m)

-- the sum of remainders below m is less than m for each place that has one
rests_le : (rs : List ℕ) (m : ℕ) → ((k : ℕ) → slice_index rs k < m) → (n : ℕ) → n ≤ length rs → sum (take n rs) ≤ how_many (λ k. ltb 0 (slice_index rs k)) n * m
rests_le rs m below zero h = omega arith
rests_le rs m below (suc n) h =
    let split = add-mul (how_many (λ k. ltb 0 (slice_index rs k)) n) (one (nat_lt 0 (slice_index rs n))) m in
    let ih = rests_le rs m below n (omega arith) in
    let b = below n in
    let s = prefix_suc rs n h in
    grind (arith, nat_tests)

near_share : (f r m w : ℕ) (b : Bool) → f * m + r ≡ w → r < m → (b ≡ true → 0 < r) → abs_diff ((f + one b) * m) w < m
near_share f r m w true e l h = omega (arith, add-mul f 1 m, one-mul m, h refl)
near_share f r m w false e l h = omega arith

all_zero : (xs : List ℕ) → ((k : ℕ) → k < length xs → slice_index xs k ≡ 0) → (n : ℕ) → n ≤ length xs → sum (take n xs) ≡ 0
all_zero xs z zero h = refl
all_zero xs z (suc n) h = omega (arith, all_zero xs z n (omega arith), prefix_suc xs n h, z n h)

module _ (t : ℕ) (ws : List ℕ) where
  -- whether place k has one of the units left over
  abbrev unit : ℕ → Bool
  unit k = nat_lt (rank (rests t ws) k) (spare t ws)

  -- how many places leave a remainder
  abbrev uneven : ℕ
  uneven = how_many (λ k. ltb 0 (slice_index (rests t ws) k)) (length (rests t ws))

  pub floors_each : length (floors t ws) ≡ length ws
  floors_each = length-map ws (λ w. t * w / sum ws)

  pub rests_each : length (rests t ws) ≡ length ws
  rests_each = length-map ws (λ w. t * w % sum ws)

  pub floors_at : (k : ℕ) → k < length ws → slice_index (floors t ws) k ≡ t * slice_index ws k / sum ws
  floors_at k h = get_or-map (λ w. t * w / sum ws) ws k 0 0 h

  pub rests_at : (k : ℕ) → k < length ws → slice_index (rests t ws) k ≡ t * slice_index ws k % sum ws
  rests_at k h = get_or-map (λ w. t * w % sum ws) ws k 0 0 h

  rests_below : 0 < sum ws → (k : ℕ) → slice_index (rests t ws) k < sum ws
  rests_below pos k =
      ⊎_elim (λ (h : k < length ws). omega (arith, rests_at k h, mod-lt (t * slice_index ws k) pos))
      (λ (h : length ws ≤ k). omega (arith, get_or_past (rests t ws) k 0 (omega (arith, rests_each))))
      (cases_lt k (length ws))

  floor_none : sum ws ≡ 0 → (k : ℕ) → k < length ws → slice_index (floors t ws) k ≡ 0
  floor_none none k h = floors_at k h ∙ ap (λ n. t * slice_index ws k / n) none ∙ div-zero (t * slice_index ws k)

  -- the rounded parts add up to the total at most
  pub floors_le : sum (floors t ws) ≤ t
  floors_le =
      ⊎_elim
      (λ (pos : 0 < sum ws). let all = accounts t (sum ws) ws in le_of_mul-le-mul_right {k = sum ws} (omega arith) pos)
      (λ (h : sum ws ≤ 0). omega (arith, all_zero (floors t ws) (λ k l. floor_none (omega arith) k (omega (arith, floors_each))) (length (floors t ws)) (omega arith), prefix_all (floors t ws)))
      (cases_lt 0 (sum ws))

  -- no more units are left over than there are remainders
  pub spare_le_uneven : 0 < sum ws → spare t ws ≤ uneven
  spare_le_uneven pos =
      let all = accounts t (sum ws) ws in
      let left = rests_le (rests t ws) (sum ws) (rests_below pos) (length (rests t ws)) (omega arith) in
      let sums = prefix_all (rests t ws) in
      let split = add-mul (sum (floors t ws)) uneven (sum ws) in
      let high : t ≤ sum (floors t ws) + uneven = le_of_mul-le-mul_right {k = sum ws} (omega arith) pos in
      omega arith

  pub remainders_each : length (remainders t ws) ≡ length ws
  remainders_each = length-map-range_with_len (λ k. slice_index (floors t ws) k + one (unit k)) 0 (length (floors t ws)) ∙ floors_each

  remainders_at : (k : ℕ) → k < length ws → slice_index (remainders t ws) k ≡ slice_index (floors t ws) k + one (unit k)
  remainders_at k h = get_or-map-range_with_len (λ i. slice_index (floors t ws) i + one (unit i)) 0 (length (floors t ws)) k k 0 (omega (arith, floors_each)) (omega arith)

  pub remainders_zeros : Shareable t ws → sum ws ≡ 0 → (k : ℕ) → k < length ws → slice_index (remainders t ws) k ≡ 0
  remainders_zeros fine none k h =
      let is : t ≡ 0 = (admitted t ws (length ws) fine).some none in
      let no_unit : one (unit k) ≡ 0 = grind (arith, nat_tests) in
      omega (arith, remainders_at k h, floor_none none k h)

  -- a place that has a unit has a remainder
  unit_rest : 0 < sum ws → (k : ℕ) → unit k ≡ true → 0 < slice_index (rests t ws) k
  unit_rest pos k has =
      ⊎_elim
      (λ (h : 0 < slice_index (rests t ws) k). h)
      (λ (h : slice_index_or (rests t ws) k 0 ≤ 0).
      let le = spare_le_uneven pos in
      let up = how_many_up (λ j. ltb 0 (slice_index (rests t ws) j)) (λ j. before (rests t ws) j k) (length (rests t ws)) (λ j l e. grind (arith, nat_tests)) in
      let lt = ltb-true (rank (rests t ws) k) (spare t ws) has in
      absurd (omega arith))
      (cases_lt 0 (slice_index (rests t ws) k))

  remainders_near : 0 < sum ws → (k : ℕ) → k < length ws → abs_diff (slice_index (remainders t ws) k * sum ws) (t * slice_index ws k) < sum ws
  remainders_near pos k h =
      let P : ℕ → Type 0 = λ n. abs_diff (n * sum ws) (t * slice_index ws k) < sum ws in
      let split : slice_index_or (floors t ws) k 0 * sum ws + slice_index (rests t ws) k ≡ t * slice_index_or ws k 0 =
      ap (λ n. n * sum ws + slice_index (rests t ws) k) (floors_at k h) ∙ ap (λ n. t * slice_index ws k / sum ws * sum ws + n) (rests_at k h) ∙ div-add-mod' (t * slice_index ws k) (sum ws) in
      subst P (sym (remainders_at k h))
      (near_share (slice_index (floors t ws) k) (slice_index (rests t ws) k) (sum ws) (t * slice_index ws k) (unit k) split (rests_below pos k) (unit_rest pos k))

  -- there is a place for each unit that is left over
  spare_le : Shareable t ws → spare t ws ≤ length (rests t ws)
  spare_le fine =
      ⊎_elim
      (λ (pos : 0 < sum ws). omega (arith, spare_le_uneven pos, how_many_le (λ k. ltb 0 (slice_index (rests t ws) k)) (length (rests t ws))))
      (λ (h : sum ws ≤ 0). omega (arith, (admitted t ws (length ws) fine).some (omega arith)))
      (cases_lt 0 (sum ws))

  remainders_whole : Shareable t ws → sum (remainders t ws) ≡ t
  remainders_whole fine =
      let same = ap (how_many unit) (floors_each ∙ sym rests_each) in
      let units = chosen (rests t ws) (length (rests t ws)) (spare t ws) (spare_le fine) in
      omega (arith, floors_le, sum_parts (floors t ws) unit (length (floors t ws)) (omega arith), prefix_all (floors t ws))

pub remainders_exact : (t : ℕ) (ws : List ℕ) → Shareable t ws → Exact t ws (remainders t ws)
remainders_exact t ws fine = record { each = remainders_each t ws; whole = remainders_whole t ws fine; near = remainders_near t ws; zeros = remainders_zeros t ws fine }
