-- As many places as there are units have a rank below that number.
use Rattle.std.specs.Prelude.{◌≡◌, ℕ, zero, suc, ◌+◌, ◌-◌, ◌<◌, ◌≤◌, Bool, true, false, cond, ltb, List, nat_lt, slice_index, refl, length}
use Rattle.std.specs.List.{count_by, enumerate_from}
use Rattle.std.proofs.Common.{sym, ap, ◌∙◌, ⊎_elim, add-one, zero-add, take, arith}
use Rattle.std.proofs.lemmas.List.{take_all}
use Rattle.std.proofs.lemmas.List.FromFn.{length-enumerate_from, get_or-enumerate_from}
use Rattle.std.proofs.lemmas.List.Sums.{sum_by_more}
use Rattle.std.proofs.lemmas.Bool.{cases_lt, cases_eq, cond-true, cond-false}
use Rattle.std.proofs.lemmas.Bool.Decides.{nat_tests}
use Rattle.divide.specs.Remainders.{how_many, before}

-- 1 where a test passes
abbrev pub one : Bool → ℕ
one b = cond b 1 0

-- one place more, as a loop counts
pub how_many_more : (p : ℕ → Bool) (n : ℕ) → how_many p (n + 1) ≡ how_many p n + one (p n)
how_many_more p n = ap (how_many p) (add-one n)

pub how_many_le : (p : ℕ → Bool) (n : ℕ) → how_many p n ≤ n
how_many_le p zero = omega arith
how_many_le p (suc n) = let ih = how_many_le p n in grind (arith, nat_tests)

one_le : (b c : Bool) → (b ≡ true → c ≡ true) → one b ≤ one c
one_le true c h = grind (arith, h refl)
one_le false c h = omega arith

pub how_many_up : (p q : ℕ → Bool) (n : ℕ) → ((k : ℕ) → k < n → p k ≡ true → q k ≡ true) → how_many p n ≤ how_many q n
how_many_up p q zero h = omega arith
how_many_up p q (suc n) h = omega (arith, how_many_up p q n (λ k l. h k (omega arith)), one_le (p n) (q n) (h n (omega arith)))

how_many_same : (p q : ℕ → Bool) (n : ℕ) → ((k : ℕ) → k < n → p k ≡ q k) → how_many p n ≡ how_many q n
how_many_same p q zero h = refl
how_many_same p q (suc n) h = omega (arith, how_many_same p q n (λ k l. h k (omega arith)), ap one (h n (omega arith)))

-- q passes where p does, and at i, where p does not
how_many_less : (p q : ℕ → Bool) (n i : ℕ) → i < n → p i ≡ false → q i ≡ true → ((k : ℕ) → k < n → p k ≡ true → q k ≡ true) → how_many p n < how_many q n
how_many_less p q zero i l pi qi h = absurd (omega arith)
how_many_less p q (suc n) i l pi qi h =
    ⊎_elim
    (λ (e : i ≡ n).
    let a : one (p n) ≡ 0 = cond-false (p n) 1 0 (ap p (sym e) ∙ pi) in
    let b : one (q n) ≡ 1 = cond-true (q n) 1 0 (ap q (sym e) ∙ qi) in
    omega (arith, how_many_up p q n (λ k l. h k (omega arith))))
    (λ (ne : i ≡ n → ⊥). omega (arith, how_many_less p q n i (omega arith) pi qi (λ k l. h k (omega arith)), one_le (p n) (q n) (h n (omega arith))))
    (cases_eq i n)

-- the same counted over the elements with their places, as a chain does
pub how_many_counts : (p : ℕ → ℕ → Bool) (xs : List ℕ) → count_by (λ (e : ℕ × ℕ). p e.1 e.0) (enumerate_from 0 xs) ≡ how_many (λ j. p (slice_index xs j) j) (length xs)
how_many_counts p xs = sym (ap (count_by (λ (e : ℕ × ℕ). p e.1 e.0)) (take_all (length xs) (enumerate_from 0 xs) (omega (arith, length-enumerate_from 0 xs)))) ∙ among_first (length xs) (omega arith)
  where
    among_first : (n : ℕ) → n ≤ length xs → count_by (λ (e : ℕ × ℕ). p e.1 e.0) (take n (enumerate_from 0 xs)) ≡ how_many (λ j. p (slice_index xs j) j) n
    among_first zero h = refl
    among_first (suc n) h =
        let more = rw add-one at (sum_by_more (λ (e : ℕ × ℕ). one (p e.1 e.0)) (enumerate_from 0 xs) n (0, 0) (omega (arith, length-enumerate_from 0 xs))) in
        let at = get_or-enumerate_from 0 xs n (0, 0) h in
        let here = ap (λ (e : ℕ × ℕ). one (p e.1 e.0)) at in
        let place = ap (λ j. one (p (slice_index xs n) j)) (zero-add n) in
        omega (arith, among_first n (omega arith))

module _ (rs : List ℕ) where
  -- the remainder at place k, and the rank of place k among the first n
  abbrev r : ℕ → ℕ
  r k = slice_index rs k

  abbrev among : ℕ → ℕ → ℕ
  among n k = how_many (λ j. before rs j k) n

  -- where the new place n does not come before k, k comes before n
  rank_low : (n k : ℕ) → k < n → r n ≤ r k → among n k < among n n
  rank_low n k l h =
      how_many_less (λ j. before rs j k) (λ j. before rs j n) n k l (grind (arith, nat_tests)) (grind (arith, nat_tests)) (λ j lj e. grind (arith, nat_tests))

  rank_high : (n k : ℕ) → k < n → r k < r n → among n n ≤ among n k
  rank_high n k l h = how_many_up (λ j. before rs j n) (λ j. before rs j k) n (λ j lj e. grind (arith, nat_tests))

  self_not : (n : ℕ) → before rs n n ≡ false
  self_not n = grind (arith, nat_tests)

  next_low : (n k : ℕ) → k < n → r n ≤ r k → before rs n k ≡ false
  next_low n k l h = grind (arith, nat_tests)

  next_high : (n k : ℕ) → k < n → r k < r n → before rs n k ≡ true
  next_high n k l h = grind (arith, nat_tests)

  -- at most as many units as the new place has before it: nothing changes
  few : (n m k : ℕ) → m ≤ among n n → k < n → nat_lt (among (suc n) k) m ≡ nat_lt (among n k) m
  few n m k h l = let high = rank_high n k l in grind (arith, nat_tests)

  -- the new place has one of the units, and the others are as before
  more : (n m k : ℕ) → among n n < m → k < n → nat_lt (among (suc n) k) m ≡ nat_lt (among n k) (m - 1)
  more n m k h l = let low = rank_low n k l in grind (arith, nat_tests)

  pub chosen : (n m : ℕ) → m ≤ n → how_many (λ k. ltb (among n k) m) n ≡ m
  chosen zero m h = omega arith
  chosen (suc n) m h =
      let within = how_many_le (λ j. before rs j n) n in
      ⊎_elim
      (λ (low : among n n < m).
      let same = how_many_same (λ k. ltb (among (suc n) k) m) (λ k. ltb (among n k) (m - 1)) n (λ k l. more n m k low l) in
      let ih = chosen n (m - 1) (omega arith) in
      grind (arith, nat_tests))
      (λ (high : m ≤ among n n).
      let same = how_many_same (λ k. ltb (among (suc n) k) m) (λ k. ltb (among n k) m) n (λ k l. few n m k high l) in
      let ih = chosen n m (omega arith) in
      grind (arith, nat_tests))
      (cases_lt (among n n) m)
