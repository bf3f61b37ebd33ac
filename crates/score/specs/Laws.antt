-- What every scorer keeps.
use Rattle.std.specs.Prelude.{◌≡◌, ℕ, ◌+◌, ◌-◌, ◌*◌, ◌/◌, ◌<◌, ◌≤◌, min, true, false, cond, leb, List, [], ◌∷◌, length, sum, count_by, nat_le}
use Rattle.std.specs.List.{list_all}
use Rattle.std.proofs.Common.{ap, inl, inr, mul-le-mul_left, div-mul-le_self, div-add-mod', arith}
use Rattle.std.proofs.lemmas.Nat.{le-div}
use Rattle.std.proofs.lemmas.List.Elements.{length_all_zip}
use Rattle.std.proofs.lemmas.List.Sums.{sum_by-cons, count_by-le-length}
use Rattle.std.proofs.lemmas.Bool.{cases_eq}
use Rattle.std.proofs.lemmas.Bool.Decides.{nat_tests}
use Rattle.score.specs.Ranges.{error_fits}
use Rattle.score.specs.Choices.{plain_rating}
use Rattle.score.specs.declared.any.PlainScorer.{PlainScorer}
use Rattle.score.specs.declared.any.PlainScorer.TheVariants as plain
use Rattle.score.specs.Scores.{scorable, scored, NoLarger, rounded_up, precision, band, historic, blended}
use Rattle.score.specs.Tests.{every_each}

-- what is scorable
pub scorable_parts : (a : ℕ) (es : List ℕ) (h : ℕ) → scorable a es h ≡ true → (100 ≤ a) × (a ≤ 200000) × (length es ≡ 30) × (list_all error_fits es ≡ true) × (h ≤ 10000)
scorable_parts a es h e =
    (grind (arith, nat_tests), grind (arith, nat_tests), grind (arith, nat_tests), grind (arith, nat_tests), grind (arith, nat_tests))

pub error_sum : (es : List ℕ) → list_all error_fits es ≡ true → sum es ≤ 20000000000 * length es
error_sum [] s = omega arith
error_sum (e ∷ es) s =
    let more : sum (e ∷ es) ≡ e + sum es = sum_by-cons (λ x. x) e es in
    let rest : list_all error_fits es ≡ true = grind (arith, nat_tests) in
    let here : e ≤ 20000000000 = grind (arith, nat_tests) in
    let after : sum es ≤ 20000000000 * length es = error_sum es rest in
    omega arith

-- errors that are no larger are scorable too
errors_eased : (es fs : List ℕ) → NoLarger es fs → list_all error_fits fs ≡ true → list_all error_fits es ≡ true
errors_eased es fs p e = every_each error_fits (λ x y. x ≤ y) (λ x y l q. grind (arith, nat_tests)) es fs p e

scorable_eased : (a : ℕ) (es fs : List ℕ) (h : ℕ) → NoLarger es fs → scorable a fs h ≡ true → scorable a es h ≡ true
scorable_eased a es fs h p e =
    let ease : list_all error_fits fs ≡ true → list_all error_fits es ≡ true = errors_eased es fs p in
    let l : length es ≡ length fs = length_all_zip (λ x y. x ≤ y) es fs p in
    grind (arith, nat_tests)

pub scored_outside : (a : ℕ) (es : List ℕ) (h x : ℕ) → scorable a es h ≡ false → scored a es h x ≡ 0
scored_outside a es h x e = rw e

scored_bounded : (a : ℕ) (es : List ℕ) (h x : ℕ) → (scorable a es h ≡ true → x ≤ 10000) → scored a es h x ≤ 10000
scored_bounded a es h x b = grind arith

scored_monotone : (a : ℕ) (es fs : List ℕ) (h x y : ℕ) → NoLarger es fs → (scorable a fs h ≡ true → y ≤ x) → scored a fs h y ≤ scored a es h x
scored_monotone a es fs h x y p b =
    let ease : scorable a fs h ≡ true → scorable a es h ≡ true = scorable_eased a es fs h p in
    grind arith

-- sums and counts of errors that are no larger
sum_no_larger : (es fs : List ℕ) → NoLarger es fs → sum es ≤ sum fs
sum_no_larger [] [] p = omega arith
sum_no_larger [] (f ∷ fs) p = absurd p
sum_no_larger (e ∷ es) [] p = absurd p
sum_no_larger (e ∷ es) (f ∷ fs) p =
    let rest : sum es ≤ sum fs = sum_no_larger es fs p.1 in
    let a : sum (e ∷ es) ≡ e + sum es = sum_by-cons (λ x. x) e es in
    let b : sum (f ∷ fs) ≡ f + sum fs = sum_by-cons (λ x. x) f fs in
    omega (arith, p.0)

module _ (most : ℕ) where
  abbrev within : List ℕ → ℕ
  within es = count_by (λ e. leb e most) es

  within-cons : (e : ℕ) (es : List ℕ) → within (e ∷ es) ≡ cond (nat_le e most) 1 0 + within es
  within-cons e es = sum_by-cons (λ x. cond (nat_le x most) 1 0) e es

  within_no_larger : (es fs : List ℕ) → NoLarger es fs → within fs ≤ within es
  within_no_larger [] [] p = omega arith
  within_no_larger [] (f ∷ fs) p = absurd p
  within_no_larger (e ∷ es) [] p = absurd p
  within_no_larger (e ∷ es) (f ∷ fs) p =
      let here : e ≤ f = p.0 in
      let rest : within fs ≤ within es = within_no_larger es fs p.1 in
      let one : cond (nat_le f most) 1 0 ≤ cond (nat_le e most) 1 0 = grind (arith, nat_tests) in
      rw (within-cons e es, within-cons f fs) (omega arith)

div_mono : (n m k : ℕ) → 0 < k → n ≤ m → n / k ≤ m / k
div_mono n m k h l = le-div (n / k) m k h (omega (arith, div-mul-le_self n k))

rounded_up_mono : (n m k : ℕ) → 0 < k → n ≤ m → rounded_up n k ≤ rounded_up m k
rounded_up_mono n m k h l =
    let q : n / k ≤ m / k = div_mono n m k h l in
    elim (cases_eq (n / k) (m / k)) [
      | inl e ↦
          let f : n / k * k ≡ m / k * k = ap (λ x. x * k) e in
          omega (arith, div-add-mod' n k, div-add-mod' m k)
      | inr d ↦ omega arith
    ]

-- each rule is bounded
module _ (a : ℕ) (es : List ℕ) (h : ℕ) where
  pub precision_bounded : precision a es h ≤ 10000
  precision_bounded = scored_bounded a es h _ (λ _. omega arith)

  pub band_bounded : band a es h ≤ 10000
  band_bounded =
      scored_bounded a es h _ (λ e. let p = scorable_parts a es h e in let l = count_by-le-length (λ e. leb e (1000 * a)) es in omega arith)

  pub historic_bounded : historic a es h ≤ 10000
  historic_bounded = scored_bounded a es h h (λ e. (scorable_parts a es h e).4)

-- each rule is monotone
module _ (a : ℕ) (es fs : List ℕ) (h : ℕ) (p : NoLarger es fs) where
  pub precision_monotone : precision a fs h ≤ precision a es h
  precision_monotone =
      scored_monotone a es fs h _ _ p (λ e. let q = scorable_parts a fs h e in let r = rounded_up_mono (sum es) (sum fs) (30 * a) (omega (arith, q.0)) (sum_no_larger es fs p) in omega arith)

  pub band_monotone : band a fs h ≤ band a es h
  band_monotone =
      scored_monotone a es fs h _ _ p (λ _. let k = within_no_larger (1000 * a) es fs p in omega arith)

  pub historic_monotone : historic a fs h ≤ historic a es h
  historic_monotone = scored_monotone a es fs h h h p (λ _. omega arith)

-- so is whichever of them is chosen
pub plain_bounded : (s : PlainScorer) (a : ℕ) (es : List ℕ) (h : ℕ) → plain_rating s a es h ≤ 10000
plain_bounded plain.Precision a es h = precision_bounded a es h
plain_bounded plain.Band a es h = band_bounded a es h
plain_bounded plain.Historic a es h = historic_bounded a es h

pub plain_outside : (s : PlainScorer) (a : ℕ) (es : List ℕ) (h : ℕ) → scorable a es h ≡ false → plain_rating s a es h ≡ 0
plain_outside plain.Precision a es h e = scored_outside a es h _ e
plain_outside plain.Band a es h e = scored_outside a es h _ e
plain_outside plain.Historic a es h e = scored_outside a es h _ e

pub plain_monotone : (s : PlainScorer) (a : ℕ) (es fs : List ℕ) (h : ℕ) → NoLarger es fs → plain_rating s a fs h ≤ plain_rating s a es h
plain_monotone plain.Precision a es fs h p = precision_monotone a es fs h p
plain_monotone plain.Band a es fs h p = band_monotone a es fs h p
plain_monotone plain.Historic a es fs h p = historic_monotone a es fs h p

-- a blend keeps what both its parts keep
pub blended_bounded : (w x y : ℕ) → x ≤ 10000 → y ≤ 10000 → blended w x y ≤ 10000
blended_bounded w x y h k =
    let p = min w 10000 in
    omega (arith, mul-le-mul_left p h, mul-le-mul_left (10000 - p) k)

pub blended_monotone : (w x y u v : ℕ) → x ≤ u → y ≤ v → blended w x y ≤ blended w u v
blended_monotone w x y u v h k =
    let p = min w 10000 in
    omega (arith, mul-le-mul_left p h, mul-le-mul_left (10000 - p) k)

pub blended_outside : (w x y : ℕ) → x ≡ 0 → y ≡ 0 → blended w x y ≡ 0
blended_outside w x y h k = rw (h, k) (omega arith)
