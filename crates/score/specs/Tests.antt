-- Lists whose elements all pass a test.
use Rattle.std.specs.Prelude.{◌≡◌, ℕ, zero, suc, ◌+◌, ◌<◌, ◌≤◌, Bool, true, false, ◌&&◌, List, [], ◌∷◌, length, drop, slice_index_or, slice_set, refl}
use Rattle.std.proofs.Common.{sym, ◌∙◌, arith}
use Rattle.std.specs.List.{AllZip, list_all}
use Rattle.std.proofs.lemmas.List.{at_drop_more, at_drop_all}
use Rattle.std.proofs.lemmas.Bool.{and_parts, and_from, and_left, and_right}

module _ {X : Type 0} (test : X → Bool) where
  -- at every place, and past the end where the value there passes
  pub every_at : (xs : List X) (k : ℕ) (d : X) → test d ≡ true → list_all test xs ≡ true → test (slice_index_or xs k d) ≡ true
  every_at [] k d p e = p
  every_at (x ∷ xs) zero d p e = (and_parts (test x) (list_all test xs) e).0
  every_at (x ∷ xs) (suc k) d p e = every_at xs k d p (and_parts (test x) (list_all test xs) e).1

  pub every_from : (xs : List X) (d : X) → ((k : ℕ) → k < length xs → test (slice_index_or xs k d) ≡ true) → list_all test xs ≡ true
  every_from [] d h = refl
  every_from (x ∷ xs) d h =
      and_from (test x) (list_all test xs) (h 0 (omega arith)) (every_from xs d (λ k l. h (suc k) (omega arith)))

  pub every_set : (xs : List X) (k : ℕ) (x : X) → test x ≡ true → list_all test xs ≡ true → list_all test (slice_set xs k x) ≡ true
  every_set [] k x p e = e
  every_set (y ∷ xs) zero x p e = and_from (test x) (list_all test xs) p (and_parts (test y) (list_all test xs) e).1
  every_set (y ∷ xs) (suc k) x p e =
      let q = and_parts (test y) (list_all test xs) e in
      and_from (test y) (list_all test (slice_set xs k x)) q.0 (every_set xs k x p q.1)

  -- one element that fails the test
  pub every_not : (xs : List X) (k : ℕ) (d : X) → k < length xs → test (slice_index_or xs k d) ≡ false → list_all test xs ≡ false
  every_not [] k d h e = absurd (omega arith)
  every_not (x ∷ xs) zero d h e = and_left (test x) (list_all test xs) e
  every_not (x ∷ xs) (suc k) d h e = and_right (test x) (list_all test xs) (every_not xs k d (omega arith) e)

  -- a loop over the elements: one more has passed
  pub every_more : (xs : List X) (k : ℕ) (d : X) → k < length xs → test (slice_index_or xs k d) ≡ true → list_all test xs ≡ list_all test (drop k xs) → list_all test xs ≡ list_all test (drop (k + 1) xs)
  every_more xs k d h e so_far =
      let step : list_all test (drop k xs) ≡ (test (slice_index_or xs k d) && list_all test (drop (k + 1) xs)) = at_drop_more (list_all test) xs k d h in
      so_far ∙ (rw e at step)

  -- all have passed
  pub every_all : (xs : List X) (k : ℕ) → length xs ≤ k → list_all test xs ≡ list_all test (drop k xs) → true ≡ list_all test xs
  every_all xs k h so_far = sym (so_far ∙ at_drop_all (list_all test) xs k h)

  -- what passes passes in a list that is smaller at each place
  pub every_each : (R : X → X → Type 0) → ((x y : X) → R x y → test y ≡ true → test x ≡ true) → (xs ys : List X) → AllZip R xs ys → list_all test ys ≡ true → list_all test xs ≡ true
  every_each R ease [] [] h e = refl
  every_each R ease [] (y ∷ ys) h e = absurd h
  every_each R ease (x ∷ xs) [] h e = absurd h
  every_each R ease (x ∷ xs) (y ∷ ys) h e =
      let p = and_parts (test y) (list_all test ys) e in
      and_from (test x) (list_all test xs) (ease x y h.0 p.0) (every_each R ease xs ys h.1 p.1)
