-- The elements of an array that a closure makes, where its calls change nothing of what it holds.
use Rattle.std.proofs.Common.{◌≡◌, ℕ, zero, suc, ◌+◌, ◌<◌, ◌≤◌, List, get_or, subst, ◌∙◌, ⊎_elim, arith}
use Rattle.std.proofs.lemmas.Bool.{cases_eq}
use Rattle.std.specs.Array.{IsFromFnResultFrom}
use Rattle.std.specs.Fn.{Called}
use denote.Param.Members.{Mut}

module _ {F B : Type 0} (g : Mut F (ℕ × Unit {0}) B) (f : F) (ys : List B) (at : ℕ → B) (m : ℕ) (same : (i : ℕ) (y : B) (q : F) → i < m → Called g f (i, tt) y q → (q ≡ f) × (y ≡ at i)) where
  made_from : (i n : ℕ) → i + n ≤ m → IsFromFnResultFrom g f ys i n → (k : ℕ) (d : B) → i ≤ k → k < i + n → get_or ys k d ≡ at k
  made_from i zero few made k d low high = absurd (omega arith)
  made_from i (suc n) few made k d low high =
      let s = same i made.1 made.0 (omega arith) made.3 in
      ⊎_elim
      (λ (e : i ≡ k). subst (λ j. get_or ys j d ≡ at j) e (made.2.1 d ∙ s.1))
      (λ (ne : i ≡ k → ⊥). made_from (i + 1) n (omega arith) (subst (λ p. IsFromFnResultFrom g p ys (i + 1) n) s.0 made.4) k d (omega arith) (omega arith))
      (cases_eq i k)

  pub made_at : IsFromFnResultFrom g f ys 0 m → (k : ℕ) (d : B) → k < m → get_or ys k d ≡ at k
  made_at made k d l = made_from 0 m (omega arith) made k d (omega arith) (omega arith)
