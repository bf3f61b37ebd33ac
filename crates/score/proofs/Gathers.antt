-- One turn of gathering points, and its end.
use Rattle.std.proofs.Common.{◌≡◌, ℕ, ◌+◌, ◌<◌, ◌≤◌, List, [], ◌∷◌, ◌++◌, length, get_or, take, drop, ℤ, pos, Some, None, sym, ap, ◌∙◌}
use Rattle.std.proofs.lemmas.List.{take_more, at_drop_more, at_drop_all}
use Rattle.score.specs.declared.refusal.WindowRefusal.{WindowRefusal}
use Rattle.std.specs.Option.{option_or}
use Rattle.score.specs.Windows.{point_refusal, first_refusal}

module _ (ps : List ℤ) (i : ℕ) (p : ℤ) (taken : i < length ps) (here : p ≡ get_or ps i (pos 0)) where
  pub one_more : take i ps ++ p ∷ [] ≡ take (i + 1) ps
  one_more = rw here (sym (take_more ps i (pos 0) taken))

  step : first_refusal (take i ps) (drop i ps) ≡ option_or (point_refusal (take i ps) p) (first_refusal (take (i + 1) ps) (drop (i + 1) ps))
  step =
      let s : first_refusal (take i ps) (drop i ps) ≡ option_or (point_refusal (take i ps) (get_or ps i (pos 0))) (first_refusal (take i ps ++ get_or ps i (pos 0) ∷ []) (drop (i + 1) ps)) = at_drop_more (first_refusal (take i ps)) ps i (pos 0) taken in
      let t : first_refusal (take i ps) (drop i ps) ≡ option_or (point_refusal (take i ps) p) (first_refusal (take i ps ++ p ∷ []) (drop (i + 1) ps)) = rw here s in
      rw one_more at t

  module _ (so_far : first_refusal [] ps ≡ first_refusal (take i ps) (drop i ps)) where
    pub accepted : None ≡ point_refusal (take i ps) p → first_refusal [] ps ≡ first_refusal (take (i + 1) ps) (drop (i + 1) ps)
    accepted e = so_far ∙ step ∙ ap (λ o. option_or o (first_refusal (take (i + 1) ps) (drop (i + 1) ps))) (sym e)

    pub refused : (e : WindowRefusal) → Some e ≡ point_refusal (take i ps) p → Some e ≡ first_refusal [] ps
    refused e q = sym (so_far ∙ step ∙ ap (λ o. option_or o (first_refusal (take (i + 1) ps) (drop (i + 1) ps))) (sym q))

pub ended : (ps : List ℤ) (i : ℕ) → length ps ≤ i → first_refusal [] ps ≡ first_refusal (take i ps) (drop i ps) → None ≡ first_refusal [] ps
ended ps i left so_far = sym (so_far ∙ at_drop_all (first_refusal (take i ps)) ps i left)
