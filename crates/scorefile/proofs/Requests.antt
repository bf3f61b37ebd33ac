-- What lines of their form say.
use Rattle.std.proofs.Common.{◌≡◌, ℕ, suc, ◌<◌, false, List, [], ◌∷◌, map, length, get_or, drop, Some, None, Option, sym, refl, ap, ◌∙◌, subst, inl, inr, arith}
use Rattle.std.specs.Iterator.{AlwaysYields}
use Rattle.std.specs.Iterator.Adapters.{map_source, map_callee}
use Rattle.std.specs.List.{AllByRecursion}
use Rattle.std.specs.declared.iter.Map.{Map}
use Rattle.std.proofs.lemmas.Iterator.{YieldsList, maps}
use denote.Param.Members.{Mut, Called}
use Rattle.std.proofs.ByRecursion.{All-from_get_or}
use Rattle.std.proofs.lemmas.List.{get_or_past}
use Rattle.std.proofs.lemmas.Bool.{cases_lt, ne_eqb}
use Rattle.lines.specs.Reads.{Worded}
use Rattle.score.specs.declared.any.PlainScorer.{PlainScorer}
use Rattle.score.specs.declared.any.PlainScorer.TheVariants as plain
use Rattle.score.specs.declared.blend.Blend.{Blend}
use Rattle.score.specs.Names.{Named}
use Rattle.scorefile.specs.Form.{SignedNumber, Fits, may_end, one, many, expected_at}
use Rattle.scorefile.specs.Faults.{WellWorded, line_at, WellFormed}
use Rattle.scorefile.specs.Request.{Blends, Asked}
use Rattle.scorefile.specs.declared.form.Heading.{Heading}
use Rattle.scorefile.specs.declared.form.Expected.{Expected}
use Rattle.scorefile.specs.declared.form.Expected.TheVariants.{More}

-- a chain that maps words, each of which writes a number
module _ {S A B C R F : Type 0} (steps : S → Option A → S → Type 0) (v : A → B) (p : B → C) (P : C → Type 0) (h : C → R) (g : Mut F (A × Unit {0}) R) (f : F) (reads : (x : A) (r : R) (q : F) → P (p (v x)) → Called g f (x, tt) r q → (q ≡ f) × (r ≡ h (p (v x)))) where
  yields : (s : Map S F) (ys : List B) → AllByRecursion P (map p ys) → AlwaysYields steps v (map_source s) ys → map_callee s ≡ f → AlwaysYields (maps steps g) (λ r. r) s (map h (map p ys))
  yields s [] all y is = λ r t m. y m.0 (map_source t) m.1
  yields s (word ∷ ys) all y is = (
    λ t m. y.0 (map_source t) m.0,
    λ r t m.
        let k = y.1 m.0 (map_source t) m.1 in
        let here : P (p (v m.0)) = subst (λ w. P (p w)) (sym k.0) all.0 in
        let read = reads m.0 r (map_callee t) here (subst (λ q. Called g q (m.0, tt) r (map_callee t)) is m.2) in
        (read.1 ∙ ap (λ w. h (p w)) k.0, yields t ys all.1 k.1 read.0),
  )

  pub reads_each : {s : Map S F} (ys : List B) (zs : List C) → zs ≡ map p ys → AllByRecursion P zs → map_callee s ≡ f → YieldsList steps v (map_source s) ys → YieldsList (maps steps g) (λ r. r) s (map h zs)
  reads_each {s} ys zs e all is road = subst (λ l. YieldsList (maps steps g) (λ r. r) s (map h l)) (sym e) (record { runs = yields s ys (subst (AllByRecursion P) e all) road.runs is })

pub numbers_of : (l : ℕ) (words : List (List ℕ)) → ((k : ℕ) → expected_at l (suc k) ≡ More) → WellWorded l words → AllByRecursion SignedNumber (drop 1 words)
numbers_of l [] more well = tt
numbers_of l (heading ∷ words) more well =
    All-from_get_or SignedNumber words [] (λ k h. subst (λ e. Fits e (get_or words k [])) (more k) (well.0 (suc k) (omega arith)))

pub one_of : (l : ℕ) (words : List (List ℕ)) (h : Heading) (e : Expected) → may_end e ≡ false → ((k : ℕ) → expected_at l k ≡ one h e k) → WellWorded l words → Fits e (get_or words 1 [])
one_of l [] h e ends form well = cc (ap may_end (form 0))
one_of l (heading ∷ []) h e ends form well = cc (ap may_end (form 1))
one_of l (heading ∷ word ∷ words) h e ends form well = subst (λ x. Fits x word) (form 1) (well.0 1 (omega arith))

nothing_named : (s : PlainScorer) → Named [] s → ⊥
nothing_named plain.Precision e = cc
nothing_named plain.Band e = cc
nothing_named plain.Historic e = cc

blend_of_none : (o : Option (Blend PlainScorer PlainScorer)) → Asked [] o → Blends [] o
blend_of_none None a = refl
blend_of_none (Some b) a = absurd (nothing_named b.first a.1)

pub asked_line : (words : List (List ℕ)) (o : Option (Blend PlainScorer PlainScorer)) → WellWorded 5 words → Asked words o → Blends words o
asked_line (heading ∷ weight ∷ first ∷ second ∷ words) (Some b) well a = (a.0 (well.0 1 (omega arith)), a.1, a.2)
asked_line (heading ∷ weight ∷ first ∷ second ∷ words) None well (inl none) = let n = well.0 2 (omega arith) in absurd (none n.0 n.1)
asked_line (heading ∷ weight ∷ first ∷ second ∷ words) None well (inr none) = let n = well.0 3 (omega arith) in absurd (none n.0 n.1)
asked_line [] o well a = cc
asked_line (heading ∷ []) o well a = cc
asked_line (heading ∷ weight ∷ []) o well a = cc
asked_line (heading ∷ weight ∷ first ∷ []) o well a = cc

module _ (lines : List Worded) (formed : WellFormed lines) where
  -- the words after the heading of a line of numbers write numbers
  pub numbers_at : (l : ℕ) (h : Heading) → l < 5 → ((k : ℕ) → expected_at l k ≡ many h k) → AllByRecursion SignedNumber (drop 1 (line_at lines l).words)
  numbers_at l h needed form =
      numbers_of l (line_at lines l).words (λ k. form (suc k) ∙ rw (ne_eqb (suc k) 0 (λ e. omega arith))) (formed.0 l (omega (arith, formed.1)))

  -- the word after the heading of a line of one word is what is expected
  pub one_at : (l : ℕ) (h : Heading) (e : Expected) → l < 5 → may_end e ≡ false → ((k : ℕ) → expected_at l k ≡ one h e k) → Fits e (get_or (line_at lines l).words 1 [])
  one_at l h e needed ends form = one_of l (line_at lines l).words h e ends form (formed.0 l (omega (arith, formed.1)))

  -- what the words of the line after those ask for is its blend
  pub blend_at : (o : Option (Blend PlainScorer PlainScorer)) → Asked (line_at lines 5).words o → Blends (line_at lines 5).words o
  blend_at o a =
      elim (cases_lt 5 (length lines)) [
        | inl h ↦ asked_line (line_at lines 5).words o (formed.0 5 h) a
        | inr h ↦ let past : (line_at lines 5).words ≡ [] = ap (λ w. w.words) (get_or_past lines 5 _ h) in subst (λ ws. Blends ws o) (sym past) (blend_of_none o (subst (λ ws. Asked ws o) past a))
      ]
