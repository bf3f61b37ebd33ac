-- What definitions said formerly, and that they say the same: of every line, and of every text that is UTF-8.
use Rattle.std.proofs.Common.{◌≡◌, ℕ, ◌+◌, ◌-◌, zero, suc, ◌<◌, ◌≤◌, Some, true, cond, eqb, ◌⊎◌, List, [], ◌∷◌, ◌++◌, length, get_or, take, Bor, sym, refl, ap, ◌∙◌, subst, inl, inr, arith, rules, length-append}
use lib.Utf8.{encode, encodes}
use Rattle.std.proofs.Math.Seq.{take-append_seam, drop-append_seam, take-length}
use Rattle.std.proofs.lemmas.Bool.{cases_lt, cases_Bool, cases_eq, eq-eqb, ne_eqb}
use Rattle.std.proofs.lemmas.Bool.Decides.{nat_tests}
use Rattle.std.proofs.lemmas.Grind.{common_steps}
use Rattle.std.proofs.lemmas.Iterator.Splits.{YieldsList-from_lines}
use Rattle.std.proofs.lemmas.List.{length-take-le, length-drop}
use Rattle.std.proofs.lemmas.Str.{encodes-append, encode_ascii, length-encode, len_utf8_bounds}
use Rattle.std.proofs.Math.Numerals.{one-add}
use Rattle.std.specs.Char.{is_newline}
use Rattle.std.specs.Iterator.{AlwaysYields}
use Rattle.std.specs.Prelude.{◌==◌}
use Rattle.std.specs.Str.{NonePass, IsUtf8}
use Rattle.std.specs.Str.Iter.{lines_steps}
use Rattle.std.specs.Str.Lines.{lines, strip_carriage_return, IsFirstLine, StripsCarriageReturn}
use Rattle.std.specs.declared.str.Lines.{Lines}
use Rattle.lines.specs.Reads.{Worded, kept, Numbered, Reads}
use Rattle.lines.specs.Words.{Words, before_hash}

-- the lines of the text, without their line ends, as they were formerly defined
abbrev pub FormerLines : List ℕ → List (List ℕ) → Type 0
FormerLines text [] = text ≡ []
FormerLines text (line ∷ lines) = (rest : List ℕ) × (0 < length text) × IsFirstLine text line rest × FormerLines rest lines

-- what stands before the first `#`, as it was formerly defined
abbrev pub former_before_hash : List ℕ → List ℕ
former_before_hash [] = []
former_before_hash (c ∷ cs) = cond (c == 35) [] (c ∷ former_before_hash cs)

-- the lines, the first of which has this number, give ws, by what formerly stood before the `#`
abbrev pub FormerNumbered : ℕ → List (List ℕ) → List Worded → Type 0
FormerNumbered number [] ws = ws ≡ []
FormerNumbered number (line ∷ lines) ws = (words : List (List ℕ)) × (more : List Worded) × Words (former_before_hash line) words × FormerNumbered (number + 1) lines more × (ws ≡ kept number words ++ more)

-- the lines of the text, counted from 1, give ws, as it was formerly defined
abbrev pub FormerReads : List ℕ → List Worded → Type 0
FormerReads text ws = (lines : List (List ℕ)) × FormerLines text lines × Numbered 1 lines ws

-- a text as the library's iterator lends it
abbrev lent : List ℕ → Bor (List ℕ)
lent t = record { ref_ptr = (0, 0); now = t }

-- the library's iterator that has this text before it
abbrev at : List ℕ → Lines
at t = record { rest = lent t }

-- a line without its carriage return is not longer
stripped_length : (l x : List ℕ) → StripsCarriageReturn l x → length x ≤ length l
stripped_length l x (inl h) = omega (arith, ap length h.0)
stripped_length l x (inr e) = omega (arith, ap length e, length-append x (13 ∷ []))

-- the first line and the rest are together no longer than the text
fits : (w x rest : List ℕ) → IsFirstLine w x rest → length x + length rest ≤ length w
fits w x rest h =
    let n : ℕ = h.0 in
    elim (cases_lt n (length w)) [
      | inl l ↦ omega (arith, h.3, stripped_length (take n w) x (h.5 l), length-take-le n w (omega arith))
      | inr l ↦ let e : n ≡ length w = omega (arith, h.3) in omega (arith, h.3, ap length (h.4 e))
    ]

-- the iterator gives the first line
step : (w x rest : List ℕ) → 0 < length w → IsFirstLine w x rest → lines_steps (at w) (Some (lent x)) (at rest)
step w x rest some h = ((some, fits w x rest h, h), λ _. refl)

-- the former lines are all that the iterator gives
gives : (ls ys : List (List ℕ)) (text : List ℕ) → FormerLines text ls → AlwaysYields lines_steps (λ x. x.now) (at text) ys → ls ≡ ys
gives [] [] text h y = refl
gives [] (a ∷ ys) text h y = absurd (y.0 (at text) ((ap length h, refl), λ l. absurd (omega (arith, ap length h, l))))
gives (l ∷ ls) [] text h y = absurd (y (lent l) (at h.0) (step text l h.0 h.1 h.2))
gives (l ∷ ls) (a ∷ ys) text h y =
    let k = y.1 (lent l) (at h.0) (step text l h.0 h.1 h.2) in
    let more = gives ls ys h.0 h.3 k.1 in
    (λ i. k.0 i ∷ more i)

-- of every text: the former lines are today's
pub former_lines_same : (text : List ℕ) (ls : List (List ℕ)) → FormerLines text ls → ls ≡ lines text
former_lines_same text ls h = gives ls (lines text) text h (YieldsList-from_lines {s = at text} text refl).runs

-- the characters have no newline, or are cut at the first
abbrev Split : List ℕ → Type 0
Split cs = NonePass is_newline cs ⊎ ((a : List ℕ) × (b : List ℕ) × (cs ≡ a ++ (10 ∷ b)) × NonePass is_newline a)

-- a newline's code is 10
newline : (c : ℕ) → is_newline c ≡ true → c ≡ 10
newline c e = search (rules, nat_tests)

-- every list of characters is one of the two
split : (cs : List ℕ) → Split cs
split [] = inl tt
split (c ∷ cs) =
    elim (cases_Bool (is_newline c)) [
      | inl t ↦ inr ([], cs, ap (λ d. d ∷ cs) (newline c t), tt)
      | inr f ↦ elim (split cs) [ inl n ↦ inl (f, n) | inr s ↦ inr (c ∷ s.0, s.1, ap (λ l. c ∷ l) s.2, (f, s.3)) ]
    ]

-- the library's function takes a line's carriage return off
strips : (l : List ℕ) → StripsCarriageReturn l (strip_carriage_return l)
strips [] = inl (refl, λ h. absurd (omega arith))
strips (b ∷ l) =
    elim (cases_eq (get_or (b ∷ l) (length (b ∷ l) - 1) 0) 13) [
      | inl e ↦ let cut : (b ∷ l) ≡ take (length (b ∷ l) - 1) (b ∷ l) ++ (13 ∷ []) = grind (arith, common_steps) in inr (rw (eq-eqb _ _ e) cut)
      | inr n ↦ inl (rw (ne_eqb _ _ n), λ _. n)
    ]

-- a text without a newline is one line
whole_line : (cs : List ℕ) → 0 < length (encodes cs) → NonePass is_newline cs → IsFirstLine (encodes cs) (encodes cs) []
whole_line cs some none =
    let w = encodes cs in
    (length w, (cs, sym (take-length w), none), (λ h. absurd (omega (arith, length-drop (length w) w))), omega arith, (λ _. refl), λ h. absurd (omega arith))

-- a text with a newline begins with the line before it
cut_line : (a b : List ℕ) → NonePass is_newline a → IsFirstLine (encodes (a ++ (10 ∷ b))) (strip_carriage_return (encodes a)) (encodes b)
cut_line a b none =
    let line = encodes a in
    let rest = encodes b in
    let cut = strip_carriage_return line in
    let ascii : encode 10 ≡ 10 ∷ [] = encode_ascii 10 (omega arith) in
    let e : encodes (a ++ (10 ∷ b)) ≡ line ++ (10 ∷ rest) = encodes-append a (10 ∷ b) ∙ ap (λ l. line ++ (l ++ rest)) ascii in
    let front = sym (take-append_seam line (10 ∷ rest)) in
    let back = drop-append_seam line (10 ∷ rest) ∙ ap (λ l. l ++ rest) (sym ascii) in
    subst (λ w. IsFirstLine w cut rest) (sym e)
    (length line, (a, front, none), (λ h. (10, refl, back, refl)), omega (arith, length-append line (10 ∷ rest)), (λ h. absurd (omega (arith, length-append line (10 ∷ rest)))), λ h. subst (λ l. StripsCarriageReturn l cut) front (strips line))

-- a text with a character is not empty
not_empty : (c : ℕ) (cs : List ℕ) → 0 < length (encodes (c ∷ cs))
not_empty c cs = omega (arith, length-append (encode c) (encodes cs), length-encode c, (len_utf8_bounds c).0)

-- fewer than n characters have former lines
exist : (n : ℕ) (cs : List ℕ) → length cs < n → (ls : List (List ℕ)) × FormerLines (encodes cs) ls
exist n [] h = ([], refl)
exist zero (c ∷ cs) h = elim h [ ]
exist (suc n) (c ∷ cs) h =
    elim (split (c ∷ cs)) [
      | inl none ↦ (encodes (c ∷ cs) ∷ [], ([], not_empty c cs, whole_line (c ∷ cs) (not_empty c cs) none, refl))
      | inr s ↦
          let more = exist n s.1 (omega (arith, ap length s.2, length-append s.0 (10 ∷ s.1))) in
          let line = strip_carriage_return (encodes s.0) in
          (line ∷ more.0, (encodes s.1, not_empty c cs, subst (λ t. IsFirstLine (encodes t) line (encodes s.1)) (sym s.2) (cut_line s.0 s.1 s.3), more.1))
    ]

-- of a text that is UTF-8: today's lines are former lines
pub lines_former : (text : List ℕ) → IsUtf8 text → FormerLines text (lines text)
lines_former text u =
    let k = exist (suc (length u.0)) u.0 (omega arith) in
    let o : FormerLines text k.0 = subst (λ t. FormerLines t k.0) u.1.1 k.1 in
    subst (FormerLines text) (former_lines_same text k.0 o) o

-- of every line: what stands before the first `#` is the same
pub former_before_hash_same : (line : List ℕ) → former_before_hash line ≡ before_hash line
former_before_hash_same [] = refl
former_before_hash_same (c ∷ cs) =
    elim (cases_Bool (eqb c 35)) [
      | inl t ↦ rw t
      | inr f ↦ rw (f, one-add) (ap (λ l. c ∷ l) (former_before_hash_same cs))
    ]

-- of all lines: they give the same, by what formerly stood before the `#` and by what stands there today
pub former_numbered_same : (number : ℕ) (ls : List (List ℕ)) (ws : List Worded) → (FormerNumbered number ls ws → Numbered number ls ws) × (Numbered number ls ws → FormerNumbered number ls ws)
former_numbered_same number [] ws = ((λ h. h), λ h. h)
former_numbered_same number (l ∷ ls) ws =
    let e = former_before_hash_same l in
    let others = former_numbered_same (number + 1) ls in
    ((λ h. (h.0, h.1, subst (λ t. Words t h.0) e h.2, (others h.1).0 h.3, h.4)), λ h. (h.0, h.1, subst (λ t. Words t h.0) (sym e) h.2, (others h.1).1 h.3, h.4))

-- of every text: what it formerly gave, it gives today
pub former_reads_today : (text : List ℕ) (ws : List Worded) → FormerReads text ws → Reads text ws
former_reads_today text ws h = subst (λ ls. Numbered 1 ls ws) (former_lines_same text h.0 h.1) h.2

-- of a text that is UTF-8: the former and today's `Reads` follow from one another
pub former_reads_same : (text : List ℕ) (ws : List Worded) → IsUtf8 text → (FormerReads text ws → Reads text ws) × (Reads text ws → FormerReads text ws)
former_reads_same text ws u = (former_reads_today text ws, λ h. (lines text, lines_former text u, h))
