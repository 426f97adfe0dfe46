-- From bytes to words, and from what planning answers to what is listed.
-- Assumes nothing.
use Prim.Native.Nat.{ℕ, suc, ◌+◌, ◌*◌, ◌/◌, ◌%◌, ◌≤◌, ◌<◌, min}
use mathlib.Core.Logic.{⊎_elim}
use mathlib.Core.Path.{◌≡◌, refl, sym, ◌∙◌, ap, ap₂, subst⁻¹}
use mathlib.Core.List.{List, ◌++◌}
use native.Mathlib.Omega.{arith}
use native.Mathlib.Numerals.{add-one}
use lib.Dec.{eqb, eqb→eq, not_T}
use lib.ListN.{length, get_or, take, drop, set, length-append, length-drop, length-set, get_or-append}
use lib.Seq.{drop-cons, drop-drop, drop_at, get_or-drop, set_at, append_snoc, take_all, take_at, length-take-le}
use Rattle.grammar.specs.Limits.{most_rules, row_words, plan_words}
use Rattle.std.specs.Prelude.{Result, Ok, Err}
use Rattle.basics.specs.Lists.{word, tabulate}
use Rattle.basics.proofs.TestLaws.{chosen, passed_over, eq_T, below_or_not}
use Rattle.basics.proofs.ListLaws.{length_tabulate}
use Rattle.refusals.specs.declared.Refusal.{Refusal}
use Rattle.refusals.specs.declared.Refusal.TheVariants.{EndsEarly}
use Rattle.grammar.specs.Verdicts.{Good}
use Rattle.grammar.specs.Reading.{read_table}
use Rattle.plans.specs.Buffers.{over}
use Rattle.plans.specs.Answer.{Outcome, untouched, circular_idp, unordered, accepted, outcome, answer_of, plan_after}
use Rattle.planner.specs.Answered.{Answered}
use Rattle.planner.proofs.AcceptedLaws.{is_accepted, both_good}
use Rattle.text.specs.Listing.{most_bytes, refusal_line, outcome_text, table_text, plan_text, words_of, bytes_text, listing}
use Rattle.lister.specs.declared.Page.{Page}
use Rattle.lister.specs.Shown.{Shows, Types, plan_lines}
use Rattle.lister.proofs.PageLaws.{types_same, page_shows}
use Rattle.lister.proofs.PlanLaws.{lines_of_plan}

-- word k of the bytes
abbrev little_endian : List ℕ → ℕ → ℕ
little_endian bytes k = word bytes (2 * k) + 256 * word bytes (2 * k + 1)

-- the first i words are written
pub record Words (bytes lent words : List ℕ) (i : ℕ) : Type 0 where
  pub inside : i ≤ length bytes / 2
  pub kept : length words ≡ length lent
  pub written : words ≡ over (tabulate i (λ k. little_endian bytes k)) lent

pub words_start : (bytes lent : List ℕ) → Words bytes lent lent 0
words_start bytes lent = record { inside = omega arith; kept = refl; written = unfold tabulate over in refl }

pub words_turn : (bytes lent words : List ℕ) (i n : ℕ) → length bytes / 2 ≤ length lent → Words bytes lent words i → i < length bytes / 2
    → n ≡ get_or bytes (2 * i) 0 + get_or bytes (2 * i + 1) 0 * 256 → Words bytes lent (set words i n) (i + 1)
words_turn bytes lent words i n room k h e =
    record {
      inside = omega arith;
      kept = length-set words i n ∙ k.kept;
      written =
          ap₂ (λ (l : List ℕ) (m : ℕ). set l i m) k.written (e ∙ omega arith)
          ∙ more lent (λ j. little_endian bytes j) i (omega (arith, room));
    }
  where
    more : (lent : List ℕ) (f : ℕ → ℕ) (i : ℕ) → i < length lent → set (over (tabulate i f) lent) i (f i) ≡ over (tabulate (i + 1) f) lent
    more lent f i h = unfold over tabulate in
        (let size : length (tabulate i f) ≡ i = length_tabulate i f in
        let next : length (tabulate (suc i) f) ≡ suc i = length_tabulate (suc i) f in
        ap (λ (n : ℕ). set (tabulate i f ++ drop n lent) i (f i)) size
        ∙ (ap (λ (l : List ℕ). set (tabulate i f ++ l) i (f i)) (drop-cons lent i 0 h)
        ∙ (set_at (tabulate i f) (get_or lent i 0) (drop (suc i) lent) (f i) i size
        ∙ (sym (append_snoc (tabulate i f) (f i) (drop (suc i) lent))
        ∙ (ap (λ (n : ℕ). tabulate (suc i) f ++ drop n lent) (sym next)
        ∙ ap (λ (n : ℕ). over (tabulate n f) lent) (sym (add-one i)))))))

pub words_end : (bytes lent words : List ℕ) (i : ℕ) → Words bytes lent words i → length bytes / 2 ≤ i → words ≡ over (words_of bytes) lent
unfolding words_of
words_end bytes lent words i k h =
    let all : i ≡ length bytes / 2 = omega (arith, k.inside) in
    k.written ∙ ap (λ (n : ℕ). over (tabulate n (λ j. little_endian bytes j)) lent) all

-- the bytes, pair by pair: the first i words are written, and the bytes behind theirs are left
pub record Pairs (bytes lent words : List ℕ) (size : ℕ) (rest : List ℕ) (i : ℕ) : Type 0 where
  pub two : size ≡ 2
  pub left : rest ≡ drop (2 * i) bytes
  pub done : Words bytes lent words i

pub pairs_start : (bytes lent rest : List ℕ) (size i : ℕ) → size ≡ 2 → rest ≡ bytes → i ≡ 0 → Pairs bytes lent lent size rest i
pairs_start bytes lent rest size i t e z =
    subst⁻¹ (λ (k : ℕ). Pairs bytes lent lent size rest k) z (record { two = t; left = e; done = words_start bytes lent })

pub pairs_turn : {bytes lent words rest rest' : List ℕ} {size size' i i' : ℕ} (pair : List ℕ) (k n : ℕ) → length bytes / 2 ≤ length lent
    → Pairs bytes lent words size rest i → size' ≡ size → rest ≡ pair ++ rest' → length pair ≡ size → k ≡ i → i' ≡ i + 1
    → n ≡ get_or pair 0 0 + get_or pair 1 0 * 256 → Pairs bytes lent (set words k n) size' rest' i'
pairs_turn {bytes} {lent} {words} {rest} {rest'} {size' = size'} {i = i} pair k n room w same cut long here next e =
    let two : length pair ≡ 2 = long ∙ w.two in
    let whole : pair ++ rest' ≡ drop (2 * i) bytes = sym cut ∙ w.left in
    let many : length pair + length rest' ≡ length (drop (2 * i) bytes) = sym (length-append pair rest') ∙ ap length whole in
    let byte : (j : ℕ) → j < 2 → get_or pair j 0 ≡ get_or bytes (2 * i + j) 0 =
    λ j l. sym (get_or-append pair rest' 0 j (omega (arith, two))) ∙ (ap (λ (t : List ℕ). get_or t j 0) whole ∙ get_or-drop (2 * i) bytes j 0) in
    let more : i < length bytes / 2 = omega (arith, two, many, length-drop (2 * i) bytes) in
    let word_is : n ≡ get_or bytes (2 * i) 0 + get_or bytes (2 * i + 1) 0 * 256 =
    e
    ∙ ap₂ (λ (a b : ℕ). a + b * 256) (byte 0 (omega arith) ∙ ap (λ (j : ℕ). get_or bytes j 0) (let z : 2 * i + 0 ≡ 2 * i = omega arith in z)) (byte 1 (omega arith)) in
    let twice : 2 * i + 2 ≡ 2 * (i + 1) = omega arith in
    subst⁻¹ (λ (j : ℕ). Pairs bytes lent (set words k n) size' rest' j) next (record {
      two = same ∙ w.two;
      left = sym (drop_at pair rest' 2 two) ∙ (ap (drop 2) whole ∙ (drop-drop 2 (2 * i) bytes ∙ ap (λ (j : ℕ). drop j bytes) twice));
      done = subst⁻¹ (λ (j : ℕ). Words bytes lent (set words j n) (i + 1)) here (words_turn bytes lent words i n room w.done more word_is);
    })

pub pairs_end : (bytes lent words rest : List ℕ) (size i : ℕ) → Pairs bytes lent words size rest i → length rest < size → words ≡ over (words_of bytes) lent
pairs_end bytes lent words rest size i w h =
    words_end bytes lent words i w.done (omega (arith, w.two, ap length w.left, length-drop (2 * i) bytes))

-- what planning refuses is listed as its refusal, what it accepts as its plan
refused_text : (g : List ℕ) (o : Outcome) (n : Refusal) → Err n ≡ answer_of g o → refusal_line n ≡ outcome_text g o
unfolding answer_of outcome_text
refused_text g (untouched k) n e = let q : n ≡ k = cc in ap refusal_line q
refused_text g (circular_idp k) n e = let q : n ≡ k = cc in ap refusal_line q
refused_text g (unordered k) n e = let q : n ≡ k = cc in ap refusal_line q
refused_text g accepted n e = absurd (let z : ◌≡◌ {A = ℕ} 0 1 = cc in omega arith)

-- rows and plan are long enough for every table
module _ (o o₁ : Page) (g rows plan rows' plan' : List ℕ) (planned : Result ℕ Refusal) (lr : length rows ≡ (row_words most_rules)) (lp : length plan ≡ (plan_words most_rules))
    (w : Answered g rows plan planned rows' plan') where
  long_enough : outcome g (length rows) (length plan) ≡ outcome g (row_words most_rules) (plan_words most_rules)
  long_enough = ap₂ (λ (x y : ℕ). outcome g x y) lr lp

  pub list_refused : (n : Refusal) → planned ≡ Err n → Types o (refusal_line n) o₁ → Types o (table_text g) o₁
  unfolding table_text
  list_refused n e s =
      types_same (refused_text g (outcome g (row_words most_rules) (plan_words most_rules)) n (sym e ∙ (w.answers ∙ ap (answer_of g) long_enough))) s

  pub list_accepted : (n : ℕ) → planned ≡ Ok n → Types o (plan_lines g plan') o₁ → Types o (table_text g) o₁
  unfolding table_text plan_after outcome_text
  list_accepted n e s =
      let q : outcome g (length rows) (length plan) ≡ accepted = is_accepted g (outcome g (length rows) (length plan)) n (sym e ∙ w.answers) in
      let good : read_table g ≡ Good = (both_good g (length rows) (length plan) q).0 in
      let text : plan_text g ≡ outcome_text g (outcome g (row_words most_rules) (plan_words most_rules)) = ap (outcome_text g) (sym q ∙ long_enough) in
      types_same (ap (plan_lines g) (w.plan_is ∙ ap (λ (x : Outcome). plan_after g x plan) q) ∙ (lines_of_plan g good plan ∙ text)) s

-- an odd count of bytes, and an even one
pub odd_bytes : {o o₁ : Page} (bytes : List ℕ) → (length bytes % 2 ≡ 0 → ⊥) → Types o (refusal_line (EndsEarly (length bytes / 2))) o₁
    → Types o (bytes_text bytes) o₁
unfolding bytes_text
odd_bytes bytes odd s =
    types_same (sym (passed_over (eqb (length bytes % 2) 0) _ _ (not_T (eqb (length bytes % 2) 0) (λ t. odd (eqb→eq (length bytes % 2) 0 t))))) s

pub even_bytes : {o o₁ : Page} (bytes words buffer g : List ℕ) → length bytes % 2 ≡ 0 → words ≡ over (words_of bytes) buffer
    → g ≡ take (length bytes / 2) words → Types o (table_text g) o₁ → Types o (bytes_text bytes) o₁
unfolding bytes_text
even_bytes bytes words buffer g even e cut s =
    types_same
    (ap table_text (cut ∙ (ap (take (length bytes / 2)) e ∙ first))
    ∙ sym (chosen (eqb (length bytes % 2) 0) _ _ (eq_T (length bytes % 2) 0 even))) s
  where
    first : take (length bytes / 2) (over (words_of bytes) buffer) ≡ words_of bytes
    first = unfold over words_of in
        take_at (words_of bytes) (drop (length (words_of bytes)) buffer) (length bytes / 2) (length_tabulate (length bytes / 2) (λ k. little_endian bytes k))

-- no more than the first 65,536 bytes are looked at
take_least : (n : ℕ) (l : List ℕ) → take (min (length l) n) l ≡ take n l
take_least n l =
    ⊎_elim (λ h. let e : min (length l) n ≡ length l = omega arith in
    ap (λ (k : ℕ). take k l) e ∙ (take_all (length l) l (omega arith) ∙ sym (take_all n l (omega arith))))
    (λ h. let e : min (length l) n ≡ n = omega arith in ap (λ (k : ℕ). take k l) e) (below_or_not (length l) n)

pub looked_text : {lent out : List ℕ} (input : List ℕ) (n : ℕ) (o o₁ : Page) → n ≡ min (length input) most_bytes → o.out.now ≡ lent → o.at ≡ 0
    → Types o (bytes_text (take n input)) o₁ → out ≡ o₁.out.now → Shows lent (listing input) out o₁.at
unfolding listing
looked_text input n o o₁ e same start s last =
    page_shows o o₁ same start
    (types_same (ap (λ (k : ℕ). bytes_text (take k input)) e ∙ ap bytes_text (take_least most_bytes input)) s) last

-- the words of the bytes are there to be lent
pub words_there : (bytes words buffer : List ℕ) → words ≡ over (words_of bytes) buffer → length bytes / 2 ≡ length (take (length bytes / 2) words)
unfolding over words_of
words_there bytes words buffer e =
    let size : length (words_of bytes) ≡ length bytes / 2 = length_tabulate (length bytes / 2) (λ k. little_endian bytes k) in
    let all : length words ≡ length (words_of bytes) + length (drop (length (words_of bytes)) buffer) =
    ap length e ∙ length-append (words_of bytes) (drop (length (words_of bytes)) buffer) in
    sym (length-take-le (length bytes / 2) words (omega (arith, size, all)))
