-- The loops that note where functions start: targets of one rule differ, and each rule has 64 words of its own, so nothing is written over.
-- Assumes nothing.
use Prim.Native.Nat.{ℕ, suc, ◌+◌, ◌*◌, ◌≤◌, ◌<◌}
use mathlib.Core.Path.{◌≡◌, refl, sym, ◌∙◌, ap, subst⁻¹}
use mathlib.Core.Logic.{⊎_elim}
use mathlib.Core.List.{List}
use native.Mathlib.Omega.{arith}
use native.Mathlib.Numerals.{add-one}
use lib.ListN.{length, set, length-set}
use lib.Seq.{get_or-set_same, get_or-set_other}
use Rattle.basics.specs.Lists.{word}
use Rattle.basics.proofs.TestLaws.{below_suc}
use Rattle.grammar.specs.Verdicts.{Good}
use Rattle.grammar.specs.Limits.{most_rules, most_occurrences, longest_table}
use Rattle.grammar.specs.Table.{rules, functions_at, function_at, rule_at, functions, function_of, target}
use Rattle.grammar.specs.Reading.{read_table}
use Rattle.grammar.specs.WellFormed.{WellFormed}
use Rattle.grammar.proofs.AcceptedTable.{accepted, defining_occurs, occurrence_fits}
use Rattle.grammar.proofs.RuleStarts.{functions_rise, formed_length, rules_rise}
use Rattle.access.specs.ByPlace.{next_function}
use Rattle.access.specs.Offsets.{offsets_for}
use Rattle.access.proofs.Accessors.{next_function_law, offset_is, rule_fits}
use Rattle.executing.specs.Located.{start_words, HasRule, Located, RuleLocated}

-- ---- what an accepted table says of its functions

module _ (g : List ℕ) (formed : WellFormed g) (r : ℕ) (inside : r < rules g) where
  -- the word of a function, and the one after the last, is not past the table's end
  pub function_fits : (k : ℕ) → k ≤ functions g r → function_of g r k ≤ longest_table
  unfolding rule_at functions
  function_fits k h =
      omega (arith, functions_rise g (rule_at g r) k (functions_at g (rule_at g r)) h, rules_rise g (suc r) (rules g) inside, formed.ends, formed_length g formed)

  -- a target is below 64
  pub target_fits : (k : ℕ) → k < functions g r → target g r k < 64
  target_fits k h =
      occurrence_fits g r (target g r k) (formed.rule r inside) (defining_occurs g r (target g r k) (formed.function r k inside h).target_defining)

-- ---- one rule

pub record Locating (g : List ℕ) (r : ℕ) (before starts : List ℕ) (f k n : ℕ) : Type 0 where
  pub formed : WellFormed g
  pub inside : r < rules g
  pub few : rules g ≤ most_rules
  pub size : length starts ≡ start_words
  pub function_is : f ≡ function_of g r k
  pub fits : f ≤ longest_table
  pub end_is : n ≡ functions g r
  pub count : k ≤ n
  pub here : (j : ℕ) → j < k → word starts (most_occurrences * r + target g r j) ≡ function_of g r j
  pub stays : (i : ℕ) → i < most_occurrences * r → word starts i ≡ word before i

-- a rule of an accepted table is one of the most that there can be, and starts where the offsets say
pub rule_few : (g : List ℕ) (r : ℕ) → read_table g ≡ Good → r < rules g → r < most_rules
rule_few g r good h = omega (arith, (accepted g good).rules_fit)

pub start_is : (g offsets : List ℕ) (r p : ℕ) → offsets ≡ offsets_for g Good → r < rules g → p ≡ word offsets r → p ≡ rule_at g r
start_is g offsets r p placed h e = offset_is g offsets r p placed h e

-- the rule starts within the table
pub rule_starts : (g : List ℕ) (r p : ℕ) → read_table g ≡ Good → r < rules g → p ≡ rule_at g r → p < 65536
rule_starts g r p good h e = omega (arith, e, rule_fits g r good (omega arith))

pub locating_start : (g : List ℕ) (r p f n : ℕ) (starts : List ℕ) → read_table g ≡ Good → r < rules g → p ≡ rule_at g r → length starts ≡ start_words
    → f ≡ function_at g p 0 → n ≡ functions_at g p → Locating g r starts starts f 0 n
unfolding functions
locating_start g r p f n starts good h e s q m =
    let formed = accepted g good in
    let start : f ≡ function_of g r 0 = q ∙ ap (λ (x : ℕ). function_at g x 0) e in
    record {
      formed = formed;
      inside = h;
      few = formed.rules_fit;
      size = s;
      function_is = start;
      fits = omega (arith, start, function_fits g formed r h 0 (omega arith));
      end_is = m ∙ ap (functions_at g) e;
      count = omega arith;
      here = λ j l. absurd (omega arith);
      stays = λ i l. refl;
    }

-- its target has a word of the rule's own
target_word : {g before starts : List ℕ} {r f k n o : ℕ} → Locating g r before starts f k n → k < n → o ≡ word g f → (o ≡ target g r k) × (o < 64)
unfolding target
target_word {g} {before} {starts} {r} {f} {k} {n} {o} w h q =
    let i : o ≡ target g r k = q ∙ ap (word g) w.function_is in
    (i, omega (arith, i, target_fits g w.formed r w.inside k (omega (arith, w.end_is))))

pub target_small_law : {g before starts : List ℕ} {r f k n o : ℕ} → Locating g r before starts f k n → k < n → o ≡ word g f → o < 64
target_small_law w h q = (target_word w h q).1

noted : {g before starts : List ℕ} {r f k n o next : ℕ} → Locating g r before starts f k n → k < n → o ≡ word g f → next ≡ next_function g f
    → Locating g r before (set starts (most_occurrences * r + o) f) next (k + 1) n
noted {g} {before} {starts} {r} {f} {k} {n} {o} {next} w h q s =
    let t = target_word w h q in
    let room : most_occurrences * r + o < length starts = omega (arith, t.1, w.size, w.few, w.inside) in
    let found : next ≡ function_of g r (k + 1) = s ∙ (next_function_law g (rule_at g r) k f w.function_is ∙ ap (function_of g r) (sym (add-one k))) in
    record {
      formed = w.formed;
      inside = w.inside;
      few = w.few;
      size = length-set starts (most_occurrences * r + o) f ∙ w.size;
      function_is = found;
      fits = omega (arith, found, function_fits g w.formed r w.inside (k + 1) (omega (arith, w.end_is)));
      end_is = w.end_is;
      count = omega arith;
      here = λ j l.
          ⊎_elim
          (λ b.
          get_or-set_other starts (most_occurrences * r + o) (most_occurrences * r + target g r j) f 0
          (λ i. (w.formed.function r k w.inside (omega (arith, w.end_is))).target_once j b (omega (arith, t.0)))
          ∙ w.here j b)
          (λ b.
          let i : most_occurrences * r + target g r j ≡ most_occurrences * r + o = ap (λ (x : ℕ). most_occurrences * r + x) (ap (target g r) b ∙ sym t.0) in
          ap (word (set starts (most_occurrences * r + o) f)) i
          ∙ (get_or-set_same starts (most_occurrences * r + o) f 0 room ∙ (w.function_is ∙ ap (function_of g r) (sym b))))
          (below_suc j k (omega arith));
      stays = λ i l. get_or-set_other starts (most_occurrences * r + o) i f 0 (λ b. omega arith) ∙ w.stays i l;
    }

pub locating_turn : {g before starts after : List ℕ} {r f k n o next : ℕ} → Locating g r before starts f k n → k < n → o ≡ word g f
    → after ≡ set starts (most_occurrences * r + o) f → next ≡ next_function g f → Locating g r before after next (k + 1) n
locating_turn {g} {before} {starts} {after} {r} {f} {k} {n} {o} {next} w h q e s = subst⁻¹ (λ (a : List ℕ). Locating g r before a next (k + 1) n) e (noted w h q s)

pub locating_finish : {g before starts : List ℕ} {r f k n : ℕ} → Locating g r before starts f k n → n ≤ k → RuleLocated g r before starts
locating_finish w h = record { size = w.size; here = λ j l. w.here j (omega (arith, w.end_is)); stays = w.stays }

-- ---- all rules

pub record AllLocated (g starts : List ℕ) (r n : ℕ) : Type 0 where
  pub good : read_table g ≡ Good
  pub end_is : n ≡ rules g
  pub few : n ≤ most_rules
  pub inside : r ≤ n
  pub size : length starts ≡ start_words
  pub located : (q : ℕ) → q < r → HasRule g starts q

pub all_start : (g starts : List ℕ) (n : ℕ) → read_table g ≡ Good → length starts ≡ start_words → n ≡ rules g → AllLocated g starts 0 n
all_start g starts n good size end =
    record {
      good = good;
      end_is = end;
      few = omega (arith, end, (accepted g good).rules_fit);
      inside = omega arith;
      size = size;
      located = λ q h. absurd (omega arith);
    }

-- what is handed to the next rule
pub next_known : {g starts : List ℕ} {r n : ℕ} → AllLocated g starts r n → r < n → r < rules g
next_known w h = omega (arith, w.end_is)

pub all_turn : {g starts next : List ℕ} {r n : ℕ} → AllLocated g starts r n → r < n → RuleLocated g r starts next → AllLocated g next (r + 1) n
all_turn {g} {starts} {next} {r} w h v =
    record {
      good = w.good;
      end_is = w.end_is;
      few = w.few;
      inside = omega arith;
      size = v.size;
      located = λ q l.
          ⊎_elim
          (λ b k s.
          v.stays (most_occurrences * q + target g q k) (omega (arith, target_fits g (accepted g w.good) q (omega (arith, w.end_is, w.inside)) k s))
          ∙ w.located q b k s)
          (λ b. subst⁻¹ (λ (x : ℕ). HasRule g next x) b v.here) (below_suc q r (omega arith));
    }

pub all_finish : {g starts : List ℕ} {r n : ℕ} → AllLocated g starts r n → n ≤ r → Located g starts
all_finish w h = λ q l. w.located q (omega (arith, w.end_is))
