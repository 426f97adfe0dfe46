-- Words that are cleared, and lists of zeros.
-- Assumes nothing.
use Prim.Native.Nat.{ℕ, ◌*◌, ◌-◌, ◌≤◌, ◌<◌}
use mathlib.Core.Path.{◌≡◌, ◌∙◌, ap, subst}
use mathlib.Core.Logic.{⊎_elim}
use mathlib.Core.List.{List, ◌++◌}
use native.Mathlib.Omega.{arith}
use lib.ListN.{length, take, drop, replicate, length-drop, length-append, length-replicate, get_or-append, get_or-replicate, get_or-eq_default}
use Rattle.std.proofs.lemmas.List.{get_or-drop, get_or-append_right, length-take-le}
use Rattle.basics.specs.Lists.{word}
use Rattle.basics.proofs.TestLaws.{below_or_not}
use Rattle.grammar.specs.Limits.{row_words}
use Rattle.grammar.specs.Table.{rules}
use Rattle.inducing.specs.Rules.{Cleared}

-- every word of a list of zeros is 0, and past its end too
pub zero_words : (m i : ℕ) → word (replicate m 0) i ≡ 0
zero_words m i =
    ⊎_elim (λ l. get_or-replicate m i 0 0 l) (λ l. get_or-eq_default (replicate m 0) 0 {n = i} (omega (arith, length-replicate {A = ℕ} m 0)))
    (below_or_not i m)

-- the first words filled with 0
filled : (entry part : List ℕ) (count : ℕ) → count ≤ length entry → part ≡ replicate (length (take count entry)) 0
    → Cleared count entry (part ++ drop count entry)
filled entry part count h e =
    record {
      size = length-append part (drop count entry) ∙ omega (arith, size, length-drop count entry);
      zero = λ j l.
          get_or-append part (drop count entry) 0 j (omega (arith, size))
          ∙ (ap (λ (s : List ℕ). word s j) e ∙ zero_words (length (take count entry)) j);
      rest = λ j l.
          get_or-append_right part (drop count entry) count j 0 size l
          ∙ (get_or-drop count entry (j - count) 0 ∙ ap (λ (i : ℕ). word entry i) (omega arith));
    }
  where
    size : length part ≡ count
    size = ap length e ∙ (length-replicate {A = ℕ} (length (take count entry)) 0 ∙ length-take-le count entry h)

-- as many words as the rules have
module _ (g entry part : List ℕ) (n : ℕ) (e : n ≡ rules g) (h : row_words (rules g) ≤ length entry) (q : part ≡ replicate (length (take (64 * n) entry)) 0) where
  pub rules_filled : Cleared (64 * n) entry (part ++ drop (64 * n) entry)
  rules_filled = filled entry part (64 * n) (omega arith) q

  pub filled_room : 64 * rules g ≤ length (part ++ drop (64 * n) entry)
  filled_room = omega (arith, rules_filled.size)

  pub filled_zero : (j : ℕ) → j < 64 * rules g → word (part ++ drop (64 * n) entry) j ≡ 0
  filled_zero j l = rules_filled.zero j (omega arith)

pub cleared_rules : (g entry rows : List ℕ) (n : ℕ) → n ≡ rules g → Cleared (64 * n) entry rows → Cleared (64 * rules g) entry rows
cleared_rules g entry rows n e w = subst (λ (m : ℕ). Cleared (64 * m) entry rows) e w
