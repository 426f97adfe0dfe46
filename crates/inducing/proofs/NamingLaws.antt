-- The rules that name each symbol: position by position of a rule, and rule by rule. A set only grows, by the rule that is gone through.
-- Assumes nothing.
use Prim.Native.Nat.{ℕ, ◌+◌, ◌≤◌, ◌<◌}
use mathlib.Core.Path.{◌≡◌, refl, ◌∙◌, ap, subst, subst⁻¹}
use mathlib.Core.Logic.{◌⊎◌, inl, inr, ⊎_elim}
use mathlib.Core.List.{List}
use native.Mathlib.Omega.{arith}
use lib.Dec.{T, T_not}
use lib.ListN.{length, get_or, set, replicate, length-set, length-replicate}
use lib.Seq.{get_or-set_same, get_or-set_other}
use Rattle.bits.specs.Bit.{hasb, insert}
use Rattle.bits.proofs.MemberLaws.{none_left, insert_cases, insert_new, insert_old}
use Rattle.basics.specs.Lists.{word}
use Rattle.basics.proofs.TestLaws.{below_suc, same_or_not}
use Rattle.grammar.specs.Table.{rules, length_at, right_length, symbol_of}
use Rattle.access.specs.ByPlace.{symbol_from}
use Rattle.access.specs.Offsets.{RuleOf}
use Rattle.access.proofs.Accessors.{symbol_at_rule, rule_starts}
use Rattle.inducing.specs.Stale.{NamedAt, Naming}
use Rattle.inducing.proofs.RuleRowLaws.{rule_ruled}
use Rattle.inducing.proofs.SpreadLaws.{symbol_small}
use Rattle.inducing.proofs.ClearLaws.{zero_words}

module _ (g : List ℕ) (r : ℕ) (entry : List ℕ) where
  pub named_start : NamedAt g r 0 entry entry
  named_start = record { size = refl; keeps = λ x q t. t; has = λ i h. absurd (omega arith); sound = λ x q t. inl t }

  pub named_turn : (offsets naming : List ℕ) (n i p x v : ℕ) → RuleOf g offsets r → p ≡ get_or offsets r 0 → n ≡ length_at g p → i < n + 1
      → NamedAt g r i entry naming → length entry ≡ 32 → x ≡ symbol_from g p i → v ≡ insert r (get_or naming x 0) → NamedAt g r (i + 1) entry (set naming x v)
  named_turn offsets naming n i p x v u d c b w l f m =
      record {
        size = length-set naming x v ∙ w.size;
        keeps = λ y q t. keep y q (w.keeps y q t);
        has = λ j k. ⊎_elim (λ s. keep (symbol_of g r j) r (w.has j s)) (λ s. new j s) (below_suc j i (omega arith));
        sound = λ y q t. ⊎_elim (λ s. here y q s t) (λ s. w.sound y q (subst (λ (z : ℕ). T (hasb q z)) (get_or-set_other naming x y v 0 s) t)) (same_or_not y x);
      }
    where
      e : x ≡ symbol_of g r i
      e = f ∙ symbol_at_rule g r p (rule_starts g offsets r u p d) i

      h : x < 32
      h = symbol_small g p (rule_ruled g offsets r u p d) i (omega arith) x f

      same : word (set naming x v) x ≡ insert r (word naming x)
      same = get_or-set_same naming x v 0 (omega (arith, w.size, h)) ∙ m

      keep : (y q : ℕ) → T (hasb q (word naming y)) → T (hasb q (word (set naming x v) y))
      keep y q t =
          ⊎_elim
          (λ s.
          subst⁻¹ (λ (z : ℕ). T (hasb q (word (set naming x v) z))) s
          (subst⁻¹ (λ (z : ℕ). T (hasb q z)) same (insert_old q r (word naming x) (subst (λ (z : ℕ). T (hasb q (word naming z))) s t))))
          (λ s. subst⁻¹ (λ (z : ℕ). T (hasb q z)) (get_or-set_other naming x y v 0 s) t) (same_or_not y x)

      new : (j : ℕ) → j ≡ i → T (hasb r (word (set naming x v) (symbol_of g r j)))
      new j s =
          subst⁻¹ (λ (z : ℕ). T (hasb r (word (set naming x v) (symbol_of g r z)))) s
          (subst (λ (z : ℕ). T (hasb r (word (set naming x v) z))) e (subst⁻¹ (λ (z : ℕ). T (hasb r z)) same (insert_new r (word naming x))))

      here : (y q : ℕ) → y ≡ x → T (hasb q (word (set naming x v) y)) → T (hasb q (word entry y)) ⊎ (q ≡ r)
      here y q s t =
          ⊎_elim (λ k. inr k) (λ k. w.sound y q (subst⁻¹ (λ (z : ℕ). T (hasb q (word naming z))) s k))
          (insert_cases q r (word naming x) (subst (λ (z : ℕ). T (hasb q z)) same (subst (λ (z : ℕ). T (hasb q (word (set naming x v) z))) s t)))

  pub named_finish : (offsets naming : List ℕ) (n i p : ℕ) → RuleOf g offsets r → p ≡ get_or offsets r 0 → n ≡ length_at g p
      → NamedAt g r i entry naming → i ≤ n + 1 → n + 1 ≤ i → NamedAt g r (right_length g r + 1) entry naming
  unfolding right_length
  named_finish offsets naming n i p u d c w h l =
      let q : i ≡ right_length g r + 1 = omega (arith, ap (length_at g) (rule_starts g offsets r u p d)) in subst (λ (j : ℕ). NamedAt g r j entry naming) q w

pub naming_start : (g naming : List ℕ) → naming ≡ replicate 32 0 → Naming g 0 naming
naming_start g naming e =
    record {
      size = ap length e ∙ length-replicate {A = ℕ} 32 0;
      has = λ r i h l. absurd (omega arith);
      below = λ x q t. absurd (T_not (hasb q 0) (none_left q) (subst (λ (n : ℕ). T (hasb q n)) (ap (λ (s : List ℕ). word s x) e ∙ zero_words 32 x) t));
    }

pub naming_turn : (g naming after : List ℕ) (n : ℕ) → Naming g n naming → NamedAt g n (right_length g n + 1) naming after → Naming g (n + 1) after
naming_turn g naming after n w v =
    record {
      size = v.size ∙ w.size;
      has = λ r i l m.
          ⊎_elim (λ s. v.keeps (symbol_of g r i) r (w.has r i s m))
          (λ s.
          subst⁻¹ (λ (q : ℕ). T (hasb q (word after (symbol_of g q i)))) s
          (v.has i (let b : i ≤ right_length g n = subst (λ (q : ℕ). i ≤ right_length g q) s m in omega arith)))
          (below_suc r n (omega arith));
      below = λ x q t. ⊎_elim (λ s. let b = w.below x q s in omega arith) (λ s. omega arith) (v.sound x q t);
    }

pub naming_finish : (g naming : List ℕ) (n count : ℕ) → Naming g n naming → n ≤ count → count ≤ n → count ≡ rules g → Naming g (rules g) naming
naming_finish g naming n count w h l e = let q : n ≡ rules g = omega arith in subst (λ (m : ℕ). Naming g m naming) q w
