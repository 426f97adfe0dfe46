-- The search for a cycle: what it found, or that nothing is there, is what the definition names; and where the rows hold the paths of a
-- grammar, that is the cycle that planning answers with. Assumes nothing.
use Prim.Native.Nat.{ℕ, ◌+◌, ◌*◌, ◌≤◌, ◌<◌}
use mathlib.Core.Path.{◌≡◌, refl, sym, ◌∙◌, ap, subst, subst⁻¹}
use mathlib.Core.Logic.{⊎_elim}
use mathlib.Core.Bool.{Bool, true, false, cond}
use mathlib.Core.List.{List}
use native.Mathlib.Omega.{arith}
use lib.Dec.{T, T_not, not_T, lt→ltb}
use lib.ListN.{get_or}
use Rattle.std.specs.Prelude.{Option, Some, None}
use Rattle.bits.specs.Bit.{hasb}
use Rattle.basics.specs.Tests.{some, least}
use Rattle.basics.proofs.TestLaws.{least_is, least_one, some_at, some_find, chosen, passed_over, true_T, false_T, T_false, below_suc, below_or_not, and_intro, and_right, same_test}
use Rattle.grammar.specs.Table.{rules, rule_counts}
use Rattle.order.specs.Computed.{has_cycle, circular, cycle_rule, cycle_occurrence}
use Rattle.closing.specs.Rows.{leads}
use Rattle.plans.specs.Buffers.{over, rows_of}
use Rattle.inducing.specs.Cycles.{lies, cyclic, cycle_in}
use Rattle.inducing.proofs.LentLaws.{rule_row}
use Rattle.inducing.proofs.RowLaws.{over_leads}
use Rattle.basics.specs.Lists.{word}

-- no occurrence of rule r before o lies on a cycle, and no rule before r is cyclic
pub record NoneBefore (rows : List ℕ) (r o : ℕ) : Type 0 where
  pub none : (p : ℕ) → p < o → T (lies rows r p) → ⊥

pub record RulesBefore (rows : List ℕ) (r : ℕ) : Type 0 where
  pub none : (q : ℕ) → q < r → T (cyclic rows q) → ⊥

none_more : (n : ℕ) (f : ℕ → Bool) → ((k : ℕ) → k < n → T (f k) → ⊥) → f n ≡ false → (k : ℕ) → k < n + 1 → T (f k) → ⊥
none_more n f w e k h t =
    ⊎_elim (λ l. w k l t) (λ l. T_not (f n) (false_T (f n) e) (subst (λ (x : ℕ). T (f x)) l t)) (below_suc k n (omega arith))

module _ (rows : List ℕ) where
  -- the test of one row, as the search meets it
  lies_is : (r o : ℕ) (b : Bool) → b ≡ hasb o (get_or rows (64 * r + o) 0) → b ≡ lies rows r o
  unfolding lies
  lies_is r o b e = e

  pub row_start : (r : ℕ) → NoneBefore rows r 0
  row_start r = record { none = λ p h t. omega arith }

  pub row_passed : (r o : ℕ) (b : Bool) → NoneBefore rows r o → b ≡ hasb o (get_or rows (64 * r + o) 0) → b ≡ false → NoneBefore rows r (o + 1)
  row_passed r o b w e f = record { none = none_more o (λ p. lies rows r p) w.none (sym (lies_is r o b e) ∙ f) }

  pub rules_start : RulesBefore rows 0
  rules_start = record { none = λ q h t. omega arith }

  -- a rule with no such occurrence is not cyclic
  pub rule_passed : (r o : ℕ) → RulesBefore rows r → NoneBefore rows r o → 64 ≤ o → RulesBefore rows (r + 1)
  unfolding cyclic
  rule_passed r o w v h =
      record {
        none =
            none_more r (λ q. cyclic rows q) w.none
            (T_false (cyclic rows r)
            (not_T (cyclic rows r) (λ t. let k = some_find 64 (λ p. lies rows r p) t in v.none k.0 (omega (arith, k.1)) k.2)));
      }

  -- nothing is found
  pub search_none : (n r : ℕ) (found : Option (ℕ × ℕ)) → RulesBefore rows r → n ≤ r → found ≡ None → found ≡ cycle_in rows n
  unfolding cycle_in
  search_none n r found w h e =
      e
      ∙ sym (passed_over (some n (λ q. cyclic rows q)) (Some (least n (λ q. cyclic rows q), least 64 (λ o. lies rows (least n (λ q. cyclic rows q)) o))) None
      (not_T (some n (λ q. cyclic rows q)) (λ t. let k = some_find n (λ q. cyclic rows q) t in w.none k.0 (omega (arith, k.1)) k.2)))

  -- the first is found
  pub search_found : (n r o : ℕ) (b : Bool) → RulesBefore rows r → r < n → NoneBefore rows r o → o < 64 → b ≡ hasb o (get_or rows (64 * r + o) 0)
      → b ≡ true → Some (r, o) ≡ cycle_in rows n
  unfolding cycle_in cyclic
  search_found n r o b w h v l e f =
      let here : T (lies rows r o) = true_T _ (sym (lies_is r o b e) ∙ f) in
      let there : T (cyclic rows r) = some_at 64 (λ p. lies rows r p) o l here in
      let er : r ≡ least n (λ q. cyclic rows q) =
      least_one n (λ q. cyclic rows q) r (least n (λ q. cyclic rows q))
      (record { inside = omega arith; passes = λ _. there; lowest = w.none }) (least_is n (λ q. cyclic rows q)) in
      let eo : o ≡ least 64 (λ p. lies rows r p) =
      least_one 64 (λ p. lies rows r p) o (least 64 (λ p. lies rows r p))
      (record { inside = omega arith; passes = λ _. here; lowest = v.none }) (least_is 64 (λ p. lies rows r p)) in
      ap (λ (x : ℕ). Some (r, x)) eo
      ∙ (ap (λ (q : ℕ). Some (q, (least 64 (λ p. lies rows q p)))) er
      ∙ sym (chosen (some n (λ q. cyclic rows q)) (Some (least n (λ q. cyclic rows q), least 64 (λ o. lies rows (least n (λ q. cyclic rows q)) o))) None (some_at n (λ q. cyclic rows q) r h there)))

-- the least and some of tests that agree below n
least_same : (n : ℕ) (f h : ℕ → Bool) → ((k : ℕ) → k < n → f k ≡ h k) → least n f ≡ least n h
least_same n f h e =
    least_one n f (least n f) (least n h) (least_is n f)
    (let w = least_is n h in
    record {
      inside = w.inside;
      passes = λ l. subst⁻¹ (λ (b : Bool). T b) (e (least n h) l) (w.passes l);
      lowest = λ k l t. w.lowest k l (subst (λ (b : Bool). T b) (e k (omega (arith, w.inside))) t);
    })

some_same : (n : ℕ) (f h : ℕ → Bool) → ((k : ℕ) → k < n → f k ≡ h k) → some n f ≡ some n h
some_same n f h e =
    same_test (some n f) (some n h)
    (λ t. let k = some_find n f t in some_at n h k.0 k.1 (subst (λ (b : Bool). T b) (e k.0 k.1) k.2))
    (λ t. let k = some_find n h t in some_at n f k.0 k.1 (subst⁻¹ (λ (b : Bool). T b) (e k.0 k.1) k.2))

some_is_some : (p : ℕ × ℕ) → Some p ≡ None → ⊥
some_is_some p e = let z : ◌≡◌ {A = ℕ} 0 1 = ap (λ (o : Option (ℕ × ℕ)). elim o as (λ _. ℕ) [ Some _ ↦ 0 | None ↦ 1 ]) e in omega arith

module _ (g : List ℕ) (paths : ℕ → ℕ → ℕ → Bool) (lent rows : List ℕ) (is : rows ≡ over (rows_of g paths) lent) where
  lies_paths : (r o : ℕ) → r < rules g → o < 64 → lies rows r o ≡ paths r o o
  unfolding lies leads
  lies_paths r o h l =
      ap (λ (s : List ℕ). hasb o (word s (64 * r + o))) is
      ∙ (ap (λ (s : ℕ). hasb o s) (sym (rule_row (over (rows_of g paths) lent) r o l)) ∙ over_leads g paths lent r o o h l l)

  cyclic_has : (r : ℕ) → r < rules g → cyclic rows r ≡ has_cycle g paths r
  unfolding cyclic has_cycle
  cyclic_has r h =
      some_same 64 (λ o. lies rows r o) (λ o. paths r o o) (λ o l. lies_paths r o h l)
      ∙ same_test _ _ (λ t. and_intro (rule_counts g r) _ (lt→ltb r (rules g) h) t) (λ t. and_right (rule_counts g r) _ t)

  -- the search over the rows of a grammar is the search that planning is defined by
  cycle_is : cycle_in rows (rules g) ≡ cond {A = Option (ℕ × ℕ)} (circular g paths) (Some (cycle_rule g paths, cycle_occurrence g paths)) None
  unfolding cycle_in circular cycle_rule cycle_occurrence
  cycle_is =
      let er : least (rules g) (λ r. cyclic rows r) ≡ cycle_rule g paths =
      least_same (rules g) (λ r. cyclic rows r) (λ r. has_cycle g paths r) cyclic_has in
      let es : some (rules g) (λ r. cyclic rows r) ≡ circular g paths =
      some_same (rules g) (λ r. cyclic rows r) (λ r. has_cycle g paths r) cyclic_has in
      ap (λ (b : Bool). cond {A = Option (ℕ × ℕ)} b (Some (least (rules g) (λ r. cyclic rows r), least 64 (λ o. lies rows (least (rules g) (λ r. cyclic rows r)) o))) None) es
      ∙ (ap (λ (q : ℕ). cond {A = Option (ℕ × ℕ)} (circular g paths) (Some (q, least 64 (λ o. lies rows q o))) None) er
      ∙ go (circular g paths) refl)
    where
      go : (b : Bool) → circular g paths ≡ b
          → cond {A = Option (ℕ × ℕ)} b (Some (cycle_rule g paths, least 64 (λ o. lies rows (cycle_rule g paths) o))) None
          ≡ cond {A = Option (ℕ × ℕ)} b (Some (cycle_rule g paths, cycle_occurrence g paths)) None
      go true e =
          ap (λ (o : ℕ). Some (cycle_rule g paths, o))
          (least_same 64 (λ o. lies rows (cycle_rule g paths) o) (λ o. paths (cycle_rule g paths) o o)
          (λ o l. lies_paths (cycle_rule g paths) o
          (let k = some_find (rules g) (λ r. has_cycle g paths r) (true_T _ e) in
          let w = least_is (rules g) (λ r. has_cycle g paths r) in
          ⊎_elim (λ m. m) (λ m. absurd (w.lowest k.0 (omega (arith, k.1)) k.2)) (below_or_not (cycle_rule g paths) (rules g))) l))
      go false e = refl

  -- what the search answers, for each of its two answers
  pub cycle_found : (r o : ℕ) → cycle_in rows (rules g) ≡ Some (r, o)
      → (circular g paths ≡ true) × (r ≡ cycle_rule g paths) × (o ≡ cycle_occurrence g paths)
  cycle_found r o e = go (circular g paths) refl
    where
      go : (b : Bool) → circular g paths ≡ b → (circular g paths ≡ true) × (r ≡ cycle_rule g paths) × (o ≡ cycle_occurrence g paths)
      go true f =
          let q : ◌≡◌ {A = Option (ℕ × ℕ)} (Some (r, o)) (Some (cycle_rule g paths, cycle_occurrence g paths)) =
          sym e ∙ (cycle_is ∙ ap (λ (b : Bool). cond {A = Option (ℕ × ℕ)} b (Some (cycle_rule g paths, cycle_occurrence g paths)) None) f) in (
            f,
            ap (λ (c : Option (ℕ × ℕ)). elim c as (λ _. ℕ) [ Some p ↦ p.0 | None ↦ r ]) q,
            ap (λ (c : Option (ℕ × ℕ)). elim c as (λ _. ℕ) [ Some p ↦ p.1 | None ↦ o ]) q,
          )
      go false f =
          let q : Some (r, o) ≡ None = sym e ∙ (cycle_is ∙ ap (λ (b : Bool). cond {A = Option (ℕ × ℕ)} b (Some (cycle_rule g paths, cycle_occurrence g paths)) None) f) in
          absurd (some_is_some (r, o) q)

  pub cycle_nothing : cycle_in rows (rules g) ≡ None → circular g paths ≡ false
  cycle_nothing e = go (circular g paths) refl
    where
      go : (b : Bool) → circular g paths ≡ b → circular g paths ≡ false
      go false f = f
      go true f =
          let q : None ≡ Some (cycle_rule g paths, cycle_occurrence g paths) =
          sym e ∙ (cycle_is ∙ ap (λ (b : Bool). cond {A = Option (ℕ × ℕ)} b (Some (cycle_rule g paths, cycle_occurrence g paths)) None) f) in
          absurd (some_is_some (cycle_rule g paths, cycle_occurrence g paths) (sym q))
