-- The stale rules: at first every rule is, a rule that is taken up no longer is unless it touches itself, and whoever is touched is again. A rule
-- is touched only where an arc is new, so either there are fewer arcs left to find, or as many and fewer stale rules. Assumes nothing.
use Prim.Native.Nat.{ℕ, ◌+◌, ◌*◌, ◌-◌, ◌/◌, ◌%◌, ◌^◌, ◌≤◌, ◌<◌}
use mathlib.Core.Path.{◌≡◌, sym, ◌∙◌, ap, subst, subst⁻¹}
use mathlib.Core.Logic.{⊎_elim}
use mathlib.Core.Bool.{Bool, not}
use mathlib.Core.List.{List}
use native.Mathlib.Omega.{arith}
use lib.Dec.{T, T_not, eqb→eq}
use lib.ListN.{length, replicate, length-replicate}
use Rattle.bits.specs.Bit.{bit, hasb, below, remove, union, minus, First}
use Rattle.bits.specs.Bit as sets
use Rattle.bits.proofs.BitLaws.{bit_has, bit_of_zero}
use Rattle.bits.proofs.SetLaws.{bit_union}
use Rattle.bits.proofs.CountLaws.{count_le, count_ext, count_remove}
use Rattle.bits.proofs.MemberLaws.{none_left, some_member, has_not, has_other, union_cases, union_left, union_right, minus_both}
use Rattle.basics.specs.Tests.{count}
use Rattle.basics.specs.Lists.{word}
use Rattle.basics.proofs.TestLaws.{true_T, same_or_not, below_or_not, count_more}
use Rattle.basics.proofs.TestLaws as tests
use Rattle.grammar.specs.Verdicts.{Good}
use Rattle.grammar.specs.Table.{rules}
use Rattle.grammar.specs.Reading.{read_table}
use Rattle.grammar.proofs.AcceptedTable.{accepted}
use Rattle.relations.specs.Paper.{DP, IDP⁺}
use Rattle.access.specs.Offsets.{offsets_for, RuleOf}
use Rattle.inducing.specs.Rules.{Arcs, Standing}
use Rattle.inducing.specs.Stale.{NewArc, Fresh, Naming, Refreshed, Stale, Chosen, Upward, from_there, from_below}
use Rattle.inducing.proofs.ClearLaws.{zero_words}
use Rattle.inducing.proofs.HoldsLaws.{frame_none, frame_then, holds_none}
use Rattle.inducing.proofs.ExactLaws.{arc_small, arc_symbol}

-- a member of a part of a set is one of the set
pub chosen_ahead : (stale limit ahead r : ℕ) → ahead ≡ minus stale limit → First ahead r → Chosen stale r
chosen_ahead stale limit ahead r e f =
    record {
      small = f.small;
      member =
          eqb→eq _ _ (minus_both r stale limit (subst (λ (n : ℕ). T (hasb r n)) e (true_T _ (bit_has r ahead f.member)))).0;
    }

-- the rules are gone through upward
pub upward_ahead : (stale from limit part r : ℕ) → limit ≡ below from → part ≡ minus stale limit → First part r → Upward stale from r
upward_ahead stale from limit part r l e f =
    from_there (subst (λ (s : ℕ). First s r) (e ∙ ap (minus stale) l) f)

pub upward_again : (stale from limit part r : ℕ) → limit ≡ below from → part ≡ minus stale limit → part ≡ 0 → First stale r → Upward stale from r
upward_again stale from limit part r l e z f = from_below (sym (e ∙ ap (minus stale) l) ∙ z) f

pub still_stale : (stale r touched rest next : ℕ) → rest ≡ remove r stale → next ≡ union rest touched → next ≡ union (remove r stale) touched
still_stale stale r touched rest next e m = m ∙ ap (λ (s : ℕ). union s touched) e

-- ---- the invariant

pub few_rules : (g : List ℕ) (n : ℕ) → read_table g ≡ Good → n ≡ rules g → n ≤ 64
few_rules g n good e = omega (arith, (accepted g good).rules_fit)

pub rule_places : (g : List ℕ) (n r : ℕ) → read_table g ≡ Good → n ≡ rules g → r < n → r < 64
rule_places g n r good e h = omega (arith, few_rules g n good e, h)

-- at first nothing is there
pub standing_start : (g rows ids : List ℕ) → 64 * rules g ≤ length rows → ((j : ℕ) → j < 64 * rules g → word rows j ≡ 0) → ids ≡ replicate 32 0
    → Standing g 0 rows ids
standing_start g rows ids room zeros e =
    record {
      holds = holds_none g (λ r a b. (r < 0) × DP g r a b) (λ r a b. IDP⁺ g r a b) rows room zeros (λ r a b d. let h = d.0 in omega (arith, h));
      sized = ap length e ∙ length-replicate {A = ℕ} 32 0;
      arcs = λ x k t. absurd (T_not (hasb k 0) (none_left k) (subst (λ (n : ℕ). T (hasb k n)) (ap (λ (s : List ℕ). word s x) e ∙ zero_words 32 x) t));
    }

pub opening_start : (g rows ids : List ℕ) → Standing g 0 rows ids → Stale g rows 0 0 rows ids
opening_start g rows ids w =
    record {
      standing = w;
      frame = frame_none g rows;
      fresh = λ r h n. absurd (omega (arith, h));
      below = λ r t. absurd (T_not (hasb r 0) (none_left r) t);
    }

-- Rule r is taken up, and DP of the first more rules is there then. Of these, every one but r was there before.
module _ (g entry naming rows ids after out : List ℕ) (n more stale r touched next : ℕ) (w : Stale g entry n stale rows ids) (m : Naming g (rules g) naming)
    (small : r < 64) (fits : more ≤ rules g) (new : (q : ℕ) → q < more → (q ≡ r → ⊥) → q < n) (u : Refreshed g naming more r rows ids after out touched)
    (is : next ≡ union (remove r stale) touched) where
  -- what was stale stays so, but for the rule that was taken up
  left : (q : ℕ) → (q ≡ r → ⊥) → T (hasb q stale) → T (hasb q next)
  left q d t =
      subst⁻¹ (λ (s : ℕ). T (hasb q s)) is
      (union_left q (remove r stale) touched (subst⁻¹ (λ (b : Bool). T b) (has_other r q stale d) t))

  again : (q : ℕ) → T (hasb q touched) → T (hasb q next)
  again q t = subst⁻¹ (λ (s : ℕ). T (hasb q s)) is (union_right q (remove r stale) touched t)

  was : (q : ℕ) → T (hasb q (remove r stale)) → T (hasb q stale)
  was q t =
      ⊎_elim (λ s. absurd (T_not (hasb r (remove r stale)) (has_not r stale) (subst (λ (k : ℕ). T (hasb k (remove r stale))) s t)))
      (λ s. subst (λ (b : Bool). T b) (has_other r q stale s) t) (same_or_not q r)

  taken_up : Stale g entry more next after out
  taken_up =
      record {
        standing = u.standing;
        frame = frame_then g entry rows after w.frame u.frame;
        fresh = λ q l d.
            ⊎_elim
            (λ s. subst⁻¹ (λ (k : ℕ). Fresh g after out k) s (u.own (λ t. d (again q (subst⁻¹ (λ (k : ℕ). T (hasb k touched)) s t)))))
            (λ s. u.others q (omega (arith, l, fits)) s (λ t. d (again q t)) (w.fresh q (new q l s) (λ t. d (left q s t))))
            (same_or_not q r);
        below = λ q t.
            ⊎_elim (λ s. w.below q (was q s)) (λ s. let y = u.reason q s in m.below y.symbol q y.names)
            (union_cases q (remove r stale) touched (subst (λ (s : ℕ). T (hasb q s)) is t));
      }

pub opening_turn : (g entry naming rows ids after out : List ℕ) (count stale r touched next : ℕ) → read_table g ≡ Good → Stale g entry r stale rows ids
    → Naming g (rules g) naming → count ≡ rules g → r < count → Refreshed g naming (r + 1) r rows ids after out touched
    → next ≡ union (remove r stale) touched → Stale g entry (r + 1) next after out
opening_turn g entry naming rows ids after out count stale r touched next good w m e h u is =
    taken_up g entry naming rows ids after out r (r + 1) stale r touched next w m (rule_places g count r good e h) (omega (arith, e, h))
    (λ q l d. ⊎_elim (λ k. k) (λ k. absurd (d (omega (arith, k, l)))) (below_or_not q r)) u is

pub opening_finish : (g entry rows ids : List ℕ) (count stale r : ℕ) → Stale g entry r stale rows ids → count ≡ rules g → r ≤ count → count ≤ r
    → Stale g entry (rules g) stale rows ids
opening_finish g entry rows ids count stale r w e h l = let q : r ≡ rules g = omega arith in subst (λ (n : ℕ). Stale g entry n stale rows ids) q w

pub stale_turn : (g entry naming rows ids after out : List ℕ) (stale r touched next : ℕ) → Stale g entry (rules g) stale rows ids
    → Naming g (rules g) naming → Chosen stale r → Refreshed g naming (rules g) r rows ids after out touched → next ≡ union (remove r stale) touched
    → Stale g entry (rules g) next after out
stale_turn g entry naming rows ids after out stale r touched next w m c u is =
    taken_up g entry naming rows ids after out (rules g) (rules g) stale r touched next w m c.small (omega arith) (λ q l d. l) u is

-- the first turns and the rest of the way
pub stale_then : (g entry mid rows first ids : List ℕ) (n stale : ℕ) → Stale g entry n stale mid first → Stale g mid n 0 rows ids → Stale g entry n 0 rows ids
stale_then g entry mid rows first ids n stale w u =
    record { standing = u.standing; frame = frame_then g entry mid rows w.frame u.frame; fresh = u.fresh; below = u.below }

-- the rows as they are now are where the rest of the way starts
pub stale_here : (g entry rows ids : List ℕ) (n stale : ℕ) → Stale g entry n stale rows ids → Stale g rows n stale rows ids
stale_here g entry rows ids n stale w = record { standing = w.standing; frame = frame_none g rows; fresh = w.fresh; below = w.below }

pub stale_end : (g entry rows ids : List ℕ) (n stale : ℕ) → Stale g entry n stale rows ids → stale ≡ 0 → Stale g entry n 0 rows ids
stale_end g entry rows ids n stale w e = subst (λ (s : ℕ). Stale g entry n s rows ids) e w

-- a stale rule is one of the table's
pub chosen_rule : (g offsets entry rows ids : List ℕ) (n stale r : ℕ) → read_table g ≡ Good → offsets ≡ offsets_for g Good → Stale g entry n stale rows ids
    → Chosen stale r → RuleOf g offsets r
chosen_rule g offsets entry rows ids n stale r good o w c =
    record { good = good; offsets_are = o; inside = w.below r (true_T _ (bit_has r stale c.member)) }

-- ---- the measure

-- how many arcs a state has
unfoldable arc_count : List ℕ → ℕ
arc_count ids = count 2048 (λ j. hasb (j % 64) (word ids (j / 64)))

-- the arcs that are left to find, and for each as many turns as there are rules; then the stale rules
unfoldable pub left_to_do : ℕ → List ℕ → ℕ
unfolding arc_count
left_to_do stale ids = 65 * (2048 - arc_count ids) + sets.count 64 stale

module _ (g : List ℕ) (good : read_table g ≡ Good) (rows ids after out : List ℕ) (a : Arcs g out)
    (grows : (x k : ℕ) → T (hasb k (word ids x)) → T (hasb k (word out x))) where
  arcs_grow : arc_count ids ≤ arc_count out
  unfolding arc_count
  arcs_grow = tests.count_mono 2048 (λ j. hasb (j % 64) (word ids (j / 64))) (λ j. hasb (j % 64) (word out (j / 64))) (λ j h t. grows (j / 64) (j % 64) t)

  arcs_more : (x : ℕ) → NewArc x ids out → arc_count ids < arc_count out
  unfolding arc_count
  arcs_more x n =
      let k : ℕ = n.arc in
      let s : x < 32 = arc_symbol g good x k (a x k n.there) in
      let l : k < 64 = arc_small g good x k (a x k n.there) in
      let i : (64 * x + k) / 64 ≡ x = omega arith in
      let m : (64 * x + k) % 64 ≡ k = omega arith in
      count_more 2048 (λ j. hasb (j % 64) (word ids (j / 64))) (λ j. hasb (j % 64) (word out (j / 64))) (λ j h t. grows (j / 64) (j % 64) t)
      (64 * x + k) (omega arith)
      (subst⁻¹ (λ (c : ℕ). T (not (hasb c (word ids ((64 * x + k) / 64))))) m (subst⁻¹ (λ (y : ℕ). T (not (hasb k (word ids y)))) i n.lacked))
      (subst⁻¹ (λ (c : ℕ). T (hasb c (word out ((64 * x + k) / 64)))) m (subst⁻¹ (λ (y : ℕ). T (hasb k (word out y))) i n.there))

  arcs_most : arc_count out ≤ 2048
  unfolding arc_count
  arcs_most = tests.count_le 2048 (λ j. hasb (j % 64) (word out (j / 64)))

-- each turn leaves less to do
pub stale_less : (g : List ℕ) (good : read_table g ≡ Good) (naming rows ids after out : List ℕ) (n stale r touched next : ℕ) → Chosen stale r
    → Refreshed g naming n r rows ids after out touched → touched < 2 ^ 64 → next ≡ union (remove r stale) touched
    → left_to_do next out < left_to_do stale ids
unfolding left_to_do arc_count
stale_less g good naming rows ids after out n stale r touched next c u fits m =
    ⊎_elim
    (λ z.
    let same : sets.count 64 next ≡ sets.count 64 (remove r stale) =
    count_ext 64 next (remove r stale) (λ j l. omega (arith, ap (bit j) m, bit_union j (remove r stale) touched, ap (bit j) z, bit_of_zero j)) in
    omega (arith, same, count_remove 64 r stale c.small, c.member, arcs_grow g good rows ids after out u.standing.arcs u.grows))
    (λ z.
    let q = some_member 64 touched fits z in
    let y = u.reason q.0 q.2 in
    omega (arith, count_le 64 next, arcs_more g good rows ids after out u.standing.arcs u.grows y.symbol y.new, arcs_most g good rows ids after out u.standing.arcs u.grows))
    (same_or_not touched 0)
