-- The arcs at a rule's positions are put to those of their symbols, and whoever names a symbol with a new arc is touched: position by position.
-- Assumes nothing.
use Prim.Native.Nat.{ℕ, ◌+◌, ◌^◌, ◌≤◌, ◌<◌}
use mathlib.Core.Path.{◌≡◌, refl, sym, ◌∙◌, subst, subst⁻¹}
use mathlib.Core.Logic.{◌⊎◌, inl, inr, ⊎_elim}
use mathlib.Core.Bool.{not}
use mathlib.Core.List.{List}
use native.Mathlib.Omega.{arith}
use lib.Dec.{T, T_not, not_T}
use lib.ListN.{length, get_or, set, length-set}
use lib.Seq.{get_or-set_same, get_or-set_other}
use Rattle.bits.specs.Bit.{hasb, union, minus}
use Rattle.bits.proofs.MemberLaws.{none_left, some_member, union_cases, union_left, union_right, minus_both, both_minus}
use Rattle.basics.specs.Lists.{word}
use Rattle.basics.proofs.TestLaws.{tested, below_suc, same_or_not}
use Rattle.grammar.specs.Table.{attributes, length_at}
use Rattle.access.specs.ByPlace.{symbol_from}
use Rattle.closing.specs.Rows.{arcs_at}
use Rattle.inducing.specs.Stale.{Added, AddedAt, Gathering}

-- no arc is new: each stands there already, and nobody is touched
pub added_none : (x arcs names : ℕ) (ids : List ℕ) (new : ℕ) → new ≡ minus arcs (get_or ids x 0) → new ≡ 0 → Added x arcs names ids ids 0
added_none x arcs names ids new e z =
    record {
      size = refl;
      others = λ y d. refl;
      keeps = λ k t. t;
      has = λ k t.
          ⊎_elim (λ s. s)
          (λ s.
          absurd (T_not (hasb k 0) (none_left k) (subst (λ (n : ℕ). T (hasb k n)) (sym e ∙ z) (both_minus k arcs (word ids x) t s))))
          (tested (hasb k (word ids x)));
      sound = λ k t. inl t;
      touches = λ k q t s. inl t;
      only = λ q t. absurd (T_not (hasb q 0) (none_left q) t);
      new = λ q t. absurd (T_not (hasb q 0) (none_left q) t);
    }

-- some are
pub added_new : (x arcs names : ℕ) (ids : List ℕ) (new v : ℕ) → new ≡ minus arcs (get_or ids x 0) → (new ≡ 0 → ⊥) → new < 2 ^ 64 → x < 32
    → length ids ≡ 32 → v ≡ union (get_or ids x 0) new → Added x arcs names ids (set ids x v) names
added_new x arcs names ids new v e z fits h l m =
    record {
      size = length-set ids x v;
      others = λ y d. get_or-set_other ids x y v 0 d;
      keeps = keep;
      has = λ k t. ⊎_elim (λ s. keep k s) (λ s. here k (subst⁻¹ (λ (n : ℕ). T (hasb k n)) e (both_minus k arcs (word ids x) t s))) (tested (hasb k (word ids x)));
      sound = λ k t.
          ⊎_elim (λ s. inl s) (λ s. inr (minus_both k arcs (word ids x) (subst (λ (n : ℕ). T (hasb k n)) e s)).0)
          (union_cases k (word ids x) new (subst (λ (n : ℕ). T (hasb k n)) same t));
      touches = λ k q t s. inr s;
      only = λ q t. t;
      new = λ q t.
          let a = some_member 64 new fits z in
          record {
            arc = a.0;
            lacked = (minus_both a.0 arcs (word ids x) (subst (λ (n : ℕ). T (hasb a.0 n)) e a.2)).1;
            there = here a.0 a.2;
          };
    }
  where
    same : word (set ids x v) x ≡ union (word ids x) new
    same = get_or-set_same ids x v 0 (omega arith) ∙ m

    keep : (k : ℕ) → T (hasb k (word ids x)) → T (hasb k (word (set ids x v) x))
    keep k t = subst⁻¹ (λ (n : ℕ). T (hasb k n)) same (union_left k (word ids x) new t)

    here : (k : ℕ) → T (hasb k new) → T (hasb k (word (set ids x v) x))
    here k t = subst⁻¹ (λ (n : ℕ). T (hasb k n)) same (union_right k (word ids x) new t)

-- the symbol, its attributes and the arcs, as they are fetched
pub added_here : (g : List ℕ) (p i : ℕ) (rows : List ℕ) (naming ids after : List ℕ) (x count arcs touched : ℕ) → x ≡ symbol_from g p i
    → count ≡ attributes g x → arcs ≡ arcs_at rows i count → Added x arcs (get_or naming x 0) ids after touched
    → AddedAt g p i rows naming ids after touched
added_here g p i rows naming ids after x count arcs touched e c a v =
    subst (λ (y : ℕ). Added y (arcs_at rows i (attributes g y)) (word naming y) ids after touched) e
    (subst (λ (n : ℕ). Added x (arcs_at rows i n) (word naming x) ids after touched) c
    (subst (λ (s : ℕ). Added x s (word naming x) ids after touched) a v))

module _ (g : List ℕ) (p : ℕ) (rows : List ℕ) (naming ids : List ℕ) where
  pub gathering_start : Gathering g p rows 0 naming ids ids 0
  gathering_start =
      record {
        gathered = record { size = refl; keeps = λ x k t. t; has = λ i k h t. absurd (omega arith); sound = λ x k t. inl t };
        touches = λ x k q t s. inl t;
        reason = λ q t. absurd (T_not (hasb q 0) (none_left q) t);
      }

  -- one position more
  module _ (mid : List ℕ) (touched i : ℕ) (after : List ℕ) (more next : ℕ) (w : Gathering g p rows i naming ids mid touched)
      (v : AddedAt g p i rows naming mid after more) (m : next ≡ union touched more) where
    x : ℕ
    x = symbol_from g p i

    keep : (y k : ℕ) → T (hasb k (word mid y)) → T (hasb k (word after y))
    unfolding x
    keep y k t =
        ⊎_elim (λ s. subst⁻¹ (λ (z : ℕ). T (hasb k (word after z))) s (v.keeps k (subst (λ (z : ℕ). T (hasb k (word mid z))) s t)))
        (λ s. subst⁻¹ (λ (z : ℕ). T (hasb k z)) (v.others y s) t) (same_or_not y x)

    new : (j k : ℕ) → j ≡ i → T (hasb k (arcs_at rows j (attributes g (symbol_from g p j)))) → T (hasb k (word after (symbol_from g p j)))
    new j k s t =
        subst⁻¹ (λ (z : ℕ). T (hasb k (word after (symbol_from g p z)))) s
        (v.has k (subst (λ (z : ℕ). T (hasb k (arcs_at rows z (attributes g (symbol_from g p z))))) s t))

    old : (y k : ℕ) → T (hasb k (word mid y))
        → T (hasb k (word ids y)) ⊎ ((j : ℕ) × (j < i + 1) × (symbol_from g p j ≡ y) × T (hasb k (arcs_at rows j (attributes g y))))
    old y k t = ⊎_elim (λ s. inl s) (λ s. inr (s.0, omega (arith, s.1), s.2, s.3)) (w.gathered.sound y k t)

    here : (y k : ℕ) → y ≡ x → T (hasb k (word after y))
        → T (hasb k (word ids y)) ⊎ ((j : ℕ) × (j < i + 1) × (symbol_from g p j ≡ y) × T (hasb k (arcs_at rows j (attributes g y))))
    unfolding x
    here y k s t =
        ⊎_elim (λ l. old y k (subst⁻¹ (λ (z : ℕ). T (hasb k (word mid z))) s l))
        (λ l. inr (i, omega arith, sym s, subst⁻¹ (λ (z : ℕ). T (hasb k (arcs_at rows i (attributes g z)))) s l))
        (v.sound k (subst (λ (z : ℕ). T (hasb k (word after z))) s t))

    touch : (y k q : ℕ) → T (hasb k (word after y)) → T (hasb q (word naming y)) → T (hasb k (word mid y)) ⊎ T (hasb q more)
    unfolding x
    touch y k q t s =
        ⊎_elim
        (λ d.
        ⊎_elim (λ l. inl (subst⁻¹ (λ (z : ℕ). T (hasb k (word mid z))) d l)) (λ l. inr l)
        (v.touches k q (subst (λ (z : ℕ). T (hasb k (word after z))) d t) (subst (λ (z : ℕ). T (hasb q (word naming z))) d s)))
        (λ d. inl (subst (λ (z : ℕ). T (hasb k z)) (v.others y d) t)) (same_or_not y x)

    touched_next : (q : ℕ) → T (hasb q touched) → T (hasb q next)
    touched_next q t = subst⁻¹ (λ (n : ℕ). T (hasb q n)) m (union_left q touched more t)

    more_next : (q : ℕ) → T (hasb q more) → T (hasb q next)
    more_next q t = subst⁻¹ (λ (n : ℕ). T (hasb q n)) m (union_right q touched more t)

    -- what was lacking in the middle was lacking at first
    lacking : (y k : ℕ) → T (not (hasb k (word mid y))) → T (not (hasb k (word ids y)))
    lacking y k t = not_T (hasb k (word ids y)) (λ s. T_not (hasb k (word mid y)) t (w.gathered.keeps y k s))

    pub gathering_turn : Gathering g p rows (i + 1) naming ids after next
    unfolding x
    gathering_turn =
        record {
          gathered = record {
            size = v.size ∙ w.gathered.size;
            keeps = λ y k t. keep y k (w.gathered.keeps y k t);
            has = λ j k l t. ⊎_elim (λ s. keep (symbol_from g p j) k (w.gathered.has j k s t)) (λ s. new j k s t) (below_suc j i (omega arith));
            sound = λ y k t. ⊎_elim (λ s. here y k s t) (λ s. old y k (subst (λ (z : ℕ). T (hasb k z)) (v.others y s) t)) (same_or_not y x);
          };
          touches = λ y k q t s.
              ⊎_elim (λ l. ⊎_elim (λ n. inl n) (λ n. inr (touched_next q n)) (w.touches y k q l s)) (λ l. inr (more_next q l)) (touch y k q t s);
          reason = λ q t.
              ⊎_elim
              (λ s.
              let u = w.reason q s in
              record {
                symbol = u.symbol;
                names = u.names;
                new = record { arc = u.new.arc; lacked = u.new.lacked; there = keep u.symbol u.new.arc u.new.there };
              })
              (λ s.
              let u = v.new q s in
              record {
                symbol = x;
                names = v.only q s;
                new = record { arc = u.arc; lacked = lacking x u.arc u.lacked; there = u.there };
              })
              (union_cases q touched more (subst (λ (n : ℕ). T (hasb q n)) m t));
        }

  pub gathering_finish : (after : List ℕ) (touched n i : ℕ) → Gathering g p rows i naming ids after touched → n ≡ length_at g p → i ≤ n + 1
      → n + 1 ≤ i → Gathering g p rows (length_at g p + 1) naming ids after touched
  gathering_finish after touched n i v e h l =
      let q : i ≡ length_at g p + 1 = omega arith in subst (λ (j : ℕ). Gathering g p rows j naming ids after touched) q v
