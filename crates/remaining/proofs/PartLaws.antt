-- The attributes of a symbol by visit and its last set, as the code finds them: after a turns the loop has what the first a attributes give.
-- Assumes nothing.
use Prim.Native.Nat.{ℕ, ◌+◌, ◌*◌, ◌-◌, ◌/◌, ◌%◌, ◌^◌, ◌≤◌, ◌<◌, max}
use mathlib.Core.Path.{◌≡◌, refl, sym, ◌∙◌, ap, ap₂, subst, subst⁻¹}
use mathlib.Core.Logic.{◌⊎◌, inl, inr, ⊎_elim}
use mathlib.Core.Bool.{Bool, cond}
use mathlib.Core.List.{List}
use native.Mathlib.Omega.{arith}
use native.Mathlib.Numerals.{add-one}
use native.Mathlib.Nat.{max_comm}
use lib.Dec.{T, eqb, eqb→eq, T_not}
use lib.ListN.{get_or, length, set, length-set}
use lib.Seq.{get_or-set_same, get_or-set_other}
use borrow.Author.Rules.{rules}
use Rattle.std.specs.Ordering.{ord_max, nat_cmp}
use Rattle.basics.specs.Lists.{word}
use Rattle.basics.proofs.TestLaws.{and_intro, and_left, and_right, tested, same_test, below_or_not, eq_T, chosen, passed_over}
use Rattle.bits.specs.Bit.{hasb, insert}
use Rattle.bits.proofs.SetLaws.{insert_lt}
use Rattle.bits.proofs.CollectLaws.{collect_lt}
use Rattle.bits.proofs.MemberLaws.{hasb_collect, hasb_ext, none_left, insert_cases, insert_new, insert_old}
use Rattle.grammar.specs.Limits.{most_symbols}
use Rattle.grammar.specs.Table.{symbols}
use Rattle.sets.specs.Visits.{set_number, half_up, highest, last_set, visits}
use Rattle.sets.proofs.Visits.{number_to_last}
use Rattle.remaining.specs.declared.ByVisit.{ByVisit as Kept}
use Rattle.remaining.specs.RuleSets.{part_at, part_by_visit, symbol_visits, ByVisit, FewVisits}

-- no set is past the visits of its symbol
pub set_within : (s : List ℕ) (x a : ℕ) → a < 8 → half_up (set_number s x a) ≤ visits s x
unfolding visits
set_within s x a h = omega (arith, number_to_last s x a h)

module _ (s : List ℕ) (x odd : ℕ) where
  pub part_at_law : (j a : ℕ) → j % 8 ≡ a → T (part_at s x odd j) → (set_number s x a % 2 ≡ odd) × (visits s x - half_up (set_number s x a) ≡ j / 8)
  unfolding part_at
  part_at_law j a e t =
      subst (λ (b : ℕ). (set_number s x b % 2 ≡ odd) × (visits s x - half_up (set_number s x b) ≡ j / 8)) e
      (eqb→eq _ _ (and_left _ _ t), eqb→eq _ _ (and_right _ _ t))

  pub at_part : (j a : ℕ) → j % 8 ≡ a → set_number s x a % 2 ≡ odd → visits s x - half_up (set_number s x a) ≡ j / 8 → T (part_at s x odd j)
  unfolding part_at
  at_part j a e f q =
      let g : (set_number s x (j % 8) % 2 ≡ odd) × (visits s x - half_up (set_number s x (j % 8)) ≡ j / 8) =
      subst⁻¹ (λ (b : ℕ). (set_number s x b % 2 ≡ odd) × (visits s x - half_up (set_number s x b) ≡ j / 8)) e (f, q) in
      and_intro _ _ (eq_T _ _ g.0) (eq_T _ _ g.1)

  -- those of the first a attributes
  pub record Parting (v part a : ℕ) : Type 0 where
    pub inside : a ≤ 8
    pub visits_are : v ≡ visits s x
    pub few : v ≤ 5
    pub small : part < 2 ^ 64
    pub found : (j : ℕ) → T (hasb j part) → (j % 8 < a) × T (part_at s x odd j)
    pub all : (j : ℕ) → j < 64 → j % 8 < a → T (part_at s x odd j) → T (hasb j part)

  pub parting_start : (v : ℕ) → v ≡ visits s x → v ≤ 5 → Parting v 0 0
  parting_start v e h =
      record {
        inside = omega arith;
        visits_are = e;
        few = h;
        small = omega arith;
        found = λ j t. absurd (T_not (hasb j 0) (none_left j) t);
        all = λ j h l t. absurd (omega arith);
      }

  -- attribute a has a place, since its set is not past the visits
  pub parting_set : (v part a m : ℕ) → Parting v part a → a < 8 → m ≡ get_or s (8 * x + a) 0 → (m + 1) / 2 ≤ v
  unfolding set_number
  parting_set v part a m w h e = omega (arith, e, w.visits_are, set_within s x a h)

  pub parting_place : (v part a m : ℕ) → Parting v part a → a < 8 → 8 * (v - (m + 1) / 2) + a < 64
  parting_place v part a m w h = omega (arith, w.few)

  module _ (v part a : ℕ) (w : Parting v part a) (h : a < 8) where
    abbrev place : ℕ
    place = 8 * (v - half_up (set_number s x a)) + a

    abbrev test : Bool
    test = eqb (set_number s x a % 2) odd

    turned : (next : ℕ) → next < 2 ^ 64 → ((j : ℕ) → T (hasb j next) → ((j ≡ place) × T test) ⊎ T (hasb j part))
        → ((j : ℕ) → T (hasb j part) → T (hasb j next)) → (T test → T (hasb place next)) → Parting v next (a + 1)
    turned next small cases old new =
        record {
          inside = omega arith;
          visits_are = w.visits_are;
          few = w.few;
          small = small;
          found = λ j t.
              ⊎_elim
              (λ u. (
                omega (arith, u.0),
                at_part j a (omega (arith, u.0)) (eqb→eq _ _ u.1) (omega (arith, u.0, w.visits_are)),
              ))
              (λ u. let k = w.found j u in (omega (arith, k.0), k.1)) (cases j t);
          all = λ j l k t.
              ⊎_elim (λ i. old j (w.all j l i t))
              (λ i.
              let e : j % 8 ≡ a = omega arith in
              let u = part_at_law j a e t in
              let q : j ≡ place = omega (arith, u.1, w.visits_are) in
              subst⁻¹ (λ (y : ℕ). T (hasb y next)) q (new (eq_T _ _ u.0)))
              (below_or_not (j % 8) a);
        }

    part_more : Parting v (cond test (insert place part) part) (a + 1)
    part_more =
        ⊎_elim
        (λ t.
        subst⁻¹ (λ (y : ℕ). Parting v y (a + 1)) (chosen test (insert place part) part t)
        (turned (insert place part) (insert_lt 64 place part (omega (arith, w.few)) w.small)
        (λ j u. ⊎_elim (λ e. inl (e, t)) (λ i. inr i) (insert_cases j place part u)) (λ j u. insert_old j place part u) (λ u. insert_new place part)))
        (λ t.
        subst⁻¹ (λ (y : ℕ). Parting v y (a + 1)) (passed_over test (insert place part) part t)
        (turned part w.small (λ j u. inr u) (λ j u. u) (λ u. absurd (T_not test t u))))
        (tested test)

  pub parting_turn : (v part a m r : ℕ) → Parting v part a → a < 8 → m ≡ get_or s (8 * x + a) 0
      → r ≡ cond (eqb (m % 2) odd) (insert (8 * (v - (m + 1) / 2) + a) part) part → Parting v r (a + 1)
  unfolding set_number
  parting_turn v part a m r w h e f =
      subst⁻¹ (λ (y : ℕ). Parting v y (a + 1))
      (f ∙ ap (λ (k : ℕ). cond (eqb (k % 2) odd) (insert (8 * (v - (k + 1) / 2) + a) part) part) e) (part_more v part a w h)

  pub parting_finish : (v part a : ℕ) → Parting v part a → 8 ≤ a → part ≡ part_by_visit s x odd
  unfolding part_by_visit
  parting_finish v part a w h =
      hasb_ext 64 part (part_by_visit s x odd) w.small (collect_lt 64 _)
      (λ j l.
      same_test (hasb j part) (hasb j (part_by_visit s x odd))
      (λ t. subst⁻¹ (λ (b : Bool). T b) (hasb_collect 64 j _ l) (w.found j t).1)
      (λ t. w.all j l (omega arith) (subst (λ (b : Bool). T b) (hasb_collect 64 j _ l) t)))

-- one symbol's word more is written
grows : (kept : List ℕ) (f : ℕ → ℕ) (x m : ℕ) → x < length kept → m ≡ f x → ((y : ℕ) → y < x → word kept y ≡ f y)
    → (y : ℕ) → y < x + 1 → word (set kept x m) y ≡ f y
grows kept f x m h e is y l =
    ⊎_elim (λ q. get_or-set_other kept x y m 0 (λ z. omega arith) ∙ is y q)
    (λ q.
    let z : y ≡ x = omega arith in
    subst⁻¹ (λ (k : ℕ). word (set kept x m) k ≡ f k) z (get_or-set_same kept x m 0 h ∙ e))
    (below_or_not y x)

-- the table has the words of the first x symbols
pub record Tabling (g s : List ℕ) (by : Kept) (n x : ℕ) : Type 0 where
  pub count_is : n ≡ symbols g
  pub inside : x ≤ n
  pub fits : n ≤ most_symbols
  pub few : FewVisits s
  pub even_size : length by.inherited ≡ most_symbols
  pub odd_size : length by.synthesized ≡ most_symbols
  pub calls_size : length by.visits ≡ most_symbols
  pub even : (y : ℕ) → y < x → word by.inherited y ≡ part_by_visit s y 0
  pub odd : (y : ℕ) → y < x → word by.synthesized y ≡ part_by_visit s y 1
  pub calls : (y : ℕ) → y < x → word by.visits y ≡ symbol_visits g y (visits s y)

module _ (g s : List ℕ) where
  pub tabling_start : (by : Kept) (n : ℕ) → symbols g ≤ most_symbols → FewVisits s → n ≡ symbols g → length by.inherited ≡ most_symbols
      → length by.synthesized ≡ most_symbols → length by.visits ≡ most_symbols → Tabling g s by n 0
  tabling_start by n h few e a b c =
      record {
        count_is = e;
        inside = omega arith;
        fits = omega arith;
        few = few;
        even_size = a;
        odd_size = b;
        calls_size = c;
        even = λ y l. absurd (omega arith);
        odd = λ y l. absurd (omega arith);
        calls = λ y l. absurd (omega arith);
      }

  pub tabling_few : (by : Kept) (n x v : ℕ) → Tabling g s by n x → v ≡ visits s x → v ≤ 5
  tabling_few by n x v w e = omega (arith, w.few x)

  pub tabling_turn : (by : Kept) (n x v i j k : ℕ) → Tabling g s by n x → x < n → v ≡ visits s x → i ≡ part_by_visit s x 0 → j ≡ part_by_visit s x 1
      → k ≡ symbol_visits g x v
      → Tabling g s (record { inherited = set by.inherited x i; synthesized = set by.synthesized x j; visits = set by.visits x k }) n (x + 1)
  tabling_turn by n x v i j k w h z e f q =
      record {
        count_is = w.count_is;
        inside = omega arith;
        fits = w.fits;
        few = w.few;
        even_size = length-set by.inherited x i ∙ w.even_size;
        odd_size = length-set by.synthesized x j ∙ w.odd_size;
        calls_size = length-set by.visits x k ∙ w.calls_size;
        even = grows by.inherited (λ y. part_by_visit s y 0) x i (omega (arith, w.even_size, w.fits)) e w.even;
        odd = grows by.synthesized (λ y. part_by_visit s y 1) x j (omega (arith, w.odd_size, w.fits)) f w.odd;
        calls =
            grows by.visits (λ y. symbol_visits g y (visits s y)) x k (omega (arith, w.calls_size, w.fits)) (q ∙ ap (symbol_visits g x) z) w.calls;
      }

  pub tabling_finish : (by : Kept) (n x : ℕ) → Tabling g s by n x → n ≤ x → ByVisit g s by
  tabling_finish by n x w h =
      record {
        even = λ y l. w.even y (omega (arith, w.count_is));
        odd = λ y l. w.odd y (omega (arith, w.count_is));
        calls = λ y l. w.calls y (omega (arith, w.count_is));
      }

-- `max` of std at numbers
pub larger_is : (a b r : ℕ) → r ≡ ord_max nat_cmp a b → r ≡ max a b
larger_is a b r e = search rules

pub record Climbing (s : List ℕ) (x last a : ℕ) : Type 0 where
  pub inside : a ≤ 8
  pub last_is : last ≡ highest a (λ a. set_number s x a)
  pub small : last < 65536

pub climbing_start : (s : List ℕ) (x : ℕ) → Climbing s x 0 0
unfolding highest
climbing_start s x = record { inside = omega arith; last_is = refl; small = omega arith }

pub climbing_turn : (s : List ℕ) (x last a m r : ℕ) → Climbing s x last a → a < 8 → m ≡ get_or s (8 * x + a) 0 → m < 65536
    → r ≡ max last m → Climbing s x r (a + 1)
unfolding set_number highest
climbing_turn s x last a m r w h e l f =
    record {
      inside = omega arith;
      last_is =
          f ∙ (ap₂ max w.last_is e ∙ ap (λ (k : ℕ). highest k (λ a. set_number s x a)) (sym (add-one a)));
      small = omega (arith, w.small);
    }

pub climbing_finish : (s : List ℕ) (x last a : ℕ) → Climbing s x last a → 8 ≤ a → last ≡ last_set s x
unfolding last_set
climbing_finish s x last a w h =
    let e : a ≡ 8 = omega (arith, w.inside) in w.last_is ∙ ap (λ (n : ℕ). highest n (λ a. set_number s x a)) e

pub visits_by : (s : List ℕ) (x last r : ℕ) → last ≡ last_set s x → r ≡ max ((last + 1) / 2) 1 → r ≡ visits s x
unfolding visits
visits_by s x last r e f = f ∙ (ap (λ (k : ℕ). max ((k + 1) / 2) 1) e ∙ max_comm ((last_set s x + 1) / 2) 1)
