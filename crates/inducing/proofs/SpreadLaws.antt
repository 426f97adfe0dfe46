-- A rule's positions one after the other: the arcs of each symbol are added there, and the arcs there are put to those of the symbol.
-- Assumes nothing.
use Prim.Native.Nat.{ℕ, ◌+◌, ◌*◌, ◌/◌, ◌%◌, ◌^◌, ◌≤◌, ◌<◌}
use mathlib.Core.Path.{◌≡◌, ap, subst, subst⁻¹}
use mathlib.Core.Logic.{◌⊎◌, inl, inr, ⊎_elim}
use mathlib.Core.Bool.{Bool}
use mathlib.Core.List.{List}
use native.Mathlib.Omega.{arith}
use lib.Dec.{T, T_not}
use lib.ListN.{get_or}
use Rattle.bits.specs.Bit.{hasb}
use Rattle.bits.proofs.MemberLaws.{hasb_below, none_left}
use Rattle.basics.specs.Lists.{word}
use Rattle.basics.proofs.TestLaws.{below_suc, and_right}
use Rattle.grammar.specs.Table.{attributes, length_at, functions_at}
use Rattle.access.specs.ByPlace.{symbol_from}
use Rattle.closing.specs.Rows.{leads, arcs_at, Kept}
use Rattle.closing.proofs.GatherLaws.{arc_at, arcs_lt}
use Rattle.closing.specs.Closure.{Meeting}
use Rattle.inducing.specs.Closes.{Inside, Grown, Marked, Joined, ArcAt}
use Rattle.inducing.specs.Arcs.{RuleArc, SpreadArc, OpeningArc, of_rule, of_symbol, Ruled, FunctionsFit, ArcsFit}
use Rattle.inducing.proofs.GrownLaws.{grown_then}
use Rattle.inducing.proofs.FunctionLaws.{functions_inside}
use Rattle.inducing.proofs.JoinLaws.{joined_there, joined_then}

-- an arc that is gathered at a position: it starts at an attribute there, and the rows lead along it
pub arc_leads : (rows : List ℕ) (i count k : ℕ) → T (hasb k (arcs_at rows i count)) → T (leads rows (8 * i + k / 8) (8 * i + k % 8))
arc_leads rows i count k t =
    and_right _ _ (subst (λ (b : Bool). T b) (arc_at rows i count k (hasb_below 64 k _ (arcs_lt rows i count) t)) t)

-- the symbol at a position of a rule
module _ (g : List ℕ) (p : ℕ) (w : Ruled g p) (i : ℕ) (h : i ≤ length_at g p) where
  pub position_small : i < 8
  position_small = omega (arith, w.shaped.short)

  pub symbol_small : (x : ℕ) → x ≡ symbol_from g p i → x < 32
  symbol_small x q = omega (arith, w.symbol_fits i h)

  pub count_small : (x c : ℕ) → x ≡ symbol_from g p i → c ≡ attributes g x → c ≤ 8
  count_small x c q d = omega (arith, ap (attributes g) q, (w.shaped.formed i h).attributes_fit)

pub position_inside : (g : List ℕ) (p n i : ℕ) → n ≡ length_at g p → i < n + 1 → i ≤ length_at g p
position_inside g p n i e h = omega arith

module _ (entry : List ℕ) (g : List ℕ) (p : ℕ) (arcs : List ℕ) where
  pub spread_start : Joined entry 0 (SpreadArc g p arcs 0) entry 0
  spread_start = joined_there entry 0 (SpreadArc g p arcs 0) (λ a b s. absurd (let h = s.place_fits in omega arith))

  pub spread_here : (set more : ℕ) (after : List ℕ) (i x : ℕ) → x ≡ symbol_from g p i → Joined entry set (ArcAt i (get_or arcs x 0)) after more
      → Joined entry set (ArcAt i (word arcs (symbol_from g p i))) after more
  spread_here set more after i x q v = subst (λ (y : ℕ). Joined entry set (ArcAt i (word arcs y)) after more) q v

  pub spread_turn : (rows : List ℕ) (i more most : ℕ) (after : List ℕ) → Joined entry 0 (SpreadArc g p arcs i) rows more
      → Joined rows more (ArcAt i (word arcs (symbol_from g p i))) after most → Joined entry 0 (SpreadArc g p arcs (i + 1)) after most
  spread_turn rows i more most after v u =
      joined_then entry 0 rows after more most (SpreadArc g p arcs i) (ArcAt i (word arcs (symbol_from g p i))) (SpreadArc g p arcs (i + 1)) v u
      (λ c d s.
      ⊎_elim (λ l. inl (record { place = s.place; place_fits = l; arc = s.arc }))
      (λ l. inr (subst (λ (j : ℕ). ArcAt j (word arcs (symbol_from g p j)) c d) l s.arc))
      (below_suc s.place i (omega (arith, s.place_fits))))
      (λ c d s. record { place = s.place; place_fits = omega (arith, s.place_fits); arc = s.arc })
      (λ c d s. record { place = i; place_fits = omega arith; arc = s })

  pub spread_finish : (rows : List ℕ) (n i more : ℕ) → Joined entry 0 (SpreadArc g p arcs i) rows more → n ≡ length_at g p → i ≤ n + 1 → n + 1 ≤ i
      → Joined entry 0 (SpreadArc g p arcs (length_at g p + 1)) rows more
  spread_finish rows n i more v e h l =
      let q : i ≡ length_at g p + 1 = omega arith in subst (λ (j : ℕ). Joined entry 0 (SpreadArc g p arcs j) rows more) q v

-- the ends of the arcs of the symbols are occurrences
pub spread_inside : (g : List ℕ) (p : ℕ) (arcs : List ℕ) (among : ℕ) → ArcsFit g p among arcs → Inside among (SpreadArc g p arcs (length_at g p + 1))
spread_inside g p arcs among f c d s =
    let t = f s.place (omega (arith, s.place_fits)) s.arc.number s.arc.member in
    (subst⁻¹ (λ (o : ℕ). T (hasb o among)) s.arc.start t.0, subst⁻¹ (λ (o : ℕ). T (hasb o among)) s.arc.end t.1)

-- Arcs between occurrences that are added to closed rows: paths meet at every occurrence but those from which arcs start.
pub joined_meeting : (before : List ℕ) (among : ℕ) (arc : ℕ → ℕ → Type 0) (after : List ℕ) (starts : ℕ) → Kept before among → among < 2 ^ 64
    → Inside among arc → Joined before 0 arc after starts → Meeting after among starts
joined_meeting before among arc after starts k small inside w =
    record {
      within = λ o t.
          ⊎_elim (λ s. absurd (T_not (hasb o 0) (none_left o) s)) (λ s. (inside o s.0 s.1).0) (w.starts o t);
      meets = λ o j x n s t.
          w.met (λ c i y hc hi l p q. k.closed c i y hc hi p q) o j x (hasb_below 64 o among small s.0) (hasb_below 64 j among small t.0) n s.1 t.1;
    }

-- The arcs of the functions and of the symbols, added to the rows of a rule that are not closed in between.
opening_parts : (g : List ℕ) (p : ℕ) (arcs : List ℕ) (c d : ℕ) → OpeningArc g p arcs c d
    → RuleArc g p (functions_at g p) c d ⊎ SpreadArc g p arcs (length_at g p + 1) c d
opening_parts g p arcs c d (of_rule s) = inl s
opening_parts g p arcs c d (of_symbol s) = inr s

pub opening_grown : (before : List ℕ) (g : List ℕ) (p : ℕ) (arcs mid after : List ℕ) (starts : ℕ)
    → Marked before (RuleArc g p (functions_at g p)) mid → Joined mid 0 (SpreadArc g p arcs (length_at g p + 1)) after starts
    → Grown before (OpeningArc g p arcs) after
opening_grown before g p arcs mid after starts v u =
    grown_then before mid after (RuleArc g p (functions_at g p)) (SpreadArc g p arcs (length_at g p + 1)) (OpeningArc g p arcs) v.grown u.grown
    (opening_parts g p arcs) (λ c d s. of_rule s) (λ c d s. of_symbol s)

pub opening_inside : (g : List ℕ) (p among : ℕ) (arcs : List ℕ) → FunctionsFit g p among → ArcsFit g p among arcs → Inside among (OpeningArc g p arcs)
opening_inside g p among arcs f a c d s =
    ⊎_elim (λ y. functions_inside g p among f c d y) (λ y. spread_inside g p arcs among a c d y) (opening_parts g p arcs c d s)
