-- What a rule's actions are and make available depends on the set numbers of the symbols alone: two lists of words that agree there,
-- as a plan and its set words do, have the same visits, actions and makers. Assumes nothing.
use Prim.Native.Nat.{ℕ, suc, ◌+◌, ◌-◌, ◌/◌, ◌≤◌, ◌<◌, max}
use mathlib.Core.Path.{◌≡◌, ap, ap₂, subst}
use mathlib.Core.Bool.{Bool, not}
use mathlib.Core.List.{List}
use native.Mathlib.Omega.{arith}
use lib.Dec.{T, leb, eqb, leb→le}
use Rattle.basics.specs.Tests.{◌and◌}
use Rattle.basics.proofs.TestLaws.{and_intro, and_left, and_right}
use Rattle.grammar.specs.Limits.{most_symbols, most_attributes}
use Rattle.grammar.specs.Table.{rules, right_length, symbol_of, occurrence, inherited_at, position, attribute}
use Rattle.grammar.specs.WellFormed.{WellFormed}
use Rattle.grammar.proofs.OccurrenceLaws.{occurs_inside}
use Rattle.sets.specs.Visits.{set_number, last_set, visits, visit_of_set, visit_of}
use Rattle.sets.proofs.Visits.{highest_same}
use Rattle.sequences.specs.Actions.{
  Action,
  compute,
  visit,
  leave,
  none,
  decode,
  belongs,
  is_action,
  visit_at,
  inherited_of,
  synthesized_of,
  makes,
}

module _ (g p s : List ℕ) (w : WellFormed g) (same : (x a : ℕ) → x < most_symbols → a < most_attributes → set_number p x a ≡ set_number s x a) where
  pub visits_same : (x : ℕ) → x < most_symbols → visits p x ≡ visits s x
  unfolding visits last_set
  visits_same x h = ap (λ (m : ℕ). max 1 ((m + 1) / 2)) (highest_same most_attributes (λ a. set_number p x a) (λ a. set_number s x a) (λ a l. same x a h l))

  visit_of_same : (x a : ℕ) → x < most_symbols → a < most_attributes → visit_of p x a ≡ visit_of s x a
  unfolding visit_of visit_of_set
  visit_of_same x a h l = ap₂ (λ (v k : ℕ). v + 1 - (k + 1) / 2) (visits_same x h) (same x a h l)

  module _ (r : ℕ) (counts : r < rules g) where
    pub symbol_small : (i : ℕ) → i ≤ right_length g r → symbol_of g r i < most_symbols
    symbol_small i h = omega (arith, (w.rule r counts).symbols_fit i h, w.symbols_fit)

    pub belongs_forth : (act : Action) → T (belongs g p r act) → T (belongs g s r act)
    unfolding belongs
    belongs_forth (compute o) t = t
    belongs_forth (visit i n) t =
        let t₁ = and_right _ _ t in
        let t₂ = and_right _ _ t₁ in
        let t₃ = and_right _ _ t₂ in
        and_intro _ _ (and_left _ _ t)
        (and_intro _ _ (and_left _ _ t₁)
        (and_intro _ _ (and_left _ _ t₂)
        (and_intro _ _ (and_left _ _ t₃)
        (subst (λ (v : ℕ). T (leb n v)) (visits_same (symbol_of g r i) (symbol_small i (leb→le i (right_length g r) (and_left _ _ t₁))))
        (and_right _ _ t₃)))))
    belongs_forth (leave n) t =
        and_intro _ _ (and_left _ _ t)
        (subst (λ (v : ℕ). T (leb n v)) (visits_same (symbol_of g r 0) (symbol_small 0 (omega arith))) (and_right _ _ t))
    belongs_forth none t = t

    -- an attribute of either class
    of_visit_forth : (class : Bool) (i n o : ℕ) → T (occurrence g r o and eqb (position o) i and class and eqb (visit_at g p r o) n)
        → T (occurrence g r o and eqb (position o) i and class and eqb (visit_at g s r o) n)
    unfolding visit_at
    of_visit_forth class i n o t =
        let t₁ = and_right _ _ t in
        let t₂ = and_right _ _ t₁ in
        and_intro _ _ (and_left _ _ t)
        (and_intro _ _ (and_left _ _ t₁)
        (and_intro _ _ (and_left _ _ t₂)
        (subst (λ (v : ℕ). T (eqb v n))
        (visit_of_same (symbol_of g r (position o)) (attribute o) (symbol_small (position o) (occurs_inside g r o (and_left _ _ t))) (omega arith))
        (and_right _ _ t₂))))

    pub inherited_forth : (i n o : ℕ) → T (inherited_of g p r i n o) → T (inherited_of g s r i n o)
    unfolding inherited_of
    inherited_forth i n o t = of_visit_forth (inherited_at g r o) i n o t

    pub synthesized_forth : (i n o : ℕ) → T (synthesized_of g p r i n o) → T (synthesized_of g s r i n o)
    unfolding synthesized_of
    synthesized_forth i n o t = of_visit_forth (not (inherited_at g r o)) i n o t

    pub makes_forth : (act : Action) (o : ℕ) → T (makes g p r act o) → T (makes g s r act o)
    unfolding makes
    makes_forth (compute q) o t = t
    makes_forth (visit i n) o t = and_intro _ _ (and_left _ _ t) (synthesized_forth i n o (and_right _ _ t))
    makes_forth (leave n) o t = inherited_forth 0 (suc n) o t
    makes_forth none o t = t

    pub action_forth : (a : ℕ) → T (is_action g p r a) → T (is_action g s r a)
    unfolding is_action
    action_forth a t = belongs_forth (decode a) t
