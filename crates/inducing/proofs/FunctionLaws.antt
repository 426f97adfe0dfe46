-- The arcs of functions are marked function by function, those of a function argument by argument.
-- Assumes nothing.
use Prim.Native.Nat.{ℕ, ◌+◌, ◌*◌, ◌^◌, ◌≤◌, ◌<◌}
use mathlib.Core.Path.{◌≡◌, refl, sym, ◌∙◌, ap, subst, subst⁻¹}
use mathlib.Core.Logic.{inl, inr, ⊎_elim}
use mathlib.Core.Bool.{Bool, cond}
use mathlib.Core.List.{List}
use native.Mathlib.Omega.{arith}
use native.Mathlib.Numerals.{add-one}
use lib.Dec.{T}
use lib.ListN.{length, get_or}
use borrow.Author.Tests.{eq-eqb, ne_eqb}
use Rattle.bits.specs.Bit.{hasb}
use Rattle.bits.proofs.MemberLaws.{hasb_below}
use Rattle.basics.specs.Lists.{word}
use Rattle.basics.proofs.TestLaws.{below_suc}
use Rattle.grammar.specs.Table.{argument_words, is_constant, function_at, functions_at}
use Rattle.inducing.specs.Closes.{Only, Inside, Marked}
use Rattle.inducing.specs.Arcs.{arguments_at, FunctionArc, FunctionSmall, RuleArc, FunctionFits, FunctionsFit, FunctionsSmall}
use Rattle.inducing.proofs.MarkLaws.{marked_none, marked_then}

-- how many arguments an operation has: a constant has none
pub no_arguments : (op n : ℕ) → op ≡ 0 → 0 ≡ cond (is_constant op) 0 n
no_arguments op n z = sym (ap (λ (b : Bool). cond b 0 n) (eq-eqb op 0 z))

pub some_arguments : (op n : ℕ) → (op ≡ 0 → ⊥) → n ≡ cond (is_constant op) 0 n
some_arguments op n z = sym (ap (λ (b : Bool). cond b 0 n) (ne_eqb op 0 z))

-- an occurrence is below 64
module _ (g : List ℕ) (among : ℕ) (small : among < 2 ^ 64) where
  function_small : (f : ℕ) → FunctionFits g among f → FunctionSmall g f
  function_small f w =
      record {
        there = w.there;
        target_small = hasb_below 64 (word g f) among small w.target_fits;
        argument_small = λ j l. hasb_below 64 (word g (f + 2 + j)) among small (w.argument_fits j l);
      }

  pub functions_small : (p : ℕ) → FunctionsFit g p among → FunctionsSmall g p
  functions_small p w k l = function_small (function_at g p k) (w k l)

-- the arcs of functions that speak of occurrences lie between these
pub functions_inside : (g : List ℕ) (p among : ℕ) → FunctionsFit g p among → Inside among (RuleArc g p (functions_at g p))
functions_inside g p among w a b s =
    let v = w s.function s.function_fits in (
      subst⁻¹ (λ (o : ℕ). T (hasb o among)) s.arc.argument (v.argument_fits s.arc.place s.arc.place_fits),
      subst⁻¹ (λ (o : ℕ). T (hasb o among)) s.arc.target v.target_fits,
    )

-- ---- the arcs of one function, argument by argument

module _ (g : List ℕ) (f op n count : ℕ) (e : op ≡ get_or g (f + 1) 0) (h : n ≡ argument_words op) (m : count ≡ cond (is_constant op) 0 n) where
  arguments_are : count ≡ arguments_at g f
  unfolding arguments_at
  arguments_are =
      m
      ∙ (ap (λ (k : ℕ). cond (is_constant op) 0 k) h ∙ ap (λ (o : ℕ). cond (is_constant o) 0 (argument_words o)) e)

  pub argument_small_law : (j a : ℕ) → FunctionSmall g f → j < count → a ≡ get_or g (f + 2 + j) 0 → a < 64
  argument_small_law j a w l q = omega (arith, w.argument_small j (omega (arith, arguments_are, l)), q)

  pub argument_there : (j : ℕ) → FunctionSmall g f → j < count → count ≤ n → f + 2 + j < length g
  argument_there j w l k = omega (arith, w.there, ap argument_words e, h, l, k)

  pub next_is : (next : ℕ) → next ≡ f + 2 + n → next ≡ f + 2 + argument_words (get_or g (f + 1) 0)
  next_is next q = omega (arith, q, h, ap argument_words e)

  pub arguments_finish : (entry : List ℕ) (rows : List ℕ) (j : ℕ) → Marked entry (FunctionArc g f j) rows → j ≤ count → count ≤ j
      → Marked entry (FunctionArc g f (arguments_at g f)) rows
  arguments_finish entry rows j w a b =
      let q : j ≡ arguments_at g f = omega (arith, arguments_are) in subst (λ (i : ℕ). Marked entry (FunctionArc g f i) rows) q w

module _ (g : List ℕ) (f : ℕ) where
  pub target_small_law : (b : ℕ) → FunctionSmall g f → b ≡ get_or g f 0 → b < 64
  target_small_law b w e = omega (arith, w.target_small)

  module _ (entry : List ℕ) where
    pub arguments_start : Marked entry (FunctionArc g f 0) entry
    arguments_start = marked_none entry (FunctionArc g f 0) (λ a b s. let h = s.place_fits in omega arith)

    pub arguments_turn : (rows after : List ℕ) (j a target : ℕ) → Marked entry (FunctionArc g f j) rows → target ≡ get_or g f 0
        → a ≡ get_or g (f + 2 + j) 0 → Marked rows (Only a target) after → Marked entry (FunctionArc g f (j + 1)) after
    arguments_turn rows after j a target w t q v =
        marked_then entry rows after (FunctionArc g f j) (Only a target) (FunctionArc g f (j + 1)) w v
        (λ c d s.
        ⊎_elim (λ l. inl (record { place = s.place; place_fits = l; argument = s.argument; target = s.target }))
        (λ l. inr (record { start = s.argument ∙ (ap (λ (k : ℕ). word g (f + 2 + k)) l ∙ sym q); end = s.target ∙ sym t }))
        (below_suc s.place j (omega (arith, s.place_fits))))
        (λ c d s. record { place = s.place; place_fits = omega (arith, s.place_fits); argument = s.argument; target = s.target })
        (λ c d s. record { place = j; place_fits = omega arith; argument = s.start ∙ q; target = s.end ∙ t })

-- ---- the arcs of a rule, function by function

-- function k of the rule at word p starts at word f, and the arcs of those before it are marked
pub record MarkingRule (g : List ℕ) (p : ℕ) (entry : List ℕ) (k f : ℕ) (rows : List ℕ) : Type 0 where
  pub starts : f ≡ function_at g p k
  pub near : f ≤ 131075 + 6 * k
  pub room : length entry ≡ 64
  pub size : length rows ≡ length entry
  pub marks : Marked entry (RuleArc g p k) rows

module _ (entry : List ℕ) (g : List ℕ) (p : ℕ) where
  pub rule_start : (f : ℕ) → length entry ≡ 64 → f ≡ function_at g p 0 → f < 131075 → MarkingRule g p entry 0 f entry
  rule_start f r e h =
      record {
        starts = e;
        near = omega arith;
        room = r;
        size = refl;
        marks = marked_none entry (RuleArc g p 0) (λ a b s. let h = s.function_fits in omega arith);
      }

  pub rule_turn : (rows : List ℕ) (k n f next : ℕ) (after : List ℕ) → MarkingRule g p entry k f rows
      → n ≡ functions_at g p → k < n → Marked rows (FunctionArc g f (arguments_at g f)) after
      → next ≡ f + 2 + argument_words (get_or g (f + 1) 0) → next ≤ f + 6 → MarkingRule g p entry (k + 1) next after
  unfolding function_at
  rule_turn rows k n f next after v m l u q h =
      record {
        starts = q ∙ (ap (λ (i : ℕ). i + 2 + argument_words (word g (i + 1))) v.starts ∙ ap (function_at g p) (sym (add-one k)));
        near = omega (arith, v.near);
        room = v.room;
        size = u.grown.size ∙ v.size;
        marks = marked_then entry rows after (RuleArc g p k) (FunctionArc g f (arguments_at g f)) (RuleArc g p (k + 1)) v.marks u
            (λ c d s.
            ⊎_elim (λ i. inl (record { function = s.function; function_fits = i; arc = s.arc }))
            (λ i.
            inr (subst⁻¹ (λ (j : ℕ). FunctionArc g j (arguments_at g j) c d) v.starts
            (subst (λ (j : ℕ). FunctionArc g (function_at g p j) (arguments_at g (function_at g p j)) c d) i s.arc)))
            (below_suc s.function k (omega (arith, s.function_fits))))
            (λ c d s. record { function = s.function; function_fits = omega (arith, s.function_fits); arc = s.arc })
            (λ c d s. record { function = k; function_fits = omega arith; arc = subst (λ (j : ℕ). FunctionArc g j (arguments_at g j) c d) v.starts s });
      }

  pub rule_finish : (rows : List ℕ) (k n f : ℕ) → MarkingRule g p entry k f rows → n ≡ functions_at g p → k ≤ n → n ≤ k
      → Marked entry (RuleArc g p (functions_at g p)) rows
  rule_finish rows k n f v m h l =
      let e : k ≡ functions_at g p = omega arith in subst (λ (i : ℕ). Marked entry (RuleArc g p i) rows) e v.marks

  -- the function that is next has rows and places
  pub next_small : (rows : List ℕ) (k n f : ℕ) → FunctionsSmall g p → MarkingRule g p entry k f rows → n ≡ functions_at g p → k < n
      → FunctionSmall g f
  next_small rows k n f w v m l = subst⁻¹ (λ (i : ℕ). FunctionSmall g i) v.starts (w k (omega arith))
