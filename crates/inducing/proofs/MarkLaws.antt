-- Marking arcs: none, one, and those of two parts. Assumes nothing.
use Prim.Native.Nat.{ℕ, ◌<◌}
use mathlib.Core.Path.{◌≡◌, ◌∙◌, subst, subst⁻¹}
use mathlib.Core.Logic.{◌⊎◌, inl, inr, ⊎_elim}
use mathlib.Core.List.{List}
use native.Mathlib.Omega.{arith}
use lib.Dec.{T}
use lib.ListN.{length, set, length-set}
use lib.Seq.{get_or-set_same, get_or-set_other}
use Rattle.bits.specs.Bit.{hasb, insert}
use Rattle.bits.proofs.MemberLaws.{insert_cases, insert_new, insert_old}
use Rattle.basics.specs.Lists.{word}
use Rattle.basics.proofs.TestLaws.{same_or_not}
use Rattle.relations.specs.Paper.{Path⁺}
use Rattle.closing.specs.Rows.{leads}
use Rattle.inducing.specs.Closes.{Only, Marked}
use Rattle.inducing.proofs.GrownLaws.{grown_there, grown_then}

pub marked_none : (before : List ℕ) (arc : ℕ → ℕ → Type 0) → ((a b : ℕ) → arc a b → ⊥) → Marked before arc before
marked_none before arc none =
    record { grown = grown_there before arc (λ a b e. absurd (none a b e)); only = λ o x h t. inl t }

-- one arc, from a to b
pub marked_row : (before : List ℕ) (a b v : ℕ) → a < 64 → length before ≡ 64 → v ≡ insert b (word before a)
    → Marked before (Only a b) (set before a v)
unfolding leads
marked_row before a b v h room e =
    record {
      grown = record {
        size = length-set before a v;
        keeps = λ o x l t.
            ⊎_elim
            (λ q.
            subst⁻¹ (λ (i : ℕ). T (hasb x (word (set before a v) i))) q
            (here x (insert_old x b (word before a) (subst (λ (i : ℕ). T (hasb x (word before i))) q t))))
            (λ n. subst⁻¹ (λ (s : ℕ). T (hasb x s)) (there o n) t) (same_or_not o a);
        has = λ c d s. (
          omega (arith, s.start),
          subst⁻¹ (λ (i : ℕ). T (hasb d (word (set before a v) i))) s.start
              (here d (subst⁻¹ (λ (i : ℕ). T (hasb i (insert b (word before a)))) s.end (insert_new b (word before a)))),
        );
        sound = λ o x l t. ⊎_elim (λ s. Path⁺.one (inl (l, s))) (λ s. Path⁺.one (inr s)) (old_or_new o x t);
      };
      only = λ o x l t. old_or_new o x t;
    }
  where
    row : word (set before a v) a ≡ insert b (word before a)
    row = get_or-set_same before a v 0 (omega arith) ∙ e

    here : (x : ℕ) → T (hasb x (insert b (word before a))) → T (hasb x (word (set before a v) a))
    here x t = subst⁻¹ (λ (s : ℕ). T (hasb x s)) row t

    there : (o : ℕ) → (o ≡ a → ⊥) → word (set before a v) o ≡ word before o
    there o n = get_or-set_other before a o v 0 (λ q. n (omega arith))

    old_or_new : (o x : ℕ) → T (hasb x (word (set before a v) o)) → T (hasb x (word before o)) ⊎ Only a b o x
    old_or_new o x t =
        ⊎_elim
        (λ q.
        ⊎_elim (λ s. inr (record { start = q; end = s })) (λ s. inl (subst⁻¹ (λ (i : ℕ). T (hasb x (word before i))) q s))
        (insert_cases x b (word before a)
        (subst (λ (s : ℕ). T (hasb x s)) row (subst (λ (i : ℕ). T (hasb x (word (set before a v) i))) q t))))
        (λ n. inl (subst (λ (s : ℕ). T (hasb x s)) (there o n) t)) (same_or_not o a)

-- two parts, one after the other
pub marked_then : (before : List ℕ) (mid after : List ℕ) (first second both : ℕ → ℕ → Type 0) → Marked before first mid
    → Marked mid second after → ((c d : ℕ) → both c d → first c d ⊎ second c d) → ((c d : ℕ) → first c d → both c d)
    → ((c d : ℕ) → second c d → both c d) → Marked before both after
marked_then before mid after first second both v w split left right =
    record {
      grown = grown_then before mid after first second both v.grown w.grown split left right;
      only = λ o x h t.
          ⊎_elim (λ s. ⊎_elim (λ y. inl y) (λ y. inr (left o x y)) (v.only o x h s)) (λ s. inr (right o x s)) (w.only o x h t);
    }
