-- IDP is the least family of relations that has DP and what its paths induce, and IDP⁺ is its paths.
-- Each IDS arc has a reason: a path at some position of a rule. Assumes nothing.
use Prim.Native.Nat.{ℕ, ◌<◌}
use mathlib.Core.Path.{refl, subst⁻¹}
use mathlib.Core.Logic.{◌↔◌}
use mathlib.Core.List.{List}
use Rattle.grammar.specs.Table.{attributes, occurrence_of}
use Rattle.relations.specs.Paper.{Path⁺, DP, Stands, IDP, IDS, IDP⁺}

module _ (g : List ℕ) where
  -- each way round
  pub idp_paths_law : {r a b : ℕ} → IDP⁺ g r a b → Path⁺ (λ c d. IDP g r c d) a b
  idp_paths_law (IDP⁺.one r a b e) = Path⁺.one e
  idp_paths_law (IDP⁺.more r a b c p e) = Path⁺.more (idp_paths_law p) e

  pub paths_idp : {r a b : ℕ} → Path⁺ (λ c d. IDP g r c d) a b → IDP⁺ g r a b
  paths_idp {r} (Path⁺.one {a = a} {b = b} e) = IDP⁺.one r a b e
  paths_idp {r} (Path⁺.more {a = a} {b = b} {c = c} p e) = IDP⁺.more r a b c (paths_idp p) e

  -- the paths of IDP are IDP⁺
  pub idp_path_is : (r a b : ℕ) → IDP⁺ g r a b ↔ Path⁺ (λ c d. IDP g r c d) a b
  idp_path_is r a b = (idp_paths_law, paths_idp)

-- a family of relations, one for each rule, that has DP and what is induced
pub record Inducing (g : List ℕ) (Q : ℕ → ℕ → ℕ → Type 0) : Type 0 where
  pub has_direct : (r a b : ℕ) → DP g r a b → Q r a b
  pub has_induced : (x a b : ℕ) → a < attributes g x → b < attributes g x
      → (r i : ℕ) → Stands g r i x → Path⁺ (λ c d. Q r c d) (occurrence_of i a) (occurrence_of i b)
      → (p j : ℕ) → Stands g p j x → Q p (occurrence_of j a) (occurrence_of j b)

module _ (g : List ℕ) where
  -- IDP is such a family
  pub idp_inducing : Inducing g (λ r a b. IDP g r a b)
  idp_inducing =
      record {
        has_direct = λ r a b d. IDP.direct r a b d;
        has_induced = λ x a b h l r i s q p j t.
            IDP.induced p j x a b (occurrence_of j a) (occurrence_of j b) t (IDS.from r i x a b s h l (paths_idp g q)) refl refl;
      }

  module _ (Q : ℕ → ℕ → ℕ → Type 0) (q : Inducing g Q) where
    mutual
      least_arc : {r a b : ℕ} → IDP g r a b → Q r a b
      least_arc (IDP.direct r a b d) = q.has_direct r a b d
      least_arc (IDP.induced r i x a b c d s e f h) =
          subst⁻¹ (λ (c : ℕ). Q r c d) f (subst⁻¹ (λ (d : ℕ). Q r (occurrence_of i a) d) h (least_symbol e r i s))

      least_symbol : {x a b : ℕ} → IDS g x a b → (p j : ℕ) → Stands g p j x → Q p (occurrence_of j a) (occurrence_of j b)
      least_symbol (IDS.from r i x a b s h l e) p j t = q.has_induced x a b h l r i s (least_path e) p j t

      least_path : {r a b : ℕ} → IDP⁺ g r a b → Path⁺ (λ c d. Q r c d) a b
      least_path (IDP⁺.one r a b e) = Path⁺.one (least_arc e)
      least_path (IDP⁺.more r a b c p e) = Path⁺.more (least_path p) (least_arc e)

-- "the least relations": every such family has each IDP arc
pub idp_least : (g : List ℕ) (Q : ℕ → ℕ → ℕ → Type 0) → Inducing g Q → (r a b : ℕ) → IDP g r a b → Q r a b
idp_least g Q q r a b e = least_arc g Q q e

-- the reason of an IDS arc: a position of a rule that counts, with the symbol, and a path there between two of its attributes
pub record Reason (g : List ℕ) (x a b : ℕ) : Type 0 where
  pub rule : ℕ
  pub place : ℕ
  pub stands : Stands g rule place x
  pub start_fits : a < attributes g x
  pub end_fits : b < attributes g x
  pub way : IDP⁺ g rule (occurrence_of place a) (occurrence_of place b)

pub ids_occurs : (g : List ℕ) {x a b : ℕ} → IDS g x a b → Reason g x a b
ids_occurs g (IDS.from r i x a b s h l p) = record { rule = r; place = i; stands = s; start_fits = h; end_fits = l; way = p }
