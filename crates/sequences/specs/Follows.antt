-- Document 01: which action follows which.
-- Computed: no demand rests on it. Assumes nothing.
use Rattle.std.specs.Prelude.{ℕ, suc, Bool, false, not, List, eqb}
use Rattle.basics.specs.Tests.{◌and◌, ◌or◌, some}
use Rattle.grammar.specs.Limits.{most_occurrences}
use Rattle.grammar.specs.Table.{symbol_of}
use Rattle.sets.specs.Visits.{visits}
use Rattle.order.specs.Computed.{edp}
use Rattle.sequences.specs.Actions.{
  Action,
  compute,
  visit,
  leave,
  none,
  decode,
  makes,
  inherited_of,
  synthesized_of,
}

-- "an EDP arc links what they make available": from what the earlier makes to what the later makes
unfoldable pub linked : List ℕ → List ℕ → List ℕ → ℕ → Action → Action → Bool
linked g ids s r later earlier =
    some most_occurrences (λ b.
    makes g s r later b
    and some most_occurrences (λ a. makes g s r earlier a and edp g ids s r a b))

-- "visit r follows visit r - 1 and the computes of the child's inherited attributes of that visit"
unfoldable pub before_visit : List ℕ → List ℕ → ℕ → ℕ → ℕ → Action → Bool
before_visit g s r i n (compute o) = inherited_of g s r i n o
before_visit g s r i n (visit j m) = eqb j i and eqb (suc m) n
before_visit g s r i n (leave m) = false
before_visit g s r i n none = false

-- "leave n follows leave n - 1 and the computes of the synthesized attributes of visit n"
unfoldable pub before_leave : List ℕ → List ℕ → ℕ → ℕ → Action → Bool
before_leave g s r n (compute o) = synthesized_of g s r 0 n o
before_leave g s r n (visit j m) = false
before_leave g s r n (leave m) = eqb (suc m) n
before_leave g s r n none = false

-- what an action follows besides: "the last leave follows everything"
unfoldable pub besides : List ℕ → List ℕ → ℕ → Action → Action → Bool
besides g s r (compute o) earlier = false
besides g s r (visit i n) earlier = before_visit g s r i n earlier
besides g s r (leave n) earlier = eqb n (visits s (symbol_of g r 0)) or before_leave g s r n earlier
besides g s r none earlier = false

-- action later follows a different one
unfoldable pub follows : List ℕ → List ℕ → List ℕ → ℕ → ℕ → ℕ → Bool
follows g ids s r later earlier =
    not (eqb later earlier)
    and (linked g ids s r (decode later) (decode earlier) or besides g s r (decode later) (decode earlier))
