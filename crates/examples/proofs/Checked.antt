-- All examples marked P hold, by computation.
-- Assumes nothing.
use mathlib.Core.Path.{refl}
use Rattle.examples.specs.Claims.{Claims}
use Rattle.examples.proofs.Opened.{opened}

-- one claim for the lot
pub checked : Claims
unfolding opened
checked =
    record {
      printed = refl;
      no_words = refl;
      last_missing = refl;
      one_more = refl;
      many_symbols = refl;
      round = refl;
      crossed = refl;
      itself = refl;
      chain = refl;
      chain_visits = refl;
      one_visit = refl;
      tree_fits = refl;
      three_five = refl;
      three_five_root = refl;
      three_two = refl;
      three_two_root = refl;
      five_stops = refl;
      five_values = refl;
      fifteen_stops = refl;
      fifteen_root = refl;
      sixteen_done = refl;
      stays = refl;
      lower = refl;
      higher = refl;
      equal = refl;
    }
