-- A text typed into a lent buffer, as far as there is room, and the lines of a plan as they are read off its words.
-- Assumes nothing.
use Rattle.std.specs.Prelude.{ℕ, min, ◌≡◌, List, ◌∷◌, ◌++◌, length, take}
use Rattle.basics.specs.Lists.{tabulate, blocks}
use Rattle.grammar.specs.Table.{symbols, rules}
use Rattle.plans.specs.Buffers.{over}
use Rattle.plans.specs.Sequences.{sequence_length, action_at}
use Rattle.text.specs.Lines.{line, rule_word}
use Rattle.lister.specs.declared.Page.{Page}
use Rattle.text.specs.Listing.{first_line, symbol_line}

-- No listing is longer, and the program lends so many bytes.
abbrev pub longest_listing : ℕ
longest_listing = 28365

abbrev pub lent_bytes : ℕ
lent_bytes = 32768

-- The start of the lent bytes holds the text, or as much of it as there is room for; the others stay. at bytes are typed.
pub record Shows (lent text out : List ℕ) (at : ℕ) : Type 0 where
  pub counted : at ≡ min (length lent) (length text)
  pub shown : out ≡ over (take (length lent) text) lent

-- Whatever is shown before, it is shown with the new bytes at its end afterwards.
pub record Adds (out : List ℕ) (at : ℕ) (new out' : List ℕ) (at' : ℕ) : Type 0 where
  pub kept : length out' ≡ length out
  pub goes_on : (lent text : List ℕ) → Shows lent text out at → Shows lent (text ++ new) out' at'

-- A page's text goes on with the new bytes, in the same buffer.
pub record Types (page : Page) (new : List ℕ) (page' : Page) : Type 0 where
  pub same_buffer : page.out.ghost_name ≡ page'.out.ghost_name
  pub adds : Adds page.out.now page.at new page'.out.now page'.at

-- the actions of rule r in the words of plan p
unfoldable pub actions_in : List ℕ → ℕ → List ℕ
actions_in p r = tabulate (sequence_length p r) (λ j. action_at p r j)

unfoldable pub rule_line_of : List ℕ → ℕ → List ℕ
rule_line_of p r = line rule_word (r ∷ actions_in p r)

-- the lines of a plan by its words
unfoldable pub plan_lines : List ℕ → List ℕ → List ℕ
plan_lines g p = first_line g ++ (blocks (symbols g) (λ x. symbol_line g p x) ++ blocks (rules g) (λ r. rule_line_of p r))
