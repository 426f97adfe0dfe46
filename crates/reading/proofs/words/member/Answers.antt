-- `reading::words::member` meets its contract: a set of 64 bits has no member from 64 on. Assumes nothing.
use Rattle.access.proofs.Laws.{member_past}
use borrow.Author.Rules.{rules}
use borrow.Author.Tests.{le-ltb}
use Rattle.reading.proofs.words.member.Goals as goal

pub returns-else-o-lt64 : goal.returns-else-o-lt64
returns-else-o-lt64 c = rw (le-ltb c.args.o 64 c.if-o-lt64.false) (search (member_past, rules))
