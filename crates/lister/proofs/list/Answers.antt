-- `lister::list` meets its contract: no more than the first 65,536 bytes are looked at, and they are listed. Assumes nothing.
use Rattle.lister.proofs.TableLaws.{looked_text}
use mathlib.Core.Path.{refl}
use Rattle.std.proofs.Common.{rules}
use Rattle.lister.proofs.list.Goals as goal

pub returns : goal.returns
returns c = looked_text c.args.input.now _ _ _ c.min-n.ensures refl refl c.list_bytes.ensures (search (rules, c.list_bytes.ensures.same_buffer))
