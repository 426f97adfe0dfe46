-- `lister::Page::put` meets its contract: where there is room the byte is written and counted, and else nothing changes. Assumes nothing.
use Rattle.lister.proofs.PageLaws.{put_room, put_full}
use Rattle.lister.proofs.Page.put.Goals as goal

pub returns-then-self : goal.returns-then-self
returns-then-self c = search put_room

pub returns-else-self : goal.returns-else-self
returns-else-self c = search put_full
