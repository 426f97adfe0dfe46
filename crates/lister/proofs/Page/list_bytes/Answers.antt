-- `lister::Page::list_bytes` meets its contract: an odd count of bytes is refused, and of an even one the words are listed. Assumes nothing.
use Rattle.lister.proofs.TableLaws.{odd_bytes, even_bytes, words_there}
use Rattle.lister.proofs.Page.list_bytes.Goals as goal

pub returns-then-bytes-ne0 : goal.returns-then-bytes-ne0
returns-then-bytes-ne0 c = search odd_bytes

pub slice_bounds-list_table-end : goal.slice_bounds-list_table-end
slice_bounds-list_table-end c = search words_there

pub returns : goal.returns
returns c = search even_bytes
