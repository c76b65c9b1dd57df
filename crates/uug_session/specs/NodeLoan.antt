-- What a node holds once the item that it lends is used no more.
use Rattle.std.specs.Prelude.{◌≡◌, MatchOption, Option}
use Rattle.std.specs.Borrow.{Fml, RattleType, MutBor}
use Rattle.std.specs.Io.BufRead.{Rests}
use Rattle.std.specs.declared.alloc.Allocator.{Ghosts}
use Rattle.uug_session.specs.declared.item.Item.{Item}
use Rattle.uug_session.specs.declared.node.Node.{Node}
use Rattle.uug_session.specs.contracts.node.Node.{the_row}
use Rattle.uug_session.specs.Node.{LeavesRoom, ShowsItem, item_size, node_of, searched, shown_item, spool_of}

-- What is skipped in front was taken away, or the session has ended at a text that is too long. Then the item that was
-- found stands first and is shown, or none is, and then at least a byte fits.
pub record HasFound {S A : Type 0} (old : Node S A) (result : Option Item) (new : Node S A) : Type 0 where
  pub found : node_of new ≡ searched (node_of old)
  pub spool : spool_of new ≡ spool_of old
  pub shows : MatchOption result (item_size (node_of new) ≡ 0)
      (λ item. ShowsItem (node_of new).engine.stage (node_of new).texts (node_of new).packets (shown_item item))
  pub room : LeavesRoom (node_of new)

-- the search was done
abbrev pub EndsFound : (S A : RattleType) (a : Ghosts A.Denot) → MutBor (Node S.Denot A.Denot) → Option Item → Fml
EndsFound S A a node result = Rests (the_row S A a) node (HasFound node.now result)
