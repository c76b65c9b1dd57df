use Rattle.uug_conversation.specs.MemoryHoldings.{kept_of}
use Rattle.std.proofs.Common.{map, ap, ◌∙◌, ◌++◌, ◌∷◌, [], ℕ, List}
use Rattle.uug_store.specs.Folders.{folder_holdings}
use Rattle.uug_store.proofs.LocalLemmas.{as_many, holdings_stay, kept_more}
use Rattle.uug_store.proofs.local_names.LocalNamesSpool.keep.Goals as goal

pub returns-clause-ok : goal.returns-clause-ok
returns-clause-ok g c =
    kept_more c.self.inside.files c.keep.new.self c.self.inside.names.items c.push_name.new.names.items c.self.inside.delayed.items c.self.inside.partials c.self.inside.lenient c.self.inside.digests c.self.inside.limit c.args.self.now
    c.args.name.now c.in-Some.local c.args.mode c.args.bytes.now c.self.view_is
    (as_many c.self.inside.names.items c.self.inside.files.stored c.self.invariant)
    (c.push_name.ensures ∙ ap (λ (names : List (List ℕ)). names ++ c.args.name.now ∷ []) c.reserve.ensures.items)
    c.in_ok-keep.ensures.ok

pub returns-in_err-keep-clause-holdings : goal.returns-in_err-keep-clause-holdings
returns-in_err-keep-clause-holdings g c =
    holdings_stay g.F.Folder.barred c.self.inside.files c.self.inside.names.items c.self.inside.delayed.items c.self.inside.partials c.self.inside.lenient c.self.inside.digests c.self.inside.limit c.args.self.now
    (folder_holdings (g.F.Folder.barred c.keep.new.self.folder) (map kept_of c.keep.new.self.files)) c.self.view_is c.keep.ensures.holdings

pub returns-clause-holdings : goal.returns-clause-holdings
returns-clause-holdings g c =
    holdings_stay g.F.Folder.barred c.self.inside.files c.self.inside.names.items c.self.inside.delayed.items c.self.inside.partials c.self.inside.lenient c.self.inside.digests c.self.inside.limit c.args.self.now
    (folder_holdings (g.F.Folder.barred c.keep.new.self.folder) (map kept_of c.keep.new.self.files)) c.self.view_is c.keep.ensures.holdings
