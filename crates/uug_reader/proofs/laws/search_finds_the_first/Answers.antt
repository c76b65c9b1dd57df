use Rattle.uug_reader.proofs.SearchLemmas.{search_finds_item, search_finds_rest}
use Rattle.uug_reader.proofs.laws.search_finds_the_first.Goals as goal

pub returns : goal.returns
returns c = record { item = search_finds_item; rest = search_finds_rest }
