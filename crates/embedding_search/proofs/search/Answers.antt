-- `search` meets its contract: the least map's answer, and what follows of it for both trees.
use Rattle.embedding_search.proofs.FoundSimulated.{finds}
use Rattle.embedding_search.proofs.search.Goals as goal

pub returns : goal.returns
returns c = finds _ _ _ c.least_map.ensures
