-- Links one by one.
use Rattle.std.proofs.Common.{ℕ, suc, ◌<◌, List, [], ◌∷◌, Option, length, get_or, arith}
use Rattle.ttx_header.specs.Ids.{Id}
use Rattle.ttx_links.specs.Sets.{IsLink, AreLinks}

pub are_links : (links : List (Option Id)) → ((k : ℕ) (d : Option Id) → k < length links → IsLink (get_or links k d)) → AreLinks links
are_links [] each = tt
are_links (link ∷ links) each = (each 0 link (omega arith), are_links links (λ k d l. each (suc k) d (omega arith)))
