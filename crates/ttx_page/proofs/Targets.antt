-- The targets of links, one by one.
use Rattle.std.proofs.Common.{◌≡◌, ℕ, zero, suc, List, [], ◌∷◌, Option, Some, None, subst}
use Rattle.std.specs.Prelude.{slice_get}
use Rattle.ttx_header.specs.Ids.{Id}
use Rattle.ttx_links.specs.Sets.{IsTarget, IsLink, AreLinks}

pub each_target : (links : List (Option Id)) → AreLinks links → (k : ℕ) (target : Id) → slice_get links k ≡ Some (Some target) → IsTarget target
each_target [] a k target e = let none : None ≡ Some (Some target) = e in cc
each_target (link ∷ links) a zero target e = let here : Some link ≡ Some (Some target) = e in let is : link ≡ Some target = cc in subst IsLink is a.0
each_target (link ∷ links) a (suc k) target e = each_target links a.1 k target e
