-- The ids of pages are equal where their numbers are.
use Rattle.std.proofs.Common.{◌≡◌, true, ◌&&◌, eqb, rules, eqb-true}
use Rattle.std.proofs.lemmas.Bool.{and_parts}
use Rattle.ttx_header.specs.Ids.{Id, same_id}

pub same_one : (a b : Id) → same_id a b ≡ true → a ≡ b
same_one a b e =
    let front : (eqb a.mag b.mag && eqb a.page b.page) ≡ true = (and_parts _ _ e).0 in
    let mag : a.mag ≡ b.mag = eqb-true a.mag b.mag ((and_parts _ _ front).0) in
    let page : a.page ≡ b.page = eqb-true a.page b.page ((and_parts _ _ front).1) in
    let sub : a.sub ≡ b.sub = eqb-true a.sub b.sub ((and_parts _ _ e).1) in
    λ i. record { mag = mag i; page = page i; sub = sub i }

pub same_self : (a : Id) → same_id a a ≡ true
same_self a = search rules
