-- How often a page is sent, before and after it is changed.
use Rattle.std.proofs.Common.{◌≡◌, ℕ, zero, suc, ◌*◌, ◌<◌, ◌≤◌, Bool, true, false, cond, List, [], ◌∷◌, length, Some, None}
use Rattle.std.proofs.Common.{refl, sym, ap, subst, arith, ◌∙◌}
use Rattle.std.specs.Prelude.{All, slice_get, option_map}
use Rattle.std.proofs.lemmas.Bool.{agree_below, agree_below_at, cond-true}
use Rattle.std.proofs.lemmas.Option.{get_or_from_slice_get, slice_get_within}
use Rattle.ttx_source.specs.Keys.{is_often}
use Rattle.ttx_source.specs.Services.{Authored, authored_at, often_set, ServiceFields, service_at, with_often, IsAuthored}
use Rattle.ttx_promise.specs.Lateness.{often_or, often_at}
use Rattle.ttx_promise.specs.Promises.{room}

-- a page that is sent so often
pub record IsSentSo (pages : List Authored) (i often : ℕ) : Type 0 where
  pub page : Authored
  pub at : slice_get pages i ≡ Some page
  pub is : page.often ≡ often

pub sent_so : (pages : List Authored) (i often : ℕ) → option_map (λ (p : Authored). p.often) (slice_get pages i) ≡ Some often →
    IsSentSo pages i often
sent_so [] i often e = let f : None ≡ Some often = e in cc
sent_so (p ∷ pages) zero often e =
    let f : Some p.often ≡ Some often = e in
    let g : p.often ≡ often = cc in
    record { page = p; at = refl; is = g }
sent_so (p ∷ pages) (suc i) often e = let r = sent_so pages i often e in record { page = r.page; at = r.at; is = r.is }

pub often_is : (pages : List Authored) (i often : ℕ) → IsSentSo pages i often → often_at pages i ≡ often
often_is pages i often s = ap often_or s.at ∙ s.is

pub authored_there : (serial : Bool) (pages : List Authored) → All (IsAuthored serial) pages → (i : ℕ) (page : Authored) →
    slice_get pages i ≡ Some page → IsAuthored serial page
authored_there serial pages all i page e =
    subst (IsAuthored serial) (get_or_from_slice_get pages i page page e) (all i page (slice_get_within pages i page e))

pub often_set_length : (pages : List Authored) (i often : ℕ) → length (often_set pages i often) ≡ length pages
often_set_length [] i often = refl
often_set_length (p ∷ pages) zero often = refl
often_set_length (p ∷ pages) (suc i) often = ap suc (often_set_length pages i often)

pub often_set_back : (pages : List Authored) (i other often : ℕ) → IsSentSo pages i often → often_set (often_set pages i other) i often ≡ pages
often_set_back [] i other often s = refl
often_set_back (p ∷ pages) zero other often s =
    let f : Some p ≡ Some s.page = s.at in
    let g : p ≡ s.page = cc in
    let h : p.often ≡ often = ap (λ (q : Authored). q.often) g ∙ s.is in
    ap (λ n. authored_at p.page n ∷ pages) (sym h)
often_set_back (p ∷ pages) (suc i) other often s =
    ap (λ rest. p ∷ rest) (often_set_back pages i other often (record { page = s.page; at = s.at; is = s.is }))

pub with_often_back : (service : ServiceFields) (i other often : ℕ) → IsSentSo service.pages i often →
    with_often (with_often service i other) i often ≡ service
with_often_back service i other often s =
    ap (service_at service.lines service.serial service.info) (often_set_back service.pages i other often s)

pub room_less : (pages : List Authored) (i often : ℕ) → IsSentSo pages i often → 1 ≤ often → often < 8 →
    room (often_set pages i (2 * often)) < room pages
room_less [] i often s from to = let f : None ≡ Some s.page = s.at in cc
room_less (p ∷ pages) zero often s from to =
    let f : Some p ≡ Some s.page = s.at in
    let g : p ≡ s.page = cc in
    let h : p.often ≡ often = ap (λ (q : Authored). q.often) g ∙ s.is in
    omega (arith, h, from, to)
room_less (p ∷ pages) (suc i) often s from to =
    let less = room_less pages i often (record { page = s.page; at = s.at; is = s.is }) from to in
    omega (arith, less)

pub at_least_once : (n : ℕ) → is_often n ≡ true → 1 ≤ n
at_least_once zero is = let f : false ≡ true = is in cc
at_least_once (suc n) is = omega arith
