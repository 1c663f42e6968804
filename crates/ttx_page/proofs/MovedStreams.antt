-- If a stream is the same d slots on, then so are its owners, transmissions and runs.
use Rattle.std.proofs.Common.{◌≡◌, ℕ, suc, ℤ, pos, ◌+ℤ◌, ◌-ℤ◌, ◌<ℤ◌, List, [], ◌∷◌, map, sym, ap, ◌∙◌, subst, arith}
use Rattle.std.specs.List.{AllByRecursion}
use Rattle.std.proofs.lemmas.List.{length-map}
use Rattle.std.proofs.lemmas.Int.{ints}
use Rattle.ttx_header.specs.Ids.{Id}
use Rattle.ttx_page.specs.Packets.{packet_of}
use Rattle.ttx_page.specs.Pages.{Item, TheHead, TheRow, TheLinks}
use Rattle.ttx_page.specs.Streams.{Stream, heads, heads_page, ends_serial, carries, IsLatestHeader, IsOwned, IsTransmission, IsSure, CannotBeMissed}
use Rattle.ttx_page.specs.Streams.{IsSureTransmission, AreSuccessive, IsRun}
use Rattle.ttx_page.specs.Laws.{IsSameOn, StreamsMove}

same_back : (s : Stream) (d : ℤ) → IsSameOn s d → IsSameOn s (pos 0 -ℤ d)
same_back s d same i = let e : (i +ℤ (pos 0 -ℤ d)) +ℤ d ≡ i = omega (arith, ints) in sym (same (i +ℤ (pos 0 -ℤ d))) ∙ ap s e

module _ (s : Stream) (d : ℤ) (same : IsSameOn s d) where
  before : (i : ℤ) → s (i -ℤ d) ≡ s i
  before i = let e : (i -ℤ d) +ℤ d ≡ i = omega (arith, ints) in sym (same (i -ℤ d)) ∙ ap s e

  pub latest_moved : (mag : ℕ) (h j : ℤ) → IsLatestHeader s mag h j → IsLatestHeader s mag (h +ℤ d) (j +ℤ d)
  latest_moved mag h j a = record {
    earlier = let e = a.earlier in omega (arith, ints);
    is_header = ap (λ x. heads mag (packet_of x)) (same h) ∙ a.is_header;
    none_between = λ i low high. ap (λ x. heads mag (packet_of x)) (sym (before i))
        ∙ a.none_between (i -ℤ d) (omega (arith, ints)) (omega (arith, ints));
  }

  pub owned_moved : (page : Id) (item : Item) (h j : ℤ) → IsOwned s page item h j → IsOwned s page item (h +ℤ d) (j +ℤ d)
  owned_moved page TheHead h j a = (ap (λ x. x +ℤ d) a.0, ap (λ x. heads_page page (packet_of x)) (same j) ∙ a.1)
  owned_moved page (TheRow r) h j a = (
    latest_moved page.mag h j a.0,
    ap (λ x. heads_page page (packet_of x)) (same h) ∙ a.1,
    ap (λ x. carries page.mag (TheRow r) (packet_of x)) (same j) ∙ a.2,
  )
  owned_moved page TheLinks h j a = (
    latest_moved page.mag h j a.0,
    ap (λ x. heads_page page (packet_of x)) (same h) ∙ a.1,
    ap (λ x. carries page.mag TheLinks (packet_of x)) (same j) ∙ a.2,
  )

  kept_moved : (lines mag : ℕ) (h j : ℤ) → CannotBeMissed s lines mag h j → CannotBeMissed s lines mag (h +ℤ d) (j +ℤ d)
  kept_moved lines mag h j a = (
    let e = a.0 in omega (arith, ints),
    λ i low high. ap (λ x. ends_serial mag (packet_of x)) (sym (before i))
        ∙ a.1 (i -ℤ d) (omega (arith, ints)) (omega (arith, ints)),
  )

  pub sure_moved : (lines mag : ℕ) (item : Item) (h j : ℤ) → IsSure s lines mag item h j → IsSure s lines mag item (h +ℤ d) (j +ℤ d)
  sure_moved lines mag TheHead h j a = a
  sure_moved lines mag (TheRow r) h j a = kept_moved lines mag h j a
  sure_moved lines mag TheLinks h j a = kept_moved lines mag h j a

  pub transmission_moved : (page : Id) (item : Item) (j : ℤ) → IsTransmission s page item j → IsTransmission s page item (j +ℤ d)
  transmission_moved page item j a = record { owner = a.owner +ℤ d; owned = owned_moved page item a.owner j a.owned }

  abbrev moved : List ℤ → List ℤ
  moved xs = map (λ x. x +ℤ d) xs

  all_sure_moved : (page : Id) (lines : ℕ) (item : Item) (xs : List ℤ) → AllByRecursion (IsSureTransmission s page lines item) xs →
      AllByRecursion (IsSureTransmission s page lines item) (moved xs)
  all_sure_moved page lines item [] a = tt
  all_sure_moved page lines item (x ∷ xs) a = (
    record {
      owner = a.0.owner +ℤ d;
      owned = owned_moved page item a.0.owner x a.0.owned;
      sure = sure_moved lines page.mag item a.0.owner x a.0.sure;
    },
    all_sure_moved page lines item xs a.1,
  )

  all_below_moved : (e : ℤ) (xs : List ℤ) → AllByRecursion (λ j. j <ℤ e) xs → AllByRecursion (λ j. j <ℤ (e +ℤ d)) (moved xs)
  all_below_moved e [] a = tt
  all_below_moved e (x ∷ xs) a = ((let k = a.0 in omega (arith, ints)), all_below_moved e xs a.1)

  module _ (page : Id) (item : Item) (none_before : (j : ℤ) → IsTransmission s page item j → IsTransmission s page item (j -ℤ d)) where
    successive_moved : (xs : List ℤ) → AreSuccessive s page item xs → AreSuccessive s page item (moved xs)
    successive_moved [] a = tt
    successive_moved (x ∷ []) a = transmission_moved page item x a
    successive_moved (x ∷ y ∷ xs) a = (
      transmission_moved page item x a.0,
      (let k = a.1 in omega (arith, ints)),
      (λ z low high p. a.2 (z -ℤ d) (omega (arith, ints)) (omega (arith, ints)) (none_before z p)),
      successive_moved (y ∷ xs) a.3,
    )

    pub run_moved : (repeat : ℕ) (i : ℤ) (rest : List ℤ) → IsRun s page repeat item i rest → IsRun s page repeat item (i +ℤ d) (moved rest)
    run_moved repeat i rest r = record
        { count = ap suc (length-map rest (λ x. x +ℤ d)) ∙ r.count; successive = successive_moved (i ∷ rest) r.successive }

pub streams_move : StreamsMove
streams_move s d same = record {
  back = same_back s d same;
  latest = latest_moved s d same;
  owned = owned_moved s d same;
  sure = sure_moved s d same;
  transmission = transmission_moved s d same;
  run = λ page lines repeat item i h. record {
    rest = moved s d same h.rest;
    run = run_moved s d same page item (back page item) repeat i h.rest h.run;
    all_sure = all_sure_moved s d same page lines item (i ∷ h.rest) h.all_sure;
  };
  ends = λ page repeat item i e h. record {
    rest = moved s d same h.rest;
    run = run_moved s d same page item (back page item) repeat i h.rest h.run;
    ends = all_below_moved s d same e (i ∷ h.rest) h.ends;
  };
  sent = λ page lines repeat item begin end h. record {
    first = h.first +ℤ d;
    rest = moved s d same h.rest;
    owner = h.owner +ℤ d;
    owned = owned_moved s d same page item h.owner h.first h.owned;
    not_before = let e = h.not_before in omega (arith, ints);
    run = run_moved s d same page item (back page item) repeat h.first h.rest h.run;
    all_sure = all_sure_moved s d same page lines item (h.first ∷ h.rest) h.all_sure;
    ends = all_below_moved s d same end (h.first ∷ h.rest) h.ends;
  };
}
  where
    back : (page : Id) (item : Item) (j : ℤ) → IsTransmission s page item j → IsTransmission s page item (j -ℤ d)
    back page item j p =
        let e : j +ℤ (pos 0 -ℤ d) ≡ j -ℤ d = omega (arith, ints) in
        subst (IsTransmission s page item) e (transmission_moved s (pos 0 -ℤ d) (same_back s d same) page item j p)
