-- Runs that count near both ends of the walk: an old one that ends before slot 0, and a new one whose owner is after slot 0.
use Rattle.std.proofs.Common.{◌≡◌, ◌↔◌, ℕ, suc, ◌*◌, ◌≤◌, ℤ, pos, ◌+ℤ◌, ◌-ℤ◌, ◌<ℤ◌, ◌≤ℤ◌, true, List, [], ◌∷◌, length, sym, ap, ◌∙◌, subst, inl, inr}
use Rattle.std.proofs.Common.{arith}
use Rattle.std.specs.List.{Contains, AllByRecursion}
use Rattle.std.proofs.lemmas.Int.{ints}
use Rattle.ttx_page.proofs.SlotDistances.{cases_ltz}
use Rattle.ttx_header.specs.Ids.{Id}
use Rattle.ttx_page.specs.Pages.{Page}
use Rattle.ttx_page.specs.declared.item.Item.{Item}
use Rattle.ttx_page.specs.Streams as S
use Rattle.ttx_page.specs.Streams.{Stream, repeated, joined, turned, run_length, IsOwned, IsTransmission, IsSure, IsSureTransmission, AreSuccessive}
use Rattle.ttx_page.specs.Laws.{CyclesRepeat, OwnersAreNear}
use Rattle.ttx_witness.specs.declared.runs.transmissions.Transmission.{Transmission}
use Rattle.ttx_witness.specs.runs.Repeating as R
use Rattle.ttx_witness.specs.runs.Repeating.{Successive, IsSentAt, IsSureSent}
use Rattle.ttx_witness.specs.Coverage.{Certificate, IsCovered, limit}
use Rattle.ttx_proof.specs.Splices.{Splice, stream, IsBridged, NumbersAgree}
use Rattle.ttx_proof.specs.Bridging.{low, high, is_named, AreJoined, counted, AllFollow}
use Rattle.ttx_proof.specs.Laws.{WalksDecide}
use Rattle.ttx_proof.proofs.NamedStarts.{named_is, named_below, named_above, turned_more, turned_back, turned_start, same_more}
use Rattle.ttx_proof.proofs.StreamsOfSides as J
use Rattle.ttx_proof.proofs.StreamsOfSides.{StreamLaws}
use Rattle.ttx_proof.proofs.BridgedIsSeen.{covered_sent, covered_of, place_of}
use Rattle.ttx_proof.proofs.NeighbouringRuns as N
use Rattle.ttx_proof.proofs.NeighbouringRuns.{IsOrdered, IsServed, IsInside}

-- successive members of a run in a stream with period n are at most a period apart
run_short : (s : Stream) (page : Id) (item : Item) (n : ℕ) → 1 ≤ n →
    ((j : ℤ) → IsTransmission s page item j → IsTransmission s page item (j +ℤ pos n)) →
    (first : ℤ) (rest : List ℤ) → AreSuccessive s page item (first ∷ rest) → (bound : ℤ) → (first +ℤ pos (length rest * n)) ≤ℤ bound →
    AllByRecursion (λ j. j ≤ℤ bound) (first ∷ rest)
run_short s page item n some again first [] a bound le = (omega (arith, ints), tt)
run_short s page item n some again first (x ∷ rest) a bound le =
    let near : x ≤ℤ (first +ℤ pos n) = elim (cases_ltz (first +ℤ pos n) x) as (λ _. x ≤ℤ (first +ℤ pos n)) [
      | inl lt ↦ absurd (a.2 (first +ℤ pos n) (omega (arith, ints)) lt (again first a.0))
      | inr ge ↦ ge
    ] in
    (omega (arith, ints), run_short s page item n some again x rest a.3 bound (omega (arith, ints)))

-- a later run ends later
ends_rise : (s : Stream) (page : Id) (item : Item) (i j e : ℤ) (xs ys : List ℤ) → length xs ≡ length ys → i ≤ℤ j →
    AreSuccessive s page item (i ∷ xs) → AreSuccessive s page item (j ∷ ys) →
    AllByRecursion (λ x. x <ℤ e) (j ∷ ys) → AllByRecursion (λ x. x <ℤ e) (i ∷ xs)
ends_rise s page item i j e [] ys len le a b c = let k = c.0 in (omega (arith, ints), tt)
ends_rise s page item i j e (x ∷ xs) [] len le a b c = absurd (omega arith)
ends_rise s page item i j e (x ∷ xs) (y ∷ ys) len le a b c =
    let order : x ≤ℤ y = elim (cases_ltz y x) as
    (λ _. x ≤ℤ y) [ inl lt ↦ absurd (a.2 y (let k = b.1 in omega (arith, ints)) lt (holds y ys b.3)) | inr ge ↦ ge ] in
    ((let k = c.0 in omega (arith, ints)), ends_rise s page item x y e xs ys (omega arith) order a.3 b.3 c.1)
  where
    holds : (x : ℤ) (xs : List ℤ) → AreSuccessive s page item (x ∷ xs) → IsTransmission s page item x
    holds x [] a = a
    holds x (y ∷ xs) a = a.0

bounds : (xs : List ℤ) (a b : ℤ) → a <ℤ b → AllByRecursion (λ j. j ≤ℤ a) xs → AllByRecursion (λ j. j <ℤ b) xs
bounds [] a b lt h = tt
bounds (x ∷ xs) a b lt h = (let k = h.0 in omega (arith, ints), bounds xs a b lt h.1)

further : (xs : List ℤ) (a b : ℤ) → a ≤ℤ b → AllByRecursion (λ j. j <ℤ a) xs → AllByRecursion (λ j. j <ℤ b) xs
further [] a b le h = tt
further (x ∷ xs) a b le h = (let k = h.0 in omega (arith, ints), further xs a b le h.1)

-- a certificate with the numbers of another
abbrev alike_to : Certificate → Certificate → Certificate
alike_to w v = record { lines = w.lines; repeat = w.repeat; deadline = w.deadline; class = w.class; starts = v.starts }

covered_alike : (cycle : List (List ℕ)) (p : Page) (v w : Certificate) (item : Item) → NumbersAgree v w → IsCovered cycle p v item →
    IsCovered cycle p (alike_to w v) item
covered_alike cycle p v w item alike covered =
    subst (λ class. IsCovered cycle p
    (record { lines = w.lines; repeat = w.repeat; deadline = w.deadline; class = class; starts = v.starts }) item)
    (alike.old_class ∙ sym alike.new_class)
    (subst (λ deadline. IsCovered cycle p
    (record { lines = w.lines; repeat = w.repeat; deadline = deadline; class = v.class; starts = v.starts }) item)
    alike.deadline
    (subst (λ repeat. IsCovered cycle p
    (record { lines = w.lines; repeat = repeat; deadline = v.deadline; class = v.class; starts = v.starts }) item)
    alike.repeat
    (subst (λ lines. IsCovered cycle p
    (record { lines = lines; repeat = v.repeat; deadline = v.deadline; class = v.class; starts = v.starts }) item) alike.lines
    covered)))

module _ (laws : StreamLaws) (near : OwnersAreNear) (again : CyclesRepeat) (c : Splice) (p : Page) (item : Item) (k : ℕ)
    (len : run_length c.new_certificate.repeat item ≡ suc k)
    (some_old : 1 ≤ length c.old) (some_new : 1 ≤ length c.new)
    (old : IsCovered c.old p (alike_to c.new_certificate c.old_certificate) item)
    (new : IsCovered c.new p c.new_certificate item) where
  abbrev w : Certificate
  w = c.new_certificate

  abbrev page : Id
  page = p.id

  abbrev JOwned : ℤ → ℤ → Type 0
  JOwned = IsOwned (stream c) page item

  abbrev JSure : ℤ → ℤ → Type 0
  JSure = IsSure (stream c) w.lines page.mag item

  abbrev Inside : Type 0
  Inside = IsInside JOwned JSure (suc k) (is_named c p item) (low c k) (high c k)

  -- a run of as many transmissions as the repeat count says is one of k + 1
  run_of : (first : ℤ) (rest : List ℤ) → S.IsRun (stream c) page w.repeat item first rest → R.IsRunFrom JOwned (suc k) first rest
  run_of first rest = subst (λ n. R.IsRunFrom JOwned n first rest) len

  run_is : (first : ℤ) (rest : List ℤ) → R.IsRunFrom JOwned (suc k) first rest → S.IsRun (stream c) page w.repeat item first rest
  run_is first rest = subst (λ n. R.IsRunFrom JOwned n first rest) (sym len)

  abbrev Served : ℤ → Type 0
  Served = IsServed JOwned JSure (suc k) (limit w) (is_named c p item)

  pub ordered : IsOrdered JOwned
  ordered = record {
    one_owner = λ h i j. laws.one_owner (stream c) page item h i j;
    order = λ h g i j le a b. J.not_earlier laws c.old c.new (stream c) page item h i a g j le b;
  }

  -- a run of the old cycle that ends before slot 0
  record IsOldRun (first : ℤ) (rest : List ℤ) : Type 0 where
    named : Contains (c.old_certificate.starts page item) (turned (length c.old) first)
    run : S.IsRun (repeated c.old) page w.repeat item first rest
    sure : AllByRecursion (IsSureTransmission (repeated c.old) page w.lines item) (first ∷ rest)
    ends : AllByRecursion (λ j. j <ℤ pos 0) (first ∷ rest)

  old_counts : (first : ℤ) (rest : List ℤ) → IsOldRun first rest → (is_named c p item first ≡ true) × R.BeginsSureRun JOwned JSure (suc k) first
  old_counts first rest a = (
    (named_is c p item first).1 (named_below c p item first a.ends.0 a.named),
    record {
      rest = rest;
      run = run_of first rest
          (J.old_run laws c.old c.new page w.lines item w.repeat first rest a.ends a.run);
      all_sure = J.old_sures laws c.old c.new page w.lines item (first ∷ rest) a.ends a.sure;
    },
  )

  old_ends : (first : ℤ) (rest : List ℤ) → IsOldRun first rest → (end : ℤ) → AllByRecursion (λ j. j <ℤ end) (first ∷ rest) →
      R.RunEndsBelow JOwned (suc k) first end
  old_ends first rest a end b = record {
    rest = rest;
    run = run_of first rest
        (J.old_run laws c.old c.new page w.lines item w.repeat first rest a.ends a.run);
    ends = b;
  }

  -- a run of the new cycle under an owner from slot 0 on
  record IsNewRun (owner first : ℤ) (rest : List ℤ) : Type 0 where
    behind : pos 0 ≤ℤ owner
    owned : IsOwned (repeated c.new) page item owner first
    named : Contains (w.starts page item) (turned (length c.new) first)
    run : S.IsRun (repeated c.new) page w.repeat item first rest
    sure : AllByRecursion (IsSureTransmission (repeated c.new) page w.lines item) (first ∷ rest)

  new_counts : (owner first : ℤ) (rest : List ℤ) → IsNewRun owner first rest → (is_named c p item first ≡ true)
      × R.BeginsSureRun JOwned JSure (suc k) first
  new_counts owner first rest a =
      let l = laws.first (repeated c.new) page item owner first a.owned in
      let b = a.behind in (
        (named_is c p item first).1 (named_above c p item first (omega (arith, ints)) a.named),
        record {
          rest = rest;
          run = run_of first rest
              (J.new_run laws c.old c.new page w.lines item owner first a.behind a.owned w.repeat rest a.run);
          all_sure = J.new_sures laws c.old c.new page w.lines item owner first a.behind a.owned w.repeat rest a.run a.sure;
        },
      )

  new_ends : (owner first : ℤ) (rest : List ℤ) → IsNewRun owner first rest → (end : ℤ) → AllByRecursion (λ j. j <ℤ end) (first ∷ rest) →
      R.RunEndsBelow JOwned (suc k) first end
  new_ends owner first rest a end b = record {
    rest = rest;
    run = run_of first rest
        (J.new_run laws c.old c.new page w.lines item owner first a.behind a.owned w.repeat rest a.run);
    ends = b;
  }

  transmission_on : (cycle : List (List ℕ)) → 1 ≤ length cycle → (j : ℤ) → IsTransmission (repeated cycle) page item j →
      IsTransmission (repeated cycle) page item (j +ℤ pos (length cycle))
  transmission_on cycle some j a = (laws.move (repeated cycle) (pos (length cycle)) (again cycle (omega arith))).transmission page item j a

  -- the first anchor: a named start of the old cycle, as many periods before slot 0 as a run has transmissions
  abbrev first_start : ℤ
  first_start = pos old.named.0 -ℤ pos (suc k * length c.old)

  first_run : S.HasSureRun (repeated c.old) page w.lines w.repeat item first_start
  first_run =
      let s = repeated c.old in
      let same = same_more s (length c.old) (suc k) (again c.old (omega arith)) in
      let back = (laws.move s (pos (suc k * length c.old)) same).back in
      let moved = (laws.move s (pos 0 -ℤ pos (suc k * length c.old)) back).run page w.lines w.repeat item (pos old.named.0)
      (old.sure old.named.0 old.named.1).1 in
      let e : pos old.named.0 +ℤ (pos 0 -ℤ pos (suc k * length c.old)) ≡ pos old.named.0 -ℤ pos (suc k * length c.old) = omega (arith, ints) in
      subst (λ z. S.HasSureRun s page w.lines w.repeat item z) e moved

  first_old : IsOldRun first_start first_run.rest
  first_old =
      let r = first_run in
      let lt = (old.sure old.named.0 old.named.1).0 in
      let count = r.run.count ∙ len in
      let size : length r.rest ≡ k = omega arith in
      record {
        named = subst (Contains (c.old_certificate.starts page item))
            (sym (turned_back (length c.old) (suc k) (pos old.named.0) ∙ turned_start (length c.old) old.named.0 lt)) old.named.1;
        run = r.run;
        sure = r.all_sure;
        ends = bounds (first_start ∷ r.rest) (pos old.named.0 -ℤ pos (length c.old)) (pos 0) (omega (arith, ints))
            (run_short (repeated c.old) page item (length c.old) some_old
            (transmission_on c.old some_old) first_start r.rest r.run.successive (pos old.named.0 -ℤ pos (length c.old))
            (subst (λ m. (first_start +ℤ pos (m * length c.old)) ≤ℤ (pos old.named.0 -ℤ pos (length c.old))) (sym size) (omega (arith, ints))));
      }

  pub first_anchor : Inside
  first_anchor =
      let r = first_run in
      let a = first_old in
      record {
        start = first_start;
        owner = r.all_sure.0.owner;
        from = first_low;
        counts = old_counts first_start r.rest a;
        owned = J.old_owned laws c.old c.new page item r.all_sure.0.owner first_start a.ends.0 r.all_sure.0.owned;
        ends = old_ends first_start r.rest a (high c k) (further (first_start ∷ r.rest) (pos 0) (high c k) (omega (arith, ints)) a.ends);
      }
    where
      first_low : low c k ≤ℤ first_start
      first_low = omega (arith, ints)

  -- up to its owner each slot is served by the old cycle
  pub first_serves : (tau : ℤ) → tau ≤ℤ first_anchor.owner → Served tau
  unfolding first_anchor
  first_serves tau le =
      let t = covered_sent laws c.old p (alike_to w c.old_certificate) item (omega arith) old tau in
      let a = t.0 in
      let r = first_run in
      let f = first_old in
      let one = a.run.count in
      let two = r.run.count in
      let same : length a.rest ≡ length r.rest = omega arith in
      elim (cases_ltz first_start a.first) as (λ _. Served tau) [
        | inr early ↦
            let is : IsOldRun a.first a.rest = record {
              named = t.1;
              run = a.run;
              sure = a.all_sure;
              ends = ends_rise (repeated c.old) page item a.first first_start
                  (pos 0) a.rest r.rest same early a.run.successive r.run.successive f.ends;
            } in
            record {
              start = a.first;
              owner = a.owner;
              counts = old_counts a.first a.rest is;
              owned = J.old_owned laws c.old c.new page item a.owner a.first is.ends.0 a.owned;
              not_before = a.not_before;
              ends = old_ends a.first a.rest is (tau +ℤ pos (limit w)) a.ends;
            }
        | inl late ↦ record {
          start = first_start;
          owner = r.all_sure.0.owner;
          counts = old_counts first_start r.rest f;
          owned = J.old_owned laws c.old c.new page item r.all_sure.0.owner first_start f.ends.0 r.all_sure.0.owned;
          not_before = le;
          ends = old_ends first_start r.rest f (tau +ℤ pos (limit w))
              (ends_rise (repeated c.old) page item first_start a.first (tau +ℤ pos (limit w)) r.rest a.rest (sym same)
              (omega (arith, ints)) r.run.successive a.run.successive a.ends);
        }
      ]

  -- the last anchor: a named start of the new cycle, a period after its first place
  abbrev last_start : ℤ
  last_start = pos new.named.0 +ℤ pos (length c.new)

  last_run : S.HasSureRun (repeated c.new) page w.lines w.repeat item last_start
  last_run = (laws.move (repeated c.new) (pos (length c.new)) (again c.new (omega arith))).run page w.lines w.repeat item
      (pos new.named.0) (new.sure new.named.0 new.named.1).1

  last_new : IsNewRun last_run.all_sure.0.owner last_start last_run.rest
  last_new =
      let r = last_run in
      let lt = (new.sure new.named.0 new.named.1).0 in
      let close = near (repeated c.new) (length c.new) (omega arith)
      (again c.new (omega arith)) page item r.all_sure.0.owner last_start r.all_sure.0.owned in
      let e : pos new.named.0 +ℤ pos (length c.new) ≡ pos new.named.0 +ℤ pos (1 * length c.new) = omega (arith, ints) in
      record {
        behind = omega (arith, ints);
        owned = r.all_sure.0.owned;
        named = subst (Contains (w.starts page item))
            (sym (ap (turned (length c.new)) e ∙ turned_more (length c.new) 1 (pos new.named.0)
            ∙ turned_start (length c.new) new.named.0 lt)) new.named.1;
        run = r.run;
        sure = r.all_sure;
      }

  pub last_anchor : Inside
  last_anchor =
      let r = last_run in
      let a = last_new in
      let count = r.run.count ∙ len in
      let size : length r.rest ≡ k = omega arith in
      record {
        start = last_start;
        owner = r.all_sure.0.owner;
        from = last_low;
        counts = new_counts r.all_sure.0.owner last_start r.rest a;
        owned = J.new_owned laws c.old c.new page item r.all_sure.0.owner last_start a.behind r.all_sure.0.owned;
        ends = new_ends r.all_sure.0.owner last_start r.rest a (high c k)
            (bounds (last_start ∷ r.rest) (last_start +ℤ pos (k * length c.new)) (high c k) last_high
            (run_short (repeated c.new) page item (length c.new) some_new
            (transmission_on c.new some_new) last_start r.rest r.run.successive (last_start +ℤ pos (k * length c.new))
            (subst (λ m. (last_start +ℤ pos (m * length c.new)) ≤ℤ (last_start +ℤ pos (k * length c.new))) (sym size) (omega (arith, ints)))));
      }
    where
      last_low : low c k ≤ℤ last_start
      last_low = omega (arith, ints)

      last_high : (last_start +ℤ pos (k * length c.new)) <ℤ high c k
      last_high = let lt = (new.sure new.named.0 new.named.1).0 in omega (arith, ints)

  -- after its owner each slot is served by the new cycle
  pub last_serves : (tau : ℤ) → last_anchor.owner <ℤ tau → Served tau
  unfolding last_anchor
  last_serves tau lt =
      let t = covered_sent laws c.new p w item (omega arith) new tau in
      let a = t.0 in
      let b = last_new.behind in
      let g = a.not_before in
      let is : IsNewRun a.owner a.first a.rest =
      record { behind = omega (arith, ints); owned = a.owned; named = t.1; run = a.run; sure = a.all_sure } in
      record {
        start = a.first;
        owner = a.owner;
        counts = new_counts a.owner a.first a.rest is;
        owned = J.new_owned laws c.old c.new page item a.owner a.first is.behind a.owned;
        not_before = a.not_before;
        ends = new_ends a.owner a.first a.rest is (tau +ℤ pos (limit w)) a.ends;
      }

  bridged_if : ((tau : ℤ) → Served tau) → IsBridged c p item
  bridged_if all tau =
      let t = all tau in (
        t.start,
        t.owner,
        (
          (named_is c p item t.start).0 t.counts.0,
          record {
            rest = t.counts.1.rest;
            run = run_is t.start t.counts.1.rest t.counts.1.run;
            all_sure = t.counts.1.all_sure;
          },
        ),
        t.owned,
        t.not_before,
        record {
          rest = t.ends.rest;
          run = run_is t.start t.ends.rest t.ends.run;
          ends = t.ends.ends;
        },
      )

  bridged_then : IsBridged c p item → (tau : ℤ) → Served tau
  bridged_then bridged tau =
      let t = bridged tau in
      let sure = t.2.1 in
      record {
        start = t.0;
        owner = t.1;
        counts = (
          (named_is c p item t.0).1 t.2.0,
          record {
            rest = sure.rest;
            run = run_of t.0 sure.rest sure.run;
            all_sure = sure.all_sure;
          },
        );
        owned = t.3;
        not_before = t.4;
        ends = record { rest = t.5.rest; run = run_of t.0 t.5.rest t.5.run; ends = t.5.ends };
      }

  pub walk_decides : (ts : List Transmission) → AreJoined c p item k ts → AllFollow (limit w) (counted (is_named c p item) k ts) ↔ IsBridged c p item
  walk_decides ts told =
      let d = N.decides JOwned JSure k (limit w) (is_named c p item) (low c k)
      (high c k) ordered ts told first_anchor last_anchor first_serves last_serves in
      ((λ f. bridged_if (d.0 f)), (λ b. d.1 (bridged_then b)))

pub walks_decide : StreamLaws → OwnersAreNear → CyclesRepeat → WalksDecide
walks_decide laws near again c is both alike p common item need k len ts told =
    let before = place_of c.old_pages p common.0 in
    let after = place_of c.new_pages p common.1 in
    walk_decides laws near again c p item k len (let s = is.old.some in omega arith) (let s = is.new.some in omega arith)
    (covered_alike c.old p c.old_certificate c.new_certificate item alike
    (covered_of c.old c.old_pages c.old_certificate both.old alike.old_class before.0 p before.1 item need))
    (covered_of c.new c.new_pages c.new_certificate both.new alike.new_class after.0 p after.1 item need) ts told
