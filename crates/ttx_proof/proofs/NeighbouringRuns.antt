-- Every tuning slot is served if and only if the runs that count in a part of the stream follow one another in time.
use Rattle.std.proofs.Common.{◌≡◌, ◌↔◌, ℕ, suc, ℤ, pos, ◌+ℤ◌, ◌<ℤ◌, ◌≤ℤ◌, Bool, List, [], ◌∷◌, length, inl, inr, arith}
use Rattle.std.specs.List.{AllByRecursion}
use Rattle.std.proofs.lemmas.Int.{ints}
use Rattle.ttx_page.proofs.SlotDistances.{cases_ltz}
use Rattle.ttx_witness.specs.declared.runs.transmissions.Transmission.{Transmission}
use Rattle.ttx_witness.specs.declared.runs.transmissions.Run.{Run}
use Rattle.ttx_witness.specs.runs.Transmissions.{start_of}
use Rattle.ttx_witness.specs.runs.Repeating.{Lists, Successive, IsSentAt, AreSent, RunEndsBelow, FollowInTime}
use Rattle.ttx_proof.specs.Bridging.{counted, AllFollow}
use Rattle.ttx_proof.proofs.RunsInWindows as W
use Rattle.ttx_proof.proofs.RunsInWindows.{Counting}

-- owners do not fall, and a slot has one
pub record IsOrdered (Owned : ℤ → ℤ → Type 0) : Type 0 where
  pub one_owner : (h k j : ℤ) → Owned h j → Owned k j → h ≡ k
  pub order : (h k i j : ℤ) → i ≤ℤ j → Owned h i → Owned k j → h ≤ℤ k

-- a run that counts has its first owner at tau or later, and ends within the limit
pub record IsServed (Owned Sure : ℤ → ℤ → Type 0) (k limit : ℕ) (named : ℤ → Bool) (tau : ℤ) : Type 0 where
  pub start : ℤ
  pub owner : ℤ
  pub counts : Counting Owned Sure k named start
  pub owned : Owned owner start
  pub not_before : tau ≤ℤ owner
  pub ends : RunEndsBelow Owned k start (tau +ℤ pos limit)

-- a run that counts, between slot low and slot high
pub record IsInside (Owned Sure : ℤ → ℤ → Type 0) (k : ℕ) (named : ℤ → Bool) (low high : ℤ) : Type 0 where
  pub start : ℤ
  pub owner : ℤ
  pub from : low ≤ℤ start
  pub counts : Counting Owned Sure k named start
  pub owned : Owned owner start
  pub ends : RunEndsBelow Owned k start high

module _ (Owned Sure : ℤ → ℤ → Type 0) (k limit : ℕ) (named : ℤ → Bool) (low high : ℤ) (law : IsOrdered Owned) where
  abbrev pub Served : ℤ → Type 0
  Served = IsServed Owned Sure (suc k) limit named

  abbrev pub Inside : Type 0
  Inside = IsInside Owned Sure (suc k) named low high

  abbrev Here : ℤ → Type 0
  Here = W.Here Owned Sure law.one_owner named k high

  abbrev Counted : Run → Type 0
  Counted = W.IsCounted Owned Sure law.one_owner named k high

  abbrev AreListed : ℤ → List Run → Type 0
  AreListed from rs = Lists start_of Here Counted from high rs

  here_of : (a : Inside) → Here a.start
  here_of a = (a.counts, a.ends)

  -- a run of the list serves a slot at its owner or before, within the limit of its end
  by_run : (r : Run) → Counted r → (tau : ℤ) → tau ≤ℤ r.owner → r.end <ℤ (tau +ℤ pos limit) → Served tau
  by_run r a tau le lt = record {
    start = r.start;
    owner = r.owner;
    counts = (a.named_start, a.run.sure.0 a.sure);
    owned = a.run.owned;
    not_before = le;
    ends = (a.run.ends (tau +ℤ pos limit)).0 lt;
  }

  -- the first of the list is not after a run inside, and the last is not before it
  first_low : (from : ℤ) (r : Run) (rs : List Run) → AreListed from (r ∷ rs) → (x h : ℤ) → from ≤ℤ x → x <ℤ high → Here x → Owned h x → r.owner ≤ℤ h
  first_low from r rs l x h a b here owned = elim (cases_ltz x r.start) as (λ _. r.owner ≤ℤ h) [
    | inl lt ↦ absurd (l.3 x a lt here)
    | inr ge ↦ law.order r.owner h r.start x ge l.0.run.owned owned
  ]

  starts_below : (a : Inside) → a.start <ℤ high
  starts_below a = a.ends.ends.0

  -- after the owner of a run of the list each slot is served by the next run; after the last one even without the list
  from_run : (last : Inside) → ((tau : ℤ) → last.owner <ℤ tau → Served tau) → (from : ℤ) (r : Run) (rs : List Run) →
      AreListed from (r ∷ rs) → FollowInTime limit r rs →
      (tau : ℤ) → r.owner <ℤ tau → Served tau
  from_run last after from r [] l f tau lt = elim (cases_ltz r.start last.start) as (λ _. Served tau) [
    | inl up ↦ absurd (l.4 last.start (omega (arith, ints)) (starts_below last) (here_of last))
    | inr dn ↦ after tau (let k = law.order last.owner r.owner last.start r.start dn last.owned l.0.run.owned in omega (arith, ints))
  ]
  from_run last after from r (q ∷ rs) l f tau lt = elim (cases_ltz q.owner tau) as (λ _. Served tau) [
    | inl behind ↦ from_run last after (r.start +ℤ pos 1) q rs l.4 f.1 tau behind
    | inr ge ↦ by_run q l.4.0 tau ge (let k = f.0 in omega (arith, ints))
  ]

  served : (first last : Inside) → ((tau : ℤ) → tau ≤ℤ first.owner → Served tau) → ((tau : ℤ) → last.owner <ℤ tau → Served tau) →
      (rs : List Run) → AreListed low rs → AllFollow limit rs → (tau : ℤ) → Served tau
  served first last before after [] l f tau = absurd (l first.start first.from (starts_below first) (here_of first))
  served first last before after (r ∷ rs) l f tau = elim (cases_ltz r.owner tau) as (λ _. Served tau) [
    | inl behind ↦ from_run last after low r rs l f tau behind
    | inr ge ↦ before tau (let k = first_low low r rs l first.start first.owner first.from (starts_below first)
        (here_of first) first.owned in omega (arith, ints))
  ]

  holds : (x : ℤ) (xs : List ℤ) → Successive (IsSentAt Owned) (x ∷ xs) → IsSentAt Owned x
  holds x [] a = a
  holds x (y ∷ xs) a = a.0

  -- a later run ends later
  ends_rise : (i j e : ℤ) (xs ys : List ℤ) → length xs ≡ length ys → i ≤ℤ j → Successive (IsSentAt Owned) (i ∷ xs) →
      Successive (IsSentAt Owned) (j ∷ ys) →
      AllByRecursion (λ x. x <ℤ e) (j ∷ ys) → AllByRecursion (λ x. x <ℤ e) (i ∷ xs)
  ends_rise i j e [] ys len le a b c = let k = c.0 in (omega (arith, ints), tt)
  ends_rise i j e (x ∷ xs) [] len le a b c = absurd (omega arith)
  ends_rise i j e (x ∷ xs) (y ∷ ys) len le a b c =
      let order : x ≤ℤ y = elim (cases_ltz y x) as
      (λ _. x ≤ℤ y) [ inl lt ↦ absurd (a.2 y (let k = b.1 in omega (arith, ints)) lt (holds y ys b.3)) | inr ge ↦ ge ] in
      ((let k = c.0 in omega (arith, ints)), ends_rise x y e xs ys (omega arith) order a.3 b.3 c.1)

  earlier_ends : (i j e f : ℤ) → i ≤ℤ j → RunEndsBelow Owned (suc k) i f → RunEndsBelow Owned (suc k) j e → RunEndsBelow Owned (suc k) i e
  earlier_ends i j e f le x y = record {
    rest = x.rest;
    run = x.run;
    ends = let c = x.run.count in let d = y.run.count in ends_rise i j e x.rest y.rest (omega arith) le x.run.successive y.run.successive y.ends;
  }

  -- if the next run comes too late, the slot after the owner is not served
  unserved : (r q : Run) → Counted r → Counted q → ((x : ℤ) → r.start <ℤ x → x <ℤ q.start → Here x → ⊥) →
      (r.owner +ℤ pos limit) <ℤ q.end → Served (r.owner +ℤ pos 1) → ⊥
  unserved r q a b none late t =
      let after : r.start <ℤ t.start = elim (cases_ltz r.start t.start) as (λ _. r.start <ℤ t.start) [
        | inl up ↦ up
        | inr dn ↦ let g = t.not_before in let o = law.order t.owner r.owner t.start r.start dn t.owned a.run.owned in absurd (omega (arith, ints))
      ] in
      elim (cases_ltz t.start q.start) as (λ _. ⊥) [
        | inl before ↦ none t.start after before (
          t.counts,
          earlier_ends t.start q.start high ((r.owner +ℤ pos 1) +ℤ pos limit)
              (let g = before in omega (arith, ints)) t.ends ((b.run.ends high).0 b.inside),
        )
        | inr from ↦
            let e = (b.run.ends ((r.owner +ℤ pos 1) +ℤ pos limit)).1
            (earlier_ends q.start t.start ((r.owner +ℤ pos 1) +ℤ pos limit) high from ((b.run.ends high).0 b.inside) t.ends)
            in
            omega (arith, ints)
      ]

  follows : ((tau : ℤ) → Served tau) → (from : ℤ) (r : Run) (rs : List Run) → AreListed from (r ∷ rs) → FollowInTime limit r rs
  follows all from r [] l = tt
  follows all from r (q ∷ rs) l = (
    elim (cases_ltz (r.owner +ℤ pos limit) q.end) as (λ _. q.end ≤ℤ (r.owner +ℤ pos limit)) [
      | inl late ↦ absurd (unserved r q l.0 l.4.0 (λ x a b h. l.4.3 x (omega (arith, ints)) b h) late (all (r.owner +ℤ pos 1)))
      | inr ge ↦ ge
    ],
    follows all (r.start +ℤ pos 1) q rs l.4,
  )

  all_follow : ((tau : ℤ) → Served tau) → (rs : List Run) → AreListed low rs → AllFollow limit rs
  all_follow all [] l = tt
  all_follow all (r ∷ rs) l = follows all low r rs l

  -- one walk over the part decides
  pub decides : (ts : List Transmission) → AreSent Owned Sure low high ts → (first last : Inside) →
      ((tau : ℤ) → tau ≤ℤ first.owner → Served tau) → ((tau : ℤ) → last.owner <ℤ tau → Served tau) →
      AllFollow limit (counted named k ts) ↔ ((tau : ℤ) → Served tau)
  decides ts l first last before after =
      let listed = W.counted_lists Owned Sure law.one_owner named k high low ts l in
      (served first last before after (counted named k ts) listed, (λ all. all_follow all (counted named k ts) listed))
