-- If the headers of a page are followed by another page number in each edition and across each change, they are so in all that is sent.
use Rattle.std.proofs.Common.{◌≡◌, ℕ, zero, suc, ◌≤◌, ℤ, pos, ◌+ℤ◌, ◌-ℤ◌, ◌<ℤ◌, ◌≤ℤ◌, true, List, [], ◌∷◌, length, take, sym, ap, ◌∙◌, subst}
use Rattle.std.proofs.Common.{inl, inr, arith}
use Rattle.std.proofs.lemmas.Int.{ints}
use Rattle.std.proofs.lemmas.Bool.{both_ways}
use Rattle.ttx_header.specs.Ids.{Id}
use Rattle.ttx_page.specs.Packets.{packet_of}
use Rattle.ttx_page.specs.Pages.{Page}
use Rattle.ttx_page.specs.declared.selection.Selection.{Selection}
use Rattle.ttx_page.specs.Streams.{Stream, repeated, joined, heads, heads_page}
use Rattle.ttx_page.specs.Followers.{heads_another, IsFollowed, IsFollowedWithin}
use Rattle.ttx_page.proofs.SlotDistances.{cases_ltz}
use Rattle.ttx_late.specs.Laws.{IsFollowedFrom}
use Rattle.ttx_witness.specs.Coverage.{limit}
use Rattle.ttx_proof.proofs.AgreeingStreams.{latest_on}
use Rattle.ttx_playout.specs.Schedules.{Edition, Showing, span, sent, AreEditions, IsHandedOn, HasBegun, StaysOn}
use Rattle.ttx_playout.specs.LateSchedules.{IsFollowedAcross, IsFollowedWhile}
use Rattle.ttx_playout.proofs.SentEditions.{below, above, last_change, next_change, cut_editions, cut_handed}
use Rattle.ttx_playout.proofs.CarriedThrough.{CarriedLaws, StandsThrough, stands_through, first_header_of, one_period, some_deadline}

abbrev pub IsFollowedSoon : Stream → Id → ℕ → ℤ → Type 0
IsFollowedSoon s page gap h = (f : IsFollowed s page h) × (f.slot ≤ℤ (h +ℤ pos gap))

-- a header that is followed in one stream is followed in another that is the same up to its follower, moved by d slots
followed_on : (s t : Stream) (d h : ℤ) (page : Id) (gap : ℕ) (f : IsFollowedSoon s page gap h) →
    ((i : ℤ) → h ≤ℤ i → i ≤ℤ f.0.slot → t (i +ℤ d) ≡ s i) → IsFollowedSoon t page gap (h +ℤ d)
followed_on s t d h page gap f same =
    let lt = f.0.next.earlier in
    let near = f.1 in (
      record {
        slot = f.0.slot +ℤ d;
        next = latest_on s t d h f.0.slot same page.mag f.0.next;
        another = ap (λ x. heads_another page (packet_of x)) (same f.0.slot (omega (arith, ints)) (omega (arith, ints))) ∙ f.0.another;
      },
      omega (arith, ints),
    )

-- from slot begin on, t is s moved by d slots
pub followed_later : (s t : Stream) (d begin : ℤ) → ((i : ℤ) → begin ≤ℤ i → t (i +ℤ d) ≡ s i) → (page : Id) (gap : ℕ) →
    IsFollowedFrom s page gap begin → IsFollowedFrom t page gap (begin +ℤ d)
followed_later s t d begin same page gap followed h le head =
    let e : (h -ℤ d) +ℤ d ≡ h = omega (arith, ints) in
    let there = sym (same (h -ℤ d) (omega (arith, ints))) ∙ ap t e in
    let f = followed (h -ℤ d) (omega (arith, ints)) (ap (λ x. heads_page page (packet_of x)) there ∙ head) in
    subst (IsFollowedSoon t page gap) e (followed_on s t d (h -ℤ d) page gap f (λ i low high. same i (omega (arith, ints))))

module _ (s old pair rest : Stream) (d until : ℤ) (page : Id) (gap : ℕ) (was : (i : ℤ) → i <ℤ pos 0 → s i ≡ old i)
    (low : (i : ℤ) → i <ℤ until → s i ≡ pair i) (high : (i : ℤ) → pos 0 ≤ℤ i → s i ≡ rest (i -ℤ d))
    (within : IsFollowedWithin old page gap) (across : IsFollowedAcross pair page gap) (goes_on : IsFollowedWithin rest page gap)
    (head : ℤ) (not_before : pos 0 ≤ℤ head) (soon : head <ℤ until) (is_header : heads page.mag (packet_of (s head)) ≡ true) where
  on_below : (t : Stream) (h : ℤ) (f : IsFollowedSoon t page gap h) → ((i : ℤ) → i ≤ℤ f.0.slot → s i ≡ t i) → IsFollowedSoon s page gap h
  on_below t h f same =
      let e : h +ℤ pos 0 ≡ h = omega (arith, ints) in
      subst (IsFollowedSoon s page gap) e
      (followed_on t s (pos 0) h page gap f (λ i a b. let k : i +ℤ pos 0 ≡ i = omega (arith, ints) in ap s k ∙ same i b))

  -- the next header in the pair comes before the known one
  follower_near : (h : ℤ) → h <ℤ pos 0 → (f : IsFollowedSoon pair page gap h) → f.0.slot <ℤ until
  follower_near h lt f = elim (cases_ltz f.0.slot until) as (λ _. f.0.slot <ℤ until) [
    | inl near ↦ near
    | inr far ↦ absurd (both_ways _ (f.0.next.none_between head (omega (arith, ints)) (omega (arith, ints)))
        (ap (λ x. heads page.mag (packet_of x)) (sym (low head soon)) ∙ is_header))
  ]

  pub followed_over : IsFollowedWithin s page gap
  followed_over h own = elim (cases_ltz h (pos 0)) as (λ _. IsFollowedSoon s page gap h) [
    | inr ge ↦
        let e : ((pos 0 -ℤ d) +ℤ d) ≤ℤ h = omega (arith, ints) in
        followed_later rest s d (pos 0 -ℤ d)
        (λ i a. let k : (i +ℤ d) -ℤ d ≡ i = omega (arith, ints) in high (i +ℤ d) (omega (arith, ints)) ∙ ap rest k) page gap
        (λ j _ heads. goes_on j heads) h e own
    | inl lt ↦
        let f = within h (ap (λ x. heads_page page (packet_of x)) (sym (was h lt)) ∙ own) in
        elim (cases_ltz f.0.slot (pos 0)) as (λ _. IsFollowedSoon s page gap h) [
          | inl before ↦ on_below old h f (λ i le. was i (omega (arith, ints)))
          | inr after ↦
              let g = across h lt (ap (λ x. heads_page page (packet_of x)) (sym (low h (omega (arith, ints)))) ∙ own)
              (λ i a b. ap (λ x. heads page.mag (packet_of x)) (sym (low i (omega (arith, ints))) ∙ was i b)
              ∙ f.0.next.none_between i a (omega (arith, ints))) in
              let near = follower_near h lt g in
              on_below pair h g (λ i le. low i (omega (arith, ints)))
        ]
  ]

module _ (laws : CarriedLaws) (p : Page) (sel : Selection) (gap : ℕ) where
  abbrev FollowsThrough : Edition → List Showing → Type 0
  FollowsThrough first [] = IsFollowedWithin (repeated first.cycle) p.id gap
  FollowsThrough first (t ∷ later) = IsFollowedWithin (repeated first.cycle) p.id gap
      × IsFollowedAcross (joined first.cycle t.edition.cycle) p.id gap × FollowsThrough t.edition later

  followed_through : (first : Edition) (later : List Showing) → AreEditions first later → IsHandedOn first later → StandsThrough laws p sel first later →
      FollowsThrough first later → IsFollowedWithin (sent first later) p.id gap
  followed_through first [] are handed stands follows = follows
  followed_through first (t ∷ []) are handed stands follows =
      let h = first_header_of laws p sel t.edition are.1 handed.0.0.new stands.1 in
      let inside = h.1 in
      followed_over (sent first (t ∷ [])) (repeated first.cycle) (joined first.cycle t.edition.cycle) (sent t.edition []) (pos (span t))
      (pos (length t.edition.cycle)) p.id gap (below first (t ∷ [])) (λ i lt. last_change first t i) (above first t []) follows.0 follows.1
      (followed_through t.edition [] are.1 handed.2 stands.1 follows.2)
      (pos h.0) (omega (arith, ints)) (omega (arith, ints))
      (ap (λ x. heads p.id.mag (packet_of x)) (last_change first t (pos h.0)) ∙ h.2)
  followed_through first (t ∷ next ∷ later) are handed stands follows =
      let h = first_header_of laws p sel t.edition are.1.0 handed.0.0.new stands.1.0 in
      let inside = h.1 in
      let period = one_period t.periods (length t.edition.cycle) (limit t.edition.certificate)
      (some_deadline t.edition.certificate are.1.0.certificate) handed.1 in
      let here : pos h.0 <ℤ pos (span t) = omega (arith, ints) in
      followed_over (sent first (t ∷ next ∷ later)) (repeated first.cycle) (joined first.cycle t.edition.cycle) (sent t.edition (next ∷ later))
      (pos (span t)) (pos (span t)) p.id gap (below first (t ∷ next ∷ later)) (next_change first t (next ∷ later))
      (above first t (next ∷ later)) follows.0 follows.1
      (followed_through t.edition (next ∷ later) are.1 handed.2 stands.1 follows.2)
      (pos h.0) (omega (arith, ints)) here
      (ap (λ x. heads p.id.mag (packet_of x)) (next_change first t (next ∷ later) (pos h.0) here) ∙ h.2)

  follows_through : (first : Edition) (later : List Showing) (to : ℕ) → IsFollowedWhile first later p.id gap 0 to → FollowsThrough first (take to later)
  follows_through first [] zero a = a.within 0 (omega arith) (omega arith)
  follows_through first [] (suc to) a = a.within 0 (omega arith) (omega arith)
  follows_through first (t ∷ later) zero a = a.within 0 (omega arith) (omega arith)
  follows_through first (t ∷ later) (suc to) a = (
    a.within 0 (omega arith) (omega arith),
    a.across 0 (omega arith) (omega arith),
    follows_through t.edition later to (record {
      within = λ n low high. a.within (suc n) (omega arith) (omega arith);
      across = λ n low high. a.across (suc n) (omega arith) (omega arith);
    }),
  )

  pub followed_from : (first : Edition) (later : List Showing) (from to : ℕ) → AreEditions first later → IsHandedOn first later →
      from ≤ to → to ≤ length later → StaysOn first later p sel from to → IsFollowedWhile first later p.id gap from to →
      (begin : ℤ) → HasBegun later from begin → IsFollowedFrom (sent first (take to later)) p.id gap begin
  followed_from first later zero to are handed le inside stays follows begin begun = λ h _ head.
      followed_through first (take to later) (cut_editions first later to are) (cut_handed first later to handed)
      (stands_through laws p sel first later to stays) (follows_through first later to follows) h head
  followed_from first later (suc from) zero are handed le inside stays follows begin begun = absurd (omega arith)
  followed_from first [] (suc from) (suc to) are handed le inside stays follows begin begun = absurd (omega arith)
  followed_from first (t ∷ later) (suc from) (suc to) are handed le inside stays follows begin begun =
      let d = pos (span t) in
      let rest = followed_from t.edition later from to are.1 handed.2 (omega arith) (omega arith)
      (λ n low high. stays (suc n) (omega arith) (omega arith))
      (record {
        within = λ n low high. follows.within (suc n) (omega arith) (omega arith);
        across = λ n low high. follows.across (suc n) (omega arith) (omega arith);
      }) (begin -ℤ d) (begun_later from begun) in
      let e : (begin -ℤ d) +ℤ d ≡ begin = omega (arith, ints) in
      subst (IsFollowedFrom (sent first (t ∷ take to later)) p.id gap) e
      (followed_later (sent t.edition (take to later)) (sent first (t ∷ take to later)) d (begin -ℤ d)
      (λ i low. let f : (i +ℤ d) -ℤ d ≡ i = omega (arith, ints) in
      above first t (take to later) (i +ℤ d) (omega (arith, ints)) ∙ ap (sent t.edition (take to later)) f) p.id gap rest)
    where
      begun_later : (n : ℕ) → HasBegun (t ∷ later) (suc n) begin → HasBegun later n (begin -ℤ pos (span t))
      begun_later zero b = tt
      begun_later (suc n) b = omega (arith, ints)
