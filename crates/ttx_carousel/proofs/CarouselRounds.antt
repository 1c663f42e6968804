-- Pages of one number never share a round of a carousel while another round has none of them.
use Rattle.std.proofs.Common.{◌≡◌, ◌≢◌, ◌⊎◌, ℕ, zero, suc, ◌+◌, ◌*◌, ◌/◌, ◌%◌, ◌<◌, ◌≤◌, Bool, true, false, cond, eqb, ltb, ◌&&◌, ◌||◌}
use Rattle.std.proofs.Common.{List, [], ◌∷◌, ◌++◌, length, map, Option, Some, None, refl, sym, ap, ◌∙◌, subst, arith, inl, inr, get_or, eqb-true}
use Rattle.std.specs.Prelude.{All, slice_get, slice_index, option_map}
use Rattle.std.specs.List.{AllPairs, count_by, list_any}
use Rattle.std.proofs.lemmas.Bool.{and_parts, and_from, both_ways, or_cases, cases_Bool, cases_eq, cases_order, cond-true, cond-false, eq-eqb, lt-ltb, ltb-true}
use Rattle.std.proofs.lemmas.List.{length-map}
use Rattle.std.proofs.lemmas.List.Sums.{sum_by-cons}
use Rattle.std.proofs.lemmas.Option.{slice_get-map, slice_get_within, get_or_from_slice_get}
use Rattle.std.proofs.lemmas.Nat.{le-div}
use Rattle.std.proofs.Math.Nat.{mul-le-mul_right, div-mul-le_self}
use Rattle.ttx_header.specs.Ids.{Id}
use Rattle.ttx_numbers.specs.Numbers.{share_number, siblings}
use Rattle.ttx_page.specs.Pages.{Page}
use Rattle.ttx_page.specs.declared.class.Class.{Class}
use Rattle.ttx_plan.specs.Spread.{IsSpread}
use Rattle.ttx_source.specs.Keys.{is_often}
use Rattle.ttx_source.specs.Promises.{PromiseFields}
use Rattle.ttx_source.specs.Services.{Authored, ServiceFields, IsAuthored, IsService, authored_ids, pages_of}
use Rattle.ttx_spread.specs.SpreadNumbers.{HasPage, NumbersAreSpread}
use Rattle.ttx_carousel.specs.Layout.{first_of, greater, has_smaller_subcode, has_stays, is_stay_of, shares_with, once, place_of, rank, rounds_between, turn_of}
use Rattle.ttx_carousel.specs.Layout.{standing_of, standing_at, standings, standings_to, stands, stands_at, turns, turns_among, turns_at, turns_of}
use Rattle.ttx_carousel.specs.Rounds.{IsSentIn, HasPageIn, AreApart}
use Rattle.ttx_carousel.specs.declared.layout.Standing.{Standing}
use Rattle.ttx_carousel.specs.declared.layout.Standing.TheVariants.{Rounds, Once}
use Rattle.ttx_carousel.proofs.CarouselLayout.{listed_there, same_one}
use Rattle.ttx_carousel.proofs.CarouselPlans.{length_standings}

-- where the page at an index stands

get_before : {A : Type 0} (xs ys : List A) (i : ℕ) → i < length xs → slice_get (xs ++ ys) i ≡ slice_get xs i
get_before [] ys i lt = absurd (omega (arith, lt))
get_before (x ∷ xs) ys zero lt = refl
get_before (x ∷ xs) ys (suc i) lt = get_before xs ys i (omega (arith, lt))

get_behind : {A : Type 0} (xs : List A) (y : A) → slice_get (xs ++ y ∷ []) (length xs) ≡ Some y
get_behind [] y = refl
get_behind (x ∷ xs) y = get_behind xs y

module _ (stays : List PromiseFields) (service : ServiceFields) (places : List ℕ) where
  stands_in : (n index : ℕ) (p : Authored) → n ≤ length service.pages → index < n → slice_get service.pages index ≡ Some p →
      slice_get (standings_to service stays places n) index ≡ Some (standing_of (pages_of service) stays places index p)
  stands_in zero index p le lt at = absurd (omega (arith, lt))
  stands_in (suc n) index p le lt at =
      let before = standings_to service stays places n in
      let size : length before ≡ n = length_standings service stays places n (omega (arith, le)) in
      elim (cases_eq index n) [
        | inl same ↦
            let last : slice_get service.pages n ≡ Some p = ap (slice_get service.pages) (sym same) ∙ at in
            ap (λ o. slice_get (before ++ standing_at (pages_of service) stays places n o) index) last
            ∙ ap (slice_get (before ++ standing_of (pages_of service) stays places n p ∷ [])) (same ∙ sym size)
            ∙ get_behind before (standing_of (pages_of service) stays places n p)
            ∙ ap (λ k. Some (standing_of (pages_of service) stays places k p)) (sym same)
        | inr apart ↦
            get_before before (standing_at (pages_of service) stays places n (slice_get service.pages n)) index
            (omega (arith, lt, apart, size))
            ∙ stands_in n index p (omega (arith, le)) (omega (arith, lt, apart)) at
      ]

  standing_there : (index : ℕ) (p : Authored) → slice_get service.pages index ≡ Some p →
      slice_get (standings service stays places) index ≡ Some (standing_of (pages_of service) stays places index p)
  standing_there index p at =
      stands_in (length service.pages) index p (omega arith) (slice_get_within service.pages index p at) at

-- pages of one number, by their fields

same_numbers : (p q : Page) → share_number p q ≡ true → (p.id.mag ≡ q.id.mag) × (p.id.page ≡ q.id.page)
same_numbers p q share =
    let parts = and_parts (eqb p.id.mag q.id.mag) (eqb p.id.page q.id.page) share in
    (eqb-true p.id.mag q.id.mag parts.0, eqb-true p.id.page q.id.page parts.1)

shares_itself : (p : Page) → share_number p p ≡ true
shares_itself p = and_from (eqb p.id.mag p.id.mag) (eqb p.id.page p.id.page) (eq-eqb p.id.mag p.id.mag refl) (eq-eqb p.id.page p.id.page refl)

shared_back : (p q : Page) → share_number p q ≡ true → share_number q p ≡ true
shared_back p q share =
    let same = same_numbers p q share in
    and_from (eqb q.id.mag p.id.mag) (eqb q.id.page p.id.page) (eq-eqb q.id.mag p.id.mag (sym same.0))
    (eq-eqb q.id.page p.id.page (sym same.1))

any_alike : {A : Type 0} (f g : A → Bool) → ((x : A) → f x ≡ g x) → (xs : List A) → list_any f xs ≡ list_any g xs
any_alike f g same [] = refl
any_alike f g same (x ∷ xs) = ap (λ b. b || list_any f xs) (same x) ∙ ap (λ b. g x || b) (any_alike f g same xs)

abbrev step : Bool → ℕ
step b = cond {A = ℕ} b 1 0

count_step : {A : Type 0} (f : A → Bool) (x : A) (xs : List A) → count_by f (x ∷ xs) ≡ step (f x) + count_by f xs
count_step f x xs = sum_by-cons (λ y. step (f y)) x xs

count_alike : {A : Type 0} (f g : A → Bool) → ((x : A) → f x ≡ g x) → (xs : List A) → count_by f xs ≡ count_by g xs
count_alike f g same [] = refl
count_alike f g same (x ∷ xs) =
    count_step f x xs ∙ ap (λ (b : Bool). step b + count_by f xs) (same x) ∙ ap (λ (n : ℕ). step (g x) + n) (count_alike f g same xs)
    ∙ sym (count_step g x xs)

-- what shares its number with one of two pages shares it with the other
shared_from : (p q : Page) → share_number p q ≡ true → (o : Page) → share_number p o ≡ share_number q o
shared_from p q share o =
    let same = same_numbers p q share in
    ap (λ m. eqb m o.id.mag && eqb p.id.page o.id.page) same.0 ∙ ap (λ n. eqb q.id.mag o.id.mag && eqb n o.id.page) same.1

shared_to : (p q : Page) → share_number p q ≡ true → (o : Page) → share_number o p ≡ share_number o q
shared_to p q share o =
    let same = same_numbers p q share in
    ap (λ m. eqb o.id.mag m && eqb o.id.page p.id.page) same.0 ∙ ap (λ n. eqb o.id.mag q.id.mag && eqb o.id.page n) same.1

same_stays : (pages : List Page) (stays : List PromiseFields) (p q : Page) → share_number p q ≡ true →
    has_stays pages stays p ≡ has_stays pages stays q
same_stays pages stays p q share =
    any_alike (is_stay_of pages p) (is_stay_of pages q) (λ stay. by (slice_get pages stay.page)) stays
  where
    by : (o : Option Page) → shares_with p o ≡ shares_with q o
    by None = refl
    by (Some o) = shared_to p q share o

same_siblings : (pages : List Page) (p q : Page) → share_number p q ≡ true → siblings pages p ≡ siblings pages q
same_siblings pages p q share = count_alike (share_number p) (share_number q) (shared_from p q share) pages

-- counts

step_most : (a b : Bool) → (a ≡ true → b ≡ true) → step a ≤ step b
step_most true true h = omega arith
step_most true false h = absurd (both_ways false refl (h refl))
step_most false b h = omega arith

count_most : {A : Type 0} (f g : A → Bool) → ((x : A) → f x ≡ true → g x ≡ true) → (xs : List A) → count_by f xs ≤ count_by g xs
count_most f g h [] = omega arith
count_most f g h (x ∷ xs) =
    let rest = count_most f g h xs in
    let here = step_most (f x) (g x) (h x) in
    let one = count_step f x xs in
    let two = count_step g x xs in
    omega (arith, rest, here, one, two)

count_less : {A : Type 0} (f g : A → Bool) → ((x : A) → f x ≡ true → g x ≡ true) → (xs : List A) (k : ℕ) (y : A) →
    slice_get xs k ≡ Some y → f y ≡ false → g y ≡ true → count_by f xs < count_by g xs
count_less f g h [] k y at fails passes = let e : None ≡ Some y = at in cc
count_less f g h (x ∷ xs) zero y at fails passes =
    let same : x ≡ y = same_one x y at in
    let rest = count_most f g h xs in
    let one = count_step f x xs in
    let two = count_step g x xs in
    let out : step (f x) ≡ 0 = ap (λ z. step (f z)) same ∙ ap step fails in
    let counted : step (g x) ≡ 1 = ap (λ z. step (g z)) same ∙ ap step passes in
    omega (arith, rest, one, two, out, counted)
count_less f g h (x ∷ xs) (suc k) y at fails passes =
    let rest = count_less f g h xs k y at fails passes in
    let here = step_most (f x) (g x) (h x) in
    let one = count_step f x xs in
    let two = count_step g x xs in
    omega (arith, rest, here, one, two)

-- turns

later_turn : (a b t s : ℕ) → a < b → s ≤ t → 0 < s → a * t / s < b * t / s
later_turn a b t s less le some =
    let next : suc a * t ≤ b * t = mul-le-mul_right t less in
    let back : a * t / s * s ≤ a * t = div-mul-le_self (a * t) s in
    le-div (suc (a * t / s)) (b * t) s some (omega (arith, next, back, le))

greater_first : (a b : ℕ) → a ≤ greater a b
greater_first a b = elim (cases_Bool (ltb a b)) [
  | inl t ↦ let e : greater a b ≡ b = cond-true (ltb a b) b a t in let lt = ltb-true a b t in omega (arith, e, lt)
  | inr f ↦ let e : greater a b ≡ a = cond-false (ltb a b) b a f in omega (arith, e)
]

greater_second : (a b : ℕ) → b ≤ greater a b
greater_second a b = elim (cases_Bool (ltb a b)) [
  | inl t ↦ let e : greater a b ≡ b = cond-true (ltb a b) b a t in omega (arith, e)
  | inr f ↦
      let e : greater a b ≡ a = cond-false (ltb a b) b a f in
      elim (cases_order a b) [
        | inl same ↦ omega (arith, e, same)
        | inr apart ↦ elim apart [
          | inl less ↦ absurd (both_ways (ltb a b) f (lt-ltb a b less))
          | inr more ↦ omega (arith, e, more)
        ]
      ]
]

turns_least : (pages : List Page) (stays : List PromiseFields) (n index : ℕ) (p : Page) → index < n → slice_get pages index ≡ Some p →
    turns_of pages stays p ≤ turns_among pages stays n
turns_least pages stays zero index p lt at = absurd (omega (arith, lt))
turns_least pages stays (suc n) index p lt at =
    let first = greater_first (turns_among pages stays n) (turns_at pages stays (slice_get pages n)) in
    let second = greater_second (turns_among pages stays n) (turns_at pages stays (slice_get pages n)) in
    elim (cases_eq index n) [
      | inl same ↦
          let here : turns_at pages stays (slice_get pages n) ≡ turns_of pages stays p =
          ap (turns_at pages stays) (ap (slice_get pages) (sym same) ∙ at) in
          omega (arith, second, here)
      | inr apart ↦ let rest = turns_least pages stays n index p (omega (arith, lt, apart)) at in omega (arith, first, rest)
    ]

-- of two pages of a number, the one with the greater subcode has the greater rank

smaller_first : (p q o : Page) → share_number p q ≡ true → q.id.sub < p.id.sub → has_smaller_subcode q o ≡ true →
    has_smaller_subcode p o ≡ true
smaller_first p q o share less h =
    let parts = and_parts (share_number q o) (ltb o.id.sub q.id.sub) h in
    let below : o.id.sub < q.id.sub = ltb-true o.id.sub q.id.sub parts.1 in
    and_from (share_number p o) (ltb o.id.sub p.id.sub) (shared_from p q share o ∙ parts.0)
    (lt-ltb o.id.sub p.id.sub (omega (arith, below, less)))

not_smaller : (p : Page) → has_smaller_subcode p p ≡ false
not_smaller p = elim (cases_Bool (has_smaller_subcode p p)) [
  | inl t ↦
      let parts = and_parts (share_number p p) (ltb p.id.sub p.id.sub) t in
      let lt = ltb-true p.id.sub p.id.sub parts.1 in
      absurd (omega (arith, lt))
  | inr f ↦ f
]

rank_less : (pages : List Page) (k : ℕ) (p q : Page) → slice_get pages k ≡ Some q → share_number p q ≡ true → q.id.sub < p.id.sub →
    rank pages q < rank pages p
rank_less pages k p q at share less =
    count_less (has_smaller_subcode q) (has_smaller_subcode p) (λ o. smaller_first p q o share less) pages k q at (not_smaller q)
    (and_from (share_number p q) (ltb q.id.sub p.id.sub) share (lt-ltb q.id.sub p.id.sub less))

some_sibling : (pages : List Page) (k : ℕ) (p : Page) → slice_get pages k ≡ Some p → 0 < siblings pages p
some_sibling pages k p at =
    let more : count_by (λ (o : Page). false) pages < siblings pages p =
    count_less (λ (o : Page). false) (share_number p) (λ x h. absurd (both_ways false refl h)) pages k p at refl (shares_itself p) in
    omega (arith, more)

-- two pages of a list have different ids
ids_apart : (pages : List Authored) → AllPairs (λ a b. a ≢ b) (authored_ids pages) → (i j : ℕ) (p q : Authored) → slice_get pages i ≡ Some p →
    slice_get pages j ≡ Some q → i ≢ j → p.page.id ≢ q.page.id
ids_apart pages distinct i j p q at there apart same = elim (cases_order i j) [
  | inl e ↦ apart e
  | inr differ ↦ elim differ [
    | inl less ↦ one i j p q at there less same
    | inr more ↦ one j i q p there at more (sym same)
  ]
]
  where
    one : (i j : ℕ) (p q : Authored) → slice_get pages i ≡ Some p → slice_get pages j ≡ Some q → i < j → p.page.id ≡ q.page.id → ⊥
    one i j p q at there less same =
        let size : length (authored_ids pages) ≡ length pages = length-map pages (λ (a : Authored). a.page.id) in
        let within = slice_get_within pages j q there in
        let first : get_or (authored_ids pages) i p.page.id ≡ p.page.id =
        get_or_from_slice_get (authored_ids pages) i p.page.id p.page.id
        (slice_get-map (λ (a : Authored). a.page.id) pages i ∙ ap (option_map (λ (a : Authored). a.page.id)) at) in
        let second : get_or (authored_ids pages) j p.page.id ≡ q.page.id =
        get_or_from_slice_get (authored_ids pages) j q.page.id p.page.id
        (slice_get-map (λ (a : Authored). a.page.id) pages j ∙ ap (option_map (λ (a : Authored). a.page.id)) there) in
        distinct i j p.page.id less (omega (arith, within, size)) (first ∙ same ∙ sym second)

-- rounds

rounds_are : (often : ℕ) → is_often often ≡ true → rounds_between often ≡ 8 / often
rounds_are often t = elim (or_cases ((eqb often 1 || eqb often 2) || eqb often 4) (eqb often 8) t) [
  | inr eight ↦ at 8 (eqb-true often 8 eight) refl
  | inl rest ↦ elim (or_cases (eqb often 1 || eqb often 2) (eqb often 4) rest) [
    | inr four ↦ at 4 (eqb-true often 4 four) refl
    | inl less ↦ elim (or_cases (eqb often 1) (eqb often 2) less) [
      | inl one ↦ at 1 (eqb-true often 1 one) refl
      | inr two ↦ at 2 (eqb-true often 2 two) refl
    ]
  ]
]
  where
    at : (n : ℕ) → often ≡ n → rounds_between n ≡ 8 / n → rounds_between often ≡ 8 / often
    at n e h = ap rounds_between e ∙ h ∙ ap (λ k. 8 / k) (sym e)

module _ (stays : List PromiseFields) (service : ServiceFields) (places : List ℕ) (is : IsService service) (laps : ℕ) where
  abbrev all : List Page
  all = pages_of service

  page_listed : (index : ℕ) (p : Authored) → slice_get service.pages index ≡ Some p → slice_get all index ≡ Some p.page
  page_listed index p at = slice_get-map (λ (a : Authored). a.page) service.pages index ∙ ap (option_map (λ (a : Authored). a.page)) at

  often_is : (index : ℕ) (p : Authored) → slice_get service.pages index ≡ Some p → rounds_between p.often ≡ 8 / p.often
  often_is index p at =
      let there : IsAuthored service.serial (get_or service.pages index p) =
      is.pages index p (slice_get_within service.pages index p at) in
      let same : get_or service.pages index p ≡ p = get_or_from_slice_get service.pages index p p at in
      rounds_are p.often (subst (λ (q : Authored). is_often q.often ≡ true) same there.often)

  -- a page without stays

  in_rounds : (index : ℕ) (p : Authored) → has_stays all stays p.page ≡ false →
      standing_of all stays places index p ≡ Rounds p.often (place_of places index)
  in_rounds index p none = cond-false (has_stays all stays p.page) _ _ none

  sent_at : (index round : ℕ) (p : Authored) → slice_get service.pages index ≡ Some p → has_stays all stays p.page ≡ false →
      stands_at (slice_get (standings service stays places) index) laps round ≡ eqb (round % (8 / p.often)) (slice_index places index)
  sent_at index round p at none =
      ap (λ o. stands_at o laps round) (standing_there stays service places index p at ∙ ap Some (in_rounds index p none))
      ∙ ap (λ n. eqb (round % n) (place_of places index)) (often_is index p at)

  -- a page with stays

  in_turn : (index : ℕ) (p : Authored) → has_stays all stays p.page ≡ true →
      standing_of all stays places index p ≡ once all places p.page (turns all stays)
  in_turn index p some = cond-true (has_stays all stays p.page) _ _ some

  turn_is : (index round : ℕ) (p : Authored) → slice_get service.pages index ≡ Some p → has_stays all stays p.page ≡ true →
      IsSentIn stays service places laps round index → round / (8 * laps) ≡ turn_of all p.page (turns all stays)
  turn_is index round p at some sent =
      let is_once : stands_at (slice_get (standings service stays places) index) laps round
      ≡ stands (once all places p.page (turns all stays)) laps round =
      ap (λ o. stands_at o laps round) (standing_there stays service places index p at ∙ ap Some (in_turn index p some)) in
      eqb-true (round / (8 * laps)) (turn_of all p.page (turns all stays)) ((and_parts (eqb (round / (8 * laps))
      (turn_of all p.page (turns all stays))) (eqb (round % (8 * laps)) (place_of places (first_of all p.page))) (sym is_once ∙ sent)).0)

  -- two pages of a number with stays have different turns
  turns_differ : (index other : ℕ) (p q : Authored) → slice_get service.pages index ≡ Some p → slice_get service.pages other ≡ Some q →
      share_number p.page q.page ≡ true → has_stays all stays p.page ≡ true → q.page.id.sub < p.page.id.sub →
      turn_of all q.page (turns all stays) < turn_of all p.page (turns all stays)
  turns_differ index other p q at there share some less =
      let ranks = rank_less all other p.page q.page (page_listed other q there) share less in
      let count = same_siblings all p.page q.page share in
      let least : turns_of all stays p.page ≤ turns all stays =
      turns_least all stays (length all) index p.page (slice_get_within all index p.page (page_listed index p at)) (page_listed index p at) in
      let own : turns_of all stays p.page ≡ siblings all p.page = cond-true (has_stays all stays p.page) (siblings all p.page) 1 some in
      let few : siblings all p.page ≤ turns all stays = omega (arith, least, own) in
      subst (λ n. rank all q.page * turns all stays / n < rank all p.page * turns all stays / siblings all p.page) count
      (later_turn (rank all q.page) (rank all p.page) (turns all stays) (siblings all p.page) ranks few
      (some_sibling all index p.page (page_listed index p at)))

  never_together : (round index other : ℕ) (p q : Authored) → slice_get service.pages index ≡ Some p →
      slice_get service.pages other ≡ Some q → index ≢ other → share_number p.page q.page ≡ true →
      has_stays all stays p.page ≡ true → IsSentIn stays service places laps round index →
      IsSentIn stays service places laps round other → ⊥
  never_together round index other p q at there apart share some sent sent_too =
      let both = same_stays all stays p.page q.page share in
      let first = turn_is index round p at some sent in
      let second = turn_is other round q there (sym both ∙ some) sent_too in
      elim (cases_order p.page.id.sub q.page.id.sub) [
        | inl same ↦
            let numbers = same_numbers p.page q.page share in
            ids_apart service.pages is.distinct index other p q at there apart
            (λ i. record { mag = numbers.0 i; page = numbers.1 i; sub = same i })
        | inr differ ↦ elim differ [
          | inl less ↦
              let later = turns_differ other index q p there at (shared_back p.page q.page share) (sym both ∙ some) less in
              absurd (omega (arith, later, first, second))
          | inr more ↦
              let later = turns_differ index other p q at there share some more in
              absurd (omega (arith, later, first, second))
        ]
      ]

  -- so a page that stands in a round of eight is sent in a round of the cycle
  has_page_in : (each : ℕ) (p : Authored) → has_stays all stays p.page ≡ false → HasPage service.pages places p each →
      HasPageIn stays service places laps p.page each
  has_page_in each p none found =
      let none_there = sym (same_stays all stays p.page found.page.page found.shares) ∙ none in
      record {
        index = found.index;
        page = found.page;
        listed = found.listed;
        shares = found.shares;
        sent = sent_at found.index each found.page found.listed none_there
            ∙ eq-eqb (each % (8 / found.page.often)) (slice_index places found.index) found.stands;
      }

  pub numbers_are_apart : (class : Class) → NumbersAreSpread → IsSpread class service.pages places → AreApart stays service places laps
  numbers_are_apart class law spread round index other p q at there apart share sent sent_too =
      elim (cases_Bool (has_stays all stays p.page)) [
        | inl some ↦ absurd (never_together round index other p q at there apart share some sent sent_too)
        | inr none ↦ (
          none,
          λ each.
              let none_too = sym (same_stays all stays p.page q.page share) ∙ none in
              let here = eqb-true (round % (8 / p.often)) (slice_index places index) (sym (sent_at index round p at none) ∙ sent) in
              let here_too = eqb-true (round % (8 / q.often)) (slice_index places other) (sym (sent_at other round q there none_too) ∙ sent_too) in
              let found = law class service places is spread round index other p q at there apart share here here_too each in
              has_page_in each p none found,
        )
      ]
