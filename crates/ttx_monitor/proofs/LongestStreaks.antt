-- The longest streak, while a feed grows by one slot, and as the least repeat count that the feed keeps.
use Rattle.std.proofs.Common.{◌≡◌, ◌⊎◌, ℕ, ◌+◌, ◌<◌, ◌≤◌, min, true, not, List, [], ◌∷◌, ◌++◌, length, get_or, Option, Some, None}
use Rattle.std.proofs.Common.{refl, sym, ap, ◌∙◌, subst, inl, inr, arith, eq-eqb}
use Rattle.std.proofs.lemmas.Bool.{both_ways, cases_lt, cases_Bool}
use Rattle.ttx_packet.specs.Laws.{RowsAreNumbered}
use Rattle.ttx_page.specs.Laws.{EachSlotTurns, StreamsMove}
use Rattle.ttx_counter.specs.Streaks.{StreaksDecide}
use Rattle.ttx_counter.specs.Cells.{is_text}
use Rattle.ttx_monitor.specs.Watching.{Watched, IsWithin}
use Rattle.ttx_monitor.specs.Places.{is_at, IsTable}
use Rattle.ttx_monitor.specs.Streaks.{place_at, sends_at, streak, base, AreStreaks, AreTextsRight, IsLargestIn, HasStreak, IsLongest}
use Rattle.ttx_monitor.specs.Totals.{with_repeat, IsLongestStreak}
use Rattle.ttx_monitor.specs.declared.places.RowPlace.{RowPlace}
use Rattle.ttx_monitor.proofs.FeedStreaks.{same, unsent, right, latest, grown, owned}
use Rattle.ttx_monitor.proofs.KeptIsWithin.{kept_within, within_kept, streak_as, page_here}
use Rattle.ttx_monitor.specs.MostWrong.{HasWrong, IsMostWrong}
use Rattle.std.proofs.lemmas.Option.{slice_get_within}

module _ (w : Watched) (table : List (Option RowPlace)) (feed : List (List ℕ)) (slot : List ℕ) where
  abbrev n : ℕ
  n = length feed

  abbrev more : List (List ℕ)
  more = feed ++ slot ∷ []

  -- a streak of the feed is one of the longer feed
  later : (longest : ℕ) → HasStreak w table feed longest → HasStreak w table more longest
  later longest h = record {
    page = h.page;
    row = h.row;
    byte = h.byte;
    slot = h.slot;
    listed = h.listed;
    low = h.low;
    text = h.text;
    inside = let g = grown w table feed slot in let i = h.inside in omega arith;
    long = let s = same w table feed slot h.page h.row h.byte h.slot h.inside in let l = h.long in omega arith;
  }

  -- the streaks after the slot decide
  module _ (old new : ℕ) (le : old ≤ new) (l : IsLongest w table feed old)
      (now : (i r x : ℕ) → i < length w.pages → r < 25 → is_text r x ≡ true → sends_at w table i r n ≡ true →
      min w.repeat (streak w table more i r x (n + 1)) ≤ new) where
    pub each_more : (i r x m : ℕ) → i < length w.pages → r < 25 → is_text r x ≡ true → m ≤ length more →
        min w.repeat (streak w table more i r x m) ≤ new
    each_more i r x m lt low text inside =
        let g = grown w table feed slot in
        elim (cases_lt n m) as (λ _. min w.repeat (streak w table more i r x m) ≤ new) [
          | inr before ↦
              let s = same w table feed slot i r x m before in
              let b = l.each i r x m lt low text before in omega arith
          | inl after ↦
              let e : n + 1 ≡ m = omega arith in
              subst (λ z. min w.repeat (streak w table more i r x z) ≤ new) e
              (elim (cases_Bool (sends_at w table i r n)) as (λ _. min w.repeat (streak w table more i r x (n + 1)) ≤ new) [
                | inl h ↦ now i r x lt low text h
                | inr h ↦
                    let s = unsent w table feed slot i r x h in
                    let b = l.each i r x n lt low text (omega arith) in omega arith
              ])
        ]

    some_more : (new ≡ old) → (new ≡ 0) ⊎ HasStreak w table more new
    some_more e = elim l.some as (λ _. (new ≡ 0) ⊎ HasStreak w table more new) [
      | inl z ↦ inl (e ∙ z)
      | inr h ↦ inr (subst (HasStreak w table more) (sym e) (later old h))
    ]

  -- the slot sends no row of the pages
  pub unplaced : (longest : ℕ) → place_at w table n ≡ None → IsLongest w table feed longest → IsLongest w table more longest
  unplaced longest none l =
      let now : (i r x : ℕ) → i < length w.pages → r < 25 → is_text r x ≡ true → sends_at w table i r n ≡ true →
      min w.repeat (streak w table more i r x (n + 1)) ≤ longest =
      λ i r x lt low text h. absurd (both_ways _ (ap (is_at i r) none) h) in
      record { each = each_more longest longest (omega arith) l now; some = some_more longest longest (omega arith) l now refl }

  -- its text is right
  pub unchanged : (longest : ℕ) → AreTextsRight w table feed slot → IsLongest w table feed longest → IsLongest w table more longest
  unchanged longest texts l =
      let now : (i r x : ℕ) → i < length w.pages → r < 25 → is_text r x ≡ true → sends_at w table i r n ≡ true →
      min w.repeat (streak w table more i r x (n + 1)) ≤ longest =
      λ i r x lt low text h.
      let s = right w table feed slot i r x h (latest w table feed slot x ∙ ap not (eq-eqb _ _ (texts i r x h text))) in omega arith in
      record { each = each_more longest longest (omega arith) l now; some = some_more longest longest (omega arith) l now refl }

  -- the cells of its row are looked at
  module _ (place : RowPlace) (is : place_at w table n ≡ Some place) (page : place.page < length w.pages) (row : place.row < 25)
      (from to : ℕ) (only : (x : ℕ) → is_text place.row x ≡ true → (from ≤ x) × (x < to))
      (text_in : (x : ℕ) → from ≤ x → x < to → is_text place.row x ≡ true) (cells : List ℕ) (a : AreStreaks w table more cells) where
    cell : (x : ℕ) → is_text place.row x ≡ true → get_or cells (base place.page place.row + x) 0 ≡ min w.repeat (streak w table more place.page place.row x (n + 1))
    cell x text = subst (λ m. get_or cells (base place.page place.row + x) 0 ≡ min w.repeat (streak w table more place.page place.row x m))
        (grown w table feed slot) (a.each place.page place.row x page row text)

    pub placed : (old new : ℕ) → IsLargestIn (base place.page place.row) from to cells old new → IsLongest w table feed old → IsLongest w table more new
    placed old new largest l =
        let now : (i r x : ℕ) → i < length w.pages → r < 25 → is_text r x ≡ true → sends_at w table i r n ≡ true →
        min w.repeat (streak w table more i r x (n + 1)) ≤ new =
        λ i r x lt low text h.
        let o = owned w table feed slot place is page row i r h in
        let its = subst (λ z. is_text z x ≡ true) (sym o.1) text in
        let b = only x its in
        let c = cell x its in
        let le = largest.each x b.0 b.1 in
        let g : min w.repeat (streak w table more place.page place.row x (n + 1)) ≤ new = omega arith in
        subst (λ z. min w.repeat (streak w table more i z x (n + 1)) ≤ new) o.1
        (subst (λ z. min w.repeat (streak w table more z place.row x (n + 1)) ≤ new) o.0 g) in
        record {
          each = each_more old new largest.not_less l now;
          some = elim largest.some as (λ _. (new ≡ 0) ⊎ HasStreak w table more new) [
            | inl e ↦ some_more old new largest.not_less l now e
            | inr c ↦ inr (record {
              page = place.page;
              row = place.row;
              byte = c.0;
              slot = n + 1;
              listed = page;
              low = row;
              text = text_in c.0 c.1 c.2;
              inside = let g = grown w table feed slot in omega arith;
              long = let e = c.3 in let f = cell c.0 (text_in c.0 c.1 c.2) in omega arith;
            })
          ];
        }

pub first_longest : (w : Watched) (table : List (Option RowPlace)) → ((i r x : ℕ) → streak w table [] i r x 0 ≡ 0) → IsLongest w table [] 0
first_longest w table none = record {
  each = λ i r x m lt low text le.
      let e : 0 ≡ m = omega arith in
      subst (λ z. min w.repeat (streak w table [] i r x z) ≤ 0) e (let z = none i r x in omega arith);
  some = inl refl;
}

-- the least repeat count that the feed keeps is one more
module _ (numbers : RowsAreNumbered) (turns : EachSlotTurns) (move : StreamsMove) (decide : StreaksDecide) (w : Watched)
    (cyc : 0 < length w.cycle) (some : 1 ≤ w.repeat) (table : List (Option RowPlace)) (t : IsTable w.cycle w.pages table)
    (feed : List (List ℕ)) where
  pub longest_streak : (longest : ℕ) → IsWithin w feed → IsLongest w table feed longest → IsLongestStreak w feed longest
  longest_streak longest within l =
      let kept = within_kept numbers turns move decide w cyc some table t feed within in
      record {
        most = kept_within numbers turns move decide (with_repeat w (longest + 1)) cyc (omega arith) table t feed (record {
          each = within.each;
          below = λ i r x m lt low text le.
              let b = kept.below i r x m lt low text le in
              let a = l.each i r x m lt low text le in omega arith;
        });
        least = λ one in_rule. elim l.some as (λ _. ⊥) [
          | inl z ↦ absurd (omega arith)
          | inr h ↦
              let k = within_kept numbers turns move decide (with_repeat w longest) cyc one table t feed in_rule in
              let b = k.below h.page h.row h.byte h.slot h.listed h.low h.text h.inside in
              let long = h.long in
              absurd (omega arith)
        ];
      }

  -- the same in public words
  pub most_wrong : (longest : ℕ) → IsLongest w table feed longest → IsMostWrong w feed longest
  most_wrong longest l = record {
    each = λ i r x n p sent is low text sends le.
        let e = streak_as numbers turns move decide w cyc some table t feed i r x p is low sent sends n le in
        let h = l.each i r x n (slice_get_within w.pages i p is) low text le in omega arith;
    some = elim l.some as (λ _. (longest ≡ 0) ⊎ HasWrong w feed longest) [
      | inl z ↦ inl z
      | inr h ↦
          let here = page_here w.pages h.page h.listed in
          inr (record {
            index = h.page;
            page = here.0;
            row = h.row;
            byte = h.byte;
            slot = h.slot;
            listed = here.1;
            low = h.low;
            text = h.text;
            inside = h.inside;
            long = λ sent sends.
                let e = streak_as numbers turns move decide w cyc some table t feed h.page h.row h.byte here.0 here.1 h.low sent sends h.slot h.inside in
                let g = h.long in omega arith;
          })
    ];
  }
