-- No change of an airing for late receivers leaves anything of a page open.
use Rattle.std.proofs.Common.{◌≡◌, inl, inr, ℕ, true, false, Bool, if◌then◌else◌, List, [], ◌∷◌, length, Option, Some, None, Ok, Err, refl, sym, ap, ◌∙◌, subst}
use Rattle.sha2.specs.Sha256.{sha256}
use Rattle.ttx_cycle.specs.declared.faults.TextFault.{TextFault}
use Rattle.ttx_cycle.specs.declared.faults.TextFault.TheVariants.{Read, TooLong, NoMemory}
use Rattle.ttx_air.specs.declared.airtime.Receivers.TheVariants.{Late}
use Rattle.ttx_air.specs.Judgements.{is_yes}
use Rattle.ttx_air.specs.Newsrooms.{Candidate, News, Nothing, Next, Refused}
use Rattle.ttx_air.specs.Endings.{Ending, Held, Quiet, Unfit, Judged, Unjudged, taken_by, later_after, playout_after, answer_at, Asked, Answers, field_after}
use Rattle.ttx_air.specs.Laws.{EditionsAreTaken}
use Rattle.ttx_change.specs.OldOrNew.{EndsWhole}
use Rattle.ttx_change.specs.Scheduled.{HandsOverWhole, SchedulesAreWhole}
use Rattle.ttx_change.specs.declared.verdict.LateSplice.TheVariants.{Yes}
use Rattle.ttx_air.specs.TextNewsrooms.{Reading, Made, Printed, Spoilt, Short, mark_of, lacking, news_made, Tries, IsUnread, IsRead, FindsBy, Looks}
use Rattle.ttx_air.specs.declared.text_newsroom.TextNewsroom.{TextNewsroom}
use Rattle.ttx_playout.specs.Schedules.{Edition, Showing, edition_at, one_more, taken, change}
use Rattle.ttx_press.specs.declared.house.House.{House}
use Rattle.ttx_press.specs.Successors.{Leaves}
use Rattle.ttx_press.specs.Presses.{Presses}
use Rattle.ttx_press.specs.Presses.{prints, text_gives}
use Rattle.ttx_press.specs.Whole.{SendsThrough, AiringsAreWhole}
use Rattle.ttx_press.proofs.WholeSuccessors.{leaves_next}

-- ---- changes that leave nothing open

IsClosed : Edition → List Showing → Type 0
IsClosed first [] = Unit {0}
IsClosed first (t ∷ later) = EndsWhole (change first t.edition) × IsClosed t.edition later

closed_more : (first : Edition) (later : List Showing) → IsClosed first later → IsClosed first (one_more later)
unfolding IsClosed
closed_more first [] closed = closed
closed_more first (t ∷ []) closed = closed
closed_more first (t ∷ next ∷ later) closed = (closed.0, closed_more t.edition (next ∷ later) closed.1)

closed_taken : (first next : Edition) (later : List Showing) → IsClosed first later → EndsWhole (change (edition_at first later (length later)) next) →
    IsClosed first (taken later next)
unfolding IsClosed
closed_taken first next [] closed ends = (ends, tt)
closed_taken first next (t ∷ later) closed ends = (closed.0, closed_taken t.edition next later closed.1 ends)

last_more : (first : Edition) (later : List Showing) → edition_at first (one_more later) (length (one_more later)) ≡ edition_at first later (length later)
last_more first [] = refl
last_more first (t ∷ []) = refl
last_more first (t ∷ next ∷ later) = last_more t.edition (next ∷ later)

hands_over : (mag number : ℕ) (first : Edition) (later : List Showing) → IsClosed first later → SendsThrough mag number first later →
    HandsOverWhole mag number first later
unfolding IsClosed
hands_over mag number first [] closed sends = sends
hands_over mag number first (t ∷ later) closed sends = (sends.0, closed.0, hands_over mag number t.edition later closed.1 sends.1)

-- ---- what the newsroom answers

module _ {S : Type 0} (reads : S → Reading → S → Type 0) (gap : ℕ) (on_air : Edition) where
  -- the house stays, and an edition that is handed out leaves nothing open
  IsCareful : TextNewsroom S House → News → Type 0
  IsCareful newsroom news = (newsroom.press.receivers ≡ Late gap) × ((next : Candidate) → news ≡ Next next → EndsWhole (change on_air next.edition))

  not_next : (news other : News) → news ≡ other → ((next : Candidate) → other ≡ Next next → ⊥) → (next : Candidate) → news ≡ Next next →
      EndsWhole (change on_air next.edition)
  not_next news other is none next e = absurd (none next (sym is ∙ e))

  nothing_is : (next : Candidate) → Nothing ≡ Next next → ⊥
  nothing_is next e = cc

  refused_is : (mark words : List ℕ) (next : Candidate) → Refused mark words ≡ Next next → ⊥
  refused_is mark words next e = cc

  careful_made : (house : House) → house.receivers ≡ Late gap → (text mark : List ℕ) (made : Made) → Presses house on_air text made →
      (next : Candidate) → news_made mark made ≡ Next next → EndsWhole (change on_air next.edition)
  careful_made house late text mark (Spoilt words) presses next e = absurd (refused_is mark words next e)
  careful_made house late text mark Short presses next e = absurd (let f : lacking mark ≡ Next next = e in cc)
  careful_made house late text mark (Printed edition) presses next e =
      let same : Next (record { edition = edition; mark = mark }) ≡ Next next = e in
      let own : record { edition = edition; mark = mark } ≡ next = cc in
      let leaves : EndsWhole (change on_air edition) = subst (λ r. Leaves r on_air edition Yes) late
      (leaves_next house on_air presses.planned edition presses.leaves presses.succeeds) in
      subst (λ (c : Candidate). EndsWhole (change on_air c.edition)) own leaves

  careful_try : (text : List ℕ) (old new : House) (news : News) → old.receivers ≡ Late gap → Tries prints old on_air text news new →
      (new.receivers ≡ Late gap) × ((next : Candidate) → news ≡ Next next → EndsWhole (change on_air next.edition))
  careful_try text old new news late (inl (made, makes, is)) = (
    ap (λ h. h.receivers) makes.0 ∙ late,
    λ next e. careful_made old late text (mark_of (sha256 text)) made makes.1 next (sym is ∙ e),
  )
  careful_try text old new news late (inr (same, is)) =
      (ap (λ h. h.receivers) same ∙ late, not_next news (lacking []) is (λ next e. let f : lacking [] ≡ Next next = e in cc))

  careful_unread : (fault : TextFault) (old new : TextNewsroom S House) (news : News) → old.press.receivers ≡ Late gap → IsUnread fault old new news →
      IsCareful new news
  unfolding IsCareful
  careful_unread fault old new news late (inl (unread, same, is)) =
      (ap (λ n. n.press.receivers) same ∙ late, not_next news Nothing is nothing_is)
  careful_unread Read old new news late (inr (unread, same, inl is)) =
      (ap (λ n. n.press.receivers) same ∙ late, not_next news _ is (refused_is _ _))
  careful_unread Read old new news late (inr (unread, same, inr is)) =
      (ap (λ n. n.press.receivers) same ∙ late, not_next news _ is (refused_is _ _))
  careful_unread TooLong old new news late (inr (unread, same, inl is)) =
      (ap (λ n. n.press.receivers) same ∙ late, not_next news _ is (refused_is _ _))
  careful_unread TooLong old new news late (inr (unread, same, inr is)) =
      (ap (λ n. n.press.receivers) same ∙ late, not_next news _ is (refused_is _ _))
  careful_unread NoMemory old new news late (inr (unread, same, is)) =
      (ap (λ n. n.press.receivers) same ∙ late, not_next news _ is (refused_is _ _))

  careful_read : (text : List ℕ) (old new : TextNewsroom S House) (news : News) → old.press.receivers ≡ Late gap → IsRead prints on_air text old new news →
      IsCareful new news
  unfolding IsCareful
  careful_read text old new news late (inl (known, same, is)) = (ap (λ n. n.press.receivers) same ∙ late, not_next news Nothing is nothing_is)
  careful_read text old new news late (inr (unknown, kept, tries)) = careful_try text old.press new.press news late tries

  careful_find : (reading : Reading) (old new : TextNewsroom S House) (news : News) → old.press.receivers ≡ Late gap →
      FindsBy prints on_air reading old new news → IsCareful new news
  careful_find (Ok text) old new news late finds = careful_read text old new news late finds
  careful_find (Err fault) old new news late finds = careful_unread fault old new news late finds

  careful_look : (field : ℕ) (old new : TextNewsroom S House) (news : News) → old.press.receivers ≡ Late gap →
      Looks reads prints on_air field old new news → IsCareful new news
  unfolding IsCareful
  careful_look field old new news late (inl (early, same, is)) = (ap (λ n. n.press.receivers) same ∙ late, not_next news Nothing is nothing_is)
  careful_look field old new news late (inr (due, found)) = careful_find found.0 _ new news late found.1.2

-- ---- the ends of periods

module _ {S : Type 0} (reads : S → Reading → S → Type 0) (gap : ℕ) (takes : EditionsAreTaken) (first : Edition) where
  closed_after : (current : Edition) (later : List Showing) (taking : Option Edition) → IsClosed first later →
      edition_at first later (length later) ≡ current → ((next : Edition) → taking ≡ Some next → EndsWhole (change current next)) →
      IsClosed first (later_after later taking)
  closed_after current later None closed at ends = closed
  closed_after current later (Some next) closed at ends =
      closed_taken first next later closed (subst (λ e. EndsWhole (change e next)) (sym at) (ends next refl))

  ends_by : (current : Edition) (ending : Ending) → ((next : Candidate) → answer_at ending ≡ Some (Next next) → EndsWhole (change current next.edition)) →
      (next : Edition) → taken_by ending ≡ Some next → EndsWhole (change current next)
  ends_by current Held ends next e = absurd (let f : None ≡ Some next = e in cc)
  ends_by current Quiet ends next e = absurd (let f : None ≡ Some next = e in cc)
  ends_by current (Unfit mark words) ends next e = absurd (let f : None ≡ Some next = e in cc)
  ends_by current (Unjudged other) ends next e = absurd (let f : None ≡ Some next = e in cc)
  ends_by current (Judged other verdict) ends next e =
      by_yes (is_yes verdict) e
    where
      by_yes : (b : Bool) → (if b then Some other.edition else None) ≡ Some next → EndsWhole (change current next)
      by_yes true is = let same : other.edition ≡ next = cc in subst (λ n. EndsWhole (change current n)) same (ends other refl)
      by_yes false is = absurd (let f : None ≡ Some next = is in cc)

  answered : (current : Edition) (field : ℕ) (old new : TextNewsroom S House) (answer : Option News) → old.press.receivers ≡ Late gap →
      Asked (text_gives reads) old current field answer new →
      (new.press.receivers ≡ Late gap) × ((next : Candidate) → answer ≡ Some (Next next) → EndsWhole (change current next.edition))
  unfolding IsCareful
  answered current field old new None late asked =
      (ap (λ n. n.press.receivers) asked ∙ late, λ next e. absurd (let f : None ≡ Some (Next next) = e in cc))
  answered current field old new (Some news) late asked =
      let careful = careful_look reads gap current field old new news late asked in
      (careful.0, λ next e. let f : Some news ≡ Some (Next next) = e in let same : news ≡ Next next = cc in careful.1 next same)

  closed_through : (past : List Ending) (before news : TextNewsroom S House) → before.press.receivers ≡ Late gap →
      Answers (text_gives reads) first before past news → IsClosed first (playout_after first past).later × (news.press.receivers ≡ Late gap)
  unfolding IsClosed
  closed_through [] before news late answers = (tt, ap (λ n. n.press.receivers) answers ∙ late)
  closed_through (ending ∷ past) before news late (mid, earlier, asked) =
      let p = playout_after first past in
      let ih = closed_through past before mid late earlier in
      let now = answered p.current (field_after first past) mid news (answer_at ending) ih.1 asked in (
        closed_after p.current (one_more p.later) (taken_by ending) (closed_more first p.later ih.0)
            (last_more first p.later ∙ sym (takes first past).1) (ends_by p.current ending now.1),
        now.0,
      )

pub airings_are_whole : {S : Type 0} (reads : S → Reading → S → Type 0) → EditionsAreTaken → SchedulesAreWhole → AiringsAreWhole reads
airings_are_whole reads takes wholes gap times first before after last late a mag number sends class tau from former d received tunes after_tuning ended =
    let later = (playout_after first.edition a.past).later in
    let closed = (closed_through reads gap takes first.edition a.past before.newsroom after.newsroom late a.aired.answers).0 in
    let on_air = a.aired.sent.on_air in
    wholes first.edition later on_air.editions on_air.handed mag number (hands_over mag number first.edition later closed sends) class tau from former d
    received tunes after_tuning ended
