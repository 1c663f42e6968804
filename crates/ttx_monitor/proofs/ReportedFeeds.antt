-- A feed that has been followed, and what is said of it.
use Rattle.std.proofs.Common.{◌≡◌, ◌⊎◌, ℕ, ◌-◌, ◌^◌, ◌<◌, ◌≤◌, Bool, true, false, ◌||◌, List, [], ◌∷◌, ◌++◌, length, take, Option, Some, None, Ok, Err}
use Rattle.std.proofs.Common.{refl, sym, ◌∙◌, subst, inl, inr, arith}
use Rattle.std.specs.Option.{is_some}
use Rattle.std.specs.Io.KnownBytes.{Appends, Keeps}
use Rattle.std.proofs.KnownBytes.{Appends-trans, Appends-kept}
use Rattle.ttx_page.specs.Pages.{Page}
use Rattle.ttx_witness.specs.Coverage.{Certificate}
use Rattle.ttx_monitor.specs.Watching.{Watched, watched}
use Rattle.ttx_monitor.specs.Events.{IsWalk}
use Rattle.ttx_monitor.specs.Feeds.{IsWhole, HearsAll}
use Rattle.ttx_monitor.specs.FeedVerdicts.{start_of, IsVerdictOf}
use Rattle.ttx_monitor.specs.Tallies.{nothing_yet}
use Rattle.ttx_monitor.specs.Wordings.{Telling, told_text, last_text}
use Rattle.ttx_monitor.specs.Followed.{IsEnd, IsFollowed, IsCutOff, Follows}
use Rattle.ttx_monitor.specs.FeedReports.{IsEnded, rest_of, IsReport, ReportsFrom}
use Rattle.ttx_monitor.specs.declared.event.Event.{Event}
use Rattle.ttx_monitor.specs.declared.live_feed.FollowFault.{FollowFault}
use Rattle.ttx_monitor.specs.declared.live_feed.FollowFault.TheVariants as follow
use Rattle.ttx_monitor.specs.declared.tally.Tally.{Tally}
use Rattle.ttx_monitor.specs.declared.live_feed.Following.{Following}
use Rattle.ttx_monitor.specs.declared.live_feed.Followed.{Followed}
use Rattle.ttx_monitor.specs.declared.live_feed.Followed.TheVariants.{End, Stopped}
use Rattle.ttx_monitor.specs.declared.feed_verdict.Heard.{Heard}
use Rattle.ttx_monitor.specs.declared.verdict.FeedVerdict.{FeedVerdict}

all_true : (all : Bool) → (all ≡ false → ⊥) → all ≡ true
all_true true h = refl
all_true false h = absurd (h refl)

unbad : (shift : Option ℕ) {B : Type 0} (breach : Option B) → shift ≡ None → breach ≡ None → (is_some shift || is_some breach) ≡ true → ⊥
unbad None None s b h = cc
unbad None (Some y) s b h = cc
unbad (Some x) breach s b h = cc

module _ (cycle : List (List ℕ)) (pages : List Page) (c : Certificate) (bytes : List ℕ) (g : Telling) (old new : Option (List ℕ)) (start : ℕ)
    (begins : g.start ≡ start) (f : Following) where
  abbrev pub w : Watched
  w = watched cycle pages c.repeat start

  walks : (events : List Event) (left : List ℕ) → IsWalk w [] bytes events left → IsWalk (watched cycle pages c.repeat g.start) [] bytes events left
  walks events left = subst (λ s. IsWalk (watched cycle pages c.repeat s) [] bytes events left) (sym begins)

  pub cut_off : (followed : Followed) → Follows w bytes g f old new (Ok followed) → IsCutOff w bytes g old new
  cut_off (End rest) h = record { events = h.events; left = h.left; walk = h.walk; out = h.out }
  cut_off (Stopped slot e) h = record { events = h.events ++ e ∷ []; left = h.left; walk = h.walk; out = h.out }

  whole : (rest : ℕ) → IsFollowed w bytes g f old new rest → f.tally.breaches ≡ 0 → IsWhole w bytes f.monitor rest
  whole rest h none = let clean = h.clean none in record {
    feed = clean.slots;
    tail = h.left;
    same = clean.same;
    ended = ended_of clean.slots clean.size h.ended;
    stands = clean.stands;
    within = clean.within;
  }
    where
      ended_of : (slots : List (List ℕ)) → length slots ≡ length h.events → IsEnd rest h.left h.events →
          ((rest < 42) × (length h.left ≡ rest)) ⊎ (2 ^ 64 - 1 ≤ length slots)
      ended_of slots size (inl few) = inl few
      ended_of slots size (inr long) = inr (omega arith)

  pub said_some : (followed : Followed) (heard : Heard) (verdict : FeedVerdict) → IsEnded followed f.tally.breaches (Some heard) →
      Follows w bytes g f old new (Ok followed) → start_of verdict ≡ start → (HearsAll w bytes f.monitor heard → IsVerdictOf cycle pages c bytes verdict) →
      (told : List ℕ) × IsReport cycle pages c bytes g told f.tally (rest_of followed) (Some verdict) × Appends old new told
  said_some (End rest) heard verdict ended h at is = (
    _,
    record {
      events = h.events;
      left = h.left;
      walk = walks h.events h.left h.walk;
      reason = inl (h.ended, subst (λ t. t.breaches ≡ 0) h.tally ended.0);
      said = (at ∙ sym begins, is (subst (HearsAll w bytes f.monitor) (sym ended.1) (whole rest h ended.0)));
      told_is = refl;
      tally_is = h.tally;
    },
    h.out,
  )
  said_some (Stopped slot e) heard verdict ended h at is = (
    _,
    record {
      events = h.events ++ e ∷ [];
      left = h.left;
      walk = walks (h.events ++ e ∷ []) h.left h.walk;
      reason = inr (h.one, (h.events, e, refl, h.first, h.bad));
      said = (at ∙ sym begins, is (h.heard heard ended));
      told_is = refl;
      tally_is = h.tally;
    },
    h.out,
  )

  pub said_none : (followed : Followed) → IsEnded followed f.tally.breaches None → Follows w bytes g f old new (Ok followed) →
      (told : List ℕ) × IsReport cycle pages c bytes g told f.tally (rest_of followed) None × Appends old new told
  said_none (End rest) some h = (
    _,
    record {
      events = h.events;
      left = h.left;
      walk = walks h.events h.left h.walk;
      reason = (all_true g.all (λ one. let none = h.none one in omega arith), h.ended, subst (λ t. 1 ≤ t.breaches) h.tally some);
      said = tt;
      told_is = refl;
      tally_is = h.tally;
    },
    h.out,
  )
  said_none (Stopped slot e) fine h = absurd (unbad e.shift e.breach fine.0 fine.1 h.bad)

-- the last lines are written
module _ (cycle : List (List ℕ)) (pages : List Page) (c : Certificate) (bytes : List ℕ) (g : Telling) (old mid new : Option (List ℕ)) where
  pub reported : (verdict : Option FeedVerdict) (t : Tally) (rest : ℕ) (last : List ℕ) → last ≡ last_text g t rest verdict →
      (told : List ℕ) × IsReport cycle pages c bytes g told t rest verdict × Appends old mid told → Appends mid new last →
      ReportsFrom cycle pages c bytes g old new (Ok verdict)
  reported verdict t rest last is r out = (
    r.0,
    t,
    rest,
    r.1,
    Appends-trans old mid new r.0 (last_text g t rest verdict) r.2
        (subst (Appends mid new) is out),
  )

  pub half_reported : (verdict : Option FeedVerdict) (t : Tally) (rest : ℕ) (last : List ℕ) (written : ℕ) → last ≡ last_text g t rest verdict →
      (told : List ℕ) × IsReport cycle pages c bytes g told t rest verdict × Appends old mid told → written < length last →
      Appends mid new (take written last) → ReportsFrom cycle pages c bytes g old new (Err (follow.Write written))
  half_reported verdict t rest last written is r few out = inr (
    verdict,
    (
      r.0,
      t,
      rest,
      r.1,
      (
        subst (λ l. written < length l) is few,
        Appends-trans old mid new r.0 (take written (last_text g t rest verdict)) r.2 (subst (λ l. Appends mid new (take written l)) is out),
      ),
    ),
  )

-- the following failed
pub failed : (cycle : List (List ℕ)) (pages : List Page) (c : Certificate) (bytes : List ℕ) (g : Telling) (old new : Option (List ℕ)) (f : Following)
    (fault : FollowFault) → Follows (watched cycle pages c.repeat g.start) bytes g f old new (Err fault) →
    ReportsFrom cycle pages c bytes g old new (Err fault)
failed cycle pages c bytes g old new f (follow.Write written) h = inl h
failed cycle pages c bytes g old new f (follow.Feed fault) h = h
