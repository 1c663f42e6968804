use Rattle.std.proofs.Common.{◌≡◌, pos, subst, sym, MatchOption}
use Rattle.ttx_cycle.specs.Cycles.{slots_of}
use Rattle.ttx_page.specs.Streams.{repeated, IsTransmission}
use Rattle.ttx_source.specs.Services.{pages_of}
use Rattle.ttx_extract.specs.Extracts.{IsUnlikeFirst}
use Rattle.ttx_extract.proofs.FirstReasons.{first_reason}
use Rattle.ttx_extract.proofs.conflicts.why.Goals as goal

pub returns-in-Some-first_unlike : goal.returns-in-Some-first_unlike
returns-in-Some-first_unlike c = λ service lines sent is told.
    let slots = slots_of c.args.cycle.now in
    let u = c.in-Some.blamed in
    let listed = c.sent.ensures.listed slots (pages_of service) lines told.page sent told.here in
    record {
      reason = c.args.told.reason;
      blamed = first_reason slots lines service is c.args.told told;
      names = c.in-Some.ensures.names;
      second = subst (λ i. IsTransmission (repeated slots) i u.item (pos u.slot)) (sym told.page_is)
          (c.in-Some.ensures.sent (pages_of service) told.page told.fault);
      unlike = subst (λ i. IsUnlikeFirst slots lines i u.item c.in-Some-first_unlike.first u.slot) (sym told.page_is)
          (c.in-Some-first_unlike.ensures told.page.id lines u.item listed);
    }

pub returns-in-None : goal.returns-in-None
returns-in-None c = λ service lines sent is told.
    let slots = slots_of c.args.cycle.now in
    let u = c.in-Some.blamed in
    let listed = c.sent.ensures.listed slots (pages_of service) lines told.page sent told.here in
    record {
      page = c.args.told.page;
      blamed = first_reason slots lines service is c.args.told told;
      alike = λ item a b names second unlike.
          let own = c.in-Some.ensures.only (pages_of service) told.page told.fault item b names
          (subst (λ i. IsTransmission (repeated slots) i item (pos b)) told.page_is second) in
          c.in-None.ensures told.page.id lines u.item listed a (subst (λ n. IsUnlikeFirst slots lines told.page.id u.item a n) own.1
          (subst (λ x. IsUnlikeFirst slots lines told.page.id x a b) own.0
          (subst (λ i. IsUnlikeFirst slots lines i item a b) told.page_is unlike)));
    }

pub returns-in_default : goal.returns-in_default
returns-in_default c = λ service lines sent is told.
    let slots = slots_of c.args.cycle.now in
    record {
      page = c.args.told.page;
      blamed = first_reason slots lines service is c.args.told told;
      alike = λ item a b names second unlike.
          subst (λ o. MatchOption o ⊥ (λ u. (item ≡ u.item) × (b ≡ u.slot))) c.in_default.is
          (c.unlike_item.ensures.only (pages_of service) told.page told.fault item b names
          (subst (λ i. IsTransmission (repeated slots) i item (pos b)) told.page_is second));
    }
