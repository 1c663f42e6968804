use Rattle.std.proofs.Common.{pos, map, subst, sym, ◌∙◌}
use Rattle.ttx_page.specs.Packets.{packet_of}
use Rattle.ttx_page.specs.Streams.{repeated}
use Rattle.ttx_page.specs.Views.{page_of}
use Rattle.ttx_page.specs.Followers.{IsFollowed}
use Rattle.ttx_late.specs.Followed.{IsListed, HeadsAt}
use Rattle.ttx_late.proofs.FollowersOfCycles.{no_header, own_is, id_heads}
use Rattle.ttx_late.proofs.GreatestGap.{none_widens, nearer_widens, further_widens}
use Rattle.ttx_late.proofs.followers.widened.Goals as goal

pub returns-then-distance-gap : goal.returns-then-distance-gap
returns-then-distance-gap c =
    let s = repeated c.args.slots.now in
    nearer_widens s (IsListed (map page_of c.args.pages.now)) c.args.at c.args.gap c.in-Some.id
    (λ page _ head. own_is s c.args.at c.in-Some.id (cc) page head) c.in-Some-follower.distance c.in-Some-follower.ensures c.if-distance-gap.true

pub returns-in-Some-place_of : goal.returns-in-Some-place_of
returns-in-Some-place_of c =
    let s = repeated c.args.slots.now in
    let place = c.in-Some-place_of.ensures in
    further_widens s (IsListed (map page_of c.args.pages.now)) c.args.at c.args.gap c.in-Some.id
    (λ page _ head. own_is s c.args.at c.in-Some.id (cc) page head) c.in-Some-follower.distance c.in-Some-follower.ensures c.if-distance-gap.false
    (record { index = c.in-Some-place_of.field-0; page = place.0; listed = place.1; is = place.2 })
    (id_heads c.in-Some.id (packet_of (s (pos c.args.at))) (cc))

pub returns-in-None-place_of : goal.returns-in-None-place_of
returns-in-None-place_of c =
    let s = repeated c.args.slots.now in
    none_widens s (IsListed (map page_of c.args.pages.now)) c.args.at c.args.gap
    (λ page listed head. c.in-None-place_of.ensures listed.index listed.page listed.listed
    (listed.is ∙ own_is s c.args.at c.in-Some.id (cc) page head))

pub returns-in-None-follower : goal.returns-in-None-follower
returns-in-None-follower c =
    let s = repeated c.args.slots.now in
    none_widens s (IsListed (map page_of c.args.pages.now)) c.args.at c.args.gap
    (λ page listed head. c.in-None-follower.ensures (subst (λ x. IsFollowed s x (pos c.args.at))
    (listed.is ∙ own_is s c.args.at c.in-Some.id (cc) page head)
    (c.requires.followed listed.index listed.page listed.listed (pos c.args.at) (subst (λ x. HeadsAt s x c.args.at) (sym listed.is) head))))

pub returns-in-None : goal.returns-in-None
returns-in-None c =
    let s = repeated c.args.slots.now in
    none_widens s (IsListed (map page_of c.args.pages.now)) c.args.at c.args.gap (λ page _ head. no_header s c.args.at (cc) page head)
