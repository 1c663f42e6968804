use Rattle.std.proofs.Common.{sym, subst}
use Rattle.std.specs.Prelude.{◌↔◌, IsTrue}
use Rattle.ttx_proof.specs.LastBlocks.{NoneIsAmid, IsFirstAmid}
use Rattle.ttx_playout.specs.Takeovers.{edition_of}
use Rattle.ttx_press.specs.Successors.{EndsBetweenPages}
use Rattle.ttx_press.proofs.Decisions.{says_yes, says_no}
use Rattle.ttx_press.proofs.changes.ends_between_pages.Goals as goal

pub returns-in-Some : goal.returns-in-Some
returns-in-Some c =
    let e = edition_of c.args.edition.now in
    let amid = c.in-Some.field-0 in
    let first = subst (λ ps. IsFirstAmid e.cycle ps amid.page amid.slot) c.pages.ensures.value c.in-Some.ensures in
    subst (λ r. IsTrue _ ↔ EndsBetweenPages r e) (sym c.in-Late.is) (says_no (λ none. none first.index first.first first.listed amid.slot first.here))

pub returns-in-None : goal.returns-in-None
returns-in-None c =
    let e = edition_of c.args.edition.now in
    let none = subst (NoneIsAmid e.cycle) c.pages.ensures.value c.in-None.ensures in
    subst (λ r. IsTrue _ ↔ EndsBetweenPages r e) (sym c.in-Late.is) (says_yes none)
