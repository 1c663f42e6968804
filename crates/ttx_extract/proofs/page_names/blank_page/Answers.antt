use Rattle.std.proofs.Common.{◌≡◌, replicate, sym, subst}
use Rattle.ttx_page.specs.Pages.{IsPage, page_at}
use Rattle.ttx_extract.proofs.BlankPages.{blank_page, told}
use Rattle.ttx_extract.proofs.page_names.blank_page.Goals as goal

pub returns : goal.returns
returns c =
    let id = c.args.id in
    let links = c.new-links.result in
    let head = c.blank_head.result in
    let rows = c.blank_rows.result in
    let blank = blank_page id links.set links.crc c.mag-mag.ensures.ranges c.requires
    (subst (λ n. n ≡ 0x3f7f → ⊥) c.sub.ensures c.if-sub-eq-NO_SUBPAGE.false) in
    let is = subst (λ h. IsPage (page_at id 0 h rows links.set links.crc)) (sym c.blank_head.ensures)
    (subst (λ r. IsPage (page_at id 0 (replicate 24 32) r links.set links.crc)) (sym c.blank_rows.ensures) blank) in
    told (page_at id 0 head rows links.set links.crc) c.new.result is c.new.ensures.some c.new.ensures.fields
