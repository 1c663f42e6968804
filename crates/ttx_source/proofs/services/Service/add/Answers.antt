use Rattle.std.proofs.Common.{◌≡◌, ◌∙◌, ◌<◌, ◌++◌, ◌∷◌, [], false, ap, sym, subst, refl, length, map}
use Rattle.std.specs.List.{list_any}
use Rattle.std.proofs.lemmas.List.{map-append}
use Rattle.indexmap.proofs.CallerLemmas.{insert_entry-new}
use Rattle.ttx_header.specs.Ids.{same_id}
use Rattle.ttx_page.specs.Views.{page_of}
use Rattle.ttx_source.specs.Services.{authored_at, service_at, with_page, has_id}
use Rattle.ttx_source.specs.Views.{authored_pages}
use Rattle.ttx_source.proofs.PageList.{same_length, authored_pages-ids, authored_pages-push, found_any, is_none, keys_of-push, IsService-push}
use Rattle.ttx_source.proofs.services.Service.add.Goals as goal

pub invariant_of-self-2 : goal.invariant_of-self-2
invariant_of-self-2 c =
    let ps = c.self.inside.pages.items in
    let es = c.self.inside.often.entries in
    let order = c.self.invariant.same_order in
    let same = same_length ps es order in
    let new = subst (λ v. has_id v.pages (page_of c.args.page).id ≡ false) (sym c.self.view_is) c.requires.new in
    let key : c.id.result ≡ (page_of c.args.page).id = c.id.ensures in
    let lacks : list_any (same_id c.id.result) (map (λ p. (page_of p).id) ps) ≡ false = rw (key, ← authored_pages-ids ps es same) new in
    let absent = is_none _ (found_any c.id.result es ∙ ap (list_any (same_id c.id.result)) order ∙ lacks) in
    let added : c.insert.new.self.entries ≡ es ++ (c.id.result, c.args.often) ∷ [] =
    c.in-Ok.ensures.entries ∙ insert_entry-new _ c.self.inside.often c.id.result c.args.often absent in
    let pushed : c.push_reserved.new.self.items ≡ ps ++ c.args.page ∷ [] = c.push_reserved.ensures.items ∙ rw (c.reserve.ensures.items) refl in
    record {
      same_order = rw (added, pushed)
          (keys_of-push es c.id.result c.args.often
          ∙ rw (order, key) (sym (map-append (λ p. (page_of p).id) ps (c.args.page ∷ []))));
      ranges =
          rw (added, pushed, authored_pages-push ps es c.args.page (c.id.result, c.args.often) same)
          (IsService-push _ (authored_at (page_of c.args.page) c.args.often) c.self.invariant.ranges
          (subst (λ v. length v.pages < 2000) (sym c.self.view_is) c.requires.room)
          (record { page = c.args.page.kept; c11 = c.requires.serial ∙ sym (ap (λ v. v.serial) c.self.view_is); often = c.requires.often })
          new);
    }

pub returns-clause-ok : goal.returns-clause-ok
returns-clause-ok c =
    let ps = c.self.inside.pages.items in
    let es = c.self.inside.often.entries in
    let order = c.self.invariant.same_order in
    let same = same_length ps es order in
    let new = subst (λ v. has_id v.pages (page_of c.args.page).id ≡ false) (sym c.self.view_is) c.requires.new in
    let key : c.id.result ≡ (page_of c.args.page).id = c.id.ensures in
    let lacks : list_any (same_id c.id.result) (map (λ p. (page_of p).id) ps) ≡ false = rw (key, ← authored_pages-ids ps es same) new in
    let absent = is_none _ (found_any c.id.result es ∙ ap (list_any (same_id c.id.result)) order ∙ lacks) in
    let added : c.insert.new.self.entries ≡ es ++ (c.id.result, c.args.often) ∷ [] =
    c.in-Ok.ensures.entries ∙ insert_entry-new _ c.self.inside.often c.id.result c.args.often absent in
    let pushed : c.push_reserved.new.self.items ≡ ps ++ c.args.page ∷ [] = c.push_reserved.ensures.items ∙ rw (c.reserve.ensures.items) refl in
    let pages : authored_pages c.push_reserved.new.self.items c.insert.new.self.entries ≡ authored_pages ps es
    ++ authored_at (page_of c.args.page) c.args.often ∷ [] =
    rw (added, pushed) (authored_pages-push ps es c.args.page (c.id.result, c.args.often) same) in
    ap (service_at c.self.inside.lines c.self.inside.serial c.self.inside.info) pages
    ∙ ap (λ v. with_page v (authored_at (page_of c.args.page) c.args.often)) c.self.view_is
