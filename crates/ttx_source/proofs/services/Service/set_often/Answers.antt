use Rattle.std.proofs.Common.{◌<◌, ◌∙◌, ap, sym, subst, length}
use Rattle.ttx_source.specs.Services.{IsService, service_at, with_often}
use Rattle.ttx_source.specs.Views.{authored_pages}
use Rattle.ttx_source.proofs.OftenChanges.{authored_pages-often_set, keys_of-set_value_at, IsService-with_often}
use Rattle.ttx_source.proofs.PageList.{same_length, authored_pages-length}
use Rattle.ttx_source.proofs.services.Service.set_often.Goals as goal

pub index_mut-requires : goal.index_mut-requires
index_mut-requires c =
    let same = same_length _ _ c.self.invariant.same_order in
    let within : c.args.index < length c.self.inside.often.entries =
    rw (same, ← authored_pages-length c.self.inside.pages.items c.self.inside.often.entries same)
    (subst (λ v. c.args.index < length v.pages) (sym c.self.view_is) c.requires.index) in
    within

pub invariant_of-self : goal.invariant_of-self
invariant_of-self c = record {
  same_order = keys_of-set_value_at c.self.inside.often.entries c.args.index c.args.often ∙ c.self.invariant.same_order;
  ranges = subst (λ pages. IsService (service_at c.self.inside.lines c.self.inside.serial c.self.inside.info pages))
      (sym (authored_pages-often_set c.self.inside.pages.items c.self.inside.often.entries c.args.index c.args.often))
      (IsService-with_often (service_at c.self.inside.lines c.self.inside.serial c.self.inside.info
      (authored_pages c.self.inside.pages.items c.self.inside.often.entries))
      c.args.index c.args.often c.requires.often c.self.invariant.ranges);
}

pub returns : goal.returns
returns c =
    ap (service_at c.self.inside.lines c.self.inside.serial c.self.inside.info)
    (authored_pages-often_set c.self.inside.pages.items c.self.inside.often.entries c.args.index c.args.often)
    ∙ ap (λ v. with_often v c.args.index c.args.often) c.self.view_is
