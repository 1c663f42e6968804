use Rattle.std.proofs.Common.{◌∙◌, ◌<◌, ap, sym, subst, length, option_map}
use Rattle.std.specs.Map.Iter.{deref_pair}
use Rattle.ttx_source.proofs.PageList.{same_length, authored_pages-length, authored_pages-often}
use Rattle.ttx_source.proofs.services.Service.often.Goals as goal

pub unwrap-requires : goal.unwrap-requires
unwrap-requires c =
    let same = same_length _ _ c.self.invariant.same_order in
    let within : c.args.index < length c.self.inside.often.entries =
    rw (same, ← authored_pages-length c.self.inside.pages.items c.self.inside.often.entries same)
    (subst (λ v. c.args.index < length v.pages) (sym c.self.view_is) c.requires) in
    c.get_index.ensures.found.1 within

pub returns : goal.returns
returns c =
    let same = same_length _ _ c.self.invariant.same_order in
    rw (← c.self.view_is)
    (authored_pages-often _ _ c.args.index _ same (sym c.get_index.ensures.entry ∙ ap (option_map deref_pair) c.unwrap.ensures))
