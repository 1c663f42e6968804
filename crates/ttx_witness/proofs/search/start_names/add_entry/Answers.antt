use Rattle.std.proofs.Common.{rules, ◌≡◌, ◌++◌, ◌∷◌, [], ap, inr}
use Rattle.ttx_witness.proofs.search.start_names.add_entry.Goals as goal

pub returns : goal.returns
returns c =
    let f = c.of.ensures in
    let pushed : c.push.new.self.items ≡ c.args.entries.now.items ++ c.of.result ∷ [] = search rules in
    inr (c.of.result, pushed, ap (λ e. e.page) f, ap (λ e. e.item) f, ap (λ e. e.starts) f)
