use Rattle.std.proofs.Common.{◌≡◌, IfOk, string_bytes, subst}
use Rattle.ttx_check.specs.Spots.{count_words}
use Rattle.ttx_check.proofs.spots.count_text.Goals as goal

pub returns : goal.returns
returns c =
    subst (λ n. IfOk c.count_words.result (λ detail. string_bytes detail ≡ count_words c.args.most n)) c.char_count.ensures c.count_words.ensures
