use Rattle.std.proofs.Common.{◌≡◌, ◌∙◌, ◌+◌, false, ap, get_or, arith}
use Rattle.std.proofs.lemmas.List.FromFn.{get_or-map-range_with_len}
use Rattle.ttx_author.specs.Signs.{has_character}
use Rattle.ttx_desk.proofs.words.has_option.Goals as goal

pub returns : goal.returns
returns c =
    let same : 0 + c.args.number ≡ c.args.number = omega arith in
    ap (λ options. get_or options c.args.number false) c.options_with.ensures
    ∙ get_or-map-range_with_len (λ option. has_character option c.args.c) 0 8 c.args.number c.args.number false c.requires same
