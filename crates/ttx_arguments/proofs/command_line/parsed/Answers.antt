use Rattle.std.proofs.Common.{◌≡◌, ◌∙◌, ap, sym, subst, map}
use Rattle.clap.specs.Words.{App, app_of, is_simple, is_simple_and_free, subcommand_of, fault_of}
use Rattle.clap.specs.Kinds.{HasKind}
use Rattle.ttx_arguments.specs.Grammar.{ttx_app}
use Rattle.ttx_arguments.proofs.CommandLine.{ttx_is_simple, ttx_is_free, refusal}
use Rattle.ttx_arguments.proofs.command_line.parsed.Goals as goal

pub returns-in-Ok-try_get_matches_from-clause-rows : goal.returns-in-Ok-try_get_matches_from-clause-rows
returns-in-Ok-try_get_matches_from-clause-rows c =
    let app_is : app_of c.in-Ok.command ≡ ttx_app c.args.names = c.in-Ok.ensures.0 in
    (c.in-Ok-try_get_matches_from.ensures.matches (ap is_simple app_is ∙ ttx_is_simple c.args.names)).1
    ∙ ap (λ (a : App). subcommand_of a (map (λ w. w.now) c.args.words.now)) app_is

pub returns-in-Ok-try_get_matches_from-clause-no_fault : goal.returns-in-Ok-try_get_matches_from-clause-no_fault
returns-in-Ok-try_get_matches_from-clause-no_fault c =
    let app_is : app_of c.in-Ok.command ≡ ttx_app c.args.names = c.in-Ok.ensures.0 in
    ap (λ (a : App). fault_of a (map (λ w. w.now) c.args.words.now)) (sym app_is)
    ∙ c.in-Ok-try_get_matches_from.ensures.kinds (ap is_simple_and_free app_is ∙ ttx_is_free c.args.names)

pub returns-in-Err-try_get_matches_from-clause-refused : goal.returns-in-Err-try_get_matches_from-clause-refused
returns-in-Err-try_get_matches_from-clause-refused c =
    let app_is : app_of c.in-Ok.command ≡ ttx_app c.args.names = c.in-Ok.ensures.0 in
    let kinds = c.in-Err-try_get_matches_from.ensures.kinds (ap is_simple_and_free app_is ∙ ttx_is_free c.args.names) in
    refusal c.fault.result c.in-Err-try_get_matches_from.error _ c.fault.ensures
    (subst (λ (a : App). HasKind (fault_of a (map (λ w. w.now) c.args.words.now)) c.in-Err-try_get_matches_from.error) app_is kinds)
