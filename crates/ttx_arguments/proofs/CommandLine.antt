-- The program's command line is one whose matches and faults are known exactly, and words without a fault name a command.
use Rattle.std.proofs.Common.{◌≡◌, ◌≢◌, ap, Result, Ok, Err, List, [], ◌∷◌, length, codes, inl, inr, true, false, refl, sym, subst, Bool, ◌&&◌}
use Rattle.std.proofs.Common.{not, is_some, arith}
use Rattle.std.specs.List.{list_any}
use Rattle.clap.specs.Words.{App, Shape, Text, built, is_simple, is_simple_and_free, kind_of, subcommand_of, fault_of}
use Rattle.clap.specs.Walk as walk_words
use Rattle.clap.specs.Walk.{Held, walk, walk_from, settled, finished, nothing_held}
use Rattle.clap.specs.Faults.{level_fault, walk_fault, settle_fault, defaults_fault, check_fault, entered_fault}
use Rattle.clap.specs.Takes.{is_given}
use Rattle.clap.specs.Facts.{explicit_source}
use Rattle.clap.specs.Simple.{argument_words, entered, names_of}
use Rattle.clap.specs.Kinds.{Kinds, HasKind, IsAmong, or_else, check_kinds}
use Rattle.clap.specs.declared.error.Error.{Error}
use Rattle.clap.specs.declared.error.kind.ErrorKind.{ErrorKind}
use Rattle.clap.specs.declared.error.kind.ErrorKind.TheVariants.{OutOfMemory, DisplayVersion}
use Rattle.ttx_arguments.specs.Grammar.{ttx_app}
use Rattle.ttx_arguments.specs.declared.grammar.Names.{Names}
use Rattle.ttx_arguments.specs.Orders.{OrderView, Unfit, inspect_order, version_order, order_view, Asks, AsksByCommand, Refuses, IsOrderOf, IsRefusalOf}
use Rattle.ttx_arguments.specs.Orders.{AnswersBy, IsFaultOf, IsSettled}
use Rattle.ttx_arguments.specs.declared.orders.Order.{Order}
use Rattle.ttx_arguments.specs.declared.orders.WordsFault.{WordsFault}
use Rattle.ttx_arguments.specs.declared.orders.WordsFault.TheVariants.{Refused, Page, Time, Seconds, Deadlines, Within, Numbers, Clocks, Twice, NoMemory, Apart, Forms}

pub ttx_is_simple : (names : Names) → is_simple (ttx_app names) ≡ true
unfolding ttx_app
ttx_is_simple names = refl

pub ttx_is_free : (names : Names) → is_simple_and_free (ttx_app names) ≡ true
unfolding ttx_app
ttx_is_free names = refl

-- an error that isn't of memory has one of the kinds
pub among_kinds : (kinds : Kinds) (e : Error) → (kind_of e ≡ OutOfMemory → ⊥) → HasKind kinds e → IsAmong (kind_of e) kinds
among_kinds kinds e other h = elim h [ inl m ↦ absurd (other m) | inr a ↦ a ]

-- such an error as a refusal of words
pub refusal : (fault : WordsFault) (e : Error) (kinds : Kinds) → IsFaultOf fault e → HasKind kinds e → IsRefusalOf fault kinds
refusal (Refused error) e kinds f h = subst (λ (x : Error). IsAmong (kind_of x) kinds) (sym f.0) (among_kinds kinds e f.1 h)
refusal Page e kinds f h = f
refusal Time e kinds f h = f
refusal Seconds e kinds f h = f
refusal Deadlines e kinds f h = f
refusal Within e kinds f h = f
refusal Numbers e kinds f h = f
refusal Clocks e kinds f h = f
refusal Twice e kinds f h = f
refusal (Apart conflict) e kinds f h = f
refusal Forms e kinds f h = f
refusal NoMemory e kinds f h = tt

-- no words ask for `inspect -`
pub no_words : (app : App) (words : List Text) → length words ≡ 0 → Asks app words (Ok (inspect_order (codes "-")))
unfolding Asks
no_words app [] h = refl
no_words app (word ∷ words) h = absurd (omega (arith, h))

-- what some words ask for, and that they are refused
asked : (app : App) (words : List Text) (answer : Result OrderView Unfit) → length words ≢ 0 → AsksByCommand app words answer → Asks app words answer
unfolding Asks
asked app [] answer some by = absurd (some refl)
asked app (word ∷ words) answer some by = inl by

version_asked : (app : App) (words : List Text) (order : Order) → length words ≢ 0 → IsAmong DisplayVersion (fault_of app words) →
    order_view order ≡ version_order → Asks app words (Ok (order_view order))
unfolding Asks
version_asked app [] order some among is = absurd (some refl)
version_asked app (word ∷ words) order some among is = inr (among, ap Ok is)

refuses : (app : App) (words : List Text) (error : Error) → length words ≢ 0 → IsAmong (kind_of error) (fault_of app words) →
    (kind_of error ≢ DisplayVersion) → Refuses app words error
unfolding Refuses
refuses app [] error some among other = absurd (some refl)
refuses app (word ∷ words) error some among other = (among, other)

pub answered : (app : App) (words : List Text) (answer : Result OrderView Unfit) (result : Result Order WordsFault) → length words ≢ 0 →
    AsksByCommand app words answer → IsOrderOf result answer → AnswersBy app words result
answered app words answer (Ok order) some by is = asked app words _ some (subst (λ (a : Result OrderView Unfit). AsksByCommand app words a) is by)
answered app words answer (Err Page) some by is = asked app words _ some (subst (λ (a : Result OrderView Unfit). AsksByCommand app words a) is by)
answered app words answer (Err Time) some by is = asked app words _ some (subst (λ (a : Result OrderView Unfit). AsksByCommand app words a) is by)
answered app words answer (Err Seconds) some by is = asked app words _ some (subst (λ (a : Result OrderView Unfit). AsksByCommand app words a) is by)
answered app words answer (Err Deadlines) some by is = asked app words _ some (subst (λ (a : Result OrderView Unfit). AsksByCommand app words a) is by)
answered app words answer (Err Within) some by is = asked app words _ some (subst (λ (a : Result OrderView Unfit). AsksByCommand app words a) is by)
answered app words answer (Err Numbers) some by is = asked app words _ some (subst (λ (a : Result OrderView Unfit). AsksByCommand app words a) is by)
answered app words answer (Err Clocks) some by is = asked app words _ some (subst (λ (a : Result OrderView Unfit). AsksByCommand app words a) is by)
answered app words answer (Err Twice) some by is = asked app words _ some (subst (λ (a : Result OrderView Unfit). AsksByCommand app words a) is by)
answered app words answer (Err (Apart conflict)) some by is = asked app words _ some (subst (λ (a : Result OrderView Unfit). AsksByCommand app words a) is by)
answered app words answer (Err Forms) some by is = asked app words _ some (subst (λ (a : Result OrderView Unfit). AsksByCommand app words a) is by)
answered app words answer (Err (Refused error)) some by is = absurd is
answered app words answer (Err NoMemory) some by is = absurd is

pub refused : (app : App) (words : List Text) (fault : WordsFault) (result : Result Order WordsFault) → length words ≢ 0 →
    IsRefusalOf fault (fault_of app words) → IsSettled fault result → AnswersBy app words result
refused app words (Refused error) (Ok order) some h is =
    version_asked app words order some (subst (λ (k : ErrorKind). IsAmong k (fault_of app words)) is.0 h) is.1
refused app words (Refused error) (Err (Refused e)) some h is =
    subst (λ (x : Error). Refuses app words x) (sym is.0) (refuses app words error some h is.1)
refused app words (Refused error) (Err Page) some h is = absurd is
refused app words (Refused error) (Err Time) some h is = absurd is
refused app words (Refused error) (Err Seconds) some h is = absurd is
refused app words (Refused error) (Err Deadlines) some h is = absurd is
refused app words (Refused error) (Err Within) some h is = absurd is
refused app words (Refused error) (Err Numbers) some h is = absurd is
refused app words (Refused error) (Err Clocks) some h is = absurd is
refused app words (Refused error) (Err Twice) some h is = absurd is
refused app words (Refused error) (Err (Apart conflict)) some h is = absurd is
refused app words (Refused error) (Err Forms) some h is = absurd is
refused app words (Refused error) (Err NoMemory) some h is = absurd is
refused app words Page result some h is = absurd h
refused app words Time result some h is = absurd h
refused app words Seconds result some h is = absurd h
refused app words Deadlines result some h is = absurd h
refused app words Within result some h is = absurd h
refused app words Numbers result some h is = absurd h
refused app words Clocks result some h is = absurd h
refused app words Twice result some h is = absurd h
refused app words (Apart conflict) result some h is = absurd h
refused app words Forms result some h is = absurd h
refused app words NoMemory (Err NoMemory) some h is = tt
refused app words NoMemory (Ok order) some h is = absurd is
refused app words NoMemory (Err (Refused e)) some h is = absurd is
refused app words NoMemory (Err Page) some h is = absurd is
refused app words NoMemory (Err Time) some h is = absurd is
refused app words NoMemory (Err Seconds) some h is = absurd is
refused app words NoMemory (Err Deadlines) some h is = absurd is
refused app words NoMemory (Err Within) some h is = absurd is
refused app words NoMemory (Err Numbers) some h is = absurd is
refused app words NoMemory (Err Clocks) some h is = absurd is
refused app words NoMemory (Err Twice) some h is = absurd is
refused app words NoMemory (Err (Apart conflict)) some h is = absurd is
refused app words NoMemory (Err Forms) some h is = absurd is

-- ---- words without a fault name a command

no_fault : (a b : Kinds) → or_else a b ≡ [] → (a ≡ []) × (b ≡ [])
no_fault [] b h = (refl, h)
no_fault (k ∷ ks) b h = cc

needs_command : (wants_help wants_argument has need : Bool) → need ≡ true → check_kinds wants_help (not has && need) wants_argument ≡ [] → has ≡ true
needs_command wants_help wants_argument true need n h = refl
needs_command true wants_argument false true n h = cc
needs_command false wants_argument false true n h = cc
needs_command wants_help wants_argument false false n h = cc

-- a level that needs a command and has no fault has one
level_has : (s : Shape) (names : walk_words.Names) (h : Held) (words : List Text) (has : Bool) (below : Kinds) → s.subcommand_required ≡ true →
    level_fault s names h words has below ≡ [] → has ≡ true
level_has s names h words has below n fault =
    let end = (walk s.rules names h words).held in
    let one = (no_fault (walk_fault s names (walk_from h) words)
    (or_else below (or_else (settle_fault s.rules s.args_override_self end)
    (or_else (defaults_fault (settled s.rules end).rows s.rules) (check_fault s (finished s.rules end) has)))) fault).1 in
    let two = (no_fault below (or_else (settle_fault s.rules s.args_override_self end)
    (or_else (defaults_fault (settled s.rules end).rows s.rules) (check_fault s (finished s.rules end) has))) one).1 in
    let three = (no_fault (settle_fault s.rules s.args_override_self end)
    (or_else (defaults_fault (settled s.rules end).rows s.rules) (check_fault s (finished s.rules end) has)) two).1 in
    let four = (no_fault (defaults_fault (settled s.rules end).rows s.rules) (check_fault s (finished s.rules end) has) three).1 in
    needs_command (not has && (s.arg_required_else_help && not (list_any (λ r. explicit_source r.source) (finished s.rules end))))
    (not (s.subcommand_negates_reqs && has) && list_any (λ a. a.required && not (is_given a.id (finished s.rules end))) s.rules) has
    s.subcommand_required n four

app_has : (a : App) (ws : List Text) → (built a).top.subcommand_required ≡ true → fault_of a ws ≡ [] → is_some (subcommand_of a ws) ≡ true
app_has a ws n fault =
    let words = argument_words a ws in
    let stop = (walk (built a).top.rules (names_of (built a)) nothing_held words).stopped in
    level_has (built a).top (names_of (built a)) nothing_held words (is_some (entered (built a) stop)) (entered_fault (built a) stop) n fault

needs : (names : Names) → (built (ttx_app names)).top.subcommand_required ≡ true
unfolding ttx_app
needs names = refl

pub has_command : (names : Names) (ws : List Text) → fault_of (ttx_app names) ws ≡ []
    → is_some (subcommand_of (ttx_app names) ws) ≡ true
has_command names ws h = app_has (ttx_app names) ws (needs names) h
