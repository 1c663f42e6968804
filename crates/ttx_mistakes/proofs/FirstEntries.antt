-- The entries of a text, one after another.
use Rattle.std.proofs.Common.{◌≡◌, ◌∙◌, ◌<◌, ◌++◌, ℕ, zero, suc, Bool, true, false, nat_le, nat_lt, List, [], ◌∷◌, length, ap, sym, refl, arith, append_assoc}
use Rattle.toml_parser.specs.Lexical.{first, skip_blank}
use Rattle.ttx_mistakes.specs.FirstKeys.{GivenKey, token_start, ends_here, depth_after, after_token, entry_end, entry_start, after_entry}
use Rattle.ttx_mistakes.specs.FirstKeys.{entry_path, section_after, given_key, given_keys, inside_after, brackets}

pub entry_stop : (inline : Bool) (m depth : ℕ) (text start : List ℕ) → 0 < m → start ≡ token_start depth text → ends_here inline depth start ≡ true →
    start ≡ entry_end inline m depth text
unfolding entry_end
entry_stop inline zero depth text start some is ends = absurd (omega arith)
entry_stop inline (suc m) depth text start some is ends =
    let here : ends_here inline depth (token_start depth text) ≡ true = sym (ap (ends_here inline depth) is) ∙ ends in
    is ∙ rw here refl

entry_step : (inline : Bool) (n depth : ℕ) (text : List ℕ) → ends_here inline depth (token_start depth text) ≡ false →
    entry_end inline (suc n) depth text ≡ entry_end inline n (depth_after depth (first (token_start depth text))) (after_token (token_start depth text))
unfolding entry_end
entry_step inline n depth text here = rw here refl

pub entry_more : (inline : Bool) (m n depth next : ℕ) (text start rest : List ℕ) → m ≡ suc n → start ≡ token_start depth text →
    ends_here inline depth start ≡ false → next ≡ depth_after depth (first start) → rest ≡ after_token start →
    entry_end inline n next rest ≡ entry_end inline m depth text
entry_more inline m n depth next text start rest count is goes deeper after =
    let token = token_start depth text in
    let here : ends_here inline depth token ≡ false = sym (ap (ends_here inline depth) is) ∙ goes in
    let depth_is : next ≡ depth_after depth (first token) = deeper ∙ ap (λ s. depth_after depth (first s)) is in
    let rest_is : rest ≡ after_token token = after ∙ ap after_token is in
    ap (λ d. entry_end inline n d rest) depth_is ∙ ap (entry_end inline n (depth_after depth (first token))) rest_is
    ∙ sym (entry_step inline n depth text here) ∙ ap (λ k. entry_end inline k depth text) (sym count)

pub entry_out : (inline : Bool) (m depth : ℕ) (text : List ℕ) → m ≡ 0 → entry_end inline m depth text ≡ text
unfolding entry_end
entry_out inline zero depth text none = refl
entry_out inline (suc m) depth text none = absurd (omega arith)

pub keys_stop : (inline : Bool) (stop m : ℕ) (section text start : List ℕ) → start ≡ entry_start text → nat_lt (length start) stop ≡ true →
    given_keys inline stop m section text ≡ []
unfolding given_keys
keys_stop inline stop zero section text start is past = refl
keys_stop inline stop (suc m) section text start is past =
    let here : nat_lt (length (entry_start text)) stop ≡ true = sym (ap (λ s. nat_lt (length s) stop) is) ∙ past in
    rw here refl

pub keys_out : (inline : Bool) (stop m : ℕ) (section text : List ℕ) → m ≡ 0 → given_keys inline stop m section text ≡ []
unfolding given_keys
keys_out inline stop zero section text none = refl
keys_out inline stop (suc m) section text none = absurd (omega arith)

keys_more : (inline : Bool) (stop n : ℕ) (section text : List ℕ) → nat_lt (length (entry_start text)) stop ≡ false →
    given_keys inline stop (suc n) section text
    ≡ given_key section (entry_start text)
    ∷ given_keys inline stop n (section_after section (entry_path section (entry_start text)) (entry_start text)) (after_entry inline (entry_start text))
unfolding given_keys
keys_more inline stop n section text here = rw here refl

pub keys_next : (inline : Bool) (stop m n : ℕ) (before : List GivenKey) (section text start next rest : List ℕ) (k : GivenKey) (all : List GivenKey) →
    m ≡ suc n → start ≡ entry_start text → nat_lt (length start) stop ≡ false → k ≡ given_key section start →
    next ≡ section_after section k.path start → rest ≡ after_entry inline start →
    before ++ given_keys inline stop m section text ≡ all → (before ++ k ∷ []) ++ given_keys inline stop n next rest ≡ all
keys_next inline stop m n before section text start next rest k all count is goes key_is next_is rest_is whole =
    let begun = entry_start text in
    let here : nat_lt (length begun) stop ≡ false = sym (ap (λ s. nat_lt (length s) stop) is) ∙ goes in
    let step = keys_more inline stop n section text here in
    let key_there : k ≡ given_key section begun = key_is ∙ ap (given_key section) is in
    let next_there : next ≡ section_after section (entry_path section begun) begun =
    next_is ∙ ap (λ p. section_after section p start) (ap (λ (g : GivenKey). g.path) key_there) ∙ ap (section_after section (entry_path section begun)) is in
    let rest_there : rest ≡ after_entry inline begun = rest_is ∙ ap (after_entry inline) is in
    let tail_is = ap (λ s. given_keys inline stop n s rest) next_there
    ∙ ap (given_keys inline stop n (section_after section (entry_path section begun) begun)) rest_there in
    append_assoc before (k ∷ []) (given_keys inline stop n next rest)
    ∙ ap (λ them. before ++ them) (ap (λ g. g ∷ given_keys inline stop n next rest) key_there
    ∙ ap (λ them. given_key section begun ∷ them) tail_is ∙ sym step ∙ ap (λ c. given_keys inline stop c section text) (sym count))
    ∙ whole

pub brackets_stop : (wanted stop m depth : ℕ) (inside text start : List ℕ) → start ≡ skip_blank text → nat_le (length start) stop ≡ true →
    brackets wanted stop m depth inside text ≡ (depth, inside)
unfolding brackets
brackets_stop wanted stop zero depth inside text start is past = refl
brackets_stop wanted stop (suc m) depth inside text start is past =
    let here : nat_le (length (skip_blank text)) stop ≡ true = sym (ap (λ s. nat_le (length s) stop) is) ∙ past in
    rw here refl

pub brackets_out : (wanted stop m depth : ℕ) (inside text : List ℕ) → m ≡ 0 → brackets wanted stop m depth inside text ≡ (depth, inside)
unfolding brackets
brackets_out wanted stop zero depth inside text none = refl
brackets_out wanted stop (suc m) depth inside text none = absurd (omega arith)

brackets_step : (wanted stop n depth : ℕ) (inside text : List ℕ) → nat_le (length (skip_blank text)) stop ≡ false →
    brackets wanted stop (suc n) depth inside text
    ≡ brackets wanted stop n (depth_after depth (first (skip_blank text)))
    (inside_after wanted (depth_after depth (first (skip_blank text))) inside (skip_blank text)) (after_token (skip_blank text))
unfolding brackets
brackets_step wanted stop n depth inside text here = rw here refl

pub brackets_more : (wanted stop m n depth next : ℕ) (inside other text start rest : List ℕ) → m ≡ suc n → start ≡ skip_blank text →
    nat_le (length start) stop ≡ false → next ≡ depth_after depth (first start) → other ≡ inside_after wanted next inside start →
    rest ≡ after_token start → brackets wanted stop n next other rest ≡ brackets wanted stop m depth inside text
brackets_more wanted stop m n depth next inside other text start rest count is goes deeper within after =
    let token = skip_blank text in
    let here : nat_le (length token) stop ≡ false = sym (ap (λ s. nat_le (length s) stop) is) ∙ goes in
    let depth_is : next ≡ depth_after depth (first token) = deeper ∙ ap (λ s. depth_after depth (first s)) is in
    let inside_is : other ≡ inside_after wanted (depth_after depth (first token)) inside token =
    within ∙ ap (λ s. inside_after wanted next inside s) is ∙ ap (λ d. inside_after wanted d inside token) depth_is in
    let rest_is : rest ≡ after_token token = after ∙ ap after_token is in
    ap (λ d. brackets wanted stop n d other rest) depth_is
    ∙ ap (λ i. brackets wanted stop n (depth_after depth (first token)) i rest) inside_is
    ∙ ap (brackets wanted stop n (depth_after depth (first token)) (inside_after wanted (depth_after depth (first token)) inside token)) rest_is
    ∙ sym (brackets_step wanted stop n depth inside text here) ∙ ap (λ k. brackets wanted stop k depth inside text) (sym count)
