-- The last line of a text, found from the left.
use Rattle.std.proofs.Common.{◌≡◌, ℕ, ◌+◌, ◌≤◌, Bool, true, false, ◌==◌, if◌then◌else◌, List, [], ◌∷◌, drop, refl}
use Rattle.std.specs.List.{list_any}
use Rattle.ttx_places.specs.Positions.{is_line_feed, last_line}
use Rattle.ttx_places.proofs.Columns.{last_whole}

-- the last line of a text that has a line feed; otherwise the line that was begun before
abbrev pub choose : List ℕ → List ℕ → List ℕ
choose begun text = if list_any is_line_feed text then last_line text else begun

whole_by : (text : List ℕ) (any : Bool) → list_any is_line_feed text ≡ any → choose text text ≡ last_line text
whole_by text true any = rw any
whole_by text false none = rw (none, last_whole text none)

pub choose_whole : (text : List ℕ) → choose text text ≡ last_line text
choose_whole text = whole_by text (list_any is_line_feed text) refl

step_by : (begun text : List ℕ) (byte : ℕ) (feed any : Bool) → (byte == 10) ≡ feed → list_any is_line_feed text ≡ any
    → choose (if byte == 10 then text else begun) text ≡ choose begun (byte ∷ text)
step_by begun text byte true true feed any = rw (feed, any)
step_by begun text byte true false feed none = rw (feed, none, last_whole text none)
step_by begun text byte false true other any = rw (other, any)
step_by begun text byte false false other none = rw (other, none)

pub choose_step : (begun text : List ℕ) (byte : ℕ) → choose (if byte == 10 then text else begun) text ≡ choose begun (byte ∷ text)
choose_step begun text byte = step_by begun text byte (byte == 10) (list_any is_line_feed text) refl refl

pub drop_either : (text : List ℕ) (i j : ℕ) (feed : Bool) → drop (if feed then i else j) text ≡ (if feed then drop i text else drop j text)
drop_either text i j true = refl
drop_either text i j false = refl

pub within_either : (i j : ℕ) (n : ℕ) (feed : Bool) → i ≤ n → j ≤ n → (if feed then i else j) ≤ n
within_either i j n true a b = a
within_either i j n false a b = b
