-- A memory is fresh exactly until a header comes that the selection matches.
use Rattle.std.proofs.Common.{◌≡◌, ◌∙◌, ℕ, Bool, true, false, not, ◌&&◌, ◌||◌, ◌==◌, if◌then◌else◌, List, [], ◌∷◌, Option, Some, None, refl, ap}
use Rattle.ttx_header.specs.Control.{c11}
use Rattle.ttx_links.specs.Sets.{LinkSet}
use Rattle.ttx_page.specs.Memories.{Memory, memory_row}
use Rattle.ttx_page.specs.Packets.{Packet, Header, Row, Links, packet_of}
use Rattle.ttx_page.specs.Pages.{matches, selected_mag}
use Rattle.ttx_page.specs.declared.class.Class.{Class}
use Rattle.ttx_page.specs.declared.selection.Selection.{Selection}
use Rattle.ttx_page.specs.Receivers.{older, erased, begun, erases, misses, with_row, with_storing, with_links, stored_row, after, Run}
use Rattle.ttx_page.specs.Streams.{heads_matched}
use Rattle.ttx_tool.specs.Show.{has_matching_header, stays_fresh}

and_true : (b : Bool) → b ≡ (b && not false)
and_true true = refl
and_true false = refl

and_false : (b : Bool) → false ≡ (b && not true)
and_false true = refl
and_false false = refl

and_not_or : (a b c : Bool) → ((a && not b) && not c) ≡ (a && not (b || c))
and_not_or true true c = refl
and_not_or true false c = refl
and_not_or false b c = refl

either : (b : Bool) (x y : Memory) (fresh : Bool) → x.fresh ≡ fresh → y.fresh ≡ fresh → (if b then x else y).fresh ≡ fresh
either true x y fresh p q = p
either false x y fresh p q = q

matched : (b : Bool) (x y : Memory) (fresh : Bool) → x.fresh ≡ false → y.fresh ≡ fresh → (if b then x else y).fresh ≡ (fresh && not b)
matched true x y fresh p q = p ∙ and_false fresh
matched false x y fresh p q = q ∙ and_true fresh

fresh_links : (m : Memory) (content : Option LinkSet) → (with_links m content).fresh ≡ m.fresh
fresh_links m None = refl
fresh_links m (Some links) = refl

fresh_after : (class : Class) (lines : ℕ) (sel : Selection) (choice : Bool) (m : Memory) (packet : Packet) →
    (after class lines sel choice m packet).fresh ≡ (m.fresh && not (heads_matched sel packet))
fresh_after class lines sel choice m (Header id control text) =
    let kept : Memory = if c11 control && choice then with_storing m false else m in
    let other : Memory = if id.mag == selected_mag sel then with_storing m false else kept in
    matched (matches sel id) (begun (if erases class choice m control then erased m else m) control text) other m.fresh refl
    (either (id.mag == selected_mag sel) (with_storing m false) kept m.fresh refl
    (either (c11 control && choice) (with_storing m false) m m.fresh refl refl))
fresh_after class lines sel choice m (Row mag number text) =
    either ((mag == selected_mag sel) && m.storing && not (misses lines choice m))
    (with_row m number (stored_row (memory_row m number) text)) m m.fresh refl refl
    ∙ and_true m.fresh
fresh_after class lines sel choice m (Links mag content) =
    either ((mag == selected_mag sel) && m.storing && not (misses lines choice m)) (with_links m content) m m.fresh (fresh_links m content) refl
    ∙ and_true m.fresh
fresh_after class lines sel choice m packet = and_true m.fresh

pub fresh_run : (class : Class) (lines : ℕ) (sel : Selection) (m new : Memory) (received : List (List ℕ)) → Run class lines sel m received new →
    new.fresh ≡ stays_fresh sel m received
fresh_run class lines sel m new [] run = ap (λ (x : Memory). x.fresh) run ∙ and_true m.fresh
fresh_run class lines sel m new (slot ∷ rest) run =
    let first : (run.0).fresh ≡ (m.fresh && not (heads_matched sel (packet_of slot))) =
    ap (λ (x : Memory). x.fresh) run.1.is ∙ fresh_after class lines sel run.1.choice (older m) (packet_of slot) in
    fresh_run class lines sel run.0 new rest run.2 ∙ ap (λ b. b && not (has_matching_header sel rest)) first
    ∙ and_not_or m.fresh (heads_matched sel (packet_of slot)) (has_matching_header sel rest)
