-- The owners before slot 0 are those at the end of the period, one period earlier.
use Rattle.std.proofs.Common.{◌≡◌, ℕ, zero, suc, ◌+◌, ◌<◌, ℤ, pos, ◌+ℤ◌, Bool, true, false, if◌then◌else◌, List, [], ◌∷◌, length, get_or, Option}
use Rattle.std.proofs.Common.{Some, None, refl, sym, ap, ◌∙◌, arith, mod-eq_of_lt}
use Rattle.std.proofs.lemmas.List.{get_or_default}
use Rattle.ttx_header.specs.Ids.{Id}
use Rattle.ttx_page.specs.Packets.{Packet, packet_of}
use Rattle.ttx_page.specs.Streams.{Stream, repeated, heads, heads_page, ends_serial}
use Rattle.ttx_witness.specs.declared.sent.owners.Owner.{Owner}
use Rattle.ttx_witness.specs.sent.ItemTransmissions.{PageOwner, tainted_by, owner_after, owner_scan, owner_moved}

moved_taint : (d : ℤ) (b : Bool) (o : Option PageOwner) → owner_moved d (tainted_by b o) ≡ tainted_by b (owner_moved d o)
moved_taint d b None = refl
moved_taint d b (Some o) = refl

pub moved_after : (d j k : ℤ) (id : Id) (p : Packet) (o : Option PageOwner) → k ≡ j +ℤ d → owner_moved d (owner_after id j p o)
    ≡ owner_after id k p (owner_moved d o)
moved_after d j k id p o e = go (heads id.mag p)
  where
    go : (b : Bool) → owner_moved d
        (if b then Some (record { slot = j; mine = heads_page id p; tainted = false }) else tainted_by (ends_serial id.mag p) o)
        ≡ (if b then Some (record { slot = k; mine = heads_page id p; tainted = false }) else tainted_by (ends_serial id.mag p) (owner_moved d o))
    go true = ap (λ z. Some (record { slot = z; mine = heads_page id p; tainted = false })) (sym e)
    go false = moved_taint d (ends_serial id.mag p) o

-- slot j of a cycle
pub slot_here : (cycle : List (List ℕ)) (j : ℕ) (d : List ℕ) → j < length cycle → repeated cycle (pos j) ≡ get_or cycle j d
slot_here cycle j d lt = ap (λ n. get_or cycle n []) (mod-eq_of_lt lt) ∙ get_or_default cycle j [] d lt

pub scan_moved : (d : ℤ) (id : Id) (s : Stream) (j : ℕ) (k : ℤ) (slot : List ℕ) (old new : Option PageOwner) → k ≡ pos j +ℤ d → s (pos j) ≡ slot →
    new ≡ owner_after id k (packet_of slot) old → old ≡ owner_moved d (owner_scan id s None j) → new ≡ owner_moved d (owner_scan id s None (j + 1))
unfolding owner_scan
scan_moved d id s j k slot old new e f g h =
    g ∙ ap (owner_after id k (packet_of slot)) h ∙ ap (λ x. owner_after id k (packet_of x) (owner_moved d (owner_scan id s None j))) (sym f)
    ∙ sym (moved_after d (pos j) k id (packet_of (s (pos j))) (owner_scan id s None j) e)
    ∙ ap (λ n. owner_moved d (owner_scan id s None n)) (let q : suc j ≡ j + 1 = omega arith in q)

pub scan_none : (d : ℤ) (id : Id) (s : Stream) → None ≡ owner_moved d (owner_scan id s None 0)
unfolding owner_scan
scan_none d id s = refl

pub none_at : (m : ℕ) → get_or {A = Option Owner} (None ∷ None ∷ None ∷ None ∷ None ∷ None ∷ None ∷ None ∷ []) m None ≡ None
none_at zero = refl
none_at (suc zero) = refl
none_at (suc (suc zero)) = refl
none_at (suc (suc (suc zero))) = refl
none_at (suc (suc (suc (suc zero)))) = refl
none_at (suc (suc (suc (suc (suc zero))))) = refl
none_at (suc (suc (suc (suc (suc (suc zero)))))) = refl
none_at (suc (suc (suc (suc (suc (suc (suc zero))))))) = refl
none_at (suc (suc (suc (suc (suc (suc (suc (suc m)))))))) = refl
