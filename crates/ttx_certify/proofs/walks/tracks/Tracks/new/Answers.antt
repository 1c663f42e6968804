use Rattle.std.proofs.Common.{◌+◌, ◌∷◌, [], suc, zero, sym, subst, ap, ◌∙◌, arith, length, length-append}
use Rattle.std.specs.List.{All}
use Rattle.std.proofs.lemmas.List.Elements.{All-append}
use Rattle.ttx_certify.specs.walks.PackedTracks.{IsUntracked}
use Rattle.ttx_certify.proofs.walks.tracks.Tracks.new.Goals as goal

all_one : {A : Type 0} (P : A → Type 0) (x : A) → P x → All P (x ∷ [])
all_one P x p zero d lt = p
all_one P x p (suc k) d lt = absurd (omega arith)

pub loop-i-preserved : goal.loop-i-preserved
loop-i-preserved c =
    let l = c.loop-i in
    let page = c.in_ok-page.page in
    let more = c.in-Ok-push.ensures.items in
    record {
      count = ap length more ∙ length-append l.each.items (page ∷ []) ∙ ap (λ n. n + 1) l.invariant.count;
      nothing = subst (All (λ page. IsUntracked page.items)) (sym more)
          (All-append (λ page. IsUntracked page.items) l.each.items (page ∷ []) l.invariant.nothing
          (all_one (λ page. IsUntracked page.items) page c.in_ok-page.ensures));
    }
