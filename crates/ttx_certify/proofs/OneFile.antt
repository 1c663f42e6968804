-- Two readings of one file have the verdict of the file.
use Rattle.std.proofs.Common.{◌≡◌, ℕ, zero, suc, List, [], ◌∷◌, ◌++◌, length, take, drop, refl, sym, ap, ◌∙◌, subst, arith, length-append}
use Rattle.std.specs.List.{All}
use Rattle.std.proofs.Math.Seq.{take-append_seam, drop-append_seam}
use Rattle.ttx_packet.specs.Slots.{IsSlot}
use Rattle.ttx_cycle.specs.Files.{file_of}
use Rattle.ttx_certificate.specs.Entries.{certificate_at}
use Rattle.ttx_source.specs.Services.{pages_of}
use Rattle.ttx_certify.specs.CertifyingPasses.{PassesAreFiles}
use Rattle.ttx_certify.specs.Walking.{IsWalkVerdict}
use Rattle.ttx_certify.proofs.WalkVerdicts.{walked_same}

-- a file holds only one list of slots
pub same_slots : (xs ys : List (List ℕ)) → All IsSlot xs → All IsSlot ys → file_of xs ≡ file_of ys → xs ≡ ys
same_slots [] [] a b e = refl
same_slots [] (y ∷ ys) a b e =
    let size = (b zero [] (omega arith)).size in
    let l = length-append y (file_of ys) in
    let n : 0 ≡ length (y ++ file_of ys) = ap length e in
    absurd (omega arith)
same_slots (x ∷ xs) [] a b e =
    let size = (a zero [] (omega arith)).size in
    let l = length-append x (file_of xs) in
    let n : length (x ++ file_of xs) ≡ 0 = ap length e in
    absurd (omega arith)
same_slots (x ∷ xs) (y ∷ ys) a b e =
    let long : length x ≡ length y = (a zero [] (omega arith)).size ∙ sym (b zero [] (omega arith)).size in
    let first : x ≡ y = sym (take-append_seam x (file_of xs)) ∙ ap (take (length x)) e ∙ ap (λ n. take n (y ++ file_of ys)) long
    ∙ take-append_seam y (file_of ys) in
    let rest : file_of xs ≡ file_of ys = sym (drop-append_seam x (file_of xs)) ∙ ap (drop (length x)) e
    ∙ ap (λ n. drop n (y ++ file_of ys)) long ∙ drop-append_seam y (file_of ys) in
    ap (λ z. z ∷ xs) first ∙ ap (λ zs. y ∷ zs) (same_slots xs ys (λ k d lt. a (suc k) d (omega arith)) (λ k d lt. b (suc k) d (omega arith)) rest)

pub passes_are_files : PassesAreFiles
passes_are_files a c d verdict line h =
    let w = h.walked in
    let pages = pages_of h.service in
    let same = same_slots w.first w.second w.first_is.is_cycle.each w.second_is.is_cycle.each (sym w.first_is.same ∙ w.second_is.same) in
    record {
      slots = w.second;
      service = h.service;
      w = h.w;
      cycle_is = w.second_is;
      service_is = h.service_is;
      certificate_is = h.certificate_is;
      judged = record {
        exact = walked_same w.second (let some = w.second_is.is_cycle.some in omega arith) pages (certificate_at h.w) verdict
            (subst (λ x. IsWalkVerdict x w.second pages (certificate_at h.w) verdict) same w.exact);
        seen = w.seen;
        line_is = h.text_is;
      };
    }
