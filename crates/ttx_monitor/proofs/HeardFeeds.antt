-- A feed that is heard slot by slot, and its bytes.
use Rattle.std.proofs.Common.{◌≡◌, ℕ, List, [], ◌∷◌, ◌++◌, length, All, Option, Some, None, IfSome, Result, Ok, Err, IfOk}
use Rattle.std.proofs.Common.{refl, sym, ap, ◌∙◌, subst, inl, inr, arith, append-nil}
use Rattle.std.specs.Io.KnownBytes.{Consumes}
use Rattle.std.proofs.lemmas.Grind.{flat_map-append}
use Rattle.ttx_packet.specs.Slots.{IsSlot}
use Rattle.ttx_cycle.specs.Files.{file_of}
use Rattle.ttx_files.specs.Feeds.{IsRead}
use Rattle.ttx_monitor.specs.Waiting.{waiting, IsBehind, IsLeft}
use Rattle.ttx_monitor.specs.FirstPeriods.{IsFirstPeriod}
use Rattle.ttx_monitor.specs.FeedVerdicts.{IsFoundIn, StartsAt, BeginsAt, start_of, IsVerdictOf, IsFeedVerdict}
use Rattle.ttx_page.specs.Pages.{Page}
use Rattle.ttx_witness.specs.Coverage.{Certificate}
use Rattle.ttx_monitor.specs.declared.ahead.Ahead.{Ahead}
use Rattle.ttx_monitor.specs.declared.verdict.FeedVerdict.{FeedVerdict}
use Rattle.ttx_monitor.specs.declared.verdict.FeedVerdict.TheVariants.{Unlike, Yes, No, Shifted}
use Rattle.ttx_monitor.specs.declared.feed_verdict.Heard.{Heard}
use Rattle.ttx_files.specs.declared.faults.FeedFault.{FeedFault}

pub file_more : (xs : List (List ℕ)) (z : List ℕ) → file_of xs ++ z ≡ file_of (xs ++ z ∷ [])
file_more xs z = sym (flat_map-append (λ slot. slot) xs (z ∷ []) ∙ ap (λ l. file_of xs ++ l) (append-nil z))

-- what is left of known bytes
left : (P : List ℕ → Type 0) (a b : Option (List ℕ)) (bs : List ℕ) → Consumes a b bs → ((ys : List ℕ) → b ≡ Some ys → P (bs ++ ys)) → IfSome a P
left P None b bs c f = tt
left P (Some xs) None bs c f = absurd c
left P (Some xs) (Some ys) bs c f = subst P (sym c) (f ys refl)

known : (P : List ℕ → Type 0) (b : Option (List ℕ)) (ys : List ℕ) → b ≡ Some ys → IfSome b P → P ys
known P b ys e h = subst (λ o. IfSome o P) e h

-- the first period
pub first_period : (cycle : List (List ℕ)) (old new : Option (List ℕ)) (slots : List (List ℕ)) (end : Option ℕ) → All IsSlot slots →
    IsRead (length cycle) old new slots end → IfSome old (λ bytes. IsFirstPeriod cycle bytes slots)
first_period cycle old new slots None each read = left _ old new (file_of slots) read.0 (λ ys e. record {
  rest = ys;
  same = refl;
  each = each;
  few = let c = read.1 in omega arith;
  whole = inl read.1;
})
first_period cycle old new slots (Some rest) each read = left _ old read.2.0 (file_of slots) read.2.1 (λ ys e. record {
  rest = ys;
  same = refl;
  each = each;
  few = let few = read.0 in omega arith;
  whole = inr (let size = known _ read.2.0 ys e read.2.2 in let few = read.1 in omega arith);
})

pub begins : (cycle : List (List ℕ)) (head : List (List ℕ)) (named : Option ℕ) (start : ℕ) (bytes : List ℕ) → StartsAt cycle head named start →
    IsFirstPeriod cycle bytes head → BeginsAt cycle bytes named start
begins cycle head None start bytes best period = (head, period, best)
begins cycle head (Some named) start bytes same period = same

-- what was read first waits
pub first_left : (most : ℕ) (old new : Option (List ℕ)) (slots : List (List ℕ)) (end : Option ℕ) → All IsSlot slots → IsRead most old new slots end →
    (a : Ahead) → waiting a ≡ slots → a.end ≡ end → IfSome old (λ bytes. IsLeft a new bytes)
first_left most old new slots None each read a is none = left _ old new (file_of slots) read.0 (λ ys e. record {
  behind = ys;
  same = ap (λ l. file_of l ++ ys) (sym is);
  each = subst (All IsSlot) (sym is) each;
  is_behind = subst (λ o. IsBehind o new ys) (sym none) e;
})
first_left most old new slots (Some rest) each read a is some = left _ old read.2.0 (file_of slots) read.2.1 (λ ys e. record {
  behind = ys;
  same = ap (λ l. file_of l ++ ys) (sym is);
  each = subst (All IsSlot) (sym is) each;
  is_behind = subst (λ o. IsBehind o new ys) (sym some) (read.1, known _ read.2.0 ys e read.2.2);
})

pub if_both : (P Q R : List ℕ → Type 0) (o : Option (List ℕ)) → ((x : List ℕ) → P x → Q x → R x) → IfSome o P → IfSome o Q → IfSome o R
if_both P Q R None f p q = tt
if_both P Q R (Some x) f p q = f x p q

pub if_known : (P Q : List ℕ → Type 0) (o : Option (List ℕ)) → ((x : List ℕ) → P x → Q x) → IfSome o P → IfSome o Q
if_known P Q None f p = tt
if_known P Q (Some x) f p = f x p

-- the verdict on a feed of packets
pub judged : (cycle : List (List ℕ)) (pages : List Page) (c : Certificate) (named : Option ℕ) (bytes : List ℕ) (verdict : FeedVerdict) →
    IsFoundIn cycle bytes None → BeginsAt cycle bytes named (start_of verdict) → IsVerdictOf cycle pages c bytes verdict →
    IsFeedVerdict cycle pages c named bytes verdict
judged cycle pages c named bytes (Unlike unlike) found begins is = absurd is
judged cycle pages c named bytes (Yes start slots wrong streak rest) found begins is = (found, begins, is)
judged cycle pages c named bytes (No start slot breach) found begins is = (found, begins, is)
judged cycle pages c named bytes (Shifted start slot by count) found begins is = (found, begins, is)
