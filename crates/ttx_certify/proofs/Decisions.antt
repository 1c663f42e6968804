-- Decidable facts: each is true or refuted. Equality of the contents of pages and packets, searches below a number, and items by their
-- numbers.
use Rattle.std.proofs.Common.{◌≡◌, ℕ, zero, suc, ◌<◌, false, List, [], ◌∷◌, Option, Some, None, refl, ap, subst, inl, inr, arith}
use Rattle.std.proofs.lemmas.Bool.{cases_lt, cases_eq}
use Rattle.ttx_header.specs.Ids.{Id}
use Rattle.ttx_links.specs.Sets.{LinkSet}
use Rattle.ttx_page.specs.Packets.{Packet, Empty, Unreadable, Header, Row, Links, Info, Other}
use Rattle.ttx_page.specs.Pages.{Page, IsAlone, IsBlank, is_other_subpage}
use Rattle.ttx_page.specs.declared.class.Class.{Class}
use Rattle.ttx_page.specs.declared.class.Class.TheVariants.{Any, Clearing}
use Rattle.ttx_page.specs.declared.item.Item.{Item}
use Rattle.ttx_page.specs.declared.item.Item.TheVariants.{Head as TheHead, Row as TheRow, Links as TheLinks}
pub use Rattle.ttx_page.proofs.Decisions.{Decided, both, same_bool, same_option, same_list}
use Rattle.ttx_page.specs.Steady.{IsLikeHead, HeadIsRight, RowIsRight, LinksAreRight}
use Rattle.ttx_witness.specs.sent.Collected.{item_number, IsItem}
use Rattle.ttx_certify.specs.walks.PageFacts.{FirstBelow}

pub refuted : {P : Type 0} → Decided P → Decided (P → ⊥)
refuted (inl p) = inr (λ n. n p)
refuted (inr n) = inl n

pub alike : {P Q : Type 0} → (P → Q) → (Q → P) → Decided P → Decided Q
alike f g (inl p) = inl (f p)
alike f g (inr n) = inr (λ q. n (g q))

pub same_nat : (a b : ℕ) → Decided (a ≡ b)
same_nat a b = cases_eq a b

pub same_numbers : (a b : List ℕ) → Decided (a ≡ b)
same_numbers = same_list same_nat

pub same_id : (a b : Id) → Decided (a ≡ b)
same_id a b = elim (both (same_nat a.mag b.mag) (both (same_nat a.page b.page) (same_nat a.sub b.sub))) as (λ _. Decided (a ≡ b)) [
  | inl e ↦ let m = e.0 in let n = e.1.0 in let k = e.1.1 in inl (λ i. record { mag = m i; page = n i; sub = k i })
  | inr ne ↦ inr (λ e. ne (ap (λ x. x.mag) e, (ap (λ x. x.page) e, ap (λ x. x.sub) e)))
]

pub same_links : (a b : LinkSet) → Decided (a ≡ b)
same_links a b = elim (both (same_list (same_option same_id) a.six b.six) (same_bool a.show24 b.show24)) as (λ _. Decided (a ≡ b)) [
  | inl e ↦ let m = e.0 in let n = e.1 in inl (λ i. record { six = m i; show24 = n i })
  | inr ne ↦ inr (λ e. ne (ap (λ x. x.six) e, ap (λ x. x.show24) e))
]

pub same_class : (a b : Class) → Decided (a ≡ b)
same_class Any Any = inl refl
same_class Clearing Clearing = inl refl
same_class Any Clearing = inr (λ e. cc)
same_class Clearing Any = inr (λ e. cc)

-- the part of a page that a packet sends
pub like_head : (p : Page) (packet : Packet) → Decided (IsLikeHead p packet)
like_head p (Header id control text) = both (same_nat _ _) (same_numbers _ _)
like_head p Empty = inr (λ e. e)
like_head p Unreadable = inr (λ e. e)
like_head p (Row mag number text) = inr (λ e. e)
like_head p (Links mag content) = inr (λ e. e)
like_head p Info = inr (λ e. e)
like_head p Other = inr (λ e. e)

pub head_right : (p : Page) (packet : Packet) → Decided (HeadIsRight p packet)
head_right p (Header id control text) = both (same_nat _ _) (same_numbers _ _)
head_right p Empty = inr (λ e. e)
head_right p Unreadable = inr (λ e. e)
head_right p (Row mag number text) = inr (λ e. e)
head_right p (Links mag content) = inr (λ e. e)
head_right p Info = inr (λ e. e)
head_right p Other = inr (λ e. e)

pub row_right : (p : Page) (r : ℕ) (packet : Packet) → Decided (RowIsRight p r packet)
row_right p r (Row mag number text) = same_numbers _ _
row_right p r Empty = inr (λ e. e)
row_right p r Unreadable = inr (λ e. e)
row_right p r (Header id control text) = inr (λ e. e)
row_right p r (Links mag content) = inr (λ e. e)
row_right p r Info = inr (λ e. e)
row_right p r Other = inr (λ e. e)

pub links_right : (p : Page) (slot : List ℕ) (packet : Packet) → Decided (LinksAreRight p slot packet)
links_right p slot (Links mag content) = both (same_bool _ _) (same_option same_links _ _)
links_right p slot Empty = inr (λ e. e)
links_right p slot Unreadable = inr (λ e. e)
links_right p slot (Header id control text) = inr (λ e. e)
links_right p slot (Row mag number text) = inr (λ e. e)
links_right p slot Info = inr (λ e. e)
links_right p slot Other = inr (λ e. e)

-- the contents of an authored page
pub blank : (p : Page) (item : Item) → Decided (IsBlank p item)
blank p TheHead = inr (λ e. e)
blank p (TheRow number) = same_numbers _ _
blank p TheLinks = same_links _ _

pub alone : (pages : List Page) (p : Page) → Decided (IsAlone pages p)
alone [] p = inl (λ n q e. cc)
alone (x ∷ xs) p = elim (both (same_bool (is_other_subpage p x) false) (alone xs p)) as (λ _. Decided (IsAlone (x ∷ xs) p)) [
  | inl e ↦ inl (rest e.0 e.1)
  | inr ne ↦ inr (λ a. ne (a 0 x refl, λ n q here. a (suc n) q here))
]
  where
    rest : is_other_subpage p x ≡ false → IsAlone xs p → IsAlone (x ∷ xs) p
    rest first others zero q e = let same : x ≡ q = cc in subst (λ y. is_other_subpage p y ≡ false) same first
    rest first others (suc n) q e = others n q e

-- the first number below n with a property
pub least_below : (P : ℕ → Type 0) (n : ℕ) → ((i : ℕ) → i < n → Decided (P i)) → (first : Option ℕ) × FirstBelow P n first
least_below P zero each = (None, λ i lt p. absurd (omega arith))
least_below P (suc n) each =
    let before = least_below P n (λ i lt. each i (omega arith)) in
    more before.0 before.1
  where
    more : (first : Option ℕ) → FirstBelow P n first → (first : Option ℕ) × FirstBelow P (suc n) first
    more (Some j) f = (Some j, (let lt = f.0 in omega arith, f.1, f.2))
    more None none = elim (each n (omega arith)) as (λ _. (first : Option ℕ) × FirstBelow P (suc n) first) [
      | inl here ↦ (Some n, (omega arith, here, none))
      | inr not ↦ (
        None,
        λ i lt p. elim (cases_lt i n) as
            (λ _. ⊥) [ inl less ↦ none i less p | inr ge ↦ let e : i ≡ n = omega arith in not (subst P e p) ],
      )
    ]

-- some number below n has the property, or none has
pub any_below : (P : ℕ → Type 0) (n : ℕ) → ((i : ℕ) → i < n → Decided (P i)) → Decided ((i : ℕ) × (i < n) × P i)
any_below P n each = let r = least_below P n each in told r.0 r.1
  where
    told : (first : Option ℕ) → FirstBelow P n first → Decided ((i : ℕ) × (i < n) × P i)
    told (Some j) f = inl (j, f.0, f.1)
    told None none = inr (λ h. none h.0 h.1 h.2)

-- the items of a page by their numbers
pub item_with : (number : ℕ) → number < 26 → (item : Item) × IsItem item × (item_number item ≡ number)
item_with number lt = elim (cases_lt number 1) as (λ _. (item : Item) × IsItem item × (item_number item ≡ number)) [
  | inl first ↦ (TheHead, tt, omega arith)
  | inr later ↦ elim (cases_lt number 25) as (λ _. (item : Item) × IsItem item × (item_number item ≡ number)) [
    | inl less ↦ (TheRow number, (omega arith, omega arith), refl)
    | inr last ↦ (TheLinks, tt, omega arith)
  ]
]
