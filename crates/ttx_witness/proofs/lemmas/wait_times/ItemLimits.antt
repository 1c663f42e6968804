-- The items of a page by their least limits, one more at a time.
use Rattle.std.proofs.Common.{◌≡◌, ◌⊎◌, ℕ, ◌+◌, ◌<◌, ◌≤◌, true, false, List, Option, Some, sym, ◌∙◌, subst, inl, inr, arith}
use Rattle.std.proofs.lemmas.Bool.{cases_lt, both_ways}
use Rattle.ttx_page.specs.Pages.{Page, needed}
use Rattle.ttx_page.specs.declared.item.Item.{Item}
use Rattle.ttx_page.specs.declared.class.Class.{Class}
use Rattle.ttx_witness.specs.sent.Collected.{IsItem, item_number}
use Rattle.ttx_witness.specs.wait_times.ItemLimits.{IsOwnDeadline, IsBelow, AllBelow, IsFirstLongest, IsLongest}
use Rattle.ttx_witness.specs.search.Finding.{limit_for, IsLeastField}
use Rattle.ttx_witness.proofs.lemmas.search.DueItems.{item_one}
use Rattle.ttx_witness.proofs.lemmas.search.LeastDeadline.{item_needed}

module _ (cycle : List (List ℕ)) (p : Page) (class : Class) (repeat lines : ℕ) where
  abbrev Below : ℕ → ℕ → Type 0
  Below m bound = AllBelow cycle p class repeat lines m bound

  abbrev Longest : ℕ → ℕ → Item → Type 0
  Longest m deadline item = IsLongest cycle p class repeat lines m deadline item

  below_more : (m a b : ℕ) → a ≤ b → Below m a → Below m b
  below_more m a b le h other seen lt = let o = h other seen lt
      in record { deadline = o.deadline; own = o.own; below = let q = o.below in omega arith }

  -- one more item that is below
  below_one : (m bound : ℕ) (item : Item) → IsItem item → item_number item ≡ m →
      (needed p item ≡ true → IsBelow cycle p class repeat lines item bound) → Below m bound → Below (m + 1) bound
  below_one m bound item is here one h other seen lt =
      elim (cases_lt (item_number other) m) as (λ _. IsBelow cycle p class repeat lines other bound) [
        | inl low ↦ h other seen low
        | inr high ↦
            let same : item ≡ other = item_one item other is (item_needed p other seen) (omega arith) in
            subst (λ x. IsBelow cycle p class repeat lines x bound) same (one (subst (λ x. needed p x ≡ true) (sym same) seen))
      ]

  first_more : (m deadline : ℕ) (item : Item) → (deadline ≡ 0) ⊎ IsFirstLongest cycle p class repeat lines m deadline item →
      (deadline ≡ 0) ⊎ IsFirstLongest cycle p class repeat lines (m + 1) deadline item
  first_more m deadline item (inl e) = inl e
  first_more m deadline item (inr f) = inr (record { seen = f.seen; before = let b = f.before in omega arith; own = f.own; first = f.first })

  module _ (m : ℕ) (item : Item) (is : IsItem item) (here : item_number item ≡ m) (deadline : ℕ) (at : Item)
      (h : IsLongest cycle p class repeat lines m deadline at) where
    -- an item that is not seen
    pub longest_unseen : needed p item ≡ false → IsLongest cycle p class repeat lines (m + 1) deadline at
    longest_unseen unseen = record {
      all = below_one m (deadline + 1) item is here (λ seen. absurd (both_ways (needed p item) unseen seen)) h.all;
      first = first_more m deadline at h.first;
    }

    module _ (own : ℕ) (seen : needed p item ≡ true) (is_own : IsOwnDeadline cycle p class repeat lines item own) where
      -- an item that needs no more fields
      pub longest_kept : own ≤ deadline → IsLongest cycle p class repeat lines (m + 1) deadline at
      longest_kept le = record {
        all = below_one m (deadline + 1) item is here (λ s. record { deadline = own; own = is_own; below = omega arith }) h.all;
        first = first_more m deadline at h.first;
      }

      -- an item that needs more fields
      pub longest_new : deadline < own → IsLongest cycle p class repeat lines (m + 1) own item
      longest_new lt = record {
        all = below_one m (own + 1) item is here (λ s. record { deadline = own; own = is_own; below = omega arith })
            (below_more m (deadline + 1) (own + 1) (omega arith) h.all);
        first = inr (record {
          seen = seen;
          before = omega arith;
          own = is_own;
          first = subst (λ n. AllBelow cycle p class repeat lines n own) (sym here) (below_more m (deadline + 1) own (omega arith) h.all);
        });
      }

pub own_field : (cycle : List (List ℕ)) (p : Page) (class : Class) (repeat lines : ℕ) (item : Item) (least : Option ℕ) (slots own : ℕ) →
    least ≡ limit_for cycle class lines repeat p item → least ≡ Some slots → IsLeastField slots lines (Some own) →
    IsOwnDeadline cycle p class repeat lines item own
own_field cycle p class repeat lines item least slots own is some_slots h = record { limit = slots; is = sym is ∙ some_slots; least = h }
