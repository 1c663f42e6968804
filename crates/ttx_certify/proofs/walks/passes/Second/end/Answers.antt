use Rattle.std.proofs.Common.{◌≡◌, ℕ, ◌≤◌, [], length, slice_get, Some, refl, ap, subst, inl, inr, arith}
use Rattle.std.proofs.lemmas.Bool.{cases_lt}
use Rattle.ttx_page.specs.Pages.{Page}
use Rattle.ttx_certify.specs.walks.Passing.{IsBorneOut, second_pages}
use Rattle.ttx_witness.specs.sent.ItemTransmissions.{entry_owner}
use Rattle.ttx_certify.proofs.walk_lemmas.EndOfList.{empty_is, page_of_id, again, own}
use Rattle.ttx_witness.proofs.SentItems.{ids_are, id_of_page}
use Rattle.ttx_certify.proofs.walk_lemmas.ReturningOwners.{kept_same}
use Rattle.ttx_certify.proofs.walks.passes.Second.end.Goals as goal
use Rattle.ttx_certify.proofs.walks.passes.Second.end.Goals.{then-self-via-then-self, then-self-via-else-self+then-period-eq0}
use Rattle.ttx_certify.proofs.walks.passes.Second.end.Goals.{then-self-via-else-self+else-period-eq0+then-not-is_steady}

pub returns-then-self : goal.returns-then-self
returns-then-self c = λ x y st.
    let walk = c.args.self.walk in
    let not_borne : IsBorneOut x y (second_pages c.args.self) → ⊥ = λ b.
    let v = st.passed b.few in
    elim c.then-self.branch as (λ _. ⊥) [
      | then-self-via-then-self w ↦ (let f = b.few in let o = st.over.0 w.if-self.true in absurd (omega arith))
      | then-self-via-else-self+then-period-eq0 w ↦ (let s = b.some in let k = v.count in let n = w.if-period-eq0.true in absurd (omega arith))
      | then-self-via-else-self+else-period-eq0+then-not-is_steady w ↦
          let yes = c.are_steady-is_steady.ensures.1 (λ i id at.
          let is = ids_are c.pages_keep_their_rules.ensures walk.pages.now i id at in
          let (p, here, own_id) = page_of_id walk.pages.now i id at in
          again c.args.self.entry walk.owners x y i id (v.owners.each i id at is) (st.entry i id at is) walk.count v.count
          (subst (λ q. entry_owner x q ≡ entry_owner y q) own_id (b.owners i p here))) in
          let no_way = w.if-not-is_steady.true in
          absurd cc
    ] in (
      not_borne,
      (λ e. elim (cases_lt 0 (length y)) as (λ _. y ≡ []) [
        | inl some ↦ absurd (not_borne (record {
          some = omega arith;
          few = (let l : length x ≡ length y = ap length e in let f = st.few in omega arith);
          owners = λ i p at. ap (λ z. entry_owner z p.id) e;
        }))
        | inr le ↦ empty_is y (omega arith)
      ]),
    )

pub returns : goal.returns
returns c = λ x y st.
    let walk = c.args.self.walk in
    let short : length y ≤ 65536 = elim (cases_lt 65536 (length y)) as (λ _. length y ≤ 65536)
    [ inl long ↦ (let o = st.over.1 long in let f = c.if-self.false in absurd cc) | inr le ↦ le ] in
    let v = st.passed short in
    let some : 1 ≤ length y = (let k = v.count in let n = c.if-period-eq0.false in omega arith) in
    let steady = c.are_steady-is_steady.ensures.0 c.if-not-is_steady.false in
    let owners : (i : ℕ) (p : Page) → slice_get (second_pages c.args.self) i ≡ Some p → entry_owner x p.id ≡ entry_owner y p.id = λ i p at.
    let at_id = id_of_page walk.pages.now i p at in
    let is = ids_are c.pages_keep_their_rules.ensures walk.pages.now i p.id at_id in
    own c.args.self.entry walk.owners x y i p.id (v.owners.each i p.id at_id is) (st.entry i p.id at_id is) walk.count v.count some
    (steady i p.id at_id) in
    let kept = kept_same walk (entry_owner x) (entry_owner y) y owners v.kept in (
      record { some = some; few = short; owners = owners },
      record {
        cycle = record { some = omega arith; most = short; each = v.slots };
        bad = v.bad;
        subcodes = st.ready.subcodes;
        period = v.count;
        tracks = kept.tracks;
        facts = kept.facts;
        others = kept.others;
      },
      refl,
      refl,
    )
