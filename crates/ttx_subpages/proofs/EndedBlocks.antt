-- What is shown while a block comes, and after it: what was shown before, until the page ends; then the page.
use Rattle.std.proofs.Common.{◌≡◌, ◌⊎◌, ℕ, zero, suc, ◌+◌, ◌<◌, ◌≤◌, true, false, not, ◌&&◌, ◌||◌, List, [], ◌∷◌, length, take, refl, sym, ap, ◌∙◌, subst}
use Rattle.std.proofs.Common.{inl, inr, arith}
use Rattle.std.proofs.lemmas.Bool.{and_from, and_left, and_right, not_from_false, both_ways, cases_Bool, cases_lt}
use Rattle.ttx_page.specs.Packets.{Packet, packet_of}
use Rattle.ttx_page.specs.Pages.{Page, selected_mag}
use Rattle.ttx_page.specs.declared.selection.Selection.{Selection}
use Rattle.ttx_page.specs.declared.class.Class.{Class}
use Rattle.ttx_page.specs.declared.class.Class.TheVariants.{Any}
use Rattle.ttx_page.specs.Memories.{Memory, IsMemory}
use Rattle.ttx_page.specs.Receivers.{older, Step, Run}
use Rattle.ttx_page.specs.Streams.{heads, heads_matched, ends_serial}
use Rattle.ttx_receiver.proofs.StepsOverPage.{after_ready}
use Rattle.ttx_late.proofs.StoringSteps.{after_matched}
use Rattle.ttx_late.proofs.GatheredMemories.{matched_number, step_storing, kept_base}
use Rattle.ttx_certify.specs.Seen.{HasView}
use Rattle.ttx_late.specs.LateReceivers.{LateMemory, heads_number, must_show}
use Rattle.ttx_subpages.specs.SeenInTurn.{MayEnd}
use Rattle.ttx_subpages.specs.EndedReceivers.{ends_page, EndedStep, EndedRun}
use Rattle.ttx_subpages.proofs.OneClass.{any_step, former_memory}

-- A slot t places after the page's header: no header of the number; where it may end the page, all has come; and the header that follows stands
-- there if anywhere.
pub record AtPlace (sel : Selection) (Done : ℕ → Type 0) (follower t : ℕ) (pkt : Packet) : Type 0 where
  pub quiet : heads_number sel pkt ≡ false
  pub done : MayEnd (selected_mag sel) pkt → Done t
  pub here : t ≡ follower → heads (selected_mag sel) pkt ≡ true

abbrev pub AtPlaces : Selection → (ℕ → Type 0) → ℕ → ℕ → List (List ℕ) → Type 0
AtPlaces sel Done follower t [] = Unit {0}
AtPlaces sel Done follower t (slot ∷ rest) = AtPlace sel Done follower t (packet_of slot) × AtPlaces sel Done follower (suc t) rest

at_places_take : (sel : Selection) (Done : ℕ → Type 0) (follower t k : ℕ) (rest : List (List ℕ)) → AtPlaces sel Done follower t rest →
    AtPlaces sel Done follower t (take k rest)
at_places_take sel Done follower t zero rest at = tt
at_places_take sel Done follower t (suc k) [] at = tt
at_places_take sel Done follower t (suc k) (slot ∷ rest) at = (at.0, at_places_take sel Done follower (suc t) k rest at.1)

-- the page is being gathered, the header that follows has not come, and what was shown is shown
pub record IsOpen (follower : ℕ) (Kept : Type 0) (old : Memory) (t : ℕ) (d : LateMemory) : Type 0 where
  pub storing : d.gathered.storing ≡ true
  pub same : Kept → d.shown ≡ old
  pub before : t ≤ follower

-- it has ended, and is shown
pub record IsShut (Done : ℕ → Type 0) (p : Page) (t : ℕ) (d : LateMemory) : Type 0 where
  pub idle : d.gathered.storing ≡ false
  pub view : HasView p d.shown
  pub place : ℕ
  pub earlier : place < t
  pub done : Done place

module _ (class : Class) (lines : ℕ) (sel : Selection) where
  -- a step at a slot that is no header of the number is one from what was gathered
  taken : (d new : LateMemory) (slot : List ℕ) → heads_number sel (packet_of slot) ≡ false → EndedStep class lines sel d slot new →
      Step class lines sel d.gathered slot new.gathered
  taken d new slot quiet step = subst (λ base. Step class lines sel base slot new.gathered)
      (kept_base class lines sel d.gathered step.late.base (packet_of slot)
      (and_right d.gathered.storing (heads_number sel (packet_of slot)) quiet) step.late.from)
      step.late.step

  -- where storing ends the slot is a header that ends a page
  ends : (m new : Memory) (slot : List ℕ) → Step class lines sel m slot new → m.storing ≡ true → new.storing ≡ false →
      MayEnd (selected_mag sel) (packet_of slot)
  ends m new slot step st idle = elim (cases_Bool (heads (selected_mag sel) (packet_of slot))) as (λ _. MayEnd (selected_mag sel) (packet_of slot)) [
    | inl head ↦ inl head
    | inr none ↦ elim (cases_Bool (ends_serial (selected_mag sel) (packet_of slot))) as (λ _. MayEnd (selected_mag sel) (packet_of slot)) [
      | inl end ↦ inr end
      | inr on ↦ absurd (both_ways _ (subst (λ x. x.storing ≡ false) step.is idle)
          (after_ready class lines sel step.choice (older m) (packet_of slot) none on st).0)
    ]
  ]

  still : (before after : Memory) (pkt : Packet) → after.storing ≡ true → heads_number sel pkt ≡ false → ends_page sel before after pkt ≡ false
  still before after pkt on quiet = and_right before.storing (not after.storing || heads_number sel pkt)
      (subst (λ b. (not b || heads_number sel pkt) ≡ false) (sym on) quiet)

  must : (before after : Memory) (pkt : Packet) → before.storing ≡ true → after.storing ≡ false → heads_number sel pkt ≡ false →
      must_show sel before after pkt ≡ true
  must before after pkt st idle quiet = and_from (before.storing && not after.storing) (not (heads_number sel pkt))
      (and_from before.storing (not after.storing) st (not_from_false _ idle)) (not_from_false _ quiet)

  module _ (Done : ℕ → Type 0) (more : (t : ℕ) → Done t → Done (suc t)) (follower : ℕ) where
    quiet_run : (rest : List (List ℕ)) (t : ℕ) (d new : LateMemory) → AtPlaces sel Done follower t rest → EndedRun class lines sel d rest new →
        Run Any lines sel d.gathered rest new.gathered
    quiet_run [] t d new at run = ap (λ x. x.gathered) run
    quiet_run (slot ∷ rest) t d new at run = (
      run.0.gathered,
      any_step class lines sel d.gathered run.0.gathered slot (taken d run.0 slot at.0.quiet run.1),
      quiet_run rest (suc t) run.0 new at.1 run.2,
    )

    module _ (p : Page) (Kept : Type 0) (old : Memory) where
      abbrev State : ℕ → LateMemory → Type 0
      State t d = IsOpen follower Kept old t d ⊎ IsShut Done p t d

      -- once all has come, what is gathered has the View
      abbrev Views : ℕ → LateMemory → List (List ℕ) → Type 0
      Views t d rest = (k : ℕ) (x : LateMemory) → k ≤ length rest → EndedRun class lines sel d (take k rest) x → Done (t + k) → HasView p x.gathered

      stays_idle : (t : ℕ) (slot : List ℕ) (d mid : LateMemory) → AtPlace sel Done follower t (packet_of slot) →
          Step class lines sel d.gathered slot mid.gathered → d.gathered.storing ≡ false → mid.gathered.storing ≡ false
      stays_idle t slot d mid at step idle = elim (cases_Bool mid.gathered.storing) as (λ _. mid.gathered.storing ≡ false) [
        | inr off ↦ off
        | inl on ↦ elim (step_storing class lines sel d.gathered mid.gathered slot step on) as (λ _. mid.gathered.storing ≡ false) [
          | inl matched ↦ absurd (both_ways _ at.quiet (matched_number sel (packet_of slot) matched))
          | inr was ↦ absurd (both_ways _ idle was.0)
        ]
      ]

      -- what must be shown has the View
      shows : (t : ℕ) (slot : List ℕ) (rest : List (List ℕ)) (d mid : LateMemory) → AtPlace sel Done follower t (packet_of slot) →
          Views t d (slot ∷ rest) → EndedStep class lines sel d slot mid → d.gathered.storing ≡ true → mid.gathered.storing ≡ false → Done t →
          HasView p mid.shown
      shows t slot rest d mid at views step st idle done =
          let e0 : t ≡ t + 0 = omega arith in
          let e1 : suc t ≡ t + 1 = omega arith in
          let here : HasView p d.gathered = views 0 d (omega arith) refl (subst Done e0 done) in
          let next : HasView p mid.gathered = views 1 mid (omega arith) (mid, step, refl) (subst Done e1 (more t done)) in
          elim step.late.shown as (λ _. HasView p mid.shown) [
            | inl e ↦ subst (HasView p) (sym e) here
            | inr other ↦ elim other as (λ _. HasView p mid.shown) [
              | inl e ↦ subst (HasView p) (sym e) next
              | inr left ↦ absurd (both_ways _ left.1 (must d.gathered mid.gathered (packet_of slot) st idle at.quiet))
            ]
          ]

      not_yet : (t : ℕ) (pkt : Packet) → AtPlace sel Done follower t pkt → heads (selected_mag sel) pkt ≡ false → t ≤ follower → suc t ≤ follower
      not_yet t pkt at none le = elim (cases_lt t follower) as (λ _. suc t ≤ follower) [
        | inl lt ↦ omega arith
        | inr ge ↦ let e : t ≡ follower = omega arith in absurd (both_ways _ none (at.here e))
      ]

      goes_on : (t : ℕ) (slot : List ℕ) (rest : List (List ℕ)) (d mid : LateMemory) → AtPlace sel Done follower t (packet_of slot) →
          Views t d (slot ∷ rest) → EndedStep class lines sel d slot mid → State t d → State (suc t) mid
      goes_on t slot rest d mid at views step (inr shut) = inr (record {
        idle = stays_idle t slot d mid at (taken d mid slot at.quiet step) shut.idle;
        view = subst (HasView p) (sym (step.waits (and_left d.gathered.storing _ shut.idle))) shut.view;
        place = shut.place;
        earlier = let lt = shut.earlier in omega arith;
        done = shut.done;
      })
      goes_on t slot rest d mid at views step (inl yet) =
          let step' = taken d mid slot at.quiet step in
          elim (cases_Bool mid.gathered.storing) as (λ _. State (suc t) mid) [
            | inl on ↦ elim (step_storing class lines sel d.gathered mid.gathered slot step' on) as (λ _. State (suc t) mid) [
              | inl matched ↦ absurd (both_ways _ at.quiet (matched_number sel (packet_of slot) matched))
              | inr was ↦ inl (record {
                storing = on;
                same = λ k. step.waits (still d.gathered mid.gathered (packet_of slot) on at.quiet) ∙ yet.same k;
                before = not_yet t (packet_of slot) at was.1 yet.before;
              })
            ]
            | inr idle ↦
                let done = at.done (ends d.gathered mid.gathered slot step' yet.storing idle) in
                inr (record {
                  idle = idle;
                  view = shows t slot rest d mid at views step yet.storing idle done;
                  place = t;
                  earlier = omega arith;
                  done = done;
                })
          ]

      pub ended : (rest : List (List ℕ)) (t : ℕ) (d new : LateMemory) → AtPlaces sel Done follower t rest → Views t d rest → State t d →
          EndedRun class lines sel d rest new → State (t + length rest) new
      ended [] t d new at views state run =
          let e : t ≡ t + 0 = omega arith in subst (λ n. State n new) e (subst (State t) (sym run) state)
      ended (slot ∷ rest) t d new at views state run =
          let e : suc t + length rest ≡ t + suc (length rest) = omega arith in
          subst (λ n. State n new) e
          (ended rest (suc t) run.0 new at.1
          (λ k x le r done.
          let f : suc t + k ≡ t + suc k = omega arith in
          views (suc k) x (omega arith) (run.0, run.1, r) (subst Done f done))
          (goes_on t slot rest d run.0 at.0 views run.1 state) run.2)

    -- A block from its header on. What is shown is what was shown before, if no page was gathered then; or the page has ended, and is shown.
    pub block_is_shown : (p : Page) (slot : List ℕ) (rest : List (List ℕ)) (d new : LateMemory) → heads_matched sel (packet_of slot) ≡ true →
        1 ≤ follower → AtPlaces sel Done follower 1 rest → ((base : Memory) → IsMemory base → (k : ℕ) (x : Memory) → k ≤ length rest →
        Run Any lines sel base (slot ∷ take k rest) x → Done (1 + k) → HasView p x) →
        IsMemory d.gathered → EndedRun class lines sel d (slot ∷ rest) new →
        IsOpen follower (d.gathered.storing ≡ false) d.shown (1 + length rest) new ⊎ IsShut Done p (1 + length rest) new
    block_is_shown p slot rest d new matched some at view is run =
        let mid = run.0 in
        let step = run.1 in
        let base_is : IsMemory step.late.base = elim step.late.from as (λ _. IsMemory step.late.base) [
          | inl e ↦ subst IsMemory (sym e) is
          | inr f ↦ former_memory class step.late.base f.1
        ] in
        ended p (d.gathered.storing ≡ false) d.shown rest 1 mid new at
        (λ k x le r done. view step.late.base base_is k x.gathered le (
          mid.gathered,
          any_step class lines sel step.late.base mid.gathered slot step.late.step,
          quiet_run (take k rest) 1 mid x (at_places_take sel Done follower 1 k rest at) r,
        ) done)
        (inl (record {
          storing = subst (λ x. x.storing ≡ true) (sym step.late.step.is)
              (after_matched class lines sel step.late.step.choice (older step.late.base) (packet_of slot) matched);
          same = λ off. step.waits (and_left d.gathered.storing _ off);
          before = some;
        }))
        run.2
