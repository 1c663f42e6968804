use Rattle.std.proofs.Common.{◌≤◌, subst, sym}
use Rattle.ttx_witness.specs.Coverage.{limit}
use Rattle.ttx_proof.specs.Verdicts.{IsSpliceVerdict}
use Rattle.ttx_proof.specs.declared.verdict.SpliceVerdict.TheVariants.{Yes}
use Rattle.ttx_playout.specs.Schedules.{taken, change}
use Rattle.ttx_playout.specs.Takeovers.{edition_of, IsPlace, HasSent}
use Rattle.ttx_playout.proofs.HandedFurther.{editions_taken, handed_taken, last_taken, sent_taken}
use Rattle.ttx_playout.proofs.SentSoFar.{so_far_taken}
use Rattle.ttx_playout.proofs.SeenWhileOn.{first_is}
use Rattle.ttx_playout.proofs.state.OnAir.take.Goals as goal

pub returns-clause-on_air : goal.returns-clause-on_air
returns-clause-on_air c = λ log first later has.
    let on = has.on_air in
    let next = edition_of c.args.next in
    let last = sym on.current in
    let so_far = so_far_taken c.each_slot_turns.ensures first next later log has.next (first_is first later on.editions).cycle.some
    (subst (λ at. IsPlace first later at has.next) c.requires.time.between has.place) has.is_log in
    subst (λ o. HasSent log o first (taken later next)) (sym c.replace-old.ensures.after) (record {
      on_air = record {
        editions = editions_taken first next later on.editions c.has_ranges.ensures;
        handed = handed_taken first next later c.args.self.now.held on.handed on.sent
            (subst (λ e. limit e.certificate ≤ c.args.self.now.held) last c.requires.time.held) (subst (λ e. IsSpliceVerdict (change e next) Yes) last c.requires.accepted);
        current = last_taken first next later;
        sent = sent_taken next later;
      };
      next = so_far.next;
      place = so_far.place;
      is_log = so_far.is_log;
    })
