use Rattle.std.proofs.Common.{Err, ap, sym, ◌∙◌}
use Rattle.judging.specs.declared.checking.Checked.TheVariants.{Trace, Record, Trailer}
use Rattle.judging.specs.Rules.{keeps_record, keeps_trailer, trailer_byte}
use Rattle.judging.specs.Checks.{checked_as, checked_of, stamp_before, record_there}
use Rattle.judging.proofs.Wrongs.{wrong, refused, record_broken, trailer_broken}
use Rattle.judging.proofs.checking.check.Goals as goal

pub fault_at-requires-clause-inside : goal.fault_at-requires-clause-inside
fault_at-requires-clause-inside c =
    (wrong c.args.bytes.now c.in-Record.index
    (sym c.in-Err.ensures.value ∙ ap Err c.in-Record.is)).inside

pub returns-in-Ok-clause-checked : goal.returns-in-Ok-clause-checked
unfolding checked_of
returns-in-Ok-clause-checked c =
    ap Trace c.overview_of.ensures ∙ ap (checked_as c.args.bytes.now) c.in-Ok.ensures.value

pub returns-in-Record-clause-checked : goal.returns-in-Record-clause-checked
unfolding checked_of
returns-in-Record-clause-checked c =
    ap (Record c.in-Record.index) c.fault_at.ensures
    ∙ ap (checked_as c.args.bytes.now) (sym (ap Err c.in-Record.is) ∙ c.in-Err.ensures.value)

pub returns-in-Record-clause-broken : goal.returns-in-Record-clause-broken
returns-in-Record-clause-broken c =
    let bytes = c.args.bytes.now in
    let index = c.in-Record.index in
    let found = wrong bytes index (sym c.in-Err.ensures.value ∙ ap Err c.in-Record.is) in
    let processors = trailer_byte bytes 5 in
    ap (λ fault. keeps_record fault processors (stamp_before bytes index) (record_there bytes index))
    c.fault_at.ensures
    ∙ record_broken processors (stamp_before bytes index) (record_there bytes index) found.long
    found.broken

pub returns-in_default : goal.returns-in_default
unfolding checked_of
returns-in_default c =
    let bytes = c.args.bytes.now in
    let read = c.in-Err.ensures.value in
    let found = refused bytes c.in-Err.refusal (sym read) (λ i e. c.in_default.not-Record i e) in
    record {
      checked =
          ap Trailer c.trailer_fault.ensures
          ∙ ap (checked_as bytes) (sym (ap Err found.1) ∙ read);
      reading = rw (sym (sym (ap Err found.1) ∙ read)) tt;
      broken =
          ap (λ fault. keeps_trailer fault bytes) c.trailer_fault.ensures
          ∙ trailer_broken bytes found.0;
    }
