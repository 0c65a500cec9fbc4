use Rattle.std.proofs.Common.{subst, sym}
use Rattle.sqlite.specs.Held.{state}
use Rattle.office_records.specs.Memory.{HasNoNightWeight}
use Rattle.office_records.proofs.NightRowLemmas.{no_night}
use Rattle.office_store.specs.Running.{MatchesMemory}
use Rattle.office_store.proofs.CommandLemmas.{represented}
use Rattle.office_store.proofs.PublishedReadLemmas.{part_shares_read, student_shares_read}
use Rattle.office_store.proofs.RunLemmas.{at_hand}
use Rattle.office_store.proofs.office.Office.share_rows.Goals as goal

pub returns-clause-rows : goal.returns-clause-rows
returns-clause-rows g c clean office kept =
    let start = c.args.self.now in
    let next = c.in_ok-parts.ensures.leaves in
    let mid = represented next clean office kept in
    let read = c.in_ok-students.ensures.leaves in
    let was = next.clean clean in
    let memory = at_hand (state g.S.Store start) c.self.inside.memory office
    (subst (λ h. MatchesMemory (state g.S.Store h) c.self.inside.memory) c.self.view_is
    c.self.invariant.1)
    (read.clean was) (read.unchanged was (read.all_committed was).0).0
    (represented read was office mid) in
    record {
      of_students = student_shares_read mid.held office c.in_ok-students.students.items
          mid.represents mid.sound
          (c.in_ok-students.ensures.rows was office mid (λ bare.
          no_night mid.held office mid.represents mid.sound
          (subst HasNoNightWeight (sym memory.session)
          (c.has_no_night_weight-without_nights.ensures.0 bare)))).rows;
      of_parts = part_shares_read kept.held office c.in_ok-parts.parts.items kept.represents
          kept.sound (c.in_ok-parts.ensures.rows clean office kept);
    }
