use Rattle.office_desk.proofs.desk.perform.Goals as goal

pub returns-in-Load : goal.returns-in-Load
returns-in-Load g c = rw c.in-Load.is (c.load.ensures c.args.caller)

pub returns-in-Instance : goal.returns-in-Instance
returns-in-Instance g c = rw c.in-Instance.is (c.instance.ensures c.args.caller)

pub returns-in-SetOwner : goal.returns-in-SetOwner
returns-in-SetOwner g c = rw c.in-SetOwner.is (c.set_owner.ensures c.args.caller)

pub returns-in-NewDraft : goal.returns-in-NewDraft
returns-in-NewDraft g c = rw c.in-NewDraft.is (c.new_draft.ensures c.args.caller)

pub returns-in-Draft : goal.returns-in-Draft
returns-in-Draft g c = rw c.in-Draft.is (c.draft.ensures c.args.caller)

pub returns-in-DraftPenalty : goal.returns-in-DraftPenalty
returns-in-DraftPenalty g c = rw c.in-DraftPenalty.is (c.penalty.ensures c.args.caller)

pub returns-in-DraftViolations : goal.returns-in-DraftViolations
returns-in-DraftViolations g c = rw c.in-DraftViolations.is (c.violations.ensures c.args.caller)

pub returns-in-DraftPlaces : goal.returns-in-DraftPlaces
returns-in-DraftPlaces g c = rw c.in-DraftPlaces.is (c.places.ensures c.args.caller)

pub returns-in-DropDraft : goal.returns-in-DropDraft
returns-in-DropDraft g c = rw c.in-DropDraft.is (c.drop_draft.ensures c.args.caller)

pub returns-in-Publish : goal.returns-in-Publish
returns-in-Publish g c = rw c.in-Publish.is (c.publish.ensures c.args.caller)

pub returns-in-Publication : goal.returns-in-Publication
returns-in-Publication g c = rw c.in-Publication.is (c.publication.ensures c.args.caller)

pub returns-in-PublicationPenalty : goal.returns-in-PublicationPenalty
returns-in-PublicationPenalty g c = rw c.in-PublicationPenalty.is (c.publication_penalty.ensures c.args.caller)

pub returns-in-PublicationRooms : goal.returns-in-PublicationRooms
returns-in-PublicationRooms g c = rw c.in-PublicationRooms.is (c.publication_rooms.ensures c.args.caller)

pub returns-in-PublicationSeats : goal.returns-in-PublicationSeats
returns-in-PublicationSeats g c = rw c.in-PublicationSeats.is (c.publication_seats.ensures c.args.caller)

pub returns-in-Batch : goal.returns-in-Batch
returns-in-Batch g c = rw c.in-Batch.is (c.enrol_batch.ensures c.args.caller)

pub returns-in-Clear : goal.returns-in-Clear
returns-in-Clear g c = rw c.in-Clear.is c.edit-in-Clear.ensures

pub returns-in-Swap : goal.returns-in-Swap
returns-in-Swap g c = rw c.in-Swap.is c.edit-in-Swap.ensures

pub returns-in_ok-place-in-Place : goal.returns-in_ok-place-in-Place
returns-in_ok-place-in-Place g c = rw (c.in-Place.is, c.in_ok-place-in-Place.ensures) c.edit.ensures

pub returns-in_ok-place-in-Move : goal.returns-in_ok-place-in-Move
returns-in_ok-place-in-Move g c = rw (c.in-Move.is, c.in_ok-place-in-Move.ensures) c.edit-in-Move.ensures
