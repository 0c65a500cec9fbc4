use Rattle.office_requests.proofs.paths.+segment.Given as goal

abbrev pub decreases-segment : goal.decreases-segment
decreases-segment l = l.place
