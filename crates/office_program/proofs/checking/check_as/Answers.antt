use Rattle.office_program.proofs.checking.check_as.Goals as goal

pub returns-in-Why-clause-printed : goal.returns-in-Why-clause-printed
returns-in-Why-clause-printed g c = rw c.in-Why.is c.check.ensures.done

pub returns-in-WhyFor-clause-printed : goal.returns-in-WhyFor-clause-printed
returns-in-WhyFor-clause-printed g c = rw c.in-WhyFor.is c.check-in-WhyFor.ensures.done

pub returns-in-Json-clause-printed : goal.returns-in-Json-clause-printed
returns-in-Json-clause-printed g c = rw c.in-Json.is c.check-in-Json.ensures.done

-- a front of it
pub returns-in-Why-clause-front : goal.returns-in-Why-clause-front
returns-in-Why-clause-front g c = rw c.in-Why.is c.check.ensures.front

pub returns-in-WhyFor-clause-front : goal.returns-in-WhyFor-clause-front
returns-in-WhyFor-clause-front g c = rw c.in-WhyFor.is c.check-in-WhyFor.ensures.front

pub returns-in-Json-clause-front : goal.returns-in-Json-clause-front
returns-in-Json-clause-front g c = rw c.in-Json.is c.check-in-Json.ensures.front
